-- What a process of a sequential program does, whoever is at the other ends of its links: what it asks for, what it
-- sends, and what it leaves. This is the meaning of `Running` as a finite tree, so that code can be proved against it
-- with no links at hand; what becomes of the tree over links is what becomes of the process.
use Rattle.std.specs.Prelude.{◌≡◌, ℕ, ℤ, nat_le, Bool, true, false, List, length, take, if◌then◌else◌}
use Rattle.std.specs.Prelude.{Option, Some, None, option_map, option_and_then, unwrap_or}
use Rattle.occam_layout.specs.declared.mark.Mark.TheVariants as mark
use Rattle.occam_parser.specs.Terminals.{Terminal, Mark}
use Rattle.occam_parser.specs.Lines.{Place, Action, Skip, Stop, Assign, Input, Output, Instance, block_word}
use Rattle.occam_parser.specs.Blocks.{Process, Declared, Does, Construct, Act, Block, Replicated, Body, One, Part}
use Rattle.occam_parser.specs.Blocks.{Components, NoComponent, Further, Component, Plain, Chosen, Guarded}
use Rattle.scalar_ranges.specs.Environments.{Environment, item_at}
use Rattle.scalar_ranges.specs.Moves.{outermost}
use Rattle.scalar_ranges.specs.Values.{number_of, truth_of}
use Rattle.program_uses.specs.declared.uses.Direction.TheVariants as direction
use Rattle.program_uses.specs.Indices.{turn_by_turn}
use Rattle.program_meaning.specs.Links.{Port, Links, message_length, message_of, received, incoming_at}
use Rattle.program_meaning.specs.Links.{after_reading, after_writing}
use Rattle.program_meaning.specs.Storing.{declare, stored}
use Rattle.program_meaning.specs.Running.{Surroundings, Outcome, Goes, Waits, Stuck, run, port_of, turns}
use Rattle.program_meaning.specs.Running.{with_index}

-- A process leaves names with what they hold, halts for ever, comes to something that has no value, asks for a message
-- and goes on by its bytes, or sends one.
pub data Doing : Type 0 where
  Leaves : (environment : Environment) → Doing
  Halts : Doing
  Fails : Doing
  Asks : (port : Port) → (next : List ℕ → Doing) → Doing
  Sends : (port : Port) → (message : List ℕ) → (next : Doing) → Doing

-- one after the other
abbrev pub doing_then : Doing → (Environment → Doing) → Doing
doing_then (Leaves env) f = f env
doing_then Halts f = Halts
doing_then Fails f = Fails
doing_then (Asks port next) f = Asks port (λ bytes. doing_then (next bytes) f)
doing_then (Sends port message next) f = Sends port message (doing_then next f)

-- Scopes are left: as many names are known as before them.
abbrev pub leaves : ℕ → Doing → Doing
leaves count t = doing_then t (λ env. Leaves (outermost count env))

abbrev pub or_fails : {A : Type 0} → Option A → (A → Doing) → Doing
or_fails None next = Fails
or_fails (Some x) next = next x

-- ---- actions

-- a message is stored in a place
abbrev pub asking : Option Port → Place → Environment → Doing
asking None target env = Halts
asking (Some p) target env = Asks p (λ bytes. or_fails (stored env target (received p.carries bytes)) Leaves)

-- a number is sent as a message
abbrev pub sending : Option Port → ℤ → Environment → Doing
sending None v env = Halts
sending (Some p) v env = Sends p (message_of p.carries v) (Leaves env)

abbrev pub acting : List (Option Port) → Action → Environment → Doing
acting ports Skip env = Leaves env
acting ports Stop env = Halts
acting ports (Assign target value) env =
    or_fails (option_and_then (stored env target) (number_of env value)) Leaves
acting ports (Input channel target) env = asking (port_of ports env direction.Input channel) target env
acting ports (Output channel value) env =
    or_fails (number_of env value) (λ v. sending (port_of ports env direction.Output channel) v env)
acting ports (Instance name actuals) env = Fails

-- ---- processes

-- the first choice whose condition holds
abbrev pub else_doing : Option Doing → Option Doing → Option Doing
else_doing None next = next
else_doing (Some t) next = Some t

-- An IF none of whose conditions holds halts.
abbrev pub or_halts : Option Doing → Doing
or_halts None = Halts
or_halts (Some t) = t

-- SEQ is all its components, and IF the first choice whose condition holds.
abbrev pub doing_by_word : Terminal → Doing → Option Doing → Doing
doing_by_word (Mark mark.Seq) all first = all
doing_by_word (Mark mark.If) all first = or_halts first
doing_by_word word all first = Fails

-- a choice by the truth of its condition, if that has one
abbrev pub chosen : {A : Type 0} → A → A → Option Bool → Option A
chosen fails x None = Some fails
chosen fails x (Some true) = Some x
chosen fails x (Some false) = None

abbrev mutual
  pub doing : List (Option Port) → Process → Environment → Doing
  doing ports (Declared d p) env =
      or_fails (declare d env) (λ inner. leaves (length env) (doing ports p inner))
  doing ports (Does line c) env = doing_construct ports c env

  pub doing_construct : List (Option Port) → Construct → Environment → Doing
  doing_construct ports (Act action) env = acting ports action env
  doing_construct ports (Block kind cs) env =
      doing_by_word (block_word kind) (doing_components ports cs env) (doing_first ports cs env)
  doing_construct ports (Replicated r b) env =
      or_fails (number_of env r.base) (λ base. or_fails (number_of env r.count) (λ count.
      doing_body ports b r.name base (turns count) env))

  -- once for each index from the base on, in turn
  pub doing_body : List (Option Port) → Body → List ℕ → ℤ → ℕ → Environment → Doing
  doing_body ports (One kind c) name base count env =
      doing_by_word (block_word kind)
      (turn_by_turn (λ n t. doing_then t
      (λ e. leaves (length env) (doing_component ports c (with_index name base n e)))) count (Leaves env))
      (turn_by_turn (λ n found. else_doing found
      (option_map (leaves (length env)) (doing_choice ports c (with_index name base n env)))) count None)

  -- one after the other
  pub doing_components : {part : Part} → List (Option Port) → Components part → Environment → Doing
  doing_components ports NoComponent env = Leaves env
  doing_components ports (Further cs c) env = doing_then (doing_components ports cs env) (doing_component ports c)

  pub doing_component : {part : Part} → List (Option Port) → Component part → Environment → Doing
  doing_component ports (Plain p) env = doing ports p env
  doing_component ports (Chosen line e p) env = Fails
  doing_component ports (Guarded line g p) env = Fails

  -- what the first choice whose condition holds does, if there is one
  pub doing_first : {part : Part} → List (Option Port) → Components part → Environment → Option Doing
  doing_first ports NoComponent env = None
  doing_first ports (Further cs c) env = else_doing (doing_first ports cs env) (doing_choice ports c env)

  pub doing_choice : {part : Part} → List (Option Port) → Component part → Environment → Option Doing
  doing_choice ports (Plain p) env = Some Fails
  doing_choice ports (Chosen line e p) env = chosen Fails (doing ports p env) (truth_of env e)
  doing_choice ports (Guarded line g p) env = Some Fails

-- ---- over links

-- What becomes of it over links, out of which something listens on some: a message that does not come whole is read as
-- far as it comes, and one to which nothing listens waits.
abbrev pub over_links : List Bool → Doing → Links → Outcome
over_links listens (Leaves env) l = Goes env l
over_links listens Halts l = Waits l
over_links listens Fails l = Stuck
over_links listens (Asks port next) l =
    let unread = (incoming_at port.link l).unread in
    let count = message_length port.carries in
    if nat_le count (length unread)
    then over_links listens (next (take count unread)) (after_reading port.link count l)
    else Waits (after_reading port.link (length unread) l)
over_links listens (Sends port message next) l =
    if unwrap_or (item_at port.link listens) false
    then over_links listens next (after_writing port.link message l) else Waits l

-- What a process does, over links, is what becomes of it.
abbrev pub DoingIsRunning : Type 0
DoingIsRunning = (s : Surroundings) (p : Process) (env : Environment) (l : Links)
    → run s p env l ≡ over_links s.listens (doing s.ports p env) l

-- ---- however it goes on

-- Nothing fails, and something holds of whatever is left, whatever the bytes are that come.
abbrev pub AllWell : (Environment → Type 0) → Doing → Type 0
AllWell Holds (Leaves env) = Holds env
AllWell Holds Halts = Unit {0}
AllWell Holds Fails = ⊥
AllWell Holds (Asks port next) =
    (bytes : List ℕ) → length bytes ≡ message_length port.carries → AllWell Holds (next bytes)
AllWell Holds (Sends port message next) = AllWell Holds next
