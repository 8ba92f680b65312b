-- What becomes of a process of a sequential program: by cases on its tree, over what names hold and what came in.
use Rattle.std.specs.Prelude.{ℕ, ℤ, pos, negsuc, ◌+ℤ◌, nat_le, Bool, true, false, List, length, take}
use Rattle.std.specs.Prelude.{if◌then◌else◌, Option, Some, None, option_map, option_and_then, unwrap_or}
use Rattle.occam_layout.specs.declared.mark.Mark.TheVariants as mark
use Rattle.occam_parser.specs.Terminals.{Terminal, Mark}
use Rattle.occam_parser.specs.Lines.{Place, Action, Skip, Stop, Assign, Input, Output, Instance, block_word}
use Rattle.occam_parser.specs.Blocks.{Process, Declared, Does, Construct, Act, Block, Replicated, Body, One, Part}
use Rattle.occam_parser.specs.Blocks.{Components, NoComponent, Further, Component, Plain, Chosen, Guarded}
use Rattle.scalar_ranges.specs.Environments as held
use Rattle.scalar_ranges.specs.Environments.{Environment, item_at}
use Rattle.scalar_ranges.specs.Moves.{outermost}
use Rattle.scalar_ranges.specs.Values.{number_of, truth_of}
use Rattle.program_uses.specs.declared.uses.Direction.{Direction}
use Rattle.program_uses.specs.declared.uses.Direction.TheVariants as direction
use Rattle.program_uses.specs.Indices.{turn_by_turn}
use Rattle.program_uses.specs.Sets.{is_same_way}
use Rattle.program_meaning.specs.Links.{Port, Links, message_length, message_of, received, incoming_at}
use Rattle.program_meaning.specs.Links.{after_reading, after_writing}
use Rattle.program_meaning.specs.Storing.{bind, number_held, declare, stored}

-- What does not change while main runs: which declarations are links, by their numbers, and on which of the four links
-- out something listens.
pub record Surroundings : Type 0 where
  pub ports : List (Option Port)
  pub listens : List Bool

-- What becomes of a process: it goes on, it waits for ever, or something in it has no value.
pub data Outcome : Type 0 where
  Goes : (environment : Environment) → (links : Links) → Outcome
  Waits : (links : Links) → Outcome
  Stuck : Outcome

-- what comes after a process, if that goes on
abbrev pub followed : Outcome → (Environment → Links → Outcome) → Outcome
followed (Goes env l) next = next env l
followed (Waits l) next = Waits l
followed Stuck next = Stuck

-- Scopes are left: as many names are known as before them.
abbrev pub left : ℕ → Outcome → Outcome
left count o = followed o (λ env l. Goes (outermost count env) l)

abbrev pub or_stuck : {A : Type 0} → Option A → (A → Outcome) → Outcome
or_stuck None next = Stuck
or_stuck (Some x) next = next x

-- ---- actions

-- the link that is used in this direction
abbrev pub facing : Direction → Option Port → Option Port
facing way None = None
facing way (Some p) = if is_same_way p.way way then Some p else None

-- The link that a channel is, where it is used in this direction. An element of an array of channels is none.
abbrev pub port_of : List (Option Port) → Environment → Direction → Place → Option Port
port_of ports env way channel = elim channel.subscript [
  | None ↦ facing way (option_and_then (λ n. unwrap_or (item_at n ports) None) (number_held channel.name env))
  | Some e ↦ None
]

-- A message is read whole and then stored. If the link ends before, what is left is read. On a channel that is no link
-- nothing comes.
abbrev pub input : Option Port → Place → Environment → Links → Outcome
input None target env l = Waits l
input (Some p) target env l =
    let unread = (incoming_at p.link l).unread in
    let count = message_length p.carries in
    if nat_le count (length unread)
    then or_stuck (stored env target (received p.carries (take count unread)))
    (λ after. Goes after (after_reading p.link count l))
    else Waits (after_reading p.link (length unread) l)

-- A message is written if something listens. On a channel that is no link nothing does.
abbrev pub output : Surroundings → Option Port → ℤ → Environment → Links → Outcome
output s None v env l = Waits l
output s (Some p) v env l =
    if unwrap_or (item_at p.link s.listens) false
    then Goes env (after_writing p.link (message_of p.carries v) l) else Waits l

abbrev pub act : Surroundings → Action → Environment → Links → Outcome
act s Skip env l = Goes env l
act s Stop env l = Waits l
act s (Assign target value) env l =
    or_stuck (option_and_then (stored env target) (number_of env value)) (λ after. Goes after l)
act s (Input channel target) env l = input (port_of s.ports env direction.Input channel) target env l
act s (Output channel value) env l =
    or_stuck (number_of env value) (λ v. output s (port_of s.ports env direction.Output channel) v env l)
act s (Instance name actuals) env l = Stuck

-- ---- processes

-- how many turns a count is
abbrev pub turns : ℤ → ℕ
turns (pos n) = n
turns (negsuc n) = 0

-- the first choice whose condition holds
abbrev pub or_else : Option Outcome → Option Outcome → Option Outcome
or_else None next = next
or_else (Some o) next = Some o

-- An IF none of whose conditions holds waits for ever.
abbrev pub or_waits : Option Outcome → Links → Outcome
or_waits None l = Waits l
or_waits (Some o) l = o

-- SEQ is all its components, and IF the first choice whose condition holds.
abbrev pub by_word : Terminal → Outcome → Option Outcome → Links → Outcome
by_word (Mark mark.Seq) all first l = all
by_word (Mark mark.If) all first l = or_waits first l
by_word word all first l = Stuck

-- the index of a replicator in the turn with this number
abbrev pub with_index : List ℕ → ℤ → ℕ → Environment → Environment
with_index name base n env = bind name (held.One (base +ℤ pos n)) env

abbrev mutual
  pub run : Surroundings → Process → Environment → Links → Outcome
  run s (Declared d p) env l = or_stuck (declare d env) (λ inner. left (length env) (run s p inner l))
  run s (Does line c) env l = run_construct s c env l

  pub run_construct : Surroundings → Construct → Environment → Links → Outcome
  run_construct s (Act action) env l = act s action env l
  run_construct s (Block kind cs) env l =
      by_word (block_word kind) (run_components s cs env l) (first_true s cs env l) l
  run_construct s (Replicated r b) env l =
      or_stuck (number_of env r.base) (λ base. or_stuck (number_of env r.count) (λ count.
      run_body s b r.name base (turns count) env l))

  -- once for each index from the base on, in turn
  pub run_body : Surroundings → Body → List ℕ → ℤ → ℕ → Environment → Links → Outcome
  run_body s (One kind c) name base count env l =
      by_word (block_word kind)
      (turn_by_turn (λ n o. followed o (λ e m. left (length env) (run_component s c (with_index name base n e) m)))
      count (Goes env l))
      (turn_by_turn (λ n found. or_else found
      (option_map (left (length env)) (choice s c (with_index name base n env) l))) count None)
      l

  -- one after the other
  pub run_components : {part : Part} → Surroundings → Components part → Environment → Links → Outcome
  run_components s NoComponent env l = Goes env l
  run_components s (Further cs c) env l = followed (run_components s cs env l) (run_component s c)

  pub run_component : {part : Part} → Surroundings → Component part → Environment → Links → Outcome
  run_component s (Plain p) env l = run s p env l
  run_component s (Chosen line e p) env l = Stuck
  run_component s (Guarded line g p) env l = Stuck

  -- what becomes of the first choice whose condition holds, if there is one
  pub first_true : {part : Part} → Surroundings → Components part → Environment → Links → Option Outcome
  first_true s NoComponent env l = None
  first_true s (Further cs c) env l = or_else (first_true s cs env l) (choice s c env l)

  pub choice : {part : Part} → Surroundings → Component part → Environment → Links → Option Outcome
  choice s (Plain p) env l = Some Stuck
  choice s (Chosen line e p) env l = elim (truth_of env e) [
    | None ↦ Some Stuck
    | Some true ↦ Some (run s p env l)
    | Some false ↦ None
  ]
  choice s (Guarded line g p) env l = Some Stuck
