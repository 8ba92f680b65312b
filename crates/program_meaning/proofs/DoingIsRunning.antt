-- What a process does, over links, is what becomes of it: by the cases of both definitions.
use Rattle.std.proofs.Common.{◌≡◌, ℕ, zero, suc, ℤ, Bool, true, false, cond, List, length, take}
use Rattle.std.proofs.Common.{Option, Some, None, refl, sym, ap, ◌∙◌}
use Rattle.std.specs.Prelude.{nat_le, option_map, option_and_then, unwrap_or}
use Rattle.occam_layout.specs.declared.mark.Mark.TheVariants as mark
use Rattle.occam_parser.specs.Terminals.{Terminal, Mark}
use Rattle.occam_parser.specs.Lines.{Place, Action, Skip, Stop, Assign, Input, Output, Instance, block_word}
use Rattle.occam_parser.specs.Blocks.{Process, Declared, Does, Construct, Act, Block, Replicated, Body, One, Part}
use Rattle.occam_parser.specs.Blocks.{Components, NoComponent, Further, Component, Plain, Chosen, Guarded}
use Rattle.scalar_ranges.specs.Environments.{Environment, item_at}
use Rattle.scalar_ranges.specs.Moves.{outermost}
use Rattle.scalar_ranges.specs.Values.{number_of, truth_of}
use Rattle.program_uses.specs.declared.uses.Direction.TheVariants as direction
use Rattle.program_uses.specs.Indices.{turn_by_turn}
use Rattle.program_meaning.specs.Links.{Port, Links, message_length, received, incoming_at}
use Rattle.program_meaning.specs.Links.{after_reading, after_writing}
use Rattle.program_meaning.specs.Storing.{declare, stored}
use Rattle.program_meaning.specs.Running.{Surroundings, Outcome, Goes, Waits, Stuck, followed, left, or_stuck, input}
use Rattle.program_meaning.specs.Running.{output, act, or_else, or_waits, by_word, port_of, turns, with_index, run}
use Rattle.program_meaning.specs.Running.{run_construct, run_body, run_components, run_component, first_true, choice}
use Rattle.program_meaning.specs.Doing.{Doing, Leaves, Halts, Fails, Asks, Sends, doing_then, leaves, or_fails, asking}
use Rattle.program_meaning.specs.Doing.{sending, acting, else_doing, or_halts, doing_by_word, chosen, doing}
use Rattle.program_meaning.specs.Doing.{doing_construct, doing_body, doing_components, doing_component, doing_first}
use Rattle.program_meaning.specs.Doing.{doing_choice, over_links, DoingIsRunning}

-- Both sides of a test are followed alike.
by_test : (b : Bool) (x y u v : Outcome) (f : Environment → Links → Outcome) → x ≡ followed u f → y ≡ followed v f
    → cond b x y ≡ followed (cond b u v) f
by_test true x y u v f s t = s
by_test false x y u v f s t = t

-- Outcomes that are followed by the same are the same.
same_follows : (o : Outcome) (f g : Environment → Links → Outcome)
    → ((env : Environment) (l : Links) → f env l ≡ g env l) → followed o f ≡ followed o g
same_follows (Goes env l) f g same = same env l
same_follows (Waits l) f g same = refl
same_follows Stuck f g same = refl

-- the same test of the same
if_same : (b : Bool) (o p q : Outcome) → o ≡ p → cond b o q ≡ cond b p q
if_same true o p q same = same
if_same false o p q same = refl

module _ (listens : List Bool) where
  abbrev over : Doing → Links → Outcome
  over t l = over_links listens t l

  -- What comes after a tree comes after its outcome.
  pub then_over : (t : Doing) (f : Environment → Doing) (l : Links)
      → over (doing_then t f) l ≡ followed (over t l) (λ env m. over (f env) m)
  then_over (Leaves env) f l = refl
  then_over Halts f l = refl
  then_over Fails f l = refl
  then_over (Asks port next) f l =
      by_test (nat_le (message_length port.carries) (length (incoming_at port.link l).unread)) _ _ _ _
      (λ env m. over (f env) m)
      (then_over (next (take (message_length port.carries) (incoming_at port.link l).unread)) f
      (after_reading port.link (message_length port.carries) l)) refl
  then_over (Sends port message next) f l =
      by_test (unwrap_or (item_at port.link listens) false) _ _ _ _ (λ env m. over (f env) m)
      (then_over next f (after_writing port.link message l)) refl

  -- where something may have no value
  or_same : {A : Type 0} (o : Option A) (f : A → Outcome) (g : A → Doing) (l : Links)
      → ((x : A) → f x ≡ over (g x) l) → or_stuck o f ≡ over (or_fails o g) l
  or_same None f g l same = refl
  or_same (Some x) f g l same = same x

  -- one after the other
  then_same : (o : Outcome) (t : Doing) (f : Environment → Links → Outcome) (g : Environment → Doing) (l : Links)
      → o ≡ over t l → ((env : Environment) (m : Links) → f env m ≡ over (g env) m)
      → followed o f ≡ over (doing_then t g) l
  then_same o t f g l first next =
      ap (λ o. followed o f) first ∙ same_follows (over t l) f (λ env m. over (g env) m) next
      ∙ sym (then_over t g l)

  -- a scope that is left
  left_same : (count : ℕ) (o : Outcome) (t : Doing) (l : Links) → o ≡ over t l
      → left count o ≡ over (leaves count t) l
  left_same count o t l same =
      then_same o t (λ env m. Goes (outermost count env) m) (λ env. Leaves (outermost count env)) l same (λ env m. refl)

  -- turn by turn
  turns_same : (n : ℕ) (turn : ℕ → Environment → Links → Outcome) (do_turn : ℕ → Environment → Doing)
      (env : Environment) (l : Links) → ((k : ℕ) (e : Environment) (m : Links) → turn k e m ≡ over (do_turn k e) m)
      → turn_by_turn (λ k o. followed o (turn k)) n (Goes env l)
      ≡ over (turn_by_turn (λ k t. doing_then t (do_turn k)) n (Leaves env)) l
  turns_same zero turn do_turn env l same = refl
  turns_same (suc n) turn do_turn env l same =
      then_same _ _ (turn n) (do_turn n) l (turns_same n turn do_turn env l same) (same n)

  -- ---- choices

  -- what comes of a choice that may be taken
  abbrev overs : Option Doing → Links → Option Outcome
  overs None l = None
  overs (Some t) l = Some (over t l)

  else_same : (a b : Option Outcome) (t u : Option Doing) (l : Links) → a ≡ overs t l → b ≡ overs u l
      → or_else a b ≡ overs (else_doing t u) l
  else_same a b None u l first second = ap (λ a. or_else a b) first ∙ second
  else_same a b (Some t) u l first second = ap (λ a. or_else a b) first

  left_choice_same : (count : ℕ) (a : Option Outcome) (t : Option Doing) (l : Links) → a ≡ overs t l
      → option_map (left count) a ≡ overs (option_map (leaves count) t) l
  left_choice_same count a None l same = ap (option_map (left count)) same
  left_choice_same count a (Some t) l same =
      ap (option_map (left count)) same ∙ ap Some (left_same count (over t l) t l refl)

  choices_same : (n : ℕ) (turn : ℕ → Option Outcome) (do_turn : ℕ → Option Doing) (l : Links)
      → ((k : ℕ) → turn k ≡ overs (do_turn k) l)
      → turn_by_turn (λ k found. or_else found (turn k)) n None
      ≡ overs (turn_by_turn (λ k found. else_doing found (do_turn k)) n None) l
  choices_same zero turn do_turn l same = refl
  choices_same (suc n) turn do_turn l same =
      else_same _ _ _ (do_turn n) l (choices_same n turn do_turn l same) (same n)

  waits_same : (a : Option Outcome) (t : Option Doing) (l : Links) → a ≡ overs t l → or_waits a l ≡ over (or_halts t) l
  waits_same a None l same = ap (λ a. or_waits a l) same
  waits_same a (Some t) l same = ap (λ a. or_waits a l) same

  -- SEQ and IF
  word_same : (word : Terminal) (all : Outcome) (first : Option Outcome) (t : Doing) (u : Option Doing) (l : Links)
      → all ≡ over t l → first ≡ overs u l → by_word word all first l ≡ over (doing_by_word word t u) l
  word_same (Mark mark.Seq) all first t u l one other = one
  word_same (Mark mark.If) all first t u l one other = waits_same first u l other
  word_same word all first t u l one other = refl

module _ (s : Surroundings) where
  -- ---- actions

  input_same : (port : Option Port) (target : Place) (env : Environment) (l : Links)
      → input port target env l ≡ over s.listens (asking port target env) l
  input_same None target env l = refl
  input_same (Some p) target env l =
      if_same (nat_le (message_length p.carries) (length (incoming_at p.link l).unread)) _ _ _
      (or_same s.listens
      (stored env target (received p.carries (take (message_length p.carries) (incoming_at p.link l).unread)))
      (λ after. Goes after (after_reading p.link (message_length p.carries) l)) Leaves
      (after_reading p.link (message_length p.carries) l) (λ after. refl))

  output_same : (port : Option Port) (v : ℤ) (env : Environment) (l : Links)
      → output s port v env l ≡ over s.listens (sending port v env) l
  output_same None v env l = refl
  output_same (Some p) v env l = refl

  act_same : (action : Action) (env : Environment) (l : Links)
      → act s action env l ≡ over s.listens (acting s.ports action env) l
  act_same Skip env l = refl
  act_same Stop env l = refl
  act_same (Assign target value) env l =
      or_same s.listens (option_and_then (stored env target) (number_of env value)) (λ after. Goes after l) Leaves l
      (λ after. refl)
  act_same (Input channel target) env l = input_same (port_of s.ports env direction.Input channel) target env l
  act_same (Output channel value) env l =
      or_same s.listens (number_of env value) _ _ l
      (λ v. output_same (port_of s.ports env direction.Output channel) v env l)
  act_same (Instance name actuals) env l = refl

  -- a choice by its condition
  truth_same : (truth : Option Bool) (o : Outcome) (t : Doing) (l : Links) → o ≡ over s.listens t l
      → elim truth [
        | None ↦ Some Stuck
        | Some true ↦ Some o
        | Some false ↦ None
      ] ≡ overs s.listens (chosen Fails t truth) l
  truth_same None o t l same = refl
  truth_same (Some true) o t l same = ap Some same
  truth_same (Some false) o t l same = refl

  -- ---- processes

  mutual
    running : (p : Process) (env : Environment) (l : Links) → run s p env l ≡ over s.listens (doing s.ports p env) l
    running (Declared d p) env l =
        or_same s.listens (declare d env) _ _ l
        (λ inner. left_same s.listens (length env) (run s p inner l) (doing s.ports p inner) l (running p inner l))
    running (Does line c) env l = running_construct c env l

    running_construct : (c : Construct) (env : Environment) (l : Links)
        → run_construct s c env l ≡ over s.listens (doing_construct s.ports c env) l
    running_construct (Act action) env l = act_same action env l
    running_construct (Block kind cs) env l =
        word_same s.listens (block_word kind) _ _ _ _ l (running_components cs env l) (running_first cs env l)
    running_construct (Replicated r b) env l =
        or_same s.listens (number_of env r.base) _ _ l (λ base.
        or_same s.listens (number_of env r.count) _ _ l (λ count. running_body b r.name base (turns count) env l))

    running_body : (b : Body) (name : List ℕ) (base : ℤ) (count : ℕ) (env : Environment) (l : Links)
        → run_body s b name base count env l ≡ over s.listens (doing_body s.ports b name base count env) l
    running_body (One kind c) name base count env l =
        word_same s.listens (block_word kind) _ _ _ _ l
        (turns_same s.listens count (λ n e m. left (length env) (run_component s c (with_index name base n e) m))
        (λ n e. leaves (length env) (doing_component s.ports c (with_index name base n e))) env l
        (λ n e m. left_same s.listens (length env) _ _ m (running_component c (with_index name base n e) m)))
        (choices_same s.listens count
        (λ n. option_map (left (length env)) (choice s c (with_index name base n env) l))
        (λ n. option_map (leaves (length env)) (doing_choice s.ports c (with_index name base n env))) l
        (λ n. left_choice_same s.listens (length env) _ _ l (running_choice c (with_index name base n env) l)))

    running_components : {part : Part} (cs : Components part) (env : Environment) (l : Links)
        → run_components s cs env l ≡ over s.listens (doing_components s.ports cs env) l
    running_components NoComponent env l = refl
    running_components (Further cs c) env l =
        then_same s.listens _ _ (run_component s c) (doing_component s.ports c) l (running_components cs env l)
        (running_component c)

    running_component : {part : Part} (c : Component part) (env : Environment) (l : Links)
        → run_component s c env l ≡ over s.listens (doing_component s.ports c env) l
    running_component (Plain p) env l = running p env l
    running_component (Chosen line e p) env l = refl
    running_component (Guarded line g p) env l = refl

    running_first : {part : Part} (cs : Components part) (env : Environment) (l : Links)
        → first_true s cs env l ≡ overs s.listens (doing_first s.ports cs env) l
    running_first NoComponent env l = refl
    running_first (Further cs c) env l =
        else_same s.listens _ _ (doing_first s.ports cs env) (doing_choice s.ports c env) l (running_first cs env l)
        (running_choice c env l)

    running_choice : {part : Part} (c : Component part) (env : Environment) (l : Links)
        → choice s c env l ≡ overs s.listens (doing_choice s.ports c env) l
    running_choice (Plain p) env l = refl
    running_choice (Chosen line e p) env l =
        truth_same (truth_of env e) (run s p env l) (doing s.ports p env) l (running p env l)
    running_choice (Guarded line g p) env l = refl

pub doing_is_running : DoingIsRunning
doing_is_running s p env l = running s p env l
