-- The code of processes: a definition over the tree, with what is known at each place. A PAR and an ALT have none here.
use Rattle.std.specs.Prelude.{ℕ, zero, ◌+◌, ℤ, pos, Bool, true, false, List, [], ◌∷◌, ◌++◌}
use Rattle.std.specs.Prelude.{◌&&◌, if◌then◌else◌, Option, Some, None, unwrap_or, option_map}
use Rattle.std.specs.List.{list_any}
use Rattle.occam_layout.specs.declared.mark.Mark.TheVariants as mark
use Rattle.occam_parser.specs.Terminals.{Terminal, Mark}
use Rattle.occam_parser.specs.Expressions.{Expression, Alone, Truth, Bracketed}
use Rattle.occam_parser.specs.Lines.{Declaration, Replicator, block_word, Action}
use Rattle.occam_parser.specs.Lines.{Instance, Skip}
use Rattle.occam_parser.specs.Constructs.{in_if}
use Rattle.occam_parser.specs.Blocks.{Process, Declared, Does, Construct, Act, Block, Replicated, Body, One, Part}
use Rattle.occam_parser.specs.Blocks.{Choices, Components, NoComponent, Further, Component, Plain, Chosen, Guarded}
use Rattle.scalar_ranges.specs.declared.types.ExprType.TheVariants as types
use Rattle.scalar_ranges.specs.Entries.{Meaning, Scalar, Procedure, Entry, entry_at, meaning_in}
use Rattle.scalar_ranges.specs.Moves.{Known}
use Rattle.program_uses.specs.Actions.{Around, is_before}
use Rattle.program_uses.specs.Changes.{changed_by_body}
use Rattle.program_uses.specs.Constants.{value_as}
use Rattle.program_uses.specs.Signatures.{Parameter, parameters_in}
use Rattle.program_uses.specs.Declaring.{add, add_declaration}
use Rattle.program_uses.specs.Indices.{Repeats, repeats_of, index_in, is_seq, turn_by_turn}
use Rattle.usage_checks.specs.NameRules.{with_entries}
use Rattle.usage_checks.specs.AfterProcesses.{begun, ended, begun_body, chosen, after_components}
use Rattle.usage_checks.specs.AfterProcesses.{after_component, after_body}
use Rattle.code_pieces.specs.declared.operations.TheConstants.{STOP_PROCESS}
use Rattle.code_pieces.specs.Pieces.{Piece, Jump, LoopBack, Row, operates, stores, points, constant, Code, no_code}
use Rattle.code_pieces.specs.Pieces.{written, before, then_code, closed_by, word_after}
use Rattle.line_pieces.specs.Homes.{Nowhere}
use Rattle.line_pieces.specs.Declarations.{Frame, facts_in, with_home, with_block, declared, declaration_code}
use Rattle.line_pieces.specs.Actions.{action_code, test_code}

-- ---- places

-- Where code is written: what names denote, what is known of them, and the least label that is free.
pub record Site : Type 0 where
  pub frame : Frame
  pub known : Known
  pub label : ℕ

abbrev pub entries_at : Site → List Entry
entries_at s = s.known.entries

-- a label, and what a row says there
abbrev pub row_of : ℕ → Frame → Known → Piece
row_of label f k = Row label (facts_in f k.entries)

abbrev pub with_declaration : Declaration → Site → Site
with_declaration d s = record {
  frame = declared s.known.entries d s.frame;
  known = with_entries (add_declaration d) s.known;
  label = s.label;
}

abbrev pub at_place : Known → ℕ → Site → Site
at_place k label s = record { frame = s.frame; known = k; label = label }

-- The code of an instance at a site: of the procedure with this number, whose parameters are these, and which is passed
-- these. There may be none.
abbrev pub Calls : Type 0
Calls = ℕ → List Parameter → List Expression → Site → Option Code

-- what is around a process: the procedures before it, and the code of their instances
pub record Surroundings : Type 0 where
  pub around : Around
  pub calls : Calls

-- ---- actions

abbrev pub called : Surroundings → Option Meaning → List Expression → Site → Option Code
called w (Some (Procedure number)) actuals s =
    w.calls number (parameters_in w.around.signatures (Some (Procedure number))) actuals s
called w m actuals s = None

abbrev pub line_code : Surroundings → Action → Site → Option Code
line_code w (Instance name actuals) s = called w (meaning_in name s.known.entries) actuals s
line_code w action s = action_code s.frame s.known.entries s.label action

-- ---- choices

-- whether a condition is the operand TRUE, in any brackets
abbrev pub is_true : Expression → Bool
is_true (Alone (Truth holds)) = holds
is_true (Alone (Bracketed e)) = is_true e
is_true e = false

-- A process that does nothing: SKIP, or a SEQ of processes that do nothing. What declares something is none.
abbrev pub is_skip_action : Action → Bool
is_skip_action Skip = true
is_skip_action action = false

abbrev mutual
  pub is_skip : Process → Bool
  is_skip (Declared d p) = false
  is_skip (Does line c) = does_nothing c

  pub does_nothing : Construct → Bool
  does_nothing (Act action) = is_skip_action action
  does_nothing (Block kind cs) = is_seq (block_word kind) && all_do_nothing cs
  does_nothing (Replicated r b) = false

  pub all_do_nothing : {part : Part} → Components part → Bool
  all_do_nothing NoComponent = true
  all_do_nothing (Further cs c) = all_do_nothing cs && component_is_skip c

  pub component_is_skip : {part : Part} → Component part → Bool
  component_is_skip (Plain p) = is_skip p
  component_is_skip (Chosen line e p) = false
  component_is_skip (Guarded line g p) = false

-- A choice in its place: what is known where its test is and after it, whether its process does nothing, and the code
-- of that, by where it begins.
pub record PlacedChoice : Type 0 where
  pub condition : Expression
  pub known : Known
  pub after : Known
  pub is_skip : Bool
  pub process : Site → Option Code

-- from the first one on
pub data PlacedChoices : Type 0 where
  NoChoice : PlacedChoices
  ThenChoice : (choices : PlacedChoices) → (last : PlacedChoice) → PlacedChoices

-- What comes after choices that are tested, each of which goes on at the end of its IF.
pub data IfEnding : Type 0 where
  -- The process stops.
  Stops : IfEnding
  -- the last choice, whose condition is TRUE
  Always : (choice : PlacedChoice) → IfEnding
  -- A choice after which only `TRUE` with `SKIP` comes: it goes on at the end of the IF, whether it is taken or not.
  Opens : (choice : PlacedChoice) → IfEnding

-- the choices of an IF
pub record EndedChoices : Type 0 where
  pub tested : PlacedChoices
  pub ending : IfEnding

-- a choice without its test
abbrev pub taken_code : Frame → PlacedChoice → ℕ → Option Code
taken_code f c label = c.process (record { frame = f; known = chosen c.condition c.known; label = label })

-- A choice whose test jumps to the label that is free if it does not hold, and the label at the end of its IF.
abbrev pub tested_code : ℕ → Frame → PlacedChoice → ℕ → Option Code
tested_code end f c label =
    before (test_code f.homes c.known.entries f.top c.condition label)
    (closed_by (Jump end ∷ row_of label f c.after ∷ []) (taken_code f c (label + 1)))

-- A choice whose test jumps to the end of the IF, and whose process falls into that.
abbrev pub open_code : ℕ → Frame → PlacedChoice → ℕ → Option Code
open_code end f c label = before (test_code f.homes c.known.entries f.top c.condition end) (taken_code f c label)

-- choices one after another, each at its own site
abbrev pub all_tested : ℕ → Frame → PlacedChoices → ℕ → Option Code
all_tested end f NoChoice label = no_code label
all_tested end f (ThenChoice cs c) label = then_code (all_tested end f cs label) (tested_code end f c)

abbrev pub ending_code : ℕ → Frame → IfEnding → ℕ → Option Code
ending_code end f Stops label = written (operates STOP_PROCESS ∷ []) label
ending_code end f (Always c) label = taken_code f c label
ending_code end f (Opens c) label = open_code end f c label

abbrev pub choices_code : ℕ → Frame → EndedChoices → ℕ → Option Code
choices_code end f x label = then_code (all_tested end f x.tested label) (ending_code end f x.ending)

-- The last choice needs no test if its condition is TRUE. If it is not, the process stops after it.
abbrev pub with_ending : PlacedChoices → EndedChoices
with_ending NoChoice = record { tested = NoChoice; ending = Stops }
with_ending (ThenChoice cs c) =
    if is_true c.condition then record { tested = cs; ending = Always c }
    else record { tested = ThenChoice cs c; ending = Stops }

-- The choice before one that may always be taken, and does nothing, is open.
abbrev pub opening : PlacedChoices → IfEnding → EndedChoices
opening (ThenChoice cs opened) (Always c) =
    if c.is_skip then record { tested = cs; ending = Opens opened }
    else record { tested = ThenChoice cs opened; ending = Always c }
opening cs ending = record { tested = cs; ending = ending }

abbrev pub with_opening : EndedChoices → EndedChoices
with_opening x = opening x.tested x.ending

-- An IF whose end is at the site's label, with its choices in this frame, and what is known after it.
abbrev pub if_code : Site → Frame → Known → EndedChoices → Option Code
if_code s f after x = closed_by (row_of s.label s.frame after ∷ []) (choices_code s.label f x (s.label + 1))

-- What is no choice has no code.
abbrev pub no_choice : Known → PlacedChoice
no_choice k =
    record { condition = Alone (Truth false); known = k; after = k; is_skip = false; process = λ s. None }

-- ---- loops

-- the site of a loop's body, whose block is at the first words that are free
abbrev pub in_loop : Site → Known → List ℕ → Meaning → Site
in_loop s begun name index = record {
  frame = with_block s.label s.frame;
  known = with_entries (add name index) begun;
  label = s.label + 2;
}

-- what the base or the count of a loop is; what has no value is 0
abbrev pub value_or_zero : List Entry → Expression → ℤ
value_or_zero es e = unwrap_or (value_as es types.Int e) (pos 0)

-- before the head: the base and the count
abbrev pub loop_start : ℕ → ℤ → ℤ → List Piece
loop_start word base count =
    constant base ∷ stores word ∷ constant count ∷ stores (word_after word 1) ∷ []

-- after the body
abbrev pub loop_end : ℕ → ℕ → Piece → List Piece
loop_end word head behind = points word ∷ LoopBack head (head + 1) ∷ behind ∷ []

-- A loop has its head at the site's label, and the next label after the loop.
abbrev pub loop_code : Site → Site → Known → ℤ → ℤ → Option Code → Option Code
loop_code s inner after base count body =
    before (loop_start s.frame.top base count ++ row_of s.label inner.frame inner.known ∷ [])
    (closed_by (loop_end s.frame.top s.label (row_of (s.label + 1) s.frame after)) body)

abbrev pub is_scalar : Option Meaning → Bool
is_scalar (Some (Scalar kind type range)) = true
is_scalar m = false

-- whether one of these numbers is that of a scalar
abbrev pub has_scalar : List ℕ → List Entry → Bool
has_scalar ns es = list_any (λ n. is_scalar (option_map (λ e. e.meaning) (entry_at n es))) ns

-- A loop without turns has no code. If its body changes a scalar, a row says that less is known of it.
abbrev pub no_loop : Bool → Site → Known → Option Code
no_loop false s after = no_code s.label
no_loop true s after = written (row_of s.label s.frame after ∷ []) (s.label + 1)

abbrev pub repeated_seq : Site → List ℕ → Known → ℤ → Option Code → ℤ → Option Code
repeated_seq s changed after base loop (pos zero) = no_loop (has_scalar changed s.known.entries) s after
repeated_seq s changed after base loop count = loop

-- ---- processes

-- SEQ is all its components, and IF its choices with a row after them.
abbrev pub by_block : Terminal → Option Code → Option Code → Option Code
by_block (Mark mark.Seq) all choices = all
by_block (Mark mark.If) all choices = choices
by_block word all choices = None

-- how often a choice under a replicator happens
abbrev pub times : Repeats → ℕ
times repeats = if repeats.happens then repeats.turns.count else 0

-- what is known after a turn
abbrev pub turned : {part : Part} → Around → Terminal → List ℕ → Component part → Repeats → ℕ → Known → Known
turned a word name c repeats n k = after_component a word c (with_entries (add name (index_in repeats n)) k)

-- what is known where a turn begins, if this is where the first one does
abbrev pub turn_begun : {part : Part} → Around → Terminal → List ℕ → Component part → Repeats → Known → ℕ → Known
turn_begun a word name c repeats k n =
    with_entries (add name (index_in repeats n)) (turn_by_turn (turned a word name c repeats) n k)

-- a choice in this number of turns, by what it is in each
abbrev pub in_each_turn : (ℕ → PlacedChoice) → ℕ → PlacedChoices
in_each_turn choice count = turn_by_turn (λ n cs. ThenChoice cs (choice n)) count NoChoice

-- IF and a replicator, over this choice. The kinds of blocks have no names here, so it takes that of an IF.
abbrev pub repeated_block : Replicator → Construct → Construct
repeated_block r (Block kind (Further cs c)) = Replicated r (One kind c)
repeated_block r c = c

abbrev pub under_if : Replicator → Component Choices → Construct
under_if r c = repeated_block r (in_if (Further NoComponent c))

abbrev mutual
  pub process_code : Surroundings → Process → Site → Option Code
  process_code w (Declared d p) s =
      before (declaration_code s.known.entries d s.frame.top) (process_code w p (with_declaration d s))
  process_code w (Does line c) s = construct_code w line c s

  pub construct_code : Surroundings → ℕ → Construct → Site → Option Code
  construct_code w line (Act action) s = line_code w action s
  construct_code w line (Block kind cs) s =
      let word = block_word kind in
      let start = begun word s.known in
      by_block word (components_code w cs s)
      (if_code s s.frame (ended word (after_components w.around word cs start))
      (with_opening (with_ending (placed_choices w cs start))))
  construct_code w line (Replicated r b) s = body_code w line r b s

  pub body_code : Surroundings → ℕ → Replicator → Body → Site → Option Code
  body_code w line r (One kind c) s =
      let word = block_word kind in
      let changed = changed_by_body w.around.signatures s.known.entries r (One kind c) in
      let repeats = repeats_of (is_before line w.around.uncounted) s.known.entries (is_seq word) r in
      let start = begun_body word changed repeats.happens s.known in
      let after = after_body w.around line r (One kind c) s.known in
      let base = value_or_zero s.known.entries r.base in
      let count = value_or_zero s.known.entries r.count in
      let inner = in_loop s start r.name (index_in repeats 0) in
      by_block word
      (repeated_seq s changed after base (loop_code s inner after base count (component_code w c inner)) count)
      (if_code s (with_home Nowhere s.frame) after (with_ending (in_each_turn
      (λ n. placed w c (turn_begun w.around word r.name c repeats start n)) (times repeats))))

  -- one after the other
  pub components_code : {part : Part} → Surroundings → Components part → Site → Option Code
  components_code w NoComponent s = no_code s.label
  components_code w (Further cs c) s =
      then_code (components_code w cs s)
      (λ label. component_code w c (at_place (after_components w.around (Mark mark.Seq) cs s.known) label s))

  pub component_code : {part : Part} → Surroundings → Component part → Site → Option Code
  component_code w (Plain p) s = process_code w p s
  component_code w (Chosen line e p) s = None
  component_code w (Guarded line g p) s = None

  -- choices in their places, where this is known before the first one
  pub placed_choices : {part : Part} → Surroundings → Components part → Known → PlacedChoices
  placed_choices w NoComponent k = NoChoice
  placed_choices w (Further cs c) k =
      ThenChoice (placed_choices w cs k) (placed w c (after_components w.around (Mark mark.If) cs k))

  -- a choice where this is known
  pub placed : {part : Part} → Surroundings → Component part → Known → PlacedChoice
  placed w (Plain p) k = no_choice k
  placed w (Chosen line e p) k = record {
    condition = e;
    known = k;
    after = after_component w.around (Mark mark.If) (Chosen line e p) k;
    is_skip = is_skip p;
    process = λ s. process_code w p s;
  }
  placed w (Guarded line g p) k = no_choice k
