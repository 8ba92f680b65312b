-- What it is to write the code of a process or of a part of one.
use Rattle.std.specs.Prelude.{◌≡◌, ⊤, ℕ, ◌+◌, ◌-◌, Bool, true, false, List, [], ◌∷◌, ◌++◌, take, Option, Some, None}
use Rattle.occam_layout.specs.declared.mark.Mark.TheVariants as mark
use Rattle.occam_parser.specs.declared.tree.Choice.{Choice}
use Rattle.occam_parser.specs.Terminals.{Mark}
use Rattle.occam_parser.specs.Expressions.{Expression}
use Rattle.occam_parser.specs.Lines.{Declaration, Replicator, Action}
use Rattle.occam_parser.specs.Blocks.{Process, Construct, Part, Choices, Components, Component}
use Rattle.occam_parser.specs.BlockViews.{process_of, choice_of, all_choices}
use Rattle.scalar_ranges.specs.Moves.{Known, begin, end, begin_loop, widen}
use Rattle.scalar_ranges.specs.Entries.{Meaning}
use Rattle.scalar_ranges.specs.Scopes.{known_of, meaning_of}
use Rattle.code_generator.specs.declared.calling.Surroundings as calling
use Rattle.code_generator.specs.declared.limits.Limits.{Limits}
use Rattle.program_uses.specs.Actions.{Around, is_before}
use Rattle.program_uses.specs.Indices.{Repeats, repeats_of, index_in, turn_by_turn}
use Rattle.program_uses.specs.InTurn.{in_turn}
use Rattle.program_uses.specs.Signatures.{Parameter, parameters_in}
use Rattle.usage_checks.specs.AfterProcesses.{inside, after_construct, after_components, after_component}
use Rattle.usage_checks.specs.NameRules.{with_entries}
use Rattle.code_generator.specs.declared.choices.IfEnding as code_ending
use Rattle.code_generator.specs.declared.choices.IfEnding.TheVariants as if_ending
use Rattle.code_generator.specs.declared.loops.Turning.{Turning}
use Rattle.code_generator.specs.declared.processes.ProcessWriter.{ProcessWriter}
use Rattle.code_pieces.specs.Pieces.{Piece, Code, then_code}
use Rattle.line_pieces.specs.Limits.{is_too_much}
use Rattle.line_pieces.specs.Homes.{Nowhere}
use Rattle.line_pieces.specs.Declarations.{Frame, with_home, declaration_code}
use Rattle.code_generator.specs.Instances.{cleaning_code}
use Rattle.code_generator.specs.Calls.{Callee, callee_start, in_callee, callee_code}
use Rattle.code_generator.specs.declared.calling.Call.{Call}
use Rattle.line_pieces.specs.FrameViews.{frame_seen}
use Rattle.code_generator.specs.Processes.{Site, Surroundings, with_declaration, at_place, row_of, process_code}
use Rattle.code_generator.specs.Processes.{construct_code, called, line_code}
use Rattle.code_generator.specs.Processes.{components_code, component_code, is_skip, PlacedChoice, PlacedChoices}
use Rattle.code_generator.specs.Processes.{IfEnding, Stops, Always, Opens, EndedChoices, taken_code, open_code}
use Rattle.code_generator.specs.Processes.{all_tested, ending_code, choices_code, with_ending, with_opening, if_code}
use Rattle.code_generator.specs.Processes.{placed_choices, placed}
use Rattle.code_generator.specs.Processes.{in_loop, value_or_zero, loop_start, loop_end, loop_code, repeated_seq}
use Rattle.code_generator.specs.Processes.{no_loop, has_scalar, turned, turn_begun, in_each_turn}
use Rattle.code_generator.specs.Programs.{no_frame}
use Rattle.code_generator.specs.CallViews.{surroundings_of, callee_of}
use Rattle.usage_checks.specs.ItemRules.{outermost}

-- where a writer is
abbrev pub site_of : ProcessWriter → Site
site_of w = record { frame = frame_seen w.frame; known = known_of w.scope; label = w.label }

-- where no name is known
abbrev pub first_site : Site
first_site = record { frame = no_frame; known = outermost.known; label = 0 }

-- If there is code, it was appended, and this is the least label that it leaves free.
abbrev pub Appends : List Piece → List Piece → ℕ → Option Code → Type 0
Appends old new label None = ⊤
Appends old new label (Some c) = (new ≡ old ++ c.pieces) × (label ≡ c.labels)

-- If there is code, it was appended. This is known after it, and what names denote is as before.
pub record Writes (s t : ProcessWriter) (wanted : Option Code) (after : Known) : Type 0 where
  pub code : Appends s.listing t.listing t.label wanted
  pub known : known_of t.scope ≡ after
  pub frame : frame_seen t.frame ≡ frame_seen s.frame

-- All is as before, but what was spent.
pub record Spends (s t : ProcessWriter) : Type 0 where
  pub listing : t.listing ≡ s.listing
  pub scope : t.scope ≡ s.scope
  pub frame : t.frame ≡ s.frame
  pub label : t.label ≡ s.label

-- ---- too much code

-- What was there and these pieces are together more than is written of a sequential program.
abbrev pub IsTooMuch : Limits → (old pieces : List Piece) → Type 0
IsTooMuch l old ps = l.is_sequential ≡ true → is_too_much l.names (old ++ ps) ≡ true

-- so it is with this code, if there is some
abbrev pub Exceeds : Limits → List Piece → Option Code → Type 0
Exceeds l old None = ⊤
Exceeds l old (Some c) = IsTooMuch l old c.pieces

-- ---- declarations

pub record Declares (s t : ProcessWriter) (d : Declaration) : Type 0 where
  pub code : t.listing ≡ s.listing ++ declaration_code (site_of s).known.entries d s.frame.top
  pub site : site_of t ≡ with_declaration d (site_of s)

abbrev pub declarations_code : List Declaration → Site → List Piece
declarations_code [] s = []
declarations_code (d ∷ ds) s =
    declaration_code s.known.entries d s.frame.top ++ declarations_code ds (with_declaration d s)

pub record DeclaresAll (s t : ProcessWriter) (ds : List Declaration) : Type 0 where
  pub code : t.listing ≡ s.listing ++ declarations_code ds (site_of s)
  pub site : site_of t ≡ in_turn with_declaration ds (site_of s)

-- ---- processes

abbrev pub WritesProcess : (s t : ProcessWriter) → calling.Surroundings → Process → Type 0
WritesProcess s t a p =
    Writes s t (process_code (surroundings_of a) p (site_of s)) (inside (surroundings_of a).around p (known_of s.scope))

abbrev pub WritesConstruct : (s t : ProcessWriter) → calling.Surroundings → ℕ → Construct → Type 0
WritesConstruct s t a line c =
    Writes s t (construct_code (surroundings_of a) line c (site_of s))
    (after_construct (surroundings_of a).around line c (known_of s.scope))

abbrev pub WritesSeq : {part : Part} → (s t : ProcessWriter) → calling.Surroundings → Components part → Type 0
WritesSeq s t a cs =
    Writes s t (components_code (surroundings_of a) cs (site_of s))
    (after_components (surroundings_of a).around (Mark mark.Seq) cs (known_of s.scope))

abbrev pub WritesOne : {part : Part} → (s t : ProcessWriter) → calling.Surroundings → Component part → Type 0
WritesOne s t a c =
    Writes s t (component_code (surroundings_of a) c (site_of s))
    (after_component (surroundings_of a).around (Mark mark.Seq) c (known_of s.scope))

-- ---- actions

-- The code of an action was appended, and what is known is as before.
abbrev pub WritesLine : (s t : ProcessWriter) → calling.Surroundings → Action → Type 0
WritesLine s t a action = Writes s t (line_code (surroundings_of a) action (site_of s)) (known_of s.scope)

-- A procedure with this meaning is called: its instances have code as those of this one.
abbrev pub IsCall : Surroundings → Option Meaning → Call → Type 0
IsCall w m c = (actuals : List Expression) (s : Site) → called w m actuals s
    ≡ callee_code (surroundings_of c.inside) (callee_of c.callee) (parameters_in w.around.signatures m) actuals s

-- All is written as far as the row where the body of a procedure begins, and the code goes on there.
pub record BeginsInstance (s t body : ProcessWriter) (c : Callee) (qs : List Parameter) (actuals : List Expression)
    : Type 0 where
  pub code : body.listing ≡ s.listing ++ callee_start c qs actuals (site_of s)
  pub site : site_of body ≡ in_callee c qs actuals (site_of s)
  pub known : known_of t.scope ≡ known_of s.scope
  pub frame : frame_seen t.frame ≡ frame_seen s.frame

-- What is after the body is written where the body ended, and the code goes on with what was known before.
pub record EndsInstance (s t body : ProcessWriter) (qs : List Parameter) (actuals : List Expression) : Type 0 where
  pub code : t.listing
      ≡ body.listing ++ cleaning_code (frame_seen s.frame).homes (known_of s.scope).entries s.frame.top qs 0
      actuals
  pub label : t.label ≡ body.label
  pub known : known_of t.scope ≡ known_of s.scope
  pub frame : frame_seen t.frame ≡ frame_seen s.frame

-- ---- choices

-- a choice at a site: tested, open or without its test
abbrev pub choice_as : {part : Part} → (Frame → PlacedChoice → ℕ → Option Code) → Surroundings → Component part → Site
    → Option Code
choice_as code w c s = code s.frame (placed w c s.known) s.label

abbrev pub WritesAs : {part : Part} → (s t : ProcessWriter) → calling.Surroundings
    → (Frame → PlacedChoice → ℕ → Option Code) → Component part → Type 0
WritesAs s t a code c =
    Writes s t (choice_as code (surroundings_of a) c (site_of s))
    (after_component (surroundings_of a).around (Mark mark.If) c (known_of s.scope))

-- choices that are tested, the first one at this site
abbrev pub tested_at : {part : Part} → Surroundings → ℕ → Components part → Site → Option Code
tested_at w end cs s = all_tested end s.frame (placed_choices w cs s.known) s.label

-- choices of an IF that ends at a label are written, as this says
abbrev pub WritesEach : {part : Part} → (Surroundings → ℕ → Components part → Site → Option Code)
    → (s t : ProcessWriter) → calling.Surroundings → ℕ → Components part → Type 0
WritesEach code s t a end cs =
    Writes s t (code (surroundings_of a) end cs (site_of s))
    (after_components (surroundings_of a).around (Mark mark.If) cs (known_of s.scope))

abbrev pub WritesTested : {part : Part} → (s t : ProcessWriter) → calling.Surroundings → ℕ → Components part → Type 0
WritesTested s t a end cs = WritesEach tested_at s t a end cs

-- what comes after them, at this site
abbrev pub ending_at : Surroundings → ℕ → code_ending.IfEnding → Site → Option Code
ending_at w end if_ending.Stops s = ending_code end s.frame Stops s.label
ending_at w end (if_ending.Always last) s = choice_as taken_code w (choice_of last.now) s
ending_at w end (if_ending.Opens opened last) s =
    then_code (choice_as (open_code end) w (choice_of opened.now) s)
    (λ label. choice_as taken_code w (choice_of last.now)
    (at_place (after_component w.around (Mark mark.If) (choice_of opened.now) s.known) label s))

-- what is known then
abbrev pub after_ending : Around → code_ending.IfEnding → Known → Known
after_ending a if_ending.Stops k = k
after_ending a (if_ending.Always last) k = after_component a (Mark mark.If) (choice_of last.now) k
after_ending a (if_ending.Opens opened last) k =
    after_component a (Mark mark.If) (choice_of last.now) (after_component a (Mark mark.If) (choice_of opened.now) k)

abbrev pub WritesEnding : (s t : ProcessWriter) → calling.Surroundings → ℕ → code_ending.IfEnding → Type 0
WritesEnding s t a end x =
    Writes s t (ending_at (surroundings_of a) end x (site_of s))
    (after_ending (surroundings_of a).around x (known_of s.scope))

-- ---- an IF

-- the choices of an IF, where this is known before the first one
abbrev pub if_choices : {part : Part} → Surroundings → Components part → Known → EndedChoices
if_choices w cs k = with_opening (with_ending (placed_choices w cs k))

-- an ending in its place, where this is known
abbrev pub placed_ending : Surroundings → code_ending.IfEnding → Known → IfEnding
placed_ending w if_ending.Stops k = Stops
placed_ending w (if_ending.Always last) k = Always (placed w (choice_of last.now) k)
placed_ending w (if_ending.Opens opened last) k = Opens (placed w (choice_of opened.now) k)

-- the last choice does nothing, if it isn't in the ending
abbrev pub LeavesSkip : code_ending.IfEnding → Type 0
LeavesSkip if_ending.Stops = ⊤
LeavesSkip (if_ending.Always last) = ⊤
LeavesSkip (if_ending.Opens opened last) = is_skip (process_of last.now.process) ≡ true

-- the choices of an ending
abbrev pub choices_in : code_ending.IfEnding → List Choice
choices_in if_ending.Stops = []
choices_in (if_ending.Always last) = last.now ∷ []
choices_in (if_ending.Opens opened last) = opened.now ∷ last.now ∷ []

-- The choices of an IF are these, which are tested, with this ending.
pub record AreEnded (cs : Components Choices) (tested : List Choice) (ending : code_ending.IfEnding) : Type 0 where
  pub choices : (w : Surroundings) (k : Known) → if_choices w cs k ≡ record {
    tested = placed_choices w (all_choices tested) k;
    ending = placed_ending w ending (after_components w.around (Mark mark.If) (all_choices tested) k);
  }
  pub known : (a : Around) (k : Known) → after_components a (Mark mark.If) cs k
      ≡ after_ending a ending (after_components a (Mark mark.If) (all_choices tested) k)
  pub skips : LeavesSkip ending

-- all choices of an IF that ends at a label, at this site
abbrev pub choices_at : {part : Part} → Surroundings → ℕ → Components part → Site → Option Code
choices_at w end cs s = choices_code end s.frame (if_choices w cs s.known) s.label

abbrev pub WritesChoices : {part : Part} → (s t : ProcessWriter) → calling.Surroundings → ℕ → Components part → Type 0
WritesChoices s t a end cs = WritesEach choices_at s t a end cs

-- an IF at a site, with what is known after it
abbrev pub after_if : {part : Part} → Around → Components part → Known → Known
after_if a cs k = end (after_components a (Mark mark.If) cs (begin k))

abbrev pub if_at : {part : Part} → Surroundings → Components part → Site → Option Code
if_at w cs s = if_code s s.frame (after_if w.around cs s.known) (if_choices w cs (begin s.known))

abbrev pub WritesIf : {part : Part} → (s t : ProcessWriter) → calling.Surroundings → Components part → Type 0
WritesIf s t a cs =
    Writes s t (if_at (surroundings_of a) cs (site_of s)) (after_if (surroundings_of a).around cs (known_of s.scope))

-- ---- loops

-- what is known after a loop whose body changes these variables
abbrev pub after_loop : List ℕ → Known → Known
after_loop changed k = with_entries (widen changed) k

-- where the body of a loop begins
abbrev pub in_turning : Site → Turning → List ℕ → Site
in_turning s l changed = in_loop s (begin_loop changed s.known) l.name.now (meaning_of l.index)

-- what is before the body, the row at the head with it
abbrev pub entering_code : Turning → List ℕ → Site → List Piece
entering_code l changed s =
    let inner = in_turning s l changed in
    loop_start s.frame.top l.base l.count ++ row_of s.label inner.frame inner.known ∷ []

-- All is written as far as the row at the head, where the body begins.
pub record EntersLoop (s t : ProcessWriter) (l : Turning) (changed : List ℕ) : Type 0 where
  pub code : t.listing ≡ s.listing ++ entering_code l changed (site_of s)
  pub site : site_of t ≡ in_turning (site_of s) l changed

-- where the names are left that a loop's body has, with this number before them
abbrev pub behind_loop : ℕ → ℕ → Site → Site
behind_loop names word s = record {
  frame = record s.frame { homes = take names s.frame.homes; top = word };
  known = end s.known;
  label = s.label;
}

-- what is after the body
abbrev pub leaving_code : (names word head : ℕ) → Site → List Piece
leaving_code names word head s =
    let left = behind_loop names word s in
    loop_end word head (row_of (head + 1) left.frame left.known)

-- What is after the body is written, and the names of the body are left.
pub record LeavesLoop (s t : ProcessWriter) (names word head : ℕ) : Type 0 where
  pub code : t.listing ≡ s.listing ++ leaving_code names word head (site_of s)
  pub site : site_of t ≡ behind_loop names word (site_of s)

-- a loop with turns, whose body changes these variables
abbrev pub turning_code : Surroundings → Turning → List ℕ → Process → Site → Option Code
turning_code w l changed p s =
    let inner = in_turning s l changed in
    loop_code s inner (after_loop changed s.known) l.base l.count (process_code w p inner)

abbrev pub WritesTurning : (s t : ProcessWriter) → calling.Surroundings → Turning → List ℕ → Process → Type 0
WritesTurning s t a l changed p =
    Writes s t (turning_code (surroundings_of a) l changed p (site_of s)) (after_loop changed (known_of s.scope))

-- a loop of a process, which changes these variables
abbrev pub looped_code : Surroundings → ℕ → Replicator → List ℕ → Process → Site → Option Code
looped_code w line r changed p s =
    let repeats = repeats_of (is_before line w.around.uncounted) s.known.entries true r in
    let inner = in_loop s (begin_loop changed s.known) r.name (index_in repeats 0) in
    let base = value_or_zero s.known.entries r.base in
    let count = value_or_zero s.known.entries r.count in
    let after = after_loop changed s.known in
    repeated_seq s changed after base (loop_code s inner after base count (process_code w p inner)) count

abbrev pub WritesLoop : (s t : ProcessWriter) → calling.Surroundings → ℕ → Replicator → List ℕ → Process → Type 0
WritesLoop s t a line r changed p =
    Writes s t (looped_code (surroundings_of a) line r changed p (site_of s)) (after_loop changed (known_of s.scope))

-- a loop without turns
abbrev pub idle_code : List ℕ → Site → Option Code
idle_code changed s = no_loop (has_scalar changed s.known.entries) s (after_loop changed s.known)

abbrev pub WritesNoLoop : (s t : ProcessWriter) → List ℕ → Type 0
WritesNoLoop s t changed = Writes s t (idle_code changed (site_of s)) (after_loop changed (known_of s.scope))

-- ---- choices under a replicator

-- where the turns of a choice begin, whose index has no place, if its IF ends at the site's label
abbrev pub before_turns : Site → Known → Site
before_turns s start = record { frame = with_home Nowhere s.frame; known = start; label = s.label + 1 }

-- a choice in this number of turns, where this is known before the first one
abbrev pub placed_turns : Surroundings → List ℕ → Component Choices → Repeats → Known → ℕ → PlacedChoices
placed_turns w name c repeats k count =
    in_each_turn (λ n. placed w c (turn_begun w.around (Mark mark.If) name c repeats k n)) count

-- what is known after them
abbrev pub after_choice_turns : Around → List ℕ → Component Choices → Repeats → Known → ℕ → Known
after_choice_turns a name c repeats k count = turn_by_turn (turned a (Mark mark.If) name c repeats) count k

-- How many turns of this number are tested: the last one is not, if the condition is TRUE.
abbrev pub turns_tested : ℕ → (is_true : Bool) → ℕ
turns_tested count true = count - 1
turns_tested count false = count

abbrev pub WritesSomeTurns : (s t : ProcessWriter) → calling.Surroundings → ℕ → List ℕ → Repeats → Component Choices → ℕ
    → Type 0
WritesSomeTurns s t a end name repeats c count =
    Writes s t (all_tested end (frame_seen s.frame)
    (placed_turns (surroundings_of a) name c repeats (known_of s.scope) count) s.label)
    (after_choice_turns (surroundings_of a).around name c repeats (known_of s.scope) count)

-- all turns, of an IF that ends at a label
abbrev pub turns_at : Surroundings → ℕ → List ℕ → Component Choices → Repeats → ℕ → Site → Option Code
turns_at w end name c repeats count s =
    choices_code end s.frame (with_ending (placed_turns w name c repeats s.known count)) s.label

abbrev pub WritesTurns : (s t : ProcessWriter) → calling.Surroundings → ℕ → List ℕ → Repeats → ℕ → Component Choices
    → Type 0
WritesTurns s t a end name repeats count c =
    Writes s t (turns_at (surroundings_of a) end name c repeats count (site_of s))
    (after_choice_turns (surroundings_of a).around name c repeats (known_of s.scope) count)
