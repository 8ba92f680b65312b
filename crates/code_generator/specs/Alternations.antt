-- What it is to write an alternation: the guards that are chosen, the branches, and what is known after them.
use Rattle.std.specs.Prelude.{◌≡◌, ℕ, ◌+◌, ℤ, pos, Bool, true, false, ◌&&◌, ◌||◌, List, [], ◌∷◌, ◌++◌}
use Rattle.std.specs.Prelude.{if◌then◌else◌, Option, Some, None, unwrap_or, is_some}
use Rattle.std.specs.Ordering.{int_eq}
use Rattle.occam_layout.specs.declared.mark.Mark.TheVariants as mark
use Rattle.occam_parser.specs.Terminals.{Mark}
use Rattle.occam_parser.specs.Expressions.{Expression}
use Rattle.occam_parser.specs.Lines.{Place as Destination, Replicator, Guard, Skips}
use Rattle.occam_parser.specs.Lines as lines
use Rattle.occam_parser.specs.Blocks.{Part, Branches, Components, NoComponent, Further, Component, Plain}
use Rattle.occam_parser.specs.Blocks.{Chosen, Guarded}
use Rattle.scalar_ranges.specs.Entries.{Entry}
use Rattle.scalar_ranges.specs.Bounds.{bound_of, exact_value}
use Rattle.scalar_ranges.specs.Narrowing.{test_of}
use Rattle.scalar_ranges.specs.Moves.{Known, begin, end}
use Rattle.scalar_ranges.specs.Scopes.{known_of}
use Rattle.program_uses.specs.Actions.{Around, is_before}
use Rattle.program_uses.specs.Indices.{repeats_of, seen_repeats, turn_by_turn}
use Rattle.usage_checks.specs.AfterProcesses.{after_components, after_component, begun_body, repeated}
use Rattle.usage_checks.specs.Following.{after_guard, after_input, where_holds}
use Rattle.usage_checks.specs.NameRules.{with_entries}
use Rattle.code_pieces.specs.declared.operations.TheConstants.{STOP_PROCESS}
use Rattle.code_pieces.specs.Pieces.{Piece, Jump, operates}
use Rattle.code_pieces.specs.Pieces.{Code, no_code, before, then_code, closed_by}
use Rattle.code_generator.specs.declared.alternatives.Replication.{Replication}
use Rattle.code_generator.specs.declared.calling.Surroundings as calling
use Rattle.code_generator.specs.declared.processes.ProcessWriter.{ProcessWriter}
use Rattle.code_generator.specs.declared.guards.Source.{Source}
use Rattle.code_generator.specs.declared.guards.Labels.{Labels}
use Rattle.code_generator.specs.declared.guards.Exits.{Exits}
use Rattle.line_pieces.specs.Actions.{input_code, test_code}
use Rattle.code_generator.specs.Waiting.{condition_in, next_of, exits_of}
use Rattle.code_generator.specs.CallViews.{surroundings_of}
use Rattle.line_pieces.specs.FrameViews.{frame_seen}
use Rattle.code_generator.specs.Processes.{Site, Surroundings, at_place, row_of, turned, turn_begun}
use Rattle.code_generator.specs.Processes.{process_code}
use Rattle.code_generator.specs.Written.{site_of, Writes}
use Rattle.line_pieces.specs.Declarations.{Frame}

-- ---- branches

abbrev pub tested_by : Option ℤ → Bool → Bool → Bool
tested_by (Some v) has_next narrows = int_eq v (pos 0) && has_next
tested_by None has_next narrows = has_next || narrows

-- Whether a guard that is chosen is tested again: if it is not TRUE, and another one waits for the same or it narrows.
abbrev pub is_tested : List Entry → Option ℕ → Expression → Bool
is_tested es next e = tested_by (exact_value (bound_of es e)) (is_some next) (is_some (test_of es e))

-- What is known goes on as this, and what names denote is as before.
pub record GoesOn (s t : ProcessWriter) (after : Known) : Type 0 where
  pub known : known_of t.scope ≡ after
  pub frame : frame_seen t.frame ≡ frame_seen s.frame

abbrev pub StaysSo : (s t : ProcessWriter) → Type 0
StaysSo s t = GoesOn s t (known_of s.scope)

-- A guard goes on at the next one of its channel where its condition does not hold, or else at a label that is free.
abbrev pub test_again : Site → Option ℕ → Expression → List Piece
test_again z next e =
    if is_tested z.known.entries next e
    then test_code z.frame.homes z.known.entries z.frame.top e (unwrap_or next z.label) else []

abbrev pub stops_by : Bool → Option ℕ → ℕ → Option ℕ
stops_by false next label = None
stops_by true None label = Some label
stops_by true (Some n) label = None

-- the label that is taken, where the process stops
abbrev pub stops_at : Site → Option ℕ → Option Expression → Option ℕ
stops_at z next None = None
stops_at z next (Some e) = stops_by (is_tested z.known.entries next e) next z.label

abbrev pub label_behind : Option ℕ → ℕ → ℕ
label_behind None label = label
label_behind (Some stops) label = stops + 1

abbrev pub condition_code : Site → Option ℕ → Option Expression → List Piece
condition_code z next None = []
condition_code z next (Some e) = test_again z next e

-- a guard that is chosen, before its process
abbrev pub guard_code : Site → Option ℕ → Guard → List Piece
guard_code z next (lines.Receives e channel target) =
    condition_code z next e
    ++ input_code z.frame.homes (where_holds e z.known.entries) z.frame.top channel target
guard_code z next (Skips e) = condition_code z next (Some e)

abbrev pub stopping : Option ℕ → Frame → Known → List Piece
stopping None f k = []
stopping (Some label) f k = row_of label f k ∷ operates STOP_PROCESS ∷ []

-- Some pieces were appended, and this is where the process stops if a condition does not hold.
pub record WritesGuard (s t : ProcessWriter) (pieces : List Piece) (found wanted : Option ℕ) (after : Known)
    : Type 0 where
  pub code : t.listing ≡ s.listing ++ pieces
  pub stops : found ≡ wanted
  pub label : t.label ≡ label_behind wanted s.label
  pub known : known_of t.scope ≡ after
  pub frame : frame_seen t.frame ≡ frame_seen s.frame

abbrev pub Chooses : (s t : ProcessWriter) → (next stops : Option ℕ) → Guard → Type 0
Chooses s t next stops g =
    WritesGuard s t (guard_code (site_of s) next g) stops (stops_at (site_of s) next (condition_in g))
    (with_entries (after_guard g) (known_of s.scope))

abbrev pub Narrows : (s t : ProcessWriter) → (next stops : Option ℕ) → Option Expression → Type 0
Narrows s t next stops e =
    WritesGuard s t (condition_code (site_of s) next e) stops (stops_at (site_of s) next e)
    (with_entries (where_holds e) (known_of s.scope))

abbrev pub Tests : (s t : ProcessWriter) → (next stops : Option ℕ) → Expression → Type 0
Tests s t next stops e =
    WritesGuard s t (test_again (site_of s) next e) stops (stops_at (site_of s) next (Some e)) (known_of s.scope)

pub record Receives (s t : ProcessWriter) (channel target : Destination) : Type 0 where
  pub code : t.listing ≡ s.listing
      ++ input_code (frame_seen s.frame).homes (known_of s.scope).entries s.frame.top channel target
  pub site : site_of t ≡ at_place (with_entries (after_input target) (known_of s.scope)) s.label (site_of s)

pub record WritesStop (s t : ProcessWriter) (label : Option ℕ) : Type 0 where
  pub code : t.listing ≡ s.listing ++ stopping label (frame_seen s.frame) (known_of s.scope)
  pub site : site_of t ≡ site_of s

-- where the process of a branch begins
abbrev pub in_branch : Option ℕ → Guard → Site → Site
in_branch next g s =
    at_place (with_entries (after_guard g) s.known) (label_behind (stops_at s next (condition_in g)) s.label) s

abbrev pub branch_code : {part : Part} → Surroundings → Exits → Component part → Site → Option Code
branch_code w x (Plain p) s = None
branch_code w x (Chosen line e p) s = None
branch_code w x (Guarded line g p) s =
    let after = after_component w.around (Mark mark.Alt) (Guarded line g p) s.known in
    before (row_of x.here s.frame s.known ∷ guard_code s x.next g)
    (closed_by (Jump x.end ∷ stopping (stops_at s x.next (condition_in g)) s.frame after)
    (process_code w p (in_branch x.next g s)))

abbrev pub WritesBranch : {part : Part} → (s t : ProcessWriter) → calling.Surroundings → Exits → Component part → Type 0
WritesBranch s t a x c =
    Writes s t (branch_code (surroundings_of a) x c (site_of s))
    (after_component (surroundings_of a).around (Mark mark.Alt) c (known_of s.scope))

-- the labels of each guard
abbrev pub exits_in : Labels → List Source → ℕ → Exits
exits_in l xs number = exits_of l (next_of number xs) number

abbrev pub count_of : {part : Part} → Components part → ℕ
count_of NoComponent = 0
count_of (Further cs c) = count_of cs + 1

abbrev pub branches_code : {part : Part} → Surroundings → (ℕ → Exits) → Components part → Site → Option Code
branches_code w exits NoComponent s = no_code s.label
branches_code w exits (Further cs c) s =
    then_code (branches_code w exits cs s)
    (λ label. branch_code w (exits (count_of cs)) c
    (at_place (after_components w.around (Mark mark.Alt) cs s.known) label s))

abbrev pub WritesBranches : {part : Part} → (s t : ProcessWriter) → calling.Surroundings → (ℕ → Exits)
    → Components part → Type 0
WritesBranches s t a exits cs =
    Writes s t (branches_code (surroundings_of a) exits cs (site_of s))
    (after_components (surroundings_of a).around (Mark mark.Alt) cs (known_of s.scope))

-- a branch under a replicator, in this number of turns
abbrev pub after_some : Around → Replication → Component Branches → ℕ → Known → Known
after_some a x c n k = turn_by_turn (turned a (Mark mark.Alt) x.name.now c (seen_repeats x.repeats)) n k

-- where a branch begins in a turn, if the turns begin at this site
abbrev pub turn_site : Around → Replication → Component Branches → Site → (turn label : ℕ) → Site
turn_site a x c s n label =
    at_place (turn_begun a (Mark mark.Alt) x.name.now c (seen_repeats x.repeats) s.known n) label s

abbrev pub some_code : Surroundings → (ℕ → Exits) → Replication → Component Branches → ℕ → Site → Option Code
some_code w exits x c n s =
    turn_by_turn (λ m code. then_code code (λ label. branch_code w (exits m) c (turn_site w.around x c s m label)))
    n (no_code s.label)

abbrev pub WritesSome : (s t : ProcessWriter) → calling.Surroundings → (ℕ → Exits) → Replication → Component Branches
    → ℕ → Type 0
WritesSome s t a exits x c n =
    Writes s t (some_code (surroundings_of a) exits x c n (site_of s))
    (after_some (surroundings_of a).around x c n (known_of s.scope))

abbrev pub FollowsAlt : (s t : ProcessWriter) → calling.Surroundings → Components Branches → Type 0
FollowsAlt s t a cs =
    GoesOn s t (end (after_components (surroundings_of a).around (Mark mark.Alt) cs (begin (known_of s.scope))))

-- what is known after an ALT of a branch under a replicator
abbrev pub after_turns : Around → ℕ → Replicator → Component Branches → Known → Known
after_turns a line r c k =
    let repeats = repeats_of (is_before line a.uncounted) k.entries false r in
    repeated repeats.happens (turn_by_turn (turned a (Mark mark.Alt) r.name c repeats) repeats.turns.count
    (begun_body (Mark mark.Alt) [] repeats.happens k))

abbrev pub FollowsRepeatedAlt : (s t : ProcessWriter) → calling.Surroundings → ℕ → Replicator → Component Branches
    → Type 0
FollowsRepeatedAlt s t a line r c = GoesOn s t (after_turns (surroundings_of a).around line r c (known_of s.scope))
