-- Code that is put together of parts which have some has some.
use Rattle.std.proofs.Common.{◌≡◌, ℕ, zero, suc, ◌+◌, ◌<◌, ℤ, pos, negsuc, Bool, true, false, List, [], ◌∷◌, ◌++◌}
use Rattle.std.proofs.Common.{Option, Some, None, refl}
use Rattle.scalar_ranges.specs.Moves.{Known}
use Rattle.code_pieces.specs.Pieces.{Piece, Jump, Code, before, then_code, closed_by}
use Rattle.line_pieces.specs.Actions.{test_code}
use Rattle.line_pieces.specs.Declarations.{Frame}
use Rattle.code_generator.specs.Processes.{Site, row_of, PlacedChoice, PlacedChoices, NoChoice}
use Rattle.code_generator.specs.Processes.{ThenChoice, IfEnding, Stops, Always, Opens, EndedChoices, taken_code}
use Rattle.code_generator.specs.Processes.{tested_code, all_tested, ending_code, choices_code, with_ending}
use Rattle.code_generator.specs.Processes.{if_code, loop_start, loop_end, loop_code, has_scalar, no_loop}
use Rattle.code_generator.specs.Processes.{repeated_seq, in_each_turn, with_opening}
use Rattle.code_generator.proofs.EachChoice.{AllAre, EndingIs, EachIs, ending_each, opening_each, turns_each}

abbrev pub HasCode : Option Code → Type 0
HasCode None = ⊥
HasCode (Some c) = Unit {0}

pub found : (code : Option Code) → HasCode code → (c : Code) × (code ≡ Some c)
found None h = absurd h
found (Some c) h = (c, refl)

-- ---- code put together

pub before_has : (pieces : List Piece) (code : Option Code) → HasCode code → HasCode (before pieces code)
before_has pieces None h = h
before_has pieces (Some c) h = tt

pub closed_has : (pieces : List Piece) (code : Option Code) → HasCode code → HasCode (closed_by pieces code)
closed_has pieces None h = h
closed_has pieces (Some c) h = tt

pub then_has : (code : Option Code) (next : ℕ → Option Code) → HasCode code → ((label : ℕ) → HasCode (next label))
    → HasCode (then_code code next)
then_has None next h all = h
then_has (Some c) next h all = before_has c.pieces (next c.labels) (all c.labels)

-- ---- choices of an IF, whose processes have code where these are chosen

abbrev pub HasProcess : PlacedChoice → Type 0
HasProcess c = (f : Frame) (label : ℕ) → HasCode (taken_code f c label)

tested_has : (end : ℕ) (f : Frame) (c : PlacedChoice) (label : ℕ) → HasProcess c
    → HasCode (tested_code end f c label)
tested_has end f c label h =
    let behind = Jump end ∷ row_of label f c.after ∷ [] in
    let process = taken_code f c (label + 1) in
    before_has (test_code f.homes c.known.entries f.top c.condition label) (closed_by behind process)
    (closed_has behind process (h f (label + 1)))

all_tested_have : (end : ℕ) (f : Frame) (cs : PlacedChoices) (label : ℕ) → AllAre HasProcess cs
    → HasCode (all_tested end f cs label)
all_tested_have end f NoChoice label all = tt
all_tested_have end f (ThenChoice cs c) label all =
    then_has (all_tested end f cs label) (tested_code end f c) (all_tested_have end f cs label all.0)
    (λ label. tested_has end f c label all.1)

what_ends_has : (end : ℕ) (f : Frame) (x : IfEnding) (label : ℕ) → EndingIs HasProcess x
    → HasCode (ending_code end f x label)
what_ends_has end f Stops label h = tt
what_ends_has end f (Always c) label h = h f label
what_ends_has end f (Opens c) label h =
    before_has (test_code f.homes c.known.entries f.top c.condition end) (taken_code f c label) (h f label)

pub if_has : (s : Site) (f : Frame) (after : Known) (x : EndedChoices) → EachIs HasProcess x
    → HasCode (if_code s f after x)
if_has s f after x all =
    closed_has (row_of s.label s.frame after ∷ []) (choices_code s.label f x (s.label + 1))
    (then_has (all_tested s.label f x.tested (s.label + 1)) (ending_code s.label f x.ending)
    (all_tested_have s.label f x.tested (s.label + 1) all.0) (λ label. what_ends_has s.label f x.ending label all.1))

-- the same, with all choices that can be in the ending there
pub opened_if_has : (s : Site) (f : Frame) (after : Known) (cs : PlacedChoices) → AllAre HasProcess cs
    → HasCode (if_code s f after (with_opening (with_ending cs)))
opened_if_has s f after cs all =
    let each = ending_each HasProcess cs all in
    if_has s f after (with_opening (with_ending cs))
    (opening_each HasProcess (with_ending cs).tested (with_ending cs).ending each.0 each.1)

-- a choice under a replicator
pub repeated_if_has : (s : Site) (f : Frame) (after : Known) (choice : ℕ → PlacedChoice) (count : ℕ)
    → ((n : ℕ) → n < count → HasProcess (choice n))
    → HasCode (if_code s f after (with_ending (in_each_turn choice count)))
repeated_if_has s f after choice count all =
    let turns = in_each_turn choice count in
    if_has s f after (with_ending turns)
    (ending_each HasProcess turns (turns_each HasProcess choice count all))

-- ---- loops

-- A replicator over a SEQ has the code of its loop, or that of no turn.
pub repeated_is : (P : Option Code → Type 0) (s : Site) (changed : List ℕ) (after : Known) (base : ℤ)
    (loop : Option Code) (count : ℤ) → P (no_loop (has_scalar changed s.known.entries) s after) → P loop
    → P (repeated_seq s changed after base loop count)
repeated_is P s changed after base loop (pos zero) none h = none
repeated_is P s changed after base loop (pos (suc n)) none h = h
repeated_is P s changed after base loop (negsuc n) none h = h

no_loop_has : (changes : Bool) (s : Site) (after : Known) → HasCode (no_loop changes s after)
no_loop_has false s after = tt
no_loop_has true s after = tt

pub repeated_has : (s : Site) (changed : List ℕ) (after : Known) (base : ℤ) (loop : Option Code) (count : ℤ)
    → HasCode loop → HasCode (repeated_seq s changed after base loop count)
repeated_has s changed after base loop count h =
    repeated_is HasCode s changed after base loop count (no_loop_has (has_scalar changed s.known.entries) s after) h

pub loop_has : (s inner : Site) (after : Known) (base count : ℤ) (body : Option Code) → HasCode body
    → HasCode (loop_code s inner after base count body)
loop_has s inner after base count body h =
    let behind = loop_end s.frame.top s.label (row_of (s.label + 1) s.frame after) in
    before_has (loop_start s.frame.top base count ++ row_of s.label inner.frame inner.known ∷ [])
    (closed_by behind body) (closed_has behind body h)
