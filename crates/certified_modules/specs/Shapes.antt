-- The shapes of code that a compiler writes pass where their parts do: rows, tests, choices and loops.
use Rattle.std.specs.Prelude.{◌≡◌, ◌≤◌, ℕ, ◌*◌, ℤ, List, [], ◌∷◌, ◌++◌, Some}
use Rattle.word_arithmetic.specs.Range.{Ends, IsRange}
use Rattle.states.specs.State.{known}
use Rattle.local_rules.specs.WordRules.{number_in}
use Rattle.code_pieces.specs.declared.operations.TheConstants.{STOP_PROCESS}
use Rattle.code_pieces.specs.declared.piece.RowEntry.{RowEntry}
use Rattle.code_pieces.specs.Pieces.{Piece, Jump, JumpUnless, LoopBack, Row, operates, points}
use Rattle.code_pieces.specs.Numbers.{turns_at}
use Rattle.certified_lines.specs.StraightRules.{Told, FallOn, with_pushed}
use Rattle.certified_lines.specs.Instructions.{IsCounted, word_pointer}
use Rattle.certified_lines.specs.Jumps.{fallen, jumped}
use Rattle.certified_modules.specs.RowsSay.{Implies, Enters}
use Rattle.certified_modules.specs.Passing.{Passage, OpenLabel, open_label, IsOpen, told_by, after_turns, EndsTurn, PassOn}

-- a row that is implied
abbrev pub RowsPass : Type 0
RowsPass = (g : Passage) (opened : List OpenLabel) (s : Told) (l : ℕ) (entries : List RowEntry)
    → Implies g.weights s.frame entries
    → PassOn g opened (Some s) (Row l entries ∷ []) (Some (told_by g entries))

-- `stopp`, and the row behind it
abbrev pub StopsPass : Type 0
StopsPass = (g : Passage) (opened : List OpenLabel) (s : Told) (l : ℕ) (entries : List RowEntry)
    → PassOn g opened (Some s) (operates STOP_PROCESS ∷ Row l entries ∷ []) (Some (told_by g entries))

-- what leaves a truth in A, and a jump where it does not hold
abbrev pub TestsPass : Type 0
TestsPass = (g : Passage) (opened : List OpenLabel) (s u : Told) (ps : List Piece) (l : ℕ) (r : Ends)
    (entries : List RowEntry) → FallOn g.setting ps s u → u.stack.a.fact ≡ number_in r → IsRange r
    → IsOpen opened l entries → Implies g.weights (jumped u).frame entries
    → PassOn g opened (Some s) (ps ++ JumpUnless l ∷ []) (Some (fallen u))

-- A choice: its test may jump to the row behind it, and behind its process a jump leads to a label further on.
abbrev pub ChoicesPass : Type 0
ChoicesPass = (g : Passage) (opened : List OpenLabel) (end next : ℕ) (at_end left : List RowEntry)
    (test taken : List Piece) (s u t : Told) → IsOpen opened end at_end
    → PassOn g (open_label next left ∷ opened) (Some s) test (Some u) → PassOn g opened (Some u) taken (Some t)
    → Implies g.weights t.frame at_end
    → PassOn g opened (Some s) (test ++ (taken ++ Jump end ∷ Row next left ∷ [])) (Some (told_by g left))

-- A loop: what stores its base and its count, its head, its body, the address of its block, the end of the turn, and the
-- row behind it.
abbrev pub LoopsPass : Type 0
LoopsPass = (g : Passage) (opened : List OpenLabel) (head behind count word : ℕ) (last : ℤ)
    (entries left : List RowEntry) (start body : List Piece) (s u t : Told)
    → PassOn g opened (Some s) start (Some u) → Enters g.weights u.frame head count entries
    → turns_at head entries ≡ Some count → PassOn g opened (Some (told_by g entries)) body (Some t)
    → IsCounted word → 4 * word ≤ 16777216
    → EndsTurn g head entries word last (with_pushed (known (word_pointer word)) t)
    → Implies g.weights (after_turns word last t.frame) left
    → PassOn g opened (Some s)
    ((start ++ Row head entries ∷ []) ++ (body ++ points word ∷ LoopBack head behind ∷ Row behind left ∷ []))
    (Some (told_by g left))
