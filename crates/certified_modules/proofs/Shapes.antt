-- The shapes of code that a compiler writes pass where their parts do.
use Rattle.std.proofs.Common.{◌≡◌, List, [], ◌∷◌, ◌++◌, Some, None, inr, sym, ap, subst, ◌∙◌, append_assoc}
use Rattle.states.specs.State.{known}
use Rattle.code_pieces.specs.Pieces.{Piece, Jump, LoopBack, Row, points}
use Rattle.certified_lines.specs.StraightRules.{with_pushed}
use Rattle.certified_lines.specs.Instructions.{word_pointer}
use Rattle.certified_lines.proofs.Instructions.{addresses_are_known}
use Rattle.certified_modules.specs.Passing.{open_label, told_by, PassOn, none, both, straight, stops, jumps, tests}
use Rattle.certified_modules.specs.Passing.{closes, loops}
use Rattle.certified_modules.specs.Shapes.{RowsPass, StopsPass, TestsPass, ChoicesPass, LoopsPass}
use Rattle.certified_modules.proofs.PassingLaws.{passes_open}

pub rows_pass : RowsPass
rows_pass g opened s l entries implied = closes none implied

pub stops_pass : StopsPass
stops_pass g opened s l entries = closes stops tt

pub tests_pass : TestsPass
tests_pass g opened s u ps l r entries fall fact range is implied =
    both (straight fall) (tests r entries is fact range implied)

pub choices_pass : ChoicesPass
choices_pass g opened end next at_end left test taken s u t is tested passes implied =
    let row : Piece = Row next left in
    let inside : PassOn g (open_label next left ∷ opened) (Some s) (test ++ (taken ++ Jump end ∷ [])) None =
    both tested (both (passes_open passes (open_label next left ∷ opened) (λ l entries open_there. inr open_there))
    (jumps at_end (inr is) implied)) in
    let parts : (test ++ (taken ++ Jump end ∷ [])) ++ row ∷ [] ≡ test ++ (taken ++ Jump end ∷ row ∷ []) =
    append_assoc test (taken ++ Jump end ∷ []) (row ∷ [])
    ∙ ap (λ (xs : List Piece). test ++ xs) (append_assoc taken (Jump end ∷ []) (row ∷ [])) in
    subst (λ (xs : List Piece). PassOn g opened (Some s) xs (Some (told_by g left))) parts (closes inside tt)

pub loops_pass : LoopsPass
loops_pass g opened head behind count word last entries left start body s u t starts enters turns passes counts small
    ended implied =
    let first : List Piece = Row head entries ∷ [] in
    let tail : List Piece = LoopBack head behind ∷ Row behind left ∷ [] in
    let addressed : List Piece = body ++ points word ∷ [] in
    let turn : PassOn g opened (Some (told_by g entries)) addressed
    (Some (with_pushed (known (word_pointer word)) t)) =
    both passes (straight (addresses_are_known g.setting word t counts small)) in
    let loop : PassOn g opened (Some u) (first ++ (addressed ++ tail)) (Some (told_by g left)) =
    loops behind word last left enters turns turn ended implied in
    let body_is : addressed ++ tail ≡ body ++ points word ∷ tail = append_assoc body (points word ∷ []) tail in
    let parts : start ++ (first ++ (addressed ++ tail)) ≡ (start ++ first) ++ (body ++ points word ∷ tail) =
    ap (λ (xs : List Piece). start ++ (first ++ xs)) body_is
    ∙ sym (append_assoc start first (body ++ points word ∷ tail)) in
    subst (λ (xs : List Piece). PassOn g opened (Some s) xs (Some (told_by g left))) parts (both starts loop)
