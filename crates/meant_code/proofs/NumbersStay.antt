-- The number of a label is the same from any piece before it on: no other piece of a program has that label.
use Rattle.std.proofs.Common.{◌≡◌, ◌≤◌, ℕ, ◌+◌, Bool, true, false, cond, List, [], ◌∷◌, ◌++◌, length}
use Rattle.std.proofs.Common.{drop, Option, Some, None, refl, sym, ap, ◌∙◌, arith, inl, inr}
use Rattle.std.specs.Prelude.{if◌then◌else◌}
use Rattle.std.specs.Option.{option_to_list}
use Rattle.std.proofs.lemmas.Bool.Decides.{eqb_tells}
use Rattle.std.proofs.lemmas.List.{length-append}
use Rattle.code_pieces.specs.Pieces.{Piece, Direct, Row}
use Rattle.code_pieces.specs.Placing.{label_in}
use Rattle.code_pieces.specs.Numbers.{number_at, with_number, Needs, needs, is_stop, turns_at, at_head, needed_before}
use Rattle.code_pieces.specs.Numbers.{needs_of}
use Rattle.code_pieces.specs.Laying.{apart}
use Rattle.placed_code.specs.LaidCode.{labels_in}
use Rattle.meant_code.specs.Labels.{times_in}
use Rattle.meant_code.specs.NumbersStay.{NumbersStay}
use Rattle.meant_code.proofs.LabelLists.{times_both, times_in_both, same_is, most_once}
use Rattle.meant_code.proofs.OwnPrograms.{programs_are_own}

stop_keeps : (b : Bool) (l m n : ℕ) (after : Needs)
    → number_at l (cond b (needs m after) (needs n after)).labels ≡ number_at l after.labels
stop_keeps true l m n after = refl
stop_keeps false l m n after = refl

head_keeps : (o : Option ℕ) (l m : ℕ) (after : Needs)
    → number_at l (at_head m o after).labels ≡ number_at l after.labels
head_keeps None l m after = refl
head_keeps (Some count) l m after = refl

-- a piece that doesn't place the label leaves its number
piece_keeps : (p : Piece) (n l : ℕ) (after : Needs) → times_in l (option_to_list (label_in p)) ≡ 0
    → number_at l (needed_before p n after).labels ≡ number_at l after.labels
piece_keeps (Direct f operand) n l after other = stop_keeps (is_stop f operand) l n (n + after.need) after
piece_keeps (Row m entries) n l after other =
    head_keeps (turns_at m entries) l m (record after { labels = with_number m after.need after.labels })
    ∙ elim (eqb_tells m l) [
      | inl there ↦ let once = same_is l m (sym there.1) in absurd (omega (arith, once, other))
      | inr differ ↦ ap (λ (b : Bool). if b then after.need else number_at l after.labels) differ.0
    ]
piece_keeps p n l after other = refl

pieces_keep : (l : ℕ) (ps qs : List Piece) (sizes : List ℕ) → length ps ≤ length sizes
    → times_in l (labels_in ps) ≡ 0
    → number_at l (needs_of (ps ++ qs) sizes).labels ≡ number_at l (needs_of qs (drop (length ps) sizes)).labels
pieces_keep l [] qs sizes long none = refl
pieces_keep l (p ∷ ps) qs [] long none = absurd (omega (arith, long))
pieces_keep l (p ∷ ps) qs (n ∷ sizes) long none =
    let sum = times_both l (option_to_list (label_in p)) (labels_in ps) in
    piece_keeps p n l (needs_of (ps ++ qs) sizes) (omega (arith, none, sum))
    ∙ pieces_keep l ps qs sizes (omega (arith, long)) (omega (arith, none, sum))

pub numbers_stay : NumbersStay
numbers_stay items c is done later whole sizes long l there =
    let own = (programs_are_own items c is).1 in
    let most = most_once 0 c.labels (labels_in (apart c.pieces)) own.once l in
    let parts : times_in l (labels_in (apart c.pieces)) ≡ times_in l (labels_in done) + times_in l (labels_in later) =
    ap (λ (ps : List Piece). times_in l (labels_in ps)) whole ∙ times_in_both l done later in
    let count : length (apart c.pieces) ≡ length done + length later =
    ap (λ (ps : List Piece). length ps) whole ∙ length-append done later in
    ap (λ (ps : List Piece). number_at l (needs_of ps sizes).labels) whole
    ∙ pieces_keep l done later sizes (omega (arith, count, long)) (omega (arith, parts, most, there))
