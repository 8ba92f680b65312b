-- Code that is too much is so with more after it.
use Rattle.std.proofs.Common.{◌≡◌, ℕ, ◌*◌, ◌≤◌, nat_lt, Bool, true, false, List, ◌++◌, length, refl, ap, arith, ◌∙◌}
use Rattle.std.specs.Prelude.{◌||◌}
use Rattle.std.proofs.Math.Nat.{mul-le-mul_right}
use Rattle.std.proofs.lemmas.Bool.Decides.{nat_tests}
use Rattle.std.proofs.lemmas.List.{length-append}
use Rattle.std.proofs.lemmas.List.Sums.{sum_by-append}
use Rattle.std.proofs.Math.Bool.{or-true}
use Rattle.code_pieces.specs.Pieces.{Piece}
use Rattle.line_pieces.specs.declared.pieces.TheConstants.{GREATEST_COUNT, GREATEST_ROWS, GREATEST_SAID}
use Rattle.line_pieces.specs.declared.pieces.TheConstants.{GREATEST_LOOKS}
use Rattle.line_pieces.specs.Limits.{rows_at, said_at, rows_in, said_in, is_too_much}

above_more : (most n m : ℕ) → n ≤ m → nat_lt most n ≡ true → nat_lt most m ≡ true
above_more most n m h above = grind (arith, nat_tests)

-- one of two, each of which leads to another
either : (a b c d : Bool) → (a ≡ true → c ≡ true) → (b ≡ true → d ≡ true) → (a || b) ≡ true → (c || d) ≡ true
either true b c d f g h = ap (λ x. x || d) (f refl)
either false b c d f g h = ap (λ x. c || x) (g h) ∙ or-true c

pub too_much_stays : (names : ℕ) (ps qs : List Piece) → is_too_much names ps ≡ true
    → is_too_much names (ps ++ qs) ≡ true
unfolding is_too_much
too_much_stays names ps qs h =
    let all = ps ++ qs in
    let rows : rows_in ps ≤ rows_in all = omega (arith, sum_by-append rows_at ps qs) in
    let said : said_in ps ≤ said_in all = omega (arith, sum_by-append said_at ps qs) in
    let count : length ps ≤ length all = omega (arith, length-append ps qs) in
    either _ _ _ _
    (either _ _ _ _
    (either _ _ _ _ (above_more GREATEST_COUNT (length ps) (length all) count)
    (above_more GREATEST_ROWS (rows_in ps) (rows_in all) rows))
    (above_more GREATEST_SAID (said_in ps) (said_in all) said))
    (above_more GREATEST_LOOKS (rows_in ps * names) (rows_in all * names) (mul-le-mul_right names rows)) h
