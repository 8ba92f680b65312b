-- The lines that a loop over items has left.
use Rattle.std.proofs.Common.{◌≡◌, ℕ, ◌+◌, ◌≤◌, List, [], ◌∷◌, length, Option, Some, None, refl, sym, ap, arith}
use Rattle.std.proofs.lemmas.List.{length-map}
use Rattle.std.specs.Prelude.{MatchOption}
use Rattle.std.specs.List.{IsFirstAndRest}
use Rattle.std.specs.Borrow.{Bor}
use Rattle.occam_layout.specs.declared.token.Line.{Line}
use Rattle.occam_parser.specs.Blocks.{Row, row_of, rows_of}

abbrev pub rows_left : Option (Bor Line × Bor (List Line)) → List Row
rows_left None = []
rows_left (Some x) = row_of x.0.now ∷ rows_of x.1.now

abbrev pub left_len : Option (Bor Line × Bor (List Line)) → ℕ
left_len None = 0
left_len (Some x) = length x.1.now + 1

none_left : (lines : List Line) → length lines ≡ 0 → rows_left None ≡ rows_of lines
none_left [] e = refl
none_left (l ∷ lines) e = absurd (omega arith)

pub left_is : (lines : List Line) (o : Option (Bor Line × Bor (List Line)))
    → MatchOption o (length lines ≡ 0) (λ p. IsFirstAndRest lines p.0.now p.1.now) → rows_left o ≡ rows_of lines
left_is lines None h = none_left lines h
left_is lines (Some p) h = sym (ap rows_of h.0)

pub left_len_is : (lines : List Line) (o : Option (Bor Line × Bor (List Line)))
    → MatchOption o (length lines ≡ 0) (λ p. IsFirstAndRest lines p.0.now p.1.now) → left_len o ≡ length lines
left_len_is lines None h = sym h
left_len_is lines (Some p) h = h.1

pub rows_no_more : (lines others : List Line) → length lines ≤ length others
    → length (rows_of lines) ≤ length (rows_of others)
rows_no_more lines others h = omega (arith, length-map lines row_of, length-map others row_of)
