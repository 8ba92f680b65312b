-- The lines that a loop from the last one on has left.
use Rattle.std.proofs.Common.{◌≡◌, ℕ, ◌+◌, ◌≤◌, Bool, true, false, cond, List, [], ◌∷◌, ◌++◌, length, Option, Some}
use Rattle.std.proofs.Common.{None}
use Rattle.std.proofs.Common.{refl, sym, ap, ◌∙◌, arith}
use Rattle.std.proofs.lemmas.List.{map-append}
use Rattle.std.specs.Prelude.{MatchOption}
use Rattle.std.specs.List.{IsLastAndRest}
use Rattle.std.specs.Borrow.{Bor}
use Rattle.occam_layout.specs.declared.token.Line.{Line}
use Rattle.occam_parser.specs.Blocks.{Row, row_of, rows_of}
use Rattle.reason_texts.specs.Contexts.{later_or, last_that}

-- the last line that is wanted, if this one and those before it are left
abbrev pub last_left : (Row → Bool) → Option (Bor Line × Bor (List Line)) → Option (Row × List Row)
last_left wanted None = None
last_left wanted (Some x) = last_that wanted (rows_of x.1.now ++ row_of x.0.now ∷ [])

abbrev pub left_len : Option (Bor Line × Bor (List Line)) → ℕ
left_len None = 0
left_len (Some x) = length x.1.now + 1

none_left : (wanted : Row → Bool) (lines : List Line) → length lines ≡ 0
    → last_left wanted None ≡ last_that wanted (rows_of lines)
unfolding last_that
none_left wanted [] e = refl
none_left wanted (l ∷ lines) e = absurd (omega (arith, e))

pub left_is : (wanted : Row → Bool) (lines : List Line) (o : Option (Bor Line × Bor (List Line)))
    → MatchOption o (length lines ≡ 0) (λ p. IsLastAndRest lines p.0.now p.1.now)
    → last_left wanted o ≡ last_that wanted (rows_of lines)
left_is wanted lines None h = none_left wanted lines h
left_is wanted lines (Some p) h =
    ap (last_that wanted) (sym (ap rows_of h.0 ∙ map-append row_of p.1.now (p.0.now ∷ [])))

pub left_len_is : (lines : List Line) (o : Option (Bor Line × Bor (List Line)))
    → MatchOption o (length lines ≡ 0) (λ p. IsLastAndRest lines p.0.now p.1.now) → left_len o ≡ length lines
left_len_is lines None h = sym h
left_len_is lines (Some p) h = h.1

before_or : (wanted : Row → Bool) (here : Bool) (r s : Row) (rows : List Row)
    → later_or (wanted s) s (cond here (Some (r, rows)) (last_that wanted rows))
    ≡ cond here (Some (r, s ∷ rows)) (later_or (wanted s) s (last_that wanted rows))
before_or wanted true r s rows = refl
before_or wanted false r s rows = refl

last_step : (wanted : Row → Bool) (rows : List Row) (r : Row)
    → last_that wanted (rows ++ r ∷ []) ≡ cond (wanted r) (Some (r, rows)) (last_that wanted rows)
unfolding last_that
last_step wanted [] r = refl
last_step wanted (s ∷ rows) r =
    ap (later_or (wanted s) s) (last_step wanted rows r) ∙ before_or wanted (wanted r) r s rows

-- the line that comes next is wanted
pub is_here : (wanted : Row → Bool) (rows : List Row) (r : Row) → wanted r ≡ true
    → Some (r, rows) ≡ last_that wanted (rows ++ r ∷ [])
is_here wanted rows r h = sym (last_step wanted rows r ∙ rw h refl)

-- it is not
pub is_before : (wanted : Row → Bool) (rows : List Row) (r : Row) → wanted r ≡ false
    → last_that wanted (rows ++ r ∷ []) ≡ last_that wanted rows
is_before wanted rows r h = last_step wanted rows r ∙ rw h refl

-- a line that is not wanted is passed
pub passes : (wanted : Row → Bool) (total : Option (Row × List Row)) (next after : Option (Bor Line × Bor (List Line)))
    (line : Bor Line) (before : Bor (List Line)) → next ≡ Some (line, before) → wanted (row_of line.now) ≡ false
    → MatchOption after (length before.now ≡ 0) (λ p. IsLastAndRest before.now p.0.now p.1.now)
    → last_left wanted next ≡ total → last_left wanted after ≡ total
passes wanted total next after line before is_next other split so_far =
    let now : last_that wanted (rows_of before.now ++ row_of line.now ∷ []) ≡ total = rw is_next at so_far in
    left_is wanted before.now after split ∙ sym (is_before wanted (rows_of before.now) (row_of line.now) other) ∙ now

-- and fewer lines are left
pub fewer : (len : ℕ) (next after : Option (Bor Line × Bor (List Line))) (line : Bor Line) (before : Bor (List Line))
    → next ≡ Some (line, before)
    → MatchOption after (length before.now ≡ 0) (λ p. IsLastAndRest before.now p.0.now p.1.now)
    → left_len next ≤ len → left_len after ≤ len
fewer len next after line before is_next split le =
    let now : length before.now + 1 ≤ len = rw is_next at le in
    omega (arith, now, left_len_is before.now after split)
