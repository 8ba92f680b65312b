-- What branches have in common: lists of intervals that rise are gone over together, and the branches of rows keep the
-- rules.
use Rattle.std.proofs.Common.{◌≡◌, ℕ, zero, suc, ◌+◌, ◌-◌, ◌<◌, ◌≤◌, ℤ, ◌≤ℤ◌, true, false, List, [], ◌∷◌, length}
use Rattle.std.proofs.Common.{map, take, get_or, ◌++◌, Option, Some, None, refl, sym, ap, subst, ◌∙◌, arith, w32}
use Rattle.std.proofs.Common.{FitsSigned}
use Rattle.std.specs.Prelude.{int_lt, int_le, slice_get}
use Rattle.std.specs.List.{AllByRecursion, list_any}
use Rattle.std.proofs.Math.Bool.{and-false}
use Rattle.std.proofs.lemmas.Int.{ints}
use Rattle.module_format.specs.declared.rows.Interval.{Interval}
use Rattle.module_format.specs.declared.rows.EndKey.{EndKey}
use Rattle.module_format.specs.declared.rows.EndRow.{EndRow}
use Rattle.module_format.specs.Rows.{BranchRow, ParRow}
use Rattle.module_format.specs.declared.tables.Tables.{Tables}
use Rattle.module_format.specs.Contents.{Par, Contents, branch_of, par_of, contents_of}
use Rattle.module_format.specs.Contexts.{first_branch}
use Rattle.module_format.specs.Order.{InOrder}
use Rattle.module_format.specs.Pars.{IntervalKeeps, behind_interval, intervals_meet}
use Rattle.module_format.specs.Pars.{EndKeeps, behind_end, key_of, is_below}
use Rattle.module_format.specs.Pars.{GiftsKeep, BranchKeeps, behind_branch, ParKeeps, behind_par, no_branches}
use Rattle.module_format.specs.Keeping.{Keeps}
use Rattle.module_format.proofs.OrderLaws.{each}
use Rattle.module_format.proofs.PlaceLaws.{item_there}
use Rattle.std.proofs.lemmas.List.{take-map}
use Rattle.small_laws.proofs.Comparisons.{le-int_lt, int_le-false, int_le-true, lt-int_lt}
use Rattle.small_laws.proofs.Lookups.{AllByRecursion_at}
use Rattle.certificate.specs.Rights.{is_same_end}
use Rattle.certificate.specs.Siblings.{have_common_word, have_common_end, first_branches}
use Rattle.certificate.specs.Judged.{IsJudged, AreJudged}
use Rattle.certificate.specs.declared.judged.Judged.{Judged}
use Rattle.certificate.proofs.EndOrder.{below_behind, below_differs, above_differs, neither_below}

-- ---- words in common

-- intervals from some word on
pub record Rise (is : List Interval) : Type 0 where
  pub low : ℤ
  pub order : InOrder IntervalKeeps behind_interval low is

-- those after the first one
pub rise_after : (i : Interval) (is : List Interval) → Rise (i ∷ is) → Rise is
rise_after i is h = record { low = i.hi; order = h.order.1 }

-- an interval that ends where others begin has no word of them
none_meets : (i : Interval) (low : ℤ) (is : List Interval) → InOrder IntervalKeeps behind_interval low is → i.hi ≤ℤ low
    → list_any (intervals_meet i) is ≡ false
none_meets i low [] h le = refl
none_meets i low (x ∷ is) h le =
    let a = h.0.apart in
    let b = h.0.some in
    let before : i.hi ≤ℤ x.lo = grind (arith, ints) in
    let further : i.hi ≤ℤ x.hi = grind (arith, ints) in
    rw (le-int_lt x.lo i.hi before, and-false (int_lt i.lo x.hi)) (none_meets i x.hi is h.1 further)

-- it may be left out
left_out : (i : Interval) (is : List Interval) (low : ℤ) (others : List Interval)
    → InOrder IntervalKeeps behind_interval low others → i.hi ≤ℤ low
    → have_common_word (i ∷ is) others ≡ have_common_word is others
left_out i is low [] h le = refl
left_out i is low (x ∷ others) h le =
    let a = h.0.apart in
    let b = h.0.some in
    let before : i.hi ≤ℤ x.lo = grind (arith, ints) in
    let further : i.hi ≤ℤ x.hi = grind (arith, ints) in
    rw (le-int_lt x.lo i.hi before, left_out i is x.hi others h.1 further) refl

module _ (one other : Interval) (ones others : List Interval) where
  -- the first one ends where the first of the others begins, or before it
  pub one_is_passed : Rise (other ∷ others) → int_le one.hi other.lo ≡ true
      → have_common_word ones (other ∷ others) ≡ have_common_word (one ∷ ones) (other ∷ others)
  one_is_passed h e =
      let kept = h.order.0 in
      let before = int_le-true one.hi other.lo e in
      let same : other.lo ≤ℤ other.lo = grind (arith, ints) in
      let here : IntervalKeeps other.lo other =
      record { lo_fits = kept.lo_fits; hi_fits = kept.hi_fits; apart = same; some = kept.some } in
      sym (left_out one ones other.lo (other ∷ others) (here, h.order.1) before)

  pub other_is_passed : Rise (one ∷ ones) → int_le other.hi one.lo ≡ true
      → have_common_word (one ∷ ones) others ≡ have_common_word (one ∷ ones) (other ∷ others)
  other_is_passed h e =
      let kept = h.order.0 in
      let before = int_le-true other.hi one.lo e in
      let same : one.lo ≤ℤ one.lo = grind (arith, ints) in
      let here : IntervalKeeps one.lo one =
      record { lo_fits = kept.lo_fits; hi_fits = kept.hi_fits; apart = same; some = kept.some } in
      rw (none_meets other one.lo (one ∷ ones) (here, h.order.1) before) refl

  pub both_meet : int_le one.hi other.lo ≡ false → int_le other.hi one.lo ≡ false
      → true ≡ have_common_word (one ∷ ones) (other ∷ others)
  both_meet e f =
      rw (
        lt-int_lt other.lo one.hi (int_le-false one.hi other.lo e),
        lt-int_lt one.lo other.hi (int_le-false other.hi one.lo f),
      ) refl

-- none has a word of no intervals
pub nothing_in_common : (others : List Interval) → false ≡ have_common_word [] others
nothing_in_common [] = refl
nothing_in_common (x ∷ others) = nothing_in_common others

-- the same of lists of which the first are known
pub rise_left : (left ones : List Interval) (one : Interval) → left ≡ one ∷ ones → Rise left → Rise ones
rise_left left ones one is h = rise_after one ones (subst Rise is h)

module _ (left right : List Interval) (one other : Interval) (ones others : List Interval) (l : left ≡ one ∷ ones)
    (r : right ≡ other ∷ others) where
  pub one_left : Rise right → int_le one.hi other.lo ≡ true → have_common_word ones right ≡ have_common_word left right
  one_left h e =
      subst (λ (y : List Interval). have_common_word ones y ≡ have_common_word left y) (sym r)
      (subst (λ (x : List Interval). have_common_word ones (other ∷ others) ≡ have_common_word x (other ∷ others))
      (sym l)
      (one_is_passed one other ones others (subst Rise r h) e))

  pub other_left : Rise left → int_le other.hi one.lo ≡ true
      → have_common_word left others ≡ have_common_word left right
  other_left h e =
      subst (λ (y : List Interval). have_common_word left others ≡ have_common_word left y) (sym r)
      (subst (λ (x : List Interval). have_common_word x others ≡ have_common_word x (other ∷ others)) (sym l)
      (other_is_passed one other ones others (subst Rise l h) e))

pub none_left : (left right : List Interval) → length left ≡ 0 → false ≡ have_common_word left right
none_left [] right is = nothing_in_common right
none_left (x ∷ left) right is = absurd (omega (arith, is))

-- the first of them is a pair of words
pub first_fits : (left ones : List Interval) (one : Interval) → left ≡ one ∷ ones → Rise left
    → FitsSigned w32 one.lo × FitsSigned w32 one.hi
first_fits left ones one is h = let kept = (subst Rise is h).order.0 in (kept.lo_fits, kept.hi_fits)

-- ---- ends in common

-- ends after some key
pub record EndsRise (es : List EndRow) : Type 0 where
  pub low : EndKey
  pub order : InOrder EndKeeps behind_end low es

pub ends_after : (e : EndRow) (es : List EndRow) → EndsRise (e ∷ es) → EndsRise es
ends_after e es h = record { low = key_of e; order = h.order.1 }

-- an end before others is none of them
none_is : (e : EndRow) (low : EndKey) (es : List EndRow) → InOrder EndKeeps behind_end low es
    → ((x : EndRow) → is_below low (key_of x) ≡ true → is_below (key_of e) (key_of x) ≡ true)
    → list_any (λ one. is_same_end (key_of one) (key_of e)) es ≡ false
none_is e low [] h below = refl
none_is e low (x ∷ es) h below =
    let here = below x h.0.rises in
    rw (above_differs (key_of x) (key_of e) here)
    (none_is e (key_of x) es h.1 (λ y after. below_behind (key_of e) (key_of x) (key_of y) here after))

end_left_out : (e : EndRow) (es : List EndRow) (low : EndKey) (others : List EndRow)
    → InOrder EndKeeps behind_end low others
    → ((x : EndRow) → is_below low (key_of x) ≡ true → is_below (key_of e) (key_of x) ≡ true)
    → have_common_end (e ∷ es) others ≡ have_common_end es others
end_left_out e es low [] h below = refl
end_left_out e es low (x ∷ others) h below =
    let here = below x h.0.rises in
    let later = λ (y : EndRow) (after : is_below (key_of x) (key_of y) ≡ true).
    below_behind (key_of e) (key_of x) (key_of y) here after in
    rw (below_differs (key_of e) (key_of x) here, end_left_out e es (key_of x) others h.1 later) refl

module _ (one other : EndRow) (ones others : List EndRow) where
  pub one_end_is_passed : EndsRise (other ∷ others) → is_below (key_of one) (key_of other) ≡ true
      → have_common_end ones (other ∷ others) ≡ have_common_end (one ∷ ones) (other ∷ others)
  one_end_is_passed h e =
      let later = λ (y : EndRow) (after : is_below (key_of other) (key_of y) ≡ true).
      below_behind (key_of one) (key_of other) (key_of y) e after in
      rw (below_differs (key_of one) (key_of other) e, end_left_out one ones (key_of other) others h.order.1 later) refl

  pub other_end_is_passed : EndsRise (one ∷ ones) → is_below (key_of other) (key_of one) ≡ true
      → have_common_end (one ∷ ones) others ≡ have_common_end (one ∷ ones) (other ∷ others)
  other_end_is_passed h e =
      let later = λ (y : EndRow) (after : is_below (key_of one) (key_of y) ≡ true).
      below_behind (key_of other) (key_of one) (key_of y) e after in
      rw (above_differs (key_of one) (key_of other) e, none_is other (key_of one) ones h.order.1 later) refl

  pub both_are_same : is_below (key_of one) (key_of other) ≡ false → is_below (key_of other) (key_of one) ≡ false
      → true ≡ have_common_end (one ∷ ones) (other ∷ others)
  both_are_same e f = rw (neither_below (key_of one) (key_of other) e f) refl

pub no_end_in_common : (others : List EndRow) → false ≡ have_common_end [] others
no_end_in_common [] = refl
no_end_in_common (x ∷ others) = no_end_in_common others

pub ends_left : (left ones : List EndRow) (one : EndRow) → left ≡ one ∷ ones → EndsRise left → EndsRise ones
ends_left left ones one is h = ends_after one ones (subst EndsRise is h)

module _ (left right : List EndRow) (one other : EndRow) (ones others : List EndRow) (l : left ≡ one ∷ ones)
    (r : right ≡ other ∷ others) where
  pub one_end_left : EndsRise right → is_below (key_of one) (key_of other) ≡ true
      → have_common_end ones right ≡ have_common_end left right
  one_end_left h e =
      subst (λ (y : List EndRow). have_common_end ones y ≡ have_common_end left y) (sym r)
      (subst (λ (x : List EndRow). have_common_end ones (other ∷ others) ≡ have_common_end x (other ∷ others)) (sym l)
      (one_end_is_passed one other ones others (subst EndsRise r h) e))

  pub other_end_left : EndsRise left → is_below (key_of other) (key_of one) ≡ true
      → have_common_end left others ≡ have_common_end left right
  other_end_left h e =
      subst (λ (y : List EndRow). have_common_end left others ≡ have_common_end left y) (sym r)
      (subst (λ (x : List EndRow). have_common_end x others ≡ have_common_end x (other ∷ others)) (sym l)
      (other_end_is_passed one other ones others (subst EndsRise l h) e))

  pub same_left : is_below (key_of one) (key_of other) ≡ false → is_below (key_of other) (key_of one) ≡ false
      → true ≡ have_common_end left right
  same_left e f =
      subst (λ (y : List EndRow). true ≡ have_common_end left y) (sym r)
      (subst (λ (x : List EndRow). true ≡ have_common_end x (other ∷ others)) (sym l)
      (both_are_same one other ones others e f))

pub no_end_left : (left right : List EndRow) → length left ≡ 0 → false ≡ have_common_end left right
no_end_left [] right is = no_end_in_common right
no_end_left (x ∷ left) right is = absurd (omega (arith, is))

-- ---- the branches of a row keep the rules

abbrev RowKept : Par → Type 0
RowKept row = AllByRecursion GiftsKeep row.branches

pub row_kept : (c : Contents) (row : ℕ) (par : Par) → Keeps c → slice_get c.pars row ≡ Some par
    → AllByRecursion GiftsKeep par.branches
row_kept c row par keeps is =
    let rows = each (ParKeeps (first_branch c) (length c.code)) behind_par RowKept
    (λ before par h. each (BranchKeeps (length c.code)) behind_branch GiftsKeep
    (λ low b k. k.gifts) before par.branches h.branches) no_branches c.pars keeps.rows.pars in
    AllByRecursion_at RowKept c.pars row par rows is

-- the same of their rows, and of the first ones
pub rows_kept : (rows : List BranchRow) → AllByRecursion GiftsKeep (map branch_of rows)
    → AllByRecursion (λ row. GiftsKeep (branch_of row)) rows
rows_kept [] h = tt
rows_kept (row ∷ rows) h = (h.0, rows_kept rows h.1)

pub first_kept : (n : ℕ) (rows : List BranchRow) → AllByRecursion GiftsKeep (map branch_of rows)
    → AllByRecursion (λ row. GiftsKeep (branch_of row)) (take n rows)
first_kept zero rows h = tt
first_kept (suc n) [] h = tt
first_kept (suc n) (row ∷ rows) h = (h.0, first_kept n rows h.1)

-- all of them, where there are no more
pub all_taken : {X Y : Type 0} (f : X → Y) (n : ℕ) (xs : List X) → length xs ≤ n → map f xs ≡ take n (map f xs)
all_taken f zero [] le = refl
all_taken f (suc n) [] le = refl
all_taken f zero (x ∷ xs) le = absurd (omega arith)
all_taken f (suc n) (x ∷ xs) le = ap (λ ys. f x ∷ ys) (all_taken f n xs (omega arith))

-- the first branches of a row that was got
module _ (t : Tables) (c : Contents) (row count : ℕ) (par : ParRow) (contents : contents_of t ≡ c)
    (inside : row < length t.pars.items) (is : par ≡ get_or t.pars.items row par) where
  there : slice_get c.pars row ≡ Some (par_of par)
  there = subst (λ (m : Contents). slice_get m.pars row ≡ Some (par_of par)) contents
      (item_there par_of t.pars.items row par inside is)

  first_are : take count (map branch_of par.branches.items) ≡ first_branches c row count
  first_are = sym (ap (λ (o : Option Par). elim o [ None ↦ [] | Some p ↦ take count p.branches ]) there)

  module _ (rows : List BranchRow) (same : rows ≡ par.branches.items) where
    pub some_are : map branch_of (take count rows) ≡ first_branches c row count
    some_are = subst (λ (rs : List BranchRow). map branch_of (take count rs) ≡ first_branches c row count) (sym same)
        (sym (take-map branch_of count par.branches.items) ∙ first_are)

    pub all_are : length rows ≤ count → map branch_of rows ≡ first_branches c row count
    all_are le =
        all_taken branch_of count rows le
        ∙ ap (λ (rs : List BranchRow). take count (map branch_of rs)) same ∙ first_are

    kept_here : Keeps c → AllByRecursion GiftsKeep (map branch_of rows)
    kept_here keeps = subst (λ (rs : List BranchRow). AllByRecursion GiftsKeep (map branch_of rs)) (sym same)
        (row_kept c row (par_of par) keeps there)

    pub some_kept : Keeps c → AllByRecursion (λ row. GiftsKeep (branch_of row)) (take count rows)
    some_kept keeps = first_kept count rows (kept_here keeps)

    pub all_kept : Keeps c → AllByRecursion (λ row. GiftsKeep (branch_of row)) rows
    all_kept keeps = rows_kept rows (kept_here keeps)

-- ---- one more of a list, and one branch more that is judged

pub one_more : {X : Type 0} (P : ℕ → X → Type 0) (xs : List X) (x : X) (from : ℕ)
    → ((i : ℕ) (d : X) → i < length xs → P (from + i) (get_or xs i d)) → P (from + length xs) x
    → (i : ℕ) (d : X) → i < length (xs ++ x ∷ []) → P (from + i) (get_or (xs ++ x ∷ []) i d)
one_more P [] x from h last zero d lt = last
one_more P [] x from h last (suc i) d lt = absurd (omega (arith, lt))
one_more P (y ∷ xs) x from h last zero d lt = h 0 d (omega arith)
one_more {X} P (y ∷ xs) x from h last (suc i) d lt =
    let here : from + 1 + i ≡ from + suc i = omega arith in
    let end : from + length (y ∷ xs) ≡ from + 1 + length xs = omega arith in
    let later : (k : ℕ) (e : X) → k < length xs → P (from + 1 + k) (get_or xs k e) =
    λ k e less. (let there : from + suc k ≡ from + 1 + k = omega arith in
    subst (λ (n : ℕ). P n (get_or xs k e)) there (h (suc k) e (omega (arith, less)))) in
    subst (λ (n : ℕ). P n (get_or (xs ++ x ∷ []) i d)) here
    (one_more P xs x (from + 1) later (subst (λ (n : ℕ). P n x) end last) i d (omega (arith, lt)))

pub judged_more : (c : Contents) (xs : List Judged) (x : Judged) (n : ℕ) → AreJudged c xs
    → n ≡ first_branch c + length xs → IsJudged c n x → AreJudged c (xs ++ x ∷ [])
judged_more c xs x n h at is = record {
  each = one_more (λ m y. IsJudged c m y) xs x (first_branch c) h.each (subst (λ (m : ℕ). IsJudged c m x) at is);
}

-- what was judged of the branch that is context n is found
pub judged_there : (c : Contents) (all : List Judged) (n : ℕ) (judged : Judged) → AreJudged c all → first_branch c ≤ n
    → n - first_branch c < length all → judged ≡ get_or all (n - first_branch c) judged → IsJudged c n judged
judged_there c all n judged h ge lt is =
    let at : first_branch c + (n - first_branch c) ≡ n = omega arith in
    subst (λ (m : ℕ). IsJudged c m judged) at
    (subst (λ (j : Judged). IsJudged c (first_branch c + (n - first_branch c)) j) (sym is)
    (h.each (n - first_branch c) judged lt))
