-- Rows with the same keys have one order, and a row with a smaller key comes before one with a greater key.
use Rattle.std.proofs.Common.{◌≡◌, ℕ, suc, ◌<◌, ◌≤◌, Bool, false, List, [], ◌∷◌, length, map, get_or, cond}
use Rattle.std.proofs.Common.{Option, Some, option_map, slice_get, subst, inl, inr, refl, ap, sym, ◌∙◌}
use Rattle.std.proofs.Common.{arith, zero-add, suc-add}
use Rattle.std.specs.List.{sum_by, Contains}
use Rattle.std.specs.List.Sorted.{IsSortedBy, IsNonDecreasingBy}
use Rattle.std.specs.Ordering.{is_lt}
use Rattle.std.specs.Cmp.{IsTotalOrder, IsStrictWeakOrder}
use Rattle.std.proofs.lemmas.Bool.{cases_Bool, cases_lt, lt-ltb, le-ltb, eq-eqb}
use Rattle.std.proofs.lemmas.Cmp.{nat_cmp_total, on_total, then_total}
use Rattle.std.proofs.lemmas.List.Sums.{sum_by-cons}
use Rattle.std.proofs.lemmas.List.Sorted.{ranks_by, sorted_far, sum_by-IsPermutation, Contains-permutation}
use Rattle.std.proofs.lemmas.List.Sorted.{IsPermutation-sym}
use Rattle.std.proofs.lemmas.List.{get_or_default}
use Rattle.std.proofs.lemmas.Option.{slice_get_within, slice_get-get_or, slice_get-map, get_or_from_slice_get}
use Rattle.module_format.specs.declared.rows.BranchRow.{BranchRow}
use Rattle.module_format.specs.declared.rows.ParRow.{ParRow}
use Rattle.module_builder.specs.declared.item.Label.{Label}
use Rattle.module_builder.specs.declared.draft.ContextName.{ContextName}
use Rattle.module_builder.specs.declared.draft.Draft.{Draft}
use Rattle.module_builder.specs.Placing.{label_offset}
use Rattle.module_builder.specs.Layouts.{places}
use Rattle.module_builder.specs.Ordering.{numbered, by_key, IsOrder, position}
use Rattle.module_builder.specs.Assembled.{Arrangement, AreInOrder, IsArranged, first_entry}
use Rattle.module_builder.proofs.RowLaws.{true_is_not_false, length-numbered}
use Rattle.module_builder.proofs.NumberLaws.{numbered_at, position_below, position_is}
use Rattle.module_builder.proofs.Places.{one_least}

abbrev less : ℕ × ℕ → ℕ × ℕ → Bool
less x y = is_lt (by_key x y)

by_key_total : IsTotalOrder by_key
by_key_total = then_total (on_total (λ (p : ℕ × ℕ). p.0) nat_cmp_total) (on_total (λ (p : ℕ × ℕ). p.1) nat_cmp_total)

less_ranks : IsStrictWeakOrder less
less_ranks = ranks_by by_key_total (λ (p : ℕ × ℕ). p)

-- ---- what is not less

keys_rise : (x y : ℕ × ℕ) → less x y ≡ false → y.0 ≤ x.0
keys_rise x y h =
    elim (cases_lt x.0 y.0) [
      | inl lt ↦ absurd (true_is_not_false (rw (lt-ltb x.0 y.0 lt) at h))
      | inr le ↦ le
    ]

numbers_rise : (x y : ℕ × ℕ) → less x y ≡ false → x.0 ≡ y.0 → y.1 ≤ x.1
numbers_rise x y h same =
    elim (cases_lt x.1 y.1) [
      | inl lt ↦
          let below : y.0 ≤ x.0 = omega arith in
          absurd (true_is_not_false (rw (le-ltb x.0 y.0 below, eq-eqb x.0 y.0 same, lt-ltb x.1 y.1 lt) at h))
      | inr le ↦ le
    ]

tied : (x y : ℕ × ℕ) → less x y ≡ false → less y x ≡ false → x ≡ y
tied x y h k =
    let keys : x.0 ≡ y.0 = omega (arith, keys_rise x y h, keys_rise y x k) in
    let numbers : x.1 ≡ y.1 = omega (arith, numbers_rise x y h keys, numbers_rise y x k (sym keys)) in
    ap (λ (n : ℕ). (n, x.1)) keys ∙ ap (λ (n : ℕ). (y.0, n)) numbers

-- ---- one order

-- how many are less
abbrev below : ℕ × ℕ → ℕ × ℕ → ℕ
below x z = cond (less z x) 1 0

none_below : (x : ℕ × ℕ) (xs : List (ℕ × ℕ))
    → ((i : ℕ) (d : ℕ × ℕ) → i < length xs → less (get_or xs i d) x ≡ false)
    → sum_by (below x) xs ≡ 0
none_below x [] h = refl
none_below x (z ∷ xs) h =
    let here : below x z ≡ 0 = rw (h 0 x (omega arith)) refl in
    let rest = none_below x xs (λ i d lt. h (suc i) d (omega arith)) in
    omega (arith, here, rest, sum_by-cons (below x) z xs)

-- the first is not less than another that is first
first_least : (x y : ℕ × ℕ) (xs ys : List (ℕ × ℕ))
    → IsSortedBy less (x ∷ xs)
    → sum_by (below x) (x ∷ xs) ≡ sum_by (below x) (y ∷ ys)
    → less y x ≡ false
first_least x y xs ys rises same =
    let none : sum_by (below x) (x ∷ xs) ≡ 0 =
    none_below x (x ∷ xs) (λ i d lt. sorted_far less less_ranks (x ∷ xs) rises 0 i d (omega arith) lt) in
    elim (cases_Bool (less y x)) [
      | inl is_less ↦
          let one : below x y ≡ 1 = rw is_less refl in
          absurd (omega (arith, one, none, same, sum_by-cons (below x) y ys))
      | inr is_not ↦ is_not
    ]

rest_rises : (x : ℕ × ℕ) (xs : List (ℕ × ℕ)) → IsSortedBy less (x ∷ xs) → IsSortedBy less xs
rest_rises x xs rises = λ k d low high. rw suc-add at (rises (suc k) d (omega arith) (omega arith))

same_counts_same_order : (a b : List (ℕ × ℕ))
    → IsSortedBy less a
    → IsSortedBy less b
    → ((f : ℕ × ℕ → ℕ) → sum_by f a ≡ sum_by f b)
    → a ≡ b
same_counts_same_order [] [] up also same = refl
same_counts_same_order [] (y ∷ b) up also same =
    absurd (omega (arith, same (λ (p : ℕ × ℕ). 1), sum_by-cons (λ (p : ℕ × ℕ). 1) y b))
same_counts_same_order (x ∷ a) [] up also same =
    absurd (omega (arith, same (λ (p : ℕ × ℕ). 1), sum_by-cons (λ (p : ℕ × ℕ). 1) x a))
same_counts_same_order (x ∷ a) (y ∷ b) up also same =
    let first : x ≡ y =
    tied x y (first_least y x b a also (sym (same (below y)))) (first_least x y a b up (same (below x))) in
    let rest : a ≡ b =
    same_counts_same_order a b (rest_rises x a up) (rest_rises y b also)
    (λ f. omega (arith, same f, ap f first, sum_by-cons f x a, sum_by-cons f y b)) in
    cc

pub one_order : (keys : List ℕ) (a b : List (ℕ × ℕ)) → IsOrder keys a → IsOrder keys b → a ≡ b
one_order keys a b h k =
    same_counts_same_order a b h.rises k.rises
    (λ f. sum_by-IsPermutation f (numbered 0 keys) a h.same ∙ sym (sum_by-IsPermutation f (numbered 0 keys) b k.same))

abbrev arrangement : List ℕ → List (ℕ × ℕ) → List (ℕ × ℕ) → List (ℕ × ℕ) → List (ℕ × ℕ) → Arrangement
arrangement lengths procedures labels pars table_rows = record {
  lengths = lengths;
  procedures = procedures;
  labels = labels;
  pars = pars;
  table_rows = table_rows;
}

same_parts : (lengths others : List ℕ) (a b c d p q r s : List (ℕ × ℕ))
    → lengths ≡ others
    → a ≡ p
    → b ≡ q
    → c ≡ r
    → d ≡ s
    → arrangement lengths a b c d ≡ arrangement others p q r s
same_parts lengths others a b c d p q r s first second third fourth fifth = cc

pub one_arrangement : (d : Draft) (a b : Arrangement) → IsArranged d a → IsArranged d b → a ≡ b
one_arrangement d a b h k =
    let lengths : a.lengths ≡ b.lengths = one_least d.code a.lengths b.lengths h.least k.least in
    let orders : AreInOrder d (places d.code a.lengths) b =
    subst (λ xs. AreInOrder d (places d.code xs) b) (sym lengths) k.orders in
    same_parts a.lengths b.lengths a.procedures a.labels a.pars a.table_rows b.procedures b.labels b.pars b.table_rows
    lengths
    (one_order _ a.procedures b.procedures h.orders.procedures orders.procedures)
    (one_order _ a.labels b.labels h.orders.labels orders.labels)
    (one_order _ a.pars b.pars h.orders.pars orders.pars)
    (one_order _ a.table_rows b.table_rows h.orders.table_rows orders.table_rows)

-- ---- a smaller key comes first

key_is : (keys : List ℕ) (order : List (ℕ × ℕ)) (number key : ℕ) (d : ℕ × ℕ)
    → IsOrder keys order
    → slice_get keys number ≡ Some key
    → (get_or order (position order number) d).0 ≡ key
key_is keys order number key d is found =
    let within : number < length keys = slice_get_within keys number key found in
    let below : position order number < length order = position_below keys order number is.same within in
    let here = get_or order (position order number) d in
    let inside : Contains (numbered 0 keys) here =
    Contains-permutation order (numbered 0 keys) here (IsPermutation-sym (numbered 0 keys) order is.same)
    (position order number, below, get_or_default order (position order number) here d below) in
    let i = inside.0 in
    let short : i < length keys = omega (arith, inside.1, length-numbered 0 keys) in
    let pair : (get_or keys i 0, i) ≡ here = rw zero-add at (sym (numbered_at 0 keys i here short)) ∙ inside.2 in
    let same : i ≡ number = ap (λ (p : ℕ × ℕ). p.1) pair ∙ position_is order number d below in
    sym (ap (λ (p : ℕ × ℕ). p.0) pair) ∙ ap (λ (k : ℕ). get_or keys k 0) same
    ∙ get_or_from_slice_get keys number key 0 found

-- the row with a smaller key comes first
smaller_first : (keys : List ℕ) (order : List (ℕ × ℕ)) (first second small great : ℕ)
    → IsOrder keys order
    → slice_get keys first ≡ Some small
    → slice_get keys second ≡ Some great
    → small < great
    → position order first < position order second
smaller_first keys order first second small great is at behind lt =
    let d : ℕ × ℕ = (0, 0) in
    let i = position order first in
    let j = position order second in
    let within : i < length order =
    position_below keys order first is.same (slice_get_within keys first small at) in
    elim (cases_lt i j) [
      | inl before ↦ before
      | inr after ↦
          let far = sorted_far less less_ranks order is.rises j i d after within in
          absurd (omega (
            arith,
            keys_rise (get_or order i d) (get_or order j d) far,
            key_is keys order first small d is at,
            key_is keys order second great d is behind,
          ))
    ]

-- the entry of the first branch is the least
first_entry_least : (offsets : List (Option ℕ)) (row : ParRow Label ContextName) (branch : ℕ) (b : BranchRow Label)
    → IsNonDecreasingBy (λ (r : BranchRow Label). label_offset offsets r.entry) row.branches.items
    → slice_get row.branches.items branch ≡ Some b
    → first_entry offsets row ≤ label_offset offsets b.entry
first_entry_least offsets row branch b rises found =
    let rows = row.branches.items in
    let within : branch < length rows = slice_get_within rows branch b found in
    let first : slice_get rows 0 ≡ Some (get_or rows 0 b) =
    slice_get-get_or rows 0 b (omega arith) in
    let here : get_or rows branch b ≡ b = get_or_from_slice_get rows branch b b found in
    rw first
    (subst (λ (r : BranchRow Label). label_offset offsets (get_or rows 0 b).entry ≤ label_offset offsets r.entry) here
    (rises 0 branch b (omega arith) within))

pub outer_first : (d : Draft) (offsets : List (Option ℕ)) (a : Arrangement) (par branch number : ℕ)
    (outer inner : ParRow Label ContextName) (b : BranchRow Label)
    → AreInOrder d offsets a
    → slice_get d.pars.items par ≡ Some outer
    → slice_get d.pars.items number ≡ Some inner
    → IsNonDecreasingBy (λ (r : BranchRow Label). label_offset offsets r.entry) outer.branches.items
    → slice_get outer.branches.items branch ≡ Some b
    → label_offset offsets b.entry < first_entry offsets inner
    → position a.pars par < position a.pars number
outer_first d offsets a par branch number outer inner b orders at inside rises found behind =
    let keys = map (first_entry offsets) d.pars.items in
    let small = first_entry offsets outer in
    let great = first_entry offsets inner in
    let first : slice_get keys par ≡ Some small = rw slice_get-map (ap (option_map (first_entry offsets)) at) in
    let second : slice_get keys number ≡ Some great = rw slice_get-map (ap (option_map (first_entry offsets)) inside) in
    smaller_first keys a.pars par number small great orders.pars first second
    (omega (arith, first_entry_least offsets outer branch b rises found))
