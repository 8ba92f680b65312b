-- Tables of the places of rows in an order, and of the branches before them.
use Rattle.std.proofs.Common.{◌≡◌, ℕ, ◌+◌, ◌<◌, ◌≤◌, ◌==◌, not, List, [], ◌∷◌, ◌++◌, length, take, drop}
use Rattle.std.proofs.Common.{get_or, slice_get, slice_index, inl, inr, ap, ◌∙◌, subst, arith, length-append}
use Rattle.std.specs.Option.{option_to_list}
use Rattle.std.proofs.lemmas.Bool.{cases_lt}
use Rattle.std.proofs.lemmas.List.{take_more, get_or_append_left}
use Rattle.std.proofs.Math.Seq.{get_or-append_seam}
use Rattle.std.proofs.lemmas.List.Sums.{prefix_len-le-length, sum_by_push}
use Rattle.module_format.specs.declared.rows.ParRow.{ParRow}
use Rattle.module_builder.specs.declared.item.Label.{Label}
use Rattle.module_builder.specs.declared.limits.TheConstants.{MAX_CONTEXTS}
use Rattle.module_builder.specs.declared.draft.ContextName.{ContextName}
use Rattle.module_builder.specs.Limits.{branch_count}
use Rattle.module_builder.specs.Ordering.{rows_in, position}
use Rattle.module_builder.specs.Numbered.{ArePlaces, AreSums}
use Rattle.module_builder.proofs.NumberLaws.{counted, counted_in}

-- ---- places

-- a table that was filled from the last row of the order to the first
pub places_end : (order : List (ℕ × ℕ)) (count place : ℕ) (places : List ℕ)
    → place ≤ 0
    → length places ≡ count
    → ((k : ℕ) → k < count → slice_index places k ≡ place + position (drop place order) k)
    → ArePlaces order count places
places_end order count place places end len each =
    let zero_is : place ≡ 0 = omega arith in
    let value : (row : ℕ) → row < count → slice_index places row ≡ position order row =
    λ row h. omega (arith, each row h, ap (λ (k : ℕ). position (drop k order) row) zero_is) in
    record {
      len = len;
      each = value;
      within = λ row h. omega (arith, value row h, prefix_len-le-length (λ (p : ℕ × ℕ). not (p.1 == row)) order);
    }

-- ---- branches

-- the branches of one more row
pub branches_more : (order : List (ℕ × ℕ)) (rows : List (ParRow Label ContextName)) (i count more after : ℕ) (d : ℕ × ℕ)
    → i < length order
    → count ≡ branch_count (rows_in (take i order) rows)
    → more ≡ branch_count (option_to_list (slice_get rows (get_or order i d).1))
    → after ≡ count + more
    → after ≡ branch_count (rows_in (take (i + 1) order) rows)
branches_more order rows i count more after d within was one is =
    let longer : take (i + 1) order ≡ take i order ++ get_or order i d ∷ [] = take_more order i d within in
    let whole = counted_in rows (take i order ++ get_or order i d ∷ []) in
    rw longer
    (omega (
      arith,
      is,
      was,
      one,
      whole,
      counted_in rows (take i order),
      sum_by_push (counted rows) (take i order) (get_or order i d),
    ))

pub sums_push : (order : List (ℕ × ℕ)) (rows : List (ParRow Label ContextName)) (i count : ℕ) (sums after : List ℕ)
    → AreSums rows order i sums
    → count ≡ branch_count (rows_in (take (i + 1) order) rows)
    → count ≤ MAX_CONTEXTS
    → after ≡ sums ++ count ∷ []
    → AreSums rows order (i + 1) after
sums_push order rows i count sums after are value small is =
    let last : slice_index after (i + 1) ≡ count =
    ap (λ (xs : List ℕ). slice_index xs (i + 1)) is
    ∙ subst (λ (n : ℕ). slice_index (sums ++ count ∷ []) n ≡ count) are.len (get_or-append_seam sums count [] 0) in
    let front : (k : ℕ) → k < i + 1 → slice_index after k ≡ slice_index sums k =
    λ k lt.
    ap (λ (xs : List ℕ). slice_index xs k) is
    ∙ get_or_append_left sums (count ∷ []) 0 k (omega (arith, are.len)) in
    record {
      len = omega (arith, ap length is, length-append sums (count ∷ []), are.len);
      each = λ k le.
          elim (cases_lt k (i + 1)) [
            | inl lt ↦ front k lt ∙ are.each k (omega arith)
            | inr ge ↦
                let end : i + 1 ≡ k = omega arith in
                subst (λ (n : ℕ). slice_index after n ≡ branch_count (rows_in (take n order) rows)) end (last ∙ value)
          ];
      small = λ k le.
          elim (cases_lt k (i + 1)) [
            | inl lt ↦ omega (arith, front k lt, are.small k (omega arith))
            | inr ge ↦
                let end : i + 1 ≡ k = omega arith in
                omega (arith, last, ap (λ (n : ℕ). slice_index after n) end)
          ];
    }
