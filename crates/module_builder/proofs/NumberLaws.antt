-- Contexts that are there have numbers that a file can name.
use Rattle.std.proofs.Common.{◌≡◌, ℕ, zero, suc, ◌+◌, ◌<◌, ◌≤◌, ◌==◌, not, Bool, true, false, List, [], ◌∷◌, ◌++◌}
use Rattle.std.proofs.Common.{length, take, map}
use Rattle.std.proofs.Common.{get_or, Option, Some, None, slice_get, inl, inr, refl, ap, sym, ◌∙◌, arith}
use Rattle.std.proofs.Common.{append_assoc, length-append, add-suc, suc-add, add-zero, zero-add}
use Rattle.std.specs.List.{sum_by, cons_option, Contains}
use Rattle.std.specs.List.Sorted.{IsPermutation}
use Rattle.std.specs.Option.{option_to_list}
use Rattle.std.proofs.lemmas.Bool.{cases_lt, lt-ltb, eq-eqb, eqb-true}
use Rattle.std.proofs.lemmas.List.Sums.{sum_by-cons, sum_by_more_le, prefix_len_passes, prefix_len_stops}
use Rattle.std.proofs.lemmas.List.Sums.{prefix_len-le-length}
use Rattle.std.proofs.lemmas.List.Sorted.{sum_by-IsPermutation, Contains-permutation, length_permutation}
use Rattle.std.proofs.lemmas.List.{length-map}
use Rattle.std.proofs.lemmas.Option.{slice_get_within}
use Rattle.module_format.specs.declared.rows.ProcedureRow.{ProcedureRow}
use Rattle.module_format.specs.declared.rows.ParRow.{ParRow}
use Rattle.module_builder.specs.declared.item.Label.{Label}
use Rattle.module_builder.specs.declared.limits.TheConstants.{MAX_CONTEXTS}
use Rattle.module_builder.specs.declared.draft.ContextName.{ContextName}
use Rattle.module_builder.specs.declared.draft.ContextName.TheVariants.{Procedure, Branch}
use Rattle.module_builder.specs.declared.draft.Draft.{Draft}
use Rattle.module_builder.specs.Placing.{label_offset}
use Rattle.module_builder.specs.Limits.{branch_count, DraftIsWithin}
use Rattle.module_builder.specs.Ordering.{numbered, rows_in, position}
use Rattle.module_builder.specs.Assembled.{Arrangement, AreInOrder, first_entry, nameable, context_number}
use Rattle.module_builder.specs.Assembled.{first_context}
use Rattle.module_builder.proofs.RowLaws.{true_is_not_false, length-numbered}

-- the branches of the row with a number
abbrev pub counted : List (ParRow Label ContextName) → ℕ × ℕ → ℕ
counted rows pair = branch_count (option_to_list (slice_get rows pair.1))

counted_one : (found : Option (ParRow Label ContextName)) (rest : List (ParRow Label ContextName))
    → branch_count (cons_option found rest) ≡ branch_count (option_to_list found) + branch_count rest
counted_one None rest = sym (zero-add (branch_count rest))
counted_one (Some row) rest =
    sum_by-cons (λ (r : ParRow Label ContextName). length r.branches.items) row rest
    ∙ ap (λ (n : ℕ). n + branch_count rest) (sym (zero-add (length row.branches.items)))

-- the branches of rows in an order, pair by pair
pub counted_in : (rows : List (ParRow Label ContextName)) (order : List (ℕ × ℕ))
    → branch_count (rows_in order rows) ≡ sum_by (counted rows) order
counted_in rows [] = refl
counted_in rows (pair ∷ order) =
    counted_one (slice_get rows pair.1) (rows_in order rows)
    ∙ ap (λ (n : ℕ). counted rows pair + n) (counted_in rows order)
    ∙ sym (sum_by-cons (counted rows) pair order)

row_between : (front : List (ParRow Label ContextName)) (row : ParRow Label ContextName)
    (back : List (ParRow Label ContextName))
    → slice_get (front ++ row ∷ back) (length front) ≡ Some row
row_between [] row back = refl
row_between (first ∷ front) row back = row_between front row back

-- the branches of all rows, number by number
counted_all : (front back : List (ParRow Label ContextName)) (keys : List ℕ)
    → length keys ≡ length back
    → sum_by (counted (front ++ back)) (numbered (length front) keys) ≡ branch_count back
counted_all front [] [] same = refl
counted_all front [] (key ∷ keys) same = absurd (omega arith)
counted_all front (row ∷ back) [] same = absurd (omega arith)
counted_all front (row ∷ back) (key ∷ keys) same =
    let rows = front ++ row ∷ back in
    let here : counted rows (key, length front) ≡ length row.branches.items =
    ap (λ (found : Option (ParRow Label ContextName)). branch_count (option_to_list found)) (row_between front row back)
    ∙ zero-add (length row.branches.items) in
    let longer : length (front ++ row ∷ []) ≡ suc (length front) = omega (arith, length-append front (row ∷ [])) in
    let rest : sum_by (counted rows) (numbered (suc (length front)) keys) ≡ branch_count back =
    rw (longer, append_assoc) at (counted_all (front ++ row ∷ []) back keys (omega arith)) in
    let first = sum_by-cons (counted rows) (key, length front) (numbered (suc (length front)) keys) in
    let whole = sum_by-cons (λ (r : ParRow Label ContextName). length r.branches.items) row back in
    omega (arith, here, rest, first, whole)

pub numbered_at : (first : ℕ) (keys : List ℕ) (i : ℕ) (d : ℕ × ℕ)
    → i < length keys
    → get_or (numbered first keys) i d ≡ (get_or keys i 0, first + i)
numbered_at first [] i d h = absurd (omega arith)
numbered_at first (key ∷ keys) zero d h = rw add-zero refl
numbered_at first (key ∷ keys) (suc i) d h = rw (add-suc, ← suc-add) (numbered_at (suc first) keys i d (omega arith))

-- each row has its place in the order
pub position_below : (keys : List ℕ) (order : List (ℕ × ℕ)) (number : ℕ)
    → IsPermutation (numbered 0 keys) order
    → number < length keys
    → position order number < length order
position_below keys order number same h =
    let pair : ℕ × ℕ = (get_or keys number 0, number) in
    let test = λ (p : ℕ × ℕ). not (p.1 == number) in
    let at : get_or (numbered 0 keys) number pair ≡ pair = rw zero-add at (numbered_at 0 keys number pair h) in
    let inside : Contains (numbered 0 keys) pair = (number, omega (arith, length-numbered 0 keys), at) in
    let found = Contains-permutation (numbered 0 keys) order pair same inside in
    elim (cases_lt (position order number) (length order)) [
      | inl lt ↦ lt
      | inr le ↦
          let passes : test (get_or order found.0 pair) ≡ true =
          prefix_len_passes test order found.0 pair (omega (arith, found.1)) in
          let fails : test pair ≡ false = ap not (eq-eqb number number refl) in
          absurd (true_is_not_false (sym passes ∙ ap test found.2 ∙ fails))
    ]

not_false : {b : Bool} → not b ≡ false → b ≡ true
not_false {b = true} h = refl
not_false {b = false} h = absurd (true_is_not_false h)

pub position_is : (order : List (ℕ × ℕ)) (number : ℕ) (d : ℕ × ℕ)
    → position order number < length order
    → (get_or order (position order number) d).1 ≡ number
position_is order number d h =
    eqb-true (get_or order (position order number) d).1 number
    (not_false (prefix_len_stops (λ (p : ℕ × ℕ). not (p.1 == number)) order d h))

-- the branches before a row's, and its own, are among all
pub branches_below : (keys : List ℕ) (order : List (ℕ × ℕ)) (rows : List (ParRow Label ContextName)) (par : ℕ)
    (row : ParRow Label ContextName)
    → length keys ≡ length rows
    → IsPermutation (numbered 0 keys) order
    → slice_get rows par ≡ Some row
    → branch_count (rows_in (take (position order par) order) rows) + length row.branches.items ≤ branch_count rows
branches_below keys order rows par row count same found =
    let d : ℕ × ℕ = (0, 0) in
    let within : position order par < length order =
    position_below keys order par same (omega (arith, count, slice_get_within rows par row found)) in
    let here : counted rows (get_or order (position order par) d) ≡ length row.branches.items =
    ap (λ (number : ℕ). branch_count (option_to_list (slice_get rows number))) (position_is order par d within)
    ∙ ap (λ (o : Option (ParRow Label ContextName)). branch_count (option_to_list o)) found
    ∙ zero-add (length row.branches.items) in
    let before = counted_in rows (take (position order par) order) in
    let all : sum_by (counted rows) order ≡ branch_count rows =
    sum_by-IsPermutation (counted rows) (numbered 0 keys) order same ∙ counted_all [] rows keys count in
    omega (arith, here, before, all, sum_by_more_le (counted rows) order (position order par) d within)

-- ---- numbers

nameable_below : (number : ℕ) → number < MAX_CONTEXTS → nameable number ≡ Some number
nameable_below number h = rw (lt-ltb number MAX_CONTEXTS h) refl

length_order : (keys : List ℕ) (order : List (ℕ × ℕ)) → IsPermutation (numbered 0 keys) order
    → length order ≡ length keys
length_order keys order same = length_permutation (numbered 0 keys) order same ∙ length-numbered 0 keys

pub procedure_has_number : (d : Draft) (offsets : List (Option ℕ)) (a : Arrangement) (row : ℕ)
    → DraftIsWithin d
    → AreInOrder d offsets a
    → row < length d.procedures.items
    → context_number d a.procedures a.pars (Procedure row) ≡ Some (1 + position a.procedures row)
procedure_has_number d offsets a row within orders h =
    let keys = map (λ (r : ProcedureRow Label). label_offset offsets r.entry) d.procedures.items in
    let count : length keys ≡ length d.procedures.items =
    length-map d.procedures.items (λ (r : ProcedureRow Label). label_offset offsets r.entry) in
    let below = prefix_len-le-length (λ (p : ℕ × ℕ). not (p.1 == row)) a.procedures in
    let len = length_order keys a.procedures orders.procedures.same in
    rw (lt-ltb row (length d.procedures.items) h)
    (nameable_below (1 + position a.procedures row)
    (omega (arith, count, below, len, within.rows.counts.procedures)))

pub branch_has_number : (d : Draft) (offsets : List (Option ℕ)) (a : Arrangement) (par branch : ℕ)
    (row : ParRow Label ContextName)
    → DraftIsWithin d
    → AreInOrder d offsets a
    → slice_get d.pars.items par ≡ Some row
    → branch < length row.branches.items
    → context_number d a.procedures a.pars (Branch par branch) ≡ Some (first_context d a.pars par + branch)
branch_has_number d offsets a par branch row within orders found h =
    let keys = map (first_entry offsets) d.pars.items in
    let count : length keys ≡ length d.pars.items = length-map d.pars.items (first_entry offsets) in
    let below = branches_below keys a.pars d.pars.items par row count orders.pars.same found in
    rw (found, lt-ltb branch (length row.branches.items) h)
    (nameable_below (first_context d a.pars par + branch) (omega (arith, below, within.rows.contexts)))
