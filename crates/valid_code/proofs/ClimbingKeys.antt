-- Rows whose keys rise are in their own order.
use Rattle.std.proofs.Common.{◌≡◌, ℕ, zero, suc, ◌+◌, ◌<◌, ◌≤◌, Bool, false, cond, List, [], ◌∷◌, ◌++◌}
use Rattle.std.proofs.Common.{get_or, Option, Some, refl, sym, ap, ◌∙◌, arith, append_assoc}
use Rattle.std.proofs.Common.{length, length-append, zero-add, add-one, Less, Equal, Greater}
use Rattle.std.specs.Prelude.{⊤, slice_get, ◌==◌}
use Rattle.std.specs.Ordering.{ordering_then, is_lt, nat_cmp}
use Rattle.std.specs.List.{cons_option}
use Rattle.std.proofs.lemmas.Bool.{ne_eqb, le-ltb}
use Rattle.std.proofs.lemmas.List.Sorted.{IsPermutation-refl}
use Rattle.module_builder.specs.Ordering.{numbered, by_key, IsOrder, rows_in}
use Rattle.module_builder.proofs.NumberLaws.{numbered_at}
use Rattle.module_builder.proofs.RowLaws.{length-numbered}
use Rattle.module_builder.proofs.OrderLaws.{one_order}

-- numbers that rise, from this one on
abbrev pub Climb : ℕ → List ℕ → Type 0
Climb low [] = ⊤
Climb low (key ∷ keys) = (low ≤ key) × Climb (suc key) keys

-- they rise from a lower number too
pub climb_lower : (low at : ℕ) (keys : List ℕ) → low ≤ at → Climb at keys → Climb low keys
climb_lower low at [] below climb = tt
climb_lower low at (key ∷ keys) below climb = (omega (arith, below, climb.0), climb.1)

-- each key is greater than the one before it
each_higher : (low : ℕ) (keys : List ℕ) → Climb low keys → (k : ℕ) → suc k < length keys
    → get_or keys k 0 < get_or keys (suc k) 0
each_higher low [] climb k within = absurd (omega arith)
each_higher low (a ∷ []) climb k within = absurd (omega arith)
each_higher low (a ∷ b ∷ keys) climb zero within = omega (arith, climb.1.0)
each_higher low (a ∷ b ∷ keys) climb (suc k) within = each_higher (suc a) (b ∷ keys) climb.1 k (omega arith)

-- a row does not come before one with a lower key
not_before : (a b i : ℕ) → b < a → is_lt (by_key (a, i + 1) (b, i)) ≡ false
not_before a b i up =
    ap (λ (l : Bool). is_lt (ordering_then (cond l Less (cond (a == b) Equal Greater)) (nat_cmp (i + 1) i)))
    (le-ltb a b (omega (arith, up)))
    ∙ ap (λ (e : Bool). is_lt (ordering_then (cond e Equal Greater) (nat_cmp (i + 1) i)))
    (ne_eqb a b (λ same. omega (arith, up, same)))

-- keys that rise are in order as they are numbered
numbered_order : (keys : List ℕ) → Climb 0 keys → IsOrder keys (numbered 0 keys)
numbered_order keys climb = record {
  same = IsPermutation-refl (numbered 0 keys);
  rises = λ k d low high.
      let size : k + 1 < length keys = omega (arith, high, length-numbered 0 keys) in
      let up : get_or keys k 0 < get_or keys (k + 1) 0 =
      rw add-one (each_higher 0 keys climb k (omega (arith, size))) in
      rw (numbered_at 0 keys (k + 1) d size, numbered_at 0 keys k d (omega (arith, size)), zero-add (k + 1), zero-add k)
      (not_before (get_or keys (k + 1) 0) (get_or keys k 0) k up);
}

-- a row after others is the one that is as many rows from the first
row_after : {A : Type 0} (front rows : List A) (r : A) (i : ℕ) → i ≡ length front
    → slice_get (front ++ r ∷ rows) i ≡ Some r
row_after [] rows r zero is = refl
row_after [] rows r (suc i) is = absurd (omega (arith, is))
row_after (x ∷ front) rows r zero is = absurd (omega (arith, is))
row_after (x ∷ front) rows r (suc i) is = row_after front rows r i (omega (arith, is))

-- rows by their own numbers, of which the first is so many
by_number : {A : Type 0} (front rows : List A) (keys : List ℕ) (i : ℕ) → i ≡ length front → length keys ≡ length rows
    → rows_in (numbered i keys) (front ++ rows) ≡ rows
by_number front [] [] i is same = refl
by_number front [] (key ∷ keys) i is same = absurd (omega (arith, same))
by_number front (r ∷ rows) [] i is same = absurd (omega (arith, same))
by_number {A} front (r ∷ rows) (key ∷ keys) i is same =
    let rest = λ (all : List A). rows_in (numbered (suc i) keys) all in
    ap (λ (o : Option A). cons_option o (rest (front ++ (r ∷ rows)))) (row_after front rows r i is)
    ∙ ap (λ (xs : List A). r ∷ xs)
    (ap rest (sym (append_assoc front (r ∷ []) rows))
    ∙ by_number (front ++ (r ∷ [])) rows keys (suc i) (omega (arith, is, length-append front (r ∷ [])))
    (omega (arith, same)))

-- So rows with such keys stay, whatever order was found.
pub climbing_stay : {A : Type 0} (keys : List ℕ) (rows : List A) (order : List (ℕ × ℕ)) → length keys ≡ length rows
    → Climb 0 keys → IsOrder keys order → rows_in order rows ≡ rows
climbing_stay {A} keys rows order same climb is =
    ap (λ (o : List (ℕ × ℕ)). rows_in o rows) (one_order keys order (numbered 0 keys) is (numbered_order keys climb))
    ∙ by_number [] rows keys 0 refl same
