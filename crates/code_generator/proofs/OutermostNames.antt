-- The outermost entries, one by one.
use Rattle.std.proofs.Common.{◌≡◌, ℕ, ◌+◌, ◌≤◌, Bool, true, false, cond, nat_eq, nat_lt, List, [], ◌∷◌, length}
use Rattle.std.proofs.Common.{Option, Some, None, refl, sym, ap, ◌∙◌, arith}
use Rattle.std.proofs.lemmas.Bool.Decides.{nat_tests}
use Rattle.std.proofs.lemmas.Bool.{eqb-true, lt-ltb, le-ltb, ltb-true}
use Rattle.small_laws.proofs.Comparisons.{lt-eqb}
use Rattle.scalar_ranges.specs.Entries.{Entry, entry_at}
use Rattle.scalar_ranges.specs.Moves.{outermost}
use Rattle.scalar_ranges.proofs.Found.{none_less}
use Rattle.code_generator.specs.Calls.{with_entry}

greater_is : (m n : ℕ) → nat_eq m n ≡ false → nat_lt m n ≡ false → n + 1 ≤ m
greater_is m n other below = grind (arith, nat_tests)

-- no entry has a number above those of all
entry_above : (i : ℕ) (es : List Entry) → length es ≤ i → entry_at i es ≡ None
entry_above i [] h = refl
entry_above i (e ∷ es) h =
    ap (λ b. cond b (Some e) (entry_at i es)) (lt-eqb (length es) i (omega arith))
    ∙ entry_above i es (omega arith)

one_more : (i : ℕ) (es : List Entry) → outermost (i + 1) es ≡ with_entry (entry_at i es) (outermost i es)
one_more i [] = refl
one_more i (e ∷ es) = by_number (one_more i es) (nat_eq (length es) i) refl (nat_lt (length es) i) refl
  where
    by_number : outermost (i + 1) es ≡ with_entry (entry_at i es) (outermost i es)
        → (same : Bool) → nat_eq (length es) i ≡ same → (below : Bool) → nat_lt (length es) i ≡ below
        → cond (nat_lt (length es) (i + 1)) (e ∷ es) (outermost (i + 1) es)
        ≡ with_entry (cond same (Some e) (entry_at i es)) (cond below (e ∷ es) (outermost i es))
    by_number rest true same true below =
        absurd (let n = eqb-true (length es) i same in let l = ltb-true (length es) i below in omega (arith, n, l))
    by_number rest true same false below =
        let n = eqb-true (length es) i same in
        ap (λ b. cond b (e ∷ es) (outermost (i + 1) es)) (lt-ltb (length es) (i + 1) (omega (arith, n)))
        ∙ ap (λ xs. e ∷ xs) (sym (none_less i es (omega (arith, n))))
    by_number rest false other true below =
        let l = ltb-true (length es) i below in
        ap (λ b. cond b (e ∷ es) (outermost (i + 1) es)) (lt-ltb (length es) (i + 1) (omega (arith, l)))
        ∙ ap (λ x. with_entry x (e ∷ es)) (sym (entry_above i es (omega (arith, l))))
    by_number rest false other false below =
        let l = greater_is (length es) i other below in
        ap (λ b. cond b (e ∷ es) (outermost (i + 1) es)) (le-ltb (length es) (i + 1) l) ∙ rest

pub next_outermost : (i : ℕ) (es before after : List Entry) (e : Option Entry) → before ≡ outermost i es
    → e ≡ entry_at i es → after ≡ with_entry e before → after ≡ outermost (i + 1) es
next_outermost i es before after e is found more =
    more ∙ (λ j. with_entry (found j) (is j)) ∙ sym (one_more i es)

-- where two lists begin alike, and the next entry is the same
pub both_outermost : (i : ℕ) (ds es : List Entry) → outermost i ds ≡ outermost i es → entry_at i ds ≡ entry_at i es
    → outermost (i + 1) ds ≡ outermost (i + 1) es
both_outermost i ds es same next =
    one_more i ds ∙ (λ j. with_entry (next j) (same j)) ∙ sym (one_more i es)
