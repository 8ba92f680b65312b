-- How many entries there are of which something is not so.
use Rattle.std.proofs.Common.{◌≡◌, ℕ, zero, suc, ◌≤◌, Bool, true, false, cond, List, [], ◌∷◌, length, Some, refl, sym}
use Rattle.std.proofs.Common.{ap, arith, ◌∙◌}
use Rattle.scalar_ranges.specs.Environments.{item_at}
use Rattle.scalar_ranges.specs.Changes.{Slot, modify, without}

without_by : (t u : Bool) (a b : ℕ) → t ≡ u → a ≡ b → cond t a (suc a) ≡ cond u b (suc b)
without_by t u a b same h = λ i. cond (same i) (h i) (suc (h i))

-- a slot that changes and is not counted otherwise
pub without_same : (test : Slot → Bool) (f : Slot → Slot) (n : ℕ) (ss : List Slot)
    → ((s : Slot) → item_at n ss ≡ Some s → test (f s) ≡ test s) → without test (modify f n ss) ≡ without test ss
without_same test f n [] same = refl
without_same test f zero (s ∷ ss) same =
    without_by (test (f s)) (test s) (without test ss) (without test ss) (same s refl) refl
without_same test f (suc n) (s ∷ ss) same =
    without_by (test s) (test s) (without test (modify f n ss)) (without test ss) refl
    (without_same test f n ss (λ k is. same k is))

fewer_by : (t : Bool) (a b : ℕ) → a ≡ suc b → cond t a (suc a) ≡ suc (cond t b (suc b))
fewer_by true a b h = h
fewer_by false a b h = ap suc h

-- one that comes to be so
pub fewer : (test : Slot → Bool) (f : Slot → Slot) (n : ℕ) (ss : List Slot) (s : Slot) → item_at n ss ≡ Some s
    → test s ≡ false → test (f s) ≡ true → without test ss ≡ suc (without test (modify f n ss))
fewer test f n [] s is was now = absurd (cc)
fewer test f zero (k ∷ ss) s is was now =
    let same : k ≡ s = cc in
    ap (λ x. cond (test x) (without test ss) (suc (without test ss))) same
    ∙ ap (λ t. cond t (without test ss) (suc (without test ss))) was
    ∙ ap (λ t. suc (cond t (without test ss) (suc (without test ss)))) (sym now)
    ∙ ap (λ x. suc (cond (test (f x)) (without test ss) (suc (without test ss)))) (sym same)
fewer test f (suc n) (k ∷ ss) s is was now =
    fewer_by (test k) (without test ss) (without test (modify f n ss)) (fewer test f n ss s is was now)

at_most : (t : Bool) (a b : ℕ) → a ≤ b → cond t a (suc a) ≤ suc b
at_most true a b h = omega arith
at_most false a b h = omega arith

pub all_without : (test : Slot → Bool) (ss : List Slot) → without test ss ≤ length ss
all_without test [] = omega arith
all_without test (s ∷ ss) = at_most (test s) (without test ss) (length ss) (all_without test ss)
