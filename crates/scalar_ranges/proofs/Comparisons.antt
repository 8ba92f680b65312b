-- A comparison is known by its truth of three pairs of numbers.
use Rattle.std.proofs.Common.{◌≡◌, ℤ, pos, Bool, cond, not, refl, ◌∙◌}
use Rattle.word_arithmetic.specs.Comparison.{compares}
use Rattle.word_arithmetic.specs.declared.compare.Comparison.{Comparison}
use Rattle.word_arithmetic.specs.declared.compare.Comparison.TheVariants as comparison
use Rattle.scalar_ranges.specs.Narrowing.{turned, opposite}

-- by its truth where both are equal, where the first is lower, and where it is higher
known_by : Bool → Bool → Bool → Comparison
known_by equal lower higher =
    cond equal (cond lower comparison.LessOrEqual (cond higher comparison.GreaterOrEqual comparison.Equal))
    (cond lower (cond higher comparison.NotEqual comparison.Less) comparison.Greater)

-- what holds of each comparison
each : (P : Comparison → Type 0) → P comparison.Equal → P comparison.NotEqual → P comparison.Less
    → P comparison.LessOrEqual → P comparison.Greater → P comparison.GreaterOrEqual → (c : Comparison) → P c
each P a b c d e f comparison.Equal = a
each P a b c d e f comparison.NotEqual = b
each P a b c d e f comparison.Less = c
each P a b c d e f comparison.LessOrEqual = d
each P a b c d e f comparison.Greater = e
each P a b c d e f comparison.GreaterOrEqual = f

is_known : (c : Comparison)
    → c ≡ known_by (compares c (pos 0) (pos 0)) (compares c (pos 0) (pos 1)) (compares c (pos 1) (pos 0))
unfolding known_by
is_known c =
    each (λ (k : Comparison). k
    ≡ known_by (compares k (pos 0) (pos 0)) (compares k (pos 0) (pos 1)) (compares k (pos 1) (pos 0)))
    refl refl refl refl refl refl c

opposite_known : (c : Comparison) → known_by (not (compares c (pos 0) (pos 0))) (not (compares c (pos 0) (pos 1)))
    (not (compares c (pos 1) (pos 0))) ≡ opposite c
unfolding known_by
opposite_known c =
    each (λ (k : Comparison). known_by (not (compares k (pos 0) (pos 0))) (not (compares k (pos 0) (pos 1)))
    (not (compares k (pos 1) (pos 0))) ≡ opposite k) refl refl refl refl refl refl c

turned_known : (c : Comparison)
    → known_by (compares c (pos 0) (pos 0)) (compares c (pos 1) (pos 0)) (compares c (pos 0) (pos 1)) ≡ turned c
unfolding known_by
turned_known c =
    each (λ (k : Comparison). known_by (compares k (pos 0) (pos 0)) (compares k (pos 1) (pos 0))
    (compares k (pos 0) (pos 1)) ≡ turned k) refl refl refl refl refl refl c

pub is_opposite : (c d : Comparison) → ((x y : ℤ) → compares d x y ≡ not (compares c x y)) → d ≡ opposite c
unfolding known_by
is_opposite c d h =
    is_known d ∙ (λ i. known_by (h (pos 0) (pos 0) i) (h (pos 0) (pos 1) i) (h (pos 1) (pos 0) i)) ∙ opposite_known c

pub is_turned : (c d : Comparison) → ((x y : ℤ) → compares d x y ≡ compares c y x) → d ≡ turned c
unfolding known_by
is_turned c d h =
    is_known d ∙ (λ i. known_by (h (pos 0) (pos 0) i) (h (pos 0) (pos 1) i) (h (pos 1) (pos 0) i)) ∙ turned_known c
