-- What is left once two prices are paid, one after the other.
use Rattle.std.proofs.Common.{◌≡◌, ℕ, ◌+◌, ◌-◌, ◌≤◌, ◌<◌, Option, Some, None, List, length, take, get_or, arith}
use Rattle.std.specs.Prelude.{SomeIff, sum_by}
use Rattle.std.proofs.lemmas.List.Sums.{sum_by_more_le}

-- the second one from what the first one left
pub both_are_paid : (number first second left : ℕ) (after : Option ℕ) → first ≤ number → left ≡ number - first
    → SomeIff after (second ≤ left) (left - second)
    → SomeIff after (first + second ≤ number) (number - (first + second))
both_are_paid number first second left None covered is h = λ both. h (omega arith)
both_are_paid number first second left (Some x) covered is h = (omega (arith, h), omega (arith, h))

-- where what is left does not cover one of some prices, the number did not cover all
pub is_not_covered : {X : Type 0} (price : X → ℕ) (xs : List X) (i : ℕ) (d : X) (left number : ℕ) → i < length xs
    → left + sum_by price (take i xs) ≡ number → (price (get_or xs i d) ≤ left → ⊥) → sum_by price xs ≤ number → ⊥
is_not_covered price xs i d left number low paid short covered =
    let more = sum_by_more_le price xs i d low in
    short (omega (arith, more, paid, covered))
