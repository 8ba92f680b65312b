-- Lists that contain the same numbers.
use Rattle.std.proofs.Common.{◌≡◌, ℕ, zero, suc, ◌<◌, Bool, true, false, cond, List, [], ◌∷◌, length, get_or, refl}
use Rattle.std.proofs.Common.{ap, arith, ◌∙◌, nat_eq, eqb}
use Rattle.std.specs.List.{Contains, dedup}
use Rattle.std.specs.List.Sorted.{IsPermutation}
use Rattle.std.proofs.lemmas.List.Kept.{Contains-dedup_nat, Contains-from_dedup}
use Rattle.std.proofs.lemmas.List.Sorted.{Contains-permutation, IsPermutation-sym}
use Rattle.std.proofs.lemmas.Bool.{eqb-true}
use Rattle.small_laws.proofs.Comparisons.{eqb-self}
use Rattle.small_laws.proofs.Connectives.{same_tests, cond_true-second, cond_true-first}
use Rattle.scalar_ranges.specs.Moves.{is_one_of}
use Rattle.program_uses.specs.Listing.{SameNumbers}

one_at : (ns : List ℕ) (n k : ℕ) → k < length ns → get_or ns k n ≡ n → is_one_of ns n ≡ true
one_at [] n k less is = absurd (omega arith)
one_at (m ∷ ns) n zero less is =
    cond_true-first (nat_eq m n) (is_one_of ns n) (ap (λ j. nat_eq j n) is ∙ eqb-self n)
one_at (m ∷ ns) n (suc k) less is =
    cond_true-second (nat_eq m n) (is_one_of ns n) (one_at ns n k (omega arith) is)

one_of_these : (ns : List ℕ) (n : ℕ) → Contains ns n → is_one_of ns n ≡ true
one_of_these ns n c = one_at ns n c.0 c.1 c.2

further : (m : ℕ) (ns : List ℕ) (n : ℕ) → Contains ns n → Contains (m ∷ ns) n
further m ns n c = (suc c.0, omega (arith, c.1), c.2)

contains_by : (t : Bool) (m : ℕ) (ns : List ℕ) (n : ℕ) → (t ≡ true → m ≡ n) → (is_one_of ns n ≡ true → Contains ns n)
    → cond t true (is_one_of ns n) ≡ true → Contains (m ∷ ns) n
contains_by true m ns n same others h = (0, omega arith, same refl)
contains_by false m ns n same others h = further m ns n (others h)

contains_one : (ns : List ℕ) (n : ℕ) → is_one_of ns n ≡ true → Contains ns n
contains_one [] n h = absurd (cc)
contains_one (m ∷ ns) n h = contains_by (nat_eq m n) m ns n (eqb-true m n) (contains_one ns n) h

-- lists of which each contains what the other does
same_from : (ms ns : List ℕ) → ((n : ℕ) → Contains ms n → Contains ns n) → ((n : ℕ) → Contains ns n → Contains ms n)
    → SameNumbers ms ns
same_from ms ns there back = λ n.
    same_tests (is_one_of ms n) (is_one_of ns n) (λ h. one_of_these ns n (there n (contains_one ms n h)))
    (λ h. one_of_these ms n (back n (contains_one ns n h)))

-- sorted, and each number once
pub distinct_same : (numbers sorted each : List ℕ) → IsPermutation numbers sorted → each ≡ dedup eqb sorted
    → SameNumbers each numbers
distinct_same numbers sorted each moved is =
    same_from each numbers
    (λ n h. Contains-permutation sorted numbers n (IsPermutation-sym numbers sorted moved)
    (Contains-from_dedup eqb sorted n (rw is at h)))
    (λ n h. rw is (Contains-dedup_nat sorted n (Contains-permutation numbers sorted n moved h)))
