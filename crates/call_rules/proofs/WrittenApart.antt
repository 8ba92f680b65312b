-- No two regions that are lent meet if each one that is written meets none of the others.
use Rattle.std.proofs.Common.{◌≡◌, ◌∙◌, refl, sym, ap, ℕ, zero, suc, ◌+◌, ◌-◌, ◌<◌, Bool, true, false}
use Rattle.std.proofs.Common.{◌&&◌, ◌||◌, not, inl, inr, List, [], ◌∷◌, length, take, drop, map, Option, Some}
use Rattle.std.proofs.Common.{None, arith}
use Rattle.std.specs.Prelude.{slice_get, int_lt}
use Rattle.std.specs.List.{list_all}
use Rattle.std.proofs.lemmas.Bool.{and_parts, and_from, cases_Bool, false_from_ne_true}
use Rattle.std.proofs.lemmas.List.Folds.{list_all-map}
use Rattle.std.proofs.lemmas.Option.{slice_get_within}
use Rattle.module_format.specs.declared.fact.Region.{Region}
use Rattle.module_format.specs.declared.fact.Region.TheVariants as regions
use Rattle.module_format.specs.Regions.{is_same_region}
use Rattle.small_laws.proofs.Comparisons.{eqb_comm}
use Rattle.small_laws.proofs.Lookups.{list_all_at}
use Rattle.call_rules.specs.declared.lent.Lent.{Lent}
use Rattle.call_rules.specs.CallRules.{lent_end, clash, are_apart, each_two}
use Rattle.call_rules.specs.Callings.{is_apart_if_written, is_apart_from_others, is_apart_at}
use Rattle.call_rules.proofs.CallTests.{each_two_at}

-- ---- lists

-- What passes at each place passes in all.
list_all_from : {A : Type 0} (test : A → Bool) (xs : List A)
    → ((i : ℕ) (x : A) → slice_get xs i ≡ Some x → test x ≡ true) → list_all test xs ≡ true
list_all_from test [] each = refl
list_all_from test (x ∷ xs) each =
    and_from (test x) (list_all test xs) (each zero x refl) (list_all_from test xs (λ i y is. each (suc i) y is))

-- Each two pass if those at each two places do.
each_two_from : {A : Type 0} (test : A → A → Bool) (xs : List A)
    → ((i j : ℕ) (x y : A) → i < j → slice_get xs i ≡ Some x → slice_get xs j ≡ Some y → test x y ≡ true)
    → each_two test xs ≡ true
each_two_from test [] each = refl
each_two_from test (x ∷ xs) each =
    and_from (list_all (test x) xs) (each_two test xs)
    (list_all_from (test x) xs (λ i y is. each zero (suc i) x y (omega arith) refl is))
    (each_two_from test xs (λ i j y z low a b. each (suc i) (suc j) y z (omega arith) a b))

-- Each two of a list pass a test of what they are mapped to if each two of the mapped list pass it.
pub each_two-map : {A B : Type 0} (test : B → B → Bool) (f : A → B) (xs : List A)
    → each_two test (map f xs) ≡ each_two (λ x y. test (f x) (f y)) xs
each_two-map test f [] = refl
each_two-map test f (x ∷ xs) =
    ap (λ (b : Bool). b && each_two test (map f xs)) (list_all-map (test (f x)) f xs)
    ∙ ap (λ (b : Bool). list_all (λ y. test (f x) (f y)) xs && b) (each_two-map test f xs)

-- What is at a place before the first `n` end is there in the list.
taken_at : {A : Type 0} (xs : List A) (n i : ℕ) (x : A) → slice_get (take n xs) i ≡ Some x
    → (i < n) × (slice_get xs i ≡ Some x)
taken_at [] zero i x is = absurd (cc)
taken_at [] (suc n) i x is = absurd (cc)
taken_at (y ∷ xs) zero i x is = absurd (cc)
taken_at (y ∷ xs) (suc n) zero x is = (omega arith, is)
taken_at (y ∷ xs) (suc n) (suc i) x is = let found = taken_at xs n i x is in (omega (arith, found.0), found.1)

-- What is in a list at a place below `n` is among the first `n`.
take_at : {A : Type 0} (xs : List A) (n i : ℕ) (x : A) → i < n → slice_get xs i ≡ Some x
    → slice_get (take n xs) i ≡ Some x
take_at [] n i x low is = absurd (cc)
take_at (y ∷ xs) zero i x low is = absurd (omega arith)
take_at (y ∷ xs) (suc n) zero x low is = is
take_at (y ∷ xs) (suc n) (suc i) x low is = take_at xs n i x (omega arith) is

-- What comes after the first `n` is that many places further on in the list.
dropped_at : {A : Type 0} (xs : List A) (n i : ℕ) → slice_get (drop n xs) i ≡ slice_get xs (n + i)
dropped_at xs zero i = let same : i ≡ 0 + i = omega arith in ap (slice_get xs) same
dropped_at [] (suc n) i = refl
dropped_at (x ∷ xs) (suc n) i =
    let same : suc (n + i) ≡ suc n + i = omega arith in dropped_at xs n i ∙ ap (slice_get (x ∷ xs)) same

-- ---- two regions

same_either_way : (r s : Region) → is_same_region r s ≡ is_same_region s r
same_either_way regions.Frame regions.Frame = refl
same_either_way regions.Frame regions.Constants = refl
same_either_way regions.Frame (regions.Parameter k) = refl
same_either_way regions.Constants regions.Frame = refl
same_either_way regions.Constants regions.Constants = refl
same_either_way regions.Constants (regions.Parameter k) = refl
same_either_way (regions.Parameter j) regions.Frame = refl
same_either_way (regions.Parameter j) regions.Constants = refl
same_either_way (regions.Parameter j) (regions.Parameter k) = eqb_comm j k

last_swapped : (c d e : Bool) → (c && d && e) ≡ (c && e && d)
last_swapped false d e = refl
last_swapped true true true = refl
last_swapped true true false = refl
last_swapped true false true = refl
last_swapped true false false = refl

swapped : (a b c d e : Bool) → ((a || b) && c && d && e) ≡ ((b || a) && c && e && d)
swapped true true c d e = last_swapped c d e
swapped true false c d e = last_swapped c d e
swapped false true c d e = last_swapped c d e
swapped false false c d e = refl

-- Two regions clash in either order.
clash_either_way : (l k : Lent) → clash l k ≡ clash k l
clash_either_way l k =
    ap (λ (same : Bool). (l.is_written || k.is_written) && same && int_lt l.first (lent_end k)
    && int_lt k.first (lent_end l)) (same_either_way l.region k.region)
    ∙ swapped l.is_written k.is_written (is_same_region k.region l.region) (int_lt l.first (lent_end k))
    (int_lt k.first (lent_end l))

apart_either_way : (one other : Option Lent) → are_apart one other ≡ are_apart other one
apart_either_way None None = refl
apart_either_way None (Some k) = refl
apart_either_way (Some l) None = refl
apart_either_way (Some l) (Some k) = ap not (clash_either_way l k)

-- Two regions of which none is written are apart.
unwritten_apart : (l k : Lent) → l.is_written ≡ false → k.is_written ≡ false → are_apart (Some l) (Some k) ≡ true
unwritten_apart l k one other =
    ap (λ (b : Bool). not ((b || k.is_written) && is_same_region l.region k.region && int_lt l.first (lent_end k)
    && int_lt k.first (lent_end l))) one
    ∙ ap (λ (b : Bool). not (b && is_same_region l.region k.region && int_lt l.first (lent_end k)
    && int_lt k.first (lent_end l))) other

-- ---- each that is written

-- A region that is written is apart from each of the others, if it meets none of them.
if_written : (l : Lent) (others : List (Option Lent)) (j : ℕ) (other : Option Lent) → l.is_written ≡ true
    → is_apart_if_written (Some l) others ≡ true → slice_get others j ≡ Some other → are_apart (Some l) other ≡ true
if_written l others j other written apart is =
    list_all_at (are_apart (Some l)) others j other
    (sym (ap (λ (b : Bool). not b || list_all (are_apart (Some l)) others) written) ∙ apart) is

-- A region meets none of some others, if it is apart from each of them.
apart_from_each : (one : Option Lent) (others : List (Option Lent))
    → ((j : ℕ) (other : Option Lent) → slice_get others j ≡ Some other → are_apart one other ≡ true)
    → is_apart_if_written one others ≡ true
apart_from_each None others each = refl
apart_from_each (Some l) others each = elim (cases_Bool l.is_written) [
  | inl written ↦ ap (λ (b : Bool). not b || list_all (are_apart (Some l)) others) written
      ∙ list_all_from (are_apart (Some l)) others each
  | inr not_written ↦ ap (λ (b : Bool). not b || list_all (are_apart (Some l)) others) not_written
]

-- What is said of the region at a place, once it is found there.
told_at : (all : List (Option Lent)) (i : ℕ) (one : Option Lent) → slice_get all i ≡ Some one
    → is_apart_at all i ≡ (is_apart_if_written one (take i all) && is_apart_if_written one (drop (i + 1) all))
told_at all i one is =
    ap (λ (o : Option (Option Lent)). is_apart_from_others o (take i all) (drop (i + 1) all)) is

-- If each two are apart, the region at each place meets none of the others.
pub apart_at : (all : List (Option Lent)) (i : ℕ) (one : Option Lent) → slice_get all i ≡ Some one
    → each_two are_apart all ≡ true → is_apart_at all i ≡ true
apart_at all i one is each =
    told_at all i one is
    ∙ and_from (is_apart_if_written one (take i all)) (is_apart_if_written one (drop (i + 1) all))
    (apart_from_each one (take i all) (λ j other found.
    let earlier = taken_at all i j other found in
    apart_either_way one other ∙ each_two_at are_apart all j i other one earlier.0 earlier.1 is each))
    (apart_from_each one (drop (i + 1) all) (λ j other found.
    each_two_at are_apart all i (i + 1 + j) one other (omega arith) is (sym (dropped_at all (i + 1) j) ∙ found) each))

-- If a region that is written meets another, not all are apart.
pub meets_one : (all : List (Option Lent)) (i : ℕ) → is_apart_at all i ≡ false → each_two are_apart all ≡ false
meets_one all i meets = false_from_ne_true (each_two are_apart all) (λ each. by (slice_get all i) refl each)
  where
    by : (o : Option (Option Lent)) → slice_get all i ≡ o → each_two are_apart all ≡ true → ⊥
    by None is each =
        let no : true ≡ false =
        sym (ap (λ (o : Option (Option Lent)). is_apart_from_others o (take i all) (drop (i + 1) all)) is) ∙ meets in
        absurd (cc)
    by (Some one) is each = let no : true ≡ false = sym (apart_at all i one is each) ∙ meets in absurd (cc)

-- If each region that is written meets none of the others, all are apart.
pub all_apart : (all : List (Option Lent)) → ((i : ℕ) → i < length all → is_apart_at all i ≡ true)
    → each_two are_apart all ≡ true
all_apart all each = each_two_from are_apart all two
  where
    parts : (i : ℕ) (one : Option Lent) → slice_get all i ≡ Some one
        → (is_apart_if_written one (take i all) ≡ true) × (is_apart_if_written one (drop (i + 1) all) ≡ true)
    parts i one is =
        and_parts (is_apart_if_written one (take i all)) (is_apart_if_written one (drop (i + 1) all))
        (sym (told_at all i one is) ∙ each i (slice_get_within all i one is))

    two : (i j : ℕ) (one other : Option Lent) → i < j → slice_get all i ≡ Some one → slice_get all j ≡ Some other
        → are_apart one other ≡ true
    two i j None other low a b = refl
    two i j (Some l) None low a b = refl
    two i j (Some l) (Some k) low a b = elim (cases_Bool l.is_written) [
      | inl written ↦
          let same : (i + 1) + (j - (i + 1)) ≡ j = omega arith in
          let behind : slice_get (drop (i + 1) all) (j - (i + 1)) ≡ Some (Some k) =
          dropped_at all (i + 1) (j - (i + 1)) ∙ ap (slice_get all) same ∙ b in
          if_written l (drop (i + 1) all) (j - (i + 1)) (Some k) written (parts i (Some l) a).1 behind
      | inr first ↦ elim (cases_Bool k.is_written) [
        | inl written ↦
            apart_either_way (Some l) (Some k)
            ∙ if_written k (take j all) i (Some l) written (parts j (Some k) b).0 (take_at all j i (Some l) low a)
        | inr second ↦ unwritten_apart l k first second
      ]
    ]
