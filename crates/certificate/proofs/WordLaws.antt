-- Words of joined intervals: how intervals are joined, and where neighbouring words are among them.
use Rattle.std.proofs.Common.{◌≡◌, ℕ, zero, suc, ◌<◌, ◌≤◌, ℤ, pos, ◌+ℤ◌, ◌≤ℤ◌, ◌<ℤ◌, Bool, true, false}
use Rattle.std.proofs.Common.{◌&&◌, ◌||◌, List, [], ◌∷◌, ◌++◌, length, get_or, refl, sym, subst, ◌∙◌, arith, w32}
use Rattle.std.proofs.Common.{FitsSigned, int_le, int_lt, IsSortedByKey, add-one}
use Rattle.std.specs.List.{AllByRecursion}
use Rattle.std.specs.List.Sorted.{IsPartitionPoint}
use Rattle.std.specs.Ordering.{int_cmp, is_lt}
use Rattle.std.proofs.Math.Bool.{and-false, or-false, or_assoc}
use Rattle.std.proofs.lemmas.Int.{ints, by_lt_z}
use Rattle.std.proofs.lemmas.List.Folds.{list_any-append}
use Rattle.small_laws.proofs.Comparisons.{int_lt-false, int_le-false, int_le-true, le-int_le}
use Rattle.module_format.specs.declared.rows.Interval.{Interval}
use Rattle.module_format.specs.Order.{InOrder, least_word}
use Rattle.module_format.specs.Pars.{IntervalKeeps, behind_interval}
use Rattle.certificate.specs.Rights.{is_among}
use Rattle.certificate.specs.Words.{all_words, is_in_interval, beyond_interval, BeginBy, BeginsFrom, from_begin}
use Rattle.certificate.specs.Words.{BeginInOrder}
use Rattle.certificate.specs.Words.{IsAdded}

-- ---- intervals by their first words

in_order : (low : ℤ) (is : List Interval) → ((d : Interval) → 0 < length is → low ≤ℤ (get_or is 0 d).lo)
    → ((k : ℕ) (d : Interval) → suc k < length is → (get_or is k d).lo ≤ℤ (get_or is (suc k) d).lo)
    → InOrder BeginsFrom from_begin low is
in_order low [] first next = tt
in_order low (i ∷ is) first next =
    (first i (omega arith), in_order i.lo is (λ d lt. next 0 d (omega arith)) (λ k d lt. next (suc k) d (omega arith)))

not_above : (a b : ℤ) → is_lt (int_cmp a b) ≡ false → b ≤ℤ a
not_above a b e = elim (int_lt a b) as (λ t. int_lt a b ≡ t → b ≤ℤ a) [
  | true ↦ λ yes. absurd (let never : true ≡ false = rw yes at e in cc)
  | false ↦ λ no. int_lt-false a b no
] refl

-- what sorting by first words gives
pub begin_in_order : (is : List Interval) → IsSortedByKey (λ (i : Interval). i.lo) int_cmp is → BeginInOrder is
begin_in_order [] sorted = record { low = pos 0; order = tt }
begin_in_order (i ∷ is) sorted = record {
  low = i.lo;
  order = in_order i.lo (i ∷ is) (λ d lt. grind (arith, ints)) (λ k d lt.
      not_above (get_or (i ∷ is) (suc k) d).lo (get_or (i ∷ is) k d).lo
      (rw add-one at (sorted k d (omega arith) (omega arith))));
}

-- what is known while intervals are joined: of those that are, and of the rest
pub record Joining (joined rest : List Interval) : Type 0 where
  pub low : ℤ
  pub apart : InOrder IntervalKeeps beyond_interval least_word joined
  pub begun : BeginBy low joined
  pub order : InOrder BeginsFrom from_begin low rest

-- before the first one
pub starts : (joined rest sorted : List Interval) → joined ≡ [] → rest ≡ sorted → BeginInOrder sorted
    → Joining joined rest
starts joined rest sorted none same h =
    rw (none, same) (record { low = h.low; apart = tt; begun = tt; order = h.order })

begin_by : (low k : ℤ) (is : List Interval) → low ≤ℤ k → BeginBy low is → BeginBy k is
begin_by low k [] le h = tt
begin_by low k (i ∷ is) le h =
    let here = h.0 in
    let within : i.lo ≤ℤ k = grind (arith, ints) in
    (within, begin_by low k is le h.1)

-- the first one of the rest begins after those that are joined
pub first_is_next : (joined rest after : List Interval) (i : Interval) → rest ≡ i ∷ after → Joining joined rest
    → BeginBy i.lo joined
first_is_next joined rest after i is h =
    let order : InOrder BeginsFrom from_begin h.low (i ∷ after) =
    subst (InOrder BeginsFrom from_begin h.low) is h.order in
    begin_by h.low i.lo joined order.0 h.begun

-- one of the rest is joined
pub goes_on : (joined rest after now : List Interval) (i : Interval) → rest ≡ i ∷ after → Joining joined rest
    → InOrder IntervalKeeps beyond_interval least_word now → BeginBy i.lo now → Joining now after
goes_on joined rest after now i is h apart begun =
    let order : InOrder BeginsFrom from_begin h.low (i ∷ after) =
    subst (InOrder BeginsFrom from_begin h.low) is h.order in
    record { low = i.lo; apart = apart; begun = begun; order = order.1 }

-- ---- one more interval

-- the last interval may end later
apart_widened : (low : ℤ) (is : List Interval) (last wide : Interval)
    → InOrder IntervalKeeps beyond_interval low (is ++ last ∷ []) → wide.lo ≡ last.lo → last.hi ≤ℤ wide.hi
    → FitsSigned w32 wide.hi → InOrder IntervalKeeps beyond_interval low (is ++ wide ∷ [])
apart_widened low [] last wide h lo hi fits =
    let some = h.0.some in (
      record {
        lo_fits = rw lo h.0.lo_fits;
        hi_fits = fits;
        apart = rw lo h.0.apart;
        some = (grind (arith, ints));
      },
      tt,
    )
apart_widened low (i ∷ is) last wide h lo hi fits = (h.0, apart_widened (i.hi +ℤ pos 1) is last wide h.1 lo hi fits)

-- one more that touches none may follow
apart_more : (low : ℤ) (is : List Interval) (last next : Interval)
    → InOrder IntervalKeeps beyond_interval low (is ++ last ∷ []) → last.hi <ℤ next.lo → next.lo <ℤ next.hi
    → FitsSigned w32 next.lo → FitsSigned w32 next.hi
    → InOrder IntervalKeeps beyond_interval low ((is ++ last ∷ []) ++ next ∷ [])
apart_more low [] last next h after some lo hi =
    (h.0, (record { lo_fits = lo; hi_fits = hi; apart = (grind (arith, ints)); some = some }, tt))
apart_more low (i ∷ is) last next h after some lo hi =
    (h.0, apart_more (i.hi +ℤ pos 1) is last next h.1 after some lo hi)

last_changed : {X : Type 0} (P : X → Type 0) (xs : List X) (x y : X) → AllByRecursion P (xs ++ x ∷ []) → (P x → P y)
    → AllByRecursion P (xs ++ y ∷ [])
last_changed P [] x y h change = (change h.0, tt)
last_changed P (z ∷ xs) x y h change = (h.0, last_changed P xs x y h.1 change)

one_more : {X : Type 0} (P : X → Type 0) (xs : List X) (y : X) → AllByRecursion P xs → P y
    → AllByRecursion P (xs ++ y ∷ [])
one_more P [] y h last = (last, tt)
one_more P (z ∷ xs) y h last = (h.0, one_more P xs y h.1 last)

or_moved : (a l o w : Bool) → w ≡ (l || o) → (a || (w || false)) ≡ ((a || (l || false)) || o)
or_moved true l o w e = refl
or_moved false true o w e = rw e refl
or_moved false false true w e = rw e refl
or_moved false false false w e = rw e refl

or_last : (a w : Bool) → (a || (w || false)) ≡ (a || w)
or_last true w = refl
or_last false true = refl
or_last false false = refl

words_widened : (k : ℤ) (is : List Interval) (last other wide : Interval)
    → is_in_interval wide k ≡ (is_in_interval last k || is_in_interval other k)
    → is_among (is ++ wide ∷ []) k ≡ (is_among (is ++ last ∷ []) k || is_in_interval other k)
words_widened k is last other wide e =
    rw (
      list_any-append (λ (i : Interval). is_in_interval i k) is (wide ∷ []),
      list_any-append (λ (i : Interval). is_in_interval i k) is (last ∷ []),
    ) (or_moved (is_among is k) (is_in_interval last k) (is_in_interval other k) (is_in_interval wide k) e)

words_more : (k : ℤ) (is : List Interval) (next : Interval)
    → is_among (is ++ next ∷ []) k ≡ (is_among is k || is_in_interval next k)
words_more k is next =
    list_any-append (λ (i : Interval). is_in_interval i k) is (next ∷ [])
    ∙ or_last (is_among is k) (is_in_interval next k)

-- an empty interval has no word
pub no_word : (i : Interval) (k : ℤ) → i.hi ≤ℤ i.lo → is_in_interval i k ≡ false
no_word i k le = grind (arith, ints)

-- ---- neighbouring words

-- all pass where each does
pub all_pass : (test : ℤ → Bool) (first : ℤ) (count : ℕ)
    → ((k : ℤ) → first ≤ℤ k → k <ℤ (first +ℤ pos count) → test k ≡ true) → all_words test first count ≡ true
all_pass test first zero each = refl
all_pass test first (suc count) each =
    rw (each (first +ℤ pos count) (omega (arith, ints)) (omega (arith, ints)))
    (all_pass test first count (λ k low high. each k low (omega (arith, ints))))

-- they do not where one of them fails
pub one_fails : (test : ℤ → Bool) (first : ℤ) (count : ℕ) (k : ℤ) → first ≤ℤ k → k <ℤ (first +ℤ pos count)
    → test k ≡ false → all_words test first count ≡ false
one_fails test first zero k low high fails = absurd (omega (arith, ints))
one_fails test first (suc count) k low high fails = by_lt_z k (first +ℤ pos count)
    (λ before. rw (one_fails test first count k low before fails) (and-false (test (first +ℤ pos count))))
    (λ here. let e : first +ℤ pos count ≡ k = omega (arith, ints) in rw (e, fails) refl)

-- tests that agree on the words
pub same_words : (test other : ℤ → Bool) (first : ℤ) (count : ℕ)
    → ((k : ℤ) → first ≤ℤ k → k <ℤ (first +ℤ pos count) → test k ≡ other k)
    → all_words test first count ≡ all_words other first count
same_words test other first zero same = refl
same_words test other first (suc count) same =
    rw (
      same (first +ℤ pos count) (omega (arith, ints)) (omega (arith, ints)),
      same_words test other first count (λ k low high. same k low (omega (arith, ints))),
    ) refl

-- joined intervals rise
pub rises : (low from : ℤ) (is : List Interval) → low ≤ℤ from → InOrder IntervalKeeps beyond_interval from is
    → InOrder IntervalKeeps behind_interval low is
rises low from [] le h = tt
rises low from (i ∷ is) le h =
    let a = h.0.apart in
    let within : low ≤ℤ i.lo = grind (arith, ints) in
    let next : i.hi ≤ℤ (i.hi +ℤ pos 1) = grind (arith, ints) in (
      record { lo_fits = h.0.lo_fits; hi_fits = h.0.hi_fits; apart = within; some = h.0.some },
      rises i.hi (i.hi +ℤ pos 1) is next h.1,
    )

-- a word before some intervals is not among them
before_all : (k low : ℤ) (is : List Interval) → InOrder IntervalKeeps beyond_interval low is → k <ℤ low
    → is_among is k ≡ false
before_all k low [] h lt = refl
before_all k low (i ∷ is) h lt =
    let a = h.0.apart in
    let some = h.0.some in
    let here : is_in_interval i k ≡ false = grind (arith, ints) in
    let later : k <ℤ (i.hi +ℤ pos 1) = grind (arith, ints) in
    rw here (before_all k (i.hi +ℤ pos 1) is h.1 later)

-- nor is one after them
pub behind_them : (k : ℤ) (is : List Interval) (d : Interval)
    → ((j : ℕ) → j < length is → int_le (get_or is j d).hi k ≡ true) → is_among is k ≡ false
behind_them k [] d past = refl
behind_them k (i ∷ is) d past =
    let here = int_le-true i.hi k (past 0 (omega arith)) in
    let none : is_in_interval i k ≡ false = grind (arith, ints) in
    rw none (behind_them k is d (λ j lt. past (suc j) (omega arith)))

module _ (first : ℤ) (count : ℕ) (some : 1 ≤ count) where
  -- the first interval that ends after the first word has all of them, or some word is in none
  first_has : (low : ℤ) (i : Interval) (is : List Interval) → InOrder IntervalKeeps beyond_interval low (i ∷ is)
      → int_le i.hi first ≡ false
      → (int_le i.lo first && int_le (first +ℤ pos count) i.hi) ≡ all_words (is_among (i ∷ is)) first count
  first_has low i is h here =
      let past = int_le-false i.hi first here in
      let nonempty = h.0.some in
      by_lt_z first i.lo
      (λ before.
      let none : is_in_interval i first ≡ false = grind (arith, ints) in
      let later : first <ℤ (i.hi +ℤ pos 1) = grind (arith, ints) in
      let other : is_among is first ≡ false = before_all first (i.hi +ℤ pos 1) is h.1 later in
      let missing : is_among (i ∷ is) first ≡ false = rw (none, other) refl in
      let at : int_le i.lo first ≡ false = grind (arith, ints) in
      rw (at, one_fails (is_among (i ∷ is)) first count first (omega (arith, ints)) (omega (arith, ints)) missing) refl)
      (λ from. by_lt_z i.hi (first +ℤ pos count)
      (λ short.
      let none : is_in_interval i i.hi ≡ false = grind (arith, ints) in
      let later : i.hi <ℤ (i.hi +ℤ pos 1) = grind (arith, ints) in
      let other : is_among is i.hi ≡ false = before_all i.hi (i.hi +ℤ pos 1) is h.1 later in
      let missing : is_among (i ∷ is) i.hi ≡ false = rw (none, other) refl in
      let at : int_le (first +ℤ pos count) i.hi ≡ false = grind (arith, ints) in
      let low_enough : first ≤ℤ i.hi = grind (arith, ints) in
      rw (
        at,
        and-false (int_le i.lo first),
        one_fails (is_among (i ∷ is)) first count i.hi low_enough short missing,
      ) refl)
      (λ long. rw (
        le-int_le i.lo first from,
        le-int_le (first +ℤ pos count) i.hi long,
        all_pass (is_among (i ∷ is)) first count (λ k low_k high_k.
            let inside : is_in_interval i k ≡ true = grind (arith, ints) in
            rw inside refl),
      ) refl))

  -- so the one after those that end before them decides
  one_has : (low : ℤ) (is : List Interval) (n : ℕ) (d : Interval) → InOrder IntervalKeeps beyond_interval low is
      → n < length is → ((j : ℕ) → j < n → int_le (get_or is j d).hi first ≡ true)
      → int_le (get_or is n d).hi first ≡ false
      → (int_le (get_or is n d).lo first && int_le (first +ℤ pos count) (get_or is n d).hi)
      ≡ all_words (is_among is) first count
  one_has low [] n d h lt before here = absurd (omega arith)
  one_has low (i ∷ is) zero d h lt before here = first_has low i is h here
  one_has low (i ∷ is) (suc n) d h lt before here =
      let past = int_le-true i.hi first (before 0 (omega arith)) in
      one_has (i.hi +ℤ pos 1) is n d h.1 (omega arith) (λ j less. before (suc j) (omega arith)) here
      ∙ same_words (is_among is) (is_among (i ∷ is)) first count (λ k low_k high_k.
      let none : is_in_interval i k ≡ false = grind (arith, ints) in
      rw none refl)

  -- the same of one that a search found
  pub found_has : (low : ℤ) (is : List Interval) (n : ℕ) (d : Interval) → InOrder IntervalKeeps beyond_interval low is
      → n < length is
      → IsPartitionPoint (λ (i : Interval). int_le i.hi first ≡ true) (λ (i : Interval). int_le i.hi first ≡ false) is n
      → d ≡ get_or is n d
      → (int_le d.lo first && int_le (first +ℤ pos count) d.hi) ≡ all_words (is_among is) first count
  found_has low is n d h inside point at =
      subst (λ (i : Interval). (int_le i.lo first && int_le (first +ℤ pos count) i.hi)
      ≡ all_words (is_among is) first count) (sym at)
      (one_has low is n d h inside (λ j less. point.0 j d (omega arith) less) (point.1 n d (omega arith) inside))

  -- where all end before them, no interval has the first word
  pub none_has : (is : List Interval) (d : Interval)
      → ((j : ℕ) → j < length is → int_le (get_or is j d).hi first ≡ true)
      → false ≡ all_words (is_among is) first count
  none_has is d past = sym (one_fails (is_among is) first count first (omega (arith, ints)) (omega (arith, ints))
      (behind_them first is d past))

-- ---- adding an interval

-- an interval with some words
pub record IsSome (i : Interval) : Type 0 where
  pub lo_fits : FitsSigned w32 i.lo
  pub hi_fits : FitsSigned w32 i.hi
  pub some : i.lo <ℤ i.hi

-- an empty interval adds nothing
pub added_none : (is : List Interval) (i : Interval) → InOrder IntervalKeeps beyond_interval least_word is
    → BeginBy i.lo is → i.hi ≤ℤ i.lo → IsAdded is i is
added_none is i h begun none = record {
  apart = h;
  begun = begun;
  words = λ k. rw (no_word i k none) (sym (or-false (is_among is k)));
}

module _ (is : List Interval) (last i : Interval)
    (h : InOrder IntervalKeeps beyond_interval least_word (is ++ last ∷ []))
    (begun : BeginBy i.lo (is ++ last ∷ [])) where
  -- an interval that begins in the last one, or where it ends, widens it
  pub added_wide : (wide : Interval) → wide.lo ≡ last.lo → last.hi ≤ℤ wide.hi → FitsSigned w32 wide.hi
      → ((k : ℤ) → is_in_interval wide k ≡ (is_in_interval last k || is_in_interval i k))
      → IsAdded (is ++ last ∷ []) i (is ++ wide ∷ [])
  added_wide wide lo hi fits words = record {
    apart = apart_widened least_word is last wide h lo hi fits;
    begun = last_changed (λ (j : Interval). j.lo ≤ℤ i.lo) is last wide begun (λ le. rw lo le);
    words = λ k. words_widened k is last i wide (words k);
  }

  -- one that begins later follows it
  pub added_after : IsSome i → last.hi <ℤ i.lo → IsAdded (is ++ last ∷ []) i ((is ++ last ∷ []) ++ i ∷ [])
  added_after some after = record {
    apart = apart_more least_word is last i h after some.some some.lo_fits some.hi_fits;
    begun = one_more (λ (j : Interval). j.lo ≤ℤ i.lo) (is ++ last ∷ []) i begun (grind (arith, ints));
    words = λ k. words_more k (is ++ last ∷ []) i;
  }

-- ---- the rest of the intervals

-- a word of the one that is joined
pub word_goes_on : (k : ℤ) (joined rest after now : List Interval) (i : Interval) → rest ≡ i ∷ after
    → is_among now k ≡ (is_among joined k || is_in_interval i k)
    → (is_among now k || is_among after k) ≡ (is_among joined k || is_among rest k)
word_goes_on k joined rest after now i is e =
    rw (is, e) (or_assoc (is_among joined k) (is_in_interval i k) (is_among after k))

-- at the end nothing is left
pub no_rest : (k : ℤ) (joined rest : List Interval) → length rest ≡ 0
    → is_among joined k ≡ (is_among joined k || is_among rest k)
no_rest k joined [] none = sym (or-false (is_among joined k))
no_rest k joined (i ∷ rest) none = absurd (omega (arith, none))
