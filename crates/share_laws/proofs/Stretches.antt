-- Stretches of words of a frame, and of regions.
use Rattle.std.proofs.Common.{◌≡◌, ℕ, ◌+◌, ◌*◌, ◌/◌, ◌<◌, ◌≤◌, ◌&&◌, Bool, true, false, ◌⊎◌, inl, inr, ℤ, pos, ◌+ℤ◌}
use Rattle.std.proofs.Common.{◌-ℤ◌, ◌*ℤ◌, ◌≤ℤ◌, ◌<ℤ◌, List, [], ◌∷◌, ◌++◌, map, Option, Some, None, refl, sym, ap, ◌∙◌}
use Rattle.std.proofs.Common.{subst, arith, nat_abs}
use Rattle.std.proofs.lemmas.Bool.{eqb-true, and_from, or_cases, or_left, or_right, and_parts}
use Rattle.std.proofs.lemmas.Int.{ints}
use Rattle.std.specs.Prelude.{int_le, int_lt, slice_get, ◌==◌}
use Rattle.std.specs.List.{list_any, flat_map, AllByRecursion}
use Rattle.small_laws.proofs.Comparisons.{eqb-self, lt-int_lt, le-int_le, int_le-true, int_lt-true}
use Rattle.module_format.specs.declared.rows.Parameter.{Parameter}
use Rattle.module_format.specs.declared.rows.Interval.{Interval}
use Rattle.certificate.specs.Rights.{is_among}
use Rattle.machine_state.specs.BranchShares.{words_of, region_of, region_size, address_of}
use Rattle.machine_state.specs.Memory.{place_of, data_start}
use Rattle.machine_state.specs.Spans.{Stretch, stretches_over}
use Rattle.rulings.specs.Meaning.{place_in}
use Rattle.rulings.specs.Reach.{is_listed}
use Rattle.rulings.specs.Regions.{IsByteOf}

-- ---- lists

-- one of two lists has one that passes
pub any_either : {A : Type 0} (test : A → Bool) (xs ys : List A) → list_any test (xs ++ ys) ≡ true
    → (list_any test xs ≡ true) ⊎ (list_any test ys ≡ true)
any_either test [] ys h = inr h
any_either test (x ∷ xs) ys h = elim (or_cases (test x) _ h) [
  | inl here ↦ inl (or_left _ _ here)
  | inr there ↦ elim (any_either test xs ys there) [ inl p ↦ inl (or_right (test x) _ p) | inr q ↦ inr q ]
]

-- what passes in the first list passes
pub any_first : {A : Type 0} (test : A → Bool) (xs ys : List A) → list_any test xs ≡ true
    → list_any test (xs ++ ys) ≡ true
any_first test [] ys h = absurd (cc)
any_first test (x ∷ xs) ys h = elim (or_cases (test x) _ h) [
  | inl here ↦ or_left _ _ here
  | inr there ↦ or_right (test x) _ (any_first test xs ys there)
]

-- and in the second
pub any_second : {A : Type 0} (test : A → Bool) (xs ys : List A) → list_any test ys ≡ true
    → list_any test (xs ++ ys) ≡ true
any_second test [] ys h = h
any_second test (x ∷ xs) ys h = or_right (test x) _ (any_second test xs ys h)

-- ---- words of the frame

-- the place is one of `size` bytes from a place on
over_tells : (start : ℤ) (size place : ℕ) → stretches_over (record { start = start; size = size }) place ≡ true
    → (start ≤ℤ pos place) × (pos place <ℤ (start +ℤ pos size))
over_tells start size place h =
    let both = and_parts (int_le start (pos place)) (int_le (pos (place + 1)) (start +ℤ pos size)) h in
    let low = int_le-true start (pos place) both.0 in
    let high = int_le-true (pos (place + 1)) (start +ℤ pos size) both.1 in
    (low, omega (arith, ints, high))

-- a place that lies there is over it
over_there : (start : ℤ) (size place : ℕ) → start ≤ℤ pos place → pos place <ℤ (start +ℤ pos size)
    → stretches_over (record { start = start; size = size }) place ≡ true
over_there start size place low high =
    and_from (int_le start (pos place)) (int_le (pos (place + 1)) (start +ℤ pos size))
    (le-int_le start (pos place) low) (le-int_le (pos (place + 1)) (start +ℤ pos size) (omega (arith, ints, high)))

-- no interval ends before it begins
abbrev pub AreProper : List Interval → Type 0
AreProper is = AllByRecursion (λ (i : Interval). i.lo ≤ℤ i.hi) is

module _ (base : ℕ) (origin : ℤ) (at : pos base ≡ pos data_start +ℤ origin) where
  -- a byte of an interval is one of a word of it
  word_found : (lo hi : ℤ) (place : ℕ) → lo ≤ℤ hi
      → stretches_over (words_of base (record { lo = lo; hi = hi })) place ≡ true
      → (k : ℤ) × (lo ≤ℤ k) × (k <ℤ hi) × IsByteOf origin k place
  word_found lo hi place proper h =
      let t = over_tells (pos base -ℤ pos data_start +ℤ pos 4 *ℤ lo) (4 * nat_abs (hi -ℤ lo)) place h in
      let low : place_in origin lo ≤ℤ pos place = omega (arith, ints, at, t.0) in
      let high : pos place <ℤ place_in origin hi = omega (arith, ints, at, t.1, proper) in
      let n : ℕ = nat_abs (pos place -ℤ place_in origin lo) in
      let is : pos n ≡ pos place -ℤ place_in origin lo = omega (arith, ints, low) in (
        lo +ℤ pos (n / 4),
        omega (arith, ints),
        omega (arith, ints, is, high),
        record { low = omega (arith, ints, is); high = omega (arith, ints, is) },
      )

  -- and the other way round
  word_there : (lo hi k : ℤ) (place : ℕ) → lo ≤ℤ k → k <ℤ hi → IsByteOf origin k place
      → stretches_over (words_of base (record { lo = lo; hi = hi })) place ≡ true
  word_there lo hi k place low high b =
      let from = b.low in
      let to = b.high in
      over_there (pos base -ℤ pos data_start +ℤ pos 4 *ℤ lo) (4 * nat_abs (hi -ℤ lo)) place
      (omega (arith, ints, at, from, low)) (omega (arith, ints, at, to, low, high))

  -- a byte of intervals is one of a word of them
  pub words_found : (is : List Interval) (place : ℕ) → AreProper is
      → list_any (λ s. stretches_over s place) (map (words_of base) is) ≡ true
      → (k : ℤ) × (is_among is k ≡ true) × IsByteOf origin k place
  words_found [] place proper h = absurd (cc)
  words_found (i ∷ is) place proper h = elim (or_cases (stretches_over (words_of base i) place) _ h) [
    | inl here ↦
        let w = word_found i.lo i.hi place proper.0 here in (
          w.0,
          or_left _ _ (and_from (int_le i.lo w.0) (int_lt w.0 i.hi) (le-int_le i.lo w.0 w.1) (lt-int_lt w.0 i.hi w.2)),
          w.3,
        )
    | inr there ↦
        let w = words_found is place proper.1 there in
        (w.0, or_right (int_le i.lo w.0 && int_lt w.0 i.hi) _ w.1, w.2)
  ]

  -- a byte of a word of them is one of theirs
  pub words_there : (is : List Interval) (k : ℤ) (place : ℕ) → is_among is k ≡ true → IsByteOf origin k place
      → list_any (λ s. stretches_over s place) (map (words_of base) is) ≡ true
  words_there [] k place among b = absurd (cc)
  words_there (i ∷ is) k place among b = elim (or_cases (int_le i.lo k && int_lt k i.hi) _ among) [
    | inl here ↦
        let both = and_parts (int_le i.lo k) (int_lt k i.hi) here in
        or_left _ _ (word_there i.lo i.hi k place (int_le-true i.lo k both.0) (int_lt-true k i.hi both.1) b)
    | inr there ↦ or_right (stretches_over (words_of base i) place) _ (words_there is k place there b)
  ]

-- ---- regions

-- a byte of the region of a listed parameter
pub record InListedRegion (parameters : List Parameter) (addresses : List (Option ℕ)) (numbers : List ℕ)
    (place : ℕ) : Type 0 where
  pub j : ℕ
  pub p : Parameter
  pub address : ℕ
  pub listed : is_listed numbers j ≡ true
  pub found : slice_get parameters j ≡ Some p
  pub at : address_of addresses j ≡ Some address
  pub low : place_of address ≤ place
  pub high : place < place_of address + region_size p.kind

module _ (parameters : List Parameter) (addresses : List (Option ℕ)) where
  -- a byte of a parameter's region, where that and its address are known
  region_found : (j place : ℕ) (o : Option ℕ) (q : Option Parameter) → address_of addresses j ≡ o
      → slice_get parameters j ≡ q → list_any (λ s. stretches_over s place) (elim o as (λ o. List Stretch) [
        | None ↦ []
        | Some a ↦ elim q as (λ q. List Stretch) [
          | None ↦ []
          | Some p ↦ record { start = pos (place_of a); size = region_size p.kind } ∷ []
        ]
      ]) ≡ true → (p : Parameter) × (a : ℕ) × (q ≡ Some p) × (o ≡ Some a) × (place_of a ≤ place)
      × (place < place_of a + region_size p.kind)
  region_found j place None q at found h = absurd (cc)
  region_found j place (Some a) None at found h = absurd (cc)
  region_found j place (Some a) (Some p) at found h =
      elim (or_cases (stretches_over (record { start = pos (place_of a); size = region_size p.kind }) place) false h) [
        | inl here ↦
            let t = over_tells (pos (place_of a)) (region_size p.kind) place here in
            (p, a, refl, refl, omega (arith, ints, t.0), omega (arith, ints, t.1))
        | inr there ↦ absurd (cc)
      ]

  -- a byte of the regions of listed parameters
  pub regions_found : (numbers : List ℕ) (place : ℕ)
      → list_any (λ s. stretches_over s place) (flat_map (region_of parameters addresses) numbers) ≡ true
      → InListedRegion parameters addresses numbers place
  regions_found [] place h = absurd (cc)
  regions_found (j ∷ js) place h = elim (any_either (λ s. stretches_over s place) (region_of parameters addresses j)
      (flat_map (region_of parameters addresses) js) h) [
        | inl here ↦
            let r = region_found j place (address_of addresses j) (slice_get parameters j) refl refl here in
            record {
              j = j;
              p = r.0;
              address = r.1;
              listed = or_left (j == j) _ (eqb-self j);
              found = r.2;
              at = r.3;
              low = r.4;
              high = r.5;
            }
        | inr there ↦
            let r = regions_found js place there in
            record {
              j = r.j;
              p = r.p;
              address = r.address;
              listed = or_right (j == r.j) _ r.listed;
              found = r.found;
              at = r.at;
              low = r.low;
              high = r.high;
            }
      ]

  -- and the other way round
  region_there : (j place address : ℕ) (p : Parameter) → slice_get parameters j ≡ Some p
      → address_of addresses j ≡ Some address → place_of address ≤ place
      → place < place_of address + region_size p.kind
      → list_any (λ s. stretches_over s place) (region_of parameters addresses j) ≡ true
  region_there j place address p found at low high =
      ap (λ (o : Option ℕ). list_any (λ s. stretches_over s place) (elim o as (λ o. List Stretch) [
        | None ↦ []
        | Some a ↦ elim (slice_get parameters j) as (λ q. List Stretch) [
          | None ↦ []
          | Some p ↦ record { start = pos (place_of a); size = region_size p.kind } ∷ []
        ]
      ])) at
      ∙ ap (λ (q : Option Parameter). list_any (λ s. stretches_over s place) (elim q as (λ q. List Stretch) [
        | None ↦ []
        | Some p ↦ record { start = pos (place_of address); size = region_size p.kind } ∷ []
      ])) found
      ∙ or_left _ false (over_there (pos (place_of address)) (region_size p.kind) place (omega (arith, ints, low))
      (omega (arith, ints, high)))

  -- the same of a list
  pub regions_there : (numbers : List ℕ) (j place address : ℕ) (p : Parameter) → is_listed numbers j ≡ true
      → slice_get parameters j ≡ Some p → address_of addresses j ≡ Some address → place_of address ≤ place
      → place < place_of address + region_size p.kind
      → list_any (λ s. stretches_over s place) (flat_map (region_of parameters addresses) numbers) ≡ true
  regions_there [] j place address p listed found at low high = absurd (cc)
  regions_there (k ∷ ks) j place address p listed found at low high = elim (or_cases (k == j) _ listed) [
    | inl here ↦ any_first (λ s. stretches_over s place) (region_of parameters addresses k)
        (flat_map (region_of parameters addresses) ks)
        (subst (λ n. list_any (λ s. stretches_over s place) (region_of parameters addresses n) ≡ true)
        (sym (eqb-true k j here)) (region_there j place address p found at low high))
    | inr there ↦ any_second (λ s. stretches_over s place) (region_of parameters addresses k)
        (flat_map (region_of parameters addresses) ks)
        (regions_there ks j place address p there found at low high)
  ]
