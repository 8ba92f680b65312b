-- The laws of single fields: a field that is read is spelled so, and a field that is spelled so is read.
use Rattle.std.proofs.Common.{◌≡◌, ℕ, ◌+◌, ◌^◌, ◌<◌, ◌≤◌, ℤ, ◌≤ℤ◌, suc, [], ◌∷◌, false, ltb, leb, List}
use Rattle.std.proofs.Common.{◌++◌, length, take, drop, Ok, refl, sym, arith, rules, inl, inr, FitsSigned}
use Rattle.std.specs.Int.{w32, cast_signed, cast_unsigned}
use Rattle.std.proofs.lemmas.Bool.{cases_lt, ltb-true, lt-ltb, ltb-false, le-ltb, leb-true, le-leb, and_parts}
use Rattle.std.proofs.lemmas.List.{take_at, drop_at, take-append-drop, length-append, length-take, get_or-drop}
use Rattle.std.proofs.lemmas.List.{get_or-take, get_or_past}
use Rattle.std.proofs.lemmas.Nat.{le_bytes_2, le_bytes_4, le_bytes_8}
use Rattle.std.proofs.lemmas.Int.{ints, to_z-of_z, of_z-to_z}
use Rattle.small_laws.proofs.Comparisons.{int_le-true, le-int_le}
use Rattle.byteorder.specs.Endian.{little_number}
use Rattle.byteorder.specs.Numbers.{little_number-reads_back}
use Rattle.module_format.specs.declared.fault.FormatFaultKind.TheVariants as faults
use Rattle.module_format.specs.Order.{IsBytes, IsInterval}
use Rattle.module_format.specs.Spelling.{u16_bytes, u32_bytes, u64_bytes, i32_bytes}
use Rattle.module_format.specs.Reading.{fault, number_at, int_at, limited_at, positive_at, at_most_at, bytes_taken}
use Rattle.module_format.specs.Reading.{byte_taken, in_code_at, hi_at, interval_at}
use Rattle.module_format.proofs.ReadsInSteps.{Has, has_ok, has_err, has_then, has_unless, step, join, Spelled}
use Rattle.module_format.proofs.ReadsInSteps.{tested_takes}
use Rattle.module_format.proofs.ReadsInSteps.{tested_again}

pub IsBytes-drop : (n : ℕ) (bytes : List ℕ) → IsBytes bytes → IsBytes (drop n bytes)
IsBytes-drop n bytes h i = rw get_or-drop (h (n + i))

pub IsBytes-take : (n : ℕ) (bytes : List ℕ) → IsBytes bytes → IsBytes (take n bytes)
IsBytes-take n bytes h i =
    elim (cases_lt i n) [
      | inl lt ↦ rw (get_or-take n bytes i 0 lt) (h i)
      | inr le ↦ rw (get_or_past (take n bytes) i 0 (omega (arith, length-take n bytes))) (omega arith)
    ]

pub IsBytes-rest : (b : ℕ) (bytes : List ℕ) → IsBytes (b ∷ bytes) → IsBytes bytes
IsBytes-rest b bytes h i = h (suc i)

-- ---- numbers

-- numbers below a limit and their n bytes
pub record IsWide (n : ℕ) (spelling : ℕ → List ℕ) (limit : ℕ) : Type 0 where
  pub len : (x : ℕ) → length (spelling x) ≡ n
  pub back : (bytes : List ℕ) → n ≤ length bytes → IsBytes bytes → spelling (little_number n bytes) ≡ take n bytes
  pub again : (x : ℕ) (rest : List ℕ) → x < limit → little_number n (spelling x ++ rest) ≡ x
  pub below : (bytes : List ℕ) → IsBytes bytes → little_number n bytes < limit

pub wide16 : IsWide 2 u16_bytes (2 ^ 16)
unfolding u16_bytes
wide16 = record {
  len = λ x. refl;
  back = λ bytes long fits. le_bytes_2 (take 2 bytes) _ (omega (arith, length-take 2 bytes)) (IsBytes-take 2 bytes fits)
      (rw (get_or-take 2 bytes 0 0 (omega arith), get_or-take 2 bytes 1 0 (omega arith)) (omega arith));
  again = λ x rest lt. little_number-reads_back 2 x rest lt;
  below = λ bytes fits. omega (arith, fits 0, fits 1);
}

pub wide32 : IsWide 4 u32_bytes (2 ^ 32)
unfolding u32_bytes
wide32 = record {
  len = λ x. refl;
  back = λ bytes long fits. le_bytes_4 (take 4 bytes) _ (omega (arith, length-take 4 bytes)) (IsBytes-take 4 bytes fits)
      (rw (
        get_or-take 4 bytes 0 0 (omega arith),
        get_or-take 4 bytes 1 0 (omega arith),
        get_or-take 4 bytes 2 0 (omega arith),
        get_or-take 4 bytes 3 0 (omega arith),
      ) (omega arith));
  again = λ x rest lt. little_number-reads_back 4 x rest lt;
  below = λ bytes fits. omega (arith, fits 0, fits 1, fits 2, fits 3);
}

pub wide64 : IsWide 8 u64_bytes (2 ^ 64)
unfolding u64_bytes
wide64 = record {
  len = λ x. refl;
  back = λ bytes long fits. le_bytes_8 (take 8 bytes) _ (omega (arith, length-take 8 bytes)) (IsBytes-take 8 bytes fits)
      (rw (
        get_or-take 8 bytes 0 0 (omega arith),
        get_or-take 8 bytes 1 0 (omega arith),
        get_or-take 8 bytes 2 0 (omega arith),
        get_or-take 8 bytes 3 0 (omega arith),
        get_or-take 8 bytes 4 0 (omega arith),
        get_or-take 8 bytes 5 0 (omega arith),
        get_or-take 8 bytes 6 0 (omega arith),
        get_or-take 8 bytes 7 0 (omega arith),
      ) (omega arith));
  again = λ x rest lt. little_number-reads_back 8 x rest lt;
  below = λ bytes fits. omega (arith, fits 0, fits 1, fits 2, fits 3, fits 4, fits 5, fits 6, fits 7);
}

module _ (size n : ℕ) (spelling : ℕ → List ℕ) (max : ℕ) (wide : IsWide n spelling max) where
  pub number_takes : (bytes : List ℕ) → IsBytes bytes
      → Has (number_at size n bytes) (Spelled bytes spelling (λ x. x < max))
  unfolding number_at
  number_takes bytes fits =
      has_unless (ltb (length bytes) n) (fault faults.Truncated size) (Ok (little_number n bytes, drop n bytes))
      (λ long.
      let parts : bytes ≡ spelling (little_number n bytes) ++ drop n bytes =
      rw (wide.back bytes (ltb-false _ _ long) fits) (sym (take-append-drop n bytes)) in
      has_ok (little_number n bytes, drop n bytes) (record {
        parts = parts;
        rest_fits = IsBytes-drop n bytes fits;
        keeps = wide.below bytes fits;
      }))

  pub number_again : (x : ℕ) (rest : List ℕ) → x < max → number_at size n (spelling x ++ rest) ≡ Ok (x, rest)
  unfolding number_at
  number_again x rest lt =
      let len = wide.len x in
      let long : ltb (length (spelling x ++ rest)) n ≡ false =
      le-ltb _ _ (omega (arith, length-append (spelling x) rest)) in
      rw (long, wide.again x rest lt, drop_at (spelling x) rest n len) refl

  pub limited_takes : (limit : ℕ) (bytes : List ℕ) → IsBytes bytes
      → Has (limited_at size n limit bytes) (Spelled bytes spelling (λ x. (x < max) × (x ≤ limit)))
  unfolding limited_at
  limited_takes limit bytes fits =
      tested_takes _ _ _ _ (number_takes bytes fits) (λ x below low. (below, leb-true _ _ low))

  pub limited_again : (limit x : ℕ) (rest : List ℕ) → x < max → x ≤ limit
      → limited_at size n limit (spelling x ++ rest) ≡ Ok (x, rest)
  unfolding limited_at
  limited_again limit x rest lt le = tested_again _ _ _ _ (number_again x rest lt) (le-leb _ _ le)

-- ---- numbers of four bytes

module _ (size : ℕ) where
  pub u32_takes : (bytes : List ℕ) → IsBytes bytes
      → Has (number_at size 4 bytes) (Spelled bytes u32_bytes (λ x. x < 2 ^ 32))
  u32_takes = number_takes size 4 u32_bytes (2 ^ 32) wide32

  pub u32_again : (x : ℕ) (rest : List ℕ) → x < 2 ^ 32 → number_at size 4 (u32_bytes x ++ rest) ≡ Ok (x, rest)
  u32_again = number_again size 4 u32_bytes (2 ^ 32) wide32

  pub u16_takes : (bytes : List ℕ) → IsBytes bytes
      → Has (number_at size 2 bytes) (Spelled bytes u16_bytes (λ x. x < 2 ^ 16))
  u16_takes = number_takes size 2 u16_bytes (2 ^ 16) wide16

  pub u16_again : (x : ℕ) (rest : List ℕ) → x < 2 ^ 16 → number_at size 2 (u16_bytes x ++ rest) ≡ Ok (x, rest)
  u16_again = number_again size 2 u16_bytes (2 ^ 16) wide16

  pub positive_takes : (limit : ℕ) (bytes : List ℕ) → IsBytes bytes
      → Has (positive_at size limit bytes) (Spelled bytes u32_bytes (λ x. (1 ≤ x) × (x ≤ limit)))
  unfolding positive_at
  positive_takes limit bytes fits = tested_takes _ _ _ _ (limited_takes size 4 u32_bytes
      (2 ^ 32) wide32 limit bytes fits) (λ x h some. (leb-true _ _ some, h.1))

  pub positive_again : (limit x : ℕ) (rest : List ℕ) → x < 2 ^ 32 → 1 ≤ x → x ≤ limit
      → positive_at size limit (u32_bytes x ++ rest) ≡ Ok (x, rest)
  unfolding positive_at
  positive_again limit x rest lt some le =
      tested_again _ _ _ _ (limited_again size 4 u32_bytes (2 ^ 32) wide32 limit x rest lt le) (le-leb _ _ some)

  pub at_most_takes : (most : ℕ) (bytes : List ℕ) → IsBytes bytes
      → Has (at_most_at size most bytes) (Spelled bytes u32_bytes (λ x. (x < 2 ^ 32) × (x ≤ most)))
  unfolding at_most_at
  at_most_takes most bytes fits = tested_takes _ _ _ _ (u32_takes bytes fits) (λ x below low. (below, leb-true _ _ low))

  pub at_most_again : (most x : ℕ) (rest : List ℕ) → x < 2 ^ 32 → x ≤ most
      → at_most_at size most (u32_bytes x ++ rest) ≡ Ok (x, rest)
  unfolding at_most_at
  at_most_again most x rest lt le = tested_again _ _ _ _ (u32_again x rest lt) (le-leb _ _ le)

  -- an offset in the code that isn't its first
  pub in_code_takes : (code_len : ℕ) (bytes : List ℕ) → IsBytes bytes
      → Has (in_code_at size code_len bytes) (Spelled bytes u32_bytes (λ n. (1 ≤ n) × (n < code_len)))
  unfolding in_code_at
  in_code_takes code_len bytes fits =
      tested_takes _ _ _ _ (u32_takes bytes fits) (λ n below all.
      let both = and_parts (leb 1 n) (ltb n code_len) all in
      (leb-true _ _ both.0, ltb-true _ _ both.1))

  pub in_code_again : (code_len n : ℕ) (rest : List ℕ) → n < 2 ^ 32 → 1 ≤ n → n < code_len
      → in_code_at size code_len (u32_bytes n ++ rest) ≡ Ok (n, rest)
  unfolding in_code_at
  in_code_again code_len n rest fits some inside =
      tested_again _ _ _ _ (u32_again n rest fits) (rw (le-leb _ _ some, lt-ltb _ _ inside) refl)

  -- ---- signed words

  pub int_takes : (bytes : List ℕ) → IsBytes bytes → Has (int_at size bytes) (Spelled bytes i32_bytes (FitsSigned w32))
  unfolding int_at i32_bytes u32_bytes
  int_takes bytes fits =
      has_then _ _ (u32_takes bytes fits) (λ x h.
      let parts : bytes ≡ i32_bytes (cast_signed w32 x.0) ++ x.1 = rw (of_z-to_z w32 x.0 h.keeps) h.parts in
      let in_range : FitsSigned w32 (cast_signed w32 x.0) = search (rules, h.keeps) in
      has_ok (cast_signed w32 x.0, x.1) (record { parts = parts; rest_fits = h.rest_fits; keeps = in_range }))

  pub int_again : (z : ℤ) (rest : List ℕ) → FitsSigned w32 z → int_at size (i32_bytes z ++ rest) ≡ Ok (z, rest)
  unfolding int_at i32_bytes u32_bytes
  int_again z rest fits =
      let lt : cast_unsigned w32 z < 2 ^ 32 = omega (arith, ints) in
      step _ (u32_again (cast_unsigned w32 z) rest lt) (rw (to_z-of_z w32 z fits) refl)

  -- the numbers of a word from lo to hi
  hi_takes : (lo : ℤ) (bytes : List ℕ) → IsBytes bytes
      → Has (hi_at size lo bytes) (Spelled bytes i32_bytes (λ hi. FitsSigned w32 hi × (lo ≤ℤ hi)))
  unfolding hi_at
  hi_takes lo bytes fits =
      tested_takes _ _ _ _ (int_takes bytes fits) (λ hi fits ordered. (fits, int_le-true _ _ ordered))

  pub interval_takes : (bytes : List ℕ) → IsBytes bytes
      → Has (interval_at size bytes) (Spelled bytes (λ r. i32_bytes r.0 ++ i32_bytes r.1) (λ r. IsInterval r.0 r.1))
  unfolding interval_at
  interval_takes bytes fits =
      has_then _ _ (int_takes bytes fits) (λ lo h.
      has_then _ _ (hi_takes lo.0 lo.1 h.rest_fits) (λ hi g.
      has_ok ((lo.0, hi.0), hi.1) (record {
        parts = join (i32_bytes lo.0) (i32_bytes hi.0) hi.1 h.parts g.parts;
        rest_fits = g.rest_fits;
        keeps = record { lo_fits = h.keeps; hi_fits = g.keeps.0; ordered = g.keeps.1 };
      })))

  pub interval_again : (lo hi : ℤ) (rest : List ℕ) → IsInterval lo hi
      → interval_at size (i32_bytes lo ++ (i32_bytes hi ++ rest)) ≡ Ok ((lo, hi), rest)
  unfolding interval_at hi_at
  interval_again lo hi rest h =
      step _ (int_again lo (i32_bytes hi ++ rest) h.lo_fits)
      (step _ (tested_again _ _ _ _ (int_again hi rest h.hi_fits) (le-int_le _ _ h.ordered)) refl)

-- ---- runs of bytes

module _ (size : ℕ) where
  pub bytes_take : (n : ℕ) (bytes : List ℕ) → IsBytes bytes
      → Has (bytes_taken size n bytes) (Spelled bytes (λ run. run) (λ run. (length run ≡ n) × IsBytes run))
  unfolding bytes_taken
  bytes_take n bytes fits =
      has_unless (ltb (length bytes) n) (fault faults.Truncated size) (Ok (take n bytes, drop n bytes)) (λ long.
      has_ok (take n bytes, drop n bytes) (record {
        parts = sym (take-append-drop n bytes);
        rest_fits = IsBytes-drop n bytes fits;
        keeps = (
          let enough : n ≤ length bytes = ltb-false _ _ long in
              omega (arith, length-take n bytes),
          IsBytes-take n bytes fits,
        );
      }))

  pub bytes_again : (run rest : List ℕ) → bytes_taken size (length run) (run ++ rest) ≡ Ok (run, rest)
  unfolding bytes_taken
  bytes_again run rest =
      let long : ltb (length (run ++ rest)) (length run) ≡ false = le-ltb _ _ (omega (arith, length-append run rest)) in
      rw (long, take_at run rest (length run) refl, drop_at run rest (length run) refl) refl

  -- one byte
  pub byte_takes : (bytes : List ℕ) → IsBytes bytes
      → Has (byte_taken size bytes) (Spelled bytes (λ b. b ∷ []) (λ b. b < 256))
  unfolding byte_taken
  byte_takes [] fits = has_err (fault faults.Truncated size)
  byte_takes (b ∷ bytes) fits =
      has_ok (b, bytes) (record { parts = refl; rest_fits = IsBytes-rest b bytes fits; keeps = fits 0 })
