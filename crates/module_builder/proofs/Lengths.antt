-- How long the spellings of operands are, and that a longer distance has no shorter spelling.
use Rattle.std.proofs.Common.{◌≡◌, ℕ, zero, suc, ◌+◌, ◌-◌, ◌*◌, ◌/◌, ◌^◌, ◌<◌, ◌≤◌, [], ◌∷◌, length}
use Rattle.std.proofs.Common.{ℤ, pos, negsuc, ◌-ℤ◌, FitsSigned, w32, of_z, int_le, false, refl, ap, sym, ◌∙◌, arith}
use Rattle.std.proofs.Common.{inl, inr}
use Rattle.std.proofs.Common.{length-append}
use Rattle.std.proofs.lemmas.Bool.{cases_lt, lt-ltb, le-ltb, leb-false}
use Rattle.std.proofs.lemmas.Int.{ints}
use Rattle.prefix_decoder.specs.declared.function.Fun.{Fun}
use Rattle.prefix_decoder.specs.Functions.{pfix, nfix, code_of}
use Rattle.prefix_decoder.specs.Spelling.{byte_of, natural_spelling, code_spelling, spelling}

-- numbers of one nibble and at most this many more are below it
abbrev pub limit : ℕ → ℕ
limit zero = 16
limit (suc more) = 16 * limit more

-- an operand of one nibble takes one byte
pub natural_alone : (more code n : ℕ) → n < 16 → length (natural_spelling more code n) ≡ 1
natural_alone zero code n h = refl
natural_alone (suc more) code n h = rw (lt-ltb n 16 h) refl

-- a larger one a byte more than its higher nibbles
pub natural_above : (more code n : ℕ)
    → 16 ≤ n
    → length (natural_spelling (suc more) code n) ≡ length (natural_spelling more pfix (n / 16)) + 1
natural_above more code n h =
    rw (le-ltb n 16 h) (length-append (natural_spelling more pfix (n / 16)) (byte_of code (pos n) ∷ []))

-- the length has nothing to do with the function
pub natural_code : (more code other n : ℕ)
    → length (natural_spelling more code n) ≡ length (natural_spelling more other n)
natural_code zero code other n = refl
natural_code (suc more) code other n =
    elim (cases_lt n 16) [
      | inl lt ↦ natural_alone (suc more) code n lt ∙ sym (natural_alone (suc more) other n lt)
      | inr le ↦ natural_above more code n le ∙ sym (natural_above more other n le)
    ]

-- a further prefix is not taken where it isn't needed
pub natural_more : (more code n : ℕ)
    → n < limit more
    → length (natural_spelling (suc more) code n) ≡ length (natural_spelling more code n)
natural_more zero code n h = natural_alone 1 code n h
natural_more (suc more) code n h =
    elim (cases_lt n 16) [
      | inl lt ↦ natural_alone (suc (suc more)) code n lt ∙ sym (natural_alone (suc more) code n lt)
      | inr le ↦
          natural_above (suc more) code n le
          ∙ ap (λ (k : ℕ). k + 1) (natural_more more pfix (n / 16) (omega arith))
          ∙ sym (natural_above more code n le)
    ]

pub natural_one : (more code n : ℕ) → 1 ≤ length (natural_spelling more code n)
natural_one zero code n = omega arith
natural_one (suc more) code n =
    elim (cases_lt n 16) [
      | inl lt ↦ omega (arith, natural_alone (suc more) code n lt)
      | inr le ↦ omega (arith, natural_above more code n le)
    ]

pub natural_most : (more code n : ℕ) → length (natural_spelling more code n) ≤ suc more
natural_most zero code n = omega arith
natural_most (suc more) code n =
    elim (cases_lt n 16) [
      | inl lt ↦ omega (arith, natural_alone (suc more) code n lt)
      | inr le ↦ omega (arith, natural_above more code n le, natural_most more pfix (n / 16))
    ]

-- a larger operand takes no fewer bytes
pub natural_rises : (more code n m : ℕ)
    → n ≤ m
    → length (natural_spelling more code n) ≤ length (natural_spelling more code m)
natural_rises zero code n m h = omega arith
natural_rises (suc more) code n m h =
    elim (cases_lt n 16) [
      | inl lt ↦ omega (arith, natural_alone (suc more) code n lt, natural_one (suc more) code m)
      | inr le ↦
          let le_m : 16 ≤ m = omega arith in
          omega (
            arith,
            natural_above more code n le,
            natural_above more code m le_m,
            natural_rises more pfix (n / 16) (m / 16) (omega arith),
          )
    ]

pub spelling_one : (code : ℕ) (e : ℤ) → 1 ≤ length (code_spelling code e)
spelling_one code (pos n) = natural_one 7 code n
spelling_one code (negsuc n) =
    omega (arith, length-append (natural_spelling 7 nfix (n / 16)) (byte_of code (negsuc n) ∷ []))

-- a negative operand takes a byte more than the higher nibbles of its complement
pub negative_length : (code n : ℕ)
    → length (code_spelling code (negsuc n)) ≡ length (natural_spelling 7 nfix (n / 16)) + 1
negative_length code n = length-append (natural_spelling 7 nfix (n / 16)) (byte_of code (negsuc n) ∷ [])

-- forward: a distance that is no less takes no fewer bytes
pub forward_rises : (code p e q d : ℕ)
    → e ≤ p
    → d ≤ q
    → p + d ≤ q + e
    → length (code_spelling code (pos p -ℤ pos e)) ≤ length (code_spelling code (pos q -ℤ pos d))
forward_rises code p e q d h k rises =
    let first : pos p -ℤ pos e ≡ pos (p - e) = omega (arith, ints) in
    let second : pos q -ℤ pos d ≡ pos (q - d) = omega (arith, ints) in
    rw (first, second) (natural_rises 7 code (p - e) (q - d) (omega arith))

-- backward: the same
pub backward_rises : (code p e q d : ℕ)
    → p < e
    → q < d
    → e + q ≤ d + p
    → length (code_spelling code (pos p -ℤ pos e)) ≤ length (code_spelling code (pos q -ℤ pos d))
backward_rises code p e q d h k rises =
    let first : pos p -ℤ pos e ≡ negsuc (e - p - 1) = omega (arith, ints) in
    let second : pos q -ℤ pos d ≡ negsuc (d - q - 1) = omega (arith, ints) in
    rw (first, second)
    (omega (
      arith,
      negative_length code (e - p - 1),
      negative_length code (d - q - 1),
      natural_rises 7 nfix ((e - p - 1) / 16) ((d - q - 1) / 16) (omega arith),
    ))

-- ---- as the code computes them

-- one more than the length of the higher nibbles
pub natural_is : (n len code : ℕ)
    → n < 2 ^ 32
    → 16 ≤ n
    → len ≡ length (natural_spelling 7 code (n / 16))
    → 1 + len ≡ length (natural_spelling 7 code n)
natural_is n len code h le is =
    let less : length (natural_spelling 7 code (n / 16)) ≡ length (natural_spelling 6 code (n / 16)) =
    natural_more 6 code (n / 16) (omega arith) in
    omega (arith, natural_above 6 code n le, natural_code 6 code pfix (n / 16))

-- of a negative operand, computed on the complement's word
pub negative_is : (word len : ℕ) (e : ℤ)
    → FitsSigned w32 e
    → int_le (pos 0) e ≡ false
    → word ≡ of_z w32 e
    → ((code : ℕ) → len ≡ length (natural_spelling 7 code ((2 ^ 32 - 1 - word) / 16)))
    → ((f : Fun) → 1 + len ≡ length (spelling f e)) × (1 + len ≤ 8)
negative_is word len (pos n) h negative word-is is = absurd (omega (arith, leb-false 0 n negative))
negative_is word len (negsuc n) h negative word-is is =
    let nibbles : (2 ^ 32 - 1 - word) / 16 ≡ n / 16 = omega (arith, h.sfits) in
    let same : len ≡ length (natural_spelling 7 nfix (n / 16)) = rw nibbles at (is nfix) in
    let less : length (natural_spelling 7 nfix (n / 16)) ≡ length (natural_spelling 6 nfix (n / 16)) =
    natural_more 6 nfix (n / 16) (omega (arith, h.sfits)) in (
      λ (f : Fun). omega (arith, negative_length (code_of f) n),
      omega (arith, natural_most 6 nfix (n / 16)),
    )
