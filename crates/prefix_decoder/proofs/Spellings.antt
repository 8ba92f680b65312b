-- Every operand of 32 bits has a spelling, and no second one; it is 1 to 8 bytes long.
use Rattle.std.proofs.Common.{◌≡◌, ℕ, zero, suc, ◌+◌, ◌*◌, ◌/◌, ◌%◌, ◌^◌, ◌<◌, ◌≤◌, List, [], ◌∷◌, ◌++◌, length, ℤ, pos}
use Rattle.std.proofs.Common.{negsuc, FitsSigned, w32, refl, ap, arith, inl, inr, ◌-◌, false, int_le, of_z}
use Rattle.std.proofs.Common.{length-append}
use Rattle.std.proofs.lemmas.Bool.{cases_lt, lt-ltb, le-ltb, leb-false}
use Rattle.std.proofs.lemmas.Int.{ints}
use Rattle.prefix_decoder.specs.declared.function.Fun.{Fun}
use Rattle.prefix_decoder.specs.Functions.{pfix, nfix, code_of}
use Rattle.prefix_decoder.specs.Operand.{without_low_nibble, complement}
use Rattle.prefix_decoder.specs.Spelling.{byte_of, Spells, alone, above, below, IsSpelling, natural_spelling}
use Rattle.prefix_decoder.specs.Spelling.{code_spelling, spelling}

-- numbers of one nibble and at most this many more are below it
abbrev pub limit : ℕ → ℕ
limit zero = 16
limit (suc more) = 16 * limit more

-- what the recursion writes for a natural operand spells it
pub natural_spells : (more code n : ℕ) → n < limit more → Spells code (pos n) (natural_spelling more code n)
natural_spells zero code n h = alone (omega (arith, ints)) (omega (arith, ints))
natural_spells (suc more) code n h =
    elim (cases_lt n 16) [
      | inl lt ↦ rw (lt-ltb n 16 lt) (alone {e = pos n} (omega (arith, ints)) (omega (arith, ints)))
      | inr le ↦
          rw (le-ltb n 16 le)
          (above {e = pos n} (omega (arith, ints)) (natural_spells more pfix (n / 16) (omega arith)))
    ]

-- what is written for an operand of 32 bits spells it
pub code_spells : (code : ℕ) (e : ℤ) → FitsSigned w32 e → Spells code e (code_spelling code e)
code_spells code (pos n) h = natural_spells 7 code n (omega (arith, h.sfits))
code_spells code (negsuc n) h = below (omega (arith, ints)) (natural_spells 7 nfix (n / 16) (omega (arith, h.sfits)))

-- each operand of 32 bits has a spelling
pub IsSpelling-spelling : (f : Fun) (e : ℤ) → FitsSigned w32 e → IsSpelling f e (spelling f e)
IsSpelling-spelling f e h = record { fits = h; spells = code_spells (code_of f) e h }

-- there is no second spelling
pub same_spelling : {code : ℕ} {e : ℤ} {a b : List ℕ} → Spells code e a → Spells code e b → a ≡ b
same_spelling (alone p q) (alone r s) = refl
same_spelling (alone p q) (above r s) = absurd (omega (arith, ints))
same_spelling (alone p q) (below r s) = absurd (omega (arith, ints))
same_spelling (above p x) (alone r s) = absurd (omega (arith, ints))
same_spelling {code} {e} (above p x) (above r y) =
    ap (λ (front : List ℕ). front ++ byte_of code e ∷ []) (same_spelling x y)
same_spelling (above p x) (below r y) = absurd (omega (arith, ints))
same_spelling (below p x) (alone r s) = absurd (omega (arith, ints))
same_spelling (below p x) (above r y) = absurd (omega (arith, ints))
same_spelling {code} {e} (below p x) (below r y) =
    ap (λ (front : List ℕ). front ++ byte_of code e ∷ []) (same_spelling x y)

-- the same of a function
pub IsSpelling-same : (f : Fun) (e : ℤ) (a b : List ℕ) → IsSpelling f e a → IsSpelling f e b → a ≡ b
IsSpelling-same f e a b p q = same_spelling p.spells q.spells

-- ---- lengths

pub not_empty : {code : ℕ} {e : ℤ} {bytes : List ℕ} → Spells code e bytes → 1 ≤ length bytes
not_empty (alone p q) = omega arith
not_empty {code} {e} (above {front = front} p x) = omega (arith, length-append front (byte_of code e ∷ []))
not_empty {code} {e} (below {front = front} p x) = omega (arith, length-append front (byte_of code e ∷ []))

-- a natural operand takes a byte for each nibble
pub natural_length : {code : ℕ} {e : ℤ} {bytes : List ℕ} (more n : ℕ)
    → Spells code e bytes
    → e ≡ pos n
    → n < limit more
    → length bytes ≤ suc more
natural_length more n (alone p q) is h = omega arith
natural_length zero n (above p x) is h = absurd (omega (arith, ints))
natural_length {code} {e} (suc more) n (above {front = front} p x) is h =
    let shorter : length front ≤ suc more = natural_length more (n / 16) x (ap without_low_nibble is) (omega arith) in
    omega (arith, length-append front (byte_of code e ∷ []))
natural_length more n (below p x) is h = absurd (omega (arith, ints))

-- a negative operand takes at most eight
negative_length : {code : ℕ} {e : ℤ} {bytes : List ℕ} (n : ℕ)
    → Spells code e bytes
    → e ≡ negsuc n
    → n < 2 ^ 31
    → length bytes ≤ 8
negative_length n (alone p q) is h = absurd (omega (arith, ints))
negative_length n (above p x) is h = absurd (omega (arith, ints))
negative_length {code} {e} n (below {front = front} p x) is h =
    let shorter : length front ≤ 7 =
    natural_length 6 (n / 16) x (ap (λ (z : ℤ). without_low_nibble (complement z)) is) (omega arith) in
    omega (arith, length-append front (byte_of code e ∷ []))

-- an operand of 32 bits takes at most eight
pub at_most_eight : {code : ℕ} {bytes : List ℕ} (e : ℤ) → Spells code e bytes → FitsSigned w32 e → length bytes ≤ 8
at_most_eight (pos n) s h = natural_length 7 n s refl (omega (arith, h.sfits))
at_most_eight (negsuc n) s h = negative_length n s refl (omega (arith, h.sfits))

pub spelling_length : (f : Fun) (e : ℤ) → FitsSigned w32 e → (1 ≤ length (spelling f e)) × (length (spelling f e) ≤ 8)
spelling_length f e h = (not_empty (code_spells (code_of f) e h), at_most_eight e (code_spells (code_of f) e h) h)

-- ---- a negative operand as a word

-- what is written for a negative operand, computed on its word, is its spelling
pub negative_is : (code word byte : ℕ) (e : ℤ) (start front all : List ℕ)
    → FitsSigned w32 e
    → int_le (pos 0) e ≡ false
    → word ≡ of_z w32 e
    → start ≡ []
    → front ≡ start ++ natural_spelling 7 nfix ((2 ^ 32 - 1 - word) / 16)
    → byte ≡ 16 * code + word % 16
    → all ≡ front ++ byte ∷ []
    → all ≡ code_spelling code e
negative_is code word byte (pos n) start front all h negative word-is start-is front-is byte-is all-is =
    absurd (omega (arith, leb-false 0 n negative))
negative_is code word byte (negsuc n) start front all h negative word-is start-is front-is byte-is all-is =
    let above_nibble : (2 ^ 32 - 1 - word) / 16 ≡ n / 16 = omega (arith, h.sfits) in
    let low : word % 16 ≡ 15 - n % 16 = omega (arith, h.sfits) in
    rw (all-is, front-is, start-is, byte-is, above_nibble, low) refl
