-- The one spelling of a function and its operand as bytes. That a shorter or longer one isn't accepted is
-- our own choice; the bytes are those that the compiler writer's guide gives.
use Rattle.std.specs.Prelude.{ℕ, zero, suc, ◌+◌, ◌*◌, ◌/◌, List, [], ◌∷◌, ◌++◌, ℤ, pos, negsuc, ◌≤ℤ◌, ◌<ℤ◌, nat_lt}
use Rattle.std.specs.Prelude.{if◌then◌else◌, FitsSigned}
use Rattle.std.specs.Int.{w32}
use Rattle.prefix_decoder.specs.declared.function.Fun.{Fun}
use Rattle.prefix_decoder.specs.Functions.{pfix, nfix, code_of}
use Rattle.prefix_decoder.specs.Operand.{low_nibble, without_low_nibble, complement}

-- the byte of a function with the low nibble of an operand
abbrev pub byte_of : ℕ → ℤ → ℕ
byte_of code e = 16 * code + low_nibble e

-- these bytes spell the function with this code, which may be a prefix, and this operand
pub data Spells : ℕ → ℤ → List ℕ → Type 0 where
  -- an operand of one nibble
  alone : {code : ℕ} {e : ℤ} → pos 0 ≤ℤ e → e <ℤ pos 16 → Spells code e (byte_of code e ∷ [])
  -- a larger one: prefix spelled with the higher nibbles, then the low nibble
  above : {code : ℕ} {e : ℤ} {front : List ℕ}
      → pos 16 ≤ℤ e
      → Spells pfix (without_low_nibble e) front
      → Spells code e (front ++ byte_of code e ∷ [])
  -- a negative one: negative prefix spelled with the higher nibbles of its complement, then the low nibble
  below : {code : ℕ} {e : ℤ} {front : List ℕ}
      → e <ℤ pos 0
      → Spells nfix (without_low_nibble (complement e)) front
      → Spells code e (front ++ byte_of code e ∷ [])

-- these bytes are the spelling of a function and an operand of 32 bits
pub record IsSpelling (f : Fun) (e : ℤ) (bytes : List ℕ) : Type 0 where
  pub fits : FitsSigned w32 e
  pub spells : Spells (code_of f) e bytes

-- the spelling of the function with this code and a natural operand, after at most a given count of prefixes
abbrev pub natural_spelling : ℕ → ℕ → ℕ → List ℕ
natural_spelling zero code n = byte_of code (pos n) ∷ []
natural_spelling (suc more) code n =
    if nat_lt n 16
    then byte_of code (pos n) ∷ []
    else natural_spelling more pfix (n / 16) ++ byte_of code (pos n) ∷ []

-- the spelling of the function with this code and an operand of 32 bits, which takes at most seven prefixes
abbrev pub code_spelling : ℕ → ℤ → List ℕ
code_spelling code (pos n) = natural_spelling 7 code n
code_spelling code (negsuc n) = natural_spelling 7 nfix (n / 16) ++ byte_of code (negsuc n) ∷ []

-- the one spelling of a function and an operand of 32 bits
abbrev pub spelling : Fun → ℤ → List ℕ
spelling f e = code_spelling (code_of f) e
