-- What an answer holds, and what it means to append to one.
use Rattle.std.specs.Prelude.{ℕ, Bool, true, false, List, [], ◌≡◌, ◌∷◌, ◌++◌, ◌/◌, ◌%◌}
use Rattle.std.specs.Fmt.{digit_glyph}

-- a text, and whether memory ran out while it was written
pub record Written : Type 0 where
  pub text : List ℕ
  pub is_out_of_memory : Bool

-- these bytes were appended, unless memory has run out
abbrev pub Appends : Written → Written → List ℕ → Type 0
Appends old new bytes =
    new.is_out_of_memory ≡ false → (old.is_out_of_memory ≡ false) × (new.text ≡ old.text ++ bytes)

-- a byte as two hexadecimal digits
abbrev pub hexadecimal : ℕ → List ℕ
hexadecimal byte = digit_glyph true (byte / 16) ∷ digit_glyph true (byte % 16) ∷ []
