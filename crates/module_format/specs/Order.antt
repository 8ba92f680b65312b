-- Lists whose items keep rules one after the other, and the numbers of a word.
use Rattle.std.specs.Prelude.{⊤, ℕ, ◌<◌, ◌%◌, ◌==◌, ℤ, negsuc, pos, ◌≤ℤ◌, FitsSigned, unsigned_abs, Bool, List, [], ◌∷◌}
use Rattle.std.specs.Prelude.{slice_index}
use Rattle.std.specs.Int.{w32}

-- numbers below 256
abbrev pub IsBytes : List ℕ → Type 0
IsBytes bytes = (i : ℕ) → slice_index bytes i < 256

-- Each item keeps its condition, which may speak of what the items before it leave: `low` is what the first one
-- finds, and `next` says what an item leaves to those after it.
abbrev pub InOrder : {A S : Type 0} → (S → A → Type 0) → (S → A → S) → S → List A → Type 0
InOrder Keeps next low [] = ⊤
InOrder Keeps next low (x ∷ xs) = Keeps low x × InOrder Keeps next (next low x) xs

-- what all of them leave
abbrev pub behind_all : {A S : Type 0} → (S → A → S) → S → List A → S
behind_all next low [] = low
behind_all next low (x ∷ xs) = behind_all next (next low x) xs

-- the numbers of a word from lo to hi
pub record IsInterval (lo hi : ℤ) : Type 0 where
  pub lo_fits : FitsSigned w32 lo
  pub hi_fits : FitsSigned w32 hi
  pub ordered : lo ≤ℤ hi

-- the least word
abbrev pub least_word : ℤ
least_word = negsuc 2147483647

-- the greatest word
abbrev pub greatest_word : ℤ
greatest_word = pos 2147483647

abbrev pub is_multiple_of_four : ℕ → Bool
is_multiple_of_four n = n % 4 == 0

-- the same of a number below 0 or not
abbrev pub is_stepped : ℤ → Bool
is_stepped z = is_multiple_of_four (unsigned_abs z)
