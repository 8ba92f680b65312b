-- The first thing that is found.
use Rattle.std.specs.Prelude.{ℕ, ◌-◌, ◌==◌, if◌then◌else◌, List, [], ◌∷◌, Option, None}
use Rattle.std.specs.Option.{option_or}

-- what is found of the first member of a list of which something is found
abbrev pub first_of : {A B : Type 0} → (A → Option B) → List A → Option B
first_of find [] = None
first_of find (x ∷ xs) = option_or (find x) (first_of find xs)

-- the same of the first `n` members
abbrev pub among : {A B : Type 0} → (A → Option B) → ℕ → List A → Option B
among find n [] = None
among find n (x ∷ xs) = if n == 0 then None else option_or (find x) (among find (n - 1) xs)
