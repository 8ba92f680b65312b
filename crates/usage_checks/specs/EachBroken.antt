-- A rule that is checked for each item of a list, by its place, which is counted from a number on.
use Rattle.std.specs.Prelude.{ℕ, suc, List, [], ◌∷◌, ◌⊎◌}

abbrev pub BreaksEach : {A : Type 0} → (ℕ → A → ℕ → Type 0) → ℕ → List A → ℕ → Type 0
BreaksEach Breaks i [] n = ⊥
BreaksEach Breaks i (x ∷ xs) n = Breaks i x n ⊎ BreaksEach Breaks (suc i) xs n
