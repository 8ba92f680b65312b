-- What is done with items one after another.
use Rattle.std.specs.Prelude.{List, [], ◌∷◌}

abbrev pub in_turn : {A S : Type 0} → (A → S → S) → List A → S → S
in_turn step [] s = s
in_turn step (x ∷ xs) s = in_turn step xs (step x s)
