-- What is checked for items one after another, for each after those before it.
use Rattle.std.specs.Prelude.{List, [], ◌∷◌, ◌⊎◌}
use Rattle.program_uses.specs.declared.telling.UsageFault.{UsageFault}

abbrev pub BreaksInTurn : {A S : Type 0} → (A → S → S) → (A → S → UsageFault → Type 0) → List A → S → UsageFault
    → Type 0
BreaksInTurn step Breaks [] s f = ⊥
BreaksInTurn step Breaks (x ∷ xs) s f = Breaks x s f ⊎ BreaksInTurn step Breaks xs (step x s) f
