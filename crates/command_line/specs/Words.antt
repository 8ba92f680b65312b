-- The words of a command line.
use Rattle.std.specs.Prelude.{ℕ, List, map}
use Rattle.std.specs.Borrow.{Bor}

abbrev pub Text : Type 0
Text = List ℕ

abbrev pub words_of : List (Bor Text) → List Text
words_of = map (λ word. word.now)
