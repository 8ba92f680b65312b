-- What a line says without its indentation.
use Rattle.std.specs.Prelude.{ℕ, List, ◌≡◌, ◌≢◌, ◌++◌, ◌⊎◌, codes}

-- how each line of a block begins
abbrev pub indent : List ℕ
indent = codes "  "

-- the line without its indentation, or the whole of a line that has none
abbrev pub IsUnindented : List ℕ → List ℕ → Type 0
IsUnindented line content =
    (line ≡ indent ++ content) ⊎ (((rest : List ℕ) → line ≢ indent ++ rest) × (content ≡ line))
