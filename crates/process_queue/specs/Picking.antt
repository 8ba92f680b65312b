-- Which process of a list a pick means.
use Rattle.std.specs.Prelude.{ℕ, ◌%◌, List, length}

-- the place of the process number pick, counted round the list
abbrev pub place_of_pick : ℕ → List ℕ → ℕ
place_of_pick pick processes = pick % length processes
