-- Memory whose bytes carry tags, with the table of roles and the process whose holding counts.
use Rattle.std.specs.Prelude.{ℕ, Bool, List, [], ◌∷◌, Some, None, if◌then◌else◌}
use Rattle.machine_state.specs.Memory.{Memory}
use Rattle.machine_state.specs.World.{Role}

pub record Tagged : Type 0 where
  pub cells : Memory
  pub roles : List Role
  pub holder : ℕ

-- a byte is defined where its tag is set
abbrev pub tagged_cells : List ℕ → List Bool → Memory
tagged_cells [] tags = []
tagged_cells (byte ∷ bytes) [] = []
tagged_cells (byte ∷ bytes) (tag ∷ tags) = (if tag then Some byte else None) ∷ tagged_cells bytes tags
