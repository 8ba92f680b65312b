-- What becomes of a scope while names are declared in it.
use Rattle.std.specs.Prelude.{◌≡◌, List, ◌++◌}
use Rattle.scalar_ranges.specs.Entries.{Entry}
use Rattle.scalar_ranges.specs.Moves.{Known}

-- It has some entries more.
pub record Extends (before after : Known) : Type 0 where
  pub inner : List Entry
  pub entries : after.entries ≡ inner ++ before.entries
  pub blocks : after.blocks ≡ before.blocks
