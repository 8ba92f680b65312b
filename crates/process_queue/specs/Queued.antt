-- What a queue on a list shows: the processes in it, the first in front, and for how many more it has capacity.
use Rattle.std.specs.Prelude.{ℕ, List}

pub record Queued : Type 0 where
  pub processes : List ℕ
  pub room : ℕ
