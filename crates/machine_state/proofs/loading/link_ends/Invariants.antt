use Rattle.std.proofs.Common.{◌≡◌, ◌++◌, drop}
use Rattle.machine_state.specs.World.{link_ends_from}
use Rattle.machine_state.proofs.loading.link_ends.Given as goal

-- the ends so far and those of the rest are all
abbrev pub invariant-loop-k : goal.invariant-loop-k
invariant-loop-k l = l.ends.items ++ link_ends_from l.k (drop l.k l.lengths) ≡ link_ends_from 0 l.lengths
