use Rattle.std.proofs.Common.{◌≡◌, fold, map}
use Rattle.program_uses.specs.Ends.{with_use, of_parameters, sorted_ends}
use Rattle.program_uses.specs.Sets.{use_of, members_of}
use Rattle.program_uses.proofs.ends.sorted_ends.Given as goal

abbrev pub invariant-loop-end : goal.invariant-loop-end
invariant-loop-end l =
    fold with_use l.ends.keys (of_parameters l.first l.count (map use_of l.rest))
    ≡ sorted_ends (of_parameters l.first l.count (members_of l.uses))
