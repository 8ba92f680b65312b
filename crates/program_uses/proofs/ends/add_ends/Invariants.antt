use Rattle.std.proofs.Common.{◌≡◌, fold, map}
use Rattle.program_uses.specs.Ends.{with_end}
use Rattle.program_uses.specs.Signatures.{parameter_of}
use Rattle.program_uses.proofs.ends.add_ends.Given as goal

abbrev pub invariant-loop-used : goal.invariant-loop-used
invariant-loop-used l =
    fold (with_end l.first) (map parameter_of l.parameters.items) l.rest
    ≡ fold (with_end l.first) (map parameter_of l.fn.parameters.items) l.ends.keys
