use Rattle.std.proofs.Common.{◌≡◌, drop}
use Rattle.found_parts.specs.Gifts.{parameter_fault}
use Rattle.found_parts.specs.Firsts.{first_of}
use Rattle.found_parts.proofs.gifts.first_fault.Given as goal

abbrev pub invariant-loop-parameter : goal.invariant-loop-parameter
invariant-loop-parameter l =
    first_of (parameter_fault l.is_written l.place.«module».now l.context) l.parameters
    ≡ first_of (parameter_fault l.is_written l.place.«module».now l.context) (drop l.parameter-index l.parameters)
