use Rattle.std.proofs.Common.{◌≡◌, ◌||◌, ℤ, length}
use Rattle.certificate.specs.Named.{is_one_of, is_parameter_of}
use Rattle.certificate.proofs.named.add_parameters.Given as goal

-- what is gathered has the parameters that are passed
abbrev pub invariant-loop-parameter : goal.invariant-loop-parameter
invariant-loop-parameter l =
    (j : ℤ) → (is_one_of l.numbers.items j || is_parameter_of l.rest j)
    ≡ (is_one_of l.fn.numbers.items j || is_parameter_of l.parameters j)

abbrev pub decreases-loop-parameter : goal.decreases-loop-parameter
decreases-loop-parameter l = length l.rest
