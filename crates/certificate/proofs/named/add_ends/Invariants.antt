use Rattle.std.proofs.Common.{◌≡◌, ◌||◌, ℤ, length}
use Rattle.certificate.specs.Named.{is_one_of, is_end_of}
use Rattle.certificate.proofs.named.add_ends.Given as goal

-- what is gathered has the parameters of the ends that are passed
abbrev pub invariant-loop-end : goal.invariant-loop-end
invariant-loop-end l =
    (j : ℤ) → (is_one_of l.numbers.items j || is_end_of l.rest j)
    ≡ (is_one_of l.fn.numbers.items j || is_end_of l.ends j)

abbrev pub decreases-loop-end : goal.decreases-loop-end
decreases-loop-end l = length l.rest
