use Rattle.std.proofs.Common.{◌<◌, ℕ, None, get_or}
use Rattle.std.specs.Prelude.{IsSome}
use Rattle.code_pieces.proofs.drafting.are_placed.Given as goal

abbrev pub invariant-loop-number : goal.invariant-loop-number
invariant-loop-number l = (k : ℕ) → k < l.number → IsSome (get_or l.code.labels k None)
