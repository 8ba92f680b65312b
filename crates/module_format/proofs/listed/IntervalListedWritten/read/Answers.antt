use Rattle.std.proofs.Math.Logic.{∥∥₁_elim}
use Rattle.module_format.specs.Order.{least_word}
use Rattle.module_format.proofs.IntervalLaws.{intervals_prop}
use Rattle.module_format.proofs.listed.IntervalListedWritten.read.Goals as goal

pub meets_any-is_apart-requires : goal.meets_any-is_apart-requires
meets_any-is_apart-requires c =
    ∥∥₁_elim c.args.written.now.sorted (intervals_prop least_word c.args.written.now.intervals.now) (λ h. h)
