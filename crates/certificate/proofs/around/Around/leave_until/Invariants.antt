use Rattle.module_format.specs.Contents.{contents_of}
use Rattle.certificate.specs.Around.{IsAround}
use Rattle.certificate.proofs.around.Around.leave_until.Given as goal

abbrev pub invariant-loop-number : goal.invariant-loop-number
invariant-loop-number l = IsAround (contents_of l.tables) l.self

abbrev pub decreases-loop-number : goal.decreases-loop-number
decreases-loop-number l = l.self.context
