use Rattle.program_uses.proofs.EndsJoined.{ends_first, ends_apart}
use Rattle.program_uses.proofs.used_ends.UsedEnds.meets_larger.Goals as goal

pub loop-end-init : goal.loop-end-init
loop-end-init c = ends_first c.args.count c.args.self.now c.args.other.now c.iter-rest.result c.iter-rest.ensures

pub returns : goal.returns
returns c = (
  λ e. absurd (let k = e in cc),
  λ h. absurd (ends_apart c.args.count c.args.self.now c.args.other.now c.loop-end.rest
      c.in_default.ensures.steps.0 c.loop-end.invariant h),
)
