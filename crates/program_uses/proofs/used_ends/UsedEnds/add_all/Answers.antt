use Rattle.std.proofs.Common.{◌||◌, map, ap}
use Rattle.program_uses.specs.Sets.{is_among, use_of, uses_at}
use Rattle.program_uses.proofs.EndsJoined.{ends_next, ends_none}
use Rattle.program_uses.proofs.used_ends.UsedEnds.add_all.Goals as goal

pub loop-end-init : goal.loop-end-init
loop-end-init c u =
    ap (λ ds. is_among (uses_at c.args.self.now) u || is_among (map use_of ds) u) c.iter-rest.ensures

pub loop-end-preserved : goal.loop-end-preserved
loop-end-preserved c =
    ends_next c.args.self.now c.loop-end.self c.add.new.self c.args.other.now c.loop-end.rest c.next.new.self
    c.in-Some.end.now c.in-Some.ensures.steps c.in_ok-add.ensures c.loop-end.invariant

pub returns : goal.returns
returns c =
    ends_none c.args.self.now c.loop-end.self c.args.other.now c.loop-end.rest c.in_default.ensures.steps.0
    c.loop-end.invariant
