use Rattle.std.proofs.Common.{subst}
use Rattle.module_format.specs.Contents.{label_of}
use Rattle.states.specs.State.{State}
use Rattle.local_rules.specs.LoopRules.{begins_at, Permits}
use Rattle.local_rules.proofs.loops.may_turn.Goals as goal

pub returns-clause-permits : goal.returns-clause-permits
returns-clause-permits c =
    subst (λ (s : State). Permits c.pays_turn.result c.args.block (begins_at c.args.to (label_of c.args.row.now)) s)
    c.may_go_on.ensures.state c.pays_turn.ensures
