use Rattle.std.proofs.Common.{arith, sym, ◌∙◌}
use Rattle.states.specs.Views.{state_of}
use Rattle.local_rules.proofs.Paying.{may-with-more}
use Rattle.local_rules.proofs.loops.may_go_on.Goals as goal

pub returns-clause-yes : goal.returns-clause-yes
returns-clause-yes c = λ yes.
    may-with-more c.args.place.now.module.now c.args.to _ c.args.number (state_of c.args.state.now) c.cost_with.result
    (omega arith) c.cost_with.ensures.cost (sym c.is_ok.ensures.value ∙ yes)
