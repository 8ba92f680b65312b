use Rattle.std.proofs.Common.{◌≡◌, ◌∙◌, sym, subst}
use Rattle.std.specs.Prelude.{IfSome}
use Rattle.module_format.specs.Contents.{par_of}
use Rattle.states.specs.State.{State}
use Rattle.par_rules.specs.Costs.{IsCostAfter}
use Rattle.par_rules.specs.ParRules.{label_after}
use Rattle.par_rules.specs.Telling.{label_view}
use Rattle.par_rules.proofs.starts.known_costs.Goals as goal

pub cost_after-successor-requires-clause-after : goal.cost_after-successor-requires-clause-after
cost_after-successor-requires-clause-after c =
    subst (λ (s : State). label_view c.args.after
    ≡ label_after c.args.place.now.module.now s.mode (par_of c.args.found.now.par.now))
    (sym c.cost_of_branch-branch.ensures.left.state) c.requires.after

pub returns-clause-costs : goal.returns-clause-costs
returns-clause-costs c = record {
  branch = c.cost_of_branch-branch.ensures.cost;
  after = subst (λ (s : State). IfSome c.cost_after-successor.result
      (IsCostAfter (par_of c.args.found.now.par.now) s (label_view c.args.after)))
      c.cost_of_branch-branch.ensures.left.state c.cost_after-successor.ensures.cost;
}

pub returns-clause-left : goal.returns-clause-left
returns-clause-left c =
    let first = c.cost_of_branch-branch.ensures.left in
    let second = c.cost_after-successor.ensures.left in
    record {
      state = second.state ∙ first.state;
      belongs = λ m h. second.belongs m (first.belongs m h);
      room = λ k h. second.room k (first.room k h);
      guards = second.guards ∙ first.guards;
    }
