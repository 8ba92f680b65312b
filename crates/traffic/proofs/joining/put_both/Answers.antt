use Rattle.std.proofs.Common.{arith, sym, subst, List}
use Rattle.std.specs.List.{All}
use Rattle.std.proofs.lemmas.Grind.{common_steps}
use Rattle.std.proofs.lemmas.List.Elements.{All-set, All-push}
use Rattle.machine_state.specs.declared.process.Task.{Task}
use Rattle.traffic.specs.Moment.{IsSteady}
use Rattle.traffic.proofs.joining.put_both.Goals as goal

pub returns-clause-tasks : goal.returns-clause-tasks
returns-clause-tasks c = grind (arith, common_steps)

pub returns-clause-steady : goal.returns-clause-steady
returns-clause-steady c =
    subst (λ (l : List Task). All IsSteady l) (sym (returns-clause-tasks c))
    (All-push IsSteady _ _ (All-set IsSteady c.args.tasks.now.items c.args.process c.args.task c.requires.task
    c.requires.tasks) c.requires.more)
