use Rattle.std.proofs.Common.{◌∙◌, ap, sym, rules}
use Rattle.waiting_texts.specs.Waits.{is_for_others}
use Rattle.waiting_texts.proofs.Deadlocked.{task_for_others, nobody_for_others}
use Rattle.waiting_texts.proofs.deadlocks.waits_for_others.Goals as goal

pub returns-in-Some : goal.returns-in-Some
returns-in-Some c =
    c.is_for_others.ensures ∙ ap is_for_others c.wait_of.ensures
    ∙ task_for_others c.args.checked.now.world c.args.process c.in-Some.task (search rules)

pub returns-in-None : goal.returns-in-None
returns-in-None c = nobody_for_others c.args.checked.now.world c.args.process (search rules)
