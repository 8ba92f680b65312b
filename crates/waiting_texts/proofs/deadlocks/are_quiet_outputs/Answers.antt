use Rattle.std.proofs.Common.{◌∙◌, rules}
use Rattle.waiting_texts.proofs.Deadlocked.{outputs_quiet}
use Rattle.waiting_texts.proofs.deadlocks.are_quiet_outputs.Goals as goal

pub returns : goal.returns
returns c =
    c.are_all.ensures
    ∙ outputs_quiet c.args.checked.now.contents c.args.checked.now.world c.requires _ _ _ _
    c.is_quiet_output-first.ensures c.is_quiet_output-second.ensures c.is_quiet_output-third.ensures
    c.is_quiet_output-fourth.ensures
