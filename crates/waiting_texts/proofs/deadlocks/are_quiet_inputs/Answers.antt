use Rattle.std.proofs.Common.{◌∙◌, rules}
use Rattle.waiting_texts.proofs.Deadlocked.{inputs_quiet}
use Rattle.waiting_texts.proofs.deadlocks.are_quiet_inputs.Goals as goal

pub returns : goal.returns
returns c =
    c.are_all.ensures
    ∙ inputs_quiet c.args.checked.now.contents c.args.checked.now.world c.requires _ _ _ _
    c.is_quiet_input-first.ensures c.is_quiet_input-second.ensures c.is_quiet_input-third.ensures
    c.is_quiet_input-fourth.ensures
