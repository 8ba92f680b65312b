use Rattle.std.proofs.Common.{◌∙◌, ap, not, rules}
use Rattle.waiting_texts.proofs.Deadlocked.{rests_empty, all_is}
use Rattle.waiting_texts.proofs.deadlocks.is_deadlock.Goals as goal

pub returns : goal.returns
returns c =
    c.are_all.ensures
    ∙ all_is _ _ _ _ _ _ _ _
    (ap not c.running-rests.ensures ∙ rests_empty c.args.checked.now.contents c.args.checked.now.world c.requires)
    c.are_quiet_inputs-inputs.ensures c.are_quiet_outputs-outputs.ensures c.somebody_waits-waits.ensures
