use Rattle.std.proofs.Common.{sym}
use Rattle.call_rules.proofs.EndRuns.{all_from}
use Rattle.call_rules.proofs.calling.Calling.have_length.Goals as goal

pub returns-then-run_has_length : goal.returns-then-run_has_length
returns-then-run_has_length c =
    sym (all_from c.args.count _ (c.run_has_length.ensures c.if-run_has_length.true).each)

pub returns-then-run_has_length-2 : goal.returns-then-run_has_length-2
returns-then-run_has_length-2 c =
    sym (all_from c.args.count _ (c.run_has_length-2.ensures c.if-run_has_length-2.true).each)
