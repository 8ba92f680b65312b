use Rattle.std.proofs.Common.{sym}
use Rattle.call_rules.proofs.EndRuns.{all_from}
use Rattle.call_rules.proofs.calling.Calling.has_ends.Goals as goal

pub returns-then-run_has_ends : goal.returns-then-run_has_ends
returns-then-run_has_ends c =
    sym (all_from c.args.count _ (c.run_has_ends.ensures c.if-run_has_ends.true).each)
