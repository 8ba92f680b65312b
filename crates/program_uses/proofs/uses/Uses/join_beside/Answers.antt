use Rattle.std.proofs.Common.{sym, ap, subst, ◌∙◌}
use Rattle.program_uses.specs.Telling.{IsFirst, earlier, fault_at}
use Rattle.program_uses.proofs.FaultsInOrder.{earlier_first, line_first}
use Rattle.program_uses.proofs.uses.Uses.join_beside.Goals as goal

pub returns-clause-told : goal.returns-clause-told
returns-clause-told c =
    subst (IsFirst _) (sym (c.earlier.ensures ∙ ap (earlier c.args.told.now) c.fault_at.ensures))
    (earlier_first c.args.told.now (fault_at c.args.line c.fault_of_sharing-found.result)
    (line_first c.args.line c.fault_of_sharing-found.result c.fault_of_sharing-found.ensures))
