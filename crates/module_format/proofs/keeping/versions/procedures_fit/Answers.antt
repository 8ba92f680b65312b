use Rattle.module_format.proofs.KeepingLaws.{procedures_fit}
use Rattle.module_format.proofs.keeping.versions.procedures_fit.Goals as goal

pub returns : goal.returns
returns c =
    let said = rw c.deref.ensures.value at c.rows_fit.ensures in
    let same = procedures_fit c.args.tables.now.procedures.items in
    (λ t. same.0 (said.0 t), λ h. said.1 (same.1 h))
