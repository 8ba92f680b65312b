use Rattle.std.proofs.Common.{sym, ap, refl}
use Rattle.module_format.specs.Contents.{Contents}
use Rattle.verifier.proofs.RowsLeft.{left-first}
use Rattle.verifier.proofs.rows.Rows.of.Goals as goal

pub returns-clause-left : goal.returns-clause-left
returns-clause-left c =
    let labels = ap (λ (m : Contents). m.labels) (sym c.tables-tables.ensures.contents) in
    let procedures = ap (λ (m : Contents). m.procedures) (sym c.tables-tables.ensures.contents) in
    left-first c.args.module.now _ c.tables-tables.ensures.kept (rw c.deref.ensures.value labels)
    (rw c.deref-2.ensures.value procedures) refl
