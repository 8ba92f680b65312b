use Rattle.std.proofs.Common.{ap, sym, ◌∙◌, length}
use Rattle.certificate.specs.Starts.{procedure_at}
use Rattle.module_format.proofs.OffsetLaws.{rows_rise}
use Rattle.certificate.proofs.StartLaws.{procedure_is, procedure_missing}
use Rattle.certificate.proofs.modules.Module.procedure_at.Goals as goal

pub row_at-requires : goal.row_at-requires
row_at-requires c =
    let t = c.self.inside.tables in
    rw c.deref.ensures.value
    (rows_rise (length t.code.now) t.procedures.items c.self.invariant.0.keeps.rows.procedures)

pub returns-in_err-index : goal.returns-in_err-index
returns-in_err-index c =
    let at = c.args.offset in
    rw c.from_residual.ensures (ap (λ m. procedure_at m at) (sym c.self.view_is)
    ∙ procedure_missing at 1 c.self.inside.tables.procedures.items
    (rw c.deref.ensures.value at c.in_err-index.ensures))

pub returns : goal.returns
returns c =
    let at = c.args.offset in
    let first = rw c.deref.ensures.value at c.in_ok-index.ensures in
    let row = c.in_ok-index.row.now in
    ap (λ m. procedure_at m at) (sym c.self.view_is)
    ∙ procedure_is at c.self.inside.tables.procedures.items c.in_ok-index.index row first.inside
    (λ k lt. first.before k row lt) first.is first.here
