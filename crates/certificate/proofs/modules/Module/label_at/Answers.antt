use Rattle.std.proofs.Common.{sym, ap, ◌∙◌}
use Rattle.module_format.specs.Contents.{label_at}
use Rattle.certificate.proofs.StartLaws.{module_labels, label_is, label_missing}
use Rattle.certificate.proofs.modules.Module.label_at.Goals as goal

pub row_at-requires : goal.row_at-requires
row_at-requires c = rw c.deref.ensures.value (module_labels c.self.inside.tables c.self.invariant.0.keeps)

pub returns-in_err-_index : goal.returns-in_err-_index
returns-in_err-_index c =
    rw c.from_residual.ensures (ap (λ m. label_at m c.args.offset) (sym c.self.view_is)
    ∙ label_missing c.args.offset c.self.inside.tables.labels.items
    (rw c.deref.ensures.value at c.in_err-_index.ensures))

pub returns : goal.returns
returns c =
    let first = rw c.deref.ensures.value at c.in_ok-_index.ensures in
    ap (λ m. label_at m c.args.offset) (sym c.self.view_is)
    ∙ label_is c.args.offset c.self.inside.tables.labels.items c.in_ok-_index._index c.in_ok-_index.row.now first.inside
    (λ k lt. first.before k c.in_ok-_index.row.now lt) first.is first.here
