use Rattle.std.proofs.Common.{Some, sym, ap, subst, ◌∙◌}
use Rattle.std.specs.Prelude.{option_map}
use Rattle.std.proofs.lemmas.Option.{slice_get-map, slice_get-get_or}
use Rattle.module_format.specs.Keeping.{Keeps}
use Rattle.module_format.specs.Contents.{Contents, label_of, label_at}
use Rattle.module_format.specs.Rows.{LabelRow}
use Rattle.certificate.proofs.StartLaws.{module_labels, label_is, label_missing}
use Rattle.states.specs.Remembered.{numbered_label}
use Rattle.states.proofs.numbered.numbered_row.Goals as goal

pub row_at-requires : goal.row_at-requires
row_at-requires c =
    rw c.deref.ensures.value
    (module_labels c.tables.result.now
    (subst (λ (m : Contents). Keeps m) (sym c.tables.ensures.contents) c.tables.ensures.kept))

pub returns-in_err-label-clause-found : goal.returns-in_err-label-clause-found
returns-in_err-label-clause-found c =
    rw c.from_residual.ensures
    (ap (λ (m : Contents). label_at m c.args.offset) (sym c.tables.ensures.contents)
    ∙ label_missing c.args.offset c.tables.result.now.labels.items
    (rw c.deref.ensures.value at c.in_err-label.ensures))

pub returns-clause-found : goal.returns-clause-found
returns-clause-found c =
    let first = rw c.deref.ensures.value at c.in_ok-label.ensures in
    ap (λ (m : Contents). label_at m c.args.offset) (sym c.tables.ensures.contents)
    ∙ label_is c.args.offset c.tables.result.now.labels.items c.in_ok-label.label c.in_ok-label.row.now first.inside
    (λ k lt. first.before k c.in_ok-label.row.now lt) first.is first.here

pub returns-clause-number : goal.returns-clause-number
returns-clause-number c =
    let first = rw c.deref.ensures.value at c.in_ok-label.ensures in
    let rows = c.tables.result.now.labels.items in
    let row = c.in_ok-label.row.now in
    ap (λ (m : Contents). numbered_label m c.in_ok-label.label) (sym c.tables.ensures.contents)
    ∙ (slice_get-map label_of rows c.in_ok-label.label
    ∙ ap (option_map label_of) (slice_get-get_or rows c.in_ok-label.label row first.inside)
    ∙ ap (λ (r : LabelRow). Some (label_of r)) (sym first.is))
