use Rattle.std.proofs.Common.{◌≡◌, ◌∙◌, sym, ap, ◌∷◌}
use Rattle.module_format.specs.Rows.{LabelRow}
use Rattle.verifier.proofs.RowsLeft.{labels-none}
use Rattle.verifier.proofs.rows.Rows.take_label.Goals as goal

pub returns-then-row-at-clause-found : goal.returns-then-row-at-clause-found
returns-then-row-at-clause-found c = λ m a.
    labels-none m c.args.at c.args.self.now.labels.now a (λ row later e here.
    let both : row ∷ later ≡ c.in_ok-row.row.now ∷ c.in_ok-row.later.now = sym e ∙ c.in_ok-row.ensures.cases.0 in
    let same : row ≡ c.in_ok-row.row.now = cc in
    c.if-row-at.true (sym (ap (λ (x : LabelRow). x.offset) same) ∙ here))
