use Rattle.std.proofs.Common.{◌≡◌, ◌∙◌, sym, ap, ◌∷◌}
use Rattle.module_format.specs.Rows.{ProcedureRow}
use Rattle.verifier.proofs.RowsLeft.{procedures-none, procedures-later, procedures-here}
use Rattle.verifier.proofs.rows.Rows.take_procedure.Goals as goal

pub returns-then-row-at-clause-found : goal.returns-then-row-at-clause-found
returns-then-row-at-clause-found c = λ m a.
    procedures-none m c.args.at c.args.self.now.context c.args.self.now.procedures.now a (λ row later e here.
    let both : row ∷ later ≡ c.in_ok-row.row.now ∷ c.in_ok-row.later.now = sym e ∙ c.in_ok-row.ensures.cases.0 in
    let same : row ≡ c.in_ok-row.row.now = cc in
    c.if-row-at.true (sym (ap (λ (x : ProcedureRow). x.entry) same) ∙ here))

pub returns-clause-left : goal.returns-clause-left
returns-clause-left c =
    λ m a. procedures-later m c.args.at c.args.self.now.context c.args.self.now.procedures.now c.in_ok-row.later.now
    c.in_ok-row.row.now a c.in_ok-row.ensures.cases.0 c.if-row-at.false

pub returns-clause-found : goal.returns-clause-found
returns-clause-found c =
    λ m a. procedures-here m c.args.at c.args.self.now.context c.args.self.now.procedures.now c.in_ok-row.later.now
    c.in_ok-row.row.now a c.in_ok-row.ensures.cases.0 c.if-row-at.false
