use Rattle.std.proofs.Common.{◌+◌, sym, subst}
use Rattle.module_format.specs.Contents.{Contents}
use Rattle.verifier.specs.Judging.{LabelsLeft, ProceduresLeft, AreLeft}
use Rattle.verifier.proofs.rows.Rows.take.Goals as goal
use Rattle.verifier.proofs.rows.Rows.take.Goals.{After-take_procedure-procedure}

-- neither of the two steps changes the other's rows
left : (c : After-take_procedure-procedure) (m : Contents) → AreLeft m c.args.at c.args.self.now
    → AreLeft m (c.args.at + 1) c.take_procedure-procedure.new.self
left c m a =
    let procedures = subst (λ rs. ProceduresLeft m c.args.at c.args.self.now.context rs)
    (sym c.take_label-label.ensures.procedures) a.procedures in
    record {
      labels = subst (λ rs. LabelsLeft m (c.args.at + 1) rs) (sym c.take_procedure-procedure.ensures.labels)
          (c.take_label-label.ensures.left m a.labels);
      procedures = c.take_procedure-procedure.ensures.left m
          (subst (λ n. ProceduresLeft m c.args.at n c.take_label-label.new.self.procedures.now)
          (sym c.take_label-label.ensures.context) procedures);
    }

pub returns-in-Some-default-clause-left : goal.returns-in-Some-default-clause-left
returns-in-Some-default-clause-left c =
    left (goal.at.returns-in-Some-default-clause-left c).After-take_procedure-procedure

pub returns-in-None-Some-clause-left : goal.returns-in-None-Some-clause-left
returns-in-None-Some-clause-left c = left (goal.at.returns-in-None-Some-clause-left c).After-take_procedure-procedure

pub returns-in-None-None-clause-left : goal.returns-in-None-None-clause-left
returns-in-None-None-clause-left c = left (goal.at.returns-in-None-None-clause-left c).After-take_procedure-procedure
