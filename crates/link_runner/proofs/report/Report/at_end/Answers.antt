use Rattle.std.proofs.Common.{◌≡◌, Bool, ap, cond, sym, ◌∙◌}
use Rattle.link_runner.specs.declared.report.Outcome.TheVariants as outcomes
use Rattle.link_runner.specs.declared.tally.Tally.{Tally}
use Rattle.link_runner.specs.Counting.{in_order, report_of}
use Rattle.link_runner.proofs.WholeRun.{report_is}
use Rattle.link_runner.proofs.report.Report.at_end.Goals as goal
use Rattle.link_runner.proofs.report.Report.at_end.Goals.{then-finished, else-finished}

pub returns : goal.returns
returns g c = λ s shown counts.
    let finished = c.finished.ensures s.world shown in
    let outcome : c.if-finished.outcome ≡ (report_of s).outcome = elim c.if-finished.branch [
      | then-finished w ↦ w.outcome-is
          ∙ ap (λ (b : Bool). cond b outcomes.Ended outcomes.Idle) (sym w.if-finished.true ∙ finished)
      | else-finished w ↦ w.outcome-is
          ∙ ap (λ (b : Bool). cond b outcomes.Ended outcomes.Idle) (sym w.if-finished.false ∙ finished)
    ] in
    report_is s c.if-finished.outcome c.executed.result c.read.result c.written.result outcome
    (c.executed.ensures s.world shown) (c.read.ensures ∙ ap (λ (t : Tally). in_order t.read) counts)
    (c.written.ensures ∙ ap (λ (t : Tally). in_order t.written) counts)
