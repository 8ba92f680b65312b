use Rattle.std.proofs.Common.{◌∙◌, ap, subst, sym}
use Rattle.module_format.specs.Contents.{Contents, contents_of}
use Rattle.module_format.specs.Keeping.{Keeps}
use Rattle.machine_state.specs.World.{loaded}
use Rattle.agreement.specs.Agrees.{PlainMachine}
use Rattle.verifier.specs.Headline.{RunsWell}
use Rattle.accepted_runs.specs.Running.{AgreesOn}
use Rattle.accepted_runs.proofs.Happening.{at_first}
use Rattle.accepted_runs.proofs.running.Run.load.Goals as goal

pub invariant_of-result : goal.invariant_of-result
invariant_of-result c =
    let m = contents_of c.tables-tables.result.now in
    let same = c.tables-tables.ensures.contents ∙ c.module.ensures.same in
    let keeps = subst Keeps (sym c.tables-tables.ensures.contents) c.tables-tables.ensures.kept in
    let well = subst (λ (n : Contents). ∥ RunsWell n ∥₁) (sym same) c.module.ensures.runs_well in
    let code = ap (λ (n : Contents). n.code) (sym c.of-program.ensures) in (
      (
        loaded m,
        subst (λ (n : Contents). AgreesOn n c.in_ok-machine.machine (loaded m)) (sym c.of-program.ensures)
            (subst (λ (machine : PlainMachine). AgreesOn m machine (loaded m)) (sym c.in_ok-machine.ensures)
            (at_first m keeps well)),
      ),
      tt,
      c.in_ok-decoded.ensures ∙ code,
    )

pub returns-clause-shows : goal.returns-clause-shows
returns-clause-shows c =
    let m = contents_of c.tables-tables.result.now in
    let same = c.tables-tables.ensures.contents ∙ c.module.ensures.same in
    let keeps = subst Keeps (sym c.tables-tables.ensures.contents) c.tables-tables.ensures.kept in
    let well = subst (λ (n : Contents). ∥ RunsWell n ∥₁) (sym same) c.module.ensures.runs_well in
    subst (λ (n : Contents). AgreesOn c.of-program.result c.in_ok-machine.machine (loaded n)) same
    (subst (λ (n : Contents). AgreesOn n c.in_ok-machine.machine (loaded m)) (sym c.of-program.ensures)
    (subst (λ (machine : PlainMachine). AgreesOn m machine (loaded m)) (sym c.in_ok-machine.ensures)
    (at_first m keeps well)))
