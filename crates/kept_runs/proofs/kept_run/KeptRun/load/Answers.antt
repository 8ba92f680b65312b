use Rattle.std.proofs.Common.{◌∙◌, ap, subst, sym}
use Rattle.module_format.specs.Contents.{Contents, contents_of}
use Rattle.machine_state.specs.World.{loaded}
use Rattle.agreement.specs.Agrees.{PlainMachine}
use Rattle.accepted_runs.specs.Running.{AgreesOn}
use Rattle.accepted_runs.proofs.Happening.{at_first}
use Rattle.kept_runs.proofs.kept_run.KeptRun.load.Goals as goal

pub returns-clause-shows : goal.returns-clause-shows
returns-clause-shows c =
    let m = contents_of c.args.tables.now in
    subst (λ (n : Contents). AgreesOn n c.in_ok-machine.machine (loaded m)) (sym c.of-program.ensures)
    (subst (λ (machine : PlainMachine). AgreesOn m machine (loaded m)) (sym c.in_ok-machine.ensures)
    (at_first m c.requires.keeps ∣ c.requires.well ∣₁))

pub invariant_of-result : goal.invariant_of-result
invariant_of-result c =
    let m = contents_of c.args.tables.now in
    let code = ap (λ (n : Contents). n.code) (sym c.of-program.ensures) in (
      (
        loaded m,
        subst (λ (n : Contents). AgreesOn n c.in_ok-machine.machine (loaded m)) (sym c.of-program.ensures)
            (subst (λ (machine : PlainMachine). AgreesOn m machine (loaded m)) (sym c.in_ok-machine.ensures)
            (at_first m c.requires.keeps ∣ c.requires.well ∣₁)),
      ),
      tt,
      c.in_ok-decoded.ensures ∙ code,
    )
