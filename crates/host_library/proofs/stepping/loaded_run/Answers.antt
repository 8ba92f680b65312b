use Rattle.std.proofs.Common.{◌∙◌, refl, subst, sym}
use Rattle.module_format.specs.Contents.{Contents}
use Rattle.module_format.specs.Keeping.{Keeps}
use Rattle.machine_state.specs.World.{loaded}
use Rattle.verifier.specs.Headline.{RunsWell}
use Rattle.accepted_runs.specs.Running.{Shows}
use Rattle.host_library.specs.Machines.{IsLoaded}
use Rattle.host_library.specs.declared.failure.HostFailure.TheVariants.{Memory}
use Rattle.host_library.proofs.CertifiedFiles.{of_module}
use Rattle.host_library.proofs.Unread.{memory_alone}
use Rattle.host_library.proofs.stepping.loaded_run.Goals as goal

pub returns-in_err-module-clause-certified : goal.returns-in_err-module-clause-certified
returns-in_err-module-clause-certified c m format certified =
    memory_alone _ (c.in_err-module.ensures.certified m format certified) c.from_residual.result
    c.from_residual.ensures.1

pub returns-in_err-new-clause-certified : goal.returns-in_err-new-clause-certified
returns-in_err-new-clause-certified c m format certified =
    memory_alone Memory refl c.from_residual-in_err-new.result c.from_residual-in_err-new.ensures.1

pub load-requires-clause-keeps : goal.load-requires-clause-keeps
load-requires-clause-keeps c = subst Keeps (sym c.tables.ensures.contents) c.tables.ensures.kept

pub load-requires-clause-well : goal.load-requires-clause-well
load-requires-clause-well c =
    let file = c.in_ok-module.ensures.answer in
    subst RunsWell (sym (c.tables.ensures.contents ∙ file.holds)) file.runs_well

pub returns-clause-answer : goal.returns-clause-answer
returns-clause-answer c =
    of_module _ c.in_ok-module.ensures.answer
    (subst (IsLoaded c.in_ok-module.module) (sym c.in_ok-new.ensures.ok) (record {
      contents = c.in_ok-run.ensures.contents ∙ c.tables.ensures.contents;
      shows = subst (λ (m : Contents). Shows c.in_ok-run.run' (loaded m)) c.tables.ensures.contents
          c.in_ok-run.ensures.shows;
    }))
