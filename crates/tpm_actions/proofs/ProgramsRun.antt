-- What became of a run, as what became of a module or a source that was run.
use Rattle.std.proofs.Common.{ℕ, List, Option, Result, Ok, Err, MatchResult}
use Rattle.command_line.specs.Words.{Text}
use Rattle.command_line.specs.declared.links.OnLinks.{OnLinks}
use Rattle.file_access.specs.declared.failure.FileFailure.TheVariants as stops
use Rattle.tpm_actions.specs.declared.report.Failure.{Failure}
use Rattle.tpm_actions.specs.declared.report.Failure.TheVariants as failures
use Rattle.tpm_actions.specs.Programs.{LinedModule, IsProgramOf, TellsModule, TellsProgram, WithholdsProgram, WithholdsRun}
use Rattle.file_access.specs.Storage.{Storage}

module _ {F R W : Type 0} (storage : Storage F R W) (inputs outputs : OnLinks (Option Text)) (limit : Option Text)
    (before after : F) (m : LinedModule) where
  module _ (bytes : List ℕ) (program : IsProgramOf bytes m) where
    withheld : (failure : Failure)
        → WithholdsRun storage inputs outputs limit before after m failure
        → WithholdsProgram storage inputs outputs limit before after bytes failure
    withheld (failures.Malformed fault) why = absurd why
    withheld (failures.Uncertified refusal) why = absurd why
    withheld (failures.Explained refusal text) why = absurd why
    withheld (failures.Faulted fault text) why = record { lined = m; program = program; holds = why }
    withheld (failures.Uncompiled fault) why = absurd why
    withheld (failures.NotUpgraded fault) why = absurd why
    withheld (failures.Stopped (stops.Unread path)) why = record { lined = m; program = program; holds = why }
    withheld (failures.Stopped (stops.Uncreated path)) why = record { lined = m; program = program; holds = why }
    withheld (failures.Stopped (stops.ReadFailed link)) why = record { lined = m; program = program; holds = why }
    withheld (failures.Stopped (stops.WriteFailed link)) why = record { lined = m; program = program; holds = why }
    withheld (failures.Stopped stops.Memory) why = tt
    withheld failures.Unwritten why = absurd why

    -- what a module's run tells, or why it is not told, of the bytes that it is in
    pub programmed : {S : Type 0} (text_of : S → Text) (result : Result S Failure)
        → MatchResult result
        (λ text. TellsModule storage inputs outputs limit before after m (text_of text))
        (WithholdsRun storage inputs outputs limit before after m)
        → MatchResult result
        (λ text. TellsProgram storage inputs outputs limit before after bytes (text_of text))
        (WithholdsProgram storage inputs outputs limit before after bytes)
    programmed text_of (Ok text) has = record { lined = m; program = program; holds = has }
    programmed text_of (Err failure) why = withheld failure why
