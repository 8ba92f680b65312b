-- What is reported about a file that was read, as the answer of the program.
use Rattle.std.proofs.Common.{ℕ, List, Result, Ok, Err, MatchResult, inr}
use Rattle.command_line.specs.Words.{Text}
use Rattle.tpm_actions.specs.EnoughRead.{extent_of}
use Rattle.tpm_actions.specs.declared.report.Failure.{Failure}
use Rattle.tpm_actions.specs.declared.report.Failure.TheVariants as failures
use Rattle.command_line.specs.Asked.{Asked, path_of}
use Rattle.tpm_actions.specs.Acting.{Answers, Hinders, IsTold, IsHindered}
use Rattle.file_access.specs.Storage.{Storage}

module _ {F R W : Type 0} (storage : Storage F R W) (asked : Asked) (bytes : List ℕ) (before next after : F)
    (read : storage.calls.reads before (path_of asked) (extent_of asked) (Ok bytes) next) where
  hinders : (failure : Failure)
      → IsHindered storage bytes asked next after failure
      → Hinders storage asked before after failure
  hinders failure why = record { bytes = bytes; next = next; read = read; holds = why }

  hindered : (failure : Failure)
      → IsHindered storage bytes asked next after failure
      → Answers storage asked before after (Err failure)
  hindered (failures.Malformed fault) why = hinders (failures.Malformed fault) why
  hindered (failures.Uncertified refusal) why = hinders (failures.Uncertified refusal) why
  hindered (failures.Explained refusal text) why = hinders (failures.Explained refusal text) why
  hindered (failures.Faulted fault text) why = hinders (failures.Faulted fault text) why
  hindered (failures.Uncompiled fault) why = hinders (failures.Uncompiled fault) why
  hindered (failures.NotUpgraded fault) why = hinders (failures.NotUpgraded fault) why
  hindered (failures.Stopped stop) why = inr (hinders (failures.Stopped stop) why)
  hindered failures.Unwritten why = why

  -- the answer where the file was read
  pub answered : {S : Type 0} (text_of : S → Text) (result : Result S Failure)
      → MatchResult result
      (λ text. IsTold storage bytes asked next after (text_of text))
      (IsHindered storage bytes asked next after)
      → MatchResult result
      (λ text. Answers storage asked before after
      (Ok (text_of text)))
      (λ failure. Answers storage asked before after
      (Err failure))
  answered text_of (Ok text) told = record { bytes = bytes; next = next; read = read; holds = told }
  answered text_of (Err failure) why = hindered failure why
