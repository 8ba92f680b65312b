-- What was performed, as what the program did.
use Rattle.std.proofs.Common.{◌≡◌, ℕ, List, Option, Some, Result, Ok, Err, inl, inr, refl, ap, ◌∙◌}
use Rattle.std.specs.Prelude.{string_bytes}
use Rattle.command_line.specs.Words.{Text}
use Rattle.tpm_actions.specs.declared.report.RefusedFor.{RefusedFor}
use Rattle.file_access.specs.declared.failure.FileFailure.{FileFailure}
use Rattle.file_access.specs.declared.failure.FileFailure.TheVariants as stops
use Rattle.tpm_actions.specs.declared.report.Failure.{Failure}
use Rattle.tpm_actions.specs.declared.report.Failure.TheVariants as failures
use Rattle.command_line.specs.Asked.{Asked}
use Rattle.command_line.specs.CommandLine.{line_of}
use Rattle.tpm_actions.specs.Texts.{status_of}
use Rattle.tpm_actions.specs.Acting.{Acts, Performs, Reads, Answers, Hinders, HoldsBeginning, IsFaulted, IsRefusedWith}
use Rattle.tpm_actions.specs.Acting.{IsToldInPart, IsUnreadFor, Tells, malformed, uncertified, uncompiled}
use Rattle.tpm_actions.specs.Acting.{not_upgraded, told, refused, explained, faulted, unread, stopped, unwritten}
use Rattle.tpm_actions.specs.Acting.{starved_by_file, starved_by_text, report_in_part, explanation_in_part}
use Rattle.tpm_actions.specs.Acting.{fault_in_part}
use Rattle.tpm_actions.specs.Streams.{shown_of}
use Rattle.machine_state.specs.declared.fault.Fault.{Fault}
use Rattle.file_access.specs.Storage.{Storage}

module _ {F R W : Type 0} (storage : Storage F R W) (words : List Text) (asked : Asked) (before after : F)
    (out_before out_after : Option (List ℕ)) where
  pub acts_told : line_of words ≡ Some asked → (u : Unit {0})
      → Performs storage asked before after out_before out_after (Ok u)
      → Acts storage words before after out_before out_after 0
  acts_told line u performed = told asked performed.0 line performed.1 performed.2 refl

  -- a file of which this holds is one of which that holds
  read_so : {P Q : List ℕ → F → Type 0} → ((bytes : List ℕ) (next : F) → P bytes next → Q bytes next)
      → Reads storage asked before P
      → Reads storage asked before Q
  read_so implies file = record {
    bytes = file.bytes;
    next = file.next;
    read = file.read;
    holds = implies file.bytes file.next file.holds;
  }

  -- the file that is asked for was not read
  unread_at : (stop : FileFailure) (status : ℕ) → status ≡ status_of (failures.Stopped stop)
      → line_of words ≡ Some asked → out_after ≡ out_before
      → IsUnreadFor storage asked before after stop
      → Acts storage words before after out_before out_after status
  unread_at (stops.Unread path) status is line same file = unread asked line file.1 same is
  unread_at (stops.Uncreated path) status is line same file = absurd file
  unread_at (stops.ReadFailed link) status is line same file = absurd file
  unread_at (stops.WriteFailed link) status is line same file = absurd file
  unread_at stops.Memory status is line same file = starved_by_file asked line file same is

  -- a file or a link failed once the file was read, or memory ran out
  stopped_at : (stop : FileFailure) (status : ℕ) → status ≡ status_of (failures.Stopped stop)
      → line_of words ≡ Some asked → out_after ≡ out_before
      → Hinders storage asked before after (failures.Stopped stop)
      → Acts storage words before after out_before out_after status
  stopped_at stop status is line same file = elim file.holds [
    | inl stopped_by ↦ stopped asked stop line
        (record { bytes = file.bytes; next = file.next; read = file.read; holds = stopped_by }) same is
    | inr done ↦ starved_by_text asked line
        (record { bytes = file.bytes; next = file.next; read = file.read; holds = done.1 }) same
        (is ∙ ap (λ (why : FileFailure). status_of (failures.Stopped why)) done.0)
  ]

  pub acts_failed : (failure : Failure) (status : ℕ) → status ≡ status_of failure → line_of words ≡ Some asked
      → Performs storage asked before after out_before out_after (Err failure)
      → Acts storage words before after out_before out_after status
  acts_failed (failures.Malformed fault) status is line performed =
      refused asked line (read_so (λ bytes next why. (malformed fault why.0, why.1)) performed.0) performed.1 is
  acts_failed (failures.Uncertified refusal) status is line performed =
      refused asked line (read_so (λ bytes next why. (uncertified refusal why.0, why.1)) performed.0) performed.1 is
  acts_failed (failures.Explained refusal text) status is line performed =
      explained asked (string_bytes text) line (refusal, performed.0) performed.1 is
  acts_failed (failures.Faulted fault text) status is line performed =
      faulted asked (string_bytes text) line (fault.fault, performed.0) performed.1 is
  acts_failed (failures.Uncompiled fault) status is line performed =
      refused asked line (read_so (λ bytes next why. (uncompiled fault why.0, why.1)) performed.0) performed.1 is
  acts_failed (failures.NotUpgraded fault) status is line performed =
      refused asked line (read_so (λ bytes next why. (not_upgraded fault why.0, why.1)) performed.0) performed.1 is
  acts_failed (failures.Stopped stop) status is line performed = elim performed.0 [
    | inl file ↦ unread_at stop status is line performed.1 file
    | inr file ↦ stopped_at stop status is line performed.1 file
  ]
  acts_failed failures.Unwritten status is line performed = unwritten asked line performed is

  -- a text was not written to its end
  told_in_part : (text : Text) (failure : Failure)
      → (HoldsBeginning out_before out_after text
      → IsToldInPart storage asked before after out_before out_after)
      → Tells out_before out_after text (Err failure)
      → Performs storage asked before after out_before out_after (Err failure)
  told_in_part text (failures.Malformed fault) part tells = absurd tells
  told_in_part text (failures.Uncertified refused_for) part tells = absurd tells
  told_in_part text (failures.Explained refused_for told_by) part tells = absurd tells
  told_in_part text (failures.Faulted why told_by) part tells = absurd tells
  told_in_part text (failures.Uncompiled fault) part tells = absurd tells
  told_in_part text (failures.NotUpgraded fault) part tells = absurd tells
  told_in_part text (failures.Stopped why) part tells = absurd tells
  told_in_part text failures.Unwritten part tells = part tells

  -- the text that explains a refusal
  pub explained_in_part : (refusal : RefusedFor) (text : Text) (failure : Failure)
      → Reads storage asked before (λ bytes next. IsRefusedWith bytes asked refusal text × (after ≡ next))
      → Tells out_before out_after text (Err failure)
      → Performs storage asked before after out_before out_after (Err failure)
  explained_in_part refusal text failure file =
      told_in_part text failure (λ beginning. explanation_in_part text (refusal, file) beginning)

  -- the text of a run that was brought to a fault
  pub faulted_in_part : (fault : Fault) (text : Text) (failure : Failure)
      → Reads storage asked before (λ bytes next. IsFaulted storage bytes asked fault next after text)
      → Tells out_before out_after (shown_of asked text) (Err failure)
      → Performs storage asked before after out_before out_after (Err failure)
  faulted_in_part fault text failure file =
      told_in_part (shown_of asked text) failure (λ beginning. fault_in_part text (fault, file) beginning)

  -- what was done to report
  pub reported : (text : Text) (result : Result (Unit {0}) Failure)
      → Answers storage asked before after (Ok text)
      → Tells out_before out_after (shown_of asked text) result
      → Performs storage asked before after out_before out_after result
  reported text (Ok u) answers tells = (text, answers, tells)
  reported text (Err failure) answers tells =
      told_in_part (shown_of asked text) failure (λ beginning. report_in_part text answers beginning) tells
