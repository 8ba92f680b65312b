-- What is reported about a compiled source, an upgraded module, a run on the machine that checks each rule, and a module
-- of which something is asked, or why nothing is.
use Rattle.std.proofs.Common.{ℕ, Bool, List, Option, Result, Ok, Err, MatchResult, inl, inr, refl, subst, sym}
use Rattle.command_line.specs.Words.{Text}
use Rattle.std.specs.Prelude.{string_bytes}
use Rattle.module_format.specs.Contents.{Contents}
use Rattle.module_format.specs.Keeping.{Format}
use Rattle.module_format.specs.declared.fault.FormatFault.{FormatFault}
use Rattle.tpm_actions.specs.declared.report.RefusedFor.{RefusedFor}
use Rattle.tpm_actions.specs.declared.report.RefusedFor.TheVariants as refused
use Rattle.tpm_actions.specs.Explaining.{ExplainsFault, ExplainsSource, IsFaultExplained, IsSourceExplained, IsUnread}
use Rattle.tpm_actions.specs.Explaining.{WithholdsSource}
use Rattle.tpm_actions.specs.Malformed.{IsMalformed}
use Rattle.file_access.specs.declared.failure.FileFailure.{FileFailure}
use Rattle.tpm_actions.specs.declared.report.Failure.{Failure}
use Rattle.tpm_actions.specs.declared.report.Failure.TheVariants as failures
use Rattle.command_line.specs.declared.links.OnLinks.{OnLinks}
use Rattle.command_line.specs.Asked.{compiles, upgrades, debugs, explains, asked_about}
use Rattle.tpm_actions.specs.Programs.{TellsProgram, WithholdsProgram}
use Rattle.command_line.specs.declared.lines.Question.{Question}
use Rattle.command_line.specs.declared.lines.Question.TheVariants.{Verdict, Run, Listing, Explanation}
use Rattle.tpm_actions.specs.Compiling.{HasCompiled, WithholdsModule}
use Rattle.tpm_actions.specs.Upgrading.{HasUpgraded, WithholdsUpgrade}
use Rattle.tpm_actions.specs.Acting.{IsAllowed, TellsOf, StopsIn, IsDone, ExplainsTo, WithholdsOf, IsTold, IsStopped}
use Rattle.tpm_actions.specs.Acting.{IsUntold, IsRefusedWith, IsHindered}
use Rattle.file_access.specs.Storage.{Storage}

module _ {F R W : Type 0} (storage : Storage F R W) where
  module_withheld : (bytes : List ℕ) (source out : Text) (before after : F) (failure : Failure)
      → WithholdsModule storage source bytes out before after failure
      → IsHindered storage bytes (compiles source out) before after failure
  module_withheld bytes source out before after (failures.Malformed fault) why = absurd why
  module_withheld bytes source out before after (failures.Uncertified refusal) why = absurd why
  module_withheld bytes source out before after (failures.Explained refusal text) why = absurd why
  module_withheld bytes source out before after (failures.Faulted fault text) why = absurd why
  module_withheld bytes source out before after (failures.Uncompiled fault) why = why
  module_withheld bytes source out before after (failures.NotUpgraded fault) why = absurd why
  module_withheld bytes source out before after (failures.Stopped stop) why = why
  module_withheld bytes source out before after failures.Unwritten why = absurd why

  -- the answer that compiling a source gives
  pub module_judged : {S : Type 0} (text_of : S → Text) (bytes : List ℕ) (source out : Text) (before after : F)
      (result : Result S Failure)
      → MatchResult result
      (λ text. HasCompiled storage bytes out before after (text_of text))
      (WithholdsModule storage source bytes out before after)
      → MatchResult result
      (λ text. IsTold storage bytes (compiles source out) before after (text_of text))
      (IsHindered storage bytes (compiles source out) before after)
  module_judged text_of bytes source out before after (Ok text) has = has
  module_judged text_of bytes source out before after (Err failure) why =
      module_withheld bytes source out before after failure why

  upgrade_withheld : (bytes : List ℕ) (old new : Text) (before after : F) (failure : Failure)
      → WithholdsUpgrade storage bytes new before after failure
      → IsHindered storage bytes (upgrades old new) before after failure
  upgrade_withheld bytes old new before after (failures.Malformed fault) why = why
  upgrade_withheld bytes old new before after (failures.Uncertified refusal) why = absurd why
  upgrade_withheld bytes old new before after (failures.Explained refusal text) why = absurd why
  upgrade_withheld bytes old new before after (failures.Faulted fault text) why = absurd why
  upgrade_withheld bytes old new before after (failures.Uncompiled fault) why = absurd why
  upgrade_withheld bytes old new before after (failures.NotUpgraded fault) why = why
  upgrade_withheld bytes old new before after (failures.Stopped stop) why = why
  upgrade_withheld bytes old new before after failures.Unwritten why = absurd why

  -- the answer that upgrading a module gives
  pub upgrade_judged : {S : Type 0} (text_of : S → Text) (bytes : List ℕ) (old new : Text) (before after : F)
      (result : Result S Failure)
      → MatchResult result
      (λ text. HasUpgraded storage bytes new before after (text_of text))
      (WithholdsUpgrade storage bytes new before after)
      → MatchResult result
      (λ text. IsTold storage bytes (upgrades old new) before after (text_of text))
      (IsHindered storage bytes (upgrades old new) before after)
  upgrade_judged text_of bytes old new before after (Ok text) has = has
  upgrade_judged text_of bytes old new before after (Err failure) why =
      upgrade_withheld bytes old new before after failure why

  program_withheld : (bytes : List ℕ) (path : Text) (inputs outputs : OnLinks (Option Text)) (limit : Option Text)
      (trace : Bool) (before after : F) (failure : Failure)
      → WithholdsProgram storage inputs outputs limit before after bytes failure
      → IsHindered storage bytes (debugs path inputs outputs limit trace) before after failure
  program_withheld bytes path inputs outputs limit trace before after (failures.Malformed fault) why = why
  program_withheld bytes path inputs outputs limit trace before after (failures.Uncertified refusal) why =
      absurd why.holds
  program_withheld bytes path inputs outputs limit trace before after (failures.Explained refusal text) why =
      absurd why.holds
  program_withheld bytes path inputs outputs limit trace before after (failures.Faulted fault text) why = why
  program_withheld bytes path inputs outputs limit trace before after (failures.Uncompiled fault) why = why
  program_withheld bytes path inputs outputs limit trace before after (failures.NotUpgraded fault) why =
      absurd why.holds
  program_withheld bytes path inputs outputs limit trace before after (failures.Stopped stop) why = inl why
  program_withheld bytes path inputs outputs limit trace before after failures.Unwritten why = absurd why.holds

  -- the answer that a run of a module or a source gives on the machine that checks each rule
  pub program_judged : {S : Type 0} (text_of : S → Text) (bytes : List ℕ) (path : Text)
      (inputs outputs : OnLinks (Option Text)) (limit : Option Text) (trace : Bool) (before after : F)
      (result : Result S Failure)
      → MatchResult result
      (λ text. TellsProgram storage inputs outputs limit before after bytes (text_of text))
      (WithholdsProgram storage inputs outputs limit before after bytes)
      → MatchResult result
      (λ text. IsTold storage bytes
      (debugs path inputs outputs limit trace) before after (text_of text))
      (IsHindered storage bytes
      (debugs path inputs outputs limit trace) before after)
  program_judged text_of bytes path inputs outputs limit trace before after (Ok text) has = has
  program_judged text_of bytes path inputs outputs limit trace before after (Err failure) why =
      program_withheld bytes path inputs outputs limit trace before after failure why

  module _ (bytes : List ℕ) (path : Text) (before : F) where
    source_refused : (refusal : RefusedFor) (text : Text) → ExplainsSource path bytes refusal text
        → IsRefusedWith bytes (explains path) refusal text
    source_refused (refused.Malformed fault) text is = absurd is
    source_refused (refused.Uncertified refusal) text is = absurd is
    source_refused (refused.Uncompiled fault) text is = is

    source_withheld : (failure : Failure) → WithholdsSource path bytes failure
        → IsHindered storage bytes (explains path) before before failure
    source_withheld (failures.Malformed fault) why = absurd why
    source_withheld (failures.Uncertified refusal) why = absurd why
    source_withheld (failures.Explained refusal text) why = (source_refused refusal (string_bytes text) why, refl)
    source_withheld (failures.Faulted fault text) why = absurd why
    source_withheld (failures.Uncompiled fault) why = (why, refl)
    source_withheld (failures.NotUpgraded fault) why = absurd why
    source_withheld (failures.Stopped stop) why = inr (why.0, inr (why.1, refl))
    source_withheld failures.Unwritten why = absurd why

    -- the answer that explaining a source gives
    pub source_judged : {S : Type 0} (text_of : S → Text) (result : Result S Failure)
        → MatchResult result (λ text. IsSourceExplained bytes (text_of text)) (WithholdsSource path bytes)
        → MatchResult result
        (λ text. IsTold storage bytes (explains path) before before
        (text_of text))
        (IsHindered storage bytes (explains path) before before)
    source_judged text_of (Ok text) has = inr (has, refl)
    source_judged text_of (Err failure) why = source_withheld failure why

  module _ (bytes : List ℕ) (path : Text) (fault : FormatFault) (malformed : IsMalformed bytes fault) (before : F) where
    fault_explained : (question : Question) (refusal : RefusedFor) (text : Text)
        → ExplainsFault bytes question fault refusal text
        → IsRefusedWith bytes (asked_about path question) refusal text
    fault_explained Verdict refusal text is = absurd is
    fault_explained (Run inputs outputs) refusal text is = absurd is
    fault_explained Listing refusal text is = absurd is
    fault_explained Explanation (refused.Malformed told) text is =
        subst (λ (f : FormatFault). IsFaultExplained bytes f text) (sym is.0)
        (record { malformed = malformed; told = is.1 })
    fault_explained Explanation (refused.Uncertified refusal) text is = absurd is
    fault_explained Explanation (refused.Uncompiled told) text is = absurd is

    -- the answer where the bytes are no module file
    pub unread : (question : Question) (failure : Failure) → IsUnread bytes question fault failure
        → IsHindered storage bytes (asked_about path question) before before failure
    unread question (failures.Malformed told) is =
        (subst (λ (f : FormatFault). IsMalformed bytes f) (sym is) malformed, refl)
    unread question (failures.Uncertified refusal) is = absurd is
    unread question (failures.Explained refusal text) is =
        (fault_explained question refusal (string_bytes text) is, refl)
    unread question (failures.Faulted why text) is = absurd is
    unread question (failures.Uncompiled why) is = absurd is
    unread question (failures.NotUpgraded why) is = absurd is
    unread question (failures.Stopped why) is = absurd is
    unread question failures.Unwritten is = absurd is

  module _ (bytes : List ℕ) (m : Contents) (format : Format bytes m) (path : Text) (before after : F) where
    -- what is reported about the module
    told : (question : Question) (text : Text)
        → TellsOf storage m (asked_about path question) before after text
        → IsTold storage bytes (asked_about path question) before after text
    told Verdict text tells = record { contents = m; format = format; told = tells }
    told (Run inputs outputs) text tells = record { contents = m; format = format; told = tells }
    told Listing text tells = record { contents = m; format = format; told = tells }
    told Explanation text tells = inl (record { contents = m; format = format; told = tells })

    stopped : (question : Question) (why : FileFailure) → IsAllowed m (asked_about path question)
        → StopsIn storage m (asked_about path question) before after why
        → IsStopped storage bytes (asked_about path question) before after why
    stopped Verdict why allowed stopped_in = absurd stopped_in
    stopped (Run inputs outputs) why allowed stopped_in =
        record { contents = m; format = format; certified = allowed; holds = stopped_in }
    stopped Listing why allowed stopped_in = absurd stopped_in
    stopped Explanation why allowed stopped_in = absurd stopped_in

    untold : (question : Question) → IsAllowed m (asked_about path question)
        → IsDone storage m (asked_about path question) before after
        → IsUntold storage bytes (asked_about path question) before after
    untold Verdict allowed done = record { contents = m; format = format; certified = allowed; holds = done }
    untold (Run inputs outputs) allowed done =
        record { contents = m; format = format; certified = allowed; holds = done }
    untold Listing allowed done = record { contents = m; format = format; certified = allowed; holds = done }
    untold Explanation allowed done =
        inl (record { contents = m; format = format; certified = allowed; holds = done })

    explained : (question : Question) (refusal : RefusedFor) (text : Text)
        → ExplainsTo m (asked_about path question) refusal text
        → IsRefusedWith bytes (asked_about path question) refusal text
    explained Verdict refusal text is = absurd is
    explained (Run inputs outputs) refusal text is = absurd is
    explained Listing refusal text is = absurd is
    explained Explanation (refused.Malformed fault) text is = absurd is
    explained Explanation (refused.Uncertified refusal) text is =
        record { contents = m; format = format; explained = is }
    explained Explanation (refused.Uncompiled fault) text is = absurd is

    withheld : (question : Question) (failure : Failure)
        → WithholdsOf storage m (asked_about path question) before after failure
        → IsHindered storage bytes (asked_about path question) before after failure
    withheld question (failures.Malformed fault) why = absurd why
    withheld question (failures.Uncertified refusal) why =
        (record { contents = m; format = format; withheld = why.0 }, why.1)
    withheld question (failures.Explained refusal text) why =
        (explained question refusal (string_bytes text) why.0, why.1)
    withheld question (failures.Faulted fault text) why = absurd why
    withheld question (failures.Uncompiled fault) why = absurd why
    withheld question (failures.NotUpgraded fault) why = absurd why
    withheld question (failures.Stopped stop) why = elim why.1 [
      | inl stopped_in ↦ inl (stopped question stop why.0 stopped_in)
      | inr done ↦ inr (done.0, untold question why.0 done.1)
    ]
    withheld question failures.Unwritten why = absurd why

    -- the answer that a question about the module gives
    pub replied : {S : Type 0} (text_of : S → Text) (question : Question) (result : Result S Failure)
        → MatchResult result
        (λ text. TellsOf storage m (asked_about path question) before after (text_of text))
        (WithholdsOf storage m (asked_about path question) before after)
        → MatchResult result
        (λ text. IsTold storage bytes (asked_about path question) before after (text_of text))
        (IsHindered storage bytes (asked_about path question) before after)
    replied text_of question (Ok text) tells = told question (text_of text) tells
    replied text_of question (Err failure) why = withheld question failure why

-- what holds for every path, for one
pub for_path : {S E : Type 0} (P : S → Type 0) (Q : Text → E → Type 0) (result : Result S E)
    → MatchResult result P (λ failure. (path : Text) → Q path failure) → (path : Text) → MatchResult result P (Q path)
for_path P Q (Ok text) has path = has
for_path P Q (Err failure) why path = why path
