-- What the program reports, and when: our own choice.
use Rattle.std.specs.Prelude.{◌≡◌, ◌⊎◌, ⊤, ℕ, true, false, List, take, Option, Some, None, Result, Ok, Err}
use Rattle.std.specs.Prelude.{string_bytes}
use Rattle.std.specs.Io.KnownBytes.{Appends}
use Rattle.command_line.specs.declared.links.OnLinks.{OnLinks}
use Rattle.command_line.specs.Words.{Text}
use Rattle.module_format.specs.declared.fault.FormatFault.{FormatFault}
use Rattle.module_format.specs.Contents.{Contents}
use Rattle.module_format.specs.Keeping.{Format}
use Rattle.link_runner.specs.declared.report.Report.{Report as RunReport}
use Rattle.verifier.specs.declared.Refusal.{Refusal}
use Rattle.tpm_actions.specs.declared.report.RefusedFor.{RefusedFor}
use Rattle.certified_worlds.specs.Certified.{IsCertified}
use Rattle.compiler.specs.Compiled.{IsRefusedFor}
use Rattle.verifier.specs.Reports.{Reports, out_of_memory}
use Rattle.verifier.specs.declared.upgrading.UpgradeFault.{UpgradeFault}
use Rattle.file_access.specs.Extents.{begins_as_module}
use Rattle.tpm_actions.specs.EnoughRead.{extent_of}
use Rattle.file_access.specs.declared.failure.FileFailure.{FileFailure}
use Rattle.file_access.specs.declared.failure.FileFailure.TheVariants as stops
use Rattle.file_access.specs.declared.files.FileFault.TheVariants as file_faults
use Rattle.tpm_actions.specs.declared.refused.RefusedSource.{RefusedSource}
use Rattle.tpm_actions.specs.declared.report.Report.TheVariants.{Accepted}
use Rattle.tpm_actions.specs.declared.report.Failure.{Failure}
use Rattle.tpm_actions.specs.declared.report.Failure.TheVariants as failures
use Rattle.tpm_actions.specs.declared.report.TheConstants.{DONE, REFUSED, MISUSED, FAILED, STARVED}
use Rattle.command_line.specs.Asked.{Asked, compiles, upgrades, verifies, runs, debugs, lists, explains, path_of}
use Rattle.command_line.specs.Asked.{wants_verdict}
use Rattle.command_line.specs.CommandLine.{line_of}
use Rattle.tpm_actions.specs.Compiling.{CompilesAndWrites, HasCompiled, IsRefusedAs}
use Rattle.tpm_actions.specs.Explaining.{ExplainsBytes, ExplainsModule, IsCorrect, IsExplained, IsSourceExplained}
use Rattle.tpm_actions.specs.Malformed.{IsMalformed}
use Rattle.tpm_actions.specs.Upgrading.{HasUpgraded, IsRefusedUpgrade, UpgradesAndWrites}
use Rattle.file_runs.specs.FilesOnLinks.{RunsTo}
use Rattle.file_runs.specs.RunTexts.{run_text}
use Rattle.machine_state.specs.declared.fault.Fault.{Fault}
use Rattle.file_runs.specs.declared.debugging.Ending.TheVariants as endings
use Rattle.tpm_actions.specs.Programs.{EndsAs, IsProgramWith, StopsProgram, TellsProgram}
use Rattle.tpm_actions.specs.Streams.{shown_of}
use Rattle.tpm_actions.specs.Texts.{report_line, status_of}
use Rattle.listings.specs.Listing.{listing}
use Rattle.file_access.specs.Storage.{Storage}

-- ---- the bytes of a module file

-- The module is certified, and this text says so.
pub record IsAccepted (m : Contents) (text : Text) : Type 0 where
  pub certified : IsCertified m
  pub told : text ≡ report_line (Accepted m.budget)

-- why no verdict on a module is reported
abbrev pub WithholdsVerdict : Contents → Failure → Type 0
WithholdsVerdict m (failures.Malformed fault) = ⊥
WithholdsVerdict m (failures.Uncertified refusal) = Reports m refusal
WithholdsVerdict m (failures.Explained refusal text) = ⊥
WithholdsVerdict m (failures.Faulted fault text) = ⊥
WithholdsVerdict m (failures.Uncompiled fault) = ⊥
WithholdsVerdict m (failures.NotUpgraded fault) = ⊥
WithholdsVerdict m (failures.Stopped why) = (why ≡ stops.Memory) × IsCertified m
WithholdsVerdict m failures.Unwritten = ⊥

-- The module is certified, if its verdict is wanted.
abbrev pub IsAllowed : Contents → Asked → Type 0
IsAllowed m asked = wants_verdict asked ≡ true → IsCertified m

-- The bytes are the file of a module of which this holds. It is certified if its verdict is wanted.
pub record IsJudged (bytes : List ℕ) (asked : Asked) (holds_of : Contents → Type 0) : Type 0 where
  pub contents : Contents
  pub format : Format bytes contents
  pub certified : IsAllowed contents asked
  pub holds : holds_of contents

-- Why nothing is reported of a module: its verdict is wanted, and unless memory ran out it breaks this rule there and
-- none before. Of a verdict that is to be explained, only that memory ran out is no part of what is reported.
abbrev pub Withholds : Contents → Asked → Refusal → Type 0
Withholds m (explains path) refusal = refusal ≡ out_of_memory
Withholds m asked refusal = (wants_verdict asked ≡ true) × Reports m refusal

-- The bytes are the file of a module of which nothing is reported for this reason.
pub record IsUncertified (bytes : List ℕ) (asked : Asked) (refusal : Refusal) : Type 0 where
  pub contents : Contents
  pub format : Format bytes contents
  pub withheld : Withholds contents asked refusal

-- An explanation is asked for. The module is refused for this, and this text explains it.
abbrev pub ExplainsTo : Contents → Asked → RefusedFor → Text → Type 0
ExplainsTo m (explains path) refusal text = ExplainsModule m refusal text
ExplainsTo m asked refusal text = ⊥

-- An explanation is asked for. The bytes are refused for this reason, and this text explains it.
abbrev pub IsRefusedWith : List ℕ → Asked → RefusedFor → Text → Type 0
IsRefusedWith bytes (explains path) refusal text = ExplainsBytes path bytes refusal text
IsRefusedWith bytes asked refusal text = ⊥

-- A source is asked for that becomes no module. Where it was to be compiled to a file, this says where and why.
abbrev pub IsUncompiled : List ℕ → Asked → RefusedSource → Type 0
IsUncompiled bytes (compiles source out) why = IsRefusedAs source bytes why
IsUncompiled bytes (debugs path inputs outputs limit trace) why =
    (begins_as_module bytes ≡ false) × IsRefusedFor bytes why.fault
IsUncompiled bytes (explains path) why = (begins_as_module bytes ≡ false) × IsRefusedAs path bytes why
IsUncompiled bytes asked why = ⊥

-- A module in version 2 is asked for, and there is none for this reason.
abbrev pub IsNotUpgraded : List ℕ → Asked → UpgradeFault → Type 0
IsNotUpgraded bytes (upgrades old new) fault = IsRefusedUpgrade bytes fault
IsNotUpgraded bytes asked fault = ⊥

-- The reader, the verifier, the compiler or the upgrade refuses the bytes.
pub data IsRefusedBy (bytes : List ℕ) (asked : Asked) : Type 0 where
  malformed : (fault : FormatFault) → IsMalformed bytes fault → IsRefusedBy bytes asked
  uncertified : (refusal : Refusal) → IsUncertified bytes asked refusal → IsRefusedBy bytes asked
  uncompiled : (why : RefusedSource) → IsUncompiled bytes asked why → IsRefusedBy bytes asked
  not_upgraded : (fault : UpgradeFault) → IsNotUpgraded bytes asked fault → IsRefusedBy bytes asked

-- ---- standard output

-- some of the text's first bytes were written, or none
abbrev pub HoldsBeginning : Option (List ℕ) → Option (List ℕ) → Text → Type 0
HoldsBeginning before after text = (n : ℕ) × Appends before after (take n text)

-- the text was written; or a beginning of it, and standard output failed
abbrev pub Tells : Option (List ℕ) → Option (List ℕ) → Text → Result ⊤ Failure → Type 0
Tells before after text (Ok _) = Appends before after text
Tells before after text (Err failures.Unwritten) = HoldsBeginning before after text
Tells before after text (Err failure) = ⊥

-- ---- files

module _ {F R W : Type 0} (storage : Storage F R W) where
  -- what becomes of a run of the module with files on its links
  abbrev pub RunOf : Contents → OnLinks (Option Text) → OnLinks (Option Text) → F → F → Result RunReport FileFailure
      → Type 0
  RunOf m inputs outputs before after result =
      RunsTo storage m inputs outputs before after result

  -- The module is certified, its run came to an end, and this text reports it.
  pub record HasRun (m : Contents) (inputs outputs : OnLinks (Option Text)) (before after : F) (text : Text) :
      Type 0 where
    pub certified : IsCertified m
    pub report : RunReport
    pub runs : RunOf m inputs outputs before after (Ok report)
    pub told : text ≡ run_text inputs outputs report

  -- what is reported about a module, and what was done with the files
  abbrev pub TellsOf : Contents → Asked → F → F → Text → Type 0
  TellsOf m (compiles source out) before after text = ⊥
  TellsOf m (upgrades old new) before after text = ⊥
  TellsOf m (verifies path) before after text = IsAccepted m text × (after ≡ before)
  TellsOf m (runs path inputs outputs) before after text = HasRun m inputs outputs before after text
  TellsOf m (debugs path inputs outputs limit trace) before after text = ⊥
  TellsOf m (lists path) before after text = (text ≡ listing m) × (after ≡ before)
  TellsOf m (explains path) before after text = IsExplained m text × (after ≡ before)

  -- a file of a link or a link failed, or memory ran out for them
  abbrev pub StopsIn : Contents → Asked → F → F → FileFailure → Type 0
  StopsIn m (compiles source out) before after why = ⊥
  StopsIn m (upgrades old new) before after why = ⊥
  StopsIn m (verifies path) before after why = ⊥
  StopsIn m (runs path inputs outputs) before after why = RunOf m inputs outputs before after (Err why)
  StopsIn m (debugs path inputs outputs limit trace) before after why = ⊥
  StopsIn m (lists path) before after why = ⊥
  StopsIn m (explains path) before after why = ⊥

  -- what is asked for was done, but is not reported
  abbrev pub IsDone : Contents → Asked → F → F → Type 0
  IsDone m (compiles source out) before after = ⊥
  IsDone m (upgrades old new) before after = ⊥
  IsDone m (verifies path) before after = after ≡ before
  IsDone m (runs path inputs outputs) before after =
      (report : RunReport) × RunOf m inputs outputs before after (Ok report)
  IsDone m (debugs path inputs outputs limit trace) before after = ⊥
  IsDone m (lists path) before after = after ≡ before
  IsDone m (explains path) before after = after ≡ before

  -- why nothing is reported about a module, or why it is refused that is explained
  abbrev pub WithholdsOf : Contents → Asked → F → F → Failure → Type 0
  WithholdsOf m asked before after (failures.Malformed fault) = ⊥
  WithholdsOf m asked before after (failures.Uncertified refusal) = Withholds m asked refusal × (after ≡ before)
  WithholdsOf m asked before after (failures.Explained refusal text) =
      ExplainsTo m asked refusal (string_bytes text) × (after ≡ before)
  WithholdsOf m asked before after (failures.Faulted fault text) = ⊥
  WithholdsOf m asked before after (failures.Uncompiled fault) = ⊥
  WithholdsOf m asked before after (failures.NotUpgraded fault) = ⊥
  WithholdsOf m asked before after (failures.Stopped why) =
      IsAllowed m asked
      × (StopsIn m asked before after why ⊎ ((why ≡ stops.Memory) × IsDone m asked before after))
  WithholdsOf m asked before after failures.Unwritten = ⊥

  -- The bytes are the file of a module about which this is reported.
  pub record IsToldOfModule (bytes : List ℕ) (asked : Asked) (before after : F) (text : Text) : Type 0 where
    pub contents : Contents
    pub format : Format bytes contents
    pub told : TellsOf contents asked before after text

  -- A run on the machine that checks each rule was brought to this fault, and this text says how far it came.
  abbrev pub IsFaulted : List ℕ → Asked → Fault → F → F → Text → Type 0
  IsFaulted bytes (debugs path inputs outputs limit trace) fault before after text =
      IsProgramWith bytes (λ m. EndsAs storage inputs outputs limit before after m (endings.Faulted fault) text)
  IsFaulted bytes asked fault before after text = ⊥

  -- what is reported about a source or a module
  abbrev pub IsTold : List ℕ → Asked → F → F → Text → Type 0
  IsTold bytes (compiles source out) before after text = HasCompiled storage bytes out before after text
  IsTold bytes (upgrades old new) before after text = HasUpgraded storage bytes new before after text
  IsTold bytes (debugs path inputs outputs limit trace) before after text =
      TellsProgram storage inputs outputs limit before after bytes text
  IsTold bytes (explains path) before after text =
      IsToldOfModule bytes (explains path) before after text ⊎ (IsSourceExplained bytes text × (after ≡ before))
  IsTold bytes asked before after text = IsToldOfModule bytes asked before after text

  -- The bytes are a source or a module whose new file was not written, or the file of a module, and what is asked for
  -- stopped by this failure.
  abbrev pub IsStopped : List ℕ → Asked → F → F → FileFailure → Type 0
  IsStopped bytes (compiles source out) before after why =
      CompilesAndWrites storage bytes out before after (Err why)
  IsStopped bytes (upgrades old new) before after why =
      UpgradesAndWrites storage bytes new before after (Err why)
  IsStopped bytes (debugs path inputs outputs limit trace) before after why =
      StopsProgram storage inputs outputs limit before after bytes why
  IsStopped bytes asked before after why = IsJudged bytes asked (λ m. StopsIn m asked before after why)

  -- what is asked for was done with the bytes, but is not reported
  abbrev pub IsUntold : List ℕ → Asked → F → F → Type 0
  IsUntold bytes (compiles source out) before after =
      (u : ⊤) × CompilesAndWrites storage bytes out before after (Ok u)
  IsUntold bytes (upgrades old new) before after =
      (u : ⊤) × UpgradesAndWrites storage bytes new before after (Ok u)
  IsUntold bytes (debugs path inputs outputs limit trace) before after = ⊥
  IsUntold bytes (explains path) before after =
      IsJudged bytes (explains path) (λ m. IsDone m (explains path) before after)
      ⊎ (IsCorrect bytes × (after ≡ before))
  IsUntold bytes asked before after = IsJudged bytes asked (λ m. IsDone m asked before after)

  -- why nothing is reported about the source or the module in the bytes, or why the module is refused that is explained
  abbrev pub IsHindered : List ℕ → Asked → F → F → Failure → Type 0
  IsHindered bytes asked before after (failures.Malformed fault) = IsMalformed bytes fault × (after ≡ before)
  IsHindered bytes asked before after (failures.Uncertified refusal) =
      IsUncertified bytes asked refusal × (after ≡ before)
  IsHindered bytes asked before after (failures.Explained refusal text) =
      IsRefusedWith bytes asked refusal (string_bytes text) × (after ≡ before)
  IsHindered bytes asked before after (failures.Faulted fault text) =
      IsFaulted bytes asked fault.fault before after (string_bytes text)
  IsHindered bytes asked before after (failures.Uncompiled why) =
      IsUncompiled bytes asked why × (after ≡ before)
  IsHindered bytes asked before after (failures.NotUpgraded fault) =
      IsNotUpgraded bytes asked fault × (after ≡ before)
  IsHindered bytes asked before after (failures.Stopped why) =
      IsStopped bytes asked before after why ⊎ ((why ≡ stops.Memory) × IsUntold bytes asked before after)
  IsHindered bytes asked before after failures.Unwritten = ⊥

  -- The file that is asked for was read. It gave bytes, and left files, of which this holds.
  pub record Reads (asked : Asked) (before : F) (holds_of : List ℕ → F → Type 0) : Type 0 where
    pub bytes : List ℕ
    pub next : F
    pub read : storage.calls.reads before (path_of asked) (extent_of asked) (Ok bytes) next
    pub holds : holds_of bytes next

  -- why nothing is reported, where the file that is asked for was read
  abbrev pub Hinders : Asked → F → F → Failure → Type 0
  Hinders asked before after failure = Reads asked before (λ bytes next. IsHindered bytes asked next after failure)

  -- The file is refused, and this text explains it.
  abbrev pub RefusesWith : Asked → F → F → Text → Type 0
  RefusesWith asked before after text =
      (refusal : RefusedFor) × Reads asked before (λ bytes next. IsRefusedWith bytes asked refusal text × (after ≡ next))

  -- The run of what is in the file was brought to a fault, and this text says how far it came.
  abbrev pub FaultsWith : Asked → F → F → Text → Type 0
  FaultsWith asked before after text =
      (fault : Fault) × Reads asked before (λ bytes next. IsFaulted bytes asked fault next after text)

  -- the file that is asked for is not read
  abbrev pub IsUnreadFor : Asked → F → F → FileFailure → Type 0
  IsUnreadFor asked before after (stops.Unread path) =
      (path.now ≡ path_of asked)
      × storage.calls.reads before (path_of asked) (extent_of asked) (Err file_faults.Failed) after
  IsUnreadFor asked before after stops.Memory =
      storage.calls.reads before (path_of asked) (extent_of asked) (Err file_faults.Memory) after
  IsUnreadFor asked before after why = ⊥

  -- what is reported about the file that is asked for, or why nothing is
  abbrev pub Answers : Asked → F → F → Result Text Failure → Type 0
  Answers asked before after (Ok text) = Reads asked before (λ bytes next. IsTold bytes asked next after text)
  Answers asked before after (Err (failures.Stopped why)) =
      IsUnreadFor asked before after why ⊎ Hinders asked before after (failures.Stopped why)
  Answers asked before after (Err failures.Unwritten) = ⊥
  Answers asked before after (Err failure) = Hinders asked before after failure

  -- Standard output failed, and holds a beginning of what is reported, of the explanation of a refusal, or of how far a
  -- run came that was brought to a fault.
  pub data IsToldInPart (asked : Asked) (before after : F) (out_before out_after : Option (List ℕ)) : Type 0 where
    report_in_part : (text : Text) → Answers asked before after (Ok text)
        → HoldsBeginning out_before out_after (shown_of asked text)
        → IsToldInPart asked before after out_before out_after
    explanation_in_part : (text : Text) → RefusesWith asked before after text
        → HoldsBeginning out_before out_after text → IsToldInPart asked before after out_before out_after
    fault_in_part : (text : Text) → FaultsWith asked before after text
        → HoldsBeginning out_before out_after (shown_of asked text)
        → IsToldInPart asked before after out_before out_after

  -- What the program did as asked: it wrote the report; it wrote the explanation of a refusal, or how far a run came,
  -- and returned that; it wrote nothing and returned why; or standard output failed.
  abbrev pub Performs : Asked → F → F → Option (List ℕ) → Option (List ℕ) → Result ⊤ Failure → Type 0
  Performs asked before after out_before out_after (Ok _) =
      (text : Text) × Answers asked before after (Ok text) × Appends out_before out_after (shown_of asked text)
  Performs asked before after out_before out_after (Err (failures.Explained refusal text)) =
      Answers asked before after (Err (failures.Explained refusal text))
      × Appends out_before out_after (string_bytes text)
  Performs asked before after out_before out_after (Err (failures.Faulted fault text)) =
      Answers asked before after (Err (failures.Faulted fault text))
      × Appends out_before out_after (shown_of asked (string_bytes text))
  Performs asked before after out_before out_after (Err failures.Unwritten) =
      IsToldInPart asked before after out_before out_after
  Performs asked before after out_before out_after (Err failure) =
      Answers asked before after (Err failure) × (out_after ≡ out_before)

  -- What the program did by the words: with the files, with what is known of standard output, and its exit status.
  pub data Acts (words : List Text) (before after : F) (out_before out_after : Option (List ℕ))
      (status : ℕ) : Type 0 where
    -- what is asked for is reported, and nothing else
    told : (asked : Asked) (text : Text) → line_of words ≡ Some asked
        → Reads asked before (λ bytes next. IsTold bytes asked next after text)
        → Appends out_before out_after (shown_of asked text) → status ≡ DONE → Acts words before after out_before out_after status
    -- the reader, the verifier, the compiler or the upgrade refuses the bytes, and no file is created
    refused : (asked : Asked) → line_of words ≡ Some asked
        → Reads asked before (λ bytes next. IsRefusedBy bytes asked × (after ≡ next))
        → out_after ≡ out_before → status ≡ REFUSED → Acts words before after out_before out_after status
    -- the reader, the verifier or the compiler refuses the file, which is explained, and nothing else
    explained : (asked : Asked) (text : Text) → line_of words ≡ Some asked → RefusesWith asked before after text
        → Appends out_before out_after text → status ≡ REFUSED → Acts words before after out_before out_after status
    -- a process is at fault in the run of what is in the file, and how far it came is reported
    faulted : (asked : Asked) (text : Text) → line_of words ≡ Some asked → FaultsWith asked before after text
        → Appends out_before out_after (shown_of asked text) → status ≡ REFUSED
        → Acts words before after out_before out_after status
    -- the words ask for nothing, and no file is touched
    misused : line_of words ≡ None → after ≡ before → out_after ≡ out_before → status ≡ MISUSED
        → Acts words before after out_before out_after status
    -- the file is not read
    unread : (asked : Asked) → line_of words ≡ Some asked
        → storage.calls.reads before (path_of asked) (extent_of asked) (Err file_faults.Failed) after
        → out_after ≡ out_before → status ≡ FAILED → Acts words before after out_before out_after status
    -- a file was not opened, created, written or closed, or a link failed, or memory ran out for them
    stopped : (asked : Asked) (why : FileFailure) → line_of words ≡ Some asked
        → Reads asked before (λ bytes next. IsStopped bytes asked next after why)
        → out_after ≡ out_before → status ≡ status_of (failures.Stopped why) → Acts words before after out_before out_after status
    -- standard output failed, and holds a beginning of what is reported
    unwritten : (asked : Asked) → line_of words ≡ Some asked → IsToldInPart asked before after out_before out_after
        → status ≡ FAILED → Acts words before after out_before out_after status
    -- memory ran out at the words, and no file is touched
    starved_by_words : after ≡ before → out_after ≡ out_before → status ≡ STARVED
        → Acts words before after out_before out_after status
    -- memory ran out at the file
    starved_by_file : (asked : Asked) → line_of words ≡ Some asked
        → storage.calls.reads before (path_of asked) (extent_of asked) (Err file_faults.Memory) after
        → out_after ≡ out_before → status ≡ STARVED → Acts words before after out_before out_after status
    -- what was asked for was done, and then memory ran out for the text of the report
    starved_by_text : (asked : Asked) → line_of words ≡ Some asked
        → Reads asked before (λ bytes next. IsUntold bytes asked next after)
        → out_after ≡ out_before → status ≡ STARVED → Acts words before after out_before out_after status
