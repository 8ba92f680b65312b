-- What a run on the machine that checks each rule has in common with a run of a certified module.
use Rattle.std.specs.Prelude.{◌≡◌, ◌<◌, ℕ, true, List, ◌++◌, Option, Some, Ok}
use Rattle.std.specs.Prelude.{option_and_then}
use Rattle.command_line.specs.Words.{Text}
use Rattle.command_line.specs.Fitting.{number_in}
use Rattle.command_line.specs.declared.links.OnLinks.{OnLinks}
use Rattle.module_format.specs.Contents.{Contents}
use Rattle.module_format.specs.Keeping.{Format}
use Rattle.machine_state.specs.declared.fault.Fault.{Fault}
use Rattle.machine_state.specs.declared.link.Link.{Link}
use Rattle.link_runs.specs.ByLink.{ByLink, of_link}
use Rattle.link_runs.specs.FirstInFirstOut.{Supply}
use Rattle.link_runner.specs.declared.report.Report.{Report}
use Rattle.link_runner.specs.declared.tally.Tally.{Tally}
use Rattle.link_runner.specs.Readers.{at_link}
use Rattle.link_runner.specs.Runs.{Has, Keeps, Writes}
use Rattle.machine.specs.Bounding.{BoundedExecution}
use Rattle.source_lines.specs.declared.entry.LineEntry.{LineEntry}
use Rattle.verifier.specs.Headline.{RunsWell}
use Rattle.file_runs.specs.declared.debugging.Ending.TheVariants as endings
use Rattle.file_runs.specs.Debugging.{DrivesWithCreated, HasRunTo, halted, report_at}
use Rattle.file_access.specs.Extents.{begins_as_module}
use Rattle.file_runs.specs.FilesOnLinks.{RunsTo, RunsWithCreated}
use Rattle.tpm_actions.specs.Programs.{EndsAs, IsProgramWith}
use Rattle.file_runs.specs.RunTexts.{run_text}
use Rattle.file_access.specs.Storage.{Storage}

-- a number of bytes was asked for, and it is below the module's budget
pub record AsksForLess (m : Contents) (bytes : Option Text) : Type 0 where
  pub number : ℕ
  pub asked : option_and_then number_in bytes ≡ Some number
  pub below : number < m.budget

module _ {F R W : Type 0} (storage : Storage F R W) where
  -- A module that runs well, as every certified one does, is brought to no fault, whatever its files are and however
  -- many bytes it may execute.
  abbrev pub NeverFaults : Type 0
  NeverFaults = (m : Contents) (inputs outputs : OnLinks (Option Text)) (bytes : Option Text) (before after : F)
      (lines : List LineEntry) (fault : Fault) (text : Text) → ∥ RunsWell m ∥₁
      → HasRunTo storage m inputs outputs bytes before after lines (endings.Faulted fault) text
      → ⊥

  -- If these bytes are no source, the module in them runs well.
  abbrev pub RunsWellIfModule : List ℕ → Type 0
  RunsWellIfModule bytes =
      begins_as_module bytes ≡ true → (m : Contents) → Format bytes m → ∥ RunsWell m ∥₁

  -- So no fault is told of a file that is a source, or a module that runs well.
  abbrev pub TellsNoFault : Type 0
  TellsNoFault = (bytes : List ℕ) (inputs outputs : OnLinks (Option Text)) (limit : Option Text) (before after : F)
      (fault : Fault) (text : Text) → RunsWellIfModule bytes
      → IsProgramWith bytes (λ m. EndsAs storage inputs outputs limit before after m (endings.Faulted fault) text)
      → ⊥

  -- A module that runs well is cut only where the machine executes fewer bytes than its budget says.
  abbrev pub IsCutBelowBudget : Type 0
  IsCutBelowBudget = (m : Contents) (inputs outputs : OnLinks (Option Text)) (bytes : Option Text) (before after : F)
      (lines : List LineEntry) (text : Text) → ∥ RunsWell m ∥₁
      → (debugged : HasRunTo storage m inputs outputs bytes before after lines endings.Cut text)
      → debugged.machine.limit < m.budget

  -- So the module of a file is cut only where a number of bytes is asked for, and that is below its budget.
  abbrev pub IsCutAsAsked : Type 0
  IsCutAsAsked = (m : Contents) (inputs outputs : OnLinks (Option Text)) (bytes : Option Text) (before after : F)
      (lines : List LineEntry) (text : Text) (file : List ℕ) → Format file m → ∥ RunsWell m ∥₁
      → HasRunTo storage m inputs outputs bytes before after lines endings.Cut text
      → AsksForLess m bytes

  -- What was done with the files is what `run` promises of this report, and the text is what is told of such a run, and
  -- then these lines.
  pub record IsRunWith (m : Contents) (inputs outputs : OnLinks (Option Text)) (before after : F) (report : Report)
      (waits text : Text) : Type 0 where
    pub runs : RunsTo storage m inputs outputs before after (Ok report)
    pub told : text ≡ run_text inputs outputs report ++ waits

  -- So it is with the run of any module on the machine that checks each rule, where that is over.
  abbrev pub OverIsRun : Type 0
  OverIsRun = (m : Contents) (inputs outputs : OnLinks (Option Text)) (bytes : Option Text) (before after : F)
      (lines : List LineEntry) (text : Text)
      → (debugged : HasRunTo storage m inputs outputs bytes before after lines endings.Over text)
      → IsRunWith m inputs outputs before after (report_at debugged.machine.world debugged.tally) debugged.tells.waits
      text

-- what a run found and left: all files, and the readers and writers on its links
pub record FilesOfRun (F R W : Type 0) : Type 0 where
  pub before : F
  pub after : F
  pub readers : List (Option R)
  pub readers_after : List (Option R)
  pub writers_after : List (Option W)

module _ {F R W : Type 0} (storage : Storage F R W) where
  module _ (m : Contents) (outputs : OnLinks (Option Text)) (files : FilesOfRun F R W) where
    -- the machine that checks each rule was driven with these files until nothing was left to do
    abbrev pub Debugs : BoundedExecution → Tally → Type 0
    Debugs machine tally =
        DrivesWithCreated storage m outputs files.before files.after files.readers files.readers_after
        files.writers_after machine tally (halted endings.Over)

    -- the module was run with these files until nothing was left to do, and this was reported
    abbrev pub ReportsEnd : Report → Type 0
    ReportsEnd report =
        RunsWithCreated storage m outputs files.before files.after files.readers files.readers_after files.writers_after
        (Ok report)

    module _ (writers : List (Option W)) where
      -- all that the readers have to give is known, and it is this
      abbrev pub HaveBytes : ByLink Supply → Type 0
      HaveBytes all = (link : Link)
          → Has storage.left storage.read_failed storage.written storage.write_failed m files.readers
          files.readers_after writers files.writers_after (at_link files.readers link) (of_link all link)

      -- this is left in the readers
      abbrev pub KeepBytes : ByLink Supply → Type 0
      KeepBytes rest = (link : Link)
          → Keeps storage.left storage.read_failed storage.written storage.write_failed m files.readers
          files.readers_after writers files.writers_after (at_link files.readers_after link) (of_link rest link)

      -- these bytes were written on each link
      abbrev pub HaveWritten : ByLink (List ℕ) → Type 0
      HaveWritten bytes =
          Writes storage.left storage.read_failed storage.written storage.write_failed m files.readers
          files.readers_after writers files.writers_after bytes

  module _ (m : Contents) (outputs : OnLinks (Option Text)) (debug run : FilesOfRun F R W)
      (debug_writers run_writers : List (Option W)) where
    -- The two reports are the same, the same bytes were written, and the same were not asked for.
    pub record RunsAgree (debug_report run_report : Report) : Type 0 where
      pub reports : run_report ≡ debug_report
      pub bytes : ByLink (List ℕ)
      pub debug_wrote : HaveWritten m outputs debug debug_writers bytes
      pub run_wrote : HaveWritten m outputs run run_writers bytes
      pub rest : ByLink Supply
      pub debug_keeps : KeepBytes m outputs debug debug_writers rest
      pub run_keeps : KeepBytes m outputs run run_writers rest

  -- The run on the machine that checks each rule is over, and `run` reported the end of a run of the same module, with
  -- readers that had the same bytes, and with files on the same output links: then the two agree.
  abbrev pub DebugAgreesWithRun : Type 0
  DebugAgreesWithRun = (m : Contents) (outputs : OnLinks (Option Text)) (debug run : FilesOfRun F R W)
      (machine : BoundedExecution) (tally : Tally) (report : Report) (all : ByLink Supply)
      → (debugged : Debugs m outputs debug machine tally) → (ran : ReportsEnd m outputs run report)
      → HaveBytes m outputs debug debugged.writers all → HaveBytes m outputs run ran.writers all
      → RunsAgree m outputs debug run debugged.writers ran.writers (report_at machine.world tally) report
