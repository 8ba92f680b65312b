-- A run on the machine that checks each rule, of what is in a file: our own choice.
use Rattle.std.specs.Prelude.{◌≡◌, ◌⊎◌, ⊤, ℕ, Bool, true, false, is_some, min, if◌then◌else◌, List, [], ◌∷◌}
use Rattle.std.specs.Prelude.{Option, Some, None, option_and_then, unwrap_or, Result, Ok, Err}
use Rattle.module_format.specs.Contents.{Contents}
use Rattle.machine_state.specs.declared.fault.Fault.{Fault}
use Rattle.machine_state.specs.declared.link.Link.{Link}
use Rattle.machine_state.specs.Happens.{most_executed}
use Rattle.machine_state.specs.World.{World}
use Rattle.link_runs.specs.ByLink.{ByLink}
use Rattle.link_runner.specs.declared.report.Halt.{Halt}
use Rattle.link_runner.specs.declared.report.Halt.TheVariants as halts
use Rattle.link_runner.specs.declared.report.Outcome.TheVariants as outcomes
use Rattle.link_runner.specs.declared.report.Report.{Report as RunReport}
use Rattle.link_runner.specs.declared.tally.Tally.{Tally}
use Rattle.link_runner.specs.Counting.{in_order as counts_in_order}
use Rattle.link_runner.specs.Runs.{Drives}
use Rattle.machine.specs.declared.bounded.Cause.{Cause}
use Rattle.machine.specs.declared.bounded.Cause.TheVariants as causes
use Rattle.machine.specs.Asking.{Execution}
use Rattle.machine.specs.Bounding.{BoundedExecution, Shows, HasStopped}
use Rattle.waiting_texts.specs.declared.setting.Setting.{Setting}
use Rattle.waiting_texts.specs.Resting.{IsWorldOf}
use Rattle.source_lines.specs.declared.entry.LineEntry.{LineEntry}
use Rattle.waiting_texts.specs.Lines.{TellsWaits}
use Rattle.command_line.specs.Words.{Text}
use Rattle.command_line.specs.Fitting.{number_in}
use Rattle.command_line.specs.declared.links.OnLinks.{OnLinks}
use Rattle.file_runs.specs.declared.debugging.Ending.{Ending}
use Rattle.file_runs.specs.declared.debugging.Ending.TheVariants as endings
use Rattle.file_access.specs.declared.files.FileFault.TheVariants as file_faults
use Rattle.file_access.specs.declared.failure.FileFailure.{FileFailure}
use Rattle.file_access.specs.declared.failure.FileFailure.TheVariants as stops
use Rattle.file_runs.specs.FilesInOrder.{in_order, GivesAll, FailsAtPath, ClosesAll}
use Rattle.file_runs.specs.FilesOnLinks.{first_unclosed}
use Rattle.file_runs.specs.RunTexts.{debug_text}
use Rattle.file_access.specs.Storage.{Storage}

-- how many bytes are executed at most: the number that is given, or else the budget
abbrev pub limit_of : Contents → Option Text → ℕ
limit_of m bytes = unwrap_or (option_and_then number_in bytes) m.budget

-- on which links there are files
abbrev pub given_of : OnLinks (Option Text) → List Bool
given_of paths =
    is_some paths.first ∷ is_some paths.second ∷ is_some paths.third ∷ is_some paths.fourth ∷ []

abbrev pub is_over : Ending → Bool
is_over endings.Over = true
is_over endings.Cut = false
is_over (endings.Faulted fault) = false

abbrev pub setting_of : OnLinks (Option Text) → OnLinks (Option Text) → Ending → Setting
setting_of inputs outputs ending =
    record { inputs = given_of inputs; outputs = given_of outputs; is_over = is_over ending }

-- what a machine that is driven returns at this ending
abbrev pub halted : Ending → Result ⊤ (Halt Cause)
halted endings.Over = Ok tt
halted endings.Cut = Err (halts.Stopped causes.Limit)
halted (endings.Faulted fault) = Err (halts.Stopped (causes.Fault fault))

-- how far a run came
abbrev pub report_at : World → Tally → RunReport
report_at w tally = record {
  outcome = if w.counters.is_finished then outcomes.Ended else outcomes.Idle;
  executed = w.counters.executed;
  read = counts_in_order tally.read;
  written = counts_in_order tally.written;
}

-- where a run is over, events led there
abbrev pub IsKnown : Ending → Execution → Type 0
IsKnown endings.Over execution = IsWorldOf execution.contents execution.world
IsKnown endings.Cut execution = ⊤
IsKnown (endings.Faulted fault) execution = ⊤

-- This text says how far the run came, and what each process waits for, with the lines of these entries.
pub record TellsRun (m : Contents) (lines : List LineEntry) (inputs outputs : OnLinks (Option Text)) (ending : Ending) (w : World)
    (tally : Tally) (text : Text) : Type 0 where
  pub waits : Text
  pub tells : TellsWaits m lines (setting_of inputs outputs ending) w waits
  pub told : text ≡ debug_text ending inputs outputs (report_at w tally) waits

module _ {F R W : Type 0} (storage : Storage F R W) (m : Contents) (outputs : OnLinks (Option Text)) (before after : F)
    (readers readers_after : List (Option R)) (writers_after : List (Option W)) (machine : BoundedExecution)
    (tally : Tally) where
  -- The output files were created, and the machine ran with them and these readers.
  pub record DrivesWithCreated (result : Result ⊤ (Halt Cause)) : Type 0 where
    pub writers : List (Option W)
    pub creates_all : GivesAll storage.calls.creates before (in_order outputs) writers after
    pub drives : Drives storage.left storage.read_failed storage.written storage.write_failed m readers readers_after
        writers writers_after result tally (Shows machine) (HasStopped machine)

  -- An output file was not created, a link failed, or the run came to this ending.
  abbrev pub CreatesAndDrives : Result Ending FileFailure → Type 0
  CreatesAndDrives (Ok ending) = DrivesWithCreated (halted ending)
  CreatesAndDrives (Err (stops.Unread path)) = ⊥
  CreatesAndDrives (Err (stops.Uncreated path)) =
      FailsAtPath storage.calls.creates before (in_order outputs) writers_after path.now file_faults.Failed after
  CreatesAndDrives (Err (stops.ReadFailed link)) = DrivesWithCreated (Err (halts.ReadFailed link))
  CreatesAndDrives (Err (stops.WriteFailed link)) = DrivesWithCreated (Err (halts.WriteFailed link))
  CreatesAndDrives (Err stops.Memory) = ⊤

module _ {F R W : Type 0} (storage : Storage F R W) (m : Contents) (outputs : OnLinks (Option Text)) (before after : F)
    (readers : List (Option R)) (machine : BoundedExecution) (tally : Tally) where
  -- The output files were created, and the machine ran, which came to this. Then they were closed, of which it is said
  -- whether that succeeded.
  pub record DrivesAndCloses (result : Result Ending FileFailure) (closed : ByLink Bool) : Type 0 where
    pub readers_after : List (Option R)
    pub writers_after : List (Option W)
    pub ran : F
    pub drives : CreatesAndDrives storage m outputs before ran readers readers_after writers_after machine tally result
    pub closes_all : ClosesAll storage.calls.closes ran writers_after closed after

  -- The run came to this ending, and all files were closed.
  abbrev pub Ends : Ending → Type 0
  Ends ending = (closed : ByLink Bool) × (DrivesAndCloses (Ok ending) closed × (first_unclosed closed ≡ None))

  -- An output file was not created, or a link failed. Whether closing succeeded is not reported then.
  abbrev pub Breaks : FileFailure → Type 0
  Breaks failure = (closed : ByLink Bool) × DrivesAndCloses (Err failure) closed

  -- The run came to an ending, and this is the first link whose file could not be closed.
  abbrev pub EndsUnclosed : Link → Type 0
  EndsUnclosed link = (ending : Ending) × ((closed : ByLink Bool)
      × (DrivesAndCloses (Ok ending) closed × (first_unclosed closed ≡ Some link)))

  -- with input files that are open
  abbrev pub DrivesOpened : Result Ending FileFailure → Type 0
  DrivesOpened (Ok ending) = Ends ending
  DrivesOpened (Err (stops.Unread path)) = ⊥
  DrivesOpened (Err (stops.Uncreated path)) = Breaks (stops.Uncreated path)
  DrivesOpened (Err (stops.ReadFailed link)) = Breaks (stops.ReadFailed link)
  DrivesOpened (Err (stops.WriteFailed link)) = Breaks (stops.WriteFailed link) ⊎ EndsUnclosed link
  DrivesOpened (Err stops.Memory) = ⊤

module _ {F R W : Type 0} (storage : Storage F R W) (m : Contents) (inputs outputs : OnLinks (Option Text))
    (bytes : Option Text) (before after : F) where
  -- The input files were opened, and what was done with them came to this.
  pub record OpensAndDrives (machine : BoundedExecution) (tally : Tally) (result : Result Ending FileFailure) : Type 0 where
    pub readers : List (Option R)
    pub opened : F
    pub opens_all : GivesAll storage.calls.opens before (in_order inputs) readers opened
    pub drives : DrivesOpened storage m outputs opened after readers machine tally result

  -- The run came to this ending, up to this number of bytes, and this text reports it with the lines of these entries.
  pub record HasRunTo (lines : List LineEntry) (ending : Ending) (text : Text) : Type 0 where
    pub machine : BoundedExecution
    pub tally : Tally
    pub limit : machine.limit ≡ min (limit_of m bytes) most_executed
    pub drives : OpensAndDrives machine tally (Ok ending)
    pub tells : TellsRun m lines inputs outputs ending machine.world tally text

  -- A link or a file of one failed.
  abbrev pub Fails : FileFailure → Type 0
  Fails failure =
      (machine : BoundedExecution) × ((tally : Tally) × OpensAndDrives machine tally (Err failure))

  -- why a run is not reported; what memory ran out for is not said
  abbrev pub StopsRun : FileFailure → Type 0
  StopsRun (stops.Unread path) =
      (readers : List (Option R)) × FailsAtPath storage.calls.opens before (in_order inputs) readers path.now
      file_faults.Failed after
  StopsRun (stops.Uncreated path) = Fails (stops.Uncreated path)
  StopsRun (stops.ReadFailed link) = Fails (stops.ReadFailed link)
  StopsRun (stops.WriteFailed link) = Fails (stops.WriteFailed link)
  StopsRun stops.Memory = ⊤
