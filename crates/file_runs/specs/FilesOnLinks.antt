-- What becomes of a run with files on the links.
use Rattle.std.specs.Prelude.{◌≡◌, ◌⊎◌, Bool, not, List, Option, Some, None, Result, Ok, Err}
use Rattle.command_line.specs.Words.{Text}
use Rattle.command_line.specs.declared.links.OnLinks.{OnLinks}
use Rattle.module_format.specs.Contents.{Contents}
use Rattle.machine_state.specs.declared.link.Link.{Link}
use Rattle.link_runs.specs.ByLink.{ByLink, of_link, first_link}
use Rattle.link_runner.specs.declared.report.Report.{Report}
use Rattle.link_runner.specs.declared.report.RunError.{RunError}
use Rattle.link_runner.specs.declared.report.RunError.TheVariants as run_errors
use Rattle.link_runner.specs.Runs.{Runs, RunsWith}
use Rattle.file_access.specs.declared.files.FileFault.{FileFault}
use Rattle.file_access.specs.declared.files.FileFault.TheVariants as file_faults
use Rattle.file_access.specs.declared.failure.FileFailure.{FileFailure}
use Rattle.file_access.specs.declared.failure.FileFailure.TheVariants as stops
use Rattle.file_runs.specs.FilesInOrder.{in_order, GivesAll, FailsAtPath, ClosesAll}
use Rattle.file_access.specs.Storage.{Storage}

-- the first link whose writer could not be closed
abbrev pub first_unclosed : ByLink Bool → Option Link
first_unclosed closed = first_link (λ link. not (of_link closed link))

module _ {F R W : Type 0} (storage : Storage F R W) (m : Contents) (outputs : OnLinks (Option Text)) (before after : F)
    (readers readers_after : List (Option R)) (writers_after : List (Option W)) where
  -- The output files were created, and the module ran with them and these readers, until nothing was left to do or a
  -- link failed.
  pub record RunsWithCreated (result : Result Report RunError) : Type 0 where
    pub writers : List (Option W)
    pub creates_all : GivesAll storage.calls.creates before (in_order outputs) writers after
    pub runs : Runs storage.left storage.read_failed storage.written storage.write_failed m readers readers_after
        writers writers_after result
    pub known : RunsWith storage.left storage.read_failed storage.written storage.write_failed m readers readers_after
        writers writers_after result

  -- An output file was not created.
  abbrev pub FailsToCreate : Text → FileFault → Type 0
  FailsToCreate path fault = FailsAtPath storage.calls.creates before (in_order outputs) writers_after path fault after

  -- memory ran out for an output file, or in the run
  abbrev pub StopsForMemory : Type 0
  StopsForMemory = RunsWithCreated (Err run_errors.Memory) ⊎ ((path : Text) × FailsToCreate path file_faults.Memory)

  abbrev pub CreatesAndRuns : Result Report FileFailure → Type 0
  CreatesAndRuns (Ok report) = RunsWithCreated (Ok report)
  CreatesAndRuns (Err (stops.Unread path)) = ⊥
  CreatesAndRuns (Err (stops.Uncreated path)) = FailsToCreate path.now file_faults.Failed
  CreatesAndRuns (Err (stops.ReadFailed link)) = RunsWithCreated (Err (run_errors.ReadFailed link))
  CreatesAndRuns (Err (stops.WriteFailed link)) = RunsWithCreated (Err (run_errors.WriteFailed link))
  CreatesAndRuns (Err stops.Memory) = StopsForMemory

module _ {F R W : Type 0} (storage : Storage F R W) (m : Contents) (outputs : OnLinks (Option Text)) (before after : F)
    (readers : List (Option R)) where
  -- The output files were created, and the module ran, which came to this. Then they were closed, of which it is said
  -- whether that succeeded.
  pub record RunsAndCloses (result : Result Report FileFailure) (closed : ByLink Bool) : Type 0 where
    pub readers_after : List (Option R)
    pub writers_after : List (Option W)
    pub ran : F
    pub runs : CreatesAndRuns storage m outputs before ran readers readers_after writers_after result
    pub closes_all : ClosesAll storage.calls.closes ran writers_after closed after

  -- The run came to an end, and all files were closed.
  abbrev pub Finishes : Report → Type 0
  Finishes report = (closed : ByLink Bool) × (RunsAndCloses (Ok report) closed × (first_unclosed closed ≡ None))

  -- An output file was not created, or the run failed. Whether closing succeeded is not reported then.
  abbrev pub Stops : FileFailure → Type 0
  Stops failure = (closed : ByLink Bool) × RunsAndCloses (Err failure) closed

  -- The run came to an end, and this is the first link whose file could not be closed.
  abbrev pub FailsToClose : Link → Type 0
  FailsToClose link = (report : Report) × ((closed : ByLink Bool)
      × (RunsAndCloses (Ok report) closed × (first_unclosed closed ≡ Some link)))

  -- with input files that are open
  abbrev pub RunsOpened : Result Report FileFailure → Type 0
  RunsOpened (Ok report) = Finishes report
  RunsOpened (Err (stops.Unread path)) = ⊥
  RunsOpened (Err (stops.Uncreated path)) = Stops (stops.Uncreated path)
  RunsOpened (Err (stops.ReadFailed link)) = Stops (stops.ReadFailed link)
  RunsOpened (Err (stops.WriteFailed link)) = Stops (stops.WriteFailed link) ⊎ FailsToClose link
  RunsOpened (Err stops.Memory) = Stops stops.Memory

module _ {F R W : Type 0} (storage : Storage F R W) (m : Contents) (inputs outputs : OnLinks (Option Text))
    (before after : F) where
  -- The input files were opened, and what was done with them came to this.
  pub record OpensAndRuns (result : Result Report FileFailure) : Type 0 where
    pub readers : List (Option R)
    pub opened : F
    pub opens_all : GivesAll storage.calls.opens before (in_order inputs) readers opened
    pub runs : RunsOpened storage m outputs opened after readers result

  -- An input file was not opened.
  abbrev pub FailsToOpen : Text → FileFault → Type 0
  FailsToOpen path fault =
      (readers : List (Option R)) × FailsAtPath storage.calls.opens before (in_order inputs) readers path fault after

  abbrev pub RunsTo : Result Report FileFailure → Type 0
  RunsTo (Ok report) = OpensAndRuns (Ok report)
  RunsTo (Err (stops.Unread path)) = FailsToOpen path.now file_faults.Failed
  RunsTo (Err (stops.Uncreated path)) = OpensAndRuns (Err (stops.Uncreated path))
  RunsTo (Err (stops.ReadFailed link)) = OpensAndRuns (Err (stops.ReadFailed link))
  RunsTo (Err (stops.WriteFailed link)) = OpensAndRuns (Err (stops.WriteFailed link))
  RunsTo (Err stops.Memory) =
      OpensAndRuns (Err stops.Memory) ⊎ ((path : Text) × FailsToOpen path file_faults.Memory)
