-- What became of a run on the machine that checks each rule, from its parts.
use Rattle.std.proofs.Common.{Bool, List, Option, Result, Ok, Err, inl, ◌∙◌}
use Rattle.command_line.specs.declared.links.OnLinks.{OnLinks}
use Rattle.command_line.specs.Words.{Text}
use Rattle.module_format.specs.Contents.{Contents}
use Rattle.link_runs.specs.ByLink.{ByLink}
use Rattle.link_runner.specs.declared.tally.Tally.{Tally}
use Rattle.machine.specs.Asking.{Execution}
use Rattle.machine.specs.Bounding.{BoundedExecution}
use Rattle.waiting_texts.specs.Resting.{IsKnownIf}
use Rattle.file_runs.specs.declared.debugging.Ending.{Ending}
use Rattle.file_runs.specs.declared.debugging.Ending.TheVariants as endings
use Rattle.file_access.specs.declared.failure.FileFailure.{FileFailure}
use Rattle.file_access.specs.declared.failure.FileFailure.TheVariants as stops
use Rattle.file_runs.specs.FilesInOrder.{in_order, GivesAll, ClosesAll}
use Rattle.file_runs.specs.Debugging.{Breaks, CreatesAndDrives, DrivesOpened, Fails, IsKnown, StopsRun, is_over}
use Rattle.file_access.specs.Storage.{Storage}

module _ {F R W : Type 0} (storage : Storage F R W) (m : Contents) (outputs : OnLinks (Option Text))
    (machine : BoundedExecution) (tally : Tally) (before ran after : F) (readers readers_after : List (Option R))
    (writers_after : List (Option W)) (closed : ByLink Bool)
    (closes_all : ClosesAll storage.calls.closes ran writers_after closed after) where
  parts : (failure : FileFailure)
      → CreatesAndDrives storage m outputs before ran readers readers_after writers_after machine tally (Err failure)
      → Breaks storage m outputs before after readers machine tally failure
  parts failure drives = (
    closed,
    record {
      readers_after = readers_after;
      writers_after = writers_after;
      ran = ran;
      drives = drives;
      closes_all = closes_all;
    },
  )

  -- the run broke off, and the files were closed
  pub breaks : (failure : FileFailure)
      → CreatesAndDrives storage m outputs before ran readers readers_after writers_after machine tally (Err failure)
      → DrivesOpened storage m outputs before after readers machine tally (Err failure)
  breaks (stops.Unread path) drives = absurd drives
  breaks (stops.Uncreated path) drives = parts (stops.Uncreated path) drives
  breaks (stops.ReadFailed link) drives = parts (stops.ReadFailed link) drives
  breaks (stops.WriteFailed link) drives = inl (parts (stops.WriteFailed link) drives)
  breaks stops.Memory drives = tt

-- where a run is over, events led to the world of its machine
pub known_if_over : (ending : Ending) (execution : Execution) → IsKnown ending execution
    → IsKnownIf (is_over ending) execution.contents execution.world
known_if_over endings.Over execution known over = known
known_if_over endings.Cut execution known over = absurd (cc)
known_if_over (endings.Faulted fault) execution known over = absurd (cc)

module _ {F R W : Type 0} (storage : Storage F R W) (m : Contents) (outputs : OnLinks (Option Text)) (before after : F)
    (readers : List (Option R)) (machine : BoundedExecution) (tally : Tally) where
  -- so it is in the world of a machine that was driven
  pub driven_is_known : (ending : Ending)
      → DrivesOpened storage m outputs before after readers machine tally (Ok ending)
      → IsKnown ending (record { contents = machine.contents; world = machine.world })
  driven_is_known endings.Over drives =
      let shown = drives.1.0.drives.drives.comes.is_shown in
      record { events = shown.reached.events; world = shown.is ∙ shown.reached.world }
  driven_is_known endings.Cut drives = tt
  driven_is_known (endings.Faulted fault) drives = tt

module _ {F R W : Type 0} (storage : Storage F R W) (m : Contents) (inputs outputs : OnLinks (Option Text))
    (limit : Option Text) (before opened after : F) (readers : List (Option R))
    (opens_all : GivesAll storage.calls.opens before (in_order inputs) readers opened) (machine : BoundedExecution)
    (tally : Tally) where
  fails : (failure : FileFailure)
      → DrivesOpened storage m outputs opened after readers machine tally (Err failure)
      → Fails storage m inputs outputs limit before after failure
  fails failure drives =
      (machine, (tally, record { readers = readers; opened = opened; opens_all = opens_all; drives = drives }))

  -- the run broke off with input files that were opened
  pub opened_stops : (failure : FileFailure)
      → DrivesOpened storage m outputs opened after readers machine tally (Err failure)
      → StopsRun storage m inputs outputs limit before after failure
  opened_stops (stops.Unread path) drives = absurd drives
  opened_stops (stops.Uncreated path) drives = fails (stops.Uncreated path) drives
  opened_stops (stops.ReadFailed link) drives = fails (stops.ReadFailed link) drives
  opened_stops (stops.WriteFailed link) drives = fails (stops.WriteFailed link) drives
  opened_stops stops.Memory drives = tt
