-- What became of a run with files on the links, from its parts.
use Rattle.std.proofs.Common.{Bool, List, Option, Err, inl}
use Rattle.command_line.specs.declared.links.OnLinks.{OnLinks}
use Rattle.command_line.specs.Words.{Text}
use Rattle.module_format.specs.Contents.{Contents}
use Rattle.link_runs.specs.ByLink.{ByLink}
use Rattle.file_access.specs.declared.failure.FileFailure.{FileFailure}
use Rattle.file_access.specs.declared.failure.FileFailure.TheVariants as stops
use Rattle.file_runs.specs.FilesInOrder.{ClosesAll}
use Rattle.file_runs.specs.FilesOnLinks.{CreatesAndRuns, RunsOpened}
use Rattle.file_access.specs.Storage.{Storage}

module _ {F R W : Type 0} (storage : Storage F R W) (m : Contents) (outputs : OnLinks (Option Text)) where
  module _ (before ran after : F) (readers readers_after : List (Option R))
      (writers_after : List (Option W)) (closed : ByLink Bool)
      (closes_all : ClosesAll storage.calls.closes ran writers_after closed after) where
    -- the run stopped, and the files were closed
    pub run_stops : (failure : FileFailure)
        → CreatesAndRuns storage m outputs before ran readers readers_after writers_after (Err failure)
        → RunsOpened storage m outputs before after readers (Err failure)
    run_stops (stops.Unread path) runs = absurd runs
    run_stops (stops.Uncreated path) runs = (
      closed,
      record {
        readers_after = readers_after;
        writers_after = writers_after;
        ran = ran;
        runs = runs;
        closes_all = closes_all;
      },
    )
    run_stops (stops.ReadFailed link) runs = (
      closed,
      record {
        readers_after = readers_after;
        writers_after = writers_after;
        ran = ran;
        runs = runs;
        closes_all = closes_all;
      },
    )
    run_stops (stops.WriteFailed link) runs = inl (
      closed,
      record {
        readers_after = readers_after;
        writers_after = writers_after;
        ran = ran;
        runs = runs;
        closes_all = closes_all;
      },
    )
    run_stops stops.Memory runs = (
      closed,
      record {
        readers_after = readers_after;
        writers_after = writers_after;
        ran = ran;
        runs = runs;
        closes_all = closes_all;
      },
    )
