-- What becomes of a run with readers and writers.
use Rattle.std.specs.Prelude.{◌≡◌, ℕ, Bool, true, List, [], ◌++◌, Option, Some, None, Result, Ok, Err, ⊤}
use Rattle.module_format.specs.Contents.{Contents}
use Rattle.machine_state.specs.declared.link.Link.{Link}
use Rattle.machine_state.specs.Happens.{emitted, turn}
use Rattle.machine_state.specs.World.{World}
use Rattle.link_runs.specs.ByLink.{ByLink, of_link, with_link}
use Rattle.link_runs.specs.FirstInFirstOut.{Supply, RunMoment, IsRun, IsOver, plain_step}
use Rattle.link_runs.specs.Wanting.{is_running}
use Rattle.link_runner.specs.AskedBytes.{AsksForBytes}
use Rattle.link_runner.specs.declared.report.Report.{Report}
use Rattle.link_runner.specs.declared.report.RunError.{RunError}
use Rattle.link_runner.specs.declared.report.RunError.TheVariants.{ReadFailed, WriteFailed, Memory}
use Rattle.link_runner.specs.declared.report.Halt.{Halt}
use Rattle.link_runner.specs.declared.report.Halt.TheVariants as halts
use Rattle.link_runner.specs.declared.tally.Tally.{Tally}
use Rattle.link_runner.specs.Counting.{report_of, tally_of}
use Rattle.link_runner.specs.Readers.{at_link, NoneFailed, OneFailed, IsReadTo, FailsToRead, IsThere}
use Rattle.link_runner.specs.Writers.{writers_of, Puts, IsPart}

module _ {R W : Type 0} (left : R → Option (List ℕ)) (read_failed : R → Bool) (written : W → Option (List ℕ))
    (write_failed : W → Bool) (m : Contents) (readers readers_after : List (Option R))
    (writers writers_after : List (Option W)) where
  -- these bytes were written on each link
  abbrev pub Writes : ByLink (List ℕ) → Type 0
  Writes bytes = (link : Link) → Puts written (at_link writers link) (at_link writers_after link) (of_link bytes link)

  -- The run came to an end: all the bytes that were taken were asked for, all that it emitted was written, and nothing
  -- is left to do.
  pub record Finishes (report : Report) : Type 0 where
    pub moment : RunMoment
    pub reads : IsReadTo left m readers readers_after (writers_of writers) moment
    pub writes : Writes moment.written
    pub over : IsOver m (writers_of writers) moment
    pub reported : report ≡ report_of moment
    pub no_read_failed : NoneFailed read_failed readers_after
    pub no_write_failed : NoneFailed write_failed writers_after

  -- The run came to a moment where this link is asked, and reading it failed. All that was emitted is written.
  pub record StopsAtRead (link : Link) : Type 0 where
    pub moment : RunMoment
    pub fails : FailsToRead left read_failed m readers readers_after (writers_of writers) moment link
    pub writes : Writes moment.written
    pub no_write_failed : NoneFailed write_failed writers_after

  -- The run came to a moment where the next Step emits a message on this link, which has a writer. A part of it was
  -- written, and not all, after all that was emitted before.
  pub record StopsAtWrite (link : Link) : Type 0 where
    pub moment : RunMoment
    pub reads : IsReadTo left m readers readers_after (writers_of writers) moment
    pub runs : is_running moment.world ≡ true
    pub message : List ℕ
    pub emits : (turn m moment.world plain_step).answer ≡ Ok (emitted link message)
    pub there : of_link (writers_of writers) link ≡ true
    pub part : List ℕ
    pub is_part : IsPart part message
    pub writes : Writes (with_link link (of_link moment.written link ++ part) moment.written)
    pub no_read_failed : NoneFailed read_failed readers_after
    pub one_failed : OneFailed write_failed writers_after link

  -- Memory ran out as the module was loaded: nothing was read, and nothing was written.
  pub record StopsForMemory : Type 0 where
    pub unread : readers_after ≡ readers
    pub unwritten : writers_after ≡ writers

  -- ---- a machine that is driven

  -- The run came to this moment: all the bytes that were taken were asked for, all that it emitted was written, and
  -- this holds of its world.
  pub record ComesTo (moment : RunMoment) (tally : Tally) (shown : World → Type 0) : Type 0 where
    pub reads : IsReadTo left m readers readers_after (writers_of writers) moment
    pub writes : Writes moment.written
    pub is_shown : shown moment.world
    pub counts : tally ≡ tally_of moment
    pub no_read_failed : NoneFailed read_failed readers_after
    pub no_write_failed : NoneFailed write_failed writers_after

  -- so it did, and nothing is left to do
  pub record ComesToEnd (tally : Tally) (shown : World → Type 0) : Type 0 where
    pub moment : RunMoment
    pub comes : ComesTo moment tally shown
    pub over : IsOver m (writers_of writers) moment

  -- so it did, and there the machine stopped of itself
  pub record StopsOfItself (tally : Tally) (stopped : World → Type 0) : Type 0 where
    pub moment : RunMoment
    pub comes : ComesTo moment tally (IsThere m stopped)

  -- What a machine does that is driven, whatever its readers turn out to give, and whether or not it stops of itself.
  abbrev pub Drives : {S : Type 0} → Result ⊤ (Halt S) → Tally → (World → Type 0) → (World → S → Type 0) → Type 0
  Drives (Ok done) tally shown stopped = ComesToEnd tally shown
  Drives (Err (halts.ReadFailed link)) tally shown stopped = StopsAtRead link
  Drives (Err (halts.WriteFailed link)) tally shown stopped = StopsAtWrite link
  Drives (Err (halts.Stopped stop)) tally shown stopped = StopsOfItself tally (λ w. stopped w stop)

  -- What `run` does, whatever its readers turn out to give: they are asked link by link, and may fail. `RunsWith` says
  -- it of readers whose bytes are known beforehand, as one run over all of these.
  abbrev pub Runs : Result Report RunError → Type 0
  Runs (Ok report) = Finishes report
  Runs (Err (ReadFailed link)) = StopsAtRead link
  Runs (Err (WriteFailed link)) = StopsAtWrite link
  Runs (Err Memory) = StopsForMemory

  -- ---- readers that are known

  -- the bytes that a reader has to give
  abbrev pub Has : Option R → Supply → Type 0
  Has None supply = supply ≡ None
  Has (Some reader) None = ⊥
  Has (Some reader) (Some bytes) = left reader ≡ Some bytes

  -- what is left at a link is left in its reader; a link that has ended has nothing left
  abbrev pub Keeps : Option R → Supply → Type 0
  Keeps None supply = ⊤
  Keeps (Some reader) None = left reader ≡ Some []
  Keeps (Some reader) (Some bytes) = left reader ≡ Some bytes

  -- The run over all bytes that the readers had came to an end: what it asked for are bytes, the readers have left what
  -- it did not ask for, and what it emitted was written.
  pub record FinishesWith (inputs : ByLink Supply) (report : Report) : Type 0 where
    pub turns : ℕ
    pub moment : RunMoment
    pub run : IsRun m inputs (writers_of writers) turns moment
    pub over : IsOver m (writers_of writers) moment
    pub asked : AsksForBytes inputs moment
    pub unread : (link : Link) → Keeps (at_link readers_after link) (of_link moment.left link)
    pub writes : Writes moment.written
    pub reported : report ≡ report_of moment

  -- where all readers are known, and have these bytes
  abbrev pub RunsWith : Result Report RunError → Type 0
  RunsWith (Ok report) = (inputs : ByLink Supply) → ((link : Link) → Has (at_link readers link) (of_link inputs link))
      → FinishesWith inputs report
  RunsWith (Err _) = ⊤
