-- The run of the machine that checks each rule is a run, and there is one.
use Rattle.std.proofs.Common.{◌≡◌, ℕ, Bool, is_some, List, [], ◌∷◌, ◌++◌, Option, Some, None, Result, Ok}
use Rattle.std.proofs.Common.{refl, sym, ap, subst, ◌∙◌, append_assoc}
use Rattle.command_line.specs.Words.{Text}
use Rattle.command_line.specs.Links.{input_names, output_names}
use Rattle.command_line.specs.declared.links.OnLinks.{OnLinks}
use Rattle.module_format.specs.Contents.{Contents}
use Rattle.machine_state.specs.World.{World}
use Rattle.machine_state.specs.declared.link.Link.{Link}
use Rattle.link_runs.specs.ByLink.{ByLink, of_link}
use Rattle.link_runs.specs.FirstInFirstOut.{Supply, IsRun, IsOver}
use Rattle.link_runs.proofs.OneRun.{one_last}
use Rattle.link_runner.specs.declared.report.Report.{Report}
use Rattle.link_runner.specs.declared.tally.Tally.{Tally}
use Rattle.link_runner.specs.Counting.{report_of}
use Rattle.link_runner.specs.Readers.{at_link}
use Rattle.link_runner.specs.Runs.{ComesToEnd, Finishes, FinishesWith, Has}
use Rattle.link_runner.specs.Writers.{writers_of}
use Rattle.link_runner.proofs.AllBytes.{knows_all}
use Rattle.link_runner.proofs.WholeRun.{finishes}
use Rattle.machine.specs.Bounding.{BoundedExecution, Shows}
use Rattle.file_runs.specs.declared.debugging.Ending.TheVariants as endings
use Rattle.file_access.specs.declared.files.FileFault.{FileFault}
use Rattle.file_runs.specs.Debugging.{report_at}
use Rattle.file_runs.specs.FilesInOrder.{GivesAll, MayGive, in_order}
use Rattle.file_runs.specs.FilesOnLinks.{RunsWithCreated}
use Rattle.file_runs.specs.RunTexts.{counts_text, debug_text, ending_of, run_text, summary_text}
use Rattle.debugged_runs.specs.DebuggedRuns.{OverIsRun, DebugAgreesWithRun, FilesOfRun, Debugs}
use Rattle.file_access.specs.Storage.{Storage}

-- ---- which links have writers

abbrev are_there : OnLinks (Option Text) → ByLink Bool
are_there paths = record {
  first = is_some paths.first;
  second = is_some paths.second;
  third = is_some paths.third;
  fourth = is_some paths.fourth;
}

module _ {F X : Type 0} (gives : F → Text → Result X FileFault → F → Type 0) where
  -- there is a file where there is a path
  given_alike : (before after : F) (path : Option Text) (file : Option X) → MayGive gives before path file after
      → is_some file ≡ is_some path
  given_alike before after None None gives_it = refl
  given_alike before after None (Some file) gives_it = absurd gives_it
  given_alike before after (Some path) None gives_it = absurd gives_it
  given_alike before after (Some path) (Some file) gives_it = refl

  -- the writers are on the links that have paths
  created_there : (before after : F) (paths : OnLinks (Option Text)) (files : List (Option X))
      → GivesAll gives before (in_order paths) files after → writers_of files ≡ are_there paths
  created_there before after paths [] all = absurd all
  created_there before after paths (a ∷ []) all = absurd all.1.1
  created_there before after paths (a ∷ b ∷ []) all = absurd all.1.1.1.1
  created_there before after paths (a ∷ b ∷ c ∷ []) all = absurd all.1.1.1.1.1.1
  created_there before after paths (a ∷ b ∷ c ∷ d ∷ []) all =
      ap (λ (x : Bool). record { first = x; second = is_some b; third = is_some c; fourth = is_some d })
      (given_alike before all.0 paths.first a all.1.0)
      ∙ (ap (λ (x : Bool). record (are_there paths) { second = x; third = is_some c; fourth = is_some d })
      (given_alike all.0 all.1.1.0 paths.second b all.1.1.1.0)
      ∙ (ap (λ (x : Bool). record (are_there paths) { third = x; fourth = is_some d })
      (given_alike all.1.1.0 all.1.1.1.1.0 paths.third c all.1.1.1.1.1.0)
      ∙ ap (λ (x : Bool). record (are_there paths) { fourth = x })
      (given_alike all.1.1.1.1.0 all.1.1.1.1.1.1.0 paths.fourth d all.1.1.1.1.1.1.1.0)))
  created_there before after paths (a ∷ b ∷ c ∷ d ∷ e ∷ rest) all = absurd all.1.1.1.1.1.1.1.1

-- ---- a run that is over

module _ {R W : Type 0} (left : R → Option (List ℕ)) (read_failed : R → Bool) (written : W → Option (List ℕ))
    (write_failed : W → Bool) (m : Contents) (readers readers_after : List (Option R))
    (writers writers_after : List (Option W)) (machine : BoundedExecution) (tally : Tally)
    (ends : ComesToEnd left read_failed written write_failed m readers readers_after writers writers_after tally
    (Shows machine)) where
  -- the report is that of the moment
  reported : report_at machine.world tally ≡ report_of ends.moment
  reported =
      ap (λ (w : World). report_at w tally) ends.comes.is_shown.is
      ∙ ap (λ (t : Tally). report_at ends.moment.world t) ends.comes.counts

  -- and so it is one that `run` finishes with
  pub finished : Finishes left read_failed written write_failed m readers readers_after writers writers_after
      (report_at machine.world tally)
  finished =
      finishes left read_failed written write_failed m readers readers_after writers writers_after tally (Shows machine)
      (report_at machine.world tally) ends reported

  -- and where all bytes are known, the run over all of them finishes so
  pub finished_with : (inputs : ByLink Supply) → ((link : Link)
      → Has left read_failed written write_failed m readers readers_after writers writers_after (at_link readers link)
      (of_link inputs link))
      → FinishesWith left read_failed written write_failed m readers readers_after writers writers_after inputs
      (report_at machine.world tally)
  finished_with inputs has =
      knows_all left read_failed written write_failed m readers readers_after writers writers_after inputs
      (report_at machine.world tally) has finished

-- what is told of it begins with what is told of the run
told_so : (inputs outputs : OnLinks (Option Text)) (report : Report) (waits : Text)
    → debug_text endings.Over inputs outputs report waits ≡ run_text inputs outputs report ++ waits
told_so inputs outputs report waits =
    let first = summary_text (ending_of report) in
    let ins = counts_text input_names inputs report.read in
    let outs = counts_text output_names outputs report.written in
    sym (append_assoc first (10 ∷ [] ++ (ins ++ outs)) waits
    ∙ ap (λ (text : Text). first ++ (10 ∷ [] ++ text)) (append_assoc ins outs waits))

module _ {F R W : Type 0} (storage : Storage F R W) where
  -- the files were created, and the run was one
  ran_so : (m : Contents) (outputs : OnLinks (Option Text)) (files : FilesOfRun F R W) (machine : BoundedExecution)
      (tally : Tally) → Debugs storage m outputs files machine tally
      → RunsWithCreated storage m outputs files.before files.after files.readers files.readers_after files.writers_after
      (Ok (report_at machine.world tally))
  ran_so m outputs files machine tally debugged = record {
    writers = debugged.writers;
    creates_all = debugged.creates_all;
    runs = finished storage.left storage.read_failed storage.written storage.write_failed m files.readers
        files.readers_after debugged.writers files.writers_after machine tally debugged.drives;
    known = finished_with storage.left storage.read_failed storage.written storage.write_failed m files.readers
        files.readers_after debugged.writers files.writers_after machine tally debugged.drives;
  }

  pub debug_agrees_with_run : DebugAgreesWithRun storage
  debug_agrees_with_run m outputs debug run machine tally report all debugged ran debug_has run_has =
      let here = finished_with storage.left storage.read_failed storage.written storage.write_failed m debug.readers
      debug.readers_after debugged.writers debug.writers_after machine tally debugged.drives all debug_has in
      let there = ran.known all run_has in
      let same_writers : writers_of ran.writers ≡ writers_of debugged.writers =
      created_there storage.calls.creates run.before run.after outputs ran.writers ran.creates_all
      ∙ sym (created_there storage.calls.creates debug.before debug.after outputs debugged.writers debugged.creates_all)
      in
      let same : here.moment ≡ there.moment = one_last m all (writers_of debugged.writers) here.turns there.turns
      here.moment there.moment here.run here.over
      (subst (λ (flags : ByLink Bool). IsRun m all flags there.turns there.moment) same_writers there.run)
      (subst (λ (flags : ByLink Bool). IsOver m flags there.moment) same_writers there.over) in
      record {
        reports = there.reported ∙ (ap report_of (sym same) ∙ sym here.reported);
        bytes = there.moment.written;
        debug_wrote = rw same at here.writes;
        run_wrote = there.writes;
        rest = there.moment.left;
        debug_keeps = rw same at here.unread;
        run_keeps = there.unread;
      }

module _ {F R W : Type 0} (storage : Storage F R W) where
  pub over_is_run : OverIsRun storage
  over_is_run m inputs outputs bytes before after lines text debugged =
      let machine = debugged.machine in
      let tally = debugged.tally in
      let driven = debugged.drives.drives.1.0 in
      record {
        runs = record {
          readers = debugged.drives.readers;
          opened = debugged.drives.opened;
          opens_all = debugged.drives.opens_all;
          runs = (
            debugged.drives.drives.0,
            (
              record {
                readers_after = driven.readers_after;
                writers_after = driven.writers_after;
                ran = driven.ran;
                runs = ran_so storage m outputs (record {
                  before = debugged.drives.opened;
                  after = driven.ran;
                  readers = debugged.drives.readers;
                  readers_after = driven.readers_after;
                  writers_after = driven.writers_after;
                }) machine tally driven.drives;
                closes_all = driven.closes_all;
              },
              debugged.drives.drives.1.1,
            ),
          );
        };
        told = debugged.tells.told ∙ told_so inputs outputs (report_at machine.world tally) debugged.tells.waits;
      }
