use Rattle.std.proofs.Common.{ℕ, ◌∙◌, min, Ok, Err, option_map, string_bytes, ap, sym, subst}
use Rattle.std.proofs.lemmas.Result.{err_from_is_err_and}
use Rattle.command_line.specs.Links.{paths_of}
use Rattle.module_format.specs.Contents.{Contents}
use Rattle.machine_state.specs.Happens.{most_executed}
use Rattle.machine_state.specs.World.{World}
use Rattle.machine.specs.Asking.{Execution}
use Rattle.machine.specs.Bounding.{BoundedExecution}
use Rattle.file_access.specs.Storage.{storage_of}
use Rattle.file_runs.specs.Debugging.{DrivesOpened, IsKnown, TellsRun}
use Rattle.file_runs.proofs.Driven.{driven_is_known, opened_stops}
use Rattle.file_runs.proofs.debugging.debug.Goals as goal

pub told-requires : goal.told-requires
told-requires g c =
    subst (IsKnown c.in_ok-ending.ending) (sym c.checked.ensures)
    (driven_is_known (storage_of g.F.Files.calls g.F.Reader.LinkReader.left g.F.Reader.LinkReader.failed
    g.F.Writer.LinkWriter.written g.F.Writer.LinkWriter.failed) _ _ _ _ _ _ _ c.in_ok-ending.ending c.in_ok-ending.ensures.drives)

pub returns-in_err-ending : goal.returns-in_err-ending
returns-in_err-ending g c =
    let p = err_from_is_err_and c.from_residual-in_err-ending.result c.from_residual-in_err-ending.ensures.1 in
    let is = ap (λ (b : BoundedExecution). b.contents) c.in_ok-machine.ensures.value in
    let failure = c.in_err-ending.field-0.0 in
    let storage = storage_of g.F.Files.calls g.F.Reader.LinkReader.left g.F.Reader.LinkReader.failed
    g.F.Writer.LinkWriter.written g.F.Writer.LinkWriter.failed in
    rw (p.1, p.2) (opened_stops storage c.args.module.now (paths_of c.args.asked.inputs)
    (paths_of c.args.asked.outputs) (option_map (λ text. text.now) c.args.asked.bytes) _ _ _ _
    c.in_ok-open_all.ensures.gives c.drive_opened.new.machine c.drive_opened.new.tally failure
    (subst (λ (m : Contents). DrivesOpened storage m (paths_of c.args.asked.outputs) c.open_all.new.files
    c.drive_opened.new.files c.open_all.new.readers c.drive_opened.new.machine c.drive_opened.new.tally
    (Err failure)) is c.in_err-ending.ensures.drives))

pub returns : goal.returns
returns g c =
    let is = ap (λ (b : BoundedExecution). b.contents) c.in_ok-machine.ensures.value in
    let storage = storage_of g.F.Files.calls g.F.Reader.LinkReader.left g.F.Reader.LinkReader.failed
    g.F.Writer.LinkWriter.written g.F.Writer.LinkWriter.failed in
    record {
      machine = c.drive_opened.new.machine;
      tally = c.drive_opened.new.tally;
      limit = c.in_ok-ending.ensures.limit
          ∙ (ap (λ (b : BoundedExecution). b.limit) c.in_ok-machine.ensures.value
          ∙ ap (λ (n : ℕ). min n most_executed) c.limit.ensures);
      drives = record {
        readers = c.open_all.new.readers;
        opened = c.open_all.new.files;
        opens_all = c.in_ok-open_all.ensures.gives;
        drives = subst (λ (m : Contents). DrivesOpened storage m (paths_of c.args.asked.outputs) c.open_all.new.files
            c.drive_opened.new.files c.open_all.new.readers c.drive_opened.new.machine c.drive_opened.new.tally
            (Ok c.in_ok-ending.ending)) is c.in_ok-ending.ensures.drives;
      };
      tells = subst (λ (w : World). TellsRun c.args.module.now c.args.lines.now (paths_of c.args.asked.inputs)
          (paths_of c.args.asked.outputs) c.in_ok-ending.ending w c.drive_opened.new.tally
          (string_bytes c.in_ok-text.text)) (ap (λ (e : Execution). e.world) c.checked.ensures) c.in_ok-text.ensures;
    }
