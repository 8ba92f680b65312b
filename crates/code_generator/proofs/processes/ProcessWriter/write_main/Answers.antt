use Rattle.std.proofs.Common.{[], ◌∷◌, Err, ap, subst}
use Rattle.module_builder.specs.declared.fault.GenFault.TheVariants.{Limit}
use Rattle.occam_parser.specs.BlockViews.{procedure_of}
use Rattle.code_pieces.specs.declared.operations.TheConstants.{STOP_PROCESS}
use Rattle.code_pieces.specs.Pieces.{operates}
use Rattle.code_pieces.proofs.Faults.{handed_on}
use Rattle.code_generator.specs.CallViews.{surroundings_of}
use Rattle.code_generator.specs.Processes.{Site, process_code}
use Rattle.code_generator.specs.Programs.{in_main}
use Rattle.code_generator.specs.Written.{site_of, Appends, Exceeds}
use Rattle.code_generator.proofs.Exceeding.{exceeds_closed}
use Rattle.code_generator.proofs.ItemsPassed.{main_begins}
use Rattle.code_generator.proofs.PartsWritten.{appends_closed}
use Rattle.code_generator.proofs.processes.ProcessWriter.write_main.Goals as goal

pub returns-clause-ok : goal.returns-clause-ok
returns-clause-ok c =
    let s = c.args.self.now in
    let w = c.write.new.self in
    let body = process_code (surroundings_of c.args.around.now) (procedure_of c.args.main.now).body in
    let place = main_begins c.args.main.now s c.add_links.new.frame c.add_formals.new.scope c.deref.result.now
    c.deref-2.result.now c.in_ok-add_links.ensures c.deref.ensures.value c.in_ok-add_formals.ensures.ok
    c.deref-2.ensures.value c.in_ok-add_formals.ensures.extends.blocks in
    appends_closed (body (in_main (procedure_of c.args.main.now) (site_of s))) s.listing w.listing c.operate.new.self
    (operates STOP_PROCESS ∷ []) w.label
    (subst (λ (z : Site). Appends s.listing w.listing w.label (body z)) place c.in_ok-write.ensures.ok.code)
    c.in_ok-operate.ensures

pub returns-in_err-write-clause-limit : goal.returns-in_err-write-clause-limit
returns-in_err-write-clause-limit c = λ e.
    let s = c.args.self.now in
    let main = procedure_of c.args.main.now in
    let here = surroundings_of c.args.around.now in
    let fault = handed_on c.from_residual-in_err-write.result c.in_err-write.field-0.0 Limit
    c.from_residual-in_err-write.ensures.1 e in
    let place = main_begins c.args.main.now s c.add_links.new.frame c.add_formals.new.scope c.deref.result.now
    c.deref-2.result.now c.in_ok-add_links.ensures c.deref.ensures.value c.in_ok-add_formals.ensures.ok
    c.deref-2.ensures.value c.in_ok-add_formals.ensures.extends.blocks in
    exceeds_closed c.args.around.now.limits (process_code here main.body (in_main main (site_of s))) s.listing
    (operates STOP_PROCESS ∷ [])
    (subst (λ (z : Site). Exceeds c.args.around.now.limits s.listing (process_code here main.body z)) place
    (c.in_err-write.ensures.limit (ap Err fault)))
