use Rattle.std.proofs.Common.{◌≤◌, length, map, Err, ap, arith, refl}
use Rattle.module_builder.specs.declared.fault.GenFault.TheVariants.{Limit}
use Rattle.occam_parser.specs.LineViews.{declaration_of}
use Rattle.code_pieces.proofs.Faults.{handed_on}
use Rattle.code_generator.specs.Written.{site_of, declarations_code}
use Rattle.code_generator.proofs.DeclarationsWritten.{declared_next, placed_next, declared_done, declared_exceed}
use Rattle.code_generator.proofs.processes.ProcessWriter.declare_all.Goals as goal

pub loop-declaration-init : goal.loop-declaration-init
loop-declaration-init c = record { code = refl; site = refl }

pub loop-declaration-preserved : goal.loop-declaration-preserved
loop-declaration-preserved c = record {
  code = declared_next c.args.declarations.now c.loop-declaration.declaration-index c.declaration-item.result
      c.loop-declaration.self c.declare.new.self _ (omega arith) c.declaration-item.is
      c.loop-declaration.invariant.code c.in_ok-declare.ensures.ok;
  site = placed_next c.args.declarations.now c.loop-declaration.declaration-index c.declaration-item.result
      c.loop-declaration.self c.declare.new.self _ (omega arith) c.declaration-item.is
      c.loop-declaration.invariant.site c.in_ok-declare.ensures.ok;
}

pub returns-clause-ok : goal.returns-clause-ok
returns-clause-ok c =
    let done : length c.args.declarations.now ≤ c.loop-declaration.declaration-index = omega arith in
    declared_done c.args.declarations.now c.loop-declaration.declaration-index c.args.self.now c.loop-declaration.self
    done c.loop-declaration.invariant.code c.loop-declaration.invariant.site

pub returns-in_err-declare-clause-limit : goal.returns-in_err-declare-clause-limit
returns-in_err-declare-clause-limit c = λ e.
    let s = c.args.self.now in
    let ds = c.args.declarations.now in
    let fault = handed_on c.from_residual.result c.in_err-declare.field-0.0 Limit
    c.from_residual.ensures.1 e in
    declared_exceed c.args.limits ds c.loop-declaration.declaration-index c.declaration-item.result
    c.loop-declaration.self s.listing (declarations_code (map declaration_of ds) (site_of s)) (omega arith)
    c.declaration-item.is c.loop-declaration.invariant.code (c.in_err-declare.ensures.limit (ap Err fault))
