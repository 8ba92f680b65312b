use Rattle.std.proofs.Common.{arith, ◌∙◌}
use Rattle.occam_parser.specs.LineViews.{formal_of}
use Rattle.scalar_ranges.specs.Scopes.{entries_of}
use Rattle.program_uses.specs.Declaring.{add, formal_meaning}
use Rattle.program_uses.proofs.NextInTurn.{next_in_turn}
use Rattle.program_uses.proofs.ScopesExtended.{extends_both}
use Rattle.usage_checks.proofs.FormalsNamed.{as_many, stands_for}
use Rattle.usage_checks.proofs.extending.add_parameters.Goals as goal

pub bounds-parameters-place : goal.bounds-parameters-place
bounds-parameters-place c =
    omega (arith, as_many (entries_of c.args.scope.now) c.args.formals.now c.args.parameters.now c.requires)

pub loop-place-preserved : goal.loop-place-preserved
loop-place-preserved c =
    let outer = entries_of c.args.scope.now in
    let fs = c.args.formals.now in
    let i = c.loop-place.place in
    let x = c.index-formals-place.result in
    let means = stands_for outer fs c.args.parameters.now i x c.index-parameters-place.result c.requires (omega arith)
    c.index-formals-place.is c.index-parameters-place.is in
    let before = c.loop-place.invariant in
    record {
      entries = c.in_ok-add_name.ensures.ok ∙ (λ j. add x.name.now (means j) (before.entries j))
          ∙ next_in_turn (λ f. add f.name (formal_meaning outer f)) formal_of fs i x x outer (omega arith)
          c.index-formals-place.is;
      extends = extends_both before.extends c.add_name.ensures.extends;
    }

pub returns-in_err-add_name-clause-extends : goal.returns-in_err-add_name-clause-extends
returns-in_err-add_name-clause-extends c = extends_both c.loop-place.invariant.extends c.add_name.ensures.extends
