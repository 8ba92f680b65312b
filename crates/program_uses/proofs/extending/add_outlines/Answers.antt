use Rattle.std.proofs.Common.{arith, ap, ◌∙◌}
use Rattle.occam_parser.specs.LineViews.{declaration_of}
use Rattle.scalar_ranges.specs.Scopes.{entries_of}
use Rattle.program_uses.specs.Declaring.{add_outline}
use Rattle.program_uses.proofs.NextInTurn.{next_in_turn}
use Rattle.program_uses.proofs.ScopesExtended.{extends_both}
use Rattle.program_uses.proofs.extending.add_outlines.Goals as goal

pub loop-declaration-preserved : goal.loop-declaration-preserved
loop-declaration-preserved c =
    let x = c.declaration-item.result in
    let before = c.loop-declaration.invariant in
    record {
      entries = c.in_ok-add_outline.ensures.ok ∙ ap (add_outline (declaration_of x)) before.entries
          ∙ next_in_turn add_outline declaration_of c.args.declarations.now
          c.loop-declaration.declaration-index x x (entries_of c.args.scope.now) (omega arith) c.declaration-item.is;
      extends = extends_both before.extends c.add_outline.ensures.extends;
    }

pub returns-in_err-add_outline-clause-extends : goal.returns-in_err-add_outline-clause-extends
returns-in_err-add_outline-clause-extends c =
    extends_both c.loop-declaration.invariant.extends c.add_outline.ensures.extends
