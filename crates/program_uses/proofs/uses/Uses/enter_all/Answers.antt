use Rattle.std.proofs.Common.{arith, ap, ◌∙◌}
use Rattle.occam_parser.specs.LineViews.{declaration_of}
use Rattle.scalar_ranges.specs.Scopes.{entries_of}
use Rattle.program_uses.specs.Actions.{uses_of_declaration}
use Rattle.program_uses.specs.Declaring.{add_outline}
use Rattle.program_uses.proofs.Adding.{adds_both, adds_as}
use Rattle.program_uses.proofs.NamesEntered.{adds_if, enters_next, enters_as, declarations_use_next}
use Rattle.program_uses.proofs.NextInTurn.{next_in_turn}
use Rattle.program_uses.proofs.uses.Uses.enter_all.Goals as goal

pub loop-declaration-preserved : goal.loop-declaration-preserved
loop-declaration-preserved c =
    let es = entries_of c.args.scope.now in
    let xs = c.args.declarations.now in
    let i = c.loop-declaration.declaration-index in
    let x = c.declaration-item.result in
    let before = c.loop-declaration.invariant in
    record {
      uses = adds_as (declarations_use_next es xs i x x (omega arith) c.declaration-item.is)
          (adds_both before.uses
          (adds_if (λ e. ap (λ k. uses_of_declaration k (declaration_of x))
          (before.entries.entries (c.enter.ensures.uses.complete e))) c.enter.ensures.uses));
      entries = enters_as (next_in_turn add_outline declaration_of xs i x x es (omega arith)
          c.declaration-item.is)
          (enters_next (add_outline (declaration_of x)) before.entries c.enter.ensures.uses.complete
          c.enter.ensures.entries);
      blocks = c.enter.ensures.blocks ∙ before.blocks;
    }
