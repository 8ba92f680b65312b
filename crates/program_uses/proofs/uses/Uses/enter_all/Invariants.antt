use Rattle.std.proofs.Common.{◌≡◌, take, map}
use Rattle.occam_parser.specs.LineViews.{declaration_of}
use Rattle.scalar_ranges.specs.Scopes.{entries_of, blocks_of}
use Rattle.program_uses.specs.Sets.{Adds}
use Rattle.program_uses.specs.Entering.{Enters, uses_of_declarations, add_outlines}
use Rattle.program_uses.proofs.uses.Uses.enter_all.Given as goal

abbrev pub invariant-loop-declaration : goal.invariant-loop-declaration
invariant-loop-declaration l =
    let ds = map declaration_of (take l.declaration-index l.declarations) in
    record {
      uses : Adds l.fn.self l.self (uses_of_declarations (entries_of l.fn.scope) ds);
      entries : Enters l.self (entries_of l.fn.scope) (entries_of l.scope)
          (add_outlines ds (entries_of l.fn.scope));
      blocks : blocks_of l.scope ≡ blocks_of l.fn.scope;
    }
