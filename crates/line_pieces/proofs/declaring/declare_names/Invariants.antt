use Rattle.std.proofs.Common.{◌≡◌, map, take}
use Rattle.occam_parser.specs.LineViews.{spelling_of}
use Rattle.scalar_ranges.specs.Scopes.{entries_of, blocks_of, meaning_of}
use Rattle.program_uses.specs.Declaring.{add_all}
use Rattle.line_pieces.proofs.declaring.declare_names.Given as goal

abbrev pub invariant-loop-name : goal.invariant-loop-name
invariant-loop-name l = record {
  entries : entries_of l.scope
      ≡ add_all (map spelling_of (take l.name-index l.name-items)) (meaning_of l.meaning) (entries_of l.initial.scope);
  blocks : blocks_of l.scope ≡ blocks_of l.initial.scope;
}
