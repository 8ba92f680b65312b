use Rattle.std.proofs.Common.{◌≡◌, ◌++◌, map, drop}
use Rattle.occam_parser.specs.LineViews.{any_of, spelling_of}
use Rattle.line_pieces.specs.Declarations.{zero_names}
use Rattle.code_generator.proofs.clearing.clear_names.Given as goal

-- what is left to set to 0, after what was written
abbrev pub invariant-loop-name : goal.invariant-loop-name
invariant-loop-name l =
    l.listing ++ zero_names (any_of l.size) l.count (map spelling_of (drop l._name-index l._name-items)) l.next
    ≡ l.initial.listing ++ zero_names (any_of l.size) l.count (map spelling_of l._name-items) l.initial.next
