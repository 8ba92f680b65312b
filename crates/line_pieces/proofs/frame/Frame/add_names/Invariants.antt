use Rattle.std.proofs.Common.{◌≡◌, map, drop}
use Rattle.occam_parser.specs.LineViews.{spelling_of}
use Rattle.line_pieces.specs.Declarations.{with_names}
use Rattle.line_pieces.specs.FrameViews.{frame_seen}
use Rattle.line_pieces.proofs.frame.Frame.add_names.Given as goal

abbrev pub invariant-loop-name : goal.invariant-loop-name
invariant-loop-name l =
    with_names l.count (map spelling_of (drop l._name-index l._name-items)) (frame_seen l.self)
    ≡ with_names l.count (map spelling_of l._name-items) (frame_seen l.initial.self)
