use Rattle.std.proofs.Common.{◌≡◌, map, take}
use Rattle.occam_parser.specs.LineViews.{formal_of}
use Rattle.line_pieces.specs.FrameViews.{frame_seen}
use Rattle.code_generator.specs.Programs.{with_links}
use Rattle.code_generator.proofs.program.add_links.Given as goal

abbrev pub invariant-loop-formal : goal.invariant-loop-formal
invariant-loop-formal l =
    frame_seen l.frame ≡ with_links (map formal_of (take l.formal-index l.formals)) (frame_seen l.initial.frame)
