use Rattle.std.proofs.Common.{◌≤◌, length, map, arith, ◌∙◌}
use Rattle.occam_parser.specs.LineViews.{spelling_of}
use Rattle.line_pieces.specs.Declarations.{with_names}
use Rattle.line_pieces.specs.FrameViews.{frame_seen}
use Rattle.line_pieces.proofs.NamesTold.{words_next, words_done}
use Rattle.line_pieces.proofs.frame.Frame.add_names.Goals as goal

pub loop-name-preserved : goal.loop-name-preserved
loop-name-preserved c =
    words_next c.args.count c.deref-name-items.result.now c.loop-name._name-index _ (frame_seen c.loop-name.self)
    (frame_seen c.add_words-in-loop-name.new.self) (omega arith) c.loop-name.invariant c.in_ok-add_words-2.ensures

pub returns : goal.returns
returns c =
    let items = c.deref-name-items.result.now in
    let done : length items ≤ c.loop-name._name-index = omega arith in
    words_done c.args.count items c.loop-name._name-index _ (frame_seen c.loop-name.self) done c.loop-name.invariant
    ∙ (λ j. with_names c.args.count (map spelling_of (c.deref-name-items.ensures.value j))
    (c.in_ok-add_words.ensures j))
