use Rattle.std.proofs.Common.{◌≤◌, length, arith, ap, ◌∙◌}
use Rattle.line_pieces.specs.Declarations.{with_home}
use Rattle.line_pieces.specs.FrameViews.{frame_seen}
use Rattle.code_generator.proofs.LinksNumbered.{links_none, links_next, links_done}
use Rattle.code_generator.proofs.program.add_links.Goals as goal

pub loop-formal-init : goal.loop-formal-init
loop-formal-init c = links_none (frame_seen c.args.frame.now)

pub loop-formal-preserved : goal.loop-formal-preserved
loop-formal-preserved c =
    links_next c.args.formals.now c.loop-formal.formal-index c.formal-item.result (frame_seen c.args.frame.now)
    (frame_seen c.loop-formal.frame) (frame_seen c.add_home.new.self) (omega arith) c.formal-item.is
    c.loop-formal.invariant
    (c.in_ok-add_home.ensures ∙ ap (λ h. with_home h (frame_seen c.loop-formal.frame)) c.home_of_formal.ensures)

pub returns : goal.returns
returns c =
    let done : length c.args.formals.now ≤ c.loop-formal.formal-index = omega arith in
    links_done c.args.formals.now c.loop-formal.formal-index (frame_seen c.args.frame.now)
    (frame_seen c.loop-formal.frame) done c.loop-formal.invariant
