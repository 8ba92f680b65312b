use Rattle.std.proofs.Common.{refl}
use Rattle.states.specs.State.{entry_fact}
use Rattle.states.specs.Frames.{frame_facts}
use Rattle.states.proofs.Comparisons.{says-combined, entries_hold-true}
use Rattle.states.proofs.frame.Frame.paid_by_rows.Goals as goal

pub returns-clause-hold : goal.returns-clause-hold
returns-clause-hold c =
    let frame = c.args.self.now in
    entries_hold-true (frame_facts frame) c.args.row.now c.requires
    (says-combined frame.lo frame.row.now frame.overlay.written.items frame.by_block.kept.items
    (entry_fact c.args.row.now) (c.if-not-written_holds.ensures refl) (c.if-not-left_holds.ensures refl)
    c.in_ok-paid.ensures.each)
