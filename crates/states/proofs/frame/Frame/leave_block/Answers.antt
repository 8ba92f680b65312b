use Rattle.std.proofs.Common.{◌≡◌, ap, ◌∙◌, sym, Some, vec_len}
use Rattle.states.specs.declared.blocks.Block.{Block}
use Rattle.states.specs.Blocks.{block_words, block_numbered, first_of, left_after, facts_left}
use Rattle.states.specs.State.{Facts, entry_fact}
use Rattle.states.specs.Spans.{together}
use Rattle.states.specs.Frames.{frame_facts, over_facts, with_span}
use Rattle.states.proofs.BlockSums.{sum-is}
use Rattle.states.proofs.Leavings.{block-left, summed-left, sum-right}
use Rattle.states.proofs.Decaying.{left-alike, left-aged}
use Rattle.states.proofs.Remembering.{block-there, outside-block, remembered-changed, left-held}
use Rattle.states.proofs.SpanSums.{all-same, room-below}
use Rattle.states.proofs.frame.Frame.leave_block.Goals as goal
use Rattle.states.proofs.frame.Frame.leave_block.Goals.{After-set}

-- what is kept for the block from now on
abbrev kept : After-set → Block
kept c = record { sum = c.sum_left.result; left = Some c.after.result }

kept-left : (c : After-set) → (kept c).left
    ≡ Some (left_after (block_numbered c.args.self.now.by_block.kept.items c.args.number).left c.args.leaving)
kept-left c =
    ap (λ o. Some o) (c.after.ensures ∙ ap (λ (b : Block). left_after b.left c.args.leaving) c.get-sum.ensures)

left-so : (c : After-set) → facts_left c.args.self.now.lo c.set.new.self.kept.items (over_facts c.args.self.now)
    ≡ with_span (first_of c.args.self.now.lo c.args.number) block_words c.args.leaving (frame_facts c.args.self.now)
left-so c =
    let frame = c.args.self.now in
    block-left frame.lo frame.by_block.kept.items c.set.new.self.kept.items (over_facts frame) c.args.number
    c.args.leaving (kept c) (kept-left c) c.set.ensures.kept

pub invariant_of-self-clause-summed : goal.invariant_of-self-clause-summed
invariant_of-self-clause-summed c =
    let frame = c.args.self.now in
    let after = (goal.at.invariant_of-self-clause-summed c).After-set in
    let first = first_of frame.lo c.args.number in
    summed-left (frame_facts frame) _ frame.lo c.args.number c.args.leaving (kept after) frame.by_block.kept.items
    c.set.new.self.kept.items frame.summed (left-so after) c.set.ensures.kept
    (λ sum is. sum-right (frame_facts frame) first c.get-sum.result.sum c.args.leaving
    (sum-is (frame_facts frame) frame.lo frame.by_block.kept.items c.args.number c.get-sum.result.sum frame.summed
    (ap (λ (b : Block). b.sum) c.get-sum.ensures))
    sum (sym c.sum_left.ensures ∙ is)
    ∙ ap (λ (f : Facts). together f first block_words) (sym (left-so after)))

pub returns-clause-facts : goal.returns-clause-facts
returns-clause-facts c = left-so (goal.at.returns-clause-facts c).After-set

pub leave-requires : goal.leave-requires
leave-requires c =
    let frame = c.args.self.now in
    block-there (vec_len frame.overlay.places) frame.by_block.room (vec_len frame.remembered.times) c.args.number
    c.requires frame.whole frame.timed

pub invariant_of-self-clause-compared : goal.invariant_of-self-clause-compared
invariant_of-self-clause-compared c =
    let frame = c.args.self.now in
    let after = (goal.at.invariant_of-self-clause-compared c).After-set in
    remembered-changed (entry_fact frame.row.now) (frame_facts frame) _ frame.lo c.args.number frame.remembered
    c.leave.new.self c.leave.ensures.changed
    (outside-block frame.lo c.args.number c.args.leaving (frame_facts frame) _ (left-so after))
    (left-held frame.lo c.args.number c.args.leaving (frame_facts frame) _ frame.remembered c.leave.new.self
    c.leave.ensures (left-so after))
    (left-alike frame.lo c.args.number c.args.leaving frame.remembered c.leave.new.self c.leave.ensures)
    (left-aged (entry_fact frame.row.now) (frame_facts frame) _ frame.lo c.args.number c.args.leaving frame.remembered
    c.leave.new.self c.leave.ensures (left-so after))
    frame.compared

pub invariant_of-self-clause-added : goal.invariant_of-self-clause-added
invariant_of-self-clause-added c =
    let frame = c.args.self.now in
    let after = (goal.at.invariant_of-self-clause-added c).After-set in
    all-same _ _ frame.lo c.leave-2.new.self (c.leave-2.ensures (frame_facts frame) frame.lo frame.added)
    (left-so after)

pub leave-requires-2 : goal.leave-requires-2
leave-requires-2 c =
    let frame = c.args.self.now in
    let low = c.requires in
    let high = frame.high in
    room-below frame.lo c.args.number frame.by_block.room (vec_len frame.overlay.places) low frame.whole frame.low
    frame.high
