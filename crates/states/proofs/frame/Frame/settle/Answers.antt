use Rattle.std.proofs.Common.{◌≡◌, ℤ, subst, pos, ◌+ℤ◌, ◌∙◌, None, refl, sym, ap}
use Rattle.states.specs.declared.blocks.Block.{Block}
use Rattle.states.specs.declared.blocks.Blocks.{Blocks}
use Rattle.states.specs.Blocks.{block_numbered, first_of, facts_left}
use Rattle.states.specs.State.{Facts, entry_fact}
use Rattle.states.specs.Frames.{frame_facts, over_facts}
use Rattle.states.proofs.Leavings.{block-settled, summed-same, sums-set}
use Rattle.states.proofs.Remembering.{remembered-same}
use Rattle.states.proofs.SpanSums.{all-same}
use Rattle.states.proofs.frame.Frame.settle.Goals as goal
use Rattle.states.proofs.frame.Frame.settle.Goals.{After-set}

same-facts : (c : After-set)
    → facts_left c.settle_words.new.self.lo c.set.new.self.kept.items (over_facts c.settle_words.new.self)
    ≡ frame_facts c.settle_words.new.self
same-facts c =
    let frame = c.settle_words.new.self in
    let lo = c.settle_words.ensures.room.lo in
    block-settled frame.lo frame.by_block.kept.items c.set.new.self.kept.items (over_facts frame) c.args.number
    (record { sum = c.get-sum.result.sum; left = None }) refl c.set.ensures.kept
    (λ j less.
    subst (λ (first : ℤ). over_facts frame (first_of first c.args.number +ℤ pos j)
    ≡ frame_facts frame (first_of first c.args.number +ℤ pos j)) (sym lo)
    (c.settle_words.ensures.settled j less
    ∙ ap (λ (f : Facts). f (first_of c.args.self.now.lo c.args.number +ℤ pos j)) (sym c.settle_words.ensures.facts)))

pub invariant_of-self-clause-summed : goal.invariant_of-self-clause-summed
invariant_of-self-clause-summed c =
    let frame = c.settle_words.new.self in
    summed-same (frame_facts frame) _ frame.lo frame.by_block.kept.items c.set.new.self.kept.items frame.summed
    (same-facts (goal.at.invariant_of-self-clause-summed c).After-set)
    (sums-set frame.by_block.kept.items c.set.new.self.kept.items c.args.number
    (record { sum = c.get-sum.result.sum; left = None }) c.set.ensures.kept
    (ap (λ (b : Block). b.sum) c.get-sum.ensures
    ∙ ap (λ (bs : Blocks). (block_numbered bs.kept.items c.args.number).sum) (sym c.settle_words.ensures.blocks)))

pub returns-then-is_some-clause-facts : goal.returns-then-is_some-clause-facts
returns-then-is_some-clause-facts c =
    same-facts (goal.at.returns-then-is_some-clause-facts c).After-set ∙ c.settle_words.ensures.facts

pub invariant_of-self-clause-compared : goal.invariant_of-self-clause-compared
invariant_of-self-clause-compared c =
    let frame = c.settle_words.new.self in
    remembered-same (entry_fact frame.row.now) (frame_facts frame) _ frame.lo frame.remembered
    (same-facts (goal.at.invariant_of-self-clause-compared c).After-set) frame.compared

pub invariant_of-self-clause-added : goal.invariant_of-self-clause-added
invariant_of-self-clause-added c =
    let frame = c.settle_words.new.self in
    all-same _ _ frame.lo frame.sums frame.added (same-facts (goal.at.invariant_of-self-clause-added c).After-set)
