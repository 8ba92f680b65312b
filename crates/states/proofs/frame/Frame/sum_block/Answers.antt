use Rattle.std.proofs.Common.{◌≡◌, ℕ, ap, refl, ◌∙◌, sym, subst, Some}
use Rattle.std.proofs.lemmas.Int.{to_z-of_z}
use Rattle.std.specs.Int.{w32}
use Rattle.states.specs.declared.blocks.Block.{Block}
use Rattle.states.specs.State.{Facts, entry_fact}
use Rattle.states.specs.Blocks.{block_numbered, AreSummed, facts_left}
use Rattle.states.specs.Frames.{frame_facts, over_facts}
use Rattle.states.specs.Spans.{together}
use Rattle.states.proofs.BlockSums.{summed-more}
use Rattle.states.proofs.Leavings.{left-same, lefts-set}
use Rattle.states.proofs.Remembering.{remembered-same}
use Rattle.states.proofs.SpanSums.{all-same}
use Rattle.states.proofs.frame.Frame.sum_block.Goals as goal
use Rattle.states.proofs.frame.Frame.sum_block.Goals.{After-set}

same-left : (c : After-set) → (n : ℕ)
    → (block_numbered c.set.new.self.kept.items n).left ≡ (block_numbered c.args.self.now.by_block.kept.items n).left
same-left c =
    lefts-set c.args.self.now.by_block.kept.items c.set.new.self.kept.items c.args.number
    (record { sum = Some c.together-all.result; left = c.get-left.result.left }) c.set.ensures.kept
    (ap (λ (b : Block). b.left) c.get-left.ensures)

same-facts : (c : After-set)
    → facts_left c.args.self.now.lo c.set.new.self.kept.items (over_facts c.args.self.now)
    ≡ frame_facts c.args.self.now
same-facts c =
    let frame = c.args.self.now in
    left-same frame.lo frame.by_block.kept.items c.set.new.self.kept.items (over_facts frame) (same-left c)

pub invariant_of-self-clause-summed : goal.invariant_of-self-clause-summed
invariant_of-self-clause-summed c =
    let frame = c.args.self.now in
    let size_is = c.block_words.ensures.value in
    subst (λ (f : Facts). AreSummed f frame.lo c.set.new.self.kept.items) (sym (same-facts c))
    (summed-more (frame_facts frame) frame.lo c.args.word c.args.number c.together-all.result
    (record { sum = Some c.together-all.result; left = c.get-left.result.left }) frame.by_block.kept.items
    c.set.new.self.kept.items frame.summed refl (sym c.requires.begins)
    ((rw (to_z-of_z w32 c.args.word c.ranges.word) at c.together-all.ensures)
    ∙ ap (together (frame_facts frame) c.args.word) size_is)
    c.set.ensures.kept)

pub returns-then-is_none-clause-facts : goal.returns-then-is_none-clause-facts
returns-then-is_none-clause-facts c =
    same-facts (goal.at.returns-then-is_none-clause-facts c).After-set

pub invariant_of-self-clause-compared : goal.invariant_of-self-clause-compared
invariant_of-self-clause-compared c =
    let frame = c.args.self.now in
    remembered-same (entry_fact frame.row.now) (frame_facts frame) _ frame.lo frame.remembered (same-facts c)
    frame.compared

pub invariant_of-self-clause-added : goal.invariant_of-self-clause-added
invariant_of-self-clause-added c =
    let frame = c.args.self.now in
    all-same _ _ frame.lo frame.sums frame.added (same-facts c)
