use Rattle.std.proofs.Common.{rules, arith, ◌≡◌, ℕ, ◌/◌, ◌-ℤ◌, pos, ◌+ℤ◌, nat_abs}
use Rattle.std.proofs.Common.{◌<ℤ◌, ◌≤ℤ◌, ◌^◌, subst, sym, ap, ◌∙◌, refl}
use Rattle.std.proofs.lemmas.Int.{ints}
use Rattle.states.specs.Blocks.{block_words, facts_left}
use Rattle.states.specs.Frames.{frame_facts, over_facts, with_alone}
use Rattle.states.specs.Lookup.{facts_over}
use Rattle.states.specs.State.{entry_fact}
use Rattle.states.proofs.FrameFacts.{facts_over-write, distance}
use Rattle.states.proofs.BlockSums.{summed-write}
use Rattle.states.proofs.Leavings.{word-placed}
use Rattle.states.proofs.Decaying.{placed-alike, placed-aged}
use Rattle.states.proofs.Remembering.{outside-word, remembered-changed, placed-held}
use Rattle.states.proofs.SpanSums.{all-same, all-but}
use Rattle.states.proofs.frame.Frame.place.Goals as goal
use Rattle.states.proofs.frame.Frame.place.Goals.{After-forget}

word-is : (c : After-forget) → c.args.word ≡ c.settle.new.self.lo +ℤ pos c.abs_diff-index.result
word-is c =
    let apart : c.abs_diff-index.result ≡ nat_abs (c.args.word -ℤ c.args.self.now.lo) = search (rules, arith, ints) in
    let lo = c.settle.ensures.room.lo in
    rw lo (distance c.args.word c.args.self.now.lo c.abs_diff-index.result c.requires.low apart)

placed : (c : After-forget) → facts_left c.settle.new.self.lo c.forget.new.self.kept.items
    (facts_over c.settle.new.self.lo c.settle.new.self.row.now c.set.new.self.written.items)
    ≡ with_alone c.args.word c.args.fact (frame_facts c.settle.new.self)
placed c =
    let frame = c.settle.new.self in
    let index = c.abs_diff-index.result in
    word-placed frame.lo c.args.word frame.by_block.kept.items c.forget.new.self.kept.items (over_facts frame)
    (facts_over frame.lo frame.row.now c.set.new.self.written.items) index _ c.args.fact (word-is c)
    (ap (λ (n : ℕ). index / n) c.block_words.ensures.value) c.settle.ensures.none
    (facts_over-write frame.lo c.args.word frame.row.now frame.overlay.written.items c.set.new.self.written.items
    c.args.fact index (word-is c) c.set.ensures.facts)
    c.forget.ensures.kept

pub invariant_of-self-clause-summed : goal.invariant_of-self-clause-summed
invariant_of-self-clause-summed c =
    let frame = c.settle.new.self in
    let after = (goal.at.invariant_of-self-clause-summed c).After-forget in
    let index = c.abs_diff-index.result in
    summed-write (frame_facts frame) _ frame.lo c.args.word index _ c.args.fact frame.by_block.kept.items
    c.forget.new.self.kept.items frame.summed (placed after) (word-is after)
    (ap (λ (n : ℕ). index / n) c.block_words.ensures.value) c.forget.ensures.kept

pub invariant_of-self-clause-inside : goal.invariant_of-self-clause-inside
invariant_of-self-clause-inside c = λ k known.
    let frame = c.settle.new.self in
    let inside = frame.inside k known in
    (inside.0, subst (λ (n : ℕ). k <ℤ (frame.lo +ℤ pos n)) (sym c.set.ensures.room) inside.1)

pub invariant_of-self-clause-high : goal.invariant_of-self-clause-high
invariant_of-self-clause-high c =
    let frame = c.settle.new.self in
    subst (λ (n : ℕ). (frame.lo +ℤ pos n) ≤ℤ pos (2 ^ 31)) (sym c.set.ensures.room) frame.high

pub returns-clause-facts : goal.returns-clause-facts
returns-clause-facts c =
    placed (goal.at.returns-clause-facts c).After-forget
    ∙ ap (with_alone c.args.word c.args.fact) c.settle.ensures.facts

pub place-requires : goal.place-requires
place-requires c =
    let index = c.abs_diff-index.result in
    let after = (goal.at.place-requires c).After-forget in
    let word = word-is after in
    let high = c.requires.high in
    let same = c.settle.ensures.room in
    let lo = same.lo in
    let len = same.len in
    let each = c.settle.new.self.each_timed in
    omega (arith, ints, word, high, lo, len, each)

pub invariant_of-self-clause-compared : goal.invariant_of-self-clause-compared
invariant_of-self-clause-compared c =
    let frame = c.settle.new.self in
    let index = c.abs_diff-index.result in
    let after = (goal.at.invariant_of-self-clause-compared c).After-forget in
    let far = outside-word frame.lo c.args.word index (index / block_words) c.args.fact (frame_facts frame) _
    (placed after) (word-is after) refl in
    remembered-changed (entry_fact frame.row.now) (frame_facts frame) _ frame.lo (index / block_words) frame.remembered
    c.place.new.self c.place.ensures.changed far
    (placed-held frame.lo index (index / block_words) (frame_facts frame) _ frame.remembered c.place.new.self
    c.place.ensures far)
    (placed-alike frame.lo index (index / block_words) frame.remembered c.place.new.self c.place.ensures)
    (placed-aged (entry_fact frame.row.now) (frame_facts frame) _ frame.lo c.args.word index (index / block_words)
    c.args.fact frame.remembered c.place.new.self c.place.ensures (placed after) (word-is after))
    frame.compared

pub invariant_of-self-clause-added : goal.invariant_of-self-clause-added
invariant_of-self-clause-added c =
    let frame = c.settle.new.self in
    let after = (goal.at.invariant_of-self-clause-added c).After-forget in
    let index = c.abs_diff-index.result in
    all-same _ _ frame.lo c.write.new.self
    (c.write.ensures (frame_facts frame) (with_alone c.args.word c.args.fact (frame_facts frame)) frame.lo frame.added
    (λ j other. all-but (frame_facts frame) frame.lo c.args.word index j c.args.fact (word-is after) other))
    (placed after)
