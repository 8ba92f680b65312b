use Rattle.std.proofs.Common.{rules, arith, ◌≡◌, ℕ, ◌+◌, ◌*◌, ◌/◌, pos, ◌+ℤ◌, ◌<ℤ◌, ◌≤ℤ◌, ◌^◌, Some, SFits, subst, refl}
use Rattle.std.proofs.Common.{sym, ap, ◌∙◌}
use Rattle.std.proofs.lemmas.Int.{ints, to_z-of_z}
use Rattle.std.specs.Int.{w64}
use Rattle.states.specs.declared.blocks.Blocks.{Blocks}
use Rattle.states.specs.declared.span.Leaving.{Leaving}
use Rattle.states.specs.Blocks.{block_words, block_numbered, first_of, facts_left}
use Rattle.states.specs.Lookup.{facts_over}
use Rattle.states.specs.State.{Facts, entry_fact}
use Rattle.states.specs.Frames.{frame_facts, over_facts, with_alone}
use Rattle.states.proofs.FrameFacts.{facts_over-write}
use Rattle.states.proofs.BlockSums.{number-of}
use Rattle.states.proofs.Leavings.{word-settled, settled-more, some-leaving, summed-same}
use Rattle.states.proofs.Remembering.{remembered-same}
use Rattle.states.proofs.SpanSums.{all-same}
use Rattle.states.proofs.frame.Frame.settle_words.Goals as goal
use Rattle.states.proofs.frame.Frame.settle_words.Goals.{After-set}

-- the index of the word
abbrev index-of : After-set → ℕ
index-of c = c.args.number * block_words + c.loop-i.i

index-is : (c : After-set) → c.args.number * c.block_words.result + c.loop-i.i ≡ index-of c
index-is c = ap (λ (n : ℕ). c.args.number * n + c.loop-i.i) c.block_words.ensures.value

word-is : (c : After-set) → c.word_at.result ≡ c.loop-i.self.lo +ℤ pos (index-of c)
word-is c = c.word_at.ensures ∙ ap (λ (n : ℕ). c.loop-i.self.lo +ℤ pos n) (index-is c)

-- how its block was left
left-here : (c : After-set) → (leaving : Leaving)
    × ((block_numbered c.loop-i.self.by_block.kept.items (index-of c / block_words)).left ≡ Some leaving)
left-here c =
    let some = some-leaving _ c.requires.some in
    let size = c.block_words-i-end.ensures.value in
    let below = c.loop-i-test.true in (
      some.0,
      ap (λ (b : Blocks). (block_numbered b.kept.items (index-of c / block_words)).left) c.loop-i.invariant.blocks
          ∙ (ap (λ (n : ℕ). (block_numbered c.args.self.now.by_block.kept.items n).left)
          (number-of (index-of c) c.args.number block_words (omega arith) (omega (arith, size, below)))
          ∙ some.1),
    )

-- what was known of it
said-is : (c : After-set) → c.said.result ≡ frame_facts c.loop-i.self c.word_at.result
said-is c =
    let fits : SFits w64 c.word_at.result = search rules in
    rw (to_z-of_z w64 c.word_at.result fits) at c.said.ensures.value

abbrev new-facts : After-set → Facts
new-facts c = facts_over c.loop-i.self.lo c.loop-i.self.row.now c.set.new.self.written.items

written-is : (c : After-set) → new-facts c
    ≡ with_alone c.word_at.result c.by_itself-fact.result (over_facts c.loop-i.self)
written-is c =
    facts_over-write c.loop-i.self.lo c.word_at.result c.loop-i.self.row.now c.loop-i.self.overlay.written.items
    c.set.new.self.written.items c.by_itself-fact.result (c.args.number * c.block_words.result + c.loop-i.i)
    c.word_at.ensures c.set.ensures.facts

same-facts : (c : After-set) → facts_left c.loop-i.self.lo c.loop-i.self.by_block.kept.items (new-facts c)
    ≡ frame_facts c.loop-i.self
same-facts c =
    let left = left-here c in
    word-settled c.loop-i.self.lo c.word_at.result c.loop-i.self.by_block.kept.items (over_facts c.loop-i.self)
    (new-facts c) (index-of c) left.0 c.by_itself-fact.result c.said.result (word-is c) left.1 (said-is c)
    c.by_itself-fact.ensures (written-is c)

pub invariant_of-self-clause-inside : goal.invariant_of-self-clause-inside
invariant_of-self-clause-inside c = λ k known.
    let inside = c.loop-i.self.inside k known in
    (inside.0, subst (λ (n : ℕ). k <ℤ (c.loop-i.self.lo +ℤ pos n)) (sym c.set.ensures.room) inside.1)

pub invariant_of-self-clause-high : goal.invariant_of-self-clause-high
invariant_of-self-clause-high c =
    subst (λ (n : ℕ). (c.loop-i.self.lo +ℤ pos n) ≤ℤ pos (2 ^ 31)) (sym c.set.ensures.room) c.loop-i.self.high

pub invariant_of-self-clause-summed : goal.invariant_of-self-clause-summed
invariant_of-self-clause-summed c =
    let kept = c.loop-i.self.by_block.kept.items in
    summed-same (frame_facts c.loop-i.self) (facts_left c.loop-i.self.lo kept (new-facts c)) c.loop-i.self.lo kept kept
    c.loop-i.self.summed (same-facts c) (λ n. refl)

pub loop-i-preserved : goal.loop-i-preserved
loop-i-preserved c =
    let set = (goal.at.loop-i-preserved c).After-set in
    let left = left-here set in
    let word = word-is set in
    let same = c.loop-i.invariant.room in
    let lo = same.lo in record {
      facts = same-facts set ∙ c.loop-i.invariant.facts;
      settled = settled-more c.loop-i.self.lo (first_of c.args.self.now.lo c.args.number) c.word_at.result
          c.loop-i.self.by_block.kept.items (over_facts c.loop-i.self) (new-facts set) (frame_facts c.args.self.now)
          (index-of set) c.loop-i.i left.0 c.by_itself-fact.result c.said.result (omega (arith, ints, word, lo)) word
          left.1 (said-is set) c.by_itself-fact.ensures (written-is set) c.loop-i.invariant.facts
          c.loop-i.invariant.settled;
      blocks = c.loop-i.invariant.blocks;
      room = record { lo = lo; len = c.set.ensures.room ∙ same.len; same = same.same };
    }

pub invariant_of-self-clause-compared : goal.invariant_of-self-clause-compared
invariant_of-self-clause-compared c =
    let frame = c.loop-i.self in
    remembered-same (entry_fact frame.row.now) (frame_facts frame)
    (facts_left frame.lo frame.by_block.kept.items (new-facts c)) frame.lo frame.remembered (same-facts c)
    frame.compared

pub invariant_of-self-clause-added : goal.invariant_of-self-clause-added
invariant_of-self-clause-added c =
    all-same _ _ c.loop-i.self.lo c.loop-i.self.sums c.loop-i.self.added (same-facts c)
