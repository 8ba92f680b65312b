use Rattle.std.proofs.Common.{◌≡◌, rules, arith, ℤ, pos, ◌+ℤ◌, SFits, inl, inr}
use Rattle.std.proofs.lemmas.Int.{ints, clamps, to_z-of_z}
use Rattle.std.specs.Int.{w64}
use Rattle.states.specs.Blocks.{block_words, first_of}
use Rattle.states.specs.Frames.{frame_facts}
use Rattle.states.specs.State.{entry_fact, is_same_number}
use Rattle.states.proofs.RowFacts.{segment-apart}
use Rattle.states.proofs.SaidWords.{EntrySays, said-more, said-before, block-said, index-in}
use Rattle.states.proofs.frame.Frame.entries_say.Goals as goal

pub loop-entry-preserved : goal.loop-entry-preserved
loop-entry-preserved c =
    let frame = c.args.self.now in
    let row = c.args.row.now in
    let entry = c.in-Some.entry.now in
    let first : ℤ = c.word_of-first.result in
    let end : ℤ = c.word_of-end.result in
    let fits : SFits w64 first = search rules in
    let end_fits : SFits w64 end = search rules in
    let from_fits : SFits w64 c.max-from.result = search rules in
    let to_fits : SFits w64 c.min.result = search rules in
    let first_is : first ≡ first_of frame.lo c.args.number =
    rw c.block_words.ensures.value at c.word_of-first.ensures in
    let last = rw (c.block_words.ensures.value, c.block_words-2.ensures.value) at c.word_of-end.ensures in
    let end_is : end ≡ first +ℤ pos block_words = omega (arith, ints, first_is, last) in
    let from = c.max-from.ensures.value in
    let to = c.min.ensures.value in
    let starts = c.start_of-in-Some.ensures.value in
    let ends = c.end_of.ensures.value in
    let said = rw (to_z-of_z w64 c.max-from.result from_fits, to_z-of_z w64 c.min.result to_fits) at
    c.in_ok-left.ensures in
    let here : EntrySays (frame_facts frame) row entry first end = λ k low high begun within wanted. elim said [
      | inl by_range ↦
          let index = index-in frame.lo k c.args.number (omega (arith, ints, first_is, low))
          (omega (arith, ints, first_is, end_is, high)) in
          c.left_since-range.ensures row c.requires.known k index.0 index.1 index.2 entry.fact
          (is_same_number entry.word k) wanted by_range
      | inr each ↦
          each k (omega (arith, ints, clamps, from, starts, low, begun)) (omega (arith, ints, clamps, to, ends, high, within))
    ] in
    record {
      apart = segment-apart c.loop-entry.rest.now entry c.in-Some.later.now c.loop-entry.invariant.apart (search rules);
      so_far = rw (to_z-of_z w64 first fits, to_z-of_z w64 end end_fits)
          (said-more (frame_facts frame) row c.loop-entry.rest.now entry c.in-Some.later.now first end (search rules)
          here (rw (to_z-of_z w64 first fits, to_z-of_z w64 end end_fits) at c.loop-entry.invariant.so_far));
    }

pub returns-then-end-start_of : goal.returns-then-end-start_of
returns-then-end-start_of c =
    let frame = c.args.self.now in
    let row = c.args.row.now in
    let first : ℤ = c.word_of-first.result in
    let end : ℤ = c.word_of-end.result in
    let fits : SFits w64 first = search rules in
    let end_fits : SFits w64 end = search rules in
    let first_is : first ≡ first_of frame.lo c.args.number =
    rw c.block_words.ensures.value at c.word_of-first.ensures in
    let last = rw (c.block_words.ensures.value, c.block_words-2.ensures.value) at c.word_of-end.ensures in
    let end_is : end ≡ first +ℤ pos block_words = omega (arith, ints, first_is, last) in
    let starts = c.start_of.ensures.value in
    let ends = c.if-end-start_of.true in
    block-said (frame_facts frame) (entry_fact row) frame.lo first end c.args.number first_is end_is
    (said-before (frame_facts frame) row c.loop-entry.rest.now c.in-Some.entry.now c.in-Some.later.now first end
    c.loop-entry.invariant.apart (search rules) (omega (arith, ints, starts, ends))
    (rw (to_z-of_z w64 first fits, to_z-of_z w64 end end_fits) at c.loop-entry.invariant.so_far))

pub part_says-requires : goal.part_says-requires
part_says-requires c =
    let near = c.end_of.ensures.near in
    let bound = c.min.ensures.self_bound in
    let fits : SFits w64 c.min.result = search rules in
    rw (to_z-of_z w64 c.min.result fits) (omega (arith, ints, near, bound))
