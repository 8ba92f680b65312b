use Rattle.std.proofs.Common.{◌≡◌, rules, arith, pos, ◌+ℤ◌, ◌≤ℤ◌, SFits, ap, sym, ◌∙◌, to_z, of_z}
use Rattle.std.proofs.lemmas.Int.{ints, to_z-of_z}
use Rattle.std.specs.Int.{w64}
use Rattle.small_laws.proofs.Comparisons.{int_le-true}
use Rattle.module_format.specs.Contents.{Contents, label_of}
use Rattle.states.specs.Remembered.{numbered_label}
use Rattle.states.specs.Blocks.{block_words, first_of}
use Rattle.states.specs.Frames.{frame_facts}
use Rattle.states.specs.State.{entry_fact}
use Rattle.states.proofs.Claimed.{row-says, no-loop-there}
use Rattle.states.proofs.Remembering.{remembered-said}
use Rattle.states.proofs.frame.Frame.row_says.Goals as goal

pub returns : goal.returns
returns c = λ yes.
    let frame = c.args.self.now in
    let kept = frame.remembered in
    let first = c.word_of-first.result in
    let end = c.word_of-end.result in
    let next = c.past_saying.result.word in
    let fits : SFits w64 first = search rules in
    let end_fits : SFits w64 end = search rules in
    let next_fits : SFits w64 next = search rules in
    let first_is : first ≡ first_of frame.lo c.args.number =
    rw c.block_words.ensures.value at c.word_of-first.ensures in
    let last = rw (c.block_words.ensures.value, c.block_words-2.ensures.value) at c.word_of-end.ensures in
    let end_is : end ≡ first +ℤ pos block_words = omega (arith, ints, first_is, last) in
    let ends : end ≤ℤ next =
    rw (to_z-of_z w64 end end_fits, to_z-of_z w64 next next_fits) at
    (int_le-true (to_z w64 (of_z w64 end)) (to_z w64 (of_z w64 next)) yes) in
    let same = rw (to_z-of_z w64 first fits) at c.from_word-rest.ensures.same in
    let past = rw (to_z-of_z w64 first fits, to_z-of_z w64 end end_fits) at c.past_saying.ensures in
    let claim = rw (to_z-of_z w64 first fits, to_z-of_z w64 end end_fits) at c.in-Some.ensures in
    let some = kept.each c.args.number c.requires.some in
    let time = c.time_of-time.ensures in
    let early = c.if-self-time.false in
    row-says (frame_facts frame) frame.row.now c.from_word-rest.result.now c.past_saying.result.row.now
    (entry_fact c.args.row.now.entries.items) frame.lo first end next kept.times.items kept.began c.args.number
    c.in-Some.fact
    (remembered-said (entry_fact frame.row.now) (frame_facts frame) frame.lo kept frame.compared)
    some (omega (arith, time, early)) first_is end_is same past ends
    (sym c.loop_of.ensures ∙ no-loop-there c.loop_of.result (sym c.is_some.ensures ∙ c.if-is_some.false))
    (claim (label_of c.args.row.now) (ap (λ (m : Contents). numbered_label m c.args.label) frame.alike
    ∙ c.requires.label)).1
