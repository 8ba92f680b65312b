use Rattle.std.proofs.Common.{◌≡◌, rules, arith, ℤ, pos, ◌+ℤ◌, SFits, subst}
use Rattle.std.proofs.lemmas.Int.{ints, to_z-of_z}
use Rattle.std.specs.Int.{w64}
use Rattle.states.specs.Blocks.{block_words, first_of}
use Rattle.states.specs.Implied.{AllImplied}
use Rattle.states.specs.State.{entry_fact}
use Rattle.states.proofs.frame.Frame.fact_says.Goals as goal

pub returns : goal.returns
returns c = λ yes.
    let frame = c.args.self.now in
    let wanted = entry_fact c.args.row.now in
    let first = c.word_of-first.result in
    let end = c.word_of-end.result in
    let fits : SFits w64 first = search rules in
    let end_fits : SFits w64 end = search rules in
    let all = rw (to_z-of_z w64 first fits, to_z-of_z w64 end end_fits) at (c.all_implied.ensures yes) in
    let first_is : first ≡ first_of frame.lo c.args.number =
    rw c.block_words.ensures.value at c.word_of-first.ensures in
    let last = rw (c.block_words.ensures.value, c.block_words-2.ensures.value) at c.word_of-end.ensures in
    let end_is : end ≡ first +ℤ pos block_words = omega (arith, ints, first_is, last) in
    subst (λ (w : ℤ). AllImplied wanted w (w +ℤ pos block_words) c.args.fact) first_is
    (subst (λ (e : ℤ). AllImplied wanted first e c.args.fact) end_is all)
