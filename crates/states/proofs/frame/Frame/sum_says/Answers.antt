use Rattle.std.proofs.Common.{◌≡◌, rules, ℤ, SFits, ap, ◌∙◌}
use Rattle.std.proofs.lemmas.Int.{to_z-of_z}
use Rattle.std.specs.Int.{w32, w64}
use Rattle.std.proofs.lemmas.Bool.{not-false}
use Rattle.states.specs.Blocks.{block_words, first_of}
use Rattle.states.specs.Frames.{frame_facts}
use Rattle.states.specs.Spans.{together}
use Rattle.states.specs.State.{entry_fact}
use Rattle.states.proofs.Hulls.{sum-says}
use Rattle.states.proofs.frame.Frame.sum_says.Goals as goal

pub returns : goal.returns
returns c = λ yes.
    let frame = c.args.self.now in
    let facts = frame_facts frame in
    let first = c.word_of-first.result in
    let fits : SFits w64 first = search rules in
    let summed = rw (to_z-of_z w64 first fits) at c.in-Some.ensures in
    let sum = c.in-Some.sum in
    let lo_fits : SFits w32 sum.lo = search rules in
    let hi_fits : SFits w32 sum.hi = search rules in
    let all = rw (to_z-of_z w32 sum.lo lo_fits, to_z-of_z w32 sum.hi hi_fits) at (c.fact_says.ensures yes) in
    let first_is : first ≡ first_of frame.lo c.args.number =
    rw c.block_words.ensures.value at c.word_of-first.ensures in
    sum-says facts (entry_fact c.args.row.now) (first_of frame.lo c.args.number) sum
    (summed ∙ ap (λ (w : ℤ). together facts w block_words) first_is)
    (not-false sum.are_numbers c.if-not-sum.false) all
