use Rattle.std.proofs.Common.{◌≡◌, rules, arith, ℤ, pos, ◌+ℤ◌, SFits, sym, ap, ◌∙◌}
use Rattle.std.proofs.lemmas.Int.{ints, to_z-of_z}
use Rattle.std.specs.Int.{w64}
use Rattle.states.specs.declared.known.WordFact.{WordFact}
use Rattle.states.specs.Below.{says}
use Rattle.states.specs.Blocks.{first_of}
use Rattle.states.specs.Frames.{frame_facts}
use Rattle.states.specs.State.{entry_fact}
use Rattle.states.proofs.Comparisons.{block-more}
use Rattle.states.proofs.frame.Frame.block_holds.Goals as goal

pub loop-i-preserved : goal.loop-i-preserved
loop-i-preserved c =
    let frame = c.args.self.now in
    let row = c.args.row.now in
    let first = first_of frame.lo c.args.number in
    let k = c.word_at-word.result in
    let fits : SFits w64 k = search rules in
    let said = rw (to_z-of_z w64 k fits) at c.fact_at.ensures.value in
    let wanted = rw (to_z-of_z w64 k fits) at c.row_fact.ensures in
    let at = rw c.block_words.ensures.value at c.word_at-word.ensures in
    let word : k ≡ first +ℤ pos c.loop-i.i = omega (arith, ints, at) in
    block-more first (frame_facts frame) (entry_fact row) c.loop-i.i c.loop-i.invariant
    (ap (λ (j : ℤ). says (frame_facts frame j) (entry_fact row j)) (sym word)
    ∙ (ap (λ (f : WordFact). says f (entry_fact row k)) (sym said)
    ∙ (ap (says c.fact_at.result) (sym wanted) ∙ (sym c.says.ensures ∙ c.if-not-says.false))))
