use Rattle.std.proofs.Common.{rules, arith, ◌≡◌, ℕ, ℤ, false, pos, ◌+ℤ◌, SFits, sym, ap, ◌∙◌}
use Rattle.std.proofs.lemmas.Int.{ints, to_z-of_z}
use Rattle.std.specs.Int.{w64}
use borrow.Author.Count.{below_more}
use Rattle.states.specs.declared.known.WordFact.{WordFact}
use Rattle.states.specs.Blocks.{first_of, is_number}
use Rattle.states.specs.Frames.{frame_facts}
use Rattle.states.specs.State.{by_itself}
use Rattle.states.proofs.frame.Frame.has_number.Goals as goal

pub loop-i-preserved : goal.loop-i-preserved
loop-i-preserved c =
    let frame = c.args.self.now in
    let first = first_of frame.lo c.args.number in
    let fits : SFits w64 c.word_at.result = search rules in
    let said = rw (to_z-of_z w64 c.word_at.result fits) at c.fact_at.ensures.value in
    let at = rw c.block_words.ensures.value at c.word_at.ensures in
    let word : first +ℤ pos c.loop-i.i ≡ c.word_at.result = omega (arith, ints, at) in
    below_more (λ (j : ℕ). is_number (by_itself (frame_facts frame (first +ℤ pos j))) ≡ false) c.loop-i.i
    c.loop-i.invariant
    (ap (λ (z : ℤ). is_number (by_itself (frame_facts frame z))) word
    ∙ (ap (λ (f : WordFact). is_number (by_itself f)) (sym said)
    ∙ (ap is_number (sym c.by_itself-fact.ensures) ∙ (sym c.is_number.ensures ∙ c.if-is_number.false))))
