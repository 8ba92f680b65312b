use Rattle.std.proofs.Common.{◌≡◌, true, rules, arith, refl, ℤ, pos, ◌+ℤ◌, SFits, to_z, of_z, sym, ap, ◌∙◌}
use Rattle.std.proofs.lemmas.Int.{ints, to_z-of_z}
use Rattle.std.specs.Int.{w64}
use Rattle.states.specs.declared.known.WordFact.{WordFact}
use Rattle.states.specs.Below.{says}
use Rattle.states.specs.Frames.{frame_facts}
use Rattle.states.specs.State.{is_same_number, said_of}
use Rattle.states.proofs.SaidWords.{word-more}
use Rattle.states.proofs.frame.Frame.each_says.Goals as goal

pub loop-word-preserved : goal.loop-word-preserved
loop-word-preserved c =
    let facts = frame_facts c.args.self.now in
    let entry = c.args.entry.now in
    let k : ℤ = to_z w64 c.loop-word.word-bits in
    let next_fits : SFits w64 (k +ℤ pos 1) = search (rules, arith, ints) in
    let said : says (facts k) (said_of entry.fact (is_same_number entry.word k)) ≡ true =
    ap (λ (f : WordFact). says f (said_of entry.fact (is_same_number entry.word k))) (sym c.fact_at.ensures.value)
    ∙ (ap (says c.fact_at.result) (sym c.entry_said.ensures) ∙ (sym c.says.ensures ∙ c.if-not-says.false)) in
    rw (to_z-of_z w64 (k +ℤ pos 1) next_fits)
    (word-more (λ j. says (facts j) (said_of entry.fact (is_same_number entry.word j)) ≡ true)
    (to_z w64 (of_z w64 c.args.first)) k (k +ℤ pos 1) refl c.loop-word.invariant said)

pub returns : goal.returns
returns c = λ yes k low high.
    c.loop-word.invariant k (rw (to_z-of_z w64 c.args.first c.ranges.first) low)
    (omega (arith, ints, high, c.loop-word-test.false))
