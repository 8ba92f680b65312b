use Rattle.std.proofs.Common.{rules, arith, refl, pos, ℤ, ◌+ℤ◌, ◌≡◌, true, SFits, to_z, of_z}
use Rattle.std.proofs.lemmas.Int.{ints, to_z-of_z}
use Rattle.std.specs.Int.{w64}
use Rattle.states.specs.declared.known.WordFact.TheVariants.{Alone}
use Rattle.states.specs.Below.{says}
use Rattle.states.specs.Frames.{frame_facts}
use Rattle.states.proofs.Comparisons.{ahead-falls}
use Rattle.states.proofs.NextWords.{next-fits}
use Rattle.states.proofs.SaidWords.{word-more}
use Rattle.states.proofs.frame.Frame.past_mixed.Goals as goal

pub loop-next-preserved : goal.loop-next-preserved
loop-next-preserved c =
    let next : ℤ = to_z w64 c.loop-next.next-bits in
    let fits : SFits w64 next = search rules in
    let near = c.requires.near in
    let before = c.loop-next-test.true in
    let low = c.loop-next.invariant.low in
    let next_fits = next-fits next fits (omega (arith, ints, near, before)) in
    rw (to_z-of_z w64 (next +ℤ pos 1) next_fits)
    (record {
      low = omega (arith, ints, low);
      high = omega (arith, ints, before);
      each = word-more (λ k. says (frame_facts c.args.self.now k) (Alone c.args.wanted) ≡ true)
          (to_z w64 (of_z w64 c.args.word)) next (next +ℤ pos 1) refl c.loop-next.invariant.each
          (c.mixed_says.ensures c.if-not-mixed_says.false);
    })

pub loop-next-smaller : goal.loop-next-smaller
loop-next-smaller c =
    let next : ℤ = to_z w64 c.loop-next.next-bits in
    let fits : SFits w64 next = search rules in
    let near = c.requires.near in
    let before = c.loop-next-test.true in
    let next_fits = next-fits next fits (omega (arith, ints, near, before)) in
    rw (to_z-of_z w64 (next +ℤ pos 1) next_fits)
    (ahead-falls next (next +ℤ pos 1) (omega (arith, ints)) (omega (arith, ints, near, before)))
