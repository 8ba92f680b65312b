use Rattle.std.proofs.Common.{rules, arith, SFits, ℤ, ◌≡◌, sym, ap, ◌∙◌, pos, ◌+ℤ◌}
use Rattle.std.proofs.lemmas.Int.{ints, to_z-of_z}
use Rattle.std.specs.Int.{w64}
use Rattle.states.specs.Frames.{frame_facts}
use Rattle.states.proofs.NextWords.{next-fits}
use Rattle.states.proofs.frame.Frame.alike_from.Goals as goal

pub returns-in-Some : goal.returns-in-Some
returns-in-Some c =
    let run = c.in-Some.run' in
    let fits : SFits w64 run.end = search rules in
    let known = rw (to_z-of_z w64 c.args.word c.ranges.word, to_z-of_z w64 c.args.end c.ranges.end) at c.in-Some.ensures
    in
    rw (to_z-of_z w64 run.end fits)
    (record { alike = record { ahead = known.ahead; within = known.within; same = known.same }; fits = tt })

pub returns-in-None : goal.returns-in-None
returns-in-None c =
    let facts = frame_facts c.args.self.now in
    let some = c.requires.some in
    let near = c.requires.near in
    let fits = next-fits c.args.word c.ranges.word (omega (arith, ints, some, near)) in
    let said = rw (to_z-of_z w64 c.args.word c.ranges.word) at c.fact_at.ensures.value in
    rw (to_z-of_z w64 c.args.word c.ranges.word, to_z-of_z w64 (c.args.word +ℤ pos 1) fits)
    (record {
      alike = record {
        ahead = omega (arith, ints);
        within = omega (arith, ints, some);
        same = λ k low high.
            let same : k ≡ c.args.word = omega (arith, ints, low, high) in
            ap (λ (j : ℤ). facts j) same ∙ sym said;
      };
      fits = c.fact_at.ensures.fits;
    })
