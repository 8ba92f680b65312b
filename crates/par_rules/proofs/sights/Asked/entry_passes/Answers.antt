use Rattle.std.proofs.Common.{arith, sym, ◌∙◌}
use Rattle.std.proofs.lemmas.Int.{ints}
use Rattle.par_rules.specs.Sights.{passes}
use Rattle.par_rules.proofs.WordTests.{words_pass-fails, words_pass-more}
use Rattle.par_rules.proofs.sights.Asked.entry_passes.Goals as goal

pub returns-then-not-passes : goal.returns-then-not-passes
returns-then-not-passes c =
    sym (words_pass-fails (passes c.args.self.now) c.args.entry.now _ c.args.entry.now.span c.loop-i.i
    c.said_of.result (omega (arith, ints)) (let low = c.loop-i-test.true in omega (arith, low))
    c.said_of.ensures (sym c.passes.ensures ∙ c.if-not-passes.true))

pub loop-i-preserved : goal.loop-i-preserved
loop-i-preserved c =
    words_pass-more (passes c.args.self.now) c.args.entry.now _ c.loop-i.i _ c.said_of.result
    (omega (arith, ints)) (omega arith) c.said_of.ensures
    (sym c.passes.ensures ∙ c.if-not-passes.false) c.loop-i.invariant
