use Rattle.std.proofs.Common.{arith, sym, ◌∙◌}
use Rattle.std.proofs.lemmas.Int.{ints}
use Rattle.states.specs.Frames.{frame_facts}
use Rattle.states.proofs.Comparisons.{words_say-fails, words_say-more}
use Rattle.states.proofs.frame.Frame.entry_holds.Goals as goal

pub returns-then-not-says : goal.returns-then-not-says
returns-then-not-says c =
    sym (words_say-fails (frame_facts c.args.self.now) c.args.entry.now _ c.args.entry.now.span c.loop-i.i
    c.fact_at.result c.said_of.result (omega (arith, ints)) (let low = c.loop-i-test.true in omega (arith, low))
    c.fact_at.ensures.value c.said_of.ensures (sym c.says.ensures ∙ c.if-not-says.true))

pub loop-i-preserved : goal.loop-i-preserved
loop-i-preserved c =
    words_say-more (frame_facts c.args.self.now) c.args.entry.now _ c.loop-i.i _ c.fact_at.result c.said_of.result
    (omega (arith, ints)) (omega arith) c.fact_at.ensures.value c.said_of.ensures
    (sym c.says.ensures ∙ c.if-not-says.false) c.loop-i.invariant
