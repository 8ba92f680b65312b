use Rattle.std.proofs.Common.{arith, ◌∙◌, ◌/◌, length}
use Rattle.std.proofs.lemmas.Int.{ints}
use Rattle.states.proofs.RowFacts.{row-back, row-front}
use Rattle.states.proofs.row.entry_of.Goals as goal

pub loop-rest-preserved-then-start_of-word : goal.loop-rest-preserved-then-start_of-word
loop-rest-preserved-then-start_of-word c =
    let h = row-back c.loop-rest.rest.now c.split_at.result.1.now
    (length c.loop-rest.rest.now / 2) _ c.start_of.result _
    c.loop-rest.invariant.0 c.split_at.ensures.back (omega arith) c.start_of.ensures.value (grind (arith, ints)) in
    (h.0, h.1 ∙ c.loop-rest.invariant.1)

pub loop-rest-preserved : goal.loop-rest-preserved
loop-rest-preserved c =
    let h = row-front c.loop-rest.rest.now c.split_at.result.0.now c.split_at.result.1.now
    (length c.loop-rest.rest.now / 2) _ c.start_of.result _
    c.loop-rest.invariant.0 c.split_at.ensures.front c.split_at.ensures.back (omega arith) c.start_of.ensures.value
    (grind (arith, ints)) in
    (h.0, h.1 ∙ c.loop-rest.invariant.1)
