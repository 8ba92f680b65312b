use Rattle.std.proofs.Common.{rules, arith, ◌∙◌}
use Rattle.std.proofs.lemmas.Int.{ints}
use Rattle.states.proofs.RowFacts.{segment-behind, segment-apart}
use Rattle.states.proofs.row.without_ended.Goals as goal

pub loop-entry-preserved : goal.loop-entry-preserved
loop-entry-preserved c =
    let invariant = c.loop-entry.invariant in (
      segment-apart c.loop-entry.rest.now c.in-Some.entry.now c.in-Some.later.now invariant.0 (search rules),
      λ k l. segment-behind c.loop-entry.rest.now c.in-Some.entry.now c.in-Some.later.now c.end_of.result k
          (search rules) c.end_of.ensures.value (omega (arith, ints)) ∙ invariant.1 k l,
    )
