use Rattle.std.proofs.Common.{rules, ◌∙◌, sym}
use Rattle.call_rules.specs.Callings.{are_passed_other_ends}
use Rattle.call_rules.proofs.Touching.{two_more}
use Rattle.call_rules.proofs.given_ends.all_give_other_ends.Goals as goal

pub loop-first-preserved : goal.loop-first-preserved
loop-first-preserved c =
    two_more are_passed_other_ends c.in-Some.first.now c.loop-first.rest.now
    c.in-Some.others.now _ (search rules) (sym c.gives_other_ends.ensures ∙ c.if-not-gives_other_ends.false)
    c.loop-first.invariant
