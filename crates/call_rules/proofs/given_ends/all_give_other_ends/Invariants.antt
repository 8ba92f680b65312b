use Rattle.std.proofs.Common.{◌≡◌, length}
use Rattle.call_rules.specs.CallRules.{each_two}
use Rattle.call_rules.specs.Callings.{are_passed_other_ends}
use Rattle.call_rules.proofs.given_ends.all_give_other_ends.Given as goal

abbrev pub invariant-loop-first : goal.invariant-loop-first
invariant-loop-first l = each_two are_passed_other_ends l.rest ≡ each_two are_passed_other_ends l.all

abbrev pub decreases-loop-first : goal.decreases-loop-first
decreases-loop-first l = length l.rest
