use Rattle.std.proofs.Common.{◌≡◌, length}
use Rattle.usage_checks.specs.InstanceRules.{are_right_ways}
use Rattle.usage_checks.proofs.instance_rules.are_right_ways.Given as goal

abbrev pub decreases-loop-end : goal.decreases-loop-end
decreases-loop-end l = length l.rest

abbrev pub invariant-loop-end : goal.invariant-loop-end
invariant-loop-end l =
    are_right_ways l.position l.name l.number l.rest ≡ are_right_ways l.position l.name l.number l.initial.rest
