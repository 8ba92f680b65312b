use Rattle.std.proofs.Common.{◌≡◌, true, take}
use Rattle.std.specs.List.{list_all}
use Rattle.call_rules.specs.Callings.{are_passed_other_ends}
use Rattle.call_rules.proofs.given_ends.gives_other_ends.Given as goal

abbrev pub invariant-loop-other : goal.invariant-loop-other
invariant-loop-other l = list_all (are_passed_other_ends l.one) (take l.other-index l.others) ≡ true
