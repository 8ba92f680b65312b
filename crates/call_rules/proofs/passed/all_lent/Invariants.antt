use Rattle.std.proofs.Common.{◌≡◌, map, take}
use Rattle.call_rules.specs.declared.passed.Passed.{Passed}
use Rattle.call_rules.proofs.passed.all_lent.Given as goal

abbrev pub invariant-loop-passed : goal.invariant-loop-passed
invariant-loop-passed l = l.lent.items ≡ map (λ (x : Passed). x.lent) (take l.passed-index l.all)
