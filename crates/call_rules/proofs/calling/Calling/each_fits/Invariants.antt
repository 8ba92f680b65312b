use Rattle.std.proofs.Common.{◌≡◌, length}
use Rattle.std.specs.List.{AllByRecursion, list_all}
use Rattle.call_rules.specs.declared.passed.Passed.{Passed}
use Rattle.call_rules.specs.Callings.{calling_of, fits, IsPassedSo}
use Rattle.call_rules.proofs.calling.Calling.each_fits.Given as goal

abbrev pub invariant-loop-first : goal.invariant-loop-first
invariant-loop-first l = record {
  passed : AllByRecursion (IsPassedSo (calling_of l.self)) l.rest;
  fits : list_all (λ (x : Passed). fits l.wanted (calling_of l.self) x.parameter) l.rest
      ≡ list_all (λ (x : Passed). fits l.wanted (calling_of l.self) x.parameter) l.all;
}

abbrev pub decreases-loop-first : goal.decreases-loop-first
decreases-loop-first l = length l.rest
