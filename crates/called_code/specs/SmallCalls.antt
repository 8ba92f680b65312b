-- A small program to which the laws apply: main has an instance of the procedure before it.
use Rattle.std.specs.List.{AllByRecursion}
use Rattle.usage_checks.specs.ItemRules.{BreaksNoRule}
use Rattle.code_generator.specs.SmallCode.{calls}
use Rattle.called_code.specs.CalledCode.{ItemHasNoPar, IsCalled}

-- It breaks no rule, has neither a PAR nor an ALT, and both its procedures are called. What its code is stands in
-- SmallCode.
pub record LawsApply : Type 0 where
  pub unbroken : BreaksNoRule calls
  pub without_par : AllByRecursion ItemHasNoPar calls
  pub main : IsCalled calls 1
  pub called : IsCalled calls 0
