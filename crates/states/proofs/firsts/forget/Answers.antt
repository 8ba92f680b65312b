use Rattle.std.proofs.Common.{arith, inl, inr, length}
use Rattle.std.proofs.lemmas.Bool.{cases_lt}
use Rattle.std.proofs.lemmas.List.{get_or_past}
use Rattle.states.proofs.firsts.forget.Goals as goal

pub returns-clause-none : goal.returns-clause-none
returns-clause-none c = λ n. elim (cases_lt n (length c.loop-i.times.items)) [
  | inl l ↦ c.loop-i.invariant.none n (omega (arith, l))
  | inr h ↦ get_or_past c.loop-i.times.items n 0 h
]
