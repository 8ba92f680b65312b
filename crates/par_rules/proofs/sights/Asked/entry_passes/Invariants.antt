use Rattle.std.proofs.Common.{◌≡◌, true}
use Rattle.par_rules.specs.Comparisons.{words_pass}
use Rattle.par_rules.specs.Sights.{passes}
use Rattle.par_rules.proofs.sights.Asked.entry_passes.Given as goal

abbrev pub invariant-loop-i : goal.invariant-loop-i
invariant-loop-i l = words_pass (passes l.self) l.entry l.i ≡ true
