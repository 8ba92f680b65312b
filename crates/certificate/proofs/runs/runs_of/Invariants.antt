use Rattle.std.specs.Ordering.{int_cmp}
use Rattle.std.specs.BTreeMap.{get}
use Rattle.certificate.proofs.RunLaws.{AreRunsFrom}
use Rattle.certificate.proofs.runs.runs_of.Given as goal

-- the ends from this one on have their runs
abbrev pub invariant-loop-index : goal.invariant-loop-index
invariant-loop-index l = AreRunsFrom (get int_cmp l.lengths) l.ends l.runs.items l.index
