use Rattle.certificate.specs.BranchRuns.{AreVisits}
use Rattle.certificate.proofs.branch_runs.visits_of.Given as goal

abbrev pub invariant-loop-branch : goal.invariant-loop-branch
invariant-loop-branch l = AreVisits l.branch l.visits.items
