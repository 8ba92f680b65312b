use Rattle.std.proofs.Common.{drop}
use Rattle.rulings.specs.Places.{site_of}
use Rattle.facts.proofs.GuardLabels.{SoFar}
use Rattle.facts.proofs.following.labels_of_guards.Given as goal

abbrev pub invariant-loop-guard : goal.invariant-loop-guard
invariant-loop-guard l = SoFar (site_of l.place) l.guards (drop l.guard-index l.guards) l.labels.items
