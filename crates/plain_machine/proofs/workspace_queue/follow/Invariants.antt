use Rattle.std.proofs.Common.{◌≡◌}
use Rattle.plain_machine.specs.Linked.{follow}
use Rattle.plain_machine.proofs.workspace_queue.follow.Given as goal

-- n links are followed
abbrev pub invariant-loop-followed : goal.invariant-loop-followed
invariant-loop-followed g l = l.reached ≡ follow (g.S.LoadStore.cells l.store) l.process l._followed
