use Rattle.std.proofs.Common.{sym, subst, length, ℕ}
use Rattle.plain_machine.specs.Plain.{defined, all_memory}
use Rattle.plain_machine.specs.Linked.{linked, CanPush}
use Rattle.plain_machine.specs.Waiting.{ReadyMemory, CanPushBehind}
use Rattle.plain_machine.proofs.Waiting.{can_push}
use Rattle.plain_machine.proofs.workspaces.Workspaces.push.Goals as goal

pub push_back-requires-clause-push : goal.push_back-requires-clause-push
push_back-requires-clause-push c =
    let can = subst (λ (r : ReadyMemory). CanPushBehind (length r.memory) r.ready c.args.workspace)
    (sym c.self.view_is) c.requires in
    subst (λ (p : ℕ). CanPush (defined c.self.inside.store) (all_memory (length c.self.inside.store))
    (linked (defined c.self.inside.store) c.self.inside.queue.front c.self.inside.queue.length) p) (sym c.from.ensures)
    (can_push c.self.inside.store (linked (defined c.self.inside.store) c.self.inside.queue.front
    c.self.inside.queue.length) c.args.workspace c.ranges.workspace.fits can)
