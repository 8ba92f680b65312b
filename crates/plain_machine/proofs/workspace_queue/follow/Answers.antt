use Rattle.std.proofs.Common.{◌≡◌, ◌+◌, suc, ap, ◌∙◌, sym, arith}
use Rattle.plain_machine.specs.Linked.{next_of, follow}
use Rattle.plain_machine.proofs.Linking.{follow-next}
use Rattle.plain_machine.proofs.workspace_queue.follow.Goals as goal

pub loop-followed-preserved : goal.loop-followed-preserved
loop-followed-preserved g c =
    let cells = g.S.LoadStore.cells c.args.store.now in
    let one : suc c.loop-followed._followed ≡ c.loop-followed._followed + 1 = omega arith in
    c.next-reached.ensures ∙ (ap (next_of cells) c.loop-followed.invariant
    ∙ (sym (follow-next cells c.args.process c.loop-followed._followed) ∙ ap (follow cells c.args.process) one))
