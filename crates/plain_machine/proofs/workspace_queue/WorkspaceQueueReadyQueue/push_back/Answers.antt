use Rattle.std.proofs.Common.{arith}
use Rattle.plain_machine.proofs.Counting.{size_fits}
use Rattle.plain_machine.proofs.Queueing.{back_held, pushed_behind}
use Rattle.plain_machine.proofs.workspace_queue.WorkspaceQueueReadyQueue.push_back.Goals as goal

pub set_next-requires : goal.set_next-requires
set_next-requires g c = back_held _ _ _ _ c.args.self.now.length c.if-self-eq0.false c.requires.intact

pub overflow_add-self : goal.overflow_add-self
overflow_add-self g c = omega (arith, size_fits _ _ _ _ c.args.self.now.length c.requires.intact)

pub returns-else-self-eq0-clause-waiting : goal.returns-else-self-eq0-clause-waiting
returns-else-self-eq0-clause-waiting g c =
    (pushed_behind _ _ _ _ c.args.self.now.front c.args.self.now.back c.args.self.now.length c.args.process
    c.if-self-eq0.false c.requires.intact c.requires.push c.set_next.ensures.memory c.set_next.ensures.holding).list

pub returns-else-self-eq0-clause-intact : goal.returns-else-self-eq0-clause-intact
returns-else-self-eq0-clause-intact g c =
    (pushed_behind _ _ _ _ c.args.self.now.front c.args.self.now.back c.args.self.now.length c.args.process
    c.if-self-eq0.false c.requires.intact c.requires.push c.set_next.ensures.memory c.set_next.ensures.holding).intact

pub returns-else-self-eq0-clause-memory : goal.returns-else-self-eq0-clause-memory
returns-else-self-eq0-clause-memory g c =
    (pushed_behind _ _ _ _ c.args.self.now.front c.args.self.now.back c.args.self.now.length c.args.process
    c.if-self-eq0.false c.requires.intact c.requires.push c.set_next.ensures.memory c.set_next.ensures.holding).changes
