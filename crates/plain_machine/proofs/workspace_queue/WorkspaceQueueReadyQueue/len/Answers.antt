use Rattle.std.proofs.Common.{sym}
use Rattle.plain_machine.proofs.Linking.{length-linked}
use Rattle.plain_machine.proofs.workspace_queue.WorkspaceQueueReadyQueue.len.Goals as goal

pub returns : goal.returns
returns g c = λ s. sym (length-linked (g.S.LoadStore.cells s) c.args.self.now.front c.args.self.now.length)
