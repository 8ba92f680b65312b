use Rattle.plain_machine.proofs.workspace_queue.WorkspaceQueue.new.Goals as goal

pub returns-clause-intact : goal.returns-clause-intact
returns-clause-intact c = λ m h. record { links = tt; apart = tt; ends = tt }
