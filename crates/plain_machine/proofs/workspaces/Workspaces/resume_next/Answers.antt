use Rattle.std.proofs.Common.{sym, subst, ◌∙◌, ap, length}
use Rattle.plain_machine.specs.Plain.{defined}
use Rattle.plain_machine.specs.Waiting.{ReadyMemory, AllCanResume, picked, resumed_at}
use Rattle.plain_machine.specs.Linked.{linked}
use Rattle.plain_machine.proofs.Waiting.{resumes_there}
use Rattle.plain_machine.proofs.workspaces.Workspaces.resume_next.Goals as goal

pub returns-clause-registers : goal.returns-clause-registers
returns-clause-registers c =
    let can = subst (λ (r : ReadyMemory). AllCanResume (length r.memory) r.ready) (sym c.self.view_is)
    c.requires.words in
    let memory = defined c.self.inside.store in
    c.resume.ensures
    ∙ (resumes_there memory (defined c.take-workspace.new.store)
    (linked memory c.self.inside.queue.front c.self.inside.queue.length) c.args.code_start c.args.pick
    c.take-workspace.result c.args.registers.now c.take-workspace.ensures.process can c.take-workspace.ensures.memory
    ∙ ap (λ (r : ReadyMemory). resumed_at c.args.code_start r.memory (picked c.args.pick r.ready) c.args.registers.now)
    c.self.view_is)
