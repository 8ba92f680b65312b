use Rattle.std.proofs.Common.{sym, subst, ◌∙◌, ap}
use Rattle.machine_state.specs.Memory.{Memory}
use Rattle.process_queue.specs.Keeping.{AgreesOnKept}
use Rattle.plain_machine.specs.Linked.{keeps_link}
use Rattle.plain_machine.specs.Plain.{defined}
use Rattle.plain_machine.specs.PlainByte.{byte_step}
use Rattle.plain_machine.specs.PlainStep.{Stepped}
use Rattle.plain_machine.specs.Waiting.{ReadyMemory}
use Rattle.plain_machine.proofs.Waiting.{list_stays}
use Rattle.plain_machine.proofs.workspaces.Workspaces.execute_byte.Goals as goal

pub invariant_of-self : goal.invariant_of-self
invariant_of-self c =
    let stepped : Memory → Stepped = λ memory. byte_step c.args.code_start c.args.byte c.args.operand.now
    (record { registers = c.args.registers.now; memory = memory }) in
    let links = subst (λ (r : ReadyMemory). AgreesOnKept keeps_link r.ready r.memory (stepped r.memory).state.memory)
    (sym c.self.view_is) c.requires.links in
    (list_stays c.self.inside.store c.execute_byte.new.self (stepped (defined c.self.inside.store)).state.memory
    c.self.inside.queue.front c.self.inside.queue.back c.self.inside.queue.length
    (ap (λ (t : Stepped). t.state.memory) c.execute_byte.ensures.step) c.self.invariant links).1

pub returns-clause-ready : goal.returns-clause-ready
returns-clause-ready c =
    let stepped : Memory → Stepped = λ memory. byte_step c.args.code_start c.args.byte c.args.operand.now
    (record { registers = c.args.registers.now; memory = memory }) in
    let links = subst (λ (r : ReadyMemory). AgreesOnKept keeps_link r.ready r.memory (stepped r.memory).state.memory)
    (sym c.self.view_is) c.requires.links in
    (list_stays c.self.inside.store c.execute_byte.new.self (stepped (defined c.self.inside.store)).state.memory
    c.self.inside.queue.front c.self.inside.queue.back c.self.inside.queue.length
    (ap (λ (t : Stepped). t.state.memory) c.execute_byte.ensures.step) c.self.invariant links).0
    ∙ ap (λ (r : ReadyMemory). r.ready) c.self.view_is
