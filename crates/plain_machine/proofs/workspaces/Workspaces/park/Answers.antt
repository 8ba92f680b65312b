use Rattle.std.proofs.Common.{sym, subst, ◌∙◌, ap}
use Rattle.process_queue.specs.Keeping.{AgreesOnKept}
use Rattle.plain_machine.specs.Linked.{keeps_link}
use Rattle.plain_machine.specs.Plain.{defined}
use Rattle.plain_machine.specs.Waiting.{ReadyMemory, parked}
use Rattle.plain_machine.proofs.Waiting.{list_stays}
use Rattle.plain_machine.proofs.workspaces.Workspaces.park.Goals as goal

pub invariant_of-self : goal.invariant_of-self
invariant_of-self c =
    let links = subst (λ (r : ReadyMemory). AgreesOnKept keeps_link r.ready r.memory
    (parked c.args.code_start c.args.registers.now r.memory)) (sym c.self.view_is) c.requires.links in
    (list_stays c.self.inside.store c.park.new.self (parked c.args.code_start c.args.registers.now
    (defined c.self.inside.store)) c.self.inside.queue.front c.self.inside.queue.back c.self.inside.queue.length
    c.park.ensures c.self.invariant links).1

pub returns-clause-ready : goal.returns-clause-ready
returns-clause-ready c =
    let links = subst (λ (r : ReadyMemory). AgreesOnKept keeps_link r.ready r.memory
    (parked c.args.code_start c.args.registers.now r.memory)) (sym c.self.view_is) c.requires.links in
    (list_stays c.self.inside.store c.park.new.self (parked c.args.code_start c.args.registers.now
    (defined c.self.inside.store)) c.self.inside.queue.front c.self.inside.queue.back c.self.inside.queue.length
    c.park.ensures c.self.invariant links).0
    ∙ ap (λ (r : ReadyMemory). r.ready) c.self.view_is
