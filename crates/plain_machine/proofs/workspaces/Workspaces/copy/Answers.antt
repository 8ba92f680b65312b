use Rattle.std.proofs.Common.{sym, subst, ◌∙◌, ap}
use Rattle.machine_state.specs.LocalStep.{copied}
use Rattle.machine_state.specs.Memory.{place_of}
use Rattle.process_queue.specs.Keeping.{AgreesOnKept}
use Rattle.plain_machine.specs.Linked.{keeps_link}
use Rattle.plain_machine.specs.Plain.{defined}
use Rattle.plain_machine.specs.Waiting.{ReadyMemory}
use Rattle.plain_machine.proofs.Waiting.{list_stays}
use Rattle.plain_machine.proofs.workspaces.Workspaces.copy.Goals as goal

pub invariant_of-self : goal.invariant_of-self
invariant_of-self c =
    let links = subst (λ (r : ReadyMemory). AgreesOnKept keeps_link r.ready r.memory
    (copied r.memory (place_of c.args.source) (place_of c.args.target) c.args.count r.memory)) (sym c.self.view_is)
    c.requires.links in
    (list_stays c.self.inside.store c.copy.new.self (copied (defined c.self.inside.store) (place_of c.args.source)
    (place_of c.args.target) c.args.count (defined c.self.inside.store)) c.self.inside.queue.front
    c.self.inside.queue.back c.self.inside.queue.length c.copy.ensures c.self.invariant links).1

pub returns-clause-ready : goal.returns-clause-ready
returns-clause-ready c =
    let links = subst (λ (r : ReadyMemory). AgreesOnKept keeps_link r.ready r.memory
    (copied r.memory (place_of c.args.source) (place_of c.args.target) c.args.count r.memory)) (sym c.self.view_is)
    c.requires.links in
    (list_stays c.self.inside.store c.copy.new.self (copied (defined c.self.inside.store) (place_of c.args.source)
    (place_of c.args.target) c.args.count (defined c.self.inside.store)) c.self.inside.queue.front
    c.self.inside.queue.back c.self.inside.queue.length c.copy.ensures c.self.invariant links).0
    ∙ ap (λ (r : ReadyMemory). r.ready) c.self.view_is
