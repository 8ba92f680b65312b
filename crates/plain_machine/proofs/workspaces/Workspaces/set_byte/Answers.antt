use Rattle.std.proofs.Common.{ℕ, sym, subst, ◌∙◌, ◌<◌, ap, length, Some}
use Rattle.machine_state.specs.Memory.{place_of, with_byte}
use Rattle.process_queue.specs.Keeping.{AgreesOnKept}
use Rattle.plain_machine.specs.Linked.{keeps_link}
use Rattle.plain_machine.specs.Plain.{defined}
use Rattle.plain_machine.specs.Waiting.{ReadyMemory}
use Rattle.plain_machine.proofs.PlainBytes.{length-defined}
use Rattle.plain_machine.proofs.Waiting.{list_stays}
use Rattle.plain_machine.proofs.workspaces.Workspaces.set_byte.Goals as goal

pub set_byte-requires : goal.set_byte-requires
set_byte-requires c =
    subst (λ (n : ℕ). place_of c.args.address < n) (length-defined c.self.inside.store)
    (subst (λ (r : ReadyMemory). place_of c.args.address < length r.memory) (sym c.self.view_is) c.requires.inside)

pub invariant_of-self : goal.invariant_of-self
invariant_of-self c =
    let links = subst (λ (r : ReadyMemory). AgreesOnKept keeps_link r.ready r.memory
    (with_byte r.memory (place_of c.args.address) (Some c.args.byte))) (sym c.self.view_is) c.requires.links in
    (list_stays c.self.inside.store c.set_byte.new.self (with_byte (defined c.self.inside.store)
    (place_of c.args.address) (Some c.args.byte)) c.self.inside.queue.front c.self.inside.queue.back
    c.self.inside.queue.length c.set_byte.ensures c.self.invariant links).1

pub returns-clause-ready : goal.returns-clause-ready
returns-clause-ready c =
    let links = subst (λ (r : ReadyMemory). AgreesOnKept keeps_link r.ready r.memory
    (with_byte r.memory (place_of c.args.address) (Some c.args.byte))) (sym c.self.view_is) c.requires.links in
    (list_stays c.self.inside.store c.set_byte.new.self (with_byte (defined c.self.inside.store)
    (place_of c.args.address) (Some c.args.byte)) c.self.inside.queue.front c.self.inside.queue.back
    c.self.inside.queue.length c.set_byte.ensures c.self.invariant links).0
    ∙ ap (λ (r : ReadyMemory). r.ready) c.self.view_is
