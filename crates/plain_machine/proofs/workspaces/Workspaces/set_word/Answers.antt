use Rattle.std.proofs.Common.{ℤ, sym, subst, ◌∙◌, ap}
use Rattle.std.proofs.lemmas.Int.{to_z-of_z}
use Rattle.std.specs.Int.{w32}
use Rattle.process_queue.specs.Keeping.{AgreesOnKept}
use Rattle.plain_machine.specs.Linked.{keeps_link}
use Rattle.plain_machine.specs.Plain.{defined}
use Rattle.plain_machine.specs.PlainStep.{with_plain_word}
use Rattle.plain_machine.specs.Waiting.{ReadyMemory}
use Rattle.plain_machine.proofs.Waiting.{list_stays}
use Rattle.plain_machine.proofs.workspaces.Workspaces.set_word.Goals as goal

pub invariant_of-self : goal.invariant_of-self
invariant_of-self c =
    let links = subst (λ (r : ReadyMemory). AgreesOnKept keeps_link r.ready r.memory
    (with_plain_word c.args.address c.args.value r.memory)) (sym c.self.view_is) c.requires.links in
    (list_stays c.self.inside.store c.set_word.new.self (with_plain_word c.args.address c.args.value
    (defined c.self.inside.store)) c.self.inside.queue.front c.self.inside.queue.back c.self.inside.queue.length
    (c.set_word.ensures ∙ ap (λ (v : ℤ). with_plain_word c.args.address v (defined c.self.inside.store))
    (to_z-of_z w32 c.args.value c.ranges.value)) c.self.invariant links).1

pub returns-clause-ready : goal.returns-clause-ready
returns-clause-ready c =
    let links = subst (λ (r : ReadyMemory). AgreesOnKept keeps_link r.ready r.memory
    (with_plain_word c.args.address c.args.value r.memory)) (sym c.self.view_is) c.requires.links in
    (list_stays c.self.inside.store c.set_word.new.self (with_plain_word c.args.address c.args.value
    (defined c.self.inside.store)) c.self.inside.queue.front c.self.inside.queue.back c.self.inside.queue.length
    (c.set_word.ensures ∙ ap (λ (v : ℤ). with_plain_word c.args.address v (defined c.self.inside.store))
    (to_z-of_z w32 c.args.value c.ranges.value)) c.self.invariant links).0
    ∙ ap (λ (r : ReadyMemory). r.ready) c.self.view_is
