use Rattle.std.proofs.Common.{refl, sym, subst, ◌∙◌, ap}
use Rattle.plain_machine.specs.Plain.{defined}
use Rattle.plain_machine.specs.PlainRun.{LinksStay, RunsTo, point_in}
use Rattle.plain_machine.specs.PlainStep.{PlainState}
use Rattle.plain_machine.specs.Waiting.{ReadyMemory}
use Rattle.plain_machine.proofs.Waiting.{links_come, list_stays}
use Rattle.plain_machine.proofs.workspaces.Workspaces.run.Goals as goal

pub invariant_of-self : goal.invariant_of-self
invariant_of-self c =
    let x = c.run.ensures.run in
    let after : PlainState = record { registers = c.run.new.registers; memory = defined c.run.new.self } in
    let runs = subst (λ (r : ReadyMemory). RunsTo c.args.code_start c.args.code.now
    (point_in c.args.registers.now r.memory) x.run.bytes x.point) c.self.view_is x.run.runs in
    let stay = subst (λ (r : ReadyMemory). LinksStay c.args.code_start c.args.code.now r.ready r.memory x.point)
    (sym c.self.view_is) (c.requires.links x.run.bytes x.point runs) in
    let links = links_come c.args.code_start c.args.code.now _ _ c.run.result x.point after x.comes stay in
    (list_stays c.self.inside.store c.run.new.self (defined c.run.new.self) c.self.inside.queue.front
    c.self.inside.queue.back c.self.inside.queue.length refl c.self.invariant links).1

pub returns-clause-ready : goal.returns-clause-ready
returns-clause-ready c =
    let x = c.run.ensures.run in
    let after : PlainState = record { registers = c.run.new.registers; memory = defined c.run.new.self } in
    let runs = subst (λ (r : ReadyMemory). RunsTo c.args.code_start c.args.code.now
    (point_in c.args.registers.now r.memory) x.run.bytes x.point) c.self.view_is x.run.runs in
    let stay = subst (λ (r : ReadyMemory). LinksStay c.args.code_start c.args.code.now r.ready r.memory x.point)
    (sym c.self.view_is) (c.requires.links x.run.bytes x.point runs) in
    let links = links_come c.args.code_start c.args.code.now _ _ c.run.result x.point after x.comes stay in
    (list_stays c.self.inside.store c.run.new.self (defined c.run.new.self) c.self.inside.queue.front
    c.self.inside.queue.back c.self.inside.queue.length refl c.self.invariant links).0
    ∙ ap (λ (r : ReadyMemory). r.ready) c.self.view_is
