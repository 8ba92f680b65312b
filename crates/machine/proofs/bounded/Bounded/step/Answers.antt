use Rattle.std.proofs.Common.{◌≡◌, Bool, true, Option, ◌<◌, sym, ap, subst, refl, rules, arith}
use Rattle.machine_state.specs.declared.process.Exchange.{Exchange}
use Rattle.machine_state.specs.Turn.{Turn}
use Rattle.link_runs.specs.Driving.{IsReached}
use Rattle.link_runs.specs.Wanting.{is_running}
use Rattle.machine.specs.Bounding.{BoundedExecution, bytes_of, StaysThere, HasDone}
use Rattle.machine.proofs.Bounding.{bounded, did}
use Rattle.machine.proofs.bounded.Bounded.step.Goals as goal

pub returns : goal.returns
returns g c =
    let inside = c.self.inside in
    let memory = c.advance.new.self.world.memory in
    let before = bounded inside.checked.contents inside.checked.world inside.limit inside.message in
    let after =
    bounded c.advance.new.self.contents c.advance.new.self.world inside.limit c.exchange_of-self-inside.result in
    let reached = subst (λ (b : BoundedExecution). IsReached b.contents b.limit b.world) (sym c.self.view_is)
    c.requires in
    let running : c.running.result ≡ true = search rules in
    let runs : is_running before.world ≡ true = subst (λ (b : Bool). b ≡ true) c.running.ensures running in
    let count = c.executed.ensures in
    let tested = c.if-executed-self.false in
    let below : before.world.counters.executed < before.limit = omega (arith, count, tested) in
    let applies = c.in_ok-act.ensures.applies.0 in
    let done = did before reached c.self.invariant.1 runs below after (sym (ap (λ (t : Turn). t.world) applies))
    c.in_ok-act.act memory (ap (λ (t : Turn). t.answer) applies)
    (ap (λ (o : Option Exchange). bytes_of o memory) (sym c.exchange_of-self-inside.ensures)) in
    subst (λ (b : BoundedExecution). StaysThere b after × HasDone b after c.progress_of.result) c.self.view_is (
      record { contents = c.in_ok-act.ensures.contents; limit = refl },
      subst (HasDone before after) (sym c.progress_of.ensures) done,
    )
