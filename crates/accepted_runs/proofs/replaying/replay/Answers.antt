use Rattle.std.proofs.Common.{◌+◌, refl, ap, subst, drop, List, rules, ◌∙◌}
use Rattle.std.proofs.lemmas.List.{drop_all}
use Rattle.module_format.proofs.Loop.{item_at}
use Rattle.machine_state.specs.declared.event.Event.{Event}
use Rattle.machine_state.specs.World.{World}
use Rattle.accepted_runs.proofs.EventByEvent.{IsGoing, nothing_out, begins, goes_on, is_over}
use Rattle.accepted_runs.proofs.replaying.replay.Goals as goal

pub loop-event-init : goal.loop-event-init
loop-event-init c =
    let loaded = c.in_ok-machine.ensures in
    begins c.args.verified.now c.args.events.now c.args.events.now c.in_ok-machine.machine _ loaded.contents
    loaded.shows refl
    (nothing_out c.new.result c.new-2.result c.new-3.result c.new-4.result c.new.ensures.items c.new-2.ensures.items
    c.new-3.ensures.items c.new-4.ensures.items)

pub loop-event-preserved : goal.loop-event-preserved
loop-event-preserved c =
    let m = c.args.verified.now in
    let events = c.args.events.now in
    let i = c.loop-event.event-index in
    let before = c.loop-event.machine in
    goes_on m events _ (drop (i + 1) events) before c.follow.new.machine c.loop-event.out c.follow.new.out
    (subst (λ (rest : List Event). IsGoing m events rest before c.loop-event.out)
    (item_at events i _ c.loop-event-test.true) c.loop-event.invariant)
    c.in_ok-follow.ensures.contents c.in_ok-follow.ensures.world c.in_ok-follow.ensures.out

pub returns : goal.returns
returns c =
    let going = c.loop-event.invariant in
    let over = is_over c.args.verified.now c.args.events.now _ _ _ going
    (drop_all c.loop-event.event-index c.args.events.now (search rules)) in
    record {
      finished = c.finished.ensures going.world going.shows
          ∙ ap (λ (w : World). w.counters.is_finished) over.0;
      executed = c.executed.ensures.world going.world going.shows
          ∙ ap (λ (w : World). w.counters.executed) over.0;
      out = over.1;
    }
