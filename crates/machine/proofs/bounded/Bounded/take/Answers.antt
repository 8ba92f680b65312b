use Rattle.std.proofs.Common.{None, sym, subst, refl}
use Rattle.machine_state.specs.Happens.{happens}
use Rattle.machine_state.specs.World.{World}
use Rattle.link_runs.specs.Driving.{StopsAt}
use Rattle.machine.specs.Bounding.{BoundedExecution, cause_of, Shows, HasStopped}
use Rattle.std.proofs.lemmas.Result.{err_from_is_err_and}
use Rattle.machine.proofs.Bounding.{bounded, taken_so, not_taken}
use Rattle.machine.proofs.bounded.Bounded.take.Given as given
use Rattle.machine.proofs.bounded.Bounded.take.Goals as goal
use Rattle.machine.proofs.bounded.Bounded.take.Goals.{After-advance}

module _ (g : given.Over) (c : After-advance g) where
  -- the machine before the event, and after it
  abbrev before : BoundedExecution
  before =
      let inside = c.self.inside in
      bounded inside.checked.contents inside.checked.world inside.limit inside.message

  abbrev after : BoundedExecution
  after = bounded c.advance.new.self.contents c.advance.new.self.world c.self.inside.limit None

  shows_before : (w : World) → Shows c.args.self.now w → Shows before w
  shows_before w shows = subst (λ (b : BoundedExecution). Shows b w) (sym c.self.view_is) shows

pub returns-in_err-advance-clause-takes : goal.returns-in_err-advance-clause-takes
returns-in_err-advance-clause-takes g c w shows =
    let p = err_from_is_err_and c.from_residual.result c.from_residual.ensures.1 in
    let stop = c.in_err-advance.field-0.0 in
    let at = (goal.at.returns-in_err-advance-clause-takes g c).After-advance in
    let stops = not_taken (before g at) (after g at) w (shows_before g at w shows)
    (record { contents = c.in_err-advance.ensures.contents; limit = refl }) c.args.event c.requires stop
    c.in_err-advance.ensures.applies in
    rw (p.1, p.2) (subst (λ (b : BoundedExecution). StopsAt b.contents w c.args.event (λ (v : World).
    HasStopped (after g at) v (cause_of stop))) c.self.view_is stops)

pub returns-clause-takes : goal.returns-clause-takes
returns-clause-takes g c w shows =
    let at = (goal.at.returns-clause-takes g c).After-advance in
    subst (λ (b : BoundedExecution). Shows (after g at) (happens b.contents w c.args.event)) c.self.view_is
    (taken_so (before g at) (after g at) w (shows_before g at w shows)
    (record { contents = c.in_ok-advance.ensures.contents; limit = refl }) c.args.event c.requires
    c.in_ok-advance.field-0 c.in_ok-advance.ensures.applies)
