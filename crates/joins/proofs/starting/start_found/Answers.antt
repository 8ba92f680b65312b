use Rattle.std.proofs.Common.{Some, None}
use Rattle.machine_state.specs.Views.{join_view}
use Rattle.joins.specs.Finding.{found_view}
use Rattle.machine_state.specs.Asking.{untouched}
use Rattle.joins.specs.declared.gifts.First.{First}
use Rattle.joins.specs.declared.gifts.Later.{Later}
use Rattle.joins.proofs.Settled.{by_opened, later_stops, first_stops}
use Rattle.joins.proofs.starting.start_found.Goals as goal

pub returns-in_err-gift-in-Some-clause-settles : goal.returns-in_err-gift-in-Some-clause-settles
returns-in_err-gift-in-Some-clause-settles c =
    let start = c.args.start.now in
    let w = c.args.traffic.now.world in
    later_stops start.module.now start.here.now w (found_view start.found) start.workspace
    (untouched start.registers w.memory) (join_view c.in-Some.join.now) Later c.in_err-gift-in-Some.field-0.0
    c.from_residual.result c.in-Some.ensures c.from_residual.ensures.1 c.in_err-gift-in-Some.ensures.finds

pub returns-in_err-gift-in-None-clause-settles : goal.returns-in_err-gift-in-None-clause-settles
returns-in_err-gift-in-None-clause-settles c =
    let start = c.args.start.now in
    let w = c.args.traffic.now.world in
    first_stops start.module.now start.here.now w (found_view start.found) start.workspace
    (untouched start.registers w.memory) First c.in_err-gift-in-None.field-0.0
    c.from_residual-in_err-gift-in-None.result c.in-None.ensures c.from_residual-in_err-gift-in-None.ensures.1
    c.in_err-gift-in-None.ensures.finds

pub returns-in_ok-gift-in-Some-clause-settles : goal.returns-in_ok-gift-in-Some-clause-settles
returns-in_ok-gift-in-Some-clause-settles c =
    let start = c.args.start.now in
    let w = c.args.traffic.now.world in
    let join = join_view c.in-Some.join.now in
    by_opened start.module.now start.here.now w (found_view start.found) start.workspace
    (untouched start.registers w.memory) (Some join) c.start_later.new.traffic.world c.start_later.result
    c.in-Some.ensures (c.start_later.ensures.settles join c.in-Some.ensures c.in_ok-gift-in-Some.ensures.finds
    c.in_ok-gift-in-Some.ensures.gift)

pub returns-in_ok-gift-in-None-clause-settles : goal.returns-in_ok-gift-in-None-clause-settles
returns-in_ok-gift-in-None-clause-settles c =
    let start = c.args.start.now in
    let w = c.args.traffic.now.world in
    by_opened start.module.now start.here.now w (found_view start.found) start.workspace
    (untouched start.registers w.memory) None c.start_first.new.traffic.world c.start_first.result c.in-None.ensures
    (c.start_first.ensures.settles c.in_ok-gift-in-None.ensures.finds c.in_ok-gift-in-None.ensures.gift)
