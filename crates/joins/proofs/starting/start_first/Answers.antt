use Rattle.std.proofs.Common.{◌≡◌, ◌+◌, true, nat_lt, length, refl}
use Rattle.machine_state.specs.Joins.{started, opened}
use Rattle.machine_state.specs.StartPlans.{first_faults}
use Rattle.machine_state.specs.World.{holding_at}
use Rattle.traffic.specs.Settling.{here_in}
use Rattle.joins.specs.Finding.{found_view, first_plan_of}
use Rattle.machine_state.specs.Asking.{untouched}
use Rattle.joins.proofs.Settled.{out_of_memory, is_done, test_passed}
use Rattle.joins.proofs.starting.start_first.Goals as goal

pub returns-in_err-open-clause-settles : goal.returns-in_err-open-clause-settles
returns-in_err-open-clause-settles c = λ passes gives.
    let start = c.args.start.now in
    let w = c.args.traffic.now.world in
    out_of_memory c.from_residual-in_err-open.result w c.open.new.traffic.world _ c.from_residual-in_err-open.ensures.0
    c.from_residual-in_err-open.ensures.1
    (c.in_err-open.ensures.world start.module.now (first_plan_of start w) refl gives)

pub returns-clause-settles : goal.returns-clause-settles
returns-clause-settles c = λ passes gives.
    let start = c.args.start.now in
    let m = start.module.now in
    let here = start.here.now in
    let w = c.args.traffic.now.world in
    let f = found_view start.found in
    let plan = first_plan_of start w in
    let there = opened (here_in m here) plan (untouched start.registers w.memory) w in
    let follows : nat_lt (here.task.registers.at + 1) (length m.code) ≡ true =
    test_passed _ _ c.in_ok-check_followed.field-0 c.in_ok-check_followed.ensures.followed in
    is_done m here w (first_faults m w.memory (holding_at w.roles here.process) plan f start.workspace)
    (started (here_in m here) plan f start.workspace there.0 there.1) c.open.new.traffic.world passes follows
    (c.in_ok-open.ensures.world m plan refl gives)
