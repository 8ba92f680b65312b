use Rattle.std.proofs.Common.{◌∙◌, List, length, sym, ap}
use Rattle.module_format.specs.Contexts.{parameters_at}
use Rattle.machine_state.specs.Joins.{join_after}
use Rattle.machine_state.specs.Views.{holding_view, join_view}
use Rattle.machine_state.specs.World.{Role, holding_at}
use Rattle.joins.specs.Finding.{found_view, first_plan_of}
use Rattle.joins.specs.declared.testing.Gift.{Gift}
use Rattle.joins.proofs.Planned.{tests_planned, own_planned, join_planned}
use Rattle.joins.proofs.Settled.{hands_on}
use Rattle.joins.proofs.gifts.first_gift.Goals as goal

pub returns-in_err-gift-clause-finds : goal.returns-in_err-gift-clause-finds
returns-in_err-gift-clause-finds c =
    let start = c.args.start.now in
    let here = start.here.now in
    hands_on Gift _ here c.from_residual-in_err-gift.result c.in_err-gift.field-0.0 _ _
    c.from_residual-in_err-gift.ensures.1
    (tests_planned start.module.now here.process _ _ _ (found_view start.found) c.tables.ensures.contents
    c.store-store.ensures.memory
    (c.held-holding.ensures ∙ ap (λ (roles : List Role). holding_at roles here.process) c.store-store.ensures.roles)
    (c.parameters-parameters.ensures ∙ ap (parameters_at start.module.now) c.from.ensures)
    c.in_ok-opening.ensures start.workspace) c.in_err-gift.ensures.finds

pub returns-clause-finds : goal.returns-clause-finds
returns-clause-finds c =
    let start = c.args.start.now in
    let here = start.here.now in
    sym (tests_planned start.module.now here.process _ _ _ (found_view start.found) c.tables.ensures.contents
    c.store-store.ensures.memory
    (c.held-holding.ensures ∙ ap (λ (roles : List Role). holding_at roles here.process) c.store-store.ensures.roles)
    (c.parameters-parameters.ensures ∙ ap (parameters_at start.module.now) c.from.ensures)
    c.in_ok-opening.ensures start.workspace)
    ∙ c.in_ok-gift.ensures.finds

pub returns-clause-gift : goal.returns-clause-gift
returns-clause-gift c =
    let start = c.args.start.now in
    let w = c.args.traffic.now.world in
    let here = start.here.now in
    let f = found_view start.found in
    let m = start.module.now in
    let held =
    c.held-holding.ensures ∙ ap (λ (roles : List Role). holding_at roles here.process) c.store-store.ensures.roles in
    let named = c.parameters-parameters.ensures ∙ ap (parameters_at m) c.from.ensures in
    record {
      join =
          join_planned m here.process _ _ _ f c.tables.ensures.contents c.store-store.ensures.memory held named
          c.in_ok-opening.ensures c.count-branch.result (holding_view c.in_ok-gift.gift.rest)
          (join_view c.in_ok-join.join) c.in_ok-gift.ensures.rest c.in_ok-join.ensures
          ∙ ap (join_after (length w.memory) (first_plan_of start w) f) c.count-branch.ensures;
      own =
          c.in_ok-gift.ensures.own
          ∙ own_planned m here.process _ _ _ f c.tables.ensures.contents c.store-store.ensures.memory held named
          c.in_ok-opening.ensures;
    }
