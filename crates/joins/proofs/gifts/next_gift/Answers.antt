use Rattle.std.proofs.Common.{◌≡◌, ◌+◌, ◌∙◌, ℕ, List, Option, [], ap}
use Rattle.module_format.specs.declared.rows.Parameter.{Parameter}
use Rattle.module_format.specs.Contents.{contents_of, par_of, branch_of}
use Rattle.module_format.specs.Contexts.{parameters_at}
use Rattle.machine_state.specs.StartPlans.{Plan}
use Rattle.machine_state.specs.BranchShares.{share_of, holding_of}
use Rattle.machine_state.specs.Spans.{Share, less}
use Rattle.machine_state.specs.Views.{holding_view}
use Rattle.joins.specs.Finding.{found_view}
use Rattle.joins.specs.Sharing.{share_view}
use Rattle.joins.proofs.Passing.{next_number}
use Rattle.joins.proofs.gifts.next_gift.Goals as goal

pub returns-clause-gift : goal.returns-clause-gift
returns-clause-gift c =
    let m = contents_of c.args.tables.now in
    let start = c.args.start.now in
    let join = c.args.join.now in
    let par = par_of start.found.par.now in
    let b = branch_of start.found.branch.now in
    let plan : Plan = record {
      row = join.row;
      par = par;
      base = join.base;
      parameters = c.args.parameters.now;
      addresses = c.deref.result.now;
      started = join.started;
      rest = holding_view join.rest;
      members = [];
    } in
    let share : share_view c.in_ok-share.share
    ≡ share_of join.base (parameters_at m par.context) join.parameters.items b =
    c.in_ok-share.ensures
    ∙ (ap (λ (ps : List Parameter). share_of join.base ps c.deref.result.now b) c.requires.parameters
    ∙ ap (λ (l : List (Option ℕ)). share_of join.base (parameters_at m par.context) l b) c.deref.ensures.value) in
    let next : start.found.number ≡ join.started =
    next_number c.args.end plan (found_view start.found) start.workspace c.in_ok-test_later.ensures in
    record {
      block = c.block_of.ensures;
      started = ap (λ (n : ℕ). n + 1) next;
      rest = c.in_ok-gift.ensures.rest ∙ ap (λ (s : Share). less c.args.end (holding_view join.rest) s) share;
      own = c.in_ok-gift.ensures.own ∙ ap (λ (s : Share). holding_of m c.args.end s) share;
    }
