-- What changes hands at a start, as the definitions have it.
use Rattle.std.specs.Prelude.{◌≡◌, ℕ, ◌+◌}
use Rattle.module_format.specs.Contents.{Contents, Branch}
use Rattle.machine_state.specs.declared.holding.Holding.{Holding}
use Rattle.machine_state.specs.declared.role.Join.{Join}
use Rattle.machine_state.specs.declared.tagged.joining.Progress.{Progress}
use Rattle.machine_state.specs.Joins.{join_after}
use Rattle.machine_state.specs.StartPlans.{Plan, share_by}
use Rattle.machine_state.specs.JoinLookups.{Found}
use Rattle.machine_state.specs.BranchShares.{frame_address, holding_of}
use Rattle.machine_state.specs.Spans.{less}
use Rattle.machine_state.specs.Views.{holding_view, join_view}

-- what a start by this plan changes of the join, and what the branch holds
pub record IsGift (m : Contents) (n : ℕ) (plan : Plan) (b : Branch) (to : Progress) (held : Holding) : Type 0 where
  pub block : to.block ≡ frame_address plan.base plan.par.block
  pub started : to.started ≡ plan.started + 1
  pub rest : holding_view to.rest ≡ less n plan.rest (share_by plan b)
  pub own : holding_view held ≡ holding_of m n (share_by plan b)

-- the join that the first start opens, with the branch as this process, and what the branch holds
pub record IsFirstGift (m : Contents) (n : ℕ) (plan : Plan) (found : Found) (new : ℕ) (opened : Join) (held : Holding)
    : Type 0 where
  pub join : join_view opened ≡ join_after n plan found new
  pub own : holding_view held ≡ holding_of m n (share_by plan found.branch)
