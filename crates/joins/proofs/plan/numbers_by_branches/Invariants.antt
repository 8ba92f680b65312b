use Rattle.std.proofs.Common.{◌≡◌, ℕ, take}
use Rattle.std.specs.List.{list_any}
use Rattle.std.specs.BTreeSet.{contains}
use Rattle.std.specs.Ordering.{nat_cmp}
use Rattle.module_format.specs.Rows.{BranchRow}
use Rattle.module_format.specs.Contents.{branch_of}
use Rattle.machine_state.specs.JoinLookups.{branch_names}
use Rattle.joins.proofs.plan.numbers_by_branches.Given as goal

-- those of the branches so far are there
abbrev pub invariant-loop-branch : goal.invariant-loop-branch
invariant-loop-branch l = (j : ℕ) → contains nat_cmp l.numbers j
    ≡ list_any (λ (b : BranchRow). branch_names j (branch_of b)) (take l.branch-index l.branches)
