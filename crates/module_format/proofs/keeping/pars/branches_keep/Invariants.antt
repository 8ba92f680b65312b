use Rattle.std.proofs.Common.{ℕ, List, ◌↔◌, ◌++◌, drop, take, map}
use Rattle.module_format.specs.Contents.{branch_of}
use Rattle.module_format.specs.Order.{InOrder}
use Rattle.module_format.specs.OffsetSet.{IsSetOf}
use Rattle.module_format.specs.Pars.{BranchKeeps, behind_branch, entries_of}
use Rattle.module_format.proofs.keeping.pars.branches_keep.Given as goal

abbrev pub invariant-loop-row : goal.invariant-loop-row
invariant-loop-row l = (entries : List ℕ) → IsSetOf l.fn.taken.words entries →
    let rows = map branch_of l.rows in
    let taken = entries ++ entries_of (map branch_of (take l.row-index l.rows)) in
    (InOrder (BranchKeeps l.code_len) behind_branch (record { low = l.low; entries = entries }) rows
    ↔ InOrder (BranchKeeps l.code_len) behind_branch (record { low = l.above; entries = taken })
    (drop l.row-index rows))
    × IsSetOf l.taken.words taken
