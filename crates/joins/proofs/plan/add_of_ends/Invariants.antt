use Rattle.std.proofs.Common.{◌≡◌, ℕ, ◌||◌, take}
use Rattle.std.specs.List.{list_any}
use Rattle.std.specs.BTreeSet.{contains}
use Rattle.std.specs.Ordering.{nat_cmp}
use Rattle.module_format.specs.declared.rows.EndRow.{EndRow}
use Rattle.machine_state.specs.JoinLookups.{names_end}
use Rattle.joins.proofs.plan.add_of_ends.Given as goal

-- those so far are added
abbrev pub invariant-loop-end : goal.invariant-loop-end
invariant-loop-end l = (j : ℕ) → contains nat_cmp l.numbers j
    ≡ (contains nat_cmp l.initial.numbers j || list_any (λ (e : EndRow). names_end j e.kind) (take l.end-index l.ends))
