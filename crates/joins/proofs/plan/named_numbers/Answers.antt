use Rattle.std.proofs.Common.{◌∙◌, List, sym, ap}
use Rattle.std.proofs.lemmas.Result.{IfOk-weaker}
use Rattle.std.specs.List.{list_any}
use Rattle.small_laws.proofs.Mapped.{list_any-map}
use Rattle.module_format.specs.Rows.{BranchRow}
use Rattle.module_format.specs.Contents.{branch_of}
use Rattle.machine_state.specs.JoinLookups.{branch_names}
use Rattle.joins.proofs.plan.named_numbers.Goals as goal

pub returns : goal.returns
returns c =
    IfOk-weaker c.numbers_by_branches.result _ _ (λ numbers e j. e j
    ∙ (ap (λ (l : List BranchRow). list_any (λ (b : BranchRow). branch_names j (branch_of b)) l) c.deref.ensures.value
    ∙ sym (list_any-map (branch_names j) branch_of c.args.par.now.branches.items))) c.numbers_by_branches.ensures
