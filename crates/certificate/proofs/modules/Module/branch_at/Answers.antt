use Rattle.std.proofs.Common.{◌≡◌, ℕ, List, ◌∙◌, ap, subst}
use Rattle.std.specs.Prelude.{option_map, slice_index}
use Rattle.module_format.specs.Contents.{Contents}
use Rattle.certificate.specs.Branches.{numbered_branch, branch_at, AreNumbers}
use Rattle.certificate.proofs.NumberLaws.{forked, branch_at_is}
use Rattle.certificate.proofs.modules.Module.branch_at.Goals as goal

-- looking up in a module what its contents say
looked_up : (m self : Contents) (numbers : List ℕ) (at v : ℕ) → m ≡ self → AreNumbers m numbers
    → v ≡ slice_index numbers at → branch_at self at ≡ option_map (forked v) (numbered_branch self v)
looked_up m self numbers at v same are given =
    subst (λ (k : Contents). branch_at k at ≡ option_map (forked v) (numbered_branch k v)) same
    (branch_at_is m numbers at v are given)

pub returns-in_err-row : goal.returns-in_err-row
returns-in_err-row c =
    let v = c.number_at-number.result in
    let given = rw c.deref.ensures.value at c.number_at-number.ensures in
    let is = looked_up _ _ _ c.args.offset v c.self.view_is c.self.invariant.1.numbers given in
    rw c.from_residual.ensures (is ∙ ap (option_map (forked v)) c.in_err-row.ensures.found)

pub returns : goal.returns
returns c =
    let v = c.number_at-number.result in
    let given = rw c.deref.ensures.value at c.number_at-number.ensures in
    looked_up _ _ _ c.args.offset v c.self.view_is c.self.invariant.1.numbers given
    ∙ ap (option_map (forked v)) c.in_ok-row.ensures.found
