use Rattle.std.proofs.Common.{◌≡◌, ◌∙◌, sym, ap, length, arith}
use Rattle.std.specs.Prelude.{nat_lt, ◌==◌}
use Rattle.std.proofs.lemmas.List.Sorted.{list_any-IsPermutation}
use Rattle.certificate.specs.declared.branch_runs.Visit.{Visit}
use Rattle.certificate.proofs.branch_runs.visits_of.Goals as goal

pub returns : goal.returns
returns c = λ n.
    let all : c.loop-branch.branch ≡ length c.args.places.now =
    let most = c.loop-branch.auto.branch-end in let past = c.loop-branch-test.false in omega arith in
    sym (list_any-IsPermutation (λ (visit : Visit). visit.branch == n) c.loop-branch.visits.items
    c.sort_unstable_by_key.new.self.items c.sort_unstable_by_key.ensures.permutation)
    ∙ c.loop-branch.invariant n ∙ ap (nat_lt n) all
