use Rattle.std.proofs.Common.{◌∙◌, sym, ap, subst, ◌≤◌, MatchOption}
use Rattle.std.proofs.lemmas.Bool.{ltb-true}
use Rattle.module_format.specs.Contents.{contents_of, Contents}
use Rattle.module_format.specs.Contexts.{first_branch}
use Rattle.certificate.specs.Branches.{numbered_branch}
use Rattle.certificate.specs.Rights.{channel_length}
use Rattle.certificate.specs.Runs.{AreRuns}
use Rattle.certificate.proofs.BranchRunLaws.{runs_there, runs_missing}
use Rattle.certificate.proofs.modules.Module.runs.Goals as goal

pub returns-in_err-runs : goal.returns-in_err-runs
returns-in_err-runs c =
    let t = contents_of c.self.inside.tables in
    let past = rw (c.deref.ensures.value, c.in_ok-number.ensures.1, c.first_branch.ensures)
    at c.in_err-runs.ensures.lookup.3 in
    let ge : first_branch t ≤ c.args.context = rw c.first_branch.ensures at c.in_ok-number.ensures.0 in
    rw c.from_residual-in_err-runs.ensures (ap (λ (m : Contents). numbered_branch m c.args.context) (sym c.self.view_is)
    ∙ runs_missing t c.self.inside.index.runs.items c.args.context c.self.invariant.1.runs ge past)

pub returns : goal.returns
returns c =
    let t = contents_of c.self.inside.tables in
    let within = rw (c.deref.ensures.value, c.in_ok-number.ensures.1, c.first_branch.ensures)
    at (ltb-true _ _ (sym c.in_ok-runs.ensures.lookup.0)) in
    let is = rw (c.deref.ensures.value, c.in_ok-number.ensures.1, c.first_branch.ensures)
    at c.in_ok-runs.ensures.lookup.1 in
    let ge : first_branch t ≤ c.args.context = rw c.first_branch.ensures at c.in_ok-number.ensures.0 in
    rw c.deref-2.ensures.value (subst (λ (m : Contents). MatchOption (numbered_branch m c.args.context) ⊥
    (λ x. AreRuns (channel_length m c.args.context) x.1.ends c.in_ok-runs.runs.now.items)) c.self.view_is
    (runs_there t c.self.inside.index.runs.items c.args.context c.in_ok-runs.runs.now c.self.invariant.1.runs
    ge within is))
