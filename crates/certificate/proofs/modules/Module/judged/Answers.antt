use Rattle.std.proofs.Common.{◌≤◌, sym, subst}
use Rattle.std.proofs.lemmas.Bool.{ltb-true}
use Rattle.module_format.specs.Contents.{contents_of, Contents}
use Rattle.module_format.specs.Contexts.{first_branch}
use Rattle.certificate.specs.Judged.{IsJudged}
use Rattle.certificate.proofs.SiblingLaws.{judged_there}
use Rattle.certificate.proofs.modules.Module.judged.Goals as goal

pub returns : goal.returns
returns c =
    let t = contents_of c.self.inside.tables in
    let within = rw (c.deref.ensures.value, c.in_ok-number.ensures.1, c.first_branch.ensures)
    at (ltb-true _ _ (sym c.in_ok-judged.ensures.lookup.0)) in
    let is = rw (c.deref.ensures.value, c.in_ok-number.ensures.1, c.first_branch.ensures)
    at c.in_ok-judged.ensures.lookup.1 in
    let ge : first_branch t ≤ c.args.context = rw c.first_branch.ensures at c.in_ok-number.ensures.0 in
    subst (λ (m : Contents). IsJudged m c.args.context c.in_ok-judged.judged.now) c.self.view_is
    (judged_there t c.self.inside.index.judged.items c.args.context c.in_ok-judged.judged.now
    c.self.invariant.1.judged ge within is)
