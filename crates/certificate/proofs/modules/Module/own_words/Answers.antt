use Rattle.std.proofs.Common.{◌∙◌, sym, ap, subst, ◌≤◌, MatchOption}
use Rattle.std.proofs.lemmas.Bool.{ltb-true}
use Rattle.module_format.specs.Contents.{contents_of, Contents}
use Rattle.module_format.specs.Contexts.{first_branch}
use Rattle.certificate.specs.Branches.{numbered_branch}
use Rattle.certificate.specs.Owned.{AreOwn}
use Rattle.certificate.proofs.SpanLaws.{own_there, own_missing}
use Rattle.certificate.proofs.modules.Module.own_words.Goals as goal

pub returns-in_err-own : goal.returns-in_err-own
returns-in_err-own c =
    let t = contents_of c.self.inside.tables in
    let past = rw (c.deref.ensures.value, c.in_ok-number.ensures.1, c.first_branch.ensures)
    at c.in_err-own.ensures.lookup.3 in
    let ge : first_branch t ≤ c.args.context = rw c.first_branch.ensures at c.in_ok-number.ensures.0 in
    rw c.from_residual-in_err-own.ensures (ap (λ (m : Contents). numbered_branch m c.args.context) (sym c.self.view_is)
    ∙ own_missing t c.self.inside.index.own.items c.args.context c.self.invariant.1.own ge past)

pub returns : goal.returns
returns c =
    let t = contents_of c.self.inside.tables in
    let within = rw (c.deref.ensures.value, c.in_ok-number.ensures.1, c.first_branch.ensures)
    at (ltb-true _ _ (sym c.in_ok-own.ensures.lookup.0)) in
    let is = rw (c.deref.ensures.value, c.in_ok-number.ensures.1, c.first_branch.ensures)
    at c.in_ok-own.ensures.lookup.1 in
    let ge : first_branch t ≤ c.args.context = rw c.first_branch.ensures at c.in_ok-number.ensures.0 in
    subst (λ (m : Contents). MatchOption (numbered_branch m c.args.context) ⊥ (λ x. AreOwn x.1 c.in_ok-own.own.now))
    c.self.view_is
    (own_there t c.self.inside.index.own.items c.args.context c.in_ok-own.own.now c.self.invariant.1.own ge within is)
