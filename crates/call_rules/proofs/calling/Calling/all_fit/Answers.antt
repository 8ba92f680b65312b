use Rattle.std.proofs.Common.{◌∙◌, ap, sym, subst, List}
use Rattle.std.specs.List.{AllByRecursion, list_all}
use Rattle.std.proofs.lemmas.List.Folds.{list_all-map}
use Rattle.call_rules.specs.declared.passed.Passed.{Passed}
use Rattle.call_rules.specs.Callings.{calling_of, fits, passed_to, IsPassedSo}
use Rattle.call_rules.proofs.PassedOnce.{all_passed_so}
use Rattle.call_rules.proofs.calling.Calling.all_fit.Goals as goal

pub each_fits-requires-clause-passed : goal.each_fits-requires-clause-passed
each_fits-requires-clause-passed c =
    let call = calling_of c.args.self.now in
    subst (λ (all : List Passed). AllByRecursion (IsPassedSo call) all) (sym c.requires.passed)
    (all_passed_so call call.callee.parameters)

pub returns : goal.returns
returns c =
    let call = calling_of c.args.self.now in
    c.each_fits.ensures
    ∙ ap (list_all (λ (x : Passed). fits c.args.wanted call x.parameter)) c.requires.passed
    ∙ list_all-map (λ (x : Passed). fits c.args.wanted call x.parameter) (passed_to call) call.callee.parameters
