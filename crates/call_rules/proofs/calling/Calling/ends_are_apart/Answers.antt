use Rattle.std.proofs.Common.{◌∙◌, ap}
use Rattle.call_rules.specs.CallRules.{each_two, give_other_ends}
use Rattle.call_rules.specs.Callings.{calling_of, passed_to, are_passed_other_ends}
use Rattle.call_rules.proofs.WrittenApart.{each_two-map}
use Rattle.call_rules.proofs.calling.Calling.ends_are_apart.Goals as goal

pub returns : goal.returns
unfolding give_other_ends
returns c =
    let call = calling_of c.args.self.now in
    c.all_give_other_ends.ensures ∙ ap (each_two are_passed_other_ends) c.requires
    ∙ each_two-map are_passed_other_ends (passed_to call) call.callee.parameters
