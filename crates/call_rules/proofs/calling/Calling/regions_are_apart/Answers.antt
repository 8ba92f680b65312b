use Rattle.std.proofs.Common.{◌∙◌, ap}
use Rattle.call_rules.specs.CallRules.{lent, are_apart, each_two, regions_are_apart}
use Rattle.call_rules.specs.Callings.{calling_of}
use Rattle.call_rules.proofs.WrittenApart.{each_two-map}
use Rattle.call_rules.proofs.calling.Calling.regions_are_apart.Goals as goal

pub returns : goal.returns
unfolding regions_are_apart
returns c =
    let call = calling_of c.args.self.now in
    c.all_are_apart.ensures ∙ ap (each_two are_apart) c.requires
    ∙ each_two-map are_apart (lent call) call.callee.parameters
