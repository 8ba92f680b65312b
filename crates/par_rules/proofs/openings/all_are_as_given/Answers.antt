use Rattle.std.proofs.Common.{◌∙◌}
use Rattle.module_format.specs.Contents.{par_of}
use Rattle.states.specs.Views.{state_of}
use Rattle.par_rules.proofs.NamedParameters.{named_pass}
use Rattle.par_rules.proofs.openings.all_are_as_given.Goals as goal

pub returns : goal.returns
returns c =
    c.numbers_are_as_given.ensures
    ∙ named_pass c.args.module.now (state_of c.args.state.now) c.named_parameters_of.result.now c.args.found.now.row
    (par_of c.args.found.now.par.now) c.requires c.named_parameters_of.ensures.named
