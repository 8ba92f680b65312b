use Rattle.std.proofs.Common.{◌∙◌}
use Rattle.module_format.specs.Contents.{branch_of, par_of}
use Rattle.par_rules.proofs.EndsToGive.{given_to}
use Rattle.par_rules.proofs.starts.has_ends_to_give.Goals as goal

pub returns : goal.returns
returns c =
    c.has_ends_of.ensures
    ∙ given_to c.args.place.now.module.now c.args.state.now.context c.args.found.now.context
    (par_of c.args.found.now.par.now) (branch_of c.args.found.now.branch.now) c.requires
