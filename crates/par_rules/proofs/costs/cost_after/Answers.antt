use Rattle.std.proofs.Common.{sym, ap, ◌∙◌}
use Rattle.module_format.specs.Contents.{label_of, par_of}
use Rattle.states.specs.Views.{state_of}
use Rattle.par_rules.specs.Telling.{label_view}
use Rattle.par_rules.proofs.KnownCosts.{after_is}
use Rattle.par_rules.proofs.costs.cost_after.Goals as goal

pub cost_of_successor-requires-clause-apart : goal.cost_of_successor-requires-clause-apart
cost_of_successor-requires-clause-apart c =
    let par = par_of c.args.found.now.par.now in
    let t = label_of c.in-Some.row.now in
    (c.label_rows_are_sound.ensures.at_offsets c.args.module.now par.successor t c.requires.kept
    (after_is c.args.module.now (state_of c.args.state.now).mode par t
    (ap label_view (sym c.in-Some.is) ∙ c.requires.after))).apart
