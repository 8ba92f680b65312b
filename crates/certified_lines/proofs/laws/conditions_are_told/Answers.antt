use Rattle.certified_lines.proofs.Conditions.{comparisons_test, sources_are_forgotten}
use Rattle.certified_lines.proofs.Quiet.{comparisons_show_nothing}
use Rattle.certified_lines.proofs.Silent.{quiet_truths_narrow_nothing}
use Rattle.certified_lines.proofs.Sources.{chains_tell_nothing}
use Rattle.certified_lines.proofs.laws.conditions_are_told.Goals as goal

pub returns-clause-tests : goal.returns-clause-tests
returns-clause-tests c = comparisons_test

pub returns-clause-others : goal.returns-clause-others
returns-clause-others c = sources_are_forgotten

pub returns-clause-chains : goal.returns-clause-chains
returns-clause-chains c = chains_tell_nothing

pub returns-clause-comparisons : goal.returns-clause-comparisons
returns-clause-comparisons c = comparisons_show_nothing

pub returns-clause-quiet : goal.returns-clause-quiet
returns-clause-quiet c = quiet_truths_narrow_nothing
