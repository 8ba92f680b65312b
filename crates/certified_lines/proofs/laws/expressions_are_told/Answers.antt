use Rattle.certified_lines.proofs.Induction.{expressions_tell}
use Rattle.certified_lines.proofs.laws.expressions_are_told.Goals as goal

pub returns : goal.returns
returns c = record { expressions = expressions_tell }
