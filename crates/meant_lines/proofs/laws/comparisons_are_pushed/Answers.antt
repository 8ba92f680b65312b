use Rattle.meant_lines.proofs.Comparisons.{comparisons_push}
use Rattle.meant_lines.proofs.laws.comparisons_are_pushed.Goals as goal

pub returns : goal.returns
returns c = record { comparisons = comparisons_push }
