use Rattle.states.proofs.LabelRows.{label_row_at}
use Rattle.states.proofs.laws.label_rows_are_sound.Goals as goal

pub returns-clause-at_offsets : goal.returns-clause-at_offsets
returns-clause-at_offsets c = label_row_at
