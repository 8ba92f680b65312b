use Rattle.meant_lines.proofs.Carrying.{outer_words_stay, one_name_changes}
use Rattle.meant_lines.proofs.Shapes.{same_shapes_carry}
use Rattle.meant_lines.proofs.laws.names_are_carried.Goals as goal

pub returns-clause-stays : goal.returns-clause-stays
returns-clause-stays c = outer_words_stay

pub returns-clause-changes : goal.returns-clause-changes
returns-clause-changes c = one_name_changes

pub returns-clause-shapes : goal.returns-clause-shapes
returns-clause-shapes c = same_shapes_carry
