use Rattle.meant_code.proofs.AmongOthers as others
use Rattle.meant_code.proofs.OwnPrograms as programs
use Rattle.meant_code.proofs.laws.programs_have_parts.Goals as goal

pub returns-clause-parts : goal.returns-clause-parts
returns-clause-parts c = programs.programs_have_parts

pub returns-clause-apart : goal.returns-clause-apart
returns-clause-apart c = others.parts_are_apart

pub returns-clause-stay : goal.returns-clause-stay
returns-clause-stay c = others.parts_stay_parts
