use Rattle.meant_lines.proofs.PartsStand.{code_stores_within, parts_stand}
use Rattle.meant_lines.proofs.laws.parts_of_code_stand.Goals as goal

pub returns-clause-whole : goal.returns-clause-whole
returns-clause-whole c = code_stores_within

pub returns-clause-parts : goal.returns-clause-parts
returns-clause-parts c = parts_stand
