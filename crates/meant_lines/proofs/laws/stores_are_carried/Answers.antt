use Rattle.meant_lines.proofs.Storing.{scalars_are_carried, elements_are_carried, bytes_are_carried}
use Rattle.meant_lines.proofs.laws.stores_are_carried.Goals as goal

pub returns-clause-scalars : goal.returns-clause-scalars
returns-clause-scalars c = scalars_are_carried

pub returns-clause-elements : goal.returns-clause-elements
returns-clause-elements c = elements_are_carried

pub returns-clause-bytes : goal.returns-clause-bytes
returns-clause-bytes c = bytes_are_carried
