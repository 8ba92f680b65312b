use Rattle.world_laws.proofs.ParkedLaws.{parked_words_are_blank, selections_are_blank}
use Rattle.world_laws.proofs.laws.parked_words_are_blank.Goals as goal

pub returns-clause-below : goal.returns-clause-below
returns-clause-below c = parked_words_are_blank

pub returns-clause-selection : goal.returns-clause-selection
returns-clause-selection c = selections_are_blank
