use Rattle.certified_actions.proofs.Zeroing as proof
use Rattle.certified_actions.proofs.laws.words_are_set.Goals as goal

pub returns-clause-scalars : goal.returns-clause-scalars
returns-clause-scalars c = proof.scalars_are_zero

pub returns-clause-arrays : goal.returns-clause-arrays
returns-clause-arrays c = proof.arrays_are_full
