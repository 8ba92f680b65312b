use Rattle.meant_lines.proofs.Zeroing as proof
use Rattle.meant_lines.proofs.laws.words_are_zeroed.Goals as goal

pub returns-clause-scalars : goal.returns-clause-scalars
returns-clause-scalars c = proof.scalars_are_zeroed

pub returns-clause-arrays : goal.returns-clause-arrays
returns-clause-arrays c = proof.arrays_are_zeroed
