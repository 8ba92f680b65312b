use Rattle.meant_lines.proofs.Declaring as proof
use Rattle.meant_lines.proofs.laws.new_names_are_carried.Goals as goal

pub returns-clause-names : goal.returns-clause-names
returns-clause-names c = proof.new_names_are_carried

pub returns-clause-scalars : goal.returns-clause-scalars
returns-clause-scalars c = proof.zero_scalars_are_kept

pub returns-clause-arrays : goal.returns-clause-arrays
returns-clause-arrays c = proof.zero_arrays_are_kept
