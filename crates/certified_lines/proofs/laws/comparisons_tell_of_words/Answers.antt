use Rattle.certified_lines.proofs.Numbers as proof
use Rattle.certified_lines.proofs.laws.comparisons_tell_of_words.Goals as goal

pub returns-clause-greater : goal.returns-clause-greater
returns-clause-greater c = proof.greater_words_are_told

pub returns-clause-lesser : goal.returns-clause-lesser
returns-clause-lesser c = proof.lesser_words_are_told

pub returns-clause-equal : goal.returns-clause-equal
returns-clause-equal c = proof.equal_words_are_told

pub returns-clause-opposite : goal.returns-clause-opposite
returns-clause-opposite c = proof.opposites_are_told

pub returns-clause-nowhere : goal.returns-clause-nowhere
returns-clause-nowhere c = proof.nothing_is_told_from_nowhere
