use Rattle.certified_scopes.proofs.Beside.{more_words_are_in_turn, rising_homes_are_in_turn, scalars_are_beside}
use Rattle.certified_scopes.proofs.laws.words_are_in_turn.Goals as goal

pub returns-clause-more : goal.returns-clause-more
returns-clause-more c = more_words_are_in_turn

pub returns-clause-rising : goal.returns-clause-rising
returns-clause-rising c = rising_homes_are_in_turn

pub returns-clause-beside : goal.returns-clause-beside
returns-clause-beside c = scalars_are_beside
