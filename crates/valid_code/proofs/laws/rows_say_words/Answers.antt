use Rattle.valid_code.proofs.RowsInTurn as turn
use Rattle.valid_code.proofs.RowsSaid as said
use Rattle.valid_code.proofs.laws.rows_say_words.Goals as goal

pub returns-clause-turn : goal.returns-clause-turn
returns-clause-turn c = turn.rows_are_in_turn

pub returns-clause-said : goal.returns-clause-said
returns-clause-said c = said.rows_are_said
