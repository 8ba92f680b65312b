use Rattle.certified_modules.proofs.RowsSay as proof
use Rattle.certified_modules.proofs.laws.rows_tell.Goals as goal

pub returns-clause-entries : goal.returns-clause-entries
returns-clause-entries c = proof.rows_tell_their_entries

pub returns-clause-others : goal.returns-clause-others
returns-clause-others c = proof.rows_tell_nothing_else

pub returns-clause-parts : goal.returns-clause-parts
returns-clause-parts c = proof.implying_is_of_entries

pub returns-clause-stay : goal.returns-clause-stay
returns-clause-stay c = proof.rows_stay_implied

pub returns-clause-entered : goal.returns-clause-entered
returns-clause-entered c = proof.loops_are_entered_among_others
