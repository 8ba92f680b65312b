use Rattle.certified_modules.proofs.RootRows as proof
use Rattle.certified_modules.proofs.laws.rows_are_implied.Goals as goal

pub returns-clause-says : goal.returns-clause-says
returns-clause-says c = proof.rows_say_their_pieces

pub returns-clause-implied : goal.returns-clause-implied
returns-clause-implied c = proof.implied_rows_are_below

pub returns-clause-entered : goal.returns-clause-entered
returns-clause-entered c = proof.entered_rows_are_below
