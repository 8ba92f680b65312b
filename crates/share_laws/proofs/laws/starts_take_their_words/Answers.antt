use Rattle.share_laws.proofs.TakenWords.{starts_take_their_words, openings_take_their_words, starts_keep_openers}
use Rattle.share_laws.proofs.laws.starts_take_their_words.Goals as goal

pub returns-clause-starts : goal.returns-clause-starts
returns-clause-starts c = starts_take_their_words

pub returns-clause-openings : goal.returns-clause-openings
returns-clause-openings c = openings_take_their_words

pub returns-clause-openers : goal.returns-clause-openers
returns-clause-openers c = starts_keep_openers
