use Rattle.share_laws.proofs.Climbing.{changes_climb, other_words_stay, changes_are_by_a_branch}
use Rattle.share_laws.proofs.laws.changes_climb.Goals as goal

pub returns-clause-climb : goal.returns-clause-climb
returns-clause-climb c = changes_climb

pub returns-clause-words : goal.returns-clause-words
returns-clause-words c = other_words_stay

pub returns-clause-above : goal.returns-clause-above
returns-clause-above c = changes_are_by_a_branch
