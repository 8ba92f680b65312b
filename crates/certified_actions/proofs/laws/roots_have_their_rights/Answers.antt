use Rattle.certified_actions.proofs.Roots as proof
use Rattle.certified_actions.proofs.laws.roots_have_their_rights.Goals as goal

pub returns-clause-schedules : goal.returns-clause-schedules
returns-clause-schedules c = proof.roots_may_schedule

pub returns-clause-words : goal.returns-clause-words
returns-clause-words c = proof.roots_may_use_words

pub returns-clause-sends : goal.returns-clause-sends
returns-clause-sends c = proof.roots_send

pub returns-clause-receives : goal.returns-clause-receives
returns-clause-receives c = proof.roots_receive

pub returns-clause-pieces : goal.returns-clause-pieces
returns-clause-pieces c = proof.roots_allow_their_pieces
