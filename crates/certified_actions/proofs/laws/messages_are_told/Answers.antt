use Rattle.certified_actions.proofs.Messages as proof
use Rattle.certified_actions.proofs.laws.messages_are_told.Goals as goal

pub returns-clause-received : goal.returns-clause-received
returns-clause-received c = proof.received_bytes_are_known

pub returns-clause-sent : goal.returns-clause-sent
returns-clause-sent c = proof.sent_bytes_are_known

pub returns-clause-stopped : goal.returns-clause-stopped
returns-clause-stopped c = proof.stops_end
