use Rattle.share_laws.proofs.Bases.{bases_are_frames, frames_are_bases}
use Rattle.share_laws.proofs.laws.bases_are_frames.Goals as goal

pub returns-clause-found : goal.returns-clause-found
returns-clause-found c = bases_are_frames

pub returns-clause-words : goal.returns-clause-words
returns-clause-words c = frames_are_bases
