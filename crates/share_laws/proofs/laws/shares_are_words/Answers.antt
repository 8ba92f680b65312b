use Rattle.share_laws.proofs.ShareBytes.{shares_are_words}
use Rattle.share_laws.proofs.laws.shares_are_words.Goals as goal

pub returns : goal.returns
returns c = shares_are_words
