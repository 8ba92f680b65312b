use Rattle.prefix_decoder.proofs.Spellings.{IsSpelling-same}
use Rattle.prefix_decoder.proofs.laws.no_second_spelling.Goals as goal

pub returns : goal.returns
returns c = IsSpelling-same
