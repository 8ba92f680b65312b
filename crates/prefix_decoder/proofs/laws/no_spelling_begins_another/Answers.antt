use Rattle.prefix_decoder.proofs.Reading.{IsSpelling-apart}
use Rattle.prefix_decoder.proofs.laws.no_spelling_begins_another.Goals as goal

pub returns : goal.returns
returns c = IsSpelling-apart
