use Rattle.prefix_decoder.proofs.Spellings.{IsSpelling-spelling}
use Rattle.prefix_decoder.proofs.laws.each_operand_has_a_spelling.Goals as goal

pub returns : goal.returns
returns c = IsSpelling-spelling
