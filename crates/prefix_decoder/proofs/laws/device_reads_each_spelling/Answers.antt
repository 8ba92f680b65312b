use Rattle.prefix_decoder.proofs.Reading.{read-spelling}
use Rattle.prefix_decoder.proofs.laws.device_reads_each_spelling.Goals as goal

pub returns : goal.returns
returns c = read-spelling
