use Rattle.module_format.proofs.FileLaws.{read_again}
use Rattle.module_format.proofs.laws.reading_again.Goals as goal

pub returns : goal.returns
returns c = read_again
