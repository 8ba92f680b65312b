use Rattle.module_format.proofs.ReadsInSteps.{has_at}
use Rattle.module_format.proofs.FileLaws.{read_finds}
use Rattle.module_format.proofs.laws.reading_finds.Goals as goal

pub returns : goal.returns
returns c = λ bytes version d fits e. has_at _ _ (read_finds bytes fits) e
