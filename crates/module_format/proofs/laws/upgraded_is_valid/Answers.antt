use Rattle.module_format.proofs.FileLaws.{upgraded}
use Rattle.module_format.proofs.laws.upgraded_is_valid.Goals as goal

pub returns : goal.returns
returns c = upgraded
