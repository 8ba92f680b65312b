use Rattle.module_format.proofs.FileLaws.{upgraded_same}
use Rattle.module_format.proofs.laws.upgraded_says_the_same.Goals as goal

pub returns : goal.returns
returns c = upgraded_same
