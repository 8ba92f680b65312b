use Rattle.module_format.proofs.OffsetSetLaws.{none_added}
use Rattle.module_format.proofs.offset_set.OffsetSet.new.Goals as goal

pub returns : goal.returns
returns c at = none_added 4096 at
