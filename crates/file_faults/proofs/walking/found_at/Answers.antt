use Rattle.std.proofs.Common.{add-one}
use Rattle.file_faults.proofs.walking.found_at.Goals as goal

pub loop-number-preserved : goal.loop-number-preserved
loop-number-preserved c = rw add-one cc
