use Rattle.std.proofs.Common.{add-one}
use Rattle.file_faults.proofs.walks.turned.Goals as goal

pub loop-turn-preserved : goal.loop-turn-preserved
loop-turn-preserved c = rw add-one cc
