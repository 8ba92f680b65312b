use Rattle.world_laws.proofs.HeldNow.{all_written_is_data}
use Rattle.world_laws.proofs.InsideMemory.{holdings_lie}
use Rattle.world_laws.proofs.laws.holdings_lie_in_memory.Goals as goal

pub returns-clause-inside : goal.returns-clause-inside
returns-clause-inside c = holdings_lie

pub returns-clause-written : goal.returns-clause-written
returns-clause-written c = all_written_is_data
