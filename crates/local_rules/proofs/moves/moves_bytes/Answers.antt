use Rattle.std.proofs.Common.{rules}
use Rattle.local_rules.specs.MoveRules.{moves_bytes}
use Rattle.local_rules.proofs.moves.moves_bytes.Goals as goal

pub returns-then-block-eq0-clause-belongs : goal.returns-then-block-eq0-clause-belongs
returns-then-block-eq0-clause-belongs c = c.clears.ensures.belongs c.args.place.now.module.now c.requires

pub moves_some-requires-clause-belongs : goal.moves_some-requires-clause-belongs
moves_some-requires-clause-belongs c = c.sum_reached.ensures.belongs c.args.place.now.module.now c.requires

pub returns-clause-ruling : goal.returns-clause-ruling
unfolding moves_bytes
returns-clause-ruling c = search rules
