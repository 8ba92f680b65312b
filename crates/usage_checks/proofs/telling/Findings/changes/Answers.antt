use Rattle.std.proofs.Common.{ap}
use Rattle.scalar_ranges.specs.Moves.{is_one_of}
use Rattle.usage_checks.proofs.telling.Findings.changes.Goals as goal

pub returns-in-Ok-clause-numbers : goal.returns-in-Ok-clause-numbers
returns-in-Ok-clause-numbers c = λ e n. ap (λ ns. is_one_of ns n) c.in-Ok.ensures.numbers
