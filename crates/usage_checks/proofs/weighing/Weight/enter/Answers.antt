use Rattle.std.proofs.Common.{map}
use Rattle.occam_parser.specs.LineViews.{declaration_of}
use Rattle.usage_checks.proofs.PartsWeighed.{counts_declared}
use Rattle.usage_checks.proofs.weighing.Weight.enter.Goals as goal

pub returns-else-is_err-clause-weight : goal.returns-else-is_err-clause-weight
returns-else-is_err-clause-weight c =
    counts_declared (map declaration_of c.args.declarations.now) c.size_of_declarations.ensures c.count.ensures
