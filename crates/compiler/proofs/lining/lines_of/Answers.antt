use Rattle.std.proofs.lemmas.List.Sorted.{All-permutation}
use Rattle.compiler.specs.CodeLines.{IsOnLine}
use Rattle.compiler.proofs.lining.lines_of.Goals as goal

pub returns-clause-on_lines : goal.returns-clause-on_lines
returns-clause-on_lines c = All-permutation (IsOnLine c.args.ends) _ _ c.sort.ensures.all c.in_ok-entries.ensures
