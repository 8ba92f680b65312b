use Rattle.std.proofs.Common.{rules}
use Rattle.std.proofs.lemmas.Fn.{always_returns_same}
use Rattle.source_lines.specs.declared.entry.LineEntry.{LineEntry}
use Rattle.compiler.proofs.lining.sort.Goals as goal

pub returns-clause-sorted : goal.returns-clause-sorted
returns-clause-sorted c =
    c.in_ok-sort_by_key.ensures.sorted (λ (entry : LineEntry). entry.offset)
    (always_returns_same _ _ _ (λ a r f' h. search rules))
