use Rattle.std.proofs.Common.{take}
use Rattle.std.specs.List.{AllByRecursion}
use Rattle.module_builder.specs.Assembled.{IsThere}
use Rattle.module_builder.proofs.rows.contexts_are_there.Given as goal

abbrev pub invariant-loop-row : goal.invariant-loop-row
invariant-loop-row g l =
    AllByRecursion (λ row. IsThere l.draft l.orders.procedures.items l.orders.pars.items (g.R.Row.kind.context row))
    (take l.row-index l.rows)
