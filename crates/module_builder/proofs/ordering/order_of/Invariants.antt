use Rattle.std.proofs.Common.{◌≡◌, take}
use Rattle.module_builder.specs.Ordering.{numbered}
use Rattle.module_builder.proofs.ordering.order_of.Given as goal

abbrev pub invariant-loop-number : goal.invariant-loop-number
invariant-loop-number l = l.order.items ≡ numbered 0 (take l.number l.keys)
