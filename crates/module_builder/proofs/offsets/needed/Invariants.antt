use Rattle.std.proofs.Common.{◌≡◌, take}
use Rattle.module_builder.specs.Layouts.{bytes_from}
use Rattle.module_builder.proofs.offsets.needed.Given as goal

abbrev pub invariant-loop-number : goal.invariant-loop-number
invariant-loop-number g l = l.needed.items ≡ bytes_from l.code (g.P.Offsets.lengths l.places) 0 (take l.number l.items)
