-- The front that the program finds.
use Rattle.scalar_ranges.specs.declared.fronts.Front as code_front
use Rattle.scalar_ranges.specs.Fronts.{Front}

abbrev pub seen_front : code_front.Front → Front
seen_front f = record { value = f.value; operands = f.operands }
