-- Sums and differences that may not fit a word.
use Rattle.std.specs.Prelude.{ℤ, pos, ◌+ℤ◌, ◌-ℤ◌, ◌*ℤ◌, Option, Some, None}
use Rattle.word_arithmetic.specs.declared.binary.Binary.TheVariants as binary
use Rattle.module_format.specs.Rows.{Fact}
use Rattle.module_format.specs.declared.fact.Fact.TheVariants.{Number}
use Rattle.module_format.specs.declared.stack.Stack.{Stack}
use Rattle.machine_state.specs.declared.op.Op.TheVariants.{Binary}
use Rattle.machine_state.specs.declared.instruction.Instruction.{Instruction}
use Rattle.machine_state.specs.declared.instruction.Instruction.TheVariants.{WithConstant, LoadNonLocalPointer}
use Rattle.machine_state.specs.declared.instruction.Instruction.TheVariants.{Operate}
use Rattle.states.specs.declared.known.Known.{Known}
use Rattle.fact_texts.specs.declared.facts.RangeText.{RangeText}

-- a range that may not fit a word
abbrev pub range_from : ℤ → ℤ → Option RangeText
range_from lo hi = Some (record { lo = lo; hi = hi })

-- a number that is moved by a distance
abbrev pub moved : Fact → ℤ → Option RangeText
moved (Number lo hi) by = range_from (lo +ℤ by) (hi +ℤ by)
moved fact by = None

abbrev pub sum_of : Fact → Fact → Option RangeText
sum_of (Number lo hi) (Number low high) = range_from (lo +ℤ low) (hi +ℤ high)
sum_of fact other = None

-- the second, less the first
abbrev pub difference_of : Fact → Fact → Option RangeText
difference_of (Number lo hi) (Number low high) = range_from (low -ℤ hi) (high -ℤ lo)
difference_of fact other = None

-- the range of a checked sum or difference
unfoldable pub result_of : Instruction → ℤ → Stack Known → Option RangeText
result_of (WithConstant binary.Add) e stack = moved stack.a.fact e
result_of LoadNonLocalPointer e stack = moved stack.a.fact (pos 4 *ℤ e)
result_of (Operate (Binary binary.Add)) e stack = sum_of stack.a.fact stack.b.fact
result_of (Operate (Binary binary.Subtract)) e stack = difference_of stack.a.fact stack.b.fact
result_of i e stack = None
