-- The number of each fault, and how it is reported.
use Rattle.std.specs.Prelude.{ℕ}
use Rattle.occam_layout.specs.declared.fault.TheConstants.{ODD_INDENTATION, TOO_DEEP, CHARACTER, LITERAL, TOO_LARGE}
use Rattle.occam_layout.specs.declared.fault.TheConstants.{MEMORY}
use Rattle.occam_layout.specs.declared.fault.Fault.{Fault}
use Rattle.occam_layout.specs.declared.fault.Fault.TheVariants.{OddIndentation, TooDeep, Character, Literal, TooLarge}
use Rattle.occam_layout.specs.declared.fault.LayoutFault.{LayoutFault}
use Rattle.occam_layout.specs.declared.fault.ScanError.{ScanError}
use Rattle.occam_layout.specs.declared.fault.ScanError.TheVariants as errors

abbrev pub number_of : Fault → ℕ
number_of OddIndentation = ODD_INDENTATION
number_of TooDeep = TOO_DEEP
number_of Character = CHARACTER
number_of Literal = LITERAL
number_of TooLarge = TOO_LARGE

-- a fault, at a line
abbrev pub refused : Fault → ℕ → LayoutFault
refused fault line = record { number = number_of fault; line = line }

-- memory ran out, which is no line's fault
abbrev pub out_of_memory : LayoutFault
out_of_memory = record { number = MEMORY; line = 0 }

abbrev pub scan_refused : ScanError → ℕ → LayoutFault
scan_refused errors.Memory line = out_of_memory
scan_refused (errors.Fault fault) line = refused fault line
