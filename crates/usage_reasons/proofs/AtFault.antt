-- Why tokens are at fault.
use Rattle.std.proofs.Common.{ℕ, List, Option, Some, None}
use Rattle.std.specs.Prelude.{IfSome}
use Rattle.scalar_ranges.specs.Entries.{Entry}
use Rattle.usage_reasons.specs.declared.cause.Cause.{Cause}
use Rattle.occam_parser.specs.Terminals.{Terminal}
use Rattle.usage_reasons.specs.Causes.{Explains, IsCause}
use Rattle.usage_reasons.proofs.Parts.{of_cause_if}
use Rattle.usage_reasons.specs.AtFault.{IsAtFault, broken}

-- by what a scope knows
pub explained : (es : List Entry) (c : Cause) → Explains es c → IsAtFault c
explained es c h = broken es c.why h

-- of each cause that is found
pub explained_if : (es : List Entry) (r : Option Cause) → IfSome r (Explains es) → IfSome r IsAtFault
explained_if es None h = h
explained_if es (Some c) h = explained es c h

-- of each part of a line that is found
pub caused_if : (es : List Entry) (line : List Terminal) (at : ℕ) (r : Option Cause) → IfSome r (IsCause es line at)
    → IfSome r IsAtFault
caused_if es line at r h = explained_if es r (of_cause_if es line at r h)
