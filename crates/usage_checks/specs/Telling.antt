-- Which fault of a program is reported, if memory was enough.
use Rattle.std.specs.Prelude.{◌≡◌, true, if◌then◌else◌, Option, Some}
use Rattle.program_uses.specs.declared.faults.TheConstants.{MEMORY}
use Rattle.program_uses.specs.declared.telling.UsageFault.{UsageFault}
use Rattle.program_uses.specs.Telling.{IsFirst, Among}
use Rattle.usage_checks.specs.declared.telling.Findings.{Findings}

-- what is reported where memory ran out
abbrev pub out_of_memory : UsageFault
out_of_memory = record { number = MEMORY; line = 0 }

abbrev pub verdict : Findings → Option UsageFault
verdict f = if f.complete then f.first else Some out_of_memory

-- A part of a program is gone over. If memory was enough, what is known after it is what is wanted, and of the faults
-- so far and of those in it the first one is reported.
pub record Walks {K : Type 0} (old new : Findings) (after wanted : K) (Breaks : UsageFault → Type 0) : Type 0 where
  pub complete : new.complete ≡ true → old.complete ≡ true
  pub known : new.complete ≡ true → after ≡ wanted
  pub first : new.complete ≡ true → IsFirst (Among old.first Breaks) new.first
