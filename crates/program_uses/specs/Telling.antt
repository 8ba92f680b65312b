-- Which fault of a program is reported: one at the lowest line, and there the one with the lowest number.
use Rattle.std.specs.Prelude.{◌≡◌, ℕ, ◌<◌, ◌≤◌, nat_lt, nat_eq, Bool, ◌&&◌, ◌||◌, ◌⊎◌, if◌then◌else◌}
use Rattle.std.specs.Prelude.{Option, Some, None, IfSome, IsSomeAnd}
use Rattle.program_uses.specs.declared.telling.UsageFault.{UsageFault}

abbrev pub NotAfter : UsageFault → UsageFault → Type 0
NotAfter f g = (f.line < g.line) ⊎ ((f.line ≡ g.line) × (f.number ≤ g.number))

-- If there is a fault, one is reported, and none is before it.
pub record IsFirst (Breaks : UsageFault → Type 0) (told : Option UsageFault) : Type 0 where
  pub broken : IfSome told Breaks
  pub first : (f : UsageFault) → Breaks f → IsSomeAnd told (λ g. NotAfter g f)

abbrev pub is_before : UsageFault → UsageFault → Bool
is_before f g = nat_lt f.line g.line || (nat_eq f.line g.line && nat_lt f.number g.number)

abbrev pub earlier : Option UsageFault → Option UsageFault → Option UsageFault
earlier None g = g
earlier (Some f) None = Some f
earlier (Some f) (Some g) = if is_before g f then Some g else Some f

abbrev pub fault_at : ℕ → Option ℕ → Option UsageFault
fault_at line None = None
fault_at line (Some number) = Some (record { number = number; line = line })

-- a rule that is broken on this line
abbrev pub At : ℕ → (ℕ → Type 0) → UsageFault → Type 0
At line Breaks f = (f.line ≡ line) × Breaks f.number

-- the fault that was reported before, or a further one
abbrev pub Among : Option UsageFault → (UsageFault → Type 0) → UsageFault → Type 0
Among old Breaks f = (old ≡ Some f) ⊎ Breaks f
