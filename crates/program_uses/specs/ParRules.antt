-- The rule of PAR: what its components use of the names around it.
use Rattle.std.specs.Prelude.{◌≡◌, ℕ, nat_lt, Bool, true, ◌&&◌, ◌||◌}
use Rattle.program_uses.specs.declared.faults.TheConstants.{SHARED_VARIABLE, CHANNEL_USE}
use Rattle.program_uses.specs.declared.uses.Use.{Use}
use Rattle.program_uses.specs.declared.uses.Use.TheVariants as used

-- Of this number of names around, a variable is changed by one component and used by another, or an
-- end of a channel is used by both.
abbrev pub is_shared : ℕ → (Use → Bool) → Use → Bool
is_shared count before (used.Read n) = nat_lt n count && before (used.Change n)
is_shared count before (used.Change n) = nat_lt n count && (before (used.Read n) || before (used.Change n))
is_shared count before (used.Channel n i d) = nat_lt n count && before (used.Channel n i d)

abbrev pub shared_fault : Use → ℕ
shared_fault (used.Read n) = SHARED_VARIABLE
shared_fault (used.Change n) = SHARED_VARIABLE
shared_fault (used.Channel n i d) = CHANNEL_USE

-- O14 and O15
abbrev pub IsShared : ℕ → (Use → Bool) → Use → ℕ → Type 0
IsShared count before u n = (is_shared count before u ≡ true) × (n ≡ shared_fault u)

-- of a component, and of those before it
abbrev pub BreaksSharing : ℕ → (before component : Use → Bool) → ℕ → Type 0
BreaksSharing count before component n = (u : Use) × (component u ≡ true) × IsShared count before u n
