-- What two sets of uses have in common.
use Rattle.std.specs.Prelude.{◌≡◌, ℕ, ◌<◌, true, ◌⊎◌}
use Rattle.program_uses.specs.declared.ends.ChannelEnd.{ChannelEnd}
use Rattle.program_uses.specs.declared.used_ends.UsedEnds.{UsedEnds}
use Rattle.program_uses.specs.declared.uses.Uses.{Uses}
use Rattle.program_uses.specs.Numbers.{Meets}
use Rattle.program_uses.specs.Sets.{is_among, use_of, uses_at}

-- an end of a channel that has a number below this one
abbrev pub AreBoth : ℕ → (s t : UsedEnds) → Type 0
AreBoth count s t =
    (d : ChannelEnd) × (d.channel < count) × (is_among (uses_at s) (use_of d) ≡ true)
    × (is_among (uses_at t) (use_of d) ≡ true)

-- a variable with a number below this one that one of them changes
abbrev pub ChangesUsed : ℕ → (s t : Uses) → Type 0
ChangesUsed count s t =
    Meets count s.changes t.changes ⊎ (Meets count s.changes t.reads ⊎ Meets count s.reads t.changes)
