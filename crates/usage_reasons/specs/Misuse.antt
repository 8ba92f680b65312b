-- O15: why a channel may not be used in a direction where it is.
use Rattle.std.specs.Prelude.{◌≡◌, ℕ, false, List}
use Rattle.program_uses.specs.declared.uses.Direction.{Direction}
use Rattle.usage_checks.specs.declared.channel_rules.Position.{Position}
use Rattle.usage_checks.specs.ChannelRules.{is_inside, is_right_way}
use Rattle.usage_reasons.specs.declared.reason.Why.{Why}
use Rattle.usage_reasons.specs.declared.reason.Why.TheVariants as why

-- the channel of this name, whose declaration has this number
pub data IsMisuse (p : Position) (name : List ℕ) (number : ℕ) : Why → Type 0 where
  outside_par : is_inside p number ≡ false → IsMisuse p name number why.OutsidePar
  other_direction : (d : Direction) → is_right_way p name number d ≡ false
      → IsMisuse p name number (why.OtherDirection d)
