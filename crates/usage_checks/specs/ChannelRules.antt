-- The rules of channels: what is received from and sent to, and where.
use Rattle.std.specs.Prelude.{◌≡◌, ℕ, nat_le, nat_lt, Bool, true, false, ◌&&◌, ◌||◌, List, ◌⊎◌}
use Rattle.std.specs.Prelude.{if◌then◌else◌, Option, Some, None, Result, Ok}
use Rattle.occam_parser.specs.Lines.{Place}
use Rattle.scalar_ranges.specs.declared.types.ExprType.{ExprType}
use Rattle.scalar_ranges.specs.Entries.{Entry, number_in}
use Rattle.program_uses.specs.declared.faults.TheConstants.{CHANNEL_USE}
use Rattle.program_uses.specs.declared.uses.Direction.{Direction}
use Rattle.program_uses.specs.LinkNames.{link_way}
use Rattle.program_uses.specs.Sets.{is_same_way}
use Rattle.usage_checks.specs.declared.channel_rules.Position.{Position}
use Rattle.usage_checks.specs.PlaceRules.{channel_at, BreaksChannel}

abbrev pub is_way : Option Direction → Direction → Bool
is_way None d = true
is_way (Some way) d = is_same_way way d

-- a formal of main
abbrev pub is_formal_of_main : Position → ℕ → Bool
is_formal_of_main p number = p.is_main && (nat_le p.formals number && nat_lt number p.declared)

-- a channel that a line declares is used inside a PAR in its scope
abbrev pub is_inside : Position → ℕ → Bool
is_inside p number = nat_lt number p.declared || nat_lt number p.parallel

abbrev pub is_right_way : Position → List ℕ → ℕ → Direction → Bool
is_right_way p name number d = if is_formal_of_main p number then is_way (link_way name) d else true

-- O15
abbrev pub IsMisused : Position → List ℕ → Direction → Option ℕ → Result ExprType ℕ → ℕ → Type 0
IsMisused p name d (Some number) (Ok type) n =
    ((is_inside p number && is_right_way p name number d) ≡ false) × (n ≡ CHANNEL_USE)
IsMisused p name d number type n = ⊥

-- what is received from, or sent to
abbrev pub BreaksEnd : Position → List Entry → Direction → Place → ℕ → Type 0
BreaksEnd p es d channel n =
    BreaksChannel es channel n ⊎ IsMisused p channel.name d (number_in channel.name es) (channel_at es channel) n
