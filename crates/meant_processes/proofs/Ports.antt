-- The channel of an action that is reached is a link of main, used the way of its name, and so it is a port.
use Rattle.std.proofs.Common.{◌≡◌, ℕ, ◌&&◌, ℤ, false, List, Some, Ok, Option, inl, inr, refl, sym, subst}
use Rattle.std.specs.Prelude.{Result}
use Rattle.occam_parser.specs.Lines.{Action, Input, Output, Place}
use Rattle.occam_parser.specs.Blocks.{Act, Does}
use Rattle.scalar_ranges.specs.declared.types.ExprType.{ExprType}
use Rattle.scalar_ranges.specs.Entries.{Entry, meaning_in, number_in}
use Rattle.scalar_ranges.specs.Environments.{Environment}
use Rattle.scalar_ranges.specs.MoveLaws.{shape}
use Rattle.scalar_ranges.specs.Moves.{Known}
use Rattle.program_uses.specs.declared.faults.TheConstants.{CHANNEL_USE}
use Rattle.program_uses.specs.declared.uses.Direction.{Direction}
use Rattle.program_uses.specs.declared.uses.Direction.TheVariants as direction
use Rattle.program_meaning.specs.Links.{Port}
use Rattle.usage_checks.specs.ChannelRules.{IsMisused, is_inside, is_right_way}
use Rattle.usage_checks.specs.ItemRules.{BreaksNoRule}
use Rattle.usage_checks.specs.PlaceRules.{channel_at}
use Rattle.usage_checks.specs.Reaching.{AProcess, Reaches}
use Rattle.usage_checks.proofs.PlacesHold.{places_hold}
use Rattle.code_generator.specs.Processes.{Site}
use Rattle.meant_actions.specs.Checked.{HasPort}
use Rattle.meant_actions.specs.Exchanging.{IsPort}
use Rattle.meant_processes.specs.Places.{AreLinked, IsPlaced, Program, ground, standing}
use Rattle.meant_processes.proofs.Linked.{IsUsed, channel_used, link_port}

-- a channel that is used the wrong way
misused : (p : Program) (es : List Entry) (way : Direction) (channel : Place) (t : ExprType) (n : ℕ)
    → channel_at es channel ≡ Ok t → number_in channel.name es ≡ Some n
    → (is_inside p.position n && is_right_way p.position channel.name n way) ≡ false
    → IsMisused p.position channel.name way (number_in channel.name es) (channel_at es channel) CHANNEL_USE
misused p es way channel t n type number wrong =
    subst (λ (o : Option ℕ). IsMisused p.position channel.name way o (channel_at es channel) CHANNEL_USE) (sym number)
    (subst (λ (r : Result ExprType ℕ). IsMisused p.position channel.name way (Some n) r CHANNEL_USE) (sym type)
    (wrong, refl))

-- any other one is a link, used the way of its name
used_link : (p : Program) (es : List Entry) (way : Direction) (channel : Place) (t : ExprType) → AreLinked p (shape es)
    → channel_at es channel ≡ Ok t
    → (IsMisused p.position channel.name way (number_in channel.name es) (channel_at es channel) CHANNEL_USE → ⊥)
    → IsUsed p es way channel.name channel.subscript
used_link p es way channel t linked type right =
    channel_used p es way channel.name channel.subscript (meaning_in channel.name es) t linked refl type
    (λ n number wrong. right (misused p es way channel t n type number wrong))

-- The channel of an action is one.
abbrev pub UsesLink : Program → List Entry → Action → Type 0
UsesLink p es (Input channel target) = IsUsed p es direction.Input channel.name channel.subscript
UsesLink p es (Output channel value) = IsUsed p es direction.Output channel.name channel.subscript
UsesLink p es action = Unit {0}

-- It is so of an action that is reached.
pub reached_link : (p : Program) → BreaksNoRule p.items → (first line : ℕ) (action : Action) (known : Known)
    → Reaches p.items (standing p) (AProcess first (Does line (Act action))) known → AreLinked p (shape known.entries)
    → UsesLink p known.entries action
reached_link p none first line (Input channel target) known reached linked =
    let right = places_hold p.items (standing p) (AProcess first (Does line (Act (Input channel target)))) known none
    reached in
    used_link p known.entries direction.Input channel right.holds.0 linked right.holds.1.type_is
    (λ wrong. right.unbroken (record { number = CHANNEL_USE; line = line }) (inr (refl, inl (inr wrong))))
reached_link p none first line (Output channel value) known reached linked =
    let right = places_hold p.items (standing p) (AProcess first (Does line (Act (Output channel value)))) known none
    reached in
    used_link p known.entries direction.Output channel right.holds.0 linked right.holds.2.type_is
    (λ wrong. right.unbroken (record { number = CHANNEL_USE; line = line }) (inr (refl, inl (inr wrong))))
reached_link p none first line action known reached linked = tt

pub reached_port : (p : Program) → BreaksNoRule p.items → (first line : ℕ) (action : Action) (s : Site)
    (turns : ℕ → ℤ) (env : Environment)
    → Reaches p.items (standing p) (AProcess first (Does line (Act action))) s.known → IsPlaced p s env
    → HasPort (ground p s.frame.homes turns) s.known.entries env p.ports action
reached_port p none first line action s turns env reached there =
    by action (reached_link p none first line action s.known reached there.sited.linked)
  where
    port : (way : Direction) (channel : Place) → IsUsed p s.known.entries way channel.name channel.subscript
        → (port : Port) × IsPort (ground p s.frame.homes turns) s.known.entries env p.ports way channel port
    port way channel =
        link_port p (ground p s.frame.homes turns) s.known.entries env way channel.name channel.subscript
        there.holds.meets there.sited.links

    by : (action : Action) → UsesLink p s.known.entries action
        → HasPort (ground p s.frame.homes turns) s.known.entries env p.ports action
    by (Input channel target) used = port direction.Input channel used
    by (Output channel value) used = port direction.Output channel used
    by action used = tt
