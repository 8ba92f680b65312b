-- What is ruled of a message each of whose tests passes, with other terms for what is tested.
use Rattle.std.proofs.Common.{◌≡◌, ℤ, ◌+ℤ◌, Result, subst, ◌∙◌}
use Rattle.module_format.specs.Rows.{Fact}
use Rattle.module_format.specs.declared.rows.Direction.TheVariants.{In, Out}
use Rattle.states.specs.declared.rule.Rule.{Rule}
use Rattle.states.specs.State.{State}
use Rattle.rulings.specs.declared.continuation.Continuation.{Continuation}
use Rattle.rulings.specs.declared.pointers.Pointed.{Pointed}
use Rattle.rulings.specs.Rulings.{Ruling, Site}
use Rattle.rulings.specs.Telling.{Advances}
use Rattle.rulings.proofs.Steps.{advances-by}
use Rattle.message_rules.specs.MessageRules.{exchanges, gives, over_channel, receives, received, sends, takes}

-- a message goes
pub sent-told : (r : Result Continuation Rule) (after : State) (site : Site) (s now : State) (channel : Fact)
    (count n : ℤ) (p : Pointed) → now ≡ s → n ≡ count → ((k : Ruling) → gives site now count p k ≡ k)
    → ((k : Ruling) → over_channel site now channel Out n k ≡ k) → Advances r after (exchanges site now)
    → Advances r after (sends site s channel count p)
unfolding sends
sent-told r after site s now channel count n p now_is n_is given over told =
    subst (λ (t : State). Advances r after (sends site t channel count p)) now_is
    (advances-by r after _ _
    (given _ ∙ subst (λ (z : ℤ). over_channel site now channel Out z (exchanges site now) ≡ exchanges site now) n_is
    (over _)) told)

-- a message comes
pub received-told : (r : Result Continuation Rule) (after : State) (site : Site) (s next : State) (channel : Fact)
    (count n : ℤ) (p : Pointed) → next ≡ received p (p.hi +ℤ count) s → n ≡ count
    → ((k : Ruling) → takes site s count p k ≡ k) → ((k : Ruling) → over_channel site s channel In n k ≡ k)
    → Advances r after (exchanges site next) → Advances r after (receives site s channel count p)
unfolding receives
received-told r after site s next channel count n p next_is n_is taken over told =
    advances-by r after _ _
    (taken _ ∙ subst (λ (z : ℤ). over_channel site s channel In z (exchanges site (received p (p.hi +ℤ count) s))
    ≡ exchanges site (received p (p.hi +ℤ count) s)) n_is (over _))
    (subst (λ (t : State). Advances r after (exchanges site t)) next_is told)
