-- Each operation of an alternation is allowed in one mode only.
use Rattle.std.specs.Prelude.{◌≡◌, ℕ}
use Rattle.states.specs.declared.rule.Rule.{Rule}
use Rattle.states.specs.declared.known.Mode.{Mode}
use Rattle.states.specs.declared.known.Mode.TheVariants.{Plain, Enabling, Disabling}
use Rattle.states.specs.State.{State}
use Rattle.rulings.specs.Rulings.{Ruling, breaks, Site}
use Rattle.alternation_rules.specs.AlternationRules.{alt_rule, enbc_rule, enbs_rule, altwt_rule, disc_rule, diss_rule}
use Rattle.alternation_rules.specs.AlternationRules.{altend_rule}

-- in a state whose mode is none of these, some rule is broken
abbrev pub BreaksUnless : (Mode → Type 0) → (Site → State → Ruling) → Type 0
BreaksUnless IsOwn rule =
    (site : Site) (s : State) → (IsOwn s.mode → ⊥) → (broken : Rule) × (rule site s ≡ breaks broken)

abbrev pub IsPlain : Mode → Type 0
IsPlain mode = mode ≡ Plain

abbrev pub IsEnabling : Mode → Type 0
IsEnabling mode = mode ≡ Enabling

abbrev pub IsDisabling : Mode → Type 0
IsDisabling mode = (done : ℕ) × (mode ≡ Disabling done)

-- An alternation begins in the middle of nothing. What enables comes before `altwt`, and what disables after it.
pub record ModesAreAsked : Type 0 where
  pub alt : BreaksUnless IsPlain alt_rule
  pub enbc : BreaksUnless IsEnabling enbc_rule
  pub enbs : BreaksUnless IsEnabling enbs_rule
  pub altwt : BreaksUnless IsEnabling altwt_rule
  pub disc : BreaksUnless IsDisabling disc_rule
  pub diss : BreaksUnless IsDisabling diss_rule
  pub altend : BreaksUnless IsDisabling altend_rule
