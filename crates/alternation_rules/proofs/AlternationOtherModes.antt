-- In another mode than its own an operation of an alternation breaks a rule.
use Rattle.std.proofs.Common.{ℕ, refl}
use Rattle.module_format.specs.Rows.{Fact}
use Rattle.states.specs.declared.rule.Rule.TheVariants as rules
use Rattle.states.specs.declared.known.Mode.{Mode}
use Rattle.states.specs.declared.known.Mode.TheVariants.{Plain, Enabling, Disabling, Starting}
use Rattle.states.specs.declared.known.GuardKind.{GuardKind}
use Rattle.states.specs.State.{State}
use Rattle.rulings.specs.Rulings.{Ruling, Site}
use Rattle.rulings.proofs.OtherModes.{Breaks, uses_break, wants_break, settles_break, names_break}
use Rattle.alternation_rules.specs.AlternationRules.{while_plain, while_enabling, while_disabling}
use Rattle.alternation_rules.specs.AlternationRules.{alt_rule, enables, enbc_rule, enbs_rule, altwt_rule, disables}
use Rattle.alternation_rules.specs.AlternationRules.{disc_rule, diss_rule, altend_rule}
use Rattle.alternation_rules.specs.ModesAsked.{IsPlain, IsEnabling, IsDisabling, ModesAreAsked}

plain_breaks : (mode : Mode) → (IsPlain mode → ⊥) → (r : Ruling) → Breaks (while_plain mode r)
unfolding while_plain
plain_breaks Plain other r = absurd (other refl)
plain_breaks Enabling other r = (rules.Alternation, refl)
plain_breaks (Disabling done) other r = (rules.Alternation, refl)
plain_breaks (Starting row started) other r = (rules.Alternation, refl)

enabling_breaks : (mode : Mode) → (IsEnabling mode → ⊥) → (r : Ruling) → Breaks (while_enabling mode r)
unfolding while_enabling
enabling_breaks Plain other r = (rules.Alternation, refl)
enabling_breaks Enabling other r = absurd (other refl)
enabling_breaks (Disabling done) other r = (rules.Alternation, refl)
enabling_breaks (Starting row started) other r = (rules.Alternation, refl)

disabling_breaks : (mode : Mode) → (IsDisabling mode → ⊥) → (r : ℕ → Ruling) → Breaks (while_disabling mode r)
unfolding while_disabling
disabling_breaks Plain other r = (rules.Alternation, refl)
disabling_breaks Enabling other r = (rules.Alternation, refl)
disabling_breaks (Disabling done) other r = absurd (other (done, refl))
disabling_breaks (Starting row started) other r = (rules.Alternation, refl)

module _ (site : Site) (s : State) where
  alt_breaks : (IsPlain s.mode → ⊥) → Breaks (alt_rule site s)
  unfolding alt_rule
  alt_breaks other = plain_breaks s.mode other _

  enables_break : (IsEnabling s.mode → ⊥) → (kind : GuardKind) → Breaks (enables site s kind)
  unfolding enables
  enables_break other kind = enabling_breaks s.mode other _

  enbc_breaks : (IsEnabling s.mode → ⊥) → Breaks (enbc_rule site s)
  unfolding enbc_rule
  enbc_breaks other =
      uses_break _ _ (λ a. uses_break _ _ (λ b.
      names_break b _ (λ kind. wants_break _ _ _ (enables_break other _))))

  enbs_breaks : (IsEnabling s.mode → ⊥) → Breaks (enbs_rule site s)
  unfolding enbs_rule
  enbs_breaks other = uses_break _ _ (λ a. enables_break other _)

  altwt_breaks : (IsEnabling s.mode → ⊥) → Breaks (altwt_rule site s)
  unfolding altwt_rule
  altwt_breaks other = enabling_breaks s.mode other _

  disables_break : (IsDisabling s.mode → ⊥) → (kind : GuardKind) (distance : Fact)
      → Breaks (disables site s kind distance)
  unfolding disables
  disables_break other kind distance = disabling_breaks s.mode other _

  disc_breaks : (IsDisabling s.mode → ⊥) → Breaks (disc_rule site s)
  unfolding disc_rule
  disc_breaks other =
      uses_break _ _ (λ a. uses_break _ _ (λ b. uses_break _ _ (λ c. wants_break _ _ _
      (settles_break _ _ (λ kind. wants_break _ _ _ (disables_break other _ a))))))

  diss_breaks : (IsDisabling s.mode → ⊥) → Breaks (diss_rule site s)
  unfolding diss_rule
  diss_breaks other = uses_break _ _ (λ a. uses_break _ _ (λ b. disables_break other _ a))

  altend_breaks : (IsDisabling s.mode → ⊥) → Breaks (altend_rule site s)
  unfolding altend_rule
  altend_breaks other = disabling_breaks s.mode other _

pub modes_are_asked : ModesAreAsked
modes_are_asked = record {
  alt = alt_breaks;
  enbc = enbc_breaks;
  enbs = enbs_breaks;
  altwt = altwt_breaks;
  disc = disc_breaks;
  diss = diss_breaks;
  altend = altend_breaks;
}
