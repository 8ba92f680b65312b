-- The rules and the steps of alternations fit each other in every mode.
use Rattle.std.proofs.Common.{◌≡◌, ◌≤◌, length, false, refl, sym, ap, ◌∙◌}
use Rattle.machine_state.specs.declared.op.Op.{Op}
use Rattle.machine_state.specs.declared.op.Op.TheVariants as operations
use Rattle.machine_state.specs.LocalStep as step
use Rattle.machine_state.specs.Site.{Local}
use Rattle.states.specs.declared.known.Mode as states
use Rattle.states.specs.declared.known.Mode.TheVariants.{Plain, Enabling, Disabling, Starting}
use Rattle.states.specs.State.{State}
use Rattle.rulings.specs.Meaning.{owed, IsWellFormed}
use Rattle.rulings.specs.Guarding.{HasSelected}
use Rattle.rulings.specs.Fitting.{After, Changes, Situation, StandsAt, rule_site, step_site, it_breaks}
use Rattle.rulings.proofs.Within.{Within, AreStill, within, which, in_plain_mode, in_alternation}
use Rattle.rulings.proofs.Within.{among_starts}
use Rattle.rulings.proofs.Within.{is_starting}
use Rattle.rulings.proofs.OtherModes.{breaks_fit}
use Rattle.rulings.proofs.Combining.{FitsIf}
use Rattle.alternation_rules.specs.AlternationRules as alternation
use Rattle.alternation_rules.specs.AlternationFitting.{AlternationFitsStep, AlternationEndFitsStep}
use Rattle.alternation_rules.specs.ModesAsked.{IsEnabling, IsDisabling}
use Rattle.alternation_rules.proofs.AlternationOtherModes.{modes_are_asked}
use Rattle.alternation_rules.proofs.AlternationsFit.{alt_fits, enbc_fits, enbs_fits, altwt_fits, disc_fits, diss_fits}
use Rattle.alternation_rules.proofs.AlternationEndsFit.{altend_fits}

module _ (x : Situation) (wf : IsWellFormed x.m) (s : State) (l : Local) (a : After x.m x.h x.mode x.act s l)
    (same : s.context ≡ x.context) (changes : Changes x l.memory) (n : owed s x.act ≤ x.owed) (here : StandsAt x s l)
  where
    -- the state's mode is the one that an operation asks, with all that its context has, or it is another one
    data OwnMode (IsOwn : states.Mode → Type 0) : Type 0 where
      in_it : IsOwn s.mode → Within AreStill x.m x.h x.mode x.act s l → OwnMode IsOwn
      in_other : (IsOwn s.mode → ⊥) → OwnMode IsOwn

    still_in : (mode : states.Mode) → s.mode ≡ mode → is_starting mode ≡ false
        → Within AreStill x.m x.h x.mode x.act s l
    still_in mode is still =
        let starts = ap is_starting is ∙ still in
        within starts (record { modes = a.same_mode; still = starts }) a

    enabling : OwnMode IsEnabling
    enabling = on s.mode refl
      where
        on : (mode : states.Mode) → s.mode ≡ mode → OwnMode IsEnabling
        on Plain is = in_other (λ e. cc)
        on Enabling is = in_it is (still_in Enabling is refl)
        on (Disabling done) is = in_other (λ e. cc)
        on (Starting row started) is = in_other (λ e. cc)

    disabling : OwnMode IsDisabling
    disabling = on s.mode refl
      where
        on : (mode : states.Mode) → s.mode ≡ mode → OwnMode IsDisabling
        on Plain is = in_other (λ e. let no' = e.1 in cc)
        on Enabling is = in_other (λ e. let no' = e.1 in cc)
        on (Disabling done) is = in_it (done, is) (still_in (Disabling done) is refl)
        on (Starting row started) is = in_other (λ e. let no' = e.1 in cc)

    operation_fits : (op : Op) → FitsIf x (alternation.alternation_rule (rule_site x) op s)
        (step.operation_step (step_site x) op l)
    unfolding alternation.alternation_rule
    operation_fits operations.Alternate = elim (which a) [
      | in_plain_mode b ↦ alt_fits x s l b same changes n here
      | in_alternation busy b ↦ breaks_fit (modes_are_asked.alt (rule_site x) s busy)
      | among_starts starting ↦
          breaks_fit (modes_are_asked.alt (rule_site x) s (λ e. let no' = sym starting ∙ ap is_starting e in cc))
    ]
    operation_fits operations.EnableChannel = elim enabling [
      | in_it is b ↦ enbc_fits x s l b same changes n here is
      | in_other other ↦ breaks_fit (modes_are_asked.enbc (rule_site x) s other)
    ]
    operation_fits operations.EnableSkip = elim enabling [
      | in_it is b ↦ enbs_fits x s l b same changes n here is
      | in_other other ↦ breaks_fit (modes_are_asked.enbs (rule_site x) s other)
    ]
    operation_fits operations.AlternationWait = elim enabling [
      | in_it is b ↦ altwt_fits x s l b same changes n here is
      | in_other other ↦ breaks_fit (modes_are_asked.altwt (rule_site x) s other)
    ]
    operation_fits operations.DisableChannel = elim disabling [
      | in_it is b ↦ disc_fits x s l b same changes n here is.0 is.1
      | in_other other ↦ breaks_fit (modes_are_asked.disc (rule_site x) s other)
    ]
    operation_fits operations.DisableSkip = elim disabling [
      | in_it is b ↦ diss_fits x s l b same changes n here is.0 is.1
      | in_other other ↦ breaks_fit (modes_are_asked.diss (rule_site x) s other)
    ]
    operation_fits op = λ next. it_breaks

    end_fits : (s.mode ≡ Disabling (length s.guards) → HasSelected x.mode s.guards)
        → FitsIf x (alternation.altend_rule (rule_site x) s) (step.operation_step (step_site x)
        operations.AlternationEnd l)
    end_fits selected = elim disabling [
      | in_it is b ↦ altend_fits x wf s l b same changes n here selected is.0 is.1
      | in_other other ↦ breaks_fit (modes_are_asked.altend (rule_site x) s other)
    ]

pub alternation_fits_step : AlternationFitsStep
alternation_fits_step x s l op wf a same changes n here next = operation_fits x wf s l a same changes n here op next

pub alternation_end_fits_step : AlternationEndFitsStep
alternation_end_fits_step x s l wf a same changes n here selected next =
    end_fits x wf s l a same changes n here selected next
