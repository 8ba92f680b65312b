-- What the rule of the end of an alternation says fits its step, where the machine has selected one of the exits.
use Rattle.std.proofs.Common.{◌≡◌, ℕ, zero, suc, ◌+◌, ◌≤◌, ◌==◌, ℤ, Bool, true, false, inl, inr, List, []}
use Rattle.std.proofs.Common.{◌∷◌}
use Rattle.std.proofs.Common.{length, Option, Some, None, Result, Ok, Err, refl, sym, ap, ◌∙◌, subst, arith}
use Rattle.std.proofs.lemmas.Bool.Decides.{eqb_tells}
use Rattle.std.specs.List.{list_all}
use Rattle.std.specs.Prelude.{slice_get}
use Rattle.small_laws.proofs.Lookups.{list_all_at}
use Rattle.module_format.specs.Contents.{Label, label_at}
use Rattle.machine_state.specs.declared.op.Op.TheVariants as operations
use Rattle.machine_state.specs.declared.process.Mode as machine
use Rattle.machine_state.specs.declared.process.Mode.TheVariants as machine_modes
use Rattle.machine_state.specs.LocalStep as step
use Rattle.machine_state.specs.LocalStep.{target}
use Rattle.machine_state.specs.declared.fault.FaultKind.TheVariants.{AlternationOrder}
use Rattle.machine_state.specs.Site.{Local, fails, ends_alternation}
use Rattle.states.specs.declared.known.Guard.{Guard}
use Rattle.states.specs.declared.known.Mode.TheVariants.{Plain, Disabling}
use Rattle.states.specs.declared.rule.Rule.{Rule}
use Rattle.states.specs.declared.rule.Rule.TheVariants as rules
use Rattle.states.specs.State.{State}
use Rattle.states.specs.Below.{below}
use Rattle.rulings.specs.Rulings as rule
use Rattle.rulings.specs.Rulings.{Ruling, selects, breaks}
use Rattle.rulings.specs.Meaning.{owed, label_turns, IsWellFormed, both_plain}
use Rattle.rulings.specs.Guarding.{HasSelected}
use Rattle.rulings.specs.Fitting.{Changes, Situation, StandsAt, rule_site, step_site, IsOneOf, it_selects, it_breaks}
use Rattle.rulings.proofs.Within.{Within, AreStill, whole_after, within_paid, in_other_mode}
use Rattle.rulings.proofs.Combining.{FitsIf, on_rule_test, wants_fits, pays_fits}
use Rattle.rulings.proofs.Entering.{below_tells, label_after}
use Rattle.rulings.proofs.Dues.{label_owed}
use Rattle.alternation_rules.specs.Guards.{exits, label_below, is_below_exit}
use Rattle.alternation_rules.specs.Guards.{leads_to_label, leads_forward}
use Rattle.alternation_rules.specs.AlternationRules as alternation
use Rattle.alternation_rules.specs.AlternationRules.{in_mode}
use Rattle.alternation_rules.proofs.AlternationsFit.{in_disabling_rule}

-- where the machine has gone on is one of the exits
exit_among : (site : rule.Site) (guards : List Guard) (i : ℕ) (g : Guard) (distance : ℤ) → slice_get guards i ≡ Some g
    → g.exit ≡ Some distance → IsOneOf (target (site.at + site.length) distance) (exits site guards)
exit_among site [] i g distance at is = absurd (cc)
exit_among site (first ∷ rest) zero g distance at is =
    let it : first ≡ g = cc in
    on first.exit (ap (λ (g : Guard). g.exit) it ∙ is)
  where
    on : (o : Option ℤ) → o ≡ Some distance
        → IsOneOf (target (site.at + site.length) distance) (elim o as (λ o. List ℕ) [
          | None ↦ exits site rest
          | Some distance ↦ target (site.at + site.length) distance ∷ exits site rest
        ])
    on None e = absurd (cc)
    on (Some d) e = let same : d ≡ distance = cc in (0, ap (λ (d : ℤ). Some (target (site.at + site.length) d)) same)
exit_among site (first ∷ rest) (suc i) g distance at is =
    on first.exit (exit_among site rest i g distance at is)
  where
    on : (o : Option ℤ) → IsOneOf (target (site.at + site.length) distance) (exits site rest)
        → IsOneOf (target (site.at + site.length) distance) (elim o as (λ o. List ℕ) [
          | None ↦ exits site rest
          | Some distance ↦ target (site.at + site.length) distance ∷ exits site rest
        ])
    on None among = among
    on (Some d) among = (suc among.0, among.1)

-- The label to which a guard leads, and that a state is below it.
record LeadsBelow (site : rule.Site) (s : State) (to : ℕ) : Type 0 where
  label : Label
  there : label_at site.contents to ≡ Some label
  cost : ℕ
  is_below : below s label ≡ Ok cost

abbrev passes : Result ℕ Rule → Bool
passes (Ok cost) = true
passes (Err broken) = false

leads_below : (site : rule.Site) (s : State) (g : Guard) (distance : ℤ) → g.exit ≡ Some distance
    → is_below_exit site s g ≡ true → LeadsBelow site s (target (site.at + site.length) distance)
leads_below site s g distance is t =
    on (target (site.at + site.length) distance) (label_at site.contents (target (site.at + site.length) distance)) refl
    (subst (λ (o : Option ℤ). passes (elim (elim o as (λ o. Option ℕ) [
      | None ↦ None
      | Some distance ↦ Some (target (site.at + site.length) distance)
    ]) as (λ o. Result ℕ Rule) [ None ↦ Err rules.Alternation | Some to ↦ label_below site s to ]) ≡ true) is t)
  where
    on_below : (to : ℕ) (t : Label) → label_at site.contents to ≡ Some t → (b : Result ℕ Rule) → below s t ≡ b
        → passes b ≡ true → LeadsBelow site s to
    on_below to t there (Ok cost) is holds = record { label = t; there = there; cost = cost; is_below = is }
    on_below to t there (Err broken) is holds = absurd (cc)

    on : (to : ℕ) (o : Option Label) → label_at site.contents to ≡ o
        → passes (elim o as (λ o. Result ℕ Rule) [ None ↦ Err rules.Alternation | Some t ↦ below s t ]) ≡ true
        → LeadsBelow site s to
    on to None there holds = absurd (cc)
    on to (Some t) there holds = on_below to t there (below s t) refl holds

module _ (x : Situation) (wf : IsWellFormed x.m) (s : State) (l : Local) (a : Within AreStill x.m x.h x.mode x.act s l)
    (same : s.context ≡ x.context) (changes : Changes x l.memory) (n : owed s x.act ≤ x.owed) (here : StandsAt x s l)
  where
    -- the process goes on where the selected guard leads
    selects_fit : (selected : HasSelected x.mode s.guards) → s.mode ≡ Disabling (length s.guards)
        → (number : ℕ)
        → owed (record (in_mode Plain s) { number = number }) x.act + x.len ≤ x.owed
        → FitsIf x (alternation.leaves_by_exits (rule_site x) s.guards (record (in_mode Plain s) { number = number }))
        (ends_alternation (target (x.at + x.len) selected.distance) l)
    unfolding alternation.leaves_by_exits
    selects_fit selected all number left =
        let t : State = record (in_mode Plain s) { number = number } in
        on_rule_test x (list_all (is_below_exit (rule_site x) t) s.guards) _ _ _ (λ each.
        let b = leads_below (rule_site x) t selected.guard selected.distance selected.exit
        (list_all_at (is_below_exit (rule_site x) t) s.guards selected.number selected.guard each selected.here) in
        let g = below_tells t b.label b.cost b.is_below in
        let less = label_owed t b.label b.cost x.act (wf.pairs _ b.label b.there) b.is_below in
        λ next. it_selects (label_turns t.frame b.label.entries x.act.turns)
        (exit_among (rule_site x) s.guards selected.number selected.guard selected.distance selected.here selected.exit)
        b.there (wf.labels _ b.label b.there)
        (label_after x.m x.h machine_modes.Plain x.act t b.label l wf _ b.there g.1
        (whole_after (within_paid (in_other_mode Plain machine_modes.Plain s.guards both_plain refl a))))
        (sym g.1.context ∙ same) changes (omega (arith, left, less))
        (ap (λ (u : State). u.mode) here.state ∙ all
        ∙ ap (λ (u : State). Disabling (length u.guards)) (sym here.state)))
        (λ none next. it_breaks)

    pub altend_fits : (s.mode ≡ Disabling (length s.guards) → HasSelected x.mode s.guards) → (done : ℕ)
        → s.mode ≡ Disabling done
        → FitsIf x (alternation.altend_rule (rule_site x) s) (step.operation_step (step_site x)
        operations.AlternationEnd l)
    unfolding alternation.altend_rule step.operation_step step.while_disabling
    altend_fits has_selected done disabling =
        in_disabling_rule x s done disabling _ _
        (wants_fits x (done == length s.guards) _ _ _ (λ whole.
        let all : s.mode ≡ Disabling (length s.guards) = disabling
        ∙ ap Disabling (is_equal done (length s.guards) whole) in
        let selected = has_selected all in
        wants_fits x (list_all (leads_to_label (rule_site x)) s.guards) _ _ _ (λ labels.
        wants_fits x (list_all leads_forward s.guards) _ _ _ (λ forward.
        subst (λ (q : machine.Mode). FitsIf x (rule.pays (rule_site x) (in_mode Plain s)
        (alternation.leaves_by_exits (rule_site x) s.guards)) (step.while_disabling q (λ selection. elim selection [
          | None ↦ fails AlternationOrder
          | Some distance ↦ ends_alternation (target (x.at + x.len) distance) l
        ]))) (sym selected.is)
        (pays_fits x (in_mode Plain s) _ _ n (λ left. selects_fit selected all _ left))))))
      where
        is_equal : (a b : ℕ) → (a == b) ≡ true → a ≡ b
        is_equal a b t = elim (eqb_tells a b) [
          | inl p ↦ p.1
          | inr p ↦ let no' : true ≡ false = sym t
              ∙ p.0 in absurd (cc)
        ]
