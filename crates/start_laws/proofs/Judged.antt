-- A start that breaks no rule has passed all of its tests.
use Rattle.std.proofs.Common.{◌≡◌, ℕ, ◌-◌, ◌≤◌, Bool, true, false, cond, Option, Some, None}
use Rattle.std.proofs.Common.{refl, ltb}
use Rattle.std.proofs.lemmas.Bool.{ltb-false}
use Rattle.module_format.specs.Rows.{Fact}
use Rattle.module_format.specs.declared.fact.Fact.TheVariants.{Unknown, Number, Pointer, CodeAddress, Loop}
use Rattle.module_format.specs.declared.fact.Fact.TheVariants.{ReturnAddress}
use Rattle.module_format.specs.Contents.{Label, label_at}
use Rattle.certificate.specs.Starting.{leaves_loops}
use Rattle.machine_state.specs.BranchContexts.{context_of}
use Rattle.machine_state.specs.JoinLookups.{Found}
use Rattle.states.specs.declared.rule.Rule.{Rule}
use Rattle.states.specs.declared.rule.Rule.TheVariants as rules
use Rattle.states.specs.declared.known.Known.{Known}
use Rattle.states.specs.declared.known.Mode.{Mode}
use Rattle.states.specs.declared.known.Mode.TheVariants.{Plain, Enabling, Disabling, Starting}
use Rattle.states.specs.State.{State}
use Rattle.rulings.specs.Pointers.{is_near_pointer}
use Rattle.rulings.specs.Rulings.{Ruling, Site, starts, breaks, uses, wants, outside_alternation, pays}
use Rattle.par_rules.specs.Gifts.{has_scheduling_words}
use Rattle.par_rules.specs.ParRules.{startp_rule, starts_branch, with_label, pays_labels, named_branch}
use Rattle.par_rules.specs.ParRules.{is_apart, ends_are_free, at_first, is_in_turn, may_give, may_open}
use Rattle.par_rules.specs.ParRules.{cost_of_start, start_agrees, after_start, labels_of_start}

-- a rule is broken, or this is so of the ruling
pub data Judged (P : Ruling → Type 0) : Ruling → Type 0 where
  broken : (rule : Rule) → Judged P (breaks rule)
  passed : {r : Ruling} → P r → Judged P r

-- the mode of a process that is in no alternation
pub data IsSettled : Mode → Type 0 where
  is_plain : IsSettled Plain
  is_among : (row started : ℕ) → IsSettled (Starting row started)

-- ---- one test after the other

module _ (P : Ruling → Type 0) where
  pub test_judged : (b : Bool) (rule : Rule) (r : Ruling) → (b ≡ true → Judged P r) → Judged P (cond b r (breaks rule))
  test_judged true rule r go = go refl
  test_judged false rule r go = broken rule

  pub wants_judged : (b : Bool) (rule : Rule) (r : Ruling) → (b ≡ true → Judged P r) → Judged P (wants b rule r)
  unfolding wants
  wants_judged b rule r go = test_judged b rule r go

  pub uses_judged : (k : Known) (r : Fact → Ruling) → Judged P (r k.fact) → Judged P (uses k r)
  unfolding uses
  uses_judged k r go = on k.fact
    where
      on : (f : Fact) → Judged P (elim f as (λ f. Ruling) [ Unknown ↦ breaks rules.UnknownRegister | _ ↦ r k.fact ])
      on Unknown = broken rules.UnknownRegister
      on (Number lo hi) = go
      on (Pointer region lo hi step) = go
      on (CodeAddress offset) = go
      on (Loop base count weight) = go
      on ReturnAddress = go

  pub settled_judged : (mode : Mode) (r : Ruling) → (IsSettled mode → Judged P r)
      → Judged P (outside_alternation mode r)
  unfolding outside_alternation
  settled_judged Plain r go = go is_plain
  settled_judged Enabling r go = broken rules.Alternation
  settled_judged (Disabling done) r go = broken rules.Alternation
  settled_judged (Starting row started) r go = go (is_among row started)

  pub pays_judged : (site : Site) (s : State) (k : State → Ruling)
      → (site.length ≤ s.number → Judged P (k (record s { number = s.number - site.length })))
      → Judged P (pays site s k)
  unfolding pays
  pays_judged site s k go = on (ltb s.number site.length) refl
    where
      on : (b : Bool) → ltb s.number site.length ≡ b
          → Judged P (cond b (breaks rules.Budget) (k (record s { number = s.number - site.length })))
      on true e = broken rules.Budget
      on false e = go (ltb-false s.number site.length e)

  with_label_judged : (site : Site) (at : ℕ) (k : Label → Ruling)
      → ((t : Label) → label_at site.contents at ≡ Some t → Judged P (k t)) → Judged P (with_label site at k)
  unfolding with_label
  with_label_judged site at k go = on (label_at site.contents at) refl
    where
      on : (o : Option Label) → label_at site.contents at ≡ o
          → Judged P (elim o as (λ o. Ruling) [ None ↦ breaks rules.Par | Some t ↦ k t ])
      on None e = broken rules.Par
      on (Some t) e = go t e

-- ---- startp

-- What a start has passed.
pub record HasPassed (site : Site) (s : State) (r : Ruling) : Type 0 where
  pub found : Found
  pub named : named_branch site s.stack.b.fact ≡ Some found
  pub apart : is_apart site.contents s found ≡ true
  pub free : ends_are_free site.contents s found ≡ true
  pub settled : IsSettled s.mode
  pub loops : at_first s.mode (leaves_loops site.contents found.par) ≡ true
  pub turn : is_in_turn s s.stack.a.fact found ≡ true
  pub gives : may_give site.contents s found ≡ true
  pub opens : at_first s.mode (may_open site.contents s found.par) ≡ true
  pub label : Label
  pub at : label_at site.contents found.branch.entry ≡ Some label
  pub scheduling : has_scheduling_words site.contents (context_of site.contents found) found.branch ≡ true
  pub pays : site.length ≤ s.number
  pub covers : cost_of_start site.contents s found label ≤ s.number - site.length
  pub agrees : start_agrees site.contents s found label ≡ true
  pub is : r ≡ starts (after_start found (cost_of_start site.contents s found label)
      (record s { number = s.number - site.length })) (labels_of_start site.contents s found)

module _ (site : Site) (s : State) where
  labels_judged : (found : Found) (t : Label)
      → (cost_of_start site.contents s found t ≤ s.number - site.length → start_agrees site.contents s found t ≡ true
      → HasPassed site s (starts (after_start found (cost_of_start site.contents s found t)
      (record s { number = s.number - site.length })) (labels_of_start site.contents s found)))
      → Judged (HasPassed site s) (pays_labels site found t (record s { number = s.number - site.length }))
  unfolding pays_labels
  labels_judged found t go = on (ltb (s.number - site.length) (cost_of_start site.contents s found t)) refl
    where
      on : (b : Bool) → ltb (s.number - site.length) (cost_of_start site.contents s found t) ≡ b
          → Judged (HasPassed site s) (cond b (breaks rules.Budget)
          (wants (start_agrees site.contents s found t) rules.Label
          (starts (after_start found (cost_of_start site.contents s found t)
          (record s { number = s.number - site.length })) (labels_of_start site.contents s found))))
      on true e = broken rules.Budget
      on false e = wants_judged (HasPassed site s) (start_agrees site.contents s found t) rules.Label _
          (λ agrees. passed (go (ltb-false _ _ e) agrees))

  branch_judged : (found : Found) → named_branch site s.stack.b.fact ≡ Some found
      → Judged (HasPassed site s) (starts_branch site s s.stack.a.fact found)
  unfolding starts_branch
  branch_judged found named =
      wants_judged (HasPassed site s) (is_apart site.contents s found) rules.RegionsMeet _ (λ apart.
      wants_judged (HasPassed site s) (ends_are_free site.contents s found) rules.Channel _ (λ free.
      settled_judged (HasPassed site s) s.mode _ (λ settled.
      wants_judged (HasPassed site s) (at_first s.mode (leaves_loops site.contents found.par)) rules.Forward _ (λ loops.
      wants_judged (HasPassed site s) (is_in_turn s s.stack.a.fact found) rules.Par _ (λ turn.
      wants_judged (HasPassed site s) (may_give site.contents s found) rules.Par _ (λ gives.
      wants_judged (HasPassed site s) (at_first s.mode (may_open site.contents s found.par)) rules.Par _ (λ opens.
      with_label_judged (HasPassed site s) site found.branch.entry _ (λ t at.
      wants_judged (HasPassed site s)
      (has_scheduling_words site.contents (context_of site.contents found) found.branch) rules.OwnWord _ (λ scheduling.
      pays_judged (HasPassed site s) site s _ (λ pays.
      labels_judged found t (λ covers agrees. record {
        found = found;
        named = named;
        apart = apart;
        free = free;
        settled = settled;
        loops = loops;
        turn = turn;
        gives = gives;
        opens = opens;
        label = t;
        at = at;
        scheduling = scheduling;
        pays = pays;
        covers = covers;
        agrees = agrees;
        is = refl;
      })))))))))))

  pub start_judged : Judged (HasPassed site s) (startp_rule site s)
  unfolding startp_rule
  start_judged =
      uses_judged (HasPassed site s) s.stack.a _ (uses_judged (HasPassed site s) s.stack.b _
      (wants_judged (HasPassed site s) (is_near_pointer s.stack.a.fact) rules.Pointer _ (λ near.
      on (named_branch site s.stack.b.fact) refl)))
    where
      on : (o : Option Found) → named_branch site s.stack.b.fact ≡ o
          → Judged (HasPassed site s) (elim o as (λ o. Ruling) [
            | None ↦ outside_alternation s.mode (breaks rules.Par)
            | Some found ↦ starts_branch site s s.stack.a.fact found
          ])
      on None e = settled_judged (HasPassed site s) s.mode _ (λ settled. broken rules.Par)
      on (Some found) e = branch_judged found e
