-- The rule of `endp` and its step fit each other.
use Rattle.std.proofs.Common.{◌≡◌, ℕ, ◌≤◌, ◌==◌, ◌||◌, not, Bool, true, false, ℤ, length}
use Rattle.std.proofs.Common.{Option, Some, None, refl, sym, ap, ◌∙◌, subst, eqb-true, if◌then◌else◌}
use Rattle.std.specs.Prelude.{IsTrue, slice_get, option_map}
use Rattle.std.proofs.lemmas.Bool.{and_parts}
use Rattle.module_format.specs.Order.{is_stepped}
use Rattle.module_format.specs.declared.fact.Fact.TheVariants.{Unknown}
use Rattle.module_format.specs.declared.rows.EndKind.TheVariants.{FrameWord}
use Rattle.module_format.specs.Contents.{Contents, Par, Branch, Label, label_at}
use Rattle.certificate.specs.Branches.{numbered_branch}
use Rattle.certificate.specs.Rights.{may_write_word}
use Rattle.machine_state.specs.declared.op.Op.TheVariants.{EndProcess}
use Rattle.machine_state.specs.declared.process.Mode as machine
use Rattle.machine_state.specs.declared.process.Mode.TheVariants as machine_modes
use Rattle.machine_state.specs.LocalStep as step
use Rattle.machine_state.specs.Site.{Outcome, Local, joins}
use Rattle.states.specs.declared.known.Mode as states
use Rattle.states.specs.declared.known.Mode.TheVariants.{Plain, Enabling, Disabling, Starting}
use Rattle.states.specs.declared.known.WordFact.{WordFact}
use Rattle.states.specs.declared.known.WordFact.TheVariants.{Alone, Index, Count}
use Rattle.states.specs.declared.rule.Rule.TheVariants as rules
use Rattle.states.specs.State.{State, entry_fact, is_alone, by_itself}
use Rattle.states.specs.Below.{is_plain, says}
use Rattle.rulings.specs.Fitting.{Described, After, Situation, rule_site, step_site}
use Rattle.rulings.specs.Meaning.{Layout, Activation, MeansWord, is_fact, frame_word, SameMode, both_plain}
use Rattle.rulings.specs.Meaning.{both_enabling, both_disabling, both_starting}
use Rattle.rulings.specs.Regions.{Scope, scope_of, scope_left, scope_among, channel_address}
use Rattle.rulings.specs.Pointers.{is_near_pointer}
use Rattle.rulings.specs.Rulings.{Ruling, Site, ends, breaks, wants, pays}
use Rattle.rulings.proofs.Combining.{written_readable}
use Rattle.rulings.proofs.Entering.{implies_means}
use Rattle.rulings.proofs.Words.{itself_means, means_same}
use Rattle.par_rules.specs.Comparisons.{keeps, is_kept, ends_below}
use Rattle.par_rules.specs.ParRules.{endp_rule, ended_par, is_at_word, leaves_agreed}
use Rattle.share_laws.specs.Climbing.{LieAlike}
use Rattle.start_laws.specs.Ending.{StartedAll, EndFits, to_end_own, to_end_branch, end_breaks}
use Rattle.start_laws.specs.Ending.{EndFitsStep}
use Rattle.start_laws.proofs.Alike.{means_alike}
use Rattle.start_laws.proofs.Judged.{Judged, broken, passed, IsSettled, is_plain as settled_plain, is_among}
use Rattle.start_laws.proofs.Judged.{uses_judged, wants_judged, settled_judged, pays_judged}
use Rattle.start_laws.proofs.Labels.{label_said}
use Rattle.start_laws.proofs.LaterStarts.{among_mode}
use Rattle.start_laws.proofs.Workspaces.{word_address, even_address, IsAddress, IsOutside, outside_plain}
use Rattle.start_laws.proofs.Workspaces.{outside_among, end_step}

-- ---- what an end has passed

record HasEnded (site : Site) (s : State) (r : Ruling) : Type 0 where
  settled : IsSettled s.mode
  par : Par
  ended : ended_par site.contents s.context s.mode ≡ Some par
  at : is_at_word par.block s.stack.a.fact ≡ true
  pays : site.length ≤ s.number
  agreed : leaves_agreed site.contents par s ≡ true
  is : r ≡ ends

end_judged : (site : Site) (s : State) → Judged (HasEnded site s) (endp_rule site s)
unfolding endp_rule
end_judged site s =
    uses_judged (HasEnded site s) s.stack.a _
    (wants_judged (HasEnded site s) (is_near_pointer s.stack.a.fact) rules.Pointer _ (λ near.
    settled_judged (HasEnded site s) s.mode _ (λ settled. on settled (ended_par site.contents s.context s.mode) refl)))
  where
    on : IsSettled s.mode → (o : Option Par) → ended_par site.contents s.context s.mode ≡ o
        → Judged (HasEnded site s) (elim o as (λ o. Ruling) [
          | None ↦ breaks rules.Par
          | Some par ↦
              wants (is_at_word par.block s.stack.a.fact) rules.Par
              (pays site s (λ s. wants (leaves_agreed site.contents par s) rules.Label ends))
        ])
    on settled None e = broken rules.Par
    on settled (Some par) e =
        wants_judged (HasEnded site s) (is_at_word par.block s.stack.a.fact) rules.Par _ (λ at.
        pays_judged (HasEnded site s) site s _ (λ pays.
        wants_judged (HasEnded site s) (leaves_agreed site.contents par s) rules.Label ends (λ agreed.
        passed (record {
          settled = settled;
          par = par;
          ended = e;
          at = at;
          pays = pays;
          agreed = agreed;
          is = refl;
        }))))

-- ---- modes

-- where the state is in no alternation the machine is in none
pub outside_of : {p : states.Mode} {q : machine.Mode} → SameMode p q → IsSettled p → IsOutside q
outside_of both_plain settled = outside_plain
outside_of both_enabling settled = elim settled [ ]
outside_of both_disabling settled = elim settled [ ]
outside_of both_starting settled = outside_among

-- the layout of a scope, in each mode
pub layout_is : (m : Contents) (context : ℕ) (mode : states.Mode) (layout : Layout)
    → (scope_among m context mode layout).layout ≡ layout
layout_is m context Plain layout = refl
layout_is m context Enabling layout = refl
layout_is m context (Disabling done) layout = refl
layout_is m context (Starting row started) layout = on (slice_get m.pars row)
  where
    on : (o : Option Par) → (elim o as (λ o. Scope) [
      | None ↦ scope_of m context layout
      | Some par ↦ scope_left m par context started layout
    ]).layout ≡ layout
    on None = refl
    on (Some par) = refl

-- the machine's mode is plain where the state's is
pub plain_mode : {p : states.Mode} {q : machine.Mode} → SameMode p q → p ≡ Plain → q ≡ machine_modes.Plain
plain_mode both_plain e = refl
plain_mode both_enabling e = absurd (cc)
plain_mode both_disabling e = absurd (cc)
plain_mode both_starting e = absurd (cc)

-- ---- whose block it is

module _ (x : Situation) (s : State) (l : Local) (a : After x.m x.h x.mode x.act s l) where
  -- the process has started all branches
  started_all : (row started : ℕ) (par : Par) → s.mode ≡ Starting row started
      → ended_par x.m s.context (Starting row started) ≡ Some par → StartedAll x s par
  started_all row started par mode e = on (slice_get x.m.pars row) refl e
    where
      on : (o : Option Par) → slice_get x.m.pars row ≡ o
          → ◌≡◌ {A = Option Par} (elim o as (λ o. Option Par) [
            | None ↦ None
            | Some par ↦ if started == length par.branches then Some par else None
          ]) (Some par) → StartedAll x s par
      on None is h = absurd (cc)
      on (Some q) is h = of_number (started == length q.branches) refl h
        where
          of_number : (b : Bool) → (started == length q.branches) ≡ b
              → ◌≡◌ {A = Option Par} (if b then Some q else None) (Some par) → StartedAll x s par
          of_number true all h =
              let same : q ≡ par = cc in
              subst (λ (q : Par). StartedAll x s q) same (record {
                row = row;
                is = is;
                mode = mode ∙ ap (Starting row) (eqb-true started (length q.branches) all);
                machine_mode = among_mode a.same_mode mode;
              })
          of_number false all h = absurd (cc)

  -- the process is a branch
  branch_of_par : (par : Par) (o : Option (Par × Branch)) → numbered_branch x.m s.context ≡ o
      → option_map (λ (found : Par × Branch). found.0) o ≡ Some par
      → (b : Branch) × (numbered_branch x.m s.context ≡ Some (par, b))
  branch_of_par par None is h = absurd (cc)
  branch_of_par par (Some (q, b)) is h =
      let same : q ≡ par = cc in (b, is ∙ ap (λ (q : Par). Some (q, b)) same)

  -- ---- what a branch leaves

  -- in plain mode all that the context has is known
  in_plain : s.mode ≡ Plain → Described x.m x.h x.mode x.act s l (scope_of x.m s.context x.act.layout)
  in_plain plain = subst (λ (scope : Scope). Described x.m x.h x.mode x.act s l scope)
      (ap (λ (mode : states.Mode). scope_among x.m s.context mode x.act.layout) plain) a

  -- a word that is kept says what the label says of it by itself
  alone_word : (k : ℤ) (fact wanted : WordFact) (other : Activation) (v : Option ℤ) → LieAlike x.act.layout other.layout
      → other.layout.back ≡ x.act.layout.back → is_alone wanted ≡ true → says fact wanted ≡ true
      → MeansWord x.m x.act k fact v → MeansWord x.m other k wanted v
  alone_word k fact (Alone wanted) other v alike back alone said means =
      is_fact (means_alike x.m x.act.layout other.layout alike back wanted v
      (implies_means x.m x.act.layout (by_itself fact) wanted v said (itself_means x.m x.act k fact v means)))
  alone_word k fact (Index loop) other v alike back alone said means = absurd (cc)
  alone_word k fact (Count loop) other v alike back alone said means = absurd (cc)

  kept_silent : (k : ℤ) → is_kept x.m s.context s.frame k (Alone Unknown) ≡ true
  kept_silent k = on (may_write_word x.m s.context k)
    where
      on : (b : Bool) → (not b || keeps (s.frame k) (Alone Unknown)) ≡ true
      on true = refl
      on false = refl

  left_words : (par : Par) → s.mode ≡ Plain → leaves_agreed x.m par s ≡ true → (t : Label)
      → label_at x.m par.successor ≡ Some t → (k : ℤ) → may_write_word x.m s.context k ≡ true
      → is_alone (entry_fact t.entries k) ≡ true → (other : Activation) → LieAlike x.act.layout other.layout
      → other.layout.back ≡ x.act.layout.back
      → MeansWord x.m other k (entry_fact t.entries k) (frame_word l.memory other.layout.origin k)
  left_words par plain agreed t at k may alone other alike back =
      let below : ends_below x.m s t ≡ true =
      ap (λ (o : Option Label). elim o as (λ o. Bool) [ None ↦ true | Some t ↦ ends_below x.m s t ]) (sym at)
      ∙ (ap (λ (mode : states.Mode). not (is_plain mode) || elim (label_at x.m par.successor) as (λ o. Bool) [
        | None ↦ true
        | Some t ↦ ends_below x.m s t
      ]) (sym plain) ∙ agreed) in
      let kept = label_said (is_kept x.m s.context s.frame) kept_silent t.entries k below in
      let said : says (s.frame k) (entry_fact t.entries k) ≡ true =
      (and_parts (says (s.frame k) (entry_fact t.entries k)) _
      (ap (λ (b : Bool). not b || keeps (s.frame k) (entry_fact t.entries k)) (sym may) ∙ kept)).0 in
      alone_word k (s.frame k) (entry_fact t.entries k) other (frame_word l.memory other.layout.origin k) alike back
      alone said (means_same ((in_plain plain).knows.words k (written_readable x.m s.context k may)) refl
      (ap (λ (o : ℤ). frame_word l.memory o k) (sym alike.origin)))

  -- ---- ends

  module _ {r : Ruling} (p : HasEnded (rule_site x) s r) where
    even : IsTrue (is_stepped x.act.layout.origin)
    even = subst (λ (layout : Layout). IsTrue (is_stepped layout.origin))
        (layout_is x.m s.context s.mode x.act.layout) a.named.even

    place : IsAddress x.act.layout p.par.block l.registers.stack.a
    place = word_address x.m x.act.layout s.stack.a.fact p.par.block l.registers.stack.a p.at a.knows.registers.a.fact

    step_is : step.operation_step (step_site x) EndProcess l
        ≡ joins (channel_address x.act.layout (FrameWord p.par.block)) l
    step_is = end_step (step_site x) l place.value (outside_of a.same_mode p.settled) place.is
        (even_address x.act.layout p.par.block place.value even place.address)
        ∙ ap (λ (n : ℕ). joins n l) place.address

    fits : EndFits x s l ends (joins (channel_address x.act.layout (FrameWord p.par.block)) l)
    fits = on s.mode refl p.settled p.ended
      where
        on : (mode : states.Mode) → s.mode ≡ mode → IsSettled mode → ended_par x.m s.context mode ≡ Some p.par
            → EndFits x s l ends (joins (channel_address x.act.layout (FrameWord p.par.block)) l)
        on Plain mode settled_plain e =
            let b = branch_of_par p.par (numbered_branch x.m s.context) refl e in
            to_end_branch p.par (record {
              branch = b.0;
              is = b.1;
              mode = mode;
              machine_mode = plain_mode a.same_mode mode;
              words = left_words p.par mode p.agreed;
            }) p.pays
        on Enabling mode settled e = elim settled [ ]
        on (Disabling done) mode settled e = elim settled [ ]
        on (Starting row started) mode (is_among row' started') e =
            to_end_own p.par (started_all row started p.par mode e) p.pays

    ended_fits : EndFits x s l r (step.operation_step (step_site x) EndProcess l)
    ended_fits = subst (λ (o : Outcome). EndFits x s l r o) (sym step_is)
        (subst (λ (q : Ruling). EndFits x s l q (joins (channel_address x.act.layout (FrameWord p.par.block)) l))
        (sym p.is) fits)

  end_fits : (r : Ruling) → Judged (HasEnded (rule_site x) s) r
      → EndFits x s l r (step.operation_step (step_site x) EndProcess l)
  end_fits r (broken rule) = end_breaks
  end_fits r (passed p) = ended_fits p

pub end_fits_step : EndFitsStep
end_fits_step x s l a = end_fits x s l a (endp_rule (rule_site x) s) (end_judged (rule_site x) s)
