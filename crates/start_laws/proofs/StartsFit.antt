-- The rule of `startp` and its step fit each other.
use Rattle.std.proofs.Common.{◌≡◌, ℕ, ◌+◌, ◌-◌, ◌<◌, ◌==◌, ◌&&◌, true, ℤ, List, [], ◌∷◌}
use Rattle.std.proofs.Common.{Some, refl, sym, ap, ◌∙◌, subst, eqb-true, arith}
use Rattle.std.specs.Prelude.{IsTrue, slice_get}
use Rattle.std.proofs.lemmas.Bool.{and_parts}
use Rattle.module_format.specs.Order.{is_stepped}
use Rattle.module_format.specs.Contents.{Branch}
use Rattle.module_format.specs.Keeping.{Keeps}
use Rattle.certificate.specs.Starting.{leaves_loops}
use Rattle.machine_state.specs.declared.op.Op.TheVariants.{StartProcess}
use Rattle.machine_state.specs.BranchContexts.{context_of}
use Rattle.machine_state.specs.LocalStep as step
use Rattle.machine_state.specs.LocalStep.{target}
use Rattle.machine_state.specs.Ownership.{IsAmong}
use Rattle.machine_state.specs.Site.{Outcome, Local, starts}
use Rattle.states.specs.declared.known.Mode as states
use Rattle.states.specs.declared.known.Mode.TheVariants.{Plain, Enabling, Disabling, Starting}
use Rattle.states.specs.State.{State, is_same_number}
use Rattle.states.specs.Below.{agrees}
use Rattle.rulings.specs.Fitting.{After, HasNext, Situation, rule_site, step_site}
use Rattle.rulings.specs.Meaning.{Layout, IsWellFormed, MeansWord, words_left, frame_word}
use Rattle.rulings.specs.Rulings as rule
use Rattle.rulings.specs.Rulings.{Ruling, breaks, falling}
use Rattle.rulings.proofs.Words.{same_word_by}
use Rattle.par_rules.specs.Comparisons.{branch_view}
use Rattle.par_rules.specs.Gifts.{started_in}
use Rattle.par_rules.specs.ParRules.{startp_rule, is_next, is_workspace, after_start, cost_of_start}
use Rattle.par_rules.specs.ParRules.{may_open, at_first}
use Rattle.share_laws.proofs.Rows.{workspace_fits}
use Rattle.share_laws.proofs.ShareBytes.{frame_channel}
use Rattle.start_laws.specs.Starting.{StartsBranch, StartFits, to_start_next, to_start_first, start_breaks}
use Rattle.start_laws.specs.Starting.{StartFitsStep}
use Rattle.start_laws.proofs.EndsFit.{layout_is, outside_of}
use Rattle.start_laws.proofs.FirstInRow.{IsFoundFirst, found_first}
use Rattle.start_laws.proofs.FirstStarts.{all_here, first_labels, starts_first}
use Rattle.start_laws.proofs.GivenIsLeft.{IsTested, is_left}
use Rattle.start_laws.proofs.Judged.{Judged, broken, passed, HasPassed, IsSettled, is_plain, is_among, start_judged}
use Rattle.start_laws.proofs.LaterStarts.{here, before_started, labels_are, starts_next, goes_on_as, left_before}
use Rattle.start_laws.proofs.Workspaces.{workspace_address, even_address, named_found, start_step, IsNamed, IsAddress}

-- the number of starts of a mode that is next to a branch, and its row
next_mode : (row started : ℕ) (found_row number : ℕ) → ((found_row == row) && (number == started)) ≡ true
    → Starting row started ≡ Starting found_row number
next_mode row started found_row number h =
    let both = and_parts (found_row == row) (number == started) h in
    ap (λ (r : ℕ). Starting r started) (sym (eqb-true found_row row both.0))
    ∙ ap (Starting found_row) (sym (eqb-true number started both.1))

module _ (x : Situation) (s : State) (l : Local) (wf : IsWellFormed x.m) (keeps : Keeps x.m)
    (a : After x.m x.h x.mode x.act s l) where
  module _ {r : Ruling} (p : HasPassed (rule_site x) s r) (next : HasNext x r) where
    turn : (is_next s.mode p.found ≡ true) × (p.found.par.context ≡ s.context) × (p.found.par.depth ≡ s.depth)
        × (is_workspace p.found.branch.workspace s.stack.a.fact ≡ true)
    turn =
        let three = and_parts _ (is_workspace p.found.branch.workspace s.stack.a.fact) p.turn in
        let two = and_parts _ (is_same_number p.found.par.depth s.depth) three.0 in
        let one = and_parts (is_next s.mode p.found) (p.found.par.context == s.context) two.0 in (
          one.0,
          eqb-true p.found.par.context s.context one.1,
          same_word_by p.found.par.depth s.depth two.1,
          three.1,
        )

    -- where the branch and its workspace are
    named : IsNamed (rule_site x) p.found l.registers.stack.b
    named = named_found (rule_site x) x.act.layout s.stack.b.fact p.found l.registers.stack.b p.named
        a.knows.registers.b.fact

    place : IsAddress x.act.layout p.found.branch.workspace l.registers.stack.a
    place = workspace_address x.m x.act.layout s.stack.a.fact p.found.branch.workspace l.registers.stack.a turn.3
        a.knows.registers.a.fact

    first : IsFoundFirst x.m p.found
    first = found_first x.m (target (x.at + x.len) named.value) p.found named.found_is

    abbrev after : State
    after = after_start p.found (cost_of_start x.m s p.found p.label) (record s { number = s.number - x.len })

    abbrev outcome : Outcome
    outcome = starts (target (x.at + x.len) named.value) (step.address place.value) (step.without_registers l)

    -- what the branch is given is tested, as each one before it is started
    tested : ((n : ℕ) (other : Branch) → n < p.found.number → slice_get p.found.par.branches n ≡ Some other
        → IsAmong other (started_in x.m s.mode)) → IsTested x.m s p.found
    tested started = record {
      keeps = keeps;
      is = first.is;
      context = turn.1;
      apart = p.apart;
      free = p.free;
      gives = p.gives;
      scheduling = p.scheduling;
      started = started;
      differs = first.differs;
    }

    starts_branch : IsTested x.m s p.found
        → ((k : ℤ) → (words_left x.m p.found.par p.found.par.context (p.found.number + 1)).reads k ≡ true
        → MeansWord x.m x.act k (s.frame k) (frame_word l.memory x.act.layout.origin k))
        → StartsBranch x s after l p.found (target (x.at + x.len) named.value) (step.address place.value)
    starts_branch tests words = record {
      found_is = named.found_is;
      is = first.is;
      left = is_left x.m s p.found tests;
      workspace_is = λ base at. place.address
          ∙ sym (frame_channel x.act.layout base p.found.branch.workspace at
          (workspace_fits x.m p.found keeps first.is));
      context = turn.1;
      depth = turn.2;
      low = next after (ap falling p.is);
      goes_on = goes_on_as x s l p.found (cost_of_start x.m s p.found p.label) (s.number - x.len) turn.1 words;
    }

    even : IsTrue (is_stepped x.act.layout.origin)
    even = subst (λ (layout : Layout). IsTrue (is_stepped layout.origin))
        (layout_is x.m s.context s.mode x.act.layout) a.named.even

    step_is : step.operation_step (step_site x) StartProcess l ≡ outcome
    step_is = start_step (step_site x) l place.value named.value (outside_of a.same_mode p.settled) place.is named.is
        (even_address x.act.layout p.found.branch.workspace place.value even place.address)

    branch_agrees : agrees (branch_view x.m (context_of x.m p.found) p.found.branch s) p.label ≡ true
    branch_agrees = (and_parts (agrees (branch_view x.m (context_of x.m p.found) p.found.branch s) p.label) _
        p.agrees).0

    -- a later start
    next_fits : s.mode ≡ Starting p.found.row p.found.number
        → StartFits x s l (rule.starts after (p.found.branch.entry ∷ [])) outcome
    next_fits mode =
        let tests = tested (before_started x s l wf keeps a p.found first.is mode turn.1) in
        to_start_next p.found (starts_branch tests (λ k t.
        (here x s l wf keeps a p.found first.is mode turn.1).knows.words k (left_before x.m p.found first.is k t)))
        (starts_next x s l wf keeps a p.found first.is mode turn.1 tests p.label p.at branch_agrees p.pays p.covers)

    -- the first one
    first_fits : s.mode ≡ Plain → p.found.number ≡ 0 → may_open x.m s p.found.par ≡ true
        → leaves_loops x.m p.found.par ≡ true
        → StartFits x s l (rule.starts after (p.found.branch.entry ∷ p.found.par.successor ∷ [])) outcome
    first_fits plain zero opens loops =
        let tests = tested (λ n other low there. absurd (omega (arith, low, zero))) in
        to_start_first p.found (starts_branch tests (λ k t.
        (all_here x s l wf keeps a p.found first.is plain zero turn.1 opens loops).knows.words k
        (and_parts _ _ (and_parts _ _ t).0).0))
        (starts_first x s l wf keeps a p.found first.is plain zero turn.1 opens loops
        (and_parts (agrees (branch_view x.m (context_of x.m p.found) p.found.branch s) p.label) _ p.agrees).1 tests
        p.label p.at branch_agrees p.pays p.covers)

    -- by the mode
    fits : StartFits x s l r outcome
    fits = on s.mode refl p.settled turn.0 p.loops p.opens
      where
        led : (labels : List ℕ) → r ≡ rule.starts after labels → StartFits x s l (rule.starts after labels) outcome
            → StartFits x s l r outcome
        led labels is go = subst (λ (q : Ruling). StartFits x s l q outcome) (sym is) go

        on : (mode : states.Mode) → s.mode ≡ mode → IsSettled mode → is_next mode p.found ≡ true
            → at_first mode (leaves_loops x.m p.found.par) ≡ true
            → at_first mode (may_open x.m s p.found.par) ≡ true → StartFits x s l r outcome
        on Plain mode is_plain n loops opens =
            let zero = eqb-true p.found.number 0 n in
            led (p.found.branch.entry ∷ p.found.par.successor ∷ [])
            (p.is ∙ ap (rule.starts after)
            (first_labels x s l wf keeps a p.found first.is mode zero turn.1 opens loops))
            (first_fits mode zero opens loops)
        on Enabling mode settled n loops opens = elim settled [ ]
        on (Disabling done) mode settled n loops opens = elim settled [ ]
        on (Starting row started) mode (is_among row' started') n loops opens =
            let there = mode ∙ next_mode row started p.found.row p.found.number n in
            led (p.found.branch.entry ∷ [])
            (p.is ∙ ap (rule.starts after) (labels_are x s l wf keeps a p.found first.is there turn.1))
            (next_fits there)

    passed_fits : StartFits x s l r (step.operation_step (step_site x) StartProcess l)
    passed_fits = subst (λ (o : Outcome). StartFits x s l r o) (sym step_is) fits

  start_fits : (r : Ruling) → Judged (HasPassed (rule_site x) s) r → HasNext x r
      → StartFits x s l r (step.operation_step (step_site x) StartProcess l)
  start_fits r (broken rule) next = start_breaks
  start_fits r (passed p) next = passed_fits p next

pub start_fits_step : StartFitsStep
start_fits_step x s l wf keeps a next =
    start_fits x s l wf keeps a (startp_rule (rule_site x) s) (start_judged (rule_site x) s) next
