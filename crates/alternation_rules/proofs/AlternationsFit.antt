-- What an alternation's operations say of a process fits what they do: it begins, enables, waits and disables.
use Rattle.std.proofs.Common.{◌≡◌, ℕ, ◌+◌, ◌-◌, ◌≤◌, ◌==◌, ℤ, pos, ◌+ℤ◌, Bool, true}
use Rattle.std.proofs.Common.{false, not}
use Rattle.std.proofs.Common.{inl, inr, List, [], ◌∷◌, ◌++◌, length, Option, Some, None, Ok, ltb, refl, sym, ap, ◌∙◌}
use Rattle.std.proofs.Common.{subst}
use Rattle.std.proofs.Common.{arith, ◌%◌, cond, Result, Err}
use Rattle.std.proofs.lemmas.Bool.{and_parts}
use Rattle.std.proofs.lemmas.Int.{ints}
use Rattle.std.specs.List.{list_any}
use Rattle.std.specs.Prelude.{slice_get, slice_set}
use Rattle.module_format.specs.Rows.{Fact}
use Rattle.module_format.specs.declared.fact.Fact.TheVariants.{Unknown, Number, Pointer, CodeAddress, Loop}
use Rattle.module_format.specs.declared.fact.Fact.TheVariants.{ReturnAddress}
use Rattle.module_format.specs.declared.rows.Direction.TheVariants.{In}
use Rattle.module_format.specs.declared.rows.EndKind.{EndKind}
use Rattle.certificate.specs.Rights as rights
use Rattle.machine_state.specs.declared.op.Op.TheVariants as operations
use Rattle.machine_state.specs.declared.process.Mode as machine
use Rattle.machine_state.specs.declared.process.Mode.TheVariants as machine_modes
use Rattle.machine_state.specs.LocalStep as step
use Rattle.machine_state.specs.Memory.{Memory, with_word, place_of, data_start}
use Rattle.machine_state.specs.Site.{Outcome, Local, begins}
use Rattle.machine_state.proofs.Frame.{write_is_own, changes_more}
use Rattle.machine_state.proofs.Lines.{got_either, set_either}
use Rattle.states.specs.declared.known.Guard.{Guard}
use Rattle.states.specs.declared.known.GuardKind.{GuardKind}
use Rattle.states.specs.declared.known.GuardKind.TheVariants.{Channel, Skip}
use Rattle.states.specs.declared.known.GuardName.{GuardName}
use Rattle.states.specs.declared.known.GuardName.TheVariants.{Constant, Word}
use Rattle.states.specs.declared.known.Mode as states
use Rattle.states.specs.declared.known.Mode.TheVariants.{Enabling, Disabling}
use Rattle.states.specs.declared.rule.Rule.TheVariants as rules
use Rattle.states.specs.State.{State, written}
use Rattle.rulings.specs.Rulings as rule
use Rattle.rulings.specs.Rulings.{Ruling, falls}
use Rattle.rulings.specs.Meaning.{Means, says_nothing, is_number, MeansKnown, from_nowhere}
use Rattle.rulings.specs.Meaning.{SameMode}
use Rattle.rulings.specs.Meaning.{both_plain, both_enabling, both_disabling, both_starting, dues, owed, place_in}
use Rattle.rulings.specs.Meaning.{frame_word, words_in}
use Rattle.rulings.specs.Regions.{scope_of}
use Rattle.rulings.specs.Guarding.{guard_value, IsTaken, GuardsFit}
use Rattle.rulings.specs.Fitting.{Changes, Situation, StandsAt, rule_site, step_site, Alters}
use Rattle.rulings.specs.Fitting.{Enables, AwaitsGuards, Disables, IsAtChannel, Asks, to_begin, to_enable}
use Rattle.rulings.specs.Fitting.{to_enable_skip}
use Rattle.rulings.specs.Fitting.{to_wait, to_disable, to_disable_skip, it_asks, it_breaks}
use Rattle.rulings.proofs.Within.{Modes, Within, ArePlain, AreStill, whole_after, within_paid}
use Rattle.rulings.proofs.Within.{in_other_mode}
use Rattle.rulings.proofs.Regions.{keeps_more, write_keeps}
use Rattle.rulings.proofs.Words.{word_elsewhere}
use Rattle.rulings.proofs.Dues.{written_owed}
use Rattle.rulings.specs.Pointers.{is_near_pointer}
use Rattle.rulings.proofs.HeldChannels.{IsHeldChannel, held_channel, held_channel_fits, names_channel_fits}
use Rattle.rulings.proofs.Combining.{FitsIf, unknown_means, on_rule_test, on_step_test, uses_fits, wants_fits}
use Rattle.rulings.proofs.Combining.{settles_fits}
use Rattle.rulings.proofs.Combining.{writes_word_fits, writes_fits, in_plain_step, after_stack, after_write, enough}
use Rattle.rulings.proofs.Combining.{below_not}
use Rattle.rulings.proofs.Combining.{written_readable, MaySchedule, unscheduled, scheduled, scheduling}
use Rattle.rulings.proofs.Combining.{scheduled_changes, unscheduled_owed, unscheduled_context, rule_schedules_fits}
use Rattle.rulings.proofs.Combining.{step_schedules_fits}
use Rattle.rulings.proofs.PointerFacts.{ok_if}
use Rattle.rulings.specs.Channels.{channel_of}
use Rattle.states.specs.declared.known.WordFact.TheVariants.{Alone}
use Rattle.states.specs.declared.rule.Rule.{Rule}
use Rattle.rulings.specs.Rulings.{breaks}
use Rattle.states.specs.State.{is_same_number}
use Rattle.rulings.proofs.Words.{same_word_by}
use Rattle.alternation_rules.specs.Guards.{name_of, may_name, guard_channel, distance_of, is_guard, is_named_by}
use Rattle.alternation_rules.specs.Guards.{is_new, has_room, enabled_guard, guard_at, disabled_guard, is_same_kind}
use Rattle.alternation_rules.specs.Guards.{is_same_name}
use Rattle.alternation_rules.specs.Guards.{is_off_scheduling}
use Rattle.alternation_rules.specs.AlternationRules as alternation
use Rattle.alternation_rules.specs.AlternationRules.{may_receive, keeps_selection}
use Rattle.alternation_rules.specs.AlternationRules.{with_enabled, with_disabled, in_mode}
use Rattle.alternation_rules.proofs.EqualGuards.{tests_compare}
use Rattle.alternation_rules.proofs.GuardNames.{name_value, is_true, is_false, off_is_not_below}
use Rattle.alternation_rules.proofs.GuardNames.{scheduled_elsewhere}

-- ---- guards

-- a value that stays where a word does
value_stays : (old new : Memory) (x : Situation) (name : GuardName)
    → ((word : ℤ) → name ≡ Word word → frame_word new x.act.layout.origin word ≡ frame_word old x.act.layout.origin
    word)
    → guard_value new x.act name ≡ guard_value old x.act name
value_stays old new x (Constant value) same = refl
value_stays old new x (Word word) same = same word refl

-- ---- what goes on

module _ (x : Situation) where
  -- the bytes of the instruction are paid
  abbrev pub paid_state : State → State
  paid_state t = record t { number = t.number - x.len }

  alters_fits : (t : State) (new : Local) (o : Outcome) → t.context ≡ x.context → Changes x new.memory
      → owed t x.act ≤ x.owed
      → (Alters x (falls (paid_state t)) (paid_state t) new → Asks x (falls (paid_state t)) o)
      → FitsIf x (rule.goes_on (rule_site x) t) o
  unfolding rule.goes_on rule.pays
  alters_fits t new o same changed less asks =
      on_rule_test x (ltb t.number x.len) _ _ _
      (λ u next. it_breaks)
      (λ u next.
      let pay = enough t.number x.len (dues t.frame x.act.turns) x.owed u less in
      it_asks (asks (record { is = refl; low = next _ refl; same = same; changes = changed; pay = pay }))
      (omega (arith, pay)))

  -- the code goes on after it
  followed_fits : (t : State) (new : Local) (o : Outcome) → t.context ≡ x.context → Changes x new.memory
      → owed t x.act ≤ x.owed
      → (Alters x (falls (paid_state t)) (paid_state t) new → Asks x (falls (paid_state t)) o)
      → FitsIf x (rule.goes_on (rule_site x) t) (step.followed_by_code (step_site x) o)
  unfolding rule.goes_on rule.pays step.followed_by_code
  followed_fits t new o same changed less asks =
      on_rule_test x (ltb t.number x.len) _ _ _
      (λ u next. it_breaks)
      (λ u next.
      let pay = enough t.number x.len (dues t.frame x.act.turns) x.owed u less in
      on_step_test x (ltb (x.at + x.len) (length x.m.code)) _ _ _
      (λ w next. it_asks (asks (record { is = refl; low = next _ refl; same = same; changes = changed; pay = pay }))
      (omega (arith, pay)))
      (λ w. absurd (below_not _ _ (next _ refl) w)) next)

  -- the word for what is selected
  module _ {E : Modes} (s : State) (l : Local) (a : Within E x.m x.h x.mode x.act s l) (same : s.context ≡ x.context)
      (changes : Changes x l.memory) where
    at_workspace : (place : ℕ) → pos place ≡ place_in x.act.layout.origin (s.depth +ℤ pos 0)
        → place + 4 ≤ length l.memory → place_of l.registers.workspace ≡ place
    unfolding place_of
    at_workspace place is inside =
        let at = a.frame.start in
        let low = a.frame.small in
        let w : l.registers.workspace ≡ data_start + place = omega (arith, ints, at, is) in
        ap (λ (n : ℕ). (n + 2147483392) % 4294967296) w ∙ (omega arith)

    -- which the rule takes from a state that has the same words
    selection_fits : (t : State) → t.depth ≡ s.depth → t.context ≡ s.context → (r : State → Ruling) (o : Local
        → Outcome)
        → ((place : ℕ) → pos place ≡ place_in x.act.layout.origin (s.depth +ℤ pos 0)
        → Within E x.m x.h x.mode x.act (written (s.depth +ℤ pos 0) Unknown s)
        (record l { memory = with_word l.memory place None })
        → Changes x (with_word l.memory place None)
        → FitsIf x (r (written (t.depth +ℤ pos 0) Unknown t)) (o (record l { memory = with_word l.memory place None })))
        → FitsIf x (keeps_selection (rule_site x) t r) (step.writes (step_site x) l.registers.workspace None l o)
    unfolding keeps_selection
    selection_fits t depth context r o go = writes_word_fits x t (pos 0) _ _ (λ there.
        let may : rights.may_write_word x.m s.context (s.depth +ℤ pos 0) ≡ true =
        subst (λ (k : ℤ). rights.may_write_word x.m s.context (k +ℤ pos 0) ≡ true) depth
        (subst (λ (n : ℕ). rights.may_write_word x.m n (t.depth +ℤ pos 0) ≡ true) context there) in
        let w = a.frame.own (s.depth +ℤ pos 0) may in
        let mine = ap (λ (n : ℕ). rights.may_write_word x.m n (s.depth +ℤ pos 0)) (sym same) ∙ may in
        writes_fits x l l.registers.workspace w.place None _ o (at_workspace w.place w.is w.inside) w.mine
        (go w.place w.is (after_write x s l (pos 0) Unknown None a may w says_nothing) (record {
          own = changes_more x.h x.memory l.memory (with_word l.memory w.place None) changes.own
              (write_is_own x.h l.memory w.place None w.mine);
          keeps = keeps_more changes.keeps (write_keeps x.m x.h (scope_of x.m x.context x.act.layout) (s.depth +ℤ pos 0)
              l.memory None mine (written_readable x.m x.context (s.depth +ℤ pos 0) mine) w);
        })))

-- ---- modes

module _ (x : Situation) (s : State) where
  in_enabling_rule : s.mode ≡ Enabling → (r : Ruling) (o : Outcome) → FitsIf x r o
      → FitsIf x (alternation.while_enabling s.mode r) o
  unfolding alternation.while_enabling
  in_enabling_rule enabling r o go = subst (λ (q : states.Mode). FitsIf x (alternation.while_enabling q r) o) (sym
      enabling) go

  pub in_disabling_rule : (done : ℕ) → s.mode ≡ Disabling done → (r : ℕ → Ruling) (o : Outcome) → FitsIf x (r done) o
      → FitsIf x (alternation.while_disabling s.mode r) o
  unfolding alternation.while_disabling
  in_disabling_rule done disabling r o go =
      subst (λ (q : states.Mode). FitsIf x (alternation.while_disabling q r) o) (sym disabling) go

enabling_mode : {q : machine.Mode} {p : states.Mode} → SameMode p q → p ≡ Enabling
    → (is_ready : Bool) × (q ≡ machine_modes.Enabling is_ready)
enabling_mode both_plain e = absurd (cc)
enabling_mode (both_enabling {is_ready = is_ready}) e = (is_ready, refl)
enabling_mode both_disabling e = absurd (cc)
enabling_mode both_starting e = absurd (cc)

disabling_mode : {q : machine.Mode} {p : states.Mode} {done : ℕ} → SameMode p q → p ≡ Disabling done
    → (selection : Option ℤ) × (q ≡ machine_modes.Disabling selection)
disabling_mode both_plain e = absurd (cc)
disabling_mode both_enabling e = absurd (cc)
disabling_mode (both_disabling {selection = selection}) e = (selection, refl)
disabling_mode both_starting e = absurd (cc)

-- ---- alt

module _ (x : Situation) (s : State) (l : Local) (a : Within ArePlain x.m x.h x.mode x.act s l) (same : s.context ≡
    x.context)
    (changes : Changes x l.memory) (n : owed s x.act ≤ x.owed) (here : StandsAt x s l) where
  pub alt_fits : FitsIf x (alternation.alt_rule (rule_site x) s) (step.operation_step (step_site x)
      operations.Alternate l)
  unfolding alternation.alt_rule alternation.while_plain step.operation_step
  alt_fits =
      in_plain_step x s a.same_mode _ _ (subst (λ (q : states.Mode). FitsIf x (alternation.while_plain q
      (rule.schedules (rule_site x) s (λ s. rule.goes_on (rule_site x) (record s { mode = Enabling; guards = [] }))))
      (step.schedules (step_site x) l (λ l. step.followed_by_code (step_site x) (begins l))))
      (sym a.same_mode.rule) (rule_schedules_fits x s _ _ (λ m.
      let d = scheduling x s l a m in
      step_schedules_fits x l _ _ d.may
      (followed_fits x (record (unscheduled s) { mode = Enabling; guards = [] }) (record l { memory = scheduled l }) _
      (unscheduled_context x s ∙ same) (scheduled_changes x d same changes)
      (let less = unscheduled_owed x s in omega (arith, less, n))
      (λ alters. to_begin alters (record {
        before = ap (λ (u : State). u.mode) here.state ∙ a.same_mode.rule;
        mode = refl;
        none = refl;
        after = whole_after (within_paid (in_other_mode Enabling (machine_modes.Enabling false) [] both_enabling refl
            d.after));
      }))))))

-- ---- enbc, enbs

module _ (x : Situation) (s : State) (l : Local) (a : Within AreStill x.m x.h x.mode x.act s l) (same : s.context ≡
    x.context)
    (changes : Changes x l.memory) (n : owed s x.act ≤ x.owed) (here : StandsAt x s l) where
  -- a guard more, by a name that it may have
  module _ (enabling : s.mode ≡ Enabling) (kind : GuardKind) (name : GuardName)
      (new : is_new kind s.guards ≡ true) (may : may_name (rule_site x) s name ≡ true)
      (held : (channel : EndKind) → kind ≡ Channel channel
      → rights.has_end x.m s.context (record { kind = channel; direction = In }) ≡ true) where
    abbrev one_more : State
    one_more = paid_state x (with_enabled kind name s)

    named : (word : ℤ) → name ≡ Word word
        → (rights.may_read_word x.m s.context word ≡ true) × (is_off_scheduling s.depth word ≡ true)
    named word e = and_parts _ _ (subst (λ (name : GuardName). may_name (rule_site x) s name ≡ true) e may)

    -- a channel that is enabled is that of no guard
    fresh : (channel : EndKind) → kind ≡ Channel channel → (i : ℕ) (g : Guard) → slice_get s.guards i ≡ Some g
        → g.kind ≡ Channel channel → ⊥
    fresh channel e i g at same_kind =
        tests_compare.other_channels channel s.guards
        (subst (λ (kind : GuardKind). is_new kind s.guards ≡ true) e new) i g at same_kind

    abbrev it : Guard
    it = enabled_guard kind name

    more_fit : GuardsFit x.m s → GuardsFit x.m one_more
    more_fit fit = record {
      apart = λ i j g h channel at there first second. elim (got_either s.guards it i g at) [
        | inl one ↦ elim (got_either s.guards it j h there) [
          | inl two ↦ fit.apart i j g h channel one two first second
          | inr last ↦ absurd (fresh channel (ap (λ (g : Guard). g.kind) (sym last.1) ∙ second) i g one first)
        ]
        | inr last ↦ elim (got_either s.guards it j h there) [
          | inl two ↦ absurd (fresh channel (ap (λ (g : Guard). g.kind) (sym last.1) ∙ first) j h two second)
          | inr end ↦ last.0 ∙ sym end.0
        ]
      ];
      held = λ i g channel at is. elim (got_either s.guards it i g at) [
        | inl one ↦ fit.held i g channel one is
        | inr last ↦ held channel (ap (λ (g : Guard). g.kind) (sym last.1) ∙ is)
      ];
      read = λ i g word at is. elim (got_either s.guards it i g at) [
        | inl one ↦ fit.read i g word one is
        | inr last ↦ (named word (ap (λ (g : Guard). g.name) (sym last.1) ∙ is)).0
      ];
      stays = λ i g word at is taken. elim (got_either s.guards it i g at) [
        | inl one ↦ fit.stays i g word one is taken
        | inr last ↦ off_is_not_below s.depth word (named word (ap (λ (g : Guard). g.name) (sym last.1) ∙ is)).1
            (subst (λ (q : states.Mode). IsTaken q s.depth word) enabling taken)
      ];
    }

    -- what is known after it, with the value of A
    enables_of : (v : ℤ) → MeansKnown x.m (words_in x.m s.context).reads x.act.layout l.memory s.stack.a (Some v)
        → name_of s.stack.a ≡ Ok name
        → Enables x kind (not (step.address v == 0)) one_more (step.with_a_alone (Some v) l)
    enables_of v means is =
        let value = name_value x.m (words_in x.m s.context).reads x.act l.memory s.stack.a v name means is in
        let whole : (is_ready : Bool) → SameMode s.mode (machine_modes.Enabling is_ready) =
        λ is_ready. subst (λ (q : states.Mode). SameMode q (machine_modes.Enabling is_ready)) (sym enabling)
        both_enabling in
        record {
          before = ap (λ (u : State). u.mode) here.state ∙ enabling;
          mode = enabling;
          name = name;
          list = ap (λ (u : State). u.guards ++ it ∷ []) (sym here.state);
          truth = record {
            value = v;
            is = ap (λ (memory : Memory). guard_value memory x.act name) (sym here.memory) ∙ value.is;
            yes = is_true v;
            no = is_false v value.fits;
          };
          memory = here.memory;
          keeps = record {
            fit = λ fit. more_fit (subst (λ (u : State). GuardsFit x.m u) here.state fit);
            values = λ fit i g at. ap (λ (memory : Memory). guard_value memory x.act g.name) here.memory;
          };
          after = λ is_ready. whole_after (within_paid (in_other_mode s.mode (machine_modes.Enabling is_ready)
              (s.guards ++ it ∷ []) (whole is_ready) a.same_mode.still
              (after_stack x {number = s.number} a (record { a = means; b = unknown_means; c = unknown_means }))));
        }

  -- what the rule of a guard asks
  enables_fit : (kind : GuardKind) (v : ℤ)
      → MeansKnown x.m (words_in x.m s.context).reads x.act.layout l.memory s.stack.a (Some v)
      → ((channel : EndKind) → kind ≡ Channel channel
      → rights.has_end x.m s.context (record { kind = channel; direction = In }) ≡ true)
      → s.mode ≡ Enabling → (o : Outcome)
      → ((name : GuardName) → Enables x kind (not (step.address v == 0)) (paid_state x (with_enabled kind name s))
      (step.with_a_alone (Some v) l)
      → ((channel : EndKind) → kind ≡ Channel channel → (i : ℕ) (g : Guard) → slice_get x.before.guards i ≡ Some g
      → g.kind ≡ Channel channel → ⊥)
      → FitsIf x (rule.goes_on (rule_site x) (with_enabled kind name s)) o)
      → FitsIf x (alternation.enables (rule_site x) s kind) o
  unfolding alternation.enables
  enables_fit kind v means held enabling o go =
      in_enabling_rule x s enabling _ _
      (wants_fits x (is_new kind s.guards) _ _ _ (λ new. wants_fits x (has_room s.guards) _ _ _ (λ room.
      settles_fits x (name_of s.stack.a) _ _ (λ name is. wants_fits x (may_name (rule_site x) s name) _ _ _ (λ may.
      go name (enables_of enabling kind name new may held v means is)
      (λ channel e i g at. fresh enabling kind name new may held channel e i g
      (subst (λ (u : State). slice_get u.guards i ≡ Some g) here.state at)))))))

  in_enabling_step : s.mode ≡ Enabling → (r : Ruling) (o : Outcome) → FitsIf x r o
      → FitsIf x r (step.while_enabling x.mode o)
  unfolding step.while_enabling
  in_enabling_step enabling r o go =
      let q = enabling_mode a.same_mode.modes enabling in
      subst (λ (q : machine.Mode). FitsIf x r (step.while_enabling q o)) (sym q.1) go

  at_channel : (kind : EndKind) (u : ℤ) → IsHeldChannel x s In kind u
      → rights.has_end x.m s.context (record { kind = kind; direction = In }) ≡ true
      → IsAtChannel x kind (step.address u)
  at_channel kind u c held = record {
    end = ap (λ (n : ℕ). rights.has_end x.m n (record { kind = kind; direction = In })) (sym same) ∙ held;
    address_is = c.address;
  }

  same_channel : (kind channel : EndKind) → rights.has_end x.m s.context (record { kind = kind; direction = In }) ≡ true
      → Channel kind ≡ Channel channel
      → rights.has_end x.m s.context (record { kind = channel; direction = In }) ≡ true
  same_channel kind channel held e =
      let it : kind ≡ channel = cc in
      subst (λ (kind : EndKind). rights.has_end x.m s.context (record { kind = kind; direction = In }) ≡ true) it held

  pub enbc_fits : s.mode ≡ Enabling → FitsIf x (alternation.enbc_rule (rule_site x) s)
      (step.operation_step (step_site x) operations.EnableChannel l)
  unfolding alternation.enbc_rule step.operation_step
  enbc_fits enabling =
      in_enabling_step enabling _ _ (uses_fits x s.stack.a l.registers.stack.a _ _ a.knows.registers.a (λ v first.
      uses_fits x s.stack.b l.registers.stack.b _ _ a.knows.registers.b (λ u second.
      names_channel_fits x s.stack.b.fact _ _ (λ kind named.
      wants_fits x (may_receive (rule_site x) s kind) _ _ _ (λ held.
      let c = held_channel x s l a In s.stack.b.fact u second.fact kind named held in
      held_channel_fits x In u _ _ c
      (enables_fit (Channel kind) v first (λ channel e. same_channel kind channel held e) enabling _ (λ name en fresh.
      alters_fits x (with_enabled (Channel kind) name s) (step.with_a_alone (Some v) l) _ same changes n
      (λ alters. to_enable kind alters (at_channel kind u c held) en (fresh kind refl)))))))))

  pub enbs_fits : s.mode ≡ Enabling → FitsIf x (alternation.enbs_rule (rule_site x) s)
      (step.operation_step (step_site x) operations.EnableSkip l)
  unfolding alternation.enbs_rule step.operation_step
  enbs_fits enabling =
      in_enabling_step enabling _ _ (uses_fits x s.stack.a l.registers.stack.a _ _ a.knows.registers.a (λ v first.
      enables_fit Skip v first (λ channel e. absurd (cc)) enabling _ (λ name en fresh.
      followed_fits x (with_enabled Skip name s) (step.with_a_alone (Some v) l) _ same changes n
      (λ alters. to_enable_skip alters en))))

  -- ---- altwt

  -- no guard is named by a word that the machine takes now
  waits_stays : (enabling : s.mode ≡ Enabling) → list_any (is_named_by s.depth) s.guards ≡ false → GuardsFit x.m s
      → (i : ℕ) (g : Guard) (word : ℤ) → slice_get s.guards i ≡ Some g → g.name ≡ Word word
      → IsTaken (Disabling 0) s.depth word → ⊥
  waits_stays enabling none fit i g word at is (inl below) =
      fit.stays i g word at is (subst (λ (q : states.Mode). IsTaken q s.depth word) (sym enabling) below)
  waits_stays enabling none fit i g word at is (inr here) =
      tests_compare.other_words s.depth s.guards none i g at (is ∙ ap Word here)

  pub altwt_fits : s.mode ≡ Enabling → FitsIf x (alternation.altwt_rule (rule_site x) s)
      (step.operation_step (step_site x) operations.AlternationWait l)
  unfolding alternation.altwt_rule step.operation_step written
  altwt_fits enabling =
      in_enabling_step enabling _ _
      (in_enabling_rule x s enabling _ _
      (wants_fits x (not (list_any (is_named_by s.depth) s.guards)) _ _ _ (λ unnamed.
      rule_schedules_fits x s _ _ (λ m.
      let d = scheduling x s l a m in
      step_schedules_fits x l _ _ d.may
      (selection_fits x (unscheduled s) (record l { memory = scheduled l }) d.after (unscheduled_context x s ∙ same)
      (scheduled_changes x d same changes) (unscheduled s) refl refl _ _ (λ place is b later.
      followed_fits x (rule.without_registers (in_mode (Disabling 0) (written (s.depth +ℤ pos 0) Unknown (unscheduled
      s))))
      (step.without_registers (record l { memory = with_word (scheduled l) place None })) _
      (unscheduled_context x s ∙ same) later (still_owed)
      (λ alters. to_wait alters (waits_of (none_named unnamed) m place is b))))))))
    where
      none_named : not (list_any (is_named_by s.depth) s.guards) ≡ true
          → list_any (is_named_by s.depth) s.guards ≡ false
      none_named t = on (list_any (is_named_by s.depth) s.guards) t
        where
          on : (b : Bool) → not b ≡ true → b ≡ false
          on true t = absurd (cc)
          on false t = refl

      still_owed : owed (rule.without_registers (in_mode (Disabling 0) (written (s.depth +ℤ pos 0) Unknown
          (unscheduled s))))
          x.act ≤ x.owed
      still_owed =
          let one = written_owed (s.depth +ℤ pos 0) Unknown (unscheduled s) x.act in
          let less = unscheduled_owed x s in
          omega (arith, one, less, n)

      waits_of : list_any (is_named_by s.depth) s.guards ≡ false → MaySchedule x.m s.context s.depth → (place : ℕ)
          → pos place ≡ place_in x.act.layout.origin ((unscheduled s).depth +ℤ pos 0)
          → Within AreStill x.m x.h x.mode x.act (written ((unscheduled s).depth +ℤ pos 0) Unknown (unscheduled s))
          (record l { memory = with_word (scheduled l) place None })
          → AwaitsGuards x (paid_state x (rule.without_registers
          (in_mode (Disabling 0) (written (s.depth +ℤ pos 0) Unknown (unscheduled s)))))
          (step.without_registers (record l { memory = with_word (scheduled l) place None }))
      waits_of none m place is b = record {
        before = ap (λ (u : State). u.mode) here.state ∙ enabling;
        mode = refl;
        list = ap (λ (u : State). u.guards) (sym here.state);
        keeps = record {
          fit = λ fit. let old = subst (λ (u : State). GuardsFit x.m u) here.state fit in record {
            apart = old.apart;
            held = old.held;
            read = old.read;
            stays = waits_stays enabling none old;
          };
          values = λ fit i g at.
              let old = subst (λ (u : State). GuardsFit x.m u) here.state fit in
              let there = subst (λ (u : State). slice_get u.guards i ≡ Some g) here.state at in
              let stays = λ (word : ℤ). λ (is : g.name ≡ Word word). waits_stays enabling none old i g word there is in
              value_stays l.memory (with_word (scheduled l) place None) x g.name (λ word named.
              word_elsewhere (scheduled l) x.act.layout.origin word (s.depth +ℤ pos 0) place None is
              (λ e. stays word named (inr (omega (arith, ints, e))))
              ∙ scheduled_elsewhere (scheduling x s l a m) word (λ below. stays word named (inl below)))
              ∙ ap (λ (memory : Memory). guard_value memory x.act g.name) here.memory;
        };
        after = λ selection. whole_after (within_paid (in_other_mode (Disabling 0) (machine_modes.Disabling selection)
            s.guards both_disabling refl
            (after_stack x {number = s.number} b (record {
              a = unknown_means;
              b = unknown_means;
              c = unknown_means;
            }))));
      }

  -- ---- disc, diss

  in_disabling_step : (done : ℕ) → s.mode ≡ Disabling done → (r : Ruling) (o : Option ℤ → Outcome)
      → ((selection : Option ℤ) → FitsIf x r (o selection)) → FitsIf x r (step.while_disabling x.mode o)
  unfolding step.while_disabling
  in_disabling_step done disabling r o go =
      let q = disabling_mode a.same_mode.modes disabling in
      subst (λ (q : machine.Mode). FitsIf x r (step.while_disabling q o)) (sym q.1) (go q.0)

  -- the next guard, by its number
  guard_found : (guards : List Guard) (n : ℕ) (g : Guard) → guard_at guards n ≡ Ok g → slice_get guards n ≡ Some g
  unfolding guard_at
  guard_found guards n g e = on_room (ltb n 64) e
    where
      on : (o : Option Guard) → ◌≡◌ {A = Result Guard Rule} (elim o as (λ o. Result Guard Rule) [
        | None ↦ Err rules.Alternation
        | Some guard ↦ Ok guard
      ]) (Ok g) → o ≡ Some g
      on None e = absurd (cc)
      on (Some h) e = let it : h ≡ g = cc in ap Some it

      on_room : (b : Bool) → ◌≡◌ {A = Result Guard Rule} (cond b (elim (slice_get guards n) as (λ o. Result Guard
          Rule) [
            | None ↦ Err rules.Alternation
            | Some guard ↦ Ok guard
          ]) (Err rules.Alternation)) (Ok g) → slice_get guards n ≡ Some g
      on_room true e = on (slice_get guards n) e
      on_room false e = absurd (cc)

  distance_value : (fact : Fact) (d v : ℤ) → distance_of fact ≡ Ok d → Means x.m x.act.layout fact (Some v) → v ≡ d
  unfolding distance_of
  distance_value (Number lo hi) d v e (is_number low high fits) =
      let p = ok_if (is_same_number lo hi) lo d _ e in
      let equal = same_word_by lo hi p.0 in
      omega (arith, ints, p.1, low, high, equal)
  distance_value Unknown d v e means = absurd (cc)
  distance_value (Pointer region lo hi steps) d v e means = absurd (cc)
  distance_value (CodeAddress offset) d v e means = absurd (cc)
  distance_value (Loop base count weight) d v e means = absurd (cc)
  distance_value ReturnAddress d v e means = absurd (cc)

  -- a guard of the list, once one was disabled, is as it was but for its exit
  as_before : (done : ℕ) (guard : Guard) (d : ℤ) → slice_get s.guards done ≡ Some guard → (i : ℕ) (g : Guard)
      → slice_get (slice_set s.guards done (disabled_guard d guard)) i ≡ Some g
      → (old : Guard) × (slice_get s.guards i ≡ Some old) × (g.kind ≡ old.kind) × (g.name ≡ old.name)
  as_before done guard d there i g at = elim (set_either s.guards done (disabled_guard d guard) i g at) [
    | inl it ↦ (
      guard,
      subst (λ n. slice_get s.guards n ≡ Some guard) it.0 there,
      ap (λ (g : Guard). g.kind) it.1,
      ap (λ (g : Guard). g.name) it.1,
    )
    | inr other ↦ (g, other.1, refl, refl)
  ]

  module _ (done : ℕ) (disabling : s.mode ≡ Disabling done) (kind : GuardKind) (guard : Guard)
      (there : slice_get s.guards done ≡ Some guard) (d : ℤ) where
    abbrev one_less : State
    one_less = with_disabled done (disabled_guard d guard) s

    abbrev one_less_kept : State
    one_less_kept = paid_state x (written (one_less.depth +ℤ pos 0) Unknown one_less)

    less_fit : GuardsFit x.m s → GuardsFit x.m one_less_kept
    unfolding written
    less_fit fit = record {
      apart = λ i j g h channel at to first second.
          let one = as_before done guard d there i g at in
          let two = as_before done guard d there j h to in
          fit.apart i j one.0 two.0 channel one.1 two.1 (sym one.2 ∙ first) (sym two.2 ∙ second);
      held = λ i g channel at is.
          let one = as_before done guard d there i g at in
          fit.held i one.0 channel one.1 (sym one.2 ∙ is);
      read = λ i g word at is.
          let one = as_before done guard d there i g at in
          fit.read i one.0 word one.1 (sym one.3 ∙ is);
      stays = λ i g word at is taken.
          let one = as_before done guard d there i g at in
          fit.stays i one.0 word one.1 (sym one.3 ∙ is)
          (subst (λ (q : states.Mode). IsTaken q s.depth word) (sym disabling) taken);
    }

    disables_of : (name : GuardName) → is_guard kind name guard ≡ true → (v : ℤ)
        → MeansKnown x.m (words_in x.m s.context).reads x.act.layout l.memory s.stack.b (Some v)
        → name_of s.stack.b ≡ Ok name → (place : ℕ) → pos place ≡ place_in x.act.layout.origin (s.depth +ℤ pos 0)
        → Within AreStill x.m x.h x.mode x.act (written (s.depth +ℤ pos 0) Unknown s)
        (record l { memory = with_word l.memory place None })
        → Disables x kind (not (step.address v == 0)) d one_less_kept
        (record l { memory = with_word l.memory place None })
    unfolding written
    disables_of name is_it v means is place at b =
        let value = name_value x.m (words_in x.m s.context).reads x.act l.memory s.stack.b v name means is in
        let parts = and_parts (is_same_kind guard.kind kind) (is_same_name guard.name name) is_it in
        let names : guard.name ≡ name = tests_compare.names guard.name name parts.1 in
        record {
          done = done;
          before = ap (λ (u : State). u.mode) here.state ∙ disabling;
          mode = refl;
          guard = guard;
          there = subst (λ (u : State). slice_get u.guards done ≡ Some guard) (sym here.state) there;
          kind_is = tests_compare.kinds guard.kind kind parts.0;
          list = ap (λ (u : State). slice_set u.guards done (disabled_guard d guard)) (sym here.state);
          truth = record {
            value = v;
            is = ap (λ (memory : Memory). guard_value memory x.act guard.name) (sym here.memory)
                ∙ ap (guard_value l.memory x.act) names ∙ value.is;
            yes = is_true v;
            no = is_false v value.fits;
          };
          keeps = record {
            fit = λ fit. less_fit (subst (λ (u : State). GuardsFit x.m u) here.state fit);
            values = λ fit i g to.
                let old = subst (λ (u : State). GuardsFit x.m u) here.state fit in
                let now = subst (λ (u : State). slice_get u.guards i ≡ Some g) here.state to in
                value_stays l.memory (with_word l.memory place None) x g.name (λ word named.
                word_elsewhere l.memory x.act.layout.origin word (s.depth +ℤ pos 0) place None at
                (λ e. old.stays i g word now named (subst (λ (q : states.Mode). IsTaken q s.depth word) (sym disabling)
                (inr (omega (arith, ints, e))))))
                ∙ ap (λ (memory : Memory). guard_value memory x.act g.name) here.memory;
          };
          after = λ selection a low high. whole_after (within_paid (in_other_mode (Disabling (done + 1))
              (machine_modes.Disabling selection) (slice_set s.guards done (disabled_guard d guard)) both_disabling refl
              (after_stack x {number = s.number} b (record {
                a = record { fact = is_number low high (omega (arith, ints, low, high)); source = from_nowhere };
                b = unknown_means;
                c = unknown_means;
              }))));
        }

  -- what the rule of a guard that is disabled asks
  disables_fit : (done : ℕ) → s.mode ≡ Disabling done → (kind : GuardKind) (v u : ℤ)
      → Means x.m x.act.layout s.stack.a.fact (Some v)
      → MeansKnown x.m (words_in x.m s.context).reads x.act.layout l.memory s.stack.b (Some u)
      → (o : Local → Outcome)
      → ((t : State) (new : Local) → t.context ≡ x.context → Changes x new.memory → owed t x.act ≤ x.owed
      → Disables x kind (not (step.address u == 0)) v (paid_state x t) new
      → FitsIf x (rule.goes_on (rule_site x) t) (o new))
      → FitsIf x (alternation.disables (rule_site x) s kind s.stack.a.fact)
      (step.writes (step_site x) l.registers.workspace None l o)
  unfolding alternation.disables written
  disables_fit done disabling kind v u first second o go =
      in_disabling_rule x s done disabling _ _
      (settles_fits x (guard_at s.guards done) _ _ (λ guard found. settles_fits x (name_of s.stack.b) _ _ (λ name is.
      wants_fits x (is_guard kind name guard) _ _ _ (λ is_it. settles_fits x (distance_of s.stack.a.fact) _ _ (λ d away.
      let there = guard_found s.guards done guard found in
      selection_fits x s l a same changes (with_disabled done (disabled_guard d guard) s) refl refl _ o (λ place at b
      later.
      go (written ((with_disabled done (disabled_guard d guard) s).depth +ℤ pos 0) Unknown
      (with_disabled done (disabled_guard d guard) s)) (record l { memory = with_word l.memory place None }) same later
      (let less = written_owed (s.depth +ℤ pos 0) Unknown (with_disabled done (disabled_guard d guard) s) x.act in
      omega (arith, less, n))
      (subst (λ (z : ℤ). Disables x kind (not (step.address u == 0)) z
      (one_less_kept done disabling kind guard there d) (record l { memory = with_word l.memory place None }))
      (sym (distance_value s.stack.a.fact d v away first))
      (disables_of done disabling kind guard there d name is_it u second is place at b))))))))

  pub disc_fits : (done : ℕ) → s.mode ≡ Disabling done → FitsIf x (alternation.disc_rule (rule_site x) s)
      (step.operation_step (step_site x) operations.DisableChannel l)
  unfolding alternation.disc_rule guard_channel step.operation_step
  disc_fits done disabling =
      in_disabling_step done disabling _ _ (λ selection.
      uses_fits x s.stack.a l.registers.stack.a _ _ a.knows.registers.a (λ v first.
      uses_fits x s.stack.b l.registers.stack.b _ _ a.knows.registers.b (λ u second.
      uses_fits x s.stack.c l.registers.stack.c _ _ a.knows.registers.c (λ w third.
      wants_fits x (is_near_pointer s.stack.c.fact) _ _ _ (λ near.
      settles_fits x (guard_channel s.stack.c.fact) _ _ (λ kind is.
      let named = channel_found s.stack.c.fact kind is in
      wants_fits x (may_receive (rule_site x) s kind) _ _ _ (λ held.
      let c = held_channel x s l a In s.stack.c.fact w third.fact kind named held in
      held_channel_fits x In w _ _ c
      (disables_fit done disabling (Channel kind) v u first.fact second _ (λ t new context changed less dis.
      alters_fits x t new _ context changed less
      (λ alters. to_disable kind alters (at_channel kind w c held) dis))))))))))
    where
      channel_found : (fact : Fact) (kind : EndKind) → guard_channel fact ≡ Ok kind
          → channel_of (Alone fact) ≡ Some kind
      channel_found fact kind e = on (channel_of (Alone fact)) e
        where
          on : (o : Option EndKind) → ◌≡◌ {A = Result EndKind Rule} (elim o as (λ o. Result EndKind Rule) [
            | None ↦ Err rules.Alternation
            | Some kind ↦ Ok kind
          ]) (Ok kind) → o ≡ Some kind
          on None e = absurd (cc)
          on (Some found) e = let it : found ≡ kind = cc in ap Some it

  pub diss_fits : (done : ℕ) → s.mode ≡ Disabling done → FitsIf x (alternation.diss_rule (rule_site x) s)
      (step.operation_step (step_site x) operations.DisableSkip l)
  unfolding alternation.diss_rule step.operation_step
  diss_fits done disabling =
      in_disabling_step done disabling _ _ (λ selection.
      uses_fits x s.stack.a l.registers.stack.a _ _ a.knows.registers.a (λ v first.
      uses_fits x s.stack.b l.registers.stack.b _ _ a.knows.registers.b (λ u second.
      disables_fit done disabling Skip v u first.fact second _ (λ t new context changed less dis.
      followed_fits x t new _ context changed less (λ alters. to_disable_skip alters dis)))))
