-- What a byte of the running process does: it is in the code, is a prefix, or completes an instruction.
use Rattle.std.proofs.Common.{◌≡◌, ℕ, suc, ◌+◌, ◌≤◌, true, false, ℤ, inl, inr, List, [], ◌∷◌, ◌++◌}
use Rattle.std.proofs.Common.{length, Option, Some, None, refl, sym, ap, ◌∙◌, subst, arith}
use Rattle.std.specs.Prelude.{slice_get}
use Rattle.prefix_decoder.specs.declared.function.Fun.{Fun}
use Rattle.prefix_decoder.specs.Functions.{fun_of, function_code, nibble}
use Rattle.prefix_decoder.specs.Operand.{with_nibble, after_prefix}
use Rattle.module_format.specs.Contents.{Contents}
use Rattle.machine_state.specs.declared.process.Task.{Task}
use Rattle.machine_state.specs.declared.process.Condition.TheVariants.{Ready, Stopped}
use Rattle.machine_state.specs.declared.fault.FaultKind.{FaultKind}
use Rattle.machine_state.specs.Memory.{Memory}
use Rattle.machine_state.specs.Holding.{nothing}
use Rattle.machine_state.specs.World.{World, Role, Queue, held}
use Rattle.machine_state.specs.Site.{Local, Outcome}
use Rattle.machine_state.specs.LocalStep.{local_step}
use Rattle.machine_state.specs.Frame.{ChangesOwn}
use Rattle.machine_state.specs.Moves.{counted, picked, dispatch}
use Rattle.machine_state.specs.Turn.{Turn, at_here, between, continued}
use Rattle.machine_state.specs.Happens.{site_of}
use Rattle.machine_state.specs.Endings.{TurnsInto, at_fault, has_run, has_emitted, it_goes, it_jumps, it_is_sliced}
use Rattle.machine_state.specs.Endings.{it_lands, it_stops, Refused, no_code_follows, local_here}
use Rattle.rulings.specs.Meaning.{IsWellFormed}
use Rattle.certified_worlds.specs.Certified.{IsCertified}
use Rattle.certified_worlds.specs.Point.{Point, MeetsPoint, Decodes}
use Rattle.certified_worlds.specs.Lives.{awaits, Meets, it_lives, it_stopped}
use Rattle.machine_state.specs.declared.process.Mode.TheVariants as modes
use Rattle.certified_worlds.specs.Invariant.{Holds}
use Rattle.certified_worlds.proofs.Steps.{site_in, here_of, task_at, owes, GoesOnAs, Comes, comes_on}
use Rattle.certified_worlds.proofs.Steps.{comes_to, comes_straight, comes_down, comes_in, comes_out, comes_to_begin}
use Rattle.certified_worlds.proofs.Steps.{comes_to_enable, comes_to_enable_skip, comes_to_wait, comes_to_disable}
use Rattle.certified_worlds.proofs.Steps.{comes_to_disable_skip, comes_to_end, comes_last}
use Rattle.certified_worlds.proofs.StartedWorlds.{plain_beside}
use Rattle.verifier.proofs.CalmWorlds.{IsCalm, is_alternating, is_among_starts, is_plain}
use Rattle.verifier.proofs.Alternations.{unopened, has_selected, begins_holds, enables_holds, enables_skip_holds}
use Rattle.verifier.proofs.Alternations.{waits_holds}
use Rattle.verifier.proofs.Alternations.{disables_holds, disables_skip_holds, ends_holds, never_enabling}
use Rattle.verifier.proofs.Alternations.{never_disabling, never_ending}
use Rattle.certified_worlds.proofs.Carrying.{MustBeReady, enabled_as_before, alternates_on, ready_on}
use Rattle.certified_worlds.proofs.LivesAs.{LivesAs}
use Rattle.certified_worlds.specs.Alternating.{AlternatesHere}
use Rattle.machine_state.specs.EnabledLaws.{Alternates, HasReady}
use Rattle.machine_state.specs.declared.process.Condition.{Condition}
use Rattle.states.specs.declared.known.Guard.{Guard}
use Rattle.states.specs.declared.known.Mode as states
use Rattle.certificate.specs.Rights as rights
use Rattle.module_format.specs.declared.rows.Direction.TheVariants.{In}
use Rattle.rulings.specs.Meaning.{Activation, words_in}
use Rattle.rulings.specs.Regions.{Scope, scope_of, KeepsMemory}
use Rattle.rulings.proofs.Within.{scope_still}
use Rattle.machine_state.specs.Roles.{opened_in}
use Rattle.rulings.specs.Guarding.{guard_value, first_left, IsTaken, GuardsFit}
use Rattle.rulings.specs.Fitting.{Situation, Stays}
use Rattle.std.specs.Prelude.{slice_set}
use Rattle.verifier.proofs.LawfulWorlds.{IsLawful}
use Rattle.verifier.proofs.Talking.{never_in, never_out}
use Rattle.verifier.proofs.Messages.{moved_in, moved_out, emitted_holds}
use Rattle.verifier.proofs.InItsMode.{at_still}
use Rattle.verifier.proofs.OthersGuards.{LeavesEnabled, enabled_same, ready_is_silent}
use Rattle.verifier.proofs.Prefixes.{prefixed, prefixed_lives, puts_prefixed, some_owed, world_prefixed}
use Rattle.verifier.proofs.SharedOut.{shared_out}
use Rattle.module_format.specs.Keeping.{Keeps as IsKept}
use Rattle.machine_state.specs.Holding.{Holding}
use Rattle.machine_state.specs.Instructions.{instruction_of}
use Rattle.states.specs.declared.known.Mode.TheVariants as states_modes
use Rattle.rulings.specs.Guarding.{HasSelected}
use Rattle.facts.specs.Rules.{rule_at}
use Rattle.facts.specs.RulesFit.{FitsStep, it_starts, it_joins, it_fits}
use Rattle.certified_worlds.proofs.Steps.{last_fits, unbroken}
use Rattle.verifier.proofs.PartingTurns as parting
use Rattle.verifier.proofs.StepsKeep.{LeavesKept, fits_keep}
use Rattle.verifier.proofs.Tables.{row_of}
use Rattle.verifier.proofs.Tables.{Allows, channels_equal}
use Rattle.verifier.proofs.Tables.{Puts, Living, nothing_changes, holds_put, holds_put_alternating}

-- ---- a process that runs

module _ (m : Contents) (d : Decodes m) (wf : IsWellFormed m) (kept : IsKept m) (c : IsCertified m) (w : World)
    (lawful : IsLawful m w) (h : Holds m w) (p : ℕ) (t : Task) (ready : t.condition ≡ Ready)
    (r : Living m w h p t) (calm_now : t.mode ≡ modes.Starting → ⊥) where
  abbrev point : Point m t
  point = r.lives.point

  meets_now : MeetsPoint m t (held (row_of r).role) (row_of r).start point w.memory
  meets_now = r.lives.claim w.memory refl (λ place e none. refl) (λ place e.
      let no' : true ≡ false = sym e ∙ ap (λ c. awaits c place) ready in absurd (cc))

  no_join : opened_in w.roles p ≡ None
  no_join = unopened m wf w lawful h p t ready r meets_now calm_now 0

  -- what its instruction changes within its activation is allowed
  allows : (new : Memory) → ChangesOwn (held (row_of r).role) w.memory new
      → KeepsMemory m (held (row_of r).role) (scope_of m point.state.context point.act.layout) w.memory new
      → Allows r.lives w.memory new
  allows new own keeps = record {
    own = own;
    keeps = subst (λ (scope : Scope). KeepsMemory m (held (row_of r).role) scope w.memory new)
        (sym (scope_still m point.state.context point.state.mode point.act.layout (at_still r.lives calm_now))) keeps;
  }

  -- where no channel and no link has changed
  same_enabled : (after : World) → after.channels ≡ w.channels → after.links.inputs ≡ w.links.inputs
      → LeavesEnabled w after p t
  same_enabled after channels inputs = enabled_same channels inputs (ready_is_silent w p t ready)

  abbrev here_now : Situation
  here_now = here_of m d wf c (held (row_of r).role) point.act w.memory t point.state point.instr

  -- a byte was executed, and the process goes on in plain mode as another task
  went_on : (after : World) (u : Task) (new : Memory) (later : ℕ) → Puts w after p u new → LeavesEnabled w after p t
      → after.counters.executed ≡ w.counters.executed + 1 → later + 1 ≤ (row_of r).due → u.mode ≡ modes.Plain
      → Allows r.lives w.memory new → Meets m (held (row_of r).role) (row_of r).start new u later → Holds m after
  went_on after u new later puts leaves more less plain changes meets =
      holds_put m w h (shared_out lawful) p t r after u new later puts leaves changes no_join (omega arith) plain meets

  -- it lives on at another offset, whichever process runs next
  module _ (to : ℕ) (l : Local) (later : ℕ) (queue : Queue) (less : later + 1 ≤ (row_of r).due)
      (changes : Allows r.lives w.memory l.memory)
      (goes : GoesOnAs m here_now (row_of r).start t (task_at m t t.mode to l) l later) where
    abbrev after : World
    after = record (counted (continued (at_here m p t 0) to l w)) { queue = queue }

    goes_puts : Puts w after p (task_at m t t.mode to l) l.memory
    goes_puts = record {
      tasks = ap (λ (c : Condition). slice_set w.tasks p (record {
        registers = between to l.registers;
        mode = t.mode;
        condition = c;
      })) ready;
      memory = refl;
      roles = refl;
      channels = channels_equal refl;
      kept = h.kept;
      fault = refl;
    }

    goes_on_alternating : (alternates : Alternates t.mode t.condition) → (t.mode ≡ modes.Plain → ⊥) → Holds m after
    goes_on_alternating alternates busy =
        let kept = goes.stays busy in
        let old = r.guards alternates in
        let act_is = kept.2 in
        let u : Task = task_at m t t.mode to l in
        holds_put_alternating m w h (shared_out lawful) p t r after u l.memory later goes_puts
        (same_enabled after refl refl) changes no_join (omega arith)
        goes.lives
        (subst (λ (act : Activation). AlternatesHere m after p u goes.state act) (sym act_is)
        (alternates_on m w after p t u point.state goes.state point.act old
        (enabled_as_before w after p refl refl)
        (λ n g there. ap (λ (memory : Memory). guard_value memory point.act g.name) kept.0.memory)
        (record { guards = kept.0.guards; left = ap first_left kept.0.mode })
        (same_fit kept.0 kept.1 old.fit) (λ distance is. is)
        (λ must. elim (old.ready (still_must must)) [
          | inl found ↦ inl (subst (λ (tasks : List Task). HasReady tasks w.channels w.links.inputs p) (sym
              goes_puts.tasks)
              (ready_on w.tasks w.channels w.links.inputs p p t u r.here (λ e sends. let no' = sym ready ∙ sends in cc)
              found))
          | inr skip ↦ inr skip
        ])))
      where
        still_must : MustBeReady (task_at m t t.mode to l) → MustBeReady t
        still_must (inl so) = inl so
        still_must (inr so) = inr (so.0, ready)

        same_fit : Stays here_now goes.state l → goes.state.context ≡ point.state.context → GuardsFit m point.state
            → GuardsFit m goes.state
        same_fit s context fit = record {
          apart = λ i j g k channel one two. fit.apart i j g k channel (back i g one) (back j k two);
          held = λ i g channel one is. ap (λ n. rights.has_end m n (record { kind = channel; direction = In })) context
              ∙ fit.held i g channel (back i g one) is;
          read = λ i g word one is. ap (λ n. (words_in m n).reads word) context ∙ fit.read i g word (back i g one) is;
          stays = λ i g word one is taken. fit.stays i g word (back i g one) is
              (subst (λ (q : states.Mode). IsTaken q point.state.depth word) s.mode
              (subst (λ (k : ℤ). IsTaken goes.state.mode k word) s.depth taken));
        }
          where
            back : (i : ℕ) (g : Guard) → slice_get goes.state.guards i ≡ Some g
                → slice_get point.state.guards i ≡ Some g
            back i g one = subst (λ (guards : List Guard). slice_get guards i ≡ Some g) s.guards one

    goes_on : Holds m after
    goes_on = on (lawful.calm p t r.here)
      where
        on : IsCalm t → Holds m after
        on (is_plain plain) =
            went_on after (task_at m t t.mode to l) l.memory later goes_puts (same_enabled after refl refl) refl less
            plain changes (it_lives goes.lives.lives)
        on (is_among_starts starting now) = absurd (calm_now starting)
        on (is_alternating alternates) = goes_on_alternating alternates (λ plain. plain_beside plain alternates)

  -- what an instruction comes to needs nothing of the world that could be missing
  never_refused : (pick : ℕ) {o : Outcome} {kind : FaultKind}
      → Comes m here_now (row_of r).start t (row_of r).due o → Refused (at_here m p t pick) w o kind → ⊥
  never_refused pick (comes_on later changes lives less) (no_code_follows needs none) = elim needs [ ]
  never_refused pick (comes_to later changes lives less) (no_code_follows needs none) = elim needs [ ]
  never_refused pick (comes_straight later changes lives less) (no_code_follows needs none) = elim needs [ ]
  never_refused pick (comes_down plain changes less) (no_code_follows needs none) = elim needs [ ]
  never_refused pick (comes_in later plain talks changes lives less) refused =
      never_in m wf w lawful h p t ready r no_join pick talks refused
  never_refused pick (comes_out later plain talks changes lives less) refused =
      never_out m wf w lawful h p t ready r no_join pick talks refused
  never_refused pick (comes_to_begin later alters begun lives) (no_code_follows needs none) = elim needs [ ]
  never_refused pick (comes_to_enable later kind alters channel more fresh lives) refused =
      never_enabling m wf w lawful h p t ready r meets_now calm_now pick channel more fresh alters.low refused
  never_refused pick (comes_to_enable_skip later alters more lives) (no_code_follows needs none) = elim needs [ ]
  never_refused pick (comes_to_wait later alters awaits lives) (no_code_follows needs none) = elim needs [ ]
  never_refused pick (comes_to_disable later kind alters channel fewer lives) refused =
      never_disabling m wf w lawful h p t ready r meets_now calm_now pick later alters channel fewer lives refused
  never_refused pick (comes_to_disable_skip later alters fewer lives) (no_code_follows needs none) = elim needs [ ]
  never_refused pick (comes_to_end later all changes lives less low) refused =
      never_ending m wf w lawful h p t ready r meets_now calm_now pick all low refused

  -- whatever its instruction comes to, its turn ends so
  ended_holds : (pick : ℕ) {o : Outcome} {turn : Turn} → Comes m here_now (row_of r).start t (row_of r).due o
      → LeavesKept here_now o → TurnsInto (at_here m p t pick) w o turn → Holds m turn.world
  unfolding dispatch
  ended_holds pick (comes_on later changes goes less) kept (has_run (it_goes l)) =
      goes_on (t.registers.at + 1) l later w.queue less (allows l.memory changes kept) goes
  ended_holds pick (comes_to later changes goes less) kept (has_run (it_jumps to l)) =
      goes_on to l later w.queue less (allows l.memory changes kept) goes
  ended_holds pick (comes_to later changes goes less) kept (has_run (it_is_sliced to l)) =
      goes_on to l later (picked pick (record { running = None; ready = w.queue.ready ++ p ∷ [] })) less
      (allows l.memory changes kept) goes
  ended_holds pick (comes_straight later changes goes less) kept (has_run (it_lands to l)) =
      goes_on to l later w.queue less (allows l.memory changes kept) goes
  ended_holds pick (comes_down plain changes less) kept (has_run (it_stops l)) =
      went_on _ (record t { registers = between (t.registers.at + 1) l.registers; condition = Stopped }) l.memory 0
      (record {
        tasks = refl;
        memory = refl;
        roles = refl;
        channels = channels_equal refl;
        kept = h.kept;
        fault = refl;
      }) (same_enabled _ refl refl) refl less plain (allows l.memory changes kept) (it_stopped refl)
  ended_holds pick (comes_in {e = e} {l = l} later plain talks changes lives less) kept
      (has_run {after = after} moved) =
      moved_in m wf w lawful h p t ready plain r pick e l later less (allows l.memory changes kept) talks lives after
      moved
  ended_holds pick (comes_out {e = e} {l = l} later plain talks changes lives less) kept
      (has_run {after = after} moved) =
      moved_out m wf w lawful h p t ready plain r pick e l later less (allows l.memory changes kept) talks lives after
      moved
  ended_holds pick (comes_to_begin {l = l} {s = s} later alters begun lives) kept (has_run {after = after} moved) =
      begins_holds m wf w lawful h p t ready r meets_now calm_now pick l s later alters begun lives
      (allows l.memory alters.own kept) after moved
  ended_holds pick (comes_to_enable {l = l} {s = s} later kind alters channel more fresh lives) kept
      (has_run {after = after} moved) =
      enables_holds m wf w lawful h p t ready r meets_now calm_now pick l s later alters channel more lives
      (allows l.memory alters.own kept) after moved
  ended_holds pick (comes_to_enable_skip {l = l} {s = s} later alters more lives) kept (has_run {after = after} moved) =
      enables_skip_holds m wf w lawful h p t ready r meets_now calm_now pick l s later alters more lives
      (allows l.memory alters.own kept) after moved
  ended_holds pick (comes_to_wait {l = l} {s = s} later alters awaits lives) kept (has_run {after = after} moved) =
      waits_holds m wf w lawful h p t ready r meets_now calm_now pick l s later alters awaits lives
      (allows l.memory alters.own kept) after moved
  ended_holds pick (comes_to_disable {l = l} {s = s} later kind alters channel fewer lives) kept
      (has_run {after = after} moved) =
      disables_holds m wf w lawful h p t ready r meets_now calm_now pick l s later alters channel fewer lives
      (allows l.memory alters.own kept) after moved
  ended_holds pick (comes_to_disable_skip {l = l} {s = s} later alters fewer lives) kept
      (has_run {after = after} moved) =
      disables_skip_holds m wf w lawful h p t ready r meets_now calm_now pick l s later alters fewer lives
      (allows l.memory alters.own kept) after moved
  ended_holds pick (comes_to_end {to = to} {l = l} {s = s} {act = act} later all changes lives less low) kept
      (has_run {after = after} moved) =
      ends_holds m wf w lawful h p t ready r meets_now calm_now pick to l s act later (allows l.memory changes kept)
      lives less
      after moved
  ended_holds pick comes kept (at_fault refused) = absurd (never_refused pick comes refused)
  ended_holds pick (comes_out later plain talks changes lives less) kept (has_emitted e l k on same) =
      emitted_holds m wf w lawful h p t ready plain r pick e l later less (allows l.memory changes kept) talks lives k
      on

  selected : point.state.mode ≡ states_modes.Disabling (length point.state.guards)
      → HasSelected t.mode point.state.guards
  selected = has_selected m wf w lawful h p t ready r meets_now calm_now 0

  -- the byte that completes an instruction
  pub step_holds : (pick byte : ℕ) (f : Fun) {turn : Turn} → IsLawful m turn.world
      → slice_get m.code t.registers.at ≡ Some byte → fun_of (function_code byte) ≡ Some f
      → TurnsInto (at_here m p t pick) w (local_step (site_of (at_here m p t pick) w) f
      (with_nibble t.registers.operand (nibble byte)) (local_here t w)) turn
      → Holds m turn.world
  step_holds pick byte f {turn} next here is ends =
      let fits = last_fits m d wf c kept (held (row_of r).role) (row_of r).start w.memory t point meets_now selected
      byte f here is in
      on fits.0 (subst (λ (g : Holding). FitsStep here_now point.state (local_here t w)
      (instruction_of point.instr.fun point.instr.operand) (rule_at m t.registers.began point.instr point.state)
      (local_step (site_in m (t.registers.at + 1) t.mode g) f (with_nibble t.registers.operand (nibble byte))
      (local_here t w)))
      (sym (ap (λ (o : Option Role). elim o [ None ↦ nothing | Some role ↦ held role ]) (row_of r).has_role)) fits.1)
      ends
    where
      on : {o : Outcome} → point.taken + 1 ≡ point.instr.len
          → FitsStep here_now point.state (local_here t w) (instruction_of point.instr.fun point.instr.operand)
          (rule_at m t.registers.began point.instr point.state) o
          → TurnsInto (at_here m p t pick) w o turn → Holds m turn.world
      on last (it_fits none fits) ends = ended_holds pick
          (comes_last m d wf c kept (held (row_of r).role) (row_of r).start w.memory t (row_of r).due point meets_now
          r.lives.paid calm_now selected last fits)
          (fits_keep fits
          (unbroken m d wf c kept (held (row_of r).role) (row_of r).start w.memory t point meets_now selected))
          ends
      on last (it_starts fits) ends = parting.started_holds m d wf kept c w lawful h p t ready r pick last meets_now
          selected fits ends
      on last (it_joins fits) ends = parting.ended_holds m d wf kept c w lawful h p t ready r pick last meets_now
          selected fits next ends

  -- ---- a prefix

  module _ (byte : ℕ) (operand : ℤ) (here : slice_get m.code t.registers.at ≡ Some byte)
      (none : fun_of (function_code byte) ≡ None)
      (is : after_prefix (function_code byte) (with_nibble t.registers.operand (nibble byte)) ≡ operand) where
    -- a byte is owed
    one_owed : (due : ℕ) × ((row_of r).due ≡ suc due)
    one_owed = some_owed (row_of r).due (owes m d wf c kept (held (row_of r).role) (row_of r).start w.memory t
        (row_of r).due point meets_now r.lives.paid calm_now selected)

    abbrev u : Task
    u = prefixed t operand

    abbrev after_prefixed : World
    after_prefixed = world_prefixed p t operand w

    further : LivesAs m (held (row_of r).role) (row_of r).start w.memory u one_owed.0 point.state point.act
    further = prefixed_lives m w h p t r byte operand here none is one_owed.0 one_owed.1

    prefixed_puts : Puts w after_prefixed p u w.memory
    prefixed_puts = puts_prefixed m w h p t operand

    pub prefix_holds : Holds m after_prefixed
    prefix_holds = on (lawful.calm p t r.here)
      where
        on : IsCalm t → Holds m after_prefixed
        on (is_plain plain) =
            went_on after_prefixed u w.memory one_owed.0 prefixed_puts
            (same_enabled after_prefixed refl refl) refl (let one = one_owed.1 in omega arith) plain nothing_changes
            (it_lives further.lives)
        on (is_among_starts starting now) = absurd (calm_now starting)
        on (is_alternating alternates) =
            let old = r.guards alternates in
            holds_put_alternating m w h (shared_out lawful) p t r after_prefixed u w.memory
            one_owed.0 prefixed_puts (same_enabled after_prefixed refl refl) nothing_changes no_join
            (let one = one_owed.1 in omega arith) further
            (alternates_on m w after_prefixed p t u point.state point.state point.act old
            (enabled_as_before w after_prefixed p refl refl) (λ n g there. refl) (record {
              guards = refl;
              left = refl;
            }) old.fit
            (λ distance same. same)
            (λ must. elim (old.ready must) [
              | inl found ↦ inl (ready_on w.tasks w.channels w.links.inputs p p t u r.here
                  (λ e sends. let no' = sym ready ∙ sends in cc) found)
              | inr skip ↦ inr skip
            ]))
