-- What a process comes to in an alternation: it is never at fault, and whichever way its turn ends the invariant holds.
use Rattle.std.proofs.Common.{◌≡◌, ◌≢◌, ◌⊎◌, ℕ, ◌+◌, ◌≤◌, ◌<◌, ℤ, pos, ◌≤ℤ◌, Bool, true, false, ◌||◌, is_some, inl, inr}
use Rattle.std.proofs.Common.{List}
use Rattle.std.proofs.Common.{suc, [], ◌∷◌, length, Option, Some, None, refl, sym, ap, ◌∙◌, subst, arith, if◌then◌else◌}
use Rattle.std.proofs.lemmas.Bool.{cases_eq, or_cases}
use Rattle.std.proofs.lemmas.Bool.Decides.{leb_tells, eqb_tells}
use Rattle.std.proofs.lemmas.Int.{ints}
use Rattle.std.proofs.lemmas.Option.{slice_get_within}
use Rattle.std.specs.List.{list_any}
use Rattle.std.specs.Prelude.{slice_get, slice_set, nat_lt}
use Rattle.small_laws.proofs.Options.{same_some}
use Rattle.module_format.specs.Contents.{Contents}
use Rattle.module_format.specs.declared.rows.Direction.TheVariants.{In}
use Rattle.module_format.specs.declared.rows.EndKind.{EndKind}
use Rattle.machine_state.specs.declared.fault.FaultKind.{FaultKind}
use Rattle.machine_state.specs.declared.link.InputLink.{InputLink}
use Rattle.machine_state.specs.declared.process.Channel.{Channel}
use Rattle.machine_state.specs.declared.process.Condition.{Condition}
use Rattle.machine_state.specs.declared.process.Condition.TheVariants.{Ready, Alternating}
use Rattle.machine_state.specs.declared.process.Mode as machine
use Rattle.machine_state.specs.declared.process.Mode.TheVariants as modes
use Rattle.machine_state.specs.declared.process.Task.{Task}
use Rattle.machine_state.specs.Alternations.{Source, of_channel, of_link, is_by, has_enabled, ready_or, selected}
use Rattle.machine_state.specs.Endings.{Moved, it_begins, it_enables, it_enables_nothing, it_enables_a_skip}
use Rattle.machine_state.specs.Endings.{it_is_ready}
use Rattle.machine_state.specs.Endings.{it_waits, it_disables, it_disables_nothing, it_disables_a_skip, Refused}
use Rattle.machine_state.specs.Endings.{it_ends_alternation, no_code_follows, enables_nowhere, is_enabled_already}
use Rattle.machine_state.specs.Endings.{disables_nowhere, is_not_its_own, is_enabled_still, ends_outside, IsSource}
use Rattle.machine_state.specs.Endings.{on_channel, on_link, HasNoSource, no_channel, no_link}
use Rattle.machine_state.specs.EnabledLaws.{Alternates, HasEnabled, a_channel as has_channel, a_link as has_link}
use Rattle.machine_state.specs.EnabledLaws.{HasReady}
use Rattle.machine_state.specs.EnabledLaws.{a_byte, a_sender}
use Rattle.machine_state.specs.Exchanges.{input_link}
use Rattle.machine_state.specs.Roles.{opened_in}
use Rattle.machine_state.specs.Holding.{Holding, has_end}
use Rattle.machine_state.specs.LocalStep.{with_a_alone}
use Rattle.machine_state.specs.Memory.{Memory}
use Rattle.machine_state.specs.Moves.{cell_of, channel_at, counted, put, dispatch}
use Rattle.machine_state.specs.Site.{Local, begins, enables_channel, enables_skip, waits, disables_channel}
use Rattle.machine_state.specs.Site.{disables_skip}
use Rattle.machine_state.specs.Site.{ends_alternation}
use Rattle.machine_state.specs.Turn.{Here as Turning, at_here, between}
use Rattle.machine_state.specs.World.{World, held, holding_at, input_word}
use Rattle.machine_state.proofs.Changes.{channel_there}
use Rattle.machine_state.proofs.Lines.{got_set, got_within}
use Rattle.machine_state.proofs.Waiting.{link_found, link_low}
use Rattle.states.specs.declared.known.Guard.{Guard}
use Rattle.states.specs.declared.known.GuardKind.{GuardKind}
use Rattle.states.specs.declared.known.GuardKind.TheVariants.{Channel as AtChannel, Skip}
use Rattle.states.specs.declared.known.Mode as states
use Rattle.states.specs.declared.known.Mode.TheVariants as states_modes
use Rattle.states.specs.State.{State}
use Rattle.rulings.specs.Meaning.{Activation, IsWellFormed, owed, SameMode, both_plain, both_enabling, both_disabling}
use Rattle.rulings.specs.Meaning.{both_starting}
use Rattle.rulings.specs.Regions.{Scope, scope_of, channel_address, HoldsNamed}
use Rattle.rulings.specs.Guarding.{guard_value, first_left, HasSelected}
use Rattle.rulings.specs.Fitting.{Situation, Begins, Enables, AwaitsGuards, Disables}
use Rattle.rulings.proofs.Within.{scope_still}
use Rattle.certified_worlds.specs.Alternating.{IsTrueGuard, IsTrueSkip, EnablesAt, a_channel, a_link, AlternatesHere}
use Rattle.certified_worlds.specs.Lives.{it_lives}
use Rattle.certified_worlds.specs.Point.{MeetsPoint}
use Rattle.certified_worlds.specs.Invariant.{Holds}
use Rattle.certified_worlds.proofs.Carrying.{MustBeReady, SameEnabled, enabled_as_before, alternates_on, ready_on}
use Rattle.certified_worlds.proofs.StartedWorlds.{plain_beside}
use Rattle.verifier.proofs.CalmWorlds.{IsCalm, is_alternating, is_among_starts, is_plain}
use Rattle.verifier.proofs.Enabled.{ready_is_enabled, Sets, enables_somewhere, source_enables, source_is_by}
use Rattle.verifier.proofs.Enabled.{only_it, sets_channel, sets_link, who_sends}
use Rattle.verifier.proofs.Guards.{fresh_guards, grown_guards, IsGoneAt, less_guards}
use Rattle.verifier.proofs.LawfulWorlds.{IsLawful}
use Rattle.certified_worlds.proofs.LivesAs.{LivesAs}
use Rattle.verifier.proofs.OthersGuards.{LeavesChannels, LeavesEnabled, LeavesLinks, channel_set, channels_same}
use Rattle.verifier.proofs.OthersGuards.{enabled_same, link_set, links_same, ready_is_silent}
use Rattle.verifier.proofs.SharedOut.{holds_own, none_open, shared_out}
use Rattle.verifier.proofs.Sources.{AtEnd, an_input, an_output, a_channel as a_channel_there, at_end}
use Rattle.verifier.proofs.Sources.{holding_is}
use Rattle.verifier.proofs.Sources.{input_found}
use Rattle.certified_worlds.proofs.Steps.{still_state, plain_process, plain_state, behind_in, task_at}
use Rattle.certified_worlds.proofs.Steps.{AltersTo, HoldsChannel}
use Rattle.verifier.proofs.Tables.{row_of}
use Rattle.verifier.proofs.Tables.{Allows, AreBytes}
use Rattle.verifier.proofs.Tables.{Living, ChannelsStay, channels_equal, channel_stays, holds_put}
use Rattle.verifier.proofs.Tables.{holds_put_alternating}
use Rattle.verifier.proofs.Talking.{at_found}
use Rattle.verifier.proofs.Arrivals.{bytes_set}

-- a process that enables something has enabled it in the list of all
is_in_list : (w : World) (p address : ℕ) → EnablesAt w p address → HasEnabled w.channels w.links.inputs p
is_in_list w p address (a_channel word c here is) = has_channel (cell_of address) c here is
is_in_list w p address (a_link k link at here is) = has_link k link here is

-- the mode of a process at a state that enables, or disables
enabling_process : {p : states.Mode} {q : machine.Mode} → SameMode p q → p ≡ states_modes.Enabling
    → (b : Bool) × (q ≡ modes.Enabling b)
enabling_process both_plain e = absurd (cc)
enabling_process (both_enabling {is_ready = b}) e = (b, refl)
enabling_process both_disabling e = absurd (cc)
enabling_process both_starting e = absurd (cc)

disabling_process : {p : states.Mode} {q : machine.Mode} {done : ℕ} → SameMode p q → p ≡ states_modes.Disabling done
    → (selection : Option ℤ) × (q ≡ modes.Disabling selection)
disabling_process both_plain e = absurd (cc)
disabling_process both_enabling e = absurd (cc)
disabling_process (both_disabling {selection = selection}) e = (selection, refl)
disabling_process both_starting e = absurd (cc)

-- a guard that does not hold is never selected
never_chosen : (q : machine.Mode) (distance : ℤ) → selected q false distance ≡ false
never_chosen modes.Plain distance = refl
never_chosen (modes.Enabling b) distance = refl
never_chosen (modes.Disabling None) distance = refl
never_chosen (modes.Disabling (Some d)) distance = refl
never_chosen modes.Starting distance = refl

-- one of a list passes a test that some pass
any_found : {A : Type 0} (test : A → Bool) (xs : List A) → list_any test xs ≡ true
    → (k : ℕ) × (y : A) × (slice_get xs k ≡ Some y) × (test y ≡ true)
any_found {A} test [] e = absurd (cc)
any_found {A} test (y ∷ ys) e = on (test y) refl e (λ rest. any_found test ys rest)
  where
    on : (b : Bool) → test y ≡ b → (b || list_any test ys) ≡ true
        → (list_any test ys ≡ true → (k : ℕ) × (z : A) × (slice_get ys k ≡ Some z) × (test z ≡ true))
        → (k : ℕ) × (z : A) × (slice_get (y ∷ ys) k ≡ Some z) × (test z ≡ true)
    on true is e further = (0, y, refl, is)
    on false is e further = let rest = further e in (suc rest.0, rest.1, rest.2, rest.3)

-- a process that is found to have enabled something has
is_by_it : (o : Option ℕ) (p : ℕ) → is_by o p ≡ true → o ≡ Some p
is_by_it None p e = absurd (cc)
is_by_it (Some q) p e = elim (eqb_tells q p) [
  | inl it ↦ ap Some it.1
  | inr it ↦ let no' : true ≡ false = sym e ∙ it.0 in absurd (cc)
]

-- what no process has enabled this one has not
is_by_nobody : (o : Option ℕ) (p : ℕ) → is_some o ≡ false → o ≡ Some p → ⊥
is_by_nobody None p none e = cc
is_by_nobody (Some q) p none e = cc

-- a process that is found by the machine to have something enabled has
in_list_of : (w : World) (p : ℕ) → has_enabled w p ≡ true → HasEnabled w.channels w.links.inputs p
in_list_of w p some =
    on (list_any (λ (link : InputLink). is_by link.enabled p) w.links.inputs) refl some
  where
    in_cell : (k : ℕ) (cell : Option Channel) → slice_get w.channels k ≡ Some cell
        → elim cell as (λ c. Bool) [ None ↦ false | Some channel ↦ is_by channel.enabled p ] ≡ true
        → HasEnabled w.channels w.links.inputs p
    in_cell k None here e = absurd (cc)
    in_cell k (Some c) here e = has_channel k c here (is_by_it c.enabled p e)

    on : (b : Bool) → list_any (λ (link : InputLink). is_by link.enabled p) w.links.inputs ≡ b
        → (b || list_any (λ cell. elim cell as (λ c. Bool) [ None ↦ false | Some channel ↦ is_by channel.enabled p ])
        w.channels) ≡ true → HasEnabled w.channels w.links.inputs p
    on true is e =
        let found = any_found (λ (link : InputLink). is_by link.enabled p) w.links.inputs is in
        has_link found.0 found.1 found.2 (is_by_it found.1.enabled p found.3)
    on false is e =
        let found = any_found (λ (cell : Option Channel). elim cell as (λ c. Bool)
        [ None ↦ false | Some channel ↦ is_by channel.enabled p ]) w.channels e in
        in_cell found.0 found.1 found.2 found.3

module _ (m : Contents) (wf : IsWellFormed m) (w : World) (lawful : IsLawful m w) (h : Holds m w) (p : ℕ) (t : Task)
    (ready : t.condition ≡ Ready) (r : Living m w h p t)
    (meets : MeetsPoint m t (held (row_of r).role) (row_of r).start r.lives.point w.memory)
    (calm : t.mode ≡ modes.Starting → ⊥) (pick : ℕ) where
  abbrev turning : Turning
  turning = at_here m p t pick

  -- where the process is
  abbrev state : State
  state = r.lives.point.state

  abbrev act : Activation
  act = r.lives.point.act

  abbrev x : Situation
  x = record {
    m = m;
    h = held (row_of r).role;
    context = state.context;
    before = state;
    act = act;
    mode = t.mode;
    memory = w.memory;
    owed = owed state act;
    at = t.registers.began;
    len = r.lives.point.instr.len;
  }

  modes_fit : SameMode state.mode t.mode
  modes_fit = meets.here.same_mode

  -- it has no join open
  pub unopened : opened_in w.roles p ≡ None
  unopened = none_open lawful.starters.openers p t r.here r.going (λ starting now. calm starting)

  -- its guards, in an alternation
  pub guards_now : (t.mode ≡ modes.Plain → ⊥) → AlternatesHere m w p t state act
  guards_now busy = r.guards (alternates_now (lawful.calm p t r.here))
    where
      alternates_now : IsCalm t → Alternates t.mode t.condition
      alternates_now (is_plain plain) = absurd (busy plain)
      alternates_now (is_among_starts starting now) = absurd (calm starting)
      alternates_now (is_alternating alternates) = alternates

  named_now : HoldsNamed m (held (row_of r).role) (scope_of m state.context act.layout) w.memory
  named_now = subst (λ (scope : Scope). HoldsNamed m (held (row_of r).role) scope w.memory)
      (scope_still m state.context state.mode act.layout (still_state modes_fit calm)) r.lives.named

  -- with no guards left nothing is enabled
  none_left : (busy : t.mode ≡ modes.Plain → ⊥) → state.mode ≡ states_modes.Disabling (length state.guards)
      → (g : Guard) → IsTrueGuard w.memory act state g → ⊥
  none_left busy all g holds =
      let low = holds.left in
      let inside = slice_get_within state.guards holds.number g holds.here in
      let first : first_left state.mode ≡ length state.guards = ap first_left all in
      omega (arith, low, inside, first)

  nothing_enabled : state.mode ≡ states_modes.Disabling (length state.guards)
      → HasEnabled w.channels w.links.inputs p → ⊥
  nothing_enabled all has =
      let busy = λ (plain : t.mode ≡ modes.Plain). let no' = sym (plain_state modes_fit plain) ∙ all in absurd (cc) in
      let e = enables_somewhere m wf w lawful h p has in
      let was = (guards_now busy).only e.0 e.1 in
      none_left busy all was.guard was.holds

  -- Once all guards are disabled, the exit of one of them is selected.
  pub has_selected : state.mode ≡ states_modes.Disabling (length state.guards) → HasSelected t.mode state.guards
  has_selected all = on (disabling_process modes_fit all)
    where
      busy : t.mode ≡ modes.Plain → ⊥
      busy plain = let no' = sym (plain_state modes_fit plain) ∙ all in cc

      on : (selection : Option ℤ) × (t.mode ≡ modes.Disabling selection) → HasSelected t.mode state.guards
      on (None, is) = absurd (elim ((guards_now busy).ready (inr (is, ready))) [
        | inl found ↦ nothing_enabled all (ready_is_enabled w p found)
        | inr skip ↦ none_left busy all skip.guard skip.holds
      ])
      on (Some distance, is) =
          let e = (guards_now busy).exits distance is in
          record { distance = distance; is = is; number = e.number; guard = e.guard; here = e.here; exit = e.exit }

  -- ---- a step

  -- it goes on in an alternation
  alters_holds : (after : World) (mode : machine.Mode) (condition : Condition) (l : Local) (later : ℕ) (next : State)
      → after.tasks ≡ slice_set w.tasks p (behind_in m t mode condition l) → after.memory ≡ l.memory
      → after.roles ≡ w.roles → ChannelsStay w.channels after.channels → AreBytes after.links.inputs
      → after.fault ≡ w.fault → after.counters.executed ≡ w.counters.executed + 1 → LeavesEnabled w after p t
      → later + 1 ≤ (row_of r).due → Allows r.lives w.memory l.memory
      → LivesAs m (held (row_of r).role) (row_of r).start l.memory (behind_in m t mode condition l) later next act
      → AlternatesHere m after p (behind_in m t mode condition l) next act → Holds m after
  alters_holds after mode condition l later next tasks memory roles channels kept fault more leaves less changes
      lives guards =
      holds_put_alternating m w h (shared_out lawful) p t r after (behind_in m t mode condition l) l.memory
      later (record {
        tasks = tasks;
        memory = memory;
        roles = roles;
        channels = channels;
        kept = kept;
        fault = fault;
      }) leaves changes unopened (omega (arith, more, less)) lives guards

  -- no channel and no link has changed
  same_enabled : (after : World) → after.channels ≡ w.channels → after.links.inputs ≡ w.links.inputs
      → LeavesEnabled w after p t
  same_enabled after channels inputs = enabled_same channels inputs (ready_is_silent w p t ready)

  -- the task that goes on is ready, as it was
  as_ready : (mode : machine.Mode) (l : Local)
      → slice_set w.tasks p (record t { registers = between (t.registers.at + 1) l.registers; mode = mode })
      ≡ slice_set w.tasks p (behind_in m t mode Ready l)
  as_ready mode l = ap (λ (c : Condition). slice_set w.tasks p (record {
    registers = between (t.registers.at + 1) l.registers;
    mode = mode;
    condition = c;
  })) ready

  as_ready_in : (mode : machine.Mode) (l : Local) → t.mode ≡ mode
      → slice_set w.tasks p (record t { registers = between (t.registers.at + 1) l.registers })
      ≡ slice_set w.tasks p (behind_in m t mode Ready l)
  as_ready_in mode l is = ap (λ (q : machine.Mode). slice_set w.tasks p (record t {
    registers = between (t.registers.at + 1) l.registers;
    mode = q;
  })) is ∙ as_ready mode l

  -- what is ready stays so as it goes on
  ready_stays : (after : World) (u : Task) → after.tasks ≡ slice_set w.tasks p u
      → HasReady w.tasks after.channels after.links.inputs p
      → HasReady after.tasks after.channels after.links.inputs p
  ready_stays after u tasks found =
      subst (λ (tasks : List Task). HasReady tasks after.channels after.links.inputs p) (sym tasks)
      (ready_on w.tasks after.channels after.links.inputs p p t u r.here
      (λ e sends. let no' = sym ready ∙ sends in cc) found)

  -- ---- alt

  pub begins_holds : (l : Local) (next : State) (later : ℕ) → AltersTo m x t (row_of r).due later l → Begins x next l
      → LivesAs m (held (row_of r).role) (row_of r).start l.memory (behind_in m t (modes.Enabling false) Ready l)
      later next act
      → Allows r.lives w.memory l.memory → (after : World) → Moved turning w (begins l) after
      → Holds m (counted after)
  begins_holds l next later alters begun lives changes after (it_begins k) =
      alters_holds (counted after) (modes.Enabling false) Ready l later next (as_ready (modes.Enabling false) l) refl
      refl
      (channels_equal refl) h.kept refl refl (same_enabled (counted after) refl refl) alters.less changes
      lives
      (fresh_guards m (counted after) p (behind_in m t (modes.Enabling false) Ready l) next act begun.none
      (λ address enables.
      let same = enabled_as_before w (counted after) p refl refl in
      let a = lawful.alternate p (is_in_list w p address (same.fewer address enables)) in
      let it = same_some (slice_get w.tasks p) a.task t a.here r.here in
      plain_beside (ap (λ (u : Task). u.mode) it ∙ plain_process modes_fit begun.before) a.alternates) refl)

  -- ---- the channel of a guard

  module _ {kind : EndKind} {address : ℕ} (holds : HoldsChannel m x kind address) where
    held_now : has_end (holding_at w.roles p) (record { address = address; direction = In }) ≡ true
    held_now = subst (λ (g : Holding). has_end g (record { address = address; direction = In }) ≡ true)
        (sym (holding_is m wf w lawful h p (row_of r).role (row_of r).has_role)) holds.held

    there : AtEnd m w (record { address = address; direction = In }) ((row_of r).start.layout.lengths address)
    there = at_end m wf w lawful h p (row_of r).role (row_of r).start (record { address = address; direction = In })
        (row_of r).has_role
        (row_of r).has_start
        (subst (λ (g : Holding). has_end g (record { address = address; direction = In }) ≡ true)
        (holds_own w.roles p (row_of r).role (row_of r).has_role unopened) holds.held)

    -- something is there
    never_nowhere : HasNoSource w address → ⊥
    never_nowhere (no_channel outside none) = on there
      where
        on : AtEnd m w (record { address = address; direction = In }) ((row_of r).start.layout.lengths address) → ⊥
        on (an_input k few is in_ len) =
            let found : None ≡ Some k = sym outside ∙ (ap input_link is ∙ input_found k few) in cc
        on (an_output k few is out len) = cc
        on (a_channel_there c here len word) =
            let found : None ≡ Some c = sym none ∙ at_found w address c here in cc
    never_nowhere (no_link k found none) =
        let few = link_low (input_word 0) address k found in
        let some = got_within w.links.inputs k (let four = lawful.four.inputs in omega (arith, few, four)) in
        let no' : None ≡ Some some.0 = sym none ∙ some.1 in
        cc

    -- a process that waits there is a sender
    sender_found : (c : Channel) → channel_at w address ≡ Some c → is_some c.waiting ≡ true
        → HasReady w.tasks (slice_set w.channels (cell_of address) (Some (record c { enabled = Some p })))
        w.links.inputs p
    sender_found c at some = on c.waiting refl some
      where
        on : (o : Option ℕ) → c.waiting ≡ o → is_some o ≡ true
            → HasReady w.tasks (slice_set w.channels (cell_of address) (Some (record c { enabled = Some p })))
            w.links.inputs p
        on None is some = absurd (cc)
        on (Some q) is some =
            let s = who_sends m wf w lawful h p address t held_now r.here ready c at q is in
            a_sender (cell_of address) (record c { enabled = Some p }) q s.task s.exchange
            (got_set w.channels (cell_of address) (Some c) (Some (record c { enabled = Some p }))
            (channel_there w address c at)) refl is s.here s.sends

    -- what is enabled there is enabled by this process, by a guard of this channel
    twice : (busy : t.mode ≡ modes.Plain → ⊥) (s : Source) → IsSource w address s → is_some s.enabled ≡ true
        → EnablesAt w p address
    twice busy s is some = on s.enabled refl some
      where
        on : (o : Option ℕ) → s.enabled ≡ o → is_some o ≡ true → EnablesAt w p address
        on None e some = absurd (cc)
        on (Some q) e some =
            let enables = source_enables m wf w lawful h p address s held_now is q e in
            subst (λ n. EnablesAt w n address) (only_it m wf w lawful h p address held_now q enables) enables

    -- the guard of whatever is enabled there is at this channel
    one_channel : (busy : t.mode ≡ modes.Plain → ⊥) (n : ℕ) (g : Guard) (other : EndKind)
        → slice_get state.guards n ≡ Some g → g.kind ≡ AtChannel other → channel_address act.layout other ≡ address
        → other ≡ kind
    one_channel busy n g other here is at =
        named_now.differ other kind In ((guards_now busy).fit.held n g other here is) holds.end
        (at ∙ sym holds.address_is)

  -- ---- the process that has enabled a channel or a link

  -- the channel is enabled by this process, or by none, and no other process has enabled it
  sets_cell : (address : ℕ) (c : Channel) (by : Option ℕ) (after : World) → channel_at w address ≡ Some c
      → after.channels ≡ slice_set w.channels (cell_of address) (Some (record c { enabled = by }))
      → after.links.inputs ≡ w.links.inputs → ((q : ℕ) → p ≢ q → c.enabled ≡ Some q → ⊥)
      → ((q : ℕ) → p ≢ q → by ≡ Some q → ⊥) → LeavesEnabled w after p t
  sets_cell address c by after at cells inputs was is = record {
    channels = subst (λ (cells : List (Option Channel)). LeavesChannels p w.channels cells) (sym cells)
        (channel_set w.channels (cell_of address) c (record c { enabled = by }) (channel_there w address c at)
        (λ q other e. absurd (is q other e)) (λ q other e. absurd (was q other e)));
    links = links_same inputs;
    silent = ready_is_silent w p t ready;
  }

  sets_input : (k : ℕ) (link : InputLink) (by : Option ℕ) (after : World) → slice_get w.links.inputs k ≡ Some link
      → after.links.inputs ≡ slice_set w.links.inputs k (record link { enabled = by })
      → after.channels ≡ w.channels → ((q : ℕ) → p ≢ q → link.enabled ≡ Some q → ⊥)
      → ((q : ℕ) → p ≢ q → by ≡ Some q → ⊥) → LeavesEnabled w after p t
  sets_input k link by after here inputs cells was is = record {
    channels = channels_same cells;
    links = subst (λ (links : List InputLink). LeavesLinks p w.links.inputs links) (sym inputs)
        (link_set w.links.inputs k link (record link { enabled = by }) here (λ q other e. absurd (is q other e))
        (λ q other e. absurd (was q other e)));
    silent = ready_is_silent w p t ready;
  }

  by_itself : (q : ℕ) → p ≢ q → Some p ≡ Some q → ⊥
  by_itself q other e = let same : p ≡ q = cc in other same

  by_nobody : (q : ℕ) → p ≢ q → None ≡ Some q → ⊥
  by_nobody q other e = cc

  by_another : (o : Option ℕ) → is_by o p ≡ true → (q : ℕ) → p ≢ q → o ≡ Some q → ⊥
  by_another o own q other e = other (same_some o p q (is_by_it o p own) e)

  -- ---- enbc, enbs

  busy_enabling : state.mode ≡ states_modes.Enabling → t.mode ≡ modes.Plain → ⊥
  busy_enabling e plain = let no' = sym (plain_state modes_fit plain) ∙ e in cc

  ready_mode : (b : Bool) → MustBeReady (behind_in m t (modes.Enabling b) Ready (record {
    registers = t.registers;
    memory = w.memory;
  }))
      → b ≡ true
  ready_mode b (inl is) = let e : modes.Enabling b ≡ modes.Enabling true = is in cc
  ready_mode b (inr is) = let no' : modes.Enabling b ≡ modes.Disabling None = is.0 in absurd (cc)

  module _ {guard : GuardKind} {holds : Bool} {next : State} {l : Local} (later : ℕ)
      (alters : AltersTo m x t (row_of r).due later l) (more : Enables x guard holds next l)
      (lives : (b : Bool) → LivesAs m (held (row_of r).role) (row_of r).start l.memory
      (behind_in m t (modes.Enabling b) Ready l) later
      next act) where
    mode_now : (b : Bool) × (t.mode ≡ modes.Enabling b)
    mode_now = enabling_process modes_fit more.before

    old_guards : AlternatesHere m w p t state act
    old_guards = guards_now (busy_enabling more.before)

    -- what was ready, if it was
    was_ready : (b : Bool) → t.mode ≡ modes.Enabling b → b ≡ true
        → HasReady w.tasks w.channels w.links.inputs p ⊎ IsTrueSkip w.memory act state
    was_ready b is so = old_guards.ready (inl (is ∙ ap modes.Enabling so))

    enables_mode : (b : Bool) (u : Task) → u.mode ≡ modes.Enabling b → MustBeReady u → b ≡ true
    enables_mode b u is (inl so) = let e : modes.Enabling b ≡ modes.Enabling true = sym is ∙ so in cc
    enables_mode b u is (inr so) = let no' : modes.Enabling b ≡ modes.Disabling None = sym is ∙ so.0 in absurd (cc)

    -- the guard does not hold
    enables_nothing : Allows r.lives w.memory l.memory → (after : World)
        → after.tasks ≡ slice_set w.tasks p (behind_in m t (modes.Enabling mode_now.0)
        Ready l)
        → after.memory ≡ l.memory → after.roles ≡ w.roles → after.channels ≡ w.channels → after.links ≡ w.links
        → after.fault ≡ w.fault → after.counters.executed ≡ w.counters.executed + 1 → holds ≡ false → Holds m after
    enables_nothing changes after tasks memory roles channels links fault counters not_so =
        let b = mode_now.0 in
        let u = behind_in m t (modes.Enabling b) Ready l in
        let same = enabled_as_before w after p channels (ap (λ links. links.inputs) links) in
        alters_holds after (modes.Enabling b) Ready l later next tasks memory roles (channels_equal channels)
        (rw links h.kept) fault counters (same_enabled after channels (ap (λ links. links.inputs) links))
        alters.less changes (lives b)
        (grown_guards m x guard holds next l more w after p t u old_guards refl memory refl
        (λ address enables. inl (same.fewer address enables)) (λ address enables. same.more address enables)
        (λ address so at. let no' : true ≡ false = sym so ∙ not_so in absurd (cc)) (b, refl)
        (λ must. elim (was_ready b mode_now.1 (enables_mode b u refl must)) [
          | inl found ↦ inl (ready_stays after u tasks (rw (channels, links) found))
          | inr skip ↦ inr (inl skip)
        ]))

  pub enables_skip_holds : {holds : Bool} (l : Local) (next : State) (later : ℕ) → AltersTo m x t (row_of r).due later l
      → Enables x Skip holds next l
      → ((b : Bool) → LivesAs m (held (row_of r).role) (row_of r).start l.memory
      (behind_in m t (modes.Enabling b) Ready l) later next act)
      → Allows r.lives w.memory l.memory → (after : World) → Moved turning w (enables_skip holds l) after
      → Holds m (counted after)
  enables_skip_holds {holds} l next later alters more lives changes after (it_enables_a_skip so k) =
      let now = enabling_process modes_fit more.before in
      let b = now.0 in
      let u = behind_in m t (modes.Enabling (b || holds)) Ready l in
      let same = enabled_as_before w (counted after) p refl refl in
      let tasks = ap (λ (q : machine.Mode). slice_set w.tasks p (record t {
        registers = between (t.registers.at + 1) l.registers;
        mode = ready_or q holds;
      })) now.1 ∙ as_ready (modes.Enabling (b || holds)) l in
      alters_holds (counted after) (modes.Enabling (b || holds)) Ready l later next tasks refl refl
      (channels_equal refl) h.kept refl refl (same_enabled (counted after) refl refl) alters.less changes
      (lives (b || holds))
      (grown_guards m x Skip holds next l more w (counted after) p t u (guards_now (busy_enabling more.before)) refl
      refl refl
      (λ address enables. inl (same.fewer address enables)) (λ address enables. same.more address enables)
      (λ address so at. let no' : Skip ≡ AtChannel at.0 = at.1 in absurd (cc)) (b || holds, refl)
      (λ must. elim (or_cases b holds (enables_mode later alters more lives (b || holds) u refl must)) [
        | inl was ↦ elim (was_ready later alters more lives b now.1 was) [
          | inl found ↦ inl (ready_stays (counted after) u tasks found)
          | inr skip ↦ inr (inl skip)
        ]
        | inr so ↦ inr (inr (so, refl))
      ]))

  module _ {kind : EndKind} {address : ℕ} {holds : Bool} (l : Local) (next : State) (later : ℕ)
      (alters : AltersTo m x t (row_of r).due later l) (channel : HoldsChannel m x kind address)
      (more : Enables x (AtChannel kind) holds next l)
      (lives : (b : Bool) → LivesAs m (held (row_of r).role) (row_of r).start l.memory
      (behind_in m t (modes.Enabling b) Ready l) later
      next act) where
    -- a source is enabled
    enables_source : Allows r.lives w.memory l.memory → (after : World) (s : Source) (b : Bool)
        → t.mode ≡ modes.Enabling b → holds ≡ true
        → is_some s.enabled ≡ false
        → after.tasks ≡ slice_set w.tasks p (behind_in m t (modes.Enabling (b || s.is_ready)) Ready l)
        → after.memory ≡ l.memory → after.roles ≡ w.roles → ChannelsStay w.channels after.channels
        → AreBytes after.links.inputs → after.fault ≡ w.fault
        → after.counters.executed ≡ w.counters.executed + 1 → LeavesEnabled w after p t
        → Sets w after address p s.is_ready s.enabled (Some p)
        → (s.is_ready ≡ true → HasReady w.tasks after.channels after.links.inputs p) → Holds m after
    enables_source changes after s b is so free tasks memory roles channels kept fault counters leaves sets found =
        let u = behind_in m t (modes.Enabling (b || s.is_ready)) Ready l in
        alters_holds after (modes.Enabling (b || s.is_ready)) Ready l later next tasks memory roles channels kept fault
        counters leaves alters.less changes (lives (b || s.is_ready))
        (grown_guards m x (AtChannel kind) holds next l more w after p t u (guards_now (busy_enabling more.before)) refl
        memory refl
        (λ a enables. elim (cases_eq a address) [
          | inl it ↦ inr (so, (kind, refl, channel.address_is ∙ sym it))
          | inr differ ↦ inl (sets.fewer a differ enables)
        ])
        (λ a enables. elim (cases_eq a address) [
          | inl it ↦ subst (λ n. EnablesAt after p n) (sym it) (sets.there refl)
          | inr differ ↦ sets.more a differ enables
        ])
        (λ a so at.
        let same : kind ≡ at.0 = let e : AtChannel kind ≡ AtChannel at.0 = at.1 in cc in
        subst (λ n. EnablesAt after p n) (sym channel.address_is ∙ (ap (channel_address act.layout) same ∙ at.2))
        (sets.there refl)) (b || s.is_ready, refl)
        (λ must. elim (or_cases b s.is_ready (enables_mode later alters more lives (b || s.is_ready) u refl must)) [
          | inl was ↦ elim (was_ready later alters more lives b is was) [
            | inl old ↦ inl (ready_stays after u tasks (sets.ready (inl (λ e. is_by_nobody s.enabled p free e)) old))
            | inr skip ↦ inr (inl skip)
          ]
          | inr now ↦ inl (ready_stays after u tasks (found now))
        ]))

    pub enables_holds : Allows r.lives w.memory l.memory → (after : World)
        → Moved turning w (enables_channel holds address l) after → Holds m (counted after)
    enables_holds changes after (it_enables so a k s holds_now (on_channel c outside at) free) =
        let now = enabling_process modes_fit more.before in
        enables_source changes (counted after) (of_channel address c) now.0 now.1 holds_now free
        (ap (λ (q : machine.Mode). slice_set w.tasks p (record t {
          registers = between (t.registers.at + 1) l.registers;
          mode = ready_or q (is_some c.waiting);
        })) now.1 ∙ as_ready (modes.Enabling (now.0 || is_some c.waiting)) l) refl refl
        (channel_stays w.channels (cell_of address) c (record c { enabled = Some p }) (channel_there w address c at)
        refl refl) h.kept refl refl
        (sets_cell address c (Some p) (counted after) at refl refl (λ q other e. is_by_nobody c.enabled q free e)
        by_itself)
        (sets_channel m wf w lawful h p address (held_now channel) (Some p) (counted after) c at refl refl)
        (sender_found channel c at)
    enables_holds changes after (it_enables so a k s holds_now (on_link n link found here) free) =
        let now = enabling_process modes_fit more.before in
        enables_source changes (counted after) (of_link n link) now.0 now.1 holds_now free
        (ap (λ (q : machine.Mode). slice_set w.tasks p (record t {
          registers = between (t.registers.at + 1) l.registers;
          mode = ready_or q (is_some link.kept);
        })) now.1 ∙ as_ready (modes.Enabling (now.0 || is_some link.kept)) l) refl refl
        (channels_equal refl)
        (bytes_set w.links.inputs n (record link { enabled = Some p }) h.kept (λ b. h.kept n link b here))
        refl refl
        (sets_input n link (Some p) (counted after) here refl refl (λ q other e. is_by_nobody link.enabled q free e)
        by_itself)
        (sets_link m wf w lawful h p address (held_now channel) (Some p) (counted after) n link
        (let on = link_found (input_word 0) address n found in omega (arith, on)) here refl refl)
        (λ kept. byte_there link.kept refl kept)
      where
        byte_there : (o : Option ℕ) → link.kept ≡ o → is_some o ≡ true
            → HasReady w.tasks w.channels (slice_set w.links.inputs n (record link { enabled = Some p })) p
        byte_there None is some = absurd (cc)
        byte_there (Some byte) is some =
            a_byte n (record link { enabled = Some p }) byte (got_set w.links.inputs n link (record link {
              enabled =
                  Some p;
            }) here)
            refl is
    enables_holds changes after (it_enables_nothing so a k not_so) =
        enables_nothing later alters more lives changes (counted after)
        (as_ready_in (modes.Enabling (mode_now later alters more lives).0) l (mode_now later alters more lives).1)
        refl refl
        refl refl refl refl not_so

  -- ---- altwt

  module _ (l : Local) (next : State) (later : ℕ) (alters : AltersTo m x t (row_of r).due later l)
      (awaits : AwaitsGuards x next l)
      (lives : (condition : Condition) → (condition ≡ Ready) ⊎ (condition ≡ Alternating)
      → LivesAs m (held (row_of r).role) (row_of r).start l.memory (behind_in m t (modes.Disabling None) condition l)
      later next act) where
    waiting_guards : (after : World) (condition : Condition) → after.channels ≡ w.channels
        → after.links.inputs ≡ w.links.inputs → after.memory ≡ l.memory
        → (MustBeReady (behind_in m t (modes.Disabling None) condition l)
        → HasReady after.tasks after.channels after.links.inputs p ⊎ IsTrueSkip w.memory act state)
        → AlternatesHere m after p (behind_in m t (modes.Disabling None) condition l) next act
    waiting_guards after condition channels inputs memory ready_now =
        let old = guards_now (busy_enabling awaits.before) in
        alternates_on m w after p t (behind_in m t (modes.Disabling None) condition l) state next act old
        (enabled_as_before w after p channels inputs)
        (λ n g here. ap (λ (memory : Memory). guard_value memory act g.name) memory
        ∙ awaits.keeps.values old.fit n g here)
        (record { guards = awaits.list; left = ap first_left awaits.mode ∙ sym (ap first_left awaits.before) })
        (awaits.keeps.fit old.fit)
        (λ distance is. let no' : modes.Disabling None ≡ modes.Disabling (Some distance) = is in absurd (cc)) ready_now

    pub waits_holds : Allows r.lives w.memory l.memory → (after : World) → Moved turning w (waits l) after
        → Holds m (counted after)
    unfolding dispatch
    waits_holds changes after (it_is_ready k is) =
        let old = guards_now (busy_enabling awaits.before) in
        let u = behind_in m t (modes.Disabling None) Ready l in
        let tasks = as_ready (modes.Disabling None) l in
        alters_holds (counted after) (modes.Disabling None) Ready l later next tasks refl refl (channels_equal refl)
        h.kept refl refl (same_enabled (counted after) refl refl) alters.less changes
        (lives Ready (inl refl))
        (waiting_guards (counted after) Ready refl refl refl (λ must. elim (old.ready (inl is)) [
          | inl found ↦ inl (ready_stays (counted after) u tasks found)
          | inr skip ↦ inr skip
        ]))
    waits_holds changes after (it_waits k unready) =
        alters_holds (counted after) (modes.Disabling None) Alternating l later next refl refl refl
        (channels_equal refl) h.kept refl refl (same_enabled (counted after) refl refl) alters.less changes
        (lives Alternating (inr refl))
        (waiting_guards (counted after) Alternating refl refl refl (λ must. elim must [
          | inl not_so ↦ let no' : modes.Disabling None ≡ modes.Enabling true = not_so in absurd (cc)
          | inr not_so ↦ let no' : Alternating ≡ Ready = not_so.1 in absurd (cc)
        ]))

  -- ---- disc, diss

  busy_disabling : {done : ℕ} → state.mode ≡ states_modes.Disabling done → t.mode ≡ modes.Plain → ⊥
  busy_disabling e plain = let no' = sym (plain_state modes_fit plain) ∙ e in cc

  module _ {guard : GuardKind} {holds : Bool} {distance : ℤ} {next : State} {l : Local} (later : ℕ)
      (alters : AltersTo m x t (row_of r).due later l) (less : Disables x guard holds distance next l)
      (lives : (selection : Option ℤ) (a : ℤ) → pos 0 ≤ℤ a → a ≤ℤ pos 1
      → LivesAs m (held (row_of r).role) (row_of r).start l.memory (behind_in m t (modes.Disabling selection) Ready
      (with_a_alone (Some a) l)) later next act) where
    old_list : AlternatesHere m w p t state act
    old_list = guards_now (busy_disabling less.before)

    selection_now : (selection : Option ℤ) × (t.mode ≡ modes.Disabling selection)
    selection_now = disabling_process modes_fit less.before

    -- the guard is disabled in a world, with what was found there
    disables_in : Allows r.lives w.memory l.memory → (after : World) (selection : Option ℤ) (a : ℤ)
        → pos 0 ≤ℤ a → a ≤ℤ pos 1
        → after.tasks ≡ slice_set w.tasks p (behind_in m t (modes.Disabling selection) Ready (with_a_alone (Some a) l))
        → after.memory ≡ l.memory → after.roles ≡ w.roles → ChannelsStay w.channels after.channels
        → AreBytes after.links.inputs → after.fault ≡ w.fault → after.counters.executed ≡ w.counters.executed + 1
        → LeavesEnabled w after p t
        → ((address : ℕ) → EnablesAt after p address
        → EnablesAt w p address × (holds ≡ true → IsGoneAt m x guard holds distance next l less address → ⊥))
        → ((address : ℕ) → (holds ≡ true → IsGoneAt m x guard holds distance next l less address → ⊥)
        → EnablesAt w p address → EnablesAt after p address)
        → ((d : ℤ) → modes.Disabling selection ≡ modes.Disabling (Some d)
        → (d ≡ distance) ⊎ (t.mode ≡ modes.Disabling (Some d)))
        → (selection ≡ None → HasReady w.tasks after.channels after.links.inputs p
        ⊎ (IsTrueSkip w.memory act state × (guard ≡ Skip → holds ≡ true → ⊥))) → Holds m after
    disables_in changes after selection a low high tasks memory roles channels kept fault counters leaves only back
        exits found =
        let u = behind_in m t (modes.Disabling selection) Ready (with_a_alone (Some a) l) in
        alters_holds after (modes.Disabling selection) Ready (with_a_alone (Some a) l) later next tasks memory roles
        channels
        kept fault counters leaves alters.less changes (lives selection a low high)
        (less_guards m x guard holds distance next l less w after p t u old_list refl memory refl (held (row_of r).role)
        named_now
        only back exits (λ must. elim (found (unselected selection must)) [
          | inl is ↦ inl (ready_stays after u tasks is)
          | inr skip ↦ inr skip
        ]))
      where
        unselected : (selection : Option ℤ)
            → MustBeReady (behind_in m t (modes.Disabling selection) Ready (with_a_alone (Some a) l)) → selection ≡ None
        unselected selection (inl not_so) =
            let no' : modes.Disabling selection ≡ modes.Enabling true = not_so in absurd (cc)
        unselected selection (inr is) =
            let e : modes.Disabling selection ≡ modes.Disabling None = is.0 in cc

    -- what is selected, if it is not this one
    unselected_exits : (d : ℤ) → modes.Disabling selection_now.0 ≡ modes.Disabling (Some d)
        → (d ≡ distance) ⊎ (t.mode ≡ modes.Disabling (Some d))
    unselected_exits d is = inr (selection_now.1 ∙ is)

    -- it is not selected
    passes_by : (is_ready : Bool) → selected t.mode is_ready distance ≡ false → (selection_now.0 ≡ None)
        → is_ready ≡ false
    passes_by is_ready none is =
        sym (ap (λ (q : machine.Mode). selected q is_ready distance) (selection_now.1 ∙ ap modes.Disabling is)) ∙ none

    -- what was ready before, while nothing is selected
    was_found : selection_now.0 ≡ None → HasReady w.tasks w.channels w.links.inputs p ⊎ IsTrueSkip w.memory act state
    was_found is = old_list.ready (inr (selection_now.1 ∙ ap modes.Disabling is, ready))

    -- the task that goes on, selected or not
    passed_task : slice_set w.tasks p (record t {
      registers = between (t.registers.at + 1) (with_a_alone (Some (pos 0)) l).registers;
    }) ≡ slice_set w.tasks p (behind_in m t (modes.Disabling selection_now.0) Ready (with_a_alone (Some (pos 0)) l))
    passed_task = as_ready_in (modes.Disabling selection_now.0) (with_a_alone (Some (pos 0)) l) selection_now.1

    selected_exits : (d : ℤ) → modes.Disabling (Some distance) ≡ modes.Disabling (Some d)
        → (d ≡ distance) ⊎ (t.mode ≡ modes.Disabling (Some d))
    selected_exits d is = inl (cc)

  pub disables_skip_holds : {holds : Bool} {distance : ℤ} (l : Local) (next : State) (later : ℕ)
      → AltersTo m x t (row_of r).due later l → Disables x Skip holds distance next l
      → ((selection : Option ℤ) (a : ℤ) → pos 0 ≤ℤ a → a ≤ℤ pos 1
      → LivesAs m (held (row_of r).role) (row_of r).start l.memory (behind_in m t (modes.Disabling selection) Ready
      (with_a_alone (Some a) l)) later next act)
      → Allows r.lives w.memory l.memory → (after : World) → Moved turning w (disables_skip holds distance l) after
      → Holds m (counted after)
  disables_skip_holds {holds} {distance} l next later alters less lives changes after (it_disables_a_skip so d k) =
      on (selected t.mode holds distance) refl
    where
      same : (v : World) → v.channels ≡ w.channels → v.links.inputs ≡ w.links.inputs → SameEnabled w v p
      same v channels inputs = enabled_as_before w v p channels inputs

      no_channel_gone : (address : ℕ) → IsGoneAt m x Skip holds distance next l less address → ⊥
      no_channel_gone address at = let no' : Skip ≡ AtChannel at.0 = at.1 in cc

      on : (b : Bool) → selected t.mode holds distance ≡ b → Holds m (counted (if b
          then put p (record t {
            registers = between (t.registers.at + 1) (with_a_alone (Some (pos 1)) l).registers;
            mode = modes.Disabling (Some distance);
          }) l.memory w
          else put p (record t { registers = between (t.registers.at + 1) (with_a_alone (Some (pos 0)) l).registers })
          l.memory w))
      on true is =
          disables_in later alters less lives changes _ (Some distance) (pos 1) (omega (arith, ints))
          (omega (arith, ints))
          (as_ready (modes.Disabling (Some distance)) (with_a_alone (Some (pos 1)) l)) refl refl (channels_equal refl)
          h.kept refl refl (same_enabled _ refl refl)
          (λ address enables. ((same _ refl refl).fewer address enables, λ so at. no_channel_gone address at))
          (λ address other enables. (same _ refl refl).more address enables)
          (selected_exits later alters less lives) (λ not_so. absurd (cc))
      on false is =
          disables_in later alters less lives changes _ (selection_now later alters less lives).0 (pos 0)
          (omega (arith, ints)) (omega (arith, ints)) (passed_task later alters less lives) refl refl
          (channels_equal refl) h.kept refl refl (same_enabled _ refl refl)
          (λ address enables. ((same _ refl refl).fewer address enables, λ so at. no_channel_gone address at))
          (λ address other enables. (same _ refl refl).more address enables)
          (unselected_exits later alters less lives)
          (λ none. elim (was_found later alters less lives none) [
            | inl found ↦ inl found
            | inr skip ↦ inr (
              skip,
              λ kind so.
                  let no' : true ≡ false = sym so ∙ passes_by later alters less lives holds is none in cc,
            )
          ])

  module _ {kind : EndKind} {address : ℕ} {holds : Bool} {distance : ℤ} (l : Local) (next : State) (later : ℕ)
      (alters : AltersTo m x t (row_of r).due later l) (channel : HoldsChannel m x kind address)
      (less : Disables x (AtChannel kind) holds distance next l)
      (lives : (selection : Option ℤ) (a : ℤ) → pos 0 ≤ℤ a → a ≤ℤ pos 1
      → LivesAs m (held (row_of r).role) (row_of r).start l.memory (behind_in m t (modes.Disabling selection) Ready
      (with_a_alone (Some a) l)) later next act) where
    -- the guard that is disabled is at this address, and no other is
    gone_here : (a : ℕ) → IsGoneAt m x (AtChannel kind) holds distance next l less a → a ≡ address
    gone_here a at =
        let same : kind ≡ at.0 = let e : AtChannel kind ≡ AtChannel at.0 = at.1 in cc in
        sym at.2 ∙ (ap (channel_address act.layout) (sym same) ∙ channel.address_is)

    -- it has enabled the channel, if the guard is true
    was_enabled : holds ≡ true → EnablesAt w p address
    was_enabled so =
        subst (λ n. EnablesAt w p n) channel.address_is
        ((guards_now (busy_disabling less.before)).back less.guard kind (record {
          number = less.done;
          left = let before : first_left state.mode ≡ less.done = ap first_left less.before in omega (arith, before);
          here = less.there;
          value = less.truth.value;
          is = less.truth.is;
          holds = less.truth.yes so;
        }) less.kind_is)

    -- what is ready at a skip is not this one
    not_skip : (AtChannel kind ≡ Skip) → holds ≡ true → ⊥
    not_skip e so = cc

    -- a source is disabled, and selected or not
    disables_source : Allows r.lives w.memory l.memory → (after : World) (s : Source) (selection : Option ℤ)
        (a : ℤ) → pos 0 ≤ℤ a → a ≤ℤ pos 1
        → holds ≡ true
        → after.tasks ≡ slice_set w.tasks p (behind_in m t (modes.Disabling selection) Ready (with_a_alone (Some a) l))
        → after.memory ≡ l.memory → after.roles ≡ w.roles → ChannelsStay w.channels after.channels
        → AreBytes after.links.inputs → after.fault ≡ w.fault → after.counters.executed ≡ w.counters.executed + 1
        → LeavesEnabled w after p t → Sets w after address p s.is_ready s.enabled None
        → ((d : ℤ) → modes.Disabling selection ≡ modes.Disabling (Some d)
        → (d ≡ distance) ⊎ (t.mode ≡ modes.Disabling (Some d)))
        → (selection ≡ None → (s.is_ready ≡ false)
        × (HasReady w.tasks w.channels w.links.inputs p ⊎ IsTrueSkip w.memory act state)) → Holds m after
    disables_source changes after s selection a low high so tasks memory roles channels kept fault counters leaves sets
        exits found =
        disables_in later alters less lives changes after selection a low high tasks memory roles channels kept fault
        counters leaves
        (λ n enables. elim (cases_eq n address) [
          | inl it ↦
              let no' : None ≡ Some p = sets.here (subst (λ k. EnablesAt after p k) it enables) in absurd (cc)
          | inr differ ↦ (sets.fewer n differ enables, λ true_guard at. differ (gone_here n at))
        ])
        (λ n other enables. sets.more n (λ it. other so (kind, refl, channel.address_is ∙ sym it)) enables) exits
        (λ none. let both = found none in elim both.1 [
          | inl was ↦ inl (sets.ready (inr both.0) was)
          | inr skip ↦ inr (skip, not_skip)
        ])

    -- by the channel or the link that is there
    disables_there : (after : World) (s : Source) → holds ≡ true
        → ((selection : Option ℤ) (a : ℤ) (v : World) → pos 0 ≤ℤ a → a ≤ℤ pos 1
        → v.tasks ≡ slice_set w.tasks p (behind_in m t (modes.Disabling selection) Ready (with_a_alone (Some a) l))
        → v.memory ≡ l.memory → v.roles ≡ w.roles → v.channels ≡ w.channels → v.links ≡ w.links → v.fault ≡ w.fault
        → v.counters ≡ w.counters
        → ((d : ℤ) → modes.Disabling selection ≡ modes.Disabling (Some d)
        → (d ≡ distance) ⊎ (t.mode ≡ modes.Disabling (Some d)))
        → (selection ≡ None → (s.is_ready ≡ false)
        × (HasReady w.tasks w.channels w.links.inputs p ⊎ IsTrueSkip w.memory act state))
        → Holds m (counted (s.with_enabled None v)))
        → after ≡ s.with_enabled None (if selected t.mode s.is_ready distance
        then put p (record t {
          registers = between (t.registers.at + 1) (with_a_alone (Some (pos 1)) l).registers;
          mode = modes.Disabling (Some distance);
        }) l.memory w
        else put p (record t { registers = between (t.registers.at + 1) (with_a_alone (Some (pos 0)) l).registers })
        l.memory w) → Holds m (counted after)
    disables_there after s so go is =
        subst (λ (v : World). Holds m (counted v)) (sym is) (on (selected t.mode s.is_ready distance) refl)
      where
        on : (b : Bool) → selected t.mode s.is_ready distance ≡ b → Holds m (counted (s.with_enabled None (if b
            then put p (record t {
              registers = between (t.registers.at + 1) (with_a_alone (Some (pos 1)) l).registers;
              mode = modes.Disabling (Some distance);
            }) l.memory w
            else put p (record t { registers = between (t.registers.at + 1) (with_a_alone (Some (pos 0)) l).registers })
            l.memory w)))
        on true chosen =
            go (Some distance) (pos 1) _ (omega (arith, ints)) (omega (arith, ints))
            (as_ready (modes.Disabling (Some distance)) (with_a_alone (Some (pos 1)) l)) refl refl refl refl refl refl
            (selected_exits later alters less lives) (λ not_so. absurd (cc))
        on false chosen =
            go (selection_now later alters less lives).0 (pos 0) _ (omega (arith, ints)) (omega (arith, ints))
            (passed_task later alters less lives) refl refl refl refl refl refl (unselected_exits later alters less
            lives)
            (λ none. (passes_by later alters less lives s.is_ready chosen none, was_found later alters less lives none))

    pub disables_holds : Allows r.lives w.memory l.memory → (after : World)
        → Moved turning w (disables_channel holds address distance l) after → Holds m (counted after)
    disables_holds changes after (it_disables so a d k s holds_now (on_channel c outside at) own) =
        disables_there _ (of_channel address c) holds_now
        (λ selection a v low high tasks memory roles channels links fault counters exits found.
        disables_source changes _ (of_channel address c) selection a low high holds_now tasks memory roles
        (rw channels (channel_stays w.channels (cell_of address) c (record c { enabled = None }) (channel_there w
        address c at)
        refl refl)) (rw links h.kept) fault (rw counters refl)
        (sets_cell address c None _ at
        (ap (λ cells. slice_set cells (cell_of address) (Some (record c { enabled = None }))) channels)
        (ap (λ links. links.inputs) links) (λ q other e. by_another c.enabled own q other e) by_nobody)
        (sets_channel m wf w lawful h p address (held_now channel) None _ c at
        (ap (λ cells. slice_set cells (cell_of address) (Some (record c { enabled = None }))) channels)
        (ap (λ links. links.inputs) links)) exits found) refl
    disables_holds changes after (it_disables so a d k s holds_now (on_link n link found here) own) =
        disables_there _ (of_link n link) holds_now
        (λ selection a v low high tasks memory roles channels links fault counters exits none.
        disables_source changes _ (of_link n link) selection a low high holds_now tasks memory roles
        (channels_equal channels) (rw links
        (bytes_set w.links.inputs n (record link { enabled = None }) h.kept (λ b. h.kept n link b here)))
        fault (rw counters refl)
        (sets_input n link None _ here
        (ap (λ links. slice_set links.inputs n (record link { enabled = None })) links) channels
        (λ q other e. by_another link.enabled own q other e) by_nobody)
        (sets_link m wf w lawful h p address (held_now channel) None _ n link
        (let on = link_found (input_word 0) address n found in omega (arith, on)) here
        (ap (λ links. slice_set links.inputs n (record link { enabled = None })) links) channels) exits none) refl
    disables_holds changes after (it_disables_nothing so a d k not_so) =
        subst (λ (b : Bool). Holds m (counted (if b
        then put p (record t {
          registers = between (t.registers.at + 1) (with_a_alone (Some (pos 1)) l).registers;
          mode = modes.Disabling (Some distance);
        }) l.memory w
        else put p (record t { registers = between (t.registers.at + 1) (with_a_alone (Some (pos 0)) l).registers })
        l.memory w))) (sym (never_chosen t.mode distance))
        (disables_in later alters less lives changes _ (selection_now later alters less lives).0 (pos 0)
        (omega (arith, ints)) (omega (arith, ints)) (passed_task later alters less lives) refl refl
        (channels_equal refl) h.kept refl refl (same_enabled _ refl refl)
        (λ n enables. (
          (enabled_as_before w _ p refl refl).fewer n enables,
          λ true_guard at. let no' : true ≡ false = sym true_guard ∙ not_so in cc,
        ))
        (λ n other enables. (enabled_as_before w _ p refl refl).more n enables)
        (unselected_exits later alters less lives)
        (λ none. elim (was_found later alters less lives none) [
          | inl found ↦ inl found
          | inr skip ↦ inr (skip, not_skip)
        ]))

  -- ---- altend

  pub ends_holds : (to : ℕ) (l : Local) (next : State) (other : Activation) (later : ℕ)
      → Allows r.lives w.memory l.memory
      → LivesAs m (held (row_of r).role) (row_of r).start l.memory (task_at m t modes.Plain to l) later next other
      → later + 1 ≤ (row_of r).due → (after : World) → Moved turning w (ends_alternation to l) after
      → Holds m (counted after)
  ends_holds to l next other later changes lives less after (it_ends_alternation there k none) =
      holds_put m w h (shared_out lawful) p t r (counted after) (task_at m t modes.Plain to l) l.memory later
      (record {
        tasks = ap (λ (c : Condition). slice_set w.tasks p (record {
          registers = between to l.registers;
          mode = modes.Plain;
          condition = c;
        })) ready;
        memory = refl;
        roles = refl;
        channels = channels_equal refl;
        kept = h.kept;
        fault = refl;
      }) (same_enabled (counted after) refl refl) changes unopened (omega (arith, less)) refl (it_lives lives.lives)

  -- ---- no fault

  code_follows : t.registers.at + 1 < length m.code → nat_lt (t.registers.at + 1) (length m.code) ≡ false → ⊥
  code_follows low none = elim (leb_tells (suc (t.registers.at + 1)) (length m.code)) [
    | inl is ↦ let no' : true ≡ false = sym is.0 ∙ none in cc
    | inr is ↦ let high = is.1 in omega (arith, low, high)
  ]

  -- a channel at which a guard is to be enabled is enabled by no process
  pub never_enabling : {kind : EndKind} {address : ℕ} {holds : Bool} {l : Local} {next : State} {fault : FaultKind}
      → HoldsChannel m x kind address → Enables x (AtChannel kind) holds next l
      → ((i : ℕ) (g : Guard) → slice_get state.guards i ≡ Some g → g.kind ≡ AtChannel kind → ⊥)
      → t.registers.at + 1 < length m.code → Refused turning w (enables_channel holds address l) fault → ⊥
  never_enabling channel more fresh low (no_code_follows needs none) = code_follows low none
  never_enabling channel more fresh low (enables_nowhere so a l holds none) = never_nowhere channel none
  never_enabling {kind} channel more fresh low (is_enabled_already so a l s holds is some) =
      let busy = busy_enabling more.before in
      let was = (guards_now busy).only _ (twice channel busy s is some) in
      let same = one_channel channel busy was.holds.number was.guard was.kind was.holds.here was.is was.there in
      fresh was.holds.number was.guard was.holds.here
      (subst (λ (k : EndKind). was.guard.kind ≡ AtChannel k) same was.is)

  -- one that a true guard is disabled at is enabled by this process
  pub never_disabling : {kind : EndKind} {address : ℕ} {holds : Bool} {distance : ℤ} {l : Local} {next : State}
      {fault : FaultKind} (later : ℕ) → AltersTo m x t (row_of r).due later l → HoldsChannel m x kind address
      → Disables x (AtChannel kind) holds distance next l
      → ((selection : Option ℤ) (a : ℤ) → pos 0 ≤ℤ a → a ≤ℤ pos 1
      → LivesAs m (held (row_of r).role) (row_of r).start l.memory (behind_in m t (modes.Disabling selection) Ready
      (with_a_alone (Some a) l)) later next act)
      → Refused turning w (disables_channel holds address distance l) fault → ⊥
  never_disabling later alters channel less lives (no_code_follows needs none) = code_follows alters.low none
  never_disabling later alters channel less lives (disables_nowhere so a d k holds none) = never_nowhere channel none
  never_disabling {address = address} {l = l} {next = next} later alters channel less lives
      (is_not_its_own so a d k s holds is other) =
      let own = source_is_by m wf w lawful h p address s is (was_enabled l next later alters channel less lives
      holds) in
      let no' : true ≡ false = sym (is_itself s.enabled own) ∙ other in
      cc
    where
      is_itself : (o : Option ℕ) → o ≡ Some p → is_by o p ≡ true
      is_itself o e = subst (λ (o : Option ℕ). is_by o p ≡ true) (sym e) (elim (eqb_tells p p)
          [ inl is ↦ is.0 | inr is ↦ absurd (is.1 refl) ])

  pub never_ending : {to : ℕ} {l : Local} {fault : FaultKind}
      → state.mode ≡ states_modes.Disabling (length state.guards) → to < length m.code
      → Refused turning w (ends_alternation to l) fault → ⊥
  never_ending all low (no_code_follows needs none) = elim needs [ ]
  never_ending all low (is_enabled_still to l some) = nothing_enabled all (in_list_of w p some)
  never_ending all low (ends_outside to l none outside) = elim (leb_tells (suc to) (length m.code)) [
    | inl is ↦ let no' : true ≡ false = sym is.0 ∙ outside in cc
    | inr is ↦ let high = is.1 in omega (arith, low, high)
  ]
