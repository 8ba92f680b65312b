-- Bytes that arrive and messages that are acknowledged: a process that waits on a link goes on.
use Rattle.std.proofs.Common.{◌≡◌, ℕ, ◌+◌, ◌-◌, ◌<◌, Bool, true, false, if◌then◌else◌, eqb}
use Rattle.std.proofs.Common.{◌||◌, inl, inr, List, Some, None, refl, sym, ap, ◌∙◌, subst, arith}
use Rattle.std.proofs.lemmas.Bool.Decides.{eqb_tells}
use Rattle.std.proofs.lemmas.Option.{slice_get_within}
use Rattle.std.specs.Prelude.{slice_get, slice_set}
use Rattle.module_format.specs.Contents.{Contents}
use Rattle.machine_state.specs.declared.process.Task.{Task}
use Rattle.machine_state.specs.declared.process.Exchange.{Exchange}
use Rattle.machine_state.specs.declared.process.Condition.{Condition}
use Rattle.machine_state.specs.declared.process.Condition.TheVariants.{Ready, OnLink}
use Rattle.machine_state.specs.declared.link.InputLink.{InputLink}
use Rattle.machine_state.specs.declared.link.OutputLink.{OutputLink}
use Rattle.machine_state.specs.Memory.{Memory, with_byte}
use Rattle.machine_state.specs.World.{World, held, input_word}
use Rattle.machine_state.specs.Roles.{opened_in}
use Rattle.machine_state.specs.Waiting.{WaitsOn}
use Rattle.machine_state.specs.Moves.{dispatch, enqueue, wake, with_condition, with_input, with_output, fill}
use Rattle.machine_state.specs.Moves.{fill_condition, rouse}
use Rattle.machine_state.proofs.MovesLeaveAlone.{at_some, on_task_is}
use Rattle.rulings.specs.Buffers.{is_filled, message_place}
use Rattle.certified_worlds.specs.Lives.{awaits, IsExchanging, Lives, it_lives}
use Rattle.certified_worlds.specs.Invariant.{Holds}
use Rattle.verifier.proofs.CalmWorlds.{plain_of}
use Rattle.verifier.proofs.Coming.{input_awaits, output_awaits, more_filled, ready_is_quiet, link_is_quiet}
use Rattle.verifier.proofs.Coming.{byte_changes}
use Rattle.verifier.proofs.Coming.{byte_lives}
use Rattle.verifier.proofs.LawfulWorlds.{IsLawful}
use Rattle.machine_state.proofs.Lines.{got_set, got_other, set_either}
use Rattle.verifier.proofs.OthersGuards.{IsSilent, LeavesEnabled, channels_same, link_set, enabled_same}
use Rattle.verifier.proofs.SharedOut.{none_open, shared_aside, shared_out}
use Rattle.verifier.proofs.Tables.{row_of}
use Rattle.verifier.proofs.Tables.{Allows, AreBytes, channels_equal, Puts, Living, living, lives_whatever}
use Rattle.verifier.proofs.Tables.{holds_put, nothing_changes}
use Rattle.verifier.proofs.Tables.{holds_aside}
use Rattle.certified_worlds.specs.Alternating.{EnablesAt, a_channel, a_link}
use Rattle.machine_state.specs.EnabledLaws.{HasReady, a_sender, a_byte}
use Rattle.machine_state.specs.declared.process.Mode.TheVariants as modes
use Rattle.std.proofs.lemmas.Bool.{cases_eq}
use Rattle.small_laws.proofs.Options.{same_some}
use Rattle.verifier.proofs.Tables.{dispatch_holds}
use Rattle.verifier.proofs.Rousing.{rouse_holds}

-- the world after a process was made ready that is there
pub wake_is : (w : World) (p : ℕ) (t : Task) → slice_get w.tasks p ≡ Some t
    → enqueue p (record w { tasks = slice_set w.tasks p (record t { condition = Ready }) }) ≡ wake p w
wake_is w p t here = ap (enqueue p) (sym (on_task_is p (λ task. record task { condition = Ready }) w t here))

-- a process that waits on a link is in plain mode
link_waiter_is_plain : (m : Contents) (w : World) → IsLawful m w → (p : ℕ) (t : Task) (e : Exchange) (done : ℕ)
    → slice_get w.tasks p ≡ Some t → t.condition ≡ OnLink e done → t.mode ≡ modes.Plain
link_waiter_is_plain m w lawful p t e done here waits =
    plain_of t (lawful.calm p t here) (λ is. let no' = sym waits ∙ is in cc) (λ is. let no' = sym waits ∙ is in cc)

-- has no join open
link_waiter_unopened : (m : Contents) (w : World) → IsLawful m w → (p : ℕ) (t : Task) (e : Exchange) (done : ℕ)
    → slice_get w.tasks p ≡ Some t → t.condition ≡ OnLink e done → opened_in w.roles p ≡ None
link_waiter_unopened m w lawful p t e done here waits = none_open lawful.starters.openers p t here
    (λ ended. let no' = sym waits ∙ ended in cc) (λ starting ready. let no' = sym waits ∙ ready in cc)

-- and waits to send on no channel
link_waiter_is_silent : (w : World) (p : ℕ) (t : Task) {e : Exchange} {done : ℕ} → t.condition ≡ OnLink e done
    → IsSilent w p t
link_waiter_is_silent w p t waits k c q e other here enabled waiting sends = let no' = sym waits ∙ sends in cc

-- ---- an acknowledgement

pub acknowledged_holds : (m : Contents) (w : World) → IsLawful m w → Holds m w → (k : ℕ) (l : OutputLink) (p : ℕ)
    → slice_get w.links.outputs k ≡ Some l → l.waiting ≡ Some p
    → Holds m (dispatch 0 (wake p (with_output k (record { waiting = None }) w)))
acknowledged_holds m w lawful h k l p here waiting =
    let v = lawful.waiters.outputs k l p here waiting in
    let r = living m w h p v.task (OnLink v.exchange v.done) v.here v.waits (λ e. cc) (λ e. cc) in
    let low : k < 4 = let inside = slice_get_within w.links.outputs k l here in let four = lawful.four.outputs in
    omega arith in
    let channel : v.exchange.channel < input_word 0 = let on = v.on in omega arith in
    let free : World = with_output k (record { waiting = None }) w in
    let u : Task = record v.task { condition = Ready } in
    let ready : World = enqueue p (record free { tasks = slice_set w.tasks p u }) in
    dispatch_holds m 0 (wake p free) (subst (λ x. Holds m x) (wake_is free p v.task v.here)
    (holds_put m w h (shared_out lawful) p v.task r ready u w.memory (row_of r).due
    (record {
      tasks = refl;
      memory = refl;
      roles = refl;
      channels = channels_equal refl;
      kept = h.kept;
      fault = refl;
    }) (enabled_same refl refl (link_waiter_is_silent w p v.task v.waits)) nothing_changes
    (link_waiter_unopened m w lawful p v.task v.exchange v.done v.here v.waits) (omega arith)
    (link_waiter_is_plain m w lawful p v.task v.exchange v.done v.here v.waits)
    (it_lives (lives_whatever Ready ready_is_quiet
    (λ place. ap (λ c. awaits c place) v.waits ∙ output_awaits v.exchange v.done place channel) (λ place. refl)
    r.lives))))

-- ---- a byte that is kept

-- what is kept are bytes, where one link changed on which a byte is kept, or none
pub bytes_set : (inputs : List InputLink) (k : ℕ) (l : InputLink) → AreBytes inputs
    → ((b : ℕ) → l.kept ≡ Some b → b < 256) → AreBytes (slice_set inputs k l)
bytes_set inputs k l bytes small j link b here kept = elim (set_either inputs k l j link here) [
  | inl itself ↦ small b (ap (λ (x : InputLink). x.kept) (sym itself.1) ∙ kept)
  | inr other ↦ bytes j link b other.1 kept
]

module _ (m : Contents) (w : World) (lawful : IsLawful m w) (h : Holds m w) (k byte : ℕ) (small : byte < 256)
    (l : InputLink) (here : slice_get w.links.inputs k ≡ Some l) (empty : l.kept ≡ None) where
  abbrev with_it : InputLink
  with_it = record l { kept = Some byte }

  abbrev kept : World
  kept = with_input k with_it w

  -- it is enabled by the process that has enabled it
  fewer_enabled : (p address : ℕ) → EnablesAt kept p address → EnablesAt w p address
  fewer_enabled p address (a_channel word c there is) = a_channel word c there is
  fewer_enabled p address (a_link j link at there is) = elim (set_either w.links.inputs k with_it j link there) [
    | inl it ↦ a_link j l at (subst (λ n. slice_get w.links.inputs n ≡ Some l) it.0 here)
        (ap (λ (x : InputLink). x.enabled) (sym it.1) ∙ is)
    | inr other ↦ a_link j link at other.1 is
  ]

  more_enabled : (p address : ℕ) → EnablesAt w p address → EnablesAt kept p address
  more_enabled p address (a_channel word c there is) = a_channel word c there is
  more_enabled p address (a_link j link at there is) = elim (cases_eq k j) [
    | inl same ↦ a_link j with_it at
        (subst (λ n. slice_get (slice_set w.links.inputs k with_it) n ≡ Some with_it) same
        (got_set w.links.inputs k l with_it here))
        (ap (λ (x : InputLink). x.enabled) (same_some (slice_get w.links.inputs j) l link
        (subst (λ n. slice_get w.links.inputs n ≡ Some l) same here) there) ∙ is)
    | inr differ ↦ a_link j link at (got_other w.links.inputs k j with_it differ ∙ there) is
  ]

  -- what was ready was not there
  ready_still : (p : ℕ) → HasReady w.tasks w.channels w.links.inputs p
      → HasReady w.tasks w.channels (slice_set w.links.inputs k with_it) p
  ready_still p (a_sender j c q sender e at is waiting there sends) = a_sender j c q sender e at is waiting there sends
  ready_still p (a_byte j link b at is there) = elim (cases_eq k j) [
    | inl same ↦
        let one = same_some (slice_get w.links.inputs j) l link (subst (λ n. slice_get w.links.inputs n ≡ Some l) same
        here)
        at in
        let no' : None ≡ Some b = sym empty ∙ (ap (λ (x : InputLink). x.kept) one ∙ there) in
        absurd (cc)
    | inr differ ↦ a_byte j link b (got_other w.links.inputs k j with_it differ ∙ at) is there
  ]

  pub kept_holds : Holds m (dispatch 0 (rouse l.enabled kept))
  kept_holds = dispatch_holds m 0 (rouse l.enabled kept)
      (rouse_holds m kept (holds_aside m w kept (record {
        tasks = refl;
        memory = refl;
        roles = refl;
        channels = refl;
        kept = bytes_set w.links.inputs k with_it h.kept
            (λ b is. let same : byte ≡ b = cc in omega (arith, small, same));
        counters = refl;
        fault = refl;
      }) (λ p. record { fewer = fewer_enabled p; more = more_enabled p }) ready_still h)
      (shared_aside w kept refl refl refl (shared_out lawful)) l.enabled
      (λ q enabled. a_byte k with_it byte (got_set w.links.inputs k l with_it here) enabled refl))

-- ---- a byte that is taken

module _ (m : Contents) (w : World) (lawful : IsLawful m w) (h : Holds m w) (k byte : ℕ) (small : byte < 256)
    (l : InputLink) (p : ℕ) (here : slice_get w.links.inputs k ≡ Some l) (waiting : l.waiting ≡ Some p) where
  abbrev v : WaitsOn w.tasks p (input_word k)
  v = lawful.waiters.inputs k l p here waiting

  -- the place that the byte goes to, and how many bytes come after it
  abbrev goal_place : ℕ
  goal_place = message_place v.exchange v.done

  abbrev after_it : ℕ
  after_it = v.exchange.length - (v.done + 1)

  abbrev filled : Memory
  filled = with_byte w.memory goal_place (Some byte)

  awaited : (place : ℕ)
      → awaits v.task.condition place ≡ (eqb place goal_place || is_filled v.exchange (v.done + 1) after_it place)
  awaited place = ap (λ c. awaits c place) v.waits ∙ (input_awaits v.exchange v.done k place v.on
      ∙ more_filled v.exchange v.done place v.more)

  r : Living m w h p v.task
  r = living m w h p v.task (OnLink v.exchange v.done) v.here v.waits (λ e. cc) (λ e. cc)

  changes : Allows r.lives w.memory filled
  changes = byte_changes r.lives goal_place byte small (λ place. is_filled v.exchange (v.done + 1) after_it place)
      awaited

  -- the process lives on, with a test for the places that are still awaited
  filled_lives : (c : Condition) (still : ℕ → Bool) → ((e : Exchange) → IsExchanging c e → ⊥)
      → ((place : ℕ) → awaits c place ≡ still place)
      → ((place : ℕ) → awaits v.task.condition place ≡ (eqb place goal_place || still place))
      → Lives m (held (row_of r).role) (row_of r).start filled (record v.task { condition = c }) (row_of r).due
  filled_lives c still quiet is_still was = byte_lives r.lives goal_place byte small still was c quiet is_still

  filled_puts : (c : Condition) (after : World) → Puts w after p (record v.task { condition = c }) filled
      → LeavesEnabled w after p v.task → after.counters ≡ w.counters
      → Lives m (held (row_of r).role) (row_of r).start filled (record v.task { condition = c }) (row_of r).due
      → Holds m after
  filled_puts c after puts leaves same lives =
      holds_put m w h (shared_out lawful) p v.task r after
      (record v.task { condition = c }) filled (row_of r).due puts leaves changes
      (link_waiter_unopened m w lawful p v.task v.exchange v.done v.here v.waits) (rw same (omega arith))
      (link_waiter_is_plain m w lawful p v.task v.exchange v.done v.here v.waits) (it_lives lives)

  abbrev with_filled : World
  with_filled = record w { memory = filled }

  -- with the last byte it becomes ready
  last_holds : v.done + 1 ≡ v.exchange.length
      → Holds m (wake p (with_input k (record l { waiting = None }) with_filled))
  last_holds last =
      let free : World = with_input k (record l { waiting = None }) with_filled in
      let none : after_it ≡ 0 = omega (arith, last) in
      let ready : World = enqueue p (record free { tasks = slice_set w.tasks p (record v.task { condition = Ready }) })
      in
      subst (λ x. Holds m x) (wake_is free p v.task v.here)
      (filled_puts Ready ready (record {
        tasks = refl;
        memory = refl;
        roles = refl;
        channels = channels_equal refl;
        kept = bytes_set w.links.inputs k (record l { waiting = None }) h.kept (λ b. h.kept k l b here);
        fault = refl;
      }) (record {
        channels = channels_same refl;
        links = link_set w.links.inputs k l (record l { waiting = None }) here (λ q other is. is)
            (λ q other is. (is, λ byte kept. kept));
        silent = link_waiter_is_silent w p v.task v.waits;
      }) refl
      (filled_lives Ready (λ place. false) ready_is_quiet (λ place. refl) (λ place. awaited place
      ∙ ap (λ i. eqb place goal_place || is_filled v.exchange (v.done + 1) i place) none)))

  -- else it waits for the next
  next_holds : Holds m (with_condition p (OnLink v.exchange (v.done + 1)) with_filled)
  next_holds =
      let next : Condition = OnLink v.exchange (v.done + 1) in
      subst (λ x. Holds m x) (sym (on_task_is p (λ task. record task { condition = next }) with_filled v.task v.here))
      (filled_puts next (record with_filled { tasks = slice_set w.tasks p (record v.task { condition = next }) })
      (record {
        tasks = refl;
        memory = refl;
        roles = refl;
        channels = channels_equal refl;
        kept = h.kept;
        fault = refl;
      }) (enabled_same refl refl (link_waiter_is_silent w p v.task v.waits)) refl
      (filled_lives next (λ place. is_filled v.exchange (v.done + 1) after_it place)
      (link_is_quiet v.exchange (v.done + 1)) (λ place. input_awaits v.exchange (v.done + 1) k place v.on) awaited))

  pub taken_holds : Holds m (dispatch 0 (fill p k byte l w))
  taken_holds = dispatch_holds m 0 (fill p k byte l w) (subst (λ x. Holds m x)
      (sym (at_some (slice_get w.tasks p) v.task w (λ task. fill_condition p k byte l task.condition w) v.here
      ∙ ap (λ c. fill_condition p k byte l c w) v.waits))
      (on_last (eqb (v.done + 1) v.exchange.length) refl))
    where
      on_last : (b : Bool) → eqb (v.done + 1) v.exchange.length ≡ b
          → Holds m (if b then wake p (with_input k (record l { waiting = None }) with_filled)
          else with_condition p (OnLink v.exchange (v.done + 1)) with_filled)
      on_last true e = last_holds (elim (eqb_tells (v.done + 1) v.exchange.length)
          [ inl t ↦ t.1 | inr t ↦ let no' : true ≡ false = sym e ∙ t.0 in absurd (cc) ])
      on_last false e = next_holds
