-- In a deadlock nothing that comes from outside makes a process run.
use Rattle.std.proofs.Common.{◌≡◌, ℕ, zero, suc, Bool, true, false, ◌&&◌, is_none, is_some, List, [], ◌∷◌, Option}
use Rattle.std.proofs.Common.{Some, None, Err, refl, sym, ap, subst, ◌∙◌, inl, inr, slice_get, slice_set}
use Rattle.std.proofs.lemmas.Bool.{cases_eq}
use Rattle.std.proofs.lemmas.Option.{same_Some}
use Rattle.std.specs.List.{list_all}
use Rattle.module_format.specs.Contents.{Contents}
use Rattle.machine_state.specs.declared.event.Event.{Event}
use Rattle.machine_state.specs.declared.event.Event.TheVariants.{Step, Arrive, Acknowledge}
use Rattle.machine_state.specs.declared.fault.Fault.{Fault}
use Rattle.machine_state.specs.declared.link.InputLink.{InputLink}
use Rattle.machine_state.specs.declared.link.OutputLink.{OutputLink}
use Rattle.machine_state.specs.Happens.{Turn, turn, happens, run_from, event_turn, answered, ignored, busy, kept, taken}
use Rattle.machine_state.specs.Happens.{acknowledged, arrive_at}
use Rattle.machine_state.specs.Moves.{link_index, with_input, with_output, picked, dispatch, fill, rouse, wake}
use Rattle.machine_state.specs.World.{World, Queue}
use Rattle.machine_state.proofs.Lines.{got_set, got_other}
use Rattle.link_runs.specs.Wanting.{is_running}
use Rattle.link_runs.specs.Deadlocks.{is_empty, is_quiet_input, is_quiet_output, is_deadlock, is_from_outside}
use Rattle.link_runs.specs.Deadlocks.{DeadlocksStay}

-- ---- tests

both : (a b : Bool) → (a && b) ≡ true → (a ≡ true) × (b ≡ true)
both true b are = (refl, are)
both false b are = absurd (cc)

none_there : {A : Type 0} (o : Option A) → is_none o ≡ true → o ≡ None
none_there None is = refl
none_there (Some x) is = absurd (cc)

all_at : {A : Type 0} (passes : A → Bool) (xs : List A) (k : ℕ) (x : A) → list_all passes xs ≡ true
    → slice_get xs k ≡ Some x → passes x ≡ true
all_at passes [] k x all here = absurd (cc)
all_at passes (y ∷ ys) zero x all here =
    subst (λ (z : _). passes z ≡ true) (same_Some y x here) (both (passes y) (list_all passes ys) all).0
all_at passes (y ∷ ys) (suc k) x all here = all_at passes ys k x (both (passes y) (list_all passes ys) all).1 here

-- ---- worlds in which nothing is awaited from outside

-- no process runs or is ready, none waits on a link, and none has enabled one
record IsStill (w : World) : Type 0 where
  running : w.queue.running ≡ None
  ready : w.queue.ready ≡ []
  inputs : (k : ℕ) (link : InputLink) → slice_get w.links.inputs k ≡ Some link
      → (link.waiting ≡ None) × (link.enabled ≡ None)
  outputs : (k : ℕ) (link : OutputLink) → slice_get w.links.outputs k ≡ Some link → link.waiting ≡ None

abbrev StillAfter : Turn → Type 0
StillAfter t = IsStill t.world

nobody_ready : (ready : List ℕ) → elim ready [ [] ↦ true | p ∷ ps ↦ false ] ≡ true → ready ≡ []
nobody_ready [] is = refl
nobody_ready (p ∷ ps) is = absurd (cc)

deadlocks_are_still : (w : World) → is_deadlock w ≡ true → IsStill w
deadlocks_are_still w is =
    let first = both (is_empty w.queue && list_all is_quiet_input w.links.inputs
    && list_all is_quiet_output w.links.outputs) _ is in
    let second = both (is_empty w.queue && list_all is_quiet_input w.links.inputs)
    (list_all is_quiet_output w.links.outputs) first.0 in
    let third = both (is_empty w.queue) (list_all is_quiet_input w.links.inputs) second.0 in
    let queue = both (is_none w.queue.running) _ third.0 in
    record {
      running = none_there w.queue.running queue.0;
      ready = nobody_ready w.queue.ready queue.1;
      inputs = λ k link here.
          let quiet = both (is_none link.waiting) (is_none link.enabled)
          (all_at is_quiet_input w.links.inputs k link third.1 here) in
          (none_there link.waiting quiet.0, none_there link.enabled quiet.1);
      outputs = λ k link here.
          none_there link.waiting (all_at is_quiet_output w.links.outputs k link second.1 here);
    }

-- ---- what comes from outside changes at most what is kept

abbrev queue_of : Option ℕ → List ℕ → Queue
queue_of running ready = record { running = running; ready = ready }

nobody_picked : (running : Option ℕ) (ready : List ℕ) → running ≡ None → ready ≡ []
    → picked 0 (queue_of running ready) ≡ queue_of running ready
nobody_picked None [] none empty = refl
nobody_picked None (p ∷ ps) none empty = absurd (cc)
nobody_picked (Some p) ready none empty = absurd (cc)

module _ (w : World) (still : IsStill w) where
  keeps : (k byte : ℕ) (link : InputLink) → slice_get w.links.inputs k ≡ Some link
      → IsStill (dispatch 0 (with_input k (record link { kept = Some byte }) w))
  unfolding dispatch
  keeps k byte link here = record {
    running = ap (λ (queue : Queue). queue.running) (nobody_picked w.queue.running w.queue.ready
        still.running still.ready) ∙ still.running;
    ready = ap (λ (queue : Queue). queue.ready) (nobody_picked w.queue.running w.queue.ready
        still.running still.ready) ∙ still.ready;
    inputs = λ j other there. elim (cases_eq k j) [
      | inl same ↦
          let new = record link { kept = Some byte } in
          let found = subst (λ (n : ℕ). slice_get (slice_set w.links.inputs k new) n ≡ Some new) same
          (got_set w.links.inputs k link new here) in
          subst (λ (x : InputLink). (x.waiting ≡ None) × (x.enabled ≡ None))
          (same_Some new other (sym found ∙ there)) (still.inputs k link here)
      | inr differ ↦ still.inputs j other
          (sym (got_other w.links.inputs k j (record link { kept = Some byte }) differ) ∙ there)
    ];
    outputs = still.outputs;
  }

  rouses_nobody : (k byte : ℕ) (link : InputLink) (o : Option ℕ) → o ≡ None
      → slice_get w.links.inputs k ≡ Some link
      → IsStill (dispatch 0 (rouse o (with_input k (record link { kept = Some byte }) w)))
  rouses_nobody k byte link None is here = keeps k byte link here
  rouses_nobody k byte link (Some p) is here = absurd (cc)

  comes : (k byte : ℕ) (link : InputLink) (o : Option ℕ) → slice_get w.links.inputs k ≡ Some link
      → StillAfter (elim o [
        | Some before ↦ answered busy w
        | None ↦ answered kept (dispatch 0 (rouse link.enabled (with_input k (record link { kept = Some byte }) w)))
      ])
  comes k byte link None here = rouses_nobody k byte link link.enabled (still.inputs k link here).1 here
  comes k byte link (Some before) here = still

  comes_to : (k byte : ℕ) (link : InputLink) (o : Option ℕ) → o ≡ None → slice_get w.links.inputs k ≡ Some link
      → StillAfter (elim o [
        | Some p ↦ answered taken (dispatch 0 (fill p k byte link w))
        | None ↦ elim link.kept [
          | Some before ↦ answered busy w
          | None ↦ answered kept (dispatch 0 (rouse link.enabled (with_input k (record link { kept = Some byte }) w)))
        ]
      ])
  comes_to k byte link None is here = comes k byte link link.kept here
  comes_to k byte link (Some p) is here = absurd (cc)

  arrives : (k byte : ℕ) (o : Option InputLink) → slice_get w.links.inputs k ≡ o
      → StillAfter (elim o [ None ↦ answered ignored w | Some link ↦ arrive_at k byte link w ])
  arrives k byte None here = still
  arrives k byte (Some link) here = comes_to k byte link link.waiting (still.inputs k link here).0 here

  acknowledges_none : (k : ℕ) (o : Option ℕ) → o ≡ None → StillAfter (elim o [
    | None ↦ answered ignored w
    | Some p ↦ answered acknowledged (dispatch 0 (wake p (with_output k (record { waiting = None }) w)))
  ])
  acknowledges_none k None is = still
  acknowledges_none k (Some p) is = absurd (cc)

  acknowledges : (k : ℕ) (o : Option OutputLink) → slice_get w.links.outputs k ≡ o
      → StillAfter (elim o [
        | None ↦ answered ignored w
        | Some link ↦ elim link.waiting [
          | None ↦ answered ignored w
          | Some p ↦ answered acknowledged (dispatch 0 (wake p (with_output k (record { waiting = None }) w)))
        ]
      ])
  acknowledges k None here = still
  acknowledges k (Some link) here = acknowledges_none k link.waiting (still.outputs k link here)

  by_event : (m : Contents) (e : Event) → is_from_outside e ≡ true → IsStill (event_turn m e w).world
  by_event m (Step slice pick) is = absurd (cc)
  by_event m (Arrive link byte) is =
      arrives (link_index link) byte (slice_get w.links.inputs (link_index link)) refl
  by_event m (Acknowledge link) is = acknowledges (link_index link) (slice_get w.links.outputs (link_index link)) refl

  unless_at_fault : (m : Contents) (e : Event) (o : Option Fault) → is_from_outside e ≡ true
      → StillAfter (elim o [ None ↦ event_turn m e w | Some f ↦ record { world = w; answer = Err f } ])
  unless_at_fault m e None is = by_event m e is
  unless_at_fault m e (Some f) is = still

  stays_still : (m : Contents) (e : Event) → is_from_outside e ≡ true → IsStill (happens m w e)
  unfolding turn
  stays_still m e is = unless_at_fault m e w.fault is

nobody_runs : (m : Contents) (w : World) (es : List Event) → IsStill w → list_all is_from_outside es ≡ true
    → is_running (run_from m w es) ≡ false
nobody_runs m w [] still all = ap is_some still.running
nobody_runs m w (e ∷ es) still all =
    let here = both (is_from_outside e) (list_all is_from_outside es) all in
    nobody_runs m (happens m w e) es (stays_still w still m e here.0) here.1

pub deadlocks_stay : DeadlocksStay
deadlocks_stay m w es is all = nobody_runs m w es (deadlocks_are_still w is) all

pub ruleset deadlocks_last = (deadlocks_stay)
