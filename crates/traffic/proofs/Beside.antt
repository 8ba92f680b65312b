-- What comes of a byte that arrives and of an acknowledgement, whatever the counters and the fault are.
use Rattle.std.proofs.Common.{◌≡◌, ℕ, ◌+◌, ◌%◌, ◌^◌, Bool, true, false, if◌then◌else◌, Option, Some, None, refl, ap}
use Rattle.std.proofs.Common.{◌∙◌, slice_get, slice_set}
use Rattle.std.specs.Prelude.{◌==◌}
use Rattle.machine_state.specs.declared.fault.Fault.{Fault}
use Rattle.machine_state.specs.declared.process.Task.{Task}
use Rattle.machine_state.specs.declared.process.Mode.{Mode}
use Rattle.machine_state.specs.declared.process.Mode.TheVariants.{Enabling}
use Rattle.machine_state.specs.declared.process.Condition.{Condition}
use Rattle.machine_state.specs.declared.process.Condition.TheVariants.{Ready, OnLink, Alternating}
use Rattle.machine_state.specs.declared.link.InputLink.{InputLink}
use Rattle.machine_state.specs.declared.link.OutputLink.{OutputLink}
use Rattle.machine_state.specs.Memory.{place_of, with_byte}
use Rattle.machine_state.specs.World.{World, Counters}
use Rattle.machine_state.specs.Moves.{on_task, enqueue, wake, dispatch, with_input, with_output}
use Rattle.machine_state.specs.Moves.{fill_condition, fill, rouse_enabling, rouse_task, rouse}
use Rattle.machine_state.specs.Turn.{Effect, taken, kept, busy, acknowledged, ignored, Turn, answered}
use Rattle.machine_state.specs.Happens.{arrive_at, arrive_turn, acknowledge_turn}
use Rattle.traffic.specs.Beside.{beside, turn_beside, ArrivesBeside, AcknowledgesBeside}

module _ (c : Counters) (f : Option Fault) where
  -- ---- moves

  pub either : (b : Bool) (x y : World) {v w : World} → v ≡ beside c f x → w ≡ beside c f y
      → (if b then v else w) ≡ beside c f (if b then x else y)
  either true x y p q = p
  either false x y p q = q

  -- by what there is
  pub maybe : {A : Type 0} (o : Option A) (n : World) (s : A → World) {m : World} {t : A → World} → m ≡ beside c f n
      → ((x : A) → t x ≡ beside c f (s x))
      → elim o as (λ x. World) [ None ↦ m | Some x ↦ t x ]
      ≡ beside c f (elim o as (λ x. World) [ None ↦ n | Some x ↦ s x ])
  maybe None n s p q = p
  maybe (Some x) n s p q = q x

  pub on_task-beside : (p : ℕ) (g : Task → Task) (w : World) → on_task p g (beside c f w) ≡ beside c f (on_task p g w)
  on_task-beside p g w =
      maybe (slice_get w.tasks p) w (λ task. record w { tasks = slice_set w.tasks p (g task) }) refl (λ task. refl)

  pub wake-beside : (p : ℕ) (w : World) → wake p (beside c f w) ≡ beside c f (wake p w)
  wake-beside p w = ap (enqueue p) (on_task-beside p (λ task. record task { condition = Ready }) w)

  pub dispatch-beside : (pick : ℕ) (w : World) → dispatch pick (beside c f w) ≡ beside c f (dispatch pick w)
  unfolding dispatch
  dispatch-beside pick w = refl

  dispatched : (w : World) {v : World} → v ≡ beside c f w → dispatch 0 v ≡ beside c f (dispatch 0 w)
  dispatched w same = ap (dispatch 0) same ∙ dispatch-beside 0 w

  fill_condition-beside : (p k byte : ℕ) (link : InputLink) (condition : Condition) (w : World)
      → fill_condition p k byte link condition (beside c f w) ≡ beside c f (fill_condition p k byte link condition w)
  fill_condition-beside p k byte link (OnLink exchange done) w =
      let place = place_of ((exchange.address + done) % 2 ^ 32) in
      let filled : World = record w { memory = with_byte w.memory place (Some byte) } in
      either (done + 1 == exchange.length) _ _
      (wake-beside p (with_input k (record link { waiting = None }) filled))
      (on_task-beside p (λ task. record task { condition = OnLink exchange (done + 1) }) filled)
  fill_condition-beside p k byte link _ w = refl

  fill-beside : (p k byte : ℕ) (link : InputLink) (w : World)
      → fill p k byte link (beside c f w) ≡ beside c f (fill p k byte link w)
  fill-beside p k byte link w =
      maybe (slice_get w.tasks p) w (λ task. fill_condition p k byte link task.condition w) refl
      (λ task. fill_condition-beside p k byte link task.condition w)

  rouse_enabling-beside : (p : ℕ) (mode : Mode) (w : World)
      → rouse_enabling p mode (beside c f w) ≡ beside c f (rouse_enabling p mode w)
  rouse_enabling-beside p (Enabling is_ready) w = on_task-beside p (λ task. record task { mode = Enabling true }) w
  rouse_enabling-beside p _ w = refl

  rouse_task-beside : (p : ℕ) (mode : Mode) (condition : Condition) (w : World)
      → rouse_task p mode condition (beside c f w) ≡ beside c f (rouse_task p mode condition w)
  rouse_task-beside p mode Alternating w = wake-beside p w
  rouse_task-beside p mode _ w = rouse_enabling-beside p mode w

  pub rouse-beside : (enabled : Option ℕ) (w : World) → rouse enabled (beside c f w) ≡ beside c f (rouse enabled w)
  rouse-beside None w = refl
  rouse-beside (Some p) w =
      maybe (slice_get w.tasks p) w (λ task. rouse_task p task.mode task.condition w) refl
      (λ task. rouse_task-beside p task.mode task.condition w)

  -- ---- turns

  answered-beside : (e : Effect) (w : World) {v : World} → v ≡ beside c f w
      → answered e v ≡ turn_beside c f (answered e w)
  answered-beside e w same = ap (answered e) same

  arrive_at-beside : (k byte : ℕ) (link : InputLink) (w : World)
      → arrive_at k byte link (beside c f w) ≡ turn_beside c f (arrive_at k byte link w)
  arrive_at-beside k byte link w = on_waiting link.waiting
    where
      on_kept : (o : Option ℕ)
          → elim o as (λ x. Turn) [
            | Some before ↦ answered busy (beside c f w)
            | None ↦ answered kept (dispatch 0
                (rouse link.enabled (with_input k (record link { kept = Some byte }) (beside c f w))))
          ] ≡ turn_beside c f (elim o as (λ x. Turn) [
            | Some before ↦ answered busy w
            | None ↦ answered kept (dispatch 0
                (rouse link.enabled (with_input k (record link { kept = Some byte }) w)))
          ])
      on_kept None =
          let there : World = with_input k (record link { kept = Some byte }) w in
          let roused : World = rouse link.enabled there in
          answered-beside kept (dispatch 0 roused) (dispatched roused (rouse-beside link.enabled there))
      on_kept (Some before) = refl

      on_waiting : (o : Option ℕ)
          → elim o as (λ x. Turn) [
            | Some p ↦ answered taken (dispatch 0 (fill p k byte link (beside c f w)))
            | None ↦ elim link.kept as (λ x. Turn) [
              | Some before ↦ answered busy (beside c f w)
              | None ↦ answered kept (dispatch 0
                  (rouse link.enabled (with_input k (record link { kept = Some byte }) (beside c f w))))
            ]
          ] ≡ turn_beside c f (elim o as (λ x. Turn) [
            | Some p ↦ answered taken (dispatch 0 (fill p k byte link w))
            | None ↦ elim link.kept as (λ x. Turn) [
              | Some before ↦ answered busy w
              | None ↦ answered kept (dispatch 0
                  (rouse link.enabled (with_input k (record link { kept = Some byte }) w)))
            ]
          ])
      on_waiting None = on_kept link.kept
      on_waiting (Some p) =
          let filled : World = fill p k byte link w in
          answered-beside taken (dispatch 0 filled) (dispatched filled (fill-beside p k byte link w))

  arrive-beside : (k byte : ℕ) (w : World)
      → arrive_turn k byte (beside c f w) ≡ turn_beside c f (arrive_turn k byte w)
  arrive-beside k byte w = cases (slice_get w.links.inputs k)
    where
      cases : (o : Option InputLink)
          → elim o as (λ x. Turn) [
            | None ↦ answered ignored (beside c f w)
            | Some link ↦ arrive_at k byte link (beside c f w)
          ] ≡ turn_beside c f (elim o as (λ x. Turn) [
            | None ↦ answered ignored w
            | Some link ↦ arrive_at k byte link w
          ])
      cases None = refl
      cases (Some link) = arrive_at-beside k byte link w

  acknowledge-beside : (k : ℕ) (w : World)
      → acknowledge_turn k (beside c f w) ≡ turn_beside c f (acknowledge_turn k w)
  acknowledge-beside k w = cases (slice_get w.links.outputs k)
    where
      on_waiting : (o : Option ℕ)
          → elim o as (λ x. Turn) [
            | None ↦ answered ignored (beside c f w)
            | Some p ↦ answered acknowledged (dispatch 0
                (wake p (with_output k (record { waiting = None }) (beside c f w))))
          ] ≡ turn_beside c f (elim o as (λ x. Turn) [
            | None ↦ answered ignored w
            | Some p ↦ answered acknowledged (dispatch 0 (wake p (with_output k (record { waiting = None }) w)))
          ])
      on_waiting None = refl
      on_waiting (Some p) =
          let there : World = with_output k (record { waiting = None }) w in
          let woken : World = wake p there in
          answered-beside acknowledged (dispatch 0 woken) (dispatched woken (wake-beside p there))

      cases : (o : Option OutputLink)
          → elim o as (λ x. Turn) [
            | None ↦ answered ignored (beside c f w)
            | Some link ↦ elim link.waiting as (λ x. Turn) [
              | None ↦ answered ignored (beside c f w)
              | Some p ↦ answered acknowledged (dispatch 0
                  (wake p (with_output k (record { waiting = None }) (beside c f w))))
            ]
          ] ≡ turn_beside c f (elim o as (λ x. Turn) [
            | None ↦ answered ignored w
            | Some link ↦ elim link.waiting as (λ x. Turn) [
              | None ↦ answered ignored w
              | Some p ↦ answered acknowledged (dispatch 0 (wake p (with_output k (record { waiting = None }) w)))
            ]
          ])
      cases None = refl
      cases (Some link) = on_waiting link.waiting

pub arrives_beside : ArrivesBeside
arrives_beside = λ c f k byte w. arrive-beside c f k byte w

pub acknowledges_beside : AcknowledgesBeside
acknowledges_beside = λ c f k w. acknowledge-beside c f k w
