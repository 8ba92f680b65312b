-- The parts of the turn of an instruction that asks something of others, whatever the counters and the fault are.
use Rattle.std.proofs.Common.{◌≡◌, nat_lt, Bool, true, false, if◌then◌else◌, Option, Some, None, refl, ap}
use Rattle.std.proofs.Common.{◌∙◌, length, Result, Ok, Err}
use Rattle.machine_state.specs.declared.fault.Fault.{Fault}
use Rattle.machine_state.specs.declared.fault.FaultKind.TheVariants.{OutsideCode}
use Rattle.machine_state.specs.World.{World, Counters}
use Rattle.machine_state.specs.Moves.{counted, leave, dispatch}
use Rattle.machine_state.specs.Turn.{Effect, ran, Turn, answered, Here, failed, followed}
use Rattle.traffic.specs.declared.stop.Stop.{Stop}
use Rattle.traffic.specs.declared.stop.Stop.TheVariants as stops
use Rattle.traffic.specs.Beside.{beside, counted_beside, CountsBeside}
use Rattle.traffic.specs.Settling.{SettlesBy, SettlesIfRoom}
use Rattle.traffic.proofs.Beside.{dispatch-beside}

module _ (c : Counters) (f : Option Fault) where
  -- one of two turns, or of two worlds that are counted already
  pub either_turn : (b : Bool) (x y : Turn) {v w : Turn} → v ≡ counted_beside c f x → w ≡ counted_beside c f y
      → (if b then v else w) ≡ counted_beside c f (if b then x else y)
  either_turn true x y p q = p
  either_turn false x y p q = q

  pub either_world : (b : Bool) (x y : World) {v w : World}
      → answered ran v ≡ counted_beside c f (answered ran x) → answered ran w ≡ counted_beside c f (answered ran y)
      → answered ran (if b then v else w) ≡ counted_beside c f (answered ran (if b then x else y))
  either_world true x y p q = p
  either_world false x y p q = q

  -- by what there is
  pub maybe_turn : {A : Type 0} (o : Option A) (n : Turn) (s : A → Turn) {m : Turn} {t : A → Turn}
      → m ≡ counted_beside c f n → ((x : A) → t x ≡ counted_beside c f (s x))
      → elim o as (λ x. Turn) [ None ↦ m | Some x ↦ t x ]
      ≡ counted_beside c f (elim o as (λ x. Turn) [ None ↦ n | Some x ↦ s x ])
  maybe_turn None n s p q = p
  maybe_turn (Some x) n s p q = q x

  pub maybe_world : {A : Type 0} (o : Option A) (n : World) (s : A → World) {m : World} {t : A → World}
      → answered ran m ≡ counted_beside c f (answered ran n)
      → ((x : A) → answered ran (t x) ≡ counted_beside c f (answered ran (s x)))
      → answered ran (elim o as (λ x. World) [ None ↦ m | Some x ↦ t x ])
      ≡ counted_beside c f (answered ran (elim o as (λ x. World) [ None ↦ n | Some x ↦ s x ]))
  maybe_world None n s p q = p
  maybe_world (Some x) n s p q = q x

  -- it is executed
  pub executed-beside : (e : Effect) (w : World) {v : World} → v ≡ beside c f w
      → answered e (counted v) ≡ counted_beside c f (answered e (counted w))
  executed-beside e w same = ap (λ x. answered e (counted x)) same

  -- it needs code after it
  pub followed-beside : (h : Here) (turn : Turn) (w : World) {v : Turn} → v ≡ counted_beside c f turn
      → followed h v (beside c f w) ≡ counted_beside c f (followed h turn w)
  followed-beside h turn w same =
      either_turn (nat_lt h.next (length h.contents.code)) turn (failed h OutsideCode w) same refl

  -- its process waits, and another may run
  pub left-beside : (h : Here) (w : World) {v : World} → v ≡ beside c f w
      → dispatch h.pick (leave v) ≡ beside c f (dispatch h.pick (leave w))
  left-beside h w same = ap (λ x. dispatch h.pick (leave x)) same ∙ dispatch-beside c f h.pick (leave w)

-- What a call did, it did beside any counters and fault.
pub settles_beside : {A : Type 0} (turn : World → Turn) → CountsBeside turn → (effect : A → Effect)
    (c : Counters) (f : Option Fault) (before after : World) (result : Result A Fault)
    → SettlesBy effect before after result (turn before)
    → SettlesBy effect (beside c f before) (beside c f after) result (turn (beside c f before))
settles_beside turn law effect c f before after (Ok answer) settles = law c f before ∙ ap (counted_beside c f) settles
settles_beside turn law effect c f before after (Err fault) settles =
    (law c f before ∙ ap (counted_beside c f) settles.0, ap (beside c f) settles.1)

pub settles_if_room_beside : {A : Type 0} (turn : World → Turn) → CountsBeside turn → (effect : A → Effect)
    (c : Counters) (f : Option Fault) (before after : World) (result : Result A Stop)
    → SettlesIfRoom effect before after result (turn before)
    → SettlesIfRoom effect (beside c f before) (beside c f after) result (turn (beside c f before))
settles_if_room_beside turn law effect c f before after (Ok answer) settles =
    law c f before ∙ ap (counted_beside c f) settles
settles_if_room_beside turn law effect c f before after (Err (stops.Fault fault)) settles =
    (law c f before ∙ ap (counted_beside c f) settles.0, ap (beside c f) settles.1)
settles_if_room_beside turn law effect c f before after (Err stops.Memory) same = ap (beside c f) same
