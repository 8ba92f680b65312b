-- The tests of a deadlock, part by part.
use Rattle.std.proofs.Common.{◌≡◌, ℕ, ◌&&◌, not, Bool, true, false, is_some, is_none, List, [], ◌∷◌, length}
use Rattle.std.proofs.Common.{Option, Some, None, slice_get, refl, sym, ap, subst, ◌∙◌, arith, cond}
use Rattle.std.specs.List.{list_all}
use Rattle.std.specs.Option.{option_map_or}
use Rattle.machine_state.specs.declared.process.Task.{Task}
use Rattle.machine_state.specs.World.{World, Queue}
use Rattle.machine_state.proofs.LinkCounts.{links_stay_four}
use Rattle.machine_state.specs.LinkLaws.{FourEachWay}
use Rattle.machine_state.specs.World.{Links}
use Rattle.module_format.specs.Contents.{Contents}
use Rattle.link_runs.specs.Deadlocks as run
use Rattle.link_runs.specs.Deadlocks.{awaits, is_empty}
use Rattle.link_runs.specs.Wanting.{is_running}
use Rattle.waiting_texts.specs.Resting.{IsWorldOf}
use Rattle.waiting_texts.specs.Waits.{told_of, is_for_others}
use Rattle.waiting_texts.proofs.Resting.{nobody_ready}

-- what is told of a wait is for others if the wait is
told_for_others : (wait : run.Wait) → is_for_others (told_of wait) ≡ run.is_for_others (Some wait)
told_for_others run.processor = refl
told_for_others (run.receiver e) = refl
told_for_others (run.sender e) = refl
told_for_others (run.bytes k e done) = refl
told_for_others (run.acknowledgement k e) = refl
told_for_others (run.guards inputs channels) = refl
told_for_others (run.branches join) = refl
told_for_others run.for_good = refl

pub task_for_others : (w : World) (p : ℕ) (task : Task) → slice_get w.tasks p ≡ Some task
    → is_for_others (told_of (run.wait_by w p task.condition)) ≡ run.is_for_others (awaits w p)
task_for_others w p task here =
    told_for_others (run.wait_by w p task.condition)
    ∙ sym (ap (λ (o : Option Task). run.is_for_others (elim o [
      | None ↦ None
      | Some t ↦ Some (run.wait_by w p t.condition)
    ])) here)

pub nobody_for_others : (w : World) (p : ℕ) → slice_get w.tasks p ≡ None → false ≡ run.is_for_others (awaits w p)
nobody_for_others w p here =
    sym (ap (λ (o : Option Task). run.is_for_others (elim o [
      | None ↦ None
      | Some t ↦ Some (run.wait_by w p t.condition)
    ])) here)

-- ---- links

four_all : {A : Type 0} (passes : A → Bool) (xs : List A) → length xs ≡ 4
    → list_all passes xs
    ≡ (option_map_or passes (slice_get xs 0) true && option_map_or passes (slice_get xs 1) true
    && option_map_or passes (slice_get xs 2) true && option_map_or passes (slice_get xs 3) true)
four_all passes [] four = absurd (omega arith)
four_all passes (a ∷ []) four = absurd (omega arith)
four_all passes (a ∷ b ∷ []) four = absurd (omega arith)
four_all passes (a ∷ b ∷ c ∷ []) four = absurd (omega arith)
four_all passes (a ∷ b ∷ c ∷ d ∷ []) four = and_four (passes a) (passes b) (passes c) (passes d)
  where
    and_four : (p q r s : Bool) → (p && (q && (r && (s && true)))) ≡ (p && q && r && s)
    and_four true true true true = refl
    and_four true true true false = refl
    and_four true true false s = refl
    and_four true false r s = refl
    and_four false q r s = refl
four_all passes (a ∷ b ∷ c ∷ d ∷ e ∷ more) four = absurd (omega arith)

links_of : (m : Contents) (w : World) → IsWorldOf m w → FourEachWay w.links
links_of m w of = subst (λ (v : World). FourEachWay v.links) (sym of.world) (links_stay_four m of.events)

pub inputs_quiet : (m : Contents) (w : World) → IsWorldOf m w → (a b c d : Bool)
    → a ≡ option_map_or run.is_quiet_input (slice_get w.links.inputs 0) true
    → b ≡ option_map_or run.is_quiet_input (slice_get w.links.inputs 1) true
    → c ≡ option_map_or run.is_quiet_input (slice_get w.links.inputs 2) true
    → d ≡ option_map_or run.is_quiet_input (slice_get w.links.inputs 3) true
    → (a && b && c && d) ≡ list_all run.is_quiet_input w.links.inputs
inputs_quiet m w of a b c d at_a at_b at_c at_d =
    rw (at_a, at_b, at_c, at_d) (sym (four_all run.is_quiet_input w.links.inputs (links_of m w of).inputs))

pub outputs_quiet : (m : Contents) (w : World) → IsWorldOf m w → (a b c d : Bool)
    → a ≡ option_map_or run.is_quiet_output (slice_get w.links.outputs 0) true
    → b ≡ option_map_or run.is_quiet_output (slice_get w.links.outputs 1) true
    → c ≡ option_map_or run.is_quiet_output (slice_get w.links.outputs 2) true
    → d ≡ option_map_or run.is_quiet_output (slice_get w.links.outputs 3) true
    → (a && b && c && d) ≡ list_all run.is_quiet_output w.links.outputs
outputs_quiet m w of a b c d at_a at_b at_c at_d =
    rw (at_a, at_b, at_c, at_d) (sym (four_all run.is_quiet_output w.links.outputs (links_of m w of).outputs))

-- ---- the queue

empty_if : (queue : Queue) → (queue.running ≡ None → queue.ready ≡ [])
    → not (is_some queue.running) ≡ is_empty queue
empty_if queue rests = go queue.running queue.ready rests
  where
    go : (running : Option ℕ) (ready : List ℕ) → (running ≡ None → ready ≡ [])
        → not (is_some running) ≡ is_empty (record { running = running; ready = ready })
    go (Some p) ready none = refl
    go None [] none = refl
    go None (p ∷ ps) none = let e : p ∷ ps ≡ [] = none refl in absurd (cc)

pub rests_empty : (m : Contents) (w : World) → IsWorldOf m w → not (is_running w) ≡ is_empty w.queue
rests_empty m w of = empty_if w.queue (nobody_ready m w of)

-- ---- all of it

pub all_is : (a b c d p q r s : Bool) → a ≡ p → b ≡ q → c ≡ r → d ≡ s → (a && b && c && d) ≡ (p && q && r && s)
all_is a b c d p q r s at_a at_b at_c at_d = rw (at_a, at_b, at_c, at_d) refl
