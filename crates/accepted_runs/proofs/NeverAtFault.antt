-- The worlds of a module that runs well: no event that can happen is a fault there.
use Rattle.std.proofs.Common.{◌≡◌, ◌<◌, ◌≤◌, false, List, [], ◌∷◌, ◌++◌, Option, Some, None, Ok, Err}
use Rattle.std.proofs.Common.{refl, sym, ap, subst, ◌∙◌, arith, inl, inr}
use Rattle.std.proofs.lemmas.Bool.{cases_lt}
use Rattle.std.proofs.lemmas.Grind.{not_there}
use Rattle.module_format.specs.Contents.{Contents}
use Rattle.module_format.specs.Keeping.{Keeps}
use Rattle.machine_state.specs.declared.event.Event.{Event}
use Rattle.machine_state.specs.declared.fault.Fault.{Fault}
use Rattle.machine_state.specs.World.{World, loaded}
use Rattle.machine_state.specs.Happens.{idle, turn, happens, world_after, most_executed}
use Rattle.machine_state.proofs.EventLaws.{faults_are_kept}
use Rattle.machine_state.proofs.EveryWorld.{run_further}
use Rattle.machine_state.proofs.Waiting.{lines_are_ready}
use Rattle.machine_state.specs.Waiting.{Line}
use Rattle.link_runs.specs.FirstInFirstOut.{plain_step}
use Rattle.link_runs.specs.Wanting.{is_running}
use Rattle.link_runs.proofs.PlainSteps.{idle_finds_nobody}
use Rattle.verifier.specs.Headline.{IsEvent, AreEvents, RunsWell}
use Rattle.accepted_runs.specs.Running.{RunsOn}

are_more : (es : List Event) (e : Event) → AreEvents es → IsEvent e → AreEvents (es ++ e ∷ [])
are_more [] e are is = (is, tt)
are_more (x ∷ es) e are is = (are.0, are_more es e are.1 is)

never_both : (f : Fault) → None ≡ Some f → ⊥
never_both f e = cc

fault_of : (w : World) (o : Option Fault) → w.fault ≡ o → ((f : Fault) → w.fault ≡ Some f → ⊥) → w.fault ≡ None
fault_of w None is never = is
fault_of w (Some f) is never = absurd (never f is)

module _ (m : Contents) (w : World) (events : List Event) (well : ∥ RunsWell m ∥₁) (are : AreEvents events)
    (is : w ≡ world_after m events) where
  never_fault : (f : Fault) → w.fault ≡ Some f → ⊥
  never_fault f fails = not_there well (λ run.
      let none = (run events are).no_fault in
      let same = ap (λ (v : World). v.fault) is in
      never_both f (sym (same ∙ none) ∙ fails))

  in_budget : w.counters.executed ≤ m.budget
  in_budget = elim (cases_lt m.budget w.counters.executed) [
    | inl above ↦ absurd (not_there well (λ run.
        let low = (run events are).within_budget in
        let count = ap (λ (v : World). v.counters.executed) is in
        omega (arith, above, low, count)))
    | inr low ↦ low
  ]

  -- events lead a module that runs well to such worlds alone
  pub leads_there : Keeps m → RunsOn m w
  leads_there keeps = record {
    keeps = keeps;
    well = well;
    reached = record {
      events = events;
      world = is;
      no_fault = fault_of w w.fault refl never_fault;
      within_limit = in_budget;
    };
    are = are;
  }

pub runs_from_the_start : (m : Contents) (w : World) → Keeps m → ∥ RunsWell m ∥₁ → w ≡ loaded m → RunsOn m w
runs_from_the_start m w keeps well is = leads_there m w [] well tt is keeps

module _ (m : Contents) (w : World) (on : RunsOn m w) where
  pub runs_further : (e : Event) → IsEvent e → RunsOn m (happens m w e)
  runs_further e is = leads_there m (happens m w e) (on.reached.events ++ e ∷ []) on.well
      (are_more on.reached.events e on.are is)
      (ap (λ (v : World). happens m v e) on.reached.world ∙ sym (run_further m (loaded m) on.reached.events e)) on.keeps

  pub below_most : w.counters.executed < most_executed
  below_most = let low = on.reached.within_limit in let most = on.keeps.bounds.budget in omega (arith, low, most)

  line_there : Line w.tasks w.queue
  line_there =
      subst (λ (v : World). Line v.tasks v.queue) (sym on.reached.world) (lines_are_ready m on.reached.events)

  -- a Step that is idle finds no process running
  pub rests : (turn m w plain_step).answer ≡ Ok idle → is_running w ≡ false
  rests told = idle_finds_nobody m w told line_there below_most

  -- no event that can happen is a fault
  pub never_fails : (e : Event) (f : Fault) → IsEvent e → (turn m w e).answer ≡ Err f → ⊥
  never_fails e f is fails =
      let after = runs_further e is in
      never_both f (sym after.reached.no_fault ∙ faults_are_kept m w e f fails)
