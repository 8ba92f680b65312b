-- The invariant holds in each world that a certified module comes to, and so the module runs well.
use Rattle.std.proofs.Common.{◌<◌, List, [], ◌∷◌, ◌++◌, sym, subst, append_assoc, append-nil, arith}
use Rattle.module_format.specs.Contents.{Contents}
use Rattle.module_format.specs.Keeping.{Keeps}
use Rattle.machine_state.specs.declared.event.Event.{Event}
use Rattle.machine_state.specs.World.{World, loaded}
use Rattle.machine_state.specs.Happens.{happens, world_after, most_executed}
use Rattle.machine_state.proofs.EveryWorld.{run_further}
use Rattle.certified_worlds.specs.Certified.{IsCertified}
use Rattle.certified_worlds.specs.Invariant.{Holds}
use Rattle.verifier.specs.Headline.{IsEvent, AreEvents, RunsWell}
use Rattle.verifier.proofs.ValidContents.{decodes, well_formed}
use Rattle.verifier.proofs.LawfulWorlds.{IsLawful, lawful}
use Rattle.verifier.proofs.EventsKeepInvariant.{event_holds}
use Rattle.verifier.proofs.Start.{loaded_holds}
use Rattle.verifier.proofs.OwnBytes.{changes_its_own}
use Rattle.verifier.proofs.ReadBytes.{reads_its_own}
use Rattle.verifier.proofs.Costs.{costs_are_counted}

module _ (m : Contents) (k : Keeps m) (c : IsCertified m) where
  -- one event more
  step_further : (es : List Event) (e : Event) → IsEvent e → Holds m (world_after m es)
      → Holds m (happens m (world_after m es) e)
  step_further es e is h =
      event_holds m (decodes m k) (well_formed m k) k c (world_after m es) (lawful m es k) h e is
      (subst (λ (w : World). IsLawful m w) (run_further m (loaded m) es e) (lawful m (es ++ e ∷ []) k))

  holds_from : (before es : List Event) → AreEvents es → Holds m (world_after m before)
      → Holds m (world_after m (before ++ es))
  holds_from before [] are h = subst (λ (es : List Event). Holds m (world_after m es)) (sym (append-nil before)) h
  holds_from before (e ∷ es) are h = subst (λ (es : List Event). Holds m (world_after m es))
      (append_assoc before (e ∷ []) es) (holds_from (before ++ e ∷ []) es are.1
      (subst (Holds m) (sym (run_further m (loaded m) before e)) (step_further before e are.0 h)))

pub certified_run_holds : (m : Contents) (es : List Event) → Keeps m → IsCertified m → AreEvents es
    → Holds m (world_after m es)
certified_run_holds m es k c are =
    holds_from m k c [] es are (loaded_holds m (decodes m k) (well_formed m k) c)

pub runs_well : (m : Contents) → Keeps m → IsCertified m → RunsWell m
runs_well m k c es are =
    let w = world_after m es in
    let h = certified_run_holds m es k c are in
    let owed = h.owed in
    let most = k.bounds.budget in
    let small : w.counters.executed < most_executed = omega (arith, owed, most) in
    record {
      no_fault = h.well;
      apart = (lawful m es k).apart;
      within_budget = omega (arith, owed);
      writes = λ e place changed. changes_its_own m es k e place changed;
      reads = λ e other size same. reads_its_own m es k other size e same;
      costs = λ e is. costs_are_counted m w (lawful m es k).line small h.well e (step_further m k c es e is h).well;
    }
