-- What is so when a module is loaded, and what each event keeps, is so in every world that a list of events leads to.
use Rattle.std.proofs.Common.{◌≡◌, List, [], ◌∷◌, ◌++◌, refl, sym, subst, append_assoc, append-nil}
use Rattle.module_format.specs.Contents.{Contents}
use Rattle.machine_state.specs.declared.event.Event.{Event}
use Rattle.machine_state.specs.World.{World, loaded}
use Rattle.machine_state.specs.Happens.{turn, run_from, world_after}

module _ (m : Contents) where
  pub run_further : (w : World) (es : List Event) (e : Event)
      → run_from m w (es ++ e ∷ []) ≡ (turn m (run_from m w es) e).world
  run_further w [] e = refl
  run_further w (x ∷ es) e = run_further (turn m w x).world es e

  module _ (P : World → Type 0) (first : P (loaded m))
      (next : (es : List Event) (e : Event) → P (world_after m es)
      → P (turn m (world_after m es) e).world) where
    from_here : (before es : List Event) → P (world_after m before) → P (world_after m (before ++ es))
    from_here before [] here =
        subst (λ (es : List Event). P (world_after m es)) (sym (append-nil before)) here
    from_here before (e ∷ es) here = subst (λ (es : List Event). P (world_after m es))
        (append_assoc before (e ∷ []) es)
        (from_here (before ++ e ∷ []) es (subst P (sym (run_further (loaded m) before e)) (next before e here)))

    pub every_world : (es : List Event) → P (world_after m es)
    every_world es = from_here [] es first
