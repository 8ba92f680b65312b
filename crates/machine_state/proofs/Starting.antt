-- What the tests of a start say once they have passed.
use Rattle.std.proofs.Common.{◌≡◌, ℕ, ◌&&◌, Bool, true, false, List, [], ◌∷◌, length, None, refl}
use Rattle.std.proofs.lemmas.Bool.{and_parts}
use Rattle.module_format.specs.Contents.{Contents}
use Rattle.machine_state.specs.declared.fault.FaultKind.{FaultKind}
use Rattle.machine_state.specs.declared.fault.FaultKind.TheVariants.{EndNotHeld, NotOwn, Undefined, JoinOrder}
use Rattle.machine_state.specs.Memory.{Memory}
use Rattle.machine_state.specs.Holding.{Holding}
use Rattle.machine_state.specs.StartPlans.{Plan, first_fault, first_faults, later_faults, ends_are_there}
use Rattle.machine_state.specs.StartPlans.{share_is_there, words_are_held, words_are_defined, is_next, is_prepared}
use Rattle.machine_state.specs.JoinLookups.{Found}

-- the first test passes, and the others
passes : (b : Bool) (kind : FaultKind) (tests : List (Bool × FaultKind)) → first_fault ((b, kind) ∷ tests) ≡ None
    → (b ≡ true) × (first_fault tests ≡ None)
passes true kind tests h = (refl, h)
passes false kind tests h = absurd (cc)

-- of any start, and besides of the first of a PAR
pub record MayStart (n : ℕ) (plan : Plan) (found : Found) (workspace : ℕ) : Type 0 where
  pub ends : ends_are_there plan found.branch ≡ true
  pub share : share_is_there n plan workspace found.branch ≡ true
  pub next : is_next plan found workspace ≡ true

pub record MayOpen (m : Contents) (memory : Memory) (h : Holding) (plan : Plan) : Type 0 where
  pub held : words_are_held h plan ≡ true
  pub prepared : is_prepared m memory plan ≡ true

pub later_tests : (n : ℕ) (plan : Plan) (found : Found) (workspace : ℕ)
    → first_fault (later_faults n plan found workspace) ≡ None → MayStart n plan found workspace
later_tests n plan found workspace h =
    let next = is_next plan found workspace in
    let share = share_is_there n plan workspace found.branch in
    let a = passes (ends_are_there plan found.branch) EndNotHeld ((share, NotOwn) ∷ (next, JoinOrder) ∷ []) h in
    let b = passes share NotOwn ((next, JoinOrder) ∷ []) a.1 in
    record { ends = a.0; share = b.0; next = (passes next JoinOrder [] b.1).0 }

pub first_tests : (m : Contents) (memory : Memory) (h : Holding) (plan : Plan) (found : Found) (workspace : ℕ)
    → first_fault (first_faults m memory h plan found workspace) ≡ None
    → MayStart (length memory) plan found workspace × MayOpen m memory h plan
first_tests m memory h plan found workspace none =
    let next = is_next plan found workspace in
    let prepared = is_prepared m memory plan in
    let share = share_is_there (length memory) plan workspace found.branch in
    let held = words_are_held h plan in
    let defined = words_are_defined memory plan in
    let a = passes (ends_are_there plan found.branch) EndNotHeld
    ((share && held, NotOwn) ∷ (defined, Undefined) ∷ (next && prepared, JoinOrder) ∷ []) none in
    let b = passes (share && held) NotOwn ((defined, Undefined) ∷ (next && prepared, JoinOrder) ∷ []) a.1 in
    let c = passes defined Undefined ((next && prepared, JoinOrder) ∷ []) b.1 in
    let d = passes (next && prepared) JoinOrder [] c.1 in
    let own = and_parts share held b.0 in
    let ready = and_parts next prepared d.0 in
    (record { ends = a.0; share = own.0; next = ready.0 }, record { held = own.1; prepared = ready.1 })
