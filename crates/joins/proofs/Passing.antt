-- What a start that is not at fault has passed.
use Rattle.std.proofs.Common.{◌≡◌, ℕ, Bool, true, false, [], ◌∷◌, None, refl}
use Rattle.std.proofs.lemmas.Bool.{and_parts, eqb-true}
use Rattle.machine_state.specs.declared.fault.FaultKind.{FaultKind}
use Rattle.machine_state.specs.StartPlans.{Plan, first_fault, is_next, later_faults}
use Rattle.machine_state.specs.JoinLookups.{Found}

third : (a b c : Bool) (x y z : FaultKind) → first_fault ((a, x) ∷ (b, y) ∷ (c, z) ∷ []) ≡ None → c ≡ true
third true true true x y z h = refl
third true true false x y z h = absurd (cc)
third true false c x y z h = absurd (cc)
third false b c x y z h = absurd (cc)

-- the branch is the next
pub next_number : (n : ℕ) (plan : Plan) (found : Found) (workspace : ℕ)
    → first_fault (later_faults n plan found workspace) ≡ None → found.number ≡ plan.started
next_number n plan found workspace h =
    let next : is_next plan found workspace ≡ true = third _ _ _ _ _ _ h in
    eqb-true found.number plan.started (and_parts _ _ next).0
