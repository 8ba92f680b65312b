-- One process becomes another task, which waits for no message inside and is in no alternation: what the tasks keep in
-- memory is what they kept.
use Rattle.std.proofs.Common.{◌≡◌, ◌≢◌, ℕ, List, inl, inr, Some, None, ap, ◌∙◌, sym, subst, slice_get}
use Rattle.std.proofs.lemmas.Bool.{cases_eq}
use Rattle.std.specs.Prelude.{slice_set}
use Rattle.small_laws.proofs.Options.{same_some}
use Rattle.module_format.specs.Contents.{Contents}
use Rattle.machine_state.specs.declared.process.Exchange.{Exchange}
use Rattle.machine_state.specs.declared.process.Task.{Task}
use Rattle.machine_state.specs.World.{World}
use Rattle.machine_state.proofs.Lines.{got_set, got_other}
use Rattle.world_laws.specs.Parked.{IsInside}
use Rattle.agreement.specs.Agrees as agree
use Rattle.agreement.specs.Agrees.{PlainMachine, Agrees}
use Rattle.agreement.proofs.Passing.{keeps_none}

module _ (tasks : List Task) (p : ℕ) (task later : Task) (here : slice_get tasks p ≡ Some task) where
  -- its task is the new one
  pub is_mine : (q : ℕ) (t : Task) → p ≡ q → slice_get (slice_set tasks p later) q ≡ Some t → later ≡ t
  is_mine q t same there = same_some (slice_get (slice_set tasks p later) q) later t
      (subst (λ n. slice_get (slice_set tasks p later) n ≡ Some later) same (got_set tasks p task later here)) there

  -- and that of another process is what it was
  pub is_other : (q : ℕ) (t : Task) → p ≢ q → slice_get (slice_set tasks p later) q ≡ Some t
      → slice_get tasks q ≡ Some t
  is_other q t differ there = sym (got_other tasks p q later differ) ∙ there

module _ (m : Contents) (w : World) (machine : PlainMachine) (agrees : Agrees m machine w) (p : ℕ)
    (task later : Task) (here : slice_get w.tasks p ≡ Some task) where
  pub messages_stay : agree.waits_inside later.condition ≡ None → (q : ℕ) (t : Task) (e : Exchange)
      → slice_get (slice_set w.tasks p later) q ≡ Some t → agree.waits_inside t.condition ≡ Some e
      → agree.KeepsMessage machine.memory t.registers.workspace e
  messages_stay calm q t e there waits = elim (cases_eq p q) [
    | inl same ↦ keeps_none machine.memory t.registers.workspace t.condition
        (sym (ap (λ (t : Task). agree.waits_inside t.condition) (is_mine w.tasks p task later here q t same there))
        ∙ calm) e waits
    | inr differ ↦ agrees.messages q t e (is_other w.tasks p task later here q t differ there) waits
  ]

  pub alternations_stay : (IsInside later.mode → ⊥) → (q : ℕ) (t : Task)
      → slice_get (slice_set w.tasks p later) q ≡ Some t → IsInside t.mode
      → agree.KeepsAlternation machine.memory t.registers.workspace t.condition t.mode
  alternations_stay outside q t there inside = elim (cases_eq p q) [
    | inl same ↦ absurd (outside (subst (λ (t : Task). IsInside t.mode)
        (sym (is_mine w.tasks p task later here q t same there)) inside))
    | inr differ ↦ agrees.alternations q t
        (record { here = is_other w.tasks p task later here q t differ there; inside = inside })
  ]
