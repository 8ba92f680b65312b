-- Who waits once another process was made ready, or was roused, waited before; and who waited does so still.
use Rattle.std.proofs.Common.{◌≡◌, ◌≢◌, ℕ, true, inl, inr, List, Option, Some, refl, sym, ap, ◌∙◌, subst}
use Rattle.std.proofs.Common.{slice_get}
use Rattle.std.proofs.lemmas.Bool.{cases_eq}
use Rattle.std.specs.Prelude.{slice_set}
use Rattle.small_laws.proofs.Options.{same_some}
use Rattle.machine_state.specs.declared.process.Task.{Task}
use Rattle.machine_state.specs.declared.process.Mode.TheVariants.{Enabling}
use Rattle.machine_state.specs.declared.process.Condition.{Condition}
use Rattle.machine_state.specs.declared.process.Condition.TheVariants.{Ready, Alternating}
use Rattle.machine_state.proofs.Lines.{got_set, got_other, set_either}
use Rattle.machine_state.proofs.Changes as change
use Rattle.machine_state.proofs.Changes.{Roused}

-- ---- who waits did so before

-- of a way to wait
module _ (P : Condition → Type 0) (not_ready : P Ready → ⊥) where
  -- who waits once this one is ready is another one, as it was
  pub ready_was : (tasks : List Task) (q : ℕ) (u : Task) → u.condition ≡ Ready → (p : ℕ) (t : Task)
      → slice_get (slice_set tasks q u) p ≡ Some t → P t.condition → (q ≢ p) × (slice_get tasks p ≡ Some t)
  ready_was tasks q u ready p t here waits = elim (set_either tasks q u p t here) [
    | inl it ↦ absurd (not_ready
        (subst (λ (c : Condition). P c) (ap (λ (y : Task). y.condition) it.1 ∙ ready) waits))
    | inr other ↦ other
  ]

  -- who waits once one process was roused did so before
  pub roused_was : (tasks later : List Task) (o : Option ℕ) → Roused tasks o later → (p : ℕ) (t : Task)
      → slice_get later p ≡ Some t → P t.condition → (x : Task) × (slice_get tasks p ≡ Some x) × P x.condition
  roused_was tasks later o (change.nobody deaf) p t here waits = (t, here, waits)
  roused_was tasks later o (change.who_enables q x there is awake) p t here waits =
      elim (set_either tasks q (record x { mode = Enabling true }) p t here) [
        | inl it ↦ (
          x,
          subst (λ n. slice_get tasks n ≡ Some x) it.0 there,
          subst (λ (y : Task). P y.condition) it.1 waits,
        )
        | inr other ↦ (t, other.1, waits)
      ]
  roused_was tasks later o (change.who_waits q x there is) p t here waits =
      (t, (ready_was tasks q (record x { condition = Ready }) refl p t here waits).1, waits)

-- ---- the other way round: who waits does so still

-- the process of this number waits in this way
pub record IsWaiting (tasks : List Task) (p : ℕ) (c : Condition) : Type 0 where
  pub task : Task
  pub here : slice_get tasks p ≡ Some task
  pub waits : task.condition ≡ c

pub still_other : (tasks : List Task) (q : ℕ) (u : Task) (p : ℕ) (c : Condition) → q ≢ p → IsWaiting tasks p c
    → IsWaiting (slice_set tasks q u) p c
still_other tasks q u p c differ x =
    record { task = x.task; here = got_other tasks q p u differ ∙ x.here; waits = x.waits }

-- one that waits in another way, or goes on waiting so
pub still_set : (tasks : List Task) (q : ℕ) (t u : Task) → slice_get tasks q ≡ Some t → (p : ℕ) (c : Condition)
    → (t.condition ≡ c → u.condition ≡ c) → IsWaiting tasks p c → IsWaiting (slice_set tasks q u) p c
still_set tasks q t u there p c keeps x = elim (cases_eq q p) [
  | inl e ↦ record {
    task = u;
    here = subst (λ n. slice_get (slice_set tasks q u) n ≡ Some u) e (got_set tasks q t u there);
    waits = keeps (ap (λ (y : Task). y.condition) (same_some (slice_get tasks p) t x.task
        (subst (λ n. slice_get tasks n ≡ Some t) e there) x.here) ∙ x.waits);
  }
  | inr differ ↦ still_other tasks q u p c differ x
]

-- but for who waits for what it has enabled
pub still_roused : (tasks later : List Task) (o : Option ℕ) → Roused tasks o later → (p : ℕ) (c : Condition)
    → (c ≡ Alternating → ⊥) → IsWaiting tasks p c → IsWaiting later p c
still_roused tasks later o (change.nobody deaf) p c other x = x
still_roused tasks later o (change.who_enables q t there is awake) p c other x =
    still_set tasks q t (record t { mode = Enabling true }) there p c (λ e. e) x
still_roused tasks later o (change.who_waits q t there is) p c other x =
    still_set tasks q t (record t { condition = Ready }) there p c (λ e. absurd (other (sym e ∙ is))) x
