-- The states that the tables give, and the starts that they name.
use Rattle.std.proofs.Common.{◌≡◌, ℕ, true, false, is_some, Option, Some, None, refl, ap, ◌∙◌}
use Rattle.std.proofs.lemmas.Bool.{or_parts}
use Rattle.small_laws.proofs.Options.{none_from_is_some}
use Rattle.module_format.specs.Contents.{Contents, Label, label_at}
use Rattle.certificate.specs.Starts.{Entered, procedure_at, is_start}
use Rattle.states.specs.State.{State, label_state, procedure_state}
use Rattle.certified_worlds.specs.Certified.{first_state, table_state, state_at}

pub nothing_given : (m : Contents) (at : ℕ) (before : Option State) → table_state m at ≡ None
    → state_at m at before ≡ before
nothing_given m at before g = ap (λ (o : Option State). elim o [ None ↦ before | Some s ↦ Some s ]) g

pub is_given : (m : Contents) (at : ℕ) (before : Option State) (s : State) → table_state m at ≡ Some s
    → state_at m at before ≡ Some s
is_given m at before s g = ap (λ (o : Option State). elim o [ None ↦ before | Some s ↦ Some s ]) g

pub given_label : (m : Contents) (at : ℕ) (t : Label) → label_at m at ≡ Some t → table_state m at ≡ Some (label_state t)
given_label m at t l =
    ap (λ (o : Option Label). elim o [ None ↦ first_state (procedure_at m at) | Some t ↦ Some (label_state t) ]) l

pub given_none : (m : Contents) (at : ℕ) → label_at m at ≡ None → procedure_at m at ≡ None → table_state m at ≡ None
given_none m at l p = ap (λ (o : Option Label). elim o [
  | None ↦ first_state (procedure_at m at)
  | Some t ↦ Some
      (label_state t)
]) l ∙ ap first_state p

pub given_procedure : (m : Contents) (at : ℕ) (e : Entered) → label_at m at ≡ None → procedure_at m at ≡ Some e
    → table_state m at ≡ Some (procedure_state e.context e.procedure)
given_procedure m at e l p =
    ap (λ (o : Option Label). elim o [ None ↦ first_state (procedure_at m at) | Some t ↦ Some (label_state t) ]) l
    ∙ ap first_state p

-- ---- starts

pub label_is_start : (m : Contents) (at : ℕ) (t : Label) → label_at m at ≡ Some t → is_start m at ≡ true
label_is_start m at t l = rw l refl

pub procedure_is_start : (m : Contents) (at : ℕ) (e : Entered) → label_at m at ≡ None → procedure_at m at ≡ Some e
    → is_start m at ≡ true
procedure_is_start m at e l p = rw (l, p) refl

pub start_of_none : (m : Contents) (at : ℕ) → is_start m at ≡ false
    → (label_at m at ≡ None) × (procedure_at m at ≡ None)
start_of_none m at h =
    let both = (or_parts _ _ (or_parts _ _ h).0).0 in (
      none_from_is_some (label_at m at) (or_parts _ _ both).0,
      none_from_is_some (procedure_at m at) (or_parts (is_some (label_at m at)) _ both).1,
    )
