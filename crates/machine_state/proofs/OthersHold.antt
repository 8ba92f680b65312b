-- What a process holds that neither runs nor has ended stays as it is, and so does what one in an alternation holds.
use Rattle.std.proofs.Common.{◌≡◌, ◌≢◌, ℕ, List, Option, Some, None, refl, sym, ap, ◌∙◌, subst, slice_get, arith}
use Rattle.std.proofs.lemmas.List.{length-set}
use Rattle.std.proofs.lemmas.Option.{slice_get_within}
use Rattle.std.specs.Prelude.{slice_set}
use Rattle.small_laws.proofs.Options.{same_some}
use Rattle.machine_state.specs.declared.process.Channel.{Channel}
use Rattle.machine_state.specs.declared.process.Task.{Task}
use Rattle.machine_state.specs.declared.process.Mode.TheVariants.{Plain}
use Rattle.machine_state.specs.declared.process.Condition.TheVariants.{Ended}
use Rattle.machine_state.specs.Holding.{Holding, nothing}
use Rattle.machine_state.specs.World.{World, Links, Role, Join, held, holding_at}
use Rattle.machine_state.specs.Turn.{Here}
use Rattle.machine_state.proofs.Lines.{got_other}
use Rattle.machine_state.proofs.MovesLeaveAlone.{with_opened, without}
use Rattle.machine_state.proofs.Waiting.{WaitsIn}
use Rattle.machine_state.proofs.Modes.{IsOutside}
use Rattle.machine_state.proofs.Roles.{field_other, field_same, field_pushed}
use Rattle.machine_state.proofs.Changes as change
use Rattle.machine_state.proofs.Changes.{Changed, GivesBack, Leaves, going}

-- a process has given back what it held: what the others hold is the same
pub others_keep : (h : Here) (w : World) (o : ℕ) (roles : List Role) → GivesBack h w o roles → (p : ℕ)
    → h.process ≢ p → holding_at roles p ≡ holding_at w.roles p
others_keep h w o roles change.itself p differ = refl
others_keep h w o roles (change.a_branch opener role here by none other) p differ =
    field_other held nothing w.roles h.process (record role { own = nothing }) p differ

-- a member of a join has ended: what anyone holds is the same while the join is open
pub smaller_holds : (h : Here) (w : World) (o : ℕ) (roles : List Role) (x : Leaves h w o roles) (p : ℕ)
    → holding_at (slice_set roles o (with_opened (Some (without h.process x.join)) x.role)) p ≡ holding_at roles p
smaller_holds h w o roles x p =
    field_same held nothing roles o x.role (with_opened (Some (without h.process x.join)) x.role) x.here
    (sym (ap (λ (j : Option Join). elim j as (λ o. Holding) [ None ↦ x.role.own | Some join ↦ join.rest ])
    x.is_open)) p

-- the other processes hold what they did, and the process itself does where it is in an alternation
pub record HoldOn (h : Here) (w : World) (later : List Role) : Type 0 where
  pub others : (p : ℕ) (t : Task) → slice_get w.tasks p ≡ Some t → h.process ≢ p → (t.condition ≡ Ended → ⊥)
      → holding_at later p ≡ holding_at w.roles p
  pub itself : (IsOutside h.from.mode → ⊥) → later ≡ w.roles

module _ (h : Here) (w : World) (keeps : WaitsIn w) where
  same : HoldOn h w w.roles
  same = record { others = λ p t here differ alive. refl; itself = λ inside. refl }

  outside : (later : List Role) → IsOutside h.from.mode
      → ((p : ℕ) (t : Task) → slice_get w.tasks p ≡ Some t → h.process ≢ p → (t.condition ≡ Ended → ⊥)
      → holding_at later p ≡ holding_at w.roles p) → HoldOn h w later
  outside later is others = record { others = others; itself = λ inside. absurd (inside is) }

  pub others_hold : (ts : List Task) (rs : List Role) (cs : List (Option Channel)) (ls : Links)
      → Changed h w ts rs cs ls → HoldOn h w rs
  others_hold ts rs cs ls (change.goes_on r mode c x) = same
  others_hold ts rs cs ls (change.waits_to_receive r e c is holds at none) = same
  others_hold ts rs cs ls (change.waits_to_send r e c tasks is holds at none roused) = same
  others_hold ts rs cs ls (change.meets_sender r e sent c other is holds at waits x) = same
  others_hold ts rs cs ls (change.meets_receiver r e wanted c other is holds at waits x) = same
  others_hold ts rs cs ls (change.receives_outside r e k link new c is holds word here receives) = same
  others_hold ts rs cs ls (change.sends_outside r e k is holds word low) = same
  others_hold ts rs cs ls (change.starts r role j own child cells is here calm awake opening) =
      outside _ is (λ p t at differ alive.
      let low = slice_get_within w.tasks p t at in
      let many = keeps.rest.size in
      let size = length-set w.roles h.process (with_opened (Some j) role) in
      field_pushed held nothing (slice_set w.roles h.process (with_opened (Some j) role))
      (record { own = own; opener = Some h.process; opened = None }) p
      (λ same. omega (arith, low, many, size, same))
      ∙ field_other held nothing w.roles h.process (with_opened (Some j) role) p differ)
  others_hold ts rs cs ls (change.leaves_join r o roles x some) =
      outside _ x.outside (λ p t at differ alive.
      smaller_holds h w o roles x p ∙ others_keep h w o roles x.back p differ)
  others_hold ts rs cs ls (change.closes_join r o roles x none par t here over) =
      outside _ x.outside (λ p u at differ alive.
      field_other held nothing roles o (with_opened None x.role) p
      (λ e. alive (ap (λ (y : Task). y.condition) (same_some (slice_get w.tasks p) u t at
      (sym (got_other w.tasks h.process p _ differ)
      ∙ subst (λ n. slice_get (going h w r Plain Ended) n ≡ Some t) e here)) ∙ over))
      ∙ others_keep h w o roles x.back p differ)
  others_hold ts rs cs ls (change.enables_a_channel r address c is holds at once) = same
  others_hold ts rs cs ls (change.enables_a_link r k link is holds here once) = same
  others_hold ts rs cs ls (change.disables_a_channel r mode address c is further at mine) = same
  others_hold ts rs cs ls (change.disables_a_link r mode k link is further here mine) = same
