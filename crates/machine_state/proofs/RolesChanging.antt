-- One role that changes, as the store keeps it and as the definitions see it.
use Rattle.std.proofs.Common.{◌≡◌, ℕ, zero, suc, ◌<◌, List, [], ◌∷◌, length, get_or, map, Option, Some, None, refl, sym}
use Rattle.std.proofs.Common.{ap, ◌∙◌}
use Rattle.std.specs.Prelude.{slice_get, slice_set}
use Rattle.std.proofs.lemmas.List.{map-set}
use Rattle.std.proofs.lemmas.Option.{slice_get-map, slice_get-get_or}
use Rattle.std.specs.Option.{option_map}
use Rattle.machine_state.specs.declared.role.Role as kept
use Rattle.machine_state.specs.World.{Role}
use Rattle.machine_state.specs.Views.{role_view}
use Rattle.machine_state.specs.Roles.{with_role}

with_role_at : (roles : List Role) (p : ℕ) (f : Role → Role) (found : Option Role) → slice_get roles p ≡ found
    → with_role p f roles ≡ elim found as (λ o. List Role) [ None ↦ roles | Some role ↦ slice_set roles p (f role) ]
with_role_at roles p f found h =
    ap (λ (x : Option Role). elim x as (λ o. List Role) [
      | None ↦ roles
      | Some role ↦ slice_set roles p (f role)
    ]) h

pub role_missing : (roles : List kept.Role) (p : ℕ) (f : Role → Role) → slice_get roles p ≡ None
    → map role_view roles ≡ with_role p f (map role_view roles)
role_missing roles p f h =
    sym (with_role_at (map role_view roles) p f None (slice_get-map role_view roles p ∙ ap (option_map role_view) h))

pub role_changed : (roles : List kept.Role) (p : ℕ) (f : Role → Role) (r changed : kept.Role)
    → slice_get roles p ≡ Some r → role_view changed ≡ f (role_view r)
    → map role_view (slice_set roles p changed) ≡ with_role p f (map role_view roles)
role_changed roles p f r changed h e =
    let there : slice_get (map role_view roles) p ≡ Some (role_view r) =
    slice_get-map role_view roles p ∙ ap (option_map role_view) h in
    map-set role_view roles p changed
    ∙ (ap (λ (x : Role). slice_set (map role_view roles) p x) e
    ∙ sym (with_role_at (map role_view roles) p f (Some (role_view r)) there))

-- the same by the place
pub role_changed_at : (roles : List kept.Role) (p : ℕ) (f : Role → Role) (d changed : kept.Role) → p < length roles
    → role_view changed ≡ f (role_view (get_or roles p d))
    → map role_view (slice_set roles p changed) ≡ with_role p f (map role_view roles)
role_changed_at roles p f d changed h e =
    role_changed roles p f (get_or roles p d) changed (slice_get-get_or roles p d h) e

-- to change nothing of a role changes none
pub role_stays : (roles : List kept.Role) (p : ℕ) (d changed : kept.Role) → p < length roles
    → role_view changed ≡ role_view (get_or roles p d)
    → map role_view (slice_set roles p changed) ≡ map role_view roles
role_stays roles p d changed h e =
    role_changed_at roles p (λ (x : Role). x) d changed h e
    ∙ (with_role_at (map role_view roles) p (λ (x : Role). x) (Some (role_view (get_or roles p d))) there
    ∙ set_same (map role_view roles) p (role_view (get_or roles p d)) there)
  where
    there : slice_get (map role_view roles) p ≡ Some (role_view (get_or roles p d))
    there = slice_get-map role_view roles p ∙ ap (option_map role_view) (slice_get-get_or roles p d h)

    set_same : (xs : List Role) (i : ℕ) (x : Role) → slice_get xs i ≡ Some x → slice_set xs i x ≡ xs
    set_same [] i x g = refl
    set_same (y ∷ xs) zero x g = let e : y ≡ x = cc in ap (λ (z : Role). z ∷ xs) (sym e)
    set_same (y ∷ xs) (suc i) x g = ap (λ (zs : List Role). y ∷ zs) (set_same xs i x g)

pub ruleset changes = (role_missing, role_changed)
