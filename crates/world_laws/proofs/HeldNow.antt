-- What two processes may write, and where it lies.
use Rattle.std.proofs.Common.{◌≡◌, ◌≢◌, ℕ, ◌*◌, ◌<◌, true, List, Option, Some, None, refl, sym, ◌∙◌, subst, slice_get}
use Rattle.module_format.specs.Contents.{Contents}
use Rattle.machine_state.specs.declared.process.Channel.{Channel}
use Rattle.machine_state.specs.Apart.{AllApart}
use Rattle.machine_state.specs.Happens.{world_after}
use Rattle.machine_state.specs.Holding.{Holding, nothing, may_write}
use Rattle.machine_state.specs.Ownership.{HoldersIn}
use Rattle.machine_state.specs.Roles.{own_in, opened_in}
use Rattle.machine_state.specs.World.{Role, Join, held, holding_at}
use Rattle.machine_state.proofs.ApartLaws.{all_stand, format_is_small}
use Rattle.machine_state.proofs.Claims.{written_is_read}
use Rattle.machine_state.proofs.Holders.{held_write}
use Rattle.machine_state.proofs.Roles.{field_at}
use Rattle.world_laws.specs.InsideMemory.{WrittenIsData}

-- a place that one process may write is no other's to write
pub apart_at : (roles : List Role) (channels : List (Option Channel)) → AllApart roles channels → (p q x : ℕ) → p ≢ q
    → may_write (holding_at roles p) x ≡ true → may_write (holding_at roles q) x ≡ true → ⊥
apart_at roles channels apart p q x differ = on (slice_get roles p) (slice_get roles q) refl refl
  where
    on : (a b : Option Role) → slice_get roles p ≡ a → slice_get roles q ≡ b
        → may_write (elim a as (λ o. Holding) [ None ↦ nothing | Some role ↦ held role ]) x ≡ true
        → may_write (elim b as (λ o. Holding) [ None ↦ nothing | Some role ↦ held role ]) x ≡ true → ⊥
    on None b here there mine other = cc
    on (Some r) None here there mine other = cc
    on (Some r) (Some s) here there mine other =
        (apart.processes p q r s differ here there).written x mine (written_is_read (held s) x other)

-- what is written is data
pub written_is_data : (m : Contents) (roles : List Role) (channels : List (Option Channel))
    → HoldersIn m roles channels → (p x : ℕ) → may_write (holding_at roles p) x ≡ true → x < 4 * m.data_words
written_is_data m roles channels t p x = on (slice_get roles p) refl
  where
    of_role : (r : Role) → slice_get roles p ≡ Some r → (o : Option Join) → r.opened ≡ o
        → may_write (elim o as (λ o. Holding) [ None ↦ r.own | Some join ↦ join.rest ]) x ≡ true
        → x < 4 * m.data_words
    of_role r here None is own = t.inside p x
        (subst (λ (g : Holding). may_write g x ≡ true) (sym (field_at (λ (r : Role). r.own) nothing roles p r here))
        own)
    of_role r here (Some j) is own = t.inside p x
        (held_write t p j x (field_at (λ (r : Role). r.opened) None roles p r here ∙ is) own)

    on : (o : Option Role) → slice_get roles p ≡ o
        → may_write (elim o as (λ o. Holding) [ None ↦ nothing | Some role ↦ held role ]) x ≡ true
        → x < 4 * m.data_words
    on None here own = absurd (cc)
    on (Some r) here own = of_role r here r.opened refl own

-- what a process holds now, by what it has for good and by its open join
pub now_is : (roles : List Role) (q : ℕ) → elim (opened_in roles q) as (λ o. Holding)
    [ None ↦ own_in roles q | Some join ↦ join.rest ] ≡ holding_at roles q
now_is roles q = on (slice_get roles q)
  where
    on : (o : Option Role) → elim (elim o as (λ o. Option Join) [ None ↦ None | Some role ↦ role.opened ])
        as (λ o. Holding) [
          | None ↦ elim o as (λ o. Holding) [ None ↦ nothing | Some role ↦ role.own ]
          | Some join ↦ join.rest
        ] ≡ elim o as (λ o. Holding) [ None ↦ nothing | Some role ↦ held role ]
    on None = refl
    on (Some r) = refl

pub all_written_is_data : WrittenIsData
all_written_is_data m es p x format own =
    let w = world_after m es in
    written_is_data m w.roles w.channels (all_stand m (format_is_small m format) es).holders p x own
