-- A member leaves its join, as the definitions have it and as it is done.
use Rattle.std.proofs.Common.{◌≡◌, ℕ, zero, suc, Bool, true, false, cond, List, [], ◌∷◌, length, Option, Some, None}
use Rattle.std.proofs.Common.{Err, refl, sym, ap, ◌∙◌, ◌&&◌, not, arith}
use Rattle.std.specs.Prelude.{◌==◌, slice_get, slice_set}
use Rattle.std.proofs.lemmas.Bool.{ne_eqb, cond-true, cond-false}
use Rattle.std.specs.List.{list_all}
use Rattle.std.specs.Option.{option_map}
use Rattle.machine_state.specs.World.{World, Role, Join}
use Rattle.module_format.specs.Contents.{Par}
use Rattle.machine_state.specs.declared.fault.Fault.{Fault}
use Rattle.machine_state.specs.declared.fault.FaultKind.TheVariants.{JoinOrder}
use Rattle.machine_state.specs.Faults.{fault_in}
use Rattle.machine_state.specs.Moves.{counted, faulty}
use Rattle.machine_state.specs.Site.{Local}
use Rattle.machine_state.specs.Turn.{Here, Turn, answered, failed, ran}
use Rattle.machine_state.specs.Joins.{on_role, on_row, own_end, branch_end, member_joined, closed, ended, given_back}
use Rattle.machine_state.specs.JoinLookups.{opened_by}
use Rattle.machine_state.specs.Roles.{members_without, without_member, without_own}

-- no member is left where all that are there leave
pub nobody_left : (p : ℕ) (members : List ℕ) → list_all (λ q. q == p) members
    ≡ (length (members_without p members) == 0)
nobody_left p [] = refl
nobody_left p (q ∷ members) = on (nobody_left p members) (q == p)
  where
    on : list_all (λ q. q == p) members ≡ (length (members_without p members) == 0) → (b : Bool)
        → (b && list_all (λ q. q == p) members)
        ≡ (length (cond (not b) (q ∷ members_without p members) (members_without p members)) == 0)
    on rest true = rest
    on rest false = sym (ne_eqb (length (q ∷ members_without p members)) 0 (λ e. omega (arith, e)))

-- ---- roles

abbrev opened_in : Option Role → Option Join
opened_in None = None
opened_in (Some role) = role.opened

-- what becomes of the join that is open becomes of this one, if this is it
pub on_opened : (w : World) (p : ℕ) (join : Join) (g : Join → Join) → opened_by w p ≡ Some join
    → on_role p (λ role. record role { opened = option_map g role.opened }) w
    ≡ on_role p (λ role. record role { opened = Some (g join) }) w
on_opened w p join g h = on (slice_get w.roles p) h
  where
    on : (found : Option Role) → elim found [ None ↦ None | Some role ↦ role.opened ] ≡ Some join
        → elim found as (λ o. World) [
          | None ↦ w
          | Some role ↦ record w {
            roles = slice_set w.roles p (record role { opened = option_map g role.opened });
          }
        ] ≡ elim found as (λ o. World) [
          | None ↦ w
          | Some role ↦ record w { roles = slice_set w.roles p (record role { opened = Some (g join) }) }
        ]
    on None h = refl
    on (Some role) h =
        ap (λ (o : Option Join). let r : Role = record role { opened = option_map g o } in
        let v : World = record w { roles = slice_set w.roles p r } in v) h

-- what leaves a join leaves the one that is open
pub leaves : (w : World) (opener p : ℕ) (join : Join) → opened_by w opener ≡ Some join
    → on_role opener (without_member p) w
    ≡ on_role opener (λ role. record role { opened = Some (record join { members = members_without p join.members }) })
    w
leaves w opener p join h =
    on_opened w opener join (λ j. record j { members = members_without p j.members }) h

-- to give back what is its own opens and closes nothing
kept_open : (roles : List Role) (p o : ℕ) (role : Role) → slice_get roles p ≡ Some role
    → opened_in (slice_get (slice_set roles p (without_own role)) o) ≡ opened_in (slice_get roles o)
kept_open [] p o role h = refl
kept_open (r ∷ roles) zero zero role h =
    let same : r ≡ role = cc in ap (λ (x : Role). x.opened) (sym same)
kept_open (r ∷ roles) zero (suc o) role h = refl
kept_open (r ∷ roles) (suc p) zero role h = refl
kept_open (r ∷ roles) (suc p) (suc o) role h = kept_open roles p o role h

pub still_open : (w : World) (p o : ℕ) → opened_by (on_role p without_own w) o ≡ opened_by w o
still_open w p o = on (slice_get w.roles p) refl
  where
    on : (found : Option Role) → slice_get w.roles p ≡ found → opened_by (elim found as (λ f. World) [
      | None ↦ w
      | Some role ↦ record w { roles = slice_set w.roles p (without_own role) }
    ]) o ≡ opened_by w o
    on None e = refl
    on (Some role) e = kept_open w.roles p o role e

-- ---- a member ends

module _ (h : Here) (w : World) where
  -- the last member to leave ends the join
  pub closes : (opener : ℕ) (join : Join) (par : Par) (v after : World) → opened_by w opener ≡ Some join
      → v ≡ on_role opener (without_member h.process) w
      → (length (members_without h.process join.members) == 0) ≡ true → after ≡ closed opener join par v
      → after ≡ member_joined h opener join par w
  closes opener join par v after opened left last is =
      is ∙ (ap (closed opener join par) (left ∙ leaves w opener h.process join opened) ∙ sym (cond-true _ _ _ last))

  on_row_is : (join : Join) (k : Par → Turn) (found : Option Par) → slice_get h.contents.pars join.row ≡ found
      → on_row h join w k ≡ elim found as (λ o. Turn) [ None ↦ failed h JoinOrder w | Some par ↦ k par ]
  on_row_is join k found e =
      ap (λ (o : Option Par). elim o as (λ o. Turn) [ None ↦ failed h JoinOrder w | Some par ↦ k par ]) e

  -- an end that is at fault
  fault_is : (turn : Turn) (fault : Fault) → turn ≡ failed h JoinOrder w
      → fault ≡ fault_in h.process h.from.registers.began JoinOrder
      → turn ≡ record { world = faulty fault w; answer = Err fault }
  fault_is turn fault e is =
      e ∙ ap (λ (f : Fault). let t : Turn = record { world = faulty f w; answer = Err f } in t) (sym is)

  module _ (join : Join) (block : ℕ) (l : Local) where
    pub own_missing : (fault : Fault) → slice_get h.contents.pars join.row ≡ None
        → fault ≡ fault_in h.process h.from.registers.began JoinOrder
        → own_end h join block l w ≡ record { world = faulty fault w; answer = Err fault }
    own_missing fault row is = fault_is _ fault (on_row_is join _ None row) is

    pub own_early : (fault : Fault) (par : Par) → slice_get h.contents.pars join.row ≡ Some par
        → ((join.block == block) && (join.started == length par.branches)) ≡ false
        → fault ≡ fault_in h.process h.from.registers.began JoinOrder
        → own_end h join block l w ≡ record { world = faulty fault w; answer = Err fault }
    own_early fault par row test is =
        fault_is _ fault (on_row_is join _ (Some par) row ∙ cond-false _ _ _ test) is

    pub own_done : (par : Par) (after : World) → slice_get h.contents.pars join.row ≡ Some par
        → ((join.block == block) && (join.started == length par.branches)) ≡ true
        → after ≡ member_joined h h.process join par (ended h l w)
        → own_end h join block l w ≡ answered ran (counted after)
    own_done par after row test is =
        on_row_is join _ (Some par) row
        ∙ (cond-true _ _ _ test ∙ ap (λ (v : World). answered ran (counted v)) (sym is))

    pub branch_missing : (opener : ℕ) (fault : Fault) → slice_get h.contents.pars join.row ≡ None
        → fault ≡ fault_in h.process h.from.registers.began JoinOrder
        → branch_end h opener join block l w ≡ record { world = faulty fault w; answer = Err fault }
    branch_missing opener fault row is = fault_is _ fault (on_row_is join _ None row) is

    pub branch_elsewhere : (opener : ℕ) (fault : Fault) (par : Par) → slice_get h.contents.pars join.row ≡ Some par
        → (join.block == block) ≡ false → fault ≡ fault_in h.process h.from.registers.began JoinOrder
        → branch_end h opener join block l w ≡ record { world = faulty fault w; answer = Err fault }
    branch_elsewhere opener fault par row test is =
        fault_is _ fault (on_row_is join _ (Some par) row ∙ cond-false _ _ _ test) is

    pub branch_done : (opener : ℕ) (par : Par) (after : World) → slice_get h.contents.pars join.row ≡ Some par
        → (join.block == block) ≡ true → after ≡ member_joined h opener join par (given_back h (ended h l w))
        → branch_end h opener join block l w ≡ answered ran (counted after)
    branch_done opener par after row test is =
        on_row_is join _ (Some par) row
        ∙ (cond-true _ _ _ test ∙ ap (λ (v : World). answered ran (counted v)) (sym is))
