-- Roles by process number: what they say of a process, and how joins change one of them.
use Rattle.std.specs.Prelude.{Option, ℕ, ◌==◌, not, List, [], ◌∷◌, ◌++◌, filter, Some, None, slice_get, slice_set}
use Rattle.std.specs.Option.{option_map}
use Rattle.machine_state.specs.Holding.{Holding, nothing}
use Rattle.machine_state.specs.World.{Role, Join}

-- what a process has for good, the opener of the join that it is in, and the join that it has open
abbrev pub own_in : List Role → ℕ → Holding
own_in roles p = elim (slice_get roles p) as (λ o. Holding) [ None ↦ nothing | Some role ↦ role.own ]

abbrev pub opener_in : List Role → ℕ → Option ℕ
opener_in roles p = elim (slice_get roles p) as (λ o. Option ℕ) [ None ↦ None | Some role ↦ role.opener ]

abbrev pub opened_in : List Role → ℕ → Option Join
opened_in roles p = elim (slice_get roles p) as (λ o. Option Join) [ None ↦ None | Some role ↦ role.opened ]

-- the role of the process of this number, if there is one, becomes what this makes of it
abbrev pub with_role : ℕ → (Role → Role) → List Role → List Role
with_role p f roles = elim (slice_get roles p) [ None ↦ roles | Some role ↦ slice_set roles p (f role) ]

-- the members but for the process of this number
abbrev pub members_without : ℕ → List ℕ → List ℕ
members_without p members = filter (λ q. not (q == p)) members

-- a process has left the join that is open
abbrev pub without_member : ℕ → Role → Role
without_member p role = record role {
  opened = option_map (λ (join : Join). record join { members = members_without p join.members }) role.opened;
}

-- the join that was open is over
abbrev pub without_join : Role → Role
without_join role = record role { opened = None }

-- nothing is its own any more
abbrev pub without_own : Role → Role
without_own role = record role { own = nothing }

-- it has this join open
abbrev pub with_join : Join → Role → Role
with_join join role = record role { opened = Some join }

-- what a start changes of the open join, besides its members: where the block lies, how many branches are started, and
-- what is left to give
pub record Progress : Type 0 where
  pub block : ℕ
  pub started : ℕ
  pub rest : Holding

-- there is one more member
abbrev pub advanced : Progress → ℕ → Join → Join
advanced to member join = record join {
  block = to.block;
  started = to.started;
  rest = to.rest;
  members = join.members ++ member ∷ [];
}

abbrev pub with_branch : Progress → ℕ → Role → Role
with_branch to member role = record role { opened = option_map (advanced to member) role.opened }

-- a branch of the join that this process has open, which holds this
abbrev pub branch_role : ℕ → Holding → Role
branch_role opener own = record { own = own; opener = Some opener; opened = None }
