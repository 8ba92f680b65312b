-- How what there is is shared out in a world: no two processes hold the same, holders are in order, a join counts its
-- branches that are not over, a process that has one open starts branches or is over, and each process is calm.
use Rattle.std.proofs.Common.{◌≡◌, ◌≢◌, ◌⊎◌, ℕ, ◌*◌, inl, inr, List, Option, Some, None, refl, sym, ap, ◌∙◌, subst}
use Rattle.std.specs.Prelude.{slice_get, slice_set}
use Rattle.small_laws.proofs.Options.{same_some}
use std.Path.{fun_ext}
use Rattle.module_format.specs.Contents.{Contents}
use Rattle.machine_state.specs.declared.process.Channel.{Channel}
use Rattle.machine_state.specs.declared.process.Condition.TheVariants.{Ready, Ended}
use Rattle.machine_state.specs.declared.process.Mode.TheVariants as modes
use Rattle.machine_state.specs.declared.process.Task.{Task}
use Rattle.machine_state.specs.Holding.{Holding, IsApart}
use Rattle.machine_state.specs.Ownership.{Holders, HoldersIn, owner_in}
use Rattle.machine_state.specs.Roles.{own_in, opener_in, opened_in}
use Rattle.machine_state.specs.Waiting.{Branches, HasOpened, IsOver, IsStarting, Starters}
use Rattle.machine_state.specs.World.{World, Role, Join, held}
use Rattle.machine_state.proofs.Lines.{got_other, set_either}
use Rattle.certified_worlds.proofs.ParsStay.{opened_is}
use Rattle.verifier.proofs.CalmWorlds.{AllCalm, IsCalm, set_calm}
use Rattle.verifier.proofs.LawfulWorlds.{IsLawful}

-- no two processes hold the same
abbrev pub AreApart : List Role → Type 0
AreApart roles = (p q : ℕ) (r s : Role) → p ≢ q → slice_get roles p ≡ Some r → slice_get roles q ≡ Some s
    → IsApart (held r) (held s)

-- a process that has a join open starts branches, or has done its own endp
abbrev pub OpenersStart : List Task → List Role → Type 0
OpenersStart tasks roles = (p : ℕ) → HasOpened roles p → IsStarting tasks p ⊎ IsOver tasks p

pub record IsSharedOut (m : Contents) (w : World) : Type 0 where
  pub apart : AreApart w.roles
  pub holders : HoldersIn m w.roles w.channels
  pub branches : Branches w.tasks w.roles
  pub starters : Starters w.tasks w.roles
  pub calm : AllCalm w.tasks

-- so it is in each world that events lead to
pub shared_out : {m : Contents} {w : World} → IsLawful m w → IsSharedOut m w
shared_out lawful = record {
  apart = lawful.apart.processes;
  holders = lawful.stands.holders;
  branches = lawful.branches;
  starters = lawful.starters;
  calm = lawful.calm;
}

-- A process that neither starts branches nor is over has no join open.
pub none_open : {tasks : List Task} {roles : List Role} → OpenersStart tasks roles → (p : ℕ) (t : Task)
    → slice_get tasks p ≡ Some t → (t.condition ≡ Ended → ⊥) → (t.mode ≡ modes.Starting → t.condition ≡ Ready → ⊥)
    → opened_in roles p ≡ None
none_open {tasks} {roles} openers p t here going unstarted = on (slice_get roles p) refl
  where
    none : (role : Role) → slice_get roles p ≡ Some role → (o : Option Join) → role.opened ≡ o → o ≡ None
    none role there None is = refl
    none role there (Some join) is =
        absurd (elim (openers p (record { role = role; here = there; join = join; is_open = is })) [
          | inl starting ↦
              let one = same_some (slice_get tasks p) starting.task t starting.here here in
              unstarted (ap (λ (u : Task). u.mode) (sym one) ∙ starting.starting)
              (ap (λ (u : Task). u.condition) (sym one) ∙ starting.ready)
          | inr over ↦
              let one = same_some (slice_get tasks p) over.task t over.here here in
              going (ap (λ (u : Task). u.condition) (sym one) ∙ over.over)
        ])

    on : (o : Option Role) → slice_get roles p ≡ o
        → elim o as (λ o. Option Join) [ None ↦ None | Some role ↦ role.opened ] ≡ None
    on None here = refl
    on (Some role) here = none role here role.opened refl

-- a process that has none open starts none
pub never_starting : {tasks : List Task} {roles : List Role} → Starters tasks roles → (p : ℕ) (t : Task)
    → slice_get tasks p ≡ Some t → opened_in roles p ≡ None → t.mode ≡ modes.Starting → ⊥
never_starting {roles = roles} starters p t here none starting =
    let opened = starters.starters p t here starting in
    let no' : None ≡ Some opened.join =
    sym none ∙ (opened_is roles p opened.role opened.here ∙ opened.is_open) in
    cc

-- and holds now what it has for good
pub holds_own : (roles : List Role) (p : ℕ) (role : Role) → slice_get roles p ≡ Some role
    → opened_in roles p ≡ None → held role ≡ role.own
holds_own roles p role here none =
    ap (λ (o : Option Join). elim o as (λ o. Holding) [ None ↦ role.own | Some join ↦ join.rest ])
    (sym (opened_is roles p role here) ∙ none)

-- ---- once a process has changed that has no join open and was not over

module _ (tasks : List Task) (roles : List Role) (p : ℕ) (t u : Task) (here : slice_get tasks p ≡ Some t)
    (going : t.condition ≡ Ended → ⊥) where
  -- a process that was over still is
  pub over_still : (q : ℕ) → IsOver tasks q → IsOver (slice_set tasks p u) q
  over_still q over = record {
    task = over.task;
    here = got_other tasks p q u (λ same. going (ap (λ (x : Task). x.condition)
        (same_some (slice_get tasks q) t over.task (subst (λ n. slice_get tasks n ≡ Some t) same here) over.here)
        ∙ over.over)) ∙ over.here;
    over = over.over;
  }

  branches_still : Branches tasks roles → Branches (slice_set tasks p u) roles
  branches_still branches = record {
    joins = λ q r j there is. elim (branches.joins q r j there is) [
      | inl member ↦ inl member
      | inr over ↦ inr (over_still q over)
    ];
    counted = λ q r o there is. elim (branches.counted q r o there is) [
      | inl gone ↦ inl (gone.0, over_still q gone.1)
      | inr counted ↦ inr counted
    ];
  }

  starters_still : opened_in roles p ≡ None → (u.mode ≡ modes.Starting → ⊥) → Starters tasks roles
      → Starters (slice_set tasks p u) roles
  starters_still none unstarted starters = record {
    openers = λ q opened. elim (starters.openers q opened) [
      | inl starting ↦ inl (record {
        task = starting.task;
        here = got_other tasks p q u (differ q opened) ∙ starting.here;
        starting = starting.starting;
        ready = starting.ready;
      })
      | inr over ↦ inr (over_still q over)
    ];
    starters = λ q v there starting. elim (set_either tasks p u q v there) [
      | inl itself ↦ absurd (unstarted (ap (λ (x : Task). x.mode) (sym itself.1) ∙ starting))
      | inr other ↦ starters.starters q v other.1 starting
    ];
  }
    where
      differ : (q : ℕ) → HasOpened roles q → p ≢ q
      differ q opened same =
          let no' : None ≡ Some opened.join = sym none ∙ (ap (opened_in roles) same
          ∙ (opened_is roles q opened.role opened.here ∙ opened.is_open)) in
          cc

-- holders are in order where each channel has the opener that it had
pub holders_still : (m : Contents) (roles : List Role) (old new : List (Option Channel))
    → ((k : ℕ) → owner_in new k ≡ owner_in old k) → HoldersIn m roles old → HoldersIn m roles new
holders_still m roles old new same holders =
    subst (λ (owner : ℕ → Option ℕ). Holders (4 * m.data_words) m.pars (own_in roles) (opener_in roles)
    (opened_in roles) owner) (fun_ext (λ k. sym (same k))) holders

-- What there is is shared out as before.
pub shared_still : {m : Contents} (w after : World) (p : ℕ) (t u : Task) → slice_get w.tasks p ≡ Some t
    → (t.condition ≡ Ended → ⊥) → (u.mode ≡ modes.Starting → ⊥) → IsCalm u → opened_in w.roles p ≡ None
    → after.tasks ≡ slice_set w.tasks p u
    → after.roles ≡ w.roles → ((k : ℕ) → owner_in after.channels k ≡ owner_in w.channels k)
    → IsSharedOut m w → IsSharedOut m after
shared_still {m} w after p t u here going unstarted calm none tasks roles owners out = record {
  apart = rw roles out.apart;
  holders = rw roles (holders_still m w.roles w.channels after.channels owners out.holders);
  branches = rw (tasks, roles) (branches_still w.tasks w.roles p t u here going out.branches);
  starters = rw (tasks, roles) (starters_still w.tasks w.roles p t u here going none unstarted out.starters);
  calm = rw tasks (set_calm w.tasks p u calm out.calm);
}

-- So it is where nothing of this has changed.
pub shared_aside : {m : Contents} (w after : World) → after.tasks ≡ w.tasks → after.roles ≡ w.roles
    → after.channels ≡ w.channels → IsSharedOut m w → IsSharedOut m after
shared_aside {m} w after tasks roles channels out = record {
  apart = rw roles out.apart;
  holders = rw (roles, channels) out.holders;
  branches = rw (tasks, roles) out.branches;
  starters = rw (tasks, roles) out.starters;
  calm = rw tasks out.calm;
}
