-- What a process changes climbs to each opener above it, and leaves what every opener goes on with.
use Rattle.std.proofs.Common.{◌≡◌, ◌≢◌, ◌⊎◌, ℕ, zero, suc, ◌<◌, true, false, inl, inr, List, length, Option, Some, None}
use Rattle.std.proofs.Common.{refl}
use Rattle.std.proofs.Common.{sym, ap, ◌∙◌, subst, arith}
use Rattle.std.proofs.lemmas.Bool.{cases_eq, cases_Bool}
use Rattle.std.specs.Prelude.{slice_get}
use Rattle.small_laws.proofs.Options.{same_some}
use Rattle.module_format.specs.Contents.{Contents}
use Rattle.machine_state.specs.declared.process.Condition.TheVariants.{Ended}
use Rattle.machine_state.specs.declared.process.Task.{Task}
use Rattle.machine_state.specs.Frame.{ChangesOwn}
use Rattle.machine_state.specs.Holding.{Holding, may_read, may_write, nothing}
use Rattle.machine_state.specs.Memory.{Memory, byte_at, place_of}
use Rattle.machine_state.specs.Ownership.{Under, child, deeper, to_write, to_read, in_block, HoldersIn}
use Rattle.machine_state.specs.Roles.{own_in, opener_in, opened_in}
use Rattle.machine_state.specs.Waiting.{Branches, IsGone, IsCounted, is_member}
use Rattle.machine_state.specs.World.{World, Role, Join, held}
use Rattle.machine_state.proofs.Holders.{is_idle, held_write}
use Rattle.rulings.specs.Buffers.{IsByte}
use Rattle.rulings.specs.Regions.{scope_of, KeepsMemory, HoldsNamed}
use Rattle.rulings.proofs.Within.{is_starting}
use Rattle.share_laws.specs.Climbing.{ChangesWithin}
use Rattle.certified_worlds.specs.Point.{Began}
use Rattle.certified_worlds.specs.Lives.{awaits, Lives}
use Rattle.certified_worlds.specs.Pending.{Pending, IsMember}
use Rattle.certified_worlds.specs.Invariant.{Opener, Holds}
use Rattle.certified_worlds.proofs.BehindKeeps.{behind_named}
use Rattle.certified_worlds.proofs.BranchChanges.{scope_began, within_began, has_began, step_within}
use Rattle.certified_worlds.proofs.BranchChanges.{filled_within, climbs}
use Rattle.certified_worlds.proofs.BranchChanges.{member_leaves, pending_elsewhere}

-- ---- which process is under which

no_opener : {opener : ℕ → Option ℕ} {q p : ℕ} → Under opener q p → opener p ≡ None → ⊥
no_opener (child p is) none = let no' = sym is ∙ none in cc
no_opener (deeper p o is above) none = let no' = sym is ∙ none in cc

above_opener : {opener : ℕ → Option ℕ} {q p : ℕ} (o : ℕ) → Under opener q p → opener p ≡ Some o
    → (o ≡ q) ⊎ Under opener q o
above_opener {opener} {q} o (child p is) by = inl (same_some (opener p) o q by is)
above_opener {opener} {q} o (deeper p r is above) by =
    inr (subst (λ (n : ℕ). Under opener q n) (same_some (opener p) r o is by) above)

-- where openers have smaller numbers, a process is under another one or is not
pub under_or_not : (opener : ℕ → Option ℕ) → ((p o : ℕ) → opener p ≡ Some o → o < p) → (q n p : ℕ) → p < n
    → Under opener q p ⊎ (Under opener q p → ⊥)
under_or_not opener rises q zero p low = absurd (omega (arith, low))
under_or_not opener rises q (suc n) p low = on (λ o less. under_or_not opener rises q n o less) (opener p) refl
  where
    on : ((o : ℕ) → o < n → Under opener q o ⊎ (Under opener q o → ⊥)) → (x : Option ℕ) → opener p ≡ x
        → Under opener q p ⊎ (Under opener q p → ⊥)
    on above_it None e = inr (λ u. no_opener u e)
    on above_it (Some o) e = elim (cases_eq o q) [
      | inl same ↦ inl (child p (e ∙ ap Some same))
      | inr differ ↦ elim (above_it o (let less = rises p o e in omega (arith, less, low))) [
        | inl above ↦ inl (deeper p o e above)
        | inr none ↦ inr (λ u. elim (above_opener o u e) [ inl is ↦ differ is | inr above ↦ none above ])
      ]
    ]

-- ---- what changes

-- A process that is not gone has what it began with, and changes something within that.
pub record Changer (m : Contents) (w : World) (all : List Began) (p : ℕ) (new : Memory) : Type 0 where
  pub role : Role
  pub has_role : slice_get w.roles p ≡ Some role
  pub start : Began
  pub has_start : slice_get all p ≡ Some start
  pub live : IsGone w.tasks role p → ⊥
  pub named : HoldsNamed m role.own (scope_began m start) w.memory
  pub within : ChangesWithin m role.own (scope_began m start) w.memory new

pub opener_is : (roles : List Role) (p : ℕ) (role : Role) (o : Option ℕ) → slice_get roles p ≡ Some role
    → opener_in roles p ≡ o → role.opener ≡ o
opener_is roles p role o here is =
    sym (ap (λ (o : Option Role). elim o as (λ o. Option ℕ) [ None ↦ None | Some role ↦ role.opener ]) here) ∙ is

pub own_is : (roles : List Role) (p : ℕ) (role : Role) → slice_get roles p ≡ Some role → own_in roles p ≡ role.own
own_is roles p role here =
    ap (λ (o : Option Role). elim o as (λ o. Holding) [ None ↦ nothing | Some role ↦ role.own ]) here

pub opened_is : (roles : List Role) (p : ℕ) (role : Role) → slice_get roles p ≡ Some role
    → opened_in roles p ≡ role.opened
opened_is roles p role here =
    ap (λ (o : Option Role). elim o as (λ o. Option Join) [ None ↦ None | Some role ↦ role.opened ]) here

-- A process that lives, starts no branches and has none is such a one: by a step, and by what comes to it of a message.
module _ (m : Contents) (w : World) (all : List Began) (p : ℕ) (t : Task) (here : slice_get w.tasks p ≡ Some t)
    (role : Role) (has_role : slice_get w.roles p ≡ Some role) (start : Began)
    (has_start : slice_get all p ≡ Some start) (due : ℕ) (none : role.opened ≡ None) (unended : t.condition ≡ Ended → ⊥)
    (l : Lives m (held role) start w.memory t due) (still : is_starting l.point.state.mode ≡ false) where
  holds_own : held role ≡ role.own
  holds_own = ap (λ (o : Option Join). elim o as (λ o. Holding) [ None ↦ role.own | Some join ↦ join.rest ]) none

  changer : (new : Memory) → ChangesWithin m (held role) (scope_began m start) w.memory new → Changer m w all p new
  changer new within = record {
    role = role;
    has_role = has_role;
    start = start;
    has_start = has_start;
    live = λ gone.
        let same = same_some (slice_get w.tasks p) gone.1.task t gone.1.here here in
        unended (ap (λ (t : Task). t.condition) (sym same) ∙ gone.1.over);
    named = subst (λ (g : Holding). HoldsNamed m g (scope_began m start) w.memory) holds_own (has_began l still);
    within = subst (λ (g : Holding). ChangesWithin m g (scope_began m start) w.memory new) holds_own within;
  }

  pub step_changes : (new : Memory) → ChangesOwn (held role) w.memory new
      → KeepsMemory m (held role) (scope_of m l.point.state.context l.point.act.layout) w.memory new
      → Changer m w all p new
  step_changes new own keeps = changer new (step_within l still new own keeps)

  pub message_changes : (new : Memory) → length new ≡ length w.memory
      → ((place : ℕ) → awaits t.condition place ≡ false → byte_at new place ≡ byte_at w.memory place)
      → ((place : ℕ) → awaits t.condition place ≡ true → (byte_at new place ≡ byte_at w.memory place)
      ⊎ IsByte (byte_at new place))
      → Changer m w all p new
  message_changes new size others come = changer new (filled_within l still new size others come)

-- ---- what openers go on with

module _ (m : Contents) (w : World) (h : Holds m w) (branches : Branches w.tasks w.roles) (new : Memory) where
  -- the opener of a process that is not gone, of which it is a member
  record OpenedBy (o p : ℕ) (c : Changer m w h.began p new) : Type 0 where
    counted : IsCounted w.roles o p
    opener : Opener m w h.began h.dues h.pending_dues h.table o counted.role counted.join
    member : IsMember m opener.after.par opener.after.act.layout c.start

  opened_by : (o p : ℕ) (c : Changer m w h.began p new) → opener_in w.roles p ≡ Some o → OpenedBy o p c
  opened_by o p c is = on (branches.counted p c.role o c.has_role by)
    where
      by : c.role.opener ≡ Some o
      by = opener_is w.roles p c.role (Some o) c.has_role is

      on : IsGone w.tasks c.role p ⊎ IsCounted w.roles o p → OpenedBy o p c
      on (inl gone) = absurd (c.live gone)
      on (inr counted) =
          let opener = h.pending o counted.role counted.join counted.here counted.is_open in
          record {
            counted = counted;
            opener = opener;
            member = opener.members p c.role c.start c.has_role by c.live c.has_start;
          }

  -- what it changes its opener changes
  one_rung : (o p : ℕ) → Changer m w h.began p new → opener_in w.roles p ≡ Some o → Changer m w h.began o new
  one_rung o p c is =
      let b = opened_by o p c is in
      record {
        role = b.counted.role;
        has_role = b.counted.here;
        start = b.opener.start;
        has_start = b.opener.has_start;
        live = λ gone. let no' = sym gone.0 ∙ b.counted.is_open in cc;
        named = behind_named b.opener.pending.behind b.opener.pending.named;
        within = within_began b.opener.pending.behind b.opener.pending.named
            (climbs b.opener.pending b.member c.named new c.within);
      }

  -- So any process above has a branch that makes the change.
  pub climbs_to : (q p : ℕ) → Under (opener_in w.roles) q p → Changer m w h.began p new
      → (d : ℕ) × (opener_in w.roles d ≡ Some q) × Changer m w h.began d new
  climbs_to q p (child a is) c = (a, is, c)
  climbs_to q p (deeper a o is above) c = climbs_to q o above (one_rung o a c is)

  module _ (holders : HoldersIn m w.roles w.channels) (p : ℕ) (c : Changer m w h.began p new) (q : ℕ) (role : Role)
      (j : Join) (here : slice_get w.roles q ≡ Some role) (is : role.opened ≡ Some j) where
    abbrev opener : Opener m w h.began h.dues h.pending_dues h.table q role j
    opener = h.pending q role j here is

    abbrev StillPending : Type 0
    StillPending = Pending m role.own q opener.start h.began new j opener.due opener.after

    is_open : opened_in w.roles q ≡ Some j
    is_open = opened_is w.roles q role here ∙ is

    by_branch : (d : ℕ) → opener_in w.roles d ≡ Some q → Changer m w h.began d new → StillPending
    by_branch d by changer =
        member_leaves opener.pending
        (opener.members d changer.role changer.start changer.has_role
        (opener_is w.roles d changer.role (Some q) changer.has_role by) changer.live changer.has_start)
        changer.named new d (λ same. let low = holders.rises d q by in omega (arith, low, same)) changer.has_start
        is_in changer.within
      where
        is_in : is_member j.members d ≡ true
        is_in =
            let b = opened_by q d changer by in
            let role_is = same_some (slice_get w.roles q) b.counted.role role b.counted.here here in
            let join_is : b.counted.join ≡ j = same_some role.opened b.counted.join j
            (subst (λ (r : Role). r.opened ≡ Some b.counted.join) role_is b.counted.is_open) is in
            subst (λ (j : Join). is_member j.members d ≡ true) join_is b.counted.member

    elsewhere : p ≢ q → (Under (opener_in w.roles) p q → ⊥) → (Under (opener_in w.roles) q p → ⊥) → StillPending
    elsewhere differ above beside = pending_elsewhere opener.pending c.role.own new c.within.own (λ place theirs mine.
        holders.apart p q differ above beside (to_write place)
        (subst (λ (g : Holding). may_write g place ≡ true) (sym (own_is w.roles p c.role c.has_role)) theirs)
        (subst (λ (g : Holding). may_read g place ≡ true) (sym (own_is w.roles q role here)) mine))

    -- it leaves what q goes on with, if it does so where q is under the process
    stays_by : p ≢ q → (Under (opener_in w.roles) p q → StillPending) → StillPending
    stays_by differ beneath = elim (under_or_not (opener_in w.roles) holders.rises q (suc p) p (omega arith)) [
      | inl under ↦ let d = climbs_to q p under c in by_branch d.0 d.1 d.2
      | inr beside ↦ elim (under_or_not (opener_in w.roles) holders.rises p (suc q) q (omega arith)) [
        | inl below ↦ beneath below
        | inr above ↦ elsewhere differ above beside
      ]
    ]

    -- What a process changes that has no join open leaves what every opener goes on with.
    pub openers_stay : opened_in w.roles p ≡ None → StillPending
    openers_stay none = stays_by (λ same. let no' = sym none ∙ (ap (opened_in w.roles) same ∙ is_open) in cc)
        (λ under. absurd (is_idle holders p q (to_write (place_of j.block)) under none
        (holders.kept q (place_of j.block) (in_block j is_open (omega arith, omega arith)))))

    -- And so of the other ones what a process changes that has a join open, of what it has not given.
    pub others_stay : p ≢ q → (mine : Join) → opened_in w.roles p ≡ Some mine → ChangesOwn mine.rest w.memory new
        → StillPending
    others_stay differ mine opened changes = stays_by differ (λ under.
        pending_elsewhere opener.pending mine.rest new changes (λ place written read.
        holders.below p q mine (to_read place) under opened
        (subst (λ (g : Holding). may_read g place ≡ true) (sym (own_is w.roles q role here)) read) written))

  -- A process that has a join open changes what its own scope allows, of what it has not given.
  pub starter_changes : HoldersIn m w.roles w.channels → (o : ℕ) (role : Role) (j : Join)
      (here : slice_get w.roles o ≡ Some role) (is : role.opened ≡ Some j) → ChangesOwn j.rest w.memory new
      → KeepsMemory m role.own (scope_of m (h.pending o role j here is).after.par.context
      (h.pending o role j here is).after.act.layout) w.memory new
      → Changer m w h.began o new
  starter_changes holders o role j here is changes keeps =
      let opener = h.pending o role j here is in
      record {
        role = role;
        has_role = here;
        start = opener.start;
        has_start = opener.has_start;
        live = λ gone. let no' = sym gone.0 ∙ is in cc;
        named = behind_named opener.pending.behind opener.pending.named;
        within = within_began opener.pending.behind opener.pending.named (record {
          own = record {
            size = changes.size;
            others = λ place other. changes.others place (unheld place other (cases_Bool (may_write j.rest place)));
          };
          keeps = keeps;
        });
      }
    where
      unheld : (place : ℕ) → may_write role.own place ≡ false
          → (may_write j.rest place ≡ true) ⊎ (may_write j.rest place ≡ false) → may_write j.rest place ≡ false
      unheld place other (inr free) = free
      unheld place other (inl mine) =
          let held = subst (λ (g : Holding). may_write g place ≡ true) (own_is w.roles o role here)
          (held_write holders o j place (opened_is w.roles o role here ∙ is) mine) in
          let no' : false ≡ true = sym other ∙ held in
          absurd (cc)
