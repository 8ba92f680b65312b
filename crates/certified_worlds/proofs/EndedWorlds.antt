-- The invariant in the world after an end that leaves its join open, whether the opener has ended or a branch.
use Rattle.std.proofs.Common.{◌≡◌, ◌≢◌, ℕ, ◌+◌, ◌≤◌, true, false, List, length, Option, Some, None, refl}
use Rattle.std.proofs.Common.{sym, ap, ◌∙◌, subst, inl, inr, arith}
use Rattle.std.proofs.lemmas.Bool.{cases_eq}
use Rattle.std.proofs.lemmas.List.{length-set}
use Rattle.std.specs.Prelude.{slice_get, slice_set}
use Rattle.small_laws.proofs.Options.{same_some}
use Rattle.module_format.specs.Contents.{Contents, Par}
use Rattle.machine_state.specs.declared.process.Condition.TheVariants.{Ready, Ended}
use Rattle.machine_state.specs.declared.process.Mode.TheVariants.{Plain}
use Rattle.machine_state.specs.declared.process.Task.{Task}
use Rattle.machine_state.specs.EnabledLaws.{Alternates}
use Rattle.machine_state.specs.Holding.{Holding, has_end}
use Rattle.machine_state.specs.Memory.{Memory}
use Rattle.machine_state.specs.Roles.{with_join, without_own}
use Rattle.machine_state.specs.World.{World, Role, Join, Queue, held}
use Rattle.machine_state.proofs.Lines.{got_set, got_other, set_either}
use Rattle.rulings.specs.Meaning.{Layout, Activation}
use Rattle.certified_worlds.specs.Invariant.{AlternatesIn, Process, Table, LengthsAgree, Opener, Holds}
use Rattle.certified_worlds.specs.Lives.{Meets, it_lives, it_stopped, it_ended}
use Rattle.certified_worlds.specs.Pending.{Pending, StartsHere}
use Rattle.certified_worlds.specs.Point.{Began}
use Rattle.certified_worlds.proofs.DuesAreSplit.{end_owes}
use Rattle.certified_worlds.proofs.EndsKeepPars.{join_without, after_without}
use Rattle.certified_worlds.proofs.OrderlyWorlds.{OthersMeet}
use Rattle.certified_worlds.proofs.JoinChanges.{AreMembers}
use Rattle.certified_worlds.proofs.StartedWorlds.{plain_beside}

-- ---- a member has gone

-- a process that is among the starts of a PAR, or has ended after them, still is, whatever has gone from its join
starts_without : {m : Contents} {h : Holding} {start : Began} {memory : Memory} {t : Task} {due : ℕ} (gone : ℕ)
    (meets : Meets m h start memory t due) (par : Par) (j : Join) (act : Activation) → StartsHere meets par j act
    → StartsHere meets par (join_without gone j) act
starts_without gone (it_lives l) par j act s = record {
  ready = s.ready;
  mode = s.mode;
  context = s.context;
  depth = s.depth;
  origin = s.origin;
  starts = s.starts;
  back = s.back;
}
starts_without gone (it_stopped e) par j act s = s
starts_without gone (it_ended e) par j act s = s

-- what a process meets, whatever it holds
record MeetsHolding (m : Contents) (w after : World) (q : ℕ) (start : Began) (u : Task) (due : ℕ)
    (Guards : Type 0) (Starts : Par → Join → Activation → Type 0) (h : Holding) : Type 0 where
  meets : Meets m h start after.memory u due
  guards : Alternates u.mode u.condition → Guards → AlternatesIn after q meets
  starts : (par : Par) (j : Join) (act : Activation) → Starts par j act → StartsHere meets par j act

-- ---- the world after

-- an instruction byte is executed, and these are the tasks and roles
abbrev pub reduced : World → List Task → List Role → Queue → World
reduced w tasks roles queue = record w {
  tasks = tasks;
  roles = roles;
  queue = queue;
  counters = record w.counters { executed = w.counters.executed + 1 };
}

module _ (m : Contents) (w : World) (h : Holds m w) (p : ℕ) (t : Task) (here : slice_get w.tasks p ≡ Some t)
    (o : ℕ) (opener_role : Role) (j : Join) where
  abbrev row : Process m w h.began h.dues p t
  row = h.table.each p t here

  -- What is in the list of roles: the opener's join has lost the process, which has nothing for good if it is a branch;
  -- all others are the same.
  pub data RoleNow (q : ℕ) (now : Role) : Type 0 where
    of_opener : o ≡ q → now ≡ with_join (join_without p j) opener_role → RoleNow q now
    of_branch : p ≡ q → o ≢ q → now ≡ without_own row.role → RoleNow q now
    of_other : o ≢ q → p ≢ q → slice_get w.roles q ≡ Some now → RoleNow q now

  pub record RolesReduced (roles : List Role) : Type 0 where
    pub now : (q : ℕ) (role : Role) → slice_get roles q ≡ Some role → RoleNow q role
    pub opener : slice_get roles o ≡ Some (with_join (join_without p j) opener_role)
    pub branch : o ≢ p → slice_get roles p ≡ Some (without_own row.role)
    pub others : (q : ℕ) (role : Role) → o ≢ q → p ≢ q → slice_get w.roles q ≡ Some role
        → slice_get roles q ≡ Some role

  -- A process ends, and the opener of its join is notified. It has started all branches if it is the opener itself, and
  -- has no join open if it is not. The opener goes on with the same.
  pub record EndShows (u : Task) (roles : List Role) (queue : Queue) : Type 0 where
    pub ended : u.condition ≡ Ended
    pub plain : u.mode ≡ Plain
    pub pays : 1 ≤ row.due
    pub reduces : RolesReduced roles
    pub has_role : slice_get w.roles o ≡ Some opener_role
    pub is_open : opener_role.opened ≡ Some j
    pub unopened : o ≢ p → row.role.opened ≡ None
    pub started : o ≡ p → j.started ≡ length (h.pending o opener_role j has_role is_open).after.par.branches
    pub pending : Pending m opener_role.own o (h.pending o opener_role j has_role is_open).start h.began w.memory
        (join_without p j)
        (h.pending o opener_role j has_role is_open).due
        (after_without p (h.pending o opener_role j has_role is_open).after)
    pub others : OthersMeet m w h p (reduced w (slice_set w.tasks p u) roles queue)

  module _ (ready : t.condition ≡ Ready) (u : Task) (roles : List Role) (queue : Queue)
      (shown : EndShows u roles queue) where
    abbrev after : World
    after = reduced w (slice_set w.tasks p u) roles queue

    abbrev dues_after : List ℕ
    dues_after = slice_set h.dues p 0

    abbrev old_opener : Opener m w h.began h.dues h.pending_dues h.table o opener_role j
    old_opener = h.pending o opener_role j shown.has_role shown.is_open

    -- ---- each process

    record PlacedAfter (q : ℕ) (v : Task) : Type 0 where
      process : Process m after h.began dues_after q v
      ended : p ≡ q → (par : Par) (k : Join) (act : Activation) → k.started ≡ length par.branches
          → StartsHere process.meets par k act
      others : p ≢ q → (par : Par) (k : Join) (act : Activation)
          → ((x : Task) (at : slice_get w.tasks q ≡ Some x) → StartsHere (h.table.each q x at).meets par k act)
          → StartsHere process.meets par k act

    -- what the role of the process is
    record RoleOfEnded : Type 0 where
      role : Role
      has_role : slice_get roles p ≡ Some role
      opener : role.opener ≡ row.role.opener

    role_of_ended : RoleOfEnded
    role_of_ended = elim (cases_eq o p) [
      | inl same ↦
          let own = same_some (slice_get w.roles p) opener_role row.role
          (subst (λ (n : ℕ). slice_get w.roles n ≡ Some opener_role) same shown.has_role) row.has_role in
          record {
            role = with_join (join_without p j) opener_role;
            has_role = subst (λ (n : ℕ). slice_get roles n ≡ Some (with_join (join_without p j) opener_role)) same
                shown.reduces.opener;
            opener = ap (λ (role : Role). role.opener) own;
          }
      | inr differ ↦ record {
        role = without_own row.role;
        has_role = shown.reduces.branch differ;
        opener = refl;
      }
    ]

    placed_ended : PlacedAfter p u
    placed_ended =
        let now = role_of_ended in
        record {
          process = record {
            role = now.role;
            has_role = now.has_role;
            start = row.start;
            has_start = row.has_start;
            due = 0;
            has_due = got_set h.dues p row.due 0 row.has_due;
            root = λ none. row.root (sym now.opener ∙ none);
            meets = it_ended shown.ended;
            alternating = λ alternates. absurd (plain_beside shown.plain alternates);
          };
          ended = λ same par k act started. started;
          others = λ differ par k act starts. absurd (differ refl);
        }

    -- the role of another process, which holds the same
    record RoleOfOther (q : ℕ) (was : Role) : Type 0 where
      role : Role
      has_role : slice_get roles q ≡ Some role
      opener : role.opener ≡ was.opener
      holds : held was ≡ held role

    role_of_other : (q : ℕ) (was : Role) → p ≢ q → slice_get w.roles q ≡ Some was → RoleOfOther q was
    role_of_other q was differ has = elim (cases_eq o q) [
      | inl same ↦
          let own : opener_role ≡ was = same_some (slice_get w.roles q) opener_role was
          (subst (λ (n : ℕ). slice_get w.roles n ≡ Some opener_role) same shown.has_role) has in
          record {
            role = with_join (join_without p j) opener_role;
            has_role = subst (λ (n : ℕ). slice_get roles n ≡ Some (with_join (join_without p j) opener_role)) same
                shown.reduces.opener;
            opener = ap (λ (role : Role). role.opener) own;
            holds = ap held (sym own) ∙ ap (λ (x : Option Join). elim x as (λ x. Holding)
                [ None ↦ opener_role.own | Some join ↦ join.rest ]) shown.is_open;
          }
      | inr other ↦ record {
        role = was;
        has_role = shown.reduces.others q was other differ has;
        opener = refl;
        holds = refl;
      }
    ]

    placed_elsewhere : (q : ℕ) (v : Task) → p ≢ q → slice_get w.tasks q ≡ Some v → PlacedAfter q v
    placed_elsewhere q v differ at =
        let old = h.table.each q v at in
        let still = shown.others q v at differ in
        let now = role_of_other q old.role differ old.has_role in
        let met = subst (λ (g : Holding). MeetsHolding m w after q old.start v old.due (AlternatesIn w q old.meets)
        (λ par k act. StartsHere old.meets par k act) g) now.holds
        (record { meets = still.meets; guards = still.guards; starts = still.starts }) in
        record {
          process = record {
            role = now.role;
            has_role = now.has_role;
            start = old.start;
            has_start = old.has_start;
            due = old.due;
            has_due = got_other h.dues p q 0 differ ∙ old.has_due;
            root = λ none. old.root (sym now.opener ∙ none);
            meets = met.meets;
            alternating = λ alternates. met.guards alternates (old.alternating alternates);
          };
          ended = λ same par k act started. absurd (differ same);
          others = λ other par k act starts. met.starts par k act (starts v at);
        }

    placed_after : (q : ℕ) (v : Task) → slice_get after.tasks q ≡ Some v → PlacedAfter q v
    placed_after q v there = elim (set_either w.tasks p u q v there) [
      | inl set ↦ subst (λ (n : ℕ). PlacedAfter n v) set.0
          (subst (λ (x : Task). PlacedAfter p x) (sym set.1) placed_ended)
      | inr other ↦ placed_elsewhere q v other.0 other.1
    ]

    abbrev table_reduced : Table m after h.began dues_after
    table_reduced = record { each = λ q v there. (placed_after q v there).process }

    -- ---- each opener

    -- what was a member and is not gone is still one
    members_reduced : (q : ℕ) (par : Par) (layout : Layout) → AreMembers m w.tasks w.roles h.began q par layout
        → AreMembers m after.tasks roles h.began q par layout
    members_reduced q par layout old d branch first has by live begun = elim (shown.reduces.now d branch has) [
      | of_opener same is ↦ old d opener_role first
          (subst (λ (n : ℕ). slice_get w.roles n ≡ Some opener_role) same shown.has_role)
          (sym (ap (λ (r : Role). r.opener) is) ∙ by)
          (λ gone. let no' : None ≡ Some j = sym gone.0 ∙ shown.is_open in cc) begun
      | of_branch same differ is ↦ old d row.role first
          (subst (λ (n : ℕ). slice_get w.roles n ≡ Some row.role) same row.has_role)
          (sym (ap (λ (r : Role). r.opener) is) ∙ by)
          (λ gone.
          let mine = same_some (slice_get w.tasks d) gone.1.task t gone.1.here
          (subst (λ (n : ℕ). slice_get w.tasks n ≡ Some t) same here) in
          let no' : Ended ≡ Ready = sym gone.1.over ∙ (ap (λ (x : Task). x.condition) mine ∙ ready) in
          cc) begun
      | of_other aside differ at ↦ old d branch first at by (λ gone. live (
        gone.0,
        record {
          task = gone.1.task;
          here = got_other w.tasks p d u differ ∙ gone.1.here;
          over = gone.1.over;
        },
      )) begun
    ]

    opener_reduced : Opener m after h.began dues_after h.pending_dues table_reduced o
        (with_join (join_without p j) opener_role) (join_without p j)
    opener_reduced = record {
      start = old_opener.start;
      has_start = old_opener.has_start;
      due = old_opener.due;
      has_due = old_opener.has_due;
      after = after_without p old_opener.after;
      pending = shown.pending;
      starter = λ task at. elim (cases_eq p o) [
        | inl same ↦ (placed_after o task at).ended same old_opener.after.par (join_without p j) old_opener.after.act
            (shown.started (sym same))
        | inr differ ↦ starts_without p (placed_after o task at).process.meets old_opener.after.par j
            old_opener.after.act
            ((placed_after o task at).others differ old_opener.after.par j old_opener.after.act old_opener.starter)
      ];
      members = members_reduced o old_opener.after.par old_opener.after.act.layout old_opener.members;
      channels = old_opener.channels;
    }

    opener_elsewhere : (q : ℕ) (role : Role) (k : Join) → p ≢ q → slice_get w.roles q ≡ Some role
        → role.opened ≡ Some k → Opener m after h.began dues_after h.pending_dues table_reduced q role k
    opener_elsewhere q role k differ has is =
        let old = h.pending q role k has is in
        record {
          start = old.start;
          has_start = old.has_start;
          due = old.due;
          has_due = old.has_due;
          after = old.after;
          pending = old.pending;
          starter = λ task at. (placed_after q task at).others differ old.after.par k old.after.act old.starter;
          members = members_reduced q old.after.par old.after.act.layout old.members;
          channels = old.channels;
        }

    openers_reduced : (q : ℕ) (role : Role) (k : Join) → slice_get roles q ≡ Some role → role.opened ≡ Some k
        → Opener m after h.began dues_after h.pending_dues table_reduced q role k
    openers_reduced q role k has is = elim (shown.reduces.now q role has) [
      | of_opener same was ↦
          let opened : Some (join_without p j) ≡ Some k = sym (ap (λ (r : Role). r.opened) was) ∙ is in
          let join_is : join_without p j ≡ k = cc in
          subst (λ (n : ℕ). Opener m after h.began dues_after h.pending_dues table_reduced n role k) same
          (subst (λ (r : Role). Opener m after h.began dues_after h.pending_dues table_reduced o r k) (sym was)
          (subst (λ (x : Join). Opener m after h.began dues_after h.pending_dues table_reduced o
          (with_join (join_without p j) opener_role) x) join_is opener_reduced))
      | of_branch same differ was ↦
          let none = shown.unopened (λ e. differ (e ∙ same)) in
          let no' : None ≡ Some k = sym none ∙ (sym (ap (λ (r : Role). r.opened) was) ∙ is) in
          absurd (cc)
      | of_other aside differ at ↦ opener_elsewhere q role k differ at is
    ]

    -- ---- all of it

    lengths_reduced : LengthsAgree m roles w.channels h.began
    lengths_reduced q role start e has begun ends = elim (shown.reduces.now q role has) [
      | of_opener same is ↦ h.lengths q opener_role start e
          (subst (λ (n : ℕ). slice_get w.roles n ≡ Some opener_role) same shown.has_role) begun
          (sym (ap (λ (r : Role). has_end r.own e) is) ∙ ends)
      | of_branch same differ is ↦
          let no' : false ≡ true = sym (ap (λ (r : Role). has_end r.own e) is) ∙ ends in
          absurd (cc)
      | of_other aside differ at ↦ h.lengths q role start e at begun ends
    ]

    -- So an end keeps the invariant that leaves the join open.
    pub reduced_holds : Holds m after
    reduced_holds =
        let tasks = length-set w.tasks p u in
        let begun = h.counted.begun in
        let owing = h.counted.owing in
        let waiting = h.counted.pending in
        record {
          dues = dues_after;
          pending_dues = h.pending_dues;
          began = h.began;
          counted = record {
            begun = omega (arith, tasks, begun);
            owing = (let same = length-set h.dues p 0 in omega (arith, tasks, owing, same));
            pending = omega (arith, tasks, waiting);
          };
          table = table_reduced;
          pending = openers_reduced;
          lengths = lengths_reduced;
          kept = h.kept;
          owed = (
              let less = end_owes h.dues p row.due row.has_due shown.pays in
              let before = h.owed in
              omega (arith, less, before));
          well = h.well;
        }
