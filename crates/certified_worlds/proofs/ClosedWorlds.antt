-- The invariant in the world in which a join is over: its opener goes on at the label after the PAR.
use Rattle.std.proofs.Common.{Option, ◌≡◌, ◌≢◌, ℕ, true, List, [], length, Some, None, refl}
use Rattle.std.proofs.Common.{sym, ap, ◌∙◌, subst, inl, inr, arith}
use Rattle.std.proofs.lemmas.List.{length-set}
use Rattle.std.specs.Prelude.{slice_get, slice_set}
use Rattle.small_laws.proofs.Options.{same_some}
use Rattle.module_format.specs.Contents.{Contents, Par}
use Rattle.machine_state.specs.declared.holding.End.{End}
use Rattle.machine_state.specs.declared.process.Channel.{Channel}
use Rattle.machine_state.specs.declared.process.Task.{Task}
use Rattle.machine_state.specs.Holding.{Holding, has_end}
use Rattle.machine_state.specs.Joins.{closed, closed_task, on_role, without_channels}
use Rattle.machine_state.specs.Moves.{cell_of}
use Rattle.machine_state.specs.Ownership.{HoldersIn, owner_of}
use Rattle.machine_state.specs.Roles.{own_in, without_join}
use Rattle.machine_state.specs.Waiting.{IsOver}
use Rattle.machine_state.specs.World.{World, Role, Join}
use Rattle.machine_state.proofs.Holders.{outside_is_free}
use Rattle.machine_state.proofs.Lines.{got_set, got_other, set_either}
use Rattle.machine_state.proofs.MovesLeaveAlone.{on_role_is, on_task_is}
use Rattle.machine_state.proofs.Owners.{taken_owner}
use Rattle.machine_state.proofs.WhoWaits.{left_still}
use Rattle.states.specs.State.{label_state}
use Rattle.rulings.specs.Meaning.{Layout, Activation, IsWellFormed}
use Rattle.rulings.specs.Regions.{channel_address}
use Rattle.module_format.specs.declared.rows.EndKind.TheVariants.{FrameWord}
use Rattle.certified_worlds.specs.Certified.{IsCertified}
use Rattle.certified_worlds.specs.Invariant.{Process, Table, LengthAgrees, at_link, at_channel, LengthsAgree, Opener}
use Rattle.certified_worlds.specs.Invariant.{Holds}
use Rattle.certified_worlds.specs.Lives.{it_lives}
use Rattle.certified_worlds.specs.Pending.{StartsHere}
use Rattle.certified_worlds.specs.Point.{Began, Decodes}
use Rattle.certified_worlds.proofs.DuesAreSplit.{total_set}
use Rattle.certified_worlds.proofs.JoinChanges.{AreMembers}
use Rattle.certified_worlds.proofs.JoinedOpeners.{opener_lives}
use Rattle.certified_worlds.proofs.LivesAs.{LivesAs}
use Rattle.certified_worlds.proofs.OrderlyWorlds.{OthersMeet}
use Rattle.certified_worlds.proofs.ParsStay.{own_is}
use Rattle.certified_worlds.proofs.StartedWorlds.{plain_beside}

-- the world in which a join is over that this process has open: it runs
abbrev pub closed_world : World → ℕ → Role → Join → Par → Task → World
closed_world w o role j par t = record w {
  tasks = slice_set w.tasks o (closed_task j par t);
  roles = slice_set w.roles o (without_join role);
  channels = without_channels o w.channels;
  queue = record w.queue { running = Some o };
}

-- so it is where this is the process's role, and this its task
pub closed_is : (o : ℕ) (j : Join) (par : Par) (w : World) (role : Role) (t : Task) → slice_get w.roles o ≡ Some role
    → slice_get w.tasks o ≡ Some t → closed o j par w ≡ closed_world w o role j par t
closed_is o j par w role t has here =
    ap (λ (there : World). record there {
      channels = without_channels o there.channels;
      queue = record there.queue { running = Some o };
    }) (ap (on_role o without_join) (on_task_is o (closed_task j par) w t here)
    ∙ on_role_is o without_join (record w { tasks = slice_set w.tasks o (closed_task j par t) }) role has)

-- An end that any process has once a join is over is of no channel of its opener: holders are in order before and
-- after.
pub outlives : (m : Contents) (roles later : List Role) (cells : List (Option Channel)) (o : ℕ)
    → HoldersIn m roles cells → HoldersIn m later (without_channels o cells) → (q : ℕ) (e : End)
    → has_end (own_in later q) e ≡ true → (c : Channel) → slice_get cells (cell_of e.address) ≡ Some (Some c)
    → c.opener ≢ o
outlives m roles later cells o before now q e has c there same = elim (now.ends q e has) [
  | inl outside ↦ outside_is_free before o e outside (ap owner_of there ∙ ap (λ (n : ℕ). Some n) same)
  | inr lent ↦
      let left = taken_owner o cells (cell_of e.address) lent.0.process lent.0.owned in
      let owner : Some c.opener ≡ Some lent.0.process = sym (ap owner_of there) ∙ left.0 in
      let owner_is : c.opener ≡ lent.0.process = cc in
      left.1 (sym same ∙ owner_is)
]

module _ (m : Contents) (d : Decodes m) (wf : IsWellFormed m) (c : IsCertified m) (w : World) (h : Holds m w) (o : ℕ)
    (role : Role) (j : Join) (has_role : slice_get w.roles o ≡ Some role) (is_open : role.opened ≡ Some j) (par : Par)
    (at_row : slice_get m.pars j.row ≡ Some par) (t : Task) (here : slice_get w.tasks o ≡ Some t) where
  abbrev opener : Opener m w h.began h.dues h.pending_dues h.table o role j
  opener = h.pending o role j has_role is_open

  abbrev row : Process m w h.began h.dues o t
  row = h.table.each o t here

  par_is : opener.after.par ≡ par
  par_is = same_some (slice_get m.pars j.row) opener.after.par par opener.after.row at_row

  abbrev after : World
  after = closed_world w o role j par t

  -- All branches are started, and no process is a member. Holders are in order before and after: the roles before may
  -- be others than those of this world.
  module _ (started : j.started ≡ length par.branches) (none : j.members ≡ []) (roles : List Role)
      (before : HoldersIn m roles w.channels) (now : HoldersIn m after.roles after.channels)
      (stay : OthersMeet m w h o after) where
    abbrev dues_after : List ℕ
    dues_after = slice_set h.dues o opener.due

    abbrev pending_after : List ℕ
    pending_after = slice_set h.pending_dues o 0

    -- ---- each process

    record PlacedThen (q : ℕ) (u : Task) : Type 0 where
      process : Process m after h.began dues_after q u
      others : o ≢ q → (par : Par) (k : Join) (act : Activation)
          → ((v : Task) (at : slice_get w.tasks q ≡ Some v) → StartsHere (h.table.each q v at).meets par k act)
          → StartsHere process.meets par k act

    role_is : row.role ≡ role
    role_is = same_some (slice_get w.roles o) row.role role row.has_role has_role

    start_is : row.start ≡ opener.start
    start_is = same_some (slice_get h.began o) row.start opener.start row.has_start opener.has_start

    -- the opener lives on at the label, and owes what waited for that
    placed_opener : PlacedThen o (closed_task j par t)
    placed_opener = record {
      process = record {
        role = without_join role;
        has_role = got_set w.roles o role (without_join role) has_role;
        start = opener.start;
        has_start = opener.has_start;
        due = opener.due;
        has_due = got_set h.dues o row.due opener.due row.has_due;
        root = λ unopened. ap (λ (b : Began). b.context) (sym start_is)
            ∙ row.root (ap (λ (r : Role). r.opener) role_is ∙ unopened);
        meets = it_lives (subst (λ (row : Par). LivesAs m role.own opener.start w.memory (closed_task j row t)
            opener.due (label_state opener.after.label) opener.after.act) par_is
            (opener_lives m d wf c opener.pending
            (started ∙ ap (λ (row : Par). length row.branches) (sym par_is)) none t)).lives;
        alternating = λ alternates. absurd (plain_beside refl alternates);
      };
      others = λ differ par k act starts. absurd (differ refl);
    }

    placed_apart : (q : ℕ) (u : Task) → o ≢ q → slice_get w.tasks q ≡ Some u → PlacedThen q u
    placed_apart q u differ at =
        let old = h.table.each q u at in
        let still = stay q u at differ in
        record {
          process = record {
            role = old.role;
            has_role = got_other w.roles o q (without_join role) differ ∙ old.has_role;
            start = old.start;
            has_start = old.has_start;
            due = old.due;
            has_due = got_other h.dues o q opener.due differ ∙ old.has_due;
            root = old.root;
            meets = still.meets;
            alternating = λ alternates. still.guards alternates (old.alternating alternates);
          };
          others = λ other par k act starts. still.starts par k act (starts u at);
        }

    placed_then : (q : ℕ) (u : Task) → slice_get after.tasks q ≡ Some u → PlacedThen q u
    placed_then q u there = elim (set_either w.tasks o (closed_task j par t) q u there) [
      | inl set ↦ subst (λ (n : ℕ). PlacedThen n u) set.0
          (subst (λ (x : Task). PlacedThen o x) (sym set.1) placed_opener)
      | inr other ↦ placed_apart q u other.0 other.1
    ]

    abbrev table_closed : Table m after h.began dues_after
    table_closed = record { each = λ q u there. (placed_then q u there).process }

    -- ---- each other opener

    over_still : (d : ℕ) → o ≢ d → IsOver w.tasks d → IsOver after.tasks d
    over_still d differ gone = record {
      task = gone.task;
      here = got_other w.tasks o d (closed_task j par t) differ ∙ gone.here;
      over = gone.over;
    }

    members_closed : (q : ℕ) (par : Par) (layout : Layout) → AreMembers m w.tasks w.roles h.began q par layout
        → AreMembers m after.tasks after.roles h.began q par layout
    members_closed q par layout old d branch first has by live begun =
        elim (set_either w.roles o (without_join role) d branch has) [
          | inl set ↦ old d role first (subst (λ (n : ℕ). slice_get w.roles n ≡ Some role) set.0 has_role)
              (sym (ap (λ (r : Role). r.opener) set.1) ∙ by)
              (λ gone. let no' : None ≡ Some j = sym gone.0 ∙ is_open in cc) begun
          | inr other ↦ old d branch first other.1 by (λ gone. live (gone.0, over_still d other.0 gone.1)) begun
        ]

    opener_apart : (q : ℕ) (other : Role) (k : Join) → o ≢ q → slice_get w.roles q ≡ Some other
        → other.opened ≡ Some k → Opener m after h.began dues_after pending_after table_closed q other k
    opener_apart q other k differ has is =
        let old = h.pending q other k has is in
        record {
          start = old.start;
          has_start = old.has_start;
          due = old.due;
          has_due = got_other h.pending_dues o q 0 differ ∙ old.has_due;
          after = old.after;
          pending = old.pending;
          starter = λ task at. (placed_then q task at).others differ old.after.par k old.after.act old.starter;
          members = members_closed q old.after.par old.after.act.layout old.members;
          channels = λ n channel at.
              let cell = old.channels n channel at in
              let there = left_still o w.channels (cell_of (channel_address old.after.act.layout
              (FrameWord channel.word))) cell.0 cell.1 (λ same. differ (sym same ∙ cell.3)) in
              (cell.0, there, cell.2, cell.3);
        }

    openers_closed : (q : ℕ) (other : Role) (k : Join) → slice_get after.roles q ≡ Some other → other.opened ≡ Some k
        → Opener m after h.began dues_after pending_after table_closed q other k
    openers_closed q other k has is = elim (set_either w.roles o (without_join role) q other has) [
      | inl set ↦
          let no' : None ≡ Some k = sym (ap (λ (r : Role). r.opened) set.1) ∙ is in
          absurd (cc)
      | inr elsewhere ↦ opener_apart q other k elsewhere.0 elsewhere.1 is
    ]

    -- ---- lengths

    -- an end that any process has is of a link or of a channel that is still there
    agrees_now : (q : ℕ) (e : End) (start : Began) → has_end (own_in after.roles q) e ≡ true
        → LengthAgrees m w.channels start e → LengthAgrees m after.channels start e
    agrees_now q e start has (at_link k few is len) = at_link k few is len
    agrees_now q e start has (at_channel channel there len) = at_channel channel
        (left_still o w.channels (cell_of e.address) channel there
        (outlives m roles after.roles w.channels o before now q e has channel there)) len

    lengths_closed : LengthsAgree m after.roles after.channels h.began
    lengths_closed q other start e has begun ends =
        agrees_now q e start (ap (λ (g : Holding). has_end g e) (own_is after.roles q other has) ∙ ends)
        (elim (set_either w.roles o (without_join role) q other has) [
          | inl set ↦ h.lengths q role start e (subst (λ (n : ℕ). slice_get w.roles n ≡ Some role) set.0 has_role) begun
              (sym (ap (λ (r : Role). has_end r.own e) set.1) ∙ ends)
          | inr elsewhere ↦ h.lengths q other start e elsewhere.1 begun ends
        ])

    -- So the last end keeps the invariant.
    pub closed_holds : Holds m after
    closed_holds =
        let tasks = length-set w.tasks o (closed_task j par t) in
        record {
          dues = dues_after;
          pending_dues = pending_after;
          began = h.began;
          counted = record {
            begun = omega (arith, tasks, h.counted.begun);
            owing = omega (arith, tasks, h.counted.owing, length-set h.dues o opener.due);
            pending = omega (arith, tasks, h.counted.pending, length-set h.pending_dues o 0);
          };
          table = table_closed;
          pending = openers_closed;
          lengths = lengths_closed;
          kept = h.kept;
          owed = (
              let more = total_set h.dues o row.due opener.due row.has_due in
              let less = total_set h.pending_dues o opener.due 0 opener.has_due in
              let before = h.owed in
              omega (arith, more, less, before));
          well = h.well;
        }
