-- The invariant in the world after a start, the first one of a PAR or a later one, by what the start has to show.
use Rattle.std.proofs.Common.{◌≡◌, ◌≢◌, ℕ, ◌+◌, ◌≤◌, ◌<◌, true, inl, inr, List, [], ◌∷◌, ◌++◌, length, Option}
use Rattle.std.proofs.Common.{Some, None}
use Rattle.std.proofs.Common.{ℤ, refl, sym, ap, ◌∙◌, subst, arith, length-append}
use Rattle.std.proofs.lemmas.Option.{slice_get_within}
use Rattle.std.specs.Prelude.{slice_get, slice_set}
use Rattle.small_laws.proofs.Options.{same_some}
use Rattle.small_laws.proofs.Lookups.{slice_get-append_left}
use Rattle.module_format.specs.declared.rows.ChannelRow.{ChannelRow}
use Rattle.module_format.specs.declared.rows.EndKind.TheVariants.{FrameWord}
use Rattle.module_format.specs.Contents.{Contents, Par}
use Rattle.machine_state.specs.declared.holding.End.{End}
use Rattle.machine_state.specs.declared.process.Channel.{Channel}
use Rattle.machine_state.specs.declared.process.Condition.{Condition}
use Rattle.machine_state.specs.declared.process.Condition.TheVariants.{Ready, Ended}
use Rattle.machine_state.specs.declared.process.Mode.{Mode}
use Rattle.machine_state.specs.declared.process.Mode.TheVariants.{Plain, Enabling, Disabling, Starting}
use Rattle.machine_state.specs.declared.process.Task.{Task}
use Rattle.machine_state.specs.EnabledLaws.{Alternates}
use Rattle.machine_state.specs.Holding.{Holding, has_end}
use Rattle.machine_state.specs.BranchShares.{holding_of}
use Rattle.machine_state.specs.Happens.{between}
use Rattle.machine_state.specs.JoinLookups.{Found}
use Rattle.machine_state.specs.Joins.{without_words, new_task, join_after, started}
use Rattle.machine_state.specs.Memory.{Memory}
use Rattle.machine_state.specs.Moves.{cell_of, counted, put, enqueue}
use Rattle.machine_state.specs.Roles.{with_join, branch_role}
use Rattle.machine_state.specs.Site.{Local}
use Rattle.machine_state.specs.StartPlans.{Plan, scheduling_addresses, share_by}
use Rattle.machine_state.specs.Turn.{Here}
use Rattle.machine_state.specs.Waiting.{IsGone}
use Rattle.machine_state.specs.World.{World, Role, Join, Queue}
use Rattle.machine_state.proofs.MovesLeaveAlone.{on_role_is}
use Rattle.rulings.specs.Meaning.{Layout, Activation}
use Rattle.rulings.specs.Regions.{channel_address}
use Rattle.certified_worlds.specs.Invariant.{Process, Table, LengthAgrees, at_link, at_channel}
use Rattle.certified_worlds.specs.Invariant.{LengthsAgree, Opener, Holds}
use Rattle.certified_worlds.specs.Lives.{Meets}
use Rattle.certified_worlds.specs.Pending.{AfterPar, IsOut, Pending, IsMember, StartsHere}
use Rattle.certified_worlds.specs.Point.{Began}
use Rattle.certified_worlds.proofs.DuesAreSplit.{start_owes}
use Rattle.certified_worlds.proofs.GrownLists.{got_end, got_within_grown, length_changed, got_changed, got_added}
use Rattle.certified_worlds.proofs.GrownLists.{got_unchanged, as_set, as_added, as_before, stands_as}
use Rattle.certified_worlds.proofs.JoinChanges.{AreMembers, member_as, out_as}
use Rattle.certified_worlds.proofs.OrderlyWorlds.{OthersMeet, KeepsChannels}

-- ---- the world after a start

-- What a start makes of a world: how the process goes on and what join it has open; the branch, what it holds and what
-- it began with; memory, channels and the queue; and what the process owes still, what the branch owes, and what waits
-- for the PAR.
pub record Beginning : Type 0 where
  pub task : Task
  pub join : Join
  pub child : Task
  pub own : Holding
  pub began : Began
  pub memory : Memory
  pub channels : List (Option Channel)
  pub queue : Queue
  pub left : ℕ
  pub owing : ℕ
  pub waiting : ℕ

-- an instruction byte is executed, and there is one process more
abbrev pub begotten : World → ℕ → Role → Beginning → World
begotten w p role s = record w {
  memory = s.memory;
  tasks = slice_set w.tasks p s.task ++ s.child ∷ [];
  roles = slice_set w.roles p (with_join s.join role) ++ branch_role p s.own ∷ [];
  channels = s.channels;
  queue = s.queue;
  counters = record w.counters { executed = w.counters.executed + 1 };
}

-- so it is where this role has this plan's join
pub started_is : (here : Here) (plan : Plan) (found : Found) (workspace : ℕ) (l : Local) (w : World) (role : Role)
    → slice_get w.roles here.process ≡ Some role → counted (started here plan found workspace l w) ≡ record w {
      memory = without_words (scheduling_addresses workspace) l.memory;
      tasks = slice_set w.tasks here.process (record here.from {
        registers = between here.next l.registers;
        mode = Starting;
      }) ++ new_task found.branch workspace ∷ [];
      roles = slice_set w.roles here.process
          (with_join (join_after (length w.memory) plan found (length w.tasks)) role)
          ++ branch_role here.process (holding_of here.contents (length w.memory) (share_by plan found.branch)) ∷ [];
      queue = record w.queue { ready = w.queue.ready ++ length w.tasks ∷ [] };
      counters = record w.counters { executed = w.counters.executed + 1 };
    }
started_is here plan found workspace l w role has =
    ap (λ (given : World). counted (enqueue (length w.tasks) (record given {
      tasks = given.tasks ++ new_task found.branch workspace ∷ [];
      roles = given.roles
          ++ branch_role here.process (holding_of here.contents (length w.memory) (share_by plan found.branch)) ∷ [];
    }))) (on_role_is here.process (with_join (join_after (length w.memory) plan found (length w.tasks)))
    (put here.process (record here.from { registers = between here.next l.registers; mode = Starting })
    (without_words (scheduling_addresses workspace) l.memory) w) role has)

-- ---- what more processes and channels leave

-- what waits for a PAR waits for it still where one began more
pub pending_grows : {m : Contents} {own : Holding} {o : ℕ} {began : Began} {all : List Began} {memory : Memory}
    {j : Join} {due : ℕ} {after : AfterPar m j due} (every : List Began)
    → ((q : ℕ) (b : Began) → slice_get all q ≡ Some b → slice_get every q ≡ Some b)
    → Pending m own o began all memory j due after → Pending m own o began every memory j due after
pending_grows {m} {o = o} {all = all} {j = j} {after = after} every grows pending = record {
  frame = pending.frame;
  named = pending.named;
  behind = pending.behind;
  words = λ k reads hides free. pending.words k reads hides (λ out. free (still k out));
}
  where
    still : (k : ℤ) → IsOut m o all after.par j k → IsOut m o every after.par j k
    still k out = out_as out (λ is_out. elim is_out [
      | inl unstarted ↦ inl unstarted
      | inr x ↦ inr (member_as x (grows x.process x.start x.has_start) x.member)
    ])

-- messages are as long where all channels are there still
pub agrees_still : {m : Contents} {old new : List (Option Channel)} {start : Began} {e : End} → KeepsChannels old new
    → LengthAgrees m old start e → LengthAgrees m new start e
agrees_still keeps (at_link k few is len) = at_link k few is len
agrees_still {e = e} keeps (at_channel c here len) = at_channel c (keeps (cell_of e.address) c here) len

-- no process alternates in the mode of a start, or in plain mode
pub starts_beside : {mode : Mode} {c : Condition} → mode ≡ Starting → Alternates mode c → ⊥
starts_beside is (inl enables) = let no' : Starting ≡ Enabling enables.0.0 = sym is ∙ enables.0.1 in cc
starts_beside is (inr disables) = let no' : Starting ≡ Disabling disables.0.0 = sym is ∙ disables.0.1 in cc

pub plain_beside : {mode : Mode} {c : Condition} → mode ≡ Plain → Alternates mode c → ⊥
plain_beside is (inl enables) = let no' : Plain ≡ Enabling enables.0.0 = sym is ∙ enables.0.1 in cc
plain_beside is (inr disables) = let no' : Plain ≡ Disabling disables.0.0 = sym is ∙ disables.0.1 in cc

-- ---- what a start has to show

module _ (m : Contents) (w : World) (h : Holds m w) (p : ℕ) (t : Task) (here : slice_get w.tasks p ≡ Some t)
    (s : Beginning) where
  abbrev pub row : Process m w h.began h.dues p t
  row = h.table.each p t here

  abbrev pub after : World
  after = begotten w p row.role s

  abbrev pub every : List Began
  every = h.began ++ s.began ∷ []

  -- what its opener goes on with, in the world after: the branch is a member, and the channels are there
  pub record OpenerGoesOn (starter : Meets m s.join.rest row.start s.memory s.task s.left) : Type 0 where
    pub start : Began
    pub has_start : slice_get h.began p ≡ Some start
    pub after_par : AfterPar m s.join s.waiting
    pub pending : Pending m row.role.own p start every s.memory s.join s.waiting after_par
    pub starts : StartsHere starter after_par.par s.join after_par.act
    pub newest : IsMember m after_par.par after_par.act.layout s.began
    pub members : (q : ℕ) (branch : Role) (first : Began) → slice_get w.roles q ≡ Some branch
        → branch.opener ≡ Some p → (IsGone w.tasks branch q → ⊥) → slice_get h.began q ≡ Some first
        → IsMember m after_par.par after_par.act.layout first
    pub channels : (n : ℕ) (row : ChannelRow) → slice_get after_par.par.channels n ≡ Some row
        → (c : Channel) × (slice_get s.channels (cell_of (channel_address after_par.act.layout (FrameWord row.word)))
        ≡ Some (Some c)) × (c.length ≡ row.length) × (c.opener ≡ p)

  -- The process goes on among starts, and the branch begins. What is owed pays both, and what waits for the PAR. What
  -- other openers go on with waits still, and what others meet they meet still.
  pub record StartShows : Type 0 where
    pub starter : Meets m s.join.rest row.start s.memory s.task s.left
    pub starting : s.task.mode ≡ Starting
    pub branch : Meets m s.own s.began s.memory s.child s.owing
    pub plain : s.child.mode ≡ Plain
    pub waited : ℕ
    pub has_waited : slice_get h.pending_dues p ≡ Some waited
    pub paid : s.left + s.waiting + s.owing + 1 ≤ row.due + waited
    pub opener : OpenerGoesOn starter
    pub pendings : (q : ℕ) (role : Role) (j : Join) (has : slice_get w.roles q ≡ Some role)
        (is : role.opened ≡ Some j) → p ≢ q
        → Pending m role.own q (h.pending q role j has is).start h.began s.memory j (h.pending q role j has is).due
        (h.pending q role j has is).after
    pub channels : KeepsChannels w.channels s.channels
    pub lengths : (e : End) → has_end s.own e ≡ true → LengthAgrees m s.channels s.began e
    pub others : OthersMeet m w h p after

  -- ---- the invariant after it

  module _ (as_many : length w.roles ≡ length w.tasks) (ready : t.condition ≡ Ready) (shown : StartShows) where
    abbrev dues_after : List ℕ
    dues_after = slice_set h.dues p s.left ++ s.owing ∷ []

    abbrev pending_after : List ℕ
    pending_after = slice_set h.pending_dues p s.waiting ++ 0 ∷ []

    abbrev role_after : Role
    role_after = with_join s.join row.role

    abbrev branch_after : Role
    branch_after = branch_role p s.own

    low : p < length w.tasks
    low = slice_get_within w.tasks p t here

    grows : (q : ℕ) (b : Began) → slice_get h.began q ≡ Some b → slice_get every q ≡ Some b
    grows q b at = slice_get-append_left h.began (s.began ∷ []) q b at

    -- what one that was there began with
    began_before : (q : ℕ) (b : Began) → q < length w.tasks → slice_get every q ≡ Some b → slice_get h.began q ≡ Some b
    began_before q b below at =
        let many = h.counted.begun in got_within_grown h.began s.began q b (omega (arith, below, many)) at

    -- ---- each process

    -- a process in its place, and whether it is among the starts of a PAR
    record Placed (q : ℕ) (u : Task) : Type 0 where
      process : Process m after every dues_after q u
      own : p ≡ q → StartsHere process.meets shown.opener.after_par.par s.join shown.opener.after_par.act
      others : p ≢ q → q < length w.tasks → (par : Par) (j : Join) (act : Activation)
          → ((v : Task) (at : slice_get w.tasks q ≡ Some v) → StartsHere (h.table.each q v at).meets par j act)
          → StartsHere process.meets par j act

    placed_starter : Placed p s.task
    placed_starter = record {
      process = record {
        role = role_after;
        has_role = got_changed w.roles p role_after branch_after row.role row.has_role;
        start = row.start;
        has_start = grows p row.start row.has_start;
        due = s.left;
        has_due = got_changed h.dues p s.left s.owing row.due row.has_due;
        root = row.root;
        meets = shown.starter;
        alternating = λ alternates. absurd (starts_beside shown.starting alternates);
      };
      own = λ same. shown.opener.starts;
      others = λ differ below par j act starts. absurd (differ refl);
    }

    placed_branch : Placed (length w.tasks) s.child
    placed_branch = record {
      process = record {
        role = branch_after;
        has_role = got_added w.roles p role_after branch_after (length w.tasks) as_many;
        start = s.began;
        has_start = got_end h.began s.began (length w.tasks) h.counted.begun;
        due = s.owing;
        has_due = got_added h.dues p s.left s.owing (length w.tasks) h.counted.owing;
        root = λ none. absurd (cc);
        meets = shown.branch;
        alternating = λ alternates. absurd (plain_beside shown.plain alternates);
      };
      own = λ same. let below = low in absurd (omega (arith, same, below));
      others = λ differ below par j act starts. absurd (omega (arith, below));
    }

    placed_other : (q : ℕ) (u : Task) → p ≢ q → slice_get w.tasks q ≡ Some u → Placed q u
    placed_other q u differ at =
        let old = h.table.each q u at in
        let still = shown.others q u at differ in
        record {
          process = record {
            role = old.role;
            has_role = got_unchanged w.roles p role_after branch_after q old.role differ old.has_role;
            start = old.start;
            has_start = grows q old.start old.has_start;
            due = old.due;
            has_due = got_unchanged h.dues p s.left s.owing q old.due differ old.has_due;
            root = old.root;
            meets = still.meets;
            alternating = λ alternates. still.guards alternates (old.alternating alternates);
          };
          own = λ same. absurd (differ same);
          others = λ other below par j act starts. still.starts par j act (starts u at);
        }

    placed : (q : ℕ) (u : Task) → slice_get after.tasks q ≡ Some u → Placed q u
    placed q u there = elim (stands_as w.tasks p s.task s.child q u there) [
      | as_set same is ↦ subst (λ (n : ℕ). Placed n u) same
          (subst (λ (x : Task). Placed p x) (sym is) placed_starter)
      | as_added last is ↦ subst (λ (n : ℕ). Placed n u) (sym last)
          (subst (λ (x : Task). Placed (length w.tasks) x) (sym is) placed_branch)
      | as_before differ below at ↦ placed_other q u differ at
    ]

    abbrev table_after : Table m after every dues_after
    table_after = record { each = λ q u there. (placed q u there).process }

    -- ---- each opener

    -- the members of a process's join: those that were, and the branch
    members_after : (q : ℕ) (par : Par) (layout : Layout) → AreMembers m w.tasks w.roles h.began q par layout
        → (p ≡ q → IsMember m par layout s.began) → AreMembers m after.tasks after.roles every q par layout
    members_after q par layout old newest d branch first has by live begun =
        elim (stands_as w.roles p role_after branch_after d branch has) [
          | as_set same is ↦ old p row.role first row.has_role (sym (ap (λ (r : Role). r.opener) is) ∙ by) unended
              (began_before p first low (subst (λ (n : ℕ). slice_get every n ≡ Some first) (sym same) begun))
          | as_added last is ↦
              let opener : Some p ≡ Some q = sym (ap (λ (r : Role). r.opener) is) ∙ by in
              let many = h.counted.begun in
              subst (λ (b : Began). IsMember m par layout b)
              (same_some (slice_get every d) s.began first
              (got_end h.began s.began d (omega (arith, many, as_many, last))) begun)
              (newest (let mine : p ≡ q = cc in mine))
          | as_before differ below at ↦ old d branch first at by (λ gone. live (
            gone.0,
            record {
              task = gone.1.task;
              here = got_unchanged w.tasks p s.task s.child d gone.1.task differ gone.1.here;
              over = gone.1.over;
            },
          )) (began_before d first (omega (arith, below, as_many)) begun)
        ]
      where
        -- a process that starts is not over
        unended : IsGone w.tasks row.role p → ⊥
        unended gone =
            let same = same_some (slice_get w.tasks p) gone.1.task t gone.1.here here in
            let no' : Ended ≡ Ready = sym gone.1.over ∙ (ap (λ (u : Task). u.condition) same ∙ ready) in
            cc

    opener_here : Opener m after every dues_after pending_after table_after p role_after s.join
    opener_here =
        let o = shown.opener in
        record {
          start = o.start;
          has_start = grows p o.start o.has_start;
          due = s.waiting;
          has_due = got_changed h.pending_dues p s.waiting 0 shown.waited shown.has_waited;
          after = o.after_par;
          pending = o.pending;
          starter = λ task at. (placed p task at).own refl;
          members = members_after p o.after_par.par o.after_par.act.layout o.members (λ same. o.newest);
          channels = o.channels;
        }

    opener_other : (q : ℕ) (role : Role) (j : Join) → p ≢ q → slice_get w.roles q ≡ Some role → role.opened ≡ Some j
        → Opener m after every dues_after pending_after table_after q role j
    opener_other q role j differ has is =
        let old = h.pending q role j has is in
        let below : q < length w.tasks =
        (let inside = slice_get_within w.roles q role has in omega (arith, inside, as_many)) in
        record {
          start = old.start;
          has_start = grows q old.start old.has_start;
          due = old.due;
          has_due = got_unchanged h.pending_dues p s.waiting 0 q old.due differ old.has_due;
          after = old.after;
          pending = pending_grows every grows (shown.pendings q role j has is differ);
          starter = λ task at. (placed q task at).others differ below old.after.par j old.after.act old.starter;
          members = members_after q old.after.par old.after.act.layout old.members (λ same. absurd (differ same));
          channels = λ n row at.
              let c = old.channels n row at in
              let there = shown.channels (cell_of (channel_address old.after.act.layout (FrameWord row.word))) c.0 c.1
              in
              (c.0, there, c.2, c.3);
        }

    openers_after : (q : ℕ) (role : Role) (j : Join) → slice_get after.roles q ≡ Some role → role.opened ≡ Some j
        → Opener m after every dues_after pending_after table_after q role j
    openers_after q role j has is = elim (stands_as w.roles p role_after branch_after q role has) [
      | as_set same was ↦
          let opened : Some s.join ≡ Some j = sym (ap (λ (r : Role). r.opened) was) ∙ is in
          let join_is : s.join ≡ j = cc in
          subst (λ (n : ℕ). Opener m after every dues_after pending_after table_after n role j) same
          (subst (λ (r : Role). Opener m after every dues_after pending_after table_after p r j) (sym was)
          (subst (λ (j : Join). Opener m after every dues_after pending_after table_after p role_after j) join_is
          opener_here))
      | as_added last was ↦
          let no' : None ≡ Some j = sym (ap (λ (r : Role). r.opened) was) ∙ is in
          absurd (cc)
      | as_before differ below at ↦ opener_other q role j differ at is
    ]

    -- ---- all of it

    lengths_after : LengthsAgree m after.roles after.channels every
    lengths_after q role start e has begun ends = elim (stands_as w.roles p role_after branch_after q role has) [
      | as_set same is ↦ agrees_still shown.channels (h.lengths p row.role start e row.has_role
          (began_before p start low (subst (λ (n : ℕ). slice_get every n ≡ Some start) (sym same) begun))
          (sym (ap (λ (r : Role). has_end r.own e) is) ∙ ends))
      | as_added last is ↦
          let many = h.counted.begun in
          subst (λ (b : Began). LengthAgrees m s.channels b e)
          (same_some (slice_get every q) s.began start
          (got_end h.began s.began q (omega (arith, many, as_many, last))) begun)
          (shown.lengths e (sym (ap (λ (r : Role). has_end r.own e) is) ∙ ends))
      | as_before differ below at ↦ agrees_still shown.channels
          (h.lengths q role start e at (began_before q start (omega (arith, below, as_many)) begun) ends)
    ]

    -- So a start keeps the invariant.
    pub begotten_holds : Holds m after
    begotten_holds =
        let tasks = length_changed w.tasks p s.task s.child in
        record {
          dues = dues_after;
          pending_dues = pending_after;
          began = every;
          counted = record {
            begun = omega (arith, tasks, h.counted.begun, length-append h.began (s.began ∷ []));
            owing = omega (arith, tasks, h.counted.owing, length_changed h.dues p s.left s.owing);
            pending = omega (arith, tasks, h.counted.pending, length_changed h.pending_dues p s.waiting 0);
          };
          table = table_after;
          pending = openers_after;
          lengths = lengths_after;
          kept = h.kept;
          owed =
              let less = start_owes h.dues h.pending_dues p row.due shown.waited s.left s.waiting s.owing row.has_due
              shown.has_waited shown.paid in
              let before = h.owed in
              omega (arith, less, before);
          well = h.well;
        }
