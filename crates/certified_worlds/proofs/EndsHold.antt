-- An end keeps the invariant: of a branch, of the process that has started the branches, and the last one of a PAR.
use Rattle.std.proofs.Common.{Option, ◌≡◌, ◌≢◌, ℕ, ◌+◌, ◌≤◌, ◌==◌, true, false, List, [], ◌∷◌, length, Some, None}
use Rattle.std.proofs.Common.{refl, sym, ap, ◌∙◌, subst, inl, inr, arith, eqb-true}
use Rattle.std.proofs.lemmas.List.{length-set}
use Rattle.std.proofs.lemmas.Option.{slice_get_within}
use Rattle.std.specs.Prelude.{slice_get, slice_set}
use Rattle.small_laws.proofs.Options.{same_some}
use Rattle.module_format.specs.declared.rows.EndKind.TheVariants.{FrameWord}
use Rattle.module_format.specs.Contents.{Contents, Par, Branch, label_at}
use Rattle.certificate.specs.Branches.{numbered_branch}
use Rattle.machine_state.specs.declared.process.Condition.{Condition}
use Rattle.machine_state.specs.declared.process.Condition.TheVariants.{Ready, Alternating, Ended}
use Rattle.machine_state.specs.declared.process.Mode.TheVariants as machine_modes
use Rattle.machine_state.specs.declared.process.Task.{Task}
use Rattle.machine_state.specs.declared.fault.FaultKind.{FaultKind}
use Rattle.machine_state.specs.Endings.{Moved, joins_own, joins_opener, Refused}
use Rattle.machine_state.specs.Happens.{between}
use Rattle.machine_state.specs.declared.process.Channel.{Channel}
use Rattle.machine_state.specs.declared.process.Mode.{Mode}
use Rattle.machine_state.specs.EnabledLaws.{Alternates}
use Rattle.module_format.specs.declared.rows.Direction.TheVariants.{In}
use Rattle.machine_state.specs.Holding.{Holding, nothing, has_end}
use Rattle.machine_state.specs.Memory.{Memory}
use Rattle.machine_state.specs.JoinLookups.{opened_by, opener_of}
use Rattle.machine_state.specs.Joins.{closed, ended, given_back, member_joined}
use Rattle.machine_state.specs.Moves.{counted, dispatch, leave, picked}
use Rattle.machine_state.specs.Ownership.{HoldersIn}
use Rattle.machine_state.specs.Roles.{with_join, without_join, without_own}
use Rattle.machine_state.specs.Site.{Outcome, joins}
use Rattle.machine_state.specs.Turn.{at_here}
use Rattle.machine_state.specs.Waiting.{is_member, IsOver, IsGone}
use Rattle.machine_state.specs.World.{World, Role, Join, Queue, held, holding_at}
use Rattle.machine_state.proofs.Lines.{got_set, got_other, got_within, set_either, told_in}
use Rattle.machine_state.proofs.Waiting.{has_role}
use Rattle.machine_state.proofs.MovesLeaveAlone.{is_last, member_gone, joined_either, on_role_is, with_opened, without}
use Rattle.states.specs.declared.rule.Rule.{Rule}
use Rattle.rulings.specs.Regions.{channel_address}
use Rattle.rulings.specs.Rulings.{Ruling, breaks}
use Rattle.rulings.specs.Meaning.{Layout, Activation, IsWellFormed}
use Rattle.rulings.proofs.Within.{is_starting}
use Rattle.share_laws.specs.Climbing.{LieAlike}
use Rattle.start_laws.specs.Ending.{StartedAll, LeavesAgreed, EndFits, to_end_own, to_end_branch, end_breaks}
use Rattle.certified_worlds.specs.Certified.{IsCertified}
use Rattle.certified_worlds.specs.Invariant.{Opener, Holds}
use Rattle.certified_worlds.specs.Lives.{Meets, it_lives, it_stopped, it_ended}
use Rattle.certified_worlds.specs.ParLabels.{LeavesSaid, EndsAPar}
use Rattle.certified_worlds.specs.Pending.{IsMember, Pending, StartsHere}
use Rattle.certified_worlds.specs.Point.{Began, Decodes}
use Rattle.certified_worlds.proofs.BehindKeeps.{behind_of}
use Rattle.certified_worlds.proofs.ClosedWorlds.{closed_world, closed_is, outlives, closed_holds}
use Rattle.certified_worlds.proofs.EndedWorlds.{reduced, of_opener, of_branch, of_other, RolesReduced, EndShows}
use Rattle.certified_worlds.proofs.EndedWorlds.{reduced_holds}
use Rattle.certified_worlds.proofs.EndsAreInOrder.{after_procedures, began_so, EndsIn, none_open, ends_pass}
use Rattle.certified_worlds.proofs.EndsKeepPars.{member_stays, join_without, after_without, branch_leaves, own_leaves}
use Rattle.certified_worlds.proofs.OrderlyWorlds.{IsOrderly, IsAtLastByte}
use Rattle.certified_worlds.proofs.OthersAfterEnds.{reduced_others, closed_others}
use Rattle.certified_worlds.proofs.ParsStay.{own_is, opener_is, opened_is}
use Rattle.certified_worlds.proofs.RulesGive.{started_all_ends, branch_ends, leaves_said}
use Rattle.certified_worlds.proofs.StartedWorlds.{starts_beside}
use Rattle.certified_worlds.proofs.StartsLive.{owed_among}
use Rattle.certified_worlds.proofs.Standing.{standing, own_join, same_starts}
use Rattle.certified_worlds.proofs.Steps.{owed_still}

-- nothing is left of a list of no length
empty : (xs : List ℕ) → (length xs == 0) ≡ true → xs ≡ []
empty [] none = refl
empty (x ∷ xs) none = let same = eqb-true (length (x ∷ xs)) 0 none in absurd (omega (arith, same))

-- a process that is over alternates no more
over_beside : {mode : Mode} {condition : Condition} → condition ≡ Ended → Alternates mode condition → ⊥
over_beside is (inl enables) = let no' : Ended ≡ Ready = sym is ∙ enables.1 in cc
over_beside is (inr disables) = elim disables.1 [
  | inl ready ↦ let no' : Ended ≡ Ready = sym is ∙ ready in cc
  | inr waits ↦ let no' : Ended ≡ Alternating = sym is ∙ waits in cc
]

-- a process that is over and was among the starts of a PAR has started all branches
ends_started : {m : Contents} {g : Holding} {start : Began} {memory : Memory} {t : Task} {due : ℕ}
    (meets : Meets m g start memory t due) → t.condition ≡ Ended → (par : Par) (j : Join) (act : Activation)
    → StartsHere meets par j act → j.started ≡ length par.branches
ends_started (it_lives l) over par j act s = let no' : Ready ≡ Ended = sym s.ready ∙ over in absurd (cc)
ends_started (it_stopped e) over par j act s = absurd s
ends_started (it_ended e) over par j act s = s

module _ (m : Contents) (d : Decodes m) (wf : IsWellFormed m) (c : IsCertified m) (w : World) (h : Holds m w)
    (order : IsOrderly m w) (p : ℕ) (t : Task) (r : IsAtLastByte m w h p t) (pick : ℕ) where
  open standing d wf c r use {row, l, point, x, local}

  -- the process that has ended
  abbrev over : Task
  over = record t {
    registers = between (t.registers.at + 1) local.registers;
    mode = machine_modes.Plain;
    condition = Ended;
  }

  abbrev tasks_after : List Task
  tasks_after = slice_set w.tasks p over

  not_gone : IsGone w.tasks row.role p → ⊥
  not_gone gone =
      let same = same_some (slice_get w.tasks p) gone.1.task t gone.1.here r.here in
      let no' : Ended ≡ Ready = sym gone.1.over ∙ (ap (λ (u : Task). u.condition) same ∙ r.ready) in
      cc

  -- a process that alternates has no join open
  alternates_alone : (q : ℕ) (u : Task) → slice_get w.tasks q ≡ Some u → Alternates u.mode u.condition → (role : Role)
      → slice_get w.roles q ≡ Some role → role.opened ≡ None
  alternates_alone q u at alternates role has = on role.opened refl
    where
      never : (k : Join) → role.opened ≡ Some k → ⊥
      never k is = elim (order.starters.openers q (record { role = role; here = has; join = k; is_open = is })) [
        | inl starts ↦ starts_beside (ap (λ (x : Task). x.mode)
            (same_some (slice_get w.tasks q) u starts.task at starts.here) ∙ starts.starting) alternates
        | inr gone ↦ over_beside (ap (λ (x : Task). x.condition)
            (same_some (slice_get w.tasks q) u gone.task at gone.here) ∙ gone.over) alternates
      ]

      on : (x : Option Join) → role.opened ≡ x → role.opened ≡ None
      on None is = is
      on (Some k) is = absurd (never k is)

  -- ---- whether the join goes on or is over

  module _ (o : ℕ) (opener_role : Role) (j : Join) (par : Par) (at_row : slice_get m.pars j.row ≡ Some par)
      (has_opener_role : slice_get w.roles o ≡ Some opener_role) (roles : List Role) where
    abbrev role_then : Role
    role_then = with_join (join_without p j) opener_role

    -- the world with one member less, and with the join over, where this is the opener's task
    abbrev reduced_world : Queue → World
    reduced_world queue = reduced w tasks_after roles queue

    abbrev over_world : Task → World
    over_world u = closed_world (reduced_world w.queue) o role_then (join_without p j) par u

    -- where holders are in order afterwards, the invariant holds
    abbrev pub HoldsThen : World → Type 0
    HoldsThen g = HoldersIn m g.roles g.channels → Holds m (counted g)

    module _ (shown : (queue : Queue) → EndShows m w h p t r.here o opener_role j over roles queue)
        (started : is_last p j ≡ true → j.started ≡ length par.branches)
        (rests : is_last p j ≡ true → (u : Task) → slice_get tasks_after o ≡ Some u → u.condition ≡ Ended) (v : World)
        (gone : member_gone (at_here m p t pick) o j v ≡ record w { tasks = tasks_after; roles = roles }) where
      still_open : is_last p j ≡ false → HoldsThen (dispatch pick (leave (member_gone (at_here m p t pick) o j v)))
      unfolding dispatch
      still_open some ordered = subst (λ (g : World). Holds m (counted (record g {
        queue = picked pick (record g.queue { running = None });
      }))) (sym gone) (reduced_holds m w h p t r.here o opener_role j r.ready over roles
          (picked pick (record w.queue { running = None })) (shown (picked pick (record w.queue { running = None }))))

      -- the opener's task
      resumes : (u : Task) × (slice_get tasks_after o ≡ Some u)
      resumes = got_within tasks_after o (
          let low = slice_get_within w.roles o opener_role has_opener_role in
          let many = order.as_many in
          let same = length-set w.tasks p over in
          omega (arith, low, many, same))

      over_is : closed o j par (member_gone (at_here m p t pick) o j v) ≡ closed_world (record w {
        tasks = tasks_after;
        roles = roles;
      }) o role_then j par resumes.0
      over_is = ap (λ (g : World). closed o j par g) gone
          ∙ closed_is o j par (record w { tasks = tasks_after; roles = roles }) role_then resumes.0
          (shown w.queue).reduces.opener resumes.1

      -- No channel that another one has enabled is the opener's: it holds an end that outlives the join.
      module _ (ordered : HoldersIn m (over_world resumes.0).roles (over_world resumes.0).channels) where
        survives : (q : ℕ) (u : Task) → o ≢ q → slice_get tasks_after q ≡ Some u → Alternates u.mode u.condition
            → (k : ℕ) (cell : Channel) → slice_get w.channels k ≡ Some (Some cell) → cell.enabled ≡ Some q
            → cell.opener ≢ o
        survives q u aside at alternates k cell there enabled = elim (set_either w.tasks p over q u at) [
          | inl set ↦ absurd (over_beside (ap (λ (x : Task). x.condition) set.1) alternates)
          | inr other ↦
              let its = has_role w q u other.1 order.as_many in
              let end = order.enabled.at_channels k cell q there enabled in
              let holds : holding_at w.roles q ≡ its.0.own =
              ap (λ (x : Option Role). elim x as (λ x. Holding) [ None ↦ nothing | Some role ↦ held role ]) its.1
              ∙ ap (λ (x : Option Join). elim x as (λ x. Holding) [ None ↦ its.0.own | Some join ↦ join.rest ])
              (alternates_alone q u other.1 alternates its.0 its.1) in
              let now = own_is (over_world resumes.0).roles q its.0
              (got_other roles o q (without_join role_then) aside
              ∙ (shown w.queue).reduces.others q its.0 aside other.0 its.1) in
              outlives m w.roles (over_world resumes.0).roles w.channels o order.holders ordered q
              (record { address = end.0; direction = In })
              (ap (λ (g : Holding). has_end g (record { address = end.0; direction = In })) (now ∙ sym holds) ∙ end.2)
              cell (ap (λ (n : ℕ). slice_get w.channels n) end.1 ∙ there)
        ]

      is_over : is_last p j ≡ true → HoldsThen (closed o j par (member_gone (at_here m p t pick) o j v))
      is_over last ordered =
          let held_now = reduced_holds m w h p t r.here o opener_role j r.ready over roles w.queue (shown w.queue) in
          let ordered_then = subst (λ (g : World). HoldersIn m g.roles g.channels) over_is ordered in
          subst (λ (g : World). Holds m (counted g)) (sym over_is)
          (closed_holds m d wf c (reduced_world w.queue) held_now o role_then (join_without p j)
          (shown w.queue).reduces.opener refl par at_row resumes.0 resumes.1 (started last)
          (empty (join_without p j).members last) w.roles order.holders ordered_then
          (closed_others m (reduced_world w.queue) held_now o role_then (join_without p j) par resumes.0 resumes.1
          (rests last resumes.0 resumes.1) (survives ordered_then)))

      ends_hold : HoldsThen (member_joined (at_here m p t pick) o j par v)
      ends_hold = joined_either HoldsThen (at_here m p t pick) o j par v is_over still_open

  abbrev ended_world : World
  ended_world = ended (at_here m p t pick) local w

  -- ---- the end of the process that has started the branches

  module _ (par : Par) (all : StartedAll x point.state par) (pays : x.len ≤ point.state.number) (j : Join)
      (opened : opened_by w p ≡ Some j) (row_par : Par) (at_row : slice_get m.pars j.row ≡ Some row_par) where
    open own_join r j opened use {is_open, opener as mine}

    same : (all.row ≡ j.row) × (length par.branches ≡ j.started)
    same = same_starts r (own_join r j opened) all.mode

    -- all branches of the row are started
    all_started : (other : Par) → slice_get m.pars j.row ≡ Some other → j.started ≡ length other.branches
    all_started other at =
        let row_same = same_some (slice_get m.pars j.row) par other
        (subst (λ (n : ℕ). slice_get m.pars n ≡ Some par) same.0 all.is) at in
        sym same.1 ∙ ap (λ (row : Par). length row.branches) row_same

    abbrev own_roles : List Role
    own_roles = slice_set w.roles p (with_join (join_without p j) row.role)

    own_reduces : RolesReduced m w h p t r.here p row.role j own_roles
    own_reduces = record {
      now = λ q role has. elim (set_either w.roles p (with_join (join_without p j) row.role) q role has) [
        | inl set ↦ of_opener set.0 set.1
        | inr other ↦ of_other other.0 other.0 other.1
      ];
      opener = got_set w.roles p row.role (with_join (join_without p j) row.role) row.has_role;
      branch = λ differ. absurd (differ refl);
      others = λ q role differ also has. got_other w.roles p q (with_join (join_without p j) row.role) differ ∙ has;
    }

    own_shows : (queue : Queue) → EndShows m w h p t r.here p row.role j over own_roles queue
    own_shows queue = record {
      ended = refl;
      plain = refl;
      pays =
          let owes = l.paid in
          let among = owed_among point.state.mode all.row (length par.branches) point.state point.act point.callers
          all.mode in
          let last = r.last in
          omega (arith, owes, among, pays, last);
      reduces = own_reduces;
      has_role = row.has_role;
      is_open = is_open;
      unopened = λ differ. absurd (differ refl);
      started = λ same. all_started mine.after.par mine.after.row;
      pending = own_leaves mine.pending;
      others = reduced_others m w h p t over own_roles queue r.here r.ready;
    }

    -- Where holders are in order afterwards, the invariant holds.
    pub own_end_holds : HoldersIn m (member_joined (at_here m p t pick) p j row_par ended_world).roles
        (member_joined (at_here m p t pick) p j row_par ended_world).channels
        → Holds m (counted (member_joined (at_here m p t pick) p j row_par ended_world))
    own_end_holds = ends_hold p row.role j row_par at_row row.has_role own_roles own_shows
        (λ last. all_started row_par at_row)
        (λ last u at. ap (λ (x : Task). x.condition)
        (same_some (slice_get tasks_after p) u over at (got_set w.tasks p t over r.here))) ended_world
        (on_role_is p (with_opened (Some (without p j))) ended_world row.role row.has_role)

  -- ---- the end of a branch

  module _ (par : Par) (leaves : LeavesAgreed x point.state local par) (pays : x.len ≤ point.state.number)
      (unopened : opened_by w p ≡ None) (o : ℕ) (up : opener_of w p ≡ Some o) (opener_role : Role)
      (has_opener_role : slice_get w.roles o ≡ Some opener_role) (j : Join) (opened : opened_by w o ≡ Some j)
      (row_par : Par) (at_row : slice_get m.pars j.row ≡ Some row_par) where
    by : row.role.opener ≡ Some o
    by = opener_is w.roles p row.role (Some o) row.has_role up

    theirs_open : opener_role.opened ≡ Some j
    theirs_open = sym (opened_is w.roles o opener_role has_opener_role) ∙ opened

    abbrev theirs : Opener m w h.began h.dues h.pending_dues h.table o opener_role j
    theirs = h.pending o opener_role j has_opener_role theirs_open

    member : IsMember m theirs.after.par theirs.after.act.layout row.start
    member = theirs.members p row.role row.start row.has_role by not_gone row.has_start

    differ : o ≢ p
    differ same = let low = order.holders.rises p o up in omega (arith, low, same)

    still : is_starting point.state.mode ≡ false
    still = ap is_starting leaves.mode

    -- its activation is the one that it began with
    began_here : (point.state.context ≡ row.start.context) × (point.act.layout ≡ row.start.layout)
    began_here = began_so (after_procedures m point.state.context par leaves.branch leaves.is)
        (behind_of {m = m} {h = held row.role} {began = row.start} point.state.mode {context = point.state.context}
        {layout = point.act.layout} {memory = w.memory} {callers = point.callers} still l.behind)

    par_is : par ≡ theirs.after.par
    par_is =
        let both : ◌≡◌ {A = Par × Branch} (par, leaves.branch) (theirs.after.par, member.branch) =
        same_some (numbered_branch m row.start.context) (par, leaves.branch) (theirs.after.par, member.branch)
        (subst (λ (n : ℕ). numbered_branch m n ≡ Some (par, leaves.branch)) began_here.0 leaves.is) member.is in
        ap (λ (found : Par × Branch). found.0) both

    says : LeavesSaid m row.start.context theirs.after.label.entries point.act w.memory
    says = subst (λ (n : ℕ). LeavesSaid m n theirs.after.label.entries point.act w.memory) began_here.0
        (leaves_said leaves theirs.after.label
        (ap (λ (row : Par). label_at m row.successor) par_is ∙ theirs.after.at))

    pending_then : Pending m opener_role.own o theirs.start h.began w.memory (join_without p j) theirs.due
        (after_without p theirs.after)
    pending_then = branch_leaves theirs.pending p row.start row.has_start member point.act
        (subst (λ (layout : Layout). LieAlike theirs.after.act.layout layout) (sym began_here.1) member.lent.alike)
        (ap (λ (layout : Layout). layout.back) began_here.1 ∙ member.back) says

    abbrev branch_roles : List Role
    branch_roles = slice_set (slice_set w.roles p (without_own row.role)) o (with_join (join_without p j) opener_role)

    has_there : slice_get (slice_set w.roles p (without_own row.role)) o ≡ Some opener_role
    has_there = got_other w.roles p o (without_own row.role) (λ same. differ (sym same)) ∙ has_opener_role

    branch_reduces : RolesReduced m w h p t r.here o opener_role j branch_roles
    branch_reduces = record {
      now = λ q role has. elim (set_either (slice_set w.roles p (without_own row.role)) o
          (with_join (join_without p j) opener_role) q role has) [
            | inl set ↦ of_opener set.0 set.1
            | inr other ↦ elim (set_either w.roles p (without_own row.role) q role other.1) [
              | inl set ↦ of_branch set.0 other.0 set.1
              | inr elsewhere ↦ of_other other.0 elsewhere.0 elsewhere.1
            ]
          ];
      opener = got_set (slice_set w.roles p (without_own row.role)) o opener_role
          (with_join (join_without p j) opener_role) has_there;
      branch = λ differ. got_other (slice_set w.roles p (without_own row.role)) o p
          (with_join (join_without p j) opener_role) differ ∙ got_set w.roles p row.role (without_own row.role)
          row.has_role;
      others = λ q role aside other has. got_other (slice_set w.roles p (without_own row.role)) o q
          (with_join (join_without p j) opener_role) aside ∙ got_other w.roles p q (without_own row.role) other ∙ has;
    }

    branch_shows : (queue : Queue) → EndShows m w h p t r.here o opener_role j over branch_roles queue
    branch_shows queue = record {
      ended = refl;
      plain = refl;
      pays =
          let owes = l.paid in
          let all = owed_still point.state.mode point.state point.act point.callers still in
          let last = r.last in
          omega (arith, owes, all, pays, last);
      reduces = branch_reduces;
      has_role = has_opener_role;
      is_open = theirs_open;
      unopened = λ aside. sym (opened_is w.roles p row.role row.has_role) ∙ unopened;
      started = λ same. absurd (differ same);
      pending = pending_then;
      others = reduced_others m w h p t over branch_roles queue r.here r.ready;
    }

    -- with the last branch the opener is over, and so has started all of them
    opener_is_over : is_last p j ≡ true → IsOver w.tasks o
    opener_is_over last = elim (order.branches.joins o opener_role j has_opener_role theirs_open) [
      | inl among ↦
          let none = empty (join_without p j).members last in
          let no' : is_member [] o ≡ true = subst (λ (ms : List ℕ). is_member ms o ≡ true) none
          (member_stays j.members p o (λ same. differ (sym same)) among) in
          absurd (cc)
      | inr gone ↦ gone
    ]

    all_joined : is_last p j ≡ true → j.started ≡ length row_par.branches
    all_joined last =
        let gone = opener_is_over last in
        let same = same_some (slice_get m.pars j.row) theirs.after.par row_par theirs.after.row at_row in
        ends_started (h.table.each o gone.task gone.here).meets gone.over theirs.after.par j theirs.after.act
        (theirs.starter gone.task gone.here) ∙ ap (λ (row : Par). length row.branches) same

    opener_rests : is_last p j ≡ true → (u : Task) → slice_get tasks_after o ≡ Some u → u.condition ≡ Ended
    opener_rests last u at =
        let gone = opener_is_over last in
        ap (λ (x : Task). x.condition) (same_some (slice_get tasks_after o) u gone.task at
        (got_other w.tasks p o over (λ same. differ (sym same)) ∙ gone.here)) ∙ gone.over

    abbrev joined_world : World
    joined_world = member_joined (at_here m p t pick) o j row_par (given_back (at_here m p t pick) ended_world)

    -- Where holders are in order afterwards, the invariant holds.
    pub branch_end_holds : HoldersIn m joined_world.roles joined_world.channels → Holds m (counted joined_world)
    branch_end_holds = ends_hold o opener_role j row_par at_row has_opener_role branch_roles branch_shows all_joined
        opener_rests (given_back (at_here m p t pick) ended_world)
        (ap (λ (g : World). member_gone (at_here m p t pick) o j g)
        (on_role_is p without_own ended_world row.role row.has_role)
        ∙ on_role_is o (with_opened (Some (without p j)))
        (record ended_world { roles = slice_set w.roles p (without_own row.role) }) opener_role has_there)

  -- ---- by the rule

  module _ {ruling : Ruling} {o : Outcome} (unbroken : (broken : Rule) → ruling ≡ breaks broken → ⊥) where
    -- No test of an end fails,
    pub end_passes : EndFits x point.state local ruling o → {kind : FaultKind} → Refused (at_here m p t pick) w o kind
        → ⊥
    end_passes fits = on unbroken fits
      where
        by_block : (block : ℕ) → EndsAPar m point.state point.act.layout block → {kind : FaultKind}
            → Refused (at_here m p t pick) w (joins block local) kind → ⊥
        by_block block ends refused = ends_pass m w h order.branches order.starters p t r.here r.ready pick block local
            (subst (λ (meets : Meets m (held row.role) row.start w.memory t row.due). EndsIn meets block) (sym r.is)
            ends) refused

        on : {ruling : Ruling} {o : Outcome} → ((broken : Rule) → ruling ≡ breaks broken → ⊥)
            → EndFits x point.state local ruling o → {kind : FaultKind} → Refused (at_here m p t pick) w o kind → ⊥
        on unbroken (to_end_own par all pays) refused =
            by_block (channel_address point.act.layout (FrameWord par.block)) (started_all_ends all) refused
        on unbroken (to_end_branch par leaves pays) refused =
            by_block (channel_address point.act.layout (FrameWord par.block)) (branch_ends leaves) refused
        on unbroken (end_breaks {broken}) refused = unbroken broken refl

    -- and where holders are in order afterwards, the invariant holds.
    pub end_holds : EndFits x point.state local ruling o → {v : World} → Moved (at_here m p t pick) w o v
        → HoldersIn m v.roles v.channels → Holds m (counted v)
    end_holds fits = on unbroken fits
      where
        on : {ruling : Ruling} {o : Outcome} → ((broken : Rule) → ruling ≡ breaks broken → ⊥)
            → EndFits x point.state local ruling o → {v : World} → Moved (at_here m p t pick) w o v
            → HoldersIn m v.roles v.channels → Holds m (counted v)
        on unbroken (to_end_own par all pays) (joins_own block k j row opens at same) ordered =
            own_end_holds par all pays j opens row at ordered
        on unbroken (to_end_own par all pays) (joins_opener block k o j row none up opens at same) ordered =
            let s = order.starters.starters p t r.here all.machine_mode in
            let no' : None ≡ Some s.join = sym none ∙ (opened_is w.roles p s.role s.here ∙ s.is_open) in
            absurd (cc)
        on unbroken (to_end_branch par leaves pays) (joins_own block k j row opens at same) ordered =
            absurd (none_open m w h order.branches order.starters p t r.here r.ready pick 0 local leaves.machine_mode j
            opens)
        on unbroken (to_end_branch par leaves pays) (joins_opener block k o j row none up opens at same) ordered =
            let opener_role = told_in (λ (role : Role). role.opened) w.roles o j opens in
            branch_end_holds par leaves pays none o up opener_role.0 opener_role.1 j opens row at ordered
        on unbroken (end_breaks {broken}) moved ordered = absurd (unbroken broken refl)
