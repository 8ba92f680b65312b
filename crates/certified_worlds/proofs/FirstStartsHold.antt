-- The first start of a PAR keeps the invariant.
use Rattle.std.proofs.Common.{◌≡◌, ◌≢◌, ℕ, ◌+◌, ◌<◌, true, false, inl, inr, List, [], ◌∷◌, ◌++◌, length}
use Rattle.std.proofs.Common.{Option, Some, None}
use Rattle.std.proofs.Common.{ℤ, refl, sym, ap, ◌∙◌, subst, pos, ◌+ℤ◌, arith}
use Rattle.std.proofs.lemmas.Option.{slice_get_within}
use Rattle.std.specs.Prelude.{slice_get}
use Rattle.small_laws.proofs.Options.{same_some}
use Rattle.module_format.specs.Contents.{Contents}
use Rattle.module_format.specs.Keeping as formats
use Rattle.machine_state.specs.declared.holding.End.{End}
use Rattle.machine_state.specs.declared.process.Condition.{Condition}
use Rattle.machine_state.specs.declared.process.Condition.TheVariants.{Ready, Ended}
use Rattle.machine_state.specs.declared.process.Mode.TheVariants as machine_modes
use Rattle.machine_state.specs.declared.process.Task.{Task}
use Rattle.machine_state.specs.BranchShares.{frame_address, frame_base}
use Rattle.machine_state.specs.Frame.{ChangesOwn}
use Rattle.machine_state.specs.Happens.{between}
use Rattle.machine_state.specs.Holding.{Holding, nothing, has_end}
use Rattle.machine_state.specs.JoinLookups.{Found, opened_by}
use Rattle.machine_state.specs.Joins.{join_after, started, opened, new_task, with_channels}
use Rattle.machine_state.specs.LocalStep.{without_registers}
use Rattle.machine_state.specs.Memory.{Memory, data_start}
use Rattle.machine_state.specs.Moves.{counted}
use Rattle.machine_state.specs.Site.{Local}
use Rattle.machine_state.specs.StartPlans.{Plan, first_plan, hidden, first_fault, first_faults}
use Rattle.machine_state.specs.Ownership.{to_write}
use Rattle.machine_state.specs.Turn.{at_here}
use Rattle.machine_state.specs.Waiting.{IsGone}
use Rattle.machine_state.specs.World.{World, Role, Join, held, holding_at}
use Rattle.machine_state.proofs.ChannelWaiters.{made_is_quiet}
use Rattle.machine_state.proofs.FoundContexts.{branches_are_contexts}
use Rattle.machine_state.proofs.Frame.{changes_more}
use Rattle.machine_state.proofs.Lines.{got_within}
use Rattle.machine_state.proofs.Shares.{left_claims}
use Rattle.machine_state.proofs.Starting.{first_tests}
use Rattle.states.specs.declared.known.Mode.TheVariants as states_modes
use Rattle.states.specs.State.{State, label_state}
use Rattle.rulings.specs.Fitting.{After}
use Rattle.rulings.specs.Meaning.{Activation, IsWellFormed, HasFrame, with_turns, words_in}
use Rattle.rulings.specs.Regions.{Scope, scope_of, KeepsMemory}
use Rattle.rulings.proofs.Within.{is_starting, scope_still}
use Rattle.share_laws.specs.GoingOn.{act_with}
use Rattle.share_laws.specs.Opening.{CanOpen, HasNoEndsInside, layout_with, held_by_opener}
use Rattle.share_laws.specs.Shares.{IsLaidOut}
use Rattle.share_laws.specs.Starts.{CanStart, held_by_branch}
use Rattle.share_laws.specs.Taking.{memory_after_start, after_opening}
use Rattle.share_laws.proofs.Bases.{bases_are_frames}
use Rattle.share_laws.proofs.GoingOn.{openers_go_on, openings_can_start}
use Rattle.share_laws.proofs.Prepared.{plans_are_laid_out, first_starts_pass}
use Rattle.share_laws.proofs.TakenWords.{openings_take_their_words}
use Rattle.start_laws.specs.BranchLabels.{BeginsAtLabel, owed_at_label}
use Rattle.start_laws.specs.Starting.{StartsBranch, StartsFirst}
use Rattle.certified_worlds.specs.Certified.{Reaches, IsCertified}
use Rattle.certified_worlds.specs.Invariant.{LengthAgrees, Holds}
use Rattle.certified_worlds.specs.Lives.{awaits, it_lives}
use Rattle.certified_worlds.specs.ParLabels.{LabelStands}
use Rattle.certified_worlds.specs.Pending.{IsStarter}
use Rattle.certified_worlds.specs.Point.{Began, Behind, Decodes, owed_behind}
use Rattle.certified_worlds.proofs.BehindKeeps.{behind_lengths, behind_of}
use Rattle.certified_worlds.proofs.BranchLengths.{branch_lengths}
use Rattle.certified_worlds.proofs.GrownLists.{got_end}
use Rattle.certified_worlds.proofs.LivesAs.{LivesAs}
use Rattle.certified_worlds.proofs.MadeChannels.{row_rises, channels_stay, channels_made}
use Rattle.certified_worlds.proofs.OpeningsMakePars.{IsFirstJoin, is_first_join, opening_keeps, after_first}
use Rattle.certified_worlds.proofs.OpeningsMakePars.{opening_makes}
use Rattle.certified_worlds.proofs.OrderlyWorlds.{IsOrderly, IsAtLastByte}
use Rattle.certified_worlds.proofs.OthersAfterStarts.{begotten_others}
use Rattle.certified_worlds.proofs.OwnWords.{scheduling_is_own, opening_is_own}
use Rattle.certified_worlds.proofs.ParsStay.{Changer, own_is, opened_is, step_changes, openers_stay}
use Rattle.certified_worlds.proofs.RulesGive.{label_stands}
use Rattle.certified_worlds.proofs.StartedWorlds.{Beginning, begotten, started_is, agrees_still, OpenerGoesOn}
use Rattle.certified_worlds.proofs.StartedWorlds.{StartShows}
use Rattle.certified_worlds.proofs.StartedWorlds.{begotten_holds}
use Rattle.certified_worlds.proofs.StartsKeepPars.{began_by, becomes_member}
use Rattle.certified_worlds.proofs.StartsLive.{starter_lives, branch_lives}
use Rattle.certified_worlds.proofs.Standing.{standing, lives_next}
use Rattle.certified_worlds.proofs.Steps.{owed_still}

module _ (m : Contents) (d : Decodes m) (wf : IsWellFormed m) (keeps : formats.Keeps m) (c : IsCertified m) (w : World)
    (h : Holds m w) (order : IsOrderly m w) (p : ℕ) (t : Task) (r : IsAtLastByte m w h p t) where
  open standing d wf c r use {row, l, point, x, local}

  -- It has no join open, starts the first branch of a PAR, by its rule, and goes on in this state.
  module _ (after : State) (found : Found) (target workspace : ℕ)
      (b : StartsBranch x point.state after local found target workspace)
      (n : StartsFirst x point.state after local found)
      (reached : Reaches m (t.registers.began + point.instr.len) (Some after)) (unopened : opened_by w p ≡ None)
      (pick : ℕ) where
    none_open : row.role.opened ≡ None
    none_open = sym (opened_is w.roles p row.role row.has_role) ∙ unopened

    -- it holds what it has for good
    held_is : held row.role ≡ row.role.own
    held_is =
        ap (λ (o : Option Join). elim o as (λ o. Holding) [ None ↦ row.role.own | Some join ↦ join.rest ]) none_open

    still : is_starting point.state.mode ≡ false
    still = ap is_starting n.mode

    known : After m (held row.role) t.mode point.act point.state local
    known = (l.claim w.memory refl (λ place mine free. refl) (λ place awaited.
        let no' : false ≡ true = sym (ap (λ (condition : Condition). awaits condition place) r.ready) ∙ awaited in
        absurd (cc))).here

    -- ---- the PAR can be opened

    abbrev base : ℕ
    base = frame_base t.registers.workspace found.par.depth

    frame_now : HasFrame (held row.role) (length w.memory) (words_in m point.state.context) point.act.layout.origin
        point.state.depth t.registers.workspace
    frame_now = subst (λ (scope : Scope). HasFrame (held row.role) (length w.memory) scope.words
        point.act.layout.origin point.state.depth t.registers.workspace)
        (scope_still m point.state.context point.state.mode point.act.layout still) known.frame

    is_base : pos base ≡ pos data_start +ℤ point.act.layout.origin
    is_base = bases_are_frames m point.state.context (held row.role) (length w.memory) point.act.layout.origin
        found.par.depth t.registers.workspace keeps (row_rises m found.row found.par keeps b.is.row).depth
        (subst (λ (z : ℤ). HasFrame (held row.role) (length w.memory) (words_in m point.state.context)
        point.act.layout.origin z t.registers.workspace) (sym b.depth) frame_now)

    can_now : CanOpen m found.row found.par point.act.layout base (held row.role) w.memory point.state.depth
        t.registers.workspace
    can_now = n.can base is_base (order.inside p row.role row.has_role)
        (subst (λ (g : Holding). HasNoEndsInside g) (own_is w.roles p row.role row.has_role ∙ sym held_is)
        (order.free p))

    can : CanOpen m found.row found.par point.act.layout base row.role.own w.memory point.state.depth
        t.registers.workspace
    can = subst (λ (g : Holding). CanOpen m found.row found.par point.act.layout base g w.memory point.state.depth
        t.registers.workspace) held_is can_now

    -- where its row says
    can_there : CanOpen m found.row found.par point.act.layout base row.role.own w.memory found.par.depth
        t.registers.workspace
    can_there = subst (λ (z : ℤ). CanOpen m found.row found.par point.act.layout base row.role.own w.memory z
        t.registers.workspace) (sym b.depth) can

    abbrev plan : Plan
    plan = first_plan m p t.registers.workspace row.role.own w.memory found

    laid : IsLaidOut m found.par (layout_with point.act.layout found.par) base plan.addresses
    laid = plans_are_laid_out m p found point.act.layout row.role.own w.memory t.registers.workspace can_there
        n.prepared

    abbrev opened_memory : Memory
    opened_memory = after_opening found.par base w.memory

    abbrev new_memory : Memory
    new_memory = memory_after_start found base opened_memory

    abbrev act : Activation
    act = act_with point.act found

    can_start : CanStart m found act.layout base plan.addresses
        (held_by_opener found.par base (length w.memory) row.role.own) opened_memory point.state.depth
        t.registers.workspace
    can_start = openings_can_start m found point.act base plan.addresses row.role.own w.memory point.state.depth
        t.registers.workspace can n.first b.left laid b.is

    abbrev new : ℕ
    new = length w.tasks

    abbrev next : Join
    next = join_after (length w.memory) plan found new

    abbrev branch_workspace : ℕ
    branch_workspace = frame_address base found.branch.workspace

    abbrev own : Holding
    own = held_by_branch m found base plan.addresses (length w.memory)

    tests : first_fault (first_faults m w.memory row.role.own plan found branch_workspace) ≡ None
    tests = first_starts_pass m p found point.act.layout row.role.own w.memory t.registers.workspace can_there
        n.prepared n.first b.is b.left

    -- ---- both processes

    abbrev starter_task : Task
    starter_task = record t {
      registers = between (t.registers.at + 1) (without_registers local).registers;
      mode = machine_modes.Starting;
    }

    starter_lives_on : LivesAs m next.rest row.start new_memory starter_task after.number after act
    starter_lives_on =
        let then : Local = record { registers = (without_registers local).registers; memory = new_memory } in
        let goes = openers_go_on m found point.act base plan.addresses row.role.own w.memory point.state.depth
        t.registers.workspace after then can n.first can_start b.goes_on refl refl in
        lives_next r (without_registers local).registers (starter_lives m d wf c next.rest row.start act
        (t.registers.began + point.instr.len) after then point.callers found.row (found.number + 1) b.goes_on.mode
        reached b.low goes)

    branch_lives_then : LivesAs m own (began_by m found act.layout) new_memory
        (new_task found.branch branch_workspace) (owed_at_label n.branch.label n.branch.turns)
        (label_state n.branch.label) (with_turns n.branch.turns act)
    branch_lives_then =
        let then : Local = record {
          registers = (new_task found.branch branch_workspace).registers;
          memory = new_memory;
        } in
        let begins : BeginsAtLabel n.branch act (held_by_opener found.par base (length w.memory) row.role.own)
        opened_memory point.state.depth t.registers.workspace =
        subst (λ (g : Holding). BeginsAtLabel n.branch act (held_by_opener found.par base (length w.memory) g)
        opened_memory point.state.depth t.registers.workspace) held_is (n.begins base can_now) in
        let size = (openings_take_their_words m found.row found.par point.act.layout base row.role.own w.memory
        point.state.depth t.registers.workspace can).size in
        branch_lives m d wf c found n.branch own act then
        (branches_are_contexts m found keeps b.is.row b.is.branch).numbered
        (subst (λ (k : ℕ). After m (held_by_branch m found base plan.addresses k) machine_modes.Plain
        (with_turns n.branch.turns act) (label_state n.branch.label) then) size
        (begins base plan.addresses then can_start refl refl))

    -- ---- what it goes on with

    abbrev label : LabelStands m found.par (with_turns n.goes_after.turns point.act) w.memory
    label = label_stands n.goes_after

    first : IsFirstJoin m found (with_turns n.goes_after.turns point.act) base next new
    first = is_first_join m p (length w.memory) found (with_turns n.goes_after.turns point.act) row.role.own w.memory
        t.registers.workspace new laid

    behind : Behind m row.role.own row.start found.par.context point.act.layout w.memory point.callers
    behind = subst (λ (k : ℕ). Behind m row.role.own row.start k point.act.layout w.memory point.callers)
        (sym b.context) (subst (λ (g : Holding). Behind m g row.start point.state.context point.act.layout w.memory
        point.callers) held_is
        (behind_of {m = m} {h = held row.role} {began = row.start} point.state.mode {context = point.state.context}
        {layout = point.act.layout} {memory = w.memory} {callers = point.callers} still l.behind))

    -- what is owed at the label after the PAR, and what callers owe
    abbrev due : ℕ
    due = owed_at_label n.goes_after.label n.goes_after.turns + owed_behind point.callers

    abbrev s : Beginning
    s = record {
      task = starter_task;
      join = next;
      child = new_task found.branch branch_workspace;
      own = own;
      began = began_by m found act.layout;
      memory = new_memory;
      channels = with_channels p base found.par.channels w.channels;
      queue = record w.queue { ready = w.queue.ready ++ new ∷ [] };
      left = after.number;
      owing = owed_at_label n.branch.label n.branch.turns;
      waiting = due;
    }

    abbrev every : List Began
    every = h.began ++ began_by m found act.layout ∷ []

    low : p < new
    low = slice_get_within w.tasks p t r.here

    not_new : new ≢ p
    not_new same = let below = low in omega (arith, same, below)

    starts_now : IsStarter m starter_task starter_lives_on.lives.point found.par next
        (with_turns n.goes_after.turns point.act)
    starts_now = record {
      ready = r.ready;
      mode = ap (λ (u : State). u.mode) starter_lives_on.state_is ∙ b.goes_on.mode
          ∙ ap (λ (k : ℕ). states_modes.Starting found.row (k + 1)) n.first;
      context = ap (λ (u : State). u.context) starter_lives_on.state_is ∙ b.goes_on.context;
      depth = ap (λ (u : State). u.depth) starter_lives_on.state_is ∙ b.goes_on.depth_is ∙ sym b.depth;
      origin = ap (λ (a : Activation). a.layout.origin) starter_lives_on.act_is;
      starts = λ k. ap (λ (a : Activation). a.layout.starts k) starter_lives_on.act_is;
      back = ap (λ (a : Activation). a.layout.back) starter_lives_on.act_is;
    }

    -- no process is a member before the PAR is opened
    no_member : (q : ℕ) (branch : Role) → slice_get w.roles q ≡ Some branch → branch.opener ≡ Some p
        → (IsGone w.tasks branch q → ⊥) → ⊥
    no_member q branch has by alive = elim (order.branches.counted q branch p has by) [
      | inl gone ↦ alive gone
      | inr counts ↦
          let same = same_some (slice_get w.roles p) counts.role row.role counts.here row.has_role in
          let no' : None ≡ Some counts.join =
          sym none_open ∙ (ap (λ (role : Role). role.opened) (sym same) ∙ counts.is_open) in
          cc
    ]

    opens : OpenerGoesOn m w h p t r.here s (it_lives starter_lives_on.lives)
    opens = record {
      start = row.start;
      has_start = row.has_start;
      after_par = after_first can b.is b.left n.first label first point.callers due refl;
      pending = opening_makes can b.is b.left n.first label first p row.start every (began_by m found act.layout)
          (got_end h.began (began_by m found act.layout) new h.counted.begun) not_new refl point.callers behind due
          refl;
      starts = starts_now;
      newest = becomes_member m found found.par point.act.layout act.layout keeps b.is b.left refl
          (record { origin = refl; starts = λ k. refl }) refl;
      members = λ q branch began has by alive at. absurd (no_member q branch has by alive);
      channels = channels_made m found.row found.par point.act.layout base w.memory point.state.depth
          t.registers.workspace w.roles w.channels order.holders p row.role row.has_role unopened order.cells can;
    }

    lengths : (e : End) → has_end own e ≡ true → LengthAgrees m s.channels (began_by m found act.layout) e
    lengths e has = branch_lengths can_start can.named (record { origin = refl; starts = λ k. refl }) row.start
        (behind_lengths behind) s.channels
        (λ end owns. agrees_still (channels_stay m found.row found.par point.act.layout base w.memory point.state.depth
        t.registers.workspace w.roles w.channels order.holders p row.role row.has_role unopened order.cells can)
        (h.lengths p row.role row.start end row.has_role row.has_start owns))
        (λ k channel at. let cell = channels_made m found.row found.par point.act.layout base w.memory
        point.state.depth t.registers.workspace w.roles w.channels order.holders p row.role row.has_role unopened
        order.cells can k channel at in (cell.0, cell.1, cell.2)) (length w.memory) e has

    -- ---- it changes its own words, and the others go on

    changes : ChangesOwn (held row.role) w.memory new_memory
    changes =
        let both = first_tests m w.memory row.role.own plan found branch_workspace tests in
        subst (λ (g : Holding). ChangesOwn g w.memory new_memory) (sym held_is)
        (changes_more row.role.own w.memory opened_memory new_memory
        (opening_is_own row.role.own plan w.memory both.1.held)
        (scheduling_is_own row.role.own (length w.memory) plan found branch_workspace opened_memory
        (λ q mine. left_claims (length w.memory) row.role.own (hidden base found.par) (to_write q) mine) both.0.share))

    keeps_own : KeepsMemory m (held row.role) (scope_of m point.state.context point.act.layout) w.memory new_memory
    keeps_own = subst (λ (k : ℕ). KeepsMemory m (held row.role) (scope_of m k point.act.layout) w.memory new_memory)
        b.context (subst (λ (g : Holding). KeepsMemory m g (scope_of m found.par.context point.act.layout) w.memory
        new_memory) (sym held_is) (opening_keeps can b.is b.left n.first label first))

    changer : Changer m w h.began p new_memory
    changer = step_changes m w h.began p t r.here row.role row.has_role row.start row.has_start row.due none_open
        (λ over. let no' : Ready ≡ Ended = sym r.ready ∙ over in cc) l still new_memory changes keeps_own

    shows : StartShows m w h p t r.here s
    shows =
        let waited = got_within h.pending_dues p
        (let below = low in let many = h.counted.pending in omega (arith, below, many)) in
        record {
          starter = it_lives starter_lives_on.lives;
          starting = refl;
          branch = it_lives branch_lives_then.lives;
          plain = refl;
          waited = waited.0;
          has_waited = waited.1;
          paid =
              let owes = l.paid in
              let all = owed_still point.state.mode point.state point.act point.callers still in
              let pays = n.paid in
              let last = r.last in
              omega (arith, owes, all, pays, last);
          opener = opens;
          pendings = λ q role k has is differ. openers_stay m w h order.branches new_memory order.holders p changer
              q role k has is unopened;
          channels = channels_stay m found.row found.par point.act.layout base w.memory point.state.depth
              t.registers.workspace w.roles w.channels order.holders p row.role row.has_role unopened order.cells can;
          lengths = lengths;
          others = begotten_others m w h order p t r.here r.ready s
              (channels_stay m found.row found.par point.act.layout base w.memory point.state.depth
              t.registers.workspace w.roles w.channels order.holders p row.role row.has_role unopened order.cells can)
              (λ k cell at. elim (made_is_quiet p base found.par.channels w.channels k cell at) [
                | inl old ↦ inl old
                | inr new ↦ inr new.1
              ]) changes;
        }

    begotten_well : Holds m (begotten w p row.role s)
    begotten_well = begotten_holds m w h p t r.here s order.as_many r.ready shows

    -- the world after the start, by what the process holds, with the branch's workspace there
    abbrev plan_by : Holding → Plan
    plan_by g = first_plan m p t.registers.workspace g w.memory found

    abbrev started_at : Holding → ℕ → World
    started_at g a = counted (started (at_here m p t pick) (plan_by g) found a
        (opened (at_here m p t pick) (plan_by g) (without_registers local) w).0
        (opened (at_here m p t pick) (plan_by g) (without_registers local) w).1)

    holds_own : holding_at w.roles p ≡ row.role.own
    holds_own =
        ap (λ (o : Option Role). elim o as (λ o. Holding) [ None ↦ nothing | Some role ↦ held role ]) row.has_role
        ∙ held_is

    -- None of the tests of the start fails.
    pub first_start_passes : first_fault (first_faults m w.memory (holding_at w.roles p)
        (plan_by (holding_at w.roles p)) found workspace) ≡ None
    first_start_passes =
        subst (λ (g : Holding). first_fault (first_faults m w.memory g (plan_by g) found workspace) ≡ None)
        (sym holds_own)
        (subst (λ (a : ℕ). first_fault (first_faults m w.memory row.role.own plan found a) ≡ None)
        (sym (b.workspace_is base is_base)) tests)

    -- And the invariant holds afterwards.
    pub first_start_holds : Holds m (started_at (holding_at w.roles p) workspace)
    first_start_holds =
        let same = started_is (at_here m p t pick) plan found branch_workspace
        (opened (at_here m p t pick) plan (without_registers local) w).0
        (opened (at_here m p t pick) plan (without_registers local) w).1 row.role row.has_role in
        subst (λ (g : Holding). Holds m (started_at g workspace)) (sym holds_own)
        (subst (λ (a : ℕ). Holds m (started_at row.role.own a)) (sym (b.workspace_is base is_base))
        (subst (λ (v : World). Holds m v) (sym same) begotten_well))
