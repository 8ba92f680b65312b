-- A later start of a PAR keeps the invariant.
use Rattle.std.proofs.Common.{◌≡◌, ◌≢◌, ℕ, ◌+◌, true, List, [], ◌∷◌, ◌++◌, length, Option, Some, None, refl}
use Rattle.std.proofs.Common.{inl, sym, ap, ◌∙◌, subst, arith}
use Rattle.std.proofs.lemmas.Bool.{eq-eqb}
use Rattle.std.proofs.lemmas.Option.{slice_get_within}
use Rattle.std.specs.Prelude.{slice_get, ◌==◌}
use Rattle.small_laws.proofs.Lookups.{slice_get-append_left}
use Rattle.module_format.specs.Contents.{Contents, Par}
use Rattle.module_format.specs.Keeping as formats
use Rattle.machine_state.specs.declared.holding.End.{End}
use Rattle.machine_state.specs.declared.process.Mode.TheVariants as machine_modes
use Rattle.machine_state.specs.declared.process.Task.{Task}
use Rattle.machine_state.specs.BranchShares.{frame_address}
use Rattle.machine_state.specs.Frame.{ChangesOwn}
use Rattle.machine_state.specs.Happens.{between}
use Rattle.machine_state.specs.Holding.{Holding, has_end}
use Rattle.machine_state.specs.JoinLookups.{Found, opened_by}
use Rattle.machine_state.specs.Joins.{join_after, started, new_task}
use Rattle.machine_state.specs.LocalStep.{without_registers}
use Rattle.machine_state.specs.Memory.{Memory}
use Rattle.machine_state.specs.Moves.{counted}
use Rattle.machine_state.specs.Site.{Local}
use Rattle.machine_state.specs.StartPlans.{Plan, later_plan, first_fault, later_faults}
use Rattle.machine_state.specs.Turn.{at_here}
use Rattle.machine_state.specs.World.{World, Join, held}
use Rattle.machine_state.proofs.FoundContexts.{branches_are_contexts}
use Rattle.machine_state.proofs.Starting.{later_tests}
use Rattle.states.specs.declared.known.Mode.TheVariants as states_modes
use Rattle.states.specs.State.{State, label_state}
use Rattle.rulings.specs.Fitting.{After}
use Rattle.rulings.specs.Meaning.{IsWellFormed, with_turns}
use Rattle.rulings.specs.Regions.{scope_of, HoldsNamed}
use Rattle.share_laws.specs.Shares.{IsLaidOut}
use Rattle.share_laws.specs.Starts.{CanStart, held_by_branch, held_by_starter}
use Rattle.share_laws.specs.Taking.{memory_after_start}
use Rattle.share_laws.proofs.GoingOn.{starters_go_on}
use Rattle.share_laws.proofs.Prepared.{later_starts_pass}
use Rattle.start_laws.specs.BranchLabels.{owed_at_label}
use Rattle.start_laws.specs.Starting.{StartsBranch, StartsNext}
use Rattle.certified_worlds.specs.Certified.{Reaches, IsCertified}
use Rattle.certified_worlds.specs.Invariant.{LengthAgrees, Holds}
use Rattle.certified_worlds.specs.Lives.{it_lives}
use Rattle.certified_worlds.specs.Pending.{IsStarter}
use Rattle.certified_worlds.specs.Point.{Began, Decodes}
use Rattle.certified_worlds.proofs.BehindKeeps.{behind_lengths}
use Rattle.certified_worlds.proofs.BranchLengths.{branch_lengths}
use Rattle.certified_worlds.proofs.GrownLists.{got_end}
use Rattle.certified_worlds.proofs.LivesAs.{LivesAs}
use Rattle.certified_worlds.proofs.OrderlyWorlds.{IsOrderly, IsAtLastByte}
use Rattle.certified_worlds.proofs.OthersAfterStarts.{begotten_others}
use Rattle.certified_worlds.proofs.OwnWords.{scheduling_is_own}
use Rattle.certified_worlds.proofs.ParsStay.{Changer, starter_changes, others_stay}
use Rattle.certified_worlds.proofs.StartedWorlds.{Beginning, begotten, started_is, OpenerGoesOn, StartShows}
use Rattle.certified_worlds.proofs.StartedWorlds.{begotten_holds}
use Rattle.certified_worlds.proofs.StartsKeepPars.{IsOneMore, is_one_more, after_next, starter_alike, starter_laid}
use Rattle.certified_worlds.proofs.StartsKeepPars.{starter_goes_on, began_by, becomes_member, same_par, start_keeps}
use Rattle.certified_worlds.proofs.StartsKeepPars.{start_leaves}
use Rattle.certified_worlds.proofs.StartsLive.{owed_among, starter_lives, branch_lives}
use Rattle.certified_worlds.proofs.Standing.{standing, own_join, lives_next, same_starts}

module _ (m : Contents) (d : Decodes m) (wf : IsWellFormed m) (keeps : formats.Keeps m) (c : IsCertified m) (w : World)
    (h : Holds m w) (order : IsOrderly m w) (p : ℕ) (t : Task) (r : IsAtLastByte m w h p t) where
  open standing d wf c r use {row, l, point, x, local}

  -- It starts the next branch of its PAR, by its rule, and goes on in this state.
  module _ (after : State) (found : Found) (target workspace : ℕ)
      (b : StartsBranch x point.state after local found target workspace)
      (n : StartsNext x point.state after local found)
      (reached : Reaches m (t.registers.began + point.instr.len) (Some after)) (j : Join)
      (opened : opened_by w p ≡ Some j) (pick : ℕ) where
    open own_join r j opened use {is_open, opener, starter}

    -- what is left to it
    held_is : held row.role ≡ j.rest
    held_is = ap (λ (o : Option Join). elim o as (λ o. Holding) [ None ↦ row.role.own | Some join ↦ join.rest ]) is_open

    row_is : found.row ≡ j.row
    row_is = (same_starts r (own_join r j opened) n.mode).0

    number_is : found.number ≡ j.started
    number_is = (same_starts r (own_join r j opened) n.mode).1

    par_is : found.par ≡ opener.after.par
    par_is = same_par opener.pending found keeps b.is b.left row_is number_is

    laid : IsLaidOut m found.par point.act.layout j.base j.parameters
    laid = subst (λ (par : Par). IsLaidOut m par point.act.layout j.base j.parameters) (sym par_is)
        (starter_laid opener.after starter)

    can : CanStart m found point.act.layout j.base j.parameters (held row.role) w.memory point.state.depth
        t.registers.workspace
    can = n.can j.base j.parameters laid (order.inside p row.role row.has_role)

    abbrev plan : Plan
    plan = later_plan m j found.par

    -- It is a branch of the row of the open PAR, and none of the tests of the start fails.
    pub later_row : (found.row == j.row) ≡ true
    later_row = eq-eqb found.row j.row row_is

    abbrev branch_workspace : ℕ
    branch_workspace = frame_address j.base found.branch.workspace

    tests : first_fault (later_faults (length w.memory) plan found branch_workspace) ≡ None
    tests = later_starts_pass m j found point.act.layout w.memory point.state.depth t.registers.workspace
        (subst (λ (g : Holding). CanStart m found point.act.layout j.base j.parameters g w.memory point.state.depth
        t.registers.workspace) held_is can) number_is

    pub later_start_passes : first_fault (later_faults (length w.memory) plan found workspace) ≡ None
    later_start_passes = subst (λ (a : ℕ). first_fault (later_faults (length w.memory) plan found a) ≡ None)
        (sym (b.workspace_is j.base laid.origin)) tests

    abbrev new : ℕ
    new = length w.tasks

    abbrev next : Join
    next = join_after (length w.memory) plan found new

    abbrev new_memory : Memory
    new_memory = memory_after_start found j.base w.memory

    abbrev own : Holding
    own = held_by_branch m found j.base j.parameters (length w.memory)

    more : IsOneMore j next new
    more = is_one_more m j (length w.memory) found new (order.holders.places p j opened)
        (subst (λ (k : ℕ). slice_get m.pars k ≡ Some found.par) row_is b.is.row)

    -- ---- both processes

    abbrev starter_task : Task
    starter_task = record t {
      registers = between (t.registers.at + 1) (without_registers local).registers;
      mode = machine_modes.Starting;
    }

    starter_lives_on : LivesAs m next.rest row.start new_memory starter_task after.number after point.act
    starter_lives_on =
        let after_it = starters_go_on m found point.act j.base j.parameters (held row.role) w.memory point.state.depth
        t.registers.workspace after
        (record { registers = (without_registers local).registers; memory = new_memory }) can b.goes_on refl refl in
        let goes = subst (λ (g : Holding). After m (held_by_starter m found j.base j.parameters g (length w.memory))
        machine_modes.Starting point.act after
        (record { registers = (without_registers local).registers; memory = new_memory })) held_is after_it in
        lives_next r (without_registers local).registers (starter_lives m d wf c next.rest row.start point.act
        (t.registers.began + point.instr.len) after
        (record { registers = (without_registers local).registers; memory = new_memory }) point.callers found.row
        (found.number + 1) b.goes_on.mode reached b.low goes)

    branch_lives_then : LivesAs m own (began_by m found point.act.layout) new_memory
        (new_task found.branch branch_workspace) (owed_at_label n.branch.label n.branch.turns)
        (label_state n.branch.label) (with_turns n.branch.turns point.act)
    branch_lives_then =
        let then : Local = record {
          registers = (new_task found.branch branch_workspace).registers;
          memory = new_memory;
        } in
        branch_lives m d wf c found n.branch own point.act then
        (branches_are_contexts m found keeps b.is.row b.is.branch).numbered
        (n.begins j.base j.parameters then can refl refl)

    -- ---- the world after

    abbrev s : Beginning
    s = record {
      task = starter_task;
      join = next;
      child = new_task found.branch branch_workspace;
      own = own;
      began = began_by m found point.act.layout;
      memory = new_memory;
      channels = w.channels;
      queue = record w.queue { ready = w.queue.ready ++ new ∷ [] };
      left = after.number;
      owing = owed_at_label n.branch.label n.branch.turns;
      waiting = opener.due;
    }

    abbrev every : List Began
    every = h.began ++ began_by m found point.act.layout ∷ []

    not_new : new ≢ p
    not_new same = let low = slice_get_within w.tasks p t r.here in omega (arith, same, low)

    starts_still : IsStarter m starter_task starter_lives_on.lives.point opener.after.par next opener.after.act
    starts_still = starter_goes_on opener.after starter more starter_lives_on.lives.point r.ready
        (ap (λ (u : State). u.mode) starter_lives_on.state_is ∙ b.goes_on.mode
        ∙ ap (λ (k : ℕ). states_modes.Starting k (found.number + 1)) row_is
        ∙ ap (λ (k : ℕ). states_modes.Starting j.row (k + 1)) number_is)
        (ap (λ (u : State). u.context) starter_lives_on.state_is ∙ b.goes_on.context ∙ b.context)
        (ap (λ (u : State). u.depth) starter_lives_on.state_is ∙ b.goes_on.depth_is) starter_lives_on.act_is

    opens : OpenerGoesOn m w h p t r.here s (it_lives starter_lives_on.lives)
    opens = record {
      start = opener.start;
      has_start = opener.has_start;
      after_par = after_next more opener.after;
      pending = start_leaves opener.pending found keeps b.is b.left row_is number_is more every
          (began_by m found point.act.layout) (λ q first at. slice_get-append_left h.began
          (began_by m found point.act.layout ∷ []) q first at)
          (got_end h.began (began_by m found point.act.layout) new h.counted.begun) not_new refl;
      starts = starts_still;
      newest = becomes_member m found opener.after.par opener.after.act.layout point.act.layout keeps b.is b.left par_is
          (starter_alike opener.after starter) starter.back;
      members = opener.members;
      channels = opener.channels;
    }

    -- messages at the branch's ends are as long as it knows
    lengths : (e : End) → has_end own e ≡ true → LengthAgrees m w.channels (began_by m found point.act.layout) e
    lengths e has =
        let named = subst (λ (par : Par). HoldsNamed m row.role.own (scope_of m par.context opener.after.act.layout)
        w.memory) (sym par_is) opener.pending.named in
        branch_lengths can named (starter_alike opener.after starter) opener.start
        (behind_lengths opener.pending.behind) w.channels
        (λ end owns. h.lengths p row.role opener.start end row.has_role opener.has_start owns) (λ k channel at.
        let cell = opener.channels k channel (subst (λ (par : Par). slice_get par.channels k ≡ Some channel) par_is at)
        in
        (cell.0, cell.1, cell.2)) (length w.memory) e has

    -- ---- it changes its own words, and the others go on

    changes_left : ChangesOwn j.rest w.memory new_memory
    changes_left = scheduling_is_own j.rest (length w.memory) plan found branch_workspace w.memory (λ q mine. mine)
        (later_tests (length w.memory) plan found branch_workspace tests).share

    changes : ChangesOwn (held row.role) w.memory new_memory
    changes = subst (λ (g : Holding). ChangesOwn g w.memory new_memory) (sym held_is) changes_left

    changer : Changer m w h.began p new_memory
    changer = starter_changes m w h order.branches new_memory order.holders p row.role j row.has_role is_open
        changes_left
        (start_keeps opener.pending found keeps b.is b.left row_is number_is)

    shows : StartShows m w h p t r.here s
    shows = record {
      starter = it_lives starter_lives_on.lives;
      starting = refl;
      branch = it_lives branch_lives_then.lives;
      plain = refl;
      waited = opener.due;
      has_waited = opener.has_due;
      paid =
          let owes = l.paid in
          let among = owed_among point.state.mode found.row found.number point.state point.act point.callers n.mode in
          let pays = n.paid in
          let last = r.last in
          omega (arith, owes, among, pays, last);
      opener = opens;
      pendings = λ q role k has is differ. others_stay m w h order.branches new_memory order.holders p changer q
          role k has is differ j opened
          changes_left;
      channels = λ k cell at. at;
      lengths = lengths;
      others = begotten_others m w h order p t r.here r.ready s (λ k cell at. at) (λ k cell at. inl at) changes;
    }

    begotten_well : Holds m (begotten w p row.role s)
    begotten_well = begotten_holds m w h p t r.here s order.as_many r.ready shows

    -- the world after the start, with the branch's workspace there
    abbrev started_at : ℕ → World
    started_at a = counted (started (at_here m p t pick) plan found a (without_registers local) w)

    -- the invariant holds in it
    pub later_start_holds : Holds m (started_at workspace)
    later_start_holds = subst (λ (a : ℕ). Holds m (started_at a)) (sym (b.workspace_is j.base laid.origin))
        (subst (λ (v : World). Holds m v) (sym (started_is (at_here m p t pick) plan found branch_workspace
        (without_registers local) w row.role row.has_role)) begotten_well)
