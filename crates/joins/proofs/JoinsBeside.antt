-- What comes of a start of a branch and of its end, whatever the counters and the fault are.
use Rattle.std.proofs.Common.{◌≡◌, ℕ, Bool, List, length, Option, Some, None, if◌then◌else◌, refl, ap, ◌∙◌}
use Rattle.std.specs.Prelude.{◌==◌, ◌&&◌, slice_get, slice_set}
use Rattle.module_format.specs.Contents.{Par}
use Rattle.machine_state.specs.declared.fault.Fault.{Fault}
use Rattle.machine_state.specs.declared.fault.FaultKind.{FaultKind}
use Rattle.machine_state.specs.declared.fault.FaultKind.TheVariants.{JoinOrder}
use Rattle.machine_state.specs.declared.process.Mode.TheVariants.{Starting}
use Rattle.machine_state.specs.Moves.{counted, put, on_task, enqueue, leave, dispatch}
use Rattle.machine_state.specs.Roles.{members_without, with_join, without_join, without_own, branch_role}
use Rattle.machine_state.specs.Site.{Local}
use Rattle.machine_state.specs.Turn.{Here, Turn, answered, between, failed, followed, ran}
use Rattle.machine_state.specs.World.{World, Role, Join, Counters, holding_at}
use Rattle.machine_state.specs.Joins.{start_or_fail, on_role, started, opened, first_start_turn, later_start_turn}
use Rattle.machine_state.specs.Joins.{start_turn, on_row, own_end, branch_end, join_turn, member_joined, closed}
use Rattle.machine_state.specs.Joins.{closed_task}
use Rattle.machine_state.specs.Joins.{ended, given_back, without_words, join_after, new_task, without_channels}
use Rattle.machine_state.specs.StartPlans.{Plan, first_fault, first_plan, first_faults, later_plan, later_faults}
use Rattle.machine_state.specs.StartPlans.{no_row_faults, scheduling_addresses, share_by}
use Rattle.machine_state.specs.JoinLookups.{Found, found_at, opened_by, opener_of}
use Rattle.machine_state.specs.BranchShares.{holding_of}
use Rattle.traffic.specs.Starting.{with_process}
use Rattle.traffic.specs.Beside.{beside, counted_beside, CountsBeside}
use Rattle.traffic.proofs.Beside.{either, maybe, on_task-beside}
use Rattle.traffic.proofs.TurnsBeside.{either_turn, maybe_turn, executed-beside, followed-beside, left-beside}

module _ (c : Counters) (f : Option Fault) where
  -- ---- a start

  start_or_fail-beside : (h : Here) (tests : List (Bool × FaultKind)) (after w : World) {v : World}
      → v ≡ beside c f after
      → start_or_fail h tests v (beside c f w) ≡ counted_beside c f (start_or_fail h tests after w)
  start_or_fail-beside h tests after w {v} same = on (first_fault tests)
    where
      on : (first : Option FaultKind)
          → elim first as (λ o. Turn) [
            | Some kind ↦ failed h kind (beside c f w)
            | None ↦ followed h (answered ran (counted v)) (beside c f w)
          ] ≡ counted_beside c f (elim first as (λ o. Turn) [
            | Some kind ↦ failed h kind w
            | None ↦ followed h (answered ran (counted after)) w
          ])
      on None = followed-beside c f h (answered ran (counted after)) w (executed-beside c f ran after same)
      on (Some kind) = refl

  on_role-beside : (p : ℕ) (g : Role → Role) (w : World) → on_role p g (beside c f w) ≡ beside c f (on_role p g w)
  on_role-beside p g w =
      maybe c f (slice_get w.roles p) w (λ role. record w { roles = slice_set w.roles p (g role) }) refl (λ role. refl)

  started-beside : (h : Here) (plan : Plan) (found : Found) (workspace : ℕ) (l : Local) (w : World)
      → started h plan found workspace l (beside c f w) ≡ beside c f (started h plan found workspace l w)
  started-beside h plan found workspace l w =
      let new = length w.tasks in
      let task = record h.from { registers = between h.next l.registers; mode = Starting } in
      let memory = without_words (scheduling_addresses workspace) l.memory in
      let role : Role = branch_role h.process (holding_of h.contents (length w.memory) (share_by plan found.branch)) in
      ap (λ (v : World). enqueue new (with_process (new_task found.branch workspace) role v))
      (on_role-beside h.process (with_join (join_after (length w.memory) plan found new)) (put h.process task memory w))

  first-beside : (h : Here) (found : Found) (workspace : ℕ) (l : Local) (w : World)
      → first_start_turn h found workspace l (beside c f w)
      ≡ counted_beside c f (first_start_turn h found workspace l w)
  first-beside h found workspace l w =
      let holding = holding_at w.roles h.process in
      let plan = first_plan h.contents h.process h.from.registers.workspace holding w.memory found in
      let there = opened h plan l w in
      start_or_fail-beside h (first_faults h.contents w.memory holding plan found workspace)
      (started h plan found workspace there.0 there.1) w (started-beside h plan found workspace there.0 there.1)

  later-beside : (h : Here) (join : Join) (found : Found) (workspace : ℕ) (l : Local) (w : World)
      → later_start_turn h join found workspace l (beside c f w)
      ≡ counted_beside c f (later_start_turn h join found workspace l w)
  later-beside h join found workspace l w =
      let plan = later_plan h.contents join found.par in
      let tests = later_faults (length w.memory) plan found workspace in
      let none = no_row_faults join.rest workspace in
      let after = started h plan found workspace l w in
      either_turn c f (found.row == join.row) (start_or_fail h tests after w) (start_or_fail h none w w)
      (start_or_fail-beside h tests after w (started-beside h plan found workspace l w))
      (start_or_fail-beside h none w w refl)

  start-beside : (h : Here) (target workspace : ℕ) (l : Local) (w : World)
      → start_turn h target workspace l (beside c f w) ≡ counted_beside c f (start_turn h target workspace l w)
  start-beside h target workspace l w =
      let none = no_row_faults (holding_at w.roles h.process) workspace in
      maybe_turn c f (found_at h.contents target) (start_or_fail h none w w)
      (λ found. elim (opened_by w h.process) as (λ o. Turn) [
        | None ↦ first_start_turn h found workspace l w
        | Some join ↦ later_start_turn h join found workspace l w
      ])
      (start_or_fail-beside h none w w refl)
      (λ found. maybe_turn c f (opened_by w h.process) (first_start_turn h found workspace l w)
      (λ join. later_start_turn h join found workspace l w) (first-beside h found workspace l w)
      (λ join. later-beside h join found workspace l w))

  -- ---- a join

  on_row-beside : (h : Here) (join : Join) (w : World) (k : Par → Turn) {t : Par → Turn}
      → ((par : Par) → t par ≡ counted_beside c f (k par))
      → on_row h join (beside c f w) t ≡ counted_beside c f (on_row h join w k)
  on_row-beside h join w k each =
      maybe_turn c f (slice_get h.contents.pars join.row) (failed h JoinOrder w) k refl each

  closed-beside : (opener : ℕ) (join : Join) (par : Par) (w : World)
      → closed opener join par (beside c f w) ≡ beside c f (closed opener join par w)
  closed-beside opener join par w =
      let there : World = on_task opener (closed_task join par) w in
      ap (λ (v : World). record v {
        channels = without_channels opener v.channels;
        queue = record v.queue { running = Some opener };
      }) (ap (on_role opener without_join) (on_task-beside c f opener (closed_task join par) w)
      ∙ on_role-beside opener without_join there)

  joined-beside : (h : Here) (opener : ℕ) (join : Join) (par : Par) (w : World) {v : World} → v ≡ beside c f w
      → member_joined h opener join par v ≡ beside c f (member_joined h opener join par w)
  joined-beside h opener join par w same =
      let members = members_without h.process join.members in
      let left : Role → Role = λ role. record role { opened = Some (record join { members = members }) } in
      let there : World = on_role opener left w in
      let moved = on_role-beside opener left w in
      ap (member_joined h opener join par) same
      ∙ either c f (length members == 0) (closed opener join par there) (dispatch h.pick (leave there))
      (ap (closed opener join par) moved ∙ closed-beside opener join par there) (left-beside c f h there moved)

  own_end-beside : (h : Here) (join : Join) (block : ℕ) (l : Local) (w : World)
      → own_end h join block l (beside c f w) ≡ counted_beside c f (own_end h join block l w)
  own_end-beside h join block l w =
      let there : World = ended h l w in
      let after : Par → World = λ par. member_joined h h.process join par there in
      let is_whole : Par → Bool = λ par. (join.block == block) && (join.started == length par.branches) in
      on_row-beside h join w
      (λ par. if is_whole par then answered ran (counted (after par)) else failed h JoinOrder w)
      (λ par. either_turn c f (is_whole par) (answered ran (counted (after par))) (failed h JoinOrder w)
      (executed-beside c f ran (after par) (joined-beside h h.process join par there refl)) refl)

  branch_end-beside : (h : Here) (opener : ℕ) (join : Join) (block : ℕ) (l : Local) (w : World)
      → branch_end h opener join block l (beside c f w) ≡ counted_beside c f (branch_end h opener join block l w)
  branch_end-beside h opener join block l w =
      let there : World = given_back h (ended h l w) in
      let after : Par → World = λ par. member_joined h opener join par there in
      on_row-beside h join w
      (λ par. if join.block == block then answered ran (counted (after par)) else failed h JoinOrder w)
      (λ par. either_turn c f (join.block == block) (answered ran (counted (after par))) (failed h JoinOrder w)
      (executed-beside c f ran (after par)
      (joined-beside h opener join par there (on_role-beside h.process without_own (ended h l w)))) refl)

  join-beside : (h : Here) (block : ℕ) (l : Local) (w : World)
      → join_turn h block l (beside c f w) ≡ counted_beside c f (join_turn h block l w)
  join-beside h block l w =
      maybe_turn c f (opened_by w h.process)
      (elim (opener_of w h.process) as (λ o. Turn) [
        | None ↦ failed h JoinOrder w
        | Some opener ↦ elim (opened_by w opener) as (λ o. Turn) [
          | None ↦ failed h JoinOrder w
          | Some join ↦ branch_end h opener join block l w
        ]
      ])
      (λ join. own_end h join block l w)
      (maybe_turn c f (opener_of w h.process) (failed h JoinOrder w)
      (λ opener. elim (opened_by w opener) as (λ o. Turn) [
        | None ↦ failed h JoinOrder w
        | Some join ↦ branch_end h opener join block l w
      ])
      refl
      (λ opener. maybe_turn c f (opened_by w opener) (failed h JoinOrder w)
      (λ join. branch_end h opener join block l w) refl (λ join. branch_end-beside h opener join block l w)))
      (λ join. own_end-beside h join block l w)

pub starts_beside : (h : Here) (target workspace : ℕ) (l : Local) → CountsBeside (start_turn h target workspace l)
starts_beside h target workspace l = λ c f w. start-beside c f h target workspace l w

pub joins_beside : (h : Here) (block : ℕ) (l : Local) → CountsBeside (join_turn h block l)
joins_beside h block l = λ c f w. join-beside c f h block l w
