-- An event that reports no fault brings none into the world.
use Rattle.std.proofs.Common.{◌≡◌, ℕ, ◌+◌, Bool, true, false, if◌then◌else◌, Option, Some, None, Result, Ok, Err, refl}
use Rattle.std.proofs.Common.{◌∙◌, subst, slice_get, slice_set}
use Rattle.std.specs.Prelude.{◌%◌, ◌^◌, ⊤, ◌==◌, ℤ}
use Rattle.module_format.specs.Contents.{Contents, Par}
use Rattle.machine_state.specs.declared.event.Event.{Event}
use Rattle.machine_state.specs.declared.fault.Fault.{Fault}
use Rattle.machine_state.specs.declared.link.InputLink.{InputLink}
use Rattle.machine_state.specs.declared.process.Task.{Task}
use Rattle.machine_state.specs.declared.process.Condition.{Condition}
use Rattle.machine_state.specs.declared.process.Condition.TheVariants.{Sending, OnLink}
use Rattle.machine_state.specs.World.{World, Join, Role}
use Rattle.machine_state.specs.Site.{Outcome, Local}
use Rattle.machine_state.specs.Turn.{Here, Turn, Effect}
use Rattle.machine_state.specs.Moves.{on_task, fill, fill_condition, dispatch}
use Rattle.machine_state.specs.Alternations.{chosen, selected}
use Rattle.machine_state.specs.Joins.{on_role, member_joined, ended, given_back, closed_task}
use Rattle.machine_state.specs.Exchanges.{waits_at}
use Rattle.machine_state.specs.Holding.{nothing}
use Rattle.machine_state.specs.Happens.{answered, turn, happens}
use Rattle.machine_state.specs.Memory.{place_of, with_byte}
use Rattle.machine_state.proofs.MovesLeaveAlone.{on_task_only, wake_only, rouse_only, joined_either, with_opened}
use Rattle.machine_state.proofs.MovesLeaveAlone.{without}
use Rattle.machine_state.proofs.MovesLeaveAlone.{member_gone}
use Rattle.machine_state.specs.Endings as turns
use Rattle.machine_state.proofs.Turns.{turn_happens}
use Rattle.machine_state.specs.Endings.{Moved, TurnsInto, Happened}

abbrev SameFault : World → World → Type 0
SameFault w after = after.fault ≡ w.fault

by_test : (b : Bool) (w x y : World) → SameFault w x → SameFault w y → SameFault w (if b then x else y)
by_test true w x y p q = p
by_test false w x y p q = q

role_fault : (p : ℕ) (f : Role → Role) (w : World) → SameFault w (on_role p f w)
role_fault p f w = on (slice_get w.roles p)
  where
    on : (o : Option Role)
        → SameFault w (elim o [ None ↦ w | Some role ↦ record w { roles = slice_set w.roles p (f role) } ])
    on None = refl
    on (Some role) = refl

fill_fault : (p k byte : ℕ) (link : InputLink) (w : World) → SameFault w (fill p k byte link w)
fill_fault p k byte link w = on (slice_get w.tasks p)
  where
    on_condition : (c : Condition) → SameFault w (fill_condition p k byte link c w)
    on_condition (OnLink exchange done) =
        by_test (done + 1 == exchange.length) w _ _ (wake_only p _).fault
        (on_task_only p (λ task. record task { condition = OnLink exchange (done + 1) })
        (record w {
          memory = with_byte w.memory (place_of ((exchange.address + done) % 2 ^ 32)) (Some byte);
        })).fault
    on_condition _ = refl

    on : (o : Option Task)
        → SameFault w (elim o [ None ↦ w | Some task ↦ fill_condition p k byte link task.condition w ])
    on None = refl
    on (Some task) = on_condition task.condition

joined_fault : (h : Here) (o : ℕ) (j : Join) (par : Par) (w : World) → SameFault w (member_joined h o j par w)
unfolding dispatch
joined_fault h o j par w = joined_either (SameFault w) h o j par w
    (λ none. role_fault o (with_opened None) (on_task o (closed_task j par) there)
    ∙ ((on_task_only o (closed_task j par) there).fault ∙ gone))
    (λ some. gone)
  where
    there : World
    there = member_gone h o j w

    gone : SameFault w there
    gone = role_fault o (with_opened (Some (without h.process j))) w

chosen_fault : (h : Here) (is_ready : Bool) (distance : ℤ) (l : Local) (w : World)
    → SameFault w (chosen h is_ready distance l w)
chosen_fault h is_ready distance l w = by_test (selected h.from.mode is_ready distance) w _ _ refl refl

moved_fault : (h : Here) (w : World) (o : Outcome) (after : World) → Moved h w o after → SameFault w after
unfolding dispatch
moved_fault h w o after (turns.it_goes l) = refl
moved_fault h w o after (turns.it_jumps to l) = refl
moved_fault h w o after (turns.it_is_sliced to l) = refl
moved_fault h w o after (turns.it_lands to l) = refl
moved_fault h w o after (turns.it_stops l) = refl
moved_fault h w o after (turns.receives_first e l c inside here nobody) = refl
moved_fault h w o after (turns.receives_from e l c other sent inside here partner is same) = (wake_only other _).fault
moved_fault h w o after (turns.receives_none e l k link on here none) = refl
moved_fault h w o after (turns.receives_last e l k link byte on here kept one) = refl
moved_fault h w o after (turns.receives_one e l k link byte on here kept more) = refl
moved_fault h w o after (turns.sends_first e l c inside here nobody) =
    (rouse_only c.enabled (waits_at h (Sending e) e.channel c l w)).fault
moved_fault h w o after (turns.sends_to e l c other wanted inside here partner is same) = (wake_only other _).fault
moved_fault h w o after (turns.starts_first target workspace l found is none tests) = role_fault h.process _ _
moved_fault h w o after (turns.starts_later target workspace l found j is is_open same tests) =
    role_fault h.process _ _
moved_fault h w o after (turns.joins_own block l j par is row all) = joined_fault h h.process j par (ended h l w)
moved_fault h w o after (turns.joins_opener block l opener j par none by is row same) =
    joined_fault h opener j par (given_back h (ended h l w))
    ∙ role_fault h.process (λ role. record role { own = nothing }) (ended h l w)
moved_fault h w o after (turns.it_begins l) = refl
moved_fault h w o after (turns.it_enables guard address l s holds (turns.on_channel c inside here) once) = refl
moved_fault h w o after (turns.it_enables guard address l s holds (turns.on_link k link outside here) once) = refl
moved_fault h w o after (turns.it_enables_nothing guard address l fails) = refl
moved_fault h w o after (turns.it_enables_a_skip guard l) = refl
moved_fault h w o after (turns.it_is_ready l is) = refl
moved_fault h w o after (turns.it_waits l is) = refl
moved_fault h w o after (turns.it_disables guard address distance l s holds (turns.on_channel c inside here) own) =
    chosen_fault h _ distance l w
moved_fault h w o after (turns.it_disables guard address distance l s holds (turns.on_link k link outside here) own) =
    chosen_fault h _ distance l w
moved_fault h w o after (turns.it_disables_nothing guard address distance l fails) =
    chosen_fault h false distance l w
moved_fault h w o after (turns.it_disables_a_skip guard distance l) = chosen_fault h guard distance l w
moved_fault h w o after (turns.it_ends_alternation to l none) = refl

-- an answer that is no fault leaves the world's fault as it was
abbrev LeavesBy : Result Effect Fault → World → World → Type 0
LeavesBy (Ok d) w after = SameFault w after
LeavesBy (Err f) w after = ⊤

abbrev LeavesFault : World → Turn → Type 0
LeavesFault w t = LeavesBy t.answer w t.world

end_leaves : (h : Here) (w : World) (o : Outcome) (t : Turn) → TurnsInto h w o t → LeavesFault w t
unfolding dispatch
end_leaves h w o t (turns.at_fault refused) = tt
end_leaves h w o t (turns.has_run moved) = moved_fault h w o _ moved
end_leaves h w o t (turns.has_emitted e l k on same) = refl

rest_leaves : (w : World) (on : Event) (e : Effect) → turns.Rests on e → LeavesFault w (answered e w)
rest_leaves w on e turns.is_idle = refl
rest_leaves w on e turns.is_busy = refl
rest_leaves w on e turns.arrives_nowhere = refl
rest_leaves w on e turns.is_ignored = refl

leaves : (m : Contents) (w : World) (e : Event) (t : Turn) → Happened m w e t → LeavesFault w t
unfolding dispatch
leaves m w e t (turns.was_at_fault f is) = tt
leaves m w e t (turns.it_rests rests) = rest_leaves w e _ rests
leaves m w e t (turns.is_outside p task why runs here) = tt
leaves m w e t (turns.is_prefix p task byte operand runs here at none it next) = refl
leaves m w e t (turns.is_step p task byte f runs here at is ends) = end_leaves _ w _ t ends
leaves m w e t (turns.is_taken input p here waits) = fill_fault p _ _ input w
leaves m w e t (turns.is_kept input here nobody empty) = (rouse_only input.enabled _).fault
leaves m w e t (turns.is_acknowledged output p here waits) = (wake_only p _).fault

pub no_new_fault : (m : Contents) (w : World) (e : Event) (d : Effect) → (turn m w e).answer ≡ Ok d
    → (happens m w e).fault ≡ w.fault
no_new_fault m w e d told =
    subst (λ (a : Result Effect Fault). LeavesBy a w (happens m w e)) told
    (leaves m w e (turn m w e) (turn_happens m w e))
