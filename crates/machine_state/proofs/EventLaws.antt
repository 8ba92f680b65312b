-- The laws of one event, by the ways in which its turn ends.
use Rattle.std.proofs.Common.{◌≡◌, ℕ, ◌+◌, Bool, true, false, if◌then◌else◌, Option, Some, None, Result, Ok, Err, refl}
use Rattle.std.proofs.Common.{sym, ap, ◌∙◌, subst, slice_get, add-zero}
use Rattle.std.specs.Prelude.{◌%◌, ◌^◌, ⊤, ◌==◌, ℤ}
use Rattle.module_format.specs.Contents.{Contents, Par}
use Rattle.machine_state.specs.declared.event.Event.{Event}
use Rattle.machine_state.specs.declared.fault.Fault.{Fault}
use Rattle.machine_state.specs.declared.link.InputLink.{InputLink}
use Rattle.machine_state.specs.declared.process.Task.{Task}
use Rattle.machine_state.specs.declared.process.Condition.{Condition}
use Rattle.machine_state.specs.declared.process.Condition.TheVariants.{Sending, OnLink}
use Rattle.machine_state.specs.World.{World, Join, Counters}
use Rattle.machine_state.specs.Site.{Outcome, Local}
use Rattle.machine_state.specs.Turn.{Here, Turn, Effect}
use Rattle.machine_state.specs.Moves.{wake, fill, fill_condition, rouse, dispatch}
use Rattle.machine_state.specs.Alternations.{chosen, selected}
use Rattle.machine_state.specs.Joins.{member_joined, ended, given_back}
use Rattle.machine_state.specs.Exchanges.{waits_at}
use Rattle.machine_state.specs.Holding.{nothing}
use Rattle.machine_state.specs.Happens.{answered, turn}
use Rattle.machine_state.specs.EventLaws.{bytes_of, EventsCountBytes, FaultsAreKept, FaultsStay}
use Rattle.machine_state.specs.Memory.{place_of, with_byte}
use Rattle.machine_state.proofs.MovesLeaveAlone.{on_task_only, wake_only, rouse_only, on_role_only, joined_quiet}
use Rattle.machine_state.specs.Endings as turns
use Rattle.machine_state.proofs.Turns.{turn_happens}
use Rattle.machine_state.specs.Endings.{Moved, TurnsInto, Happened}

-- ---- faults

abbrev StaysIfFault : Result Effect Fault → World → Type 0
StaysIfFault (Ok d) w = ⊤
StaysIfFault (Err f) w = w.fault ≡ Some f

end_stays : (h : Here) (w : World) (o : Outcome) (t : Turn) → TurnsInto h w o t → StaysIfFault t.answer t.world
end_stays h w o t (turns.at_fault refused) = refl
end_stays h w o t (turns.has_run moved) = tt
end_stays h w o t (turns.has_emitted e l k on same) = tt

stays : (m : Contents) (w : World) (e : Event) (t : Turn)
    → Happened m w e t → StaysIfFault t.answer t.world
stays m w e t (turns.was_at_fault f is) = is
stays m w e t (turns.it_rests rests) = tt
stays m w e t (turns.is_outside p task why runs here) = refl
stays m w e t (turns.is_prefix p task byte operand runs here at none it next) = tt
stays m w e t (turns.is_step p task byte f runs here at is ends) = end_stays _ w _ t ends
stays m w e t (turns.is_taken input p here waits) = tt
stays m w e t (turns.is_kept input here nobody empty) = tt
stays m w e t (turns.is_acknowledged output p here waits) = tt

pub faults_are_kept : FaultsAreKept
faults_are_kept m w e f is =
    subst (λ a. StaysIfFault a (turn m w e).world) is
    (stays m w e (turn m w e) (turn_happens m w e))

pub faults_stay : FaultsStay
unfolding turn
faults_stay m w e f is = rw is

-- ---- the count

abbrev SameCount : World → World → Type 0
SameCount w after = after.counters ≡ w.counters

by_test : (b : Bool) (w x y : World) → SameCount w x → SameCount w y → SameCount w (if b then x else y)
by_test true w x y p q = p
by_test false w x y p q = q

wake_count : (p : ℕ) (w : World) → SameCount w (wake p w)
wake_count p w = (wake_only p w).counters

rouse_count : (o : Option ℕ) (w : World) → SameCount w (rouse o w)
rouse_count o w = (rouse_only o w).counters

fill_count : (p k byte : ℕ) (link : InputLink) (w : World) → SameCount w (fill p k byte link w)
fill_count p k byte link w = on (slice_get w.tasks p)
  where
    on_condition : (c : Condition) → SameCount w (fill_condition p k byte link c w)
    on_condition (OnLink exchange done) =
        by_test (done + 1 == exchange.length) w _ _ (wake_count p _)
        ((on_task_only p (λ task. record task { condition = OnLink exchange (done + 1) })
        (record w {
          memory = with_byte w.memory (place_of ((exchange.address + done) % 2 ^ 32)) (Some byte);
        })).counters)
    on_condition _ = refl

    on : (o : Option Task)
        → SameCount w (elim o [ None ↦ w | Some task ↦ fill_condition p k byte link task.condition w ])
    on None = refl
    on (Some task) = on_condition task.condition

joined_count : (h : Here) (opener : ℕ) (j : Join) (par : Par) (w : World) → SameCount w (member_joined h opener j par w)
joined_count h opener j par w = (joined_quiet h opener j par w).counters

chosen_count : (h : Here) (is_ready : Bool) (distance : ℤ) (l : Local) (w : World)
    → SameCount w (chosen h is_ready distance l w)
chosen_count h is_ready distance l w = by_test (selected h.from.mode is_ready distance) w _ _ refl refl

moved_count : (h : Here) (w : World) (o : Outcome) (after : World) → Moved h w o after
    → after.counters.executed ≡ w.counters.executed
unfolding dispatch
moved_count h w o after (turns.it_goes l) = refl
moved_count h w o after (turns.it_jumps to l) = refl
moved_count h w o after (turns.it_is_sliced to l) = refl
moved_count h w o after (turns.it_lands to l) = refl
moved_count h w o after (turns.it_stops l) = refl
moved_count h w o after (turns.receives_first e l c inside here nobody) = refl
moved_count h w o after (turns.receives_from e l c other sent inside here partner is same) =
    ap (λ (c : Counters). c.executed) (wake_count other _)
moved_count h w o after (turns.receives_none e l k link on here none) = refl
moved_count h w o after (turns.receives_last e l k link byte on here kept one) = refl
moved_count h w o after (turns.receives_one e l k link byte on here kept more) =
    refl
moved_count h w o after (turns.sends_first e l c inside here nobody) =
    ap (λ (c : Counters). c.executed) (rouse_count c.enabled (waits_at h (Sending e) e.channel c l w))
moved_count h w o after (turns.sends_to e l c other wanted inside here partner is same) =
    ap (λ (c : Counters). c.executed) (wake_count other _)
moved_count h w o after (turns.starts_first target workspace l found is none tests) =
    ap (λ (c : Counters). c.executed) (on_role_only h.process _ _).quiet.counters
moved_count h w o after (turns.starts_later target workspace l found j is is_open same tests) =
    ap (λ (c : Counters). c.executed) (on_role_only h.process _ _).quiet.counters
moved_count h w o after (turns.joins_own block l j par is row all) =
    ap (λ (c : Counters). c.executed) (joined_count h h.process j par (ended h l w))
moved_count h w o after (turns.joins_opener block l opener j par none by is row same) =
    ap (λ (c : Counters). c.executed) (joined_count h opener j par (given_back h (ended h l w))
    ∙ (on_role_only h.process (λ role. record role { own = nothing }) (ended h l w)).quiet.counters)
moved_count h w o after (turns.it_begins l) = refl
moved_count h w o after (turns.it_enables guard address l s holds (turns.on_channel c inside here) once) = refl
moved_count h w o after (turns.it_enables guard address l s holds (turns.on_link k link outside here) once) = refl
moved_count h w o after (turns.it_enables_nothing guard address l fails) = refl
moved_count h w o after (turns.it_enables_a_skip guard l) = refl
moved_count h w o after (turns.it_is_ready l is) = refl
moved_count h w o after (turns.it_waits l is) = refl
moved_count h w o after (turns.it_disables guard address distance l s holds (turns.on_channel c inside here) own) =
    ap (λ (c : Counters). c.executed) (chosen_count h _ distance l w)
moved_count h w o after (turns.it_disables guard address distance l s holds (turns.on_link k link outside here) own) =
    ap (λ (c : Counters). c.executed) (chosen_count h _ distance l w)
moved_count h w o after (turns.it_disables_nothing guard address distance l fails) =
    ap (λ (c : Counters). c.executed) (chosen_count h false distance l w)
moved_count h w o after (turns.it_disables_a_skip guard distance l) =
    ap (λ (c : Counters). c.executed) (chosen_count h guard distance l w)
moved_count h w o after (turns.it_ends_alternation to l none) = refl

abbrev Counts : World → Turn → Type 0
Counts w t = t.world.counters.executed ≡ w.counters.executed + bytes_of t.answer

end_counts : (h : Here) (w : World) (o : Outcome) (t : Turn) → TurnsInto h w o t → Counts w t
unfolding dispatch
end_counts h w o t (turns.at_fault refused) = sym (add-zero w.counters.executed)
end_counts h w o t (turns.has_run moved) = ap (λ (n : ℕ). n + 1) (moved_count h w o _ moved)
end_counts h w o t (turns.has_emitted e l k on same) = refl

rest_counts : (w : World) (on : Event) (e : Effect) → turns.Rests on e → Counts w (answered e w)
rest_counts w on e turns.is_idle = sym (add-zero w.counters.executed)
rest_counts w on e turns.is_busy = sym (add-zero w.counters.executed)
rest_counts w on e turns.arrives_nowhere = sym (add-zero w.counters.executed)
rest_counts w on e turns.is_ignored = sym (add-zero w.counters.executed)

counts : (m : Contents) (w : World) (e : Event) (t : Turn)
    → Happened m w e t → Counts w t
unfolding dispatch
counts m w e t (turns.was_at_fault f is) = sym (add-zero w.counters.executed)
counts m w e t (turns.it_rests rests) = rest_counts w e _ rests
counts m w e t (turns.is_outside p task why runs here) = sym (add-zero w.counters.executed)
counts m w e t (turns.is_prefix p task byte operand runs here at none it next) = refl
counts m w e t (turns.is_step p task byte f runs here at is ends) = end_counts _ w _ t ends
counts m w e t (turns.is_taken input p here waits) =
    ap (λ (c : Counters). c.executed) (fill_count p _ _ input w) ∙ sym (add-zero w.counters.executed)
counts m w e t (turns.is_kept input here nobody empty) =
    ap (λ (c : Counters). c.executed) (rouse_count input.enabled _) ∙ sym (add-zero w.counters.executed)
counts m w e t (turns.is_acknowledged output p here waits) =
    ap (λ (c : Counters). c.executed) (wake_count p _) ∙ sym (add-zero w.counters.executed)

pub events_count_bytes : EventsCountBytes
events_count_bytes m w e = counts m w e (turn m w e) (turn_happens m w e)

pub ruleset reported_faults = (faults_are_kept, faults_stay)

pub ruleset counting = (events_count_bytes)
