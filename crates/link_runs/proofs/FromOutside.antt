-- What comes from outside executes nothing.
use Rattle.std.proofs.Common.{◌≡◌, ℕ, ◌+◌, true, Ok, Err, refl, ap, ◌∙◌, add-zero}
use Rattle.module_format.specs.Contents.{Contents}
use Rattle.machine_state.specs.declared.event.Event.{Event}
use Rattle.machine_state.specs.declared.event.Event.TheVariants.{Step, Arrive, Acknowledge}
use Rattle.machine_state.specs.World.{World}
use Rattle.machine_state.specs.EventLaws.{bytes_of}
use Rattle.machine_state.specs.Endings as turns
use Rattle.machine_state.specs.Endings.{Happened, Rests}
use Rattle.machine_state.specs.Happens.{Turn, turn, happens}
use Rattle.machine_state.proofs.EventLaws.{events_count_bytes}
use Rattle.machine_state.proofs.Turns.{turn_happens}
use Rattle.link_runs.specs.Deadlocks.{is_from_outside}

abbrev CountsNothing : Event → Turn → Type 0
CountsNothing (Step slice pick) t = Unit {0}
CountsNothing (Arrive link byte) t = bytes_of t.answer ≡ 0
CountsNothing (Acknowledge link) t = bytes_of t.answer ≡ 0

rests_uncounted : {e : Event} {effect : _} (w : World) → Rests e effect
    → CountsNothing e (record { world = w; answer = Ok effect })
rests_uncounted w turns.is_idle = tt
rests_uncounted w turns.is_busy = refl
rests_uncounted w turns.arrives_nowhere = refl
rests_uncounted w turns.is_ignored = refl

fails_uncounted : (e : Event) (w : World) (f : _) → CountsNothing e (record { world = w; answer = Err f })
fails_uncounted (Step slice pick) w f = tt
fails_uncounted (Arrive link byte) w f = refl
fails_uncounted (Acknowledge link) w f = refl

uncounted : (m : Contents) (w : World) (e : Event) (t : Turn) → Happened m w e t → CountsNothing e t
uncounted m w e t (turns.was_at_fault f is) = fails_uncounted e w f
uncounted m w e t (turns.it_rests rests) = rests_uncounted w rests
uncounted m w e t (turns.is_outside p task why runs here) = tt
uncounted m w e t (turns.is_prefix p task byte operand runs here at none it next) = tt
uncounted m w e t (turns.is_step p task byte f runs here at is ends) = tt
uncounted m w e t (turns.is_taken input p here waits) = refl
uncounted m w e t (turns.is_kept input here nobody empty) = refl
uncounted m w e t (turns.is_acknowledged output p here waits) = refl

by_event : (m : Contents) (w : World) (e : Event) → is_from_outside e ≡ true → CountsNothing e (turn m w e)
    → bytes_of (turn m w e).answer ≡ 0
by_event m w (Step slice pick) is none = absurd (cc)
by_event m w (Arrive link byte) is none = none
by_event m w (Acknowledge link) is none = none

pub outside_counts_nothing : (m : Contents) (w : World) (e : Event) → is_from_outside e ≡ true
    → (happens m w e).counters.executed ≡ w.counters.executed
outside_counts_nothing m w e is =
    events_count_bytes m w e
    ∙ (ap (λ (n : ℕ). w.counters.executed + n)
    (by_event m w e is (uncounted m w e (turn m w e) (turn_happens m w e))) ∙ add-zero w.counters.executed)
