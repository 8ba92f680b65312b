-- What `in` and `out` come to, by the tests that both have in common.
use Rattle.std.proofs.Common.{◌≡◌, ◌&&◌, true, false, Result, Err, refl, sym, subst, ◌∙◌}
use Rattle.module_format.specs.declared.rows.Direction.{Direction}
use Rattle.module_format.specs.declared.rows.Direction.TheVariants.{In, Out}
use Rattle.machine_state.specs.declared.cpu.Cpu.{Cpu}
use Rattle.machine_state.specs.declared.fault.FaultKind.{FaultKind}
use Rattle.machine_state.specs.declared.fault.FaultKind.TheVariants.{NotOwn}
use Rattle.machine_state.specs.declared.process.Exchange.{Exchange}
use Rattle.machine_state.specs.declared.store.LoadStore.{Ghosts}
use Rattle.machine_state.specs.Site.{Site, Local, Outcome, fails}
use Rattle.machine_state.specs.LocalStep.{alone, exchanges, holds, schedules, apart_from_scheduling, operation_step}
use Rattle.machine_state.specs.LocalStep.{holds_scheduling_words, without_registers}
use Rattle.machine_state.specs.Performing.{site_of, local_of}
use Rattle.machine_state.proofs.Scheduling.{schedules-is}
use Rattle.operations.specs.Exchanging.{may_use_bytes, operation_for, goes_through, AsksForMessage}

-- a message whose bytes are still to be tested
abbrev tested : Site → Direction → Exchange → Local → Outcome
tested s d e l =
    holds (may_use_bytes s.holding d e.address e.length && apart_from_scheduling l e.address e.length) NotOwn
    (goes_through d e l)

pub message_step : (s : Site) (d : Direction) (l : Local)
    → operation_step s (operation_for d) l ≡ alone s.mode (exchanges s d l (tested s d))
unfolding operation_step
message_step s In l = refl
message_step s Out l = refl

-- what is at fault has no message
pub without_message : {S : Type 0} → (ghosts : Ghosts S) (cpu : Cpu S) (d : Direction)
    (result : Result Exchange FaultKind) (kind : FaultKind)
    → operation_step (site_of ghosts cpu) (operation_for d) (local_of ghosts cpu) ≡ fails kind
    → result ≡ Err kind → AsksForMessage ghosts cpu d result
without_message ghosts cpu d result kind step is = subst (AsksForMessage ghosts cpu d) (sym is) step

module _ (s : Site) (d : Direction) (l : Local) (e : Exchange) (passes : (o : Outcome) → alone s.mode o ≡ o)
    (asks : (k : Exchange → Local → Outcome) → exchanges s d l k
    ≡ schedules s l (λ l. k e (without_registers l))) where
  step_is : operation_step s (operation_for d) l ≡ schedules s l (λ l. tested s d e (without_registers l))
  step_is = message_step s d l ∙ (passes (exchanges s d l (tested s d)) ∙ asks (tested s d))

  -- where the words that scheduling takes are not the process's own
  pub unscheduled : holds_scheduling_words s.holding l.registers.workspace ≡ false
      → operation_step s (operation_for d) l ≡ fails NotOwn
  unscheduled held =
      step_is ∙ (schedules-is s l (λ l. tested s d e (without_registers l)) ∙ rw held refl)

  -- where the bytes are not, or meet these words
  pub unusable : holds_scheduling_words s.holding l.registers.workspace ≡ true
      → (may_use_bytes s.holding d e.address e.length && apart_from_scheduling l e.address e.length) ≡ false
      → operation_step s (operation_for d) l ≡ fails NotOwn
  unfolding holds
  unusable held test =
      step_is ∙ (schedules-is s l (λ l. tested s d e (without_registers l)) ∙ rw (held, test) refl)
