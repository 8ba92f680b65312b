-- How many bytes an event executes.
use Rattle.std.proofs.Common.{◌≡◌, ℕ, ◌+◌, ◌<◌, Bool, true, false, if◌then◌else◌, ℤ, Option, Some, None, Result, Ok}
use Rattle.std.proofs.Common.{Err}
use Rattle.std.proofs.Common.{refl, sym, ap, ◌∙◌, subst}
use Rattle.std.specs.Prelude.{slice_get, is_some, nat_le, nat_lt, ⊤, length}
use Rattle.std.proofs.lemmas.Bool.{lt-leb}
use Rattle.prefix_decoder.specs.declared.function.Fun.{Fun}
use Rattle.prefix_decoder.specs.Functions.{fun_of, function_code, nibble}
use Rattle.prefix_decoder.specs.Operand.{with_nibble, after_prefix}
use Rattle.module_format.specs.Contents.{Contents}
use Rattle.machine_state.specs.declared.event.Event.{Event}
use Rattle.machine_state.specs.declared.event.Event.TheVariants.{Step, Arrive, Acknowledge}
use Rattle.machine_state.specs.declared.fault.Fault.{Fault}
use Rattle.machine_state.specs.declared.fault.FaultKind.TheVariants.{OutsideCode}
use Rattle.machine_state.specs.declared.link.Link.{Link}
use Rattle.machine_state.specs.declared.process.Task.{Task}
use Rattle.machine_state.specs.World.{World}
use Rattle.machine_state.specs.Site.{Outcome}
use Rattle.machine_state.specs.LocalStep.{local_step}
use Rattle.machine_state.specs.Moves.{counted, put}
use Rattle.machine_state.specs.Turn.{Turn, Effect, Here, at_here, answered, failed, ran, emitted, idle}
use Rattle.machine_state.specs.Happens.{site_of, turn, happens, event_turn, step_turn, task_turn, byte_turn}
use Rattle.machine_state.specs.Happens.{prefix_turn}
use Rattle.machine_state.specs.Happens.{settled, most_executed}
use Rattle.machine_state.specs.EventLaws.{bytes_of}
use Rattle.machine_state.specs.Endings.{Happened, was_at_fault, it_rests, is_busy, arrives_nowhere, is_ignored}
use Rattle.machine_state.specs.Endings.{is_taken}
use Rattle.machine_state.specs.Endings.{is_kept, is_acknowledged, TurnsInto, at_fault, has_run, has_emitted}
use Rattle.machine_state.specs.Waiting.{Line, AllReady, line_of}
use Rattle.machine_state.proofs.EventLaws.{events_count_bytes, faults_are_kept}
use Rattle.machine_state.proofs.Turns.{settled_ends, turn_happens}
use Rattle.verifier.specs.Headline.{cost}

-- a byte is executed, or there is a fault
abbrev IsByte : Result Effect Fault → Type 0
IsByte (Err f) = ⊤
IsByte (Ok ran) = ⊤
IsByte (Ok (emitted link bytes)) = ⊤
IsByte (Ok _) = ⊥

one_byte : (answer : Result Effect Fault) → IsByte answer → ((f : Fault) → answer ≡ Err f → ⊥) → bytes_of answer ≡ 1
one_byte (Err f) is never = absurd (never f refl)
one_byte (Ok ran) is never = refl
one_byte (Ok (emitted link bytes)) is never = refl
one_byte (Ok _) is never = absurd is

ended_is_byte : (h : Here) (w : World) (o : Outcome) (t : Turn) → TurnsInto h w o t → IsByte t.answer
ended_is_byte h w o t (at_fault refused) = tt
ended_is_byte h w o t (has_run moved) = tt
ended_is_byte h w o t (has_emitted e l k on same) = tt

-- a Step of a task is a byte
task_is_byte : (h : Here) (slice : Bool) (w : World) → IsByte (task_turn h slice w).answer
task_is_byte h slice w = on_byte (slice_get h.contents.code h.from.registers.at)
  where
    on_next : (operand : ℤ) (b : Bool) → IsByte (if b
        then answered ran (counted (put h.process
        (record h.from { registers = record h.from.registers { at = h.next; operand = operand } }) w.memory w))
        else failed h OutsideCode w).answer
    on_next operand true = tt
    on_next operand false = tt

    on_function : (byte : ℕ) (operand : ℤ) (f : Option Fun) → IsByte (elim f as (λ f. Turn) [
      | Some f ↦ settled h slice
          (local_step (site_of h w) f operand (record { registers = h.from.registers; memory = w.memory })) w
      | None ↦ prefix_turn h (after_prefix (function_code byte) operand) w
    ]).answer
    on_function byte operand None = on_next (after_prefix (function_code byte) operand)
        (nat_lt h.next (length h.contents.code))
    on_function byte operand (Some f) = ended_is_byte h w _ _ (settled_ends h w slice
        (local_step (site_of h w) f operand (record { registers = h.from.registers; memory = w.memory })))

    on_byte : (o : Option ℕ) → IsByte (elim o as (λ o. Turn)
        [ None ↦ failed h OutsideCode w | Some byte ↦ byte_turn h byte slice w ]).answer
    on_byte None = tt
    on_byte (Some byte) =
        on_function byte (with_nibble h.from.registers.operand (nibble byte)) (fun_of (function_code byte))

module _ (m : Contents) (w : World) (line : Line w.tasks w.queue) (small : w.counters.executed < most_executed) where
  -- the process that runs is there
  running_there : (p : ℕ) → w.queue.running ≡ Some p → (task : Task) × (slice_get w.tasks p ≡ Some task)
  running_there p runs =
      let first = (subst (λ (o : Option ℕ). AllReady w.tasks (line_of o w.queue.ready)) runs line.ready).0 in
      (first.task, first.here)

  -- a Step is a byte if a process runs, and else nothing
  step_bytes : (slice : Bool) (pick : ℕ) → ((f : Fault) → (step_turn m slice pick w).answer ≡ Err f → ⊥)
      → bytes_of (step_turn m slice pick w).answer ≡ (if is_some w.queue.running then 1 else 0)
  step_bytes slice pick = on w.queue.running refl
    where
      under : (p : ℕ) → (o : Option Task) → Turn
      under p o = elim o as (λ o. Turn)
          [ None ↦ answered idle w | Some task ↦ task_turn (at_here m p task pick) slice w ]

      limited : (p : ℕ) → Bool → Option Task → Turn
      limited p b o = if b then answered idle w else under p o

      on : (o : Option ℕ) → w.queue.running ≡ o → let t = elim o as (λ o. Turn) [
        | None ↦ answered idle w
        | Some p ↦ limited p (nat_le most_executed w.counters.executed) (slice_get w.tasks p)
      ] in ((f : Fault) → t.answer ≡ Err f → ⊥) → bytes_of t.answer ≡ (if is_some o then 1 else 0)
      on None runs never = refl
      on (Some p) runs never =
          let there = running_there p runs in
          let below : nat_le most_executed w.counters.executed ≡ false = lt-leb _ _ small in
          let same : limited p (nat_le most_executed w.counters.executed) (slice_get w.tasks p)
          ≡ task_turn (at_here m p there.0 pick) slice w =
          ap (λ b. limited p b (slice_get w.tasks p)) below ∙ ap (under p) there.1 in
          ap (λ (t : Turn). bytes_of t.answer) same
          ∙ one_byte _ (task_is_byte (at_here m p there.0 pick) slice w)
          (λ f is. never f (ap (λ (t : Turn). t.answer) same ∙ is))

  arrival_bytes : (link : Link) (byte : ℕ) (t : Turn) → Happened m w (Arrive link byte) t → bytes_of t.answer ≡ 0
  arrival_bytes link byte t (was_at_fault f is) = refl
  arrival_bytes link byte t (it_rests is_busy) = refl
  arrival_bytes link byte t (it_rests arrives_nowhere) = refl
  arrival_bytes link byte t (is_taken input p here waiting) = refl
  arrival_bytes link byte t (is_kept input here nobody empty) = refl

  acknowledgement_bytes : (link : Link) (t : Turn) → Happened m w (Acknowledge link) t → bytes_of t.answer ≡ 0
  acknowledgement_bytes link t (was_at_fault f is) = refl
  acknowledgement_bytes link t (it_rests is_ignored) = refl
  acknowledgement_bytes link t (is_acknowledged output p here waiting) = refl

  turn_is : w.fault ≡ None → (e : Event) → turn m w e ≡ event_turn m e w
  unfolding turn
  turn_is none e = ap (λ (f : Option Fault). elim f as (λ f. Turn)
      [ None ↦ event_turn m e w | Some f ↦ record { world = w; answer = Err f } ]) none

  bytes : w.fault ≡ None → (e : Event) → ((f : Fault) → (turn m w e).answer ≡ Err f → ⊥)
      → bytes_of (turn m w e).answer ≡ cost w e
  bytes none (Step slice pick) never =
      let same = turn_is none (Step slice pick) in
      ap (λ (t : Turn). bytes_of t.answer) same ∙ step_bytes slice pick
      (λ f is. never f (ap (λ (t : Turn). t.answer) same ∙ is))
  bytes none (Arrive link byte) never = arrival_bytes link byte _ (turn_happens m w (Arrive link byte))
  bytes none (Acknowledge link) never = acknowledgement_bytes link _ (turn_happens m w (Acknowledge link))

  -- an event that is at no fault adds what it costs to the count
  pub costs_are_counted : w.fault ≡ None → (e : Event) → (happens m w e).fault ≡ None
      → (happens m w e).counters.executed ≡ w.counters.executed + cost w e
  costs_are_counted none e after = events_count_bytes m w e
      ∙ ap (λ n. w.counters.executed + n) (bytes none e
      (λ f fails. let no : None ≡ Some f = sym after ∙ faults_are_kept m w e f fails in cc))
