-- What a plain Step can do.
use Rattle.std.proofs.Common.{◌≡◌, ◌≢◌, ℕ, ◌+◌, ◌<◌, nat_le, Bool, true, false, List, Option, Some, None, is_some, Ok}
use Rattle.std.proofs.Common.{Err}
use Rattle.std.proofs.Common.{slice_get, refl, ap, sym, subst, ◌∙◌, arith, cond, length, nat_lt, ℤ}
use Rattle.std.proofs.lemmas.Bool.{leb-true}
use Rattle.prefix_decoder.specs.declared.function.Fun.{Fun}
use Rattle.prefix_decoder.specs.Functions.{fun_of, function_code, nibble}
use Rattle.prefix_decoder.specs.Operand.{with_nibble, after_prefix}
use Rattle.module_format.specs.Contents.{Contents}
use Rattle.machine_state.specs.declared.fault.Fault.{Fault}
use Rattle.machine_state.specs.declared.link.Link.{Link}
use Rattle.machine_state.specs.declared.process.Task.{Task}
use Rattle.machine_state.specs.World.{World}
use Rattle.machine_state.specs.declared.fault.FaultKind.TheVariants.{OutsideCode}
use Rattle.machine_state.specs.Site.{Outcome}
use Rattle.machine_state.specs.LocalStep.{local_step}
use Rattle.machine_state.specs.Moves.{counted, put}
use Rattle.machine_state.specs.Waiting.{Line, AllReady, line_of}
use Rattle.machine_state.specs.EventLaws.{bytes_of}
use Rattle.machine_state.specs.Happens.{Effect, ran, idle, emitted, answered, Here, Turn, turn, happens}
use Rattle.machine_state.specs.Happens.{failed, site_of, settled, prefix_turn, byte_turn, task_turn, step_turn}
use Rattle.machine_state.specs.Happens.{most_executed}
use Rattle.machine_state.proofs.EventLaws.{events_count_bytes}
use Rattle.machine_state.specs.Endings as turns
use Rattle.machine_state.specs.Endings.{TurnsInto}
use Rattle.machine_state.proofs.Turns.{settled_ends}
use Rattle.link_runs.specs.FirstInFirstOut.{plain_step}
use Rattle.link_runs.specs.Wanting.{is_running}

-- ---- one Step

-- A Step finds no running process, executes a byte, or is at fault.
pub data Steps (w : World) : Turn → Type 0 where
  idles : (Line w.tasks w.queue → w.counters.executed < most_executed → w.queue.running ≡ None)
      → Steps w (answered idle w)
  runs : is_running w ≡ true → (after : World) → Steps w (answered ran after)
  emits : is_running w ≡ true → (link : Link) (bytes : List ℕ) (after : World)
      → Steps w (answered (emitted link bytes) after)
  faults : (after : World) (f : Fault) → Steps w (record { world = after; answer = Err f })

-- an instruction of a process
abbrev here_at : Contents → ℕ → Task → Here
here_at m p task = record { contents = m; process = p; from = task; next = task.registers.at + 1; pick = 0 }

steps_ended : (h : Here) (o : Outcome) (w : World) (t : Turn) → is_running w ≡ true → TurnsInto h w o t → Steps w t
steps_ended h o w t is (turns.at_fault refused) = faults _ _
steps_ended h o w t is (turns.has_run moved) = runs is _
steps_ended h o w t is (turns.has_emitted e l k on same) = emits is _ _ _

steps_prefix : (h : Here) (operand : ℤ) (w : World) → is_running w ≡ true → Steps w (prefix_turn h operand w)
steps_prefix h operand w is =
    let later : Task = record h.from { registers = record h.from.registers { at = h.next; operand = operand } } in
    elim (nat_lt h.next (length h.contents.code)) as (λ b. Steps w
    (cond b (answered ran (counted (put h.process later w.memory w))) (failed h OutsideCode w))) [
      | true ↦ runs is _
      | false ↦ faults _ _
    ]

steps_byte : (m : Contents) (p : ℕ) (task : Task) (byte : ℕ) (w : World) → is_running w ≡ true
    → Steps w (byte_turn (here_at m p task) byte false w)
steps_byte m p task byte w is =
    let operand = with_nibble task.registers.operand (nibble byte) in
    let site = site_of (here_at m p task) w in
    let step = λ (f : Fun). local_step site f operand (turns.local_here task w) in
    elim (fun_of (function_code byte)) as (λ o. Steps w (elim o [
      | Some f ↦ settled (here_at m p task) false (step f) w
      | None ↦ prefix_turn (here_at m p task) (after_prefix (function_code byte) operand) w
    ])) [
      | None ↦ steps_prefix (here_at m p task) (after_prefix (function_code byte) operand) w is
      | Some f ↦ steps_ended (here_at m p task) (step f) w _ is (settled_ends (here_at m p task) w false (step f))
    ]

steps_task : (m : Contents) (p : ℕ) (task : Task) (w : World) → is_running w ≡ true
    → Steps w (task_turn (here_at m p task) false w)
steps_task m p task w is =
    elim (slice_get m.code task.registers.at) as (λ o. Steps w (elim o [
      | None ↦ failed (here_at m p task) OutsideCode w
      | Some byte ↦ byte_turn (here_at m p task) byte false w
    ])) [
      | None ↦ faults _ _
      | Some byte ↦ steps_byte m p task byte w is
    ]

-- the process that runs is there
process_there : (w : World) (p : ℕ) → w.queue.running ≡ Some p → slice_get w.tasks p ≡ None
    → Line w.tasks w.queue → w.queue.running ≡ None
process_there w p running absent line =
    let first = subst (λ (o : Option ℕ). AllReady w.tasks (line_of o w.queue.ready)) running line.ready in
    absurd (nobody (sym absent ∙ first.0.here))
  where
    nobody : {x : Task} → None ≡ Some x → ⊥
    nobody e = cc

steps_process : (m : Contents) (p : ℕ) (w : World) (over : Bool) (o : Option Task) → w.queue.running ≡ Some p
    → nat_le most_executed w.counters.executed ≡ over → slice_get w.tasks p ≡ o
    → Steps w (cond over (answered idle w) (elim o
    [ None ↦ answered idle w | Some task ↦ task_turn (here_at m p task) false w ]))
steps_process m p w true o running most here =
    idles (λ line small. let above = leb-true most_executed w.counters.executed most in absurd (omega arith))
steps_process m p w false None running most here = idles (λ line small. process_there w p running here line)
steps_process m p w false (Some task) running most here = steps_task m p task w (ap is_some running)

steps_running : (m : Contents) (w : World) (o : Option ℕ) → w.queue.running ≡ o
    → Steps w (elim o [
      | None ↦ answered idle w
      | Some p ↦ cond (nat_le most_executed w.counters.executed)
          (answered idle w) (elim (slice_get w.tasks p)
          [ None ↦ answered idle w | Some task ↦ task_turn (here_at m p task) false w ])
    ])
steps_running m w None running = idles (λ line small. running)
steps_running m w (Some p) running = steps_process m p w (nat_le most_executed w.counters.executed)
    (slice_get w.tasks p) running refl refl

steps_unless : (m : Contents) (w : World) (o : Option Fault)
    → Steps w (elim o [ None ↦ step_turn m false 0 w | Some f ↦ record { world = w; answer = Err f } ])
steps_unless m w None = steps_running m w w.queue.running refl
steps_unless m w (Some f) = faults w f

steps : (m : Contents) (w : World) → Steps w (turn m w plain_step)
unfolding turn
steps m w = steps_unless m w w.fault

-- ---- what an answer shows

idle_world : (w : World) (t : Turn) → Steps w t → t.answer ≡ Ok idle → t.world ≡ w
idle_world w t (idles nobody) e = refl
idle_world w t (runs is after) e = absurd (cc)
idle_world w t (emits is link bytes after) e = absurd (cc)
idle_world w t (faults after f) e = absurd (cc)

nobody_runs : (w : World) (t : Turn) → Steps w t → t.answer ≡ Ok idle → Line w.tasks w.queue
    → w.counters.executed < most_executed → w.queue.running ≡ None
nobody_runs w t (idles nobody) e line small = nobody line small
nobody_runs w t (runs is after) e line small = absurd (cc)
nobody_runs w t (emits is link bytes after) e line small = absurd (cc)
nobody_runs w t (faults after f) e line small = absurd (cc)

one_byte : (w : World) (t : Turn) → Steps w t → (d : Effect) → t.answer ≡ Ok d → d ≢ idle → bytes_of t.answer ≡ 1
one_byte w t (idles nobody) d e not = absurd (not (cc))
one_byte w t (runs is after) d e not = refl
one_byte w t (emits is link bytes after) d e not = refl
one_byte w t (faults after f) d e not = absurd (cc)

somebody : (w : World) (t : Turn) → Steps w t → (d : Effect) → t.answer ≡ Ok d → d ≢ idle → is_running w ≡ true
somebody w t (idles nobody) d e not = absurd (not (cc))
somebody w t (runs is after) d e not = is
somebody w t (emits is link bytes after) d e not = is
somebody w t (faults after f) d e not = absurd (cc)

-- the effects that a Step can have
abbrev pub IsOfStep : Effect → Type 0
IsOfStep idle = Unit {0}
IsOfStep ran = Unit {0}
IsOfStep (emitted link bytes) = Unit {0}
IsOfStep _ = ⊥

of_step : (w : World) (t : Turn) → Steps w t → (d : Effect) → t.answer ≡ Ok d → IsOfStep d
of_step w t (idles nobody) d e = let is : idle ≡ d = cc in subst IsOfStep is tt
of_step w t (runs is after) d e = let is : ran ≡ d = cc in subst IsOfStep is tt
of_step w t (emits is link bytes after) d e = let is : emitted link bytes ≡ d = cc in subst IsOfStep is tt
of_step w t (faults after f) d e = absurd (cc)

module _ (m : Contents) (w : World) where
  -- an idle Step changes nothing
  pub idle_stays : (turn m w plain_step).answer ≡ Ok idle → happens m w plain_step ≡ w
  idle_stays = idle_world w (turn m w plain_step) (steps m w)

  -- and finds no process running
  pub idle_finds_nobody : (turn m w plain_step).answer ≡ Ok idle → Line w.tasks w.queue
      → w.counters.executed < most_executed → is_running w ≡ false
  idle_finds_nobody e line small = ap is_some (nobody_runs w (turn m w plain_step) (steps m w) e line small)

  -- any other executes a byte
  pub one_more_byte : (d : Effect) → (turn m w plain_step).answer ≡ Ok d → d ≢ idle
      → (happens m w plain_step).counters.executed ≡ w.counters.executed + 1
  one_more_byte d e not = events_count_bytes m w plain_step
      ∙ ap (λ (n : ℕ). w.counters.executed + n) (one_byte w (turn m w plain_step) (steps m w) d e not)

  -- of a process that runs
  pub somebody_runs : (d : Effect) → (turn m w plain_step).answer ≡ Ok d → d ≢ idle → is_running w ≡ true
  somebody_runs = somebody w (turn m w plain_step) (steps m w)

  pub answers_as_a_step : (d : Effect) → (turn m w plain_step).answer ≡ Ok d → IsOfStep d
  answers_as_a_step = of_step w (turn m w plain_step) (steps m w)
