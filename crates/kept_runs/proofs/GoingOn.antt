-- A machine that goes on up to a limit, in each world that it agreed with: each of its bytes is a Step.
use Rattle.std.proofs.Common.{◌≡◌, ℕ, zero, suc, ◌+◌, ◌*◌, ◌<◌, ◌≤◌, ltb, ℤ, Bool, true, false, ◌||◌, List, Option, Some, None}
use Rattle.std.proofs.Common.{ap, arith, refl, subst, sym, ◌∙◌, slice_get, slice_index, Ok}
use Rattle.std.proofs.lemmas.Bool.{both_ways, ltb-true, ltb-false}
use Rattle.prefix_decoder.specs.declared.function.Fun.{Fun}
use Rattle.prefix_decoder.specs.Functions.{fun_of, function_code, nibble}
use Rattle.prefix_decoder.specs.Operand.{with_nibble}
use Rattle.module_format.specs.Contents.{Contents}
use Rattle.machine_state.specs.declared.instruction.Instruction.{Instruction}
use Rattle.machine_state.specs.declared.instruction.Instruction.TheVariants as instructions
use Rattle.machine_state.specs.declared.op.Op.TheVariants as ops
use Rattle.machine_state.specs.declared.process.Task.{Task}
use Rattle.machine_state.specs.Happens.{ran, turn}
use Rattle.machine_state.specs.Instructions.{instruction_of}
use Rattle.machine_state.specs.Memory.{data_start}
use Rattle.machine_state.specs.World.{World, Counters}
use Rattle.link_runs.specs.Driving.{Quietly, reported}
use Rattle.link_runs.specs.FirstInFirstOut.{plain_step}
use Rattle.link_runs.specs.declared.driving.Reaction.{Reaction}
use Rattle.link_runs.specs.declared.driving.Reaction.TheVariants as reactions
use Rattle.link_runs.proofs.PlainSteps.{one_more_byte}
use Rattle.plain_machine.specs.PlainByte.{byte_completes, completed_by, function_step, is_turn, past_byte, step_by}
use Rattle.plain_machine.specs.PlainRun.{IsAlone, PlainPoint, RunsTo, byte_there, stepped_there, turns_there}
use Rattle.plain_machine.specs.PlainStep.{PlainState, plain_operation, plain_step as plain_stepped}
use Rattle.agreement.specs.Agrees.{Agrees, PlainMachine}
use Rattle.plain_run.specs.RunningAlone.{EndsBy, RanAlone, RunsAlone, TurnsAlone, WentOnUntil, point_on, run_to}
use Rattle.plain_run.specs.Stepping.{Reacts}
use Rattle.plain_run.proofs.RunningAlone as alone
use Rattle.accepted_runs.specs.Reacting.{is_sent, message_of}
use Rattle.accepted_runs.specs.Running.{AgreesOn}
use Rattle.accepted_runs.proofs.Happening as happening
use Rattle.accepted_runs.proofs.NeverAtFault.{rests}
use Rattle.accepted_runs.proofs.RunningAlone.{can_step, leads, there}
use Rattle.kept_runs.specs.GoingOn.{EndsSo, GoesTo, StopsAfter}
use Rattle.kept_runs.specs.RunningOn.{RunsQuietly, asks_others, completed_in, completed_of, is_stop}
use Rattle.kept_runs.proofs.RunningOn.{one_world}

-- ---- what asks nothing of others

asks_none_of : (start : ℕ) (e : ℤ) (s : PlainState) (o : Option Instruction) → IsAlone (function_step start o e s).flow
    → asks_others o ≡ false
unfolding plain_operation plain_stepped asks_others
asks_none_of start e s None is = refl
asks_none_of start e s (Some (instructions.Operate ops.StopProcess)) is = absurd is
asks_none_of start e s (Some (instructions.Operate ops.Input)) is = absurd is
asks_none_of start e s (Some (instructions.Operate ops.Output)) is = absurd is
asks_none_of start e s (Some (instructions.Operate ops.StartProcess)) is = absurd is
asks_none_of start e s (Some (instructions.Operate ops.EndProcess)) is = absurd is
asks_none_of start e s (Some (instructions.Operate ops.Alternate)) is = absurd is
asks_none_of start e s (Some (instructions.Operate ops.EnableChannel)) is = absurd is
asks_none_of start e s (Some (instructions.Operate ops.EnableSkip)) is = absurd is
asks_none_of start e s (Some (instructions.Operate ops.AlternationWait)) is = absurd is
asks_none_of start e s (Some (instructions.Operate ops.DisableChannel)) is = absurd is
asks_none_of start e s (Some (instructions.Operate ops.DisableSkip)) is = absurd is
asks_none_of start e s (Some (instructions.Operate ops.AlternationEnd)) is = absurd is
asks_none_of start e s (Some i) is = refl

asks_none : (start : ℕ) (e : ℤ) (s : PlainState) (o : Option Fun) → IsAlone (step_by start e s o).flow
    → asks_others (completed_by e o) ≡ false
unfolding asks_others
asks_none start e s None is = refl
asks_none start e s (Some f) is = asks_none_of start e s (instruction_of f e) is

neither : (b c : Bool) → b ≡ false → c ≡ false → (b || c) ≡ false
neither false false first second = refl
neither true c first second = absurd (cc)
neither false true first second = absurd (cc)

-- ---- the bytes on the way

-- After fewer bytes it was at this point, whose byte asks nothing of others.
record WasAt (start : ℕ) (code : List ℕ) (from : PlainPoint) (k : ℕ) : Type 0 where
  point : PlainPoint
  runs : RunsTo start code from k point
  alone : IsAlone (stepped_there start code point).flow

was_at : (start : ℕ) (code : List ℕ) (from : PlainPoint) (n : ℕ) (p : PlainPoint) → RunsTo start code from n p
    → (k : ℕ) → k < n → WasAt start code from k
was_at start code from zero p runs k less = absurd (omega (arith, less))
was_at start code from (suc _) p (RunsTo.goes_on n q runs alone) k less =
    by (was_at start code from n q runs k) (ltb k n) refl
  where
    by : (k < n → WasAt start code from k) → (b : Bool) → ltb k n ≡ b → WasAt start code from k
    by earlier true is = earlier (ltb-true k n is)
    by earlier false is =
        let low = ltb-false k n is in
        let same : n ≡ k = omega (arith, less, low) in
        subst (WasAt start code from) same (record { point = q; runs = runs; alone = alone })

module _ (m : Contents) where
  -- ---- what the next byte completes in a world that the machine agrees with

  module _ (now : PlainMachine) (w : World) (agrees : Agrees m now w)
      (passing : is_stop (byte_completes (slice_index m.code now.registers.at) now.operand) ≡ false) where
    by_task : (p : ℕ) → w.queue.running ≡ Some p → (o : Option Task) → slice_get w.tasks p ≡ o
        → is_stop (completed_of m o) ≡ false
    unfolding is_turn asks_others
    by_task p running None is = refl
    by_task p running (Some task) is =
        let r = agrees.registers p task running is in
        subst (λ (e : ℤ). is_stop (byte_completes (slice_index m.code task.registers.at) e) ≡ false) r.operand
        (subst (λ (at : ℕ). is_stop (byte_completes (slice_index m.code at) now.operand) ≡ false) r.at passing)

    by_process : (o : Option ℕ) → w.queue.running ≡ o
        → is_stop (elim o [ None ↦ None | Some p ↦ completed_of m (slice_get w.tasks p) ]) ≡ false
    unfolding is_turn asks_others
    by_process None is = refl
    by_process (Some p) is = by_task p is (slice_get w.tasks p) refl

    no_stop : is_stop (completed_in m w) ≡ false
    no_stop = by_process w.queue.running refl

  -- ---- so many Steps

  record Counted (w v : World) : Type 0 where
    steps : ℕ
    runs : RunsQuietly m w steps v
    counts : v.counters.executed ≡ w.counters.executed + steps

  counted : (w v : World) → Quietly m w v → Counted w v
  counted w v Quietly.at_once = record { steps = 0; runs = RunsQuietly.at_once; counts = omega arith }
  counted w v (Quietly.goes_on x before running told) =
      let c = counted w x before in
      let more = one_more_byte m x ran told (λ e. cc) in
      let sum = c.counts in
      record {
        steps = suc c.steps;
        runs = RunsQuietly.goes_on c.steps x c.runs told;
        counts = omega (arith, sum, more);
      }

  module _ (start : PlainMachine) (w : World) (on : AgreesOn m start w) where
    module _ (running : start.is_running ≡ true) where
      abbrev Came : ℕ → PlainPoint → Type 0
      Came = alone.ComesThere m (AgreesOn m) (can_step m) (there m) (leads m) start w

      came : (n : ℕ) (p : PlainPoint) → RunsAlone m start n p → Came n p
      came = alone.comes_there m (AgreesOn m) (can_step m) (there m) (leads m) start w on running

      steps_there : (n : ℕ) (p : PlainPoint) (x : Came n p) → RunsQuietly m w n x.world
      steps_there n p x =
          let c = counted w x.world x.quietly in
          let first = ap (λ (k : Counters). k.executed) on.agrees.counters in
          let last = ap (λ (k : Counters). k.executed) x.on.agrees.counters in
          let sum = c.counts in
          let same : c.steps ≡ n = omega (arith, first, last, sum) in
          subst (λ (k : ℕ). RunsQuietly m w k x.world) same c.runs

      -- where a byte asks nothing of others, and turns no loop
      passes : (n : ℕ) (v : World) → RunsQuietly m w n v → (q : PlainPoint) → RunsAlone m start n q
          → IsAlone (stepped_there (data_start + 4 * m.data_words) m.code q).flow → turns_there m.code q ≡ false
          → is_stop (completed_in m v) ≡ false
      passes n v runs q goes is_alone no_turn =
          let x = came n q goes in
          let same = one_world m w n x.world v (steps_there n q x) runs in
          subst (λ (u : World). is_stop (completed_in m u) ≡ false) same
          (no_stop (run_to n q start) x.world x.on.agrees
          (neither _ _ no_turn (asks_none (data_start + 4 * m.data_words)
          (with_nibble q.operand (nibble (byte_there m.code q))) (past_byte q.state)
          (fun_of (function_code (byte_there m.code q))) is_alone)))

      within : (limit bytes later : ℕ) (p : PlainPoint) → RunsAlone m start bytes p
          → later ≤ start.counters.executed + bytes + 1 → TurnsAlone m start limit later
          → StopsAfter m w start.counters.executed limit later
      within limit bytes later p runs high turns n v goes reached fewer =
          let was = was_at (data_start + 4 * m.data_words) m.code (point_on start) bytes p runs n
          (omega (arith, high, fewer)) in
          passes n v goes was.point was.runs was.alone (turns n was.point was.runs reached fewer)

    module _ (between after : PlainMachine) (limit : ℕ) (went : RanAlone m start between) where
      -- ---- where a process runs

      module _ (running : start.is_running ≡ true) where
        abbrev there_at : Came running went.bytes went.point
        there_at = came running went.bytes went.point went.runs

        on_between : AgreesOn m between there_at.world
        on_between = subst (λ (q : PlainMachine). AgreesOn m q there_at.world) (sym went.same) there_at.on

        count : between.counters.executed ≡ start.counters.executed + went.bytes
        count = ap (λ (q : PlainMachine). q.counters.executed) went.same

        not_idle : (r : Reaction) → Reacts m between plain_step r after → r ≡ reactions.Idle
            → went.bytes ≡ 0
        not_idle r reacts is =
            let answer = happening.answers m between there_at.world on_between plain_step tt r after reacts in
            let told = subst (λ (q : Reaction). (turn m there_at.world plain_step).answer
            ≡ Ok (reported q (message_of (is_sent q) after))) is answer in
            let nobody = rests m there_at.world on_between.runs told in
            let runs = ap (λ (q : PlainMachine). q.is_running) went.same ∙ running in
            absurd (both_ways between.is_running (on_between.agrees.running ∙ nobody) runs)

        ends_running : (r : Option Reaction) → EndsBy r m start between limit after
            → EndsSo r m w start.counters.executed limit went.bytes there_at.world after
        ends_running (Some r) e = record {
          within = within running limit went.bytes (start.counters.executed + went.bytes + 1) went.point went.runs
              (omega arith) (subst (λ (k : ℕ). TurnsAlone m start limit (k + 1)) count e.turns);
          reacts = record {
            answer = happening.answers m between there_at.world on_between plain_step tt r after e.reacts;
            is_shown = happening.goes_on m between there_at.world on_between plain_step tt r after e.reacts;
          };
          message = happening.has_message m between there_at.world on_between plain_step tt r after e.reacts;
          idles = not_idle r e.reacts;
        }
        ends_running None e = record {
          within = within running limit went.bytes (start.counters.executed + went.bytes) went.point went.runs
              (omega arith) (subst (TurnsAlone m start limit) count e.turns);
          reached = subst (λ (k : ℕ). limit ≤ k) count e.reached;
          agrees = subst (λ (q : PlainMachine). AgreesOn m q there_at.world) (sym e.same) on_between;
        }

      -- ---- where none does

      module _ (is_idle : start.is_running ≡ false) where
        ends_idle : (r : Option Reaction) → EndsBy r m start between limit after
            → EndsSo r m w start.counters.executed limit 0 w after
        ends_idle (Some r) e =
            let reacts = subst (λ (q : PlainMachine). Reacts m q plain_step r after) (went.idle is_idle) e.reacts in
            record {
              within = λ n v runs reached fewer. absurd (omega (arith, fewer));
              reacts = record {
                answer = happening.answers m start w on plain_step tt r after reacts;
                is_shown = happening.goes_on m start w on plain_step tt r after reacts;
              };
              message = happening.has_message m start w on plain_step tt r after reacts;
              idles = λ _. refl;
            }
        ends_idle None e =
            let same = went.idle is_idle in
            let reached = subst (λ (q : PlainMachine). limit ≤ q.counters.executed) same e.reached in
            record {
              within = λ n v runs reached fewer. absurd (omega (arith, fewer));
              reached = omega (arith, reached);
              agrees = subst (λ (q : PlainMachine). AgreesOn m q w) (sym (e.same ∙ same)) on;
            }

    -- so it went
    pub goes_to : (limit : ℕ) (r : Option Reaction) (after : PlainMachine) → WentOnUntil m start limit r after
        → GoesTo m w start.counters.executed limit r after
    goes_to limit r after x = by start.is_running refl
      where
        by : (b : Bool) → start.is_running ≡ b → GoesTo m w start.counters.executed limit r after
        by true running =
            let c = came running x.ran.bytes x.ran.point x.ran.runs in
            record {
              steps = x.ran.bytes;
              world = c.world;
              quietly = steps_there running x.ran.bytes x.ran.point c;
              ends = ends_running x.between after limit x.ran running r x.ends;
            }
        by false is = record {
          steps = 0;
          world = w;
          quietly = RunsQuietly.at_once;
          ends = ends_idle x.between after limit x.ran is r x.ends;
        }
