-- A run that goes on by plain Steps, in each world that the machine agreed with.
use Rattle.std.proofs.Common.{◌≡◌, ℕ, zero, suc, ◌+◌, ◌-◌, ◌<◌, ◌≤◌, ◌^◌, ltb, Bool, false, true, Option, Some, None, Ok}
use Rattle.std.proofs.Common.{ap, arith, refl, subst, sym, ◌∙◌}
use Rattle.std.proofs.lemmas.Bool.{ltb-true, ltb-false}
use Rattle.std.specs.Option.{option_map_or}
use Rattle.module_format.specs.Contents.{Contents}
use Rattle.machine_state.specs.World.{World, Counters}
use Rattle.machine_state.specs.Happens.{ran, emitted, taken, kept, busy, acknowledged, ignored, turn}
use Rattle.machine_state.specs.Happens.{happens}
use Rattle.machine_state.proofs.EventLaws.{events_count_bytes}
use Rattle.link_runs.specs.FirstInFirstOut.{plain_step}
use Rattle.link_runs.specs.Driving.{HasReacted}
use Rattle.link_runs.specs.declared.driving.Reaction.{Reaction}
use Rattle.link_runs.specs.declared.driving.Reaction.TheVariants as reactions
use Rattle.link_runs.proofs.PlainSteps.{answers_as_a_step, idle_stays, one_more_byte}
use Rattle.agreement.specs.Agrees.{PlainMachine}
use Rattle.accepted_runs.specs.Reacting.{message_of, HasMessage, is_sent}
use Rattle.accepted_runs.specs.Running.{AgreesOn, Runs}
use Rattle.accepted_runs.proofs.NeverAtFault.{below_most, rests}
use Rattle.kept_runs.specs.GoingOn.{GoesBy, GoesTo, StopsAfter}
use Rattle.kept_runs.specs.RunningOn.{HasRunOn, RunsQuietly, StopsWithin, completed_in, has_emitted, is_stop, stop_by}
use Rattle.kept_runs.specs.declared.running_on.RunReport.{RunReport}
use Rattle.kept_runs.specs.declared.running_on.RunStop.{RunStop}
use Rattle.kept_runs.specs.declared.running_on.RunStop.TheVariants.{AtLimit, Idle, Emitted}

-- a Step after which the next one follows has run
has_run : (r : Reaction) → stop_by r ≡ None → r ≡ reactions.Ran
has_run reactions.Ran is = refl
has_run _ is = absurd (cc)

-- a run stops after a Step that sent a message as one that sent it
sends : (r : Reaction) → option_map_or has_emitted (stop_by r) false ≡ is_sent r
sends reactions.Ran = refl
sends (reactions.Emitted link) = refl
sends _ = refl

module _ (m : Contents) where
  -- ---- so many Steps

  pub one_world : (w : World) (n : ℕ) (v u : World) → RunsQuietly m w n v → RunsQuietly m w n u → v ≡ u
  one_world w zero v u RunsQuietly.at_once RunsQuietly.at_once = refl
  one_world w (suc _) v u (RunsQuietly.goes_on n x runs told) (RunsQuietly.goes_on _ y goes says) =
      ap (λ (z : World). happens m z plain_step) (one_world w n x y runs goes)

  runs_twice : (w v : World) (n : ℕ) → RunsQuietly m w n v → (k : ℕ) (u : World) → RunsQuietly m v k u
      → RunsQuietly m w (n + k) u
  runs_twice w v n before zero u RunsQuietly.at_once =
      let same : n ≡ n + 0 = omega arith in subst (λ (i : ℕ). RunsQuietly m w i v) same before
  runs_twice w v n before (suc _) u (RunsQuietly.goes_on k x runs told) =
      let same : suc (n + k) ≡ n + suc k = omega arith in
      subst (λ (i : ℕ). RunsQuietly m w i (happens m x plain_step)) same
      (RunsQuietly.goes_on (n + k) x (runs_twice w v n before k x runs) told)

  -- the later ones of such Steps
  later_of : (w v : World) (n : ℕ) → RunsQuietly m w n v → (k j : ℕ) (u : World) → j ≡ n + k → RunsQuietly m w j u
      → RunsQuietly m v k u
  later_of w v n before zero j u is runs =
      let same : j ≡ n = omega (arith, is) in
      subst (λ (x : World). RunsQuietly m v 0 x)
      (one_world w n v u before (subst (λ (i : ℕ). RunsQuietly m w i u) same runs)) RunsQuietly.at_once
  later_of w v n before (suc k) zero u is runs = absurd (omega (arith, is))
  later_of w v n before (suc k) (suc _) u is (RunsQuietly.goes_on j x runs told) =
      let same : j ≡ n + k = omega (arith, is) in
      RunsQuietly.goes_on k x (later_of w v n before k j x same runs) told

  counts : (w : World) (n : ℕ) (v : World) → RunsQuietly m w n v → v.counters.executed ≡ w.counters.executed + n
  counts w zero v RunsQuietly.at_once = omega arith
  counts w (suc _) v (RunsQuietly.goes_on n x runs told) =
      let before = counts w n x runs in
      let more = one_more_byte m x ran told (λ e. cc) in
      omega (arith, before, more)

  -- ---- the loop

  -- From one world, Steps that emitted nothing led to this one, with which the machine agrees.
  pub record HasStepped (start now : PlainMachine) (end : ℕ) (w : World) : Type 0 where
    pub steps : ℕ
    pub world : World
    pub counted : now.counters.executed ≡ start.counters.executed + steps
    pub agrees : AgreesOn m now world
    pub quietly : RunsQuietly m w steps world
    pub within : StopsAfter m w start.counters.executed end now.counters.executed

  -- So they did from each world that the machine agreed with.
  pub record RunsStill (start now : PlainMachine) (end : ℕ) : Type 0 where
    pub on : (w : World) → AgreesOn m start w → HasStepped start now end w
    pub runs : Runs m now
    pub first : Runs m start
    pub more : start.counters.executed ≤ now.counters.executed

  pub has_not_stepped : (start : PlainMachine) (end : ℕ) → Runs m start → RunsStill start start end
  has_not_stepped start end runs = record {
    on = λ w agrees. record {
      steps = 0;
      world = w;
      counted = omega arith;
      agrees = agrees;
      quietly = RunsQuietly.at_once;
      within = λ n v goes reached fewer. absurd (omega (arith, fewer));
    };
    runs = runs;
    first = runs;
    more = omega arith;
  }

  -- how many bytes were executed in a world that it agrees with
  count_in : (now : PlainMachine) (w : World) → AgreesOn m now w → now.counters.executed ≡ w.counters.executed
  count_in now w on = ap (λ (c : Counters). c.executed) on.agrees.counters

  module _ {start now : PlainMachine} {end : ℕ} (still : RunsStill start now end)
      (less : now.counters.executed < end) where
    -- the Steps before, and those that follow
    module _ (w : World) (here : HasStepped start now end w) where
      within_both : (later : ℕ) → StopsAfter m here.world now.counters.executed end later
          → StopsAfter m w start.counters.executed end later
      within_both later after n v runs reached fewer = by (ltb n here.steps) refl
        where
          on_later : (i : ℕ) → n ≡ here.steps + i → is_stop (completed_in m v) ≡ false
          on_later i same =
              let counted = here.counted in
              after i v (later_of w here.world here.steps here.quietly i n v same runs)
              (omega (arith, same, counted, reached)) (omega (arith, same, counted, fewer))

          by : (b : Bool) → ltb n here.steps ≡ b → is_stop (completed_in m v) ≡ false
          by true is =
              let early = ltb-true n here.steps is in
              let counted = here.counted in
              absurd (omega (arith, early, counted, less, reached))
          by false is =
              let low = ltb-false n here.steps is in
              on_later (n - here.steps) (omega (arith, low))

      -- it has come to a world after so many more
      stepped_to : (after : PlainMachine) (k : ℕ) (v : World) → RunsQuietly m here.world k v → AgreesOn m after v
          → StopsAfter m here.world now.counters.executed end (now.counters.executed + k)
          → HasStepped start after end w
      stepped_to after k v runs agrees within =
          let counted = here.counted in
          let so = count_in now here.world here.agrees in
          let more = counts here.world k v runs in
          let then = count_in after v agrees in
          let same : now.counters.executed + k ≡ after.counters.executed = omega (arith, so, more, then) in
          record {
            steps = here.steps + k;
            world = v;
            counted = omega (arith, counted, so, more, then);
            agrees = agrees;
            quietly = runs_twice w here.world here.steps here.quietly k v runs;
            within = within_both after.counters.executed
                (subst (StopsAfter m here.world now.counters.executed end) same within);
          }

    -- ---- where the limit is reached
    module _ {after : PlainMachine} {o : Option Reaction} (none : o ≡ None) (did : GoesBy m now end o after) where
      goes : GoesBy m now end None after
      goes = subst (λ (p : Option Reaction). GoesBy m now end p after) none did

      pub stepped_there : RunsStill start after end
      stepped_there = record {
        on = λ w on.
            let here = still.on w on in
            let x = goes here.world here.agrees in
            stepped_to w here after x.steps x.world x.quietly x.ends.agrees x.ends.within;
        runs = let x = goes still.runs.0 still.runs.1 in (x.world, x.ends.agrees);
        first = still.first;
        more =
            let x = goes still.runs.0 still.runs.1 in
            let so = count_in now still.runs.0 still.runs.1 in
            let then = count_in after x.world x.ends.agrees in
            let count = counts still.runs.0 x.steps x.world x.quietly in
            let more = still.more in
            omega (arith, so, then, count, more);
      }

      pub reached_there : end ≤ after.counters.executed
      reached_there =
          let x = goes still.runs.0 still.runs.1 in
          let so = count_in now still.runs.0 still.runs.1 in
          let then = count_in after x.world x.ends.agrees in
          let count = counts still.runs.0 x.steps x.world x.quietly in
          let reached = x.ends.reached in
          omega (arith, so, then, count, reached)

    -- ---- where a Step did this
    module _ {after : PlainMachine} {r : Reaction} {o : Option Reaction} (some : o ≡ Some r)
        (did : GoesBy m now end o after) where
      went_so : GoesBy m now end (Some r) after
      went_so = subst (λ (p : Option Reaction). GoesBy m now end p after) some did

      -- the Step has run
      module _ (none : stop_by r ≡ None) (v : World) (on : AgreesOn m now v) where
        abbrev went : GoesTo m v now.counters.executed end (Some r) after
        went = went_so v on

        ran_there : (turn m went.world plain_step).answer ≡ Ok ran
        ran_there =
            (subst (λ (q : Reaction). HasReacted m went.world plain_step q (message_of (is_sent q) after)
            (AgreesOn m after)) (has_run r none) went.ends.reacts).answer

        quietly_on : RunsQuietly m v (suc went.steps) (happens m went.world plain_step)
        quietly_on = RunsQuietly.goes_on went.steps went.world went.quietly ran_there

        later_on : now.counters.executed + went.steps + 1 ≡ after.counters.executed
        later_on =
            let so = count_in now v on in
            let then = count_in after (happens m went.world plain_step) went.ends.reacts.is_shown in
            let count = counts v (suc went.steps) (happens m went.world plain_step) quietly_on in
            omega (arith, so, then, count)

      pub stepped_further : stop_by r ≡ None → RunsStill start after end
      stepped_further none = record {
        on = λ w on.
            let here = still.on w on in
            let x = went_so here.world here.agrees in
            let same : now.counters.executed + x.steps + 1 ≡ now.counters.executed + suc x.steps = omega arith in
            stepped_to w here after (suc x.steps) (happens m x.world plain_step)
            (quietly_on none here.world here.agrees) x.ends.reacts.is_shown
            (subst (StopsAfter m here.world now.counters.executed end) same x.ends.within);
        runs =
            let x = went_so still.runs.0 still.runs.1 in (happens m x.world plain_step, x.ends.reacts.is_shown);
        first = still.first;
        more =
            let later = later_on none still.runs.0 still.runs.1 in
            let more = still.more in
            omega (arith, later, more);
      }

      pub comes_nearer : stop_by r ≡ None → end - after.counters.executed < end - now.counters.executed
      comes_nearer none =
          let later = later_on none still.runs.0 still.runs.1 in
          omega (arith, later, less)

      pub no_less : start.counters.executed ≤ after.counters.executed
      no_less =
          let x = went_so still.runs.0 still.runs.1 in
          let so = count_in now still.runs.0 still.runs.1 in
          let then = count_in after (happens m x.world plain_step) x.ends.reacts.is_shown in
          let count = counts still.runs.0 x.steps x.world x.quietly in
          let byte = events_count_bytes m x.world plain_step in
          let more = still.more in
          omega (arith, so, then, count, byte, more)

      -- it has stopped
      pub runs_after : Runs m after
      runs_after = let x = went_so still.runs.0 still.runs.1 in (happens m x.world plain_step, x.ends.reacts.is_shown)

      pub has_message : (stop : RunStop) → stop_by r ≡ Some stop → HasMessage (has_emitted stop) after
      has_message stop is =
          subst (λ (b : Bool). HasMessage b after) (sym (sends r)
          ∙ ap (λ (o : Option RunStop). option_map_or has_emitted o false) is)
          (went_so still.runs.0 still.runs.1).ends.message

      module _ (limit : ℕ) (low : end ≤ start.counters.executed + limit) (w : World) (on : AgreesOn m start w) where
        abbrev here : HasStepped start now end w
        here = still.on w on

        abbrev gone : GoesTo m here.world now.counters.executed end (Some r) after
        gone = went_so here.world here.agrees

        abbrev Stops : RunStop → Type 0
        Stops stop = HasRunOn m w limit
            (record { executed = after.counters.executed - start.counters.executed; stop = stop })
            (message_of (has_emitted stop) after) (AgreesOn m after)

        -- up to the last Step
        within_all : (told : ℕ) → start.counters.executed + told ≤ now.counters.executed + gone.steps + 1
            → StopsWithin m w limit told
        within_all told few n v runs reached fewer =
            within_both w here (now.counters.executed + gone.steps + 1) gone.ends.within n v runs
            (omega (arith, low, reached)) (omega (arith, few, fewer))

        stops_by : (q : Reaction) → q ≡ r
            → HasReacted m gone.world plain_step q (message_of (is_sent q) after) (AgreesOn m after)
            → (q ≡ reactions.Idle → gone.steps ≡ 0) → (stop : RunStop) → stop_by q ≡ Some stop → Stops stop
        stops_by reactions.Ran same did idles stop is = absurd (cc)
        stops_by (reactions.Emitted link) same did idles stop is =
            let what : Emitted link ≡ stop = cc in
            subst Stops what (
            let sum = counts here.world gone.steps gone.world gone.quietly in
            let so = count_in now here.world here.agrees in
            let then = count_in after (happens m gone.world plain_step) did.is_shown in
            let byte = one_more_byte m gone.world (emitted link (message_of true after)) did.answer (λ e. cc) in
            let counted = here.counted in
            let told : after.counters.executed - start.counters.executed ≡ here.steps + gone.steps + 1 =
            omega (arith, sum, so, then, byte, counted) in
            record {
              steps = here.steps + gone.steps;
              world = gone.world;
              quietly = runs_twice w here.world here.steps here.quietly gone.steps gone.world gone.quietly;
              within = within_all (after.counters.executed - start.counters.executed) (omega (arith, told, counted));
              stops = record { executed = told; emits = did.answer; is_shown = did.is_shown };
            })
        stops_by reactions.Idle same did idles stop is =
            let what : Idle ≡ stop = cc in
            subst Stops what (
            let none = idles refl in
            let sum = counts here.world gone.steps gone.world gone.quietly in
            let so = count_in now here.world here.agrees in
            let stays = subst (AgreesOn m after) (idle_stays m gone.world did.answer) did.is_shown in
            let then = count_in after gone.world stays in
            let counted = here.counted in
            let told : after.counters.executed - start.counters.executed ≡ here.steps + gone.steps =
            omega (arith, sum, so, then, counted) in
            record {
              steps = here.steps + gone.steps;
              world = gone.world;
              quietly = runs_twice w here.world here.steps here.quietly gone.steps gone.world gone.quietly;
              within = within_all (after.counters.executed - start.counters.executed) (omega (arith, told, counted));
              stops = record {
                some = omega (arith, none, counted, less, low);
                executed = told;
                nobody_runs = rests m gone.world stays.runs did.answer;
                is_shown = stays;
              };
            })
        stops_by reactions.Taken same did idles stop is = absurd (answers_as_a_step m gone.world taken did.answer)
        stops_by reactions.Kept same did idles stop is = absurd (answers_as_a_step m gone.world kept did.answer)
        stops_by reactions.Busy same did idles stop is = absurd (answers_as_a_step m gone.world busy did.answer)
        stops_by reactions.Acknowledged same did idles stop is =
            absurd (answers_as_a_step m gone.world acknowledged did.answer)
        stops_by reactions.Ignored same did idles stop is = absurd (answers_as_a_step m gone.world ignored did.answer)

        -- it stops as is reported
        pub stops_as : (stop : RunStop) → stop_by r ≡ Some stop → Stops stop
        stops_as = stops_by r refl gone.ends.reacts gone.ends.idles

  -- all that was asked for
  pub all_done : {start now : PlainMachine} {end : ℕ} (limit : ℕ) → RunsStill start now end
      → end ≤ now.counters.executed → end ≤ start.counters.executed + limit
      → (end < 2 ^ 64 - 1 → end ≡ start.counters.executed + limit) → (w : World) → AgreesOn m start w
      → HasRunOn m w limit (record { executed = now.counters.executed - start.counters.executed; stop = AtLimit })
      (message_of false now) (AgreesOn m now)
  all_done {start} {now} {end} limit still reached low high w on =
      let here = still.on w on in
      let counted = here.counted in
      let most = below_most m here.world here.agrees.runs in
      let so = count_in now here.world here.agrees in
      let is = high (omega (arith, reached, most, so)) in
      let told : now.counters.executed - start.counters.executed ≡ here.steps = omega (arith, counted) in
      record {
        steps = here.steps;
        world = here.world;
        quietly = here.quietly;
        within = λ n v runs many fewer. here.within n v runs (omega (arith, low, many)) (omega (arith, told, counted, fewer));
        stops = record { all = omega (arith, is, counted, reached); executed = told; is_shown = here.agrees };
      }

  -- what is reported of it, by how many bytes were executed at the start
  pub told_as : (start now : PlainMachine) (limit : ℕ) (w : World) (r : RunReport) (stop : RunStop) (k : ℕ)
      → r ≡ record { executed = now.counters.executed - k; stop = stop } → k ≡ start.counters.executed
      → HasRunOn m w limit (record { executed = now.counters.executed - start.counters.executed; stop = stop })
      (message_of (has_emitted stop) now) (AgreesOn m now)
      → HasRunOn m w limit r (message_of (has_emitted r.stop) now) (AgreesOn m now)
  told_as start now limit w r stop k told is done =
      let report : ℕ → RunReport = λ (j : ℕ). record { executed = now.counters.executed - j; stop = stop } in
      subst (λ (q : RunReport). HasRunOn m w limit q (message_of (has_emitted q.stop) now) (AgreesOn m now))
      (sym (told ∙ ap report is)) done
