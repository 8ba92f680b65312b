-- The reference machine up to a number of bytes: its Steps, and what comes from outside.
use Rattle.std.proofs.Common.{◌≡◌, ℕ, ◌+◌, ◌-◌, ◌<◌, ◌≤◌, true, false, List, [], ◌∷◌, ◌++◌, Option, Some, None}
use Rattle.std.proofs.Common.{Ok, Err, refl, sym, ap, subst, ◌∙◌, arith}
use Rattle.module_format.specs.Contents.{Contents}
use Rattle.machine_state.specs.declared.event.Event.{Event}
use Rattle.machine_state.specs.declared.process.Exchange.{Exchange}
use Rattle.machine_state.specs.Happens.{Effect, ran, idle, emitted, taken, kept, busy, acknowledged, ignored, Turn}
use Rattle.machine_state.specs.Happens.{turn}
use Rattle.machine_state.specs.Happens.{happens, most_executed}
use Rattle.machine_state.specs.Memory.{Memory}
use Rattle.machine_state.specs.Waiting.{Line}
use Rattle.machine_state.specs.World.{World, loaded}
use Rattle.machine_state.proofs.EventLaws.{faults_are_kept}
use Rattle.machine_state.proofs.EveryWorld.{run_further}
use Rattle.machine_state.proofs.Waiting.{lines_are_ready}
use Rattle.link_runs.specs.Deadlocks.{is_from_outside}
use Rattle.link_runs.specs.Driving.{IsReached, Quietly, StopsAt, ComesToStop, Proceeds}
use Rattle.link_runs.specs.FirstInFirstOut.{plain_step}
use Rattle.link_runs.specs.Wanting.{is_running}
use Rattle.link_runs.proofs.FromOutside.{outside_counts_nothing}
use Rattle.link_runs.proofs.PlainSteps.{idle_finds_nobody, one_more_byte, answers_as_a_step}
use Rattle.link_runs.specs.declared.driving.Progress.{Progress}
use Rattle.link_runs.specs.declared.driving.Progress.TheVariants as progresses
use Rattle.machine.specs.declared.bounded.Cause.{Cause}
use Rattle.machine.specs.declared.bounded.Cause.TheVariants as causes
use Rattle.machine.specs.declared.checked.act.Act.{Act}
use Rattle.machine.specs.declared.checked.act.Act.TheVariants as acts
use Rattle.traffic.specs.declared.stop.Stop.{Stop}
use Rattle.traffic.specs.declared.stop.Stop.TheVariants as stops
use Rattle.machine.specs.Applying.{Applies, IsDefined, effect_of_act}
use Rattle.machine.specs.Bounding.{BoundedExecution, bytes_of, HasMessage, cause_of, progress_by, exchange_by, Shows}
use Rattle.machine.specs.Bounding.{HasStopped, StaysThere, HasStepped, HasDone, StepDone}
use Rattle.machine.proofs.NewFaults.{no_new_fault}

-- ---- the message of an act

pub has_message : (act : Act) (memory : Memory) → IsDefined act memory → HasMessage (exchange_by act) memory
has_message acts.Ran memory is = tt
has_message acts.Idle memory is = tt
has_message (acts.Emitted link exchange) memory is = is
has_message acts.Taken memory is = tt
has_message acts.Kept memory is = tt
has_message acts.Busy memory is = tt
has_message acts.Acknowledged memory is = tt
has_message acts.Ignored memory is = tt

-- a machine in this world, whose last event sent this
abbrev pub bounded : Contents → World → ℕ → Option Exchange → BoundedExecution
bounded m w limit message = record { contents = m; world = w; limit = limit; last = bytes_of message w.memory }

-- ---- a world that events lead to

-- and one more
pub reached_further : (m : Contents) (limit : ℕ) (w : World) → IsReached m limit w → (e : Event) (d : Effect)
    → (turn m w e).answer ≡ Ok d → (happens m w e).counters.executed ≤ limit → IsReached m limit (happens m w e)
reached_further m limit w reached e d told within = record {
  events = reached.events ++ e ∷ [];
  world = ap (λ (v : World). happens m v e) reached.world ∙ sym (run_further m (loaded m) reached.events e);
  no_fault = no_new_fault m w e d told ∙ reached.no_fault;
  within_limit = within;
}

true_is_false : true ≡ false → ⊥
true_is_false e = cc

-- ---- a Step of a process that runs

module _ (before : BoundedExecution) (reached : IsReached before.contents before.limit before.world)
    (small : before.limit ≤ most_executed) (runs : is_running before.world ≡ true)
    (below : before.world.counters.executed < before.limit) where
  line : Line before.world.tasks before.world.queue
  line = subst (λ (v : World). Line v.tasks v.queue) (sym reached.world)
      (lines_are_ready before.contents reached.events)

  never_idle : (turn before.contents before.world plain_step).answer ≡ Ok idle → ⊥
  never_idle told = true_is_false (sym runs
      ∙ idle_finds_nobody before.contents before.world told line (omega (arith, small, below)))

  -- it counts
  counted : (d : Effect) → (turn before.contents before.world plain_step).answer ≡ Ok d
      → (happens before.contents before.world plain_step).counters.executed
      ≡ before.world.counters.executed + 1
  counted d told =
      one_more_byte before.contents before.world d told (λ is. never_idle (told ∙ ap (λ (x : Effect). Ok x) is))

  module _ (after : BoundedExecution) (world : after.world ≡ happens before.contents before.world plain_step) where
    has_stepped : (d : Effect) → (turn before.contents before.world plain_step).answer ≡ Ok d
        → HasStepped before after
    has_stepped d told = record {
      runs = runs;
      world = world;
      reached = subst (IsReached before.contents before.limit) (sym world)
          (reached_further before.contents before.limit before.world reached plain_step d told
          (let count = counted d told in omega (arith, count, below)));
    }

    -- by what it did
    pub did : (act : Act) (memory : Memory)
        → (turn before.contents before.world plain_step).answer ≡ Ok (effect_of_act memory act)
        → bytes_of (exchange_by act) memory ≡ after.last → HasDone before after (progress_by act)
    did acts.Ran memory told last =
        (has_stepped ran told, told, ap (λ (w : World). w.counters.executed) world ∙ counted ran told)
    did acts.Idle memory told last = absurd (never_idle told)
    did (acts.Emitted link exchange) memory told last =
        (has_stepped _ told, told ∙ ap (λ (bytes : List ℕ). Ok (emitted link bytes)) last)
    did acts.Taken memory told last = absurd (answers_as_a_step before.contents before.world taken told)
    did acts.Kept memory told last = absurd (answers_as_a_step before.contents before.world kept told)
    did acts.Busy memory told last = absurd (answers_as_a_step before.contents before.world busy told)
    did acts.Acknowledged memory told last =
        absurd (answers_as_a_step before.contents before.world acknowledged told)
    did acts.Ignored memory told last = absurd (answers_as_a_step before.contents before.world ignored told)

-- ---- the Steps until one emits a message, or no process is running

-- Steps that emitted nothing led here.
pub record HasGone (start now : BoundedExecution) : Type 0 where
  pub contents : now.contents ≡ start.contents
  pub limit : now.limit ≡ start.limit
  pub quietly : Quietly start.contents start.world now.world
  pub reached : IsReached now.contents now.limit now.world

pub has_not_gone : (start : BoundedExecution) (w : World) → Shows start w → HasGone start start
has_not_gone start w shows = record {
  contents = refl;
  limit = refl;
  quietly = Quietly.at_once;
  reached = subst (IsReached start.contents start.limit) (sym shows.is) shows.reached;
}

module _ (start now after : BoundedExecution) (gone : HasGone start now) where
  stepped_so : HasStepped now after → after.world ≡ happens start.contents now.world plain_step
  stepped_so stepped = stepped.world ∙ ap (λ (m : Contents). happens m now.world plain_step) gone.contents

  there_again : (w : World) → after.world ≡ w → StaysThere now after → IsReached now.contents now.limit after.world
      → Shows after w
  there_again w is stays reached = record {
    is = is;
    reached = subst (λ (m : Contents). IsReached m after.limit w) (sym stays.contents)
        (subst (λ (limit : ℕ). IsReached now.contents limit w) (sym stays.limit)
        (subst (IsReached now.contents now.limit) is reached));
  }

  pub gone_further : StepDone now (Ok None) after → HasGone start after
  gone_further done =
      let stays = done.0 in
      let stepped = done.1.0 in
      record {
        contents = stays.contents ∙ gone.contents;
        limit = stays.limit ∙ gone.limit;
        quietly = subst (Quietly start.contents start.world) (sym (stepped_so stepped))
            (Quietly.goes_on now.world gone.quietly stepped.runs
            (ap (λ (m : Contents). (turn m now.world plain_step).answer) (sym gone.contents) ∙ done.1.1));
        reached = (there_again after.world refl stays stepped.reached).reached;
      }

  pub comes_down : StepDone now (Ok None) after
      → after.limit - after.world.counters.executed < now.limit - now.world.counters.executed
  comes_down done =
      let more = done.1.2 in
      let most = done.0.limit in
      let within = done.1.0.reached.within_limit in
      omega (arith, more, most, within)

  pub comes_to : (w : World) → Shows start w → (progress : Progress) → StepDone now (Ok (Some progress)) after
      → Proceeds start.contents w (Ok progress) after.last (Shows after) (HasStopped after)
  comes_to w shows progresses.Idle done = record {
    world = now.world;
    quietly = subst (λ (v : World). Quietly start.contents v now.world) shows.is gone.quietly;
    nobody_runs = done.1.0;
    is_shown = there_again now.world done.1.1 done.0
        (subst (IsReached now.contents now.limit) (sym done.1.1) gone.reached);
  }
  comes_to w shows (progresses.Emitted link) done = record {
    world = now.world;
    quietly = subst (λ (v : World). Quietly start.contents v now.world) shows.is gone.quietly;
    runs = done.1.0.runs;
    emits = ap (λ (m : Contents). (turn m now.world plain_step).answer) (sym gone.contents) ∙ done.1.1;
    is_shown = there_again (happens start.contents now.world plain_step) (stepped_so done.1.0) done.0 done.1.0.reached;
  }

  stops_at : (cause : Cause) → StepDone now (Err cause) after
      → StopsAt start.contents now.world plain_step (λ w. HasStopped after w cause)
  stops_at (causes.Fault f) done =
      let told = ap (λ (m : Contents). (turn m now.world plain_step).answer) (sym gone.contents) ∙ done.2.0 in
      StopsAt.at_fault f told (record {
        is = done.2.1 ∙ ap (λ (m : Contents). happens m now.world plain_step) gone.contents;
        because = faults_are_kept start.contents now.world plain_step f told;
      })
  stops_at causes.Limit done = StopsAt.before_it (record {
    is = done.2.0;
    because = (subst (λ (limit : ℕ). limit ≤ now.world.counters.executed) (sym done.0.limit) done.2.1, done.1);
  })
  stops_at causes.Memory done = StopsAt.before_it (record { is = done.2; because = tt })

  pub comes_to_stop : (w : World) → Shows start w → (cause : Cause) → StepDone now (Err cause) after
      → ComesToStop start.contents w (λ v. HasStopped after v cause)
  comes_to_stop w shows cause done = record {
    world = now.world;
    quietly = subst (λ (v : World). Quietly start.contents v now.world) shows.is gone.quietly;
    runs = done.1;
    stops = stops_at cause done;
  }

-- ---- what comes from outside

module _ (before after : BoundedExecution) (w : World) (shows : Shows before w) (stays : StaysThere before after)
    (e : Event) (outside : is_from_outside e ≡ true) where
  still_reached : (v : World) → IsReached before.contents before.limit v → IsReached after.contents after.limit v
  still_reached v reached = subst (λ (m : Contents). IsReached m after.limit v) (sym stays.contents)
      (subst (λ (limit : ℕ). IsReached before.contents limit v) (sym stays.limit) reached)

  turn_of : (t : Turn) → turn before.contents before.world e ≡ t → turn before.contents w e ≡ t
  turn_of t is = ap (λ (v : World). turn before.contents v e) (sym shows.is) ∙ is

  pub taken_so : (act : Act) → Applies before.world after.world (Ok act) (turn before.contents before.world e)
      → Shows after (happens before.contents w e)
  taken_so act applies =
      let is = turn_of _ applies.0 in
      let count = outside_counts_nothing before.contents w e outside in
      let within = shows.reached.within_limit in
      record {
        is = sym (ap (λ (t : Turn). t.world) is);
        reached = still_reached (happens before.contents w e)
            (reached_further before.contents before.limit w shows.reached e (effect_of_act after.world.memory act)
            (ap (λ (t : Turn). t.answer) is) (omega (arith, count, within)));
      }

  pub not_taken : (stop : Stop) → Applies before.world after.world (Err stop) (turn before.contents before.world e)
      → StopsAt before.contents w e (λ v. HasStopped after v (cause_of stop))
  not_taken (stops.Fault f) applies =
      let is = turn_of _ applies in
      let told = ap (λ (t : Turn). t.answer) is in
      StopsAt.at_fault f told (record {
        is = sym (ap (λ (t : Turn). t.world) is);
        because = faults_are_kept before.contents w e f told;
      })
  not_taken stops.Memory applies = StopsAt.before_it (record { is = applies ∙ shows.is; because = tt })
