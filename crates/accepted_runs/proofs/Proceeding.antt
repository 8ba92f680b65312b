-- A run that makes plain Steps until one emits a message or no process is running.
use Rattle.std.proofs.Common.{◌≡◌, ℕ, ◌-◌, ◌<◌, List, Some, None, Ok, refl, ap, subst, ◌∙◌, arith}
use Rattle.module_format.specs.Contents.{Contents}
use Rattle.machine_state.specs.declared.link.Link.{Link}
use Rattle.machine_state.specs.World.{World, Counters}
use Rattle.machine_state.specs.Happens.{Effect, ran, idle, emitted, taken, kept, busy, acknowledged, ignored, turn}
use Rattle.machine_state.specs.Happens.{happens}
use Rattle.link_runs.specs.FirstInFirstOut.{plain_step}
use Rattle.link_runs.specs.Driving.{Quietly, ComesToRest, ComesToEmit, Proceeds, HasReacted, reported}
use Rattle.link_runs.specs.declared.driving.Progress.{Progress}
use Rattle.link_runs.specs.declared.driving.Progress.TheVariants as progresses
use Rattle.link_runs.specs.declared.driving.Reaction.{Reaction}
use Rattle.link_runs.specs.declared.driving.Reaction.TheVariants as reactions
use Rattle.link_runs.proofs.PlainSteps.{idle_stays, one_more_byte, somebody_runs, answers_as_a_step}
use Rattle.accepted_runs.specs.Reacting.{progress_by}
use Rattle.accepted_runs.specs.Running.{PlainExecution, RunsOn, Shows, HasGone, HasGoneOn}
use Rattle.accepted_runs.proofs.NeverAtFault.{rests}

-- ---- one Step, in one world

module _ (m : Contents) (before w : World) (quietly : Quietly m before w) (on : RunsOn m w) (last : List ℕ)
    (shown : World → Type 0) (then : shown (happens m w plain_step)) where
  comes_to_emit : (link : Link) → (turn m w plain_step).answer ≡ Ok (emitted link last)
      → ComesToEmit m before link last shown
  comes_to_emit link told = record {
    world = w;
    quietly = quietly;
    runs = somebody_runs m w (emitted link last) told (λ e. cc);
    emits = told;
    is_shown = then;
  }

  comes_to_rest : (turn m w plain_step).answer ≡ Ok idle → ComesToRest m before shown
  comes_to_rest told = record {
    world = w;
    quietly = quietly;
    nobody_runs = rests m w on told;
    is_shown = subst shown (idle_stays m w told) then;
  }

  module _ {S : Type 0} (stopped : World → S → Type 0) where
    stops_there : (r : Reaction) (p : Progress) → (turn m w plain_step).answer ≡ Ok (reported r last)
        → progress_by r ≡ Some p → Proceeds m before (Ok p) last shown stopped
    stops_there reactions.Ran p told is = absurd (cc)
    stops_there (reactions.Emitted link) p told is =
        let same : progresses.Emitted link ≡ p = cc in
        subst (λ (q : Progress). Proceeds m before (Ok q) last shown stopped) same (comes_to_emit link told)
    stops_there reactions.Idle p told is =
        let same : progresses.Idle ≡ p = cc in
        subst (λ (q : Progress). Proceeds m before (Ok q) last shown stopped) same (comes_to_rest told)
    stops_there reactions.Taken p told is = absurd (answers_as_a_step m w taken told)
    stops_there reactions.Kept p told is = absurd (answers_as_a_step m w kept told)
    stops_there reactions.Busy p told is = absurd (answers_as_a_step m w busy told)
    stops_there reactions.Acknowledged p told is = absurd (answers_as_a_step m w acknowledged told)
    stops_there reactions.Ignored p told is = absurd (answers_as_a_step m w ignored told)

-- a Step after which the next one follows has run
has_run : (r : Reaction) (last : List ℕ) → progress_by r ≡ None → reported r last ≡ ran
has_run reactions.Ran last is = refl
has_run (reactions.Emitted link) last is = absurd (cc)
has_run reactions.Idle last is = absurd (cc)
has_run reactions.Taken last is = absurd (cc)
has_run reactions.Kept last is = absurd (cc)
has_run reactions.Busy last is = absurd (cc)
has_run reactions.Acknowledged last is = absurd (cc)
has_run reactions.Ignored last is = absurd (cc)

-- ---- the loop

pub has_not_gone : (start : PlainExecution) → HasGoneOn start start
has_not_gone start =
    record { same = refl; gone = λ w shows. record { world = w; shows = shows; quietly = Quietly.at_once } }

quietly_twice : (m : Contents) (first second third : World) → Quietly m first second → Quietly m second third
    → Quietly m first third
quietly_twice m first second third before Quietly.at_once = before
quietly_twice m first second third before (Quietly.goes_on w after runs told) =
    Quietly.goes_on w (quietly_twice m first second w before after) runs told

-- it has gone on twice
pub gone_twice : (start now after : PlainExecution) → HasGoneOn start now → HasGoneOn now after
    → HasGoneOn start after
gone_twice start now after before on = record {
  same = on.same ∙ before.same;
  gone = λ w shows.
      let x = before.gone w shows in
      let y = on.gone x.world x.shows in
      let further = subst (λ (m : Contents). Quietly m x.world y.world) before.same y.quietly in
      record {
        world = y.world;
        shows = y.shows;
        quietly = quietly_twice start.contents w x.world y.world x.quietly further;
      };
}

-- what a Step did, in each world that the machine agreed with
abbrev pub Steps : PlainExecution → PlainExecution → Reaction → Type 0
Steps now after r = (v : World) → Shows now v → HasReacted now.contents v plain_step r after.last (Shows after)

module _ (start now after : PlainExecution) (r : Reaction) (on : HasGoneOn start now)
    (same : after.contents ≡ now.contents) (steps : Steps now after r) where
  module _ (w : World) (shows : Shows start w) where
    abbrev here : HasGone start now w
    here = on.gone w shows

    -- what is known of the Step, with what the module said at the start
    did : HasReacted start.contents here.world plain_step r after.last (Shows after)
    did = subst (λ (m : Contents). HasReacted m here.world plain_step r after.last (Shows after)) on.same
        (steps here.world here.shows)

    runs_there : RunsOn start.contents here.world
    runs_there = subst (λ (m : Contents). RunsOn m here.world) on.same here.shows.runs

    ran_on : progress_by r ≡ None → (turn start.contents here.world plain_step).answer ≡ Ok ran
    ran_on is = subst (λ (d : Effect). (turn start.contents here.world plain_step).answer ≡ Ok d)
        (has_run r after.last is) did.answer

    goes_further : progress_by r ≡ None → HasGone start after w
    goes_further is = record {
      world = happens start.contents here.world plain_step;
      shows = did.is_shown;
      quietly = Quietly.goes_on here.world here.quietly
          (somebody_runs start.contents here.world ran (ran_on is) (λ e. cc)) (ran_on is);
    }

    pub proceeds : {S : Type 0} (stopped : World → S → Type 0) (p : Progress) → progress_by r ≡ Some p
        → Proceeds start.contents w (Ok p) after.last (Shows after) stopped
    proceeds stopped p is =
        stops_there start.contents w here.world here.quietly runs_there after.last (Shows after) did.is_shown stopped r
        p did.answer is

    -- less of the budget is left
    pub comes_down : progress_by r ≡ None → after.contents.budget - after.machine.counters.executed
        < now.contents.budget - now.machine.counters.executed
    comes_down is =
        let more = one_more_byte start.contents here.world ran (ran_on is) (λ e. cc) in
        let after_is = ap (λ (c : Counters). c.executed) did.is_shown.agrees.counters in
        let now_is = ap (λ (c : Counters). c.executed) here.shows.agrees.counters in
        let low = did.is_shown.runs.reached.within_limit in
        let budget = ap (λ (m : Contents). m.budget) same in
        omega (arith, more, after_is, now_is, low, budget)

  pub gone_further : progress_by r ≡ None → HasGoneOn start after
  gone_further is = record { same = same ∙ on.same; gone = λ w shows. goes_further w shows is }
