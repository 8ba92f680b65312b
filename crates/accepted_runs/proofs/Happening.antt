-- An event that can happen, in each world that the machine agrees with.
use Rattle.std.proofs.Common.{◌≡◌, ◌<◌, Ok, refl, sym, subst}
use Rattle.module_format.specs.Contents.{Contents}
use Rattle.module_format.specs.Keeping.{Keeps}
use Rattle.machine_state.specs.declared.event.Event.{Event}
use Rattle.machine_state.specs.Happens.{turn, happens, world_after, most_executed}
use Rattle.machine_state.specs.Turn.{Turn}
use Rattle.machine_state.specs.World.{World, Counters, loaded}
use Rattle.agreement.specs.Agrees.{PlainMachine, Agrees}
use Rattle.agreement.specs.Loading.{loaded_machine}
use Rattle.agreement.specs.TurnsAgree.{IsAnswered}
use Rattle.agreement.proofs.Loading.{loaded_agrees}
use Rattle.link_runs.specs.declared.driving.Reaction.{Reaction}
use Rattle.link_runs.specs.declared.driving.Reaction.TheVariants as reactions
use Rattle.link_runs.specs.Driving.{reported}
use Rattle.accepted_runs.proofs.NeverAtFault.{never_fails, below_most, runs_further, runs_from_the_start}
use Rattle.plain_run.specs.Stepping as plain
use Rattle.plain_run.specs.Stepping.{CanHappen}
use Rattle.verifier.specs.Headline.{IsEvent, RunsWell}
use Rattle.accepted_runs.specs.Running.{AgreesOn}
use Rattle.accepted_runs.specs.Reacting.{message_of, HasMessage, is_sent}

-- the loaded machine
pub at_first : (m : Contents) → Keeps m → ∥ RunsWell m ∥₁ → AgreesOn m (loaded_machine m) (loaded m)
at_first m keeps well =
    record { runs = runs_from_the_start m (loaded m) keeps well refl; agrees = loaded_agrees m }

-- What an event did, by the reaction.
record HasDone (m : Contents) (reaction : Reaction) (after : PlainMachine) (t : Turn) : Type 0 where
  pub answer : t.answer ≡ Ok (reported reaction (message_of (is_sent reaction) after))
  pub agrees : Agrees m after t.world
  pub message : HasMessage (is_sent reaction) after

has_done : (m : Contents) (reaction : Reaction) (after : PlainMachine) (t : Turn)
    → plain.HasReacted m reaction after t → HasDone m reaction after t
has_done m reactions.Ran after t is = record { answer = is.answer; agrees = is.agrees; message = tt }
has_done m reactions.Idle after t is = record { answer = is.answer; agrees = is.agrees; message = tt }
has_done m (reactions.Emitted link) after t is =
    record { answer = is.answer; agrees = is.agrees; message = is.inside }
has_done m reactions.Taken after t is = record { answer = is.answer; agrees = is.agrees; message = tt }
has_done m reactions.Kept after t is = record { answer = is.answer; agrees = is.agrees; message = tt }
has_done m reactions.Busy after t is = record { answer = is.answer; agrees = is.agrees; message = tt }
has_done m reactions.Acknowledged after t is = record { answer = is.answer; agrees = is.agrees; message = tt }
has_done m reactions.Ignored after t is = record { answer = is.answer; agrees = is.agrees; message = tt }

module _ (m : Contents) (machine : PlainMachine) (w : World) (on : AgreesOn m machine w) where
  -- it agrees with that world as these events lead to it
  there : Agrees m machine (world_after m on.runs.reached.events)
  there = subst (λ (v : World). Agrees m machine v) on.runs.reached.world on.agrees

  module _ (e : Event) (is : IsEvent e) where
    answered : IsAnswered (turn m (world_after m on.runs.reached.events) e)
    answered = subst (λ (v : World). IsAnswered (turn m v e)) on.runs.reached.world
        (λ f fails. never_fails m w on.runs e f is fails)

    pub can_happen : CanHappen m machine e
    can_happen = record {
      keeps = on.runs.keeps;
      events = on.runs.reached.events;
      agrees = there;
      answered = answered;
      few = subst (λ (c : Counters). c.executed < most_executed) (sym on.agrees.counters) (below_most m w on.runs);
    }

    -- it happens in that world
    pub happens_there : world_after m can_happen.events ≡ w
    unfolding can_happen
    happens_there = sym on.runs.reached.world

    module _ (reaction : Reaction) (after : PlainMachine) (reacts : plain.Reacts m machine e reaction after) where
      done : HasDone m reaction after (turn m w e)
      done = has_done m reaction after (turn m w e)
          (subst (λ (v : World). plain.HasReacted m reaction after (turn m v e)) (sym on.runs.reached.world)
          (reacts on.runs.reached.events there answered))

      pub answers : (turn m w e).answer ≡ Ok (reported reaction (message_of (is_sent reaction) after))
      answers = done.answer

      -- the machine agrees with the world after it
      pub goes_on : AgreesOn m after (happens m w e)
      goes_on = record { runs = runs_further m w on.runs e is; agrees = done.agrees }

      -- and has the message, if one was sent
      pub has_message : HasMessage (is_sent reaction) after
      has_message = done.message
