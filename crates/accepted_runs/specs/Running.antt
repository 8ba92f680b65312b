-- An accepted module on the plain machine.
use Rattle.std.specs.Prelude.{◌≡◌, ◌≤◌, ℕ, List}
use Rattle.module_format.specs.Contents.{Contents}
use Rattle.module_format.specs.Keeping.{Keeps}
use Rattle.machine_state.specs.World.{World}
use Rattle.agreement.specs.Agrees.{PlainMachine, Agrees}
use Rattle.link_runs.specs.declared.driving.Reaction.{Reaction}
use Rattle.link_runs.specs.Driving.{IsReached, Quietly, HasReacted}
use Rattle.link_runs.specs.FirstInFirstOut.{plain_step}
use Rattle.verifier.specs.Headline.{AreEvents, RunsWell}

-- what the module says, the machine at the moment, and what the last event sent
pub record PlainExecution : Type 0 where
  pub contents : Contents
  pub machine : PlainMachine
  pub last : List ℕ

-- The module is valid and runs well, and events that can happen lead to this world.
pub record RunsOn (m : Contents) (w : World) : Type 0 where
  pub keeps : Keeps m
  pub well : ∥ RunsWell m ∥₁
  pub reached : IsReached m m.budget w
  pub are : AreEvents reached.events

-- the same, and the machine agrees with this world
pub record AgreesOn (m : Contents) (machine : PlainMachine) (w : World) : Type 0 where
  pub runs : RunsOn m w
  pub agrees : Agrees m machine w

abbrev pub Shows : PlainExecution → World → Type 0
Shows r w = AgreesOn r.contents r.machine w

-- there is such a world
abbrev pub Runs : Contents → PlainMachine → Type 0
Runs m machine = (w : World) × AgreesOn m machine w

-- From one world, Steps that emit nothing led to this one, with which the machine agrees.
pub record HasGone (start now : PlainExecution) (w : World) : Type 0 where
  pub world : World
  pub shows : Shows now world
  pub quietly : Quietly start.contents w world

-- so they did from each world that the machine agreed with
pub record HasGoneOn (start now : PlainExecution) : Type 0 where
  pub same : now.contents ≡ start.contents
  pub gone : (w : World) → Shows start w → HasGone start now w

-- So it has gone on to some moment, and then a Step did this.
pub record HasGoneAndReacted (start : PlainExecution) (reaction : Reaction) (after : PlainExecution) : Type 0 where
  pub now : PlainExecution
  pub gone : HasGoneOn start now
  pub more : start.machine.counters.executed ≤ now.machine.counters.executed
  pub same : after.contents ≡ now.contents
  pub steps : (w : World) → Shows now w
      → HasReacted now.contents w plain_step reaction after.last (Shows after)
