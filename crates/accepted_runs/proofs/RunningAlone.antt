-- A process that goes on by itself, in each world that the machine agrees with.
use Rattle.std.proofs.Common.{◌≡◌, ℕ, List, [], ap, arith, refl}
use Rattle.module_format.specs.Contents.{Contents}
use Rattle.machine_state.specs.Happens.{turn, happens, world_after}
use Rattle.machine_state.specs.Turn.{ran}
use Rattle.machine_state.specs.World.{World}
use Rattle.link_runs.specs.FirstInFirstOut.{plain_step}
use Rattle.agreement.specs.Agrees.{PlainMachine}
use Rattle.agreement.specs.Arriving.{Comes}
use Rattle.plain_run.specs.RunningAlone.{CanRunAlone, RanAlone}
use Rattle.plain_run.specs.Stepping.{CanHappen, Reacts}
use Rattle.plain_run.proofs.RunningAlone as alone
use Rattle.link_runs.specs.declared.driving.Reaction.{Reaction}
use Rattle.accepted_runs.specs.Reacting.{message_of, is_sent}
use Rattle.accepted_runs.specs.Running.{AgreesOn, HasGoneAndReacted}
use Rattle.accepted_runs.proofs.Happening as happening
use Rattle.accepted_runs.proofs.Happening.{can_happen, happens_there}
use Rattle.accepted_runs.proofs.NeverAtFault.{runs_further}

module _ (m : Contents) where
  abbrev pub can_step : (machine : PlainMachine) (w : World) → AgreesOn m machine w → CanHappen m machine plain_step
  can_step machine w on = can_happen m machine w on plain_step tt

  pub there : (machine : PlainMachine) (w : World) (on : AgreesOn m machine w)
      → world_after m (can_step machine w on).events ≡ w
  there machine w on = happens_there m machine w on plain_step tt

  pub leads : (machine after : PlainMachine) (w : World) → AgreesOn m machine w
      → Comes m after ran (turn m w plain_step) → AgreesOn m after (happens m w plain_step)
  leads machine after w on came = record { runs = runs_further m w on.runs plain_step tt; agrees = came.agrees }

  pub can_run_alone : (machine : PlainMachine) (w : World) → AgreesOn m machine w → CanRunAlone m machine
  can_run_alone = alone.can_run_alone m (AgreesOn m) can_step there leads

  pub comes_alone : (machine after : PlainMachine) (w : World) → AgreesOn m machine w → RanAlone m machine after
      → alone.ComesAlone m (AgreesOn m) can_step there leads after w
  comes_alone = alone.comes_alone m (AgreesOn m) can_step there leads

  -- it has gone on, and then a Step did this
  pub has_gone : (machine between after : PlainMachine) (last : List ℕ) (reaction : Reaction)
      → RanAlone m machine between → Reacts m between plain_step reaction after
      → HasGoneAndReacted (record { contents = m; machine = machine; last = last }) reaction
      (record { contents = m; machine = after; last = message_of (is_sent reaction) after })
  has_gone machine between after last reaction went reacts = record {
    now = record { contents = m; machine = between; last = [] };
    gone = record {
      same = refl;
      gone = λ w shows.
          let come = comes_alone machine between w shows went in
          record { world = come.world; shows = come.on; quietly = come.quietly };
    };
    more = let count = ap (λ (q : PlainMachine). q.counters.executed) went.same in omega (arith, count);
    same = refl;
    steps = λ w shows. record {
      answer = happening.answers m between w shows plain_step tt reaction after reacts;
      is_shown = happening.goes_on m between w shows plain_step tt reaction after reacts;
    };
  }
