-- How far a machine goes on, up to a limit.
use Rattle.std.specs.Prelude.{◌≡◌, ℕ, ◌+◌, ◌<◌, ◌≤◌, false, Option, Some, None}
use Rattle.module_format.specs.Contents.{Contents}
use Rattle.machine_state.specs.World.{World}
use Rattle.link_runs.specs.FirstInFirstOut.{plain_step}
use Rattle.link_runs.specs.Driving.{HasReacted}
use Rattle.link_runs.specs.declared.driving.Reaction.{Reaction}
use Rattle.link_runs.specs.declared.driving.Reaction.TheVariants.{Idle}
use Rattle.agreement.specs.Agrees.{PlainMachine}
use Rattle.accepted_runs.specs.Reacting.{message_of, HasMessage, is_sent}
use Rattle.accepted_runs.specs.Running.{AgreesOn}
use Rattle.kept_runs.specs.RunningOn.{RunsQuietly, completed_in, is_stop}

-- Of the bytes with which the limit is reached, after so many, only the last one may complete a stop.
abbrev pub StopsAfter : Contents → World → ℕ → ℕ → ℕ → Type 0
StopsAfter m before executed limit later =
    (n : ℕ) (w : World) → RunsQuietly m before n w → limit ≤ executed + n + 1 → executed + n + 1 < later
    → is_stop (completed_in m w) ≡ false

-- One Step more did this.
pub record EndsByStep (m : Contents) (before : World) (executed limit steps : ℕ) (w : World) (reaction : Reaction)
    (after : PlainMachine) : Type 0 where
  pub within : StopsAfter m before executed limit (executed + steps + 1)
  pub reacts : HasReacted m w plain_step reaction (message_of (is_sent reaction) after) (AgreesOn m after)
  pub message : HasMessage (is_sent reaction) after
  pub idles : reaction ≡ Idle → steps ≡ 0

-- The limit is reached.
pub record EndsThere (m : Contents) (before : World) (executed limit steps : ℕ) (w : World) (after : PlainMachine)
    : Type 0 where
  pub within : StopsAfter m before executed limit (executed + steps)
  pub reached : limit ≤ executed + steps
  pub agrees : AgreesOn m after w

abbrev pub EndsSo : Option Reaction → Contents → World → ℕ → ℕ → ℕ → World → PlainMachine → Type 0
EndsSo (Some reaction) m before executed limit steps w after = EndsByStep m before executed limit steps w reaction after
EndsSo None m before executed limit steps w after = EndsThere m before executed limit steps w after

-- After so many Steps it ended so.
pub record GoesTo (m : Contents) (before : World) (executed limit : ℕ) (reaction : Option Reaction)
    (after : PlainMachine) : Type 0 where
  pub steps : ℕ
  pub world : World
  pub quietly : RunsQuietly m before steps world
  pub ends : EndsSo reaction m before executed limit steps world after

-- from each world that the machine agreed with
abbrev pub GoesBy : Contents → PlainMachine → ℕ → Option Reaction → PlainMachine → Type 0
GoesBy m start limit reaction after =
    (w : World) → AgreesOn m start w → GoesTo m w start.counters.executed limit reaction after
