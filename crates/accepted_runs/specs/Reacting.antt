-- What an event did, and what it sent, which the machine has still.
use Rattle.std.specs.Prelude.{◌≡◌, ⊤, ℕ, Bool, true, false, List, [], Option, Some, None}
use Rattle.link_runs.specs.declared.driving.Progress.{Progress}
use Rattle.link_runs.specs.declared.driving.Progress.TheVariants as progresses
use Rattle.link_runs.specs.declared.driving.Reaction.{Reaction}
use Rattle.link_runs.specs.declared.driving.Reaction.TheVariants.{Ran, Emitted}
use Rattle.agreement.specs.Agrees.{PlainMachine}
use Rattle.agreement.specs.Leaving.{message_in, has_message}

-- the bytes of the message, if one was sent
abbrev pub message_of : Bool → PlainMachine → List ℕ
message_of true machine = message_in machine
message_of false machine = []

-- all of them lie in memory
abbrev pub HasMessage : Bool → PlainMachine → Type 0
HasMessage true machine = has_message machine ≡ true
HasMessage false machine = ⊤

-- an event that did this sent a message
abbrev pub is_sent : Reaction → Bool
is_sent (Emitted link) = true
is_sent _ = false

-- how far a Step that did this goes on by itself; if there is none, the next one follows
abbrev pub progress_by : Reaction → Option Progress
progress_by Ran = None
progress_by (Emitted link) = Some (progresses.Emitted link)
progress_by _ = Some progresses.Idle
