-- What a Step depends on: the bytes that the running process may read, and those that a sender hands to it.
use Rattle.std.specs.Prelude.{◌≡◌, ℕ, ◌+◌, nat_le, nat_lt, ◌&&◌, ◌||◌, Bool, true, false, Option, Some, None, length}
use Rattle.module_format.specs.Contents.{Contents}
use Rattle.machine_state.specs.declared.event.Event.TheVariants.{Step}
use Rattle.machine_state.specs.declared.process.Condition.{Condition}
use Rattle.machine_state.specs.declared.process.Condition.TheVariants.{Sending}
use Rattle.machine_state.specs.declared.process.Exchange.{Exchange}
use Rattle.machine_state.specs.Memory.{Memory, place_of, byte_at}
use Rattle.machine_state.specs.Holding.{may_read}
use Rattle.machine_state.specs.World.{World, holding_at}
use Rattle.machine_state.specs.Site.{Outcome, receives}
use Rattle.machine_state.specs.Turn.{Turn}
use Rattle.machine_state.specs.Exchanges.{input_link}
use Rattle.machine_state.specs.Happens.{turn}
use Rattle.machine_state.specs.Writing.{outcome_of, of_waiting}

abbrev pub sent_by : Condition → Option Exchange
sent_by (Sending e) = Some e
sent_by _ = None

-- what a sender that waits on the channel sends
abbrev pub sent_on : World → Exchange → Option Exchange
sent_on w e = of_waiting (input_link e.channel) w e sent_by

abbrev pub supply_by : World → Outcome → Option Exchange
supply_by w (receives e l) = sent_on w e
supply_by w _ = None

abbrev pub supply : Contents → World → Option Exchange
supply m w = elim (outcome_of m w) [ None ↦ None | Some o ↦ supply_by w o ]

-- the place is in the buffer of the sender
abbrev pub is_supplied : Option Exchange → ℕ → Bool
is_supplied None place = false
is_supplied (Some e) place = nat_le (place_of e.address) place && nat_lt place (place_of e.address + e.length)

-- the running process may read the place, or is handed it by a sender
abbrev pub is_seen : Contents → World → ℕ → Bool
is_seen m w place =
    elim w.queue.running [ None ↦ false | Some p ↦ may_read (holding_at w.roles p) place ]
    || is_supplied (supply m w) place

-- memories of one length that agree where this is true
pub record Agree (seen : ℕ → Bool) (m n : Memory) : Type 0 where
  pub size : length n ≡ length m
  pub same : (place : ℕ) → seen place ≡ true → byte_at n place ≡ byte_at m place

-- the same result, and worlds that differ in memory alone and agree there
pub record SameTurn (seen : ℕ → Bool) (t u : Turn) : Type 0 where
  pub answer : u.answer ≡ t.answer
  pub world : u.world ≡ record t.world { memory = u.world.memory }
  pub agree : Agree seen t.world.memory u.world.memory

abbrev pub StepsSeeWhatTheyRead : Type 0
StepsSeeWhatTheyRead = (m : Contents) (w : World) (n : Memory) (slice : Bool) (pick : ℕ)
    → Agree (is_seen m w) w.memory n
    → SameTurn (is_seen m w) (turn m w (Step slice pick))
    (turn m (record w { memory = n }) (Step slice pick))
