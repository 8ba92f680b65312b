-- Where a process lives: the state and the activation of its point.
use Rattle.std.specs.Prelude.{◌≡◌, ℕ}
use Rattle.module_format.specs.Contents.{Contents}
use Rattle.machine_state.specs.declared.process.Task.{Task}
use Rattle.machine_state.specs.Memory.{Memory}
use Rattle.machine_state.specs.Holding.{Holding}
use Rattle.states.specs.State.{State}
use Rattle.rulings.specs.Meaning.{Activation}
use Rattle.certified_worlds.specs.Point.{Began}
use Rattle.certified_worlds.specs.Lives.{Lives}

-- A process that lives in a state and an activation.
pub record LivesAs (m : Contents) (h : Holding) (began : Began) (memory : Memory) (t : Task) (due : ℕ) (s : State)
    (act : Activation) : Type 0 where
  pub lives : Lives m h began memory t due
  pub state_is : lives.point.state ≡ s
  pub act_is : lives.point.act ≡ act
