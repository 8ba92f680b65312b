-- What holds of a process in an alternation, by the guards of its state.
use Rattle.std.specs.Prelude.{◌≡◌, ◌⊎◌, ℕ, ◌≤◌, ◌<◌, ℤ, pos, true, Some, None, slice_get}
use Rattle.module_format.specs.Contents.{Contents}
use Rattle.module_format.specs.declared.rows.EndKind.{EndKind}
use Rattle.machine_state.specs.declared.process.Mode.TheVariants as machine_modes
use Rattle.machine_state.specs.declared.process.Task.{Task}
use Rattle.machine_state.specs.declared.process.Condition.TheVariants.{Ready}
use Rattle.machine_state.specs.declared.process.Channel.{Channel}
use Rattle.machine_state.specs.declared.link.InputLink.{InputLink}
use Rattle.machine_state.specs.Memory.{Memory}
use Rattle.machine_state.specs.Moves.{cell_of}
use Rattle.machine_state.specs.World.{World, input_word}
use Rattle.machine_state.specs.EnabledLaws.{HasReady}
use Rattle.machine_state.specs.Ownership.{IsWord}
use Rattle.states.specs.declared.known.Guard.{Guard}
use Rattle.states.specs.declared.known.GuardKind.TheVariants.{Channel as AtChannel, Skip}
use Rattle.states.specs.State.{State}
use Rattle.rulings.specs.Meaning.{Activation}
use Rattle.rulings.specs.Regions.{channel_address}
use Rattle.rulings.specs.Guarding.{guard_value, first_left, GuardsFit}

-- a guard that is not disabled is true
pub record IsTrueGuard (memory : Memory) (act : Activation) (s : State) (g : Guard) : Type 0 where
  pub number : ℕ
  pub left : first_left s.mode ≤ number
  pub here : slice_get s.guards number ≡ Some g
  pub value : ℤ
  pub is : guard_value memory act g.name ≡ Some value
  pub holds : value ≡ pos 0 → ⊥

-- a process has enabled the channel or link at an address
pub data EnablesAt (w : World) (p address : ℕ) : Type 0 where
  a_channel : IsWord address → (c : Channel) → slice_get w.channels (cell_of address) ≡ Some (Some c)
      → c.enabled ≡ Some p
      → EnablesAt w p address
  a_link : (k : ℕ) (link : InputLink) → address ≡ input_word k → slice_get w.links.inputs k ≡ Some link
      → link.enabled ≡ Some p → EnablesAt w p address

-- a true guard that is not disabled is at a channel, or needs none
pub record IsTrueChannel (memory : Memory) (act : Activation) (s : State) (address : ℕ) : Type 0 where
  pub guard : Guard
  pub holds : IsTrueGuard memory act s guard
  pub kind : EndKind
  pub is : guard.kind ≡ AtChannel kind
  pub there : channel_address act.layout kind ≡ address

pub record IsTrueSkip (memory : Memory) (act : Activation) (s : State) : Type 0 where
  pub guard : Guard
  pub holds : IsTrueGuard memory act s guard
  pub is : guard.kind ≡ Skip

-- what is selected is the exit of a guard that is disabled
pub record IsExit (s : State) (distance : ℤ) : Type 0 where
  pub number : ℕ
  pub disabled : number < first_left s.mode
  pub guard : Guard
  pub here : slice_get s.guards number ≡ Some guard
  pub exit : guard.exit ≡ Some distance

-- What a process has enabled are the channels of its true guards that are not disabled. Once it is ready, one of them
-- is ready and true; and what it has selected is the exit of a guard that is disabled.
pub record AlternatesHere (m : Contents) (w : World) (p : ℕ) (t : Task) (s : State) (act : Activation) : Type 0 where
  pub fit : GuardsFit m s
  pub values : (n : ℕ) (g : Guard) → slice_get s.guards n ≡ Some g
      → (v : ℤ) × (guard_value w.memory act g.name ≡ Some v)
  pub only : (address : ℕ) → EnablesAt w p address → IsTrueChannel w.memory act s address
  pub back : (g : Guard) (kind : EndKind) → IsTrueGuard w.memory act s g → g.kind ≡ AtChannel kind
      → EnablesAt w p (channel_address act.layout kind)
  pub exits : (distance : ℤ) → t.mode ≡ machine_modes.Disabling (Some distance) → IsExit s distance
  pub ready : (t.mode ≡ machine_modes.Enabling true) ⊎ ((t.mode ≡ machine_modes.Disabling None) × (t.condition ≡ Ready))
      → HasReady w.tasks w.channels w.links.inputs p ⊎ IsTrueSkip w.memory act s
