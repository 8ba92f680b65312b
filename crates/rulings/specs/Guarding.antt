-- What a state in an alternation says of its guards.
use Rattle.std.specs.Prelude.{◌≡◌, ◌⊎◌, ℕ, ℤ, pos, ◌-ℤ◌, ◌≤ℤ◌, ◌<ℤ◌, true, List, Option, Some, slice_get}
use Rattle.module_format.specs.Contents.{Contents}
use Rattle.module_format.specs.declared.rows.Direction.TheVariants.{In}
use Rattle.module_format.specs.declared.rows.EndKind.{EndKind}
use Rattle.certificate.specs.Rights as rights
use Rattle.machine_state.specs.declared.process.Mode as machine
use Rattle.machine_state.specs.declared.process.Mode.TheVariants as machine_modes
use Rattle.machine_state.specs.Memory.{Memory}
use Rattle.states.specs.declared.known.Guard.{Guard}
use Rattle.states.specs.declared.known.GuardKind.TheVariants.{Channel}
use Rattle.states.specs.declared.known.GuardName.{GuardName}
use Rattle.states.specs.declared.known.GuardName.TheVariants.{Constant, Word}
use Rattle.states.specs.declared.known.Mode.{Mode}
use Rattle.states.specs.declared.known.Mode.TheVariants.{Disabling}
use Rattle.states.specs.State.{State}
use Rattle.rulings.specs.Meaning.{Activation, frame_word, words_in}

-- the value of a guard's name
abbrev pub guard_value : Memory → Activation → GuardName → Option ℤ
guard_value memory act (Constant value) = Some value
guard_value memory act (Word word) = frame_word memory act.layout.origin word

-- the number of the first guard that is not disabled
abbrev pub first_left : Mode → ℕ
first_left (Disabling done) = done
first_left mode = 0

-- one of the three words that scheduling takes
abbrev pub IsBelow : ℤ → ℤ → Type 0
IsBelow depth k = ((depth -ℤ pos 3) ≤ℤ k) × (k <ℤ depth)

-- the words that an alternation changes: these three, and once it disables the one for what is selected
abbrev pub IsTaken : Mode → ℤ → ℤ → Type 0
IsTaken (Disabling done) depth k = IsBelow depth k ⊎ (k ≡ depth)
IsTaken mode depth k = IsBelow depth k

-- The guards of a state are at different channels, of which the context has the ends to receive by; and they are named
-- by words that the context may read and that the alternation does not change.
pub record GuardsFit (m : Contents) (s : State) : Type 0 where
  pub apart : (i j : ℕ) (g h : Guard) (kind : EndKind) → slice_get s.guards i ≡ Some g → slice_get s.guards j ≡ Some h
      → g.kind ≡ Channel kind → h.kind ≡ Channel kind → i ≡ j
  pub held : (i : ℕ) (g : Guard) (kind : EndKind) → slice_get s.guards i ≡ Some g → g.kind ≡ Channel kind
      → rights.has_end m s.context (record { kind = kind; direction = In }) ≡ true
  pub read : (i : ℕ) (g : Guard) (word : ℤ) → slice_get s.guards i ≡ Some g → g.name ≡ Word word
      → (words_in m s.context).reads word ≡ true
  pub stays : (i : ℕ) (g : Guard) (word : ℤ) → slice_get s.guards i ≡ Some g → g.name ≡ Word word
      → IsTaken s.mode s.depth word → ⊥

-- The machine has selected the exit of one of the guards.
pub record HasSelected (mode : machine.Mode) (guards : List Guard) : Type 0 where
  pub distance : ℤ
  pub is : mode ≡ machine_modes.Disabling (Some distance)
  pub number : ℕ
  pub guard : Guard
  pub here : slice_get guards number ≡ Some guard
  pub exit : guard.exit ≡ Some distance
