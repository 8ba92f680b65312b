-- What holds after a start: of the starter in the state in which it goes on, and of the branch in that in which it
-- begins.
use Rattle.std.specs.Prelude.{◌≡◌, ℕ, ◌+◌, ℤ, true, List, length, Option}
use Rattle.module_format.specs.Stack.{of_empty}
use Rattle.module_format.specs.Contents.{Contents}
use Rattle.machine_state.specs.declared.process.Mode.TheVariants as machine
use Rattle.machine_state.specs.BranchContexts.{context_of}
use Rattle.machine_state.specs.BranchShares.{frame_address}
use Rattle.machine_state.specs.Holding.{Holding}
use Rattle.machine_state.specs.JoinLookups.{Found}
use Rattle.machine_state.specs.Memory.{Memory}
use Rattle.machine_state.specs.Site.{Local}
use Rattle.module_format.specs.declared.fact.Fact.TheVariants.{Unknown}
use Rattle.certificate.specs.Rights.{may_read_word}
use Rattle.states.specs.declared.known.Mode.TheVariants.{Plain, Starting}
use Rattle.states.specs.declared.known.WordFact.TheVariants.{Alone}
use Rattle.states.specs.State.{State, unknown}
use Rattle.rulings.specs.Fitting.{After}
use Rattle.rulings.specs.Meaning.{Activation, MeansWord, words_left, frame_word}
use Rattle.share_laws.specs.Opening.{layout_with, held_by_opener, CanOpen}
use Rattle.share_laws.specs.Shares.{IsBranch, IsLaidOut}
use Rattle.share_laws.specs.Starts.{CanStart, IsLeft, held_by_branch, held_by_starter}
use Rattle.share_laws.specs.Taking.{IsScheduling, memory_after_start, after_opening}

-- A state among the starts of a row, after this one: nothing is known of registers, and of words that are left what was
-- so before.
pub record GoesOnAs (m : Contents) (found : Found) (act : Activation) (memory : Memory) (depth : ℤ)
    (s : State) : Type 0 where
  pub mode : s.mode ≡ Starting found.row (found.number + 1)
  pub context : s.context ≡ found.par.context
  pub depth_is : s.depth ≡ depth
  pub registers : s.stack ≡ of_empty unknown
  pub words : (k : ℤ) → (words_left m found.par found.par.context (found.number + 1)).reads k ≡ true
      → MeansWord m act k (s.frame k) (frame_word memory act.layout.origin k)

-- a start by a process that is among them already
abbrev pub StartersGoOn : Type 0
StartersGoOn = (m : Contents) (found : Found) (act : Activation) (base : ℕ) (addresses : List (Option ℕ))
    (h : Holding) (memory : Memory) (depth : ℤ) (workspace : ℕ) (s : State) (l : Local)
    → CanStart m found act.layout base addresses h memory depth workspace → GoesOnAs m found act memory depth s
    → l.memory ≡ memory_after_start found base memory → l.registers.workspace ≡ workspace
    → After m (held_by_starter m found base addresses h (length memory)) machine.Starting act s l

-- the same activation, which knows how long messages are on the channels of a PAR
abbrev pub act_with : Activation → Found → Activation
act_with act found = record act { layout = layout_with act.layout found.par }

-- the first start of a PAR
abbrev pub OpenersGoOn : Type 0
OpenersGoOn = (m : Contents) (found : Found) (act : Activation) (base : ℕ) (addresses : List (Option ℕ))
    (h : Holding) (memory : Memory) (depth : ℤ) (workspace : ℕ) (s : State) (l : Local)
    → CanOpen m found.row found.par act.layout base h memory depth workspace → found.number ≡ 0
    → CanStart m found (layout_with act.layout found.par) base addresses
    (held_by_opener found.par base (length memory) h) (after_opening found.par base memory) depth workspace
    → GoesOnAs m found act memory depth s
    → l.memory ≡ memory_after_start found base (after_opening found.par base memory)
    → l.registers.workspace ≡ workspace
    → After m (held_by_starter m found base addresses (held_by_opener found.par base (length memory) h) (length memory))
    machine.Starting (act_with act found) s l

-- ---- the branch

-- A state in which a branch begins: nothing is known of registers and of the words that scheduling takes, and of its
-- other words what is so before the start.
pub record BeginsAs (m : Contents) (found : Found) (act : Activation) (memory : Memory) (s : State) : Type 0 where
  pub mode : s.mode ≡ Plain
  pub context : s.context ≡ context_of m found
  pub depth : s.depth ≡ found.branch.workspace
  pub registers : s.stack ≡ of_empty unknown
  pub taken : (k : ℤ) → IsScheduling found k → s.frame k ≡ Alone Unknown
  pub words : (k : ℤ) → may_read_word m (context_of m found) k ≡ true → (IsScheduling found k → ⊥)
      → MeansWord m act k (s.frame k) (frame_word memory act.layout.origin k)

-- the branch of a start, the first or a later one
abbrev pub BranchesBegin : Type 0
BranchesBegin = (m : Contents) (found : Found) (act : Activation) (base : ℕ) (addresses : List (Option ℕ))
    (h : Holding) (memory : Memory) (depth : ℤ) (workspace : ℕ) (s : State) (l : Local)
    → CanStart m found act.layout base addresses h memory depth workspace → BeginsAs m found act memory s
    → l.memory ≡ memory_after_start found base memory
    → l.registers.workspace ≡ frame_address base found.branch.workspace
    → After m (held_by_branch m found base addresses (length memory)) machine.Plain act s l

-- ---- the first start

-- What an opening leaves can start the first branch, if its share is left and its parameters lie where they should.
abbrev pub OpeningsCanStart : Type 0
OpeningsCanStart = (m : Contents) (found : Found) (act : Activation) (base : ℕ) (addresses : List (Option ℕ))
    (h : Holding) (memory : Memory) (depth : ℤ) (workspace : ℕ)
    → CanOpen m found.row found.par act.layout base h memory depth workspace → found.number ≡ 0 → IsLeft m found
    → IsLaidOut m found.par (layout_with act.layout found.par) base addresses
    → IsBranch m found
    → CanStart m found (layout_with act.layout found.par) base addresses
    (held_by_opener found.par base (length memory) h) (after_opening found.par base memory) depth workspace
