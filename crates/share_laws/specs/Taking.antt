-- A start takes the words that scheduling wants below the new workspace, and a first start those of the block and the
-- channels: they are undefined from then on. What else is known of the starter's words still holds.
use Rattle.std.specs.Prelude.{◌≡◌, ℕ, ◌+◌, ◌<◌, ℤ, pos, negsuc, ◌+ℤ◌, true, List, ◌++◌, length, Option}
use Rattle.module_format.specs.Contents.{Contents, Par}
use Rattle.module_format.specs.Keeping as formats
use Rattle.machine_state.specs.BranchShares.{frame_address}
use Rattle.machine_state.specs.Holding.{Holding}
use Rattle.machine_state.specs.JoinLookups.{Found}
use Rattle.machine_state.specs.Joins.{without_words}
use Rattle.machine_state.specs.Memory.{Memory, data_start}
use Rattle.machine_state.specs.StartPlans.{scheduling_addresses, block_addresses, channel_addresses}
use Rattle.rulings.specs.Meaning.{Layout, HasFrame, words_in, words_left, frame_word}
use Rattle.rulings.specs.Regions.{scope_of, KeepsMemory}
use Rattle.share_laws.specs.Opening.{CanOpen}
use Rattle.share_laws.specs.Shares.{IsBranch}
use Rattle.share_laws.specs.Starts.{CanStart, IsLeft}

-- memory without the words that scheduling takes of a branch
abbrev pub memory_after_start : Found → ℕ → Memory → Memory
memory_after_start found base memory = without_words (scheduling_addresses (frame_address base found.branch.workspace))
    memory

-- memory without the words of the block and the channels
abbrev pub after_opening : Par → ℕ → Memory → Memory
after_opening par base memory = without_words (block_addresses base par ++ channel_addresses base par) memory

-- word k is one of the three below the branch's workspace
pub record IsScheduling (found : Found) (k : ℤ) : Type 0 where
  pub n : ℕ
  pub low : n < 3
  pub is : k ≡ found.branch.workspace +ℤ negsuc n

-- the start takes no other words, and so none of those that are left to read then
pub record StartTakes (m : Contents) (found : Found) (layout : Layout) (base : ℕ) (addresses : List (Option ℕ))
    (h : Holding) (memory new : Memory) (depth : ℤ) (workspace : ℕ) : Type 0 where
  pub can : CanStart m found layout base addresses h new depth workspace
  pub size : length new ≡ length memory
  pub others : (k : ℤ) → (IsScheduling found k → ⊥)
      → frame_word new layout.origin k ≡ frame_word memory layout.origin k
  pub words : (k : ℤ) → (words_left m found.par found.par.context (found.number + 1)).reads k ≡ true
      → frame_word new layout.origin k ≡ frame_word memory layout.origin k

abbrev pub StartsTakeTheirWords : Type 0
StartsTakeTheirWords = (m : Contents) (found : Found) (layout : Layout) (base : ℕ) (addresses : List (Option ℕ))
    (h : Holding) (memory : Memory) (depth : ℤ) (workspace : ℕ)
    → CanStart m found layout base addresses h memory depth workspace
    → StartTakes m found layout base addresses h memory (memory_after_start found base memory) depth workspace

pub record OpeningTakes (m : Contents) (row : ℕ) (par : Par) (layout : Layout) (base : ℕ) (h : Holding)
    (memory new : Memory) (depth : ℤ) (workspace : ℕ) : Type 0 where
  pub can : CanOpen m row par layout base h new depth workspace
  pub size : length new ≡ length memory
  pub keeps : KeepsMemory m h (scope_of m par.context layout) memory new
  pub words : (k : ℤ) → (words_left m par par.context 0).reads k ≡ true
      → frame_word new layout.origin k ≡ frame_word memory layout.origin k

abbrev pub OpeningsTakeTheirWords : Type 0
OpeningsTakeTheirWords = (m : Contents) (row : ℕ) (par : Par) (layout : Layout) (base : ℕ) (h : Holding)
    (memory : Memory) (depth : ℤ) (workspace : ℕ) → CanOpen m row par layout base h memory depth workspace
    → OpeningTakes m row par layout base h memory (after_opening par base memory) depth workspace

-- What a start takes of a process that has opened a PAR, of all that this has for good: it keeps what the scope of its
-- context has, and all words but the three below the branch's workspace.
pub record OpenerKeeps (m : Contents) (found : Found) (layout : Layout) (h : Holding)
    (memory new : Memory) : Type 0 where
  pub keeps : KeepsMemory m h (scope_of m found.par.context layout) memory new
  pub others : (k : ℤ) → (IsScheduling found k → ⊥)
      → frame_word new layout.origin k ≡ frame_word memory layout.origin k

abbrev pub StartsKeepOpeners : Type 0
StartsKeepOpeners = (m : Contents) (found : Found) (layout : Layout) (base : ℕ) (h : Holding) (memory : Memory)
    (depth : ℤ) (workspace : ℕ) → formats.Keeps m → IsBranch m found → IsLeft m found
    → pos base ≡ pos data_start +ℤ layout.origin
    → HasFrame h (length memory) (words_in m found.par.context) layout.origin depth workspace
    → OpenerKeeps m found layout h memory (memory_after_start found base memory)
