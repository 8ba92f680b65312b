-- What a start wants of what its starter has left, and what it leaves the branch and the starter.
use Rattle.std.specs.Prelude.{◌≡◌, ℕ, ◌+◌, ◌<◌, ℤ, negsuc, ◌+ℤ◌, true, false, List, length, Option, Some, slice_get}
use Rattle.module_format.specs.declared.rows.Parameter.{Parameter}
use Rattle.module_format.specs.declared.rows.ParameterKind.TheVariants.{WrittenRegion}
use Rattle.module_format.specs.declared.rows.EndRow.{EndRow}
use Rattle.module_format.specs.Contents.{Contents, Par}
use Rattle.module_format.specs.Contexts.{parameters_at}
use Rattle.module_format.specs.Keeping.{Keeps}
use Rattle.certificate.specs.Rights.{is_among}
use Rattle.machine_state.specs.BranchContexts.{context_of}
use Rattle.machine_state.specs.BranchShares.{frame_address, holding_of}
use Rattle.machine_state.specs.Holding.{Holding, may_read}
use Rattle.machine_state.specs.JoinLookups.{Found}
use Rattle.machine_state.specs.Memory.{Memory}
use Rattle.machine_state.specs.Ownership.{IsAmong}
use Rattle.machine_state.specs.Spans.{less}
use Rattle.rulings.specs.Meaning.{Layout, words_in, words_left, HasFrame}
use Rattle.rulings.specs.Reach.{is_listed, may_write_parameter, may_read_parameter}
use Rattle.rulings.specs.Regions.{scope_of, scope_left, HoldsNamed}
use Rattle.rulings.specs.Remaining.{parameter_given_to_write, parameter_given_to_read, end_left}
use Rattle.share_laws.specs.Shares.{IsBranch, IsLaidOut, share_at}

-- parameter j is a region that the PAR's context may write, and that no branch has that is started
pub record IsLeftToWrite (m : Contents) (par : Par) (started j : ℕ) : Type 0 where
  pub parameter : Parameter
  pub size : ℕ
  pub lo : ℤ
  pub hi : ℤ
  pub found : slice_get (parameters_at m par.context) j ≡ Some parameter
  pub kind : parameter.kind ≡ WrittenRegion size lo hi
  pub may : may_write_parameter m par.context j ≡ true
  pub written : parameter_given_to_write par started j ≡ false
  pub read : parameter_given_to_read par started j ≡ false

-- parameter j is one that the PAR's context may read, and that no branch has to write that is started
pub record IsLeftToRead (m : Contents) (par : Par) (started j : ℕ) : Type 0 where
  pub may : may_read_parameter m par.context j ≡ true
  pub written : parameter_given_to_write par started j ≡ false

-- What a branch's row gives it is left, once the branches before it are started: what it is to write is to write, what
-- it is to read may be read, and its ends are there. The words that scheduling takes below its workspace are its own.
pub record IsLeft (m : Contents) (found : Found) : Type 0 where
  pub writes : (k : ℤ) → is_among found.branch.writes k ≡ true
      → (words_left m found.par found.par.context found.number).writes k ≡ true
  pub reads : (k : ℤ) → is_among found.branch.reads k ≡ true
      → (words_left m found.par found.par.context found.number).reads k ≡ true
  pub written : (j : ℕ) → is_listed found.branch.written_parameters j ≡ true
      → IsLeftToWrite m found.par found.number j
  pub read : (j : ℕ) → is_listed found.branch.read_parameters j ≡ true → IsLeftToRead m found.par found.number j
  pub ends : (e : EndRow) → IsAmong e found.branch.ends
      → end_left m found.par found.par.context found.number e.kind e.direction ≡ true
  pub scheduling : (n : ℕ) → n < 3 → is_among found.branch.writes (found.branch.workspace +ℤ negsuc n) ≡ true

-- A starter holds what its scope has left, in memory, where a layout says; and a branch's share of it is left.
pub record CanStart (m : Contents) (found : Found) (layout : Layout) (base : ℕ) (addresses : List (Option ℕ))
    (h : Holding) (memory : Memory) (depth : ℤ) (workspace : ℕ) : Type 0 where
  pub keeps : Keeps m
  pub is : IsBranch m found
  pub laid : IsLaidOut m found.par layout base addresses
  pub frame : HasFrame h (length memory) (words_left m found.par found.par.context found.number) layout.origin depth
      workspace
  pub named : HoldsNamed m h (scope_left m found.par found.par.context found.number layout) memory
  pub left : IsLeft m found
  pub inside : (x : ℕ) → may_read h x ≡ true → x < length memory

-- what a branch holds from its start on
abbrev pub held_by_branch : Contents → Found → ℕ → List (Option ℕ) → ℕ → Holding
held_by_branch m found base addresses n = holding_of m n (share_at m found base addresses)

-- what is left to its starter
abbrev pub held_by_starter : Contents → Found → ℕ → List (Option ℕ) → Holding → ℕ → Holding
held_by_starter m found base addresses h n = less n h (share_at m found base addresses)

-- a branch has its frame, in memory, and what its context names
pub record BranchHolds (m : Contents) (found : Found) (layout : Layout) (base : ℕ) (h : Holding)
    (memory : Memory) : Type 0 where
  pub frame : HasFrame h (length memory) (words_in m (context_of m found)) layout.origin found.branch.workspace
      (frame_address base found.branch.workspace)
  pub named : HoldsNamed m h (scope_of m (context_of m found) layout) memory
  pub inside : (x : ℕ) → may_read h x ≡ true → x < length memory

-- a starter has its frame, in memory, and what its scope has left after one start more
pub record StarterHolds (m : Contents) (found : Found) (layout : Layout) (h : Holding) (memory : Memory) (depth : ℤ)
    (workspace : ℕ) : Type 0 where
  pub frame : HasFrame h (length memory) (words_left m found.par found.par.context (found.number + 1)) layout.origin
      depth workspace
  pub named : HoldsNamed m h (scope_left m found.par found.par.context (found.number + 1) layout) memory
  pub inside : (x : ℕ) → may_read h x ≡ true → x < length memory

abbrev pub BranchesHoldTheirShares : Type 0
BranchesHoldTheirShares = (m : Contents) (found : Found) (layout : Layout) (base : ℕ) (addresses : List (Option ℕ))
    (h : Holding) (memory : Memory) (depth : ℤ) (workspace : ℕ)
    → CanStart m found layout base addresses h memory depth workspace
    → BranchHolds m found layout base (held_by_branch m found base addresses (length memory)) memory

abbrev pub StartersHoldTheRest : Type 0
StartersHoldTheRest = (m : Contents) (found : Found) (layout : Layout) (base : ℕ) (addresses : List (Option ℕ))
    (h : Holding) (memory : Memory) (depth : ℤ) (workspace : ℕ)
    → CanStart m found layout base addresses h memory depth workspace
    → StarterHolds m found layout (held_by_starter m found base addresses h (length memory)) memory depth workspace
