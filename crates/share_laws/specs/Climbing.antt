-- How a change that a process makes within what it began with is one that its opener's scope allows, and on up.
use Rattle.std.specs.Prelude.{◌≡◌, ℕ, ℤ, pos, true, false, length, Some}
use Rattle.module_format.specs.declared.rows.Parameter.{Parameter}
use Rattle.module_format.specs.declared.rows.ParameterKind.TheVariants.{WrittenRegion}
use Rattle.module_format.specs.Contents.{Contents}
use Rattle.module_format.specs.Keeping.{Keeps}
use Rattle.machine_state.specs.BranchContexts.{context_of}
use Rattle.machine_state.specs.Frame.{ChangesOwn}
use Rattle.machine_state.specs.Holding.{Holding}
use Rattle.machine_state.specs.JoinLookups.{Found}
use Rattle.machine_state.specs.Memory.{Memory}
use Rattle.rulings.specs.Lends.{Lends}
use Rattle.rulings.specs.Meaning.{Layout, HasFrame, frame_word}
use Rattle.rulings.specs.Regions as regions
use Rattle.rulings.specs.Regions.{Scope, scope_of, HoldsNamed}
use Rattle.share_laws.specs.Shares.{IsBranch}
use Rattle.share_laws.specs.Starts.{IsLeft}

-- ---- a branch and its opener

-- two layouts whose frames and parameters lie at the same places
pub record LieAlike (layout other : Layout) : Type 0 where
  pub origin : other.origin ≡ layout.origin
  pub starts : (j : ℕ) → other.starts j ≡ layout.starts j

-- An opener has lent its branch what that has, and what the branch may write of parameters the opener may write, where
-- they lie.
pub record IsLentBy (m : Contents) (opener branch : Scope) : Type 0 where
  pub lends : Lends m opener branch (pos 0)
  pub alike : LieAlike opener.layout branch.layout
  pub regions : (j : ℕ) (p : Parameter) (size : ℕ) (lo hi : ℤ) → branch.parameters j ≡ Some p
      → p.kind ≡ WrittenRegion size lo hi
      → (q : Parameter) × (opener.parameters j ≡ Some q) × (q.kind ≡ WrittenRegion size lo hi)

abbrev pub BranchesAreLent : Type 0
BranchesAreLent = (m : Contents) (found : Found) (layout other : Layout) → Keeps m → IsBranch m found → IsLeft m found
    → LieAlike layout other → IsLentBy m (scope_of m found.par.context layout) (scope_of m (context_of m found) other)

-- ---- changes

-- A process changes bytes of its own, and of those that it may read only what a scope allows.
pub record ChangesWithin (m : Contents) (h : Holding) (scope : Scope) (old new : Memory) : Type 0 where
  pub own : ChangesOwn h old new
  pub keeps : regions.KeepsMemory m h scope old new

-- one rung of the tree of processes: what a branch holds and began with, and what its opener holds and waits in
pub record IsRung (m : Contents) (memory : Memory) (theirs mine : Holding) (opener branch : Scope) : Type 0 where
  pub depth : ℤ
  pub workspace : ℕ
  pub lent : IsLentBy m opener branch
  pub frame : HasFrame theirs (length memory) opener.words opener.layout.origin depth workspace
  pub opener_named : HoldsNamed m theirs opener memory
  pub branch_named : HoldsNamed m mine branch memory

-- what a branch changes within its scope is within its opener's
abbrev pub ChangesClimb : Type 0
ChangesClimb = (m : Contents) (theirs mine : Holding) (opener branch : Scope) (old new : Memory)
    → IsRung m old theirs mine opener branch → ChangesWithin m mine branch old new
    → ChangesWithin m theirs opener old new

-- and a word that the opener may read, and the branch has not to write, stays
abbrev pub OtherWordsStay : Type 0
OtherWordsStay = (m : Contents) (theirs mine : Holding) (opener branch : Scope) (old new : Memory)
    → IsRung m old theirs mine opener branch → ChangesWithin m mine branch old new → (k : ℤ)
    → opener.words.reads k ≡ true → branch.words.writes k ≡ false
    → frame_word new opener.layout.origin k ≡ frame_word old opener.layout.origin k

-- ---- from any process up to one that has a join open

-- The way from a process up to q, by what each has for good, began with and waits in: each is a branch of the next, and
-- whatever keeps what one waits in keeps what it began with.
pub data LeadsUp (m : Contents) (memory : Memory) (own : ℕ → Holding) (began waits_in : ℕ → Scope) (q : ℕ) : ℕ → Type 0
  where
    is_branch : (p : ℕ) → IsRung m memory (own q) (own p) (waits_in q) (began p)
        → LeadsUp m memory own began waits_in q p
    is_under : (p o : ℕ) → IsRung m memory (own o) (own p) (waits_in o) (began p)
        → ((new : Memory) → regions.KeepsMemory m (own o) (waits_in o) memory new
        → regions.KeepsMemory m (own o) (began o) memory
        new)
        → LeadsUp m memory own began waits_in q o → LeadsUp m memory own began waits_in q p

-- the branch of q that a process is, or is under, by whose scope all changes are allowed
pub record ByBranch (m : Contents) (old new : Memory) (own : ℕ → Holding) (began waits_in : ℕ → Scope)
    (q : ℕ) : Type 0 where
  pub branch : ℕ
  pub rung : IsRung m old (own q) (own branch) (waits_in q) (began branch)
  pub within : ChangesWithin m (own branch) (began branch) old new

abbrev pub ChangesAreByABranch : Type 0
ChangesAreByABranch = (m : Contents) (old new : Memory) (own : ℕ → Holding) (began waits_in : ℕ → Scope) (q p : ℕ)
    → LeadsUp m old own began waits_in q p → ChangesWithin m (own p) (began p) old new
    → ByBranch m old new own began waits_in q
