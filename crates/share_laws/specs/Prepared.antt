-- The words by which a PAR is opened, and the tests of its starts.
use Rattle.std.specs.Prelude.{◌≡◌, ℕ, ◌+◌, ℤ, pos, ◌+ℤ◌, true, length, Some, None, slice_get}
use Rattle.word_arithmetic.specs.Word.{least_word}
use Rattle.module_format.specs.declared.rows.ChannelRow.{ChannelRow}
use Rattle.module_format.specs.declared.rows.Parameter.{Parameter}
use Rattle.module_format.specs.Contents.{Contents, Par}
use Rattle.module_format.specs.Contexts.{parameters_at}
use Rattle.certificate.specs.Rights.{may_read_word}
use Rattle.machine_state.specs.BranchShares.{frame_address}
use Rattle.machine_state.specs.Holding.{Holding}
use Rattle.machine_state.specs.JoinLookups.{Found, row_names}
use Rattle.machine_state.specs.Memory.{Memory}
use Rattle.machine_state.specs.Ownership.{IsAmong}
use Rattle.machine_state.specs.StartPlans.{first_plan, later_plan, first_fault, first_faults, later_faults}
use Rattle.machine_state.specs.World.{Join}
use Rattle.rulings.specs.Meaning.{Layout, frame_word, word_of, code_address}
use Rattle.share_laws.specs.Opening.{layout_with, CanOpen}
use Rattle.share_laws.specs.Shares.{IsBranch, IsLaidOut}
use Rattle.share_laws.specs.Starts.{CanStart, IsLeft}

-- a parameter's word may be read, and has the address where the parameter lies
pub record SaysWhere (m : Contents) (par : Par) (layout : Layout) (memory : Memory) (j : ℕ)
    (p : Parameter) : Type 0 where
  pub reads : may_read_word m par.context (pos p.word) ≡ true
  pub is : frame_word memory layout.origin (pos p.word) ≡ Some (word_of (pos (layout.starts j)))

-- The block has the address of the successor, and one more than the number of branches; the channels are empty; and the
-- words of the parameters that the row names say where these lie.
pub record IsPrepared (m : Contents) (par : Par) (layout : Layout) (memory : Memory) : Type 0 where
  pub block : frame_word memory layout.origin par.block ≡ Some (word_of (pos (code_address m par.successor)))
  pub count : frame_word memory layout.origin (par.block +ℤ pos 1) ≡ Some (pos (length par.branches + 1))
  pub channels : (c : ChannelRow) → IsAmong c par.channels
      → frame_word memory layout.origin c.word ≡ Some least_word
  pub parameters : (j : ℕ) (p : Parameter) → row_names par j ≡ true
      → slice_get (parameters_at m par.context) j ≡ Some p → SaysWhere m par layout memory j p

-- where a PAR is opened, its plan lies where its starter's layout says
abbrev pub PlansAreLaidOut : Type 0
PlansAreLaidOut = (m : Contents) (p : ℕ) (found : Found) (layout : Layout) (h : Holding) (memory : Memory)
    (workspace : ℕ) → let plan = first_plan m p workspace h memory found in
    CanOpen m found.row found.par layout plan.base h memory found.par.depth workspace
    → IsPrepared m found.par layout memory
    → IsLaidOut m found.par (layout_with layout found.par) plan.base plan.addresses

-- The first start of a PAR passes the tests of starts: its words are prepared, and the share of the first branch is
-- left.
abbrev pub FirstStartsPass : Type 0
FirstStartsPass = (m : Contents) (p : ℕ) (found : Found) (layout : Layout) (h : Holding) (memory : Memory)
    (workspace : ℕ) → let plan = first_plan m p workspace h memory found in
    CanOpen m found.row found.par layout plan.base h memory found.par.depth workspace
    → IsPrepared m found.par layout memory → found.number ≡ 0 → IsBranch m found → IsLeft m found
    → first_fault (first_faults m memory h plan found (frame_address plan.base found.branch.workspace)) ≡ None

-- and so does a later one, by the plan of the open join
abbrev pub LaterStartsPass : Type 0
LaterStartsPass = (m : Contents) (join : Join) (found : Found) (layout : Layout) (memory : Memory) (depth : ℤ)
    (workspace : ℕ) → CanStart m found layout join.base join.parameters join.rest memory depth workspace
    → found.number ≡ join.started
    → first_fault (later_faults (length memory) (later_plan m join found.par) found
    (frame_address join.base found.branch.workspace)) ≡ None
