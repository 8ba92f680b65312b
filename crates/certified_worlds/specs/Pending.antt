-- What holds while branches of a PAR run: what its opener goes on with once all are joined, and what each branch began
-- with.
use Rattle.std.specs.Prelude.{◌≡◌, ◌≢◌, ◌⊎◌, ℕ, ◌+◌, ◌≤◌, ℤ, true, false, List, length, Some, slice_get}
use Rattle.module_format.specs.declared.rows.EndKind.TheVariants.{FrameWord}
use Rattle.module_format.specs.Contents.{Contents, Par, Branch, Label, label_at}
use Rattle.module_format.specs.Contexts.{context_at}
use Rattle.module_format.specs.Stack.{of_empty}
use Rattle.module_format.specs.declared.fact.Fact.TheVariants.{Unknown}
use Rattle.certificate.specs.Branches.{numbered_branch}
use Rattle.certificate.specs.Rights.{is_among}
use Rattle.machine_state.specs.declared.process.Condition.TheVariants.{Ready}
use Rattle.machine_state.specs.declared.process.Task.{Task}
use Rattle.machine_state.specs.Memory.{Memory}
use Rattle.machine_state.specs.Holding.{Holding}
use Rattle.machine_state.specs.World.{Join}
use Rattle.machine_state.specs.Waiting.{is_member}
use Rattle.states.specs.declared.known.Mode.TheVariants.{Starting}
use Rattle.states.specs.declared.known.WordFact.TheVariants.{Alone}
use Rattle.states.specs.State.{entry_fact, is_alone}
use Rattle.rulings.specs.Meaning.{Layout, Activation, MeansWord, HasFrame, frame_word, words_in, dues}
use Rattle.rulings.specs.Regions.{scope_of, channel_address, HoldsNamed}
use Rattle.rulings.specs.Remaining.{is_hidden, word_given_to_write}
use Rattle.rulings.specs.Fitting.{Caller}
use Rattle.share_laws.specs.Climbing.{IsLentBy}
use Rattle.share_laws.specs.Shares.{IsLaidOut}
use Rattle.certified_worlds.specs.Point.{Began, Behind, owed_behind, Point}
use Rattle.certified_worlds.specs.Lives.{Meets, it_lives, it_stopped, it_ended}

-- a process is branch b of a PAR
abbrev pub IsBranch : Contents → Began → Par → Branch → Type 0
IsBranch m began par b = numbered_branch m began.context ≡ Some (par, b)

-- The process of a branch is a member of the join. The opener is one too, and no branch of it, whatever it began with.
pub record HasMember (m : Contents) (opener : ℕ) (began : List Began) (par : Par) (j : Join)
    (branch : Branch) : Type 0 where
  pub process : ℕ
  pub other : process ≢ opener
  pub start : Began
  pub has_start : slice_get began process ≡ Some start
  pub member : is_member j.members process ≡ true
  pub is : IsBranch m start par branch

-- A word that a branch has to write which is not joined yet: it is not started, or its process is a member.
pub record IsOut (m : Contents) (opener : ℕ) (began : List Began) (par : Par) (j : Join) (k : ℤ) : Type 0 where
  pub number : ℕ
  pub branch : Branch
  pub here : slice_get par.branches number ≡ Some branch
  pub writes : is_among branch.writes k ≡ true
  pub is_out : (j.started ≤ number) ⊎ HasMember m opener began par j branch

-- the opener is ready and among the starts of this row, in the activation that goes on after the PAR
pub record IsStarter (m : Contents) (t : Task) (point : Point m t) (par : Par) (j : Join) (act : Activation) : Type 0
  where
    pub ready : t.condition ≡ Ready
    pub mode : point.state.mode ≡ Starting j.row j.started
    pub context : point.state.context ≡ par.context
    pub depth : point.state.depth ≡ par.depth
    pub origin : point.act.layout.origin ≡ act.layout.origin
    pub starts : (n : ℕ) → point.act.layout.starts n ≡ act.layout.starts n
    pub back : point.act.layout.back ≡ act.layout.back

-- a process that has done its own endp is over, and has started all branches
abbrev pub StartsHere : {m : Contents} {h : Holding} {b : Began} {memory : Memory} {t : Task} {due : ℕ}
    → Meets m h b memory t due → Par → Join → Activation → Type 0
StartsHere {m = m} {t = t} (it_lives l) par j act = IsStarter m t l.point par j act
StartsHere (it_stopped e) par j act = ⊥
StartsHere (it_ended e) par j act = j.started ≡ length par.branches

-- What a process goes on with after a PAR that it has opened: the state of the label of the successor, an activation,
-- and those that wait for its return. It reads no memory.
pub record AfterPar (m : Contents) (j : Join) (due : ℕ) : Type 0 where
  pub par : Par
  pub row : slice_get m.pars j.row ≡ Some par
  pub label : Label
  pub at : label_at m par.successor ≡ Some label
  pub context : label.context ≡ par.context
  pub depth : label.depth ≡ par.block
  -- nothing is said of registers, of the block, and of the PAR's channels, and no loop is on a word that a branch
  -- writes
  pub registers : label.stack ≡ of_empty Unknown
  pub hidden : (k : ℤ) → is_hidden par k ≡ true → entry_fact label.entries k ≡ Alone Unknown
  pub alone : (k : ℤ) → word_given_to_write par (length par.branches) k ≡ true
      → is_alone (entry_fact label.entries k) ≡ true
  pub act : Activation
  pub callers : List Caller
  -- the join's addresses are those of the activation
  pub laid : IsLaidOut m par act.layout j.base j.parameters
  pub block : j.block ≡ channel_address act.layout (FrameWord par.block)
  pub paid : due ≡ label.number + dues (entry_fact label.entries) act.turns + owed_behind callers

-- The process has all that its context has, though it cannot use all of it now; and what the label says holds of all
-- words but those that branches still have.
pub record Pending (m : Contents) (own : Holding) (opener : ℕ) (began : Began) (all : List Began) (memory : Memory)
    (j : Join) (due : ℕ) (after : AfterPar m j due) : Type 0 where
  pub frame : HasFrame own (length memory) (words_in m after.par.context) after.act.layout.origin after.par.block
      j.block
  pub named : HoldsNamed m own (scope_of m after.par.context after.act.layout) memory
  pub behind : Behind m own began after.par.context after.act.layout memory after.callers
  pub words : (k : ℤ) → (words_in m after.par.context).reads k ≡ true → is_hidden after.par k ≡ false
      → (IsOut m opener all after.par j k → ⊥)
      → MeansWord m after.act k (entry_fact after.label.entries k) (frame_word memory after.act.layout.origin k)

-- What a branch began with is what the opener's row gives it, and its opener has lent it that.
pub record IsMember (m : Contents) (par : Par) (layout : Layout) (began : Began) : Type 0 where
  pub number : ℕ
  pub branch : Branch
  pub here : slice_get par.branches number ≡ Some branch
  pub is : IsBranch m began par branch
  pub frame : context_at m began.context ≡ context_at m par.context
  pub back : began.layout.back ≡ layout.back
  pub lent : IsLentBy m (scope_of m par.context layout) (scope_of m began.context began.layout)
