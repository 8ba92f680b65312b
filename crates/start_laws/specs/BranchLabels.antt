-- The label at the first byte of a branch, and the one after a PAR.
use Rattle.std.specs.Prelude.{◌≡◌, ℕ, ◌+◌, ◌<◌, ℤ, true, false, List, length, Option, Some}
use Rattle.module_format.specs.declared.fact.Fact.TheVariants.{Unknown}
use Rattle.module_format.specs.Stack.{of_empty}
use Rattle.module_format.specs.Contents.{Contents, Par, Label, label_at}
use Rattle.machine_state.specs.declared.process.Mode.TheVariants as machine
use Rattle.machine_state.specs.BranchContexts.{context_of}
use Rattle.machine_state.specs.BranchShares.{frame_address}
use Rattle.machine_state.specs.Holding.{Holding}
use Rattle.machine_state.specs.JoinLookups.{Found}
use Rattle.machine_state.specs.Memory.{Memory}
use Rattle.machine_state.specs.Site.{Local}
use Rattle.states.specs.declared.known.WordFact.TheVariants.{Alone}
use Rattle.states.specs.State.{entry_fact, is_alone, label_state}
use Rattle.rulings.specs.Fitting.{After}
use Rattle.rulings.specs.Meaning.{Activation, MeansWord, with_turns, frame_word, words_in, dues}
use Rattle.rulings.specs.Remaining.{is_hidden, word_given_to_write}
use Rattle.share_laws.specs.Starts.{CanStart, held_by_branch}
use Rattle.share_laws.specs.Taking.{memory_after_start}

-- what is owed at a label, where the loops have these turns left
abbrev pub owed_at_label : Label → (ℤ → ℕ) → ℕ
owed_at_label t turns = t.number + dues (entry_fact t.entries) turns

-- There is a label where the branch begins, in the branch's context; and the turns that its loops have there.
pub record BranchLabel (m : Contents) (found : Found) : Type 0 where
  pub label : Label
  pub at : label_at m found.branch.entry ≡ Some label
  pub low : found.branch.entry < length m.code
  pub context : label.context ≡ context_of m found
  pub turns : ℤ → ℕ

-- Whatever can start the branch in this memory, after the start the state of the label holds of the branch.
abbrev pub BeginsAtLabel : {m : Contents} {found : Found} → BranchLabel m found → Activation → Holding → Memory → ℤ → ℕ
    → Type 0
BeginsAtLabel {m = m} {found = found} b act h memory depth workspace =
    (base : ℕ) (addresses : List (Option ℕ)) (l : Local)
    → CanStart m found act.layout base addresses h memory depth workspace
    → l.memory ≡ memory_after_start found base memory
    → l.registers.workspace ≡ frame_address base found.branch.workspace
    → After m (held_by_branch m found base addresses (length memory)) machine.Plain (with_turns b.turns act)
    (label_state b.label) l

-- There is a label after the PAR, in the context and at the depth in which its opener goes on then. It says nothing of
-- registers, of the block and of the channels, and has no loop on a word that a branch writes. All that it says of the
-- words that no branch writes is so in this memory.
pub record LabelAfter (m : Contents) (par : Par) (act : Activation) (memory : Memory) : Type 0 where
  pub label : Label
  pub at : label_at m par.successor ≡ Some label
  pub low : par.successor < length m.code
  pub context : label.context ≡ par.context
  pub depth : label.depth ≡ par.block
  pub registers : label.stack ≡ of_empty Unknown
  pub hidden : (k : ℤ) → is_hidden par k ≡ true → entry_fact label.entries k ≡ Alone Unknown
  pub alone : (k : ℤ) → word_given_to_write par (length par.branches) k ≡ true
      → is_alone (entry_fact label.entries k) ≡ true
  pub turns : ℤ → ℕ
  pub words : (k : ℤ) → (words_in m par.context).reads k ≡ true
      → word_given_to_write par (length par.branches) k ≡ false
      → MeansWord m (with_turns turns act) k (entry_fact label.entries k) (frame_word memory act.layout.origin k)
