-- What the label after a PAR says, where the first branch is started and where a branch ends; and whose block an end
-- names.
use Rattle.std.specs.Prelude.{◌≡◌, ℕ, ℤ, true, false, List, length, Some, slice_get}
use Rattle.module_format.specs.declared.fact.Fact.TheVariants.{Unknown}
use Rattle.module_format.specs.declared.rows.EndKind.TheVariants.{FrameWord}
use Rattle.module_format.specs.Contents.{Contents, Par, Branch, Label, label_at}
use Rattle.module_format.specs.Rows.{Entry}
use Rattle.module_format.specs.Stack.{of_empty}
use Rattle.certificate.specs.Branches.{numbered_branch}
use Rattle.certificate.specs.Rights.{may_write_word, may_read_word}
use Rattle.machine_state.specs.Memory.{Memory}
use Rattle.states.specs.declared.known.Mode.TheVariants.{Plain, Starting}
use Rattle.states.specs.declared.known.WordFact.TheVariants.{Alone}
use Rattle.states.specs.State.{State, entry_fact, is_alone}
use Rattle.rulings.specs.Meaning.{Layout, Activation, MeansWord, frame_word}
use Rattle.rulings.specs.Regions.{channel_address}
use Rattle.rulings.specs.Remaining.{is_hidden, word_given_to_write}

-- There is a label after the PAR, which says nothing of the registers, the block and the channels, and has no loop on a
-- word that a branch writes. What it says of words that no branch writes holds in an activation.
pub record LabelStands (m : Contents) (par : Par) (act : Activation) (memory : Memory) : Type 0 where
  pub label : Label
  pub at : label_at m par.successor ≡ Some label
  pub context : label.context ≡ par.context
  pub depth : label.depth ≡ par.block
  pub registers : label.stack ≡ of_empty Unknown
  pub hidden : (k : ℤ) → is_hidden par k ≡ true → entry_fact label.entries k ≡ Alone Unknown
  pub alone : (k : ℤ) → word_given_to_write par (length par.branches) k ≡ true
      → is_alone (entry_fact label.entries k) ≡ true
  pub words : (k : ℤ) → may_read_word m par.context k ≡ true → is_hidden par k ≡ false
      → word_given_to_write par (length par.branches) k ≡ false
      → MeansWord m act k (entry_fact label.entries k) (frame_word memory act.layout.origin k)

-- Of the words that a branch may write, which is this context, all that the entries say holds in its activation, where
-- they say it of the word by itself.
abbrev pub LeavesSaid : Contents → ℕ → List Entry → Activation → Memory → Type 0
LeavesSaid m context entries act memory =
    (k : ℤ) → may_write_word m context k ≡ true → is_alone (entry_fact entries k) ≡ true
    → MeansWord m act k (entry_fact entries k) (frame_word memory act.layout.origin k)

-- A process in a state has started all branches of a PAR, or is one of them; and this is the address of the block.
pub data EndsAPar (m : Contents) (s : State) (layout : Layout) (block : ℕ) : Type 0 where
  has_started : (row : ℕ) (par : Par) → s.mode ≡ Starting row (length par.branches) → slice_get m.pars row ≡ Some par
      → block ≡ channel_address layout (FrameWord par.block) → EndsAPar m s layout block
  is_branch : (par : Par) (b : Branch) → s.mode ≡ Plain → numbered_branch m s.context ≡ Some (par, b)
      → block ≡ channel_address layout (FrameWord par.block) → EndsAPar m s layout block
