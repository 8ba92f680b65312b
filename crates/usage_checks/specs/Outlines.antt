-- The walk keeps the outline of what is in scope, as it comes to the parts of a process and after each of them: the
-- names are the same, and denote the same but for ranges, values and sizes.
use Rattle.std.specs.Prelude.{◌≡◌, ℕ, ◌<◌, List, length, map, None}
use Rattle.occam_layout.specs.declared.mark.Mark.TheVariants as mark
use Rattle.occam_parser.specs.Terminals.{Terminal, Mark}
use Rattle.occam_parser.specs.Lines.{Replicator}
use Rattle.occam_parser.specs.Blocks.{Process, Construct, Body, Part, Processes, Choices, Branches, Components}
use Rattle.occam_parser.specs.Blocks.{Component}
use Rattle.scalar_ranges.specs.Entries.{Entry}
use Rattle.scalar_ranges.specs.Moves.{Block, Known}
use Rattle.scalar_ranges.specs.Nesting.{AreNested}
use Rattle.program_uses.specs.Actions.{Around}
use Rattle.program_uses.specs.Declaring.{add}
use Rattle.program_uses.specs.Indices.{is_sequence, index_meaning}
use Rattle.program_uses.specs.Outlines.{outline}
use Rattle.usage_checks.specs.AfterProcesses.{left_to, begun, inside, after_construct, after_components}
use Rattle.usage_checks.specs.Reaching.{entered, repeats_in, in_turn_of}

-- the outlines with which the blocks around begin
abbrev pub outlines_of : List Block → List (List Entry)
outlines_of bs = map (λ (b : Block). outline b.start) bs

-- The same is known in both places, but for ranges, values and sizes.
pub record HaveOneOutline (k l : Known) : Type 0 where
  pub entries : outline k.entries ≡ outline l.entries
  pub blocks : outlines_of k.blocks ≡ outlines_of l.blocks

-- what is side by side in a block
abbrev pub AreProcesses : Part → Type 0
AreProcesses Processes = Unit {0}
AreProcesses part = ⊥

abbrev pub AreChoices : Part → Type 0
AreChoices Choices = Unit {0}
AreChoices part = ⊥

abbrev pub AreBranches : Part → Type 0
AreBranches Branches = Unit {0}
AreBranches part = ⊥

-- A block with this word is made of such components.
abbrev pub IsMadeOf : Terminal → Part → Type 0
IsMadeOf (Mark mark.Seq) part = AreProcesses part
IsMadeOf (Mark mark.Par) part = AreProcesses part
IsMadeOf (Mark mark.If) part = AreChoices part
IsMadeOf (Mark mark.Alt) part = AreBranches part
IsMadeOf word part = ⊥

-- ---- the law

-- In nested blocks the outline is the same after a process, without what it declares, and after a construct. So it is
-- after each component of a block, where the next one begins, and where the process of a component begins; and a body
-- under a replicator begins each turn with the outline at the replicator, and its index.
pub record OutlinesStay : Type 0 where
  pub processes : (a : Around) (p : Process) (k : Known) → AreNested k.entries k.blocks
      → HaveOneOutline (left_to (length k.entries) (inside a p k)) k
  pub constructs : (a : Around) (line : ℕ) (c : Construct) (k : Known) → AreNested k.entries k.blocks
      → HaveOneOutline (after_construct a line c k) k
  pub components : {part : Part} (a : Around) (word : Terminal) (cs : Components part) (k : Known)
      → AreNested k.entries k.blocks → IsMadeOf word part
      → HaveOneOutline (after_components a word cs (begun word k)) (begun word k)
  pub entering : {part : Part} (c : Component part) (k : Known) → AreNested k.entries k.blocks
      → HaveOneOutline (entered c k) k
  pub turns : (a : Around) (line : ℕ) (r : Replicator) (b : Body) (k : Known) (n : ℕ) → AreNested k.entries k.blocks
      → n < (repeats_in a line r b k).turns.count
      → outline (in_turn_of a line r b k n).entries
      ≡ outline (add r.name (index_meaning (is_sequence b) None) k.entries)
