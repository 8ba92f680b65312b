-- The walk over a process leaves the blocks around it as they were, and of ranges nothing that was not known before it.
use Rattle.std.specs.Prelude.{◌≡◌, ℕ, ◌≤◌, List, length}
use Rattle.occam_parser.specs.Blocks.{Process, Construct}
use Rattle.scalar_ranges.specs.Moves.{Known, outermost, begun_with}
use Rattle.program_uses.specs.Actions.{Around}
use Rattle.program_uses.specs.Changes.{changed_by, changed_by_construct}
use Rattle.program_meaning.specs.RangesWithin.{EntriesWithin}
use Rattle.usage_checks.specs.AfterProcesses.{inside, after_construct}

-- The blocks around are the same, and of the names that were in scope before, each range lies within the one before,
-- but for the variables with these numbers.
pub record Stays (ns : List ℕ) (k l : Known) : Type 0 where
  pub blocks : l.blocks ≡ k.blocks
  pub within : EntriesWithin ns (outermost (length k.entries) l.entries) k.entries

-- What a process or a construct does not change has at its end a range within the one before.
pub record RangesStay : Type 0 where
  pub processes : (a : Around) (p : Process) (k : Known) → begun_with k.blocks ≤ length k.entries
      → Stays (changed_by a.signatures k.entries p) k (inside a p k)
  pub constructs : (a : Around) (line : ℕ) (c : Construct) (k : Known) → begun_with k.blocks ≤ length k.entries
      → Stays (changed_by_construct a.signatures k.entries c) k (after_construct a line c k)
