-- Writing: what a writer has done, and rows whose lists are short enough to be counted in a u16.
use Rattle.std.specs.Prelude.{◌≡◌, ◌<◌, ◌^◌, ℕ, false, List, ◌++◌, length}
use Rattle.std.specs.List.{AllByRecursion}
use Rattle.module_format.specs.declared.writing.writer.Writer.{Writer}
use Rattle.module_format.specs.Contents.{Branch, counts_of, CountsFit, Par}

-- where memory has not run out after the bytes were written, it had not run out before, and they are at the end
abbrev pub Writes : Writer → List ℕ → Writer → Type 0
Writes old bytes new = new.failed ≡ false → (old.failed ≡ false) × (new.bytes.items ≡ old.bytes.items ++ bytes)

abbrev pub BranchIsWritable : Branch → Type 0
BranchIsWritable b = CountsFit (counts_of b)

pub record ParIsWritable (row : Par) : Type 0 where
  pub channels : length row.channels < 2 ^ 16
  pub branch_count : length row.branches < 2 ^ 16
  pub branches : AllByRecursion BranchIsWritable row.branches
