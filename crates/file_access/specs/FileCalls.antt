-- What calls of files can come to: our own choice.
use Rattle.std.specs.Prelude.{ℕ, Bool, List, Result}
use Rattle.command_line.specs.Words.{Text}
use Rattle.file_access.specs.declared.extent.Extent.{Extent}
use Rattle.file_access.specs.declared.files.FileFault.{FileFault}

-- What a read of the file at a path can give if it goes so far, and what the files are afterwards; the same of opening a
-- file and of creating one; and whether a writer can be closed, and what the files are then.
pub record FileCalls (F R W : Type 0) : Type 1 where
  pub reads : F → Text → Extent → Result (List ℕ) FileFault → F → Type 0
  pub opens : F → Text → Result R FileFault → F → Type 0
  pub creates : F → Text → Result W FileFault → F → Type 0
  pub closes : F → W → Bool → F → Type 0
