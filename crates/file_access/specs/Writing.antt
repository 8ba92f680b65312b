-- A file that is written: our own choice.
use Rattle.std.specs.Prelude.{◌≡◌, ◌⊎◌, ⊤, ℕ, Bool, true, List, Result, Ok, Err}
use Rattle.std.specs.Io.KnownBytes.{Appends}
use Rattle.command_line.specs.Words.{Text}
use Rattle.file_access.specs.declared.failure.FileFailure.{FileFailure}
use Rattle.file_access.specs.declared.failure.FileFailure.TheVariants as stops
use Rattle.file_access.specs.declared.files.FileFault.TheVariants as file_faults
use Rattle.file_access.specs.Storage.{Storage}

module _ {F R W : Type 0} (storage : Storage F R W) where
  -- The file of this path was created, a writer was given bytes to write, and then it was closed.
  pub record IsWritten (path : Text) (bytes : List ℕ) (before after : F) : Type 0 where
    pub writer : W
    pub created : F
    pub full : W
    pub creates_it : storage.calls.creates before path (Ok writer) created
    pub appends : Appends (storage.written writer) (storage.written full) bytes
    pub closes_it : storage.calls.closes created full true after

  -- The file of this path was created. A writer failed, or could not be closed.
  pub record IsUnwritten (path : Text) (before after : F) : Type 0 where
    pub writer : W
    pub created : F
    pub last : W
    pub closed : Bool
    pub creates_it : storage.calls.creates before path (Ok writer) created
    pub closes_it : storage.calls.closes created last closed after

  -- what became of the file of this path
  abbrev pub Writes : Text → List ℕ → F → F → Result ⊤ FileFailure → Type 0
  Writes path bytes before after (Ok _) = IsWritten path bytes before after
  Writes path bytes before after (Err (stops.Uncreated told)) =
      (told.now ≡ path)
      × (storage.calls.creates before path (Err file_faults.Failed) after ⊎ IsUnwritten path before after)
  Writes path bytes before after (Err stops.Memory) = storage.calls.creates before path (Err file_faults.Memory) after
  Writes path bytes before after (Err failure) = ⊥
