-- Bytes that are no module file.
use Rattle.std.specs.Prelude.{◌≡◌, ◌≢◌, ◌⊎◌, ℕ, List, Err}
use Rattle.module_format.specs.declared.fault.FormatFault.{FormatFault}
use Rattle.module_format.specs.Contents.{Contents}
use Rattle.module_format.specs.Keeping.{Format}
use Rattle.module_format.specs.Reading.{out_of_memory}
use Rattle.module_format.specs.ReadingFile.{read_contents}

-- Unless memory ran out, the bytes are no module file, and this is their first fault.
pub record IsMalformed (bytes : List ℕ) (fault : FormatFault) : Type 0 where
  pub first : (fault ≡ out_of_memory) ⊎ (read_contents bytes ≡ Err fault)
  pub none : fault ≢ out_of_memory → (m : Contents) → Format bytes m → ⊥
