-- Bytes that are not read as a module with its version are no module file.
use Rattle.std.proofs.Common.{◌≡◌, ◌≢◌, ◌⊎◌, inl, inr, ap, ℕ, List, Result, Ok, Err}
use Rattle.module_format.specs.declared.fault.FormatFault.{FormatFault}
use Rattle.module_format.specs.declared.tables.Version.{Version}
use Rattle.module_format.specs.Contents.{Contents}
use Rattle.module_format.specs.Keeping.{IsFile}
use Rattle.module_format.specs.Reading.{out_of_memory, and_then}
use Rattle.module_format.specs.ReadingFile.{read_file, read_contents}
use Rattle.tpm_actions.specs.Malformed.{IsMalformed}

-- what says no version and contents says no contents
contents_fail : (bytes : List ℕ) (fault : FormatFault) → read_file bytes ≡ Err fault → read_contents bytes ≡ Err fault
unfolding read_contents and_then
contents_fail bytes fault e =
    ap (λ (r : Result (Version × Contents) FormatFault). and_then r (λ file. Ok file.1)) e

first_fault : (bytes : List ℕ) (fault : FormatFault) → (fault ≡ out_of_memory) ⊎ (read_file bytes ≡ Err fault)
    → (fault ≡ out_of_memory) ⊎ (read_contents bytes ≡ Err fault)
first_fault bytes fault (inl memory) = inl memory
first_fault bytes fault (inr e) = inr (contents_fail bytes fault e)

-- bytes of which the reader reports this fault
pub malformed : (bytes : List ℕ) (fault : FormatFault) → (fault ≡ out_of_memory) ⊎ (read_file bytes ≡ Err fault)
    → (fault ≢ out_of_memory → (version : Version) (c : Contents) → IsFile version bytes c → ⊥)
    → IsMalformed bytes fault
malformed bytes fault exact refused = record {
  first = first_fault bytes fault exact;
  none = λ other m format. refused other format.version m format.file;
}
