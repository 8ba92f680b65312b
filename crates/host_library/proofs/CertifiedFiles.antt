-- What is found of the module in a file is found of the file.
use Rattle.std.proofs.Common.{◌≡◌, ℕ, List, subst}
use Rattle.module_format.specs.Contents.{Contents}
use Rattle.host_library.specs.Files.{IsCertifiedFile}

-- what holds of the module holds of what the file says
pub of_module : {bytes : List ℕ} {found : Contents} (holds_of : Contents → Type 0)
    → IsCertifiedFile bytes (λ m. found ≡ m) → holds_of found → IsCertifiedFile bytes holds_of
of_module holds_of file holds = record {
  contents = file.contents;
  format = file.format;
  certified = file.certified;
  runs_well = file.runs_well;
  holds = subst holds_of file.holds holds;
}
