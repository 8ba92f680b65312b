-- How far a file is read.
use Rattle.std.specs.Prelude.{ℕ, ◌+◌, ◌-◌, ◌||◌, codes, nat_eq, Bool, if◌then◌else◌, List, ◌++◌, take}
use Rattle.std.specs.List.{starts_with}
use Rattle.occam_layout.specs.declared.layout.TheConstants.{MAX_BYTES}
use Rattle.module_format.specs.Spelling.{magic_one, magic_two}
use Rattle.file_access.specs.declared.extent.Extent.{Extent}
use Rattle.file_access.specs.declared.extent.Extent.TheVariants.{Source, Module, Either}
use Rattle.file_access.specs.declared.extent.TheConstants.{MAGIC_BYTES}

-- a module file of some version begins so
abbrev pub has_magic : List ℕ → Bool
has_magic bytes = starts_with nat_eq bytes magic_one || starts_with nat_eq bytes magic_two

-- the letters with which the magic of a module begins
abbrev pub module_letters : List ℕ
module_letters = codes "TPM"

-- a file is a module file, whole or not, if it begins so
abbrev pub begins_as_module : List ℕ → Bool
begins_as_module bytes = starts_with nat_eq bytes module_letters

-- what is read of a source after as many bytes as a magic has
abbrev pub rest_of_source : List ℕ → List ℕ
rest_of_source bytes = take (MAX_BYTES + 1 - MAGIC_BYTES) bytes

-- what is read of a module file that begins so and goes on so
abbrev pub module_rest : List ℕ → List ℕ → List ℕ
module_rest front rest = if has_magic front then front ++ rest else front

-- what is read of a module file that has these bytes
abbrev pub module_beginning : List ℕ → List ℕ
module_beginning bytes = if has_magic bytes then bytes else take MAGIC_BYTES bytes

-- what is read of a file that has these bytes
abbrev pub beginning_of : Extent → List ℕ → List ℕ
beginning_of Source bytes = take (MAX_BYTES + 1) bytes
beginning_of Module bytes = module_beginning bytes
beginning_of Either bytes = if begins_as_module bytes then module_beginning bytes else take (MAX_BYTES + 1) bytes
