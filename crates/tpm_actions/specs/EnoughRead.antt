-- How far the file is read that is asked about, and that no further byte decides what is answered.
use Rattle.std.specs.Prelude.{◌≡◌, ℕ, true, false, List}
use Rattle.occam_layout.specs.declared.fault.LayoutFault.{LayoutFault}
use Rattle.occam_layout.specs.declared.fault.TheConstants.{TOO_LARGE}
use Rattle.module_format.specs.declared.fault.FormatFault.{FormatFault}
use Rattle.module_format.specs.declared.fault.TheConstants.{MAGIC}
use Rattle.compiler.specs.declared.source.CompileFault.TheVariants.{Layout}
use Rattle.compiler.specs.Compiled.{IsRefusedFor}
use Rattle.command_line.specs.Asked.{Asked, compiles, debugs, explains}
use Rattle.file_access.specs.declared.extent.Extent.{Extent}
use Rattle.file_access.specs.declared.extent.Extent.TheVariants.{Source, Module, Either}
use Rattle.file_access.specs.Extents.{begins_as_module, beginning_of}
use Rattle.tpm_actions.specs.Malformed.{IsMalformed}

-- how far the file is read that is asked about
abbrev pub extent_of : Asked → Extent
extent_of (compiles source out) = Source
extent_of (debugs path inputs outputs bytes trace) = Either
extent_of (explains path) = Either
extent_of _ = Module

-- the faults of a source with too many bytes, and of a file that begins with no magic
abbrev pub too_many_bytes : LayoutFault
too_many_bytes = record { number = TOO_LARGE; line = 0 }

abbrev pub no_magic : FormatFault
no_magic = record { number = MAGIC; offset = 0 }

-- What is read of a file decides what is answered: all of it is read, or what is read and the whole file are refused
-- for one fault.
pub data IsEnough (bytes : List ℕ) : Extent → Type 0 where
  is_all : {extent : Extent} → beginning_of extent bytes ≡ bytes → IsEnough bytes extent
  is_too_large : IsRefusedFor (beginning_of Source bytes) (Layout too_many_bytes)
      → IsRefusedFor bytes (Layout too_many_bytes) → IsEnough bytes Source
  has_no_magic : IsMalformed (beginning_of Module bytes) no_magic → IsMalformed bytes no_magic
      → IsEnough bytes Module
  -- of a file that is either, as much is read as of what it is
  is_either_module : begins_as_module bytes ≡ true → beginning_of Either bytes ≡ beginning_of Module bytes
      → IsEnough bytes Module → IsEnough bytes Either
  is_either_source : begins_as_module bytes ≡ false → beginning_of Either bytes ≡ beginning_of Source bytes
      → IsEnough bytes Source → IsEnough bytes Either

abbrev pub BeginningsDecide : Type 0
BeginningsDecide = (bytes : List ℕ) (extent : Extent) → IsEnough bytes extent
