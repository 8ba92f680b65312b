-- The module that a program becomes, and why a source becomes none.
use Rattle.std.specs.Prelude.{◌≡◌, ◌⊎◌, ⊤, ℕ, false, true, List, map, Some, Err}
use Rattle.occam_layout.specs.Tokens.{IsSource}
use Rattle.occam_layout.specs.Fault as layout
use Rattle.occam_layout.specs.Reading.{read, row_of}
use Rattle.occam_layout.specs.declared.token.Line.{Line}
use Rattle.occam_parser.specs.Blocks.{rows_of, IsProgram, ProgramItem}
use Rattle.occam_parser.specs.LineFaults as parsing
use Rattle.occam_parser.specs.LineFaults.{IsRefusal}
use Rattle.occam_parser.specs.declared.fault.ParseFault.{ParseFault}
use Rattle.program_uses.specs.Telling.{IsFirst}
use Rattle.program_work.specs.Readings.{capped}
use Rattle.program_work.specs.Programs.{is_too_much_to_write, names_in}
use Rattle.usage_checks.specs.ItemRules.{BreaksProgram, BreaksNoRule}
use Rattle.usage_checks.specs.Telling as usage
use Rattle.program_meaning.specs.Sequential.{IsSequentialProgram}
use Rattle.module_builder.specs.declared.fault.GenFault.{GenFault}
use Rattle.module_builder.specs.declared.fault.GenFault.TheVariants as generation
use Rattle.module_format.specs.declared.tables.Version.TheVariants.{Two}
use Rattle.module_format.specs.Contents.{Contents}
use Rattle.module_format.specs.Keeping.{IsFile}
use Rattle.code_pieces.specs.Pieces.{Code}
use Rattle.code_pieces.specs.Laying.{apart}
use Rattle.code_pieces.specs.Laid.{AreTooLarge}
use Rattle.code_pieces.specs.LaidModule.{Says}
use Rattle.line_pieces.specs.Limits.{is_too_much}
use Rattle.certified_code.specs.CertifiedModules.{Certifies}
use Rattle.code_generator.specs.Programs.{code_of}
use Rattle.meant_runs.specs.Meant.{IsMeant}
use Rattle.compiler.specs.declared.source.CompileFault.{CompileFault}
use Rattle.compiler.specs.declared.source.CompileFault.TheVariants as faults
use Rattle.compiler.specs.LinkLengths.{link_lengths}

-- These bytes are a module of version 2, whose links take the messages of main's. It is certified, so it runs well.
pub record IsModuleFor (items : List ProgramItem) (bytes : List ℕ) : Type 0 where
  pub contents : Contents
  pub format : IsFile Two bytes contents
  pub certifies : Certifies contents
  pub lengths : contents.lengths ≡ link_lengths items

-- If the program has code, these bytes are the module of its pieces.
abbrev pub IsItsCode : List ProgramItem → List ℕ → Type 0
IsItsCode items bytes =
    (code : Code) → code_of items ≡ Some code → Says (apart code.pieces) code.labels (link_lengths items) bytes

abbrev pub HasCode : List ProgramItem → Type 0
HasCode items = (code : Code) × (code_of items ≡ Some code)

-- What `generate` makes of a program. A sequential one has code, and its module does what it means.
pub record IsGenerated (items : List ProgramItem) (bytes : List ℕ) : Type 0 where
  pub is_module : IsModuleFor items bytes
  pub is_code : IsItsCode items bytes
  pub has_code : IsSequentialProgram items → HasCode items
  pub is_meant : IsSequentialProgram items → IsMeant items bytes

-- The code of a program is more than is written, or its module would be above a limit of the format.
abbrev pub IsMuch : List ProgramItem → Code → Type 0
IsMuch items code =
    (is_too_much (capped (names_in items)) code.pieces ≡ true)
    ⊎ AreTooLarge (apart code.pieces) code.labels (link_lengths items)

-- A program is too large: unless the sums over its tree are too much already, its code is.
abbrev pub IsTooLarge : List ProgramItem → Type 0
IsTooLarge items =
    is_too_much_to_write items ≡ false → (code : Code) × (code_of items ≡ Some code) × IsMuch items code

-- Why `generate` makes nothing of a program: memory ran out, what was written would not be certified, which never is so
-- of a sequential program, or it is too much or above a limit. If that is said of a sequential program, it is so.
abbrev pub IsUngenerated : GenFault → List ProgramItem → Type 0
IsUngenerated generation.Memory items = ⊤
IsUngenerated generation.Invalid items = IsSequentialProgram items → ⊥
IsUngenerated generation.Limit items = IsSequentialProgram items → IsTooLarge items

-- ---- sources

-- the source has these lines of tokens
abbrev pub HasLines : List ℕ → List Line → Type 0
HasLines source lines = IsSource source (map row_of lines)

-- The source is a program.
pub record IsProgramIn (source : List ℕ) (items : List ProgramItem) : Type 0 where
  pub lines : List Line
  pub has_lines : HasLines source lines
  pub program : IsProgram (rows_of lines) items

-- The source is a program that breaks no rule, and this is its module.
pub record IsCompiled (source bytes : List ℕ) : Type 0 where
  pub items : List ProgramItem
  pub program : IsProgramIn source items
  pub unbroken : BreaksNoRule items
  pub generated : IsGenerated items bytes

-- Unless memory ran out, the source's lines are no program.
pub record IsUnparsed (source : List ℕ) (fault : ParseFault) : Type 0 where
  pub lines : List Line
  pub has_lines : HasLines source lines
  pub refusal : IsRefusal (rows_of lines) fault
  pub none : (items : List ProgramItem) → IsProgram (rows_of lines) items → fault ≡ parsing.out_of_memory

-- The source is a program of which this holds.
pub record IsProgramWith (source : List ℕ) (holds_of : List ProgramItem → Type 0) : Type 0 where
  pub items : List ProgramItem
  pub program : IsProgramIn source items
  pub holds : holds_of items

-- The source is a program that breaks no rule, and this is why it has no module.
abbrev pub IsWithoutModule : List ℕ → GenFault → Type 0
IsWithoutModule source f = IsProgramWith source (λ items. BreaksNoRule items × IsUngenerated f items)

-- why a source becomes no module
abbrev pub IsRefusedFor : List ℕ → CompileFault → Type 0
IsRefusedFor source (faults.Layout f) = (f ≡ layout.out_of_memory) ⊎ (read source ≡ Err f)
IsRefusedFor source (faults.Syntax f) = IsUnparsed source f
IsRefusedFor source (faults.Usage f) =
    IsProgramWith source (λ items. (f ≡ usage.out_of_memory) ⊎ IsFirst (BreaksProgram items) (Some f))
IsRefusedFor source (faults.Generation f) = IsWithoutModule source f
