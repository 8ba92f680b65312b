-- A source that is compiled, and the file that its module is written to: our own choice.
use Rattle.std.specs.Prelude.{◌≡◌, ◌⊎◌, ⊤, ℕ, List, ◌++◌, codes, length, Some, Result, Ok, Err, IfSome}
use Rattle.std.specs.Prelude.{string_bytes}
use Rattle.command_line.specs.Words.{Text}
use Rattle.occam_layout.specs.declared.token.Line.{Line}
use Rattle.reason_texts.specs.LayoutTexts.{layout_text}
use Rattle.program_walk.specs.LimitTexts.{IsLimitText}
use Rattle.source_reasons.specs.SourceReasons.{IsParseReason, IsUsageReason}
use Rattle.module_builder.specs.declared.fault.GenFault.{GenFault}
use Rattle.module_builder.specs.declared.fault.GenFault.TheVariants as generation
use Rattle.compiler.specs.declared.source.CompileFault.{CompileFault}
use Rattle.compiler.specs.declared.source.CompileFault.TheVariants as faults
use Rattle.compiler.specs.Compiled.{HasLines, IsCompiled, IsRefusedFor}
use Rattle.file_access.specs.declared.failure.FileFailure.{FileFailure}
use Rattle.file_access.specs.declared.failure.FileFailure.TheVariants as stops
use Rattle.file_access.specs.Writing.{IsWritten, Writes}
use Rattle.tpm_actions.specs.declared.refused.RefusedSource.{RefusedSource}
use Rattle.tpm_actions.specs.declared.report.Report.TheVariants.{Compiled}
use Rattle.tpm_actions.specs.declared.report.Failure.{Failure}
use Rattle.tpm_actions.specs.declared.report.Failure.TheVariants as failures
use Rattle.tpm_actions.specs.Texts.{report_line}
use Rattle.file_access.specs.Storage.{Storage}

-- The source has lines, and this is written of their program, which is above a limit.
pub record IsLimitReason (path : Text) (source : List ℕ) (text : Text) : Type 0 where
  pub lines : List Line
  pub has_lines : HasLines source lines
  pub written : IsLimitText path source lines text

-- what is written of a program whose module the verifier would refuse
abbrev pub mistake_text : Text → Text
mistake_text path = path ++ codes ": this is a mistake of the compiler; please report the source (G3)\n"

-- what is written of a program that becomes no module
abbrev pub IsGenerationReason : Text → List ℕ → GenFault → Text → Type 0
IsGenerationReason path source generation.Limit text = IsLimitReason path source text
IsGenerationReason path source generation.Invalid text = text ≡ mistake_text path
IsGenerationReason path source generation.Memory text = ⊥

-- What is written of a source before the fault for which it is refused: why it has no lines of tokens, why they are no
-- program, which rule it breaks, or why it becomes no module.
abbrev pub IsReason : Text → List ℕ → CompileFault → Text → Type 0
IsReason path source (faults.Layout fault) text = layout_text path source fault ≡ Some text
IsReason path source (faults.Syntax fault) text = IsParseReason path source fault text
IsReason path source (faults.Usage fault) text = IsUsageReason path source fault text
IsReason path source (faults.Generation fault) text = IsGenerationReason path source fault text

-- The source becomes no module for this fault. What is written before it is its reason, but nothing where it has none,
-- or where memory ran out.
pub record IsRefusedAs (path : Text) (source : List ℕ) (why : RefusedSource) : Type 0 where
  pub refused_for : IsRefusedFor source why.fault
  pub reason : IfSome why.reason (λ text. IsReason path source why.fault (string_bytes text))

module _ {F R W : Type 0} (storage : Storage F R W) where
  -- The source was compiled, and what became of the file is this.
  pub record CompilesAndWrites (source : List ℕ) (path : Text) (before after : F) (result : Result ⊤ FileFailure) :
      Type 0 where
    pub bytes : List ℕ
    pub compiled : IsCompiled source bytes
    pub writes : Writes storage path bytes before after result

  -- The source was compiled, its module was written, and this text reports how long it is.
  pub record HasCompiled (source : List ℕ) (path : Text) (before after : F) (text : Text) : Type 0 where
    pub bytes : List ℕ
    pub compiled : IsCompiled source bytes
    pub writes : IsWritten storage path bytes before after
    pub told : text ≡ report_line (Compiled (length bytes))

  -- why nothing is reported about a source
  abbrev pub WithholdsModule : Text → List ℕ → Text → F → F → Failure → Type 0
  WithholdsModule path source out before after (failures.Uncompiled why) =
      IsRefusedAs path source why × (after ≡ before)
  WithholdsModule path source out before after (failures.Stopped why) =
      CompilesAndWrites source out before after (Err why)
      ⊎ ((why ≡ stops.Memory) × ((u : ⊤) × CompilesAndWrites source out before after (Ok u)))
  WithholdsModule path source out before after failure = ⊥
