-- The run of a module or a source on the machine that checks each rule: our own choice.
use Rattle.std.specs.Prelude.{◌≡◌, ⊤, ℕ, true, false, List, [], Option, string_bytes}
use Rattle.module_format.specs.Contents.{Contents}
use Rattle.module_format.specs.Keeping.{Format}
use Rattle.compiler.specs.Compiled.{IsCompiled, IsRefusedFor}
use Rattle.compiler.specs.CodeLines.{AreLinesOf}
use Rattle.source_lines.specs.declared.entry.LineEntry.{LineEntry}
use Rattle.command_line.specs.Words.{Text}
use Rattle.command_line.specs.declared.links.OnLinks.{OnLinks}
use Rattle.file_access.specs.declared.failure.FileFailure.{FileFailure}
use Rattle.file_access.specs.declared.failure.FileFailure.TheVariants as stops
use Rattle.file_runs.specs.declared.debugging.Ending.{Ending}
use Rattle.file_runs.specs.declared.debugging.Ending.TheVariants as endings
use Rattle.tpm_actions.specs.declared.report.Failure.{Failure}
use Rattle.tpm_actions.specs.declared.report.Failure.TheVariants as failures
use Rattle.file_runs.specs.Debugging.{HasRunTo, StopsRun}
use Rattle.file_access.specs.Extents.{begins_as_module}
use Rattle.tpm_actions.specs.Malformed.{IsMalformed}
use Rattle.file_access.specs.Storage.{Storage}

-- a module, and which lines of its source its code comes from, if it has one
pub record LinedModule : Type 0 where
  pub contents : Contents
  pub lines : List LineEntry

abbrev pub lined : Contents → List LineEntry → LinedModule
lined m lines = record { contents = m; lines = lines }

-- The bytes are the file of this module, which has no lines, or a source that is compiled to it, which has these.
pub data IsProgramOf (bytes : List ℕ) (m : LinedModule) : Type 0 where
  is_module : begins_as_module bytes ≡ true → Format bytes m.contents → m.lines ≡ [] → IsProgramOf bytes m
  is_source : (file : List ℕ) → begins_as_module bytes ≡ false → IsCompiled bytes file → Format file m.contents
      → AreLinesOf bytes m.lines → IsProgramOf bytes m

-- The bytes are such a program, of which this holds.
pub record IsProgramWith (bytes : List ℕ) (holds_of : LinedModule → Type 0) : Type 0 where
  pub lined : LinedModule
  pub program : IsProgramOf bytes lined
  pub holds : holds_of lined

-- the run was not brought to a fault
abbrev pub IsUnharmed : Ending → Type 0
IsUnharmed endings.Over = ⊤
IsUnharmed endings.Cut = ⊤
IsUnharmed (endings.Faulted fault) = ⊥

module _ {F R W : Type 0} (storage : Storage F R W) (inputs outputs : OnLinks (Option Text)) (limit : Option Text)
    (before after : F) where
  -- The module's run came to this ending, which this text reports.
  abbrev pub EndsAs : LinedModule → Ending → Text → Type 0
  EndsAs m ending text =
      HasRunTo storage m.contents inputs outputs limit before after m.lines ending text

  -- The module's run came to no fault, and this text reports it.
  pub record TellsModule (m : LinedModule) (text : Text) : Type 0 where
    pub ending : Ending
    pub unharmed : IsUnharmed ending
    pub ends : EndsAs m ending text

  -- why no run of the module is reported, or how far it came that was brought to a fault
  abbrev pub WithholdsRun : LinedModule → Failure → Type 0
  WithholdsRun m (failures.Faulted fault text) = EndsAs m (endings.Faulted fault.fault) (string_bytes text)
  WithholdsRun m (failures.Stopped why) = StopsRun storage m.contents inputs outputs limit before after why
  WithholdsRun m failure = ⊥

  abbrev pub TellsProgram : List ℕ → Text → Type 0
  TellsProgram bytes text = IsProgramWith bytes (λ m. TellsModule m text)

  -- A file or a link failed in the run of what is in a file. What memory ran out for is not said.
  abbrev pub StopsProgram : List ℕ → FileFailure → Type 0
  StopsProgram bytes stops.Memory = ⊤
  StopsProgram bytes why =
      IsProgramWith bytes (λ m. StopsRun storage m.contents inputs outputs limit before after why)

  -- why no run of what is in a file is reported
  abbrev pub WithholdsProgram : List ℕ → Failure → Type 0
  WithholdsProgram bytes (failures.Malformed fault) = IsMalformed bytes fault × (after ≡ before)
  WithholdsProgram bytes (failures.Uncompiled why) =
      ((begins_as_module bytes ≡ false) × IsRefusedFor bytes why.fault) × (after ≡ before)
  WithholdsProgram bytes (failures.Stopped why) = StopsProgram bytes why
  WithholdsProgram bytes failure = IsProgramWith bytes (λ m. WithholdsRun m failure)
