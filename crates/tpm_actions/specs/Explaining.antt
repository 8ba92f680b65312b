-- The explanation of the verdict on a module, of why a file is none, or of a source: our own choice.
use Rattle.std.specs.Prelude.{◌≡◌, ◌⊎◌, ⊤, ℕ, ◌+◌, ◌-◌, ◌^◌, min, ◌==◌, nat_eq, Bool, false, ◌||◌, if◌then◌else◌, List, [], ◌∷◌, ◌++◌}
use Rattle.std.specs.Prelude.{codes, length, string_bytes}
use Rattle.std.specs.List.{ends_with}
use Rattle.std.specs.Fmt.{decimal}
use Rattle.command_line.specs.Words.{Text}
use Rattle.command_line.specs.declared.lines.Question.{Question}
use Rattle.command_line.specs.declared.lines.Question.TheVariants as questions
use Rattle.file_faults.specs.FileFaults.{file_fault}
use Rattle.module_format.specs.declared.fault.FormatFault.{FormatFault}
use Rattle.module_format.specs.Contents.{Contents}
use Rattle.module_format.specs.Keeping.{Format}
use Rattle.states.specs.declared.rule.Rule.{Rule}
use Rattle.states.specs.Numbers.{number_of}
use Rattle.certified_worlds.specs.Certified.{IsCertified, IsRefused}
use Rattle.verifier.specs.declared.Refusal.{Refusal}
use Rattle.verifier.specs.Reports.{out_of_memory}
use Rattle.explanations.specs.Explaining.{explanation}
use Rattle.file_access.specs.declared.failure.FileFailure.TheVariants as stops
use Rattle.tpm_actions.specs.declared.report.Failure.{Failure}
use Rattle.tpm_actions.specs.declared.report.Failure.TheVariants as failures
use Rattle.tpm_actions.specs.declared.report.RefusedFor.{RefusedFor}
use Rattle.tpm_actions.specs.declared.report.RefusedFor.TheVariants as refused
use Rattle.module_builder.specs.declared.fault.GenFault.TheVariants as generation
use Rattle.program_walk.specs.Listings.{IsListing}
use Rattle.compiler.specs.declared.source.CompileFault.{CompileFault}
use Rattle.compiler.specs.declared.source.CompileFault.TheVariants as faults
use Rattle.compiler.specs.CodeLines.{ends_in}
use Rattle.compiler.specs.Compiled.{IsCompiled, IsRefusedFor}
use Rattle.tpm_actions.specs.Compiling.{IsReason, IsRefusedAs}
use Rattle.file_access.specs.Extents.{begins_as_module}
use Rattle.tpm_actions.specs.Malformed.{IsMalformed}

-- The module is certified, and this text is its explanation.
pub record IsExplained (m : Contents) (text : Text) : Type 0 where
  pub certified : IsCertified m
  pub told : text ≡ explanation m

-- The module is refused for this rule at this offset, and this text is its explanation.
pub record ExplainsRefusal (m : Contents) (refusal : Refusal) (text : Text) : Type 0 where
  pub rule : Rule
  pub number : refusal.number ≡ number_of rule
  pub refused : IsRefused m rule refusal.offset
  pub told : text ≡ explanation m

-- The bytes are the file of a module that is refused for this, and this text explains it.
pub record IsRefusalExplained (bytes : List ℕ) (refusal : Refusal) (text : Text) : Type 0 where
  pub contents : Contents
  pub format : Format bytes contents
  pub explained : ExplainsRefusal contents refusal text

-- the line that explains why a file is no module file
abbrev pub malformed_text : List ℕ → FormatFault → Text
malformed_text bytes fault =
    codes "refused C" ++ (decimal fault.number ++ (codes " at " ++ (decimal fault.offset ++ (codes ": "
    ++ (file_fault bytes fault ++ 10 ∷ [])))))

-- The bytes are no module file for this fault, and this text explains it.
pub record IsFaultExplained (bytes : List ℕ) (fault : FormatFault) (text : Text) : Type 0 where
  pub malformed : IsMalformed bytes fault
  pub told : text ≡ malformed_text bytes fault

-- no line is begun and not ended
abbrev pub is_ended : List ℕ → Bool
is_ended source = length source == 0 || ends_with nat_eq source (10 ∷ [])

-- how many lines a source has: those that are ended, and what follows the last of them
abbrev pub line_count : List ℕ → ℕ
line_count source = if is_ended source then ends_in source else ends_in source + 1

-- the number of the last line, as far as numbers of lines go
abbrev pub last_line : List ℕ → ℕ
last_line source = min (line_count source) (2 ^ 32 - 1)

-- The text has the lines of the source, and ends by saying that it is correct.
pub record EndsAsCorrect (source : List ℕ) (text : Text) : Type 0 where
  pub listing : Text
  pub lists : IsListing source (last_line source) listing
  pub told : text ≡ listing ++ (codes "correct, " ++ (decimal (line_count source) ++ (codes " lines" ++ 10 ∷ [])))

-- These are the lines of a source that are listed before this fault is told: none if they are no program.
abbrev pub Lists : List ℕ → CompileFault → Text → Type 0
Lists source (faults.Layout fault) listing = listing ≡ []
Lists source (faults.Syntax fault) listing = listing ≡ []
Lists source (faults.Usage fault) listing = IsListing source fault.line listing
Lists source (faults.Generation generation.Memory) listing = listing ≡ []
Lists source (faults.Generation generation.Limit) listing = IsListing source (last_line source) listing
Lists source (faults.Generation generation.Invalid) listing = IsListing source (last_line source) listing

-- The text has lines of the source, and ends with the reason for which it is refused, if one is told.
pub record EndsWithReason (path : Text) (source : List ℕ) (fault : CompileFault) (text : Text) : Type 0 where
  pub listing : Text
  pub lists : Lists source fault listing
  pub reason : Text
  pub is_reason : (reason ≡ []) ⊎ IsReason path source fault reason
  pub told : text ≡ listing ++ reason

-- The bytes are a source that is compiled.
pub record IsCorrect (bytes : List ℕ) : Type 0 where
  pub is_source : begins_as_module bytes ≡ false
  pub file : List ℕ
  pub compiled : IsCompiled bytes file

-- The bytes are such a source, and this text explains it.
pub record IsSourceExplained (bytes : List ℕ) (text : Text) : Type 0 where
  pub correct : IsCorrect bytes
  pub ends : EndsAsCorrect bytes text

-- The bytes are a source that is refused for this fault, and this text explains it.
pub record IsSourceRefusal (path : Text) (bytes : List ℕ) (fault : CompileFault) (text : Text) : Type 0 where
  pub is_source : begins_as_module bytes ≡ false
  pub refused_for : IsRefusedFor bytes fault
  pub ends : EndsWithReason path bytes fault text

-- The bytes in the file of this path are refused for this reason, and this text explains it.
abbrev pub ExplainsBytes : Text → List ℕ → RefusedFor → Text → Type 0
ExplainsBytes path bytes (refused.Malformed fault) text = IsFaultExplained bytes fault text
ExplainsBytes path bytes (refused.Uncertified refusal) text = IsRefusalExplained bytes refusal text
ExplainsBytes path bytes (refused.Uncompiled fault) text = IsSourceRefusal path bytes fault text

-- The module is refused for this reason, and this text explains it.
abbrev pub ExplainsModule : Contents → RefusedFor → Text → Type 0
ExplainsModule m (refused.Malformed fault) text = ⊥
ExplainsModule m (refused.Uncertified refusal) text = ExplainsRefusal m refusal text
ExplainsModule m (refused.Uncompiled fault) text = ⊥

-- This text explains the fault of a file, and an explanation is asked for.
abbrev pub ExplainsFault : List ℕ → Question → FormatFault → RefusedFor → Text → Type 0
ExplainsFault bytes questions.Explanation fault (refused.Malformed told) text =
    (told ≡ fault) × (text ≡ malformed_text bytes fault)
ExplainsFault bytes question fault refusal text = ⊥

-- Nothing is reported about the module in these bytes, since they are no module file for this fault.
abbrev pub IsUnread : List ℕ → Question → FormatFault → Failure → Type 0
IsUnread bytes question fault (failures.Malformed told) = told ≡ fault
IsUnread bytes question fault (failures.Explained refusal text) =
    ExplainsFault bytes question fault refusal (string_bytes text)
IsUnread bytes question fault failure = ⊥

-- why the text of an explanation is not all that is left of it: memory ran out for it, or a refusal goes with it
abbrev pub WithholdsExplanation : Contents → Failure → Type 0
WithholdsExplanation m (failures.Malformed fault) = ⊥
WithholdsExplanation m (failures.Uncertified refusal) = refusal ≡ out_of_memory
WithholdsExplanation m (failures.Explained refusal text) = ExplainsModule m refusal (string_bytes text)
WithholdsExplanation m (failures.Faulted fault text) = ⊥
WithholdsExplanation m (failures.Uncompiled fault) = ⊥
WithholdsExplanation m (failures.NotUpgraded fault) = ⊥
WithholdsExplanation m (failures.Stopped why) = why ≡ stops.Memory
WithholdsExplanation m failures.Unwritten = ⊥

-- This text explains why a source is refused.
abbrev pub ExplainsSource : Text → List ℕ → RefusedFor → Text → Type 0
ExplainsSource path bytes (refused.Malformed fault) text = ⊥
ExplainsSource path bytes (refused.Uncertified refusal) text = ⊥
ExplainsSource path bytes (refused.Uncompiled fault) text = IsSourceRefusal path bytes fault text

-- why the text of an explanation is not all that is left of a source: it is refused, or memory ran out
abbrev pub WithholdsSource : Text → List ℕ → Failure → Type 0
WithholdsSource path bytes (failures.Explained refusal text) = ExplainsSource path bytes refusal (string_bytes text)
WithholdsSource path bytes (failures.Uncompiled why) = (begins_as_module bytes ≡ false) × IsRefusedAs path bytes why
WithholdsSource path bytes (failures.Stopped why) = (why ≡ stops.Memory) × IsCorrect bytes
WithholdsSource path bytes failure = ⊥
