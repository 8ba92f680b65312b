-- What is written of a program that breaks a rule of usage.
use Rattle.std.proofs.Common.{◌≡◌, ℕ, List, Option, Some, None, Result, Ok, Err, IfOk, IfSome, option_map, sym}
use Rattle.reason_texts.specs.Blocks.{Text}
use Rattle.occam_layout.specs.declared.token.Line.{Line}
use Rattle.program_uses.specs.declared.telling.UsageFault.{UsageFault}
use Rattle.usage_reasons.specs.declared.reason.Reason.{Reason}
use Rattle.usage_texts.specs.UsageTexts.{usage_text}
use Rattle.source_reasons.specs.SourceReasons.{IsSomeReasonOf, IsUsageText}

-- by a reason of the fault
pub usage_told : {S E : Type 0} (text_of : S → Text) (path : Text) (source : List ℕ) (lines : List Line)
    (fault : UsageFault) (reason : Reason) → IsSomeReasonOf fault reason → (result : Result (Option S) E)
    → IfOk result (λ found. option_map text_of found ≡ usage_text path source lines reason fault.number)
    → IfOk result (λ found. IfSome found (λ text. IsUsageText path source lines fault (text_of text)))
usage_told text_of path source lines fault reason is (Ok (Some text)) written =
    record { reason = reason; is_reason = is; written = sym written }
usage_told text_of path source lines fault reason is (Ok None) written = tt
usage_told text_of path source lines fault reason is (Err failed) written = tt
