-- What is written of a source that is refused before it has code: our own choice.
use Rattle.std.specs.Prelude.{◌≡◌, ℕ, List, map, Some}
use Rattle.occam_layout.specs.Reading.{row_of}
use Rattle.occam_layout.specs.Tokens.{IsSource}
use Rattle.occam_layout.specs.declared.token.Line.{Line}
use Rattle.occam_parser.specs.declared.fault.ParseFault.{ParseFault}
use Rattle.program_uses.specs.declared.telling.UsageFault.{UsageFault}
use Rattle.reason_texts.specs.Blocks.{Text}
use Rattle.reason_texts.specs.ParseTexts.{parse_text}
use Rattle.usage_reasons.specs.declared.reason.Reason.{Reason}
use Rattle.usage_reasons.specs.Reasons.{IsReasonOf}
use Rattle.usage_texts.specs.UsageTexts.{usage_text}

-- The source has lines that are no program, of which this is written.
pub record IsParseReason (path : Text) (source : List ℕ) (fault : ParseFault) (text : Text) : Type 0 where
  pub lines : List Line
  pub has_lines : IsSource source (map row_of lines)
  pub written : parse_text path source lines fault ≡ Some text

-- The reason is one of the fault, on a line with some number of tokens.
pub record IsSomeReasonOf (fault : UsageFault) (reason : Reason) : Type 0 where
  pub count : ℕ
  pub is_reason : IsReasonOf count fault reason

-- This is written of a program with these lines, by a reason of its fault.
pub record IsUsageText (path : Text) (source : List ℕ) (lines : List Line) (fault : UsageFault) (text : Text) :
    Type 0 where
  pub reason : Reason
  pub is_reason : IsSomeReasonOf fault reason
  pub written : usage_text path source lines reason fault.number ≡ Some text

-- The source has lines, and this is written of their program, which breaks a rule of usage.
pub record IsUsageReason (path : Text) (source : List ℕ) (fault : UsageFault) (text : Text) : Type 0 where
  pub lines : List Line
  pub has_lines : IsSource source (map row_of lines)
  pub written : IsUsageText path source lines fault text
