-- Why a source has no lines of tokens.
use Rattle.std.specs.Prelude.{◌≡◌, ℕ, ◌+◌, ◌/◌, ◌%◌, ◌≤◌, List, length, ◌==◌, nat_lt, if◌then◌else◌, Option, Some}
use Rattle.std.specs.Prelude.{None}
use Rattle.std.specs.Prelude.{option_map}
use Rattle.std.specs.List.{prefix_len}
use Rattle.occam_layout.specs.declared.fault.LayoutFault.{LayoutFault}
use Rattle.occam_layout.specs.declared.fault.TheConstants.{ODD_INDENTATION, TOO_DEEP, CHARACTER, LITERAL, TOO_LARGE}
use Rattle.occam_layout.specs.declared.layout.TheConstants.{MAX_BYTES, MAX_LINES}
use Rattle.occam_layout.specs.Reading.{is_character, is_blank}
use Rattle.occam_layout.specs.Tokens.{indent_of, behind_indent}
use Rattle.reason_texts.specs.declared.lines.Above.{Above}
use Rattle.reason_texts.specs.declared.tokens.BadToken.{BadToken}
use Rattle.reason_texts.specs.declared.tokens.TokenFault.{TokenFault}
use Rattle.reason_texts.specs.declared.tokens.TokenFault.TheVariants as wrong
use Rattle.reason_texts.specs.declared.layout.LayoutReason.{LayoutReason}
use Rattle.reason_texts.specs.declared.layout.LayoutReason.TheVariants as reason
use Rattle.reason_texts.specs.Lines.{Sight, line_found}
use Rattle.reason_texts.specs.Tokens.{bad_token}

-- how deep a line may be below this one; the first line is at level 0
abbrev pub deepest_below : Option Above → ℕ
deepest_below None = 0
deepest_below (Some above) = above.level + 1

abbrev pub token_reason : Option BadToken → Option LayoutReason
token_reason bad = option_map reason.BadToken bad

-- a line after its indentation, below another one
abbrev pub body_reason : Option Above → ℕ → List ℕ → Option LayoutReason
body_reason above indent body =
    if is_blank body then None
    else (if indent % 2 == 1 then Some (reason.OddIndentation indent)
    else (if nat_lt (deepest_below above) (indent / 2) then Some (reason.TooDeep (indent / 2) above)
    else token_reason (bad_token 0 indent body)))

-- why a line has no tokens, below another one
unfoldable pub line_reason : Option Above → List ℕ → Option LayoutReason
line_reason above bytes =
    let characters = prefix_len is_character bytes in
    if nat_lt characters (length bytes) then Some (reason.NoCharacter characters)
    else body_reason above (indent_of bytes) (behind_indent bytes)

abbrev pub reason_at : ℕ → Option Sight → Option LayoutReason
reason_at line None = None
reason_at line (Some l) =
    if nat_lt MAX_LINES line then Some reason.TooManyLines else line_reason l.above l.bytes

-- why a source has no lines of tokens, by the line at fault
unfoldable pub layout_reason : List ℕ → ℕ → Option LayoutReason
layout_reason source line =
    if nat_lt MAX_BYTES (length source) then Some (reason.TooManyBytes (length source))
    else reason_at line (line_found source line)

-- ---- the place and the number of a reason

-- how many bytes of the line are before those that are meant
abbrev pub place_of : LayoutReason → ℕ
place_of (reason.OddIndentation spaces) = 0
place_of (reason.TooDeep level above) = 0
place_of (reason.NoCharacter at) = at
place_of (reason.BadToken bad) = bad.at
place_of reason.TooManyLines = 0
place_of (reason.TooManyBytes bytes) = 0

-- the place is in the line, if there is one
abbrev pub IsWithin : Option Sight → LayoutReason → Type 0
IsWithin None r = place_of r ≡ 0
IsWithin (Some l) r = place_of r ≤ length l.bytes

abbrev pub token_number : TokenFault → ℕ
token_number wrong.NoToken = CHARACTER
token_number wrong.LargeNumber = LITERAL
token_number (wrong.HexadecimalDigits count) = LITERAL
token_number wrong.Unclosed = LITERAL
token_number wrong.Unspelled = LITERAL
token_number wrong.NotOneCharacter = LITERAL

-- the number of the fault whose reason it is
abbrev pub number_of : LayoutReason → ℕ
number_of (reason.OddIndentation spaces) = ODD_INDENTATION
number_of (reason.TooDeep level above) = TOO_DEEP
number_of (reason.NoCharacter at) = CHARACTER
number_of (reason.BadToken bad) = token_number bad.fault
number_of reason.TooManyLines = TOO_LARGE
number_of (reason.TooManyBytes bytes) = TOO_LARGE

-- a fault has a reason, which is of its number
abbrev pub Explains : LayoutFault → Option LayoutReason → Type 0
Explains fault None = ⊥
Explains fault (Some r) = number_of r ≡ fault.number
