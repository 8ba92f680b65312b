-- What is written of a source that has no lines of tokens.
use Rattle.std.specs.Prelude.{ℕ, List, [], ◌++◌, codes, ◌==◌, nat_le, if◌then◌else◌, Option, Some, None}
use Rattle.std.specs.Prelude.{option_map, get_or}
use Rattle.std.specs.Fmt.{decimal}
use Rattle.occam_layout.specs.declared.fault.LayoutFault.{LayoutFault}
use Rattle.reason_texts.specs.declared.lines.Above.{Above}
use Rattle.reason_texts.specs.declared.tokens.BadToken.{BadToken}
use Rattle.reason_texts.specs.declared.tokens.TokenFault.{TokenFault}
use Rattle.reason_texts.specs.declared.tokens.TokenFault.TheVariants as wrong
use Rattle.reason_texts.specs.declared.layout.LayoutReason.{LayoutReason}
use Rattle.reason_texts.specs.declared.layout.LayoutReason.TheVariants as reason
use Rattle.reason_texts.specs.Lines.{Sight, line_found}
use Rattle.reason_texts.specs.LayoutReasons.{place_of, layout_reason}
use Rattle.reason_texts.specs.declared.block.Span.{Span}
use Rattle.reason_texts.specs.Blocks.{Text, place_text, number_text, closed_text, rest_text}

-- ---- why

-- how many bytes of a line are meant
abbrev pub len_of : LayoutReason → ℕ
len_of (reason.OddIndentation spaces) = spaces
len_of (reason.BadToken bad) = bad.len
len_of r = 1

abbrev pub token_sentence : TokenFault → Text
token_sentence wrong.NoToken = codes "no token begins so"
token_sentence wrong.LargeNumber = codes "the greatest number is 2147483647"
token_sentence (wrong.HexadecimalDigits count) =
    if count == 0 then codes "a hexadecimal digit was wanted behind `#`"
    else codes "a number has at most 8 hexadecimal digits"
token_sentence wrong.Unclosed = codes "no quote ends this literal on its line"
token_sentence wrong.Unspelled = codes "no character is spelled so"
token_sentence wrong.NotOneCharacter = codes "one character was wanted between these quotes"

abbrev pub deep_sentence : ℕ → Option Above → Text
deep_sentence level (Some above) =
    codes "level " ++ (decimal level ++ (codes ", but line " ++ (decimal above.line
    ++ (codes " is at level " ++ decimal above.level))))
deep_sentence level None = codes "level " ++ (decimal level ++ codes ", but a source begins at level 0")

unfoldable pub token_text : List ℕ → BadToken → Text
token_text line bad = token_sentence bad.fault ++ (codes ": `" ++ closed_text line bad.at bad.len)

-- the byte at a place of a line, or a space (32) at its end
abbrev pub byte_at : List ℕ → ℕ → ℕ
byte_at line at = get_or line at 32

unfoldable pub sentence : List ℕ → LayoutReason → Text
sentence line (reason.OddIndentation spaces) =
    codes "indented by " ++ (decimal spaces ++ codes ", but a level is two spaces")
sentence line (reason.TooDeep level above) = deep_sentence level above
sentence line (reason.NoCharacter at) =
    codes "byte " ++ (decimal (byte_at line at) ++ codes " is no character of a source")
sentence line (reason.BadToken bad) = token_text line bad
sentence line reason.TooManyLines = codes "a source has at most 32768 lines"
sentence line (reason.TooManyBytes bytes) = codes "a source has at most 1048576 bytes"

-- ---- what to write in its place

-- by the byte: a tab (9), a carriage return (13), a semicolon (59), an underscore (95), a dot (46)
abbrev pub byte_hint : ℕ → Option Text
byte_hint byte =
    if byte == 9 then Some (codes "a source has no tabs; a level is two spaces")
    else (if byte == 13 then Some (codes "lines end with a line feed alone, and not with a carriage return before it")
    else (if byte == 59 then
    Some (codes "no `;` ends a line; the parts of a message are sent one after the other, in a SEQ")
    else (if byte == 95 then Some (codes "a name has letters, digits and dots")
    else (if byte == 46 then Some (codes "there are no real numbers, and a name begins with a letter")
    else (if nat_le 128 byte then Some (codes "a source is ASCII, in comments and strings too") else None)))))

abbrev pub token_hint : TokenFault → ℕ → Option Text
token_hint wrong.NoToken byte = byte_hint byte
token_hint wrong.LargeNumber byte = Some (codes "the least number is MOSTNEG INT")
token_hint (wrong.HexadecimalDigits count) byte =
    if count == 0 then Some (codes "a hexadecimal number is written #1F; there are no directives such as #USE") else None
token_hint wrong.Unclosed byte = None
token_hint wrong.Unspelled byte = Some (codes "the spellings are *c *n *t *s *' *\" ** and *# with two digits")
token_hint wrong.NotOneCharacter byte =
    Some (codes "a text of several characters is a table, as VAL [2]BYTE t IS \"ab\":, and a line feed is '*n'")

abbrev pub hint : LayoutReason → ℕ → Option Text
hint (reason.OddIndentation spaces) byte =
    Some (codes "each level is two spaces more; a line does not go on on the next one")
hint (reason.TooDeep level above) byte =
    Some (codes "a line is at most one level, of two spaces, below the line above it")
hint (reason.NoCharacter at) byte = byte_hint byte
hint (reason.BadToken bad) byte = token_hint bad.fault byte
hint reason.TooManyLines byte = None
hint (reason.TooManyBytes bytes) byte = None

-- ---- the text

-- how many bytes of a line are before those that are meant, and how many they are
abbrev pub span_of : LayoutReason → Span
span_of r = record { at = place_of r; len = len_of r }

-- where and why, the line, and what to write in its place
unfoldable pub whole_text : Text → LayoutFault → List ℕ → LayoutReason → Text
whole_text path fault line r =
    place_text path fault.line (place_of r) ++ (sentence line r
    ++ rest_text fault.number line (span_of r) (hint r (byte_at line (place_of r))))

-- of a source with too many bytes no line is shown
unfoldable pub source_text : Text → LayoutFault → LayoutReason → Text
source_text path fault r = path ++ (codes ": " ++ (sentence [] r ++ number_text fault.number))

abbrev pub text_of : Text → LayoutFault → LayoutReason → Option Sight → Text
text_of path fault r (Some l) = whole_text path fault l.bytes r
text_of path fault r None = source_text path fault r

-- what is written of a source that has no lines of tokens, by its fault
abbrev pub layout_text : Text → List ℕ → LayoutFault → Option Text
layout_text path source fault =
    option_map (λ r. text_of path fault r (line_found source fault.line)) (layout_reason source fault.line)
