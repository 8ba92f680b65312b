-- What is written of lines that are no program.
use Rattle.std.specs.Prelude.{ℕ, ◌-◌, Bool, List, [], ◌++◌, length, codes, ◌==◌, slice_get, is_some}
use Rattle.std.specs.Prelude.{Option, Some, None, option_map}
use Rattle.std.specs.List.{find}
use Rattle.std.specs.Fmt.{decimal}
use Rattle.occam_layout.specs.Kind.{spelling}
use Rattle.occam_layout.specs.declared.mark.Mark.TheVariants as mark
use Rattle.occam_layout.specs.declared.token.Line.{Line}
use Rattle.occam_layout.specs.declared.token.Token.{Token}
use Rattle.occam_layout.specs.declared.token.TokenKind.{TokenKind}
use Rattle.occam_layout.specs.declared.token.TokenKind.TheVariants as token
use Rattle.occam_parser.specs.Blocks.{rows_of}
use Rattle.occam_parser.specs.declared.fault.ParseFault.{ParseFault}
use Rattle.reason_texts.specs.Lines.{Sight, line_found}
use Rattle.reason_texts.specs.declared.forms.Form.{Form}
use Rattle.reason_texts.specs.declared.forms.Form.TheVariants as form
use Rattle.reason_texts.specs.declared.stuck.Wanted.{Wanted}
use Rattle.reason_texts.specs.declared.stuck.Wanted.TheVariants as wanted
use Rattle.reason_texts.specs.declared.stuck.Lack.{Lack}
use Rattle.reason_texts.specs.declared.stuck.Lack.TheVariants as lack
use Rattle.reason_texts.specs.declared.parse.ParseReason.{ParseReason}
use Rattle.reason_texts.specs.declared.parse.ParseReason.TheVariants as reason
use Rattle.reason_texts.specs.ParseReasons.{parse_reason}
use Rattle.reason_texts.specs.declared.block.Span.{Span}
use Rattle.reason_texts.specs.Blocks.{Text, place_text, closed_text, rest_text}
use Rattle.reason_texts.specs.Hints.{word_hint}

-- ---- which bytes are meant

-- the bytes between two offsets of a source, in a line that begins at an offset
abbrev pub span_between : ℕ → ℕ → ℕ → Span
span_between offset start end = record { at = start - offset; len = end - start }

abbrev pub start_or : Option Token → ℕ
start_or None = 0
start_or (Some t) = t.start

abbrev pub end_or : Option Token → ℕ
end_or None = 0
end_or (Some t) = t.end

-- where the first token of a line begins, and where the last one ends
abbrev pub start_of : List Token → ℕ
start_of tokens = start_or (slice_get tokens 0)

abbrev pub end_of : List Token → ℕ
end_of tokens = end_or (slice_get tokens (length tokens - 1))

-- all tokens of a line
abbrev pub line_span : ℕ → List Token → Span
line_span offset tokens = span_between offset (start_of tokens) (end_of tokens)

-- what follows the last token
abbrev pub end_span : ℕ → List Token → Span
end_span offset tokens = span_between offset (end_of tokens) (end_of tokens)

-- the token from which on this number of tokens is left: none at the end of the line
abbrev pub token_left : ℕ → List Token → Option Token
token_left left tokens = slice_get tokens (length tokens - left)

abbrev pub token_span : ℕ → List Token → Option Token → Span
token_span offset tokens None = end_span offset tokens
token_span offset tokens (Some t) = span_between offset t.start t.end

unfoldable pub span_of : ℕ → List Token → ParseReason → Span
span_of offset tokens (reason.Form f s) = token_span offset tokens (token_left s.left tokens)
span_of offset tokens (reason.NothingBelow above) = line_span offset tokens
span_of offset tokens (reason.OnlyOne head first) = line_span offset tokens
span_of offset tokens reason.MissingColon = end_span offset tokens
span_of offset tokens reason.MissingBody = line_span offset tokens
span_of offset tokens reason.DeepLine = line_span offset tokens

-- what is found at the place where a line goes on otherwise: nothing at its end
abbrev pub found_at : List Token → ParseReason → Option TokenKind
found_at tokens (reason.Form f s) = option_map (λ (t : Token). t.kind) (token_left s.left tokens)
found_at tokens (reason.NothingBelow above) = None
found_at tokens (reason.OnlyOne head first) = None
found_at tokens reason.MissingColon = None
found_at tokens reason.MissingBody = None
found_at tokens reason.DeepLine = None

-- ---- why

-- what is wanted, in words: of a keyword or a sign how it is spelled
abbrev pub wanted_words : Wanted → Text
wanted_words (wanted.Mark m) = spelling m
wanted_words wanted.Name = codes "a name"
wanted_words wanted.Operand = codes "an operand"
wanted_words wanted.ValueType = codes "`INT` or `BYTE`"
wanted_words wanted.Shape = codes "`INT`, `BYTE` or `CHAN OF`"
wanted_words wanted.Table = codes "`[` or a string"
wanted_words wanted.Action = codes "`:=`, `?` or `!`"
wanted_words wanted.End = codes "the end of the line"
wanted_words wanted.Item = codes "`VAL` or `PROC`"
wanted_words wanted.Process = codes "a process"

-- what is before and after these words
abbrev pub wanted_quote : Wanted → Text
wanted_quote (wanted.Mark m) = codes "`"
wanted_quote w = []

abbrev pub wanted_text : Wanted → Text
wanted_text w =
    codes ", but " ++ (wanted_quote w ++ (wanted_words w ++ (wanted_quote w ++ codes " was wanted")))

-- the bytes of a token, or that there is none
unfoldable pub found_text : List ℕ → Span → Option TokenKind → Text
found_text line span None = codes "the line ended"
found_text line span (Some kind) = codes "found `" ++ closed_text line span.at span.len

unfoldable pub lack_text : Lack → Text
lack_text (lack.Token w) = wanted_text w
lack_text lack.Nesting = codes ", but brackets, subscripts and conversions are nested at most 64 deep"
lack_text lack.Mixture = codes " beside another operator, without brackets"

unfoldable pub stuck_text : List ℕ → Span → Option TokenKind → Lack → Text
stuck_text line span found l = found_text line span found ++ lack_text l

unfoldable pub sentence : List ℕ → Span → Option TokenKind → ParseReason → Text
sentence line span found (reason.Form f s) = stuck_text line span found s.lack
sentence line span found (reason.NothingBelow above) = codes "nothing may be below line " ++ decimal above
sentence line span found (reason.OnlyOne head first) =
    codes "line " ++ (decimal head ++ (codes " has its body already, which begins on line " ++ decimal first))
sentence line span found reason.MissingColon = codes "the `:` that ends the procedure is missing below this line"
sentence line span found reason.MissingBody = codes "the body of this line is missing, one level deeper"
sentence line span found reason.DeepLine = codes "a line is at level 64 at most"

-- ---- what to write in its place

-- where an operand is wanted
abbrev pub operand_hint : Option TokenKind → Option Text
operand_hint None = Some (codes "an expression does not go on on the next line")
operand_hint (Some (token.Text bytes)) = Some (codes "a string is the value of a table, as VAL [2]BYTE t IS \"ab\":")
operand_hint (Some (token.Mark mark.CloseBracket)) = Some (codes "the size of an array is written, as [2]BYTE")
operand_hint found = None

-- where a name has no type
abbrev pub parameter_hint : Form → Option Text
parameter_hint form.Item = Some (codes "each parameter has its own type, as (INT a, INT b)")
parameter_hint f = None

-- where a type, or CHAN OF a type, is wanted
abbrev pub shape_hint : Form → Option TokenKind → Option Text
shape_hint f (Some (token.Name name)) = parameter_hint f
shape_hint f (Some (token.Mark mark.OpenBracket)) =
    Some (codes "an array has one size: the elements of [2 * 3]INT a are a[(i * 3) + j]")
shape_hint f found = None

-- where an assignment or a communication has to go on
abbrev pub action_hint : Option TokenKind → Option Text
action_hint (Some (token.Mark mark.Comma)) = Some (codes "one variable is assigned at a time; write a SEQ")
action_hint (Some (token.Mark mark.Equal)) = Some (codes "an assignment is written x := 1")
action_hint (Some (token.Name name)) = Some (codes "keywords are in capitals, as INT, SEQ and SKIP")
action_hint None = Some (codes
    "a process on one line is as x := 1, c ? x, c ! 1, or an instance p (); keywords are in capitals")
action_hint found = None

-- where a process is wanted
abbrev pub process_hint : Option TokenKind → Option Text
process_hint (Some (token.Mark mark.Proc)) = Some (codes "a procedure is in no other one; write it above, at level 0")
process_hint found =
    Some (codes "a process begins with a name, SKIP, STOP, SEQ, PAR, IF, ALT, or the type of a declaration")

-- where the colon is wanted that ends a declaration
abbrev pub abbreviation_hint : Option TokenKind → Option Text
abbreviation_hint (Some (token.Mark mark.Is)) = Some (codes "this language has no abbreviations of variables")
abbreviation_hint found = None

-- where a colon is wanted
abbrev pub colon_hint : Form → Option TokenKind → Option Text
colon_hint form.Colon found = Some (codes "a procedure ends with a line `:` at level 0")
colon_hint f found = abbreviation_hint found

abbrev pub wanted_hint : Form → Wanted → Option TokenKind → Option Text
wanted_hint f (wanted.Mark mark.Colon) found = colon_hint f found
wanted_hint f (wanted.Mark mark.Of) found = Some (codes "a channel is declared as CHAN OF BYTE c, without ? or !")
wanted_hint f (wanted.Mark mark.Input) found = Some (codes "a guard is as c ? x, or x > 0 & c ? x, or x > 0 & SKIP")
wanted_hint f wanted.Operand found = operand_hint found
wanted_hint f wanted.ValueType found = Some (codes "types are written as in VAL INT n IS 3: and CHAN OF BYTE c:")
wanted_hint f wanted.Shape found = shape_hint f found
wanted_hint f wanted.Action found = action_hint found
wanted_hint f wanted.Item found = Some (codes "at level 0 are constants (VAL) and procedures (PROC)")
wanted_hint f wanted.Process found = process_hint found
wanted_hint f w found = None

abbrev pub lack_hint : Form → Lack → Option TokenKind → Option Text
lack_hint f (lack.Token w) found = wanted_hint f w found
lack_hint f lack.Nesting found = None
lack_hint f lack.Mixture found =
    Some (codes "no operator comes before another one: a + (b * c), or (a + b) * c, or a < (-b)")

abbrev pub reason_hint : ParseReason → Option TokenKind → Option Text
reason_hint (reason.Form f s) found = lack_hint f s.lack found
reason_hint (reason.NothingBelow above) found = None
reason_hint (reason.OnlyOne head first) found = Some (codes
    "a replicator, a choice, a guard and a PROC have one process below; several are below a SEQ or a PAR, one level deeper")
reason_hint reason.MissingColon found = Some (codes "a procedure ends with a line `:` at level 0")
reason_hint reason.MissingBody found =
    Some (codes "declarations alone are no body; SKIP is a process that does nothing")
reason_hint reason.DeepLine found = None

abbrev pub kind_hint : TokenKind → Option Text
kind_hint (token.Name name) = word_hint name.now
kind_hint (token.Integer value) = None
kind_hint (token.Character byte) = None
kind_hint (token.Text text) = None
kind_hint (token.Mark m) = None

-- a token is a word of occam 2 that this language lacks
abbrev pub is_lacked : Token → Bool
is_lacked t = is_some (kind_hint t.kind)

abbrev pub hint_or : Option Text → Option Token → Option Text
hint_or other None = other
hint_or other (Some t) = kind_hint t.kind

-- what to write in the line's place: of its first such word, else of its fault
unfoldable pub hint : List Token → ParseReason → Option TokenKind → Option Text
hint tokens r found = hint_or (reason_hint r found) (find is_lacked tokens)

-- ---- the text

-- where and why, the line, and what to write in its place
unfoldable pub whole_text : Text → ParseFault → List ℕ → Span → List Token → ParseReason → Text
whole_text path fault line span tokens r =
    place_text path fault.line span.at ++ (sentence line span (found_at tokens r) r
    ++ rest_text fault.number line span (hint tokens r (found_at tokens r)))

abbrev pub text_at : Text → ParseFault → List Token → ParseReason → Option Sight → Option Text
text_at path fault tokens r None = None
text_at path fault tokens r (Some l) = Some (whole_text path fault l.bytes (span_of l.offset tokens r) tokens r)

abbrev pub text_of : Text → List ℕ → ParseFault → ParseReason → Option Line → Option Text
text_of path source fault r None = None
text_of path source fault r (Some l) = text_at path fault l.tokens.items r (line_found source fault.line)

-- the line with a number
abbrev pub line_of : ℕ → List Line → Option Line
line_of number lines = find (λ l. l.number == number) lines

abbrev pub text_for : Text → List ℕ → List Line → ParseFault → Option ParseReason → Option Text
text_for path source lines fault None = None
text_for path source lines fault (Some r) = text_of path source fault r (line_of fault.line lines)

-- what is written of lines of a source that are no program, by their fault
abbrev pub parse_text : Text → List ℕ → List Line → ParseFault → Option Text
parse_text path source lines fault = text_for path source lines fault (parse_reason (rows_of lines) fault)
