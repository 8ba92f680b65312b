-- What is written of a limit that is exceeded: our own choice.
use Rattle.std.specs.Prelude.{◌≡◌, ℕ, List, [], ◌++◌, codes, Option, Some, None}
use Rattle.std.specs.Fmt.{decimal}
use Rattle.occam_layout.specs.declared.token.Line.{Line}
use Rattle.occam_layout.specs.declared.token.Token.{Token}
use Rattle.reason_texts.specs.Lines.{Sight, line_found}
use Rattle.reason_texts.specs.declared.block.Span.{Span}
use Rattle.reason_texts.specs.Blocks.{Text, block_text, place_text}
use Rattle.reason_texts.specs.ParseTexts.{line_of, line_span}
use Rattle.program_walk.specs.declared.excess.Limit.{Limit}
use Rattle.program_walk.specs.declared.excess.Limit.TheVariants as limits
use Rattle.program_walk.specs.declared.excess.Excess.{Excess}

-- what is written of a limit before the count
abbrev pub before_count : Limit → Text
before_count limits.Components = codes "this PAR has "
before_count limits.Guards = codes "this ALT has "
before_count limits.Turns = codes "this IF has "
before_count limits.Words = codes "the variables up to here take "
before_count limits.Items = codes "the tables and texts up to here have "
before_count limits.Rows = codes "the constructs and instances up to here take "
before_count limits.Entries = codes "the rows up to here have "
before_count limits.Pars = codes "there are "
before_count limits.Nesting = []
before_count limits.Processes = []
before_count limits.Budget = []
before_count limits.Steps = codes "the loops here take "
before_count limits.Bytes = codes "the code up to here takes "
before_count limits.Tables = codes "the code up to here reads "
before_count limits.Size = codes "the lines up to here, those of each instance again, have a size of "
before_count limits.Work = codes "writing the code up to here takes "
before_count limits.Reading = codes "reading the lines up to here, again under each replicator, takes "
before_count (limits.TurnReading most) = codes "reading a turn of this IF takes "
before_count limits.Data = codes "the code up to here uses "

-- and after it
abbrev pub after_count : Limit → Text
after_count limits.Components = codes " components; at most 64 are possible"
after_count limits.Guards = codes " guards; at most 64 are possible"
after_count limits.Turns = codes " turns; at most 8191 are possible"
after_count limits.Words = codes " words; 16378 are possible"
after_count limits.Items = codes " items; 4096 are possible"
after_count limits.Rows = codes " rows or more; 8192 are possible"
after_count limits.Entries = codes " entries or more; 4194304 are possible"
after_count limits.Pars = codes " PARs up to here; 1024 are possible"
after_count limits.Nesting = codes " PARs are within one another here; 64 are possible"
after_count limits.Processes = codes " processes are within one another here; 2048 are possible"
after_count limits.Steps = codes " steps or more; 4611686018427387904 are possible"
after_count limits.Bytes = codes " bytes or more; 262143 are possible"
after_count limits.Tables = codes " tables; 1024 are possible"
after_count limits.Size = codes " or more; 8388608 is possible"
after_count limits.Work = codes " steps or more; 400000000 are possible"
after_count limits.Reading = codes " steps; 25000000 are possible"
after_count (limits.TurnReading most) = codes " steps; 4096 and four times its size are possible"
after_count limits.Data = codes " words; 16384 are possible"
after_count limits.Budget = codes " steps or more are done from here on; 4611686018427387904 are possible"

-- what there is too much of, how much, and how much is possible
unfoldable pub limit_words : Limit → ℕ → Text
limit_words limit count = before_count limit ++ (decimal count ++ after_count limit)

-- where it is, the line, and the number
unfoldable pub excess_text : Text → Excess → List ℕ → Span → Text
excess_text path excess line span =
    place_text path excess.line span.at
    ++ (limit_words excess.limit excess.count ++ (codes " (G1)\n" ++ block_text line span.at span.len))

-- of a program whose source does not show which limit it is
abbrev pub large_text : Text → Text
large_text path =
    path ++ codes ": the code, words or budget of this program would be too large, or it would take too long to write (G1)\n"

abbrev pub text_at : Text → Excess → List Token → Option Sight → Text
text_at path excess tokens None = large_text path
text_at path excess tokens (Some l) = excess_text path excess l.bytes (line_span l.offset tokens)

abbrev pub text_of : Text → List ℕ → Excess → Option Line → Text
text_of path source excess None = large_text path
text_of path source excess (Some l) = text_at path excess l.tokens.items (line_found source excess.line)

-- what is written of a program that is above a limit, which is this one if its source shows one
abbrev pub limit_text : Text → List ℕ → List Line → Option Excess → Text
limit_text path source lines None = large_text path
limit_text path source lines (Some excess) = text_of path source excess (line_of excess.line lines)

-- This is written of a program with these lines, of which some limit is exceeded, or none that its source shows.
pub record IsLimitText (path : Text) (source : List ℕ) (lines : List Line) (text : Text) : Type 0 where
  pub excess : Option Excess
  pub written : text ≡ limit_text path source lines excess
