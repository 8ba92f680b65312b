-- What is known of a name, in a line.
use Rattle.std.specs.Prelude.{ℕ, ◌++◌, codes, Some}
use Rattle.std.specs.Fmt.{decimal, signed_decimal}
use Rattle.scalar_ranges.specs.declared.scope.Meaning.{Meaning}
use Rattle.scalar_ranges.specs.declared.scope.Meaning.TheVariants as meanings
use Rattle.usage_reasons.specs.declared.reason.KnownName.{KnownName}
use Rattle.reason_texts.specs.Blocks.{Text}
use Rattle.usage_texts.specs.Texts.{shown_text}
use Rattle.usage_texts.specs.Words.{ends_text, shape_text}

-- a name with its value or its range
abbrev pub valued_text : Text → Text → Text → ℕ → Text
valued_text name value shape line =
    codes "  " ++ (name ++ (codes " is " ++ (value ++ (codes " (" ++ (shape ++ (codes ", line "
    ++ (decimal line ++ codes ")\n")))))))

-- a name of which no value and no range is known
abbrev pub bare_text : Text → Text → ℕ → Text
bare_text name shape line =
    codes "  " ++ (name ++ (codes " is " ++ (shape ++ (codes " (line " ++ (decimal line ++ codes ")\n")))))

abbrev pub meaning_text : Text → Meaning → ℕ → Text
meaning_text name (meanings.Constant type (Some value)) line =
    valued_text name (signed_decimal value) (shape_text (meanings.Constant type (Some value))) line
meaning_text name (meanings.Scalar kind type range) line =
    valued_text name (ends_text range.lo range.hi) (shape_text (meanings.Scalar kind type range)) line
meaning_text name meaning line = bare_text name (shape_text meaning) line

-- what a name denotes, the value or the range that is known of it, and the line that declares it
abbrev pub known_text : KnownName → Text
known_text k = meaning_text (shown_text k.name.now) k.meaning k.line
