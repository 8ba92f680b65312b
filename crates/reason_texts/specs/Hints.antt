-- What to write in place of a word of occam 2 that this language lacks.
use Rattle.std.specs.Prelude.{List, [], ◌∷◌, ℕ, codes, bytes_eq, Option, option_map}
use Rattle.std.specs.List.{find}
use Rattle.std.specs.Borrow.{Bor}
use Prim.Native.String.{String}
use Rattle.reason_texts.specs.Blocks.{Text}

abbrev pub row : String → String → Text × Text
row word hint = (codes word, codes hint)

abbrev pub row_of : Bor Text × Bor Text → Text × Text
row_of r = (r.0.now, r.1.now)

-- the words, each with what to write in its place
abbrev pub lacked_words : List (Text × Text)
lacked_words =
    row "WHILE" "this language has no WHILE; a loop has a constant count: SEQ i = 0 FOR n" ∷
    row "CASE" "this language has no CASE; write an IF whose choices are as x = 1" ∷
    row "PRI" "this language has no PRI; write ALT or PAR" ∷
    row "PLACED" "this language has no PLACED; each processor has its own module" ∷
    row "BOOL" "this language has no BOOL; write INT, with 1 and 0" ∷
    row "TIMER" "this language has no TIMER, and knows no time" ∷
    row "PORT" "this language has no PORT; channels alone lead out" ∷
    row "REAL32" "this language has no REAL32; its types are INT and BYTE" ∷
    row "REAL64" "this language has no REAL64; its types are INT and BYTE" ∷
    row "INT16" "this language has no INT16; its types are INT and BYTE" ∷
    row "INT32" "this language has no INT32; its types are INT and BYTE" ∷
    row "INT64" "this language has no INT64; its types are INT and BYTE" ∷
    row "FUNCTION" "this language has no FUNCTION; write a PROC with a parameter for the result" ∷
    row "VALOF" "this language has no VALOF; write a PROC with a parameter for the result" ∷
    row "RESULT" "this language has no RESULT; write a PROC with a parameter for the result" ∷
    row "PROTOCOL" "this language has no PROTOCOL; the messages of a channel are INT or BYTE" ∷
    row "RETYPES" "this language has no RETYPES; INT x and BYTE x are conversions" ∷
    row "PLACE" "this language has no PLACE; the links are the parameters of main" ∷
    row "REM" "this language has no REM; write x \\ y" ∷
    row "SIZE" "this language has no SIZE; write the number, or a constant" ∷
    row "AFTER" "this language has no AFTER; write (x MINUS y) > 0" ∷
    row "FROM" "this language has no FROM; write a SEQ over the elements" ∷
    row "BITAND" "this language has no BITAND; write x /\\ y" ∷
    row "BITOR" "this language has no BITOR; write x \\/ y" ∷
    row "BITNOT" "this language has no BITNOT; write ~x" ∷ []

-- what to write in place of a word, if this language lacks it
unfoldable pub word_hint : List ℕ → Option Text
word_hint word = option_map (λ (r : Text × Text). r.1) (find (λ r. bytes_eq word r.0) lacked_words)
