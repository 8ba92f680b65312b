-- Each fault of layout has a reason of its number.
use Rattle.std.proofs.Common.{◌≡◌, ℕ, zero, suc, ◌+◌, ◌/◌, ◌%◌, ◌<◌, ◌≤◌, Bool, true, false, cond, eqb, ltb, List}
use Rattle.std.proofs.Common.{[], ◌∷◌}
use Rattle.std.proofs.Common.{◌++◌, length, drop, Option, Some, None, Result, Ok, Err, refl, sym, ap, subst, ◌∙◌}
use Rattle.std.proofs.Common.{arith}
use Rattle.std.specs.Prelude.{◌==◌, ◌&&◌, not, nat_lt, option_map, option_to_list}
use Rattle.reason_texts.specs.declared.tokens.BadToken.{BadToken}
use Rattle.std.specs.List.{prefix_len, list_all}
use Rattle.std.proofs.lemmas.Bool.{ne_eqb, eq-eqb, lt-ltb}
use Rattle.std.proofs.lemmas.Bool.Decides.{nat_tests}
use Rattle.occam_layout.specs.declared.fault.TheConstants.{CHARACTER, TOO_LARGE}
use Rattle.occam_layout.specs.declared.fault.LayoutFault.{LayoutFault}
use Rattle.occam_layout.specs.declared.layout.TheConstants.{MAX_BYTES, MAX_LINES}
use Rattle.occam_layout.specs.Fault as fault
use Rattle.occam_layout.specs.Reading.{◌>>=◌, Lexeme, Row, is_character, is_blank, tokens_at, row_behind, row_at}
use Rattle.occam_layout.specs.Reading.{lines_of, told_at, deepest_after, rows_at, read}
use Rattle.occam_layout.specs.Tokens.{indent_of, behind_indent}
use Rattle.reason_texts.specs.declared.lines.Above.{Above}
use Rattle.reason_texts.specs.declared.layout.LayoutReason.{LayoutReason}
use Rattle.reason_texts.specs.declared.layout.LayoutReason.TheVariants as reason
use Rattle.reason_texts.specs.Lines.{Sight, above_after, line_among, line_found}
use Rattle.reason_texts.specs.Tokens.{bad_token}
use Rattle.reason_texts.specs.LayoutReasons.{deepest_below, token_reason, body_reason, line_reason, reason_at}
use Rattle.reason_texts.specs.LayoutReasons.{layout_reason, number_of, Explains}
use Rattle.reason_texts.proofs.TokensAlike.{BlamesBy, tokens_blamed}

-- ---- one line

-- a reason of a fault of one line
abbrev TellsBy : {A E : Type 0} → (E → ℕ) → Result A E → Option LayoutReason → Type 0
TellsBy number (Ok x) found = Unit {0}
TellsBy number (Err f) None = ⊥
TellsBy number (Err f) (Some r) = number_of r ≡ number f

Tells-cond : {A E : Type 0} (number : E → ℕ) (b : Bool) (x y : Result A E) (m n : Option LayoutReason)
    → TellsBy number x m → TellsBy number y n → TellsBy number (cond b x y) (cond b m n)
Tells-cond number true x y m n h k = h
Tells-cond number false x y m n h k = k

tokens_tell : {E : Type 0} (number : E → ℕ) (f : List Lexeme → Option Row) (tokens : Result (List Lexeme) E)
    (found : Option BadToken) → BlamesBy number tokens found
    → TellsBy number (tokens >>= λ ts. Ok (f ts)) (token_reason found)
tokens_tell number f (Ok ts) found h = tt
tokens_tell number f (Err e) None h = h
tokens_tell number f (Err e) (Some b) h = h

body_tells : (number offset indent : ℕ) (above : Option Above) (body : List ℕ)
    → TellsBy fault.number_of (row_behind number offset (deepest_below above) indent body) (body_reason above indent body)
unfolding row_behind
body_tells number offset indent above body =
    Tells-cond fault.number_of (is_blank body) _ _ _ _ tt
    (Tells-cond fault.number_of (indent % 2 == 1) _ _ _ _ refl
    (Tells-cond fault.number_of (nat_lt (deepest_below above) (indent / 2)) _ _ _ _ refl
    (tokens_tell fault.number_of (λ ts. Some (record { number = number; level = indent / 2; tokens = ts }))
    (tokens_at 0 (offset + indent) body) (bad_token 0 indent body) (tokens_blamed 0 (offset + indent) indent body))))

front_lt : (b all : Bool) (n m : ℕ) → ltb n m ≡ not all → ltb (cond b (1 + n) 0) (suc m) ≡ not (b && all)
front_lt true all n m h = let e : ltb (1 + n) (suc m) ≡ ltb n m = grind (arith, nat_tests) in e ∙ h
front_lt false all n m h = lt-ltb 0 (suc m) (omega arith)

-- not all bytes are characters exactly if a front of them is shorter
all_or_fewer : (p : ℕ → Bool) (bytes : List ℕ) → ltb (prefix_len p bytes) (length bytes) ≡ not (list_all p bytes)
all_or_fewer p [] = refl
all_or_fewer p (c ∷ rest) = front_lt (p c) (list_all p rest) (prefix_len p rest) (length rest) (all_or_fewer p rest)

whole_tells : {E : Type 0} (number : E → ℕ) (none : E) (b : Bool) (at : ℕ) (row : Result (Option Row) E)
    (found : Option LayoutReason) → CHARACTER ≡ number none → TellsBy number row found
    → TellsBy number (cond b row (Err none)) (cond (not b) (Some (reason.NoCharacter at)) found)
whole_tells number none true at row found is_none h = h
whole_tells number none false at row found is_none h = is_none

row_tells : (number offset : ℕ) (above : Option Above) (bytes : List ℕ)
    → TellsBy fault.number_of (row_at number offset (deepest_below above) bytes) (line_reason above bytes)
unfolding row_at line_reason
row_tells number offset above bytes =
    rw (all_or_fewer is_character bytes) (whole_tells fault.number_of _ (list_all is_character bytes)
    (prefix_len is_character bytes)
    (row_behind number offset (deepest_below above) (indent_of bytes) (behind_indent bytes))
    (body_reason above (indent_of bytes) (behind_indent bytes)) refl
    (body_tells number offset (indent_of bytes) above (behind_indent bytes)))

-- ---- how deep the next line may be

-- what a line that was read leaves for the next one is what the line above that one is
abbrev Deepens : {E : Type 0} → (above next : Option Above) → Result (Option Row) E → Type 0
Deepens above next (Ok found) = deepest_after (deepest_below above) found ≡ deepest_below next
Deepens above next (Err f) = Unit {0}

Deepens-cond : {E : Type 0} (b : Bool) (above next : Option Above) (x y : Result (Option Row) E)
    → Deepens above next x → Deepens above next y → Deepens above next (cond b x y)
Deepens-cond true above next x y h k = h
Deepens-cond false above next x y h k = k

tokens_deepen : {E : Type 0} (above : Option Above) (number level : ℕ) (tokens : Result (List Lexeme) E)
    → Deepens above (Some (record { line = number; level = level })) (tokens >>= λ ts. Ok
    (Some (record { number = number; level = level; tokens = ts })))
tokens_deepen above number level (Ok ts) = refl
tokens_deepen above number level (Err f) = tt

blank_or_deepens : {E : Type 0} (blank : Bool) (above : Option Above) (number level : ℕ) (row : Result (Option Row) E)
    → Deepens above (Some (record { line = number; level = level })) row
    → Deepens above (cond blank above (Some (record { line = number; level = level }))) (cond blank (Ok None) row)
blank_or_deepens true above number level row h = refl
blank_or_deepens false above number level row h = h

body_deepens : (number offset indent : ℕ) (above : Option Above) (body : List ℕ)
    → Deepens above (cond (is_blank body) above (Some (record { line = number; level = indent / 2 })))
    (row_behind number offset (deepest_below above) indent body)
unfolding row_behind
body_deepens number offset indent above body =
    blank_or_deepens (is_blank body) above number (indent / 2) _
    (Deepens-cond (indent % 2 == 1) above (Some (record { line = number; level = indent / 2 })) _ _ tt
    (Deepens-cond (nat_lt (deepest_below above) (indent / 2)) above
    (Some (record { line = number; level = indent / 2 })) _ _ tt
    (tokens_deepen above number (indent / 2) (tokens_at 0 (offset + indent) body))))

row_deepens : (number offset : ℕ) (above : Option Above) (bytes : List ℕ)
    → Deepens above (above_after above number bytes) (row_at number offset (deepest_below above) bytes)
unfolding row_at
row_deepens number offset above bytes =
    Deepens-cond (list_all is_character bytes) above _ _ _
    (body_deepens number offset (indent_of bytes) above (behind_indent bytes)) tt

-- ---- all lines

-- a fault of lines from a number on is at one of them, and has a reason
abbrev IsExplained : ℕ → Result (List Row) LayoutFault → (ℕ → Option Sight) → Type 0
IsExplained number (Ok rows) find = Unit {0}
IsExplained number (Err e) find = (number ≤ e.line) × Explains e (reason_at e.line (find e.line))

-- a fault of a line, at its number
abbrev told_by : {A E : Type 0} → (E → ℕ) → ℕ → Result A E → Result A LayoutFault
told_by number line (Ok x) = Ok x
told_by number line (Err f) = Err (record { number = number f; line = line })

alike : {A B E : Type 0} (f g : Result A E → B) → ((x : A) → f (Ok x) ≡ g (Ok x)) → ((e : E) → f (Err e) ≡ g (Err e))
    → (r : Result A E) → f r ≡ g r
alike f g ok err (Ok x) = ok x
alike f g ok err (Err e) = err e

explains : {E : Type 0} (by : E → ℕ) (f : E) (number : ℕ) (found : Option LayoutReason)
    → TellsBy {A = Option Row} by (Err f) found → Explains (record { number = by f; line = number }) found
explains by f number None h = h
explains by f number (Some r) h = h

later : (number : ℕ) (rows : Result (List Row) LayoutFault) (sight : Sight) (find : ℕ → Option Sight)
    (f : List Row → List Row) → IsExplained (number + 1) rows find
    → IsExplained number (rows >>= λ others. Ok (f others)) (λ line. cond (eqb number line) (Some sight) (find line))
later number (Ok rows) sight find f h = tt
later number (Err e) sight find f h =
    let differs : eqb number e.line ≡ false = ne_eqb _ _ (λ same. omega (arith, h.0)) in
    (omega (arith, h.0), rw differs h.1)

here : {E : Type 0} (by : E → ℕ) (number : ℕ) (sight : Sight) (find : ℕ → Option Sight) (f : E)
    → nat_lt MAX_LINES number ≡ false → TellsBy {A = Option Row} by (Err f) (line_reason sight.above sight.bytes)
    → IsExplained number (Err (record { number = by f; line = number }))
    (λ line. cond (eqb number line) (Some sight) (find line))
here by number sight find f few h =
    let found : eqb number number ≡ true = eq-eqb _ _ refl in
    (omega arith, rw (found, few) (explains by f number (line_reason sight.above sight.bytes) h))

too_many : (number : ℕ) (sight : Sight) (find : ℕ → Option Sight) → nat_lt MAX_LINES number ≡ true
    → IsExplained number (Err (record { number = TOO_LARGE; line = number }))
    (λ line. cond (eqb number line) (Some sight) (find line))
too_many number sight find many =
    let found : eqb number number ≡ true = eq-eqb _ _ refl in
    (omega arith, rw (found, many) refl)

first_row : {E : Type 0} (by : E → ℕ) (many : Bool) (number offset : ℕ) (above : Option Above) (bytes : List ℕ)
    (rest : List (List ℕ)) (row : Result (Option Row) E) → nat_lt MAX_LINES number ≡ many
    → TellsBy by row (line_reason above bytes) → Deepens above (above_after above number bytes) row
    → IsExplained (number + 1) (rows_at (number + 1) (offset + length bytes + 1)
    (deepest_below (above_after above number bytes)) rest)
    (line_among (number + 1) (offset + length bytes + 1) (above_after above number bytes) rest)
    → IsExplained number (cond many (Err (record { number = TOO_LARGE; line = number }))
    (told_by by number row >>= λ found. rows_at
    (number + 1) (offset + length bytes + 1) (deepest_after (deepest_below above) found) rest >>= λ others. Ok
    (option_to_list found ++ others)))
    (λ line. cond (eqb number line) (Some (record { bytes = bytes; offset = offset; above = above })) (line_among
    (number + 1) (offset + length bytes + 1) (above_after above number bytes) rest line))
first_row by true number offset above bytes rest row many tells deepens others =
    too_many number _ (line_among (number + 1) (offset + length bytes + 1) (above_after above number bytes) rest) many
first_row by false number offset above bytes rest (Err f) few tells deepens others =
    here by number _ (line_among (number + 1) (offset + length bytes + 1) (above_after above number bytes) rest) f few
    tells
first_row by false number offset above bytes rest (Ok found) few tells deepens others =
    rw deepens (later number _ _ _ (λ rows. option_to_list found ++ rows) others)

rows_explained : (number offset : ℕ) (above : Option Above) (lines : List (List ℕ))
    → IsExplained number (rows_at number offset (deepest_below above) lines) (line_among number offset above lines)
unfolding rows_at line_among
rows_explained number offset above [] = tt
rows_explained number offset above (bytes ∷ rest) =
    let row = row_at number offset (deepest_below above) bytes in
    let same : told_at number row ≡ told_by fault.number_of number row =
    alike (told_at number) (told_by fault.number_of number) (λ x. refl) (λ e. refl) row in
    rw same (first_row fault.number_of (nat_lt MAX_LINES number) number offset above bytes rest row refl
    (row_tells number offset above bytes) (row_deepens number offset above bytes)
    (rows_explained (number + 1) (offset + length bytes + 1) (above_after above number bytes) rest))

-- ---- a source

is_explained : (fault : LayoutFault) (rows : Result (List Row) LayoutFault) (find : ℕ → Option Sight)
    → IsExplained 1 rows find → rows ≡ Err fault → Explains fault (reason_at fault.line (find fault.line))
is_explained fault (Ok rows) find h e = absurd (cc e)
is_explained fault (Err other) find h e = let same : other ≡ fault = cc in rw same at h.1

source_explained : (large : Bool) (source : List ℕ) (fault : LayoutFault)
    → cond large (Err (record { number = TOO_LARGE; line = 0 })) (rows_at 1 0 0 (lines_of source)) ≡ Err fault
    → Explains fault (cond large (Some (reason.TooManyBytes (length source)))
    (reason_at fault.line (cond large None (line_among 1 0 None (lines_of source) fault.line))))
source_explained true source fault e = let same : record { number = TOO_LARGE; line = 0 } ≡ fault = cc in rw (← same) refl
source_explained false source fault e =
    is_explained fault (rows_at 1 0 0 (lines_of source)) (line_among 1 0 None (lines_of source))
    (rows_explained 1 0 None (lines_of source)) e

-- each fault of a source has a reason of its number
pub fault_explained : (source : List ℕ) (fault : LayoutFault) → read source ≡ Err fault
    → Explains fault (layout_reason source fault.line)
unfolding read layout_reason line_found
fault_explained source fault e = source_explained (nat_lt MAX_BYTES (length source)) source fault e
