-- The rows that reading gives are those of the source, and no others.
use Rattle.std.proofs.Common.{◌≡◌, ℕ, ◌+◌, ◌*◌, ◌/◌, ◌%◌, ◌≤◌, Bool, true, false, cond, eqb, List, [], ◌∷◌, ◌++◌}
use Rattle.std.proofs.Common.{length, Option, Some, None, Result, Ok, Err, refl, sym, ap, subst, ◌∙◌, arith, ◌⊎◌, inl}
use Rattle.std.proofs.Common.{inr}
use Rattle.std.specs.Prelude.{option_to_list, nat_lt, map, IfOk}
use Rattle.std.specs.Global.{Vec}
use Rattle.occam_layout.specs.declared.token.Line.{Line}
use Rattle.std.specs.List.{list_all, AllByRecursion}
use Rattle.std.proofs.lemmas.Bool.{ltb-false, eqb-true, eqb-false, and_from, not_from_false}
use Rattle.occam_layout.specs.declared.fault.Fault.{Fault}
use Rattle.occam_layout.specs.declared.fault.Fault.TheVariants as faults
use Rattle.occam_layout.specs.declared.fault.LayoutFault.{LayoutFault}
use Rattle.occam_layout.specs.declared.layout.TheConstants.{MAX_BYTES, MAX_LINES}
use Rattle.occam_layout.specs.Fault.{refused}
use Rattle.occam_layout.specs.Reading.{◌>>=◌, Lexeme, Row, is_character, is_blank, tokens_at, row_behind, row_at}
use Rattle.occam_layout.specs.Reading.{joined, is_in_line, lines_of, told_at, deepest_after, rows_at, read, row_of}
use Rattle.occam_layout.specs.Reading.{Answers}
use Rattle.occam_layout.specs.Tokens.{Tokens, indent_of, behind_indent, Rows, NoLine, Blank, Counts, IsSource}
use Rattle.occam_layout.specs.Tokens.{with_feeds, AreLines}
use Rattle.occam_layout.proofs.Loop.{bind_ok, ok_is}
use Rattle.occam_layout.proofs.Rows.{row_at-behind, row_behind-blank, row_behind-level, rows_at-first, read-rows, same}
use Rattle.occam_layout.proofs.LineTokens.{tokens_found, tokens_only}

-- ---- one line

-- what a line that was read is
abbrev pub IsRow : (number offset deepest : ℕ) (line : List ℕ) → Option Row → Type 0
IsRow number offset deepest line None = (list_all is_character line ≡ true) × (is_blank (behind_indent line) ≡ true)
IsRow number offset deepest line (Some row) =
    (list_all is_character line ≡ true) × (is_blank (behind_indent line) ≡ false) × (indent_of line ≡ 2 * row.level)
    × (row.level ≤ deepest)
    × Tokens (offset + 2 * row.level) (behind_indent line) row.tokens ×
    (row ≡ record { number = number; level = row.level; tokens = row.tokens })

abbrev pub IsRowIfOk : (number offset deepest : ℕ) (line : List ℕ) → Result (Option Row) Fault → Type 0
IsRowIfOk number offset deepest line (Ok found) = IsRow number offset deepest line found
IsRowIfOk number offset deepest line (Err fault) = Unit {0}

with_tokens : (number offset deepest : ℕ) (line : List ℕ) (read : Result (List Lexeme) Fault)
    → list_all is_character line ≡ true → is_blank (behind_indent line) ≡ false → (indent_of line % 2 ≡ 1 → ⊥)
    → indent_of line / 2 ≤ deepest
    → tokens_at 0 (offset + indent_of line) (behind_indent line) ≡ read
    → IsRowIfOk number offset deepest line (read >>= λ tokens. Ok
    (Some (record { number = number; level = indent_of line / 2; tokens = tokens })))
with_tokens number offset deepest line (Ok tokens) all counts even le e =
    let twice : indent_of line ≡ 2 * (indent_of line / 2) = omega arith in
    let found = tokens_found (offset + indent_of line) (behind_indent line) tokens e in
    (all, counts, twice, le, subst (λ (n : ℕ). Tokens (offset + n) (behind_indent line) tokens) twice found, refl)
with_tokens number offset deepest line (Err fault) all counts even le e = tt

level_is : (b : Bool) (number offset deepest : ℕ) (line : List ℕ) → list_all is_character line ≡ true
    → is_blank (behind_indent line) ≡ false → (indent_of line % 2 ≡ 1 → ⊥) → nat_lt deepest (indent_of line / 2) ≡ b
    → IsRowIfOk number offset deepest line (cond b (Err faults.TooDeep)
    (tokens_at 0 (offset + indent_of line) (behind_indent line) >>= λ tokens. Ok
    (Some (record { number = number; level = indent_of line / 2; tokens = tokens }))))
level_is true number offset deepest line all counts even h = tt
level_is false number offset deepest line all counts even h =
    with_tokens number offset deepest line (tokens_at 0 (offset + indent_of line) (behind_indent line)) all counts
    even (ltb-false _ _ h) refl

even_is : (b : Bool) (number offset deepest : ℕ) (line : List ℕ) → list_all is_character line ≡ true
    → is_blank (behind_indent line) ≡ false → eqb (indent_of line % 2) 1 ≡ b
    → IsRowIfOk number offset deepest line (cond b (Err faults.OddIndentation)
    (cond (nat_lt deepest (indent_of line / 2)) (Err faults.TooDeep)
    (tokens_at 0 (offset + indent_of line) (behind_indent line) >>= λ tokens. Ok
    (Some (record { number = number; level = indent_of line / 2; tokens = tokens })))))
even_is true number offset deepest line all counts h = tt
even_is false number offset deepest line all counts h =
    level_is (nat_lt deepest (indent_of line / 2)) number offset deepest line all counts (eqb-false _ _ h) refl

counts_is : (b : Bool) (number offset deepest : ℕ) (line : List ℕ) → list_all is_character line ≡ true
    → is_blank (behind_indent line) ≡ b
    → IsRowIfOk number offset deepest line (cond b (Ok None)
    (cond (eqb (indent_of line % 2) 1) (Err faults.OddIndentation)
    (cond (nat_lt deepest (indent_of line / 2)) (Err faults.TooDeep)
    (tokens_at 0 (offset + indent_of line) (behind_indent line) >>= λ tokens. Ok
    (Some (record { number = number; level = indent_of line / 2; tokens = tokens }))))))
counts_is true number offset deepest line all h = (all, h)
counts_is false number offset deepest line all h =
    even_is (eqb (indent_of line % 2) 1) number offset deepest line all h refl

all_is : (b : Bool) (number offset deepest : ℕ) (line : List ℕ) → list_all is_character line ≡ b
    → IsRowIfOk number offset deepest line (cond b
    (row_behind number offset deepest (indent_of line) (behind_indent line)) (Err faults.Character))
unfolding row_behind
all_is true number offset deepest line h = counts_is (is_blank (behind_indent line)) number offset deepest line h refl
all_is false number offset deepest line h = tt

row_found : (number offset deepest : ℕ) (line : List ℕ)
    → IsRowIfOk number offset deepest line (row_at number offset deepest line)
unfolding row_at
row_found number offset deepest line = all_is (list_all is_character line) number offset deepest line refl

-- ---- one line after the other

abbrev rows_behind : (number offset deepest : ℕ) (line : List ℕ) (lines : List (List ℕ)) (found : Option Row)
    → Result (List Row) LayoutFault
rows_behind number offset deepest line lines found =
    rows_at (number + 1) (offset + length line + 1) (deepest_after deepest found) lines >>= λ others. Ok
    (option_to_list found ++ others)

abbrev Reads : List (List ℕ) → Type 0
Reads lines = (number offset deepest : ℕ) (rows : List Row) → rows_at number offset deepest lines ≡ Ok rows
    → Rows number offset deepest lines rows

row_then : (number offset deepest : ℕ) (line : List ℕ) (lines : List (List ℕ)) (found : Option Row) (rows : List Row)
    → Reads lines → number ≤ MAX_LINES → IsRow number offset deepest line found
    → rows_behind number offset deepest line lines found ≡ Ok rows → Rows number offset deepest (line ∷ lines) rows
row_then number offset deepest line lines None rows others few row e =
    Blank number offset deepest line lines rows few row.0 row.1
    (others (number + 1) (offset + length line + 1) deepest rows
    (sym (same (rows_at (number + 1) (offset + length line + 1) deepest lines)) ∙ e))
row_then number offset deepest line lines (Some row) rows others few is e =
    let b = bind_ok (rows_at (number + 1) (offset + length line + 1) (row.level + 1) lines)
    (λ others. Ok (row ∷ others)) rows e in
    let behind = others (number + 1) (offset + length line + 1) (row.level + 1) b.0 b.1 in
    let one = Counts number offset deepest row.level line lines row.tokens b.0 few is.0 is.1 is.2 is.3 is.4 behind in
    let two = subst (λ (r : Row). Rows number offset deepest (line ∷ lines) (r ∷ b.0)) (sym is.5) one in
    subst (λ (all : List Row). Rows number offset deepest (line ∷ lines) all)
    (ok_is LayoutFault (row ∷ b.0) rows b.2) two

told_then : (number offset deepest : ℕ) (line : List ℕ) (lines : List (List ℕ)) (read : Result (Option Row) Fault)
    (rows : List Row) → Reads lines → number ≤ MAX_LINES → IsRowIfOk number offset deepest line read
    → (told_at number read >>= rows_behind number offset deepest line lines) ≡ Ok rows
    → Rows number offset deepest (line ∷ lines) rows
told_then number offset deepest line lines (Ok found) rows others few row e =
    row_then number offset deepest line lines found rows others few row e
told_then number offset deepest line lines (Err fault) rows others few row e = absurd (cc e)

few_then : (b : Bool) (number offset deepest : ℕ) (line : List ℕ) (lines : List (List ℕ)) (rows : List Row)
    → Reads lines → nat_lt MAX_LINES number ≡ b
    → cond b (Err (refused faults.TooLarge number))
    (told_at number (row_at number offset deepest line) >>= rows_behind number offset deepest line lines) ≡ Ok rows
    → Rows number offset deepest (line ∷ lines) rows
few_then true number offset deepest line lines rows others h e = absurd (cc e)
few_then false number offset deepest line lines rows others h e =
    told_then number offset deepest line lines (row_at number offset deepest line) rows others (ltb-false _ _ h)
    (row_found number offset deepest line) e

rows_found : (lines : List (List ℕ)) → Reads lines
unfolding rows_at
rows_found [] number offset deepest rows e = subst (λ (all : List Row). Rows number offset deepest [] all)
    (ok_is LayoutFault [] rows e) (NoLine number offset deepest)
rows_found (line ∷ lines) number offset deepest rows e =
    few_then (nat_lt MAX_LINES number) number offset deepest line lines rows (rows_found lines) refl e

size_then : (b : Bool) (source : List ℕ) (rows : List Row) → nat_lt MAX_BYTES (length source) ≡ b
    → cond b (Err (refused faults.TooLarge 0)) (rows_at 1 0 0 (lines_of source)) ≡ Ok rows → IsSource source rows
size_then true source rows h e = absurd (cc e)
size_then false source rows h e = record { small = ltb-false _ _ h; lines = rows_found (lines_of source) 1 0 0 rows e }

pub source_found : (source : List ℕ) (rows : List Row) → read source ≡ Ok rows → IsSource source rows
unfolding read
source_found source rows e = size_then (nat_lt MAX_BYTES (length source)) source rows refl e

-- ---- what is there is read

blank_row : (number offset deepest : ℕ) (line : List ℕ) → list_all is_character line ≡ true
    → is_blank (behind_indent line) ≡ true → row_at number offset deepest line ≡ Ok None
blank_row number offset deepest line all blank =
    row_at-behind number offset deepest (indent_of line) line (behind_indent line) all refl refl ∙ row_behind-blank
    number offset deepest (indent_of line) (behind_indent line) blank

counted_row : (number offset deepest level : ℕ) (line : List ℕ) (tokens : List Lexeme)
    → list_all is_character line ≡ true → is_blank (behind_indent line) ≡ false → indent_of line ≡ 2 * level
    → level ≤ deepest → Tokens (offset + 2 * level) (behind_indent line) tokens
    → row_at number offset deepest line ≡ Ok (Some (record { number = number; level = level; tokens = tokens }))
counted_row number offset deepest level line tokens all counts twice le there =
    let even : indent_of line % 2 ≡ 1 → ⊥ = λ odd. omega arith in
    let half : indent_of line / 2 ≡ level = omega arith in
    let read : tokens_at 0 (offset + indent_of line) (behind_indent line) ≡ Ok tokens =
    ap (λ (n : ℕ). tokens_at 0 (offset + n) (behind_indent line)) twice ∙ tokens_only (offset + 2 * level)
    (behind_indent line) tokens there in
    row_at-behind number offset deepest (indent_of line) line (behind_indent line) all refl refl
    ∙ row_behind-level number offset deepest (indent_of line) (behind_indent line) counts even (omega arith)
    ∙ ap (λ (r : Result (List Lexeme) Fault). r >>= λ found. Ok
    (Some (record { number = number; level = indent_of line / 2; tokens = found }))) read
    ∙ ap (λ (l : ℕ). Ok (Some (record { number = number; level = l; tokens = tokens }))) half

rows_only : (number offset deepest : ℕ) (lines : List (List ℕ)) (rows : List Row)
    → Rows number offset deepest lines rows → rows_at number offset deepest lines ≡ Ok rows
unfolding rows_at
rows_only _ _ _ _ _ (NoLine number offset deepest) = refl
rows_only _ _ _ _ _ (Blank number offset deepest line lines rows few all blank others) =
    rows_at-first number offset deepest (line ∷ lines) line lines refl few
    ∙ ap (λ (r : Result (Option Row) Fault). told_at number r >>= rows_behind number offset deepest line lines)
    (blank_row number offset deepest line all blank)
    ∙ ap (λ (r : Result (List Row) LayoutFault). r >>= λ others. Ok ([] ++ others))
    (rows_only (number + 1) (offset + length line + 1) deepest lines rows others)
rows_only _ _ _ _ _ (Counts number offset deepest level line lines tokens rows few all counts twice le there others) =
    rows_at-first number offset deepest (line ∷ lines) line lines refl few
    ∙ ap (λ (r : Result (Option Row) Fault). told_at number r >>= rows_behind number offset deepest line lines)
    (counted_row number offset deepest level line tokens all counts twice le there)
    ∙ ap (λ (r : Result (List Row) LayoutFault). r >>= λ others. Ok
    (record { number = number; level = level; tokens = tokens } ∷ others))
    (rows_only (number + 1) (offset + length line + 1) (level + 1) lines rows others)

pub source_only : (source : List ℕ) (rows : List Row) → IsSource source rows → read source ≡ Ok rows
source_only source rows is = read-rows source is.small ∙ rows_only 1 0 0 (lines_of source) rows is.lines

pub one_reading : (source : List ℕ) (rows others : List Row) → IsSource source rows → IsSource source others
    → rows ≡ others
one_reading source rows others a b = ok_is LayoutFault rows others
    (sym (source_only source rows a) ∙ source_only source others b)

-- ---- the lines of a text

more_whole : (c : ℕ) (rest : List ℕ) (lines : List (List ℕ))
    → (with_feeds lines ≡ rest) ⊎ (with_feeds lines ≡ rest ++ 10 ∷ [])
    → (with_feeds (joined c lines) ≡ c ∷ rest) ⊎ (with_feeds (joined c lines) ≡ c ∷ (rest ++ 10 ∷ []))
more_whole c [] [] (inl e) = inr refl
more_whole c (d ∷ rest) [] (inl e) = absurd (cc e)
more_whole c [] [] (inr e) = absurd (cc e)
more_whole c (d ∷ rest) [] (inr e) = absurd (cc e)
more_whole c rest (line ∷ lines) (inl e) = inl (ap (λ (bytes : List ℕ). c ∷ bytes) e)
more_whole c rest (line ∷ lines) (inr e) = inr (ap (λ (bytes : List ℕ). c ∷ bytes) e)

more_apart : (c : ℕ) (lines : List (List ℕ)) → is_in_line c ≡ true
    → AllByRecursion (λ line. list_all is_in_line line ≡ true) lines
    → AllByRecursion (λ line. list_all is_in_line line ≡ true) (joined c lines)
more_apart c [] inside apart = (and_from (is_in_line c) true inside refl, tt)
more_apart c (line ∷ lines) inside apart = (and_from (is_in_line c) (list_all is_in_line line) inside apart.0, apart.1)

feed_whole : (c : ℕ) (rest : List ℕ) (lines : List (List ℕ)) → 10 ≡ c
    → (with_feeds lines ≡ rest) ⊎ (with_feeds lines ≡ rest ++ 10 ∷ [])
    → (10 ∷ with_feeds lines ≡ c ∷ rest) ⊎ (10 ∷ with_feeds lines ≡ c ∷ (rest ++ 10 ∷ []))
feed_whole c rest lines feed (inl e) = inl cc
feed_whole c rest lines feed (inr e) = inr cc

line_then : (b : Bool) (c : ℕ) (rest : List ℕ) → eqb c 10 ≡ b → AreLines rest (lines_of rest)
    → AreLines (c ∷ rest) (cond b ([] ∷ lines_of rest) (joined c (lines_of rest)))
line_then true c rest feed others = record {
  whole =
      feed_whole c rest (lines_of rest) (sym (eqb-true c 10 feed)) others.whole;
  apart = (refl, others.apart);
}
line_then false c rest other others = record {
  whole = more_whole c rest (lines_of rest) others.whole;
  apart =
      more_apart c (lines_of rest) (not_from_false (eqb c 10) other) others.apart;
}

pub lines_whole : (text : List ℕ) → AreLines text (lines_of text)
unfolding lines_of
lines_whole [] = record { whole = inl refl; apart = tt }
lines_whole (c ∷ rest) = line_then (eqb c 10) c rest refl (lines_whole rest)

-- ---- what is returned

pub is_found : (source : List ℕ) (r : Result (Vec Line) LayoutFault) → Answers r (read source)
    → IfOk r (λ v. IsSource source (map row_of v.items))
is_found source (Ok v) given = source_found source (map row_of v.items) given
is_found source (Err e) given = tt
