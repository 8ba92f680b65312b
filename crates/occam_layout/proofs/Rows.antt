-- A line and its indentation.
use Rattle.std.proofs.Common.{◌≡◌, ℕ, suc, ◌+◌, ◌/◌, ◌%◌, ◌<◌, ◌≤◌, Bool, true, false, not, cond, eqb, List, [], ◌∷◌}
use Rattle.std.proofs.Common.{◌++◌, length, take, drop, Some, None, Result, Ok, Err, refl, sym, ap, ◌∙◌, arith, ◌⊎◌}
use Rattle.std.proofs.Common.{inl, inr}
use Rattle.std.specs.Prelude.{option_to_list}
use Rattle.std.specs.List.{prefix_len, list_all}
use Rattle.std.proofs.lemmas.Bool.{ne_eqb, le-ltb, lt-ltb}
use Rattle.occam_layout.specs.declared.fault.Fault.TheVariants as faults
use Rattle.occam_layout.specs.declared.fault.LayoutFault.{LayoutFault}
use Rattle.occam_layout.specs.declared.fault.ScanError.{ScanError}
use Rattle.occam_layout.specs.declared.fault.ScanError.TheVariants as errors
use Rattle.occam_layout.specs.declared.layout.TheConstants.{MAX_BYTES, MAX_LINES}
use Rattle.occam_layout.specs.Reading.{◌>>=◌, Row, is_character, is_space, is_blank, tokens_at, row_behind, row_at}
use Rattle.occam_layout.specs.Reading.{is_in_line, lines_of, told_at, deepest_after, rows_at, read, Fails}
use Rattle.occam_layout.specs.Fault.{refused, out_of_memory, scan_refused}
use Rattle.occam_layout.proofs.Loop.{with_front, goes_on, fails}

pub row_at-behind : (number offset deepest indent : ℕ) (bytes body : List ℕ) → list_all is_character bytes ≡ true
    → indent ≡ prefix_len is_space bytes → body ≡ drop indent bytes
    → row_at number offset deepest bytes ≡ row_behind number offset deepest indent body
unfolding row_at
row_at-behind number offset deepest indent bytes body all is_indent is_body = rw (is_body, is_indent, all) refl

pub row_behind-blank : (number offset deepest indent : ℕ) (body : List ℕ) → is_blank body ≡ true
    → row_behind number offset deepest indent body ≡ Ok None
unfolding row_behind
row_behind-blank number offset deepest indent body blank = rw blank refl

pub row_behind-level : (number offset deepest indent : ℕ) (body : List ℕ) → is_blank body ≡ false
    → (indent % 2 ≡ 1 → ⊥) → indent / 2 ≤ deepest
    → row_behind number offset deepest indent
    body ≡ (tokens_at 0 (offset + indent) body >>= λ tokens. Ok
    (Some (record { number = number; level = indent / 2; tokens = tokens })))
unfolding row_behind
row_behind-level number offset deepest indent body counts even le = rw (counts, ne_eqb _ _ even, le-ltb _ _ le) refl

-- ---- the lines of a text

line_first : (b : Bool) (c : ℕ) (rest : List ℕ) (n : ℕ) → eqb c 10 ≡ b
    → (0 < length rest → lines_of rest ≡ take n rest ∷ lines_of (drop 1 (drop n rest)))
    → n ≡ prefix_len is_in_line rest
    → lines_of (c ∷ rest) ≡ take (cond (not b) (1 + n) 0) (c ∷ rest) ∷ lines_of
    (drop 1 (drop (cond (not b) (1 + n) 0) (c ∷ rest)))
unfolding lines_of
line_first true c rest n h others is_n = rw h refl
line_first false c [] n h others is_n = rw (h, is_n) refl
line_first false c (d ∷ rest) n h others is_n =
    let one : 1 + n ≡ suc n = omega arith in
    rw (h, others (omega arith), one) refl

pub lines_of-first : (text : List ℕ) → 0 < length text
    → lines_of text ≡ take (prefix_len is_in_line text) text ∷ lines_of
    (drop 1 (drop (prefix_len is_in_line text) text))
lines_of-first [] some = absurd (omega (arith, some))
lines_of-first (c ∷ rest) some = line_first (eqb c 10) c rest (prefix_len is_in_line rest) refl (lines_of-first rest)
    refl

-- ---- one line after the other

pub same : {A E : Type 0} (read : Result (List A) E) → (read >>= λ others. Ok ([] ++ others)) ≡ read
same (Ok xs) = refl
same (Err e) = refl

pub rows_at-large : (number offset deepest : ℕ) (text : List ℕ) → 0 < length text → MAX_LINES < number
    → rows_at number offset deepest (lines_of text) ≡ Err (refused faults.TooLarge number)
unfolding rows_at
rows_at-large number offset deepest text some large = rw (lines_of-first text some, lt-ltb _ _ large) refl

pub rows_at-first : (number offset deepest : ℕ) (lines : List (List ℕ)) (bytes : List ℕ) (rest : List (List ℕ))
    → lines ≡ bytes ∷ rest → number ≤ MAX_LINES
    → rows_at number offset deepest lines ≡ (told_at number (row_at number offset deepest bytes) >>= λ found. rows_at
    (number + 1) (offset + length bytes + 1) (deepest_after deepest found) rest >>= λ others. Ok
    (option_to_list found ++ others))
unfolding rows_at
rows_at-first number offset deepest lines bytes rest is_lines le = rw (is_lines, le-ltb _ _ le) refl

pub rows_at-none : (number offset deepest : ℕ) (text : List ℕ) → length text ≡ 0
    → rows_at number offset deepest (lines_of text) ≡ Ok []
unfolding rows_at lines_of
rows_at-none number offset deepest [] none = refl
rows_at-none number offset deepest (c ∷ rest) none = absurd (omega (arith, none))

drop-empty : (xs : List ℕ) → length xs ≡ 0 → drop 1 xs ≡ xs
drop-empty [] empty = refl
drop-empty (x ∷ xs) empty = absurd (omega (arith, empty))

pub parts : (text line rest after : List ℕ) (len : ℕ) → 0 < length text → len ≡ prefix_len is_in_line text
    → line ≡ take len text → rest ≡ drop len text → after ≡ drop 1 rest → lines_of text ≡ line ∷ lines_of after
parts text line rest after len some is_len is_line is_rest is_after =
    rw (is_after, is_rest, is_line, is_len) (lines_of-first text some)

pub last_parts : (text line rest : List ℕ) (len : ℕ) → 0 < length text → len ≡ prefix_len is_in_line text
    → line ≡ take len text → rest ≡ drop len text → length rest ≡ 0 → lines_of text ≡ line ∷ lines_of rest
last_parts text line rest len some is_len is_line is_rest empty =
    parts text line rest rest len some is_len is_line is_rest (sym (drop-empty rest empty))

-- ---- a whole source

pub read-large : (source : List ℕ) → MAX_BYTES < length source → read source ≡ Err (refused faults.TooLarge 0)
unfolding read
read-large source large = rw (lt-ltb _ _ large) refl

pub read-rows : (source : List ℕ) → length source ≤ MAX_BYTES → read source ≡ rows_at 1 0 0 (lines_of source)
unfolding read
read-rows source le = rw (le-ltb _ _ le) refl

-- a line that was refused ends the reading
pub ends : (e : ScanError) (number offset deepest : ℕ) (rest bytes : List ℕ) (after : List (List ℕ))
    (total : Result (List Row) LayoutFault) (front : List Row) → lines_of rest ≡ bytes ∷ after → number ≤ MAX_LINES
    → Fails e (row_at number offset deepest bytes)
    → with_front front (rows_at number offset deepest (lines_of rest)) ≡ total
    → (scan_refused e number ≡ out_of_memory) ⊎ (total ≡ Err (scan_refused e number))
ends errors.Memory number offset deepest rest bytes after total front is_lines le failed so_far = inl refl
ends (errors.Fault fault) number offset deepest rest bytes after total front is_lines le failed so_far =
    inr (fails front (refused fault number) (rows_at number offset deepest (lines_of rest)) total
    (rows_at-first number offset deepest (lines_of rest) bytes after is_lines le ∙ rw failed refl) so_far)

-- a line that doesn't count is passed
pub passes : (number offset next deepest : ℕ) (rest bytes : List ℕ) (after : List (List ℕ))
    (total : Result (List Row) LayoutFault) (front : List Row) → lines_of rest ≡ bytes ∷ after → number ≤ MAX_LINES
    → next ≡ offset + length bytes + 1 → row_at number offset deepest bytes ≡ Ok None
    → with_front front (rows_at number offset deepest (lines_of rest)) ≡ total
    → with_front front (rows_at (number + 1) next deepest after) ≡ total
passes number offset next deepest rest bytes after total front is_lines le is_next row so_far =
    let first : rows_at number offset deepest (lines_of rest) ≡ rows_at (number + 1) (offset + length bytes + 1)
    deepest after = rows_at-first number offset deepest (lines_of rest) bytes after is_lines le ∙ rw row
    (same (rows_at (number + 1) (offset + length bytes + 1) deepest after)) in
    rw is_next (ap (with_front front) (sym first) ∙ so_far)

-- a line that counts is read
pub adds : (number offset next deepest : ℕ) (rest bytes : List ℕ) (after : List (List ℕ))
    (total : Result (List Row) LayoutFault) (front : List Row) (row : Row) → lines_of rest ≡ bytes ∷ after
    → number ≤ MAX_LINES → next ≡ offset + length bytes + 1 → row_at number offset deepest bytes ≡ Ok (Some row)
    → with_front front (rows_at number offset deepest (lines_of rest)) ≡ total
    → with_front (front ++ row ∷ []) (rows_at (number + 1) next (row.level + 1) after) ≡ total
adds number offset next deepest rest bytes after total front row is_lines le is_next is_row so_far =
    let first : rows_at number offset deepest
    (lines_of rest) ≡ (rows_at (number + 1) (offset + length bytes + 1) (row.level + 1) after >>= λ others. Ok
    (row ∷ others)) = rows_at-first number offset deepest (lines_of rest) bytes after is_lines le ∙ rw is_row
    refl in
    rw is_next (goes_on front row (rows_at number offset deepest (lines_of rest))
    (rows_at (number + 1) (offset + length bytes + 1) (row.level + 1) after) total first so_far)
