-- The spans of the tokens, in the whole source.
use Rattle.std.proofs.Common.{◌≡◌, ℕ, zero, suc, ◌+◌, ◌-◌, ◌*◌, ◌<◌, ◌≤◌, List, [], ◌∷◌, ◌++◌, length, take, drop, Some}
use Rattle.std.proofs.Common.{refl, sym, ap, subst, ◌∙◌, arith, append_assoc, ◌⊎◌, inl, inr}
use Rattle.std.proofs.Common.{true, Result, Ok, Err}
use Rattle.std.specs.Prelude.{map, IfOk}
use Rattle.std.specs.Global.{Vec}
use Rattle.std.proofs.Math.Seq.{drop-nil}
use Rattle.occam_layout.specs.declared.fault.LayoutFault.{LayoutFault}
use Rattle.occam_layout.specs.declared.token.Line.{Line}
use Rattle.std.specs.List.{AllByRecursion}
use Rattle.std.proofs.lemmas.List.{take_at, drop_at, length-drop, length-append, take-append-drop, length-take-le}
use Rattle.occam_layout.specs.Kind.{Kind}
use Rattle.occam_layout.specs.Reading.{Lexeme, Row, row_of, is_space, lines_of}
use Rattle.occam_layout.specs.Tokens.{is_lexeme, meaning, Tokens, Ends, Comment, Space, Token, indent_of, behind_indent}
use Rattle.occam_layout.specs.Tokens.{Rows, NoLine, Blank, Counts, IsSource, with_feeds, bytes_between, IsSpelled}
use Rattle.occam_layout.specs.Tokens.{AreInOrder, ArePlaced}
use Rattle.occam_layout.proofs.Lexemes.{cons_same, run_within}
use Rattle.occam_layout.proofs.Sources.{lines_whole}

-- the source goes on with these bytes at an offset
pub record GoesOn (source : List ℕ) (offset : ℕ) (bytes tail : List ℕ) : Type 0 where
  pub here : drop offset source ≡ bytes ++ tail

drop-drop : (a b : ℕ) (xs : List ℕ) → drop b (drop a xs) ≡ drop (a + b) xs
drop-drop zero b xs = ap (λ (n : ℕ). drop n xs) (omega arith)
drop-drop (suc a) b [] = drop-nil b ∙ sym (drop-nil (suc a + b))
drop-drop (suc a) b (x ∷ xs) = let e : suc a + b ≡ suc (a + b) = omega arith in rw e (drop-drop a b xs)

behind : (source : List ℕ) (offset : ℕ) (text rest tail : List ℕ) → GoesOn source offset (text ++ rest) tail
    → GoesOn source (offset + length text) rest tail
behind source offset text rest tail on = record {
  here = sym (drop-drop offset (length text) source) ∙ ap (drop (length text))
      (on.here ∙ append_assoc text rest tail) ∙ drop_at text (rest ++ tail) (length text) refl;
}

some_bytes : (text : List ℕ) → is_lexeme text ≡ true → 0 < length text
unfolding is_lexeme
some_bytes [] lexeme = absurd (cc lexeme)
some_bytes (c ∷ text) lexeme = omega arith

spelled : (source : List ℕ) (offset : ℕ) (text rest tail : List ℕ) (kind : Kind)
    → GoesOn source offset (text ++ rest) tail → is_lexeme text ≡ true → meaning text ≡ Some kind
    → IsSpelled source (record { kind = kind; start = offset; end = offset + length text })
spelled source offset text rest tail kind on lexeme means =
    let some = some_bytes text lexeme in
    let len : offset + length text - offset ≡ length text = omega arith in
    let whole : drop offset source ≡ text ++ (rest ++ tail) = on.here ∙ append_assoc text rest tail in
    let between : bytes_between source offset (offset + length text) ≡ text =
    ap (λ (n : ℕ). take n (drop offset source)) len ∙ ap (take (length text)) whole ∙ take_at text (rest ++ tail)
    (length text) refl in
    record {
      rises = omega arith;
      within = omega (arith, some, ap length whole, length-drop offset source, length-append text (rest ++ tail));
      means = ap meaning between ∙ means;
    }

-- the tokens of a line
tokens_spelled : (source : List ℕ) (offset : ℕ) (bytes tail : List ℕ) (tokens : List Lexeme)
    → Tokens offset bytes tokens → GoesOn source offset bytes tail → AllByRecursion (IsSpelled source) tokens
tokens_spelled source _ _ tail _ (Ends offset) on = tt
tokens_spelled source _ _ tail _ (Comment offset bytes comment) on = tt
tokens_spelled source _ _ tail _ (Space offset rest tokens others) on =
    tokens_spelled source (offset + 1) rest tail tokens others (behind source offset (32 ∷ []) rest tail on)
tokens_spelled source _ _ tail _ (Token offset text rest kind tokens counts longest means others) on = (
  spelled source offset text rest tail kind on longest.lexeme means,
  tokens_spelled source (offset + length text)
      rest tail tokens others (behind source offset text rest tail on),
)

tokens_in_order : (least offset : ℕ) (bytes : List ℕ) (tokens : List Lexeme) → Tokens offset bytes tokens
    → least ≤ offset → AreInOrder least tokens
tokens_in_order least _ _ _ (Ends offset) le = tt
tokens_in_order least _ _ _ (Comment offset bytes comment) le = tt
tokens_in_order least _ _ _ (Space offset rest tokens others) le =
    tokens_in_order least (offset + 1) rest tokens others (omega (arith, le))
tokens_in_order least _ _ _ (Token offset text rest kind tokens counts longest means others) le =
    (le, tokens_in_order (offset + length text) (offset + length text) rest tokens others (omega arith))

-- ---- the lines of a source

abbrev Feeds : List (List ℕ) → List ℕ → Type 0
Feeds lines bytes = (with_feeds lines ≡ bytes) ⊎ (with_feeds lines ≡ bytes ++ 10 ∷ [])

no_end : (line bytes : List ℕ) → line ++ 10 ∷ bytes ≡ [] → ⊥
no_end [] bytes e = cc e
no_end (c ∷ line) bytes e = cc e

-- a line, and what follows it
line_and_others : (line : List ℕ) (lines : List (List ℕ)) (bytes : List ℕ) → Feeds (line ∷ lines) bytes
    → (tail : List ℕ) × (bytes ≡ line ++ tail)
line_and_others [] lines bytes feeds = (bytes, refl)
line_and_others (c ∷ line) lines [] (inl e) = absurd (cc e)
line_and_others (c ∷ line) lines [] (inr e) = let rest : line ++ 10 ∷ with_feeds lines ≡ [] =
    cc in absurd (no_end line (with_feeds lines) rest)
line_and_others (c ∷ line) lines (b ∷ bytes) (inl e) =
    let heads : c ≡ b = cc in
    let rest : line ++ 10 ∷ with_feeds lines ≡ bytes = cc in
    let s = line_and_others line lines bytes (inl rest) in
    (s.0, cons_same b c bytes (line ++ s.0) heads s.1)
line_and_others (c ∷ line) lines (b ∷ bytes) (inr e) =
    let heads : c ≡ b = cc in
    let rest : line ++ 10 ∷ with_feeds lines ≡ bytes ++ 10 ∷ [] = cc in
    let s = line_and_others line lines bytes (inr rest) in
    (s.0, cons_same b c bytes (line ++ s.0) heads s.1)

one_on : (line : List ℕ) (lines : List (List ℕ)) (c b : ℕ) (bytes : List ℕ)
    → Feeds lines (drop (length line + 1) bytes) → Feeds lines (drop (length (c ∷ line) + 1) (b ∷ bytes))
one_on line lines c b bytes feeds = let e : suc (length line) + 1 ≡ suc (length line + 1) = omega arith in rw e feeds

others_then : (line : List ℕ) (lines : List (List ℕ)) (bytes : List ℕ) → Feeds (line ∷ lines) bytes
    → Feeds lines (drop (length line + 1) bytes)
others_then [] lines [] (inl e) = absurd (cc e)
others_then [] lines [] (inr e) = let rest : with_feeds lines ≡ [] = cc in inl rest
others_then [] lines (b ∷ bytes) (inl e) = let rest : with_feeds lines ≡ bytes = cc in inl rest
others_then [] lines (b ∷ bytes) (inr e) = let rest : with_feeds lines ≡ bytes ++ 10 ∷ [] = cc in inr rest
others_then (c ∷ line) lines [] (inl e) = absurd (cc e)
others_then (c ∷ line) lines [] (inr e) = let rest : line ++ 10 ∷ with_feeds lines ≡ [] =
    cc in absurd (no_end line (with_feeds lines) rest)
others_then (c ∷ line) lines (b ∷ bytes) (inl e) = let rest : line ++ 10 ∷ with_feeds lines ≡ bytes =
    cc in one_on line lines c b bytes (others_then line lines bytes (inl rest))
others_then (c ∷ line) lines (b ∷ bytes) (inr e) = let rest : line ++ 10 ∷ with_feeds lines ≡ bytes ++ 10 ∷ [] =
    cc in one_on line lines c b bytes (others_then line lines bytes (inr rest))

feeds_behind : (source : List ℕ) (offset : ℕ) (line : List ℕ) (lines : List (List ℕ))
    → Feeds (line ∷ lines) (drop offset source) → Feeds lines (drop (offset + length line + 1) source)
feeds_behind source offset line lines feeds =
    let sum : offset + (length line + 1) ≡ offset + length line + 1 = omega arith in
    subst (Feeds lines) (drop-drop offset (length line + 1) source ∙ ap (λ (n : ℕ). drop n source) sum)
    (others_then line lines (drop offset source) feeds)

-- what is after the indentation of a line
behind_spaces : (source : List ℕ) (offset level : ℕ) (line tail : List ℕ) → indent_of line ≡ 2 * level
    → GoesOn source offset line tail → GoesOn source (offset + 2 * level) (behind_indent line) tail
behind_spaces source offset level line tail twice on =
    let n = indent_of line in
    let parts : line ≡ take n line ++ drop n line = sym (take-append-drop n line) in
    let len : length (take n line) ≡ 2 * level = length-take-le n line (run_within is_space line) ∙ twice in
    let on' : GoesOn source offset (take n line ++ drop n line) tail =
    record { here = on.here ∙ ap (λ (bytes : List ℕ). bytes ++ tail) parts } in
    subst (λ (m : ℕ). GoesOn source (offset + m) (behind_indent line) tail) len
    (behind source offset (take n line) (drop n line) tail on')

rows_placed : (source : List ℕ) (number offset deepest : ℕ) (lines : List (List ℕ)) (rows : List Row)
    → Rows number offset deepest lines rows → Feeds lines (drop offset source) → ArePlaced source rows
rows_placed source _ _ _ _ _ (NoLine number offset deepest) feeds = tt
rows_placed source _ _ _ _ _ (Blank number offset deepest line lines rows few all blank others) feeds =
    rows_placed source (number + 1) (offset + length line + 1) deepest lines rows others
    (feeds_behind source offset line lines feeds)
rows_placed source _ _ _ _ _ (Counts number offset deepest level line lines tokens rows few all counts twice le there
    others) feeds =
    let s = line_and_others line lines (drop offset source) feeds in
    let on = behind_spaces source offset level line s.0 twice (record { here = s.1 }) in (
      (
        tokens_spelled source (offset + 2 * level) (behind_indent line) s.0 tokens there on,
        tokens_in_order 0
            (offset + 2 * level) (behind_indent line) tokens there (omega arith),
      ),
      rows_placed source (number + 1) (offset + length line + 1) (level + 1) lines rows others
          (feeds_behind source offset line lines feeds),
    )

pub placed : (source : List ℕ) (r : Result (Vec Line) LayoutFault)
    → IfOk r (λ v. IsSource source (map row_of v.items)) → IfOk r (λ v. ArePlaced source (map row_of v.items))
placed source (Ok v) is = rows_placed source 1 0 0 (lines_of source) (map row_of v.items) is.lines
    (lines_whole source).whole
placed source (Err e) is = tt
