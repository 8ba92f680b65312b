-- A source is its tokens with spaces, line feeds and comments between them.
use Rattle.std.proofs.Common.{◌≡◌, ℕ, suc, ◌+◌, Bool, true, false, cond, eqb, List, [], ◌∷◌, ◌++◌, length, drop, Some}
use Rattle.std.proofs.Common.{refl, sym, ap, subst, ◌∙◌, arith, append_assoc, ◌⊎◌, inl, inr}
use Rattle.std.specs.List.{prefix_len, list_all}
use Rattle.std.proofs.lemmas.Bool.{eqb-true, and_parts}
use Rattle.std.proofs.lemmas.List.{append_cancel_right, length-append, append-nil}
use Rattle.std.proofs.lemmas.List.Folds.{list_all-append}
use Rattle.occam_layout.specs.Kind.{Kind}
use Rattle.occam_layout.specs.Reading.{Lexeme, Row, is_character, is_space, is_blank, begins_comment, lines_of}
use Rattle.occam_layout.specs.Tokens.{is_lexeme, meaning, Tokens, Ends, Comment, Space, Token, indent_of, behind_indent}
use Rattle.occam_layout.specs.Tokens.{Rows, NoLine, Blank, Counts, IsSource, with_feeds}
use Rattle.occam_layout.specs.Pieces.{Piece, put_together, tokens_among, FollowLine, AreSound, ArePieces, tokens_of}
use Rattle.occam_layout.specs.Pieces as parts
use Rattle.occam_layout.proofs.Scanning.{is_blank-cons}
use Rattle.occam_layout.proofs.Sources.{lines_whole}

-- ---- one piece more at the front

space_first : (offset : ℕ) (rest : List ℕ) (tokens : List Lexeme) → ArePieces (offset + 1) rest tokens
    → ArePieces offset (32 ∷ rest) tokens
space_first offset rest tokens p = record {
  pieces = parts.Space ∷ p.pieces;
  sound = p.sound;
  together =
      ap (λ (bytes : List ℕ). 32 ∷ bytes) p.together;
  among = p.among;
}

feed_first : (offset : ℕ) (rest : List ℕ) (tokens : List Lexeme) → ArePieces (offset + 1) rest tokens
    → (p : ArePieces offset (10 ∷ rest) tokens) × FollowLine p.pieces
feed_first offset rest tokens p = (
  record {
    pieces = parts.LineFeed ∷ p.pieces;
    sound = p.sound;
    together =
        ap (λ (bytes : List ℕ). 10 ∷ bytes) p.together;
    among = p.among;
  },
  tt,
)

comment_first : (next offset : ℕ) (text rest : List ℕ) (tokens : List Lexeme) → next ≡ offset + length text
    → begins_comment text ≡ true → list_all is_character text ≡ true → (p : ArePieces next rest tokens)
    → FollowLine p.pieces → ArePieces offset (text ++ rest) tokens
comment_first next offset text rest tokens e comment all p end = record {
  pieces = parts.Comment text ∷ p.pieces;
  sound = (comment, all, end, p.sound);
  together = ap (λ (bytes : List ℕ). text ++ bytes) p.together;
  among = ap (λ (n : ℕ). tokens_among n p.pieces) (sym e) ∙ p.among;
}

token_first : (offset : ℕ) (text rest : List ℕ) (kind : Kind) (tokens : List Lexeme) → is_lexeme text ≡ true
    → meaning text ≡ Some kind → list_all is_character text ≡ true → ArePieces (offset + length text) rest tokens
    → ArePieces offset (text ++ rest) (record { kind = kind; start = offset; end = offset + length text } ∷ tokens)
token_first offset text rest kind tokens lexeme means all p = record {
  pieces = parts.Spelled kind text ∷ p.pieces;
  sound = (lexeme, means, all, p.sound);
  together = ap (λ (bytes : List ℕ). text ++ bytes) p.together;
  among = ap (λ (others : List Lexeme). record { kind = kind; start = offset; end = offset + length text } ∷ others)
      p.among;
}

-- ---- a line, and what follows it

characters : (text rest : List ℕ) → list_all is_character (text ++ rest) ≡ true
    → (list_all is_character text ≡ true) × (list_all is_character rest ≡ true)
characters text rest all = and_parts (list_all is_character text) (list_all is_character rest)
    (sym (list_all-append is_character text rest) ∙ all)

line_first : (next offset : ℕ) (line after : List ℕ) (tokens others : List Lexeme) → next ≡ offset + length line
    → Tokens offset line tokens → list_all is_character line ≡ true → (p : ArePieces next after others)
    → FollowLine p.pieces
    → ArePieces offset (line ++ after) (tokens ++ others)
line_first next _ _ after _ others e (Ends offset) all p end = let here : next ≡ offset =
    omega (arith, e) in subst (λ (n : ℕ). ArePieces n after others) here p
line_first next _ _ after _ others e (Comment offset bytes comment) all p end =
    comment_first next offset bytes after others e comment all p end
line_first next _ _ after _ others e (Space offset rest tokens spaced) all p end =
    let one : next ≡ offset + 1 + length rest = omega (arith, e) in
    space_first offset (rest ++ after) (tokens ++ others)
    (line_first next (offset + 1) rest after tokens others one spaced (characters (32 ∷ []) rest all).1 p end)
line_first next _ _ after _ others e (Token offset text rest kind tokens counts longest means spaced) all p end =
    let far : next ≡ offset + length text + length rest = omega (arith, e, length-append text rest) in
    let both = characters text rest all in
    let behind = line_first next (offset + length text) rest after tokens others far spaced both.1 p end in
    let whole = token_first offset text (rest ++ after) kind (tokens ++ others) longest.lexeme means both.0 behind in
    subst (λ (bytes : List ℕ). ArePieces offset bytes
    (record { kind = kind; start = offset; end = offset + length text } ∷ (tokens ++ others)))
    (sym (append_assoc text rest after)) whole

-- a line that ends with a line feed
line_and_feed : (offset : ℕ) (line after : List ℕ) (tokens others : List Lexeme) → Tokens offset line tokens
    → list_all is_character line ≡ true → ArePieces (offset + length line + 1) after others
    → ArePieces offset (line ++ 10 ∷ after) (tokens ++ others)
line_and_feed offset line after tokens others there all p =
    let fed = feed_first (offset + length line) after others p in
    line_first (offset + length line) offset line (10 ∷ after) tokens others refl there all fed.0 fed.1

-- a line with nothing after it
line_alone : (offset : ℕ) (line : List ℕ) (tokens : List Lexeme) → Tokens offset line tokens
    → list_all is_character line ≡ true → ArePieces offset line tokens
line_alone offset line tokens there all =
    let nothing : ArePieces (offset + length line) [] [] =
    record { pieces = []; sound = tt; together = refl; among = refl } in
    let one = line_first (offset + length line) offset line [] tokens [] refl there all nothing tt in
    let two = subst (λ (bytes : List ℕ). ArePieces offset bytes (tokens ++ [])) (append-nil line) one in
    subst (λ (all : List Lexeme). ArePieces offset line all) (append-nil tokens) two

-- ---- the indentation of a line

one_space : (b : Bool) (c : ℕ) (rest : List ℕ) (tokens : List Lexeme) → eqb c 32 ≡ b
    → ((offset : ℕ) → Tokens (offset + prefix_len is_space rest) (drop (prefix_len is_space rest) rest) tokens
    → Tokens offset rest tokens)
    → (offset : ℕ) → Tokens (offset + cond b (1 + prefix_len is_space rest) 0)
    (drop (cond b (1 + prefix_len is_space rest) 0) (c ∷ rest)) tokens → Tokens offset (c ∷ rest) tokens
one_space true c rest tokens h others offset there =
    let n = prefix_len is_space rest in
    let is_suc : 1 + n ≡ suc n = omega arith in
    let sum : offset + suc n ≡ offset + 1 + n = omega arith in
    let one : Tokens (offset + suc n) (drop (suc n) (c ∷ rest)) tokens =
    subst (λ (m : ℕ). Tokens (offset + m) (drop m (c ∷ rest)) tokens) is_suc there in
    let two : Tokens (offset + 1 + n) (drop n rest) tokens = subst (λ (m : ℕ). Tokens m (drop n rest) tokens) sum one in
    subst (λ (d : ℕ). Tokens offset (d ∷ rest) tokens) (sym (eqb-true c 32 h))
    (Space offset rest tokens (others (offset + 1) two))
one_space false c rest tokens h others offset there = let here : offset + 0 ≡ offset =
    omega arith in subst (λ (m : ℕ). Tokens m (c ∷ rest) tokens) here there

with_spaces : (line : List ℕ) (tokens : List Lexeme) (offset : ℕ)
    → Tokens (offset + indent_of line) (behind_indent line) tokens → Tokens offset line tokens
with_spaces [] tokens offset there = let here : offset + 0 ≡ offset =
    omega arith in subst (λ (m : ℕ). Tokens m [] tokens) here there
with_spaces (c ∷ rest) tokens offset there = one_space (eqb c 32) c rest tokens refl (with_spaces rest tokens) offset
    there

nothing_there : (offset : ℕ) (body : List ℕ) → is_blank body ≡ true → Tokens offset body []
nothing_there offset [] blank = Ends offset
nothing_there offset (c ∷ rest) blank = Comment offset (c ∷ rest) (sym (is_blank-cons c rest) ∙ blank)

-- ---- all lines

abbrev Feeds : List (List ℕ) → List ℕ → Type 0
Feeds lines bytes = (with_feeds lines ≡ bytes) ⊎ (with_feeds lines ≡ bytes ++ 10 ∷ [])

last_feed : (line : List ℕ) (lines : List (List ℕ)) → (body : List ℕ) × (with_feeds (line ∷ lines) ≡ body ++ 10 ∷ [])
last_feed line [] = (line, refl)
last_feed line (next ∷ lines) =
    let b = last_feed next lines in
    (line ++ 10 ∷ b.0, ap (λ (bytes : List ℕ). line ++ 10 ∷ bytes) b.1 ∙ sym (append_assoc line (10 ∷ b.0) (10 ∷ [])))

line_then : (offset : ℕ) (line bytes : List ℕ) (lines : List (List ℕ)) (tokens others : List Lexeme)
    → Tokens offset line tokens → list_all is_character line ≡ true → Feeds (line ∷ lines) bytes
    → (lines ≡ [] → others ≡ [])
    → ((rest : List ℕ) → Feeds lines rest → ArePieces (offset + length line + 1) rest others)
    → ArePieces offset bytes (tokens ++ others)
line_then offset line bytes lines tokens others there all (inl e) none behind =
    subst (λ (whole : List ℕ). ArePieces offset whole (tokens ++ others)) e
    (line_and_feed offset line (with_feeds lines) tokens others there all (behind (with_feeds lines) (inl refl)))
line_then offset line bytes [] tokens others there all (inr e) none behind =
    let same : line ≡ bytes = append_cancel_right line bytes (10 ∷ []) e in
    let ends : tokens ≡ tokens ++ others = sym (append-nil tokens) ∙ ap (λ (more : List Lexeme). tokens ++ more)
    (sym (none refl)) in
    let one = subst (λ (whole : List ℕ). ArePieces offset whole tokens) same
    (line_alone offset line tokens there all) in
    subst (λ (whole : List Lexeme). ArePieces offset bytes whole) ends one
line_then offset line bytes (next ∷ lines) tokens others there all (inr e) none behind =
    let b = last_feed next lines in
    let both : (line ++ 10 ∷ b.0) ++ 10 ∷ [] ≡ bytes ++ 10 ∷ [] =
    append_assoc line (10 ∷ b.0) (10 ∷ []) ∙ ap (λ (whole : List ℕ). line ++ 10 ∷ whole) (sym b.1) ∙ e in
    let same : line ++ 10 ∷ b.0 ≡ bytes = append_cancel_right (line ++ 10 ∷ b.0) bytes (10 ∷ []) both in
    subst (λ (whole : List ℕ). ArePieces offset whole (tokens ++ others)) same
    (line_and_feed offset line b.0 tokens others there all (behind b.0 (inr b.1)))

no_rows : (number offset deepest : ℕ) (lines : List (List ℕ)) (rows : List Row)
    → Rows number offset deepest lines rows → lines ≡ [] → tokens_of rows ≡ []
no_rows _ _ _ _ _ (NoLine number offset deepest) e = refl
no_rows _ _ _ _ _ (Blank number offset deepest line lines rows few all blank others) e = absurd (cc e)
no_rows _ _ _ _ _ (Counts number offset deepest level line lines tokens rows few all counts twice le there others) e
    = absurd (cc e)

no_bytes : (offset : ℕ) (bytes : List ℕ) → Feeds [] bytes → ArePieces offset bytes []
no_bytes offset [] feeds = record { pieces = []; sound = tt; together = refl; among = refl }
no_bytes offset (b ∷ bytes) (inl e) = absurd (cc e)
no_bytes offset (b ∷ bytes) (inr e) = absurd (cc e)

rows_in_pieces : (number offset deepest : ℕ) (lines : List (List ℕ)) (rows : List Row) (bytes : List ℕ)
    → Rows number offset deepest lines rows → Feeds lines bytes → ArePieces offset bytes (tokens_of rows)
rows_in_pieces _ _ _ _ _ bytes (NoLine number offset deepest) feeds = no_bytes offset bytes feeds
rows_in_pieces _ _ _ _ _ bytes (Blank number offset deepest line lines rows few all blank others) feeds =
    let there = with_spaces line [] offset (nothing_there (offset + indent_of line) (behind_indent line) blank) in
    line_then offset line bytes lines [] (tokens_of rows) there all feeds
    (no_rows (number + 1) (offset + length line + 1) deepest lines rows others)
    (λ rest fed. rows_in_pieces (number + 1) (offset + length line + 1) deepest lines rows rest others fed)
rows_in_pieces _ _ _ _ _ bytes (Counts number offset deepest level line lines tokens rows few all counts twice le
    there others) feeds =
    let indented = subst (λ (n : ℕ). Tokens (offset + n) (behind_indent line) tokens) (sym twice) there in
    line_then offset line bytes lines tokens (tokens_of rows) (with_spaces line tokens offset indented) all feeds
    (no_rows (number + 1) (offset + length line + 1) (level + 1) lines rows others)
    (λ rest fed. rows_in_pieces (number + 1) (offset + length line + 1) (level + 1) lines rows rest others fed)

pub source_in_pieces : (source : List ℕ) (rows : List Row) → IsSource source rows → ArePieces 0 source (tokens_of rows)
source_in_pieces source rows is = rows_in_pieces 1 0 0 (lines_of source) rows source is.lines (lines_whole source).whole
