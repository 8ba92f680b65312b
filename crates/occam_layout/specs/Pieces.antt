-- A source in its pieces, of which no byte is left out. What a comment is, is the occam 2 reference manual's.
use Rattle.std.specs.Prelude.{◌≡◌, ℕ, ◌+◌, true, List, [], ◌∷◌, ◌++◌, length, Some}
use Rattle.std.specs.List.{list_all}
use Rattle.occam_layout.specs.Kind.{Kind}
use Rattle.occam_layout.specs.Reading.{is_character, begins_comment, Lexeme, Row}
use Rattle.occam_layout.specs.Tokens.{is_lexeme, meaning}

-- one space, one line feed, a comment, or a token in its spelling
pub data Piece : Type 0 where
  Space : Piece
  LineFeed : Piece
  Comment : List ℕ → Piece
  Spelled : Kind → List ℕ → Piece

-- pieces put together: a space is 32, a line feed 10
abbrev pub put_together : List Piece → List ℕ
put_together [] = []
put_together (Space ∷ pieces) = 32 ∷ put_together pieces
put_together (LineFeed ∷ pieces) = 10 ∷ put_together pieces
put_together (Comment text ∷ pieces) = text ++ put_together pieces
put_together (Spelled kind text ∷ pieces) = text ++ put_together pieces

-- the tokens among pieces that begin at an offset, each with the offsets where it begins and ends
abbrev pub tokens_among : ℕ → List Piece → List Lexeme
tokens_among offset [] = []
tokens_among offset (Space ∷ pieces) = tokens_among (offset + 1) pieces
tokens_among offset (LineFeed ∷ pieces) = tokens_among (offset + 1) pieces
tokens_among offset (Comment text ∷ pieces) = tokens_among (offset + length text) pieces
tokens_among offset (Spelled kind text ∷ pieces) =
    record { kind = kind; start = offset; end = offset + length text } ∷ tokens_among (offset + length text) pieces

-- these pieces follow the last byte of a line
abbrev pub FollowLine : List Piece → Type 0
FollowLine [] = Unit {0}
FollowLine (LineFeed ∷ pieces) = Unit {0}
FollowLine (Space ∷ pieces) = ⊥
FollowLine (Comment text ∷ pieces) = ⊥
FollowLine (Spelled kind text ∷ pieces) = ⊥

-- Each piece is what it is called: a comment begins with two dashes and goes on to the end of its line, a token is
-- what its bytes denote. Neither holds a line feed.
abbrev pub AreSound : List Piece → Type 0
AreSound [] = Unit {0}
AreSound (Space ∷ pieces) = AreSound pieces
AreSound (LineFeed ∷ pieces) = AreSound pieces
AreSound (Comment text ∷ pieces) = (begins_comment text ≡ true) × (list_all is_character text ≡ true) × FollowLine
    pieces × AreSound pieces
AreSound (Spelled kind text ∷ pieces) = (is_lexeme text ≡ true) × (meaning text ≡ Some kind) ×
    (list_all is_character text ≡ true) × AreSound pieces

-- Bytes that begin at an offset are pieces put together, and these are all the tokens among the pieces.
pub record ArePieces (offset : ℕ) (bytes : List ℕ) (tokens : List Lexeme) : Type 0 where
  pub pieces : List Piece
  pub sound : AreSound pieces
  pub together : put_together pieces ≡ bytes
  pub among : tokens_among offset pieces ≡ tokens

-- the tokens of rows, in their order
abbrev pub tokens_of : List Row → List Lexeme
tokens_of [] = []
tokens_of (row ∷ rows) = row.tokens ++ tokens_of rows
