-- What the grammar is written in: a token apart from its place in the source.
use Rattle.std.specs.Prelude.{ℕ, ℤ, List, map}
use Rattle.occam_layout.specs.Kind.{told_by}
use Rattle.occam_layout.specs.declared.token.Token.{Token}
use Rattle.occam_layout.specs.declared.token.TokenKind.{TokenKind}
use Rattle.occam_layout.specs.declared.mark.Mark as mark_type

pub data Terminal : Type 0 where
  Name : (spelling : List ℕ) → Terminal
  Integer : (value : ℤ) → Terminal
  Character : (byte : ℕ) → Terminal
  Text : (bytes : List ℕ) → Terminal
  Mark : (mark : mark_type.Mark) → Terminal

abbrev pub terminal_of : TokenKind → Terminal
terminal_of = told_by Name Integer Character Text Mark

abbrev pub terminals_of : List Token → List Terminal
terminals_of tokens = map (λ (t : Token). terminal_of t.kind) tokens
