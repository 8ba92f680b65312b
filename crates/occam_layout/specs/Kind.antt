-- What a token is, apart from where it is in memory.
use Rattle.std.specs.Prelude.{ℕ, ℤ, Bool, List, [], ◌∷◌, length, map, filter, ◌==◌, codes, bytes_eq, unwrap_or, Option}
use Rattle.std.specs.Prelude.{Some}
use Rattle.std.specs.Prelude.{None, if◌then◌else◌}
use Rattle.std.specs.List.{list_any}
use Rattle.occam_layout.specs.Characters.{decoded}
use Rattle.occam_layout.specs.declared.mark.Mark as mark_type
use Rattle.occam_layout.specs.declared.mark.Mark.TheVariants as mark
use Rattle.occam_layout.specs.declared.text.Text as text
use Rattle.occam_layout.specs.declared.token.TokenKind.{TokenKind}
use Rattle.occam_layout.specs.declared.token.TokenKind.TheVariants as token

-- a name or a literal by what it denotes, a keyword or a sign by its spelling
pub data Kind : Type 0 where
  Mark : (spelling : List ℕ) → Kind
  Name : (spelling : List ℕ) → Kind
  Integer : (value : ℤ) → Kind
  Character : (byte : ℕ) → Kind
  Text : (bytes : List ℕ) → Kind

abbrev pub spelling : mark_type.Mark → List ℕ
spelling mark.Val = codes "VAL"
spelling mark.Is = codes "IS"
spelling mark.Int = codes "INT"
spelling mark.Byte = codes "BYTE"
spelling mark.Proc = codes "PROC"
spelling mark.Chan = codes "CHAN"
spelling mark.Of = codes "OF"
spelling mark.Skip = codes "SKIP"
spelling mark.Stop = codes "STOP"
spelling mark.Seq = codes "SEQ"
spelling mark.Par = codes "PAR"
spelling mark.If = codes "IF"
spelling mark.Alt = codes "ALT"
spelling mark.For = codes "FOR"
spelling mark.MostPos = codes "MOSTPOS"
spelling mark.MostNeg = codes "MOSTNEG"
spelling mark.Plus = codes "PLUS"
spelling mark.Minus = codes "MINUS"
spelling mark.Times = codes "TIMES"
spelling mark.And = codes "AND"
spelling mark.Or = codes "OR"
spelling mark.Not = codes "NOT"
spelling mark.True = codes "TRUE"
spelling mark.False = codes "FALSE"
spelling mark.Assign = codes ":="
spelling mark.BitAnd = codes "/\\"
spelling mark.BitOr = codes "\\/"
spelling mark.BitXor = codes "><"
spelling mark.ShiftLeft = codes "<<"
spelling mark.ShiftRight = codes ">>"
spelling mark.NotEqual = codes "<>"
spelling mark.LessOrEqual = codes "<="
spelling mark.GreaterOrEqual = codes ">="
spelling mark.Colon = codes ":"
spelling mark.Comma = codes ","
spelling mark.OpenParenthesis = codes "("
spelling mark.CloseParenthesis = codes ")"
spelling mark.OpenBracket = codes "["
spelling mark.CloseBracket = codes "]"
spelling mark.Input = codes "?"
spelling mark.Output = codes "!"
spelling mark.Guard = codes "&"
spelling mark.Add = codes "+"
spelling mark.Subtract = codes "-"
spelling mark.Multiply = codes "*"
spelling mark.Divide = codes "/"
spelling mark.Remainder = codes "\\"
spelling mark.BitNot = codes "~"
spelling mark.Equal = codes "="
spelling mark.Less = codes "<"
spelling mark.Greater = codes ">"

-- the words that are no names: those of the occam 2 reference manual that this profile has, our own choice
abbrev pub keywords : List (List ℕ)
keywords = map spelling (
    mark.Val ∷ mark.Is ∷ mark.Int ∷ mark.Byte ∷ mark.Proc ∷ mark.Chan ∷ mark.Of ∷ mark.Skip ∷ mark.Stop ∷ mark.Seq ∷
    mark.Par ∷ mark.If ∷ mark.Alt ∷ mark.For ∷ mark.MostPos ∷ mark.MostNeg ∷ mark.Plus ∷ mark.Minus ∷ mark.Times ∷
    mark.And ∷ mark.Or ∷ mark.Not ∷ mark.True ∷ mark.False ∷ []
    )

-- the operators and the other signs, from the same manual
abbrev pub signs : List (List ℕ)
signs = map spelling (
    mark.Assign ∷ mark.BitAnd ∷ mark.BitOr ∷ mark.BitXor ∷ mark.ShiftLeft ∷ mark.ShiftRight ∷ mark.NotEqual ∷
    mark.LessOrEqual ∷ mark.GreaterOrEqual ∷ mark.Colon ∷ mark.Comma ∷ mark.OpenParenthesis ∷
    mark.CloseParenthesis ∷ mark.OpenBracket ∷ mark.CloseBracket ∷ mark.Input ∷ mark.Output ∷ mark.Guard ∷
    mark.Add ∷ mark.Subtract ∷ mark.Multiply ∷ mark.Divide ∷ mark.Remainder ∷ mark.BitNot ∷ mark.Equal ∷ mark.Less ∷
    mark.Greater ∷ []
    )

abbrev pub is_sign : List ℕ → Bool
is_sign text = list_any (bytes_eq text) signs

-- the bytes that a string denotes
abbrev pub bytes_of : text.Text → List ℕ
bytes_of t = unwrap_or (decoded 0 t.spelling.now) []

abbrev pub marked : mark_type.Mark → Kind
marked m = Mark (spelling m)

-- what a token of the program is, each case by what it denotes
abbrev pub told_by : {A : Type 0} → (name : List ℕ → A) → (integer : ℤ → A) → (character : ℕ → A) → (text : List ℕ → A)
    → (mark : mark_type.Mark → A) → TokenKind → A
told_by name integer character text mark (token.Name spelling) = name spelling.now
told_by name integer character text mark (token.Integer value) = integer value
told_by name integer character text mark (token.Character byte) = character byte
told_by name integer character text mark (token.Text string) = text (bytes_of string)
told_by name integer character text mark (token.Mark m) = mark m

abbrev pub kind_of : TokenKind → Kind
kind_of = told_by Name Integer Character Text marked

-- the keyword that is spelled so, if it is among these
abbrev pub keyword_among : List (List ℕ) → List ℕ → Option Kind
keyword_among words text = if list_any (bytes_eq text) words then Some (Mark text) else None

abbrev pub keywords_of_len : ℕ → List (List ℕ)
keywords_of_len n = filter (λ word. length word == n) keywords

-- the sign that is spelled so, if one is
abbrev pub sign_of : List ℕ → Option Kind
sign_of text = if is_sign text then Some (Mark text) else None
