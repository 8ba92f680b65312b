-- How far a line goes on as an expression.
use Rattle.std.specs.Prelude.{ℕ, zero, suc, List, [], ◌∷◌, length, if◌then◌else◌, Option, Some, None, is_some}
use Rattle.std.specs.Prelude.{option_map, Result, Ok}
use Rattle.occam_layout.specs.declared.mark.Mark as mark_type
use Rattle.occam_layout.specs.declared.mark.Mark.TheVariants as mark
use Rattle.occam_parser.specs.Terminals.{Terminal, Name, Integer, Character, Text, Mark}
use Rattle.occam_parser.specs.Reading.{behind}
use Rattle.reason_texts.specs.declared.expressions.Joint.{Joint}
use Rattle.reason_texts.specs.declared.expressions.Joint.TheVariants.{Pair, Chain}
use Rattle.reason_texts.specs.declared.stuck.Wanted.TheVariants as wanted
use Rattle.reason_texts.specs.declared.stuck.Lack.TheVariants.{Token as Wants, Nesting, Mixture}
use Rattle.reason_texts.specs.declared.stuck.Stuck.{Stuck}
use Rattle.reason_texts.specs.Stuck.{Past, lacking, ◌then◌, past_mark}

-- what a mark is between operands
abbrev pub joint_of : mark_type.Mark → Option Joint
joint_of mark.Subtract = Some Pair
joint_of mark.Divide = Some Pair
joint_of mark.Remainder = Some Pair
joint_of mark.Minus = Some Pair
joint_of mark.ShiftLeft = Some Pair
joint_of mark.ShiftRight = Some Pair
joint_of mark.Equal = Some Pair
joint_of mark.NotEqual = Some Pair
joint_of mark.Less = Some Pair
joint_of mark.Greater = Some Pair
joint_of mark.LessOrEqual = Some Pair
joint_of mark.GreaterOrEqual = Some Pair
joint_of mark.Add = Some (Chain mark.Add)
joint_of mark.Multiply = Some (Chain mark.Multiply)
joint_of mark.Plus = Some (Chain mark.Plus)
joint_of mark.Times = Some (Chain mark.Times)
joint_of mark.BitAnd = Some (Chain mark.BitAnd)
joint_of mark.BitOr = Some (Chain mark.BitOr)
joint_of mark.BitXor = Some (Chain mark.BitXor)
joint_of mark.And = Some (Chain mark.And)
joint_of mark.Or = Some (Chain mark.Or)
joint_of m = None

-- the operator between operands that comes first
unfoldable pub joint_at : List Terminal → Option (Joint × List Terminal)
joint_at [] = None
joint_at (Mark m ∷ ts) = option_map (λ joint. (joint, ts)) (joint_of m)
joint_at (t ∷ ts) = None

-- what follows an operator that may be before an operand
unfoldable pub prefix_at : List Terminal → Option (List Terminal)
prefix_at [] = None
prefix_at (Mark mark.BitNot ∷ ts) = Some ts
prefix_at (Mark mark.Not ∷ ts) = Some ts
prefix_at (Mark mark.Subtract ∷ ts) = Some ts
prefix_at (t ∷ ts) = None

-- an operand that begins with a mark, from expressions up to a closing mark and operands that are within it
unfoldable pub past_marked : (mark_type.Mark → Past) → Past → mark_type.Mark → List Terminal → Past
past_marked inner operand mark.True ts rest = Ok rest
past_marked inner operand mark.False ts rest = Ok rest
past_marked inner operand mark.MostPos ts rest = past_mark mark.Int rest
past_marked inner operand mark.MostNeg ts rest = past_mark mark.Int rest
past_marked inner operand mark.Int ts rest = operand rest
past_marked inner operand mark.Byte ts rest = operand rest
past_marked inner operand mark.OpenParenthesis ts rest = inner mark.CloseParenthesis rest
past_marked inner operand mark.Subtract ts rest = lacking Mixture ts
past_marked inner operand mark.BitNot ts rest = lacking Mixture ts
past_marked inner operand mark.Not ts rest = lacking Mixture ts
past_marked inner operand m ts rest = lacking (Wants wanted.Operand) ts

abbrev pub subscript_or : Past → List Terminal → Option (List Terminal) → Result (List Terminal) Stuck
subscript_or inner ts None = Ok ts
subscript_or inner ts (Some after) = inner after

unfoldable pub operand_with : (mark_type.Mark → Past) → Past → Past
operand_with inner operand [] = lacking (Wants wanted.Operand) []
operand_with inner operand (Integer value ∷ ts) = Ok ts
operand_with inner operand (Character byte ∷ ts) = Ok ts
operand_with inner operand (Name name ∷ ts) = subscript_or (inner mark.CloseBracket) ts (behind mark.OpenBracket ts)
operand_with inner operand (Mark m ∷ ts) = past_marked inner operand m (Mark m ∷ ts) ts
operand_with inner operand (Text bytes ∷ ts) = lacking (Wants wanted.Operand) (Text bytes ∷ ts)

-- one more item where a mark comes next
abbrev pub more_or : Past → Past → List Terminal → Option (List Terminal) → Result (List Terminal) Stuck
more_or item more ts None = Ok ts
more_or item more ts (Some after) = item after then more

-- Further items, each after a mark. The number bounds the turns: the count of the terminals is enough.
unfoldable pub past_more : Past → mark_type.Mark → ℕ → Past
past_more item m zero ts = Ok ts
past_more item m (suc n) ts = more_or item (past_more item m n) ts (behind m ts)

-- items with a mark between them
unfoldable pub past_chain : Past → mark_type.Mark → Past
past_chain item m ts = item ts then λ rest. past_more item m (length rest) rest

abbrev pub joint_or : Past → List Terminal → Option (Joint × List Terminal) → Result (List Terminal) Stuck
joint_or operand ts None = Ok ts
joint_or operand ts (Some (Pair, rest)) = operand rest
joint_or operand ts (Some (Chain m, rest)) = past_chain operand m rest

-- what follows a first operand
unfoldable pub after_first : Past → Past
after_first operand ts = joint_or operand ts (joint_at ts)

abbrev pub prefix_or : Past → List Terminal → Option (List Terminal) → Result (List Terminal) Stuck
prefix_or operand ts None = operand ts then after_first operand
prefix_or operand ts (Some rest) = operand rest

-- one operator with its operands, or an operand alone
unfoldable pub one_operator : Past → Past
one_operator operand ts = prefix_or operand ts (prefix_at ts)

-- no other operator may follow
abbrev pub alone : Past
alone ts = if is_some (joint_at ts) then lacking Mixture ts else Ok ts

unfoldable pub expression_with : Past → Past
expression_with operand ts = one_operator operand ts then alone

-- What is one level down, where this number of levels is left.
unfoldable mutual
  pub past_inner : ℕ → mark_type.Mark → Past
  past_inner zero close ts = lacking Nesting ts
  past_inner (suc levels) close ts =
      expression_with (operand_with (past_inner levels) (past_within levels)) ts then past_mark close

  pub past_within : ℕ → Past
  past_within zero ts = lacking Nesting ts
  past_within (suc levels) ts = operand_with (past_inner levels) (past_within levels) ts

-- an operand with at most this number of levels in it
unfoldable pub past_operand : ℕ → Past
past_operand levels ts = operand_with (past_inner levels) (past_within levels) ts

unfoldable pub past_expression : ℕ → Past
past_expression levels ts = expression_with (past_operand levels) ts
