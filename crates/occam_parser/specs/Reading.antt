-- Reading an expression from left to right, on lists.
use Rattle.std.specs.Prelude.{◌≡◌, ℕ, zero, suc, Bool, true, false, List, [], ◌∷◌, ◌++◌, length}
use Rattle.std.specs.Prelude.{if◌then◌else◌, Option, Some, None, is_some, Result, Ok, Err}
use denote.Enum.Bare.{sameb}
use Rattle.occam_parser.specs.declared.fault.LineError.{LineError}
use Rattle.occam_parser.specs.declared.fault.LineError.TheVariants as errors
use Rattle.occam_layout.specs.declared.mark.Mark as mark_type
use Rattle.occam_layout.specs.declared.mark.Mark.TheVariants as mark
use Rattle.occam_layout.specs.contracts.mark.Mark as mark_contract
use Rattle.occam_parser.specs.declared.tree.ValueType.{ValueType}
use Rattle.occam_parser.specs.declared.tree.ValueType.TheVariants as value_type
use Rattle.occam_parser.specs.declared.tree.PrefixOperator.{PrefixOperator}
use Rattle.occam_parser.specs.declared.tree.PrefixOperator.TheVariants as prefix
use Rattle.occam_parser.specs.declared.tree.PairOperator.{PairOperator}
use Rattle.occam_parser.specs.declared.tree.PairOperator.TheVariants as pair
use Rattle.occam_parser.specs.declared.tree.ArithmeticPair.TheVariants as arithmetic_pair
use Rattle.word_arithmetic.specs.declared.compare.Comparison.TheVariants as comparison
use Rattle.occam_parser.specs.declared.tree.ChainOperator.{ChainOperator}
use Rattle.occam_parser.specs.declared.tree.ChainOperator.TheVariants as chain_operator
use Rattle.occam_parser.specs.declared.tree.ArithmeticChain.TheVariants as arithmetic_chain
use Rattle.occam_parser.specs.declared.tree.Logic.TheVariants as logic
use Rattle.occam_parser.specs.declared.front.Operator.{Operator}
use Rattle.occam_parser.specs.declared.front.Operator.TheVariants as operator
use Rattle.occam_parser.specs.Terminals.{Terminal, Name, Integer, Character, Text, Mark}
use Rattle.occam_parser.specs.OneOrMore.{OneOrMore}
use Rattle.occam_parser.specs.Expressions.{Expression, Alone, Prefixed, Paired, Chained, Terms, Two, Then, Term}
use Rattle.occam_parser.specs.Expressions.{Number, Byte, Truth, MostPos, MostNeg, Named, Element, Bracketed, Converted}

-- what is read from the front, and what is left, if it is there
abbrev pub Reads : Type 0 → Type 0
Reads A = List Terminal → Option (A × List Terminal)

infixl 10 ◌>>=◌
abbrev pub ◌>>=◌ : {A B : Type 0} → Option A → (A → Option B) → Option B
None >>= f = None
(Some x) >>= f = f x

-- ---- what a function of the program returned

-- Memory may always run out. Otherwise it is what reading gives; a fault is returned exactly if that is nothing.
abbrev pub Fails : {Y : Type 0} → LineError → Option Y → Type 0
Fails errors.Memory read = Unit {0}
Fails (errors.Fault fault) read = read ≡ None

abbrev pub Gives : {X Y : Type 0} → (X → Y) → Result X LineError → Option Y → Type 0
Gives view (Ok x) read = read ≡ Some (view x)
Gives view (Err e) read = Fails e read

-- the same of a function that takes no memory
abbrev pub Finds : {E X Y : Type 0} → (X → Y) → Result X E → Option Y → Type 0
Finds view (Ok x) read = read ≡ Some (view x)
Finds view (Err e) read = read ≡ None

-- ---- marks and operators

abbrev pub is_mark : mark_type.Mark → mark_type.Mark → Bool
is_mark found wanted = sameb mark_contract.the_type found wanted

unfoldable pub behind : mark_type.Mark → List Terminal → Option (List Terminal)
behind wanted [] = None
behind wanted (Mark found ∷ ts) = if is_mark found wanted then Some ts else None
behind wanted (t ∷ ts) = None

-- an operator that may be before an operand
unfoldable pub prefix_at : Reads PrefixOperator
prefix_at [] = None
prefix_at (Mark mark.BitNot ∷ ts) = Some (prefix.BitNot, ts)
prefix_at (Mark mark.Not ∷ ts) = Some (prefix.Not, ts)
prefix_at (Mark mark.Subtract ∷ ts) = Some (prefix.Negate, ts)
prefix_at (t ∷ ts) = None

-- the operator that a mark is between operands
abbrev pub operator_of : mark_type.Mark → Option Operator
operator_of mark.Subtract = Some (operator.Pair (pair.Arithmetic arithmetic_pair.Subtract))
operator_of mark.Divide = Some (operator.Pair (pair.Arithmetic arithmetic_pair.Divide))
operator_of mark.Remainder = Some (operator.Pair (pair.Arithmetic arithmetic_pair.Remainder))
operator_of mark.Minus = Some (operator.Pair (pair.Arithmetic arithmetic_pair.Minus))
operator_of mark.ShiftLeft = Some (operator.Pair (pair.Arithmetic arithmetic_pair.ShiftLeft))
operator_of mark.ShiftRight = Some (operator.Pair (pair.Arithmetic arithmetic_pair.ShiftRight))
operator_of mark.Equal = Some (operator.Pair (pair.Comparison comparison.Equal))
operator_of mark.NotEqual = Some (operator.Pair (pair.Comparison comparison.NotEqual))
operator_of mark.Less = Some (operator.Pair (pair.Comparison comparison.Less))
operator_of mark.Greater = Some (operator.Pair (pair.Comparison comparison.Greater))
operator_of mark.LessOrEqual = Some (operator.Pair (pair.Comparison comparison.LessOrEqual))
operator_of mark.GreaterOrEqual = Some (operator.Pair (pair.Comparison comparison.GreaterOrEqual))
operator_of mark.Add = Some (operator.Chain (chain_operator.Arithmetic arithmetic_chain.Add))
operator_of mark.Multiply = Some (operator.Chain (chain_operator.Arithmetic arithmetic_chain.Multiply))
operator_of mark.Plus = Some (operator.Chain (chain_operator.Arithmetic arithmetic_chain.Plus))
operator_of mark.Times = Some (operator.Chain (chain_operator.Arithmetic arithmetic_chain.Times))
operator_of mark.BitAnd = Some (operator.Chain (chain_operator.Arithmetic arithmetic_chain.BitAnd))
operator_of mark.BitOr = Some (operator.Chain (chain_operator.Arithmetic arithmetic_chain.BitOr))
operator_of mark.BitXor = Some (operator.Chain (chain_operator.Arithmetic arithmetic_chain.BitXor))
operator_of mark.And = Some (operator.Chain (chain_operator.Logic logic.And))
operator_of mark.Or = Some (operator.Chain (chain_operator.Logic logic.Or))
operator_of m = None

abbrev pub marked_by : mark_type.Mark → List Terminal → Option Operator
    → Option ((Operator × mark_type.Mark) × List Terminal)
marked_by m ts None = None
marked_by m ts (Some operator) = Some ((operator, m), ts)

-- the operator between operands that comes first, and its mark
unfoldable pub operator_at : Reads (Operator × mark_type.Mark)
operator_at [] = None
operator_at (Mark m ∷ ts) = marked_by m ts (operator_of m)
operator_at (t ∷ ts) = None

-- ---- operands and expressions

-- something, up to a mark
unfoldable pub up_to : {A : Type 0} → mark_type.Mark → Option (A × List Terminal) → Option (A × List Terminal)
up_to close read = do
  x ← read
  rest ← behind close x.1
  Some (x.0, rest)

abbrev pub named_behind : List ℕ → List Terminal → Reads Expression → Option (List Terminal)
    → Option (Term × List Terminal)
named_behind name ts inner None = Some (Named name, ts)
named_behind name ts inner (Some after) = do
  x ← up_to mark.CloseBracket (inner after)
  Some (Element name x.0, x.1)

unfoldable pub named : Reads Expression → List ℕ → Reads Term
named inner name ts = named_behind name ts inner (behind mark.OpenBracket ts)

unfoldable pub converted : Reads Term → ValueType → Reads Term
converted operand to ts = do
  x ← operand ts
  Some (Converted to x.0, x.1)

unfoldable pub marked : Reads Expression → Reads Term → mark_type.Mark → Reads Term
marked inner operand mark.True ts = Some (Truth true, ts)
marked inner operand mark.False ts = Some (Truth false, ts)
marked inner operand mark.MostPos ts = do
  rest ← behind mark.Int ts
  Some (MostPos, rest)
marked inner operand mark.MostNeg ts = do
  rest ← behind mark.Int ts
  Some (MostNeg, rest)
marked inner operand mark.Int ts = converted operand value_type.Int ts
marked inner operand mark.Byte ts = converted operand value_type.Byte ts
marked inner operand mark.OpenParenthesis ts = do
  x ← up_to mark.CloseParenthesis (inner ts)
  Some (Bracketed x.0, x.1)
marked inner operand m ts = None

-- an operand, from expressions and operands that are within it
unfoldable pub term_with : Reads Expression → Reads Term → Reads Term
term_with inner operand [] = None
term_with inner operand (Integer value ∷ ts) = Some (Number value, ts)
term_with inner operand (Character byte ∷ ts) = Some (Byte byte, ts)
term_with inner operand (Name name ∷ ts) = named inner name ts
term_with inner operand (Mark m ∷ ts) = marked inner operand m ts
term_with inner operand (Text bytes ∷ ts) = None

-- one more operand where the operator comes next
abbrev pub chain_step : Reads Term → (Terms → Reads Terms) → Terms → List Terminal → Option (List Terminal)
    → Option (Terms × List Terminal)
chain_step operand more terms ts None = Some (terms, ts)
chain_step operand more terms ts (Some after) = do
  x ← operand after
  more (Then terms x.0) x.1

-- Further operands, each after the mark of the operator. The number bounds the turns: the count of the terminals is
-- enough.
unfoldable pub chain_from : Reads Term → mark_type.Mark → ℕ → Terms → Reads Terms
chain_from operand m zero terms ts = Some (terms, ts)
chain_from operand m (suc n) terms ts = chain_step operand (chain_from operand m n) terms ts (behind m ts)

-- a chain after its first operand and the operator, which has this mark
unfoldable pub chain : Reads Term → ChainOperator → mark_type.Mark → Term → Reads Expression
chain operand operator m first ts = do
  x ← operand ts
  y ← chain_from operand m (length ts) (Two first x.0) x.1
  Some (Chained operator y.0, y.1)

-- a pair after its first operand and the operator
abbrev pub paired : Reads Term → PairOperator → Term → Reads Expression
paired operand operator first ts = do
  x ← operand ts
  Some (Paired operator first x.0, x.1)

abbrev pub with_operator : Reads Term → Term → Operator → mark_type.Mark → Reads Expression
with_operator operand first (operator.Pair op) m ts = paired operand op first ts
with_operator operand first (operator.Chain op) m ts = chain operand op m first ts

abbrev pub first_behind : Reads Term → Term → List Terminal → Option ((Operator × mark_type.Mark) × List Terminal)
    → Option (Expression × List Terminal)
first_behind operand first ts None = Some (Alone first, ts)
first_behind operand first ts (Some x) = with_operator operand first x.0.0 x.0.1 x.1

-- what follows a first operand
unfoldable pub after_first : Reads Term → Term → Reads Expression
after_first operand first ts = first_behind operand first ts (operator_at ts)

abbrev pub one_behind : Reads Term → List Terminal → Option (PrefixOperator × List Terminal)
    → Option (Expression × List Terminal)
one_behind operand ts None = do
  x ← operand ts
  after_first operand x.0 x.1
one_behind operand ts (Some p) = do
  x ← operand p.1
  Some (Prefixed p.0 x.0, x.1)

-- one operator with its operands, or an operand alone
unfoldable pub one_operator : Reads Term → Reads Expression
one_operator operand ts = one_behind operand ts (prefix_at ts)

-- what was read, unless another operator follows
abbrev pub alone : Option (Expression × List Terminal) → Option (Expression × List Terminal)
alone None = None
alone (Some x) = if is_some (operator_at x.1) then None else Some x

unfoldable pub expression_with : Reads Term → Reads Expression
expression_with operand ts = alone (one_operator operand ts)

abbrev pub nothing : {A : Type 0} → Reads A
nothing ts = None

-- What is one level down, where this number of levels is left.
unfoldable mutual
  pub inner_at : ℕ → Reads Expression
  inner_at zero = nothing
  inner_at (suc levels) = expression_with (term_with (inner_at levels) (operand_within levels))

  pub operand_within : ℕ → Reads Term
  operand_within zero = nothing
  operand_within (suc levels) = term_with (inner_at levels) (operand_within levels)

-- an operand with at most this number of levels in it
unfoldable pub term_at : ℕ → Reads Term
term_at levels = term_with (inner_at levels) (operand_within levels)

unfoldable pub expression_at : ℕ → Reads Expression
expression_at levels = expression_with (term_at levels)

-- ---- lists

-- one more item where a comma comes next
abbrev pub list_step : {A : Type 0} → Reads A → (List A → Reads (List A)) → List A → List Terminal
    → Option (List Terminal) → Option (List A × List Terminal)
list_step item more found ts None = Some (found, ts)
list_step item more found ts (Some after) = do
  x ← item after
  more (found ++ x.0 ∷ []) x.1

-- Further items, each after a comma. The number bounds the turns: the count of the terminals is enough.
unfoldable pub list_from : {A : Type 0} → Reads A → ℕ → List A → Reads (List A)
list_from item zero found ts = Some (found, ts)
list_from item (suc n) found ts = list_step item (list_from item n) found ts (behind mark.Comma ts)

-- items with commas between them
unfoldable pub list_of : {A : Type 0} → Reads A → Reads (OneOrMore A)
list_of item ts = do
  x ← item ts
  y ← list_from item (length ts) [] x.1
  Some (record { first = x.0; others = y.0 }, y.1)
