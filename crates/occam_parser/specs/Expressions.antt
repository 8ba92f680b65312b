-- The tree of an expression, and how it is written. The operators and operands are those of the occam 2 reference
-- manual that this profile has; that a chain of one associative operator needs no brackets is our own choice.
use Rattle.std.specs.Prelude.{ℕ, ℤ, Bool, true, false, pred, ◌<◌, List, [], ◌∷◌, ◌++◌}
use Rattle.occam_layout.specs.declared.mark.Mark as mark_type
use Rattle.occam_layout.specs.declared.mark.Mark.TheVariants as mark
use Rattle.occam_parser.specs.declared.tree.ValueType.{ValueType}
use Rattle.occam_parser.specs.declared.tree.ValueType.TheVariants as value_type
use Rattle.occam_parser.specs.declared.tree.PrefixOperator.{PrefixOperator}
use Rattle.occam_parser.specs.declared.tree.PrefixOperator.TheVariants as prefix
use Rattle.occam_parser.specs.declared.tree.PairOperator.{PairOperator}
use Rattle.occam_parser.specs.declared.tree.PairOperator.TheVariants as pair
use Rattle.occam_parser.specs.declared.tree.ArithmeticPair.TheVariants as arithmetic_pair
use Rattle.word_arithmetic.specs.declared.compare.Comparison.TheVariants as comparison
use Rattle.occam_parser.specs.declared.tree.ChainOperator.{ChainOperator}
use Rattle.occam_parser.specs.declared.tree.ChainOperator.TheVariants as chain
use Rattle.occam_parser.specs.declared.tree.ArithmeticChain.TheVariants as arithmetic_chain
use Rattle.occam_parser.specs.declared.tree.Logic.TheVariants as logic
use Rattle.occam_parser.specs.declared.front.Operator as operator_type
use Rattle.occam_parser.specs.declared.front.Operator.TheVariants as operator
use Rattle.occam_parser.specs.Terminals.{Terminal, Name, Integer, Character, Mark}

mutual
  pub data Expression : Type 0 where
    Alone : (term : Term) → Expression
    Prefixed : (operator : PrefixOperator) → (term : Term) → Expression
    Paired : (operator : PairOperator) → (left right : Term) → Expression
    Chained : (operator : ChainOperator) → (terms : Terms) → Expression

  -- the operands of a chain, two at least, from the left: those before the last one belong together
  pub data Terms : Type 0 where
    Two : (first second : Term) → Terms
    Then : (terms : Terms) → (last : Term) → Terms

  pub data Term : Type 0 where
    Number : (value : ℤ) → Term
    Byte : (byte : ℕ) → Term
    Truth : (holds : Bool) → Term
    MostPos : Term
    MostNeg : Term
    Named : (name : List ℕ) → Term
    Element : (name : List ℕ) → (subscript : Expression) → Term
    Bracketed : (inner : Expression) → Term
    Converted : (to : ValueType) → (term : Term) → Term

abbrev pub prefix_sign : PrefixOperator → Terminal
prefix_sign prefix.Negate = Mark mark.Subtract
prefix_sign prefix.BitNot = Mark mark.BitNot
prefix_sign prefix.Not = Mark mark.Not

abbrev pub type_word : ValueType → Terminal
type_word value_type.Int = Mark mark.Int
type_word value_type.Byte = Mark mark.Byte

abbrev pub truth_word : Bool → Terminal
truth_word true = Mark mark.True
truth_word false = Mark mark.False

-- ---- the marks of operators

abbrev pub operator_mark : operator_type.Operator → mark_type.Mark
operator_mark (operator.Pair (pair.Arithmetic arithmetic_pair.Subtract)) = mark.Subtract
operator_mark (operator.Pair (pair.Arithmetic arithmetic_pair.Divide)) = mark.Divide
operator_mark (operator.Pair (pair.Arithmetic arithmetic_pair.Remainder)) = mark.Remainder
operator_mark (operator.Pair (pair.Arithmetic arithmetic_pair.Minus)) = mark.Minus
operator_mark (operator.Pair (pair.Arithmetic arithmetic_pair.ShiftLeft)) = mark.ShiftLeft
operator_mark (operator.Pair (pair.Arithmetic arithmetic_pair.ShiftRight)) = mark.ShiftRight
operator_mark (operator.Pair (pair.Comparison comparison.Equal)) = mark.Equal
operator_mark (operator.Pair (pair.Comparison comparison.NotEqual)) = mark.NotEqual
operator_mark (operator.Pair (pair.Comparison comparison.Less)) = mark.Less
operator_mark (operator.Pair (pair.Comparison comparison.Greater)) = mark.Greater
operator_mark (operator.Pair (pair.Comparison comparison.LessOrEqual)) = mark.LessOrEqual
operator_mark (operator.Pair (pair.Comparison comparison.GreaterOrEqual)) = mark.GreaterOrEqual
operator_mark (operator.Chain (chain.Arithmetic arithmetic_chain.Add)) = mark.Add
operator_mark (operator.Chain (chain.Arithmetic arithmetic_chain.Multiply)) = mark.Multiply
operator_mark (operator.Chain (chain.Arithmetic arithmetic_chain.Plus)) = mark.Plus
operator_mark (operator.Chain (chain.Arithmetic arithmetic_chain.Times)) = mark.Times
operator_mark (operator.Chain (chain.Arithmetic arithmetic_chain.BitAnd)) = mark.BitAnd
operator_mark (operator.Chain (chain.Arithmetic arithmetic_chain.BitOr)) = mark.BitOr
operator_mark (operator.Chain (chain.Arithmetic arithmetic_chain.BitXor)) = mark.BitXor
operator_mark (operator.Chain (chain.Logic logic.And)) = mark.And
operator_mark (operator.Chain (chain.Logic logic.Or)) = mark.Or

abbrev pub pair_mark : PairOperator → mark_type.Mark
pair_mark op = operator_mark (operator.Pair op)

abbrev pub chain_mark : ChainOperator → mark_type.Mark
chain_mark op = operator_mark (operator.Chain op)

-- ---- how a tree is written

abbrev mutual
  pub written : Expression → List Terminal
  written (Alone t) = written_term t
  written (Prefixed op t) = prefix_sign op ∷ written_term t
  written (Paired op a b) = written_term a ++ Mark (pair_mark op) ∷ written_term b
  written (Chained op ts) = written_terms op ts

  pub written_terms : ChainOperator → Terms → List Terminal
  written_terms op (Two a b) = written_term a ++ Mark (chain_mark op) ∷ written_term b
  written_terms op (Then ts t) = written_terms op ts ++ Mark (chain_mark op) ∷ written_term t

  pub written_term : Term → List Terminal
  written_term (Number value) = Integer value ∷ []
  written_term (Byte byte) = Character byte ∷ []
  written_term (Truth holds) = truth_word holds ∷ []
  written_term MostPos = Mark mark.MostPos ∷ Mark mark.Int ∷ []
  written_term MostNeg = Mark mark.MostNeg ∷ Mark mark.Int ∷ []
  written_term (Named name) = Name name ∷ []
  written_term (Element name e) = Name name ∷ Mark mark.OpenBracket ∷ written e ++ Mark mark.CloseBracket ∷ []
  written_term (Bracketed e) = Mark mark.OpenParenthesis ∷ written e ++ Mark mark.CloseParenthesis ∷ []
  written_term (Converted to t) = type_word to ∷ written_term t

-- at most n brackets, subscripts and conversions are nested
abbrev mutual
  pub Fits : Expression → ℕ → Type 0
  Fits (Alone t) n = FitsTerm t n
  Fits (Prefixed op t) n = FitsTerm t n
  Fits (Paired op a b) n = FitsTerm a n × FitsTerm b n
  Fits (Chained op ts) n = FitTerms ts n

  pub FitTerms : Terms → ℕ → Type 0
  FitTerms (Two a b) n = FitsTerm a n × FitsTerm b n
  FitTerms (Then ts t) n = FitTerms ts n × FitsTerm t n

  pub FitsTerm : Term → ℕ → Type 0
  FitsTerm (Number value) n = Unit {0}
  FitsTerm (Byte byte) n = Unit {0}
  FitsTerm (Truth holds) n = Unit {0}
  FitsTerm MostPos n = Unit {0}
  FitsTerm MostNeg n = Unit {0}
  FitsTerm (Named name) n = Unit {0}
  FitsTerm (Element name e) n = (0 < n) × Fits e (pred n)
  FitsTerm (Bracketed e) n = (0 < n) × Fits e (pred n)
  FitsTerm (Converted to t) n = (0 < n) × FitsTerm t (pred n)
