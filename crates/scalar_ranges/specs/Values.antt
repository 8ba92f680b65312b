-- What expressions mean: the number or the truth that an expression has in an environment, if it has one.
use Rattle.std.specs.Prelude.{ℕ, ℤ, pos, Bool, not, ◌&&◌, ◌||◌, if◌then◌else◌, Option, Some, None, option_map}
use Rattle.std.specs.Prelude.{option_and_then, unsigned_abs}
use Rattle.word_arithmetic.specs.Word.{least_word, greatest_word, word_not, shifted_left}
use Rattle.word_arithmetic.specs.Word.{shifted_right}
use Rattle.word_arithmetic.specs.Range.{Ends, in_range, zero_to}
use Rattle.word_arithmetic.specs.Binary.{computed}
use Rattle.word_arithmetic.specs.Comparison.{compares}
use Rattle.word_arithmetic.specs.declared.binary.Binary.{Binary}
use Rattle.word_arithmetic.specs.declared.binary.Binary.TheVariants as binary
use Rattle.occam_parser.specs.declared.tree.ValueType.{ValueType}
use Rattle.occam_parser.specs.declared.tree.PrefixOperator.TheVariants as prefix
use Rattle.occam_parser.specs.declared.tree.PairOperator.TheVariants as pair
use Rattle.occam_parser.specs.declared.tree.ArithmeticPair.{ArithmeticPair}
use Rattle.occam_parser.specs.declared.tree.ArithmeticPair.TheVariants as arithmetic
use Rattle.occam_parser.specs.declared.tree.ChainOperator.TheVariants as chain
use Rattle.occam_parser.specs.declared.tree.ArithmeticChain.{ArithmeticChain}
use Rattle.occam_parser.specs.declared.tree.ArithmeticChain.TheVariants as arithmetic_chain
use Rattle.occam_parser.specs.declared.tree.Logic.{Logic}
use Rattle.occam_parser.specs.declared.tree.Logic.TheVariants as logic
use Rattle.occam_parser.specs.Expressions.{Expression, Alone, Prefixed, Paired, Chained, Terms, Two, Then, Term}
use Rattle.occam_parser.specs.Expressions.{Number, Byte, Truth, MostPos, MostNeg, Named, Element, Bracketed, Converted}
use Rattle.scalar_ranges.specs.Entries.{type_range}
use Rattle.scalar_ranges.specs.Environments.{Environment, held_in, one_of, element_of}
use Rattle.scalar_ranges.specs.Steps.{both_some}

-- the operation of words that an operator is
abbrev pub operation_of : ArithmeticChain → Binary
operation_of arithmetic_chain.Add = binary.Add
operation_of arithmetic_chain.Multiply = binary.Multiply
operation_of arithmetic_chain.Plus = binary.Sum
operation_of arithmetic_chain.Times = binary.Product
operation_of arithmetic_chain.BitAnd = binary.And
operation_of arithmetic_chain.BitOr = binary.Or
operation_of arithmetic_chain.BitXor = binary.ExclusiveOr

-- the counts of bits by which a word can be shifted
abbrev pub counts : Ends
counts = zero_to (pos 31)

abbrev pub shifted : (ℤ → ℕ → ℤ) → ℤ → ℤ → Option ℤ
shifted shift x count = if in_range counts count then Some (shift x (unsigned_abs count)) else None

-- the operators that are signs are checked; those that are words compute modulo 2^32
abbrev pub pair_value : ArithmeticPair → ℤ → ℤ → Option ℤ
pair_value arithmetic.Subtract x y = computed binary.Subtract x y
pair_value arithmetic.Divide x y = computed binary.Divide x y
pair_value arithmetic.Remainder x y = computed binary.Remainder x y
pair_value arithmetic.Minus x y = computed binary.Difference x y
pair_value arithmetic.ShiftLeft x y = shifted shifted_left x y
pair_value arithmetic.ShiftRight x y = shifted shifted_right x y

abbrev pub chain_value : ArithmeticChain → ℤ → ℤ → Option ℤ
chain_value op x y = computed (operation_of op) x y

abbrev pub negated : ℤ → Option ℤ
negated x = computed binary.Subtract (pos 0) x

-- a number that is converted has to be one of the type
abbrev pub converted : ValueType → ℤ → Option ℤ
converted to x = if in_range (type_range to) x then Some x else None

abbrev pub logic_value : Logic → Bool → Bool → Option Bool
logic_value logic.And a b = Some (a && b)
logic_value logic.Or a b = Some (a || b)

abbrev mutual
  pub number_of : Environment → Expression → Option ℤ
  number_of env (Alone t) = number_of_term env t
  number_of env (Prefixed prefix.Negate t) = option_and_then negated (number_of_term env t)
  number_of env (Prefixed prefix.BitNot t) = option_map word_not (number_of_term env t)
  number_of env (Prefixed prefix.Not t) = None
  number_of env (Paired (pair.Arithmetic op) a b) =
      both_some (number_of_term env a) (number_of_term env b) (pair_value op)
  number_of env (Paired (pair.Comparison op) a b) = None
  number_of env (Chained (chain.Arithmetic op) ts) = number_of_terms env op ts
  number_of env (Chained (chain.Logic op) ts) = None

  -- a chain is read from the left
  pub number_of_terms : Environment → ArithmeticChain → Terms → Option ℤ
  number_of_terms env op (Two a b) = both_some (number_of_term env a) (number_of_term env b) (chain_value op)
  number_of_terms env op (Then ts t) = both_some (number_of_terms env op ts) (number_of_term env t) (chain_value op)

  pub number_of_term : Environment → Term → Option ℤ
  number_of_term env (Number value) = Some value
  number_of_term env (Byte byte) = Some (pos byte)
  number_of_term env (Truth holds) = None
  number_of_term env MostPos = Some greatest_word
  number_of_term env MostNeg = Some least_word
  number_of_term env (Named name) = one_of (held_in name env)
  number_of_term env (Element name e) = option_and_then (element_of (held_in name env)) (number_of env e)
  number_of_term env (Bracketed e) = number_of env e
  number_of_term env (Converted to t) = option_and_then (converted to) (number_of_term env t)

abbrev mutual
  pub truth_of : Environment → Expression → Option Bool
  truth_of env (Alone t) = truth_of_term env t
  truth_of env (Prefixed prefix.Negate t) = None
  truth_of env (Prefixed prefix.BitNot t) = None
  truth_of env (Prefixed prefix.Not t) = option_map not (truth_of_term env t)
  truth_of env (Paired (pair.Arithmetic op) a b) = None
  truth_of env (Paired (pair.Comparison op) a b) =
      both_some (number_of_term env a) (number_of_term env b) (λ x y. Some (compares op x y))
  truth_of env (Chained (chain.Arithmetic op) ts) = None
  truth_of env (Chained (chain.Logic op) ts) = truth_of_terms env op ts

  pub truth_of_terms : Environment → Logic → Terms → Option Bool
  truth_of_terms env op (Two a b) = both_some (truth_of_term env a) (truth_of_term env b) (logic_value op)
  truth_of_terms env op (Then ts t) = both_some (truth_of_terms env op ts) (truth_of_term env t) (logic_value op)

  pub truth_of_term : Environment → Term → Option Bool
  truth_of_term env (Truth holds) = Some holds
  truth_of_term env (Bracketed e) = truth_of env e
  truth_of_term env t = None
