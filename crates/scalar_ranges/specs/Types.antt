-- The types of expressions.
use Rattle.std.specs.Prelude.{ℕ, List, Option, Some, None, Result, Ok, Err}
use Rattle.occam_parser.specs.declared.tree.ValueType.{ValueType}
use Rattle.occam_parser.specs.declared.tree.ValueType.TheVariants as value_type
use Rattle.occam_parser.specs.declared.tree.PrefixOperator.{PrefixOperator}
use Rattle.occam_parser.specs.declared.tree.PrefixOperator.TheVariants as prefix
use Rattle.occam_parser.specs.declared.tree.PairOperator.{PairOperator}
use Rattle.occam_parser.specs.declared.tree.PairOperator.TheVariants as pair
use Rattle.occam_parser.specs.declared.tree.ChainOperator.{ChainOperator}
use Rattle.occam_parser.specs.declared.tree.ChainOperator.TheVariants as chain
use Rattle.occam_parser.specs.Expressions.{Expression, Terms, Term}
use Rattle.scalar_ranges.specs.Entries.{Meaning, Constant, Scalar, Array, Entry, meaning_in}
use Rattle.scalar_ranges.specs.declared.types.ExprType.{ExprType}
use Rattle.scalar_ranges.specs.declared.types.ExprType.TheVariants as types
use Rattle.scalar_ranges.specs.declared.types.TheConstants.{UNKNOWN_NAME, WRONG_TYPE}
use Rattle.scalar_ranges.specs.Steps.{both}
use Rattle.scalar_ranges.specs.Reading.{Reader, of_expression, of_terms, of_term}

abbrev pub type_of_values : ValueType → ExprType
type_of_values value_type.Int = types.Int
type_of_values value_type.Byte = types.Byte

-- a name alone is a scalar's
abbrev pub named_type : Option Meaning → Result ExprType ℕ
named_type None = Err UNKNOWN_NAME
named_type (Some (Constant type value)) = Ok (type_of_values type)
named_type (Some (Scalar kind type range)) = Ok (type_of_values type)
named_type (Some m) = Err WRONG_TYPE

-- a name with a subscript is an array's; of both faults an unknown name is the lower one
abbrev pub element_type : Option Meaning → Result ExprType ℕ
element_type None = Err UNKNOWN_NAME
element_type (Some (Array kind type size range)) = Ok (type_of_values type)
element_type (Some m) = Err WRONG_TYPE

abbrev pub subscripted : ExprType → ExprType → Result ExprType ℕ
subscripted array types.Int = Ok array
subscripted array t = Err WRONG_TYPE

abbrev pub prefix_type : PrefixOperator → ExprType → Result ExprType ℕ
prefix_type prefix.Negate types.Int = Ok types.Int
prefix_type prefix.BitNot types.Int = Ok types.Int
prefix_type prefix.Not types.Condition = Ok types.Condition
prefix_type op t = Err WRONG_TYPE

abbrev pub pair_type : PairOperator → ExprType → ExprType → Result ExprType ℕ
pair_type (pair.Arithmetic op) types.Int types.Int = Ok types.Int
pair_type (pair.Comparison op) types.Int types.Int = Ok types.Condition
pair_type (pair.Comparison op) types.Byte types.Byte = Ok types.Condition
pair_type op s t = Err WRONG_TYPE

abbrev pub chain_type : ChainOperator → ExprType → ExprType → Result ExprType ℕ
chain_type (chain.Arithmetic op) types.Int types.Int = Ok types.Int
chain_type (chain.Logic op) types.Condition types.Condition = Ok types.Condition
chain_type op s t = Err WRONG_TYPE

abbrev pub converted_type : ValueType → ExprType → Result ExprType ℕ
converted_type to types.Condition = Err WRONG_TYPE
converted_type to t = Ok (type_of_values to)

-- the types of the parts of an expression
abbrev pub types_in : List Entry → Reader ExprType
types_in es = record {
  number = λ value. types.Int;
  byte = λ byte. types.Byte;
  truth = λ holds. types.Condition;
  named = λ name. named_type (meaning_in name es);
  element = λ name subscript. both (element_type (meaning_in name es)) subscript subscripted;
  converted = converted_type;
  prefixed = prefix_type;
  paired = pair_type;
  chained = chain_type;
}

abbrev pub type_of : List Entry → Expression → Result ExprType ℕ
type_of es e = of_expression (types_in es) e

abbrev pub type_of_terms : List Entry → ChainOperator → Terms → Result ExprType ℕ
type_of_terms es op ts = of_terms (types_in es) op ts

abbrev pub type_of_term : List Entry → Term → Result ExprType ℕ
type_of_term es t = of_term (types_in es) t
