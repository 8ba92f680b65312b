-- What is made of one operand with what is before it, and of two with what is between them.
use Rattle.std.specs.Prelude.{ℕ, Result}
use Rattle.occam_parser.specs.declared.tree.ValueType.{ValueType}
use Rattle.occam_parser.specs.declared.tree.PrefixOperator.{PrefixOperator}
use Rattle.occam_parser.specs.declared.tree.PairOperator.{PairOperator}
use Rattle.occam_parser.specs.declared.tree.ChainOperator.{ChainOperator}
use Rattle.scalar_ranges.specs.declared.operands.Before.{Before}
use Rattle.scalar_ranges.specs.declared.operands.Before.TheVariants as before
use Rattle.scalar_ranges.specs.declared.operands.Between.{Between}
use Rattle.scalar_ranges.specs.declared.operands.Between.TheVariants as between
use Rattle.scalar_ranges.specs.declared.types.ExprType.{ExprType}
use Rattle.scalar_ranges.specs.Types.{prefix_type, pair_type, chain_type, converted_type}
use Rattle.scalar_ranges.specs.Bounds.{Bound, prefix_bound, pair_bound, chain_bound, converted_bound}

abbrev pub by_before : {A : Type 0} → (PrefixOperator → A) → (ValueType → A) → Before → A
by_before prefixed converted (before.Operator op) = prefixed op
by_before prefixed converted (before.Conversion to) = converted to

abbrev pub by_between : {A : Type 0} → (PairOperator → A) → (ChainOperator → A) → Between → A
by_between paired chained (between.Pair op) = paired op
by_between paired chained (between.Chain op) = chained op

abbrev pub before_type : Before → ExprType → Result ExprType ℕ
before_type = by_before prefix_type converted_type

abbrev pub between_type : Between → ExprType → ExprType → Result ExprType ℕ
between_type = by_between pair_type chain_type

abbrev pub before_bound : Before → Bound → Result Bound ℕ
before_bound = by_before prefix_bound converted_bound

abbrev pub between_bound : Between → Bound → Bound → Result Bound ℕ
between_bound = by_between pair_bound chain_bound
