-- The operation of words that an operator of a chain is. The order of its operands does not matter.
use Rattle.std.proofs.Common.{◌≡◌, Bool, true, false, refl}
use Rattle.word_arithmetic.specs.declared.binary.Binary.{Binary}
use Rattle.word_arithmetic.specs.declared.binary.Binary.TheVariants as binary
use Rattle.occam_parser.specs.declared.tree.ChainOperator.{ChainOperator}
use Rattle.occam_parser.specs.declared.tree.ChainOperator.TheVariants as chain
use Rattle.occam_parser.specs.declared.tree.ArithmeticChain.TheVariants as arithmetic_chain
use Rattle.occam_parser.specs.declared.tree.Logic.TheVariants as logic
use Rattle.scalar_ranges.specs.Values.{operation_of}

-- A product that is a word is the one modulo 2^32.
abbrev pub word_operation : ChainOperator → Binary
word_operation (chain.Arithmetic arithmetic_chain.Multiply) = binary.Product
word_operation (chain.Arithmetic op) = operation_of op
word_operation (chain.Logic logic.And) = binary.And
word_operation (chain.Logic logic.Or) = binary.Or

-- operations with one result in either order
abbrev pub commutes : Binary → Bool
commutes binary.Add = true
commutes binary.Sum = true
commutes binary.Product = true
commutes binary.And = true
commutes binary.Or = true
commutes binary.ExclusiveOr = true
commutes op = false

pub chains_commute : (op : ChainOperator) → commutes (word_operation op) ≡ true
chains_commute (chain.Arithmetic arithmetic_chain.Add) = refl
chains_commute (chain.Logic logic.And) = refl
chains_commute op = refl
