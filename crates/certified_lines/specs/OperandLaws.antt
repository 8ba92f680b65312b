-- What the code of operators leaves known, where the code of each operand leaves a number in a range.
use Rattle.std.specs.Prelude.{◌≡◌, ⊤, ℕ, ◌≤◌, ℤ, pos, Bool, false, List, [], ◌∷◌, ◌++◌, ◌&&◌, ◌||◌}
use Rattle.std.specs.Prelude.{if◌then◌else◌, Option, Some, None}
use Rattle.word_arithmetic.specs.Range as ranges
use Rattle.word_arithmetic.specs.Range.{Ends, IsRange, truths, not_range, difference_range, shift_left_range}
use Rattle.word_arithmetic.specs.Binary.{result_range}
use Rattle.word_arithmetic.specs.declared.binary.Binary.{Binary}
use Rattle.word_arithmetic.specs.declared.binary.Binary.TheVariants as binary
use Rattle.word_arithmetic.specs.declared.compare.Comparison.{Comparison}
use Rattle.occam_parser.specs.declared.tree.PrefixOperator.{PrefixOperator}
use Rattle.occam_parser.specs.declared.tree.PrefixOperator.TheVariants as prefix
use Rattle.occam_parser.specs.declared.tree.PairOperator.{PairOperator}
use Rattle.occam_parser.specs.declared.tree.PairOperator.TheVariants as pair
use Rattle.occam_parser.specs.declared.tree.ArithmeticPair.{ArithmeticPair}
use Rattle.occam_parser.specs.declared.tree.ArithmeticPair.TheVariants as arithmetic
use Rattle.occam_parser.specs.declared.tree.ChainOperator.{ChainOperator}
use Rattle.occam_parser.specs.declared.tree.ChainOperator.TheVariants as chain
use Rattle.occam_parser.specs.declared.tree.Logic.TheVariants as logic
use Rattle.machine_state.specs.declared.op.Op.TheVariants as ops
use Rattle.machine_state.specs.Instructions.{op_of}
use Rattle.scalar_ranges.specs.Bounds.{by_counts, right_range}
use Rattle.scalar_ranges.specs.Entries.{Entry}
use Rattle.scalar_ranges.specs.Values.{operation_of}
use Rattle.code_pieces.specs.Pieces.{Piece, operates, word_after}
use Rattle.line_pieces.specs.Expressions.{Operand, both, comes_last, pushed, pushes_of, pair_code, is_left_first}
use Rattle.line_pieces.specs.Expressions.{prefix_code, first_two, joined, added_by}
use Rattle.certified_lines.specs.StraightRules.{Setting, Told}
use Rattle.certified_lines.specs.Scopes.{Scene, HoldsScope, IsScope}
use Rattle.certified_lines.specs.Telling.{AreFromNowhere}
use Rattle.certified_lines.specs.Telling.{AreAllowed, PushedFact, PushedBoth, Tells, IsFree, OperandTells, keeps}

-- two operands, in order or in any order
abbrev pub BothTell : Type 0
BothTell = (g : Scene) (top t : ℕ) (es : List Entry) (in_order : Bool) (a b : Operand) (r s : Ends) (before : Told)
    → IsScope g top es → top ≤ t → IsFree t → OperandTells g es t a r → OperandTells g es t b s
    → AreAllowed g (both in_order (comes_last a.leaf b.small) t a b) → HoldsScope g es before.frame
    → PushedBoth g.setting (both in_order (comes_last a.leaf b.small) t a b) t in_order (keeps a b)
    (AreFromNowhere g.setting a b) r s before

-- and the operation of both, whose results have one range in either order where their order does not matter
abbrev pub OperationsTell : Type 0
OperationsTell = (g : Scene) (top t : ℕ) (es : List Entry) (in_order : Bool) (a b : Operand) (operation : ℤ)
    (op : Binary) (r s q : Ends) (before : Told) → IsScope g top es → top ≤ t → IsFree t → IsRange r → IsRange s
    → OperandTells g es t a r → OperandTells g es t b s → op_of operation ≡ Some (ops.Binary op)
    → result_range op r s ≡ Some q → (in_order ≡ false → result_range op s r ≡ Some q)
    → AreAllowed g (both in_order (comes_last a.leaf b.small) t a b ++ operates operation ∷ [])
    → HoldsScope g es before.frame
    → PushedFact g.setting (both in_order (comes_last a.leaf b.small) t a b ++ operates operation ∷ []) t false
    (keeps a b) q before

-- a constant is the only number of the range of an operand
abbrev pub IsOnly : Option ℤ → Ends → Type 0
IsOnly None r = ⊤
IsOnly (Some c) r = r ≡ ranges.constant c

-- the range of the results of an operator between two numbers
abbrev pub pair_range : ArithmeticPair → Ends → Ends → Option Ends
pair_range arithmetic.Subtract = result_range binary.Subtract
pair_range arithmetic.Divide = result_range binary.Divide
pair_range arithmetic.Remainder = result_range binary.Remainder
pair_range arithmetic.Minus = result_range binary.Difference
pair_range arithmetic.ShiftLeft = by_counts shift_left_range
pair_range arithmetic.ShiftRight = by_counts right_range

-- An operator between two numbers, where the second one may be a constant.
abbrev pub ArithmeticTells : Type 0
ArithmeticTells = (g : Scene) (top t : ℕ) (es : List Entry) (op : ArithmeticPair) (a b : Operand)
    (known constant : Option ℤ) (r s q : Ends) (before : Told) → IsScope g top es → top ≤ t → IsFree t → IsRange r
    → IsRange s → OperandTells g es t a r → OperandTells g es t b s → IsOnly constant s → pair_range op r s ≡ Some q
    → AreAllowed g (pushed (pushes_of (pair.Arithmetic op) known constant) t a b
    ++ pair_code (pair.Arithmetic op) known constant)
    → HoldsScope g es before.frame
    → PushedFact g.setting (pushed (pushes_of (pair.Arithmetic op) known constant) t a b
    ++ pair_code (pair.Arithmetic op) known constant) t false (a.small && b.leaf) q before

-- Whether what was in A is known below the result of an operator between two operands.
abbrev pub leaves_below : PairOperator → (a b : Operand) → Bool
leaves_below op a b = if is_left_first op then a.small && b.leaf else a.leaf && b.leaf

-- a comparison of two numbers, where each of them may be a constant, is 0 or 1
abbrev pub ComparisonsTell : Type 0
ComparisonsTell = (g : Scene) (top t : ℕ) (es : List Entry) (op : Comparison) (a b : Operand)
    (first second : Option ℤ) (r s : Ends) (before : Told) → IsScope g top es → top ≤ t → IsFree t → IsRange r
    → IsRange s → OperandTells g es t a r → OperandTells g es t b s → IsOnly first r → IsOnly second s
    → AreAllowed g (pushed (pushes_of (pair.Comparison op) first second) t a b
    ++ pair_code (pair.Comparison op) first second)
    → HoldsScope g es before.frame
    → PushedFact g.setting (pushed (pushes_of (pair.Comparison op) first second) t a b
    ++ pair_code (pair.Comparison op) first second) t false (leaves_below (pair.Comparison op) a b) truths before

-- what a prefix makes of a range; of truths it makes truths
abbrev pub prefix_range : PrefixOperator → Ends → Option Ends
prefix_range prefix.Negate r = result_range binary.Subtract (ranges.constant (pos 0)) r
prefix_range prefix.BitNot r = Some (not_range r)
prefix_range prefix.Not r = Some truths

abbrev pub PrefixesTell : Type 0
PrefixesTell = (g : Setting) (t : ℕ) (op : PrefixOperator) (ps : List Piece) (leaf small : Bool) (r q : Ends)
    (before : Told) → IsRange r → prefix_range op r ≡ Some q → PushedFact g ps t leaf small r before
    → PushedFact g (ps ++ prefix_code op) t false small q before

-- ---- chains

-- the range of what the operator of a chain makes of two ranges
abbrev pub chain_range : ChainOperator → Ends → Ends → Option Ends
chain_range (chain.Arithmetic op) = result_range (operation_of op)
chain_range (chain.Logic logic.And) = result_range binary.And
chain_range (chain.Logic logic.Or) = result_range binary.Or

-- the first two operands
abbrev pub FirstTwoTell : Type 0
FirstTwoTell = (g : Scene) (top t : ℕ) (es : List Entry) (op : ChainOperator) (a b : Operand) (constant : Option ℤ)
    (r s q : Ends) (before : Told) → IsScope g top es → top ≤ t → IsFree t → IsRange r → IsRange s
    → OperandTells g es t a r → OperandTells g es t b s → IsOnly constant s → chain_range op r s ≡ Some q
    → AreAllowed g (first_two t op (added_by op constant) a b) → HoldsScope g es before.frame
    → PushedFact g.setting (first_two t op (added_by op constant) a b) t false (a.small && b.leaf) q before

-- an operand more, whose code is where the next temporary is free
abbrev pub OneMoreTells : Type 0
OneMoreTells = (g : Scene) (top t : ℕ) (es : List Entry) (op : ChainOperator) (ps right : List Piece)
    (before_leaf before_small leaf small : Bool) (constant : Option ℤ) (r s q : Ends) (before : Told)
    → IsScope g top es → top ≤ t → IsFree t → IsRange r → IsRange s → Tells g es ps t before_leaf before_small r
    → Tells g es right (word_after t 1) leaf small s → IsOnly constant s → chain_range op r s ≡ Some q
    → AreAllowed g (ps ++ joined t op constant small right) → HoldsScope g es before.frame
    → PushedFact g.setting (ps ++ joined t op constant small right) t false ((before_small || before_leaf) && leaf) q
    before
