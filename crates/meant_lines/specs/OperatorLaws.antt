-- What the code of operators pushes, where the code of each operand pushes its value.
use Rattle.std.specs.Prelude.{◌≡◌, ⊤, ℕ, ◌≤◌, ℤ, Bool, false, List, [], ◌∷◌, ◌++◌, ◌&&◌, FitsSigned, Option, Some, None}
use Rattle.std.specs.Prelude.{if◌then◌else◌, pos, ◌||◌}
use Rattle.std.specs.Int.{w32}
use Rattle.std.specs.Ordering.{int_eq}
use Rattle.occam_parser.specs.declared.tree.PrefixOperator.{PrefixOperator}
use Rattle.occam_parser.specs.declared.tree.PrefixOperator.TheVariants as prefix
use Rattle.occam_parser.specs.declared.tree.PairOperator.{PairOperator}
use Rattle.occam_parser.specs.declared.tree.PairOperator.TheVariants as pair
use Rattle.occam_parser.specs.declared.tree.ArithmeticPair.{ArithmeticPair}
use Rattle.occam_parser.specs.declared.tree.ChainOperator.{ChainOperator}
use Rattle.occam_parser.specs.declared.tree.ChainOperator.TheVariants as chain
use Rattle.occam_parser.specs.declared.tree.Logic.{Logic}
use Rattle.occam_parser.specs.declared.tree.Logic.TheVariants as logic
use Rattle.scalar_ranges.specs.Values.{negated, pair_value, chain_value, logic_value}
use Rattle.scalar_ranges.specs.Entries.{Entry}
use Rattle.scalar_ranges.specs.Environments.{Environment, Meets}
use Rattle.word_arithmetic.specs.Word.{truth, word_not, word_and, word_or}
use Rattle.word_arithmetic.specs.Comparison.{compares}
use Rattle.word_arithmetic.specs.declared.compare.Comparison.{Comparison}
use Rattle.word_arithmetic.specs.Binary.{computed}
use Rattle.word_arithmetic.specs.declared.binary.Binary.{Binary}
use Rattle.code_pieces.specs.Pieces.{Piece, operates, word_after}
use Rattle.placed_code.specs.StraightPieces as pieces
use Rattle.line_pieces.specs.Expressions.{Operand, both, comes_last, pushed, pushes_of, pair_code}
use Rattle.line_pieces.specs.Expressions.{is_left_first, prefix_code, first_two, joined, added_by, chain_operation}
use Rattle.placed_code.specs.OperandsName.{IsBinary}
use Rattle.meant_lines.specs.Carrying.{Ground, Carries}
use Rattle.meant_lines.specs.Pushing.{AllStandOn, IsCounted, OperandPushes, Pushed, Pushes, PushedBoth}
use Rattle.meant_lines.specs.Pushing.{keeps}

-- two operands, in order or in any order
abbrev pub BothPush : Type 0
BothPush = (g : Ground) (top t : ℕ) (es : List Entry) (env : Environment) (in_order : Bool) (a b : Operand) (x y : ℤ)
    (h : pieces.Held) → Meets env es → top ≤ t → IsCounted t → FitsSigned w32 x → OperandPushes g top es env t a x
    → OperandPushes g top es env t b y → AllStandOn g (both in_order (comes_last a.leaf b.small) t a b)
    → Carries g top es env h.memory
    → PushedBoth g (both in_order (comes_last a.leaf b.small) t a b) t in_order (keeps a b) x y h

-- and the operation of both, which has the same result in either order where their order does not matter
abbrev pub OperationsPush : Type 0
OperationsPush = (g : Ground) (top t : ℕ) (es : List Entry) (env : Environment) (in_order : Bool) (a b : Operand)
    (operation : ℤ) (op : Binary) (x y v : ℤ) (h : pieces.Held) → Meets env es → top ≤ t → IsCounted t
    → FitsSigned w32 x → OperandPushes g top es env t a x → OperandPushes g top es env t b y → IsBinary operation op
    → computed op x y ≡ Some v → (in_order ≡ false → computed op y x ≡ Some v)
    → AllStandOn g (both in_order (comes_last a.leaf b.small) t a b ++ operates operation ∷ [])
    → Carries g top es env h.memory
    → Pushed g (both in_order (comes_last a.leaf b.small) t a b ++ operates operation ∷ []) t false (keeps a b) v h

-- a constant is the value of an operand
abbrev pub IsValue : Option ℤ → ℤ → Type 0
IsValue None v = ⊤
IsValue (Some c) v = c ≡ v

-- An operator between two numbers, where the second one may be a constant.
abbrev pub ArithmeticPushes : Type 0
ArithmeticPushes = (g : Ground) (top t : ℕ) (es : List Entry) (env : Environment) (op : ArithmeticPair) (a b : Operand)
    (known constant : Option ℤ) (x y v : ℤ) (h : pieces.Held) → Meets env es → top ≤ t → IsCounted t
    → FitsSigned w32 x → FitsSigned w32 y → OperandPushes g top es env t a x → OperandPushes g top es env t b y
    → IsValue constant y → pair_value op x y ≡ Some v
    → AllStandOn g (pushed (pushes_of (pair.Arithmetic op) known constant) t a b
    ++ pair_code (pair.Arithmetic op) known constant)
    → Carries g top es env h.memory
    → Pushed g (pushed (pushes_of (pair.Arithmetic op) known constant) t a b
    ++ pair_code (pair.Arithmetic op) known constant) t false (a.small && b.leaf) v h

-- Whether what was in A is below the result of an operator between two operands.
abbrev pub leaves_below : PairOperator → (a b : Operand) → Bool
leaves_below op a b = if is_left_first op then a.small && b.leaf else a.leaf && b.leaf

-- A comparison of two numbers, where each of them may be a constant, pushes 1 where it holds and 0 where it does not.
abbrev pub ComparisonsPush : Type 0
ComparisonsPush = (g : Ground) (top t : ℕ) (es : List Entry) (env : Environment) (op : Comparison) (a b : Operand)
    (first second : Option ℤ) (x y : ℤ) (h : pieces.Held) → Meets env es → top ≤ t → IsCounted t
    → FitsSigned w32 x → FitsSigned w32 y → OperandPushes g top es env t a x → OperandPushes g top es env t b y
    → IsValue first x → IsValue second y
    → AllStandOn g (pushed (pushes_of (pair.Comparison op) first second) t a b
    ++ pair_code (pair.Comparison op) first second)
    → Carries g top es env h.memory
    → Pushed g (pushed (pushes_of (pair.Comparison op) first second) t a b
    ++ pair_code (pair.Comparison op) first second) t false (leaves_below (pair.Comparison op) a b)
    (truth (compares op x y)) h

-- what a prefix makes of the number that its operand pushes
abbrev pub prefixed_value : PrefixOperator → ℤ → Option ℤ
prefixed_value prefix.Negate x = negated x
prefixed_value prefix.BitNot x = Some (word_not x)
prefixed_value prefix.Not x = Some (truth (int_eq x (pos 0)))

abbrev pub PrefixesPush : Type 0
PrefixesPush = (g : Ground) (t : ℕ) (op : PrefixOperator) (ps : List Piece) (leaf small : Bool) (x v : ℤ)
    (h : pieces.Held) → FitsSigned w32 x → prefixed_value op x ≡ Some v → Pushed g ps t leaf small x h
    → Pushed g (ps ++ prefix_code op) t false small v h

-- ---- chains

-- what the operator of a chain makes of the numbers that two operands push, truths among them
abbrev pub joined_value : ChainOperator → ℤ → ℤ → Option ℤ
joined_value (chain.Arithmetic op) x y = chain_value op x y
joined_value (chain.Logic logic.And) x y = Some (word_and x y)
joined_value (chain.Logic logic.Or) x y = Some (word_or x y)

-- Of truths it is that of the truth of both. The order of operands does not matter.
pub record ChainsAreOperations (op : ChainOperator) (x y v : ℤ) : Type 0 where
  pub operation : Binary
  pub named : IsBinary (chain_operation op) operation
  pub gives : computed operation x y ≡ Some v
  pub turned : computed operation y x ≡ Some v

abbrev pub ChainsCompute : Type 0
ChainsCompute = (op : ChainOperator) (x y v : ℤ) → FitsSigned w32 x → FitsSigned w32 y → joined_value op x y ≡ Some v
    → ChainsAreOperations op x y v

abbrev pub TruthsAreJoined : Type 0
TruthsAreJoined = (op : Logic) (p q b : Bool) → logic_value op p q ≡ Some b
    → joined_value (chain.Logic op) (truth p) (truth q) ≡ Some (truth b)

-- the first two operands
abbrev pub FirstTwoPush : Type 0
FirstTwoPush = (g : Ground) (top t : ℕ) (es : List Entry) (env : Environment) (op : ChainOperator) (a b : Operand)
    (constant : Option ℤ) (x y v : ℤ) (h : pieces.Held) → Meets env es → top ≤ t → IsCounted t → FitsSigned w32 x
    → FitsSigned w32 y → OperandPushes g top es env t a x → OperandPushes g top es env t b y → IsValue constant y
    → joined_value op x y ≡ Some v → AllStandOn g (first_two t op (added_by op constant) a b)
    → Carries g top es env h.memory
    → Pushed g (first_two t op (added_by op constant) a b) t false (a.small && b.leaf) v h

-- an operand more, whose code is where the next temporary is free
abbrev pub OneMorePushes : Type 0
OneMorePushes = (g : Ground) (top t : ℕ) (es : List Entry) (env : Environment) (op : ChainOperator)
    (ps right : List Piece) (before_leaf before_small leaf small : Bool) (constant : Option ℤ) (x y v : ℤ)
    (h : pieces.Held) → Meets env es → top ≤ t → IsCounted t → FitsSigned w32 x → FitsSigned w32 y
    → Pushes g top es env ps t before_leaf before_small x
    → Pushes g top es env right (word_after t 1) leaf small y
    → IsValue constant y → joined_value op x y ≡ Some v
    → AllStandOn g (ps ++ joined t op constant small right) → Carries g top es env h.memory
    → Pushed g (ps ++ joined t op constant small right) t false ((before_small || before_leaf) && leaf) v h
