-- The code of expressions: it pushes the value. Of the registers it keeps at most A, below the value, if it is small.
use Rattle.std.specs.Prelude.{ℕ, ◌+◌, ◌/◌, ◌%◌, nat_eq, nat_le, int_le, ℤ, pos, unsigned_abs, Bool, true, false, List}
use Rattle.std.specs.Prelude.{[]}
use Rattle.std.specs.Prelude.{◌∷◌, ◌++◌, if◌then◌else◌, not, ◌&&◌, Option, Some, None, Result, Ok, Err}
use Rattle.std.specs.Ordering.{int_eq}
use Rattle.prefix_decoder.specs.declared.function.Fun.TheVariants as fun
use Rattle.word_arithmetic.specs.Word.{least_word, greatest_word, checked_sum, checked_difference}
use Rattle.word_arithmetic.specs.Range.{Ends}
use Rattle.word_arithmetic.specs.declared.compare.Comparison.{Comparison}
use Rattle.word_arithmetic.specs.declared.compare.Comparison.TheVariants as comparison
use Rattle.occam_parser.specs.declared.tree.ValueType.{ValueType}
use Rattle.occam_parser.specs.declared.tree.ValueType.TheVariants as value_type
use Rattle.occam_parser.specs.declared.tree.PrefixOperator.{PrefixOperator}
use Rattle.occam_parser.specs.declared.tree.PrefixOperator.TheVariants as prefix
use Rattle.occam_parser.specs.declared.tree.PairOperator.{PairOperator}
use Rattle.occam_parser.specs.declared.tree.PairOperator.TheVariants as pair
use Rattle.occam_parser.specs.declared.tree.ArithmeticPair.{ArithmeticPair}
use Rattle.occam_parser.specs.declared.tree.ArithmeticPair.TheVariants as arithmetic
use Rattle.occam_parser.specs.declared.tree.ChainOperator.{ChainOperator}
use Rattle.occam_parser.specs.declared.tree.ChainOperator.TheVariants as chain
use Rattle.occam_parser.specs.declared.tree.ArithmeticChain.TheVariants as arithmetic_chain
use Rattle.occam_parser.specs.declared.tree.Logic.TheVariants as logic
use Rattle.occam_parser.specs.Expressions.{Expression, Alone, Prefixed, Paired, Chained, Terms, Two, Then, Term}
use Rattle.occam_parser.specs.Expressions.{Number, Byte, Truth, MostPos, MostNeg, Named, Element, Bracketed, Converted}
use Rattle.scalar_ranges.specs.declared.scope.ScalarKind.TheVariants as kinds
use Rattle.scalar_ranges.specs.Entries.{Meaning, Scalar, Array, Entry, meaning_in}
use Rattle.scalar_ranges.specs.Bounds.{bound_of, bound_of_term, exact_value, range_found}
use Rattle.scalar_ranges.specs.Fronts.{Front, count_of, front_in}
use Rattle.code_pieces.specs.declared.operations.TheConstants.{LOAD_BYTE, BYTE_SUBSCRIPT, DIFFERENCE, ADD}
use Rattle.code_pieces.specs.declared.operations.TheConstants.{PRODUCT, GREATER, WORD_SUBSCRIPT, SUBTRACT}
use Rattle.code_pieces.specs.declared.operations.TheConstants.{REMAINDER, DIVIDE, NOT, EXCLUSIVE_OR, SHIFT_RIGHT}
use Rattle.code_pieces.specs.declared.operations.TheConstants.{SHIFT_LEFT, AND, OR, SUM, REVERSE}
use Rattle.line_pieces.specs.declared.expressions.Pushes.{Pushes}
use Rattle.line_pieces.specs.declared.expressions.Pushes.TheVariants as pushes
use Rattle.code_pieces.specs.Pieces.{Piece, Direct, TableAddress, operates, loads, stores, points, constant}
use Rattle.code_pieces.specs.Pieces.{word_after}
use Rattle.line_pieces.specs.Homes.{Home, Word, Block, Table, Passed, home_of}

-- ---- operations

abbrev pub pair_operation : ArithmeticPair → ℤ
pair_operation arithmetic.Subtract = SUBTRACT
pair_operation arithmetic.Divide = DIVIDE
pair_operation arithmetic.Remainder = REMAINDER
pair_operation arithmetic.Minus = DIFFERENCE
pair_operation arithmetic.ShiftLeft = SHIFT_LEFT
pair_operation arithmetic.ShiftRight = SHIFT_RIGHT

-- In a checked program no product of `*` leaves the range of a word. So it is that of `TIMES`, whose code is shorter.
abbrev pub chain_operation : ChainOperator → ℤ
chain_operation (chain.Arithmetic arithmetic_chain.Add) = ADD
chain_operation (chain.Arithmetic arithmetic_chain.Multiply) = PRODUCT
chain_operation (chain.Arithmetic arithmetic_chain.Plus) = SUM
chain_operation (chain.Arithmetic arithmetic_chain.Times) = PRODUCT
chain_operation (chain.Arithmetic arithmetic_chain.BitAnd) = AND
chain_operation (chain.Arithmetic arithmetic_chain.BitOr) = OR
chain_operation (chain.Arithmetic arithmetic_chain.BitXor) = EXCLUSIVE_OR
chain_operation (chain.Logic logic.And) = AND
chain_operation (chain.Logic logic.Or) = OR

-- A becomes the truth that it is not
abbrev pub negates : Piece
negates = Direct fun.EqualsConstant (pos 0)

abbrev pub prefix_code : PrefixOperator → List Piece
prefix_code prefix.Negate = operates NOT ∷ Direct fun.AddConstant (pos 1) ∷ []
prefix_code prefix.BitNot = operates NOT ∷ []
prefix_code prefix.Not = negates ∷ []

-- ---- operands

-- the value of a constant in place of the code that would compute it
abbrev pub constant_or : Option ℤ → List Piece → List Piece
constant_or None code = code
constant_or (Some v) code = constant v ∷ []

-- the one number that a range has, if it has one alone
abbrev pub single : Result Ends ℕ → Option ℤ
single (Ok r) = if int_eq r.lo r.hi then Some r.lo else None
single (Err e) = None

-- a parameter that is a BYTE variable: what is beside its byte is not known
abbrev pub is_byte_reference : Option Meaning → Bool
is_byte_reference (Some (Scalar kinds.Reference value_type.Byte range)) = true
is_byte_reference m = false

abbrev pub scalar_code : Bool → Option Home → List Piece
scalar_code true (Some (Passed w)) = points w ∷ operates LOAD_BYTE ∷ []
scalar_code false (Some (Passed w)) = loads w ∷ []
scalar_code reference (Some (Word w)) = loads w ∷ []
scalar_code reference (Some (Block w head)) = loads w ∷ []
scalar_code reference h = []

abbrev pub is_known : Option ℤ → Bool
is_known None = false
is_known (Some v) = true

-- constants, and scalars but for BYTE variables that are parameters
abbrev pub is_pushed : Option Meaning → Bool
is_pushed (Some (Scalar kinds.Reference value_type.Byte range)) = false
is_pushed m = true

-- whether an operand is one push
abbrev mutual
  pub is_leaf : List Entry → Expression → Bool
  is_leaf es (Alone x) = is_leaf_term es x
  is_leaf es (Prefixed op x) = is_known (exact_value (bound_of es (Prefixed op x)))
  is_leaf es (Paired op x y) = is_known (exact_value (bound_of es (Paired op x y)))
  is_leaf es (Chained op xs) = is_known (exact_value (bound_of es (Chained op xs)))

  pub is_leaf_term : List Entry → Term → Bool
  is_leaf_term es (Number value) = true
  is_leaf_term es (Byte byte) = true
  is_leaf_term es (Truth holds) = true
  is_leaf_term es MostPos = true
  is_leaf_term es MostNeg = true
  is_leaf_term es (Named name) = is_pushed (meaning_in name es)
  is_leaf_term es (Element name e) = false
  is_leaf_term es (Bracketed e) = is_leaf es e
  is_leaf_term es (Converted to x) = is_leaf_term es x

abbrev pub are_leaves : List Entry → List Term → Bool
are_leaves es [] = true
are_leaves es (x ∷ xs) = is_leaf_term es x && are_leaves es xs

-- Whether nothing is pushed before the left operand of an operator between two, whatever both are.
abbrev pub is_left_first : PairOperator → Bool
is_left_first (pair.Arithmetic op) = true
is_left_first (pair.Comparison comparison.Greater) = true
is_left_first (pair.Comparison comparison.Equal) = true
is_left_first (pair.Comparison comparison.NotEqual) = true
is_left_first (pair.Comparison op) = false

-- Whether an operand takes two registers at most. Then what is pushed before it may stay in the third one. So is an
-- element, if its subscript takes no more: below the address of the array is the subscript alone.
abbrev mutual
  pub is_small : List Entry → Expression → Bool
  is_small es (Alone x) = is_small_term es x
  is_small es (Prefixed op x) = is_small_term es x
  is_small es (Paired op x y) =
      if is_left_first op then is_small_term es x && is_leaf_term es y else is_leaf_term es x && is_leaf_term es y
  is_small es (Chained op xs) = are_small es xs

  -- the first operand, if all others are one push
  pub are_small : List Entry → Terms → Bool
  are_small es (Two x y) = is_small_term es x && is_leaf_term es y
  are_small es (Then xs x) = are_small es xs && is_leaf_term es x

  pub is_small_term : List Entry → Term → Bool
  is_small_term es (Number value) = true
  is_small_term es (Byte byte) = true
  is_small_term es (Truth holds) = true
  is_small_term es MostPos = true
  is_small_term es MostNeg = true
  is_small_term es (Named name) = true
  is_small_term es (Element name e) = is_small es e
  is_small_term es (Bracketed e) = is_small es e
  is_small_term es (Converted to x) = is_small_term es x

-- ---- elements

-- the constant that an operand of a chain adds; to push the least word takes fewer bytes
abbrev pub added_by : ChainOperator → Option ℤ → Option ℤ
added_by (chain.Arithmetic arithmetic_chain.Add) (Some v) = if int_eq v least_word then None else Some v
added_by op v = None

-- the most words that an element may be behind the address of another one
abbrev pub greatest_offset : ℤ
greatest_offset = pos 16383

abbrev pub offset_or_none : Option ℤ → Option ℤ
offset_or_none None = None
offset_or_none (Some c) = if int_le (pos 0) c && int_le c greatest_offset then Some c else None

-- The constant that is added to the first operand of two: the element that the sum selects is so many words behind the
-- one that the first operand would select.
abbrev pub offset_of_terms : List Entry → ChainOperator → Terms → Option ℤ
offset_of_terms es op (Two x y) = offset_or_none (added_by op (exact_value (bound_of_term es y)))
offset_of_terms es op (Then xs x) = None

abbrev pub offset_of : List Entry → Expression → Option ℤ
offset_of es (Chained op xs) = offset_of_terms es op xs
offset_of es e = None

-- A subscript: its code, the constant that it ends with, the code before that, and whether it takes two registers at
-- most.
pub record Subscript : Type 0 where
  pub whole : List Piece
  pub offset : Option ℤ
  pub first : List Piece
  pub small : Bool

-- the code of a subscript without its constant
abbrev pub without : Option ℤ → (whole first : List Piece) → List Piece
without None whole first = whole
without (Some c) whole first = first

abbrev pub before_offset : Subscript → List Piece
before_offset s = without s.offset s.whole s.first

abbrev pub or_zero : Option ℤ → ℤ
or_zero None = pos 0
or_zero (Some c) = c

-- the byte of an array with this number, in words from w on
abbrev pub byte_address : ℕ → ℕ → List Piece
byte_address w n =
    if nat_eq (n % 4) 0 then points (word_after w (n / 4)) ∷ []
    else constant (pos (n % 4)) ∷ points (word_after w (n / 4)) ∷ operates BYTE_SUBSCRIPT ∷ []

abbrev pub known_address : ValueType → ℕ → ℕ → List Piece
known_address value_type.Int w n = points (word_after w n) ∷ []
known_address value_type.Byte w n = byte_address w n

-- after the code of a subscript
abbrev pub subscript_code : ValueType → ℕ → List Piece
subscript_code value_type.Int w = points w ∷ operates WORD_SUBSCRIPT ∷ []
subscript_code value_type.Byte w = points w ∷ operates BYTE_SUBSCRIPT ∷ []

-- The address of an element of an array whose words begin with w: of one whose subscript has a single value, or else by
-- the code of the subscript.
abbrev pub address_code : ValueType → ℕ → Option ℤ → (subscript : List Piece) → List Piece
address_code type w (Some c) subscript = known_address type w (unsigned_abs c)
address_code type w None subscript = subscript ++ subscript_code type w

abbrev pub loads_at : ℤ → Piece
loads_at n = Direct fun.LoadNonLocal n

-- A word is read by the address of one before it, if the subscript ends with a constant.
abbrev pub element_of_words : ValueType → ℕ → Option ℤ → Subscript → List Piece
element_of_words value_type.Int w (Some c) s = loads (word_after w (unsigned_abs c)) ∷ []
element_of_words value_type.Int w None s =
    before_offset s ++ subscript_code value_type.Int w ++ loads_at (or_zero s.offset) ∷ []
element_of_words value_type.Byte w c s = address_code value_type.Byte w c s.whole ++ operates LOAD_BYTE ∷ []

abbrev pub element_of_table : List ℤ → Option ℤ → Subscript → List Piece
element_of_table values (Some c) s = TableAddress values ∷ loads_at c ∷ []
element_of_table values None s =
    before_offset s ++ TableAddress values ∷ operates WORD_SUBSCRIPT ∷ loads_at (or_zero s.offset) ∷ []

abbrev pub element_code : Option Home → Option Meaning → Option ℤ → Subscript → List Piece
element_code (Some (Word w)) (Some (Array kind type size range)) c s = element_of_words type w c s
element_code (Some (Passed w)) (Some (Array kind type size range)) c s = element_of_words type w c s
element_code (Some (Table values)) m c s = element_of_table values c s
element_code h m c s = []

-- ---- two operands

-- An operand beside another one: its code where a temporary is free and where the next one is, whether it is one push,
-- and whether it takes two registers at most.
pub record Operand : Type 0 where
  pub first : List Piece
  pub second : List Piece
  pub leaf : Bool
  pub small : Bool

abbrev pub beside : List Entry → Term → List Piece → List Piece → Operand
beside es x first second = record {
  first = first;
  second = second;
  leaf = is_leaf_term es x;
  small = is_small_term es x;
}

-- what was pushed last is exchanged with what is below it, unless their order does not matter
abbrev pub exchanged : (in_order : Bool) → List Piece
exchanged true = operates REVERSE ∷ []
exchanged false = []

-- A left operand that waited in a temporary is pushed, below the right one, or on it if their order does not matter.
abbrev pub back : (in_order : Bool) → ℕ → List Piece
back in_order t = loads t ∷ exchanged in_order

-- The right operand is pushed on the left one. If it takes three registers, the left one waits for it in a temporary.
abbrev pub onto : (in_order : Bool) → ℕ → (small : Bool) → List Piece → List Piece
onto in_order t true right = right
onto in_order t false right = stores t ∷ right ++ back in_order t

-- Whether the first of two operands comes last: it is one push, and the second one takes three registers.
abbrev pub comes_last : (leaf small : Bool) → Bool
comes_last leaf small = leaf && not small

-- two operands, the first one below the second
abbrev pub both : (in_order last : Bool) → ℕ → Operand → Operand → List Piece
both in_order true t x y = y.first ++ (x.first ++ exchanged in_order)
both in_order false t x y = x.first ++ onto in_order t y.small y.second

-- A constant is pushed below an operand. If that takes three registers, it comes first.
abbrev pub after_constant : ℤ → (small : Bool) → List Piece → List Piece
after_constant v true code = constant v ∷ code
after_constant v false code = code ++ constant v ∷ operates REVERSE ∷ []

-- what is added in place of a constant that is subtracted
abbrev pub added_for : ArithmeticPair → Option ℤ → Option ℤ
added_for arithmetic.Subtract (Some v) = checked_difference (pos 0) v
added_for op v = None

-- a constant is added, or else this code is there
abbrev pub adds_or : Option ℤ → List Piece → List Piece
adds_or None code = code
adds_or (Some v) code = Direct fun.AddConstant v ∷ []

-- the constants next to one, if they are words: x <= v is x < v + 1, and x >= v is x > v - 1
abbrev pub next_above : Option ℤ → Option ℤ
next_above None = None
next_above (Some v) = checked_sum v (pos 1)

abbrev pub next_below : Option ℤ → Option ℤ
next_below None = None
next_below (Some v) = checked_difference v (pos 1)

-- The left operand is pushed on a constant or below it, if there is one.
abbrev pub on_constant : Pushes → Option ℤ → Pushes
on_constant how None = how
on_constant how (Some v) = pushes.OnConstant v

abbrev pub below_constant : Pushes → Option ℤ → Pushes
below_constant how None = how
below_constant how (Some v) = pushes.BelowConstant v

-- which operands of an operator between two are pushed, by the values of both if they are constants
abbrev pub equality_pushes : Option ℤ → Option ℤ → Pushes
equality_pushes a (Some v) = pushes.Left
equality_pushes (Some v) None = pushes.Right
equality_pushes None None = pushes.Either

abbrev pub comparison_pushes : Comparison → Option ℤ → Option ℤ → Pushes
comparison_pushes comparison.Greater a b = pushes.Both
comparison_pushes comparison.LessOrEqual a b = on_constant pushes.Both (next_above b)
comparison_pushes comparison.Less a b = on_constant pushes.Exchanged b
comparison_pushes comparison.GreaterOrEqual a b = below_constant pushes.Exchanged (next_below b)
comparison_pushes comparison.Equal a b = equality_pushes a b
comparison_pushes comparison.NotEqual a b = equality_pushes a b

-- beside a constant that is added the left one is alone
abbrev pub unless_added : Option ℤ → Pushes → Pushes
unless_added None how = how
unless_added (Some v) how = pushes.Left

abbrev pub pushes_of : PairOperator → Option ℤ → Option ℤ → Pushes
pushes_of (pair.Arithmetic op) a b = unless_added (added_for op b) pushes.Both
pushes_of (pair.Comparison op) a b = comparison_pushes op a b

abbrev pub pushed : Pushes → ℕ → Operand → Operand → List Piece
pushed pushes.Both t x y = both true (comes_last x.leaf y.small) t x y
pushed pushes.Either t x y = both false (comes_last x.leaf y.small) t x y
pushed pushes.Exchanged t x y = both true (comes_last y.leaf x.small) t y x
pushed pushes.Left t x y = x.first
pushed pushes.Right t x y = y.first
pushed (pushes.OnConstant v) t x y = after_constant v x.small x.first
pushed (pushes.BelowConstant v) t x y = x.first ++ constant v ∷ []

-- What is pushed is compared with a constant, or two numbers are equal if they differ by 0.
abbrev pub equality_code : Option ℤ → Option ℤ → List Piece
equality_code a (Some v) = Direct fun.EqualsConstant v ∷ []
equality_code (Some v) None = Direct fun.EqualsConstant v ∷ []
equality_code None None = operates DIFFERENCE ∷ negates ∷ []

-- A comparison with the constant next to one needs no negation.
abbrev pub negated_unless : Option ℤ → List Piece
negated_unless None = negates ∷ []
negated_unless (Some v) = []

abbrev pub comparison_code : Comparison → Option ℤ → Option ℤ → List Piece
comparison_code comparison.Greater a b = operates GREATER ∷ []
comparison_code comparison.Less a b = operates GREATER ∷ []
comparison_code comparison.LessOrEqual a b = operates GREATER ∷ negated_unless (next_above b)
comparison_code comparison.GreaterOrEqual a b = operates GREATER ∷ negated_unless (next_below b)
comparison_code comparison.Equal a b = equality_code a b
comparison_code comparison.NotEqual a b = equality_code a b ++ negates ∷ []

abbrev pub pair_code : PairOperator → Option ℤ → Option ℤ → List Piece
pair_code (pair.Arithmetic op) a b = adds_or (added_for op b) (operates (pair_operation op) ∷ [])
pair_code (pair.Comparison op) a b = comparison_code op a b

-- The first two operands of a chain, by the constant that the second one adds, if there is one. The order of the
-- operands of a chain does not matter.
abbrev pub first_two : ℕ → ChainOperator → Option ℤ → Operand → Operand → List Piece
first_two t op added x y =
    pushed (unless_added added pushes.Either) t x y ++ adds_or added (operates (chain_operation op) ∷ [])

-- an operand more of a chain, by its value if it is a constant
abbrev pub joined : ℕ → ChainOperator → Option ℤ → (small : Bool) → List Piece → List Piece
joined t op value small right =
    adds_or (added_by op value) (onto false t small right ++ operates (chain_operation op) ∷ [])

-- the value of this number of operands, if they belong to the front
abbrev pub covered : Option Front → ℕ → Option ℤ
covered None count = None
covered (Some front) count = if nat_le count front.operands then Some front.value else None

abbrev pub unless : Bool → List Piece → List Piece
unless true code = []
unless false code = code

-- ---- expressions

abbrev pub truth : Bool → ℤ
truth true = pos 1
truth false = pos 0

abbrev mutual
  -- the code of an expression where the words from t on are free
  pub expression_code : List Home → List Entry → ℕ → Expression → List Piece
  expression_code hs es t (Alone x) = constant_or (exact_value (bound_of es (Alone x))) (term_code hs es t x)
  expression_code hs es t (Prefixed op x) =
      constant_or (exact_value (bound_of es (Prefixed op x))) (term_code hs es t x ++ prefix_code op)
  expression_code hs es t (Paired op x y) =
      constant_or (exact_value (bound_of es (Paired op x y)))
      (pushed (pushes_of op (exact_value (bound_of_term es x)) (exact_value (bound_of_term es y))) t
      (beside es x (term_code hs es t x) (term_code hs es (word_after t 1) x))
      (beside es y (term_code hs es t y) (term_code hs es (word_after t 1) y))
      ++ pair_code op (exact_value (bound_of_term es x)) (exact_value (bound_of_term es y)))
  expression_code hs es t (Chained op xs) =
      constant_or (exact_value (bound_of es (Chained op xs))) (terms_code hs es t op (front_in es op xs) xs)

  -- the first operand of a chain
  pub first_code : List Home → List Entry → ℕ → Expression → List Piece
  first_code hs es t (Chained op xs) = first_of_terms hs es t xs
  first_code hs es t e = []

  pub first_of_terms : List Home → List Entry → ℕ → Terms → List Piece
  first_of_terms hs es t (Two x y) = term_code hs es t x
  first_of_terms hs es t (Then xs x) = first_of_terms hs es t xs

  -- operand by operand, with one constant for those at the front that are together a constant
  pub terms_code : List Home → List Entry → ℕ → ChainOperator → Option Front → Terms → List Piece
  terms_code hs es t op front (Two x y) =
      constant_or (covered front 2)
      (first_two t op (added_by op (exact_value (bound_of_term es y)))
      (beside es x (term_code hs es t x) (term_code hs es (word_after t 1) x))
      (beside es y (term_code hs es t y) (term_code hs es (word_after t 1) y)))
  terms_code hs es t op front (Then xs x) =
      terms_code hs es t op front xs
      ++ unless (is_known (covered front (count_of xs + 1)))
      (joined t op (exact_value (bound_of_term es x)) (is_small_term es x) (term_code hs es (word_after t 1) x))

  pub term_code : List Home → List Entry → ℕ → Term → List Piece
  term_code hs es t (Number value) = constant value ∷ []
  term_code hs es t (Byte byte) = constant (pos byte) ∷ []
  term_code hs es t (Truth holds) = constant (truth holds) ∷ []
  term_code hs es t MostPos = constant greatest_word ∷ []
  term_code hs es t MostNeg = constant least_word ∷ []
  term_code hs es t (Named name) =
      constant_or (exact_value (bound_of_term es (Named name)))
      (scalar_code (is_byte_reference (meaning_in name es)) (home_of hs es name))
  term_code hs es t (Element name e) =
      element_code (home_of hs es name) (meaning_in name es) (single (range_found (bound_of es e))) (record {
        whole = expression_code hs es t e;
        offset = offset_of es e;
        first = first_code hs es t e;
        small = is_small es e;
      })
  term_code hs es t (Bracketed e) = expression_code hs es t e
  term_code hs es t (Converted to x) = term_code hs es t x

abbrev pub subscript_of : List Home → List Entry → ℕ → Expression → Subscript
subscript_of hs es t e = record {
  whole = expression_code hs es t e;
  offset = offset_of es e;
  first = first_code hs es t e;
  small = is_small es e;
}
