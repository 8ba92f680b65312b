-- What holds of each instruction that code may have, and of what makes the address of each table that names have, holds
-- of all pieces of expressions, actions and declarations.
use Rattle.std.proofs.Common.{ℕ, zero, suc, ◌+◌, ℤ, pos, Bool, true, false, cond, List, [], ◌∷◌, ◌++◌, Option, Some}
use Rattle.std.proofs.Common.{None, refl}
use Rattle.std.specs.List.{AllByRecursion}
use Rattle.std.specs.Prelude.{option_and_then, slice_get}
use Rattle.std.specs.Prelude.{⊤, ◌/◌, ◌%◌, ◌*◌, ◌-◌, nat_lt, nat_eq, min, unsigned_abs}
use Rattle.std.specs.Ordering.{int_eq}
use Rattle.std.proofs.Math.Nat.{min-le_right}
use Rattle.prefix_decoder.specs.declared.function.Fun.{Fun}
use Rattle.prefix_decoder.specs.declared.function.Fun.TheVariants as fun
use Rattle.word_arithmetic.specs.Word.{greatest_word, least_word}
use Rattle.word_arithmetic.specs.declared.compare.Comparison.{Comparison}
use Rattle.word_arithmetic.specs.declared.compare.Comparison.TheVariants as comparison
use Rattle.occam_parser.specs.Expressions.{Alone, Bracketed, Byte, Chained, Converted, Element, Expression, MostNeg}
use Rattle.occam_parser.specs.Expressions.{MostPos, Named, Number, Paired, Prefixed, Term, Terms, Then, Truth, Two}
use Rattle.occam_parser.specs.Lines.{Constants, Declaration, Place, Variables, Channels}
use Rattle.occam_parser.specs.OneOrMore.{as_list}
use Rattle.occam_parser.specs.declared.tree.ChainOperator.{ChainOperator}
use Rattle.occam_parser.specs.declared.tree.PairOperator.{PairOperator}
use Rattle.occam_parser.specs.declared.tree.PrefixOperator.{PrefixOperator}
use Rattle.occam_parser.specs.declared.tree.ValueType.{ValueType}
use Rattle.occam_parser.specs.declared.tree.PairOperator.TheVariants as pair
use Rattle.occam_parser.specs.declared.tree.PrefixOperator.TheVariants as prefix
use Rattle.occam_parser.specs.declared.tree.ValueType.TheVariants as value_type
use Rattle.scalar_ranges.specs.Bounds.{bound_of, bound_of_term, exact_value, range_found}
use Rattle.scalar_ranges.specs.Entries.{Array, Entry, Meaning, Scalar, meaning_in, number_in}
use Rattle.scalar_ranges.specs.Fronts.{Front, count_of, front_in}
use Rattle.scalar_ranges.specs.Narrowing.{Tested}
use Rattle.code_pieces.specs.Pieces.{counted, Direct, Piece, TableAddress, constant, moves, operates, points, stores}
use Rattle.code_pieces.specs.Pieces.{loads, word_after}
use Rattle.code_pieces.specs.declared.operations.TheConstants.{BYTE_SUBSCRIPT, DIFFERENCE, GREATER, INPUT, LOAD_BYTE}
use Rattle.code_pieces.specs.declared.operations.TheConstants.{MINIMUM_INTEGER, MOVE, NOT, STORE_BYTE}
use Rattle.code_pieces.specs.declared.operations.TheConstants.{OUTPUT, REVERSE, WORD_SUBSCRIPT}
use Rattle.code_pieces.specs.declared.words.TheConstants.{GREATEST_WORD}
use Rattle.code_pieces.proofs.AllOfPieces.{all_both}
use Rattle.line_pieces.specs.Actions.{KnownElement, NoTarget, OtherElement, OwnWord, Target, assign_code, by_number}
use Rattle.line_pieces.specs.Actions.{carried, channel_code, channel_home, cleaned, element_target, exchange, forgets}
use Rattle.line_pieces.specs.Actions.{input_code, length_of, link_code, message_code, output_code, source_of}
use Rattle.line_pieces.specs.Actions.{source_of_term, store_after, store_code, store_known, stored_offset, stores_at}
use Rattle.line_pieces.specs.Actions.{stores_below, target_address, target_of, whole_target}
use Rattle.line_pieces.specs.Declarations.{declaration_code, spread, words_in, zero_code, zero_names}
use Rattle.line_pieces.specs.Expressions.{Operand, Subscript, added_by, added_for, address_code, adds_or}
use Rattle.line_pieces.specs.Expressions.{after_constant, back, before_offset, beside, both}
use Rattle.line_pieces.specs.Expressions.{byte_address, chain_operation, comes_last, comparison_code, constant_or}
use Rattle.line_pieces.specs.Expressions.{covered, element_code, element_of_table, element_of_words, equality_code}
use Rattle.line_pieces.specs.Expressions.{exchanged, expression_code, first_code, first_of_terms, first_two}
use Rattle.line_pieces.specs.Expressions.{is_known, is_small, is_small_term, known_address, loads_at, negated_unless}
use Rattle.line_pieces.specs.Expressions.{negates, next_above, next_below, offset_of, onto, or_zero, pair_code}
use Rattle.line_pieces.specs.Expressions.{pair_operation, prefix_code, pushed, pushes_of, scalar_code, single}
use Rattle.line_pieces.specs.Expressions.{subscript_code, subscript_of, term_code, terms_code, truth}
use Rattle.line_pieces.specs.Expressions.{unless, unless_added, without, comparison_pushes, on_constant}
use Rattle.line_pieces.specs.Expressions.{below_constant, equality_pushes, is_byte_reference}
use Rattle.line_pieces.specs.Homes.{Block, Home, Link, Passed, Table, Word, home_of}
use Rattle.code_generator.specs.Processes.{loop_start}
use Rattle.meant_code.specs.Labels.{IsCounted, NamesCounted}

-- ---- homes

-- this holds of what makes the address of a home, if it is a table
abbrev pub HomeHas : (Piece → Type 0) → Home → Type 0
HomeHas P (Table values) = P (TableAddress values)
HomeHas P h = ⊤

abbrev pub HomesHave : (Piece → Type 0) → List Home → Type 0
HomesHave P hs = AllByRecursion (HomeHas P) hs

abbrev HomeThereHas : (Piece → Type 0) → Option Home → Type 0
HomeThereHas P None = ⊤
HomeThereHas P (Some h) = HomeHas P h

get_has : (P : Piece → Type 0) (hs : List Home) (n : ℕ) → HomesHave P hs → HomeThereHas P (slice_get hs n)
get_has P [] n have = tt
get_has P (h ∷ hs) zero have = have.0
get_has P (h ∷ hs) (suc n) have = get_has P hs n have.1

-- so it holds of the home of a name
home_has : (P : Piece → Type 0) (hs : List Home) (es : List Entry) (name : List ℕ) → HomesHave P hs
    → HomeThereHas P (home_of hs es name)
home_has P hs es name have = by_number (number_in name es)
  where
    by_number : (o : Option ℕ) → HomeThereHas P (option_and_then (slice_get hs) o)
    by_number None = tt
    by_number (Some n) = get_has P hs n have

-- ---- parts of code

-- it holds of the code of a subscript
pub record SubscriptHas (P : Piece → Type 0) (s : Subscript) : Type 0 where
  pub whole : AllByRecursion P s.whole
  pub first : AllByRecursion P s.first

-- it holds of the code of an operand
record OperandHas (P : Piece → Type 0) (x : Operand) : Type 0 where
  first : AllByRecursion P x.first
  second : AllByRecursion P x.second

-- it holds of the code of a target's subscript
abbrev pub TargetHas : (Piece → Type 0) → Target → Type 0
TargetHas P (OtherElement type w s) = SubscriptHas P s
TargetHas P other = ⊤

pub counted_is : (word : ℕ) → IsCounted (pos (counted word))
unfolding counted
counted_is word = record { word = min word GREATEST_WORD; is = refl; few = min-le_right word GREATEST_WORD }

-- what is asked of instructions: it holds of each that names a word of the frame as far as words are counted
abbrev pub OfInstructions : (Piece → Type 0) → Type 0
OfInstructions P = (f : Fun) (e : ℤ) → NamesCounted f e → P (Direct f e)

module _ (P : Piece → Type 0) (direct : OfInstructions P) where
  -- ---- pieces

  operates_is : (op : ℤ) → P (operates op)
  operates_is op = direct fun.Operate op tt

  loads_is : (word : ℕ) → P (loads word)
  loads_is word = direct fun.LoadLocal (pos (counted word)) (counted_is word)

  pub stores_is : (word : ℕ) → P (stores word)
  stores_is word = direct fun.StoreLocal (pos (counted word)) (counted_is word)

  points_is : (word : ℕ) → P (points word)
  points_is word = direct fun.LoadLocalPointer (pos (counted word)) (counted_is word)

  loads_at_is : (n : ℤ) → P (loads_at n)
  loads_at_is n = direct fun.LoadNonLocal n tt

  adds_is : (n : ℤ) → P (Direct fun.AddConstant n)
  adds_is n = direct fun.AddConstant n tt

  equals_is : (n : ℤ) → P (Direct fun.EqualsConstant n)
  equals_is n = direct fun.EqualsConstant n tt

  negates_is : P negates
  negates_is = equals_is (pos 0)

  by_test : (b : Bool) (ps qs : List Piece) → AllByRecursion P ps → AllByRecursion P qs → AllByRecursion P (cond b ps qs)
  by_test true ps qs first second = first
  by_test false ps qs first second = second

  pub constant_is : (v : ℤ) → P (constant v)
  constant_is v = by_least (int_eq v least_word)
    where
      by_least : (b : Bool) → P (cond b (operates MINIMUM_INTEGER) (Direct fun.LoadConstant v))
      by_least true = operates_is MINIMUM_INTEGER
      by_least false = direct fun.LoadConstant v tt

  one : (p : Piece) → P p → AllByRecursion P (p ∷ [])
  one p is = (is, tt)

  -- ---- expressions

  prefix_is : (op : PrefixOperator) → AllByRecursion P (prefix_code op)
  prefix_is prefix.Negate = (operates_is NOT, (direct fun.AddConstant (pos 1) tt, tt))
  prefix_is prefix.BitNot = (operates_is NOT, tt)
  prefix_is prefix.Not = (negates_is, tt)

  constant_or_is : (o : Option ℤ) (ps : List Piece) → AllByRecursion P ps → AllByRecursion P (constant_or o ps)
  constant_or_is None ps are = are
  constant_or_is (Some v) ps are = one (constant v) (constant_is v)

  scalar_is : (reference : Bool) (h : Option Home) → AllByRecursion P (scalar_code reference h)
  scalar_is true (Some (Passed w)) = (points_is w, (operates_is LOAD_BYTE, tt))
  scalar_is false (Some (Passed w)) = (loads_is w, tt)
  scalar_is reference (Some (Word w)) = (loads_is w, tt)
  scalar_is reference (Some (Block w head)) = (loads_is w, tt)
  scalar_is reference h = tt

  without_is : (o : Option ℤ) (whole first : List Piece) → AllByRecursion P whole → AllByRecursion P first
      → AllByRecursion P (without o whole first)
  without_is None whole first are others = are
  without_is (Some c) whole first are others = others

  byte_address_is : (w n : ℕ) → AllByRecursion P (byte_address w n)
  byte_address_is w n =
      by_test (nat_eq (n % 4) 0) (points (word_after w (n / 4)) ∷ [])
      (constant (pos (n % 4)) ∷ points (word_after w (n / 4)) ∷ operates BYTE_SUBSCRIPT ∷ [])
      (points_is (word_after w (n / 4)), tt)
      (constant_is (pos (n % 4)), (points_is (word_after w (n / 4)), (operates_is BYTE_SUBSCRIPT, tt)))

  known_address_is : (type : ValueType) (w n : ℕ) → AllByRecursion P (known_address type w n)
  known_address_is value_type.Int w n = (points_is (word_after w n), tt)
  known_address_is value_type.Byte w n = byte_address_is w n

  subscript_code_is : (type : ValueType) (w : ℕ) → AllByRecursion P (subscript_code type w)
  subscript_code_is value_type.Int w = (points_is w, (operates_is WORD_SUBSCRIPT, tt))
  subscript_code_is value_type.Byte w = (points_is w, (operates_is BYTE_SUBSCRIPT, tt))

  address_is : (type : ValueType) (w : ℕ) (c : Option ℤ) (subscript : List Piece) → AllByRecursion P subscript
      → AllByRecursion P (address_code type w c subscript)
  address_is type w (Some c) subscript are = known_address_is type w (unsigned_abs c)
  address_is type w None subscript are =
      all_both P subscript (subscript_code type w) are (subscript_code_is type w)

  element_of_words_is : (type : ValueType) (w : ℕ) (c : Option ℤ) (s : Subscript) → SubscriptHas P s
      → AllByRecursion P (element_of_words type w c s)
  element_of_words_is value_type.Int w (Some c) s are = (loads_is (word_after w (unsigned_abs c)), tt)
  element_of_words_is value_type.Int w None s are =
      all_both P (before_offset s ++ subscript_code value_type.Int w) (loads_at (or_zero s.offset) ∷ [])
      (all_both P (before_offset s) (subscript_code value_type.Int w)
      (without_is s.offset s.whole s.first are.whole are.first) (subscript_code_is value_type.Int w)) (loads_at_is (or_zero s.offset), tt)
  element_of_words_is value_type.Byte w c s are =
      all_both P (address_code value_type.Byte w c s.whole) (operates LOAD_BYTE ∷ [])
      (address_is value_type.Byte w c s.whole are.whole) (operates_is LOAD_BYTE, tt)

  element_of_table_is : (values : List ℤ) (c : Option ℤ) (s : Subscript) → P (TableAddress values) → SubscriptHas P s
      → AllByRecursion P (element_of_table values c s)
  element_of_table_is values (Some c) s table are = (table, (loads_at_is c, tt))
  element_of_table_is values None s table are =
      all_both P (before_offset s)
      (TableAddress values ∷ operates WORD_SUBSCRIPT ∷ loads_at (or_zero s.offset) ∷ [])
      (without_is s.offset s.whole s.first are.whole are.first)
      (table, (operates_is WORD_SUBSCRIPT, (loads_at_is (or_zero s.offset), tt)))

  element_is : (h : Option Home) (m : Option Meaning) (c : Option ℤ) (s : Subscript) → HomeThereHas P h
      → SubscriptHas P s → AllByRecursion P (element_code h m c s)
  element_is (Some (Word w)) (Some (Array kind type size range)) c s home are = element_of_words_is type w c s are
  element_is (Some (Passed w)) (Some (Array kind type size range)) c s home are = element_of_words_is type w c s are
  element_is (Some (Table values)) m c s home are = element_of_table_is values c s home are
  element_is h m c s home are = tt

  exchanged_is : (in_order : Bool) → AllByRecursion P (exchanged in_order)
  exchanged_is true = (operates_is REVERSE, tt)
  exchanged_is false = tt

  onto_is : (in_order : Bool) (t : ℕ) (small : Bool) (right : List Piece) → AllByRecursion P right
      → AllByRecursion P (onto in_order t small right)
  onto_is in_order t true right are = are
  onto_is in_order t false right are =
      (stores_is t, all_both P right (back in_order t) are (loads_is t, exchanged_is in_order))

  both_is : (in_order last : Bool) (t : ℕ) (x y : Operand) → OperandHas P x → OperandHas P y
      → AllByRecursion P (both in_order last t x y)
  both_is in_order true t x y first second =
      all_both P y.first (x.first ++ exchanged in_order) second.first
      (all_both P x.first (exchanged in_order) first.first (exchanged_is in_order))
  both_is in_order false t x y first second =
      all_both P x.first (onto in_order t y.small y.second) first.first
      (onto_is in_order t y.small y.second second.second)

  after_constant_is : (v : ℤ) (small : Bool) (ps : List Piece) → AllByRecursion P ps → AllByRecursion P (after_constant v small ps)
  after_constant_is v true ps are = (constant_is v, are)
  after_constant_is v false ps are =
      all_both P ps (constant v ∷ operates REVERSE ∷ []) are (constant_is v, (operates_is REVERSE, tt))

  adds_or_is : (o : Option ℤ) (ps : List Piece) → AllByRecursion P ps → AllByRecursion P (adds_or o ps)
  adds_or_is None ps are = are
  adds_or_is (Some v) ps are = (adds_is v, tt)

  -- the operands of an operator between two, by what is known of both
  module _ (t : ℕ) (x y : Operand) (first : OperandHas P x) (second : OperandHas P y) where
    arithmetic_pushed : (added : Option ℤ)
        → AllByRecursion P (pushed (unless_added added (comparison_pushes comparison.Greater None None)) t x y)
    arithmetic_pushed None = both_is true (comes_last x.leaf y.small) t x y first second
    arithmetic_pushed (Some v) = first.first

    above_pushed : (next : Option ℤ)
        → AllByRecursion P (pushed (on_constant (comparison_pushes comparison.Greater None None) next) t x y)
    above_pushed None = both_is true (comes_last x.leaf y.small) t x y first second
    above_pushed (Some v) = after_constant_is v x.small x.first first.first

    less_pushed : (b : Option ℤ) → AllByRecursion P (pushed (comparison_pushes comparison.Less None b) t x y)
    less_pushed None = both_is true (comes_last y.leaf x.small) t y x second first
    less_pushed (Some v) = after_constant_is v x.small x.first first.first

    below_pushed : (next : Option ℤ)
        → AllByRecursion P (pushed (below_constant (comparison_pushes comparison.Less None None) next) t x y)
    below_pushed None = both_is true (comes_last y.leaf x.small) t y x second first
    below_pushed (Some v) = all_both P x.first (constant v ∷ []) first.first (constant_is v, tt)

    equality_pushed : (a b : Option ℤ) → AllByRecursion P (pushed (equality_pushes a b) t x y)
    equality_pushed a (Some v) = first.first
    equality_pushed (Some v) None = second.first
    equality_pushed None None = both_is false (comes_last x.leaf y.small) t x y first second

    comparison_pushed : (op : Comparison) (a b : Option ℤ) → AllByRecursion P (pushed (comparison_pushes op a b) t x y)
    comparison_pushed comparison.Greater a b = both_is true (comes_last x.leaf y.small) t x y first second
    comparison_pushed comparison.LessOrEqual a b = above_pushed (next_above b)
    comparison_pushed comparison.Less a b = less_pushed b
    comparison_pushed comparison.GreaterOrEqual a b = below_pushed (next_below b)
    comparison_pushed comparison.Equal a b = equality_pushed a b
    comparison_pushed comparison.NotEqual a b = equality_pushed a b

    pushed_is : (op : PairOperator) (a b : Option ℤ) → AllByRecursion P (pushed (pushes_of op a b) t x y)
    pushed_is (pair.Arithmetic op) a b = arithmetic_pushed (added_for op b)
    pushed_is (pair.Comparison op) a b = comparison_pushed op a b

    first_two_is : (op : ChainOperator) (added : Option ℤ) → AllByRecursion P (first_two t op added x y)
    first_two_is op None =
        all_both P (both false (comes_last x.leaf y.small) t x y) (operates (chain_operation op) ∷ [])
        (both_is false (comes_last x.leaf y.small) t x y first second) (operates_is (chain_operation op), tt)
    first_two_is op (Some v) = all_both P x.first (Direct fun.AddConstant v ∷ []) first.first (adds_is v, tt)

  equality_is : (a b : Option ℤ) → AllByRecursion P (equality_code a b)
  equality_is a (Some v) = (equals_is v, tt)
  equality_is (Some v) None = (equals_is v, tt)
  equality_is None None = (operates_is DIFFERENCE, (negates_is, tt))

  negated_is : (o : Option ℤ) → AllByRecursion P (negated_unless o)
  negated_is None = (negates_is, tt)
  negated_is (Some v) = tt

  comparison_is : (op : Comparison) (a b : Option ℤ) → AllByRecursion P (comparison_code op a b)
  comparison_is comparison.Greater a b = (operates_is GREATER, tt)
  comparison_is comparison.Less a b = (operates_is GREATER, tt)
  comparison_is comparison.LessOrEqual a b = (operates_is GREATER, negated_is (next_above b))
  comparison_is comparison.GreaterOrEqual a b = (operates_is GREATER, negated_is (next_below b))
  comparison_is comparison.Equal a b = equality_is a b
  comparison_is comparison.NotEqual a b =
      all_both P (equality_code a b) (negates ∷ []) (equality_is a b) (negates_is, tt)

  pair_is : (op : PairOperator) (a b : Option ℤ) → AllByRecursion P (pair_code op a b)
  pair_is (pair.Arithmetic op) a b =
      adds_or_is (added_for op b) (operates (pair_operation op) ∷ []) (operates_is (pair_operation op), tt)
  pair_is (pair.Comparison op) a b = comparison_is op a b

  unless_is : (b : Bool) (ps : List Piece) → AllByRecursion P ps → AllByRecursion P (unless b ps)
  unless_is true ps are = tt
  unless_is false ps are = are

  -- ---- targets

  whole_target_is : (h : Option Home) (m : Option Meaning) → TargetHas P (whole_target h m)
  whole_target_is (Some (Word w)) (Some (Scalar kind type range)) = tt
  whole_target_is (Some (Passed w)) (Some (Scalar kind type range)) = tt
  whole_target_is h m = tt

  by_number_is : (type : ValueType) (w : ℕ) (value : Option ℤ) (s : Subscript) → SubscriptHas P s
      → TargetHas P (by_number type w value s)
  by_number_is type w (Some c) s are = tt
  by_number_is type w None s are = are

  element_target_is : (h : Option Home) (m : Option Meaning) (value : Option ℤ) (s : Subscript) → SubscriptHas P s
      → TargetHas P (element_target h m value s)
  element_target_is (Some (Word w)) (Some (Array kind type size range)) value s are = by_number_is type w value s are
  element_target_is (Some (Passed w)) (Some (Array kind type size range)) value s are = by_number_is type w value s are
  element_target_is h m value s are = tt

  -- ---- assignments

  stores_at_is : (type : ValueType) (n : ℤ) → P (stores_at type n)
  stores_at_is value_type.Int n = direct fun.StoreNonLocal n tt
  stores_at_is value_type.Byte n = operates_is STORE_BYTE

  stores_below_is : (type : ValueType) (n : ℤ) (t : ℕ) → AllByRecursion P (stores_below type n t)
  stores_below_is type n t = (loads_is t, (operates_is REVERSE, (stores_at_is type n, tt)))

  moves_is : (count from to : ℕ) → AllByRecursion P (moves count from to)
  moves_is count from to =
      (points_is from, (points_is to, (constant_is (pos (4 * counted count)), (operates_is MOVE, tt))))

  store_known_is : (type : ValueType) (w n t : ℕ) → AllByRecursion P (store_known type w n t)
  store_known_is value_type.Int w n t = moves_is 1 t (word_after w n)
  store_known_is value_type.Byte w n t =
      all_both P (known_address value_type.Byte w n) (stores_below value_type.Byte (pos 0) t)
      (known_address_is value_type.Byte w n) (stores_below_is value_type.Byte (pos 0) t)

  store_after_is : (type : ValueType) (w : ℕ) (small : Bool) (n : ℤ) (subscript : List Piece) (t : ℕ)
      → AllByRecursion P subscript → AllByRecursion P (store_after type w small n subscript t)
  store_after_is type w true n subscript t are =
      all_both P (subscript ++ subscript_code type w) (stores_at type n ∷ [])
      (all_both P subscript (subscript_code type w) are (subscript_code_is type w))
      (stores_at_is type n, tt)
  store_after_is type w false n subscript t are = (
    stores_is t,
    all_both P (subscript ++ subscript_code type w) (stores_below type n t)
        (all_both P subscript (subscript_code type w) are (subscript_code_is type w)) (stores_below_is type n t),
  )

  store_is : (target : Target) (t : ℕ) → TargetHas P target → AllByRecursion P (store_code target t)
  store_is NoTarget t are = tt
  store_is (OwnWord type w) t are = (stores_is w, tt)
  store_is (KnownElement type w n) t are = (stores_is t, store_known_is type w n t)
  store_is (OtherElement type w s) t are =
      let offset = stored_offset type s.offset in
      store_after_is type w s.small (or_zero offset) (without offset s.whole s.first) t
      (without_is offset s.whole s.first are.whole are.first)

  -- ---- channels

  link_is : (n : ℕ) → AllByRecursion P (link_code n)
  link_is n = (
    operates_is MINIMUM_INTEGER,
    by_test (nat_eq n 0) [] (Direct fun.LoadNonLocalPointer (pos n) ∷ []) tt
        (direct fun.LoadNonLocalPointer (pos n) tt, tt),
  )

  channel_is : (h : Option Home) → AllByRecursion P (channel_code h)
  channel_is (Some (Link n)) = link_is n
  channel_is (Some (Word w)) = (points_is w, tt)
  channel_is (Some (Passed w)) = (points_is w, tt)
  channel_is h = tt

  address_of_is : (target : Target) → TargetHas P target → AllByRecursion P (target_address target)
  address_of_is NoTarget are = tt
  address_of_is (OwnWord type w) are = (points_is w, tt)
  address_of_is (KnownElement type w n) are = known_address_is type w n
  address_of_is (OtherElement type w s) are =
      all_both P s.whole (subscript_code type w) are.whole (subscript_code_is type w)

  pub cleaned_is : (target : Target) → AllByRecursion P (cleaned target)
  cleaned_is (OwnWord value_type.Byte w) = (points_is w, (operates_is LOAD_BYTE, (stores_is w, tt)))
  cleaned_is other = tt

  message_is : (source : Target) (t : ℕ) (value : List Piece) → TargetHas P source → AllByRecursion P value
      → AllByRecursion P (message_code source t value)
  message_is NoTarget t value are others =
      all_both P value (stores t ∷ points t ∷ []) others (stores_is t, (points_is t, tt))
  message_is source t value are others = address_of_is source are

  -- ---- tests

  pub forgets_is : (shows : Bool) (test : Option Tested) → AllByRecursion P (forgets shows test)
  forgets_is true None = (adds_is (pos 0), tt)
  forgets_is shows test = tt

  -- ---- declarations

  spread_is : (moves_left word count done : ℕ) → AllByRecursion P (spread moves_left word count done)
  spread_is zero word count done = tt
  spread_is (suc more) word count done =
      let now = min done (count - done) in
      by_test (nat_lt done count) (moves now word (word_after word done) ++ spread more word count (done + now)) []
      (all_both P (moves now word (word_after word done)) (spread more word count (done + now))
      (moves_is now word (word_after word done)) (spread_is more word count (done + now))) tt

  zero_is : (size : Option Expression) (word count : ℕ) → AllByRecursion P (zero_code size word count)
  zero_is None word count = (constant_is (pos 0), (stores_is word, tt))
  zero_is (Some size) word count = (
    constant_is (pos 0),
    (
      stores_is (word_after word count),
      all_both P (moves 1 (word_after word count) word) (spread (count - 1) word count 1)
          (moves_is 1 (word_after word count) word) (spread_is (count - 1) word count 1),
    ),
  )

  zero_names_is : (size : Option Expression) (count : ℕ) (names : List (List ℕ)) (word : ℕ)
      → AllByRecursion P (zero_names size count names word)
  zero_names_is size count [] word = tt
  zero_names_is size count (name ∷ names) word =
      all_both P (zero_code size word count) (zero_names size count names (word_after word count))
      (zero_is size word count) (zero_names_is size count names (word_after word count))

  pub declaration_is : (es : List Entry) (d : Declaration) (top : ℕ) → AllByRecursion P (declaration_code es d top)
  declaration_is es (Constants c) top = tt
  declaration_is es (Variables n) top =
      zero_names_is n.size (words_in es n.value_type n.size) (as_list n.names) top
  declaration_is es (Channels n) top = tt

  -- ---- loops

  pub loop_start_is : (word : ℕ) (base count : ℤ) → AllByRecursion P (loop_start word base count)
  loop_start_is word base count =
      (constant_is base, (stores_is word, (constant_is count, (stores_is (word_after word 1), tt))))

  -- ---- lines

  module _ (hs : List Home) (tables : HomesHave P hs) (es : List Entry) where
    mutual
      pub expression_is : (t : ℕ) (e : Expression)
          → AllByRecursion P (expression_code hs es t e)
      expression_is t (Alone x) =
          constant_or_is (exact_value (bound_of es (Alone x))) (term_code hs es t x) (term_is t x)
      expression_is t (Prefixed op x) =
          constant_or_is (exact_value (bound_of es (Prefixed op x))) (term_code hs es t x ++ prefix_code op)
          (all_both P (term_code hs es t x) (prefix_code op) (term_is t x) (prefix_is op))
      expression_is t (Paired op x y) =
          let a = exact_value (bound_of_term es x) in
          let b = exact_value (bound_of_term es y) in
          let first = beside es x (term_code hs es t x) (term_code hs es (word_after t 1) x) in
          let second = beside es y (term_code hs es t y) (term_code hs es (word_after t 1) y) in
          constant_or_is (exact_value (bound_of es (Paired op x y)))
          (pushed (pushes_of op a b) t first second ++ pair_code op a b)
          (all_both P (pushed (pushes_of op a b) t first second) (pair_code op a b)
          (pushed_is t first second (record { first = term_is t x; second = term_is (word_after t 1) x })
          (record { first = term_is t y; second = term_is (word_after t 1) y }) op a b) (pair_is op a b))
      expression_is t (Chained op xs) =
          constant_or_is (exact_value (bound_of es (Chained op xs))) (terms_code hs es t op (front_in es op xs) xs)
          (terms_are t op (front_in es op xs) xs)

      first_is : (t : ℕ) (e : Expression) → AllByRecursion P (first_code hs es t e)
      first_is t (Chained op xs) = first_of_terms_is t xs
      first_is t e = tt

      first_of_terms_is : (t : ℕ) (xs : Terms)
          → AllByRecursion P (first_of_terms hs es t xs)
      first_of_terms_is t (Two x y) = term_is t x
      first_of_terms_is t (Then xs x) = first_of_terms_is t xs

      terms_are : (t : ℕ) (op : ChainOperator) (front : Option Front) (xs : Terms)
          → AllByRecursion P (terms_code hs es t op front xs)
      terms_are t op front (Two x y) =
          let added = added_by op (exact_value (bound_of_term es y)) in
          let first = beside es x (term_code hs es t x) (term_code hs es (word_after t 1) x) in
          let second = beside es y (term_code hs es t y) (term_code hs es (word_after t 1) y) in
          constant_or_is (covered front 2) (first_two t op added first second)
          (first_two_is t first second (record { first = term_is t x; second = term_is (word_after t 1) x })
          (record { first = term_is t y; second = term_is (word_after t 1) y }) op added)
      terms_are t op front (Then xs x) =
          let right = term_code hs es (word_after t 1) x in
          let added = added_by op (exact_value (bound_of_term es x)) in
          let pushed_one = onto false t (is_small_term es x) right in
          let all = pushed_one ++ operates (chain_operation op) ∷ [] in
          all_both P (terms_code hs es t op front xs)
          (unless (is_known (covered front (count_of xs + 1))) (adds_or added all)) (terms_are t op front xs)
          (unless_is (is_known (covered front (count_of xs + 1))) (adds_or added all)
          (adds_or_is added all (all_both P pushed_one (operates (chain_operation op) ∷ [])
          (onto_is false t (is_small_term es x) right (term_is (word_after t 1) x)) (operates_is (chain_operation op), tt))))

      term_is : (t : ℕ) (x : Term) → AllByRecursion P (term_code hs es t x)
      term_is t (Number value) = one (constant value) (constant_is value)
      term_is t (Byte byte) = one (constant (pos byte)) (constant_is (pos byte))
      term_is t (Truth holds) = one (constant (truth holds)) (constant_is (truth holds))
      term_is t MostPos = one (constant greatest_word) (constant_is greatest_word)
      term_is t MostNeg = one (constant least_word) (constant_is least_word)
      term_is t (Named name) =
          constant_or_is (exact_value (bound_of_term es (Named name)))
          (scalar_code (is_byte_reference (meaning_in name es)) (home_of hs es name))
          (scalar_is (is_byte_reference (meaning_in name es)) (home_of hs es name))
      term_is t (Element name e) =
          element_is (home_of hs es name) (meaning_in name es) (single (range_found (bound_of es e)))
          (record {
            whole = expression_code hs es t e;
            offset = offset_of es e;
            first = first_code hs es t e;
            small = is_small es e;
          }) (home_has P hs es name tables) (record { whole = expression_is t e; first = first_is t e })
      term_is t (Bracketed e) = expression_is t e
      term_is t (Converted to x) = term_is t x

    subscript_is : (t : ℕ) (e : Expression) → SubscriptHas P (subscript_of hs es t e)
    subscript_is t e = record { whole = expression_is t e; first = first_is t e }

    target_is : (t : ℕ) (p : Place) → TargetHas P (target_of hs es t p)
    target_is t p = by_subscript p.subscript
      where
        by_subscript : (o : Option Expression) → TargetHas P (elim o [
          | None ↦ whole_target (home_of hs es p.name) (meaning_in p.name es)
          | Some e ↦ element_target (home_of hs es p.name) (meaning_in p.name es) (single (range_found (bound_of es e)))
              (subscript_of hs es t e)
        ])
        by_subscript None = whole_target_is (home_of hs es p.name) (meaning_in p.name es)
        by_subscript (Some e) =
            element_target_is (home_of hs es p.name) (meaning_in p.name es) (single (range_found (bound_of es e)))
            (subscript_of hs es t e) (subscript_is t e)

    pub assign_is : (t : ℕ) (target : Place) (value : Expression)
        → AllByRecursion P (assign_code hs es t target value)
    assign_is t target value =
        all_both P (expression_code hs es t value) (store_code (target_of hs es (word_after t 1) target) t)
        (expression_is t value)
        (store_is (target_of hs es (word_after t 1) target) t (target_is (word_after t 1) target))

    exchange_is : (channel : Place) (op : ℤ) → AllByRecursion P (exchange hs es channel op)
    exchange_is channel op =
        let length = length_of (carried (meaning_in channel.name es)) in
        all_both P (channel_code (channel_home hs es channel)) (constant length ∷ operates op ∷ [])
        (channel_is (channel_home hs es channel)) (constant_is length, (operates_is op, tt))

    pub input_is : (t : ℕ) (channel target : Place)
        → AllByRecursion P (input_code hs es t channel target)
    input_is t channel target =
        let place = target_of hs es t target in
        all_both P (target_address place ++ exchange hs es channel INPUT) (cleaned place)
        (all_both P (target_address place) (exchange hs es channel INPUT)
        (address_of_is place (target_is t target)) (exchange_is channel INPUT)) (cleaned_is place)

    source_of_term_is : (t : ℕ) (x : Term) → TargetHas P (source_of_term hs es t x)
    source_of_term_is t (Named name) = target_is t (record { name = name; subscript = None })
    source_of_term_is t (Element name e) = target_is t (record { name = name; subscript = Some e })
    source_of_term_is t x = tt

    source_is : (t : ℕ) (e : Expression) → TargetHas P (source_of hs es t e)
    source_is t (Alone x) = source_of_term_is t x
    source_is t e = tt

    pub output_is : (t : ℕ) (channel : Place) (value : Expression)
        → AllByRecursion P (output_code hs es t channel value)
    output_is t channel value =
        all_both P (message_code (source_of hs es t value) t (expression_code hs es t value))
        (exchange hs es channel OUTPUT)
        (message_is (source_of hs es t value) t (expression_code hs es t value) (source_is t value)
        (expression_is t value)) (exchange_is channel OUTPUT)
