-- Where each range in a scope lies within its type, the range of an expression lies within the type of the expression.
use Rattle.std.proofs.Common.{◌≡◌, ℕ, ℤ, pos, Bool, true, false, cond, List, [], ◌∷◌, Option, Some, None, Ok}
use Rattle.std.proofs.Common.{refl, subst, ◌∙◌, arith}
use Rattle.std.proofs.lemmas.Int.{ints}
use Rattle.std.specs.Prelude.{bytes_eq, int_le, unwrap_or, unsigned_abs, ◌*ℤ◌, ◌^◌, FitsSigned, IfSome}
use Rattle.std.specs.Int.{w32}
use Rattle.std.proofs.lemmas.Bool.{and_parts}
use Rattle.std.proofs.lemmas.Option.{cond_some}
use Rattle.word_arithmetic.specs.Word.{least_word, greatest_word, word_not, shifted_left, shifted_right}
use Rattle.word_arithmetic.specs.Range.{Ends, InRange, IsRange, constant, full, bytes, fitting, range_between}
use Rattle.word_arithmetic.specs.Range.{is_within}
use Rattle.word_arithmetic.specs.Range.{is_not_negative, zero_to, not_range, shift_left_range, shift_right_range}
use Rattle.word_arithmetic.specs.Binary.{computed, result_range}
use Rattle.word_arithmetic.specs.Unary.{unary_result_range}
use Rattle.word_arithmetic.specs.declared.binary.Binary.{Binary}
use Rattle.word_arithmetic.specs.declared.binary.Binary.TheVariants as binary
use Rattle.word_arithmetic.specs.declared.unary.Unary.TheVariants as unary
use Rattle.word_arithmetic.proofs.BinaryLaws.{binary_gives_words}
use Rattle.word_arithmetic.proofs.EndsLaws.{fitting_some, words_in_order_are_ranges}
use Rattle.word_arithmetic.proofs.RangesOfRanges.{binary_gives_ranges, unary_gives_ranges}
use Rattle.word_arithmetic.proofs.WordLaws.{is_word_out}
use Rattle.word_arithmetic.proofs.BitLaws.{not_fits}
use Rattle.occam_parser.specs.declared.tree.ValueType.{ValueType}
use Rattle.occam_parser.specs.declared.tree.ValueType.TheVariants as value_type
use Rattle.occam_parser.specs.declared.tree.PrefixOperator.TheVariants as prefix
use Rattle.occam_parser.specs.declared.tree.PairOperator.TheVariants as pair
use Rattle.occam_parser.specs.declared.tree.ArithmeticPair.{ArithmeticPair}
use Rattle.occam_parser.specs.declared.tree.ArithmeticPair.TheVariants as arithmetic
use Rattle.occam_parser.specs.declared.tree.ChainOperator.TheVariants as chain
use Rattle.occam_parser.specs.declared.tree.ArithmeticChain.{ArithmeticChain}
use Rattle.occam_parser.specs.Expressions.{Expression, Alone, Prefixed, Paired, Chained, Terms, Two, Then, Term}
use Rattle.occam_parser.specs.Expressions.{Number, Byte, Truth, MostPos, MostNeg, Named, Element, Bracketed, Converted}
use Rattle.occam_parser.specs.Words.{has_words, have_words, has_words_in}
use Rattle.scalar_ranges.specs.declared.types.ExprType.{ExprType}
use Rattle.scalar_ranges.specs.declared.types.ExprType.TheVariants as types
use Rattle.scalar_ranges.specs.Entries.{Meaning, Constant, Scalar, Array, Entry}
use Rattle.scalar_ranges.specs.Entries.{meaning_in, type_range}
use Rattle.scalar_ranges.specs.Bounds.{Bound, Exactly, Within, ends, range_of_bound, ranges_give, gives, by_counts}
use Rattle.scalar_ranges.specs.Bounds.{right_range, arithmetic_bound, pair_bound, chain_bound, binary_bound, not_bound}
use Rattle.scalar_ranges.specs.Bounds.{prefix_bound, named_bound, element_bound, is_subscript, converted_bound}
use Rattle.scalar_ranges.specs.Bounds.{bound_of}
use Rattle.scalar_ranges.specs.Bounds.{bound_of_terms, bound_of_term}
use Rattle.scalar_ranges.specs.Types.{type_of, type_of_terms, type_of_term, type_of_values, named_type, element_type}
use Rattle.scalar_ranges.specs.Types.{subscripted, prefix_type, pair_type, chain_type, converted_type}
use Rattle.scalar_ranges.specs.Values.{operation_of, shifted, counts}
use Rattle.scalar_ranges.specs.Steps.{both_some}
use Rattle.scalar_ranges.proofs.Parts.{both_ok, then_ok, or_ok, mapped, both_are, passed_ok, ok_same}
use Rattle.program_meaning.specs.RangesWithin.{RangeWithin}
use Rattle.program_meaning.proofs.ValuesTyped.{byte_in_range, arithmetic_word}
use Rattle.usage_checks.specs.TypedRanges.{IsInType, AreInTypes}

-- ---- words

abbrev IsOfWords : Bound → Type 0
IsOfWords b = RangeWithin (ends b) full

constant_fits : (v : ℤ) → RangeWithin (constant v) full → FitsSigned w32 v
constant_fits v h = omega (arith, ints, h.0, h.1)

fits_constant : (v : ℤ) → FitsSigned w32 v → RangeWithin (constant v) full
fits_constant v h = (omega (arith, ints, h), omega (arith, ints, h))

range_words : (r : Ends) → IsRange r → RangeWithin r full
range_words r h =
    let low = h.lo_fits in let high = h.hi_fits in (omega (arith, ints, low), omega (arith, ints, high))

between_is_range : (lo hi : ℤ) (r : Ends) → range_between lo hi ≡ Some r → IsRange r
between_is_range lo hi r is = ((words_in_order_are_ranges lo hi r).0 is).0

some_value : (P : ℤ → Type 0) (o : Option ℤ) (v : ℤ) → o ≡ Some v → IfSome o P → P v
some_value P o v is h = subst (λ o. IfSome o P) is h

ranges_words : (range : Ends → Ends → Option Ends)
    → ((r s t : Ends) → IsRange r → IsRange s → range r s ≡ Some t → RangeWithin t full) → (b c d : Bound)
    → ranges_give range b c ≡ Ok d → IsOfWords d
ranges_words range words b c d is =
    let some = mapped Within (both_some (range_of_bound b) (range_of_bound c) range) d (or_ok _ _ d is) in
    let both = both_are (range_of_bound b) (range_of_bound c) range some.0 some.1 in
    subst IsOfWords some.2
    (words both.0 both.1 some.0 (between_is_range (ends b).lo (ends b).hi both.0 both.2)
    (between_is_range (ends c).lo (ends c).hi both.1 both.3) both.4)

gives_words : (value : ℤ → ℤ → Option ℤ) (range : Ends → Ends → Option Ends)
    → ((x y : ℤ) → FitsSigned w32 x → FitsSigned w32 y → IfSome (value x y) (FitsSigned w32))
    → ((r s t : Ends) → IsRange r → IsRange s → range r s ≡ Some t → RangeWithin t full) → (b c d : Bound)
    → IsOfWords b → IsOfWords c → gives value range b c ≡ Ok d → IsOfWords d
gives_words value range word words (Exactly x) (Exactly y) d h g is =
    let some = mapped Exactly (value x y) d (or_ok _ _ d is) in
    subst IsOfWords some.2
    (fits_constant some.0 (some_value (FitsSigned w32) (value x y) some.0 some.1
    (word x y (constant_fits x h) (constant_fits y g))))
gives_words value range word words (Exactly x) (Within s) d h g is =
    ranges_words range words (Exactly x) (Within s) d is
gives_words value range word words (Within r) c d h g is = ranges_words range words (Within r) c d is

binary_words : (op : Binary) (b c d : Bound) → IsOfWords b → IsOfWords c → binary_bound op b c ≡ Ok d → IsOfWords d
binary_words op b c d h g is =
    gives_words (computed op) (result_range op) (binary_gives_words op)
    (λ r s t m n same. range_words t (binary_gives_ranges op r s t m n same)) b c d h g is

zero_words : (v : ℤ) → FitsSigned w32 v → RangeWithin (zero_to v) full
zero_words v h = (omega (arith, ints), omega (arith, ints, h))

fitting_words : (e t : Ends) → fitting e ≡ Some t → RangeWithin t full
fitting_words e t is =
    let f = fitting_some e t is in
    let low = f.lo in
    let high = f.hi in
    subst (λ r. RangeWithin r full) f.same (omega (arith, ints, low), omega (arith, ints, high))

full_words : RangeWithin full full
full_words = (omega (arith, ints), omega (arith, ints))

or_full_words : (e : Ends) (o : Option Ends) → fitting e ≡ o → RangeWithin (unwrap_or o full) full
or_full_words e None is = full_words
or_full_words e (Some t) is = fitting_words e t is

left_words : (r s : Ends) → RangeWithin (shift_left_range r s) full
left_words r s = by_sign (is_not_negative r)
  where
    by_sign : (t : Bool) → RangeWithin (cond t
        (unwrap_or (fitting (zero_to (r.hi *ℤ pos (2 ^ unsigned_abs s.hi)))) full) full) full
    by_sign true = or_full_words (zero_to (r.hi *ℤ pos (2 ^ unsigned_abs s.hi))) _ refl
    by_sign false = full_words

right_words : (r : Ends) → IsRange r → RangeWithin (shift_right_range r) full
right_words r h = by_sign (is_not_negative r)
  where
    by_sign : (t : Bool) → RangeWithin (cond t (zero_to r.hi) full) full
    by_sign true = zero_words r.hi h.hi_fits
    by_sign false = full_words

arithmetic_words : (op : ArithmeticPair) (b c d : Bound) → IsOfWords b → IsOfWords c
    → arithmetic_bound op b c ≡ Ok d → IsOfWords d
arithmetic_words arithmetic.Subtract b c d h g is = binary_words binary.Subtract b c d h g is
arithmetic_words arithmetic.Divide b c d h g is = binary_words binary.Divide b c d h g is
arithmetic_words arithmetic.Remainder b c d h g is = binary_words binary.Remainder b c d h g is
arithmetic_words arithmetic.Minus b c d h g is = binary_words binary.Difference b c d h g is
arithmetic_words arithmetic.ShiftLeft b c d h g is =
    gives_words (shifted shifted_left) (by_counts shift_left_range) (arithmetic_word arithmetic.ShiftLeft)
    (λ r s t m n same.
    let all = cond_some (is_within s counts) (shift_left_range r s) t same in
    subst (λ q. RangeWithin q full) all.1 (left_words r s)) b c d h g is
arithmetic_words arithmetic.ShiftRight b c d h g is =
    gives_words (shifted shifted_right) (by_counts right_range) (arithmetic_word arithmetic.ShiftRight)
    (λ r s t m n same.
    let all = cond_some (is_within s counts) (right_range r s) t same in
    subst (λ q. RangeWithin q full) all.1 (right_words r m)) b c d h g is

not_words : (b d : Bound) → IsOfWords b → not_bound b ≡ Ok d → IsOfWords d
unfolding unary_result_range
not_words (Exactly x) d h is =
    subst IsOfWords (ok_same (Exactly (word_not x)) d is)
    (fits_constant (word_not x) (not_fits x (constant_fits x h)))
not_words (Within r) d h is =
    let some = mapped (λ s. Within (not_range s)) (range_of_bound (Within r)) d (or_ok _ _ d is) in
    subst IsOfWords some.2
    (range_words (not_range some.0)
    (unary_gives_ranges unary.Not some.0 (not_range some.0) (between_is_range r.lo r.hi some.0 some.1) refl))

-- ---- types

-- the range of an expression lies within its type
abbrev pub IsBoundOf : ExprType → Bound → Type 0
IsBoundOf types.Int b = RangeWithin (ends b) full
IsBoundOf types.Byte b = RangeWithin (ends b) bytes
IsBoundOf types.Condition b = Unit {0}

of_type : (type : ValueType) (b : Bound) → RangeWithin (ends b) (type_range type) → IsBoundOf (type_of_values type) b
of_type value_type.Int b h = h
of_type value_type.Byte b h = h

typed_as : (type : ValueType) (t : ExprType) (b d : Bound) → type_of_values type ≡ t → b ≡ d
    → RangeWithin (ends b) (type_range type) → IsBoundOf t d
typed_as type t b d same is h = subst (IsBoundOf t) is (subst (λ u. IsBoundOf u b) same (of_type type b h))

constant_within : (r : Ends) (v : ℤ) → InRange r v → RangeWithin (constant v) r
constant_within r v h = (h.from_lo, h.to_hi)

within_itself : (r : Ends) → RangeWithin r r
within_itself r = (omega (arith, ints), omega (arith, ints))

-- ---- parts

negate_typed : (s t : ExprType) (b d : Bound) → IsBoundOf s b → prefix_type prefix.Negate s ≡ Ok t
    → prefix_bound prefix.Negate b ≡ Ok d → IsBoundOf t d
negate_typed types.Int t b d h type is =
    subst (λ u. IsBoundOf u d) (ok_same types.Int t type)
    (binary_words binary.Subtract (Exactly (pos 0)) b d (omega (arith, ints), omega (arith, ints)) h is)
negate_typed types.Byte t b d h type is = absurd (cc type)
negate_typed types.Condition t b d h type is = absurd (cc type)

bit_not_typed : (s t : ExprType) (b d : Bound) → IsBoundOf s b → prefix_type prefix.BitNot s ≡ Ok t
    → prefix_bound prefix.BitNot b ≡ Ok d → IsBoundOf t d
bit_not_typed types.Int t b d h type is =
    subst (λ u. IsBoundOf u d) (ok_same types.Int t type) (not_words b d h is)
bit_not_typed types.Byte t b d h type is = absurd (cc type)
bit_not_typed types.Condition t b d h type is = absurd (cc type)

condition_typed : (s t : ExprType) (d : Bound) → prefix_type prefix.Not s ≡ Ok t → IsBoundOf t d
condition_typed types.Condition t d type = subst (λ u. IsBoundOf u d) (ok_same types.Condition t type) tt
condition_typed types.Int t d type = absurd (cc type)
condition_typed types.Byte t d type = absurd (cc type)

pair_typed : (op : ArithmeticPair) (s u t : ExprType) (b c d : Bound) → IsBoundOf s b → IsBoundOf u c
    → pair_type (pair.Arithmetic op) s u ≡ Ok t → arithmetic_bound op b c ≡ Ok d → IsBoundOf t d
pair_typed op types.Int types.Int t b c d h g type is =
    subst (λ u. IsBoundOf u d) (ok_same types.Int t type) (arithmetic_words op b c d h g is)
pair_typed op s u t b c d h g type is = absurd (cc type)

compared_typed : (op : _) (s u t : ExprType) (d : Bound) → pair_type (pair.Comparison op) s u ≡ Ok t → IsBoundOf t d
compared_typed op types.Int types.Int t d type = subst (λ u. IsBoundOf u d) (ok_same types.Condition t type) tt
compared_typed op types.Byte types.Byte t d type = subst (λ u. IsBoundOf u d) (ok_same types.Condition t type) tt
compared_typed op s u t d type = absurd (cc type)

chain_typed : (op : ArithmeticChain) (s u t : ExprType) (b c d : Bound) → IsBoundOf s b → IsBoundOf u c
    → chain_type (chain.Arithmetic op) s u ≡ Ok t → chain_bound (chain.Arithmetic op) b c ≡ Ok d → IsBoundOf t d
chain_typed op types.Int types.Int t b c d h g type is =
    subst (λ u. IsBoundOf u d) (ok_same types.Int t type) (binary_words (operation_of op) b c d h g is)
chain_typed op s u t b c d h g type is = absurd (cc type)

logic_typed : (op : _) (s u t : ExprType) (d : Bound) → chain_type (chain.Logic op) s u ≡ Ok t → IsBoundOf t d
logic_typed op types.Condition types.Condition t d type =
    subst (λ u. IsBoundOf u d) (ok_same types.Condition t type) tt
logic_typed op s u t d type = absurd (cc type)

named_typed : (m : Option Meaning) (t : ExprType) (d : Bound) → ((k : Meaning) → m ≡ Some k → IsInType k)
    → named_type m ≡ Ok t → named_bound m ≡ Ok d → IsBoundOf t d
named_typed None t d typed type is = absurd (cc type)
named_typed (Some (Constant type None)) t d typed same is =
    typed_as type t (Within (type_range type)) d (ok_same _ t same) (ok_same _ d is) (within_itself (type_range type))
named_typed (Some (Constant type (Some v))) t d typed same is =
    typed_as type t (Exactly v) d (ok_same _ t same) (ok_same _ d is)
    (constant_within (type_range type) v (typed _ refl))
named_typed (Some (Scalar kind type range)) t d typed same is =
    typed_as type t (Within range) d (ok_same _ t same) (ok_same _ d is) (typed _ refl)
named_typed (Some m) t d typed same is = absurd (cc same)

subscript_typed : (a s t : ExprType) → subscripted a s ≡ Ok t → a ≡ t
subscript_typed a types.Int t is = ok_same a t is
subscript_typed a types.Byte t is = absurd (cc is)
subscript_typed a types.Condition t is = absurd (cc is)

element_typed : (m : Option Meaning) (a t : ExprType) (c d : Bound) → ((k : Meaning) → m ≡ Some k → IsInType k)
    → element_type m ≡ Ok a → a ≡ t → element_bound m c ≡ Ok d → IsBoundOf t d
element_typed (Some (Array kind elements None range)) a t c d typed type same is =
    typed_as elements t (Within range) d (ok_same _ a type ∙ same) (ok_same _ d is) (typed _ refl)
element_typed (Some (Array kind elements (Some size) range)) a t c d typed type same is =
    typed_as elements t (Within range) d (ok_same _ a type ∙ same)
    (passed_ok (is_subscript size (ends c)) _ (Within range) d is).1 (typed _ refl)
element_typed None a t c d typed type same is = absurd (cc type)
element_typed (Some m) a t c d typed type same is = absurd (cc type)

converted_typed : (to : ValueType) (s t : ExprType) (c d : Bound) → converted_type to s ≡ Ok t
    → converted_bound to c ≡ Ok d → IsBoundOf t d
converted_typed to types.Condition t c d type is = absurd (cc type)
converted_typed to types.Int t c d type is =
    let lies = passed_ok (is_within (ends c) (type_range to)) _ c d is in
    let both = and_parts (int_le (type_range to).lo (ends c).lo) (int_le (ends c).hi (type_range to).hi) lies.0 in
    typed_as to t c d (ok_same _ t type) lies.1 (omega (arith, ints, both.0), omega (arith, ints, both.1))
converted_typed to types.Byte t c d type is =
    let lies = passed_ok (is_within (ends c) (type_range to)) _ c d is in
    let both = and_parts (int_le (type_range to).lo (ends c).lo) (int_le (ends c).hi (type_range to).hi) lies.0 in
    typed_as to t c d (ok_same _ t type) lies.1 (omega (arith, ints, both.0), omega (arith, ints, both.1))

-- ---- expressions

in_type_by : (t : Bool) (k m : Meaning) (rest : Option Meaning) → cond t (Some k) rest ≡ Some m → IsInType k
    → (rest ≡ Some m → IsInType m) → IsInType m
in_type_by true k m rest is h further = let same : k ≡ m = cc in subst IsInType same h
in_type_by false k m rest is h further = further is

in_type : (es : List Entry) (name : List ℕ) (m : Meaning) → AreInTypes es → meaning_in name es ≡ Some m → IsInType m
in_type [] name m all is = absurd (cc is)
in_type (e ∷ es) name m all is =
    in_type_by (bytes_eq e.name name) e.meaning m (meaning_in name es) is all.0 (in_type es name m all.1)

module _ (es : List Entry) (all : AreInTypes es) where
  mutual
    expression_typed : (e : Expression) (t : ExprType) (d : Bound) → has_words e ≡ true → type_of es e ≡ Ok t
        → bound_of es e ≡ Ok d → IsBoundOf t d
    expression_typed (Alone a) t d w type is = term_typed a t d w type is
    expression_typed (Prefixed prefix.Negate a) t d w type is =
        let h = then_ok (type_of_term es a) (prefix_type prefix.Negate) t type in
        let b = then_ok (bound_of_term es a) (prefix_bound prefix.Negate) d is in
        negate_typed h.0 t b.0 d (term_typed a h.0 b.0 w h.1 b.1) h.2 b.2
    expression_typed (Prefixed prefix.BitNot a) t d w type is =
        let h = then_ok (type_of_term es a) (prefix_type prefix.BitNot) t type in
        let b = then_ok (bound_of_term es a) (prefix_bound prefix.BitNot) d is in
        bit_not_typed h.0 t b.0 d (term_typed a h.0 b.0 w h.1 b.1) h.2 b.2
    expression_typed (Prefixed prefix.Not a) t d w type is =
        let h = then_ok (type_of_term es a) (prefix_type prefix.Not) t type in condition_typed h.0 t d h.2
    expression_typed (Paired (pair.Arithmetic op) a b) t d w type is =
        let h = both_ok (type_of_term es a) (type_of_term es b) (pair_type (pair.Arithmetic op)) t type in
        let c = both_ok (bound_of_term es a) (bound_of_term es b) (pair_bound (pair.Arithmetic op)) d is in
        let v = and_parts (has_words_in a) (has_words_in b) w in
        pair_typed op h.0 h.1 t c.0 c.1 d (term_typed a h.0 c.0 v.0 h.2 c.2) (term_typed b h.1 c.1 v.1 h.3 c.3) h.4 c.4
    expression_typed (Paired (pair.Comparison op) a b) t d w type is =
        let h = both_ok (type_of_term es a) (type_of_term es b) (pair_type (pair.Comparison op)) t type in
        compared_typed op h.0 h.1 t d h.4
    expression_typed (Chained (chain.Arithmetic op) ts) t d w type is = terms_typed op ts t d w type is
    expression_typed (Chained (chain.Logic op) ts) t d w type is = logic_terms_typed op ts t d type

    terms_typed : (op : ArithmeticChain) (ts : Terms) (t : ExprType) (d : Bound) → have_words ts ≡ true
        → type_of_terms es (chain.Arithmetic op) ts ≡ Ok t → bound_of_terms es (chain.Arithmetic op) ts ≡ Ok d
        → IsBoundOf t d
    terms_typed op (Two a b) t d w type is =
        let h = both_ok (type_of_term es a) (type_of_term es b) (chain_type (chain.Arithmetic op)) t type in
        let c = both_ok (bound_of_term es a) (bound_of_term es b) (chain_bound (chain.Arithmetic op)) d is in
        let v = and_parts (has_words_in a) (has_words_in b) w in
        chain_typed op h.0 h.1 t c.0 c.1 d (term_typed a h.0 c.0 v.0 h.2 c.2) (term_typed b h.1 c.1 v.1 h.3 c.3) h.4 c.4
    terms_typed op (Then ts b) t d w type is =
        let h = both_ok (type_of_terms es (chain.Arithmetic op) ts) (type_of_term es b)
        (chain_type (chain.Arithmetic op)) t type in
        let c = both_ok (bound_of_terms es (chain.Arithmetic op) ts) (bound_of_term es b)
        (chain_bound (chain.Arithmetic op)) d is in
        let v = and_parts (have_words ts) (has_words_in b) w in
        chain_typed op h.0 h.1 t c.0 c.1 d (terms_typed op ts h.0 c.0 v.0 h.2 c.2) (term_typed b h.1 c.1 v.1 h.3 c.3)
        h.4 c.4

    logic_terms_typed : (op : _) (ts : Terms) (t : ExprType) (d : Bound)
        → type_of_terms es (chain.Logic op) ts ≡ Ok t → IsBoundOf t d
    logic_terms_typed op (Two a b) t d type =
        let h = both_ok (type_of_term es a) (type_of_term es b) (chain_type (chain.Logic op)) t type in
        logic_typed op h.0 h.1 t d h.4
    logic_terms_typed op (Then ts b) t d type =
        let h = both_ok (type_of_terms es (chain.Logic op) ts) (type_of_term es b) (chain_type (chain.Logic op)) t type
        in
        logic_typed op h.0 h.1 t d h.4

    term_typed : (a : Term) (t : ExprType) (d : Bound) → has_words_in a ≡ true → type_of_term es a ≡ Ok t
        → bound_of_term es a ≡ Ok d → IsBoundOf t d
    term_typed (Number value) t d w type is =
        typed_as value_type.Int t (Exactly value) d (ok_same types.Int t type) (ok_same _ d is)
        (fits_constant value (is_word_out value w))
    term_typed (Byte byte) t d w type is =
        typed_as value_type.Byte t (Exactly (pos byte)) d (ok_same types.Byte t type) (ok_same _ d is)
        (constant_within bytes (pos byte) (byte_in_range byte w))
    term_typed (Truth holds) t d w type is = subst (λ u. IsBoundOf u d) (ok_same types.Condition t type) tt
    term_typed MostPos t d w type is =
        typed_as value_type.Int t (Exactly greatest_word) d (ok_same types.Int t type) (ok_same _ d is)
        (omega (arith, ints), omega (arith, ints))
    term_typed MostNeg t d w type is =
        typed_as value_type.Int t (Exactly least_word) d (ok_same types.Int t type) (ok_same _ d is)
        (omega (arith, ints), omega (arith, ints))
    term_typed (Named name) t d w type is =
        named_typed (meaning_in name es) t d (λ m. in_type es name m all) type is
    term_typed (Element name e) t d w type is =
        let h = both_ok (element_type (meaning_in name es)) (type_of es e) subscripted t type in
        let b = then_ok (bound_of es e) (element_bound (meaning_in name es)) d is in
        element_typed (meaning_in name es) h.0 t b.0 d (λ m. in_type es name m all) h.2
        (subscript_typed h.0 h.1 t h.4) b.2
    term_typed (Bracketed e) t d w type is = expression_typed e t d w type is
    term_typed (Converted to a) t d w type is =
        let h = then_ok (type_of_term es a) (converted_type to) t type in
        let b = then_ok (bound_of_term es a) (converted_bound to) d is in
        converted_typed to h.0 t b.0 d h.2 b.2

pub bound_typed : (es : List Entry) (e : Expression) (t : ExprType) (d : Bound) → AreInTypes es → has_words e ≡ true
    → type_of es e ≡ Ok t → bound_of es e ≡ Ok d → IsBoundOf t d
bound_typed es e t d all words type is = expression_typed es all e t d words type is
