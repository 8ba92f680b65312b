-- Where each range in a scope has numbers, so has the bound of an expression.
use Rattle.std.proofs.Common.{◌≡◌, ℕ, ℤ, pos, negsuc, Bool, true, false, cond, List, [], ◌∷◌, Option, Some, None, Ok}
use Rattle.std.proofs.Common.{refl, subst, arith}
use Rattle.std.proofs.lemmas.Int.{ints}
use Rattle.std.specs.Prelude.{bytes_eq, unwrap_or, unsigned_abs, ◌*ℤ◌, ◌≤ℤ◌, ◌^◌, FitsSigned, IfSome}
use Rattle.std.specs.Int.{w32}
use Rattle.std.proofs.lemmas.Bool.{and_parts}
use Rattle.std.proofs.lemmas.Option.{cond_some}
use Rattle.small_laws.proofs.Comparisons.{int_le-true}
use Rattle.word_arithmetic.specs.Word.{least_word, greatest_word, word_not}
use Rattle.word_arithmetic.specs.Word.{shifted_left, shifted_right}
use Rattle.word_arithmetic.specs.Range.{Ends, IsRange, constant, full, fitting, range_between, is_within, truths}
use Rattle.word_arithmetic.specs.Range.{is_not_negative, zero_to, not_range, shift_left_range}
use Rattle.word_arithmetic.specs.Binary.{computed, result_range}
use Rattle.word_arithmetic.specs.Unary.{unary_result_range}
use Rattle.word_arithmetic.specs.declared.binary.Binary.{Binary}
use Rattle.word_arithmetic.specs.declared.binary.Binary.TheVariants as binary
use Rattle.word_arithmetic.specs.declared.unary.Unary.TheVariants as unary
use Rattle.word_arithmetic.proofs.BinaryLaws.{binary_gives_words}
use Rattle.word_arithmetic.proofs.EndsLaws.{fitting_some, words_in_order_are_ranges}
use Rattle.word_arithmetic.proofs.RangesOfRanges.{binary_gives_ranges, unary_gives_ranges}
use Rattle.word_arithmetic.proofs.WordLaws.{is_word_out}
use Rattle.word_arithmetic.proofs.BitLaws.{not_fits}
use Rattle.occam_parser.specs.declared.tree.ValueType.{ValueType}
use Rattle.occam_parser.specs.declared.tree.ValueType.TheVariants as value_type
use Rattle.occam_parser.specs.declared.tree.PrefixOperator.{PrefixOperator}
use Rattle.occam_parser.specs.declared.tree.PrefixOperator.TheVariants as prefix
use Rattle.occam_parser.specs.declared.tree.PairOperator.{PairOperator}
use Rattle.occam_parser.specs.declared.tree.PairOperator.TheVariants as pair
use Rattle.occam_parser.specs.declared.tree.ArithmeticPair.{ArithmeticPair}
use Rattle.occam_parser.specs.declared.tree.ArithmeticPair.TheVariants as arithmetic
use Rattle.occam_parser.specs.declared.tree.ChainOperator.{ChainOperator}
use Rattle.occam_parser.specs.declared.tree.ChainOperator.TheVariants as chain
use Rattle.occam_parser.specs.Expressions.{Expression, Alone, Prefixed, Paired, Chained, Terms, Two, Then, Term}
use Rattle.occam_parser.specs.Expressions.{Number, Byte, Truth, MostPos, MostNeg, Named, Element, Bracketed, Converted}
use Rattle.occam_parser.specs.Words.{has_words, have_words, has_words_in}
use Rattle.scalar_ranges.specs.Entries.{Meaning, Constant, Scalar, Array, Entry}
use Rattle.scalar_ranges.specs.Entries.{meaning_in, type_range}
use Rattle.scalar_ranges.specs.Bounds.{Bound, Exactly, Within, ends, range_of_bound, ranges_give, gives, by_counts}
use Rattle.scalar_ranges.specs.Bounds.{right_range, arithmetic_bound, pair_bound, chain_bound, binary_bound, not_bound}
use Rattle.scalar_ranges.specs.Bounds.{prefix_bound, named_bound, element_bound, is_subscript, converted_bound}
use Rattle.scalar_ranges.specs.Bounds.{bound_of, bound_of_terms, bound_of_term}
use Rattle.scalar_ranges.specs.Values.{operation_of, shifted, counts}
use Rattle.scalar_ranges.specs.Steps.{both_some}
use Rattle.scalar_ranges.proofs.Parts.{both_ok, then_ok, or_ok, mapped, both_are, passed_ok, ok_same}
use Rattle.program_meaning.proofs.ValuesTyped.{byte_in_range, arithmetic_word}
use Rattle.valid_code.specs.Numbers.{HasNumbers, HaveNumbers, BoundsHaveNumbers}

-- ---- ranges

abbrev IsOfNumbers : Bound → Type 0
IsOfNumbers b = IsRange (ends b)

pub one_number : (v : ℤ) → FitsSigned w32 v → IsRange (constant v)
one_number v fits = record { lo_fits = fits; hi_fits = fits; ordered = omega (arith, ints) }

pub all_words : IsRange full
all_words = record { lo_fits = omega (arith, ints); hi_fits = omega (arith, ints); ordered = omega (arith, ints) }

two_truths : IsRange truths
two_truths = record { lo_fits = omega (arith, ints); hi_fits = omega (arith, ints); ordered = omega (arith, ints) }

pub of_a_type : (type : ValueType) → IsRange (type_range type)
of_a_type value_type.Int = all_words
of_a_type value_type.Byte =
    record { lo_fits = omega (arith, ints); hi_fits = omega (arith, ints); ordered = omega (arith, ints) }

from_zero : (v : ℤ) → pos 0 ≤ℤ v → FitsSigned w32 v → IsRange (zero_to v)
from_zero v above fits =
    record { lo_fits = omega (arith, ints); hi_fits = fits; ordered = omega (arith, ints, above) }

pub between_is_range : (lo hi : ℤ) (r : Ends) → range_between lo hi ≡ Some r → IsRange r
between_is_range lo hi r is = ((words_in_order_are_ranges lo hi r).0 is).0

-- ---- operators

ranges_have : (range : Ends → Ends → Option Ends)
    → ((r s t : Ends) → IsRange r → IsRange s → range r s ≡ Some t → IsRange t) → (b c d : Bound)
    → ranges_give range b c ≡ Ok d → IsOfNumbers d
ranges_have range rule b c d is =
    let some = mapped Within (both_some (range_of_bound b) (range_of_bound c) range) d (or_ok _ _ d is) in
    let both = both_are (range_of_bound b) (range_of_bound c) range some.0 some.1 in
    subst IsOfNumbers some.2
    (rule both.0 both.1 some.0 (between_is_range (ends b).lo (ends b).hi both.0 both.2)
    (between_is_range (ends c).lo (ends c).hi both.1 both.3) both.4)

some_value : (P : ℤ → Type 0) (o : Option ℤ) (v : ℤ) → o ≡ Some v → IfSome o P → P v
some_value P o v is h = subst (λ o. IfSome o P) is h

gives_have : (value : ℤ → ℤ → Option ℤ) (range : Ends → Ends → Option Ends)
    → ((x y : ℤ) → FitsSigned w32 x → FitsSigned w32 y → IfSome (value x y) (FitsSigned w32))
    → ((r s t : Ends) → IsRange r → IsRange s → range r s ≡ Some t → IsRange t) → (b c d : Bound)
    → IsOfNumbers b → IsOfNumbers c → gives value range b c ≡ Ok d → IsOfNumbers d
gives_have value range word rule (Exactly x) (Exactly y) d h g is =
    let some = mapped Exactly (value x y) d (or_ok _ _ d is) in
    subst IsOfNumbers some.2
    (one_number some.0 (some_value (FitsSigned w32) (value x y) some.0 some.1 (word x y h.lo_fits g.lo_fits)))
gives_have value range word rule (Exactly x) (Within s) d h g is = ranges_have range rule (Exactly x) (Within s) d is
gives_have value range word rule (Within r) c d h g is = ranges_have range rule (Within r) c d is

binary_has : (op : Binary) (b c d : Bound) → IsOfNumbers b → IsOfNumbers c → binary_bound op b c ≡ Ok d
    → IsOfNumbers d
binary_has op b c d h g is =
    gives_have (computed op) (result_range op) (binary_gives_words op) (binary_gives_ranges op) b c d h g is

-- a product of what is not negative is not
product_above : (v : ℤ) (n : ℕ) → pos 0 ≤ℤ v → pos 0 ≤ℤ (v *ℤ pos n)
product_above (pos a) n above = omega (arith, ints)
product_above (negsuc a) n above = absurd (omega (arith, ints, above))

fitted_has : (v : ℤ) (o : Option Ends) → pos 0 ≤ℤ v → fitting (zero_to v) ≡ o → IsRange (unwrap_or o full)
fitted_has v None above is = all_words
fitted_has v (Some t) above is =
    let fits = fitting_some (zero_to v) t is in
    subst IsRange fits.same (from_zero v above fits.hi)

left_by : (b : Bool) (r : Ends) (n : ℕ) → is_not_negative r ≡ b → IsRange r
    → IsRange (cond b (unwrap_or (fitting (zero_to (r.hi *ℤ pos n))) full) full)
left_by true r n is h =
    let low = int_le-true (pos 0) r.lo is in
    let up = h.ordered in
    fitted_has (r.hi *ℤ pos n) _ (product_above r.hi n (omega (arith, ints, low, up))) refl
left_by false r n is h = all_words

left_has : (r s : Ends) → IsRange r → IsRange (shift_left_range r s)
left_has r s h = left_by (is_not_negative r) r (2 ^ unsigned_abs s.hi) refl h

right_by : (b : Bool) (r : Ends) → is_not_negative r ≡ b → IsRange r → IsRange (cond b (zero_to r.hi) full)
right_by true r is h =
    let low = int_le-true (pos 0) r.lo is in
    let up = h.ordered in
    from_zero r.hi (omega (arith, ints, low, up)) h.hi_fits
right_by false r is h = all_words

arithmetic_has : (op : ArithmeticPair) (b c d : Bound) → IsOfNumbers b → IsOfNumbers c
    → arithmetic_bound op b c ≡ Ok d → IsOfNumbers d
arithmetic_has arithmetic.Subtract b c d h g is = binary_has binary.Subtract b c d h g is
arithmetic_has arithmetic.Divide b c d h g is = binary_has binary.Divide b c d h g is
arithmetic_has arithmetic.Remainder b c d h g is = binary_has binary.Remainder b c d h g is
arithmetic_has arithmetic.Minus b c d h g is = binary_has binary.Difference b c d h g is
arithmetic_has arithmetic.ShiftLeft b c d h g is =
    gives_have (shifted shifted_left) (by_counts shift_left_range) (arithmetic_word arithmetic.ShiftLeft)
    (λ r s t m n same.
    let all = cond_some (is_within s counts) (shift_left_range r s) t same in
    subst IsRange all.1 (left_has r s m)) b c d h g is
arithmetic_has arithmetic.ShiftRight b c d h g is =
    gives_have (shifted shifted_right) (by_counts right_range) (arithmetic_word arithmetic.ShiftRight)
    (λ r s t m n same.
    let all = cond_some (is_within s counts) (right_range r s) t same in
    subst IsRange all.1 (right_by (is_not_negative r) r refl m)) b c d h g is

pair_has : (op : PairOperator) (b c d : Bound) → IsOfNumbers b → IsOfNumbers c → pair_bound op b c ≡ Ok d
    → IsOfNumbers d
pair_has (pair.Arithmetic op) b c d h g is = arithmetic_has op b c d h g is
pair_has (pair.Comparison op) b c d h g is = subst IsOfNumbers (ok_same (Within truths) d is) two_truths

chain_has : (op : ChainOperator) (b c d : Bound) → IsOfNumbers b → IsOfNumbers c → chain_bound op b c ≡ Ok d
    → IsOfNumbers d
chain_has (chain.Arithmetic op) b c d h g is = binary_has (operation_of op) b c d h g is
chain_has (chain.Logic op) b c d h g is = subst IsOfNumbers (ok_same (Within truths) d is) two_truths

not_has : (b d : Bound) → IsOfNumbers b → not_bound b ≡ Ok d → IsOfNumbers d
unfolding unary_result_range
not_has (Exactly x) d h is =
    subst IsOfNumbers (ok_same (Exactly (word_not x)) d is) (one_number (word_not x) (not_fits x h.lo_fits))
not_has (Within r) d h is =
    let some = mapped (λ s. Within (not_range s)) (range_of_bound (Within r)) d (or_ok _ _ d is) in
    subst IsOfNumbers some.2
    (unary_gives_ranges unary.Not some.0 (not_range some.0) (between_is_range r.lo r.hi some.0 some.1) refl)

prefix_has : (op : PrefixOperator) (b d : Bound) → IsOfNumbers b → prefix_bound op b ≡ Ok d → IsOfNumbers d
prefix_has prefix.Negate b d h is =
    binary_has binary.Subtract (Exactly (pos 0)) b d (one_number (pos 0) (omega (arith, ints))) h is
prefix_has prefix.BitNot b d h is = not_has b d h is
prefix_has prefix.Not b d h is = subst IsOfNumbers (ok_same (Within truths) d is) two_truths

-- ---- names

named_has : (m : Option Meaning) (d : Bound) → ((k : Meaning) → m ≡ Some k → HasNumbers k) → named_bound m ≡ Ok d
    → IsOfNumbers d
named_has (Some (Constant type (Some value))) d has is =
    subst IsOfNumbers (ok_same (Exactly value) d is) (one_number value (has _ refl))
named_has (Some (Constant type None)) d has is =
    subst IsOfNumbers (ok_same (Within (type_range type)) d is) (of_a_type type)
named_has (Some (Scalar kind type range)) d has is = subst IsOfNumbers (ok_same (Within range) d is) (has _ refl)
named_has None d has is = subst IsOfNumbers (ok_same (Within full) d is) all_words
named_has (Some m) d has is = subst IsOfNumbers (ok_same (Within full) d is) all_words

element_has : (m : Option Meaning) (c d : Bound) → ((k : Meaning) → m ≡ Some k → HasNumbers k)
    → element_bound m c ≡ Ok d → IsOfNumbers d
element_has (Some (Array kind type (Some size) range)) c d has is =
    subst IsOfNumbers (passed_ok (is_subscript size (ends c)) _ (Within range) d is).1 (has _ refl)
element_has (Some (Array kind type None range)) c d has is =
    subst IsOfNumbers (ok_same (Within range) d is) (has _ refl)
element_has None c d has is = subst IsOfNumbers (ok_same (Within full) d is) all_words
element_has (Some m) c d has is = subst IsOfNumbers (ok_same (Within full) d is) all_words

converted_has : (to : ValueType) (c d : Bound) → IsOfNumbers c → converted_bound to c ≡ Ok d → IsOfNumbers d
converted_has to c d h is = subst IsOfNumbers (passed_ok (is_within (ends c) (type_range to)) _ c d is).1 h

found_by : (t : Bool) (k m : Meaning) (rest : Option Meaning) → cond t (Some k) rest ≡ Some m → HasNumbers k
    → (rest ≡ Some m → HasNumbers m) → HasNumbers m
found_by true k m rest is h further =
    let same : k ≡ m = cc in
    subst HasNumbers same h
found_by false k m rest is h further = further is

found_has : (es : List Entry) (name : List ℕ) (m : Meaning) → HaveNumbers es → meaning_in name es ≡ Some m
    → HasNumbers m
found_has [] name m all is = absurd (cc is)
found_has (e ∷ es) name m all is =
    found_by (bytes_eq e.name name) e.meaning m (meaning_in name es) is all.0 (found_has es name m all.1)

-- ---- expressions

module _ (es : List Entry) (all : HaveNumbers es) where
  mutual
    expression_has : (e : Expression) (d : Bound) → has_words e ≡ true → bound_of es e ≡ Ok d → IsOfNumbers d
    expression_has (Alone a) d w is = term_has a d w is
    expression_has (Prefixed op a) d w is =
        let b = then_ok (bound_of_term es a) (prefix_bound op) d is in
        prefix_has op b.0 d (term_has a b.0 w b.1) b.2
    expression_has (Paired op a b) d w is =
        let c = both_ok (bound_of_term es a) (bound_of_term es b) (pair_bound op) d is in
        let v = and_parts (has_words_in a) (has_words_in b) w in
        pair_has op c.0 c.1 d (term_has a c.0 v.0 c.2) (term_has b c.1 v.1 c.3) c.4
    expression_has (Chained op ts) d w is = terms_have op ts d w is

    terms_have : (op : ChainOperator) (ts : Terms) (d : Bound) → have_words ts ≡ true
        → bound_of_terms es op ts ≡ Ok d → IsOfNumbers d
    terms_have op (Two a b) d w is =
        let c = both_ok (bound_of_term es a) (bound_of_term es b) (chain_bound op) d is in
        let v = and_parts (has_words_in a) (has_words_in b) w in
        chain_has op c.0 c.1 d (term_has a c.0 v.0 c.2) (term_has b c.1 v.1 c.3) c.4
    terms_have op (Then ts b) d w is =
        let c = both_ok (bound_of_terms es op ts) (bound_of_term es b) (chain_bound op) d is in
        let v = and_parts (have_words ts) (has_words_in b) w in
        chain_has op c.0 c.1 d (terms_have op ts c.0 v.0 c.2) (term_has b c.1 v.1 c.3) c.4

    term_has : (a : Term) (d : Bound) → has_words_in a ≡ true → bound_of_term es a ≡ Ok d → IsOfNumbers d
    term_has (Number value) d w is =
        subst IsOfNumbers (ok_same (Exactly value) d is) (one_number value (is_word_out value w))
    term_has (Byte byte) d w is =
        let within = byte_in_range byte w in
        let low = within.from_lo in
        let high = within.to_hi in
        subst IsOfNumbers (ok_same (Exactly (pos byte)) d is) (one_number (pos byte) (omega (arith, ints, low, high)))
    term_has (Truth holds) d w is = subst IsOfNumbers (ok_same (Within truths) d is) two_truths
    term_has MostPos d w is =
        subst IsOfNumbers (ok_same (Exactly greatest_word) d is) (one_number greatest_word (omega (arith, ints)))
    term_has MostNeg d w is =
        subst IsOfNumbers (ok_same (Exactly least_word) d is) (one_number least_word (omega (arith, ints)))
    term_has (Named name) d w is =
        named_has (meaning_in name es) d (λ m. found_has es name m all) is
    term_has (Element name e) d w is =
        let b = then_ok (bound_of es e) (element_bound (meaning_in name es)) d is in
        element_has (meaning_in name es) b.0 d (λ m. found_has es name m all) b.2
    term_has (Bracketed e) d w is = expression_has e d w is
    term_has (Converted to a) d w is =
        let b = then_ok (bound_of_term es a) (converted_bound to) d is in
        converted_has to b.0 d (term_has a b.0 w b.1) b.2

pub bounds_have_numbers : BoundsHaveNumbers
bounds_have_numbers es e b all words is = expression_has es all e b words is
