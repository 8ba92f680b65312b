-- What breaks no rule has a type and a range, and a value where a constant is wanted.
use Rattle.std.proofs.Common.{◌≡◌, ℕ, ℤ, pos, negsuc, ◌≤◌, Bool, true, false, cond, List, [], ◌∷◌, length, Option, Some}
use Rattle.std.proofs.Common.{None, Result, Ok, Err, inl, inr, refl, sym, ap, subst, arith, ◌∙◌, ◌⊎◌, bytes_eq}
use Rattle.std.proofs.lemmas.Int.{ints}
use Rattle.std.specs.Prelude.{option_and_then, int_le, unsigned_abs}
use Rattle.std.proofs.lemmas.Bool.{and_parts, true_from_ne_false}
use Rattle.std.proofs.lemmas.Option.{cond_some}
use Rattle.word_arithmetic.specs.Word.{least_word, greatest_word, word_not}
use Rattle.word_arithmetic.specs.Range.{Ends, is_within, constant, shift_left_range}
use Rattle.word_arithmetic.specs.Binary.{computed, result_range}
use Rattle.word_arithmetic.specs.declared.binary.Binary.TheVariants as binary
use Rattle.word_arithmetic.specs.declared.compare.Comparison.{Comparison}
use Rattle.occam_parser.specs.declared.tree.ValueType.{ValueType}
use Rattle.occam_parser.specs.declared.tree.PrefixOperator.TheVariants as prefix
use Rattle.occam_parser.specs.declared.tree.PairOperator.TheVariants as pair
use Rattle.occam_parser.specs.declared.tree.ArithmeticPair.{ArithmeticPair}
use Rattle.occam_parser.specs.declared.tree.ArithmeticPair.TheVariants as arithmetic
use Rattle.occam_parser.specs.declared.tree.ChainOperator.TheVariants as chain
use Rattle.occam_parser.specs.declared.tree.ArithmeticChain.{ArithmeticChain}
use Rattle.occam_parser.specs.declared.tree.Logic.{Logic}
use Rattle.occam_parser.specs.Expressions.{Expression, Alone, Prefixed, Paired, Chained, Terms, Two, Then, Term}
use Rattle.occam_parser.specs.Expressions.{Number, Byte, Truth, MostPos, MostNeg, Named, Element, Bracketed, Converted}
use Rattle.scalar_ranges.specs.declared.bounds.TheConstants.{OUT_OF_RANGE}
use Rattle.scalar_ranges.specs.declared.types.ExprType.{ExprType}
use Rattle.scalar_ranges.specs.declared.types.ExprType.TheVariants as types
use Rattle.scalar_ranges.specs.declared.types.TheConstants.{WRONG_TYPE}
use Rattle.scalar_ranges.specs.Entries.{Meaning, Constant, Scalar, Array, Channel, Channels, Procedure, Entry}
use Rattle.scalar_ranges.specs.Entries.{type_range, meaning_in, number_in}
use Rattle.scalar_ranges.specs.Types.{prefix_type, pair_type, chain_type, converted_type}
use Rattle.scalar_ranges.specs.Types.{type_of, type_of_terms, type_of_term}
use Rattle.scalar_ranges.specs.Values.{operation_of}
use Rattle.scalar_ranges.specs.Bounds.{Bound, Exactly, Within, ends, gives, by_counts, right_range, arithmetic_bound}
use Rattle.scalar_ranges.specs.Bounds.{pair_bound, chain_bound, not_bound, prefix_bound, named_bound, converted_bound}
use Rattle.scalar_ranges.specs.Bounds.{bound_of, bound_of_terms, bound_of_term, exact_value, range_found}
use Rattle.scalar_ranges.proofs.Parts.{both_ok, then_ok, or_ok, mapped, passed_ok, ok_same}
use Rattle.program_uses.specs.declared.faults.TheConstants.{CONSTANT_WANTED}
use Rattle.program_uses.specs.Constants.{is_same_type, has_type, value_as, from_one, size_in}
use Rattle.usage_checks.specs.declared.wanting.Wanted.{Wanted}
use Rattle.usage_checks.specs.declared.wanting.Wanted.TheVariants as wanted
use Rattle.usage_checks.specs.DeclarationRules.{IsNoSize, BreaksSize}
use Rattle.usage_checks.specs.Holding.{HasValue, Suits, IsFit}
use Rattle.usage_checks.specs.Wanting.{is_constant_meaning, is_constant, are_constant, is_constant_term, HasFault}
use Rattle.usage_checks.specs.Wanting.{IsUnfit, BreaksWanted}
use Rattle.usage_checks.specs.Whole.{is_whole, AreWhole}

-- ---- names

found_by : (count : ℕ) (t : Bool) (k m : Meaning) (rest : Option Meaning) → cond t (Some k) rest ≡ Some m
    → is_whole count k ≡ true → (rest ≡ Some m → is_whole count m ≡ true) → is_whole count m ≡ true
found_by count true k m rest e w others = let same : k ≡ m = cc in subst (λ n. is_whole count n ≡ true) same w
found_by count false k m rest e w others = others e

-- a name that is found denotes something whole
pub found_whole : (count : ℕ) (name : List ℕ) (es : List Entry) (m : Meaning) → AreWhole count es
    → meaning_in name es ≡ Some m → is_whole count m ≡ true
found_whole count name [] m w e = absurd (cc e)
found_whole count name (x ∷ es) m w e =
    found_by count (bytes_eq x.name name) x.meaning m (meaning_in name es) e w.0
    (λ further. found_whole count name es m w.1 further)

number_by : (t : Bool) (k m : Meaning) (n : ℕ) (rest : Option Meaning) (numbered : Option ℕ)
    → cond t (Some k) rest ≡ Some m → (rest ≡ Some m → (i : ℕ) × (numbered ≡ Some i))
    → (i : ℕ) × (cond t (Some n) numbered ≡ Some i)
number_by true k m n rest numbered e others = (n, refl)
number_by false k m n rest numbered e others = others e

-- and has a number
pub found_number : (name : List ℕ) (es : List Entry) (m : Meaning) → meaning_in name es ≡ Some m
    → (i : ℕ) × (number_in name es ≡ Some i)
found_number name [] m e = absurd (cc e)
found_number name (x ∷ es) m e =
    number_by (bytes_eq x.name name) x.meaning m (length es) (meaning_in name es) (number_in name es) e
    (λ further. found_number name es m further)

-- ---- constant expressions

-- what is no condition
abbrev pub IsNumber : ExprType → Type 0
IsNumber types.Int = Unit {0}
IsNumber types.Byte = Unit {0}
IsNumber types.Condition = ⊥

abbrev IsExact : Bound → Type 0
IsExact b = (v : ℤ) × (b ≡ Exactly v)

exact_at : (v : ℤ) (d : Bound) → ◌≡◌ {A = Result Bound ℕ} (Ok (Exactly v)) (Ok d) → IsExact d
exact_at v d e = (v, sym (ok_same _ _ e))

gives_exact : (value : ℤ → ℤ → Option ℤ) (range : Ends → Ends → Option Ends) (b c d : Bound) → IsExact b → IsExact c
    → gives value range b c ≡ Ok d → IsExact d
gives_exact value range (Exactly x) (Exactly y) d h k e =
    let m = mapped Exactly (value x y) d (or_ok OUT_OF_RANGE _ d e) in (m.0, sym m.2)
gives_exact value range (Exactly x) (Within s) d h k e = absurd (cc (k.1))
gives_exact value range (Within r) c d h k e = absurd (cc (h.1))

arithmetic_exact : (op : ArithmeticPair) (b c d : Bound) → IsExact b → IsExact c → arithmetic_bound op b c ≡ Ok d
    → IsExact d
arithmetic_exact arithmetic.Subtract b c d h k e = gives_exact _ (result_range binary.Subtract) b c d h k e
arithmetic_exact arithmetic.Divide b c d h k e = gives_exact _ (result_range binary.Divide) b c d h k e
arithmetic_exact arithmetic.Remainder b c d h k e = gives_exact _ (result_range binary.Remainder) b c d h k e
arithmetic_exact arithmetic.Minus b c d h k e = gives_exact _ (result_range binary.Difference) b c d h k e
arithmetic_exact arithmetic.ShiftLeft b c d h k e = gives_exact _ (by_counts shift_left_range) b c d h k e
arithmetic_exact arithmetic.ShiftRight b c d h k e = gives_exact _ (by_counts right_range) b c d h k e

not_exact : (b d : Bound) → IsExact b → not_bound b ≡ Ok d → IsExact d
not_exact (Exactly x) d h e = exact_at (word_not x) d e
not_exact (Within r) d h e = absurd (cc (h.1))

converted_exact : (to : ValueType) (b d : Bound) → IsExact b → converted_bound to b ≡ Ok d → IsExact d
converted_exact to b d h e =
    subst IsExact (passed_ok (is_within (ends b) (type_range to)) OUT_OF_RANGE b d e).1 h

named_exact : (count : ℕ) (m : Option Meaning) (d : Bound) → ((k : Meaning) → m ≡ Some k → is_whole count k ≡ true)
    → is_constant_meaning m ≡ true → named_bound m ≡ Ok d → IsExact d
named_exact count (Some (Constant type (Some value))) d w c e = exact_at value d e
named_exact count (Some (Constant type None)) d w c e = absurd (cc (w (Constant type None) refl))
named_exact count (Some (Scalar kind type range)) d w c e = absurd (cc c)
named_exact count (Some (Array kind type size range)) d w c e = absurd (cc c)
named_exact count (Some (Channel type)) d w c e = absurd (cc c)
named_exact count (Some (Channels type size)) d w c e = absurd (cc c)
named_exact count (Some (Procedure number)) d w c e = absurd (cc c)
named_exact count None d w c e = absurd (cc c)

-- ---- the types of operands

condition_no_number : (u : ExprType) → types.Condition ≡ u → IsNumber u → ⊥
condition_no_number u same n = subst IsNumber (sym same) n

negate_number : (s u : ExprType) → prefix_type prefix.Negate s ≡ Ok u → IsNumber s
negate_number types.Int u e = tt
negate_number types.Byte u e = absurd (cc e)
negate_number types.Condition u e = absurd (cc e)

bit_not_number : (s u : ExprType) → prefix_type prefix.BitNot s ≡ Ok u → IsNumber s
bit_not_number types.Int u e = tt
bit_not_number types.Byte u e = absurd (cc e)
bit_not_number types.Condition u e = absurd (cc e)

not_number : (s u : ExprType) → prefix_type prefix.Not s ≡ Ok u → IsNumber u → ⊥
not_number types.Condition u e n = condition_no_number u (ok_same _ _ e) n
not_number types.Int u e n = absurd (cc e)
not_number types.Byte u e n = absurd (cc e)

pair_numbers : (op : ArithmeticPair) (s t u : ExprType) → pair_type (pair.Arithmetic op) s t ≡ Ok u
    → IsNumber s × IsNumber t
pair_numbers op types.Int types.Int u e = (tt, tt)
pair_numbers op s t u e = absurd (cc e)

chain_numbers : (op : ArithmeticChain) (s t u : ExprType) → chain_type (chain.Arithmetic op) s t ≡ Ok u
    → IsNumber s × IsNumber t
chain_numbers op types.Int types.Int u e = (tt, tt)
chain_numbers op s t u e = absurd (cc e)

converted_number : (to : ValueType) (s u : ExprType) → converted_type to s ≡ Ok u → IsNumber s
converted_number to types.Int u e = tt
converted_number to types.Byte u e = tt
converted_number to types.Condition u e = absurd (cc e)

compared_number : (op : Comparison) (s t u : ExprType) → pair_type (pair.Comparison op) s t ≡ Ok u → IsNumber u → ⊥
compared_number op types.Int types.Int u e n = condition_no_number u (ok_same _ _ e) n
compared_number op types.Byte types.Byte u e n = condition_no_number u (ok_same _ _ e) n
compared_number op s t u e n = absurd (cc e)

logic_number : (op : Logic) (s t u : ExprType) → chain_type (chain.Logic op) s t ≡ Ok u → IsNumber u → ⊥
logic_number op types.Condition types.Condition u e n = condition_no_number u (ok_same _ _ e) n
logic_number op s t u e n = absurd (cc e)

-- ---- whole expressions

module _ (count : ℕ) (es : List Entry) (w : AreWhole count es) where
  mutual
    exact : (e : Expression) (u : ExprType) (d : Bound) → type_of es e ≡ Ok u → IsNumber u → is_constant es e ≡ true
        → bound_of es e ≡ Ok d → IsExact d
    exact (Alone t) u d e n c f = term_exact t u d e n c f
    exact (Prefixed prefix.Negate t) u d e n c f =
        let s = then_ok (type_of_term es t) (prefix_type prefix.Negate) u e in
        let b = then_ok (bound_of_term es t) (prefix_bound prefix.Negate) d f in
        gives_exact (computed binary.Subtract) (result_range binary.Subtract) (Exactly (pos 0)) b.0 d
        (pos 0, refl) (term_exact t s.0 b.0 s.1 (negate_number s.0 u s.2) c b.1) b.2
    exact (Prefixed prefix.BitNot t) u d e n c f =
        let s = then_ok (type_of_term es t) (prefix_type prefix.BitNot) u e in
        let b = then_ok (bound_of_term es t) (prefix_bound prefix.BitNot) d f in
        not_exact b.0 d (term_exact t s.0 b.0 s.1 (bit_not_number s.0 u s.2) c b.1) b.2
    exact (Prefixed prefix.Not t) u d e n c f =
        let s = then_ok (type_of_term es t) (prefix_type prefix.Not) u e in absurd (not_number s.0 u s.2 n)
    exact (Paired (pair.Arithmetic op) x y) u d e n c f =
        let s = both_ok (type_of_term es x) (type_of_term es y) (pair_type (pair.Arithmetic op)) u e in
        let b = both_ok (bound_of_term es x) (bound_of_term es y) (pair_bound (pair.Arithmetic op)) d f in
        let numbers = pair_numbers op s.0 s.1 u s.4 in
        let constants = and_parts (is_constant_term es x) (is_constant_term es y) c in
        arithmetic_exact op b.0 b.1 d (term_exact x s.0 b.0 s.2 numbers.0 constants.0 b.2)
        (term_exact y s.1 b.1 s.3 numbers.1 constants.1 b.3) b.4
    exact (Paired (pair.Comparison op) x y) u d e n c f =
        let s = both_ok (type_of_term es x) (type_of_term es y) (pair_type (pair.Comparison op)) u e in
        absurd (compared_number op s.0 s.1 u s.4 n)
    exact (Chained (chain.Arithmetic op) ts) u d e n c f = terms_exact ts op u d e c f
    exact (Chained (chain.Logic op) (Two x y)) u d e n c f =
        let s = both_ok (type_of_term es x) (type_of_term es y) (chain_type (chain.Logic op)) u e in
        absurd (logic_number op s.0 s.1 u s.4 n)
    exact (Chained (chain.Logic op) (Then ts y)) u d e n c f =
        let s = both_ok (type_of_terms es (chain.Logic op) ts) (type_of_term es y) (chain_type (chain.Logic op)) u e in
        absurd (logic_number op s.0 s.1 u s.4 n)

    terms_exact : (ts : Terms) (op : ArithmeticChain) (u : ExprType) (d : Bound)
        → type_of_terms es (chain.Arithmetic op) ts ≡ Ok u → are_constant es ts ≡ true
        → bound_of_terms es (chain.Arithmetic op) ts ≡ Ok d → IsExact d
    terms_exact (Two x y) op u d e c f =
        let s = both_ok (type_of_term es x) (type_of_term es y) (chain_type (chain.Arithmetic op)) u e in
        let b = both_ok (bound_of_term es x) (bound_of_term es y) (chain_bound (chain.Arithmetic op)) d f in
        let numbers = chain_numbers op s.0 s.1 u s.4 in
        let constants = and_parts (is_constant_term es x) (is_constant_term es y) c in
        gives_exact (computed (operation_of op)) (result_range (operation_of op)) b.0 b.1 d
        (term_exact x s.0 b.0 s.2 numbers.0 constants.0 b.2)
        (term_exact y s.1 b.1 s.3 numbers.1 constants.1 b.3) b.4
    terms_exact (Then ts y) op u d e c f =
        let s = both_ok (type_of_terms es (chain.Arithmetic op) ts) (type_of_term es y)
        (chain_type (chain.Arithmetic op)) u e in
        let b = both_ok (bound_of_terms es (chain.Arithmetic op) ts) (bound_of_term es y)
        (chain_bound (chain.Arithmetic op)) d f in
        let numbers = chain_numbers op s.0 s.1 u s.4 in
        let constants = and_parts (are_constant es ts) (is_constant_term es y) c in
        gives_exact (computed (operation_of op)) (result_range (operation_of op)) b.0 b.1 d
        (terms_exact ts op s.0 b.0 s.2 constants.0 b.2)
        (term_exact y s.1 b.1 s.3 numbers.1 constants.1 b.3) b.4

    term_exact : (t : Term) (u : ExprType) (d : Bound) → type_of_term es t ≡ Ok u → IsNumber u
        → is_constant_term es t ≡ true → bound_of_term es t ≡ Ok d → IsExact d
    term_exact (Number value) u d e n c f = exact_at value d f
    term_exact (Byte byte) u d e n c f = exact_at (pos byte) d f
    term_exact (Truth holds) u d e n c f = absurd (condition_no_number u (ok_same _ _ e) n)
    term_exact MostPos u d e n c f = exact_at greatest_word d f
    term_exact MostNeg u d e n c f = exact_at least_word d f
    term_exact (Named name) u d e n c f =
        named_exact count (meaning_in name es) d (λ k found. found_whole count name es k w found) c f
    term_exact (Element name x) u d e n c f = absurd (cc c)
    term_exact (Bracketed x) u d e n c f = exact x u d e n c f
    term_exact (Converted to t) u d e n c f =
        let s = then_ok (type_of_term es t) (converted_type to) u e in
        let b = then_ok (bound_of_term es t) (converted_bound to) d f in
        converted_exact to b.0 d (term_exact t s.0 b.0 s.1 (converted_number to s.0 u s.2) c b.1) b.2

-- ---- what is wanted

same_type : (s t : ExprType) → is_same_type s t ≡ true → s ≡ t
same_type types.Int types.Int h = refl
same_type types.Byte types.Byte h = refl
same_type types.Condition types.Condition h = refl
same_type s t h = absurd (cc h)

type_itself : (t : ExprType) → is_same_type t t ≡ true
type_itself types.Int = refl
type_itself types.Byte = refl
type_itself types.Condition = refl

pub types_agree : (s t : ExprType) → (is_same_type s t ≡ false → ⊥) → s ≡ t
types_agree s t h = same_type s t (true_from_ne_false (is_same_type s t) h)

-- a type as is wanted, and a constant if one is wanted
abbrev pub IsWanted : Wanted → ExprType → Bool → Type 0
IsWanted wanted.Anything type fixed = Unit {0}
IsWanted (wanted.Value t) type fixed = type ≡ t
IsWanted (wanted.Constant t) type fixed = (type ≡ t) × (fixed ≡ true)

pub record IsRead (w : Wanted) (r : Result ExprType ℕ) (s : Result Bound ℕ) (fixed : Bool) : Type 0 where
  pub type : ExprType
  pub bound : Bound
  pub type_is : r ≡ Ok type
  pub bound_is : s ≡ Ok bound
  pub suits : IsWanted w type fixed

-- what breaks no rule is read
read_of : (w : Wanted) (r : Result ExprType ℕ) (s : Result Bound ℕ) (fixed : Bool)
    → ((n : ℕ) → HasFault r s n ⊎ IsUnfit w r fixed n → ⊥) → IsRead w r s fixed
read_of w (Err d) s c none = absurd (none d (inl (inl refl)))
read_of w (Ok t) (Err d) c none = absurd (none d (inl (inr (refl, refl))))
read_of wanted.Anything (Ok t) (Ok b) c none =
    record { type = t; bound = b; type_is = refl; bound_is = refl; suits = tt }
read_of (wanted.Value u) (Ok t) (Ok b) c none = record {
  type = t;
  bound = b;
  type_is = refl;
  bound_is = refl;
  suits = types_agree t u (λ h. none WRONG_TYPE (inr (h, refl)));
}
read_of (wanted.Constant u) (Ok t) (Ok b) c none = record {
  type = t;
  bound = b;
  type_is = refl;
  bound_is = refl;
  suits = (
    types_agree t u (λ h. none WRONG_TYPE (inr (inl (h, refl)))),
    true_from_ne_false c (λ h. none CONSTANT_WANTED (inr (inr (h, refl)))),
  );
}

value_is : (t : ExprType) (r : Result ExprType ℕ) (s : Result Bound ℕ) (v : ℤ) → r ≡ Ok t → s ≡ Ok (Exactly v)
    → cond (has_type t r) (exact_value s) None ≡ Some v
value_is t r s v type bound =
    (λ i. cond (has_type t (type i)) (exact_value (bound i)) None) ∙ ap (λ b. cond b (Some v) None) (type_itself t)

-- the types of which constants are wanted
abbrev pub WantsNumber : Wanted → Type 0
WantsNumber wanted.Anything = Unit {0}
WantsNumber (wanted.Value t) = Unit {0}
WantsNumber (wanted.Constant t) = IsNumber t

suits_of : (w : Wanted) (count : ℕ) (es : List Entry) (e : Expression) → AreWhole count es → WantsNumber w
    → (x : IsRead w (type_of es e) (bound_of es e) (is_constant es e)) → Suits w es e x.type
suits_of wanted.Anything count es e whole number x = tt
suits_of (wanted.Value t) count es e whole number x = x.suits
suits_of (wanted.Constant t) count es e whole number x =
    let type = x.type_is ∙ ap Ok x.suits.0 in
    let v = exact count es whole e t x.bound type number x.suits.1 x.bound_is in
    (x.suits.0, (v.0, value_is t (type_of es e) (bound_of es e) v.0 type (x.bound_is ∙ ap Ok v.1)))

pub fit : (w : Wanted) (count : ℕ) (es : List Entry) (e : Expression) → AreWhole count es → WantsNumber w
    → ((n : ℕ) → BreaksWanted w es e n → ⊥) → (type : ExprType) × (range : Ends) × IsFit w es e type range
fit w count es e whole number none =
    let x = read_of w (type_of es e) (bound_of es e) (is_constant es e) none in (
      x.type,
      ends x.bound,
      record {
        type_is = x.type_is;
        range_is = ap range_found x.bound_is;
        suits = suits_of w count es e whole number x;
      },
    )

pub value_found : (t : ExprType) (count : ℕ) (es : List Entry) (e : Expression) → AreWhole count es → IsNumber t
    → ((n : ℕ) → BreaksWanted (wanted.Constant t) es e n → ⊥) → HasValue es t e
value_found t count es e whole number none =
    (fit (wanted.Constant t) count es e whole number none).2.suits.1

exact_range : (s : Result Bound ℕ) (v : ℤ) → exact_value s ≡ Some v → range_found s ≡ Ok (constant v)
exact_range (Ok (Exactly x)) v h = let same : x ≡ v = cc h in ap (λ x. Ok (constant x)) same
exact_range (Ok (Within r)) v h = absurd (cc h)
exact_range (Err e) v h = absurd (cc h)

passed_by : (t : Bool) (o : Option ℤ) (v : ℤ) → cond t o None ≡ Some v → o ≡ Some v
passed_by true o v h = h
passed_by false o v h = absurd (cc h)

-- what has a value has it alone in its range
pub value_range : (t : ExprType) (es : List Entry) (e : Expression) (v : ℤ) → value_as es t e ≡ Some v
    → range_found (bound_of es e) ≡ Ok (constant v)
value_range t es e v h =
    exact_range (bound_of es e) v (passed_by (has_type t (type_of es e)) (exact_value (bound_of es e)) v h)

-- ---- sizes

pub size_found : (count : ℕ) (es : List Entry) (e : Expression) → AreWhole count es
    → ((n : ℕ) → BreaksSize es e n → ⊥) → (size : ℕ) × (size_in es e ≡ Some size)
size_found count es e whole none =
    let v = value_found types.Int count es e whole tt (λ n h. none n (inl h)) in
    let positive = true_from_ne_false (int_le (pos 1) v.0) (λ h. none OUT_OF_RANGE
    (inr (subst (λ o. IsNoSize o OUT_OF_RANGE) (sym v.1) (h, refl)))) in (
      unsigned_abs v.0,
      ap (option_and_then from_one) v.1
          ∙ ap (λ t. cond t (Some (unsigned_abs v.0)) None) positive,
    )

from_one_positive : (o : Option ℤ) (n : ℕ) → option_and_then from_one o ≡ Some n → 1 ≤ n
from_one_positive None n h = absurd (cc h)
from_one_positive (Some (pos m)) n h =
    let p = cond_some (int_le (pos 1) (pos m)) m n h in
    let same = p.1 in
    omega (arith, ints, p.0)
from_one_positive (Some (negsuc m)) n h = absurd (cc h)

pub size_positive : (es : List Entry) (e : Expression) (n : ℕ) → size_in es e ≡ Some n → 1 ≤ n
size_positive es e n h = from_one_positive (value_as es types.Int e) n h
