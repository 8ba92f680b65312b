-- The number of an expression is one of its type.
use Rattle.std.proofs.Common.{◌≡◌, ℕ, zero, suc, ℤ, pos, negsuc, Bool, true, false, cond, List, [], ◌∷◌, Option, Some}
use Rattle.std.proofs.Common.{None, Ok, refl, subst, arith, ◌∙◌, ◌<◌, ◌*◌, ◌/◌, ◌^◌}
use Rattle.std.proofs.lemmas.Int.{ints}
use Rattle.std.proofs.lemmas.Nat.{shr_le}
use Rattle.std.specs.Prelude.{option_map, option_and_then, IfSome, FitsSigned, unsigned_abs}
use Rattle.std.proofs.lemmas.Bool.{ltb-true, and_parts}
use Rattle.std.specs.Int.{w32, cast_unsigned}
use Rattle.std.specs.List.{AllByRecursion}
use Rattle.word_arithmetic.specs.Word.{word_not, least_word, greatest_word, shifted_left, shifted_right}
use Rattle.word_arithmetic.specs.Range.{InRange, in_range, full, bytes}
use Rattle.word_arithmetic.specs.declared.binary.Binary.TheVariants as binary
use Rattle.word_arithmetic.proofs.BinaryLaws.{binary_gives_words}
use Rattle.word_arithmetic.proofs.BitLaws.{not_fits, wrapped_fits, cast_fits, bits_below}
use Rattle.word_arithmetic.proofs.EndsLaws.{in_range_out}
use Rattle.word_arithmetic.proofs.WordLaws.{is_word_out}
use Rattle.occam_layout.specs.Words.{is_byte}
use Rattle.occam_parser.specs.declared.tree.ValueType.{ValueType}
use Rattle.occam_parser.specs.declared.tree.ValueType.TheVariants as value_type
use Rattle.occam_parser.specs.declared.tree.PrefixOperator.TheVariants as prefix
use Rattle.occam_parser.specs.declared.tree.PairOperator.TheVariants as pair
use Rattle.occam_parser.specs.declared.tree.ArithmeticPair.{ArithmeticPair}
use Rattle.occam_parser.specs.declared.tree.ArithmeticPair.TheVariants as arithmetic
use Rattle.occam_parser.specs.declared.tree.ChainOperator.TheVariants as chain
use Rattle.occam_parser.specs.declared.tree.ArithmeticChain.{ArithmeticChain}
use Rattle.occam_parser.specs.Expressions.{Expression, Alone, Prefixed, Paired, Chained, Terms, Two, Then, Term}
use Rattle.occam_parser.specs.Expressions.{Number, Byte, Truth, MostPos, MostNeg, Named, Element, Bracketed, Converted}
use Rattle.scalar_ranges.specs.declared.types.ExprType.{ExprType}
use Rattle.scalar_ranges.specs.declared.types.ExprType.TheVariants as types
use Rattle.scalar_ranges.specs.Entries.{Meaning, Constant, Scalar, Array, Entry}
use Rattle.scalar_ranges.specs.Entries.{meaning_in, type_range}
use Rattle.scalar_ranges.specs.Environments.{Held, Nothing, One, Many, Environment, held_in, one_of, element_of}
use Rattle.scalar_ranges.specs.Environments.{item_at, item_of}
use Rattle.scalar_ranges.specs.Types.{type_of, type_of_terms, type_of_term, type_of_values, named_type, element_type}
use Rattle.scalar_ranges.specs.Types.{subscripted, prefix_type, pair_type, chain_type, converted_type}
use Rattle.scalar_ranges.specs.Values.{number_of, number_of_terms, number_of_term, negated, pair_value, chain_value}
use Rattle.scalar_ranges.specs.Values.{converted, operation_of, counts}
use Rattle.scalar_ranges.specs.Steps.{both_some}
use Rattle.scalar_ranges.proofs.Parts.{both_ok, then_ok, ok_same}
use Rattle.occam_parser.specs.Words.{has_words, have_words, has_words_in}
use Rattle.program_meaning.specs.TypedValues.{IsNumberOf, IsOfType, HoldsOf, HasType, ValuesAreTyped}

-- ---- literals

pub byte_in_range : (b : ℕ) → is_byte b ≡ true → InRange bytes (pos b)
byte_in_range b h =
    let less = ltb-true b 256 h in
    record { from_lo = omega (arith, ints); to_hi = omega (arith, ints, less) }

-- ---- numbers of types

of_type : (type : ValueType) (v : ℤ) → IsOfType type v → IsNumberOf (type_of_values type) v
of_type value_type.Int v h = h
of_type value_type.Byte v h = h

full_fits : (v : ℤ) → InRange full v → FitsSigned w32 v
full_fits v m = let a = m.from_lo in let b = m.to_hi in omega (arith, ints, a, b)

-- the numbers of a type are those in its range
in_type : (type : ValueType) (v : ℤ) → InRange (type_range type) v → IsOfType type v
in_type value_type.Int v m = full_fits v m
in_type value_type.Byte v m = m

if_passed : (P : ℤ → Type 0) (b : Bool) (v : ℤ) → (b ≡ true → P v) → IfSome (cond b (Some v) None) P
if_passed P true v h = h refl
if_passed P false v h = tt

-- ---- operators

less_shifted : (n k : ℕ) → n < 2 ^ 32 → n / 2 ^ k < 2 ^ 32
less_shifted n k h = let less = shr_le n k in omega (arith, less, h)

pub arithmetic_word : (op : ArithmeticPair) (x y : ℤ) → FitsSigned w32 x → FitsSigned w32 y
    → IfSome (pair_value op x y) (FitsSigned w32)
arithmetic_word arithmetic.Subtract x y f g = binary_gives_words binary.Subtract x y f g
arithmetic_word arithmetic.Divide x y f g = binary_gives_words binary.Divide x y f g
arithmetic_word arithmetic.Remainder x y f g = binary_gives_words binary.Remainder x y f g
arithmetic_word arithmetic.Minus x y f g = binary_gives_words binary.Difference x y f g
arithmetic_word arithmetic.ShiftLeft x y f g =
    if_passed (FitsSigned w32) (in_range counts y) (shifted_left x (unsigned_abs y))
    (λ e. wrapped_fits (cast_unsigned w32 x * 2 ^ unsigned_abs y))
arithmetic_word arithmetic.ShiftRight x y f g =
    if_passed (FitsSigned w32) (in_range counts y) (shifted_right x (unsigned_abs y))
    (λ e. cast_fits (cast_unsigned w32 x / 2 ^ unsigned_abs y)
    (less_shifted (cast_unsigned w32 x) (unsigned_abs y) (bits_below x f)))

two_words : (f : ℤ → ℤ → Option ℤ) (n m : Option ℤ)
    → ((x y : ℤ) → FitsSigned w32 x → FitsSigned w32 y → IfSome (f x y) (FitsSigned w32))
    → IfSome n (FitsSigned w32) → IfSome m (FitsSigned w32) → IfSome (both_some n m f) (FitsSigned w32)
two_words f None m g h k = tt
two_words f (Some x) None g h k = tt
two_words f (Some x) (Some y) g h k = g x y h k

negated_typed : (s t : ExprType) (n : Option ℤ) → IfSome n (IsNumberOf s) → prefix_type prefix.Negate s ≡ Ok t
    → IfSome (option_and_then negated n) (IsNumberOf t)
negated_typed types.Int t None h is = tt
negated_typed types.Int t (Some x) h is =
    subst (λ u. IfSome (negated x) (IsNumberOf u)) (ok_same types.Int t is)
    (binary_gives_words binary.Subtract (pos 0) x (omega (arith, ints)) h)
negated_typed types.Byte t n h is = absurd (cc is)
negated_typed types.Condition t n h is = absurd (cc is)

bit_not_typed : (s t : ExprType) (n : Option ℤ) → IfSome n (IsNumberOf s) → prefix_type prefix.BitNot s ≡ Ok t
    → IfSome (option_map word_not n) (IsNumberOf t)
bit_not_typed types.Int t None h is = tt
bit_not_typed types.Int t (Some x) h is =
    subst (λ u. IsNumberOf u (word_not x)) (ok_same types.Int t is) (not_fits x h)
bit_not_typed types.Byte t n h is = absurd (cc is)
bit_not_typed types.Condition t n h is = absurd (cc is)

pair_typed : (op : ArithmeticPair) (s u t : ExprType) (n m : Option ℤ) → IfSome n (IsNumberOf s)
    → IfSome m (IsNumberOf u) → pair_type (pair.Arithmetic op) s u ≡ Ok t
    → IfSome (both_some n m (pair_value op)) (IsNumberOf t)
pair_typed op types.Int types.Int t n m h k is =
    subst (λ u. IfSome (both_some n m (pair_value op)) (IsNumberOf u)) (ok_same types.Int t is)
    (two_words (pair_value op) n m (arithmetic_word op) h k)
pair_typed op s u t n m h k is = absurd (cc is)

chain_typed : (op : ArithmeticChain) (s u t : ExprType) (n m : Option ℤ) → IfSome n (IsNumberOf s)
    → IfSome m (IsNumberOf u) → chain_type (chain.Arithmetic op) s u ≡ Ok t
    → IfSome (both_some n m (chain_value op)) (IsNumberOf t)
chain_typed op types.Int types.Int t n m h k is =
    subst (λ u. IfSome (both_some n m (chain_value op)) (IsNumberOf u)) (ok_same types.Int t is)
    (two_words (chain_value op) n m (binary_gives_words (operation_of op)) h k)
chain_typed op s u t n m h k is = absurd (cc is)

converted_typed : (to : ValueType) (s t : ExprType) (n : Option ℤ) → converted_type to s ≡ Ok t
    → IfSome (option_and_then (converted to) n) (IsNumberOf t)
converted_typed to types.Condition t n is = absurd (cc is)
converted_typed to types.Int t None is = tt
converted_typed to types.Byte t None is = tt
converted_typed to types.Int t (Some x) is =
    subst (λ u. IfSome (converted to x) (IsNumberOf u)) (ok_same (type_of_values to) t is)
    (if_passed (IsNumberOf (type_of_values to)) (in_range (type_range to) x) x
    (λ e. of_type to x (in_type to x (in_range_out (type_range to) x e))))
converted_typed to types.Byte t (Some x) is =
    subst (λ u. IfSome (converted to x) (IsNumberOf u)) (ok_same (type_of_values to) t is)
    (if_passed (IsNumberOf (type_of_values to)) (in_range (type_range to) x) x
    (λ e. of_type to x (in_type to x (in_range_out (type_range to) x e))))

-- ---- names

one_typed : (type : ValueType) (t : ExprType) (h : Held) → type_of_values type ≡ t → HoldsOf type h
    → IfSome (one_of h) (IsNumberOf t)
one_typed type t Nothing same holds = tt
one_typed type t (One v) same holds = subst (λ u. IsNumberOf u v) same (of_type type v holds)
one_typed type t (Many vs) same holds = tt

named_typed : (m : Option Meaning) (h : Held) (t : ExprType) → ((k : Meaning) → m ≡ Some k → HasType k h)
    → named_type m ≡ Ok t → IfSome (one_of h) (IsNumberOf t)
named_typed None h t typed is = absurd (cc is)
named_typed (Some (Constant type value)) h t typed is = one_typed type t h (ok_same _ t is) (typed _ refl)
named_typed (Some (Scalar kind type range)) h t typed is = one_typed type t h (ok_same _ t is) (typed _ refl)
named_typed (Some m) h t typed is = absurd (cc is)

item_typed : (P : ℤ → Type 0) (i : ℕ) (vs : List ℤ) → AllByRecursion P vs → IfSome (item_at i vs) P
item_typed P i [] all = tt
item_typed P zero (v ∷ vs) all = all.0
item_typed P (suc i) (v ∷ vs) all = item_typed P i vs all.1

item_at_number : (P : ℤ → Type 0) (i : ℤ) (vs : List ℤ) → AllByRecursion P vs → IfSome (item_of vs i) P
item_at_number P (pos i) vs all = item_typed P i vs all
item_at_number P (negsuc i) vs all = tt

weaker : (P Q : ℤ → Type 0) (n : Option ℤ) → ((v : ℤ) → P v → Q v) → IfSome n P → IfSome n Q
weaker P Q None f h = tt
weaker P Q (Some v) f h = f v h

element_held : (type : ValueType) (h : Held) (n : Option ℤ) → HoldsOf type h
    → IfSome (option_and_then (element_of h) n) (IsOfType type)
element_held type h None holds = tt
element_held type Nothing (Some i) holds = tt
element_held type (One v) (Some i) holds = tt
element_held type (Many vs) (Some i) holds = item_at_number (IsOfType type) i vs holds

element_typed : (m : Option Meaning) (h : Held) (a s t : ExprType) (n : Option ℤ)
    → ((k : Meaning) → m ≡ Some k → HasType k h) → element_type m ≡ Ok a → subscripted a s ≡ Ok t
    → IfSome (option_and_then (element_of h) n) (IsNumberOf t)
element_typed (Some (Array kind type size range)) h a types.Int t n typed is sub =
    let same : type_of_values type ≡ t = ok_same (type_of_values type) a is ∙ ok_same a t sub in
    subst (λ u. IfSome (option_and_then (element_of h) n) (IsNumberOf u)) same
    (weaker (IsOfType type) (IsNumberOf (type_of_values type)) (option_and_then (element_of h) n) (of_type type)
    (element_held type h n (typed _ refl)))
element_typed (Some (Array kind type size range)) h a types.Byte t n typed is sub = absurd (cc sub)
element_typed (Some (Array kind type size range)) h a types.Condition t n typed is sub = absurd (cc sub)
element_typed None h a s t n typed is sub = absurd (cc is)
element_typed (Some m) h a s t n typed is sub = absurd (cc is)

-- ---- expressions

module _ (es : List Entry) (env : Environment)
    (typed : (name : List ℕ) (m : Meaning) → meaning_in name es ≡ Some m → HasType m (held_in name env)) where
  mutual
    expression_typed : (e : Expression) (t : ExprType) → has_words e ≡ true → type_of es e ≡ Ok t
        → IfSome (number_of env e) (IsNumberOf t)
    expression_typed (Alone a) t w is = term_typed a t w is
    expression_typed (Prefixed prefix.Negate a) t w is =
        let h = then_ok (type_of_term es a) (prefix_type prefix.Negate) t is in
        negated_typed h.0 t (number_of_term env a) (term_typed a h.0 w h.1) h.2
    expression_typed (Prefixed prefix.BitNot a) t w is =
        let h = then_ok (type_of_term es a) (prefix_type prefix.BitNot) t is in
        bit_not_typed h.0 t (number_of_term env a) (term_typed a h.0 w h.1) h.2
    expression_typed (Prefixed prefix.Not a) t w is = tt
    expression_typed (Paired (pair.Arithmetic op) a b) t w is =
        let h = both_ok (type_of_term es a) (type_of_term es b) (pair_type (pair.Arithmetic op)) t is in
        let v = and_parts (has_words_in a) (has_words_in b) w in
        pair_typed op h.0 h.1 t (number_of_term env a) (number_of_term env b) (term_typed a h.0 v.0 h.2)
        (term_typed b h.1 v.1 h.3) h.4
    expression_typed (Paired (pair.Comparison op) a b) t w is = tt
    expression_typed (Chained (chain.Arithmetic op) ts) t w is = terms_typed op ts t w is
    expression_typed (Chained (chain.Logic op) ts) t w is = tt

    terms_typed : (op : ArithmeticChain) (ts : Terms) (t : ExprType) → have_words ts ≡ true
        → type_of_terms es (chain.Arithmetic op) ts ≡ Ok t → IfSome (number_of_terms env op ts) (IsNumberOf t)
    terms_typed op (Two a b) t w is =
        let h = both_ok (type_of_term es a) (type_of_term es b) (chain_type (chain.Arithmetic op)) t is in
        let v = and_parts (has_words_in a) (has_words_in b) w in
        chain_typed op h.0 h.1 t (number_of_term env a) (number_of_term env b) (term_typed a h.0 v.0 h.2)
        (term_typed b h.1 v.1 h.3) h.4
    terms_typed op (Then ts b) t w is =
        let h = both_ok (type_of_terms es (chain.Arithmetic op) ts) (type_of_term es b)
        (chain_type (chain.Arithmetic op)) t is in
        let v = and_parts (have_words ts) (has_words_in b) w in
        chain_typed op h.0 h.1 t (number_of_terms env op ts) (number_of_term env b) (terms_typed op ts h.0 v.0 h.2)
        (term_typed b h.1 v.1 h.3) h.4

    term_typed : (a : Term) (t : ExprType) → has_words_in a ≡ true → type_of_term es a ≡ Ok t
        → IfSome (number_of_term env a) (IsNumberOf t)
    term_typed (Number value) t w is = subst (λ u. IsNumberOf u value) (ok_same types.Int t is) (is_word_out value w)
    term_typed (Byte byte) t w is =
        subst (λ u. IsNumberOf u (pos byte)) (ok_same types.Byte t is) (byte_in_range byte w)
    term_typed (Truth holds) t w is = tt
    term_typed MostPos t w is =
        subst (λ u. IsNumberOf u greatest_word) (ok_same types.Int t is) (omega (arith, ints))
    term_typed MostNeg t w is = subst (λ u. IsNumberOf u least_word) (ok_same types.Int t is) (omega (arith, ints))
    term_typed (Named name) t w is = named_typed (meaning_in name es) (held_in name env) t (typed name) is
    term_typed (Element name e) t w is =
        let h = both_ok (element_type (meaning_in name es)) (type_of es e) subscripted t is in
        element_typed (meaning_in name es) (held_in name env) h.0 h.1 t (number_of env e) (typed name) h.2 h.4
    term_typed (Bracketed e) t w is = expression_typed e t w is
    term_typed (Converted to a) t w is =
        let h = then_ok (type_of_term es a) (converted_type to) t is in
        converted_typed to h.0 t (number_of_term env a) h.2

pub values_are_typed : ValuesAreTyped
values_are_typed es env e t typed words is = expression_typed es env typed e t words is
