-- What the code of names, of elements and so of every expression leaves known.
use Rattle.std.proofs.Common.{◌≡◌, ℕ, ◌≤◌, ℤ, pos, ◌+ℤ◌, ◌≤ℤ◌, ◌<ℤ◌, Bool, true, false}
use Rattle.std.proofs.Common.{◌&&◌}
use Rattle.std.proofs.Common.{cond, List, [], ◌∷◌, ◌++◌, Option, Some, None, Result, Ok, refl, sym, ap, subst, ◌∙◌}
use Rattle.std.proofs.Common.{arith}
use Rattle.std.proofs.Common.{FitsSigned}
use Rattle.std.specs.Prelude.{int_le, int_lt, option_map}
use Rattle.std.specs.Int.{w32}
use Rattle.std.specs.Ordering.{int_eq}
use Rattle.std.proofs.lemmas.Int.{ints}
use Rattle.std.proofs.lemmas.Bool.{and_parts}
use Rattle.std.proofs.lemmas.Bool.Decides.{Decides-int_eq}
use Rattle.word_arithmetic.specs.Word.{greatest_word, least_word}
use Rattle.word_arithmetic.specs.Range as ranges
use Rattle.word_arithmetic.specs.Range.{Ends, IsRange, full, bytes, truths, is_within}
use Rattle.word_arithmetic.specs.Binary.{computed, result_range}
use Rattle.word_arithmetic.specs.declared.binary.Binary.TheVariants as binary
use Rattle.word_arithmetic.proofs.EndsLaws.{fitting_some}
use Rattle.word_arithmetic.proofs.WordLaws.{is_word_out}
use Rattle.occam_parser.specs.declared.tree.ValueType.{ValueType}
use Rattle.occam_parser.specs.declared.tree.ValueType.TheVariants as value_type
use Rattle.occam_parser.specs.declared.tree.ChainOperator.{ChainOperator}
use Rattle.occam_parser.specs.declared.tree.ChainOperator.TheVariants as chain
use Rattle.occam_parser.specs.declared.tree.ArithmeticChain.TheVariants as arithmetic_chain
use Rattle.occam_parser.specs.Expressions.{Expression, Alone, Prefixed, Paired, Chained, Terms, Two, Then, Term}
use Rattle.occam_parser.specs.Expressions.{Number, Byte, Truth, MostPos, MostNeg, Named, Element, Bracketed, Converted}
use Rattle.occam_parser.specs.Words.{has_words, have_words, has_words_in}
use Rattle.program_meaning.proofs.ValuesTyped.{byte_in_range}
use Rattle.scalar_ranges.specs.declared.scope.ScalarKind.{ScalarKind}
use Rattle.scalar_ranges.specs.declared.scope.ArrayKind.{ArrayKind}
use Rattle.scalar_ranges.specs.declared.scope.ArrayKind.TheVariants as arrays
use Rattle.scalar_ranges.specs.declared.types.ExprType.{ExprType}
use Rattle.scalar_ranges.specs.declared.types.ExprType.TheVariants as types
use Rattle.scalar_ranges.specs.Bounds.{Bound, Exactly, Within, ends, prefix_bound, pair_bound, chain_bound, named_bound}
use Rattle.scalar_ranges.specs.Bounds.{element_bound, converted_bound, is_subscript, bound_of, bound_of_term}
use Rattle.scalar_ranges.specs.Bounds.{bound_of_terms, exact_value, range_found}
use Rattle.scalar_ranges.specs.Entries.{Meaning, Constant, Scalar, Array, Channel, Channels, Procedure, Entry}
use Rattle.scalar_ranges.specs.Entries.{meaning_in, type_range}
use Rattle.scalar_ranges.specs.Types.{type_of, type_of_term, type_of_terms, type_of_values, named_type, element_type}
use Rattle.scalar_ranges.specs.Types.{subscripted, prefix_type, pair_type, chain_type, converted_type}
use Rattle.scalar_ranges.specs.Steps.{ok_or}
use Rattle.scalar_ranges.specs.declared.bounds.TheConstants.{OUT_OF_RANGE, OUTSIDE}
use Rattle.scalar_ranges.proofs.Parts.{both_ok, then_ok, passed_ok, ok_same}
use Rattle.code_pieces.specs.Pieces.{Piece, constant, TableAddress, operates}
use Rattle.code_pieces.specs.declared.operations.TheConstants.{LOAD_BYTE, WORD_SUBSCRIPT}
use Rattle.line_pieces.specs.Homes as home
use Rattle.line_pieces.specs.Homes.{Home, Nowhere, Word, Block, Link, Passed, home_of}
use Rattle.line_pieces.specs.Expressions.{expression_code, term_code, first_code, is_leaf, is_leaf_term}
use Rattle.line_pieces.specs.Expressions.{is_small}
use Rattle.line_pieces.specs.Expressions.{is_small_term, scalar_code, is_byte_reference, is_pushed, single}
use Rattle.line_pieces.specs.Expressions.{Subscript}
use Rattle.line_pieces.specs.Expressions.{offset_of, offset_or_none, added_by, greatest_offset, without, or_zero}
use Rattle.line_pieces.specs.Expressions.{before_offset, subscript_of, element_code, element_of_words, element_of_table}
use Rattle.line_pieces.specs.Expressions.{loads_at, subscript_code}
use Rattle.certified_lines.specs.Scopes.{Scene, IsHousedThere, IsScope}
use Rattle.certified_lines.specs.Telling.{Tells, IsFree, truth_range}
use Rattle.certified_lines.specs.ElementLaws.{IsArray, Select}
use Rattle.certified_lines.specs.ExpressionLaws.{IsRangeOf, IsTold, ExpressionTells, ExpressionsTell}
use Rattle.certified_lines.proofs.Telling.{constants_tell, scalars_tell, name_has}
use Rattle.certified_lines.proofs.Ranges.{truth_ranged}
use Rattle.certified_lines.proofs.Ranges.{full_ranged}
use Rattle.certified_lines.proofs.Operands.{allowed_first, allowed_rest}
use Rattle.certified_lines.proofs.Bounded.{ranges_give_is}
use Rattle.certified_lines.proofs.Elements.{known_words_tell, words_tell, known_bytes_tell, bytes_tell}
use Rattle.certified_lines.proofs.Elements.{known_items_tell}
use Rattle.certified_lines.proofs.Elements.{items_tell, as_natural}
use Rattle.certified_lines.proofs.Expressions.{TermTold, constant_told, literal_told, as_bound, of_values}
use Rattle.certified_lines.proofs.Expressions.{exactly_same}
use Rattle.certified_lines.proofs.Expressions.{alone_told, prefixed_told, paired_told, chained_told, TermsTold}
use Rattle.certified_lines.proofs.Expressions.{two_told}
use Rattle.certified_lines.proofs.Expressions.{more_told, exact_is}
use Rattle.certified_lines.proofs.Arithmetic.{first_of, less_small}

-- ---- names

-- a scalar's home has a range of words
scalar_ranged : (g : Scene) (top : ℕ) (o : Option Home) (kind : ScalarKind) (type : ValueType) (range : Ends)
    → IsHousedThere g top o (Scalar kind type range) → IsRange range
scalar_ranged g top None kind type range housed = absurd housed
scalar_ranged g top (Some Nowhere) kind type range housed = absurd housed
scalar_ranged g top (Some (Word w)) kind type range housed = housed.0
scalar_ranged g top (Some (Block w head)) kind type range housed = housed.0
scalar_ranged g top (Some (Link n)) kind type range housed = absurd housed
scalar_ranged g top (Some (home.Table values)) kind type range housed = absurd housed
scalar_ranged g top (Some (Passed w)) kind type range housed = absurd housed

constant_housed : (g : Scene) (top : ℕ) (o : Option Home) (type : ValueType) (v : ℤ)
    → IsHousedThere g top o (Constant type (Some v)) → FitsSigned w32 v
constant_housed g top None type v housed = absurd housed
constant_housed g top (Some h) type v housed = housed

no_constant : (g : Scene) (top : ℕ) (o : Option Home) (type : ValueType)
    → IsHousedThere g top o (Constant type None) → ⊥
no_constant g top None type housed = housed
no_constant g top (Some h) type housed = housed

module _ (g : Scene) (top : ℕ) (es : List Entry) (scope : IsScope g top es) where
  abbrev housed : (name : List ℕ) (k : Meaning) → meaning_in name es ≡ Some k
      → IsHousedThere g top (home_of g.homes es name) k
  housed name k means = name_has (IsHousedThere g top) g.homes es name k scope.housed means

  named_told : (name : List ℕ) (type : ExprType) (d : Bound) → named_type (meaning_in name es) ≡ Ok type
      → named_bound (meaning_in name es) ≡ Ok d → TermTold g top es (Named name) type d
  named_told name type d typed is = by_meaning (meaning_in name es) refl typed is
    where
      -- the value of a constant, or what the home has
      by_value : (kind : ValueType) → bound_of_term es (Named name) ≡ Ok d → type_of_values kind ≡ type
          → ((v : ℤ) → d ≡ Exactly v → FitsSigned w32 v)
          → (exact_value (bound_of_term es (Named name)) ≡ None
          → IsTold g top es (λ t. scalar_code (is_byte_reference (meaning_in name es)) (home_of g.homes es name))
          (is_pushed (meaning_in name es)) true (type_of_values kind) d)
          → TermTold g top es (Named name) type d
      by_value kind there same fits any =
          as_bound g top es same refl
          (constant_told g top es (λ t. scalar_code (is_byte_reference (meaning_in name es)) (home_of g.homes es name))
          (λ o. is_pushed (meaning_in name es)) true (type_of_values kind) d
          (exact_value (bound_of_term es (Named name))) (sym (ap exact_value there))
          (λ e. of_values g top es kind d (ends d) refl) fits any)

      by_meaning : (m : Option Meaning) → meaning_in name es ≡ m → named_type m ≡ Ok type → named_bound m ≡ Ok d
          → TermTold g top es (Named name) type d
      by_meaning None means typed is = absurd (cc typed)
      by_meaning (Some (Constant kind None)) means typed is =
          absurd (no_constant g top (home_of g.homes es name) kind (housed name (Constant kind None) means))
      by_meaning (Some (Constant kind (Some v))) means typed is =
          let exact : d ≡ Exactly v = sym (ok_same (Exactly v) d is) in
          let there : bound_of_term es (Named name) ≡ Ok d = ap named_bound means ∙ is in
          by_value kind there (ok_same (type_of_values kind) type typed)
          (λ u same. subst (FitsSigned w32) (exactly_same v u (sym exact ∙ same))
          (constant_housed g top (home_of g.homes es name) kind v (housed name (Constant kind (Some v)) means)))
          (λ none. absurd (cc (sym (ap (λ (b : Bound). exact_value (Ok b)) exact)
          ∙ (sym (ap exact_value there) ∙ none))))
      by_meaning (Some (Scalar kind of range)) means typed is =
          let within : d ≡ Within range = sym (ok_same (Within range) d is) in
          let there : bound_of_term es (Named name) ≡ Ok d = ap named_bound means ∙ is in
          by_value of there (ok_same (type_of_values of) type typed) (λ u same. absurd (cc (sym within ∙ same)))
          (λ none. record {
            range = range;
            is = of_values g top es of d range (ap ends (sym within));
            ranged = scalar_ranged g top (home_of g.homes es name) kind of range
                (housed name (Scalar kind of range) means);
            tells = λ t low few all.
                scalars_tell g top t es name kind of range (is_byte_reference (meaning_in name es))
                (is_pushed (meaning_in name es)) true scope means;
          })
      by_meaning (Some (Array kind of size range)) means typed is = absurd (cc typed)
      by_meaning (Some (Channel of)) means typed is = absurd (cc typed)
      by_meaning (Some (Channels of size)) means typed is = absurd (cc typed)
      by_meaning (Some (Procedure number)) means typed is = absurd (cc typed)

-- ---- subscripts

-- The code of a subscript without its constant leaves one of several numbers, and each selects an element, once the
-- constant is added.
pub record SubscriptTold (g : Scene) (top : ℕ) (es : List Entry) (e : Expression) (size : ℕ) (o : Option ℤ)
    : Type 0 where
  pub range : Ends
  pub leaf : Bool
  pub select : Select size (or_zero o) range
  pub several : range.lo ≡ range.hi → ⊥
  pub tells : (t : ℕ) → top ≤ t → IsFree t
      → Tells g es (without o (expression_code g.homes es t e) (first_code g.homes es t e)) t leaf (is_small es e) range

-- the first operand of a chain of two is told
abbrev pub FirstTold : Scene → ℕ → List Entry → Expression → Type 0
FirstTold g top es (Chained op (Two x y)) =
    (b : Bound) → type_of_term es x ≡ Ok types.Int → bound_of_term es x ≡ Ok b → TermTold g top es x types.Int b
FirstTold g top es e = Unit {0}

in_size : (size : ℕ) (r : Ends) → is_subscript size r ≡ true → (pos 0 ≤ℤ r.lo) × (r.hi <ℤ pos size)
in_size size r is =
    let both = and_parts (int_le (pos 0) r.lo) (int_lt r.hi (pos size)) is in
    (omega (arith, ints, both.0), omega (arith, ints, both.1))

-- a range of several numbers has no number that is its only one
several_in : (r : Ends) → single (Ok r) ≡ None → r.lo ≡ r.hi → ⊥
several_in r is same =
    cc (ap (λ (t : Bool). cond t (Some r.lo) None) (sym ((Decides-int_eq r.lo r.hi).1 same)) ∙ is)

-- the whole subscript
pub whole_told : (g : Scene) (top : ℕ) (es : List Entry) (e : Expression) (size : ℕ) (b : Bound)
    → ExpressionTells g top es e types.Int b → single (Ok (ends b)) ≡ None → is_subscript size (ends b) ≡ true
    → SubscriptTold g top es e size None
whole_told g top es e size b told several inside =
    let ranged = subst IsRange told.is told.ranged in
    let within = in_size size (ends b) inside in
    let low = within.0 in
    let high = within.1 in
    record {
      range = told.range;
      leaf = is_leaf es e;
      select = subst (λ (r : Ends). Select size (pos 0) r) (sym told.is) (record {
        low = omega (arith, ints);
        near = omega (arith, ints);
        ranged = ranged;
        first = omega (arith, ints, low);
        last = omega (arith, ints, high);
      });
      several = subst (λ (r : Ends). r.lo ≡ r.hi → ⊥) (sym told.is) (several_in (ends b) several);
      tells = told.tells;
    }

-- the constant of an offset is that of the second operand of a sum
record IsOffset (op : ChainOperator) (exact : Option ℤ) (c : ℤ) : Type 0 where
  adds : op ≡ chain.Arithmetic arithmetic_chain.Add
  value : exact ≡ Some c
  low : pos 0 ≤ℤ c
  near : c ≤ℤ greatest_offset

offset_is : (op : ChainOperator) (exact : Option ℤ) (c : ℤ) → offset_or_none (added_by op exact) ≡ Some c
    → IsOffset op exact c
offset_is op exact c is = by_added (added_by op exact) refl is
  where
    by_test : (t : Bool) (d : ℤ) → (int_le (pos 0) d && int_le d greatest_offset) ≡ t → added_by op exact ≡ Some d
        → cond t (Some d) None ≡ Some c → IsOffset op exact c
    by_test true d test added same =
        let one : d ≡ c = cc in
        let both = and_parts (int_le (pos 0) d) (int_le d greatest_offset) test in
        let added_is = by_operator op exact d added in
        record {
          adds = added_is.0;
          value = added_is.1 ∙ ap Some one;
          low = omega (arith, ints, both.0, one);
          near = omega (arith, ints, both.1, one);
        }
      where
        by_least : (t : Bool) (v d : ℤ) → cond t None (Some v) ≡ Some d → v ≡ d
        by_least true v d is = absurd (cc)
        by_least false v d is = cc

        by_operator : (op : ChainOperator) (exact : Option ℤ) (d : ℤ) → added_by op exact ≡ Some d
            → (op ≡ chain.Arithmetic arithmetic_chain.Add) × (exact ≡ Some d)
        by_operator (chain.Arithmetic arithmetic_chain.Add) (Some v) d is =
            (refl, ap Some (by_least (int_eq v least_word) v d is))
        by_operator (chain.Arithmetic arithmetic_chain.Add) None d is = absurd (cc)
        by_operator (chain.Arithmetic arithmetic_chain.Multiply) exact d is = absurd (cc)
        by_operator (chain.Arithmetic arithmetic_chain.Plus) exact d is = absurd (cc)
        by_operator (chain.Arithmetic arithmetic_chain.Times) exact d is = absurd (cc)
        by_operator (chain.Arithmetic arithmetic_chain.BitAnd) exact d is = absurd (cc)
        by_operator (chain.Arithmetic arithmetic_chain.BitOr) exact d is = absurd (cc)
        by_operator (chain.Arithmetic arithmetic_chain.BitXor) exact d is = absurd (cc)
        by_operator (chain.Logic l) exact d is = absurd (cc)
    by_test false d test added same = absurd (cc)

    by_added : (o : Option ℤ) → added_by op exact ≡ o → offset_or_none o ≡ Some c → IsOffset op exact c
    by_added None added same = absurd (cc)
    by_added (Some d) added same = by_test (int_le (pos 0) d && int_le d greatest_offset) d refl added same

-- a sum with a constant lies so much further
sum_further : (r q : Ends) (c : ℤ) → result_range binary.Add r (ranges.constant c) ≡ Some q
    → (q.lo ≡ (r.lo +ℤ c)) × (q.hi ≡ (r.hi +ℤ c))
unfolding result_range
sum_further r q c is =
    let f = fitting_some (record { lo = r.lo +ℤ c; hi = r.hi +ℤ c }) q is in
    (sym (ap (λ (e : Ends). e.lo) f.same), sym (ap (λ (e : Ends). e.hi) f.same))

int_terms : (op : ChainOperator) (p u : ExprType) → chain_type op p u ≡ Ok types.Int
    → (p ≡ types.Int) × (u ≡ types.Int)
int_terms (chain.Arithmetic op) types.Int types.Int is = (refl, refl)
int_terms (chain.Logic op) types.Condition types.Condition is = absurd (cc is)
int_terms op p u is = absurd (cc is)

module _ (g : Scene) (top : ℕ) (es : List Entry) (size : ℕ) where
  -- the first operand of a sum, of a subscript that has several numbers
  first_selects : (x y : Term) (b d : Bound) (c : ℤ) → pos 0 ≤ℤ c → c ≤ℤ greatest_offset
      → chain_bound (chain.Arithmetic arithmetic_chain.Add) b (Exactly c) ≡ Ok d → single (Ok (ends d)) ≡ None
      → is_subscript size (ends d) ≡ true → IsRange (ends b)
      → Select size c (ends b) × ((ends b).lo ≡ (ends b).hi → ⊥)
  first_selects x y (Exactly u) d c low near gives several inside ranged =
      absurd (by_value (computed binary.Add u c) gives)
    where
      by_value : (o : Option ℤ) → ok_or OUT_OF_RANGE (option_map Exactly o) ≡ Ok d → ⊥
      by_value None same = absurd (cc)
      by_value (Some v) same =
          let exact = ok_same (Exactly v) d same in
          several_in (ends d) several
          (sym (ap (λ (q : Bound). (ends q).lo) exact) ∙ ap (λ (q : Bound). (ends q).hi) exact)
  first_selects x y (Within r) d c low near gives several inside ranged =
      let given = ranges_give_is (result_range binary.Add) (Within r) (Exactly c) d gives in
      let sum = sum_further r given.range c given.holds in
      let within = in_size size (ends d) inside in
      let lo = sum.0 in
      let hi = sum.1 in
      let first = within.0 in
      let last = within.1 in
      let lo_same : (ends d).lo ≡ given.range.lo = ap (λ (e : Bound). (ends e).lo) given.is in
      let hi_same : (ends d).hi ≡ given.range.hi = ap (λ (e : Bound). (ends e).hi) given.is in (
        record {
          low = low;
          near = near;
          ranged = ranged;
          first = omega (arith, ints, lo, first, lo_same);
          last = omega (arith, ints, hi, last, hi_same);
        },
        λ same. several_in (ends d) several (omega (arith, ints, lo, hi, lo_same, hi_same, same)),
      )

  offset_told : (op : ChainOperator) (x y : Term) (d : Bound) (o : Option ℤ)
      → offset_or_none (added_by op (exact_value (bound_of_term es y))) ≡ o
      → type_of es (Chained op (Two x y)) ≡ Ok types.Int → bound_of es (Chained op (Two x y)) ≡ Ok d
      → single (Ok (ends d)) ≡ None → is_subscript size (ends d) ≡ true
      → ExpressionTells g top es (Chained op (Two x y)) types.Int d → FirstTold g top es (Chained op (Two x y))
      → SubscriptTold g top es (Chained op (Two x y)) size o
  offset_told op x y d None offset typed is several inside told first =
      whole_told g top es (Chained op (Two x y)) size d told several inside
  offset_told op x y d (Some c) offset typed is several inside told first =
      let found = offset_is op (exact_value (bound_of_term es y)) c offset in
      let h = both_ok (type_of_term es x) (type_of_term es y) (chain_type op) types.Int typed in
      let b = both_ok (bound_of_term es x) (bound_of_term es y) (chain_bound op) d is in
      let ints = int_terms op h.0 h.1 h.4 in
      let exact : b.1 ≡ Exactly c = exact_is b.1 c (sym (ap exact_value b.3) ∙ found.value) in
      let left = first b.0 (h.2 ∙ ap (λ (t : ExprType). Ok t) ints.0) b.2 in
      let gives = (λ i. chain_bound (sym found.adds i) b.0 (sym exact i)) ∙ b.4 in
      let selects = first_selects x y b.0 d c found.low found.near gives several inside
      (subst IsRange left.is left.ranged) in
      record {
        range = left.range;
        leaf = is_leaf_term es x;
        select = subst (λ (r : Ends). Select size c r) (sym left.is) selects.0;
        several = subst (λ (r : Ends). r.lo ≡ r.hi → ⊥) (sym left.is) selects.1;
        tells = λ t low few all s holds.
            less_small g.setting (term_code g.homes es t x) t (is_leaf_term es x) (is_small es (Chained op (Two x y)))
            (is_small_term es x) left.range s (first_of (is_small_term es x) (is_leaf_term es y))
            (left.tells t low few all s holds);
      }

  -- so the code of a subscript that has several numbers is told, without a constant that it ends with
  pub subscript_told : (e : Expression) (d : Bound) → type_of es e ≡ Ok types.Int → bound_of es e ≡ Ok d
      → single (Ok (ends d)) ≡ None → is_subscript size (ends d) ≡ true → ExpressionTells g top es e types.Int d
      → FirstTold g top es e → SubscriptTold g top es e size (offset_of es e)
  subscript_told (Alone x) d typed is several inside told first =
      whole_told g top es (Alone x) size d told several inside
  subscript_told (Prefixed op x) d typed is several inside told first =
      whole_told g top es (Prefixed op x) size d told several inside
  subscript_told (Paired op x y) d typed is several inside told first =
      whole_told g top es (Paired op x y) size d told several inside
  subscript_told (Chained op (Then ts x)) d typed is several inside told first =
      whole_told g top es (Chained op (Then ts x)) size d told several inside
  subscript_told (Chained op (Two x y)) d typed is several inside told first =
      offset_told op x y d (offset_or_none (added_by op (exact_value (bound_of_term es y)))) refl typed is several
      inside told first

-- ---- elements

pub bytes_ranged : IsRange bytes
bytes_ranged = record { lo_fits = omega (arith, ints); hi_fits = omega (arith, ints); ordered = omega (arith, ints) }

single_is : (r : Ends) (c : ℤ) → single (Ok r) ≡ Some c → (r.lo ≡ c) × (r.lo ≡ r.hi)
single_is r c is = by_test (int_eq r.lo r.hi) refl is
  where
    by_test : (t : Bool) → int_eq r.lo r.hi ≡ t → cond t (Some r.lo) None ≡ Some c → (r.lo ≡ c) × (r.lo ≡ r.hi)
    by_test true test same = (cc, (Decides-int_eq r.lo r.hi).0 test)
    by_test false test same = absurd (cc)

-- the number of the only element that a subscript selects
pub record OnlyElement (size : ℕ) (c : ℤ) : Type 0 where
  pub number : ℕ
  pub is : c ≡ pos number
  pub inside : pos number <ℤ pos size

pub only_element : (size : ℕ) (r : Ends) (c : ℤ) → single (Ok r) ≡ Some c → is_subscript size r ≡ true → OnlyElement size c
only_element size r c is inside =
    let one = single_is r c is in
    let lo = one.0 in
    let hi = one.1 in
    let within = in_size size r inside in
    let low = within.0 in
    let high = within.1 in
    let n = as_natural c (omega (arith, ints, lo, low)) in
    let same = n.1 in
    record { number = n.0; is = same; inside = omega (arith, ints, lo, hi, high, same) }

module _ (g : Scene) (top : ℕ) (es : List Entry) (scope : IsScope g top es) (name : List ℕ) (e : Expression) (b : Bound)
    (typed : type_of es e ≡ Ok types.Int) (is : bound_of es e ≡ Ok b) (told : ExpressionTells g top es e types.Int b)
    (first : FirstTold g top es e) where
  abbrev sub : ℕ → Subscript
  sub t = subscript_of g.homes es t e

  abbrev small : Bool
  small = is_small es e

  -- what has elements in this range, by the number of the only one or by the code of the subscript
  element_found : (size : ℕ) (range : Ends) (type : ExprType) (d : Bound) (code : Option ℤ → ℕ → List Piece)
      (offset : Option ℤ) → IsRangeOf type d range → IsRange range
      → ((n t : ℕ) → pos n <ℤ pos size → Tells g es (code (Some (pos n)) t) t false small range)
      → ((t : ℕ) → top ≤ t → IsFree t → SubscriptTold g top es e size offset
      → Tells g es (code None t) t false small range)
      → (single (Ok (ends b)) ≡ None → is_subscript size (ends b) ≡ true → SubscriptTold g top es e size offset)
      → (o : Option ℤ) → single (Ok (ends b)) ≡ o → is_subscript size (ends b) ≡ true
      → IsTold g top es (code o) false small type d
  element_found size range type d code offset lies ranged known any subscript (Some c) one inside =
      let only = only_element size (ends b) c one inside in
      record {
        range = range;
        is = lies;
        ranged = ranged;
        tells = λ t low few.
            subst (λ (z : ℤ). Tells g es (code (Some z) t) t false small range) (sym only.is)
            (known only.number t only.inside);
      }
  element_found size range type d code offset lies ranged known any subscript None one inside = record {
    range = range;
    is = lies;
    ranged = ranged;
    tells = λ t low few. any t low few (subscript one inside);
  }

  words_element : (w size : ℕ) (range : Ends) (d : Bound) (o : Option ℤ) → single (Ok (ends b)) ≡ o
      → is_subscript size (ends b) ≡ true → IsArray g es name value_type.Int (Word w) size range → full ≡ ends d
      → IsTold g top es (λ t. element_of_words value_type.Int w o (sub t)) false small types.Int d
  words_element w size range d o one inside array same =
      element_found size full types.Int d (λ o t. element_of_words value_type.Int w o (sub t)) (offset_of es e) same
      full_ranged
      (λ n t less all. known_words_tell g top t w n size es name range (sub t) false small scope array less)
      (λ t low few subscript all.
      words_tell g top t w size es name range subscript.range (sub t) subscript.leaf small scope low array
      subscript.select (subscript.tells t low few
      (allowed_first g (before_offset (sub t)) (subscript_code value_type.Int w)
      (allowed_first g (before_offset (sub t) ++ subscript_code value_type.Int w)
      (loads_at (or_zero (offset_of es e)) ∷ []) all))))
      (λ several inside. subscript_told g top es size e b typed is several inside told first) o one inside

  bytes_element : (w size : ℕ) (range : Ends) (d : Bound) (o : Option ℤ) → single (Ok (ends b)) ≡ o
      → is_subscript size (ends b) ≡ true → IsArray g es name value_type.Byte (Word w) size range → bytes ≡ ends d
      → IsTold g top es (λ t. element_of_words value_type.Byte w o (sub t)) false small types.Byte d
  bytes_element w size range d o one inside array same =
      element_found size bytes types.Byte d (λ o t. element_of_words value_type.Byte w o (sub t)) None same bytes_ranged
      (λ n t less all. known_bytes_tell g top t w n size es name range (sub t) small scope array less)
      (λ t low few subscript all.
      bytes_tell g top t w size es name range subscript.range (sub t) subscript.leaf small scope low array
      subscript.select (subscript.tells t low few
      (allowed_first g (expression_code g.homes es t e) (subscript_code value_type.Byte w)
      (allowed_first g (expression_code g.homes es t e ++ subscript_code value_type.Byte w)
      (operates LOAD_BYTE ∷ []) all))))
      (λ several inside. whole_told g top es e size b told several inside) o one inside

  items_element : (values : List ℤ) (type : ValueType) (size : ℕ) (range : Ends) (d : Bound) (o : Option ℤ)
      → single (Ok (ends b)) ≡ o → is_subscript size (ends b) ≡ true
      → IsArray g es name type (home.Table values) size range → IsRange range → range ≡ ends d
      → IsTold g top es (λ t. element_of_table values o (sub t)) false small (type_of_values type) d
  items_element values type size range d o one inside array ranged same =
      element_found size range (type_of_values type) d (λ o t. element_of_table values o (sub t)) (offset_of es e)
      (of_values g top es type d range same) ranged
      (λ n t less all. known_items_tell g top t n size es name type values range (sub t) small scope array all.0 less)
      (λ t low few subscript all.
      let code : List Piece = before_offset (sub t) in
      let rest : List Piece =
      TableAddress values ∷ operates WORD_SUBSCRIPT ∷ loads_at (or_zero (offset_of es e)) ∷ [] in
      items_tell g top t size es name type values range subscript.range (sub t) subscript.leaf small scope low array
      (allowed_rest g code rest all).0 subscript.select (subscript.tells t low few (allowed_first g code rest all)))
      (λ several inside. subscript_told g top es size e b typed is several inside told first) o one inside

  -- an element of an array that has this home
  element_by : (o : Option Home) (kind : ArrayKind) (type : ValueType) (size : Option ℕ) (range : Ends) (d : Bound)
      → home_of g.homes es name ≡ o → meaning_in name es ≡ Some (Array kind type size range)
      → IsHousedThere g top o (Array kind type size range)
      → element_bound (Some (Array kind type size range)) b ≡ Ok d
      → IsTold g top es (λ t. element_code o (Some (Array kind type size range)) (single (Ok (ends b))) (sub t)) false
      small (type_of_values type) d
  element_by None kind type size range d at means house gives = absurd house
  element_by (Some Nowhere) kind type size range d at means house gives = absurd house
  element_by (Some (Block w head)) kind type size range d at means house gives = absurd house
  element_by (Some (Link n)) kind type size range d at means house gives = absurd house
  element_by (Some (Passed w)) kind type size range d at means house gives = absurd house
  element_by (Some (Word w)) kind type None range d at means house gives = absurd house
  element_by (Some (Word w)) kind value_type.Int (Some size) range d at means house gives =
      let passed = passed_ok (is_subscript size (ends b)) OUTSIDE (Within range) d gives in
      words_element w size range d (single (Ok (ends b))) refl passed.0
      (record { kind = kind; means = means; at = at }) (sym house.0 ∙ ap ends passed.1)
  element_by (Some (Word w)) kind value_type.Byte (Some size) range d at means house gives =
      let passed = passed_ok (is_subscript size (ends b)) OUTSIDE (Within range) d gives in
      bytes_element w size range d (single (Ok (ends b))) refl passed.0
      (record { kind = kind; means = means; at = at }) (sym house.0 ∙ ap ends passed.1)
  element_by (Some (home.Table values)) arrays.Table type (Some size) range d at means house gives =
      let passed = passed_ok (is_subscript size (ends b)) OUTSIDE (Within range) d gives in
      items_element values type size range d (single (Ok (ends b))) refl passed.0
      (record { kind = arrays.Table; means = means; at = at }) house.0 (ap ends passed.1)
  element_by (Some (home.Table values)) arrays.Table type None range d at means house gives = absurd house
  element_by (Some (home.Table values)) arrays.Variable type size range d at means house gives = absurd house
  element_by (Some (home.Table values)) arrays.Value type size range d at means house gives = absurd house

  element_told : (a type : ExprType) (d : Bound) → element_type (meaning_in name es) ≡ Ok a → a ≡ type
      → element_bound (meaning_in name es) b ≡ Ok d → TermTold g top es (Element name e) type d
  element_told a type d of same gives = by_meaning (meaning_in name es) refl of gives
    where
      by_meaning : (m : Option Meaning) → meaning_in name es ≡ m → element_type m ≡ Ok a → element_bound m b ≡ Ok d
          → TermTold g top es (Element name e) type d
      by_meaning None means of gives = absurd (cc of)
      by_meaning (Some (Array kind elements size range)) means of gives =
          let k : Meaning = Array kind elements size range in
          as_bound g top es (ok_same (type_of_values elements) a of ∙ same) refl
          (subst (λ (r : Result Bound ℕ). IsTold g top es
          (λ t. element_code (home_of g.homes es name) (meaning_in name es)
          (single (range_found r)) (sub t)) false small (type_of_values elements) d) (sym is)
          (subst (λ (m : Option Meaning). IsTold g top es (λ t. element_code (home_of g.homes es name) m
          (single (Ok (ends b))) (sub t)) false small (type_of_values elements) d) (sym means)
          (element_by (home_of g.homes es name) kind elements size range d refl means
          (name_has (IsHousedThere g top) g.homes es name k scope.housed means) gives)))
      by_meaning (Some (Constant of_type value)) means of gives = absurd (cc of)
      by_meaning (Some (Scalar kind of_type range)) means of gives = absurd (cc of)
      by_meaning (Some (Channel of_type)) means of gives = absurd (cc of)
      by_meaning (Some (Channels of_type size)) means of gives = absurd (cc of)
      by_meaning (Some (Procedure number)) means of gives = absurd (cc of)

-- ---- conversions

converted_told : (g : Scene) (top : ℕ) (es : List Entry) (to : ValueType) (x : Term) (s type : ExprType) (b d : Bound)
    → converted_type to s ≡ Ok type → converted_bound to b ≡ Ok d → TermTold g top es x s b
    → TermTold g top es (Converted to x) type d
converted_told g top es to x types.Condition type b d typed gives told = absurd (cc typed)
converted_told g top es to x s type b d typed gives told =
    as_bound g top es (ok_same (type_of_values to) type typed) refl (record {
      range = told.range;
      is = of_values g top es to d told.range (told.is
          ∙ ap ends (passed_ok (is_within (ends b) (type_range to)) OUT_OF_RANGE b d gives).1);
      ranged = told.ranged;
      tells = told.tells;
    })

subscript_type : (a s type : ExprType) → subscripted a s ≡ Ok type → (a ≡ type) × (s ≡ types.Int)
subscript_type a types.Int type is = (ok_same a type is, refl)
subscript_type a types.Byte type is = absurd (cc is)
subscript_type a types.Condition type is = absurd (cc is)

-- ---- every expression

module _ (g : Scene) (top : ℕ) (es : List Entry) (scope : IsScope g top es) where
  truth_told : (holds : Bool) → TermTold g top es (Truth holds) types.Condition (Within truths)
  truth_told true = record {
    range = ranges.constant (pos 1);
    is = (refl, Some true, refl);
    ranged = truth_ranged (Some true);
    tells = λ t low few all s held. constants_tell g.setting t true true (pos 1) s;
  }
  truth_told false = record {
    range = ranges.constant (pos 0);
    is = (refl, Some false, refl);
    ranged = truth_ranged (Some false);
    tells = λ t low few all s held. constants_tell g.setting t true true (pos 0) s;
  }

  number_literal : (v : ℤ) (type : ExprType) (d : Bound) → FitsSigned w32 v → types.Int ≡ type → Exactly v ≡ d
      → IsTold g top es (λ t. constant v ∷ []) true true type d
  number_literal v type d fits same is =
      as_bound g top es same is (literal_told g top es true true types.Int v fits refl)

  mutual
    expression_told : (e : Expression) (type : ExprType) (d : Bound) → has_words e ≡ true → type_of es e ≡ Ok type
        → bound_of es e ≡ Ok d → ExpressionTells g top es e type d
    expression_told (Alone x) type d words typed is =
        alone_told g top es scope x type d is (term_told x type d words typed is)
    expression_told (Prefixed op x) type d words typed is =
        let h = then_ok (type_of_term es x) (prefix_type op) type typed in
        let b = then_ok (bound_of_term es x) (prefix_bound op) d is in
        prefixed_told g top es scope op x h.0 type b.0 d is h.2 b.2 (term_told x h.0 b.0 words h.1 b.1)
    expression_told (Paired op x y) type d words typed is =
        let h = both_ok (type_of_term es x) (type_of_term es y) (pair_type op) type typed in
        let b = both_ok (bound_of_term es x) (bound_of_term es y) (pair_bound op) d is in
        let w = and_parts (has_words_in x) (has_words_in y) words in
        paired_told g top es scope op x y h.0 h.1 type b.0 b.1 d b.2 b.3 is h.4 b.4
        (term_told x h.0 b.0 w.0 h.2 b.2) (term_told y h.1 b.1 w.1 h.3 b.3)
    expression_told (Chained op ts) type d words typed is =
        chained_told g top es scope op ts type d is (terms_told op ts type d words typed is)

    terms_told : (op : ChainOperator) (ts : Terms) (type : ExprType) (d : Bound) → have_words ts ≡ true
        → type_of_terms es op ts ≡ Ok type → bound_of_terms es op ts ≡ Ok d → TermsTold g top es scope op ts type d
    terms_told op (Two x y) type d words typed is =
        let h = both_ok (type_of_term es x) (type_of_term es y) (chain_type op) type typed in
        let b = both_ok (bound_of_term es x) (bound_of_term es y) (chain_bound op) d is in
        let w = and_parts (has_words_in x) (has_words_in y) words in
        two_told g top es scope op x y h.0 h.1 type b.0 b.1 d b.2 b.3 is h.4 b.4 (term_told x h.0 b.0 w.0 h.2 b.2)
        (term_told y h.1 b.1 w.1 h.3 b.3)
    terms_told op (Then ts x) type d words typed is =
        let h = both_ok (type_of_terms es op ts) (type_of_term es x) (chain_type op) type typed in
        let b = both_ok (bound_of_terms es op ts) (bound_of_term es x) (chain_bound op) d is in
        let w = and_parts (have_words ts) (has_words_in x) words in
        more_told g top es scope op ts x h.0 h.1 type b.0 b.1 d b.3 is h.4 b.4
        (terms_told op ts h.0 b.0 w.0 h.2 b.2) (term_told x h.1 b.1 w.1 h.3 b.3)

    pub first_told : (e : Expression) → has_words e ≡ true → FirstTold g top es e
    first_told (Alone x) words = tt
    first_told (Prefixed op x) words = tt
    first_told (Paired op x y) words = tt
    first_told (Chained op (Two x y)) words =
        let w = and_parts (has_words_in x) (has_words_in y) words in
        λ b typed is. term_told x types.Int b w.0 typed is
    first_told (Chained op (Then ts x)) words = tt

    pub term_told : (x : Term) (type : ExprType) (d : Bound) → has_words_in x ≡ true → type_of_term es x ≡ Ok type
        → bound_of_term es x ≡ Ok d → TermTold g top es x type d
    term_told (Number value) type d words typed is =
        number_literal value type d (is_word_out value words) (ok_same types.Int type typed)
        (ok_same (Exactly value) d is)
    term_told (Byte byte) type d words typed is =
        let within = byte_in_range byte words in
        let low = within.from_lo in
        let high = within.to_hi in
        as_bound g top es (ok_same types.Byte type typed) (ok_same (Exactly (pos byte)) d is)
        (literal_told g top es true true types.Byte (pos byte) (omega (arith, ints, low, high)) refl)
    term_told (Truth holds) type d words typed is =
        as_bound g top es (ok_same types.Condition type typed) (ok_same (Within truths) d is) (truth_told holds)
    term_told MostPos type d words typed is =
        number_literal greatest_word type d (omega (arith, ints)) (ok_same types.Int type typed)
        (ok_same (Exactly greatest_word) d is)
    term_told MostNeg type d words typed is =
        number_literal least_word type d (omega (arith, ints)) (ok_same types.Int type typed)
        (ok_same (Exactly least_word) d is)
    term_told (Named name) type d words typed is = named_told g top es scope name type d typed is
    term_told (Element name e) type d words typed is =
        let h = both_ok (element_type (meaning_in name es)) (type_of es e) subscripted type typed in
        let b = then_ok (bound_of es e) (element_bound (meaning_in name es)) d is in
        let s = subscript_type h.0 h.1 type h.4 in
        let int = h.3 ∙ ap (λ (t : ExprType). Ok t) s.1 in
        element_told g top es scope name e b.0 int b.1 (expression_told e types.Int b.0 words int b.1)
        (first_told e words) h.0 type d h.2 s.0 b.2
    term_told (Bracketed e) type d words typed is = expression_told e type d words typed is
    term_told (Converted to x) type d words typed is =
        let h = then_ok (type_of_term es x) (converted_type to) type typed in
        let b = then_ok (bound_of_term es x) (converted_bound to) d is in
        converted_told g top es to x h.0 type b.0 d h.2 b.2 (term_told x h.0 b.0 words h.1 b.1)

pub expressions_tell : ExpressionsTell
expressions_tell g top es e type b scope words typed is = expression_told g top es scope e type b words typed is
