-- What is known of the parts of an expression that is checked.
use Rattle.std.proofs.Common.{◌≡◌, ℕ, true, List, Result, Ok, Err, refl, ap, ◌∙◌}
use Rattle.std.proofs.lemmas.Bool.{and_parts}
use Rattle.word_arithmetic.specs.Range.{Ends}
use Rattle.occam_parser.specs.declared.tree.ValueType.{ValueType}
use Rattle.occam_parser.specs.declared.tree.PrefixOperator.{PrefixOperator}
use Rattle.occam_parser.specs.declared.tree.PairOperator.{PairOperator}
use Rattle.occam_parser.specs.declared.tree.ChainOperator.{ChainOperator}
use Rattle.occam_parser.specs.Expressions.{Expression, Alone, Prefixed, Paired, Chained, Terms, Two, Then, Term}
use Rattle.occam_parser.specs.Expressions.{Element, Bracketed, Converted}
use Rattle.occam_parser.specs.Words.{has_words, have_words, has_words_in}
use Rattle.scalar_ranges.specs.declared.types.ExprType.{ExprType}
use Rattle.scalar_ranges.specs.declared.types.ExprType.TheVariants as types
use Rattle.scalar_ranges.specs.Bounds.{Bound, ends, bound_of, bound_of_term, bound_of_terms, range_found}
use Rattle.scalar_ranges.specs.Bounds.{prefix_bound, pair_bound, chain_bound, element_bound, converted_bound}
use Rattle.scalar_ranges.specs.Entries.{Entry, meaning_in}
use Rattle.scalar_ranges.specs.Types.{type_of, type_of_term, type_of_terms, prefix_type, pair_type, chain_type}
use Rattle.scalar_ranges.specs.Types.{element_type, subscripted, converted_type}
use Rattle.scalar_ranges.proofs.Parts.{both_ok, then_ok, ok_same}
use Rattle.meant_lines.specs.ExpressionLaws.{IsChecked}

bound_found : (r : Result Bound ℕ) (range : Ends) → range_found r ≡ Ok range → (b : Bound) × (r ≡ Ok b)
bound_found (Ok b) range is = (b, refl)
bound_found (Err n) range is = absurd (cc is)

pub bound_in : (es : List Entry) (e : Expression) (type : ExprType) → IsChecked es e type
    → (b : Bound) × (bound_of es e ≡ Ok b)
bound_in es e type c = bound_found (bound_of es e) c.range c.range_is

checked : (es : List Entry) (e : Expression) (type : ExprType) (b : Bound) → type_of es e ≡ Ok type
    → bound_of es e ≡ Ok b → has_words e ≡ true → IsChecked es e type
checked es e type b is bound words =
    record { range = ends b; type_is = is; range_is = ap range_found bound; literals = words }

module _ (es : List Entry) where
  pub prefixed_part : (op : PrefixOperator) (x : Term) (type : ExprType) → IsChecked es (Prefixed op x) type
      → (s : ExprType) × IsChecked es (Alone x) s × (prefix_type op s ≡ Ok type)
  prefixed_part op x type c =
      let bound = bound_in es (Prefixed op x) type c in
      let s = then_ok (type_of_term es x) (prefix_type op) type c.type_is in
      let b = then_ok (bound_of_term es x) (prefix_bound op) bound.0 bound.1 in
      (s.0, checked es (Alone x) s.0 b.0 s.1 b.1 c.literals, s.2)

  pub paired_parts : (op : PairOperator) (x y : Term) (type : ExprType) → IsChecked es (Paired op x y) type
      → (s : ExprType) × (u : ExprType) × IsChecked es (Alone x) s × IsChecked es (Alone y) u
      × (pair_type op s u ≡ Ok type)
  paired_parts op x y type c =
      let bound = bound_in es (Paired op x y) type c in
      let s = both_ok (type_of_term es x) (type_of_term es y) (pair_type op) type c.type_is in
      let b = both_ok (bound_of_term es x) (bound_of_term es y) (pair_bound op) bound.0 bound.1 in
      let words = and_parts (has_words_in x) (has_words_in y) c.literals in
      (s.0, s.1, checked es (Alone x) s.0 b.0 s.2 b.2 words.0, checked es (Alone y) s.1 b.1 s.3 b.3 words.1, s.4)

  pub two_parts : (op : ChainOperator) (x y : Term) (type : ExprType) → IsChecked es (Chained op (Two x y)) type
      → (s : ExprType) × (u : ExprType) × IsChecked es (Alone x) s × IsChecked es (Alone y) u
      × (chain_type op s u ≡ Ok type)
  two_parts op x y type c =
      let bound = bound_in es (Chained op (Two x y)) type c in
      let s = both_ok (type_of_term es x) (type_of_term es y) (chain_type op) type c.type_is in
      let b = both_ok (bound_of_term es x) (bound_of_term es y) (chain_bound op) bound.0 bound.1 in
      let words = and_parts (has_words_in x) (has_words_in y) c.literals in
      (s.0, s.1, checked es (Alone x) s.0 b.0 s.2 b.2 words.0, checked es (Alone y) s.1 b.1 s.3 b.3 words.1, s.4)

  pub then_parts : (op : ChainOperator) (ts : Terms) (y : Term) (type : ExprType)
      → IsChecked es (Chained op (Then ts y)) type
      → (s : ExprType) × (u : ExprType) × IsChecked es (Chained op ts) s × IsChecked es (Alone y) u
      × (chain_type op s u ≡ Ok type)
  then_parts op ts y type c =
      let bound = bound_in es (Chained op (Then ts y)) type c in
      let s = both_ok (type_of_terms es op ts) (type_of_term es y) (chain_type op) type c.type_is in
      let b = both_ok (bound_of_terms es op ts) (bound_of_term es y) (chain_bound op) bound.0 bound.1 in
      let words = and_parts (have_words ts) (has_words_in y) c.literals in
      (s.0, s.1, checked es (Chained op ts) s.0 b.0 s.2 b.2 words.0, checked es (Alone y) s.1 b.1 s.3 b.3 words.1, s.4)

  pub converted_part : (to : ValueType) (x : Term) (type : ExprType) → IsChecked es (Alone (Converted to x)) type
      → (s : ExprType) × IsChecked es (Alone x) s
  converted_part to x type c =
      let bound = bound_in es (Alone (Converted to x)) type c in
      let s = then_ok (type_of_term es x) (converted_type to) type c.type_is in
      let b = then_ok (bound_of_term es x) (converted_bound to) bound.0 bound.1 in
      (s.0, checked es (Alone x) s.0 b.0 s.1 b.1 c.literals)

  pub bracketed_part : (e : Expression) (type : ExprType) → IsChecked es (Alone (Bracketed e)) type
      → IsChecked es e type
  bracketed_part e type c =
      record { range = c.range; type_is = c.type_is; range_is = c.range_is; literals = c.literals }

  subscript_type : (a s type : ExprType) → subscripted a s ≡ Ok type → (s ≡ types.Int) × (a ≡ type)
  subscript_type a types.Int type is = (refl, ok_same a type is)
  subscript_type a types.Byte type is = absurd (cc is)
  subscript_type a types.Condition type is = absurd (cc is)

  -- a subscript is a number
  pub element_part : (name : List ℕ) (e : Expression) (type : ExprType) → IsChecked es (Alone (Element name e)) type
      → IsChecked es e types.Int × (element_type (meaning_in name es) ≡ Ok type)
  element_part name e type c =
      let bound = bound_in es (Alone (Element name e)) type c in
      let s = both_ok (element_type (meaning_in name es)) (type_of es e) subscripted type c.type_is in
      let b = then_ok (bound_of es e) (element_bound (meaning_in name es)) bound.0 bound.1 in
      let same = subscript_type s.0 s.1 type s.4 in (
        checked es e types.Int b.0 (s.3 ∙ ap Ok same.0) b.1 c.literals,
        s.2 ∙ ap Ok same.1,
      )
