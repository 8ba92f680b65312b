-- A comparison that shows nothing of a word comes from no word of its scope.
use Rattle.std.proofs.Common.{◌≡◌, ℕ, ℤ, Bool, true, false, not, ◌||◌, List, [], ◌∷◌, ◌++◌, Option, Some, None}
use Rattle.std.proofs.Common.{Ok, refl, sym, ap, subst, ◌∙◌}
use Rattle.std.proofs.lemmas.Bool.{and_parts}
use Rattle.word_arithmetic.specs.Range.{Ends, truths}
use Rattle.occam_parser.specs.declared.tree.ValueType.{ValueType}
use Rattle.occam_parser.specs.declared.tree.ValueType.TheVariants as value_type
use Rattle.occam_parser.specs.declared.tree.PairOperator.TheVariants as pair
use Rattle.occam_parser.specs.Expressions.{Expression, Paired, Term}
use Rattle.occam_parser.specs.Expressions.{Number, Byte, Truth, MostPos, MostNeg, Named, Element, Bracketed, Converted}
use Rattle.occam_parser.specs.Words.{has_words_in}
use Rattle.scalar_ranges.specs.declared.scope.ArrayKind.{ArrayKind}
use Rattle.scalar_ranges.specs.declared.scope.ArrayKind.TheVariants as arrays
use Rattle.scalar_ranges.specs.declared.types.ExprType.{ExprType}
use Rattle.scalar_ranges.specs.Bounds.{Bound, Within, pair_bound, bound_of, bound_of_term, exact_value}
use Rattle.scalar_ranges.specs.Bounds.{range_found}
use Rattle.scalar_ranges.specs.Entries.{Meaning, Constant, Scalar, Array, Channel, Channels, Procedure, Entry}
use Rattle.scalar_ranges.specs.Entries.{meaning_in}
use Rattle.scalar_ranges.specs.Types.{type_of_term, pair_type, element_type, subscripted, type_of}
use Rattle.scalar_ranges.proofs.Parts.{both_ok, ok_same}
use Rattle.code_pieces.specs.declared.operations.TheConstants.{LOAD_BYTE, WORD_SUBSCRIPT}
use Rattle.code_pieces.specs.Pieces.{Piece, TableAddress, operates, word_after}
use Rattle.line_pieces.specs.Homes as home
use Rattle.line_pieces.specs.Homes.{Home, Nowhere, Word, Block, Link, Passed, home_of}
use Rattle.line_pieces.specs.Actions.{may_be_word}
use Rattle.line_pieces.specs.Expressions.{Subscript, beside, constant_or, is_known, expression_code, term_code}
use Rattle.line_pieces.specs.Expressions.{single, element_code, before_offset, subscript_code, address_code, loads_at}
use Rattle.line_pieces.specs.Expressions.{or_zero, subscript_of, pushed, pushes_of, pair_code}
use Rattle.certified_lines.specs.Scopes.{Scene, IsHousedThere, IsScope}
use Rattle.certified_lines.specs.Telling.{ComesFromNowhere, AreAllowed}
use Rattle.certified_lines.specs.TestLaws.{ShowsNothing, ComparisonsShowNothing}
use Rattle.certified_lines.proofs.Telling.{name_has}
use Rattle.certified_lines.proofs.Expressions.{term_tells}
use Rattle.certified_lines.proofs.Induction.{term_told}
use Rattle.certified_lines.proofs.Conditions.{term_constant, exact_bound}
use Rattle.certified_lines.proofs.Silent.{ends_nowhere, constants_come_from_nowhere, words_come_from_nowhere}
use Rattle.certified_lines.proofs.Silent.{bytes_come_from_nowhere, compared_shows}

-- ---- elements

element_nowhere : (g : Scene) (top : ℕ) (o : Option Home) (kind : ArrayKind) (type : ValueType) (size : Option ℕ)
    (range : Ends) (s : Subscript) → IsHousedThere g top o (Array kind type size range)
    → ComesFromNowhere g.setting (element_code o (Some (Array kind type size range)) None s)
element_nowhere g top None kind type size range s house = absurd house
element_nowhere g top (Some Nowhere) kind type size range s house = absurd house
element_nowhere g top (Some (Block w head)) kind type size range s house = absurd house
element_nowhere g top (Some (Link n)) kind type size range s house = absurd house
element_nowhere g top (Some (Passed w)) kind type size range s house = absurd house
element_nowhere g top (Some (Word w)) kind value_type.Int size range s house =
    ends_nowhere g.setting (before_offset s ++ subscript_code value_type.Int w) (loads_at (or_zero s.offset) ∷ [])
    (words_come_from_nowhere g.setting (or_zero s.offset))
element_nowhere g top (Some (Word w)) kind value_type.Byte size range s house =
    ends_nowhere g.setting (address_code value_type.Byte w None s.whole) (operates LOAD_BYTE ∷ [])
    (bytes_come_from_nowhere g.setting)
element_nowhere g top (Some (home.Table values)) arrays.Table type size range s house =
    let last : List Piece = loads_at (or_zero s.offset) ∷ [] in
    ends_nowhere g.setting (before_offset s) (TableAddress values ∷ operates WORD_SUBSCRIPT ∷ last)
    (ends_nowhere g.setting (TableAddress values ∷ operates WORD_SUBSCRIPT ∷ []) last
    (words_come_from_nowhere g.setting (or_zero s.offset)))
element_nowhere g top (Some (home.Table values)) arrays.Variable type size range s house = absurd house
element_nowhere g top (Some (home.Table values)) arrays.Value type size range s house = absurd house

no_number : (o : Option ℤ) → is_known o ≡ false → o ≡ None
no_number None is = refl
no_number (Some v) is = absurd (cc is)

some_number : (o : Option ℤ) → not (is_known o) ≡ false → (v : ℤ) × (o ≡ Some v)
some_number None is = absurd (cc is)
some_number (Some v) is = (v, refl)

-- ---- operands

module _ (g : Scene) (top t : ℕ) (es : List Entry) (scope : IsScope g top es) where
  constant_nowhere : (x : Term) → not (is_known (exact_value (bound_of_term es x))) ≡ false
      → ComesFromNowhere g.setting (term_code g.homes es t x)
  constant_nowhere x is =
      let v = some_number (exact_value (bound_of_term es x)) is in
      subst (λ (ps : List Piece). ComesFromNowhere g.setting ps)
      (sym (term_constant g.homes es t x v.0 (exact_bound (bound_of_term es x) v.0 v.1)))
      (constants_come_from_nowhere g.setting v.0)

  named_element : (name : List ℕ) (e : Expression) (type : ExprType) → single (range_found (bound_of es e)) ≡ None
      → type_of_term es (Element name e) ≡ Ok type
      → ComesFromNowhere g.setting (term_code g.homes es t (Element name e))
  named_element name e type one typed =
      let h = both_ok (element_type (meaning_in name es)) (type_of es e) subscripted type typed in
      by_meaning (meaning_in name es) refl h.0 h.2
    where
      by_meaning : (m : Option Meaning) → meaning_in name es ≡ m → (a : ExprType) → element_type m ≡ Ok a
          → ComesFromNowhere g.setting (term_code g.homes es t (Element name e))
      by_meaning None means a is = absurd (cc is)
      by_meaning (Some (Array kind type size range)) means a is =
          subst (λ (ps : List Piece). ComesFromNowhere g.setting ps)
          (λ i. element_code (home_of g.homes es name) (sym means i) (sym one i) (subscript_of g.homes es t e))
          (element_nowhere g top (home_of g.homes es name) kind type size range (subscript_of g.homes es t e)
          (name_has (IsHousedThere g top) g.homes es name (Array kind type size range) scope.housed means))
      by_meaning (Some (Constant type value)) means a is = absurd (cc is)
      by_meaning (Some (Scalar kind type range)) means a is = absurd (cc is)
      by_meaning (Some (Channel type)) means a is = absurd (cc is)
      by_meaning (Some (Channels type size)) means a is = absurd (cc is)
      by_meaning (Some (Procedure number)) means a is = absurd (cc is)

  term_nowhere : (x : Term) (type : ExprType) → may_be_word es x ≡ false → type_of_term es x ≡ Ok type
      → ComesFromNowhere g.setting (term_code g.homes es t x)
  term_nowhere (Element name e) type is typed =
      named_element name e type (no_number (single (range_found (bound_of es e))) is) typed
  term_nowhere (Number value) type is typed = constant_nowhere (Number value) is
  term_nowhere (Byte byte) type is typed = constant_nowhere (Byte byte) is
  term_nowhere (Truth holds) type is typed = constant_nowhere (Truth holds) is
  term_nowhere MostPos type is typed = constant_nowhere MostPos is
  term_nowhere MostNeg type is typed = constant_nowhere MostNeg is
  term_nowhere (Named name) type is typed = constant_nowhere (Named name) is
  term_nowhere (Bracketed e) type is typed = constant_nowhere (Bracketed e) is
  term_nowhere (Converted to x) type is typed = constant_nowhere (Converted to x) is

neither : (p q : Bool) → (p || q) ≡ false → (p ≡ false) × (q ≡ false)
neither true q is = absurd (cc is)
neither false q is = (refl, is)

-- ---- comparisons

pub comparisons_show_nothing : ComparisonsShowNothing
comparisons_show_nothing g top t es c x y type b before scope low few words typed is shows all holds =
    let h = both_ok (type_of_term es x) (type_of_term es y) (pair_type (pair.Comparison c)) type typed in
    let d = both_ok (bound_of_term es x) (bound_of_term es y) (pair_bound (pair.Comparison c)) b is in
    let w = and_parts (has_words_in x) (has_words_in y) words in
    let none : exact_value (bound_of es (Paired (pair.Comparison c) x y)) ≡ None = ap exact_value is
    ∙ ap (λ (e : Bound). exact_value (Ok e)) (sym (ok_same (Within truths) b d.4)) in
    let silent = neither (may_be_word es x) (may_be_word es y) shows in
    let first = term_tells g top es x h.0 d.0 d.2 (term_told g top es scope x h.0 d.0 w.0 h.2 d.2) t low few in
    let second = term_tells g top es y h.1 d.1 d.3 (term_told g top es scope y h.1 d.1 w.1 h.3 d.3) t low few in
    let x_calm = λ (u : ℕ). term_nowhere g top u es scope x h.0 silent.0 h.2 in
    let y_calm = λ (u : ℕ). term_nowhere g top u es scope y h.1 silent.1 h.3 in
    let code : List Piece = pushed (pushes_of (pair.Comparison c) (exact_value (bound_of_term es x))
    (exact_value (bound_of_term es y))) t
    (beside es x (term_code g.homes es t x) (term_code g.homes es (word_after t 1) x))
    (beside es y (term_code g.homes es t y) (term_code g.homes es (word_after t 1) y))
    ++ pair_code (pair.Comparison c) (exact_value (bound_of_term es x)) (exact_value (bound_of_term es y)) in
    let same : expression_code g.homes es t (Paired (pair.Comparison c) x y) ≡ code =
    ap (λ (o : Option ℤ). constant_or o code) none in
    subst (λ (ps : List Piece). ShowsNothing g.setting ps t before) (sym same)
    (compared_shows g top t es scope low few before holds
    (beside es x (term_code g.homes es t x) (term_code g.homes es (word_after t 1) x))
    (beside es y (term_code g.homes es t y) (term_code g.homes es (word_after t 1) y)) _ _ first.ranged second.ranged
    first.tells second.tells (x_calm t, y_calm t, y_calm (word_after t 1))
    (y_calm t, x_calm t, x_calm (word_after t 1)) c
    (exact_value (bound_of_term es x)) (exact_value (bound_of_term es y)) first.only second.only
    (subst (λ (ps : List Piece). AreAllowed g ps) same all))
