-- What the code of assignments leaves known.
use Rattle.std.proofs.Common.{◌≡◌, ℕ, ◌+◌, ◌<◌, ◌≤◌}
use Rattle.std.proofs.Common.{List, [], ◌∷◌, ◌++◌, Option, Some, None, Result, Ok, refl, sym, ap}
use Rattle.std.proofs.Common.{subst, ◌∙◌, arith}
use Rattle.module_format.specs.declared.limits.TheConstants.{MAX_DATA_WORDS}
use Rattle.word_arithmetic.specs.Range.{Ends}
use Rattle.occam_parser.specs.declared.tree.ValueType.{ValueType}
use Rattle.occam_parser.specs.declared.tree.ValueType.TheVariants as value_type
use Rattle.occam_parser.specs.Expressions.{Expression}
use Rattle.occam_parser.specs.Lines.{Place}
use Rattle.scalar_ranges.specs.declared.scope.ScalarKind.TheVariants as scalar
use Rattle.scalar_ranges.specs.Bounds.{Bound, bound_of, ends, range_found}
use Rattle.scalar_ranges.specs.Entries.{Scalar, Entry}
use Rattle.scalar_ranges.specs.Moves.{assign, assigned}
use Rattle.scalar_ranges.specs.Narrowing.{changed}
use Rattle.scalar_ranges.specs.Types.{type_of_values}
use Rattle.usage_checks.specs.Following.{after_assignment, assign_if}
use Rattle.code_pieces.specs.Pieces.{Piece, stores, word_after, counted}
use Rattle.line_pieces.specs.Actions.{Target, KnownElement, OtherElement}
use Rattle.line_pieces.specs.Actions.{store_code, assign_code}
use Rattle.line_pieces.specs.Expressions.{expression_code, is_leaf}
use Rattle.line_pieces.specs.Expressions.{is_small, subscript_of}
use Rattle.line_pieces.specs.Homes.{words_for}
use Rattle.certified_lines.specs.StraightRules.{Told, FallOn}
use Rattle.certified_lines.specs.ExpressionLaws.{IsRangeOf, IsTold}
use Rattle.certified_lines.specs.Scopes.{Scene, HoldsScope, IsScope}
use Rattle.certified_lines.specs.Telling.{IsAllowed, AreAllowed, PushedFact, IsFree}
use Rattle.certified_lines.proofs.StraightRules.{fall_both}
use Rattle.certified_lines.proofs.Induction.{expressions_tell}
use Rattle.certified_lines.proofs.NarrowedScopes.{stored_scalars_are_held}
use Rattle.certified_lines.proofs.Operands.{allowed_first, allowed_rest}
use Rattle.certified_lines.proofs.Operands.{next_free}
use Rattle.certified_lines.proofs.Telling.{scopes_stay}
use Rattle.certified_actions.specs.Assigning.{AssignmentsFall}
use Rattle.certified_actions.specs.Keeping.{FallsTo}
use Rattle.certified_actions.specs.Variables.{IsOwnScalar, IsOwnArray, IsSubscript, is_known, is_computed}
use Rattle.certified_actions.specs.Variables.{IsVariable, whole_scalar, array_element}
use Rattle.certified_actions.proofs.ElementStores.{temporary, known_stored, other_stored}
use Rattle.certified_actions.proofs.Elements.{element, array_below, array_known, element_inside, known_target}
use Rattle.certified_actions.proofs.Elements.{other_target}
use Rattle.certified_actions.proofs.Keeping.{kept_numbers_hold}
use Rattle.certified_actions.proofs.Storing.{Stored, IsKnownArray}
use Rattle.certified_actions.proofs.Scalars.{whole, scalar_numbered, variable_is, scalar_target, scalar_housed}
use Rattle.certified_actions.proofs.Scalars.{changed_is, scope_changed}

-- ---- what is assigned

-- the range of a number is that of its bound
range_is : (type : ValueType) (b : Bound) (r : Ends) → IsRangeOf (type_of_values type) b r → r ≡ ends b
range_is value_type.Int b r is = is
range_is value_type.Byte b r is = is

-- the first free word is counted
pub scope_free : (g : Scene) (top : ℕ) (es : List Entry) → IsScope g top es → IsFree top
scope_free g top es scope = let few = scope.few in omega (arith, few)

later_by : (top : ℕ) → top ≤ MAX_DATA_WORDS → top < word_after top 1
unfolding word_after counted
later_by top few = omega (arith, few)

-- where the number of an element is known, the first piece stores in a temporary
first_stored : (g : Scene) (type : ValueType) (w c t : ℕ) → AreAllowed g (store_code (KnownElement type w c) t)
    → IsAllowed g (stores t)
first_stored g value_type.Int w c t all = all.0
first_stored g value_type.Byte w c t all = all.0

-- ---- scalars

module _ (g : Scene) (top : ℕ) (es : List Entry) (value : Expression) (type : ValueType) (b : Bound)
    (before : Told) (scope : IsScope g top es) (bounded : bound_of es value ≡ Ok b)
    (told : IsTold g top es (λ t. expression_code g.homes es t value) (is_leaf es value) (is_small es value)
    (type_of_values type) b) (holds : HoldsScope g es before.frame) where
  abbrev code : List Piece
  code = expression_code g.homes es top value

  abbrev Pushed : Type 0
  Pushed = PushedFact g.setting code top (is_leaf es value) (is_small es value) told.range before

  value_pushed : AreAllowed g code → Pushed
  value_pushed all = told.tells top (omega arith) (scope_free g top es scope) all before holds

  -- the scope is held where the value is pushed
  value_held : (first : Pushed) → HoldsScope g es first.after.frame
  value_held first = scopes_stay g top top es before.frame first.after.frame scope (omega arith) first.stay holds

  -- the scope after an assignment to a scalar
  module _ (name : List ℕ) (w : ℕ) (x : IsOwnScalar g es name type w) where
    after_is : changed (λ r. told.range) name es ≡ after_assignment (whole name) value es
    after_is =
        let numbered = scalar_numbered g es name type w x in
        let range = range_is type b told.range told.is in
        changed_is (λ r. told.range) (assigned told.range) name numbered.number
        (Scalar scalar.Variable type x.range) es numbered.is numbered.means refl
        ∙ (ap (λ (r : Ends). assign numbered.number r es) range
        ∙ (ap (λ (r : Result Ends ℕ). assign_if (Some numbered.number) r es) (ap range_found (sym bounded))
        ∙ ap (λ (o : Option ℕ). assign_if o (range_found (bound_of es value)) es)
        (sym (variable_is es name type x.range numbered.number x.means numbered.is))))

    after_scope : IsScope g top (after_assignment (whole name) value es)
    after_scope =
        let numbered = scalar_numbered g es name type w x in
        subst (λ (ds : List Entry). IsScope g top ds)
        (sym (changed_is (λ r. told.range) (assigned told.range) name numbered.number
        (Scalar scalar.Variable type x.range) es numbered.is numbered.means refl) ∙ after_is)
        (scope_changed g top es name type w (assigned told.range) told.range scope x refl told.ranged)

    scalar_falls : AreAllowed g (assign_code g.homes es top (whole name) value)
        → FallsTo g top (after_assignment (whole name) value es) (assign_code g.homes es top (whole name) value) before
    scalar_falls all =
        let target = scalar_target g es (word_after top 1) name type w x in
        let housed = scalar_housed g top es name type w scope x in
        let few = scope.few in
        let below = housed.1 in
        let inside : w < MAX_DATA_WORDS = omega (arith, below, few) in
        let there : AreAllowed g (code ++ (stores w ∷ [])) =
        subst (λ (y : Target). AreAllowed g (code ++ store_code y top)) target all in
        let first = value_pushed (allowed_first g code (stores w ∷ []) there) in
        let store = stored_scalars_are_held g es name w scalar.Variable type x.range told.range first.after inside
        x.writes x.means x.at x.beside (value_held first) first.a in
        record {
          after = store.0;
          falls = subst (λ (y : Target). FallOn g.setting (code ++ store_code y top) before store.0) (sym target)
              (fall_both first.falls store.1);
          holds = subst (λ (ds : List Entry). HoldsScope g ds store.0.frame) after_is store.2;
          scope = after_scope;
        }

  -- ---- elements

  abbrev next : ℕ
  next = word_after top 1

  next_later : top < next
  next_later = later_by top scope.few

  module _ (name : List ℕ) (e : Expression) (size w : ℕ) (x : IsOwnArray g es name type size w) where
    abbrev place : Place
    place = element name e

    -- a number that is stored in the array leaves the scope
    element_falls : (ps : List Piece) (first : Pushed) → Stored g.setting (λ n. n < top) ps first.after
        → FallsTo g top es (code ++ ps) before
    element_falls ps first store = record {
      after = store.after;
      falls = fall_both first.falls store.falls;
      holds = kept_numbers_hold g top es first.after.frame store.after.frame scope store.stay (value_held first);
      scope = scope;
    }

    below_top : w + words_for type size ≤ top
    below_top = array_below g top es name type size w x.range scope x.array

    known_there : (first : Pushed) → IsKnownArray g.setting w (words_for type size) first.after.frame
    known_there first = array_known g top es name type size w first.after.frame scope x (value_held first)

    element_by : IsSubscript g top es size e → AreAllowed g (assign_code g.homes es top place value)
        → FallsTo g top es (assign_code g.homes es top place value) before
    element_by (is_known c less is) all =
        let target = known_target g es next name type size w e x.range x.array c is in
        let rest : List Piece = store_code (KnownElement type w c) top in
        let there : AreAllowed g (code ++ rest) =
        subst (λ (y : Target). AreAllowed g (code ++ store_code y top)) target all in
        let first = value_pushed (allowed_first g code rest there) in
        let here = temporary g top (scope_free g top es scope) (first_stored g type w c top
        (allowed_rest g code rest there)) in
        subst (λ (y : Target). FallsTo g top es (code ++ store_code y top) before) (sym target)
        (element_falls rest first
        (known_stored g top next w (words_for type size) first.after told.range (scope_free g top es scope) next_later
        below_top (known_there first) told.ranged first.a type c here (element_inside type size w c less)))
    element_by (is_computed is all_of start) all =
        let target = other_target g es next name type size w e x.range x.array is in
        let rest : List Piece = store_code (OtherElement type w (subscript_of g.homes es next e)) top in
        let there : AreAllowed g (code ++ rest) =
        subst (λ (y : Target). AreAllowed g (code ++ store_code y top)) target all in
        let first = value_pushed (allowed_first g code rest there) in
        subst (λ (y : Target). FallsTo g top es (code ++ store_code y top) before) (sym target)
        (element_falls rest first
        (other_stored g top next w size es e first.after told.range scope (scope_free g top es scope) next_later
        (next_free top) (value_held first) told.ranged first.a type below_top (known_there first) all_of start
        (allowed_rest g code rest there)))

  assign_by : (name : List ℕ) (o : Option Expression) → IsVariable g top es name type o
      → AreAllowed g (assign_code g.homes es top (record { name = name; subscript = o }) value)
      → FallsTo g top (after_assignment (record { name = name; subscript = o }) value es)
      (assign_code g.homes es top (record { name = name; subscript = o }) value) before
  assign_by name None (whole_scalar {w = w} x) all = scalar_falls name w x all
  assign_by name (Some e) (array_element {size = size} {w = w} x sub) all = element_by name e size w x sub all

pub assignments_fall : AssignmentsFall
assignments_fall g top es target value before scope x all holds =
    let v = x.valued in
    assign_by g top es value v.type v.bound before scope v.bounded
    (expressions_tell g top es value (type_of_values v.type) v.bound scope v.words v.typed v.bounded) holds target.name
    target.subscript x.variable all
