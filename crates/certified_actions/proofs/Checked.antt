-- An action that breaks no rule is ready.
use Rattle.std.proofs.Common.{◌≡◌, ℕ, Bool, true, false, List, Option, Some, None, Result, Ok, Err, refl, sym, ap}
use Rattle.std.proofs.Common.{subst, ◌∙◌}
use Rattle.std.specs.Prelude.{if◌then◌else◌, is_some}
use Rattle.std.proofs.lemmas.Bool.{and_parts}
use Rattle.word_arithmetic.specs.Range.{Ends}
use Rattle.module_format.specs.declared.rows.Direction.TheVariants.{In, Out}
use Rattle.occam_parser.specs.declared.tree.ValueType.{ValueType}
use Rattle.occam_parser.specs.declared.tree.ValueType.TheVariants as value_type
use Rattle.occam_parser.specs.Expressions.{Alone, Element, Expression}
use Rattle.occam_parser.specs.Lines.{Assign, Input, Instance, Output, Place, Skip, Stop}
use Rattle.occam_parser.specs.Words.{has_words, has_words_if_any, place_has_words}
use Rattle.scalar_ranges.specs.declared.bounds.TheConstants.{OUTSIDE}
use Rattle.scalar_ranges.specs.declared.scope.ArrayKind.{ArrayKind}
use Rattle.scalar_ranges.specs.declared.scope.ArrayKind.TheVariants as array
use Rattle.scalar_ranges.specs.declared.scope.ScalarKind.{ScalarKind}
use Rattle.scalar_ranges.specs.declared.scope.ScalarKind.TheVariants as scalar
use Rattle.scalar_ranges.specs.declared.types.ExprType.{ExprType}
use Rattle.scalar_ranges.specs.declared.types.ExprType.TheVariants as types
use Rattle.scalar_ranges.specs.Bounds.{Bound, Within, bound_of, element_bound, ends, is_subscript, range_found}
use Rattle.scalar_ranges.specs.Entries.{Array, Channel, Channels, Entry, Meaning, Scalar, meaning_in}
use Rattle.scalar_ranges.specs.Steps.{and_then, both}
use Rattle.scalar_ranges.specs.Types.{element_type, subscripted, type_of, type_of_values}
use Rattle.program_uses.specs.Places.{is_subscripted}
use Rattle.usage_checks.specs.declared.wanting.Wanted.TheVariants as wanted
use Rattle.usage_checks.specs.Holding.{IsChannel, IsFit, IsTarget, SubscriptHolds}
use Rattle.usage_checks.specs.PlaceRules.{channel_type, elements_in, target_type}
use Rattle.usage_checks.proofs.KnownValues.{found_whole}
use Rattle.line_pieces.specs.Actions.{carried}
use Rattle.certified_lines.specs.Scopes.{IsScope, Scene}
use Rattle.certified_actions.specs.Assigning.{IsAssignment}
use Rattle.certified_actions.specs.Checked.{CheckedActionsAreReady, HasVariables}
use Rattle.certified_actions.specs.Exchanging.{IsPort}
use Rattle.certified_actions.specs.Receiving.{IsInput}
use Rattle.certified_actions.specs.Sending.{HasSource, IsElementOf, IsOutput}
use Rattle.certified_actions.specs.Variables.{IsVariable, array_element, whole_scalar}
use Rattle.certified_actions.proofs.Subscripts.{bound_found, subscript_selects}

-- ---- types

-- types whose values have the same type are the same
same_types : (a b : ValueType) → type_of_values a ≡ type_of_values b → a ≡ b
same_types value_type.Int value_type.Int is = refl
same_types value_type.Int value_type.Byte is = absurd (cc is)
same_types value_type.Byte value_type.Int is = absurd (cc is)
same_types value_type.Byte value_type.Byte is = refl

-- the type of what a channel carries
channel_carries : (m : Option Meaning) (subscripted : Bool) (type : ExprType) → channel_type m subscripted ≡ Ok type
    → type_of_values (carried m) ≡ type
channel_carries (Some (Channel of)) false type is = cc is
channel_carries (Some (Channels of size)) true type is = cc is
channel_carries (Some m) subscripted type is = absurd (cc is)
channel_carries None subscripted type is = absurd (cc is)

-- An element is one of an array, and its subscript is an INT.
record IsTypedElement (m : Option Meaning) (t : Result ExprType ℕ) (type : ExprType) : Type 0 where
  kind : ArrayKind
  of : ValueType
  size : Option ℕ
  all : Ends
  means : m ≡ Some (Array kind of size all)
  is_int : t ≡ Ok types.Int
  is : type_of_values of ≡ type

element_typed : (m : Option Meaning) (t : Result ExprType ℕ) (type : ExprType)
    → both (element_type m) t subscripted ≡ Ok type → IsTypedElement m t type
element_typed (Some (Array kind of size all)) (Ok types.Int) type is =
    record { kind = kind; of = of; size = size; all = all; means = refl; is_int = refl; is = cc is }
element_typed (Some (Array kind of size all)) (Ok types.Byte) type is = absurd (cc is)
element_typed (Some (Array kind of size all)) (Ok types.Condition) type is = absurd (cc is)
element_typed (Some (Array kind of size all)) (Err n) type is = absurd (cc is)
element_typed (Some m) (Ok t) type is = absurd (cc is)
element_typed (Some m) (Err n) type is = absurd (cc is)
element_typed None (Ok t) type is = absurd (cc is)
element_typed None (Err n) type is = absurd (cc is)

-- the rule of an element is that of its subscript
inside_array : (kind : ArrayKind) (of : ValueType) (size : ℕ) (all range : Ends) (r : Result Bound ℕ)
    → range_found (and_then r (element_bound (Some (Array kind of (Some size) all)))) ≡ Ok range
    → (b : Ends) × (range_found r ≡ Ok b) × (is_subscript size b ≡ true)
inside_array kind of size all range (Ok b) is = by (is_subscript size (ends b)) refl
  where
    by : (test : Bool) → is_subscript size (ends b) ≡ test
        → (c : Ends) × (range_found (Ok b) ≡ Ok c) × (is_subscript size c ≡ true)
    by true passes = (ends b, refl, passes)
    by false fails =
        absurd (cc (ap (λ (t : Bool). range_found (if t then Ok (Within all) else Err OUTSIDE)) (sym fails) ∙ is))
inside_array kind of size all range (Err n) is = absurd (cc is)

module _ (g : Scene) (top : ℕ) (es : List Entry) (scope : IsScope g top es) (names : HasVariables g es) where
  -- ---- variables

  abbrev FoundVariable : List ℕ → ExprType → Option Expression → Type 0
  FoundVariable name type o = (of : ValueType) × (type_of_values of ≡ type) × IsVariable g top es name of o

  scalar_found : (name : List ℕ) (type : ExprType) (kind : ScalarKind) (of : ValueType) (range : Ends)
      → meaning_in name es ≡ Some (Scalar kind of range)
      → target_type (Some (Scalar kind of range)) false ≡ Ok type → FoundVariable name type None
  scalar_found name type scalar.Variable of range means is =
      let own = names.scalars name of range means in
      let same : type_of_values of ≡ type = cc (is) in (
        of,
        same,
        whole_scalar (record { range = range; means = means; at = own.at; beside = own.beside; writes = own.writes }),
      )
  scalar_found name type scalar.Reference of range means is = absurd (names.references name of range means)
  scalar_found name type scalar.Value of range means is = absurd (cc is)
  scalar_found name type scalar.Index of range means is = absurd (cc is)

  element_found : (name : List ℕ) (type : ExprType) (e : Expression) (kind : ArrayKind) (of : ValueType)
      (size : Option ℕ) (range : Ends) → meaning_in name es ≡ Some (Array kind of size range) → is_some size ≡ true
      → target_type (Some (Array kind of size range)) true ≡ Ok type
      → SubscriptHolds (wanted.Value types.Int) es size (Some e) → has_words e ≡ true
      → FoundVariable name type (Some e)
  element_found name type e array.Variable of None range means known is sub words = absurd (cc known)
  element_found name type e array.Variable of (Some size) range means known is sub words =
      let own = names.arrays name of size range means in
      let same : type_of_values of ≡ type = cc (is) in (
        of,
        same,
        array_element (record {
          range = range;
          array = record { kind = array.Variable; means = means; at = own.at };
          writes = own.writes;
        })
            (subscript_selects g top es e sub.0 size scope words sub.1.type_is sub.1.range_is (sub.2 size refl)),
      )
  element_found name type e array.Table of size range means known is sub words = absurd (cc is)
  element_found name type e array.Value of size range means known is sub words = absurd (cc is)

  -- what can be assigned to, or received into
  found_by : (name : List ℕ) (o : Option Expression) (type : ExprType) (m : Option Meaning) → meaning_in name es ≡ m
      → IsTarget es (record { name = name; subscript = o }) type → has_words_if_any o ≡ true → FoundVariable name type o
  found_by name None type (Some (Scalar kind of range)) means h words =
      scalar_found name type kind of range means
      (ap (λ (m : Option Meaning). target_type m false) (sym means) ∙ h.type_is)
  found_by name (Some e) type (Some (Array kind of size range)) means h words =
      element_found name type e kind of size range means
      (found_whole names.count name es (Array kind of size range) names.whole means)
      (ap (λ (m : Option Meaning). target_type m true) (sym means) ∙ h.type_is)
      (subst (λ (m : Option Meaning). SubscriptHolds (wanted.Value types.Int) es (elements_in m) (Some e)) means
      h.subscript) words
  found_by name None type None means h words =
      absurd (cc (ap (λ (m : Option Meaning). target_type m false) (sym means) ∙ h.type_is))
  found_by name None type (Some m) means h words =
      absurd (cc (ap (λ (m : Option Meaning). target_type m false) (sym means) ∙ h.type_is))
  found_by name (Some e) type None means h words =
      absurd (cc (ap (λ (m : Option Meaning). target_type m true) (sym means) ∙ h.type_is))
  found_by name (Some e) type (Some m) means h words =
      absurd (cc (ap (λ (m : Option Meaning). target_type m true) (sym means) ∙ h.type_is))

  target_found : (target : Place) (type : ExprType) → IsTarget es target type → place_has_words target ≡ true
      → FoundVariable target.name type target.subscript
  target_found target type is words =
      found_by target.name target.subscript type (meaning_in target.name es) refl is words

  -- ---- actions

  assignment_ready : (target : Place) (value : Expression) (type : ExprType) (range : Ends) → IsTarget es target type
      → IsFit wanted.Anything es value type range → place_has_words target ≡ true → has_words value ≡ true
      → IsAssignment g top es target value
  assignment_ready target value type range is_target fit target_words words =
      let found = target_found target type is_target target_words in
      let b = bound_found (bound_of es value) range fit.range_is in
      record {
        valued = record {
          type = found.0;
          bound = b.0;
          words = words;
          typed = fit.type_is ∙ ap (λ (t : ExprType). Ok t) (sym found.1);
          bounded = b.1;
        };
        variable = found.2;
      }

  input_ready : (channel target : Place) (type : ExprType)
      → IsPort g es In channel (carried (meaning_in channel.name es)) → IsChannel es channel type
      → IsTarget es target type → place_has_words target ≡ true → IsInput g top es channel target
  input_ready channel target type port is_channel is_target words =
      let found = target_found target type is_target words in
      let carries = channel_carries (meaning_in channel.name es) (is_subscripted channel.subscript) type
      is_channel.type_is in
      record {
        type = carried (meaning_in channel.name es);
        port = port;
        variable = subst (λ (t : ValueType). IsVariable g top es target.name t target.subscript)
            (same_types found.0 (carried (meaning_in channel.name es)) (found.1 ∙ sym carries)) found.2;
      }

  -- an element that is sent
  element_source : (name : List ℕ) (e : Expression) (type : ExprType) (of : ValueType) (range : Ends)
      → type_of_values of ≡ type → IsFit wanted.Anything es (Alone (Element name e)) type range → has_words e ≡ true
      → IsElementOf g top es of name e
  element_source name e type of range same fit words =
      let typed = element_typed (meaning_in name es) (type_of es e) type fit.type_is in
      by typed typed.size typed.means
      (found_whole names.count name es (Array typed.kind typed.of typed.size typed.all) names.whole typed.means)
    where
      by : (typed : IsTypedElement (meaning_in name es) (type_of es e) type) (size : Option ℕ)
          → meaning_in name es ≡ Some (Array typed.kind typed.of size typed.all) → is_some size ≡ true
          → IsElementOf g top es of name e
      by typed None means known = absurd (cc known)
      by typed (Some size) means known =
          let inside = inside_array typed.kind typed.of size typed.all range (bound_of es e)
          (ap (λ (m : Option Meaning). range_found (and_then (bound_of es e) (element_bound m))) (sym means)
          ∙ fit.range_is) in
          record {
            kind = typed.kind;
            size = size;
            range = typed.all;
            means = subst (λ (t : ValueType). meaning_in name es ≡ Some (Array typed.kind t (Some size) typed.all))
                (same_types typed.of of (typed.is ∙ sym same)) means;
            subscript = subscript_selects g top es e inside.0 size scope words typed.is_int inside.1 inside.2;
          }

  source_ready : (value : Expression) (type : ExprType) (of : ValueType) (range : Ends) → type_of_values of ≡ type
      → IsFit wanted.Anything es value type range → has_words value ≡ true → HasSource g top es of value
  source_ready (Alone (Element name e)) type of range same fit words = element_source name e type of range same fit
      words
  source_ready value type of range same fit words = tt

  output_ready : (channel : Place) (value : Expression) (type : ExprType) (range : Ends)
      → IsPort g es Out channel (carried (meaning_in channel.name es)) → IsChannel es channel type
      → IsFit wanted.Anything es value type range → has_words value ≡ true → IsOutput g top es channel value
  output_ready channel value type range port is_channel fit words =
      let carries = channel_carries (meaning_in channel.name es) (is_subscripted channel.subscript) type
      is_channel.type_is in
      let b = bound_found (bound_of es value) range fit.range_is in
      record {
        valued = record {
          type = carried (meaning_in channel.name es);
          bound = b.0;
          words = words;
          typed = fit.type_is ∙ ap (λ (t : ExprType). Ok t) (sym carries);
          bounded = b.1;
        };
        source = source_ready value type (carried (meaning_in channel.name es)) range carries fit words;
        port = port;
      }

pub checked_actions_are_ready : CheckedActionsAreReady
checked_actions_are_ready g top es signatures Skip scope names port holds words = tt
checked_actions_are_ready g top es signatures Stop scope names port holds words = tt
checked_actions_are_ready g top es signatures (Assign target value) scope names port holds words =
    let parts = and_parts (place_has_words target) (has_words value) words in
    assignment_ready g top es scope names target value holds.0 holds.1 holds.2 holds.3 parts.0 parts.1
checked_actions_are_ready g top es signatures (Input channel target) scope names port holds words =
    let parts = and_parts (place_has_words channel) (place_has_words target) words in
    input_ready g top es scope names channel target holds.0 port holds.1 holds.2 parts.1
checked_actions_are_ready g top es signatures (Output channel value) scope names port holds words =
    let parts = and_parts (place_has_words channel) (has_words value) words in
    output_ready g top es scope names channel value holds.0 holds.1 port holds.2 holds.3 parts.1
checked_actions_are_ready g top es signatures (Instance name actuals) scope names port holds words = tt
