-- The parts of an action that breaks no rule are ready.
use Rattle.std.proofs.Common.{◌≡◌, ℕ, zero, suc, ◌+◌, ◌<◌, ◌≤◌, ℤ, pos, negsuc, Bool, true, false, List, [], ◌∷◌}
use Rattle.std.proofs.Common.{Option, Some, None, Result, Ok, Err, IsSomeAnd, refl, sym, ap, subst, ◌∙◌}
use Rattle.std.proofs.Common.{arith}
use Rattle.std.specs.Prelude.{◌+ℤ◌, int_le, int_lt, is_some, IfSome, if◌then◌else◌}
use Rattle.std.proofs.lemmas.Bool.{and_parts}
use Rattle.std.proofs.lemmas.Int.{ints}
use Rattle.word_arithmetic.specs.Range.{Ends, InRange}
use Rattle.occam_parser.specs.declared.tree.ValueType.{ValueType}
use Rattle.occam_parser.specs.declared.tree.ValueType.TheVariants as value_type
use Rattle.occam_parser.specs.Expressions.{Expression, Alone}
use Rattle.occam_parser.specs.Expressions.{Element}
use Rattle.occam_parser.specs.Lines.{Place, Skip, Stop, Assign, Input, Output, Instance}
use Rattle.occam_parser.specs.Words.{has_words, place_has_words, has_words_if_any}
use Rattle.scalar_ranges.specs.declared.scope.ScalarKind.{ScalarKind}
use Rattle.scalar_ranges.specs.declared.scope.ScalarKind.TheVariants as scalar
use Rattle.scalar_ranges.specs.declared.scope.ArrayKind.{ArrayKind}
use Rattle.scalar_ranges.specs.declared.scope.ArrayKind.TheVariants as array
use Rattle.scalar_ranges.specs.declared.types.ExprType.{ExprType}
use Rattle.scalar_ranges.specs.declared.types.ExprType.TheVariants as types
use Rattle.scalar_ranges.specs.declared.bounds.TheConstants.{OUTSIDE}
use Rattle.scalar_ranges.specs.Bounds.{Bound, Within, ends, bound_of, range_found, is_subscript, element_bound}
use Rattle.scalar_ranges.specs.Entries.{Meaning, Scalar, Array, Channel, Channels, Entry, meaning_in}
use Rattle.scalar_ranges.specs.Environments.{Environment, item_at, item_of}
use Rattle.scalar_ranges.specs.Steps.{and_then, both}
use Rattle.scalar_ranges.specs.Types.{type_of, type_of_values, element_type, subscripted}
use Rattle.scalar_ranges.specs.Values.{number_of, truth_of}
use Rattle.program_uses.specs.declared.uses.Direction.{Direction}
use Rattle.program_uses.specs.declared.uses.Direction.TheVariants as direction
use Rattle.program_uses.specs.Places.{is_subscripted}
use Rattle.program_meaning.specs.Links.{Port}
use Rattle.program_meaning.specs.TypedValues.{IsNumberOf, IsOfType}
use Rattle.usage_checks.specs.declared.wanting.Wanted.TheVariants as wanted
use Rattle.usage_checks.specs.Holding.{IsFit, IsTarget, IsChannel, SubscriptHolds}
use Rattle.usage_checks.specs.PlaceRules.{target_type, channel_type, elements_in}
use Rattle.usage_checks.proofs.ActionsGoWell.{LiesIn, fit_has, fit_typed}
use Rattle.usage_checks.proofs.KnownValues.{found_number, found_whole}
use Rattle.code_pieces.specs.Pieces.{word_after}
use Rattle.line_pieces.specs.Actions.{carried}
use Rattle.line_pieces.specs.Expressions.{offset_of, or_zero}
use Rattle.meant_lines.specs.Carrying.{Ground}
use Rattle.meant_lines.specs.ExpressionLaws as lines
use Rattle.meant_lines.specs.ExpressionLaws.{IsChecked}
use Rattle.meant_lines.specs.Pushing.{IsCounted}
use Rattle.meant_lines.proofs.Expressions.{numbers_are_pushed, subscripts_are_pushed}
use Rattle.meant_lines.proofs.Housing.{after_counted, after_further}
use Rattle.meant_actions.specs.Acting.{IsSubscript, IsVariable, whole_scalar, array_element}
use Rattle.meant_actions.specs.Assigning.{IsAssignment}
use Rattle.meant_actions.specs.Checked.{HasVariables, CheckedActionsAreReady}
use Rattle.meant_actions.specs.Exchanging.{IsPort}
use Rattle.meant_actions.specs.Receiving.{IsInput}
use Rattle.meant_actions.specs.Sending.{IsElementOf, IsOutput, HasSource}
use Rattle.meant_actions.proofs.Sending.{same_types}

-- ---- numbers that are there

some_and : (P : ℤ → Type 0) (o : Option ℤ) → IsSomeAnd o P → (v : ℤ) × (o ≡ Some v) × P v
some_and P None is = absurd is
some_and P (Some v) is = (v, refl, is)

if_some : (P : ℤ → Type 0) (o : Option ℤ) (v : ℤ) → o ≡ Some v → IfSome o P → P v
if_some P o v is holds = subst (λ (x : Option ℤ). IfSome x P) is holds

lies : (type : ValueType) (t : ExprType) (range : Ends) (n : Option ℤ) (w : Option Bool) → type_of_values type ≡ t
    → LiesIn t range n w → IsSomeAnd n (InRange range)
lies value_type.Int t range n w same has = subst (λ (u : ExprType). LiesIn u range n w) (sym same) has
lies value_type.Byte t range n w same has = subst (λ (u : ExprType). LiesIn u range n w) (sym same) has

of_type : (type : ValueType) (t : ExprType) (v : ℤ) → type_of_values type ≡ t → IsNumberOf t v → IsOfType type v
of_type value_type.Int t v same is = subst (λ (u : ExprType). IsNumberOf u v) (sym same) is
of_type value_type.Byte t v same is = subst (λ (u : ExprType). IsNumberOf u v) (sym same) is

-- the numbers from one on, so many
counted_from : ℕ → ℕ → List ℤ
counted_from first zero = []
counted_from first (suc more) = pos first ∷ counted_from (suc first) more

counted_there : (first count k : ℕ) → k < count → item_at k (counted_from first count) ≡ Some (pos (first + k))
unfolding counted_from
counted_there first zero k less = absurd (omega (arith, less))
counted_there first (suc more) zero less =
    let same : first ≡ first + 0 = omega arith in
    ap (λ (n : ℕ). Some (pos n)) same
counted_there first (suc more) (suc k) less =
    let same : suc first + k ≡ first + suc k = omega arith in
    counted_there (suc first) more k (omega (arith, less)) ∙ ap (λ (n : ℕ). Some (pos n)) same

counted_only : (first count k i : ℕ) → item_at k (counted_from first count) ≡ Some (pos i) → first + k ≡ i
unfolding counted_from
counted_only first zero k i is = absurd (cc is)
counted_only first (suc more) zero i is = let same : first ≡ i = cc (is) in omega (arith, same)
counted_only first (suc more) (suc k) i is =
    let rest = counted_only (suc first) more k i is in
    omega (arith, rest)

none_before : (i : ℕ) → 0 + i ≡ i
none_before i = omega arith

-- what selects a number of those from 0 on is that number
selects_itself : (x : ℤ) (count i : ℕ) → item_of (counted_from 0 count) x ≡ Some (pos i) → x ≡ pos i
selects_itself (pos k) count i is =
    let same = counted_only 0 count k i is in
    let one : k ≡ i = omega (arith, same) in
    ap pos one
selects_itself (negsuc k) count i is = absurd (cc is)

-- ---- elements that are values

-- the rule of an element is that of its subscript
inside_array : (kind : ArrayKind) (of : ValueType) (size : ℕ) (all range : Ends) (r : Result Bound ℕ)
    → range_found (and_then r (element_bound (Some (Array kind of (Some size) all)))) ≡ Ok range
    → (b : Ends) × (range_found r ≡ Ok b) × (is_subscript size b ≡ true)
inside_array kind of size all range (Ok b) is = by (is_subscript size (ends b)) refl
  where
    by : (test : Bool) → is_subscript size (ends b) ≡ test
        → (c : Ends) × (range_found (Ok b) ≡ Ok c) × (is_subscript size c ≡ true)
    by true passes = (ends b, refl, passes)
    by false fails =
        absurd (cc (ap (λ (t : Bool). range_found (if t then Ok (Within all) else Err OUTSIDE)) (sym fails) ∙ is))
inside_array kind of size all range (Err n) is = absurd (cc is)

-- An element is one of an array, and its subscript is an INT.
record IsTypedElement (m : Option Meaning) (t : Result ExprType ℕ) : Type 0 where
  kind : ArrayKind
  of : ValueType
  size : Option ℕ
  all : Ends
  means : m ≡ Some (Array kind of size all)
  is_int : t ≡ Ok types.Int

element_typed : (m : Option Meaning) (t : Result ExprType ℕ) (type : ExprType)
    → both (element_type m) t subscripted ≡ Ok type → IsTypedElement m t
element_typed (Some (Array kind of size all)) (Ok types.Int) type is =
    record { kind = kind; of = of; size = size; all = all; means = refl; is_int = refl }
element_typed (Some (Array kind of size all)) (Ok types.Byte) type is = absurd (cc is)
element_typed (Some (Array kind of size all)) (Ok types.Condition) type is = absurd (cc is)
element_typed (Some (Array kind of size all)) (Err n) type is = absurd (cc is)
element_typed (Some m) (Ok t) type is = absurd (cc is)
element_typed (Some m) (Err n) type is = absurd (cc is)
element_typed None (Ok t) type is = absurd (cc is)
element_typed None (Err n) type is = absurd (cc is)

-- the type of what a channel carries
channel_carries : (m : Option Meaning) (subscripted : Bool) (type : ExprType) → channel_type m subscripted ≡ Ok type
    → type_of_values (carried m) ≡ type
channel_carries (Some (Channel of)) false type is = cc is
channel_carries (Some (Channels of size)) true type is = cc is
channel_carries (Some m) subscripted type is = absurd (cc is)
channel_carries None subscripted type is = absurd (cc is)

-- ---- subscripts

module _ (g : Ground) (top : ℕ) (es : List Entry) (env : Environment) (ports : List (Option Port))
    (names : HasVariables g es env) where
  -- the words from t on are free
  free_from : (t : ℕ) → top ≤ t → IsCounted t → lines.IsReady top es env t
  free_from t low few = record { holds = names.holds; free = low; counted = few }

  subscript_by : (t : ℕ) (e : Expression) (range : Ends) (size : ℕ) (v : ℤ) → top ≤ t → IsCounted t
      → IsFit (wanted.Value types.Int) es e types.Int range → is_subscript size range ≡ true → has_words e ≡ true
      → number_of env e ≡ Some v → InRange range v → (i : ℕ) × IsSubscript g top es env t size e i
  subscript_by t e range size (pos i) low few fit inside words is within =
      let parts = and_parts (int_le (pos 0) range.lo) (int_lt range.hi (pos size)) inside in
      let high = within.to_hi in
      let below = parts.1 in
      let less : i < size = omega (arith, ints, below, high) in
      let sound : IsChecked es e types.Int =
      record { range = range; type_is = fit.type_is; range_is = fit.range_is; literals = words } in
      let both = numbers_are_pushed g top t es env e types.Int (pos i) (free_from t low few) sound is in
      let first = subscripts_are_pushed.pushed g top t es env e (pos i) (pos i) (counted_from 0 (suc i))
      (free_from t low few) sound is
      (counted_there 0 (suc i) i (omega arith) ∙ ap (λ (n : ℕ). Some (pos n)) (none_before i)) in (
        i,
        record {
          range = range;
          found = fit.range_is;
          lies = within;
          inside = less;
          pushed = record { is = is; word = both.0; pushes = both.1 };
          first = record {
            value = first.i;
            leaf = first.leaf;
            sum = selects_itself (first.i +ℤ or_zero (offset_of es e)) (suc i) i first.are.selects;
            word = first.are.first;
            offset = first.are.offset;
            pushes = first.pushes;
          };
        },
      )
  subscript_by t e range size (negsuc i) low few fit inside words is within =
      let parts = and_parts (int_le (pos 0) range.lo) (int_lt range.hi (pos size)) inside in
      let from = within.from_lo in
      let above = parts.0 in
      absurd (omega (arith, ints, above, from))

  -- a subscript that breaks no rule
  subscript_ready : (t : ℕ) (e : Expression) (range : Ends) (size : ℕ) → top ≤ t → IsCounted t
      → IsFit (wanted.Value types.Int) es e types.Int range → is_subscript size range ≡ true → has_words e ≡ true
      → (i : ℕ) × IsSubscript g top es env t size e i
  subscript_ready t e range size low few fit inside words =
      let v = some_and (InRange range) (number_of env e)
      (fit_has (wanted.Value types.Int) es env e types.Int range names.holds.meets fit) in
      subscript_by t e range size v.0 low few fit inside words v.1 v.2

  -- ---- variables

  abbrev FoundVariable : (t : ℕ) (name : List ℕ) (type : ExprType) → Option Expression → Type 0
  FoundVariable t name type o = (of : ValueType) × (type_of_values of ≡ type) × IsVariable g top es env t name of o

  scalar_found : (t : ℕ) (name : List ℕ) (type : ExprType) (kind : ScalarKind) (of : ValueType) (range : Ends)
      → meaning_in name es ≡ Some (Scalar kind of range)
      → target_type (Some (Scalar kind of range)) false ≡ Ok type → FoundVariable t name type None
  scalar_found t name type scalar.Variable of range means is =
      let n = found_number name es (Scalar scalar.Variable of range) means in
      let w = names.scalars name of range means in
      let same : type_of_values of ≡ type = cc (is) in (
        of,
        same,
        whole_scalar (record {
          kind = scalar.Variable;
          range = range;
          means = means;
          number = n.1;
          at = w.1;
        }),
      )
  scalar_found t name type scalar.Reference of range means is = absurd (names.references name of range means)
  scalar_found t name type scalar.Value of range means is = absurd (cc is)
  scalar_found t name type scalar.Index of range means is = absurd (cc is)

  element_found : (t : ℕ) (name : List ℕ) (type : ExprType) (e : Expression) (kind : ArrayKind) (of : ValueType)
      (size : Option ℕ) (range : Ends) → top ≤ t → IsCounted t
      → meaning_in name es ≡ Some (Array kind of size range) → is_some size ≡ true
      → target_type (Some (Array kind of size range)) true ≡ Ok type
      → SubscriptHolds (wanted.Value types.Int) es size (Some e) → has_words e ≡ true
      → FoundVariable t name type (Some e)
  element_found t name type e array.Variable of None range low few means known is sub words = absurd (cc known)
  element_found t name type e array.Variable of (Some size) range low few means known is sub words =
      let n = found_number name es (Array array.Variable of (Some size) range) means in
      let w = names.arrays name of (Some size) range means in
      let same : type_of_values of ≡ type = cc (is) in
      let i = subscript_ready t e sub.0 size low few sub.1 (sub.2 size refl) words in (
        of,
        same,
        array_element (record {
          kind = array.Variable;
          range = range;
          means = means;
          number = n.1;
          at = w.1;
        }) i.1,
      )
  element_found t name type e array.Table of size range low few means known is sub words = absurd (cc is)
  element_found t name type e array.Value of size range low few means known is sub words = absurd (cc is)

  -- what can be assigned to, or received into
  found_by : (t : ℕ) (name : List ℕ) (o : Option Expression) (type : ExprType) (m : Option Meaning) → top ≤ t
      → IsCounted t → meaning_in name es ≡ m → IsTarget es (record { name = name; subscript = o }) type
      → has_words_if_any o ≡ true → FoundVariable t name type o
  found_by t name None type (Some (Scalar kind of range)) low few means h words =
      scalar_found t name type kind of range means
      (ap (λ (m : Option Meaning). target_type m false) (sym means) ∙ h.type_is)
  found_by t name (Some e) type (Some (Array kind of size range)) low few means h words =
      element_found t name type e kind of size range low few means
      (found_whole names.count name es (Array kind of size range) names.whole means)
      (ap (λ (m : Option Meaning). target_type m true) (sym means) ∙ h.type_is)
      (subst (λ (m : Option Meaning). SubscriptHolds (wanted.Value types.Int) es (elements_in m) (Some e)) means
      h.subscript) words
  found_by t name None type None low few means h words =
      absurd (cc (ap (λ (m : Option Meaning). target_type m false) (sym means) ∙ h.type_is))
  found_by t name None type (Some m) low few means h words =
      absurd (cc (ap (λ (m : Option Meaning). target_type m false) (sym means) ∙ h.type_is))
  found_by t name (Some e) type None low few means h words =
      absurd (cc (ap (λ (m : Option Meaning). target_type m true) (sym means) ∙ h.type_is))
  found_by t name (Some e) type (Some m) low few means h words =
      absurd (cc (ap (λ (m : Option Meaning). target_type m true) (sym means) ∙ h.type_is))

  -- ---- assignments

  assignment_ready : (target : Place) (value : Expression) (type : ExprType) (range : Ends) → IsCounted top
      → IsTarget es target type → IsFit wanted.Anything es value type range → place_has_words target ≡ true
      → has_words value ≡ true → IsAssignment g top es env target value
  assignment_ready target value type range few is_target fit target_words words =
      let found = found_by (word_after top 1) target.name target.subscript type (meaning_in target.name es)
      (after_further top 1 few) (after_counted top 1) refl is_target target_words in
      let v = some_and (InRange range) (number_of env value)
      (lies found.0 type range (number_of env value) (truth_of env value) found.1
      (fit_has wanted.Anything es env value type range names.holds.meets fit)) in
      let sound : IsChecked es value type =
      record { range = range; type_is = fit.type_is; range_is = fit.range_is; literals = words } in
      let pushed = numbers_are_pushed g top top es env value type v.0
      (free_from top (omega arith) few) sound v.1 in
      record {
        type = found.0;
        number = v.0;
        variable = found.2;
        pushed = record { is = v.1; word = pushed.0; pushes = pushed.1 };
        typed = of_type found.0 type v.0 found.1
            (if_some (IsNumberOf type) (number_of env value) v.0 v.1
            (fit_typed wanted.Anything es env value type range names.holds words fit));
      }

  -- ---- inputs

  port_type : (way : Direction) (channel : Place) (type : ExprType) (port : Port)
      → IsPort g es env ports way channel port → IsChannel es channel type → type_of_values port.carries ≡ type
  port_type way channel type port is_port is_channel =
      ap type_of_values (sym is_port.carries)
      ∙ channel_carries (meaning_in channel.name es) (is_subscripted channel.subscript) type is_channel.type_is

  input_ready : (channel target : Place) (type : ExprType) (port : Port) → IsCounted top
      → IsPort g es env ports direction.Input channel port → IsChannel es channel type → IsTarget es target type
      → place_has_words target ≡ true → IsInput g top es env ports channel target
  input_ready channel target type port few is_port is_channel is_target words =
      let found = found_by top target.name target.subscript type (meaning_in target.name es) (omega arith)
      few refl is_target words in
      let same : found.0 ≡ port.carries =
      same_types found.0 port.carries
      (ap Ok (found.1 ∙ sym (port_type direction.Input channel type port is_port is_channel))) in
      record {
        port = port;
        is_port = is_port;
        variable = subst (λ (t : ValueType). IsVariable g top es env top target.name t target.subscript) same found.2;
      }

  -- ---- outputs

  element_source : (name : List ℕ) (e : Expression) (type : ExprType) (range : Ends) → IsCounted top
      → IsFit wanted.Anything es (Alone (Element name e)) type range → has_words e ≡ true
      → IsElementOf g top es env name e
  element_source name e type range few fit words =
      let typed = element_typed (meaning_in name es) (type_of es e) type fit.type_is in
      by typed typed.size typed.means
      (found_whole names.count name es (Array typed.kind typed.of typed.size typed.all) names.whole typed.means)
    where
      by : (typed : IsTypedElement (meaning_in name es) (type_of es e)) (size : Option ℕ)
          → meaning_in name es ≡ Some (Array typed.kind typed.of size typed.all) → is_some size ≡ true
          → IsElementOf g top es env name e
      by typed None means known = absurd (cc known)
      by typed (Some size) means known =
          let inside = inside_array typed.kind typed.of size typed.all range (bound_of es e)
          (ap (λ (m : Option Meaning). range_found (and_then (bound_of es e) (element_bound m))) (sym means)
          ∙ fit.range_is) in
          let i = subscript_ready top e inside.0 size (omega arith) few
          (record { type_is = typed.is_int; range_is = inside.1; suits = refl }) inside.2 words in
          record {
            kind = typed.kind;
            type = typed.of;
            size = size;
            range = typed.all;
            means = means;
            number = i.0;
            subscript = i.1;
          }

  source_ready : (value : Expression) (type : ExprType) (range : Ends) → IsCounted top
      → IsFit wanted.Anything es value type range → has_words value ≡ true → HasSource g top es env value
  source_ready (Alone (Element name e)) type range few fit words = element_source name e type range few fit words
  source_ready value type range few fit words = tt

  output_ready : (channel : Place) (value : Expression) (type : ExprType) (range : Ends) (port : Port)
      → IsCounted top → IsPort g es env ports direction.Output channel port → IsChannel es channel type
      → IsFit wanted.Anything es value type range → has_words value ≡ true
      → IsOutput g top es env ports channel value
  output_ready channel value type range port few is_port is_channel fit words =
      let same = port_type direction.Output channel type port is_port is_channel in
      let v = some_and (InRange range) (number_of env value)
      (lies port.carries type range (number_of env value) (truth_of env value) same
      (fit_has wanted.Anything es env value type range names.holds.meets fit)) in
      let sound : IsChecked es value type =
      record { range = range; type_is = fit.type_is; range_is = fit.range_is; literals = words } in
      let pushed = numbers_are_pushed g top top es env value type v.0
      (free_from top (omega arith) few) sound v.1 in
      record {
        port = port;
        is_port = is_port;
        number = v.0;
        type_is = fit.type_is ∙ ap Ok (sym same);
        pushed = record { is = v.1; word = pushed.0; pushes = pushed.1 };
        source = source_ready value type range few fit words;
      }

pub checked_actions_are_ready : CheckedActionsAreReady
checked_actions_are_ready g top es env ports signatures Skip few names port holds words sequential = tt
checked_actions_are_ready g top es env ports signatures Stop few names port holds words sequential = tt
checked_actions_are_ready g top es env ports signatures (Assign target value) few names port holds words
    sequential =
    let parts = and_parts (place_has_words target) (has_words value) words in
    assignment_ready g top es env ports names target value holds.0 holds.1 few holds.2 holds.3 parts.0 parts.1
checked_actions_are_ready g top es env ports signatures (Input channel target) few names port holds words
    sequential =
    let parts = and_parts (place_has_words channel) (place_has_words target) words in
    input_ready g top es env ports names channel target holds.0 port.0 few port.1 holds.1 holds.2 parts.1
checked_actions_are_ready g top es env ports signatures (Output channel value) few names port holds words
    sequential =
    let parts = and_parts (place_has_words channel) (has_words value) words in
    output_ready g top es env ports names channel value holds.0 holds.1 port.0 few port.1 holds.2 holds.3 parts.1
checked_actions_are_ready g top es env ports signatures (Instance name actuals) few names port holds words
    sequential = absurd sequential
