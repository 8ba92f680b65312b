-- What follows of a line that breaks no rule, where names are whole.
use Rattle.std.proofs.Common.{◌≡◌, ℕ, zero, suc, ◌+◌, ◌<◌, ◌≤◌, ℤ, pos, negsuc, Bool, true, false, cond, ◌&&◌, List, []}
use Rattle.std.proofs.Common.{◌∷◌}
use Rattle.std.proofs.Common.{length, Option, Some, None, Result, Ok, Err, inl, inr, refl, sym, ap, subst, arith, ◌∙◌}
use Rattle.std.proofs.Common.{nat_eq, nat_lt, option_map}
use Rattle.std.specs.Prelude.{fold, int_le, int_lt, is_some, unwrap_or}
use Rattle.std.specs.List.{AllByRecursion}
use Rattle.std.proofs.lemmas.Bool.{and_parts, eqb-true, ltb-true, true_from_ne_false}
use Rattle.small_laws.proofs.Comparisons.{eqb-self}
use Rattle.word_arithmetic.specs.Range.{Ends, constant, hull}
use Rattle.occam_parser.specs.declared.tree.FormalKind.{FormalKind}
use Rattle.occam_parser.specs.declared.tree.FormalKind.TheVariants as formal_kind
use Rattle.occam_parser.specs.declared.tree.ValueType.{ValueType}
use Rattle.occam_parser.specs.declared.tree.ValueType.TheVariants as value_type
use Rattle.occam_parser.specs.Expressions.{Expression}
use Rattle.occam_parser.specs.OneOrMore.{OneOrMore, as_list}
use Rattle.occam_parser.specs.Lines.{Place, Replicator, Value, Scalar, Table, Bytes, Declaration, Constants, Variables}
use Rattle.occam_parser.specs.Lines.{Channels, Action, Skip, Stop, Assign, Input, Output, Instance, Guard, Receives}
use Rattle.occam_parser.specs.Lines.{Skips}
use Rattle.occam_parser.specs.Lines.{Formal}
use Rattle.scalar_ranges.specs.declared.bounds.TheConstants.{OUT_OF_RANGE, OUTSIDE}
use Rattle.scalar_ranges.specs.declared.types.ExprType.{ExprType}
use Rattle.scalar_ranges.specs.declared.types.ExprType.TheVariants as types
use Rattle.scalar_ranges.specs.declared.types.TheConstants.{UNKNOWN_NAME, WRONG_TYPE}
use Rattle.scalar_ranges.specs.declared.scope.ArrayKind.TheVariants as array
use Rattle.scalar_ranges.specs.Entries as entries
use Rattle.scalar_ranges.specs.Entries.{Meaning, Entry, type_range, meaning_in, number_in}
use Rattle.scalar_ranges.specs.Environments.{item_at}
use Rattle.scalar_ranges.specs.Types.{type_of_values, type_of}
use Rattle.scalar_ranges.specs.Bounds.{is_subscript}
use Rattle.scalar_ranges.specs.Steps.{both_some}
use Rattle.program_uses.specs.declared.faults.TheConstants.{OTHER_ACTUAL}
use Rattle.program_uses.specs.declared.uses.Direction.{Direction}
use Rattle.program_uses.specs.declared.uses.Direction.TheVariants as direction
use Rattle.program_uses.specs.Constants.{value_as, size_in}
use Rattle.program_uses.specs.Declaring.{with_value, range_of_items, range_of_bytes, table_of, constant_meaning}
use Rattle.program_uses.specs.Declaring.{variable_meaning, channel_meaning, formal_meaning}
use Rattle.program_uses.specs.Instances.{place_in}
use Rattle.program_uses.specs.Places.{element_in, element_of, is_subscripted}
use Rattle.program_uses.specs.Signatures.{Parameter, parameters_in}
use Rattle.usage_checks.specs.declared.channel_rules.Position.{Position}
use Rattle.usage_checks.specs.declared.wanting.Wanted.{Wanted}
use Rattle.usage_checks.specs.declared.wanting.Wanted.TheVariants as wanted
use Rattle.usage_checks.specs.ActionRules.{BreaksAction, BreaksGuard}
use Rattle.usage_checks.specs.DeclarationRules.{BreaksSizeIfAny, HasOtherSize, IsNoText, BreaksItem, BreaksValue}
use Rattle.usage_checks.specs.DeclarationRules.{BreaksDeclaration}
use Rattle.usage_checks.specs.EachBroken.{BreaksEach}
use Rattle.usage_checks.specs.Following.{where_holds}
use Rattle.usage_checks.specs.FormalRules.{BreakSizes}
use Rattle.usage_checks.specs.Holding.{HasValue, Suits, IsFit, SubscriptHolds, IsTarget, IsChannel, ActualHolds}
use Rattle.usage_checks.specs.Holding.{ActualsHold, InstanceHolds, InputHolds, ActionHolds, ConditionHolds}
use Rattle.usage_checks.specs.Holding.{ConditionHoldsIfAny, GuardHolds, ReplicatorHolds, SizeHoldsIfAny, ValueHolds}
use Rattle.usage_checks.specs.Holding.{DeclarationHolds, FormalsHold}
use Rattle.usage_checks.specs.InstanceRules.{takes, takes_value, IsNotTaken, subscript_for, IsNoValue, BreaksActual}
use Rattle.usage_checks.specs.InstanceRules.{BreaksOne, IsNotCalled, BreaksInstance}
use Rattle.usage_checks.specs.LineRules.{BreaksInput, BreaksCondition, BreaksConditionIfAny, fits_word, IsNoCount}
use Rattle.usage_checks.specs.LineRules.{BreaksReplicator}
use Rattle.usage_checks.specs.NameRules.{declared_meaning}
use Rattle.usage_checks.specs.PlaceRules.{channel_type, elements_in, target_at, channel_at, IsOutside}
use Rattle.usage_checks.specs.PlaceRules.{BreaksSubscript, BreaksTarget, Differ}
use Rattle.usage_checks.specs.ChannelRules.{BreaksEnd}
use Rattle.usage_checks.specs.Whole.{is_whole, AreWhole}
use Rattle.scalar_ranges.proofs.Parts.{ok_same}
use Rattle.usage_checks.proofs.KnownValues.{found_whole, found_number, IsNumber, types_agree, WantsNumber}
use Rattle.usage_checks.proofs.KnownValues.{fit}
use Rattle.usage_checks.proofs.KnownValues.{value_found, value_range, size_found, size_positive}
use Rattle.usage_checks.proofs.WholeMoves.{holds_whole}

type_found : (r : Result ExprType ℕ) → ((n : ℕ) → r ≡ Err n → ⊥) → (type : ExprType) × (r ≡ Ok type)
type_found (Ok t) none = (t, refl)
type_found (Err e) none = absurd (none e refl)

agree : (r s : Result ExprType ℕ) (t u : ExprType) → r ≡ Ok t → s ≡ Ok u → ((n : ℕ) → Differ r s n → ⊥) → t ≡ u
agree r s t u is_t is_u none =
    types_agree t u (λ h. none WRONG_TYPE
    (subst (λ (x : Result ExprType ℕ × Result ExprType ℕ). Differ x.0 x.1 WRONG_TYPE) (λ i. (sym is_t i, sym is_u i))
    (h, refl)))

-- ---- subscripts and places

abbrev pub WantsInt : Wanted → Type 0
WantsInt wanted.Anything = ⊥
WantsInt (wanted.Value t) = t ≡ types.Int
WantsInt (wanted.Constant t) = t ≡ types.Int

int_type : (w : Wanted) (es : List Entry) (e : Expression) (t : ExprType) → WantsInt w → Suits w es e t
    → t ≡ types.Int
int_type wanted.Anything es e t i s = absurd i
int_type (wanted.Value u) es e t i s = s ∙ i
int_type (wanted.Constant u) es e t i s = s.0 ∙ i

int_number : (w : Wanted) → WantsInt w → WantsNumber w
int_number wanted.Anything i = tt
int_number (wanted.Value t) i = tt
int_number (wanted.Constant t) i = subst IsNumber (sym i) tt

pub subscript_holds : (w : Wanted) (count : ℕ) (es : List Entry) (size : Option ℕ) (o : Option Expression)
    → AreWhole count es → WantsInt w → ((n : ℕ) → BreaksSubscript w es size o n → ⊥) → SubscriptHolds w es size o
subscript_holds w count es size None whole int none = tt
subscript_holds w count es size (Some e) whole int none =
    let x = fit w count es e whole (int_number w int) (λ n h. none n (inl h)) in
    let type = int_type w es e x.0 int x.2.suits in
    let at_int = subst (λ t. IsFit w es e t x.1) type x.2 in (
      x.1,
      at_int,
      λ n is. true_from_ne_false (is_subscript n x.1) (λ h. none OUTSIDE
          (inr (subst (λ (y : Option ℕ × Result ExprType ℕ × Result Ends ℕ). IsOutside y.0 y.1 y.2 OUTSIDE)
          (λ i. (sym is i, sym at_int.type_is i, sym at_int.range_is i)) (h, refl)))),
    )

target_holds : (count : ℕ) (es : List Entry) (p : Place) → AreWhole count es → ((n : ℕ) → BreaksTarget es p n → ⊥)
    → (type : ExprType) × IsTarget es p type
target_holds count es p whole none =
    let t = type_found (target_at es p) (λ n h. none n (inl h)) in (
      t.0,
      record {
        type_is = t.1;
        subscript = subscript_holds (wanted.Value types.Int) count es (elements_in (meaning_in p.name es)) p.subscript
            whole refl (λ n h. none n (inr h));
      },
    )

-- the element that a subscript in bounds names
element_known : (size : ℕ) (v : ℤ) → is_subscript size (constant v) ≡ true
    → (i : ℕ) × (element_in (Some size) (Some v) ≡ Some i)
element_known size (pos i) h =
    let inside : nat_lt i size ≡ true = (and_parts (int_le (pos 0) (pos i)) (int_lt (pos i) (pos size)) h).1 in
    (i, ap (λ t. cond t (Some i) None) inside)
element_known size (negsuc i) h = absurd (cc h)

element_found : (es : List Entry) (count : ℕ) (m : Option Meaning) (o : Option Expression) (t : ExprType)
    → ((k : Meaning) → m ≡ Some k → is_whole count k ≡ true) → channel_type m (is_subscripted o) ≡ Ok t
    → SubscriptHolds (wanted.Constant types.Int) es (elements_in m) o → (i : ℕ) × (element_of es m o ≡ Some i)
element_found es count (Some (entries.Channel type)) None t whole h s = (0, refl)
element_found es count (Some (entries.Channel type)) (Some e) t whole h s = absurd (cc h)
element_found es count (Some (entries.Channels type (Some size))) (Some e) t whole h s =
    let v = s.1.suits.1 in
    let range : s.0 ≡ constant v.0 = ok_same _ _ (sym s.1.range_is ∙ value_range types.Int es e v.0 v.1) in
    let k = element_known size v.0 (subst (λ r. is_subscript size r ≡ true) range (s.2 size refl)) in
    (k.0, ap (element_in (Some size)) v.1 ∙ k.1)
element_found es count (Some (entries.Channels type None)) (Some e) t whole h s =
    absurd (cc (whole (entries.Channels type None) refl))
element_found es count (Some (entries.Channels type size)) None t whole h s = absurd (cc h)
element_found es count (Some (entries.Constant type value)) o t whole h s = absurd (cc h)
element_found es count (Some (entries.Scalar kind type range)) o t whole h s = absurd (cc h)
element_found es count (Some (entries.Array kind type size range)) o t whole h s = absurd (cc h)
element_found es count (Some (entries.Procedure number)) o t whole h s = absurd (cc h)
element_found es count None o t whole h s = absurd (cc h)

-- what has a type is there
type_there : (m : Option Meaning) (subscripted : Bool) (t : ExprType) → channel_type m subscripted ≡ Ok t
    → (k : Meaning) × (m ≡ Some k)
type_there None subscripted t h = absurd (cc h)
type_there (Some k) subscripted t h = (k, refl)

channel_holds : (p : Position) (d : Direction) (count : ℕ) (es : List Entry) (c : Place) → AreWhole count es
    → ((n : ℕ) → BreaksEnd p es d c n → ⊥) → (type : ExprType) × IsChannel es c type
channel_holds p d count es c whole none =
    let t = type_found (channel_at es c) (λ n h. none n (inl (inl h))) in
    let m = meaning_in c.name es in
    let sub = subscript_holds (wanted.Constant types.Int) count es (elements_in m) c.subscript whole refl
    (λ n h. none n (inl (inr h))) in
    let there = type_there m (is_subscripted c.subscript) t.0 t.1 in
    let number = found_number c.name es there.0 there.1 in
    let element = element_found es count m c.subscript t.0 (λ k is. found_whole count c.name es k whole is) t.1 sub in (
      t.0,
      record {
        type_is = t.1;
        subscript = sub;
        spot = ap is_some
            (λ i. both_some (number.1 i) (element.1 i) (λ n i. Some (record { channel = n; element = i })));
      },
    )

-- ---- instances

record IsCalled (signatures : List (List Parameter)) (m : Option Meaning) (count : ℕ) : Type 0 where
  number : ℕ
  called : m ≡ Some (entries.Procedure number)
  long : length (parameters_in signatures m) ≡ count

called_of : (signatures : List (List Parameter)) (m : Option Meaning) (count : ℕ)
    → ((n : ℕ) → IsNotCalled signatures m count n → ⊥) → IsCalled signatures m count
called_of signatures None count none = absurd (none UNKNOWN_NAME refl)
called_of signatures (Some (entries.Procedure number)) count none =
    let long = length (parameters_in signatures (Some (entries.Procedure number))) in
    let same = true_from_ne_false (nat_eq long count) (λ h. none OTHER_ACTUAL (h, refl)) in
    record { number = number; called = refl; long = eqb-true long count same }
called_of signatures (Some m) count none = absurd (none WRONG_TYPE refl)

pub item_known : {A : Type 0} (n : ℕ) (xs : List A) → n < length xs → (x : A) × (item_at n xs ≡ Some x)
item_known n [] h = absurd (omega (arith, h))
item_known zero (x ∷ xs) h = (x, refl)
item_known (suc n) (x ∷ xs) h = item_known n xs (omega (arith, h))

taken_of : (formal : Meaning) (m : Option Meaning) (subscripted : Bool)
    → ((n : ℕ) → IsNotTaken (Some formal) m subscripted n → ⊥)
    → (k : Meaning) × (m ≡ Some k) × (takes formal k subscripted ≡ true)
taken_of formal None subscripted none = absurd (none UNKNOWN_NAME refl)
taken_of formal (Some k) subscripted none =
    (k, refl, true_from_ne_false (takes formal k subscripted) (λ h. none OTHER_ACTUAL (h, refl)))

subscript_wanted : (formal : Meaning) → WantsInt (subscript_for (Some formal))
subscript_wanted (entries.Channel type) = refl
subscript_wanted (entries.Constant type value) = refl
subscript_wanted (entries.Scalar kind type range) = refl
subscript_wanted (entries.Array kind type size range) = refl
subscript_wanted (entries.Channels type size) = refl
subscript_wanted (entries.Procedure number) = refl

actual_holds : (count : ℕ) (es : List Entry) (formal : Meaning) (e : Expression) (o : Option Place)
    → AreWhole count es → ((n : ℕ) → BreaksActual es (Some formal) e o n → ⊥) → ActualHolds es formal e o
actual_holds count es formal e None whole none =
    let x = fit wanted.Anything count es e whole tt (λ n h. none n (inl h)) in (
      x.0,
      x.1,
      x.2,
      true_from_ne_false (takes_value formal x.0) (λ h. none OTHER_ACTUAL
          (inr (subst (λ r. IsNoValue (Some formal) r OTHER_ACTUAL) (sym x.2.type_is) (h, refl)))),
    )
actual_holds count es formal e (Some p) whole none =
    let x = taken_of formal (meaning_in p.name es) (is_subscripted p.subscript) (λ n h. none n (inl h)) in (
      x.0,
      x.1,
      x.2,
      subscript_holds (subscript_for (Some formal)) count es (elements_in (meaning_in p.name es))
          p.subscript whole (subscript_wanted formal) (λ n h. none n (inr h)),
    )

-- each with the parameter at its place, from a place on
actuals_hold : (p : Position) (count : ℕ) (es : List Entry) (all : ℕ → Option Parameter) (qs : List Parameter)
    (actuals : List Expression) (k : ℕ) → AreWhole count es → ((j : ℕ) → all (k + j) ≡ item_at j qs)
    → length qs ≡ length actuals → ((n : ℕ) → BreaksEach (λ i. BreaksOne p es (all i)) k actuals n → ⊥)
    → ActualsHold es qs actuals
actuals_hold p count es all [] [] k whole at long none = tt
actuals_hold p count es all [] (e ∷ actuals) k whole at long none = absurd (omega (arith, long))
actuals_hold p count es all (q ∷ qs) [] k whole at long none = absurd (omega (arith, long))
actuals_hold p count es all (q ∷ qs) (e ∷ actuals) k whole at long none =
    let first : all k ≡ Some q = ap all (omega arith) ∙ at 0 in (
      actual_holds count es q.meaning e (place_in e) whole (λ n h. none n (inl
          (subst (λ x. BreaksOne p es x e n) (sym first) (inl h)))),
      actuals_hold p count es all qs actuals (suc k) whole (λ j. ap all (omega arith) ∙ at (suc j))
          (omega (arith, long)) (λ n h. none n (inr h)),
    )

instance_holds : (p : Position) (signatures : List (List Parameter)) (es : List Entry) (name : List ℕ)
    (actuals : List Expression) → AreWhole (length signatures) es
    → ((n : ℕ) → BreaksInstance p signatures es name actuals n → ⊥) → InstanceHolds signatures es name actuals
instance_holds p signatures es name actuals whole none =
    let count = length signatures in
    let m = meaning_in name es in
    let c = called_of signatures m (length actuals) (λ n h. none n (inl h)) in
    let there : nat_lt c.number count ≡ true = found_whole count name es (entries.Procedure c.number) whole c.called in
    let item = item_known c.number signatures (ltb-true c.number count there) in
    let qs : parameters_in signatures m ≡ item.0 =
    ap (parameters_in signatures) c.called ∙ ap (λ o. unwrap_or o []) item.1 in
    record {
      number = c.number;
      parameters = item.0;
      called = c.called;
      known = item.1;
      actuals_hold = subst (λ qs. ActualsHold es qs actuals) qs
          (actuals_hold p count es (λ i. item_at i (parameters_in signatures m)) (parameters_in signatures m) actuals 0
          whole (λ j. ap (λ i. item_at i (parameters_in signatures m)) (omega arith)) c.long
          (λ n h. none n (inr h)));
    }

-- ---- lines

input_holds : (p : Position) (count : ℕ) (es : List Entry) (c t : Place) → AreWhole count es
    → ((n : ℕ) → BreaksInput p es c t n → ⊥) → InputHolds es c t
input_holds p count es c t whole none =
    let x = channel_holds p direction.Input count es c whole (λ n h. none n (inl h)) in
    let y = target_holds count es t whole (λ n h. none n (inr (inl h))) in
    let same = agree (channel_at es c) (target_at es t) x.0 y.0 x.1.type_is y.1.type_is
    (λ n h. none n (inr (inr h))) in
    (x.0, x.1, subst (IsTarget es t) (sym same) y.1)

pub action_holds : (p : Position) (signatures : List (List Parameter)) (es : List Entry) (action : Action)
    → AreWhole (length signatures) es → ((n : ℕ) → BreaksAction p signatures es action n → ⊥)
    → ActionHolds signatures es action
action_holds p signatures es Skip whole none = tt
action_holds p signatures es Stop whole none = tt
action_holds p signatures es (Assign target value) whole none =
    let count = length signatures in
    let x = target_holds count es target whole (λ n h. none n (inl h)) in
    let y = fit wanted.Anything count es value whole tt (λ n h. none n (inr (inl h))) in
    let same = agree (target_at es target) (type_of es value) x.0 y.0 x.1.type_is y.2.type_is
    (λ n h. none n (inr (inr h))) in
    (x.0, y.1, x.1, subst (λ t. IsFit wanted.Anything es value t y.1) (sym same) y.2)
action_holds p signatures es (Input channel target) whole none =
    input_holds p (length signatures) es channel target whole none
action_holds p signatures es (Output channel value) whole none =
    let count = length signatures in
    let x = channel_holds p direction.Output count es channel whole (λ n h. none n (inl h)) in
    let y = fit wanted.Anything count es value whole tt (λ n h. none n (inr (inl h))) in
    let same = agree (channel_at es channel) (type_of es value) x.0 y.0 x.1.type_is y.2.type_is
    (λ n h. none n (inr (inr h))) in
    (x.0, y.1, x.1, subst (λ t. IsFit wanted.Anything es value t y.1) (sym same) y.2)
action_holds p signatures es (Instance name actuals) whole none =
    instance_holds p signatures es name actuals whole none

pub condition_holds : (count : ℕ) (es : List Entry) (e : Expression) → AreWhole count es
    → ((n : ℕ) → BreaksCondition es e n → ⊥) → ConditionHolds es e
condition_holds count es e whole none =
    let x = fit (wanted.Value types.Condition) count es e whole tt none in
    (x.1, subst (λ t. IsFit (wanted.Value types.Condition) es e t x.1) x.2.suits x.2)

any_holds : (count : ℕ) (es : List Entry) (o : Option Expression) → AreWhole count es
    → ((n : ℕ) → BreaksConditionIfAny es o n → ⊥) → ConditionHoldsIfAny es o
any_holds count es None whole none = tt
any_holds count es (Some e) whole none = condition_holds count es e whole none

pub guard_holds : (p : Position) (count : ℕ) (es : List Entry) (g : Guard) → AreWhole count es
    → ((n : ℕ) → BreaksGuard p es g n → ⊥) → GuardHolds es g
guard_holds p count es (Receives condition channel target) whole none = (
  any_holds count es condition whole (λ n h. none n (inl h)),
  input_holds p count (where_holds condition es) channel target (holds_whole count condition es whole)
      (λ n h. none n (inr h)),
)
guard_holds p count es (Skips e) whole none = condition_holds count es e whole none

pub replicator_holds : (count : ℕ) (es : List Entry) (r : Replicator) → AreWhole count es
    → ((n : ℕ) → BreaksReplicator es r n → ⊥) → ReplicatorHolds es r
replicator_holds count es r whole none =
    let base = value_found types.Int count es r.base whole tt (λ n h. none n (inl h)) in
    let times = value_found types.Int count es r.count whole tt (λ n h. none n (inr (inl h))) in
    record {
      base = base.0;
      count = times.0;
      base_is = base.1;
      count_is = times.1;
      fits = true_from_ne_false (int_le (pos 0) times.0 && fits_word (Some base.0) times.0) (λ h. none OUT_OF_RANGE
          (inr (inr (subst (λ (x : Option ℤ × Option ℤ). IsNoCount x.0 x.1 OUT_OF_RANGE)
          (λ i. (sym base.1 i, sym times.1 i)) (h, refl)))));
    }

-- ---- declarations

size_holds : (count : ℕ) (es : List Entry) (o : Option Expression) → AreWhole count es
    → ((n : ℕ) → BreaksSizeIfAny es o n → ⊥) → SizeHoldsIfAny es o
size_holds count es None whole none = tt
size_holds count es (Some e) whole none = size_found count es e whole none

number_type : (type : ValueType) → IsNumber (type_of_values type)
number_type value_type.Int = tt
number_type value_type.Byte = tt

items_hold : (count : ℕ) (es : List Entry) (type : ValueType) (k : ℕ) (items : List Expression) → AreWhole count es
    → ((n : ℕ) → BreaksEach (λ i. BreaksItem es type) k items n → ⊥)
    → AllByRecursion (HasValue es (type_of_values type)) items
items_hold count es type k [] whole none = tt
items_hold count es type k (e ∷ items) whole none = (
  value_found (type_of_values type) count es e whole (number_type type) (λ n h. none n (inl h)),
  items_hold count es type (suc k) items whole (λ n h. none n (inr h)),
)

-- a table has as many items as it says
sized : (size : Option ℕ) (n count : ℕ) → size ≡ Some n → ((k : ℕ) → HasOtherSize size count k → ⊥)
    → size ≡ Some count
sized size n count is none =
    let same = true_from_ne_false (nat_eq n count) (λ h. none WRONG_TYPE
    (subst (λ o. HasOtherSize o count WRONG_TYPE) (sym is) (h, refl))) in
    is ∙ ap Some (eqb-true n count same)

text_type : (type : ValueType) → ((n : ℕ) → IsNoText type n → ⊥) → type ≡ value_type.Byte
text_type value_type.Int none = absurd (none WRONG_TYPE refl)
text_type value_type.Byte none = refl

value_holds : (count : ℕ) (es : List Entry) (type : ValueType) (value : Value) → AreWhole count es
    → ((n : ℕ) → BreaksValue es type value n → ⊥) → ValueHolds es type value
value_holds count es type (Scalar e) whole none =
    value_found (type_of_values type) count es e whole (number_type type) none
value_holds count es type (Table size items) whole none =
    let n = size_found count es size whole (λ n h. none n (inl h)) in (
      sized (size_in es size) n.0 (length (as_list items)) n.1 (λ n h. none n (inr (inr h))),
      items_hold count es type 0 (as_list items) whole (λ n h. none n (inr (inl h))),
    )
value_holds count es type (Bytes size bytes) whole none =
    let n = size_found count es size whole (λ n h. none n (inl h)) in (
      sized (size_in es size) n.0 (length bytes) n.1 (λ n h. none n (inr (inr h))),
      text_type type (λ n h. none n (inr (inl h))),
    )

pub declaration_holds : (count : ℕ) (es : List Entry) (d : Declaration) → AreWhole count es
    → ((n : ℕ) → BreaksDeclaration es d n → ⊥) → DeclarationHolds es d
declaration_holds count es (Constants c) whole none = value_holds count es c.value_type c.value whole none
declaration_holds count es (Variables n) whole none = size_holds count es n.size whole none
declaration_holds count es (Channels n) whole none = size_holds count es n.size whole none

formals_hold : (count : ℕ) (es : List Entry) (k : ℕ) (fs : List Formal) → AreWhole count es
    → ((n : ℕ) → BreaksEach (λ i f. BreaksSizeIfAny es f.size) k fs n → ⊥) → FormalsHold es fs
formals_hold count es k [] whole none = tt
formals_hold count es k (f ∷ fs) whole none = (
  size_holds count es f.size whole (λ n h. none n (inl h)),
  formals_hold count es (suc k) fs whole (λ n h. none n (inr h)),
)

pub all_formals_hold : (count : ℕ) (es : List Entry) (fs : List Formal) → AreWhole count es
    → ((n : ℕ) → BreakSizes es fs n → ⊥) → FormalsHold es fs
all_formals_hold count es fs whole none = formals_hold count es 0 fs whole none

-- ---- what is declared is whole

items_range : (es : List Entry) (t : ExprType) (o : Option Ends) (r : Ends) (items : List Expression) → o ≡ Some r
    → AllByRecursion (HasValue es t) items
    → (s : Ends) × (fold (λ range e. with_value range (value_as es t e)) o items ≡ Some s)
items_range es t o r [] is all = (r, is)
items_range es t o r (e ∷ items) is all =
    items_range es t (with_value o (value_as es t e)) (hull r (constant all.0.0)) items
    (λ i. with_value (is i) (all.0.1 i)) all.1

range_known : (es : List Entry) (type : ValueType) (items : OneOrMore Expression)
    → AllByRecursion (HasValue es (type_of_values type)) (as_list items)
    → (s : Ends) × (range_of_items es type items ≡ Some s)
range_known es type items all =
    items_range es (type_of_values type) (option_map constant (value_as es (type_of_values type) items.first))
    (constant all.0.0) items.others (ap (option_map constant) all.0.1) all.1

bytes_known : (type : ValueType) (bytes : List ℕ) → type ≡ value_type.Byte → 1 ≤ length bytes
    → (s : Ends) × (range_of_bytes type bytes ≡ Some s)
bytes_known value_type.Byte (b ∷ bytes) same long = (_, refl)
bytes_known value_type.Byte [] same long = absurd (omega (arith, long))
bytes_known value_type.Int bytes same long = absurd (cc same)

table_by : (count : ℕ) (t : Bool) (type : ValueType) (size : ℕ) (r : Ends) → t ≡ true
    → is_whole count (cond t (entries.Array array.Table type (Some size) r)
    (entries.Array array.Table type None (type_range type))) ≡ true
table_by count true type size r h = refl
table_by count false type size r h = absurd (cc h)

table_whole : (count : ℕ) (type : ValueType) (size : Option ℕ) (n : ℕ) (range : Option Ends) (r : Ends)
    → size ≡ Some n → range ≡ Some r → is_whole count (table_of type size n range) ≡ true
table_whole count type size n range r is known =
    let same = eqb-self n in
    ap (is_whole count) (λ i. table_of type (is i) n (known i)) ∙ table_by count (nat_eq n n) type n r same

value_whole : (count : ℕ) (es : List Entry) (type : ValueType) (value : Value) → ValueHolds es type value
    → is_whole count (constant_meaning es type value) ≡ true
value_whole count es type (Scalar e) h = ap is_some h.1
value_whole count es type (Table size items) h =
    let r = range_known es type items h.1 in
    table_whole count type (size_in es size) (length (as_list items)) (range_of_items es type items) r.0 h.0 r.1
value_whole count es type (Bytes size bytes) h =
    let r = bytes_known type bytes h.1 (size_positive es size (length bytes) h.0) in
    table_whole count type (size_in es size) (length bytes) (range_of_bytes type bytes) r.0 h.0 r.1

variables_whole : (count : ℕ) (es : List Entry) (type : ValueType) (o : Option Expression) → SizeHoldsIfAny es o
    → is_whole count (variable_meaning es type o) ≡ true
variables_whole count es type None h = refl
variables_whole count es type (Some e) h = ap is_some h.1

channels_whole : (count : ℕ) (es : List Entry) (type : ValueType) (o : Option Expression) → SizeHoldsIfAny es o
    → is_whole count (channel_meaning es type o) ≡ true
channels_whole count es type None h = refl
channels_whole count es type (Some e) h = ap is_some h.1

pub declared_whole : (count : ℕ) (es : List Entry) (d : Declaration) → DeclarationHolds es d
    → is_whole count (declared_meaning es d) ≡ true
declared_whole count es (Constants c) h = value_whole count es c.value_type c.value h
declared_whole count es (Variables n) h = variables_whole count es n.value_type n.size h
declared_whole count es (Channels n) h = channels_whole count es n.value_type n.size h

formal_by : (count : ℕ) (es : List Entry) (kind : FormalKind) (size : Option Expression) (type : ValueType)
    (name : List ℕ) → SizeHoldsIfAny es size
    → is_whole count (formal_meaning es (record { kind = kind; size = size; value_type = type; name = name })) ≡ true
formal_by count es formal_kind.Value None type name h = refl
formal_by count es formal_kind.Value (Some e) type name h = ap is_some h.1
formal_by count es formal_kind.Variable None type name h = refl
formal_by count es formal_kind.Variable (Some e) type name h = ap is_some h.1
formal_by count es formal_kind.Channel None type name h = refl
formal_by count es formal_kind.Channel (Some e) type name h = ap is_some h.1

pub formal_whole : (count : ℕ) (es : List Entry) (f : Formal) → SizeHoldsIfAny es f.size
    → is_whole count (formal_meaning es f) ≡ true
formal_whole count es f h = formal_by count es f.kind f.size f.value_type f.name h
