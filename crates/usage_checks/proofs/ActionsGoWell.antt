-- Actions of a program that breaks no rule are not stuck, and leave what is known true.
use Rattle.std.proofs.Common.{◌≡◌, ℕ, ◌<◌, ℤ, Bool, true, false, cond, List, [], ◌∷◌, length, Option, Some, None, Ok}
use Rattle.std.proofs.Common.{Err}
use Rattle.std.proofs.Common.{Result, refl, sym, ap, subst, ◌∙◌, arith, IsSomeAnd}
use Rattle.std.proofs.lemmas.Bool.Decides.{nat_tests}
use Rattle.std.specs.Prelude.{option_and_then, is_some, bytes_eq, nat_eq, nat_le, take, unwrap_or, IsSome, IfSome}
use Rattle.std.specs.List.{AllByRecursion}
use Rattle.std.proofs.lemmas.Bool.{and_parts}
use Rattle.small_laws.proofs.Comparisons.{gt-eqb}
use Rattle.word_arithmetic.specs.Range.{Ends, InRange, full}
use Rattle.occam_parser.specs.declared.tree.ValueType.{ValueType}
use Rattle.occam_parser.specs.declared.tree.ValueType.TheVariants as value_type
use Rattle.occam_parser.specs.Expressions.{Expression}
use Rattle.occam_parser.specs.Lines.{Place, Action, Skip, Stop, Assign, Input, Output, Instance}
use Rattle.occam_parser.specs.Words.{has_words, place_has_words, action_has_words}
use Rattle.scalar_ranges.specs.declared.types.ExprType.{ExprType}
use Rattle.scalar_ranges.specs.declared.types.ExprType.TheVariants as types
use Rattle.scalar_ranges.specs.declared.scope.ScalarKind.{ScalarKind}
use Rattle.scalar_ranges.specs.declared.scope.ScalarKind.TheVariants as scalar
use Rattle.scalar_ranges.specs.declared.scope.ArrayKind.{ArrayKind}
use Rattle.scalar_ranges.specs.declared.scope.ArrayKind.TheVariants as array
use Rattle.scalar_ranges.specs.Entries.{Meaning, Constant, Scalar, Array, Channel, Channels, Procedure, Entry}
use Rattle.scalar_ranges.specs.Entries.{meaning_in, number_in, type_range}
use Rattle.scalar_ranges.specs.Environments.{One, Environment, Meets, item_at}
use Rattle.scalar_ranges.specs.Bounds.{Bound, ends, bound_of, range_found, is_subscript}
use Rattle.scalar_ranges.specs.Laws.{IsBound, HasValue}
use Rattle.scalar_ranges.specs.MoveLaws.{put, meaning_at, shape}
use Rattle.scalar_ranges.specs.Moves.{at_number, with_meaning, assigned, assign, widened}
use Rattle.scalar_ranges.specs.Narrowing.{with_range}
use Rattle.scalar_ranges.specs.Types.{type_of, type_of_values}
use Rattle.scalar_ranges.specs.Values.{number_of, truth_of}
use Rattle.scalar_ranges.proofs.BoundLaws.{bounds_hold}
use Rattle.scalar_ranges.proofs.MoveLaws.{changing_holds, ranged_shape, shape_long, shapes_stay}
use Rattle.scalar_ranges.proofs.Named.{meaning_found}
use Rattle.scalar_ranges.proofs.Operators.{bound_lies}
use Rattle.scalar_ranges.proofs.Parts.{ok_same, then_holds, is_some_of}
use Rattle.program_uses.specs.declared.uses.Direction.{Direction}
use Rattle.program_uses.specs.declared.uses.Direction.TheVariants as direction
use Rattle.program_uses.specs.Mentions.{is_variable, variable_in}
use Rattle.program_uses.specs.Sets.{is_same_way}
use Rattle.program_uses.specs.Signatures.{Parameter}
use Rattle.program_meaning.specs.Links.{Port, Links, received, incoming_at, message_length, message_of, after_reading}
use Rattle.program_meaning.specs.Links.{after_writing}
use Rattle.program_meaning.specs.Storing.{number_held, stored}
use Rattle.program_meaning.specs.Running.{Surroundings, Outcome, Goes, Waits, or_stuck, facing, port_of, input}
use Rattle.program_meaning.specs.Running.{output, act}
use Rattle.program_meaning.specs.Sequential.{IsSequentialAction}
use Rattle.program_meaning.specs.TypedValues.{IsNumberOf, IsOfType, AreTyped}
use Rattle.program_meaning.specs.GoingWell.{IsTrueIn, IsWell}
use Rattle.program_meaning.proofs.LoopsGoOn.{of_type_in}
use Rattle.program_meaning.proofs.MessagesReadBack.{received_is_of_type}
use Rattle.program_meaning.proofs.NumbersStored.{numbers_agree, scalars_stored, elements_stored}
use Rattle.program_meaning.proofs.TypesStay.{types_stay}
use Rattle.program_meaning.proofs.ValuesTyped.{values_are_typed}
use Rattle.usage_checks.specs.declared.wanting.Wanted.{Wanted}
use Rattle.usage_checks.specs.declared.wanting.Wanted.TheVariants as wanted
use Rattle.usage_checks.specs.Following.{receive_if, assign_if, after_assignment, after_input, after_action}
use Rattle.usage_checks.specs.Holding.{IsFit, IsTarget, IsChannel, SubscriptHolds, ActionHolds}
use Rattle.usage_checks.specs.PlaceRules.{target_type, channel_type, elements_in}
use Rattle.usage_checks.specs.Whole.{AreWhole}
use Rattle.usage_checks.proofs.KnownValues.{found_number, found_whole}

-- ---- values of expressions that fit

-- a number lies in a range, or a condition has a truth
abbrev pub LiesIn : ExprType → Ends → Option ℤ → Option Bool → Type 0
LiesIn types.Int range n w = IsSomeAnd n (InRange range)
LiesIn types.Byte range n w = IsSomeAnd n (InRange range)
LiesIn types.Condition range n w = IsSome w

bound_has : (t : ExprType) (b : Bound) (n : Option ℤ) (w : Option Bool) → HasValue t b n w → LiesIn t (ends b) n w
bound_has types.Int b n w h = is_some_of (IsBound b) (InRange (ends b)) n h (bound_lies b)
bound_has types.Byte b n w h = is_some_of (IsBound b) (InRange (ends b)) n h (bound_lies b)
bound_has types.Condition b n w h = h

range_has : (es : List Entry) (env : Environment) (e : Expression) (t : ExprType) (range : Ends) (r : Result Bound ℕ)
    → Meets env es → type_of es e ≡ Ok t → bound_of es e ≡ r → range_found r ≡ Ok range
    → LiesIn t range (number_of env e) (truth_of env e)
range_has es env e t range (Ok b) meets type is found =
    subst (λ k. LiesIn t k (number_of env e) (truth_of env e)) (ok_same (ends b) range found)
    (bound_has t b (number_of env e) (truth_of env e) (bounds_hold es env e t b meets type is))
range_has es env e t range (Err d) meets type is found = absurd (cc found)

-- what breaks no rule has a value in its range
pub fit_has : (w : Wanted) (es : List Entry) (env : Environment) (e : Expression) (t : ExprType) (range : Ends)
    → Meets env es → IsFit w es e t range → LiesIn t range (number_of env e) (truth_of env e)
fit_has w es env e t range meets fit =
    range_has es env e t range (bound_of es e) meets fit.type_is refl fit.range_is

number_has : (type : ValueType) (t : ExprType) (range : Ends) (n : Option ℤ) (w : Option Bool)
    → type_of_values type ≡ t → LiesIn t range n w → IsSomeAnd n (InRange range)
number_has value_type.Int t range n w same has = subst (λ u. LiesIn u range n w) (sym same) has
number_has value_type.Byte t range n w same has = subst (λ u. LiesIn u range n w) (sym same) has

number_typed : (type : ValueType) (t : ExprType) (v : ℤ) → type_of_values type ≡ t → IsNumberOf t v → IsOfType type v
number_typed value_type.Int t v same is = subst (λ u. IsNumberOf u v) (sym same) is
number_typed value_type.Byte t v same is = subst (λ u. IsNumberOf u v) (sym same) is

-- the number of an expression is one of its type
pub fit_typed : (w : Wanted) (es : List Entry) (env : Environment) (e : Expression) (t : ExprType) (range : Ends)
    → IsTrueIn es env → has_words e ≡ true → IsFit w es e t range → IfSome (number_of env e) (IsNumberOf t)
fit_typed w es env e t range holds words fit =
    values_are_typed es env e t (λ name m is. types_stay.finding es env name m holds.meets holds.typed is) words
    fit.type_is

-- ---- what scopes of main have

-- No parameter is a variable, and the elements of an array that can change have the range of their type.
abbrev pub IsOwn : Meaning → Type 0
IsOwn (Scalar scalar.Reference type range) = ⊥
IsOwn (Array array.Variable type size range) = range ≡ type_range type
IsOwn m = Unit {0}

-- of the shape of a scope in main: so it is, and links are channels of the type that they carry
pub record IsOfMain (s : Surroundings) (es : List Entry) : Type 0 where
  pub own : AllByRecursion (λ e. IsOwn e.meaning) es
  pub ports : (n : ℕ) (p : Port) → item_at n s.ports ≡ Some (Some p) → meaning_at n es ≡ Some (Channel p.carries)

pub of_main_alike : (s : Surroundings) (ds es : List Entry) → shape ds ≡ shape es → IsOfMain s (shape es)
    → IsOfMain s (shape ds)
of_main_alike s ds es same is = subst (IsOfMain s) (sym same) is

below_by : (t : Bool) (n : ℕ) (m : Meaning) (e : Entry) (es : List Entry) → nat_eq (length es) n ≡ t
    → cond t (Some e.meaning) (meaning_at n es) ≡ Some m → (meaning_at n es ≡ Some m → n < length es)
    → n < length (e ∷ es)
below_by true n m e es same is further = grind (arith, nat_tests, same)
below_by false n m e es same is further = let less = further is in omega (arith, less)

-- a number with a meaning is one of a declaration
pub at_below : (n : ℕ) (m : Meaning) (es : List Entry) → meaning_at n es ≡ Some m → n < length es
at_below n m [] is = absurd (cc is)
at_below n m (e ∷ es) is = below_by (nat_eq (length es) n) n m e es refl is (at_below n m es)

pub of_main_more : (s : Surroundings) (e : Entry) (es : List Entry) → IsOwn e.meaning → IsOfMain s es
    → IsOfMain s (e ∷ es)
of_main_more s e es own is = record {
  own = (own, is.own);
  ports = λ n p at.
      ap (λ t. cond t (Some e.meaning) (meaning_at n es))
      (gt-eqb (length es) n (at_below n (Channel p.carries) es (is.ports n p at))) ∙ is.ports n p at;
}

flat_own : (m : Meaning) → IsOwn (with_range (λ r. full) m) → IsOwn m
flat_own (Scalar scalar.Variable type range) own = tt
flat_own (Scalar scalar.Value type range) own = tt
flat_own (Scalar scalar.Reference type range) own = absurd own
flat_own (Scalar scalar.Index type range) own = tt
flat_own (Array array.Variable type size range) own = own
flat_own (Array array.Table type size range) own = tt
flat_own (Array array.Value type size range) own = tt
flat_own (Constant type value) own = tt
flat_own (Channel type) own = tt
flat_own (Channels type size) own = tt
flat_own (Procedure number) own = tt

own_by : (t : Bool) (k m : Meaning) (rest : Option Meaning) → cond t (Some k) rest ≡ Some m → IsOwn k
    → (rest ≡ Some m → IsOwn m) → IsOwn m
own_by true k m rest e own further = let same : k ≡ m = cc in subst IsOwn same own
own_by false k m rest e own further = further e

own_in : (es : List Entry) (name : List ℕ) (m : Meaning) → AllByRecursion (λ e. IsOwn e.meaning) (shape es)
    → meaning_in name es ≡ Some m → IsOwn m
own_in [] name m own is = absurd (cc is)
own_in (e ∷ es) name m own is =
    own_by (bytes_eq e.name name) e.meaning m (meaning_in name es) is (flat_own e.meaning own.0)
    (own_in es name m own.1)

-- ---- what a target denotes

-- a scalar that a line declares, or an array of a known size whose elements can change
pub data Targets (es : List Entry) (name : List ℕ) (t : ExprType) : Option Expression → Type 0 where
  scalar_target : (type : ValueType) (old : Ends) (n : ℕ)
      → meaning_in name es ≡ Some (Scalar scalar.Variable type old) → number_in name es ≡ Some n
      → type_of_values type ≡ t → Targets es name t None
  element_target : (e : Expression) (type : ValueType) (size : ℕ) (r : Ends) (n : ℕ)
      → meaning_in name es ≡ Some (Array array.Variable type (Some size) (type_range type))
      → number_in name es ≡ Some n → type_of_values type ≡ t → IsFit (wanted.Value types.Int) es e types.Int r
      → is_subscript size r ≡ true → Targets es name t (Some e)

scalar_by : (es : List Entry) (name : List ℕ) (t : ExprType) (kind : ScalarKind) (type : ValueType) (old : Ends)
    → meaning_in name es ≡ Some (Scalar kind type old) → IsOwn (Scalar kind type old)
    → target_type (Some (Scalar kind type old)) false ≡ Ok t → Targets es name t None
scalar_by es name t scalar.Variable type old means own is =
    let n = found_number name es (Scalar scalar.Variable type old) means in
    scalar_target type old n.0 means n.1 (ok_same (type_of_values type) t is)
scalar_by es name t scalar.Reference type old means own is = absurd own
scalar_by es name t scalar.Value type old means own is = absurd (cc is)
scalar_by es name t scalar.Index type old means own is = absurd (cc is)

array_by : (es : List Entry) (name : List ℕ) (t : ExprType) (e : Expression) (kind : ArrayKind) (type : ValueType)
    (size : Option ℕ) (range : Ends) → meaning_in name es ≡ Some (Array kind type size range)
    → IsOwn (Array kind type size range) → is_some size ≡ true
    → target_type (Some (Array kind type size range)) true ≡ Ok t
    → SubscriptHolds (wanted.Value types.Int) es size (Some e) → Targets es name t (Some e)
array_by es name t e array.Variable type None range means own whole is sub = absurd (cc whole)
array_by es name t e array.Variable type (Some size) range means own whole is sub =
    let known : meaning_in name es ≡ Some (Array array.Variable type (Some size) (type_range type)) =
    means ∙ ap (λ r. Some (Array array.Variable type (Some size) r)) own in
    let n = found_number name es (Array array.Variable type (Some size) range) means in
    element_target e type size sub.0 n.0 known n.1 (ok_same (type_of_values type) t is) sub.1 (sub.2 size refl)
array_by es name t e array.Table type size range means own whole is sub = absurd (cc is)
array_by es name t e array.Value type size range means own whole is sub = absurd (cc is)

meant : (count : ℕ) (es : List Entry) (name : List ℕ) (t : ExprType) (o : Option Expression) (m : Option Meaning)
    → meaning_in name es ≡ m → AllByRecursion (λ e. IsOwn e.meaning) (shape es) → AreWhole count es
    → IsTarget es (record { name = name; subscript = o }) t → Targets es name t o
meant count es name t None (Some (Scalar kind type old)) means own whole h =
    scalar_by es name t kind type old means (own_in es name (Scalar kind type old) own means)
    (ap (λ m. target_type m false) (sym means) ∙ h.type_is)
meant count es name t (Some e) (Some (Array kind type size range)) means own whole h =
    array_by es name t e kind type size range means (own_in es name (Array kind type size range) own means)
    (found_whole count name es (Array kind type size range) whole means)
    (ap (λ m. target_type m true) (sym means) ∙ h.type_is)
    (subst (λ m. SubscriptHolds (wanted.Value types.Int) es (elements_in m) (Some e)) means h.subscript)
meant count es name t None None means own whole h =
    absurd (cc (ap (λ m. target_type m false) (sym means) ∙ h.type_is))
meant count es name t None (Some m) means own whole h =
    absurd (cc (ap (λ m. target_type m false) (sym means) ∙ h.type_is))
meant count es name t (Some e) None means own whole h =
    absurd (cc (ap (λ m. target_type m true) (sym means) ∙ h.type_is))
meant count es name t (Some e) (Some m) means own whole h =
    absurd (cc (ap (λ m. target_type m true) (sym means) ∙ h.type_is))

variable_is : (es : List Entry) (name : List ℕ) (type : ValueType) (old : Ends) (n : ℕ)
    → meaning_in name es ≡ Some (Scalar scalar.Variable type old) → number_in name es ≡ Some n
    → variable_in name es ≡ Some n
variable_is es name type old n means number = λ i. cond (is_variable (means i)) (number i) None

-- ---- what is stored

-- what meets a scope and is of its types makes it true
pub both_true : (o : Option Environment) (es fs : List Entry) → shape es ≡ shape fs
    → IsSomeAnd o (λ after. Meets after fs) → IfSome o (λ after. AreTyped after es) → IsSomeAnd o (IsTrueIn fs)
both_true None es fs same meets typed = absurd meets
both_true (Some after) es fs same meets typed =
    record { meets = meets; typed = types_stay.moving es fs after same typed }

-- a number of the type is stored in a scalar, of which this is known then
scalar_true : (es : List Entry) (env : Environment) (name : List ℕ) (type : ValueType) (old : Ends) (n : ℕ) (v : ℤ)
    (f : Meaning → Meaning) → meaning_in name es ≡ Some (Scalar scalar.Variable type old)
    → number_in name es ≡ Some n → IsTrueIn es env → IsOfType type v
    → shape (at_number (with_meaning f) n es) ≡ shape es
    → Meets (put n (One v) env) (at_number (with_meaning f) n es)
    → IsSomeAnd (stored env (record { name = name; subscript = None }) v) (IsTrueIn (at_number (with_meaning f) n es))
scalar_true es env name type old n v f means number holds is same meets =
    let p : Place = record { name = name; subscript = None } in
    both_true (stored env p v) es (at_number (with_meaning f) n es) (sym same)
    (subst (λ o. IsSomeAnd o (λ after. Meets after (at_number (with_meaning f) n es)))
    (sym (scalars_stored es env name scalar.Variable type old n v holds.meets means number)) meets)
    (types_stay.storing es env p (Scalar scalar.Variable type old) v holds.meets holds.typed means is)

element_true : (es : List Entry) (env : Environment) (name : List ℕ) (e : Expression) (type : ValueType) (size : ℕ)
    (r : Ends) (n : ℕ) (v : ℤ) → meaning_in name es ≡ Some (Array array.Variable type (Some size) (type_range type))
    → number_in name es ≡ Some n → IsFit (wanted.Value types.Int) es e types.Int r → is_subscript size r ≡ true
    → IsTrueIn es env → IsOfType type v
    → IsSomeAnd (stored env (record { name = name; subscript = Some e }) v) (IsTrueIn es)
element_true es env name e type size r n v means number fit inside holds is =
    let p : Place = record { name = name; subscript = Some e } in
    both_true (stored env p v) es es refl
    (elements_stored es env name e array.Variable type size (type_range type) r n v holds.meets means number inside
    (fit_has (wanted.Value types.Int) es env e types.Int r holds.meets fit) (of_type_in type v is))
    (types_stay.storing es env p (Array array.Variable type (Some size) (type_range type)) v holds.meets holds.typed
    means
    is)

both_some_and : (P Q : ℤ → Type 0) (o : Option ℤ) → IsSomeAnd o P → IfSome o Q → IsSomeAnd o (λ v. P v × Q v)
both_some_and P Q None h g = absurd h
both_some_and P Q (Some v) h g = (h, g)

assigned_to : (es : List Entry) (env : Environment) (name : List ℕ) (o : Option Expression) (t : ExprType)
    (value : Expression) (range : Ends) → Targets es name t o → IsTrueIn es env
    → IsFit wanted.Anything es value t range → has_words value ≡ true
    → IsSomeAnd (option_and_then (stored env (record { name = name; subscript = o })) (number_of env value))
    (IsTrueIn (after_assignment (record { name = name; subscript = o }) value es))
assigned_to es env name None t value range (scalar_target type old n means number same) holds fit words =
    let p : Place = record { name = name; subscript = None } in
    let known : assign n range es ≡ after_assignment p value es =
    λ i. assign_if (sym (variable_is es name type old n means number) i) (sym fit.range_is i) es in
    let m : Meaning = Scalar scalar.Variable type old in
    then_holds (λ v. InRange range v × IsNumberOf t v) (IsTrueIn (after_assignment p value es)) (stored env p)
    (number_of env value)
    (both_some_and (InRange range) (IsNumberOf t) (number_of env value)
    (number_has type t range (number_of env value) (truth_of env value) same
    (fit_has wanted.Anything es env value t range holds.meets fit))
    (fit_typed wanted.Anything es env value t range holds words fit))
    (λ v is. subst (λ fs. IsSomeAnd (stored env p v) (IsTrueIn fs)) known
    (scalar_true es env name type old n v (assigned range) means number holds (number_typed type t v same is.1)
    (shapes_stay.assigning es n range)
    (changing_holds es env n (assigned range) m (One v) holds.meets (sym (meaning_found name n es number) ∙ means)
    is.0)))
assigned_to es env name (Some e) t value range (element_target f type size r n means number same sub inside) holds fit
    words =
    then_holds (λ v. InRange range v × IsNumberOf t v) (IsTrueIn es)
    (stored env (record { name = name; subscript = Some f })) (number_of env value)
    (both_some_and (InRange range) (IsNumberOf t) (number_of env value)
    (number_has type t range (number_of env value) (truth_of env value) same
    (fit_has wanted.Anything es env value t range holds.meets fit))
    (fit_typed wanted.Anything es env value t range holds words fit))
    (λ v is. element_true es env name f type size r n v means number sub inside holds
    (number_typed type t v same is.1))

-- types of expressions distinguish types of variables
one_type : (type carries : ValueType) (v : ℤ) → type_of_values type ≡ type_of_values carries → IsOfType carries v
    → IsOfType type v
one_type value_type.Int value_type.Int v same is = is
one_type value_type.Byte value_type.Byte v same is = is
one_type value_type.Int value_type.Byte v same is = absurd (cc same)
one_type value_type.Byte value_type.Int v same is = absurd (cc same)

received_into : (es : List Entry) (env : Environment) (name : List ℕ) (o : Option Expression) (t : ExprType) (v : ℤ)
    (carries : ValueType) → Targets es name t o → IsTrueIn es env → type_of_values carries ≡ t → IsOfType carries v
    → IsSomeAnd (stored env (record { name = name; subscript = o }) v)
    (IsTrueIn (after_input (record { name = name; subscript = o }) es))
received_into es env name None t v carries (scalar_target type old n means number same) holds alike is =
    let m : Meaning = Scalar scalar.Variable type old in
    let typed = one_type type carries v (same ∙ sym alike) is in
    subst (λ number. IsSomeAnd (stored env (record { name = name; subscript = None }) v)
    (IsTrueIn (receive_if number es)))
    (sym (variable_is es name type old n means number))
    (scalar_true es env name type old n v widened means number holds typed (ranged_shape type_range n es)
    (changing_holds es env n widened m (One v) holds.meets (sym (meaning_found name n es number) ∙ means)
    (of_type_in type v typed)))
received_into es env name (Some e) t v carries (element_target f type size r n means number same sub inside) holds alike
    is =
    element_true es env name f type size r n v means number sub inside holds
    (one_type type carries v (same ∙ sym alike) is)

-- ---- links

facing_is : (way : Direction) (o : Option Port) (p : Port) → facing way o ≡ Some p → o ≡ Some p
facing_is way None p is = absurd (cc is)
facing_is way (Some q) p is = by_way (is_same_way q.way way) is
  where
    by_way : (t : Bool) → cond t (Some q) None ≡ Some p → Some q ≡ Some p
    by_way true same = same
    by_way false same = absurd (cc same)

listed_port : (o : Option (Option Port)) (p : Port) → unwrap_or o None ≡ Some p → o ≡ Some (Some p)
listed_port None p is = absurd (cc is)
listed_port (Some q) p is = ap Some is

flat_by : (t : Bool) (n : ℕ) (m : Meaning) (e : Entry) (es : List Entry)
    → (meaning_at n es ≡ Some m → meaning_at n (shape es) ≡ Some (with_range (λ r. full) m))
    → cond t (Some e.meaning) (meaning_at n es) ≡ Some m
    → cond t (Some (with_range (λ r. full) e.meaning)) (meaning_at n (shape es)) ≡ Some (with_range (λ r. full) m)
flat_by true n m e es further is =
    let one : e.meaning ≡ m = cc in ap (λ k. Some (with_range (λ r. full) k)) one
flat_by false n m e es further is = further is

-- what a number means in the shape of a scope
meaning_flat : (n : ℕ) (m : Meaning) (es : List Entry) → meaning_at n es ≡ Some m
    → meaning_at n (shape es) ≡ Some (with_range (λ r. full) m)
meaning_flat n m [] is = absurd (cc is)
meaning_flat n m (e ∷ es) is =
    ap (λ k. cond (nat_eq k n) (Some (with_range (λ r. full) e.meaning)) (meaning_at n (shape es))) (shape_long es)
    ∙ flat_by (nat_eq (length es) n) n m e es (meaning_flat n m es) is

-- the type of a channel by what its name denotes
channel_is : (m : Option Meaning) (t : ExprType) → channel_type m false ≡ Ok t
    → (type : ValueType) × (m ≡ Some (Channel type)) × (type_of_values type ≡ t)
channel_is (Some (Channel type)) t is = (type, refl, ok_same (type_of_values type) t is)
channel_is (Some (Constant type value)) t is = absurd (cc is)
channel_is (Some (Scalar kind type range)) t is = absurd (cc is)
channel_is (Some (Array kind type size range)) t is = absurd (cc is)
channel_is (Some (Channels type size)) t is = absurd (cc is)
channel_is (Some (Procedure number)) t is = absurd (cc is)
channel_is None t is = absurd (cc is)

numbered_port : (s : Surroundings) (es : List Entry) (name : List ℕ) (t : ExprType) (p : Port) (o : Option ℕ)
    → IsOfMain s (shape es) → channel_type (meaning_in name es) false ≡ Ok t → number_in name es ≡ o
    → option_and_then (λ n. unwrap_or (item_at n s.ports) None) o ≡ Some p → type_of_values p.carries ≡ t
numbered_port s es name t p None main channel number is = absurd (cc is)
numbered_port s es name t p (Some n) main channel number is =
    let c = channel_is (meaning_in name es) t channel in
    let here = meaning_flat n (Channel c.0) es (sym (meaning_found name n es number) ∙ c.1) in
    let there = main.ports n p (listed_port (item_at n s.ports) p is) in
    let same : c.0 ≡ p.carries = cc (here, there) in
    ap type_of_values (sym same) ∙ c.2

-- a link carries what its channel's entry says
port_carries : (s : Surroundings) (es : List Entry) (env : Environment) (way : Direction) (name : List ℕ)
    (o : Option Expression) (t : ExprType) (p : Port) → IsOfMain s (shape es) → Meets env es
    → IsChannel es (record { name = name; subscript = o }) t
    → port_of s.ports env way (record { name = name; subscript = o }) ≡ Some p → type_of_values p.carries ≡ t
port_carries s es env way name (Some e) t p main meets channel is = absurd (cc is)
port_carries s es env way name None t p main meets channel is =
    numbered_port s es name t p (number_in name es) main channel.type_is refl
    (ap (option_and_then (λ n. unwrap_or (item_at n s.ports) None)) (sym (numbers_agree name es env meets))
    ∙ facing_is way (option_and_then (λ n. unwrap_or (item_at n s.ports) None) (number_held name env)) p is)

-- ---- actions

goes_on : (o : Option Environment) (l : Links) (es : List Entry) → IsSomeAnd o (IsTrueIn es)
    → IsWell (or_stuck o (λ after. Goes after l)) es
goes_on None l es h = absurd h
goes_on (Some after) l es h = h

well_if : (t : Bool) (o p : Outcome) (es : List Entry) → IsWell o es → IsWell p es → IsWell (cond t o p) es
well_if true o p es v w = v
well_if false o p es v w = w

input_well : (es fs : List Entry) (env : Environment) (l : Links) (target : Place) (o : Option Port)
    → ((p : Port) (v : ℤ) → o ≡ Some p → IsOfType p.carries v → IsSomeAnd (stored env target v) (IsTrueIn fs))
    → IsWell (input o target env l) fs
input_well es fs env l target None stores = tt
input_well es fs env l target (Some p) stores =
    let unread = (incoming_at p.link l).unread in
    let count = message_length p.carries in
    let bytes = take count unread in
    well_if (nat_le count (length unread))
    (or_stuck (stored env target (received p.carries bytes)) (λ after. Goes after (after_reading p.link count l)))
    (Waits (after_reading p.link (length unread) l)) fs
    (goes_on (stored env target (received p.carries bytes)) (after_reading p.link count l) fs
    (stores p (received p.carries bytes) refl (received_is_of_type p.carries bytes))) tt

channel_number : (m : Option Meaning) (b : Bool) (t : ExprType) (range : Ends) (n : Option ℤ) (w : Option Bool)
    → channel_type m b ≡ Ok t → LiesIn t range n w → IsSomeAnd n (InRange range)
channel_number (Some (Channel type)) false t range n w is has =
    number_has type t range n w (ok_same (type_of_values type) t is) has
channel_number (Some (Channels type size)) true t range n w is has =
    number_has type t range n w (ok_same (type_of_values type) t is) has
channel_number (Some m) b t range n w is has = absurd (cc is)
channel_number None b t range n w is has = absurd (cc is)

output_well : (s : Surroundings) (o : Option Port) (v : ℤ) (es : List Entry) (env : Environment) (l : Links)
    → IsTrueIn es env → IsWell (output s o v env l) es
output_well s None v es env l holds = tt
output_well s (Some p) v es env l holds =
    well_if (unwrap_or (item_at p.link s.listens) false) (Goes env (after_writing p.link (message_of p.carries v) l))
    (Waits l) es holds tt

sent_well : (s : Surroundings) (range : Ends) (n : Option ℤ) (o : Option Port) (es : List Entry) (env : Environment)
    (l : Links) → IsSomeAnd n (InRange range) → IsTrueIn es env → IsWell (or_stuck n (λ v. output s o v env l)) es
sent_well s range None o es env l h holds = absurd h
sent_well s range (Some v) o es env l h holds = output_well s o v es env l holds

pub action_well : (s : Surroundings) (signatures : List (List Parameter)) (count : ℕ) (action : Action)
    (es : List Entry) (env : Environment) (l : Links) → IsSequentialAction action → action_has_words action ≡ true
    → IsOfMain s (shape es) → AreWhole count es → IsTrueIn es env → ActionHolds signatures es action
    → IsWell (act s action env l) (after_action signatures action es)
action_well s signatures count Skip es env l sequential words main whole holds h = holds
action_well s signatures count Stop es env l sequential words main whole holds h = tt
action_well s signatures count (Assign target value) es env l sequential words main whole holds h =
    goes_on (option_and_then (stored env target) (number_of env value)) l (after_assignment target value es)
    (assigned_to es env target.name target.subscript h.0 value h.1
    (meant count es target.name h.0 target.subscript (meaning_in target.name es) refl main.own whole h.2) holds h.3
    (and_parts (place_has_words target) (has_words value) words).1)
action_well s signatures count (Input channel target) es env l sequential words main whole holds h =
    input_well es (after_input target es) env l target (port_of s.ports env direction.Input channel)
    (λ p v is typed. received_into es env target.name target.subscript h.0 v p.carries
    (meant count es target.name h.0 target.subscript (meaning_in target.name es) refl main.own whole h.2) holds
    (port_carries s es env direction.Input channel.name channel.subscript h.0 p main holds.meets h.1 is) typed)
action_well s signatures count (Output channel value) es env l sequential words main whole holds h =
    sent_well s h.1 (number_of env value) (port_of s.ports env direction.Output channel) es env l
    (channel_number (meaning_in channel.name es) _ h.0 h.1 (number_of env value) (truth_of env value) h.2.type_is
    (fit_has wanted.Anything es env value h.0 h.1 holds.meets h.3)) holds
action_well s signatures count (Instance name actuals) es env l sequential words main whole holds h =
    absurd sequential
