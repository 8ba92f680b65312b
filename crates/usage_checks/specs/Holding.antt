-- What holds of a line that breaks no rule: names are found, types fit, and ranges and values are known.
use Rattle.std.specs.Prelude.{◌≡◌, ℕ, ℤ, pos, int_le, true, ◌&&◌, List, [], ◌∷◌, length, Option, Some, None, Ok}
use Rattle.std.specs.Prelude.{IsSome}
use Rattle.std.specs.List.{AllByRecursion}
use Rattle.word_arithmetic.specs.Range.{Ends}
use Rattle.occam_parser.specs.declared.tree.ValueType.{ValueType}
use Rattle.occam_parser.specs.declared.tree.ValueType.TheVariants as value_type
use Rattle.occam_parser.specs.Expressions.{Expression}
use Rattle.occam_parser.specs.OneOrMore.{as_list}
use Rattle.occam_parser.specs.Lines.{Place, Replicator, Value, Scalar, Table, Bytes, Declaration, Constants, Variables}
use Rattle.occam_parser.specs.Lines.{Channels, Action, Skip, Stop, Assign, Input, Output, Instance, Guard, Receives}
use Rattle.occam_parser.specs.Lines.{Skips}
use Rattle.occam_parser.specs.Lines.{Formal}
use Rattle.scalar_ranges.specs.declared.types.ExprType.{ExprType}
use Rattle.scalar_ranges.specs.declared.types.ExprType.TheVariants as types
use Rattle.scalar_ranges.specs.Entries.{Meaning, Procedure, Entry, meaning_in}
use Rattle.scalar_ranges.specs.Environments.{item_at}
use Rattle.scalar_ranges.specs.Types.{type_of_values, type_of}
use Rattle.scalar_ranges.specs.Bounds.{bound_of, range_found, is_subscript}
use Rattle.program_uses.specs.Constants.{value_as, size_in}
use Rattle.program_uses.specs.Instances.{place_in}
use Rattle.program_uses.specs.Places.{spot_of, is_subscripted}
use Rattle.program_uses.specs.Signatures.{Parameter}
use Rattle.usage_checks.specs.declared.wanting.Wanted.{Wanted}
use Rattle.usage_checks.specs.declared.wanting.Wanted.TheVariants as wanted
use Rattle.usage_checks.specs.Following.{where_holds}
use Rattle.usage_checks.specs.InstanceRules.{takes, takes_value, subscript_for}
use Rattle.usage_checks.specs.LineRules.{fits_word}
use Rattle.usage_checks.specs.PlaceRules.{target_at, channel_at, elements_in}

-- ---- expressions and places

-- where a constant is wanted, its value is known
abbrev pub HasValue : List Entry → ExprType → Expression → Type 0
HasValue es type e = (value : ℤ) × (value_as es type e ≡ Some value)

abbrev pub Suits : Wanted → List Entry → Expression → ExprType → Type 0
Suits wanted.Anything es e type = Unit {0}
Suits (wanted.Value t) es e type = type ≡ t
Suits (wanted.Constant t) es e type = (type ≡ t) × HasValue es t e

-- An expression has a type and a range, and is what is wanted.
pub record IsFit (w : Wanted) (es : List Entry) (e : Expression) (type : ExprType) (range : Ends) : Type 0 where
  pub type_is : type_of es e ≡ Ok type
  pub range_is : range_found (bound_of es e) ≡ Ok range
  pub suits : Suits w es e type

-- a subscript, if there is one, is inside the array
abbrev pub SubscriptHolds : Wanted → List Entry → Option ℕ → Option Expression → Type 0
SubscriptHolds w es size None = Unit {0}
SubscriptHolds w es size (Some e) =
    (range : Ends) × IsFit w es e types.Int range × ((n : ℕ) → size ≡ Some n → is_subscript n range ≡ true)

-- what can be assigned to, or received into
pub record IsTarget (es : List Entry) (p : Place) (type : ExprType) : Type 0 where
  pub type_is : target_at es p ≡ Ok type
  pub subscript : SubscriptHolds (wanted.Value types.Int) es (elements_in (meaning_in p.name es)) p.subscript

-- a channel, of which is known which one it is
pub record IsChannel (es : List Entry) (p : Place) (type : ExprType) : Type 0 where
  pub type_is : channel_at es p ≡ Ok type
  pub subscript : SubscriptHolds (wanted.Constant types.Int) es (elements_in (meaning_in p.name es)) p.subscript
  pub spot : IsSome (spot_of es p)

-- ---- instances

-- an actual that is exactly a place, or else a value
abbrev pub ActualHolds : List Entry → Meaning → Expression → Option Place → Type 0
ActualHolds es formal e None = (type : ExprType) × (range : Ends) × IsFit wanted.Anything es e type range
    × (takes_value formal type ≡ true)
ActualHolds es formal e (Some p) = (m : Meaning) × (meaning_in p.name es ≡ Some m)
    × (takes formal m (is_subscripted p.subscript) ≡ true)
    × SubscriptHolds (subscript_for (Some formal)) es (elements_in (meaning_in p.name es)) p.subscript

-- one for each parameter
abbrev pub ActualsHold : List Entry → List Parameter → List Expression → Type 0
ActualsHold es [] [] = Unit {0}
ActualsHold es [] (e ∷ actuals) = ⊥
ActualsHold es (q ∷ qs) [] = ⊥
ActualsHold es (q ∷ qs) (e ∷ actuals) = ActualHolds es q.meaning e (place_in e) × ActualsHold es qs actuals

-- what is called is a procedure
pub record InstanceHolds (signatures : List (List Parameter)) (es : List Entry) (name : List ℕ)
    (actuals : List Expression) : Type 0 where
  pub number : ℕ
  pub parameters : List Parameter
  pub called : meaning_in name es ≡ Some (Procedure number)
  pub known : item_at number signatures ≡ Some parameters
  pub actuals_hold : ActualsHold es parameters actuals

-- ---- lines

abbrev pub InputHolds : List Entry → Place → Place → Type 0
InputHolds es channel target = (type : ExprType) × IsChannel es channel type × IsTarget es target type

abbrev pub ActionHolds : List (List Parameter) → List Entry → Action → Type 0
ActionHolds signatures es Skip = Unit {0}
ActionHolds signatures es Stop = Unit {0}
ActionHolds signatures es (Assign target value) = (type : ExprType) × (range : Ends) × IsTarget es target type
    × IsFit wanted.Anything es value type range
ActionHolds signatures es (Input channel target) = InputHolds es channel target
ActionHolds signatures es (Output channel value) = (type : ExprType) × (range : Ends) × IsChannel es channel type
    × IsFit wanted.Anything es value type range
ActionHolds signatures es (Instance name actuals) = InstanceHolds signatures es name actuals

abbrev pub ConditionHolds : List Entry → Expression → Type 0
ConditionHolds es e = (range : Ends) × IsFit (wanted.Value types.Condition) es e types.Condition range

abbrev pub ConditionHoldsIfAny : List Entry → Option Expression → Type 0
ConditionHoldsIfAny es None = Unit {0}
ConditionHoldsIfAny es (Some e) = ConditionHolds es e

-- the input of a guard, where its condition is true
abbrev pub GuardHolds : List Entry → Guard → Type 0
GuardHolds es (Receives condition channel target) =
    ConditionHoldsIfAny es condition × InputHolds (where_holds condition es) channel target
GuardHolds es (Skips e) = ConditionHolds es e

-- The base and the count are constants, and each index is a word.
pub record ReplicatorHolds (es : List Entry) (r : Replicator) : Type 0 where
  pub base : ℤ
  pub count : ℤ
  pub base_is : value_as es types.Int r.base ≡ Some base
  pub count_is : value_as es types.Int r.count ≡ Some count
  pub fits : (int_le (pos 0) count && fits_word (Some base) count) ≡ true

-- ---- declarations

abbrev pub SizeHoldsIfAny : List Entry → Option Expression → Type 0
SizeHoldsIfAny es None = Unit {0}
SizeHoldsIfAny es (Some e) = (size : ℕ) × (size_in es e ≡ Some size)

-- A table has as many items as it says, each with its value.
abbrev pub ValueHolds : List Entry → ValueType → Value → Type 0
ValueHolds es type (Scalar e) = HasValue es (type_of_values type) e
ValueHolds es type (Table size items) =
    (size_in es size ≡ Some (length (as_list items)))
    × AllByRecursion (HasValue es (type_of_values type)) (as_list items)
ValueHolds es type (Bytes size bytes) = (size_in es size ≡ Some (length bytes)) × (type ≡ value_type.Byte)

abbrev pub DeclarationHolds : List Entry → Declaration → Type 0
DeclarationHolds es (Constants c) = ValueHolds es c.value_type c.value
DeclarationHolds es (Variables n) = SizeHoldsIfAny es n.size
DeclarationHolds es (Channels n) = SizeHoldsIfAny es n.size

abbrev pub FormalsHold : List Entry → List Formal → Type 0
FormalsHold es fs = AllByRecursion (λ f. SizeHoldsIfAny es f.size) fs
