-- Where variables are, which targets they are in code, and what they hold after a number was stored.
use Rattle.std.proofs.Common.{◌≡◌, ℕ, zero, suc, ◌+◌, ◌/◌, ◌<◌, ◌≤◌, ◌⊎◌, inl, inr, ℤ, pos, negsuc, Bool, true}
use Rattle.std.proofs.Common.{false, if◌then◌else◌, List, [], ◌∷◌, length, Option, Some, None, Result, Ok, refl, sym}
use Rattle.std.proofs.Common.{ap, subst, ◌∙◌, arith, FitsSigned}
use Rattle.std.specs.Prelude.{option_map, option_and_then}
use Rattle.std.specs.Ordering.{int_eq}
use Rattle.std.specs.Int.{w32}
use Rattle.std.proofs.lemmas.Int.{ints}
use Rattle.std.proofs.lemmas.Bool.Decides.{Decides-int_eq}
use Rattle.machine_state.specs.Memory.{Memory, with_byte, byte_worth}
use Rattle.occam_parser.specs.declared.tree.ValueType.{ValueType}
use Rattle.occam_parser.specs.declared.tree.ValueType.TheVariants as value_type
use Rattle.occam_parser.specs.Expressions.{Expression}
use Rattle.occam_parser.specs.Lines.{Place}
use Rattle.word_arithmetic.specs.Range.{Ends, InRange}
use Rattle.scalar_ranges.specs.declared.scope.ArrayKind.{ArrayKind}
use Rattle.scalar_ranges.specs.Bounds.{bound_of, range_found}
use Rattle.scalar_ranges.specs.Entries.{Meaning, Scalar, Array, Entry, meaning_in}
use Rattle.scalar_ranges.specs.Environments.{Held, Nothing, One, Many, Environment, held_in, IsHeld, Meets}
use Rattle.scalar_ranges.specs.MoveLaws.{put}
use Rattle.scalar_ranges.specs.Steps.{both_some}
use Rattle.scalar_ranges.specs.Values.{number_of}
use Rattle.scalar_ranges.proofs.Lookups.{found_held}
use Rattle.program_meaning.specs.TypedValues.{IsOfType}
use Rattle.program_meaning.specs.Storing.{number_held, held_after, item_set, element_stored, stored}
use Rattle.program_meaning.proofs.NumbersStored.{numbers_agree, scalars_stored}
use Rattle.line_pieces.specs.Homes.{Home, Word, words_for}
use Rattle.line_pieces.specs.Expressions.{single, subscript_of}
use Rattle.line_pieces.specs.Actions.{OwnWord, KnownElement, OtherElement, whole_target, element_target}
use Rattle.line_pieces.specs.Actions.{by_number, target_of}
use Rattle.placed_code.specs.StraightPieces.{word_place}
use Rattle.meant_lines.specs.Words.{with_frame_word}
use Rattle.meant_lines.specs.Carrying.{Ground, IsInside, Carries}
use Rattle.meant_lines.proofs.Carrying.{homes_are_inside}
use Rattle.meant_lines.proofs.Storing.{scalars_are_carried, elements_are_carried, bytes_are_carried}
use Rattle.meant_actions.specs.Acting.{IsScalar, IsInWords, IsSubscript}

-- ---- places

abbrev pub whole : List ℕ → Place
whole name = record { name = name; subscript = None }

abbrev pub element : List ℕ → Expression → Place
element name e = record { name = name; subscript = Some e }

-- where an element of an array is in memory, whose words begin with w
abbrev pub element_place : ValueType → (w i : ℕ) → ℕ
element_place value_type.Int w i = word_place (w + i)
element_place value_type.Byte w i = word_place w + i

-- the word that it is in
abbrev pub element_word : ValueType → (w i : ℕ) → ℕ
element_word value_type.Int w i = w + i
element_word value_type.Byte w i = w + i / 4

-- a number is in it from now on
abbrev pub with_element : ValueType → (w i : ℕ) → ℤ → Memory → Memory
with_element value_type.Int w i v m = with_frame_word (w + i) v m
with_element value_type.Byte w i v m = with_byte m (word_place w + i) (Some (byte_worth 1 v))

-- ---- scalars

-- a scalar's place is its own word
pub scalar_target : (g : Ground) (es : List Entry) (t : ℕ) (name : List ℕ) (type : ValueType) (n w : ℕ)
    → IsScalar g es name type n w → target_of g.homes es t (whole name) ≡ OwnWord type w
scalar_target g es t name type n w scalar =
    ap (λ (h : Option Home). whole_target h (meaning_in name es)) scalar.at
    ∙ ap (whole_target (Some (Word w))) scalar.means

-- which is one of the frame
pub scalar_within : (g : Ground) (top : ℕ) (es : List Entry) (env : Environment) (name : List ℕ) (type : ValueType)
    (n w : ℕ) (m : Memory) → IsScalar g es name type n w → Carries g top es env m → w + 1 ≤ g.words
scalar_within g top es env name type n w m scalar carries =
    subst (λ (h : Option Home). IsInside g.words h (Scalar scalar.kind type scalar.range)) scalar.at
    (homes_are_inside g.words g.homes es name (Scalar scalar.kind type scalar.range) carries.room scalar.means)

-- ---- elements

-- an array is in words of the frame
pub array_within : (g : Ground) (top : ℕ) (es : List Entry) (env : Environment) (name : List ℕ) (type : ValueType)
    (size n w : ℕ) (m : Memory) → IsInWords g es name type size n w → Carries g top es env m
    → w + words_for type size ≤ g.words
array_within g top es env name type size n w m array carries =
    subst (λ (h : Option Home). IsInside g.words h (Array array.kind type (Some size) array.range)) array.at
    (homes_are_inside g.words g.homes es name (Array array.kind type (Some size) array.range) carries.room array.means)

word_within : (type : ValueType) (w i size words : ℕ) → i < size → w + words_for type size ≤ words
    → element_word type w i < words
word_within value_type.Int w i size words less below = omega (arith, less, below)
word_within value_type.Byte w i size words less below = omega (arith, less, below)

-- and so is each of its elements
pub element_within : (g : Ground) (top : ℕ) (es : List Entry) (env : Environment) (name : List ℕ) (type : ValueType)
    (size n w i : ℕ) (m : Memory) → IsInWords g es name type size n w → i < size → Carries g top es env m
    → element_word type w i < g.words
element_within g top es env name type size n w i m array less carries =
    word_within type w i size g.words less (array_within g top es env name type size n w m array carries)

-- a range with one number alone has that one
single_by : (test : Bool) (r : Ends) (i : ℕ) → int_eq r.lo r.hi ≡ test → InRange r (pos i)
    → ((if test then Some r.lo else None) ≡ Some (pos i)) ⊎ ((if test then Some r.lo else None) ≡ None)
single_by true r i is lies =
    let same : r.lo ≡ r.hi = (Decides-int_eq r.lo r.hi).0 is in
    let low = lies.from_lo in
    let high = lies.to_hi in
    let one : r.lo ≡ pos i = omega (arith, ints, same, low, high) in
    inl (ap Some one)
single_by false r i is lies = inr refl

single_is : (r : Result Ends ℕ) (range : Ends) (i : ℕ) → r ≡ Ok range → InRange range (pos i)
    → (single r ≡ Some (pos i)) ⊎ (single r ≡ None)
single_is r range i found lies =
    subst (λ (x : Result Ends ℕ). (single x ≡ Some (pos i)) ⊎ (single x ≡ None)) (sym found)
    (single_by (int_eq range.lo range.hi) range i refl lies)

-- An element is known by its number, or else by its subscript.
pub element_target_is : (g : Ground) (top : ℕ) (es : List Entry) (env : Environment) (t : ℕ) (name : List ℕ)
    (type : ValueType) (size n w : ℕ) (e : Expression) (i : ℕ) → IsInWords g es name type size n w
    → IsSubscript g top es env t size e i
    → (target_of g.homes es t (element name e) ≡ KnownElement type w i)
    ⊎ (target_of g.homes es t (element name e) ≡ OtherElement type w (subscript_of g.homes es t e))
element_target_is g top es env t name type size n w e i array sub =
    by (single_is (range_found (bound_of es e)) sub.range i sub.found sub.lies)
  where
    numbered : target_of g.homes es t (element name e)
        ≡ by_number type w (single (range_found (bound_of es e))) (subscript_of g.homes es t e)
    numbered =
        ap (λ (h : Option Home). element_target h (meaning_in name es) (single (range_found (bound_of es e)))
        (subscript_of g.homes es t e)) array.at
        ∙ ap (λ (m : Option Meaning). element_target (Some (Word w)) m (single (range_found (bound_of es e)))
        (subscript_of g.homes es t e)) array.means

    by : (single (range_found (bound_of es e)) ≡ Some (pos i)) ⊎ (single (range_found (bound_of es e)) ≡ None)
        → (target_of g.homes es t (element name e) ≡ KnownElement type w i)
        ⊎ (target_of g.homes es t (element name e) ≡ OtherElement type w (subscript_of g.homes es t e))
    by (inl known) =
        inl (numbered ∙ ap (λ (o : Option ℤ). by_number type w o (subscript_of g.homes es t e)) known)
    by (inr other) =
        inr (numbered ∙ ap (λ (o : Option ℤ). by_number type w o (subscript_of g.homes es t e)) other)

-- ---- what is held

held_many : (kind : ArrayKind) (type : ValueType) (size : ℕ) (range : Ends) (held : Held)
    → IsHeld (Array kind type (Some size) range) held
    → (vs : List ℤ) × (held ≡ Many vs) × (length vs ≡ size)
held_many kind type size range (Many vs) is = (vs, refl, is.0)
held_many kind type size range Nothing is = absurd is
held_many kind type size range (One v) is = absurd is

-- an array holds as many numbers as it has elements
pub array_holds : (g : Ground) (es : List Entry) (env : Environment) (name : List ℕ) (type : ValueType)
    (size n w : ℕ) → Meets env es → IsInWords g es name type size n w
    → (vs : List ℤ) × (held_in name env ≡ Many vs) × (length vs ≡ size)
array_holds g es env name type size n w meets array =
    held_many array.kind type size array.range (held_in name env)
    (found_held name es env (Array array.kind type (Some size) array.range) meets array.means)

set_some : (i : ℕ) (v : ℤ) (vs : List ℤ) → i < length vs → (ws : List ℤ) × (item_set i v vs ≡ Some ws)
set_some i v [] less = absurd (omega (arith, less))
set_some zero v (x ∷ vs) less = (v ∷ vs, refl)
set_some (suc i) v (x ∷ vs) less =
    let rest = set_some i v vs (omega (arith, less)) in
    (x ∷ rest.0, ap (option_map (λ (ws : List ℤ). x ∷ ws)) rest.1)

byte_is : (b : ℕ) → b < 256 → byte_worth 1 (pos b) ≡ b
byte_is b small = omega (arith, ints, small)

-- The environment after a number was stored in a place, and memory that carries it.
pub record LeavesStored (g : Ground) (top : ℕ) (es : List Entry) (env : Environment) (p : Place) (v : ℤ)
    (change : Memory → Memory) : Type 0 where
  pub after : Environment
  pub is : stored env p v ≡ Some after
  pub carries : (m : Memory) → Carries g top es env m → Carries g top es after (change m)

pub scalar_put : (g : Ground) (top : ℕ) (es : List Entry) (env : Environment) (name : List ℕ) (type : ValueType)
    (n w : ℕ) (v : ℤ) → Meets env es → IsScalar g es name type n w → FitsSigned w32 v
    → LeavesStored g top es env (whole name) v (with_frame_word w v)
scalar_put g top es env name type n w v meets scalar fits = record {
  after = put n (One v) env;
  is = scalars_stored es env name scalar.kind type scalar.range n v meets scalar.means scalar.number;
  carries = λ m carries.
      scalars_are_carried g top n w es env name scalar.kind type scalar.range v m meets scalar.means scalar.number
      scalar.at fits carries;
}

module _ (g : Ground) (top : ℕ) (es : List Entry) (env : Environment) (name : List ℕ) (size n w i : ℕ)
    (vs ws : List ℤ) (meets : Meets env es) (holds : held_in name env ≡ Many vs) (m : Memory)
    (carries : Carries g top es env m) where
  element_carried : (type : ValueType) (v : ℤ) → IsInWords g es name type size n w → IsOfType type v
      → item_set i v vs ≡ Some ws → Carries g top es (put n (Many ws) env) (with_element type w i v m)
  element_carried value_type.Int v array typed is =
      elements_are_carried g top n w i es env name array.kind (Some size) array.range v vs ws m meets array.means
      array.number array.at holds is typed carries
  element_carried value_type.Byte (pos b) array typed is =
      let high = typed.to_hi in
      let small : b < 256 = omega (arith, ints, high) in
      subst (λ (x : ℕ). Carries g top es (put n (Many ws) env) (with_byte m (word_place w + i) (Some x)))
      (sym (byte_is b small))
      (bytes_are_carried g top n w i b es env name array.kind (Some size) array.range vs ws m meets array.means
      array.number array.at holds is small carries)
  element_carried value_type.Byte (negsuc b) array typed is =
      let low = typed.from_lo in absurd (omega (arith, ints, low))

put_both : (n : ℕ) (env : Environment) (a : Option ℕ) (b : Option Held) (h : Held) → a ≡ Some n → b ≡ Some h
    → both_some a b (λ n h. Some (put n h env)) ≡ Some (put n h env)
put_both n env a b h number held = λ i. both_some (number i) (held i) (λ n h. Some (put n h env))

pub element_put : (g : Ground) (top : ℕ) (es : List Entry) (env : Environment) (name : List ℕ) (e : Expression)
    (type : ValueType) (size n w i : ℕ) (v : ℤ) → Meets env es → IsInWords g es name type size n w
    → number_of env e ≡ Some (pos i) → i < size → IsOfType type v
    → LeavesStored g top es env (element name e) v (with_element type w i v)
element_put g top es env name e type size n w i v meets array is less typed =
    let held = array_holds g es env name type size n w meets array in
    let long = held.2 in
    let set = set_some i v held.0 (omega (arith, less, long)) in
    let after : held_after env (element name e) v ≡ Some (Many set.0) =
    ap (option_and_then (λ i. element_stored (held_in name env) i v)) is
    ∙ ap (λ (h : Held). element_stored h (pos i) v) held.1 ∙ ap (option_map Many) set.1 in
    record {
      after = put n (Many set.0) env;
      is = put_both n env (number_held name env) (held_after env (element name e) v) (Many set.0)
          (numbers_agree name es env meets ∙ array.number) after;
      carries = λ m carries.
          element_carried g top es env name size n w i held.0 set.0 meets held.1 m carries type v array typed set.1;
    }
