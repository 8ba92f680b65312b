-- What is stored in a scalar or in an element is there, and memory carries the environment that the store leaves.
use Rattle.std.proofs.Common.{◌≡◌, ◌≢◌, ℕ, zero, suc, ◌+◌, ◌/◌, ◌<◌, ◌≤◌, ◌⊎◌, inl, inr, ℤ, pos, List, []}
use Rattle.std.proofs.Common.{◌∷◌, length, Option, Some, None, FitsSigned, refl, sym, ap, subst, ◌∙◌, arith}
use Rattle.std.specs.Prelude.{slice_get, option_and_then, option_map}
use Rattle.std.specs.Int.{w32}
use Rattle.std.proofs.lemmas.Bool.{cases_lt}
use Rattle.machine_state.specs.Memory.{Memory, byte_at, with_byte}
use Rattle.machine_state.proofs.Reading.{byte_at-with_byte, byte_at-with_byte_other}
use Rattle.occam_parser.specs.declared.tree.ValueType.{ValueType}
use Rattle.occam_parser.specs.declared.tree.ValueType.TheVariants as value_type
use Rattle.word_arithmetic.specs.Range.{Ends}
use Rattle.scalar_ranges.specs.declared.scope.ArrayKind.{ArrayKind}
use Rattle.scalar_ranges.specs.Entries.{Meaning, Scalar, Array, Entry, meaning_in, number_in}
use Rattle.scalar_ranges.specs.Environments.{Held, One, Many, Environment, held_in, item_at, IsHeld, Meets}
use Rattle.scalar_ranges.specs.MoveLaws.{put, meaning_at}
use Rattle.scalar_ranges.proofs.Lookups.{found_held}
use Rattle.scalar_ranges.proofs.Named.{meaning_found}
use Rattle.program_meaning.specs.Storing.{item_set}
use Rattle.line_pieces.specs.Homes.{Home, Word, home_of}
use Rattle.placed_code.specs.StraightPieces.{word_place}
use Rattle.meant_lines.specs.Words.{ChangesWithin, with_frame_word}
use Rattle.meant_lines.specs.Carrying.{Ground, HoldsByte, HoldsWord, HoldsArray, IsKeptThere, IsInside, Carries}
use Rattle.meant_lines.specs.CarryingLaws.{IsPartOf, ScalarsAreCarried, ElementsAreCarried, BytesAreCarried}
use Rattle.meant_lines.proofs.Words.{changes_writing, changes_with_byte}
use Rattle.meant_lines.proofs.Carrying.{names_are_kept, homes_are_inside, number_stays, one_name_changes}
use Rattle.meant_lines.proofs.WrittenBytes.{written_holds}

-- ---- where a name is

pub means_at : (name : List ℕ) (n : ℕ) (es : List Entry) (k : Meaning) → number_in name es ≡ Some n
    → meaning_in name es ≡ Some k → meaning_at n es ≡ Some k
means_at name n es k number means = sym (meaning_found name n es number) ∙ means

pub home_there : (hs : List Home) (name : List ℕ) (n : ℕ) (es : List Entry) (h : Option Home)
    → number_in name es ≡ Some n → home_of hs es name ≡ h → slice_get hs n ≡ h
home_there hs name n es h number is = sym (ap (option_and_then (slice_get hs)) number) ∙ is

-- ---- elements

below_by : (o : Option (List ℤ)) (i : ℕ) (x : ℤ) (vs ws : List ℤ) → option_map (λ rest. x ∷ rest) o ≡ Some ws
    → ((rest : List ℤ) → o ≡ Some rest → i < length vs) → suc i < length (x ∷ vs)
below_by None i x vs ws is further = absurd (cc)
below_by (Some rest) i x vs ws is further = let less = further rest refl in omega (arith, less)

pub set_below : (i : ℕ) (v : ℤ) (vs ws : List ℤ) → item_set i v vs ≡ Some ws → i < length vs
set_below i v [] ws is = absurd (cc)
set_below zero v (x ∷ vs) ws is = omega arith
set_below (suc i) v (x ∷ vs) ws is = below_by (item_set i v vs) i x vs ws is (set_below i v vs)

-- each item is the one that was set, or as it was
abbrev IsSetOrKept : ℕ → ℤ → List ℤ → ℕ → ℤ → Type 0
IsSetOrKept i v vs j u = ((j ≡ i) × (u ≡ v)) ⊎ ((j ≢ i) × (item_at j vs ≡ Some u))

first_is_set : (v x : ℤ) (vs : List ℤ) (j : ℕ) (u : ℤ) → item_at j (v ∷ vs) ≡ Some u → IsSetOrKept 0 v (x ∷ vs) j u
first_is_set v x vs zero u is = inl (refl, cc)
first_is_set v x vs (suc j) u is = inr (omega arith, is)

further_kept : (i : ℕ) (v x : ℤ) (vs : List ℤ) (j : ℕ) (u : ℤ) → IsSetOrKept i v vs j u
    → IsSetOrKept (suc i) v (x ∷ vs) (suc j) u
further_kept i v x vs j u (inl same) = inl (ap suc same.0, same.1)
further_kept i v x vs j u (inr other) = inr (let apart = other.0 in omega (arith, apart), other.1)

kept_by : (o : Option (List ℤ)) (i : ℕ) (v x : ℤ) (vs ws : List ℤ) (j : ℕ) (u : ℤ)
    → option_map (λ rest. x ∷ rest) o ≡ Some ws → item_at j ws ≡ Some u
    → ((rest : List ℤ) (j : ℕ) → o ≡ Some rest → item_at j rest ≡ Some u → IsSetOrKept i v vs j u)
    → IsSetOrKept (suc i) v (x ∷ vs) j u
kept_by None i v x vs ws j u is at further = absurd (cc)
kept_by (Some rest) i v x vs ws zero u is at further =
    let same : x ∷ rest ≡ ws = cc in
    inr (omega arith, ap (item_at 0) same ∙ at)
kept_by (Some rest) i v x vs ws (suc j) u is at further =
    let same : x ∷ rest ≡ ws = cc in
    further_kept i v x vs j u (further rest j refl (ap (item_at (suc j)) same ∙ at))

set_or_kept : (i : ℕ) (v : ℤ) (vs ws : List ℤ) (j : ℕ) (u : ℤ) → item_set i v vs ≡ Some ws → item_at j ws ≡ Some u
    → IsSetOrKept i v vs j u
set_or_kept i v [] ws j u is at = absurd (cc)
set_or_kept zero v (x ∷ vs) ws j u is at =
    let same : v ∷ vs ≡ ws = cc in
    first_is_set v x vs j u (ap (item_at j) same ∙ at)
set_or_kept (suc i) v (x ∷ vs) ws j u is at =
    kept_by (item_set i v vs) i v x vs ws j u is at (λ rest j same at. set_or_kept i v vs rest j u same at)

on_one_side : (a b : ℕ) → a ≢ b → (a < b) ⊎ (b + 1 ≤ a)
on_one_side a b apart = by (cases_lt a b)
  where
    by : (a < b) ⊎ (b ≤ a) → (a < b) ⊎ (b + 1 ≤ a)
    by (inl below) = inl below
    by (inr above) = inr (omega (arith, apart, above))

word_set : (m : Memory) (w i size : ℕ) (v : ℤ) (vs ws : List ℤ) → i < size → word_place (w + size) ≤ length m
    → FitsSigned w32 v → HoldsArray value_type.Int m w vs → item_set i v vs ≡ Some ws
    → HoldsArray value_type.Int (with_frame_word (w + i) v m) w ws
word_set m w i size v vs ws less inside fits holds is = λ j u at. by j u (set_or_kept i v vs ws j u is at)
  where
    by : (j : ℕ) (u : ℤ) → IsSetOrKept i v vs j u → HoldsWord (with_frame_word (w + i) v m) (w + j) u
    by j u (inl same) =
        subst (λ (x : ℤ). HoldsWord (with_frame_word (w + i) v m) (w + j) x) (sym same.1)
        (subst (λ (x : ℕ). HoldsWord (with_frame_word (w + i) v m) (w + x) v) (sym same.0)
        (written_holds m (w + i) v (omega (arith, less, inside)) fits))
    by j u (inr other) =
        let apart = other.0 in
        number_stays (changes_writing (w + i) (w + i + 1) (w + i) m v (omega arith) (omega arith)) (w + j) u
        (on_one_side (w + j) (w + i) (omega (arith, apart))) (holds j u other.1)

byte_set : (m : Memory) (w i size b : ℕ) (vs ws : List ℤ) → b < 256 → i < size
    → word_place (w + (size + 3) / 4) ≤ length m → HoldsArray value_type.Byte m w vs
    → item_set i (pos b) vs ≡ Some ws → HoldsArray value_type.Byte (with_byte m (word_place w + i) (Some b)) w ws
byte_set m w i size b vs ws small less inside holds is = λ j u at. by j u (set_or_kept i (pos b) vs ws j u is at)
  where
    by : (j : ℕ) (u : ℤ) → IsSetOrKept i (pos b) vs j u
        → HoldsByte (with_byte m (word_place w + i) (Some b)) (word_place w + j) u
    by j u (inl same) = (
      b,
      same.1,
      subst (λ (x : ℕ). byte_at (with_byte m (word_place w + i) (Some b)) (word_place w + x) ≡ Some b)
          (sym same.0) (byte_at-with_byte m (word_place w + i) (Some b) (omega (arith, less, inside))),
      small,
    )
    by j u (inr other) =
        let apart = other.0 in
        let old = holds j u other.1 in (
          old.0,
          old.1,
          byte_at-with_byte_other m (word_place w + i) (word_place w + j) (Some b) (omega (arith, apart))
              ∙ old.2,
          old.3,
        )

-- ---- stores

module _ (g : Ground) (top n w : ℕ) (es : List Entry) (env : Environment) (name : List ℕ) (m : Memory)
    (meets : Meets env es) (number : number_in name es ≡ Some n) (at : home_of g.homes es name ≡ Some (Word w))
    (carries : Carries g top es env m) where
  -- the home is in the frame
  home_within : (k : Meaning) → meaning_in name es ≡ Some k → IsInside g.words (Some (Word w)) k
  home_within k means =
      subst (λ (h : Option Home). IsInside g.words h k) at
      (homes_are_inside g.words g.homes es name k carries.room means)

  changed : (k : Meaning) (held : Held) (first end : ℕ) (new : Memory) → meaning_in name es ≡ Some k
      → IsPartOf (Some (Word w)) k first end → ChangesWithin first end m new
      → IsKeptThere g new (Some (Word w)) k held → Carries g top es (put n held env) new
  changed k held first end new means part changes there =
      let home : slice_get g.homes n ≡ Some (Word w) = home_there g.homes name n es (Some (Word w)) number at in
      one_name_changes g top first end n es env k held m new meets (means_at name n es k number means)
      (subst (λ (h : Option Home). IsPartOf h k first end) (sym home) part) changes
      (subst (λ (h : Option Home). IsKeptThere g new h k held) (sym home) there) carries

  array_there : (kind : ArrayKind) (type : ValueType) (size : Option ℕ) (range : Ends) (vs : List ℤ)
      → meaning_in name es ≡ Some (Array kind type size range) → held_in name env ≡ Many vs → HoldsArray type m w vs
  array_there kind type size range vs means holds =
      subst (λ (held : Held). IsKeptThere g m (Some (Word w)) (Array kind type size range) held) holds
      (subst (λ (h : Option Home). IsKeptThere g m h (Array kind type size range) (held_in name env)) at
      (names_are_kept g m es env name (Array kind type size range) meets carries.kept means))

  held_there : (k : Meaning) (vs : List ℤ) → meaning_in name es ≡ Some k → held_in name env ≡ Many vs
      → IsHeld k (Many vs)
  held_there k vs means holds = subst (IsHeld k) holds (found_held name es env k meets means)

  element_stored : (i : ℕ) (kind : ArrayKind) (size : Option ℕ) (range : Ends) (v : ℤ) (vs ws : List ℤ)
      → meaning_in name es ≡ Some (Array kind value_type.Int size range) → held_in name env ≡ Many vs
      → item_set i v vs ≡ Some ws → FitsSigned w32 v → IsHeld (Array kind value_type.Int size range) (Many vs)
      → Carries g top es (put n (Many ws) env) (with_frame_word (w + i) v m)
  element_stored i kind None range v vs ws means holds is fits long = absurd long
  element_stored i kind (Some size) range v vs ws means holds is fits long =
      let k : Meaning = Array kind value_type.Int (Some size) range in
      let below = set_below i v vs ws is in
      let less : i < size = omega (arith, below, long.0) in
      let inside = home_within k means in
      changed k (Many ws) w (w + size) (with_frame_word (w + i) v m) means (omega arith, omega arith)
      (changes_writing w (w + size) (w + i) m v (omega arith) (omega (arith, less)))
      (word_set m w i size v vs ws less (omega (arith, inside, carries.frame.inside)) fits
      (array_there kind value_type.Int (Some size) range vs means holds) is)

  byte_stored : (i b : ℕ) (kind : ArrayKind) (size : Option ℕ) (range : Ends) (vs ws : List ℤ)
      → meaning_in name es ≡ Some (Array kind value_type.Byte size range) → held_in name env ≡ Many vs
      → item_set i (pos b) vs ≡ Some ws → b < 256 → IsHeld (Array kind value_type.Byte size range) (Many vs)
      → Carries g top es (put n (Many ws) env) (with_byte m (word_place w + i) (Some b))
  byte_stored i b kind None range vs ws means holds is small long = absurd long
  byte_stored i b kind (Some size) range vs ws means holds is small long =
      let k : Meaning = Array kind value_type.Byte (Some size) range in
      let below = set_below i (pos b) vs ws is in
      let less : i < size = omega (arith, below, long.0) in
      let inside = home_within k means in
      changed k (Many ws) w (w + (size + 3) / 4) (with_byte m (word_place w + i) (Some b)) means
      (omega arith, omega arith)
      (changes_with_byte w (w + (size + 3) / 4) (word_place w + i) m (Some b) (omega arith) (omega (arith, less)))
      (byte_set m w i size b vs ws small less (omega (arith, inside, carries.frame.inside))
      (array_there kind value_type.Byte (Some size) range vs means holds) is)

pub scalars_are_carried : ScalarsAreCarried
scalars_are_carried g top n w es env name kind type range v m meets means number at fits carries =
    let inside = home_within g top n w es env name m meets number at carries (Scalar kind type range) means in
    changed g top n w es env name m meets number at carries (Scalar kind type range) (One v) w (w + 1)
    (with_frame_word w v m) means (omega arith, omega arith)
    (changes_writing w (w + 1) w m v (omega arith) (omega arith))
    (written_holds m w v (omega (arith, inside, carries.frame.inside)) fits)

pub elements_are_carried : ElementsAreCarried
elements_are_carried g top n w i es env name kind size range v vs ws m meets means number at holds is fits carries =
    element_stored g top n w es env name m meets number at carries i kind size range v vs ws means holds is fits
    (held_there g top n w es env name m meets number at carries (Array kind value_type.Int size range) vs means holds)

pub bytes_are_carried : BytesAreCarried
bytes_are_carried g top n w i b es env name kind size range vs ws m meets means number at holds is small carries =
    byte_stored g top n w es env name m meets number at carries i b kind size range vs ws means holds is small
    (held_there g top n w es env name m meets number at carries (Array kind value_type.Byte size range) vs means holds)
