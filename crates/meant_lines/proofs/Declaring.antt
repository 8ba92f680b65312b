-- Memory carries an environment with one name more.
use Rattle.std.proofs.Common.{◌≡◌, ℕ, zero, suc, ◌+◌, ◌<◌, ◌≤◌, ℤ, pos, List, [], ◌∷◌, ◌++◌, length}
use Rattle.std.proofs.Common.{Option, Some, None, refl, sym, subst, arith}
use Rattle.std.specs.Prelude.{slice_get, replicate}
use Rattle.machine_state.specs.Memory.{Memory, byte_at, word_at}
use Rattle.occam_parser.specs.declared.tree.ValueType.{ValueType}
use Rattle.occam_parser.specs.declared.tree.ValueType.TheVariants as value_type
use Rattle.scalar_ranges.specs.Entries.{Meaning, Constant, Scalar, Array, Channel, Channels, Procedure, Entry}
use Rattle.scalar_ranges.specs.Environments.{Held, Nothing, One, Many, Environment, item_at}
use Rattle.line_pieces.specs.Homes as home
use Rattle.line_pieces.specs.Homes.{Home, Nowhere, Word, Block, Link, Passed, words_for}
use Rattle.placed_code.specs.StraightPieces.{word_place}
use Rattle.meant_lines.specs.Words.{Holds}
use Rattle.meant_lines.specs.Carrying.{Ground, HoldsWord, HoldsArray, IsScalarKept, IsArrayKept, IsKept, IsKeptThere}
use Rattle.meant_lines.specs.Carrying.{AreKept, IsInside, AreInside, words_held}
use Rattle.meant_lines.specs.Zeroing.{AreZero}
use Rattle.meant_lines.specs.Declaring.{with_home_there, NewNamesAreCarried, ZeroScalarsAreKept, ZeroArraysAreKept}
use Rattle.meant_lines.proofs.Carrying.{outer_words_stay}
use Rattle.meant_lines.proofs.Housing.{get_before, get_last, rises_further}

-- ---- other homes

-- the arrays that are kept do not hang on other homes and turns
module _ (g : Ground) (hs : List Home) (turns : ℕ → ℤ) (m : Memory) where
  pub array_there : (h : Home) (type : ValueType) (held : Held) → IsArrayKept g m h type held
      → IsArrayKept (record g { homes = hs; turns = turns }) m h type held
  array_there Nowhere type held is = absurd is
  array_there (Word w) type (Many vs) is = is
  array_there (Word w) type Nothing is = absurd is
  array_there (Word w) type (One v) is = absurd is
  array_there (home.Table values) type (Many vs) is = (is.0, λ reads. is.1 reads)
  array_there (home.Table values) type Nothing is = absurd is
  array_there (home.Table values) type (One v) is = absurd is
  array_there (Block w head) type held is = absurd is
  array_there (Link number) type held is = absurd is
  array_there (Passed w) type held is = absurd is

module _ (g : Ground) (hs : List Home) (m : Memory) where
  scalar_there : (h : Home) (held : Held) → IsScalarKept g m h held → IsScalarKept (record g { homes = hs }) m h held
  scalar_there Nowhere held is = absurd is
  scalar_there (Word w) (One v) is = is
  scalar_there (Word w) Nothing is = absurd is
  scalar_there (Word w) (Many vs) is = absurd is
  scalar_there (Block w head) (One v) is = is
  scalar_there (Block w head) Nothing is = absurd is
  scalar_there (Block w head) (Many vs) is = absurd is
  scalar_there (Link number) held is = absurd is
  scalar_there (home.Table values) held is = absurd is
  scalar_there (Passed w) held is = absurd is

  pub kept_there : (h : Home) (k : Meaning) (held : Held) → IsKept g m h k held
      → IsKept (record g { homes = hs }) m h k held
  kept_there h (Scalar kind type range) held is = scalar_there h held is
  kept_there h (Array kind type size range) held is = array_there g hs g.turns m h type held is
  kept_there h (Constant type value) held is = tt
  kept_there h (Channel type) held is = tt
  kept_there h (Channels type size) held is = tt
  kept_there h (Procedure number) held is = tt

  pub option_there : (o : Option Home) (k : Meaning) (held : Held) → IsKeptThere g m o k held
      → IsKeptThere (record g { homes = hs }) m o k held
  option_there None k held is = absurd is
  option_there (Some h) k held is = kept_there h k held is

-- the names before one more are kept
kept_before : (g : Ground) (h : Home) (m : Memory) (es : List Entry) (env : Environment) → length es ≤ length g.homes
    → AreKept g m es env → AreKept (with_home_there h g) m es env
kept_before g h m [] [] less kept = tt
kept_before g h m [] (b ∷ bs) less kept = absurd kept
kept_before g h m (e ∷ es) [] less kept = absurd kept
kept_before g h m (e ∷ es) (b ∷ bs) less kept = (
  subst (λ (o : Option Home). IsKeptThere (with_home_there h g) m o e.meaning b.held)
      (sym (get_before g.homes h (length es) (omega (arith, less))))
      (option_there g (g.homes ++ h ∷ []) m (slice_get g.homes (length es)) e.meaning b.held kept.0),
  kept_before g h m es bs (omega (arith, less)) kept.1,
)

-- and are in the frame
inside_before : (words : ℕ) (hs : List Home) (h : Home) (es : List Entry) → length es ≤ length hs
    → AreInside words hs es → AreInside words (hs ++ h ∷ []) es
inside_before words hs h [] less inside = tt
inside_before words hs h (e ∷ es) less inside = (
  subst (λ (o : Option Home). IsInside words o e.meaning)
      (sym (get_before hs h (length es) (omega (arith, less)))) inside.0,
  inside_before words hs h es (omega (arith, less)) inside.1,
)

pub new_names_are_carried : NewNamesAreCarried
new_names_are_carried g top more es env name k held h old new meets long ends starts counted inside changes there
    carries =
    let stays = outer_words_stay g top top g.words es env old new meets (omega arith) (omega arith) changes carries in
    record {
      frame = record { workspace = stays.frame.workspace; few = stays.frame.few; inside = stays.frame.inside };
      kept = (
        subst (λ (o : Option Home). IsKeptThere (with_home_there h g) new o k held)
            (sym (get_last g.homes h (length es) long)) (kept_there g (g.homes ++ h ∷ []) new h k held there),
        kept_before g h new es env (omega (arith, long)) stays.kept,
      );
      rise = rises_further words_held g.homes es name k h top more long carries.rise ends starts;
      room = (
        subst (λ (o : Option Home). IsInside g.words o k) (sym (get_last g.homes h (length es) long)) inside,
        inside_before g.words g.homes h es (omega (arith, long)) stays.room,
      );
      counted = counted;
      tables = λ values reads fit. stays.tables values reads fit;
    }

-- ---- what is 0

four_zeros : (m : Memory) (place : ℕ) → byte_at m place ≡ Some 0 → byte_at m (place + 1) ≡ Some 0
    → byte_at m (place + 2) ≡ Some 0 → byte_at m (place + 3) ≡ Some 0 → word_at m place ≡ Some (pos 0)
unfolding word_at
four_zeros m place a b c d = rw (a, b, c, d) refl

zero_word : (m : Memory) (word count i : ℕ) → i < count → AreZero m word count → Holds m (word + i) (pos 0)
zero_word m word count i less zeros =
    four_zeros m (word_place (word + i)) (zeros (word_place (word + i)) (omega arith) (omega (arith, less)))
    (zeros (word_place (word + i) + 1) (omega arith) (omega (arith, less)))
    (zeros (word_place (word + i) + 2) (omega arith) (omega (arith, less)))
    (zeros (word_place (word + i) + 3) (omega arith) (omega (arith, less)))

zero_number : (m : Memory) (word count i : ℕ) → i < count → AreZero m word count → HoldsWord m (word + i) (pos 0)
zero_number m word count i less zeros = record {
  is = zero_word m word count i less zeros;
  bytes = λ j byte few there.
      let zero_there = zeros (word_place (word + i) + j) (omega arith) (omega (arith, less, few)) in
      let same : 0 ≡ byte = cc (zero_there, there) in
      omega (arith, same);
}

pub zero_scalars_are_kept : ZeroScalarsAreKept
zero_scalars_are_kept g word m kind type range zeros =
    subst (λ (w : ℕ). HoldsWord m w (pos 0)) (omega arith) (zero_number m word 1 0 (omega arith) zeros)

repeated : (size i : ℕ) (v : ℤ) → item_at i (replicate size (pos 0)) ≡ Some v → (pos 0 ≡ v) × (i < size)
repeated zero i v is = absurd (cc)
repeated (suc n) zero v is = (cc, omega arith)
repeated (suc n) (suc i) v is = let rest = repeated n i v is in let less = rest.1 in (rest.0, omega (arith, less))

zero_array_kept : (type : ValueType) (word size : ℕ) (m : Memory) → AreZero m word (words_for type size)
    → HoldsArray type m word (replicate size (pos 0))
zero_array_kept value_type.Int word size m zeros = λ i v is.
    let same = repeated size i v is in
    subst (HoldsWord m (word + i)) same.0 (zero_number m word size i same.1 zeros)
zero_array_kept value_type.Byte word size m zeros = λ i v is.
    let same = repeated size i v is in
    let less = same.1 in
    (0, sym same.0, zeros (word_place word + i) (omega arith) (omega (arith, less)), omega arith)

pub zero_arrays_are_kept : ZeroArraysAreKept
zero_arrays_are_kept g word size m kind type range zeros = zero_array_kept type word size m zeros
