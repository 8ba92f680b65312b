-- What names hold is found in their homes, and memory carries the environment that a store leaves.
use Rattle.std.specs.Prelude.{◌≡◌, ℕ, ◌+◌, ◌<◌, ◌≤◌, ℤ, pos, FitsSigned, List, Option, Some, slice_get}
use Rattle.std.specs.Int.{w32}
use Rattle.machine_state.specs.Memory.{Memory, with_byte}
use Rattle.occam_parser.specs.declared.tree.ValueType.{ValueType}
use Rattle.occam_parser.specs.declared.tree.ValueType.TheVariants as value_type
use Rattle.scalar_ranges.specs.declared.scope.ScalarKind.{ScalarKind}
use Rattle.scalar_ranges.specs.declared.scope.ArrayKind.{ArrayKind}
use Rattle.word_arithmetic.specs.Range.{Ends}
use Rattle.scalar_ranges.specs.Entries.{Meaning, Scalar, Array, Entry, meaning_in, number_in}
use Rattle.scalar_ranges.specs.Environments.{Held, One, Many, Environment, held_in, Meets}
use Rattle.scalar_ranges.specs.MoveLaws.{put, meaning_at, shape}
use Rattle.program_meaning.specs.Storing.{element_set}
use Rattle.line_pieces.specs.Homes.{Home, Word, Block, home_of}
use Rattle.placed_code.specs.StraightPieces.{word_place}
use Rattle.meant_lines.specs.Words.{ChangesWithin, with_frame_word}
use Rattle.meant_lines.specs.Carrying.{Ground, IsKeptThere, AreKept, Rise, IsInside, AreInside, end_of, words_held}
use Rattle.meant_lines.specs.Carrying.{Carries}

-- what a name holds is in the home that code finds for it
abbrev pub NamesAreKept : Type 0
NamesAreKept = (g : Ground) (m : Memory) (es : List Entry) (env : Environment) (name : List ℕ) (k : Meaning)
    → Meets env es → AreKept g m es env → meaning_in name es ≡ Some k
    → IsKeptThere g m (home_of g.homes es name) k (held_in name env)

abbrev pub HomesEndBefore : Type 0
HomesEndBefore = (hs : List Home) (es : List Entry) (top : ℕ) (name : List ℕ) (k : Meaning) → Rise hs es top
    → meaning_in name es ≡ Some k → end_of (home_of hs es name) k ≤ top

abbrev pub HomesAreInside : Type 0
HomesAreInside = (words : ℕ) (hs : List Home) (es : List Entry) (name : List ℕ) (k : Meaning) → AreInside words hs es
    → meaning_in name es ≡ Some k → IsInside words (home_of hs es name) k

-- what code leaves from the first word on that is free
abbrev pub OuterWordsStay : Type 0
OuterWordsStay = (g : Ground) (top first end : ℕ) (es : List Entry) (env : Environment) (old new : Memory)
    → Meets env es → top ≤ first → end ≤ g.words → ChangesWithin first end old new → Carries g top es env old
    → Carries g top es env new

-- these words are some of those of a home
abbrev pub IsPartOf : Option Home → Meaning → (first end : ℕ) → Type 0
IsPartOf (Some (Word w)) k first end = (w ≤ first) × (end ≤ w + words_held k)
IsPartOf (Some (Block w head)) k first end = (w ≤ first) × (end ≤ w + 2)
IsPartOf h k first end = ⊥

-- Where words of one home change, memory carries the environment in which its name holds what is there.
abbrev pub OneNameChanges : Type 0
OneNameChanges = (g : Ground) (top first end n : ℕ) (es : List Entry) (env : Environment) (k : Meaning) (held : Held)
    (old new : Memory) → Meets env es → meaning_at n es ≡ Some k → IsPartOf (slice_get g.homes n) k first end
    → ChangesWithin first end old new → IsKeptThere g new (slice_get g.homes n) k held → Carries g top es env old
    → Carries g top es (put n held env) new

-- a scalar is stored in its word
abbrev pub ScalarsAreCarried : Type 0
ScalarsAreCarried = (g : Ground) (top n w : ℕ) (es : List Entry) (env : Environment) (name : List ℕ)
    (kind : ScalarKind) (type : ValueType) (range : Ends) (v : ℤ) (m : Memory) → Meets env es
    → meaning_in name es ≡ Some (Scalar kind type range) → number_in name es ≡ Some n
    → home_of g.homes es name ≡ Some (Word w) → FitsSigned w32 v → Carries g top es env m
    → Carries g top es (put n (One v) env) (with_frame_word w v m)

-- an element of an INT array in its word
abbrev pub ElementsAreCarried : Type 0
ElementsAreCarried = (g : Ground) (top n w i : ℕ) (es : List Entry) (env : Environment) (name : List ℕ)
    (kind : ArrayKind) (size : Option ℕ) (range : Ends) (v : ℤ) (vs ws : List ℤ) (m : Memory) → Meets env es
    → meaning_in name es ≡ Some (Array kind value_type.Int size range) → number_in name es ≡ Some n
    → home_of g.homes es name ≡ Some (Word w) → held_in name env ≡ Many vs → element_set (pos i) v vs ≡ Some ws
    → FitsSigned w32 v → Carries g top es env m
    → Carries g top es (put n (Many ws) env) (with_frame_word (w + i) v m)

-- and one of a BYTE array in its byte
abbrev pub BytesAreCarried : Type 0
BytesAreCarried = (g : Ground) (top n w i b : ℕ) (es : List Entry) (env : Environment) (name : List ℕ)
    (kind : ArrayKind) (size : Option ℕ) (range : Ends) (vs ws : List ℤ) (m : Memory) → Meets env es
    → meaning_in name es ≡ Some (Array kind value_type.Byte size range) → number_in name es ≡ Some n
    → home_of g.homes es name ≡ Some (Word w) → held_in name env ≡ Many vs → element_set (pos i) (pos b) vs ≡ Some ws
    → b < 256 → Carries g top es env m
    → Carries g top es (put n (Many ws) env) (with_byte m (word_place w + i) (Some b))

-- what is known of ranges does not matter
abbrev pub SameShapesCarry : Type 0
SameShapesCarry = (g : Ground) (top : ℕ) (es ds : List Entry) (env : Environment) (m : Memory) → shape es ≡ shape ds
    → Carries g top es env m → Carries g top ds env m
