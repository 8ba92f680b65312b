-- Memory carries an environment with one name more.
use Rattle.std.specs.Prelude.{◌≡◌, ℕ, ◌≤◌, pos, List, [], ◌∷◌, ◌++◌, length, replicate, Some}
use Rattle.word_arithmetic.specs.Range.{Ends}
use Rattle.machine_state.specs.Memory.{Memory}
use Rattle.occam_parser.specs.declared.tree.ValueType.{ValueType}
use Rattle.scalar_ranges.specs.declared.scope.ScalarKind.{ScalarKind}
use Rattle.scalar_ranges.specs.declared.scope.ArrayKind.{ArrayKind}
use Rattle.scalar_ranges.specs.Entries.{Meaning, Scalar, Array, Entry}
use Rattle.scalar_ranges.specs.Environments.{Held, One, Many, Environment, Meets}
use Rattle.program_uses.specs.Declaring.{add}
use Rattle.program_meaning.specs.Storing.{bind}
use Rattle.code_pieces.specs.declared.words.TheConstants.{GREATEST_WORD}
use Rattle.line_pieces.specs.Homes.{Home, Word, words_for}
use Rattle.meant_lines.specs.Words.{ChangesWithin}
use Rattle.meant_lines.specs.Carrying.{Ground, IsKept, start_of, end_of, IsInside, Carries}
use Rattle.meant_lines.specs.Zeroing.{AreZero}

-- the home of one name more
abbrev pub with_home_there : Home → Ground → Ground
with_home_there h g = record g { homes = g.homes ++ h ∷ [] }

-- A name more has its home behind the others, where words from their top on have changed, and what it holds is there.
abbrev pub NewNamesAreCarried : Type 0
NewNamesAreCarried = (g : Ground) (top more : ℕ) (es : List Entry) (env : Environment) (name : List ℕ) (k : Meaning)
    (held : Held) (h : Home) (old new : Memory) → Meets env es → length g.homes ≡ length es
    → end_of (Some h) k ≤ more → top ≤ start_of (Some h) more → more ≤ GREATEST_WORD → IsInside g.words (Some h) k
    → ChangesWithin top g.words old new → IsKept g new h k held → Carries g top es env old
    → Carries (with_home_there h g) more (add name k es) (bind name held env) new

-- a word that is 0 is that of a scalar
abbrev pub ZeroScalarsAreKept : Type 0
ZeroScalarsAreKept = (g : Ground) (word : ℕ) (m : Memory) (kind : ScalarKind) (type : ValueType) (range : Ends)
    → AreZero m word 1 → IsKept g m (Word word) (Scalar kind type range) (One (pos 0))

-- and words that are 0 are those of an array
abbrev pub ZeroArraysAreKept : Type 0
ZeroArraysAreKept = (g : Ground) (word size : ℕ) (m : Memory) (kind : ArrayKind) (type : ValueType) (range : Ends)
    → AreZero m word (words_for type size)
    → IsKept g m (Word word) (Array kind type (Some size) range) (Many (replicate size (pos 0)))
