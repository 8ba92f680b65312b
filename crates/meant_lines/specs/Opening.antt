-- Memory carries an environment where a scope opens, and still where it is left.
use Rattle.std.specs.Prelude.{◌≡◌, ℕ, ◌+◌, ◌≤◌, ℤ, nat_eq, if◌then◌else◌, true, List, [], ◌∷◌, ◌++◌, length, Some}
use Rattle.machine_state.specs.Memory.{Memory}
use Rattle.occam_parser.specs.declared.tree.ValueType.{ValueType}
use Rattle.occam_parser.specs.Lines.{Declaration}
use Rattle.occam_parser.specs.Words.{declaration_has_words}
use Rattle.scalar_ranges.specs.declared.scope.ScalarKind.{ScalarKind}
use Rattle.scalar_ranges.specs.Entries.{Meaning, Scalar, Entry}
use Rattle.scalar_ranges.specs.Environments.{Held, One, Environment, Meets}
use Rattle.scalar_ranges.specs.MoveLaws.{shape}
use Rattle.scalar_ranges.specs.Moves.{outermost}
use Rattle.word_arithmetic.specs.Range.{Ends}
use Rattle.program_uses.specs.Declaring.{add, add_declaration}
use Rattle.program_meaning.specs.Declarations.{IsKnownDeclaration}
use Rattle.program_meaning.specs.GoingWell.{IsTrueIn}
use Rattle.program_meaning.specs.Storing.{bind, declare}
use Rattle.code_pieces.specs.declared.words.TheConstants.{GREATEST_WORD}
use Rattle.line_pieces.specs.Homes.{Home, Block}
use Rattle.line_pieces.specs.Declarations.{Frame, declared, declaration_code}
use Rattle.placed_code.specs.StraightPieces as pieces
use Rattle.placed_code.specs.StraightPieces.{LeadOn}
use Rattle.meant_lines.specs.Words.{Holds, ChangesWithin}
use Rattle.meant_lines.specs.Carrying.{Ground, HasTables, IsKept, start_of, end_of, Rise, AreInside, HasFrame}
use Rattle.meant_lines.specs.Carrying.{Carries}
use Rattle.meant_lines.specs.Declaring.{with_home_there}
use Rattle.meant_lines.specs.Pushing.{AllStandOn}

-- the same ground, with the homes of a frame
abbrev pub on_frame : Frame → Ground → Ground
on_frame f g = record g { homes = f.homes }

-- ---- where a module begins

-- Memory that has the tables carries the environment that has no name yet.
abbrev pub BeginningsAreCarried : Type 0
BeginningsAreCarried = (g : Ground) (m : Memory) → HasFrame g m → HasTables g m → Carries g 0 [] [] m

-- A name that has no word there, as a procedure, a link or the index of an `IF`, is carried with what it holds.
abbrev pub WordlessNamesAreCarried : Type 0
WordlessNamesAreCarried = (g : Ground) (top : ℕ) (es : List Entry) (env : Environment) (name : List ℕ) (k : Meaning)
    (held : Held) (h : Home) (m : Memory) → Meets env es → length g.homes ≡ length es → end_of (Some h) k ≡ 0
    → start_of (Some h) top ≡ top → IsKept g m h k held → Carries g top es env m
    → Carries (with_home_there h g) top (add name k es) (bind name held env) m

-- ---- declarations

-- The code of a declaration leads to where memory carries the environment with its names. Words before them have not
-- changed.
pub record Opened (g : Ground) (f : Frame) (es : List Entry) (d : Declaration) (inner : Environment)
    (before : pieces.Held) : Type 0 where
  pub after : pieces.Held
  pub leads : LeadOn g.footing (declaration_code es d f.top) before after
  pub carries : Carries (on_frame (declared es d f) g) (declared es d f).top (add_declaration d es) inner after.memory
  pub changes : ChangesWithin f.top g.words before.memory after.memory

abbrev pub DeclarationsAreCarried : Type 0
DeclarationsAreCarried = (g : Ground) (f : Frame) (es : List Entry) (env inner : Environment) (d : Declaration)
    (h : pieces.Held) → IsTrueIn es env → IsKnownDeclaration es d → declaration_has_words d ≡ true → declare d env ≡ Some inner
    → length f.homes ≡ length es → AllStandOn g (declaration_code es d f.top)
    → Carries (on_frame f g) f.top es env h.memory → Opened g f es d inner h

-- ---- blocks of loops

-- the ground in the body of a loop: a block is at this word, with so many turns left
abbrev pub with_turns : (word head : ℕ) → ℤ → Ground → Ground
with_turns word head n g = record g {
  homes = g.homes ++ Block word head ∷ [];
  turns = λ w. if nat_eq w word then n else g.turns w;
}

-- Where the block's words hold an index and the turns that are left, memory carries the environment with the index.
abbrev pub BlocksAreCarried : Type 0
BlocksAreCarried = (g : Ground) (top head : ℕ) (es : List Entry) (env : Environment) (name : List ℕ)
    (kind : ScalarKind) (type : ValueType) (range : Ends) (i n : ℤ) (old new : Memory) → Meets env es
    → length g.homes ≡ length es → top + 2 ≤ g.words → ChangesWithin top g.words old new → Holds new top i
    → Holds new (top + 1) n → Carries g top es env old
    → Carries (with_turns top head n g) (top + 2) (add name (Scalar kind type range) es) (bind name (One i) env) new

-- ---- scopes that are left

-- The outermost names are still carried where more homes are behind theirs, whatever is known of their ranges.
abbrev pub OutermostAreCarried : Type 0
OutermostAreCarried = (g : Ground) (more : List Home) (top inner : ℕ) (es ds : List Entry) (env : Environment)
    (m : Memory) → top ≤ GREATEST_WORD → AreInside g.words g.homes ds → Rise g.homes ds top
    → shape (outermost (length g.homes) es) ≡ shape ds
    → Carries (record g { homes = g.homes ++ more }) inner es env m
    → Carries g top ds (outermost (length g.homes) env) m

-- and so where a block inside has other turns
abbrev pub OtherTurnsAreCarried : Type 0
OtherTurnsAreCarried = (g : Ground) (top word : ℕ) (n : ℤ) (es : List Entry) (env : Environment) (m : Memory)
    → top ≤ word → Carries (record g { turns = λ w. if nat_eq w word then n else g.turns w }) top es env m
    → Carries g top es env m
