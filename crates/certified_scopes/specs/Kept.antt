-- What is known of the words of a scope as names come and go.
use Rattle.std.specs.Prelude.{◌≡◌, ⊤, ℕ, ◌+◌, ◌<◌, ◌≤◌, pos, List, [], ◌∷◌, ◌++◌, length, Option, Some, None}
use Rattle.word_arithmetic.specs.Range.{Ends, constant, full}
use Rattle.module_format.specs.declared.limits.TheConstants.{MAX_DATA_WORDS}
use Rattle.states.specs.declared.known.WordFact.TheVariants.{Index, Count}
use Rattle.states.specs.State.{State, Facts}
use Rattle.local_rules.specs.declared.loops.Block.{Block}
use Rattle.local_rules.specs.LoopRules.{after_loop}
use Rattle.occam_parser.specs.declared.tree.ValueType.{ValueType}
use Rattle.occam_parser.specs.Expressions.{Expression}
use Rattle.occam_parser.specs.Lines.{Declaration, Variables}
use Rattle.scalar_ranges.specs.declared.scope.ScalarKind.{ScalarKind}
use Rattle.scalar_ranges.specs.Entries.{Meaning, Scalar, Entry}
use Rattle.scalar_ranges.specs.Moves.{outermost}
use Rattle.program_uses.specs.Declaring.{add, add_declaration}
use Rattle.line_pieces.specs.Homes as home
use Rattle.line_pieces.specs.Homes.{Home}
use Rattle.line_pieces.specs.Declarations.{Frame, declared}
use Rattle.certified_lines.specs.Scopes.{Scene, IsNumber, loop_of, AreKnown, HoldsScope, IsScope}
use Rattle.certified_lines.specs.Telling.{StayBefore}

-- the scene with these homes
abbrev pub at_homes : List Home → Scene → Scene
at_homes hs g = record g { homes = hs }

-- ---- one name more

-- A scope is held with a name more, of whose words that is known which it says.
abbrev pub NewNamesAreHeld : Type 0
NewNamesAreHeld = (g : Scene) (es : List Entry) (name : List ℕ) (k : Meaning) (h : Home) (f : Facts)
    → length g.homes ≡ length es → AreKnown g f h k → HoldsScope g es f
    → HoldsScope (at_homes (g.homes ++ h ∷ []) g) (add name k es) f

-- So it is with the index of a loop, whose block is at a word.
abbrev pub BlocksAreHeld : Type 0
BlocksAreHeld = (g : Scene) (es : List Entry) (name : List ℕ) (kind : ScalarKind) (type : ValueType) (range : Ends)
    (word head : ℕ) (f : Facts) → length g.homes ≡ length es → f (pos word) ≡ Index (loop_of g head range)
    → f (pos (word + 1)) ≡ Count (loop_of g head range) → HoldsScope g es f
    → HoldsScope (at_homes (g.homes ++ home.Block word head ∷ []) g) (add name (Scalar kind type range) es) f

-- ---- declarations

-- these words are numbers in a range
abbrev pub AreNumbers : Facts → (first end : ℕ) → Ends → Type 0
AreNumbers f first end r = (w : ℕ) → first ≤ w → w < end → IsNumber f w r

-- Scalars are 0, and elements of arrays any numbers.
abbrev pub cleared : Option Expression → Ends
cleared None = constant (pos 0)
cleared (Some size) = full

-- so are the words that a declaration takes, these
abbrev pub AreDeclared : Declaration → Facts → (first end : ℕ) → Type 0
AreDeclared (Variables n) f first end = AreNumbers f first end (cleared n.size)
AreDeclared d f first end = ⊤

-- The words of declared variables are in a frame that a file may have.
abbrev pub HasFew : Declaration → (end : ℕ) → Type 0
HasFew (Variables n) end = end ≤ MAX_DATA_WORDS
HasFew d end = ⊤

-- Where the words before a declaration stay known, and those that it takes are so, the scope with its names is held.
abbrev pub DeclaredNamesAreHeld : Type 0
DeclaredNamesAreHeld = (g : Scene) (f : Frame) (es : List Entry) (d : Declaration) (top : ℕ) (old new : Facts)
    → length f.homes ≡ length es → IsScope (at_homes f.homes g) top es → top ≤ f.top
    → HasFew d (declared es d f).top → StayBefore f.top old new → AreDeclared d new f.top (declared es d f).top
    → HoldsScope (at_homes f.homes g) es old
    → HoldsScope (at_homes (declared es d f).homes g) (add_declaration d es) new

-- ---- loops that end

-- Behind a loop, whose block is at a word from the top on, a scope is held as before its end.
abbrev pub EndedLoopsAreHeld : Type 0
EndedLoopsAreHeld = (g : Scene) (es : List Entry) (top word : ℕ) (b : Block) (s : State) → IsScope g top es → top ≤ word
    → b.word ≡ pos word → HoldsScope g es s.frame → HoldsScope g es (after_loop b s).frame

-- ---- scopes that are left

-- The outermost names are held without the homes behind theirs.
abbrev pub LeftScopesAreHeld : Type 0
LeftScopesAreHeld = (g : Scene) (more : List Home) (es : List Entry) (f : Facts)
    → HoldsScope (at_homes (g.homes ++ more) g) es f → HoldsScope g (outermost (length g.homes) es) f
