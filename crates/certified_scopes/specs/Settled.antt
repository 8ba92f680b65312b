-- What a scope has whatever is known of words, at each place: its words are in turn and may be read, and its ranges are
-- of words.
use Rattle.std.specs.Prelude.{◌≡◌, ⊤, ℕ, ◌≤◌, ℤ, pos, ◌≤ℤ◌, true, List, [], ◌∷◌, ◌++◌, length, Option, Some}
use Rattle.std.specs.List.{AllByRecursion}
use Rattle.word_arithmetic.specs.Range.{Ends, IsRange}
use Rattle.word_arithmetic.specs.Word.{greatest_word, is_word}
use Rattle.states.specs.State.{Facts}
use Rattle.occam_parser.specs.declared.tree.ValueType.{ValueType}
use Rattle.occam_parser.specs.Lines.{Declaration, Formal}
use Rattle.scalar_ranges.specs.declared.scope.ScalarKind.TheVariants as kinds
use Rattle.scalar_ranges.specs.Entries.{Meaning, Scalar, Array, Entry}
use Rattle.scalar_ranges.specs.MoveLaws.{shape}
use Rattle.program_uses.specs.Declaring.{add, add_declaration, add_formals}
use Rattle.program_uses.specs.Indices.{is_count, index_range}
use Rattle.usage_checks.specs.Holding.{DeclarationHolds}
use Rattle.usage_checks.specs.MainRules.{are_links}
use Rattle.usage_checks.specs.TypedRanges.{AreInTypes}
use Rattle.code_pieces.specs.Pieces.{stores, word_after}
use Rattle.code_pieces.specs.Tables.{lowest, highest}
use Rattle.placed_code.specs.TablesInMemory.{ReadsTable}
use Rattle.line_pieces.specs.Homes as home
use Rattle.line_pieces.specs.Homes.{Home, Nowhere, Block, Link, count_in}
use Rattle.line_pieces.specs.Declarations.{Frame, with_home, with_block, declared, declaration_code}
use Rattle.certified_lines.specs.Instructions.{MayRead}
use Rattle.certified_lines.specs.Scopes.{Scene, EachNameHas, HasTurns, HasTable, IsHoused, IsScope, HoldsScope}
use Rattle.certified_lines.specs.Telling.{IsAllowed, AreAllowed}
use Rattle.certified_scopes.specs.Beside.{AreInTurn}
use Rattle.certified_scopes.specs.Kept.{at_homes}
use Rattle.certified_scopes.specs.Within.{indices_of}

-- ---- the whole module

-- the least range with some values
abbrev pub range_of_values : ℤ → List ℤ → Ends
range_of_values v vs = record { lo = lowest v vs; hi = highest v vs }

-- What the whole module has. Words may be read that are before one that may be. Each table that pieces read lies in the
-- constants, where its row says the least and the greatest of its values.
pub record IsFounded (g : Scene) : Type 0 where
  pub lower : (v w : ℕ) → v ≤ w → MayRead g.setting w → MayRead g.setting v
  pub tables : (v : ℤ) (vs : List ℤ) → ReadsTable g.pieces (v ∷ vs)
      → HasTable g.setting (v ∷ vs) (range_of_values v vs)

-- ---- scopes

-- The first end of a range is not the greater one.
abbrev pub IsOrdered : Meaning → Type 0
IsOrdered (Scalar kind type range) = range.lo ≤ℤ range.hi
IsOrdered (Array kind type size range) = range.lo ≤ℤ range.hi
IsOrdered m = ⊤

abbrev pub AreOrdered : List Entry → Type 0
AreOrdered [] = ⊤
AreOrdered (e ∷ es) = IsOrdered e.meaning × AreOrdered es

-- The block of a loop is that of an index.
abbrev pub IsOfIndex : Option Home → Meaning → Type 0
IsOfIndex (Some (Block w head)) (Scalar kinds.Index type range) = ⊤
IsOfIndex (Some (Block w head)) m = ⊥
IsOfIndex h m = ⊤

-- Each name has its home in a frame. The words of which something is known end before one that is free.
pub record IsSettled (g : Scene) (f : Frame) (es : List Entry) : Type 0 where
  pub long : length f.homes ≡ length es
  pub end : ℕ
  pub under : end ≤ f.top
  pub scope : IsScope (at_homes f.homes g) end es
  pub turn : AreInTurn f.homes es end
  pub loops : EachNameHas IsOfIndex f.homes es

-- ---- laws

-- where there is no name yet
abbrev pub BeginningsAreSettled : Type 0
BeginningsAreSettled = (g : Scene) (f : Frame) → f.homes ≡ [] → IsSettled g f []

-- it has no word of the frame
abbrev pub HasNoWord : Home → Type 0
HasNoWord Nowhere = ⊤
HasNoWord (Link number) = ⊤
HasNoWord (home.Table values) = ⊤
HasNoWord h = ⊥

-- a name more that has none, as a procedure, a link or the index of an `IF`
abbrev pub WordlessNamesAreSettled : Type 0
WordlessNamesAreSettled = (g : Scene) (f : Frame) (es : List Entry) (name : List ℕ) (k : Meaning) (h : Home)
    → HasNoWord h → ((top : ℕ) → IsHoused g top h k) → IsSettled g f es
    → IsSettled g (with_home h f) (add name k es)

-- So are the formals of main, each of which is a link.
abbrev pub LinksAreSettled : Type 0
LinksAreSettled = (g : Scene) (f : Frame) (es outer : List Entry) (fs : List Formal) (hs : List Home)
    → length hs ≡ length fs → AllByRecursion HasNoWord hs → are_links fs ≡ true → IsSettled g f es
    → IsSettled g (record f { homes = f.homes ++ hs }) (add_formals outer fs es)

-- The names of a declaration, whose code is allowed.
abbrev pub DeclarationsAreSettled : Type 0
DeclarationsAreSettled = (g : Scene) (f : Frame) (es : List Entry) (d : Declaration) → IsFounded g
    → DeclarationHolds es d → AreInTypes (add_declaration d es) → AreOrdered (add_declaration d es)
    → AreAllowed g (declaration_code es d f.top) → IsSettled g f es
    → IsSettled g (declared es d f) (add_declaration d es)

-- The index of a loop, whose count is stored.
abbrev pub BlocksAreSettled : Type 0
BlocksAreSettled = (g : Scene) (f : Frame) (es : List Entry) (name : List ℕ) (type : ValueType) (range : Ends)
    (head : ℕ) → IsFounded g → IsAllowed g (stores (word_after f.top 1)) → IsRange range → HasTurns range
    → IsSettled g f es → IsSettled g (with_block head f) (add name (Scalar kinds.Index type range) es)

-- The same names, of other ranges, but for those of indices.
abbrev pub MovedScopesAreSettled : Type 0
MovedScopesAreSettled = (g : Scene) (f : Frame) (ds es : List Entry) → shape ds ≡ shape es
    → indices_of ds ≡ indices_of es → AreInTypes ds → AreOrdered ds → IsSettled g f es → IsSettled g f ds

-- The range of the index of a loop, by a base and a count from 1 on, which are words: so many turns are counted.
abbrev pub IndicesHaveTurns : Type 0
IndicesHaveTurns = (base count : ℤ) → is_word base ≡ true → is_count base count ≡ true → count ≤ℤ greatest_word
    → IsRange (index_range (Some base) (Some count)) × HasTurns (index_range (Some base) (Some count))
    × (pos (count_in (index_range (Some base) (Some count))) ≡ count)

-- Where homes have no words, a scope is held whatever is known of words.
abbrev pub BareScopesAreHeld : Type 0
BareScopesAreHeld = (g : Scene) (es : List Entry) (f : Facts) → length es ≤ length g.homes
    → AllByRecursion HasNoWord g.homes → HoldsScope g es f
