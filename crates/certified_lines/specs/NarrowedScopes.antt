-- What a scope says is known once it is narrowed, where of the word of one of its scalars more is known.
use Rattle.std.specs.Prelude.{◌≡◌, ℕ, ℤ, pos, ◌+◌, ◌<◌, Bool, true, false, List, [], ◌∷◌, length, bytes_eq, Option}
use Rattle.std.specs.Prelude.{Some}
use Rattle.std.specs.Prelude.{None, slice_get, Ok}
use Rattle.word_arithmetic.specs.Range.{Ends}
use Rattle.occam_parser.specs.declared.tree.ValueType.{ValueType}
use Rattle.occam_parser.specs.Expressions.{Expression}
use Rattle.occam_parser.specs.Words.{has_words}
use Rattle.states.specs.declared.known.WordFact.TheVariants.{Alone}
use Rattle.states.specs.State.{Facts, is_at, is_parted}
use Rattle.local_rules.specs.WordRules.{number_in}
use Rattle.module_format.specs.declared.limits.TheConstants.{MAX_DATA_WORDS}
use Rattle.code_pieces.specs.Pieces.{stores}
use Rattle.certified_lines.specs.Instructions.{MayWrite}
use Rattle.scalar_ranges.specs.declared.scope.ScalarKind.{ScalarKind}
use Rattle.scalar_ranges.specs.declared.types.ExprType.{ExprType}
use Rattle.scalar_ranges.specs.Bounds.{Bound, bound_of}
use Rattle.scalar_ranges.specs.Entries.{Meaning, Scalar, Array, Entry, meaning_in}
use Rattle.scalar_ranges.specs.Narrowing.{Tested, test_of, changed, narrow}
use Rattle.scalar_ranges.specs.Types.{type_of}
use Rattle.line_pieces.specs.Homes.{Home, Word, Block, home_of, words_for}
use Rattle.line_pieces.specs.Expressions.{expression_code}
use Rattle.certified_lines.specs.StraightRules.{Told, FallOn}
use Rattle.certified_lines.specs.Scopes.{Scene, EachNameHas, HoldsScope, IsScope}
use Rattle.certified_lines.specs.TestLaws.{Tests, where_it}

-- no word of the home is this one
abbrev pub IsBeside : ℕ → Home → Meaning → Type 0
IsBeside w (Word v) (Scalar kind type range) = v ≡ w → ⊥
IsBeside w (Block v head) (Scalar kind type range) = (v ≡ w → ⊥) × (v + 1 ≡ w → ⊥)
IsBeside w (Word v) (Array kind type (Some size) range) = (n : ℕ) → n < words_for type size → v + n ≡ w → ⊥
IsBeside w h m = Unit {0}

abbrev pub IsBesideThere : ℕ → Option Home → Meaning → Type 0
IsBesideThere w None m = Unit {0}
IsBesideThere w (Some h) m = IsBeside w h m

-- of no other name, hidden or not
abbrev pub AreBeside : List Home → ℕ → List ℕ → List Entry → Type 0
AreBeside hs w name [] = Unit {0}
AreBeside hs w name (e ∷ es) = elim (bytes_eq e.name name) as (λ b. Type 0) [
  | true ↦ EachNameHas (IsBesideThere w) hs es
  | false ↦ IsBesideThere w (slice_get hs (length es)) e.meaning × AreBeside hs w name es
]

-- Of one word it is known that it is a number in this range, and of others what was known, but for one in a loop with it.
pub record OneWordBecomes (w : ℕ) (r : Ends) (old new : Facts) : Type 0 where
  pub there : new (pos w) ≡ Alone (number_in r)
  pub others : (k : ℤ) → (k ≡ pos w → ⊥) → is_parted (is_at (pos w)) k (old k) ≡ false → new k ≡ old k

-- Where of the word of a scalar another range is known, a scope is held in which the scalar has that one.
abbrev pub ChangedScopesHold : Type 0
ChangedScopesHold = (g : Scene) (es : List Entry) (name : List ℕ) (w : ℕ) (kind : ScalarKind) (type : ValueType)
    (range : Ends) (f : Ends → Ends) (old new : Facts) → meaning_in name es ≡ Some (Scalar kind type range)
    → home_of g.homes es name ≡ Some (Word w) → AreBeside g.homes w name es → HoldsScope g es old
    → OneWordBecomes w (f range) old new → HoldsScope g (changed f name es) new

-- So a scope is held in which a scalar has the range of what is stored in its word.
abbrev pub StoredScalarsAreHeld : Type 0
StoredScalarsAreHeld = (g : Scene) (es : List Entry) (name : List ℕ) (w : ℕ) (kind : ScalarKind) (type : ValueType)
    (range q : Ends) (before : Told) → w < MAX_DATA_WORDS → MayWrite g.setting w
    → meaning_in name es ≡ Some (Scalar kind type range) → home_of g.homes es name ≡ Some (Word w)
    → AreBeside g.homes w name es → HoldsScope g es before.frame → before.stack.a.fact ≡ number_in q
    → (after : Told) × FallOn g.setting (stores w ∷ []) before after
    × HoldsScope g (changed (λ r. q) name es) after.frame

-- So a scope is held that is narrowed by a condition, where it holds, and where it does not.
abbrev pub TestedScopesHold : Type 0
TestedScopesHold = (g : Scene) (top t w : ℕ) (es : List Entry) (e : Expression) (type : ExprType) (b : Bound)
    (test : Tested) (kind : ScalarKind) (of : ValueType) (range : Ends) (before : Told) → IsScope g top es
    → has_words e ≡ true → type_of es e ≡ Ok type → bound_of es e ≡ Ok b → test_of es e ≡ Some test
    → meaning_in test.name es ≡ Some (Scalar kind of range) → home_of g.homes es test.name ≡ Some (Word w)
    → AreBeside g.homes w test.name es → HoldsScope g es before.frame
    → (tests : Tests g.setting (expression_code g.homes es t e) w range test before)
    × ((holds : Bool) → HoldsScope g (narrow es e holds) (where_it holds tests.after))
