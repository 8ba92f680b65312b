-- What the code of constants, of scalars and of elements leaves known, and that it leaves the words of a scope.
use Rattle.std.specs.Prelude.{◌≡◌, ℕ, ◌≤◌, Bool, List, [], ◌∷◌, ℤ, Some}
use Rattle.word_arithmetic.specs.Range as ranges
use Rattle.word_arithmetic.specs.Range.{Ends}
use Rattle.states.specs.State.{Facts}
use Rattle.occam_parser.specs.declared.tree.ValueType.{ValueType}
use Rattle.scalar_ranges.specs.declared.scope.ScalarKind.{ScalarKind}
use Rattle.scalar_ranges.specs.Entries.{Scalar, Entry, meaning_in}
use Rattle.code_pieces.specs.Pieces.{constant}
use Rattle.line_pieces.specs.Homes.{home_of}
use Rattle.line_pieces.specs.Expressions.{scalar_code}
use Rattle.certified_lines.specs.StraightRules.{Setting, Told}
use Rattle.certified_lines.specs.Scopes.{Scene, HoldsScope, IsScope}
use Rattle.certified_lines.specs.Telling.{StayBefore, PushedFact, PushesFact}

-- What a scope says of words is known as long as the words before the first one stay that is free.
abbrev pub ScopesStay : Type 0
ScopesStay = (g : Scene) (top t : ℕ) (es : List Entry) (old new : Facts) → IsScope g top es → top ≤ t
    → StayBefore t old new → HoldsScope g es old → HoldsScope g es new

-- a constant is that number alone
abbrev pub ConstantsTell : Type 0
ConstantsTell = (g : Setting) (t : ℕ) (leaf small : Bool) (v : ℤ) (s : Told)
    → PushedFact g (constant v ∷ []) t leaf small (ranges.constant v) s

-- a scalar has the range that the scope says
abbrev pub ScalarsTell : Type 0
ScalarsTell = (g : Scene) (top t : ℕ) (es : List Entry) (name : List ℕ) (kind : ScalarKind) (type : ValueType)
    (range : Ends) (reference leaf small : Bool) → IsScope g top es
    → meaning_in name es ≡ Some (Scalar kind type range)
    → PushesFact g.setting (HoldsScope g es) (scalar_code reference (home_of g.homes es name)) t leaf small range
