-- What a scope knows of words implies the row of another one, and what a row tells of words is what its scope says.
use Rattle.std.specs.Prelude.{◌≡◌, ℕ, ◌≤◌, List, [], ◌∷◌, ◌++◌, length}
use Rattle.word_arithmetic.specs.Range.{Ends}
use Rattle.states.specs.State.{Facts}
use Rattle.occam_parser.specs.declared.tree.ValueType.{ValueType}
use Rattle.scalar_ranges.specs.declared.scope.ScalarKind.TheVariants as kinds
use Rattle.scalar_ranges.specs.Entries.{Scalar, Entry}
use Rattle.program_uses.specs.Declaring.{add}
use Rattle.line_pieces.specs.Homes.{Block, count_in, facts_of}
use Rattle.certified_lines.specs.Scopes.{Scene, EachNameHas, HoldsScope}
use Rattle.certified_modules.specs.RowsSay.{facts_said, Implies, AreConstants, Enters}
use Rattle.certified_scopes.specs.Beside.{AreInTurn}
use Rattle.certified_scopes.specs.Settled.{IsOfIndex}
use Rattle.certified_scopes.specs.Within.{LieWithin}

-- Where a scope is held that lies within another one, the row of that one is implied.
abbrev pub ScopesImplyRows : Type 0
ScopesImplyRows = (g : Scene) (ds es : List Entry) (f : Facts) → EachNameHas IsOfIndex g.homes es → LieWithin ds es
    → HoldsScope g ds f → Implies g.weights f (facts_of g.homes es)

-- So the row at the head of a loop is entered, which says the block besides, where the block's words are the base and
-- the count.
abbrev pub ScopesEnterLoops : Type 0
ScopesEnterLoops = (g : Scene) (ds es : List Entry) (name : List ℕ) (type : ValueType) (range : Ends) (w head : ℕ)
    (f : Facts) → length g.homes ≡ length es → EachNameHas IsOfIndex g.homes es → LieWithin ds es → HoldsScope g ds f
    → AreConstants f w range.lo (count_in range)
    → Enters g.weights f head (count_in range)
    (facts_of (g.homes ++ Block w head ∷ []) (add name (Scalar kinds.Index type range) es))

-- What a row tells of words is what its scope says, if the words of its names are in turn.
abbrev pub RowsTellScopes : Type 0
RowsTellScopes = (g : Scene) (es : List Entry) (top : ℕ) → length es ≤ length g.homes → AreInTurn g.homes es top
    → HoldsScope g es (facts_said g.weights (facts_of g.homes es))
