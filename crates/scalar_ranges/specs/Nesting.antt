-- The entries and the blocks of branches at a place belong together: each block begins with the outermost entries.
use Rattle.std.specs.Prelude.{◌≡◌, ℕ, List, [], ◌∷◌, length, map, Option, Some, None}
use Rattle.std.proofs.Props.{props}
use Rattle.scalar_ranges.specs.declared.deferred.Deferred as code_deferred
use Rattle.scalar_ranges.specs.Entries.{Entry}
use Rattle.scalar_ranges.specs.Moves.{outermost, Block, end_of, ends_with}
use Rattle.scalar_ranges.specs.Environments.{Environment, Meets}
use Rattle.scalar_ranges.specs.MoveLaws.{shape}
use Rattle.scalar_ranges.specs.LeftViews.{known_now}

abbrev pub names_of : List Entry → List (List ℕ)
names_of es = map (λ e. e.name) es

-- The ends of the branches so far have the names and meanings of their beginning, but for the ranges of scalars.
abbrev pub EndsFit : List Entry → Option (List Entry) → Type 0
EndsFit start None = Unit {0}
EndsFit start (Some ends) = shape ends ≡ shape start

-- Each block begins, but for ranges, with the outermost of the entries in it, and its ends fit.
abbrev pub AreNested : List Entry → List Block → Type 0
AreNested es [] = Unit {0}
AreNested es (b ∷ bs) = (shape b.start ≡ shape (outermost (length b.start) es)) × EndsFit b.start b.ends
    × AreNested b.start bs

EndsFit-prop : (start : List Entry) (ends : Option (List Entry)) → IsProp (EndsFit start ends)
EndsFit-prop start None = hlevel props
EndsFit-prop start (Some ends) = hlevel props

pub AreNested-prop : (es : List Entry) (bs : List Block) → IsProp (AreNested es bs)
AreNested-prop es [] = hlevel props
AreNested-prop es (b ∷ bs) = hlevel (props, EndsFit-prop, AreNested-prop b.start bs)

abbrev pub FitTogether : code_deferred.Deferred → Type 0
FitTogether t = AreNested (known_now t).entries (known_now t).blocks

pub FitTogether-prop : (t : code_deferred.Deferred) → IsProp (FitTogether t)
FitTogether-prop t = AreNested-prop (known_now t).entries (known_now t).blocks

-- In nested blocks an environment that meets the end of a branch meets what is known after it.
abbrev pub NestedEndsHold : Type 0
NestedEndsHold = (es : List Entry) (b : Block) (bs : List Block) (env : Environment) → AreNested es (b ∷ bs)
    → Meets env (end_of b es) → Meets env (ends_with b.ends (end_of b es))
