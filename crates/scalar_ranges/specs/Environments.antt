-- The numbers that names have while a program runs, and when what a scope says of them is true.
use Rattle.std.specs.Prelude.{◌≡◌, ℕ, zero, suc, ℤ, pos, negsuc, List, [], ◌∷◌, length, bytes_eq, if◌then◌else◌}
use Rattle.std.specs.Prelude.{Option, Some, None}
use Rattle.std.specs.List.{AllByRecursion}
use Rattle.word_arithmetic.specs.Range.{InRange}
use Rattle.scalar_ranges.specs.Entries.{Meaning, Constant, Scalar, Array, Channel, Channels, Procedure, Entry}

-- what a name holds: one number, those of an array, or none
pub data Held : Type 0 where
  Nothing : Held
  One : (value : ℤ) → Held
  Many : (values : List ℤ) → Held

pub record Binding : Type 0 where
  pub name : List ℕ
  pub held : Held

abbrev pub Environment : Type 0
Environment = List Binding

abbrev pub held_in : List ℕ → Environment → Held
held_in name [] = Nothing
held_in name (b ∷ bs) = if bytes_eq b.name name then b.held else held_in name bs

abbrev pub one_of : Held → Option ℤ
one_of Nothing = None
one_of (One value) = Some value
one_of (Many values) = None

abbrev pub item_at : {A : Type 0} → ℕ → List A → Option A
item_at i [] = None
item_at zero (v ∷ vs) = Some v
item_at (suc i) (v ∷ vs) = item_at i vs

abbrev pub item_of : List ℤ → ℤ → Option ℤ
item_of values (pos i) = item_at i values
item_of values (negsuc i) = None

-- the element of an array
abbrev pub element_of : Held → ℤ → Option ℤ
element_of Nothing i = None
element_of (One value) i = None
element_of (Many values) i = item_of values i

-- What a name holds is as its meaning says. Nothing holds what an entry without its value or its size says.
abbrev pub IsHeld : Meaning → Held → Type 0
IsHeld (Constant type (Some value)) (One v) = v ≡ value
IsHeld (Scalar kind type range) (One v) = InRange range v
IsHeld (Array kind type (Some size) range) (Many vs) = (length vs ≡ size) × AllByRecursion (InRange range) vs
IsHeld (Channel type) Nothing = Unit {0}
IsHeld (Channels type size) Nothing = Unit {0}
IsHeld (Procedure number) Nothing = Unit {0}
IsHeld m h = ⊥

-- an environment meets a scope entry by entry
abbrev pub Meets : Environment → List Entry → Type 0
Meets [] [] = Unit {0}
Meets (b ∷ bs) (e ∷ es) = (b.name ≡ e.name) × IsHeld e.meaning b.held × Meets bs es
Meets bs es = ⊥
