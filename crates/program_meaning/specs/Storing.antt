-- What names hold: what declarations declare, and what is stored in variables.
use Rattle.std.specs.Prelude.{ℕ, zero, suc, ℤ, pos, negsuc, int_le, unsigned_abs, List, [], ◌∷◌, length, map, replicate}
use Rattle.std.specs.Prelude.{bytes_eq, if◌then◌else◌, Option, Some, None, option_map, option_and_then}
use Rattle.occam_parser.specs.Expressions.{Expression}
use Rattle.occam_parser.specs.OneOrMore.{as_list}
use Rattle.occam_parser.specs.Lines.{Place, Value, Scalar, Table, Bytes, Declaration, Constants, Variables, Channels}
use Rattle.scalar_ranges.specs.Environments.{Held, Nothing, One, Many, Environment, held_in}
use Rattle.scalar_ranges.specs.MoveLaws.{put}
use Rattle.scalar_ranges.specs.Steps.{both_some}
use Rattle.scalar_ranges.specs.Values.{number_of}

abbrev pub bind : List ℕ → Held → Environment → Environment
bind name held env = record { name = name; held = held } ∷ env

abbrev pub bind_all : List (List ℕ) → Held → Environment → Environment
bind_all [] held env = env
bind_all (name ∷ names) held env = bind_all names held (bind name held env)

-- the number of the innermost declaration of a name, counted from the outermost one
abbrev pub number_held : List ℕ → Environment → Option ℕ
number_held name [] = None
number_held name (b ∷ bs) = if bytes_eq b.name name then Some (length bs) else number_held name bs

-- ---- declarations

-- the numbers of all the expressions, if each has one
abbrev pub numbers_of : Environment → List Expression → Option (List ℤ)
numbers_of env [] = Some []
numbers_of env (e ∷ es) = both_some (number_of env e) (numbers_of env es) (λ v vs. Some (v ∷ vs))

-- what the name of a constant holds
abbrev pub held_by : Environment → Value → Option Held
held_by env (Scalar e) = option_map One (number_of env e)
held_by env (Table size items) = option_map Many (numbers_of env (as_list items))
held_by env (Bytes size bytes) = Some (Many (map pos bytes))

-- an array has one element at least, and each is 0 at its declaration
abbrev pub zeros : ℤ → Option Held
zeros size = if int_le (pos 1) size then Some (Many (replicate (unsigned_abs size) (pos 0))) else None

-- what a variable holds at its declaration, or an array if there is a size
abbrev pub zero_for : Environment → Option Expression → Option Held
zero_for env None = Some (One (pos 0))
zero_for env (Some size) = option_and_then zeros (number_of env size)

-- The names of a declaration are bound, if what it says has a value.
abbrev pub declare : Declaration → Environment → Option Environment
declare (Constants c) env = option_map (λ held. bind c.name held env) (held_by env c.value)
declare (Variables n) env = option_map (λ held. bind_all (as_list n.names) held env) (zero_for env n.size)
declare (Channels n) env = Some (bind_all (as_list n.names) Nothing env)

-- ---- variables

abbrev pub item_set : ℕ → ℤ → List ℤ → Option (List ℤ)
item_set i v [] = None
item_set zero v (w ∷ ws) = Some (v ∷ ws)
item_set (suc i) v (w ∷ ws) = option_map (λ rest. w ∷ rest) (item_set i v ws)

abbrev pub element_set : ℤ → ℤ → List ℤ → Option (List ℤ)
element_set (pos i) v ws = item_set i v ws
element_set (negsuc i) v ws = None

-- what a name holds after a number was stored in it
abbrev pub one_stored : Held → ℤ → Option Held
one_stored (One before) v = Some (One v)
one_stored held v = None

-- what a name holds after a number was stored in its element with this subscript
abbrev pub element_stored : Held → ℤ → ℤ → Option Held
element_stored (Many vs) i v = option_map Many (element_set i v vs)
element_stored held i v = None

abbrev pub held_after : Environment → Place → ℤ → Option Held
held_after env p v = elim p.subscript [
  | None ↦ one_stored (held_in p.name env) v
  | Some e ↦ option_and_then (λ i. element_stored (held_in p.name env) i v) (number_of env e)
]

-- A number is stored in a variable, or in an element of an array.
abbrev pub stored : Environment → Place → ℤ → Option Environment
stored env p v = both_some (number_held p.name env) (held_after env p v) (λ n held. Some (put n held env))
