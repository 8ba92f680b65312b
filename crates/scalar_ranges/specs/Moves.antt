-- What becomes known where a program goes on: each move from what was known before it.
use Rattle.std.specs.Prelude.{ℕ, Bool, true, false, List, [], ◌∷◌, length, nat_eq, nat_lt, if◌then◌else◌, Option, Some}
use Rattle.std.specs.Prelude.{None, unwrap_or, option_map, ℤ, pos, max}
use Rattle.word_arithmetic.specs.Range.{Ends, constant, hull}
use Rattle.occam_parser.specs.declared.tree.ValueType.{ValueType}
use Rattle.occam_parser.specs.declared.tree.ValueType.TheVariants as value_type
use Rattle.occam_parser.specs.Expressions.{Expression}
use Rattle.scalar_ranges.specs.declared.scope.ScalarKind.TheVariants as kinds
use Rattle.scalar_ranges.specs.Entries.{Meaning, Constant, Scalar, Entry, type_range, number_in}
use Rattle.scalar_ranges.specs.Narrowing.{Tested, test_of, opposite, left_of, with_range}

-- ---- names

-- a variable that a line declares: it is 0
abbrev pub variable : List ℕ → ValueType → Entry
variable name type = record { name = name; meaning = Scalar kinds.Variable type (constant (pos 0)) }

-- The replicator of a PAR, an IF or an ALT is a constant. It has no value where its declaration breaks a rule.
abbrev pub constant_index : List ℕ → Option ℤ → Entry
constant_index name value = record { name = name; meaning = Constant value_type.Int value }

-- the replicator of a SEQ, by the range of its values
abbrev pub index : List ℕ → Ends → Entry
index name range = record { name = name; meaning = Scalar kinds.Index value_type.Int range }

-- The outermost entries, as many as this: those that a block was entered with.
abbrev pub outermost : {A : Type 0} → ℕ → List A → List A
outermost count [] = []
outermost count (x ∷ xs) = if nat_lt (length xs) count then x ∷ xs else outermost count xs

-- ---- variables

-- the item with this number, counted from the outermost one, is changed
abbrev pub at_number : {A : Type 0} → (A → A) → ℕ → List A → List A
at_number f n [] = []
at_number f n (x ∷ xs) = if nat_eq (length xs) n then f x ∷ xs else x ∷ at_number f n xs

abbrev pub with_meaning : (Meaning → Meaning) → Entry → Entry
with_meaning f e = record { name = e.name; meaning = f e.meaning }

-- The range of a variable changes, to one that may depend on its type. A parameter always has the range of its type.
abbrev pub ranged : (ValueType → Ends) → Meaning → Meaning
ranged range (Scalar kinds.Variable type old) = Scalar kinds.Variable type (range type)
ranged range m = m

-- a variable has the range of what is assigned to it
abbrev pub assigned : Ends → Meaning → Meaning
assigned range m = ranged (λ type. range) m

abbrev pub assign : ℕ → Ends → List Entry → List Entry
assign n range es = at_number (with_meaning (assigned range)) n es

-- a variable of which no more is known than its type
abbrev pub widened : Meaning → Meaning
widened m = ranged type_range m

abbrev pub is_one_of : List ℕ → ℕ → Bool
is_one_of [] n = false
is_one_of (m ∷ ms) n = if nat_eq m n then true else is_one_of ms n

abbrev pub widened_if : Bool → Entry → Entry
widened_if false e = e
widened_if true e = with_meaning widened e

-- The variables with these numbers were changed: by an input, an instance, or the body of a loop.
abbrev pub widen : List ℕ → List Entry → List Entry
widen ns [] = []
widen ns (e ∷ es) = widened_if (is_one_of ns (length es)) e ∷ widen ns es

-- ---- branches

-- the hull of both ranges of a scalar
abbrev pub hull_meaning : Meaning → Meaning → Meaning
hull_meaning (Scalar kind type r) (Scalar k t s) = Scalar kind type (hull r s)
hull_meaning m n = m

-- entry by entry the hulls of two ends
abbrev pub hulls : List Entry → List Entry → List Entry
hulls [] es = []
hulls (d ∷ ds) [] = d ∷ ds
hulls (d ∷ ds) (e ∷ es) = record { name = d.name; meaning = hull_meaning d.meaning e.meaning } ∷ hulls ds es

-- of two things with a number the second, if the number is one of these
abbrev pub of_both : {A : Type 0} → Bool → A → A → A
of_both false x y = x
of_both true x y = y

-- The second list's items with these numbers, counted from the outermost one, among the others of the first.
abbrev pub taken : {A : Type 0} → List ℕ → List A → List A → List A
taken ns [] ys = []
taken ns (x ∷ xs) [] = x ∷ xs
taken ns (x ∷ xs) (y ∷ ys) = of_both (is_one_of ns (length xs)) x y ∷ taken ns xs ys

-- A block of branches: what is known where its branches begin, and after those that have ended, if one has.
pub record Block : Type 0 where
  pub start : List Entry
  pub ends : Option (List Entry)

-- What is known at a place: the entries, and the blocks of branches around it, the innermost one first.
pub record Known : Type 0 where
  pub entries : List Entry
  pub blocks : List Block

-- after one branch more, whose end has these entries
abbrev pub ends_with : Option (List Entry) → List Entry → List Entry
ends_with None es = es
ends_with (Some ds) es = hulls ds es

-- with how many entries the branches of the innermost block begin
abbrev pub begun_with : List Block → ℕ
begun_with [] = 0
begun_with (b ∷ bs) = length b.start

-- Scopes are left until this number of entries remains, but none that is around the innermost block.
abbrev pub leave : ℕ → List Block → List Entry → List Entry
leave count bs es = outermost (max count (begun_with bs)) es

-- what an end has of the entries that the block was begun with
abbrev pub end_of : Block → List Entry → List Entry
end_of b es = outermost (length b.start) es

-- An IF or an ALT begins with its first branch.
abbrev pub begin : Known → Known
begin k = record { entries = k.entries; blocks = record { start = k.entries; ends = None } ∷ k.blocks }

abbrev pub next_from : List Entry → List Block → Known
next_from es [] = record { entries = es; blocks = [] }
next_from es (b ∷ bs) = record {
  entries = b.start;
  blocks = record { start = b.start; ends = Some (ends_with b.ends (end_of b es)) } ∷ bs;
}

-- A branch has ended here. The next one begins as the first one did.
abbrev pub next : Known → Known
next k = next_from k.entries k.blocks

-- what is left of a scalar where a comparison with a constant does not hold
abbrev pub not_so : Tested → Meaning → Meaning
not_so t m = with_range (left_of (opposite t.comparison) t.constant) m

abbrev pub excluded_at : Option ℕ → Tested → List Entry → List Entry
excluded_at None t ds = ds
excluded_at (Some n) t ds = at_number (with_meaning (not_so t)) n ds

abbrev pub excluded_by : Option Tested → List Entry → List Entry → List Entry
excluded_by None es ds = ds
excluded_by (Some t) es ds = excluded_at (number_in t.name es) t ds

-- The outermost entries at a place, where a condition does not hold whose names are looked up at that place.
abbrev pub excluded : Expression → List Entry → List Entry → List Entry
excluded condition es ds = excluded_by (test_of es condition) es ds

abbrev pub exclude_from : Expression → List Entry → List Block → List Block
exclude_from condition es [] = []
exclude_from condition es (b ∷ bs) = record { start = excluded condition es b.start; ends = b.ends } ∷ bs

-- A choice of an IF begins here. Where the further ones begin, its condition did not hold.
abbrev pub exclude : Expression → Known → Known
exclude condition k = record { entries = k.entries; blocks = exclude_from condition k.entries k.blocks }

-- what is known after a block whose last branch has ended: if it had none, it is as before
abbrev pub after_block : List Entry → List Block → Known
after_block es [] = record { entries = es; blocks = [] }
after_block es (b ∷ bs) = record { entries = unwrap_or b.ends b.start; blocks = bs }

abbrev pub end : Known → Known
end k = after_block k.entries k.blocks

-- A PAR begins with its first component. What no component changes is as before.
abbrev pub begin_par : Known → Known
begin_par k = record {
  entries = k.entries;
  blocks = record { start = k.entries; ends = Some k.entries } ∷ k.blocks;
}

abbrev pub component_end : List ℕ → Block → List Entry → Option (List Entry)
component_end ns b es = option_map (λ ds. taken ns ds (end_of b es)) b.ends

abbrev pub component_from : List ℕ → List Entry → List Block → Known
component_from ns es [] = record { entries = es; blocks = [] }
component_from ns es (b ∷ bs) = record {
  entries = b.start;
  blocks = record { start = b.start; ends = component_end ns b es } ∷ bs;
}

-- A component has ended here, which changed the variables with these numbers.
abbrev pub next_component : List ℕ → Known → Known
next_component ns k = component_from ns k.entries k.blocks

-- The body of a loop begins, which changes the variables with these numbers. It ends as a block without branches: what
-- is known after it is what was known where it began.
abbrev pub begin_loop : List ℕ → Known → Known
begin_loop ns k = begin (record { entries = widen ns k.entries; blocks = k.blocks })
