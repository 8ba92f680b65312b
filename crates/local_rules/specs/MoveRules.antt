-- The rule of move, which copies bytes from one place to another.
use Rattle.std.specs.Prelude.{◌&&◌, ◌||◌, not, ℤ, pos, ◌+ℤ◌, int_le, Bool, if◌then◌else◌}
use Rattle.module_format.specs.Rows.{Fact}
use Rattle.module_format.specs.Regions.{is_frame, is_same_region}
use Rattle.module_format.specs.Stack.{of_empty}
use Rattle.machine_state.specs.declared.op.TheConstants.{MOST_MOVED}
use Rattle.states.specs.declared.rule.Rule.TheVariants as rules
use Rattle.states.specs.State.{State, unknown, is_same_number as is_same}
use Rattle.rulings.specs.declared.pointers.Pointed.{Pointed}
use Rattle.rulings.specs.Rulings.{Ruling, breaks, Site, alone, uses, goes_on, in_bounds, settles}
use Rattle.rulings.specs.Pointers.{constant_of, reads_bytes, writes_bytes, exact_pointer, takes_any}
use Rattle.rulings.specs.Filling.{are_numbers, filled}

-- ---- what is asked

-- this number of bytes may be moved at once
abbrev pub is_movable : ℤ → Bool
is_movable count = int_le (pos 0) count && int_le count (pos MOST_MOVED)

-- how many bytes are moved, which is a constant, to where B points
unfoldable pub amount : Site → State → Fact → Fact → (ℤ → Ruling) → Ruling
amount site s a b k =
    settles (constant_of a) (λ count.
    in_bounds (is_movable count && takes_any site.contents s.context b) (k count))

-- the `count` bytes from two places on are apart, as those of different regions are
abbrev pub are_blocks_apart : ℤ → Pointed → Pointed → Bool
are_blocks_apart count p q =
    not (is_same_region p.region q.region) || int_le (p.lo +ℤ count) q.lo || int_le (q.lo +ℤ count) p.lo

-- ---- the rule

-- all registers are used up, outside alternations and starts
abbrev pub clears : Site → State → Ruling
clears site s = alone s.mode (goes_on site (record s { stack = of_empty unknown }))

-- bytes may come to a place that is apart; a parameter's region takes numbers
abbrev pub may_come : ℤ → Pointed → Pointed → Bool → Bool
may_come count from to numbers = are_blocks_apart count from to && (is_frame to.region || numbers)

-- `count` bytes that may be read, at least one, come to where they may be written
unfoldable pub come : Site → ℤ → Pointed → Pointed → State → Ruling
come site count from to s =
    let numbers = are_numbers s from count in
    if may_come count from to numbers then clears site (filled numbers to (to.hi +ℤ count) s) else breaks rules.Pointer

-- `count` bytes, at least one, go from one place to another
unfoldable pub moves_some : Site → ℤ → Pointed → Pointed → State → Ruling
moves_some site count from to s =
    let end = to.hi +ℤ count in
    reads_bytes site s from.region from.lo (from.hi +ℤ count)
    (writes_bytes site s to.region to.lo end (come site count from to s))

-- where there are none, nothing is read or written
unfoldable pub moves_bytes : Site → ℤ → Pointed → Pointed → State → Ruling
moves_bytes site count from to s =
    if is_same count (pos 0) then clears site s else moves_some site count from to s

-- move: A bytes go from C to B
abbrev pub moves : Site → State → Ruling
moves site s =
    uses s.stack.a (λ a. uses s.stack.b (λ b. uses s.stack.c (λ c.
    amount site s a b (λ count.
    settles (exact_pointer b) (λ to. settles (exact_pointer c) (λ from. moves_bytes site count from to s))))))
