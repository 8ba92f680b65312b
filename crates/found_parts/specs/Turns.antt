-- A turn of a loop: what it costs, and what it may cost.
use Rattle.std.specs.Prelude.{ℕ, ◌+◌, ◌-◌, ◌^◌, min, ◌&&◌, if◌then◌else◌, ℤ, Option, Some, None}
use Rattle.module_format.specs.Rows.{Fact}
use Rattle.module_format.specs.declared.fact.Fact.TheVariants.{Pointer}
use Rattle.module_format.specs.Regions.{is_frame}
use Rattle.states.specs.declared.known.WordFact.{WordFact}
use Rattle.states.specs.declared.known.WordFact.TheVariants.{Index}
use Rattle.states.specs.State.{State, is_same_number}
use Rattle.rulings.specs.Reach.{word_of_byte}
use Rattle.found_parts.specs.declared.turns.Turn.{Turn}

-- the word of the frame to which a pointer leads exactly
abbrev pub word_pointed : Fact → Option ℤ
word_pointed (Pointer region lo hi step) =
    if is_frame region && is_same_number lo hi then Some (word_of_byte lo) else None
word_pointed fact = None

-- the weight of the loop that has a word as its index
abbrev pub weight_in : WordFact → Option ℕ
weight_in (Index loop) = Some loop.weight
weight_in fact = None

abbrev pub weight_of : State → Option ℤ → Option ℕ
weight_of s None = None
weight_of s (Some word) = weight_in (s.frame word)

-- what is missing of a number, once the bytes of an instruction are paid, for what a label asks
abbrev pub turn_cost : ℕ → ℕ → ℕ → ℕ
turn_cost len number asked = min (asked + len) (2 ^ 128 - 1) - number

abbrev pub turn_with : ℕ → Option ℕ → Option Turn
turn_with cost None = None
turn_with cost (Some weight) = Some (record { cost = cost; weight = weight })

-- the turn that ends at an instruction of `len` bytes, with the pointer to its block in B, where its label asks this
unfoldable pub turn_of : State → ℕ → ℕ → Option Turn
turn_of s len asked = turn_with (turn_cost len s.number asked) (weight_of s (word_pointed s.stack.b.fact))
