-- What going on at a label costs.
use Rattle.std.specs.Prelude.{ℕ, ◌+◌, ◌-◌, ◌^◌, min, List}
use Rattle.std.specs.List.{fold}
use Rattle.module_format.specs.Rows.{Entry}
use Rattle.module_format.specs.Contents.{Label}
use Rattle.states.specs.State.{State, Facts}
use Rattle.states.specs.Below.{price}
use Rattle.explanation_parts.specs.declared.ways.Way.{Way}
use Rattle.explanation_parts.specs.Ways.{seen_in}

-- a number, or the greatest of 128 bits where it is above that
abbrev pub capped : ℕ → ℕ
capped n = min n (2 ^ 128 - 1)

-- what it costs to enter the loop of an entry
abbrev pub loop_price : Facts → Entry → ℕ
loop_price known entry = capped (price known entry)

-- a number, and what it costs to enter the loops of entries
abbrev pub entries_price : Facts → List Entry → ℕ → ℕ
entries_price known entries number = fold (λ cost entry. capped (cost + loop_price known entry)) number entries

-- what going on at a label costs
unfoldable pub label_cost : Way → State → Label → ℕ
label_cost way s t = entries_price (seen_in way s) t.entries t.number
