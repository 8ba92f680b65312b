-- Where rows are in an order, and the branches before them, by tables.
use Rattle.std.specs.Prelude.{◌≡◌, ◌+◌, ◌≤◌, ◌<◌, ℕ, List, length, take, slice_index}
use Rattle.module_format.specs.declared.rows.ParRow.{ParRow}
use Rattle.module_builder.specs.declared.item.Label.{Label}
use Rattle.module_builder.specs.declared.limits.TheConstants.{MAX_CONTEXTS}
use Rattle.module_builder.specs.declared.draft.ContextName.{ContextName}
use Rattle.module_builder.specs.declared.draft.Draft.{Draft}
use Rattle.module_builder.specs.declared.orders.Orders.{Orders}
use Rattle.module_builder.specs.Limits.{branch_count}
use Rattle.module_builder.specs.Ordering.{rows_in, position}

-- by row: how many rows are before it in the order
pub record ArePlaces (order : List (ℕ × ℕ)) (count : ℕ) (places : List ℕ) : Type 0 where
  pub len : length places ≡ count
  pub each : (row : ℕ) → row < count → slice_index places row ≡ position order row
  pub within : (row : ℕ) → row < count → slice_index places row ≤ length order

-- by place in the order, up to this one: how many branches the rows before it have
pub record AreSums (rows : List (ParRow Label ContextName)) (order : List (ℕ × ℕ)) (last : ℕ) (sums : List ℕ) :
    Type 0 where
  pub len : length sums ≡ last + 1
  pub each : (k : ℕ) → k ≤ last → slice_index sums k ≡ branch_count (rows_in (take k order) rows)
  pub small : (k : ℕ) → k ≤ last → slice_index sums k ≤ MAX_CONTEXTS

-- the tables are those of the draft's rows
pub record IsNumbered (d : Draft) (o : Orders) : Type 0 where
  pub procedures : ArePlaces o.procedures.items (length d.procedures.items) o.procedure_places.items
  pub pars : ArePlaces o.pars.items (length d.pars.items) o.par_places.items
  pub branches : AreSums d.pars.items o.pars.items (length o.pars.items) o.branches_before.items
