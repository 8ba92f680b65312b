-- The order of rows in a file: by their keys, and those of equal keys in the order of adding.
use Rattle.std.specs.Prelude.{ℕ, suc, not, ◌==◌, List, [], ◌∷◌, slice_get}
use Rattle.std.specs.List.{filter_map, prefix_len}
use Rattle.std.specs.List.Sorted.{IsPermutation, IsSorted}
use Rattle.std.specs.Ordering.{nat_cmp, ordering_then}
use Rattle.std.specs.declared.cmp.Ordering.{Ordering}

-- each key with the number of its row, of which the first is this one
abbrev pub numbered : ℕ → List ℕ → List (ℕ × ℕ)
numbered number [] = []
numbered number (key ∷ keys) = (key, number) ∷ numbered (suc number) keys

-- by the key, and then by the number
abbrev pub by_key : ℕ × ℕ → ℕ × ℕ → Ordering
by_key x y = ordering_then (nat_cmp x.0 y.0) (nat_cmp x.1 y.1)

-- rows with these keys, each by its key and its number, are in this order
pub record IsOrder (keys : List ℕ) (order : List (ℕ × ℕ)) : Type 0 where
  pub same : IsPermutation (numbered 0 keys) order
  pub rises : IsSorted by_key order

-- the rows in an order
abbrev pub rows_in : {Row : Type 0} → List (ℕ × ℕ) → List Row → List Row
rows_in order rows = filter_map (λ pair. slice_get rows pair.1) order

-- how many rows are before the row with this number
abbrev pub position : List (ℕ × ℕ) → ℕ → ℕ
position order number = prefix_len (λ pair. not (pair.1 == number)) order
