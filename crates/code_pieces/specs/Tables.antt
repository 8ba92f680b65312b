-- The constants of a module: the tables that code reads, one after the other.
use Rattle.std.specs.Prelude.{◌≤◌, ℕ, ◌+◌, ◌*◌, ℤ, Bool, true, false, List, [], ◌∷◌, ◌++◌, length, sum_by, map}
use Rattle.std.specs.Prelude.{Option, Some, None, if◌then◌else◌}
use Rattle.std.specs.Option.{option_to_list}
use Rattle.std.specs.Borrow.{Bor}
use Rattle.std.specs.Int.{w32, cast_unsigned, to_le_bytes, int_min, int_max}
use Rattle.std.specs.List.{flat_map}
use Rattle.module_format.specs.declared.rows.TableRow.{TableRow}
use Rattle.module_format.specs.declared.limits.TheConstants.{MAX_TABLES, MAX_CONSTANTS}
use Rattle.code_pieces.specs.Laying.{are_same}

-- the lists that slices show
abbrev pub lists_of : List (Bor (List ℤ)) → List (List ℤ)
lists_of slices = map (λ (slice : Bor (List ℤ)). slice.now) slices

-- one of the tables has these values
abbrev pub has_table : List (List ℤ) → List ℤ → Bool
has_table [] values = false
has_table (t ∷ ts) values = if are_same t values then true else has_table ts values

-- how many values tables have
abbrev pub value_count : List (List ℤ) → ℕ
value_count ts = sum_by (λ (t : List ℤ). length t) ts

-- ---- limits

-- no more tables than there may be table rows, in no more bytes than constants may have
pub record TablesAreWithin (ts : List (List ℤ)) : Type 0 where
  pub few : length ts ≤ MAX_TABLES
  pub short : 4 * value_count ts ≤ MAX_CONSTANTS

-- ---- bytes

abbrev pub value_bytes : ℤ → List ℕ
value_bytes v = to_le_bytes w32 (cast_unsigned w32 v)

abbrev pub table_bytes : List ℤ → List ℕ
table_bytes values = flat_map value_bytes values

abbrev pub constants_of : List (List ℤ) → List ℕ
constants_of ts = flat_map table_bytes ts

-- ---- rows

unfoldable pub lower : ℤ → ℤ → ℤ
lower a b = int_min a b

unfoldable pub higher : ℤ → ℤ → ℤ
higher a b = int_max a b

-- the least of these values and one more
abbrev pub lowest : ℤ → List ℤ → ℤ
lowest v [] = v
lowest v (w ∷ ws) = lowest (lower v w) ws

-- the greatest
abbrev pub highest : ℤ → List ℤ → ℤ
highest v [] = v
highest v (w ∷ ws) = highest (higher v w) ws

-- what is known of a table that begins at this byte: the range of its values, if it has any
abbrev pub row_of : ℕ → List ℤ → Option TableRow
row_of start [] = None
row_of start (v ∷ vs) =
    Some (record { start = start; end = start + 4 * length (v ∷ vs); lo = lowest v vs; hi = highest v vs })

-- what is known of tables, of which the first begins at this byte
abbrev pub table_rows_from : ℕ → List (List ℤ) → List TableRow
table_rows_from start [] = []
table_rows_from start (t ∷ ts) = option_to_list (row_of start t) ++ table_rows_from (start + 4 * length t) ts
