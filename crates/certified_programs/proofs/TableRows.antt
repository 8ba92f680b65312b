-- Each table that pieces read lies in the constants, and its row is the one in which its bytes lie.
use Rattle.std.proofs.Common.{◌≡◌, ℕ, ◌+◌, ◌*◌, ◌<◌, ◌≤◌, ℤ, pos, Bool, true, false, cond, List, [], ◌∷◌, ◌++◌, length}
use Rattle.std.proofs.Common.{Some, refl, sym, ap, subst, ◌∙◌, ◌&&◌, inl, inr, arith, length-append}
use Rattle.std.specs.Prelude.{if◌then◌else◌, int_le}
use Rattle.std.specs.Cmp.Rules.{signed_items}
use Rattle.std.specs.List.{find}
use Rattle.std.proofs.lemmas.Bool.{cases_Bool}
use Rattle.std.proofs.lemmas.Int.{ints}
use Rattle.small_laws.proofs.Comparisons.{le-int_le, lt-int_le}
use Rattle.module_format.specs.declared.rows.TableRow.{TableRow}
use Rattle.rulings.specs.Reach.{lie_in_row}
use Rattle.code_pieces.specs.Pieces.{Piece}
use Rattle.code_pieces.specs.Pieces.{TableAddress}
use Rattle.code_pieces.specs.Laying.{are_same, offset_in, with_table, tables_before}
use Rattle.code_pieces.specs.Tables.{has_table, table_bytes, constants_of, lowest, highest, table_rows_from}
use Rattle.code_pieces.proofs.TableLaws.{pointwise_same, with_known, with_new}
use Rattle.placed_code.proofs.PiecesLie.{length-table}
use Rattle.certified_modules.proofs.TablesPlaced.{read_keeps}

-- ---- tables among others

-- tables that are the same have the same values, and a table is the same as itself
same_values : (xs ys : List ℤ) → are_same xs ys ≡ true → xs ≡ ys
same_values xs ys is = (signed_items xs ys).0 (pointwise_same xs ys ∙ is)

same_here : (xs : List ℤ) → are_same xs xs ≡ true
same_here xs = sym (pointwise_same xs xs) ∙ (signed_items xs xs).1 refl

either_by : (b x y : Bool) → (x ≡ true → y ≡ true) → (if b then true else x) ≡ true → (if b then true else y) ≡ true
either_by true x y so is = refl
either_by false x y so is = so is

-- a table is there with others behind, and behind others
there_before : (values : List ℤ) (ts more : List (List ℤ)) → has_table ts values ≡ true
    → has_table (ts ++ more) values ≡ true
there_before values [] more is = absurd (cc is)
there_before values (t ∷ ts) more is =
    either_by (are_same t values) (has_table ts values) (has_table (ts ++ more) values) (there_before values ts more) is

there_last : (values : List ℤ) (ts : List (List ℤ)) → has_table (ts ++ values ∷ []) values ≡ true
there_last values [] = ap (λ (b : Bool). if b then true else false) (same_here values)
there_last values (t ∷ ts) =
    either_by (are_same t values) true (has_table (ts ++ values ∷ []) values) (λ is. there_last values ts)
    (by (are_same t values))
  where
    by : (b : Bool) → (if b then true else true) ≡ true
    by true = refl
    by false = refl

-- it is there once it is added, and stays there while others are added
added_there : (values : List ℤ) (ts : List (List ℤ)) → has_table (with_table values ts) values ≡ true
added_there values ts = elim (cases_Bool (has_table ts values)) [
  | inl is ↦ ap (λ (us : List (List ℤ)). has_table us values) (with_known values ts is) ∙ is
  | inr not ↦ ap (λ (us : List (List ℤ)). has_table us values) (with_new values ts not) ∙ there_last values ts
]

stays_with : (other values : List ℤ) (ts : List (List ℤ)) → has_table ts values ≡ true
    → has_table (with_table other ts) values ≡ true
stays_with other values ts there = elim (cases_Bool (has_table ts other)) [
  | inl is ↦ ap (λ (us : List (List ℤ)). has_table us values) (with_known other ts is) ∙ there
  | inr not ↦
      ap (λ (us : List (List ℤ)). has_table us values) (with_new other ts not)
      ∙ there_before values ts (other ∷ []) there
]

-- a table that a piece reads is among those of the constants
pub read_there : (ts : List (List ℤ)) (before rest : List Piece) (values : List ℤ)
    → has_table (tables_before ts (before ++ TableAddress values ∷ rest)) values ≡ true
read_there ts before rest values =
    read_keeps (λ us. has_table us values ≡ true) (λ other us. stays_with other values us) values (added_there values)
    ts before rest

-- ---- where it lies

-- a table lies in the constants
pub lies_inside : (values : List ℤ) (ts : List (List ℤ)) → has_table ts values ≡ true
    → offset_in ts values + 4 * length values ≤ length (constants_of ts)
lies_inside values [] there = absurd (cc there)
lies_inside values (t ∷ ts) there =
    let all = length-append (table_bytes t) (constants_of ts) in
    let size = length-table t in
    elim (cases_Bool (are_same t values)) [
      | inl is ↦
          (let here : offset_in (t ∷ ts) values ≡ 0 =
          ap (λ (b : Bool). cond b 0 (4 * length t + offset_in ts values)) is in
          let long = ap (λ (xs : List ℤ). length xs) (same_values t values is) in
          omega (arith, all, size, here, long))
      | inr not ↦
          (let here : offset_in (t ∷ ts) values ≡ 4 * length t + offset_in ts values =
          ap (λ (b : Bool). cond b 0 (4 * length t + offset_in ts values)) not in
          let rest = lies_inside values ts
          (sym (ap (λ (b : Bool). if b then true else has_table ts values) not) ∙ there)
          in
          omega (arith, all, size, here, rest))
    ]

-- ---- its row

-- the row of a table that begins at this byte
abbrev pub row_at : ℕ → ℤ → List ℤ → TableRow
row_at start v vs = record {
  start = start;
  end = start + 4 * length (v ∷ vs);
  lo = lowest v vs;
  hi = highest v vs;
}

lies_in : (row : TableRow) (first end : ℕ) → row.start ≤ first → end ≤ row.end
    → lie_in_row (pos first) (pos end) row ≡ true
lies_in row first end low high =
    ap (λ (b : Bool). b && int_le (pos end) (pos row.end))
    (le-int_le (pos row.start) (pos first) (omega (arith, ints, low)))
    ∙ le-int_le (pos end) (pos row.end) (omega (arith, ints, high))

lies_behind : (row : TableRow) (first end : ℕ) → row.end < end → lie_in_row (pos first) (pos end) row ≡ false
lies_behind row first end past =
    ap (λ (b : Bool). int_le (pos row.start) (pos first) && b)
    (lt-int_le (pos end) (pos row.end) (omega (arith, ints, past)))
    ∙ none (int_le (pos row.start) (pos first))
  where
    none : (b : Bool) → (b && false) ≡ false
    none true = refl
    none false = refl

-- Bytes of a table lie in its row, and in none before it.
pub row_found : (v : ℤ) (vs : List ℤ) (ts : List (List ℤ)) (start first end : ℕ) → has_table ts (v ∷ vs) ≡ true
    → start + offset_in ts (v ∷ vs) ≤ first → first < end
    → end ≤ start + offset_in ts (v ∷ vs) + 4 * length (v ∷ vs)
    → find (lie_in_row (pos first) (pos end)) (table_rows_from start ts)
    ≡ Some (row_at (start + offset_in ts (v ∷ vs)) v vs)
row_found v vs [] start first end there low some high = absurd (cc there)
row_found v vs (t ∷ ts) start first end there low some high = elim (cases_Bool (are_same t (v ∷ vs))) [
  | inl is ↦
      (let here : offset_in (t ∷ ts) (v ∷ vs) ≡ 0 =
      ap (λ (b : Bool). cond b 0 (4 * length t + offset_in ts (v ∷ vs))) is in
      subst (λ (n : ℕ). find (lie_in_row (pos first) (pos end)) (table_rows_from start (t ∷ ts)) ≡ Some (row_at n v vs))
      (omega (arith, here))
      (first_found t (same_values t (v ∷ vs) is) (omega (arith, low, here)) (omega (arith, high, here))))
  | inr not ↦
      (let here : offset_in (t ∷ ts) (v ∷ vs) ≡ 4 * length t + offset_in ts (v ∷ vs) =
      ap (λ (b : Bool). cond b 0 (4 * length t + offset_in ts (v ∷ vs))) not in
      let rest = row_found v vs ts (start + 4 * length t) first end
      (sym (ap (λ (b : Bool). if b then true else has_table ts (v ∷ vs)) not) ∙ there) (omega (arith, low, here)) some
      (omega (arith, high, here)) in
      passed t (omega (arith, low, here, some)) ∙ rest
      ∙ ap (λ (n : ℕ). Some (row_at n v vs)) (omega (arith, here)))
]
  where
    test : TableRow → Bool
    test = lie_in_row (pos first) (pos end)

    first_found : (t : List ℤ) → t ≡ v ∷ vs → start ≤ first → end ≤ start + 4 * length (v ∷ vs)
        → find (lie_in_row (pos first) (pos end)) (table_rows_from start (t ∷ ts)) ≡ Some (row_at start v vs)
    first_found t same low high =
        ap (λ (xs : List ℤ). find (lie_in_row (pos first) (pos end)) (table_rows_from start (xs ∷ ts))) same
        ∙ ap (λ (b : Bool). cond b (Some (row_at start v vs))
        (find (lie_in_row (pos first) (pos end)) (table_rows_from (start + 4 * length (v ∷ vs)) ts)))
        (lies_in (row_at start v vs) first end low high)

    -- a table before it has another row, or none
    passed : (t : List ℤ) → start + 4 * length t < end
        → find (lie_in_row (pos first) (pos end)) (table_rows_from start (t ∷ ts))
        ≡ find (lie_in_row (pos first) (pos end)) (table_rows_from (start + 4 * length t) ts)
    passed [] less = refl
    passed (w ∷ ws) less =
        ap (λ (b : Bool). cond b (Some (row_at start w ws))
        (find (lie_in_row (pos first) (pos end)) (table_rows_from (start + 4 * length (w ∷ ws)) ts)))
        (lies_behind (row_at start w ws) first end less)
