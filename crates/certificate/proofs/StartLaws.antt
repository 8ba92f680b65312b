-- Where instructions start: the marks, and the rows at an offset.
use Rattle.std.proofs.Common.{◌≡◌, ◌≢◌, ℕ, zero, suc, ◌+◌, ◌<◌, Bool, true, false, cond, eqb, List, [], ◌∷◌, length}
use Rattle.std.proofs.Common.{map, get_or, Some, None, refl, sym, ap, ◌∙◌, arith}
use Rattle.std.specs.Prelude.{find, is_some, ◌==◌, ◌||◌}
use Rattle.std.specs.List.{list_any, flat_map}
use Rattle.std.specs.List.Sorted.{IsNonDecreasingBy}
use Rattle.std.proofs.Math.Bool.{or-false, or-true}
use Rattle.std.proofs.lemmas.List.Folds.{list_any-append}
use Rattle.std.proofs.lemmas.Bool.Decides.{nat_tests}
use Rattle.module_format.specs.Rows.{LabelRow}
use Rattle.module_format.specs.Rows.{ProcedureRow}
use Rattle.module_format.specs.Rows.{BranchRow}
use Rattle.module_format.specs.Rows.{ParRow}
use Rattle.module_format.specs.declared.tables.Tables.{Tables}
use Rattle.module_format.specs.Contents.{Procedure, label_of, procedure_of, par_of, branch_of, contents_of, label_at}
use Rattle.module_format.specs.Order.{InOrder}
use Rattle.module_format.specs.Facts.{LabelKeeps, behind_label}
use Rattle.module_format.specs.Pars.{entries_of, entries_of_rows}
use Rattle.module_format.specs.Keeping.{Keeps}
use Rattle.module_format.specs.Offsets.{IsNowhere}
use Rattle.module_format.proofs.OffsetLaws.{Rise, non_decreasing}
use Rattle.certificate.specs.Starts.{procedure_from, procedure_at, has_mark, Adds, AreStarts}

-- ---- marks

-- or, of three
swapped : (a b c : Bool) → (a || ((b || false) || c)) ≡ ((b || a) || c)
swapped true true c = refl
swapped true false c = refl
swapped false true c = refl
swapped false false c = refl

-- or, of four
turned : (a b c d : Bool) → (a || (b || (c || d))) ≡ ((b || c) || (a || d))
turned true true c d = refl
turned true false true d = refl
turned true false false d = refl
turned false true c d = refl
turned false false true d = refl
turned false false false d = refl

-- or, of the four kinds
four : (a b c d e : Bool) → e ≡ false → ((c || d) || (b || (a || e))) ≡ (((a || b) || c) || d)
four true b c d e h = rw (or-true b) (or-true (c || d))
four false true c d e h = or-true (c || d)
four false false c d e h = rw h (or-false (c || d))

module _ (at : ℕ) where
  abbrev is : ℕ → Bool
  is offset = offset == at

  label_marked : (rows : List LabelRow)
      → list_any is (flat_map (λ row. row.offset ∷ []) rows)
      ≡ is_some (find (λ row. row.offset == at) (map label_of rows))
  label_marked [] = refl
  label_marked (row ∷ rows) = elim (row.offset == at) as (λ b.
      (b || list_any is (flat_map (λ row. row.offset ∷ []) rows))
      ≡ is_some (cond b (Some (label_of row)) (find (λ row. row.offset == at) (map label_of rows)))) [
        | true ↦ refl
        | false ↦ label_marked rows
      ]

  procedure_marked : (n : ℕ) (rows : List ProcedureRow)
      → list_any is (flat_map (λ row. row.entry ∷ []) rows) ≡ is_some (procedure_from n (map procedure_of rows) at)
  procedure_marked n [] = refl
  procedure_marked n (row ∷ rows) = elim (row.entry == at) as
      (λ b. (b || list_any is (flat_map (λ row. row.entry ∷ []) rows))
      ≡ is_some (cond b (Some (record { context = n; procedure = procedure_of row }))
      (procedure_from (n + 1) (map procedure_of rows) at))) [
        | true ↦ refl
        | false ↦ procedure_marked (n + 1) rows
      ]

  abbrev marked_by : ParRow → List ℕ
  marked_by row = row.successor ∷ entries_of (map branch_of row.branches.items)

  par_marked : (rows : List ParRow) → list_any is (flat_map marked_by rows) ≡
      (list_any is (entries_of_rows (map par_of rows)) || list_any (λ row. row.successor == at) (map par_of rows))
  par_marked [] = refl
  par_marked (row ∷ rows) =
      let entries = entries_of (map branch_of row.branches.items) in
      rw (
        list_any-append is entries (flat_map marked_by rows),
        list_any-append is entries (entries_of_rows (map par_of rows)),
        par_marked rows,
      )
      (turned (is row.successor) (list_any is entries) (list_any is (entries_of_rows (map par_of rows)))
      (list_any (λ row. row.successor == at) (map par_of rows)))

-- the marks of the label rows, then those of the procedure rows, then those of the PAR rows
pub starts_marked : (t : Tables) (before labels procedures marks : List Bool) → before ≡ []
    → Adds before (flat_map (λ row. row.offset ∷ []) t.labels.items) labels
    → Adds labels (flat_map (λ row. row.entry ∷ []) t.procedures.items) procedures
    → Adds procedures (flat_map (λ row. row.successor ∷ entries_of
    (map branch_of row.branches.items)) t.pars.items) marks
    → AreStarts marks (contents_of t)
starts_marked t before labels procedures marks none a b c n =
    let empty : has_mark before n ≡ false = rw none refl in
    rw (
      c n,
      b n,
      a n,
      par_marked n t.pars.items,
      procedure_marked n 1 t.procedures.items,
      label_marked n t.labels.items,
    )
    (four (is_some (label_at (contents_of t) n)) (is_some (procedure_at (contents_of t) n))
    (list_any (is n) (entries_of_rows (map par_of t.pars.items)))
    (list_any (λ row. row.successor == n) (map par_of t.pars.items)) (has_mark before n) empty)

branch_entries : (rows : List BranchRow) → flat_map (λ row. row.entry ∷ []) rows ≡ entries_of (map branch_of rows)
branch_entries [] = refl
branch_entries (row ∷ rows) = ap (λ (ns : List ℕ). row.entry ∷ ns) (branch_entries rows)

-- first the successor of a row, then its branches
pub adds_par : (before between marks : List Bool) (successor : ℕ) (rows items : List BranchRow) → rows ≡ items
    → Adds before (successor ∷ []) between → Adds between (flat_map (λ row. row.entry ∷ []) rows) marks
    → Adds before (successor ∷ entries_of (map branch_of items)) marks
adds_par before between marks successor rows items same a b n =
    rw (b n, a n, branch_entries rows, same)
    (swapped (list_any (is n) (entries_of (map branch_of items))) (successor == n) (has_mark before n))

-- ---- the row at an offset

module _ (at : ℕ) where
  -- the first row at the offset
  label_found : (rows : List LabelRow) (n : ℕ) (d : LabelRow) → n < length rows
      → ((k : ℕ) → k < n → (get_or rows k d).offset ≢ at) → (get_or rows n d).offset ≡ at
      → find (λ row. row.offset == at) (map label_of rows) ≡ Some (label_of (get_or rows n d))
  label_found [] n d lt before here = absurd (omega arith)
  label_found (row ∷ rows) zero d lt before here = let same : eqb row.offset at ≡ true =
      grind (arith, nat_tests) in rw same refl
  label_found (row ∷ rows) (suc n) d lt before here =
      let differs : row.offset ≢ at = before 0 (omega arith) in
      let other : eqb row.offset at ≡ false = grind (arith, nat_tests) in
      rw other (label_found rows n d (omega arith) (λ k less. before (suc k) (omega arith)) here)

  -- the same, as a search finds it
  pub label_is : (rows : List LabelRow) (n : ℕ) (row : LabelRow) → n < length rows
      → ((k : ℕ) → k < n → (get_or rows k row).offset ≢ at) → row ≡ get_or rows n row → row.offset ≡ at
      → find (λ row. row.offset == at) (map label_of rows) ≡ Some (label_of row)
  label_is rows n row lt before is here =
      label_found rows n row lt before (sym (ap (λ (r : LabelRow). r.offset) is) ∙ here)
      ∙ ap (λ r. Some (label_of r)) (sym is)

  pub label_missing : (rows : List LabelRow) → IsNowhere (λ row. row.offset) rows at
      → find (λ row. row.offset == at) (map label_of rows) ≡ None
  label_missing [] all = refl
  label_missing (row ∷ rows) all =
      let differs : row.offset ≢ at = all 0 row (omega arith) in
      let other : eqb row.offset at ≡ false = grind (arith, nat_tests) in
      rw other (label_missing rows (λ k d less. all (suc k) d (omega arith)))

  pub procedure_found : (first : ℕ) (rows : List ProcedureRow) (n : ℕ) (d : ProcedureRow) → n < length rows
      → ((k : ℕ) → k < n → (get_or rows k d).entry ≢ at) → (get_or rows n d).entry ≡ at
      → procedure_from first (map procedure_of rows) at
      ≡ Some (record { context = first + n; procedure = procedure_of (get_or rows n d) })
  procedure_found first [] n d lt before here = absurd (omega arith)
  procedure_found first (row ∷ rows) zero d lt before here =
      let same : eqb row.entry at ≡ true = grind (arith, nat_tests) in
      let count : first ≡ first + 0 = omega arith in
      rw same (ap (λ (m : ℕ). Some (record { context = m; procedure = procedure_of row })) count)
  procedure_found first (row ∷ rows) (suc n) d lt before here =
      let differs : row.entry ≢ at = before 0 (omega arith) in
      let other : eqb row.entry at ≡ false = grind (arith, nat_tests) in
      let count : (first + 1) + n ≡ first + suc n = omega arith in
      rw other (procedure_found (first + 1) rows n d (omega arith) (λ k less. before (suc k) (omega arith)) here
      ∙ ap (λ (m : ℕ). Some (record { context = m; procedure = procedure_of (get_or rows n d) })) count)

  -- the same, as a search finds it
  pub procedure_is : (rows : List ProcedureRow) (n : ℕ) (row : ProcedureRow) → n < length rows
      → ((k : ℕ) → k < n → (get_or rows k row).entry ≢ at) → row ≡ get_or rows n row → row.entry ≡ at
      → procedure_from 1 (map procedure_of rows) at ≡ Some (record { context = n + 1; procedure = procedure_of row })
  procedure_is rows n row lt before is here =
      let count : 1 + n ≡ n + 1 = omega arith in
      procedure_found 1 rows n row lt before (sym (ap (λ (r : ProcedureRow). r.entry) is) ∙ here)
      ∙ ap (λ (m : ℕ). Some (record { context = m; procedure = procedure_of (get_or rows n row) })) count
      ∙ ap (λ r. Some (record { context = n + 1; procedure = procedure_of r })) (sym is)

  pub procedure_missing : (first : ℕ) (rows : List ProcedureRow) → IsNowhere (λ row. row.entry) rows at
      → procedure_from first (map procedure_of rows) at ≡ None
  procedure_missing first [] all = refl
  procedure_missing first (row ∷ rows) all =
      let differs : row.entry ≢ at = all 0 row (omega arith) in
      let other : eqb row.entry at ≡ false = grind (arith, nat_tests) in
      rw other (procedure_missing (first + 1) rows (λ k d less. all (suc k) d (omega arith)))

-- the label rows of a module rise
labels_rise : (code_len : ℕ) (procedures : List Procedure) (low : ℕ) (rows : List LabelRow)
    → InOrder (LabelKeeps code_len procedures) behind_label low (map label_of rows) → Rise (λ row. row.offset) low rows
labels_rise code_len procedures low [] keeps = tt
labels_rise code_len procedures low (row ∷ rows) keeps =
    (keeps.0.offset.rises, labels_rise code_len procedures row.offset rows keeps.1)

pub module_labels : (t : Tables) → Keeps (contents_of t) → IsNonDecreasingBy (λ row. row.offset) t.labels.items
module_labels t keeps = non_decreasing (λ row. row.offset) 0 t.labels.items
    (labels_rise (length t.code.now) (map procedure_of t.procedures.items) 0 t.labels.items keeps.rows.labels)
