-- What the branches of each PAR row belong to.
use Rattle.std.proofs.Common.{◌≡◌, ℕ, zero, suc, ◌+◌, ◌-◌, ◌^◌, ◌<◌, ◌≤◌, leb, true, false, List, [], ◌∷◌, ◌++◌, length}
use Rattle.std.proofs.Common.{vec_len, take, get_or, Some, sym, ◌∙◌, inl, inr, add-one, arith}
use Rattle.std.specs.Prelude.{slice_get}
use Rattle.std.specs.List.Sorted.{IsNonDecreasingBy, IsPartitionPoint}
use Rattle.std.proofs.lemmas.Bool.{cases_lt, leb-true, leb-false}
use Rattle.std.proofs.lemmas.List.{length-append, length-map, take_all}
use Rattle.module_format.specs.declared.row_owners.RowOwner.{RowOwner}
use Rattle.module_format.specs.Rows.{ParRow}
use Rattle.module_format.specs.declared.tables.Tables.{Tables}
use Rattle.module_format.specs.Contents.{Par, Contents, par_of, branch_of, contents_of}
use Rattle.module_format.specs.Contexts.{owner, branch_count, first_branch, HasFewContexts}
use Rattle.module_format.specs.Pars.{no_branches}
use Rattle.module_format.specs.Keeping.{RowsKeep}
use Rattle.module_format.specs.Places.{rows_end, IsRowOwner, AreRowOwners}
use Rattle.module_format.proofs.PlaceLaws.{each_more}
use Rattle.module_format.proofs.PlaceLaws.{count_cons, count_more, context_before, owner_of_branch, item_there}

-- ---- where rows end

-- more rows have no fewer branches
count_rises : (k l : ℕ) (rows : List Par) → k ≤ l → branch_count (take k rows) ≤ branch_count (take l rows)
count_rises zero l rows le = omega arith
count_rises (suc k) zero rows le = absurd (omega arith)
count_rises (suc k) (suc l) [] le = omega arith
count_rises (suc k) (suc l) (row ∷ rows) le =
    omega (arith, count_cons row (take k rows), count_cons row (take l rows), count_rises k l rows (omega arith))

pub rows_end_few : (c : Contents) (k : ℕ) → HasFewContexts c → rows_end c k < 2 ^ 64
rows_end_few c k few =
    let all : take (k + length c.pars) c.pars ≡ c.pars = take_all (k + length c.pars) c.pars (omega arith) in
    let most = rw all at (count_rises k (k + length c.pars) c.pars (omega arith)) in
    omega (arith, most, few)

-- ---- the row of a context

pub ends_rise : (c : Contents) (count : ℕ) (rows : List RowOwner) → AreRowOwners c count rows
    → IsNonDecreasingBy (λ (o : RowOwner). o.end) rows
ends_rise c count rows h i j d le lt =
    omega (arith, (h.each i d (omega arith)).end, (h.each j d lt).end, count_rises (i + 1) (j + 1) c.pars (omega arith))

module _ (c : Contents) (count : ℕ) (rows : List RowOwner) (h : AreRowOwners c count rows) (n index : ℕ) (d : RowOwner)
    (point : IsPartitionPoint (λ (o : RowOwner). leb o.end n ≡ true) (λ (o : RowOwner). leb o.end n ≡ false) rows index)
    (first : first_branch c ≤ n) (inside : n < rows_end c (length rows)) where
  -- the first k rows end before the context
  before : (k : ℕ) → k ≤ index → k ≤ length rows → rows_end c k ≤ n
  before zero le lt = omega (arith, first)
  before (suc k) le lt =
      let last = leb-true (get_or rows k d).end n (point.0 k d (omega arith) (omega arith)) in
      let end = rw add-one at ((h.each k d (omega arith)).end) in
      omega (arith, last, end)

  pub row_there : index < length rows
  row_there = elim (cases_lt index (length rows)) [
    | inl lt ↦ lt
    | inr past ↦ absurd (let all = before (length rows) past (omega arith) in omega arith)
  ]

  pub owner_there : owner (first_branch c) c.pars n ≡ (get_or rows index d).owner
  owner_there =
      let lt = row_there in
      let row = h.each index d lt in
      let after = leb-false (get_or rows index d).end n (point.1 index d (omega arith) lt) in
      row.owner n (before index (omega arith) (omega arith)) (omega (arith, after, row.end))

-- ---- one row more

-- the row that a loop has at an index
pub row_here : (t : Tables) (rows : List ParRow) (i : ℕ) (row : ParRow) → rows ≡ t.pars.items → i < length rows
    → row ≡ get_or rows i row → slice_get (contents_of t).pars i ≡ Some (par_of row)
row_here t rows i row same lt is = item_there par_of t.pars.items i row (rw same at lt) (rw same at is)

-- how many branches it has
pub branches_here : (row : ParRow) (n : ℕ) → n ≡ vec_len row.branches → n ≡ length (par_of row).branches
branches_here row n is = is ∙ row.branches.ok.0 ∙ sym (length-map row.branches.items branch_of)

-- the context of a row is there before its branches are
pub context_there : (c : Contents) (k : ℕ) (row : Par) → RowsKeep c → slice_get c.pars k ≡ Some row
    → row.context < rows_end c k
context_there c k row keeps is =
    omega (arith, context_before (first_branch c) (length c.code) no_branches c.pars k row keeps.pars is)

is_row_owner : (c : Contents) (k : ℕ) (row : Par) (o : RowOwner) → RowsKeep c → slice_get c.pars k ≡ Some row
    → o.end ≡ rows_end c k + length row.branches
    → o.owner ≡ owner (first_branch c) c.pars row.context → IsRowOwner c k o
is_row_owner c k row o keeps is end owns =
    let count = count_more c.pars k row is in
    record {
      end = omega arith;
      owner = λ n low high.
          let b = n - rows_end c k in
          let there : n ≡ first_branch c + (branch_count (take k c.pars) + b) = omega arith in
          rw there (owner_of_branch (first_branch c) c.pars k b row is (omega arith)
          (context_there c k row keeps is) ∙ sym owns);
    }

pub more_row_owners : (c : Contents) (k : ℕ) (row : Par) (rows : List RowOwner) (o : RowOwner) → RowsKeep c
    → slice_get c.pars k ≡ Some row
    → o.end ≡ rows_end c k + length row.branches → o.owner ≡ owner (first_branch c) c.pars row.context
    → AreRowOwners c k rows → AreRowOwners c (k + 1) (rows ++ o ∷ [])
more_row_owners c k row rows o keeps is end owns h =
    let here = is_row_owner c k row o keeps is end owns in
    let count = h.many in
    let longer = length-append rows (o ∷ []) in
    record {
      many = omega arith;
      each = each_more (IsRowOwner c) rows o h.each (rw count here);
    }
