-- Where the rows of branches are, in the order of their contexts.
use Rattle.std.specs.Prelude.{◌≡◌, ℕ, ◌+◌, ◌<◌, ◌≤◌, nat_lt, if◌then◌else◌, List, map, length, take, slice_get}
use Rattle.std.specs.Prelude.{slice_index_or, Option, Some, None, MatchOption}
use Rattle.std.specs.List.{flat_map}
use Rattle.module_format.specs.declared.places.Place.{Place}
use Rattle.module_format.specs.declared.row_owners.RowOwner.{RowOwner}
use Rattle.module_format.specs.Contents.{Branch, Par, Contents}
use Rattle.module_format.specs.Contexts.{owner, branch_count, first_branch}

-- the branches of PAR rows in the order of their contexts, each with its row
abbrev pub branches_of : List Par → List (Par × Branch)
branches_of rows = flat_map (λ row. map (λ b. (row, b)) row.branches) rows

-- the root or procedure that context n is or belongs to, where there is that context
abbrev pub owner_at : Contents → ℕ → Option ℕ
owner_at c n =
    let first = first_branch c in
    if nat_lt n (first + branch_count c.pars) then Some (owner first c.pars n) else None

-- this is the place of the branch with `before` branches before it: its PAR row, its number in the row and its owner
pub record IsPlace (c : Contents) (before : ℕ) (place : Place) : Type 0 where
  pub stands : MatchOption (slice_get c.pars place.par) ⊥ (λ row. MatchOption (slice_get row.branches place.branch) ⊥
      (λ b. slice_get (branches_of c.pars) before ≡ Some (row, b)))
  pub owner : place.owner ≡ owner (first_branch c) c.pars (first_branch c + before)

-- the places of the first `count` branches
pub record ArePlaces (c : Contents) (count : ℕ) (places : List Place) : Type 0 where
  pub many : length places ≡ count
  pub each : (i : ℕ) (d : Place) → i < length places → IsPlace c i (slice_index_or places i d)

-- ---- by PAR rows

-- the context after the branches of the first k rows
abbrev pub rows_end : Contents → ℕ → ℕ
rows_end c k = first_branch c + branch_count (take k c.pars)

-- where the branches of row k end, and what each of them belongs to
pub record IsRowOwner (c : Contents) (k : ℕ) (row : RowOwner) : Type 0 where
  pub end : row.end ≡ rows_end c (k + 1)
  pub owner : (n : ℕ) → rows_end c k ≤ n → n < rows_end c (k + 1) → owner (first_branch c) c.pars n ≡ row.owner

-- what the branches of the first `count` rows belong to
pub record AreRowOwners (c : Contents) (count : ℕ) (rows : List RowOwner) : Type 0 where
  pub many : length rows ≡ count
  pub each : (k : ℕ) (d : RowOwner) → k < length rows → IsRowOwner c k (slice_index_or rows k d)

-- row k is there, and has the owner of context n
pub record IsOwnersRow (c : Contents) (rows : List RowOwner) (n k : ℕ) : Type 0 where
  pub inside : k < length rows
  pub owner : (d : RowOwner) → (slice_index_or rows k d).owner ≡ owner (first_branch c) c.pars n
