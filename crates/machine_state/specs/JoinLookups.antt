-- What starts and ends look up: branches by code offset, the parameters that a row names, and open joins.
use Rattle.std.specs.Prelude.{ℕ, ◌+◌, ◌==◌, ◌||◌, Bool, false, if◌then◌else◌, ℤ, pos, nat_abs, List, [], ◌∷◌, Option}
use Rattle.std.specs.Prelude.{Some, None}
use Rattle.std.specs.List.{list_any}
use Rattle.module_format.specs.declared.rows.Parameter.{Parameter}
use Rattle.module_format.specs.declared.rows.EndRow.{EndRow}
use Rattle.module_format.specs.declared.rows.EndKind.{EndKind}
use Rattle.module_format.specs.declared.rows.EndKind.TheVariants as ends
use Rattle.module_format.specs.Contents.{Contents, Par, Branch}
use Rattle.machine_state.specs.World.{World, Join}
use Rattle.machine_state.specs.Roles.{opened_in, opener_in}

-- ---- branches

-- the branch of a row that begins at a code offset, with its number in the row
abbrev pub found_in_row : ℕ → ℕ → List Branch → Option (ℕ × Branch)
found_in_row target i [] = None
found_in_row target i (b ∷ bs) = if b.entry == target then Some (i, b) else found_in_row target (i + 1) bs

-- a branch, and where it is: its row by number, and its own number in the row
pub record Found : Type 0 where
  pub row : ℕ
  pub par : Par
  pub number : ℕ
  pub branch : Branch

abbrev pub found_from : ℕ → ℕ → List Par → Option Found
found_from target r [] = None
found_from target r (par ∷ pars) = elim (found_in_row target 0 par.branches) [
  | Some b ↦ Some (record { row = r; par = par; number = b.0; branch = b.1 })
  | None ↦ found_from target (r + 1) pars
]

-- the branch that begins at a code offset, found by its row
abbrev pub found_at : Contents → ℕ → Option Found
found_at m target = found_from target 0 m.pars

-- ---- the parameters that a row names

-- whether a row names parameter j
abbrev pub names_end : ℕ → EndKind → Bool
names_end j (ends.Parameter number element) = nat_abs number == j
names_end j kind = false

abbrev pub branch_names : ℕ → Branch → Bool
branch_names j b =
    list_any (λ k. k == j) b.written_parameters || list_any (λ k. k == j) b.read_parameters
    || list_any (λ (e : EndRow). names_end j e.kind) b.ends

abbrev pub row_names : Par → ℕ → Bool
row_names par j = list_any (branch_names j) par.branches

-- the words of the parameters that a row names
abbrev pub named_from : Par → ℕ → List Parameter → List (Option ℤ)
named_from par j [] = []
named_from par j (p ∷ ps) = (if row_names par j then Some (pos p.word) else None) ∷ named_from par (j + 1) ps

-- ---- open joins

-- the join that a process has open, and who has opened the one that it is in
abbrev pub opened_by : World → ℕ → Option Join
opened_by w p = opened_in w.roles p

abbrev pub opener_of : World → ℕ → Option ℕ
opener_of w p = opener_in w.roles p
