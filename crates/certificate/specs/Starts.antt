-- The code offsets where the tables say that an instruction starts, and what begins there.
use Rattle.std.specs.Prelude.{◌≡◌, ℕ, ◌+◌, ◌==◌, ◌||◌, Bool, if◌then◌else◌, List, [], ◌∷◌, get_or, false, Option, Some}
use Rattle.std.specs.Prelude.{None, is_some}
use Rattle.std.specs.List.{list_any}
use Rattle.module_format.specs.Contents.{Procedure, Contents, label_at}
use Rattle.module_format.specs.Pars.{entries_of_rows}

-- a procedure that begins at an offset, with the number of its context
pub record Entered : Type 0 where
  pub context : ℕ
  pub procedure : Procedure

-- the procedure that begins at an offset, where the first of these has context n
abbrev pub procedure_from : ℕ → List Procedure → ℕ → Option Entered
procedure_from n [] at = None
procedure_from n (p ∷ ps) at =
    if p.entry == at then Some (record { context = n; procedure = p }) else procedure_from (n + 1) ps at

abbrev pub procedure_at : Contents → ℕ → Option Entered
procedure_at c at = procedure_from 1 c.procedures at

-- the tables say that an instruction starts at the offset: it has a label row, or a procedure or a branch begins
-- there, or it is the successor of a PAR
abbrev pub is_start : Contents → ℕ → Bool
is_start c at =
    is_some (label_at c at) || is_some (procedure_at c at)
    || list_any (λ entry. entry == at) (entries_of_rows c.pars) || list_any (λ row. row.successor == at) c.pars

-- whether there is a mark at the offset
abbrev pub has_mark : List Bool → ℕ → Bool
has_mark marks at = get_or marks at false

-- the marks are those from before and one at each of these offsets
abbrev pub Adds : List Bool → List ℕ → List Bool → Type 0
Adds before offsets marks = (n : ℕ) → has_mark marks n ≡ (list_any (λ offset. offset == n) offsets || has_mark before n)

-- marks where the tables say that an instruction starts
abbrev pub AreStarts : List Bool → Contents → Type 0
AreStarts marks c = (n : ℕ) → has_mark marks n ≡ is_start c n
