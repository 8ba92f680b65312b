-- The contexts of a module, by number: 0 the root, then the procedures in the order of their rows, then
-- the branches, PAR row by PAR row. A branch belongs to the root or procedure of its PAR's context, and
-- uses the same frame words.
use Rattle.std.specs.Prelude.{ℕ, ◌+◌, ◌^◌, ◌<◌, ◌-◌, ◌==◌, pos, neg_ℤ, ◌-ℤ◌, nat_lt, if◌then◌else◌, List, [], ◌∷◌}
use Rattle.std.specs.Prelude.{length, sum_by, slice_get, Option, Some, None, option_map}
use Rattle.module_format.specs.declared.contexts.Context.{Context}
use Rattle.module_format.specs.declared.rows.Parameter.{Parameter}
use Rattle.module_format.specs.Contents.{Procedure, Par, Contents}

-- the root's frame is the data area, whose word `base` is its word 0
abbrev pub root_context : Contents → Context
root_context c = record { lo = neg_ℤ (pos c.base); hi = pos c.data_words -ℤ pos c.base; parameters = 0 }

abbrev pub procedure_context : Procedure → Context
procedure_context p = record { lo = p.lo; hi = p.hi; parameters = length p.parameters }

-- the procedure of row n - 1
abbrev pub procedure_numbered : Contents → ℕ → Option Procedure
procedure_numbered c n = if n == 0 then None else slice_get c.procedures (n - 1)

-- the root, or the procedure of row n - 1
abbrev pub own_context : Contents → ℕ → Option Context
own_context c n =
    if n == 0 then Some (root_context c) else option_map procedure_context (slice_get c.procedures (n - 1))

-- how many branches PAR rows have
abbrev pub branch_count : List Par → ℕ
branch_count rows = sum_by (λ row. length row.branches) rows

-- the root or procedure that context n is or belongs to, where `first` is the first branch of the rows
abbrev pub owner : ℕ → List Par → ℕ → ℕ
owner first [] n = n
owner first (row ∷ rows) n =
    let within = owner (first + length row.branches) rows n in
    if nat_lt within first then within else row.context

-- the first context that is a branch's
abbrev pub first_branch : Contents → ℕ
first_branch c = 1 + length c.procedures

-- the contexts can be counted in a machine word
abbrev pub HasFewContexts : Contents → Type 0
HasFewContexts c = first_branch c + branch_count c.pars < 2 ^ 64

-- the context of this number, where there is one
unfoldable pub context_at : Contents → ℕ → Option Context
context_at c n =
    let first = first_branch c in
    if nat_lt n (first + branch_count c.pars) then own_context c (owner first c.pars n) else None

-- the parameters of the procedure of row n - 1; the root has none
abbrev pub own_parameters : Contents → ℕ → List Parameter
own_parameters c n =
    if n == 0 then [] else elim (slice_get c.procedures (n - 1)) [ None ↦ [] | Some p ↦ p.parameters ]

-- the parameters of the procedure that a context is or belongs to; none where there is no such context
unfoldable pub parameters_at : Contents → ℕ → List Parameter
parameters_at c n =
    let first = first_branch c in
    if nat_lt n (first + branch_count c.pars) then own_parameters c (owner first c.pars n) else []
