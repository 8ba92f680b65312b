-- The PAR rows of a draft, by the rows of a file that they are.
use Rattle.std.specs.Prelude.{◌≡◌, ℕ, List, [], map, Option}
use Rattle.module_format.specs.Contents as contents
use Rattle.module_format.specs.Contents.{branch_with, par_with}
use Rattle.module_format.specs.declared.rows.ParRow.{ParRow}
use Rattle.module_builder.specs.declared.item.Label.{Label}
use Rattle.module_builder.specs.declared.draft.ContextName.{ContextName}
use Rattle.module_builder.specs.Placing.{label_offset, placed_par}
use Rattle.code_pieces.specs.declared.piece.CodeContext.{CodeContext}
use Rattle.code_pieces.specs.Pars.{Par, ParBranch}
use Rattle.code_pieces.specs.Contexts.{context_name}
use Rattle.code_pieces.specs.Laying.{label}

-- the row of a file, where labels have these offsets
abbrev pub laid_branch : List (Option ℕ) → ParBranch → contents.Branch
laid_branch offsets b =
    branch_with (label_offset offsets (label b.entry)) b.depth b.writes b.reads [] [] b.ends

-- The same, where contexts have these numbers. The block is where the opener has its workspace.
abbrev pub laid_par : (CodeContext → ℕ) → List (Option ℕ) → Par → contents.Par
laid_par number offsets p =
    par_with (number p.opener.context) p.opener.depth p.opener.depth (label_offset offsets (label p.successor))
    p.channels (map (laid_branch offsets) p.branches)

-- Whatever the numbers of contexts and the offsets of labels are, rows of a draft become those of these PARs, whose
-- contexts are named as these PARs name them.
abbrev pub AreRows : List Par → List Par → List (ParRow Label ContextName) → Type 0
AreRows all ps rows =
    (number : ContextName → ℕ) (offsets : List (Option ℕ))
    → map (λ (row : ParRow Label ContextName). placed_par offsets (number row.context) row) rows
    ≡ map (laid_par (λ context. number (context_name all context)) offsets) ps
