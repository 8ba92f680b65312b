-- The rows of an offset, in words.
use Rattle.std.specs.Prelude.{ℕ, [], ◌++◌, Option, Some, None}
use Rattle.module_format.specs.Contents.{Contents, Label, label_at}
use Rattle.certificate.specs.Starts.{Entered, procedure_at}
use Rattle.certificate.specs.Branches.{Forked, branch_at}
use Rattle.fact_texts.specs.Texts.{Text}
use Rattle.fact_texts.specs.RowTexts.{label_text, procedure_text, branch_text}

abbrev pub label_line : Contents → Option Label → Text
label_line m None = []
label_line m (Some t) = label_text m t

abbrev pub procedure_line : Contents → Option Entered → Text
procedure_line m None = []
procedure_line m (Some e) = procedure_text m e.context e.procedure

abbrev pub branch_line : Contents → Option Forked → Text
branch_line m None = []
branch_line m (Some f) = branch_text m f.context f.branch

-- the rows of an offset
unfoldable pub context_rows : Contents → ℕ → Text
context_rows m at = procedure_line m (procedure_at m at) ++ branch_line m (branch_at m at)

unfoldable pub rows_text : Contents → ℕ → Text
rows_text m at = label_line m (label_at m at) ++ context_rows m at
