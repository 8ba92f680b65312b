-- What begins at an offset, in words.
use Rattle.std.specs.Prelude.{ℕ, ◌++◌, codes, Option, Some, None}
use Rattle.module_format.specs.Contents.{Contents}
use Rattle.certificate.specs.Starts.{Entered}
use Rattle.certificate.specs.Branches.{Forked}
use Rattle.fact_texts.specs.Texts.{Text}
use Rattle.fact_texts.specs.RowTexts.{context_text}

unfoldable pub begun_text : Contents → ℕ → Text
begun_text m n = codes "; " ++ (context_text m n ++ codes " begins there")

-- which procedure begins there
abbrev pub procedure_begun : Contents → Option Entered → Text
procedure_begun m None = codes "; none begins there"
procedure_begun m (Some e) = begun_text m e.context

-- which branch begins there
abbrev pub branch_begun : Contents → Option Forked → Text
branch_begun m None = codes "; none begins there"
branch_begun m (Some f) = begun_text m f.context
