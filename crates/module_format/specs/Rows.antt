-- The rows of a file, and what is in them: places in the code are offsets, and contexts are numbers.
use Rattle.std.specs.Prelude.{ℕ}
use Rattle.module_format.specs.declared.fact.Fact as fact
use Rattle.module_format.specs.declared.rows.Entry as entry
use Rattle.module_format.specs.declared.rows.ProcedureRow as procedure
use Rattle.module_format.specs.declared.rows.LabelRow as label
use Rattle.module_format.specs.declared.rows.BranchRow as branch
use Rattle.module_format.specs.declared.rows.ParRow as par

abbrev pub Fact : Type 0
Fact = fact.Fact ℕ

abbrev pub Entry : Type 0
Entry = entry.Entry ℕ

abbrev pub ProcedureRow : Type 0
ProcedureRow = procedure.ProcedureRow ℕ

abbrev pub LabelRow : Type 0
LabelRow = label.LabelRow ℕ ℕ

abbrev pub BranchRow : Type 0
BranchRow = branch.BranchRow ℕ

abbrev pub ParRow : Type 0
ParRow = par.ParRow ℕ ℕ
