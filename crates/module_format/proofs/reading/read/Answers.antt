use Rattle.std.proofs.Common.{◌≡◌, arith, rules}
use Rattle.module_format.specs.Contents.{Contents, contents_of}
use Rattle.module_format.specs.Keeping.{IsFile}
use Rattle.module_format.specs.Reading.{fault_of, out_of_memory}
use Rattle.module_format.specs.declared.tables.Version.{Version}
use Rattle.module_format.proofs.ReadsInSteps.{has_at}
use Rattle.module_format.proofs.FileLaws.{read_finds, one_file, only_memory}
use Rattle.module_format.proofs.reading.read.Goals as goal

pub returns-clause-found : goal.returns-clause-found
returns-clause-found c =
    has_at _ _ (read_finds c.args.bytes.now (λ i. omega (arith, c.type_inv.bytes i))) c.in_ok-tables.ensures.gives

pub returns-clause-only : goal.returns-clause-only
returns-clause-only c = λ version d f.
    let tables = c.in_ok-tables.tables in
    one_file c.args.bytes.now tables.version version (contents_of tables) d
    (has_at _ _ (read_finds c.args.bytes.now (λ i. omega
    (arith, c.type_inv.bytes i))) c.in_ok-tables.ensures.gives) f

pub returns-in_err-tables-clause-only : goal.returns-in_err-tables-clause-only
returns-in_err-tables-clause-only c = λ version d f.
    let told =
    only_memory version c.args.bytes.now d c.in_err-tables.field-0.0 f c.in_err-tables.ensures.gives in
    search (rules, told)

pub returns-in_err-tables-clause-refused : goal.returns-in_err-tables-clause-refused
returns-in_err-tables-clause-refused c =
    let told : (version : Version) (d : Contents) → IsFile version c.args.bytes.now d
    → fault_of c.in_err-tables.field-0.0 ≡ out_of_memory =
    λ version d f. only_memory version c.args.bytes.now d c.in_err-tables.field-0.0 f c.in_err-tables.ensures.gives in
    search (rules, told)
