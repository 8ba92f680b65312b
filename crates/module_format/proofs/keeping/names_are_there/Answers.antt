use Rattle.module_format.specs.Contents.{contents_of}
use Rattle.module_format.proofs.FileLaws.{few_contexts}
use Rattle.module_format.proofs.KeepingLaws.{rows_in_memory, names_is}
use Rattle.module_format.proofs.keeping.names_are_there.Goals as goal

pub of_rows-requires-clause-few : goal.of_rows-requires-clause-few
of_rows-requires-clause-few c = few_contexts (contents_of c.args.tables.now) c.requires.limits c.requires.rows

pub rows_references-requires : goal.rows_references-requires
rows_references-requires c =
    rw c.of_rows.ensures (rows_in_memory (contents_of c.args.tables.now) c.requires.limits c.requires.rows)

pub returns : goal.returns
returns c =
    rw c.is_ok.ensures.value
    (names_is c.rows_references.result (contents_of c.args.tables.now) 0
    (rw c.of_rows.ensures at c.rows_references.ensures))
