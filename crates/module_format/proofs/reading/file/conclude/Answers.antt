use Rattle.module_format.specs.Contents.{contents_of}
use Rattle.module_format.proofs.FileLaws.{few_contexts}
use Rattle.module_format.proofs.reading.file.conclude.Goals as goal

pub of_places-requires-clause-few : goal.of_places-requires-clause-few
of_places-requires-clause-few c =
    let ready = c.requires c.in_ok-outcome.ensures in
    few_contexts (contents_of c.args.tables.now) ready.limits ready.rows

pub rows_references-requires : goal.rows_references-requires
rows_references-requires c = rw c.of_places.ensures (c.requires c.in_ok-outcome.ensures).fits
