use Rattle.module_format.specs.Contents.{contents_of}
use Rattle.module_format.proofs.FileLaws.{few_contexts}
use Rattle.certificate.proofs.modules.Module.contexts.Goals as goal

pub of_places-requires-clause-few : goal.of_places-requires-clause-few
of_places-requires-clause-few c =
    let keeps = c.self.invariant.0.keeps in
    few_contexts (contents_of c.self.inside.tables) keeps.limits keeps.rows
