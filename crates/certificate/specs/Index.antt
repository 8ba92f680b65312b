-- What look-ups need beside the tables.
use Rattle.std.specs.Prelude.{length}
use Rattle.certificate.specs.declared.index.Index.{Index}
use Rattle.module_format.specs.Contents.{Contents}
use Rattle.module_format.specs.Contexts.{branch_count}
use Rattle.certificate.specs.Starts.{AreStarts}
use Rattle.module_format.specs.Places.{ArePlaces}
use Rattle.certificate.specs.Branches.{AreNumbers}
use Rattle.certificate.specs.BranchRuns.{AreBranchRuns}
use Rattle.certificate.specs.Judged.{AreJudged, AreRowsJudged}
use Rattle.certificate.specs.Owned.{AreAllOwn}
use Rattle.certificate.specs.Written.{AreWritten}
use Rattle.certificate.specs.Named.{AreAllNamed}

-- the index of these contents
pub record IsIndex (c : Contents) (index : Index) : Type 0 where
  pub starts : AreStarts index.starts c
  pub places : ArePlaces c (branch_count c.pars) index.places.items
  pub numbers : AreNumbers c index.numbers.items
  pub runs : AreBranchRuns c index.runs.items
  pub own : AreAllOwn c (branch_count c.pars) index.own.items
  pub written : AreWritten c (length c.pars) index.written.items
  pub named : AreAllNamed c (length c.pars) index.named.items
  pub judged : AreJudged c index.judged.items
  pub judged_rows : AreRowsJudged c index.judged_rows.items
