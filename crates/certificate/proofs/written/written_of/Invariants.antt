use Rattle.module_format.specs.Contents.{contents_of}
use Rattle.certificate.specs.Written.{AreWritten}
use Rattle.certificate.proofs.written.written_of.Given as goal

abbrev pub invariant-loop-index : goal.invariant-loop-index
invariant-loop-index l = AreWritten (contents_of l.tables) l.index l.written.items
