use Rattle.module_format.specs.Contents.{contents_of}
use Rattle.certificate.specs.Named.{AreAllNamed}
use Rattle.certificate.proofs.named.named_of.Given as goal

abbrev pub invariant-loop-index : goal.invariant-loop-index
invariant-loop-index l = AreAllNamed (contents_of l.tables) l.index l.named.items
