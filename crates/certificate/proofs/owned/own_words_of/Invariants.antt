use Rattle.module_format.specs.Contents.{contents_of}
use Rattle.certificate.specs.Owned.{AreAllOwn}
use Rattle.certificate.proofs.owned.own_words_of.Given as goal

abbrev pub invariant-loop-number : goal.invariant-loop-number
invariant-loop-number l = AreAllOwn (contents_of l.tables) l.number l.own.items
