use Rattle.std.proofs.Common.{arith}
use Rattle.std.proofs.lemmas.Int.{ints}
use Rattle.module_format.specs.Order.{least_word}
use Rattle.certificate.proofs.WordLaws.{rises}
use Rattle.certificate.proofs.modules.Module.written_words.Goals as goal

pub returns-clause-order : goal.returns-clause-order
returns-clause-order c =
    rises least_word least_word c.joined_writes.result.now (grind (arith, ints)) c.joined_writes.ensures.apart
