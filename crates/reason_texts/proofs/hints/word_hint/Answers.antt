use Rattle.std.proofs.Common.{Some, None}
use Rattle.reason_texts.proofs.HintsFound.{hinted}
use Rattle.reason_texts.proofs.hints.word_hint.Goals as goal

pub returns-in-Some : goal.returns-in-Some
returns-in-Some c =
    hinted c.args.word.now c.lacked_words.result.now (Some c.in-Some.row.now) c.lacked_words.ensures c.in-Some.ensures

pub returns-in-None : goal.returns-in-None
returns-in-None c =
    hinted c.args.word.now c.lacked_words.result.now None c.lacked_words.ensures c.in-None.ensures
