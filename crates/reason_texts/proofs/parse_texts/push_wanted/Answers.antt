use Rattle.reason_texts.proofs.parse_texts.push_wanted.Goals as goal

pub returns : goal.returns
returns c = rw (← c.wanted_quote-quote.ensures, ← c.wanted_words-words.ensures) c.write.ensures.bytes
