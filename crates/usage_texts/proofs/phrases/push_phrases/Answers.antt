use Rattle.std.proofs.Common.{arith}
use Rattle.std.proofs.lemmas.Grind.{common_steps}
use Rattle.usage_texts.proofs.PhrasesFlat.{phrases_flat}
use Rattle.usage_texts.proofs.phrases.push_phrases.Goals as goal

pub returns : goal.returns
returns c = rw (← phrases_flat c.args.phrases.now) (grind (arith, common_steps))
