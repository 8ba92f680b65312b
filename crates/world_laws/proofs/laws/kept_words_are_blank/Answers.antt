use Rattle.world_laws.proofs.KeptWords.{blocks_are_blank, channel_words_are_blank}
use Rattle.world_laws.proofs.laws.kept_words_are_blank.Goals as goal

pub returns-clause-blocks : goal.returns-clause-blocks
returns-clause-blocks c = blocks_are_blank

pub returns-clause-channels : goal.returns-clause-channels
returns-clause-channels c = channel_words_are_blank
