use Rattle.std.proofs.Common.{◌≡◌, drop}
use Rattle.found_parts.specs.Gifts.{given_word}
use Rattle.found_parts.specs.Firsts.{first_of}
use Rattle.found_parts.proofs.gifts.channel_word.Given as goal

abbrev pub invariant-loop-channel : goal.invariant-loop-channel
invariant-loop-channel l =
    first_of (λ c. given_word l.«module» l.context c.word) l.channels
    ≡ first_of (λ c. given_word l.«module» l.context c.word) (drop l.channel-index l.channels)
