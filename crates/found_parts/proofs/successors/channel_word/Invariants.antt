use Rattle.std.proofs.Common.{◌≡◌, drop}
use Rattle.found_parts.specs.Successors.{said_word}
use Rattle.found_parts.specs.Firsts.{first_of}
use Rattle.found_parts.proofs.successors.channel_word.Given as goal

abbrev pub invariant-loop-channel : goal.invariant-loop-channel
invariant-loop-channel l =
    first_of (λ c. said_word l.entry c.word) l.channels
    ≡ first_of (λ c. said_word l.entry c.word) (drop l.channel-index l.channels)
