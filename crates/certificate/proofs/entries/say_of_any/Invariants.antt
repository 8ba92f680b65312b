use Rattle.std.proofs.Common.{◌≡◌, length}
use Rattle.std.specs.List.{list_any}
use Rattle.module_format.specs.declared.rows.ChannelRow.{ChannelRow}
use Rattle.certificate.specs.Starting.{says_of_word}
use Rattle.certificate.proofs.entries.say_of_any.Given as goal

abbrev pub invariant-loop-channel : goal.invariant-loop-channel
invariant-loop-channel l =
    list_any (λ (c : ChannelRow). list_any (says_of_word c.word) l.entries) l.rest
    ≡ list_any (λ (c : ChannelRow). list_any (says_of_word c.word) l.entries) l.channels

abbrev pub decreases-loop-channel : goal.decreases-loop-channel
decreases-loop-channel l = length l.rest
