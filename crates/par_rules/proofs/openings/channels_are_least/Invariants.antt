use Rattle.std.proofs.Common.{◌≡◌, length}
use Rattle.std.specs.List.{list_all}
use Rattle.word_arithmetic.specs.Word.{least_word}
use Rattle.module_format.specs.declared.rows.ChannelRow.{ChannelRow}
use Rattle.states.specs.Below.{holds_constant}
use Rattle.states.specs.Views.{state_of}
use Rattle.par_rules.proofs.openings.channels_are_least.Given as goal

abbrev pub invariant-loop-channel : goal.invariant-loop-channel
invariant-loop-channel l =
    list_all (λ (c : ChannelRow). holds_constant ((state_of l.state).frame c.word) least_word) l.channels
    ≡ list_all (λ (c : ChannelRow). holds_constant ((state_of l.state).frame c.word) least_word) l.rest

abbrev pub decreases-loop-channel : goal.decreases-loop-channel
decreases-loop-channel l = length l.rest
