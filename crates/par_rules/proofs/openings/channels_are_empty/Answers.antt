use Rattle.std.proofs.Common.{◌≡◌, ◌∙◌, ◌&&◌, Bool, true, false, sym, ap}
use Rattle.std.specs.List.{list_all}
use Rattle.word_arithmetic.specs.Word.{least_word}
use Rattle.module_format.specs.declared.rows.ChannelRow.{ChannelRow}
use Rattle.certificate.specs.Rights.{may_write_word}
use Rattle.states.specs.Below.{holds_constant}
use Rattle.states.specs.Views.{state_of}
use Rattle.par_rules.specs.Openings.{channel_is_empty}
use Rattle.par_rules.proofs.NamedParameters.{all_both}
use Rattle.par_rules.proofs.openings.channels_are_empty.Goals as goal

pub returns-then-owns_channels : goal.returns-then-owns_channels
returns-then-owns_channels c =
    let m = c.args.module.now in
    let s = state_of c.args.state.now in
    let channels = c.args.found.now.par.now.channels.items in
    let is_least = λ (ch : ChannelRow). holds_constant (s.frame ch.word) least_word in
    let least = rw c.deref.ensures.value at c.channels_are_least.ensures in
    let split : list_all (channel_is_empty m s) channels ≡ list_all is_least channels =
    all_both (λ (ch : ChannelRow). may_write_word m s.context ch.word) is_least channels
    ∙ ap (λ (b : Bool). b && list_all is_least channels) (sym c.owns_channels.ensures ∙ c.if-owns_channels.true) in
    least ∙ sym split

pub returns-else-owns_channels : goal.returns-else-owns_channels
returns-else-owns_channels c =
    let m = c.args.module.now in
    let s = state_of c.args.state.now in
    let channels = c.args.found.now.par.now.channels.items in
    let is_least = λ (ch : ChannelRow). holds_constant (s.frame ch.word) least_word in
    let split : list_all (channel_is_empty m s) channels ≡ false =
    all_both (λ (ch : ChannelRow). may_write_word m s.context ch.word) is_least channels
    ∙ ap (λ (b : Bool). b && list_all is_least channels) (sym c.owns_channels.ensures ∙ c.if-owns_channels.false) in
    c.if-owns_channels.false ∙ sym split
