use Rattle.std.proofs.Common.{◌∙◌, sym}
use Rattle.call_rules.proofs.Touching.{gives_none_of_each}
use Rattle.call_rules.proofs.given_ends.gives_other_ends.Goals as goal

pub returns-then-not-brings_channels : goal.returns-then-not-brings_channels
returns-then-not-brings_channels c =
    sym (gives_none_of_each c.args.one.now c.args.others.now
    (sym c.brings_channels.ensures ∙ c.if-not-brings_channels.true))
