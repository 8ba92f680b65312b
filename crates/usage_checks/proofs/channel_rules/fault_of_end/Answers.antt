use Rattle.std.proofs.Common.{ap, ◌∙◌}
use Rattle.scalar_ranges.specs.Scopes.{entries_of}
use Rattle.program_uses.proofs.LowestOfBoth.{lowest_of, lowest_at, lowest_at2}
use Rattle.usage_checks.specs.PlaceRules.{channel_at, BreaksChannel}
use Rattle.usage_checks.specs.ChannelRules.{IsMisused}
use Rattle.usage_checks.proofs.channel_rules.fault_of_end.Goals as goal

pub returns : goal.returns
returns c =
    let es = entries_of c.args.scope.now in
    let place = c.place_ref-place.ensures in
    let carried = c.channel_at.ensures ∙ ap (channel_at es) place in
    lowest_of c.lower.ensures (lowest_at (BreaksChannel es) place c.fault_of_channel.ensures)
    (lowest_at2 (IsMisused c.args.position c.args.channel.now.name.now c.args.direction) c.find.ensures.number carried
    c.misused.ensures)
