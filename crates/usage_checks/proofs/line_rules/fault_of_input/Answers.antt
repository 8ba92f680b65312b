use Rattle.std.proofs.Common.{ap, ◌∙◌}
use Rattle.scalar_ranges.specs.Scopes.{entries_of}
use Rattle.program_uses.proofs.LowestOfBoth.{lowest_of, lowest_at, lowest_at2}
use Rattle.usage_checks.specs.PlaceRules.{target_at, channel_at, BreaksTarget, Differ}
use Rattle.usage_checks.proofs.line_rules.fault_of_input.Goals as goal

pub returns : goal.returns
returns c =
    let es = entries_of c.args.scope.now in
    let place = c.place_ref-place.ensures in
    let carried = c.channel_at.ensures ∙ ap (channel_at es) c.place_ref.ensures in
    let target = c.target_at.ensures ∙ ap (target_at es) place in
    lowest_of c.lower-2.ensures c.fault_of_end.ensures
    (lowest_of c.lower.ensures (lowest_at (BreaksTarget es) place c.fault_of_target.ensures)
    (lowest_at2 Differ carried target c.differ-typed.ensures))
