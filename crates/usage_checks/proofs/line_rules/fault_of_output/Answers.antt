use Rattle.std.proofs.Common.{ap, ◌∙◌}
use Rattle.scalar_ranges.specs.Scopes.{entries_of}
use Rattle.program_uses.proofs.LowestOfBoth.{lowest_of, lowest_at2}
use Rattle.usage_checks.specs.PlaceRules.{channel_at, Differ}
use Rattle.usage_checks.proofs.line_rules.fault_of_output.Goals as goal

pub returns : goal.returns
returns c =
    let carried = c.channel_at.ensures ∙ ap (channel_at (entries_of c.args.scope.now)) c.place_ref.ensures in
    lowest_of c.lower-2.ensures c.fault_of_end.ensures
    (lowest_of c.lower.ensures c.fault_of.ensures
    (lowest_at2 Differ carried c.type_of.ensures c.differ-typed.ensures))
