use Rattle.std.proofs.Common.{ap, ◌∙◌}
use Rattle.scalar_ranges.specs.Scopes.{entries_of}
use Rattle.program_uses.specs.Instances.{variable_at}
use Rattle.usage_checks.specs.Following.{assign_if}
use Rattle.usage_checks.proofs.following.after_assignment.Goals as goal

pub returns-clause-entries : goal.returns-clause-entries
returns-clause-entries c =
    let es = entries_of c.args.scope.now in
    let number = c.variable_at-number.ensures ∙ ap (variable_at es) c.place_ref.ensures in
    c.assign_if.ensures.entries ∙ (λ i. assign_if (number i) (c.range_of-range.ensures i) es)
