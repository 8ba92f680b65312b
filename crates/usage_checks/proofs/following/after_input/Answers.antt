use Rattle.std.proofs.Common.{ap, ◌∙◌}
use Rattle.scalar_ranges.specs.Scopes.{entries_of}
use Rattle.program_uses.specs.Instances.{variable_at}
use Rattle.usage_checks.specs.Following.{receive_if}
use Rattle.usage_checks.proofs.following.after_input.Goals as goal

pub returns-clause-entries : goal.returns-clause-entries
returns-clause-entries c =
    let es = entries_of c.args.scope.now in
    let number = c.variable_at-received.ensures ∙ ap (variable_at es) c.place_ref.ensures in
    c.receive_if.ensures.entries ∙ ap (λ n. receive_if n es) number
