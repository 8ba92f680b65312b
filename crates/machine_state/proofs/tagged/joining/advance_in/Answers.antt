use Rattle.std.proofs.lemmas.Result.{MatchResult-weaker}
use Rattle.machine_state.specs.Progressing.{progress_view}
use Rattle.machine_state.specs.Roles.{with_branch}
use Rattle.machine_state.proofs.RolesChanging.{role_changed_at, role_stays}
use Rattle.machine_state.proofs.tagged.joining.advance_in.Goals as goal

pub returns-then-place-roles : goal.returns-then-place-roles
returns-then-place-roles c = MatchResult-weaker c.advance.result c.advance.ensures
    (λ x e. role_changed_at c.args.roles.now c.args.opener (with_branch (progress_view c.args.to) c.args.member)
    c.index-roles-place.result c.advance.new.self c.if-place-roles.true e)
    (λ x e. role_stays c.args.roles.now c.args.opener c.index-roles-place.result c.advance.new.self
    c.if-place-roles.true e)
