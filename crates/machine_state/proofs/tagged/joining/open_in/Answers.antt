use Rattle.machine_state.specs.Views.{join_view}
use Rattle.machine_state.specs.Roles.{with_join}
use Rattle.machine_state.proofs.RolesChanging.{role_changed_at}
use Rattle.machine_state.proofs.tagged.joining.open_in.Goals as goal

pub returns-then-place-roles : goal.returns-then-place-roles
returns-then-place-roles c =
    role_changed_at c.args.roles.now c.args.opener (with_join (join_view c.args.join)) c.index-roles-place.result
    c.open_join.new.self
    c.if-place-roles.true c.open_join.ensures
