use Rattle.machine_state.specs.Roles.{without_join}
use Rattle.machine_state.proofs.RolesChanging.{role_changed_at}
use Rattle.machine_state.proofs.tagged.joining.close_in.Goals as goal

pub returns-then-place-roles : goal.returns-then-place-roles
returns-then-place-roles c =
    role_changed_at c.args.roles.now c.args.opener without_join c.index-roles-place.result c.close_join.new.self
    c.if-place-roles.true c.close_join.ensures
