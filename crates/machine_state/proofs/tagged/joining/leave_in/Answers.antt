use Rattle.machine_state.specs.Roles.{without_member}
use Rattle.machine_state.proofs.RolesChanging.{role_changed_at}
use Rattle.machine_state.proofs.tagged.joining.leave_in.Goals as goal

pub returns-then-place-roles : goal.returns-then-place-roles
returns-then-place-roles c =
    role_changed_at c.args.roles.now c.args.opener (without_member c.args.process) c.index-roles-place.result
    c.remove_member.new.self
    c.if-place-roles.true c.remove_member.ensures
