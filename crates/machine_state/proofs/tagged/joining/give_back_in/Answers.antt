use Rattle.machine_state.specs.Roles.{without_own}
use Rattle.machine_state.proofs.RolesChanging.{role_changed_at}
use Rattle.machine_state.proofs.tagged.joining.give_back_in.Goals as goal

pub returns-then-place-roles : goal.returns-then-place-roles
returns-then-place-roles c =
    role_changed_at c.args.roles.now c.args.process without_own c.index-roles-place.result c.give_back.new.self
    c.if-place-roles.true c.give_back.ensures
