-- How what the program keeps of a process shows in the specifications: vectors as lists.
use Rattle.std.specs.Option.{option_map}
use Rattle.machine_state.specs.declared.holding.Holding as kept
use Rattle.machine_state.specs.declared.role.Join as kept_join
use Rattle.machine_state.specs.declared.role.Role as kept_role
use Rattle.machine_state.specs.Holding.{Holding}
use Rattle.machine_state.specs.World.{Join, Role}

abbrev pub holding_view : kept.Holding → Holding
holding_view h = record { writes = h.writes.items; reads = h.reads.items; ends = h.ends.items }

abbrev pub join_view : kept_join.Join → Join
join_view j = record {
  row = j.row;
  block = j.block;
  base = j.base;
  parameters = j.parameters.items;
  started = j.started;
  rest = holding_view j.rest;
  members = j.members.items;
}

abbrev pub role_view : kept_role.Role → Role
role_view r = record {
  own = holding_view r.own;
  opener = r.opener;
  opened = option_map join_view r.opened;
}
