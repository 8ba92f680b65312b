-- What an endp asks of an open join.
use Rattle.std.specs.Prelude.{ℕ, ◌==◌, length, Option}
use Rattle.std.specs.Option.{option_map}
use Rattle.machine_state.specs.World.{World, Join}
use Rattle.machine_state.specs.JoinLookups.{opened_by}
use Rattle.machine_state.specs.Roles.{members_without}
use Rattle.joins.specs.declared.open.Open.{Open}

-- for the end of this process
abbrev pub summary : ℕ → Join → Open
summary p join = record {
  row = join.row;
  block = join.block;
  started = join.started;
  is_last = length (members_without p join.members) == 0;
}

-- of the join that this opener has open
abbrev pub open_of : World → ℕ → ℕ → Option Open
open_of w opener p = option_map (summary p) (opened_by w opener)
