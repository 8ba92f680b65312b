-- What the traffic shows once its processor, which was lent, has come back.
use Rattle.machine_state.specs.declared.cpu.Cpu.{Cpu}
use Rattle.machine_state.specs.Memory.{Memory}
use Rattle.machine_state.specs.Holding.{Holding}
use Rattle.machine_state.specs.World.{Roles}
use Rattle.traffic.specs.Moment.{Moment}

-- the same with the memory, the roles, the holder and the holding of this processor's store
abbrev pub with_cpu : {S : Type 0} → (S → Memory) → (S → Holding) → (S → Roles) → Moment → Cpu S → Moment
with_cpu cells holding roles m cpu = record m {
  world = record m.world { memory = cells cpu.store; roles = (roles cpu.store).table };
  holder = (roles cpu.store).holder;
  holding = holding cpu.store;
}
