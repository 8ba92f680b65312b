-- One instruction of one process changes no byte but those that the process may write. This is our own choice: the T414
-- has no such bound.
use Rattle.std.specs.Prelude.{◌≡◌, ⊤, ℕ, ℤ, false, length}
use Rattle.prefix_decoder.specs.declared.function.Fun.{Fun}
use Rattle.machine_state.specs.Memory.{Memory, byte_at}
use Rattle.machine_state.specs.Holding.{Holding, may_write}
use Rattle.machine_state.specs.Site.{Site, Local, Outcome, goes, jumps, lands, stops, fails, receives, sends, starts}
use Rattle.machine_state.specs.Site.{joins, begins, enables_channel, enables_skip, waits, disables_channel}
use Rattle.machine_state.specs.Site.{disables_skip, ends_alternation}
use Rattle.machine_state.specs.LocalStep.{local_step}

-- only bytes that the process may write have changed
pub record ChangesOwn (h : Holding) (old new : Memory) : Type 0 where
  pub size : length new ≡ length old
  pub others : (place : ℕ) → may_write h place ≡ false → byte_at new place ≡ byte_at old place

-- an outcome leaves memory so; a fault leaves it alone
abbrev pub LeavesOthers : Holding → Memory → Outcome → Type 0
LeavesOthers h old (goes l) = ChangesOwn h old l.memory
LeavesOthers h old (jumps to l) = ChangesOwn h old l.memory
LeavesOthers h old (lands to l) = ChangesOwn h old l.memory
LeavesOthers h old (stops l) = ChangesOwn h old l.memory
LeavesOthers h old (fails kind) = ⊤
LeavesOthers h old (receives e l) = ChangesOwn h old l.memory
LeavesOthers h old (sends e l) = ChangesOwn h old l.memory
LeavesOthers h old (starts to workspace l) = ChangesOwn h old l.memory
LeavesOthers h old (joins block l) = ChangesOwn h old l.memory
LeavesOthers h old (begins l) = ChangesOwn h old l.memory
LeavesOthers h old (enables_channel guard address l) = ChangesOwn h old l.memory
LeavesOthers h old (enables_skip guard l) = ChangesOwn h old l.memory
LeavesOthers h old (waits l) = ChangesOwn h old l.memory
LeavesOthers h old (disables_channel guard address distance l) = ChangesOwn h old l.memory
LeavesOthers h old (disables_skip guard distance l) = ChangesOwn h old l.memory
LeavesOthers h old (ends_alternation to l) = ChangesOwn h old l.memory

abbrev pub StepsChangeOwn : Type 0
StepsChangeOwn = (s : Site) (f : Fun) (operand : ℤ) (l : Local)
    → LeavesOthers s.holding l.memory (local_step s f operand l)
