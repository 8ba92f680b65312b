-- Holdings lie in memory.
use Rattle.std.specs.Prelude.{◌≡◌, ℕ, ◌*◌, ◌<◌, true, List, length}
use Rattle.module_format.specs.Contents.{Contents}
use Rattle.module_format.specs.Keeping.{Keeps}
use Rattle.machine_state.specs.declared.event.Event.{Event}
use Rattle.machine_state.specs.Happens.{world_after}
use Rattle.machine_state.specs.Holding.{Holding, may_read, may_write}
use Rattle.machine_state.specs.Memory.{Memory}
use Rattle.machine_state.specs.Roles.{own_in}
use Rattle.machine_state.specs.World.{Role, holding_at, loaded_memory}

-- what may be read, or written, is one of the first n places
abbrev pub LiesIn : ℕ → Holding → Type 0
LiesIn n h = (x : ℕ) → may_read h x ≡ true → x < n

-- memory is as long as when the module was loaded, and all that a process holds lies in it: what it holds now, and what
-- it has for good
pub record LiesInMemory (m : Contents) (roles : List Role) (memory : Memory) : Type 0 where
  pub size : length memory ≡ length (loaded_memory m)
  pub holdings : (p : ℕ) → LiesIn (length memory) (holding_at roles p)
  pub for_good : (p : ℕ) → LiesIn (length memory) (own_in roles p)

abbrev pub HoldingsLieInMemory : Type 0
HoldingsLieInMemory = (m : Contents) (es : List Event)
    → let w = world_after m es in LiesInMemory m w.roles w.memory

-- what may be written is data, before the code
abbrev pub WrittenIsData : Type 0
WrittenIsData = (m : Contents) (es : List Event) (p x : ℕ) → Keeps m
    → may_write (holding_at (world_after m es).roles p) x ≡ true → x < 4 * m.data_words
