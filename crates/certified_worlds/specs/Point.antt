-- A process at a point of the code.
use Rattle.std.specs.Prelude.{◌≡◌, ℕ, ◌+◌, ◌≤◌, ◌<◌, ⊤, ℤ, pos, FitsSigned, List, [], ◌∷◌, length, drop, Option, Some}
use Rattle.std.specs.Prelude.{Ok}
use Rattle.std.specs.Int.{w32}
use Rattle.prefix_decoder.specs.declared.decoding.Instr.{Instr}
use Rattle.prefix_decoder.specs.Fetching.{read, fetched}
use Rattle.module_format.specs.Contents.{Contents}
use Rattle.machine_state.specs.declared.process.Registers.{Registers}
use Rattle.machine_state.specs.declared.process.Task.{Task}
use Rattle.machine_state.specs.Memory.{Memory}
use Rattle.machine_state.specs.Holding.{Holding}
use Rattle.states.specs.declared.known.Mode.{Mode}
use Rattle.states.specs.declared.known.Mode.TheVariants.{Starting}
use Rattle.states.specs.State.{State}
use Rattle.rulings.specs.Meaning.{Layout, Activation, owed}
use Rattle.rulings.specs.Regions.{scope_of, KeepsMemory}
use Rattle.rulings.specs.Lends.{Lends}
use Rattle.rulings.specs.Fitting.{After, Caller, Resumes, GoesOn}
use Rattle.certified_worlds.specs.Certified.{Reaches, state_at}

-- The bytes from here on, with the operand so far, are the rest of the instruction that began.
pub record IsReading (m : Contents) (r : Registers) (i : Instr) (taken : ℕ) : Type 0 where
  pub fuel : ℕ
  pub whole : fuel + taken ≡ 8
  pub at_is : r.at ≡ r.began + taken
  pub spelled : fetched m.code r.began ≡ Ok i
  pub rest : read fuel (drop r.at m.code) r.operand taken ≡ Ok i

-- ---- activations that wait for a return

-- The context in which a process began, for good, and where the regions of its first activation lie.
pub record Began : Type 0 where
  pub context : ℕ
  pub layout : Layout

-- The callers that wait for an activation of a context to return, the direct caller first. Each has lent what the one
-- that it called has. Whatever that one still changes, the caller goes on in its state, which falls into the offset of
-- the return. Only procedures have callers; the activation for which none waits is the one that the process began with.
pub data Behind (m : Contents) (h : Holding) (began : Began) : ℕ → Layout → Memory → List Caller → Type 0 where
  nobody_waits : {context : ℕ} {layout : Layout} {memory : Memory} → context ≡ began.context → layout ≡ began.layout
      → (1 ≤ context → length m.procedures < context) → Behind m h began context layout memory []
  one_waits : {context : ℕ} {layout : Layout} {memory : Memory} {c : Caller} {cs : List Caller}
      → 1 ≤ context → context ≤ length m.procedures → Reaches m layout.back (Some c.state) → GoesOn layout c
      → layout.lengths ≡ c.act.layout.lengths → (base : ℤ)
      → Lends m (scope_of m c.state.context c.act.layout) (scope_of m context layout) base
      → ((later : Memory) → KeepsMemory m h (scope_of m context layout) memory later → Resumes m h c later)
      → ((later : Memory) → KeepsMemory m h (scope_of m context layout) memory later
      → Behind m h began c.state.context c.act.layout later cs)
      → Behind m h began context layout memory (c ∷ cs)

-- what the callers that wait owe
abbrev pub owed_behind : List Caller → ℕ
owed_behind [] = 0
owed_behind (c ∷ cs) = owed c.state c.act + owed_behind cs

-- ---- a process

-- A point of the code to which a process has come: the state that the certificate has there, an activation, and those
-- that wait for its return. It reads no memory.
pub record Point (m : Contents) (t : Task) : Type 0 where
  pub before : Option State
  pub state : State
  pub reached : Reaches m t.registers.began before
  pub stands : state_at m t.registers.began before ≡ Some state
  pub instr : Instr
  pub taken : ℕ
  pub reading : IsReading m t.registers instr taken
  pub act : Activation
  pub callers : List Caller

-- Those that wait for a return; while branches are started they wait for the PAR.
abbrev pub BehindIn : Contents → Holding → Began → Mode → ℕ → Layout → Memory → List Caller → Type 0
BehindIn m h began (Starting row started) context layout memory callers = ⊤
BehindIn m h began mode context layout memory callers = Behind m h began context layout memory callers

-- what a process owes at a point; while branches are started, what its loops and callers owe waits for the PAR
abbrev pub owed_at : Mode → State → Activation → List Caller → ℕ
owed_at (Starting row started) s act callers = s.number
owed_at mode s act callers = owed s act + owed_behind callers

-- in this memory all that is known at the point is so
pub record MeetsPoint (m : Contents) (t : Task) (h : Holding) (began : Began) (point : Point m t)
    (memory : Memory) : Type 0 where
  pub here : After m h t.mode point.act point.state (record { registers = t.registers; memory = memory })
  pub behind : BehindIn m h began point.state.mode point.state.context point.act.layout memory point.callers

-- What the decoder says of the code: an instruction has at least one byte, lies in the code, has an operand of a word,
-- and is what the T414 reads.
pub record Decodes (m : Contents) : Type 0 where
  pub some : (at : ℕ) (i : Instr) → fetched m.code at ≡ Ok i → 1 ≤ i.len
  pub inside : (at : ℕ) (i : Instr) → fetched m.code at ≡ Ok i → at + i.len ≤ length m.code
  pub fits : (at : ℕ) (i : Instr) → fetched m.code at ≡ Ok i → FitsSigned w32 i.operand
  pub reads : (at : ℕ) (i : Instr) → fetched m.code at ≡ Ok i → read 8 (drop at m.code) (pos 0) 0 ≡ Ok i
