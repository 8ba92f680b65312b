-- A process that runs code that is laid out, between two instructions, and what it does by itself.
use Rattle.std.specs.Prelude.{◌≡◌, ℕ, ◌==◌, true, false, ℤ, pos, int_lt, List, Some}
use Rattle.prefix_decoder.specs.declared.function.Fun.{Fun}
use Rattle.machine_state.specs.declared.instruction.Instruction.{Instruction}
use Rattle.machine_state.specs.Instructions.{instruction_of}
use Rattle.machine_state.specs.LocalStep.{address}
use Rattle.machine_state.specs.Memory.{Memory, local_address}
use Rattle.plain_machine.specs.declared.flow.PlainFlow.{PlainFlow}
use Rattle.plain_machine.specs.PlainRun.{PlainPoint, RunsTo, CanRun, IsAlone}
use Rattle.plain_machine.specs.PlainStep.{PlainState, leaves, plain_step, plain_word, plain_popped, with_turn}
use Rattle.code_pieces.specs.Pieces.{Piece, Jump, JumpUnless, LoopBack}
use Rattle.placed_code.specs.LaidCode.{LaidCode, Fetches, IsAt, Lie}
use Rattle.placed_code.specs.StraightPieces.{Held, LeadOn, state_at, with_pushed, word_address}

-- at an offset of the code, with these registers and this memory
pub record Point : Type 0 where
  pub at : ℕ
  pub held : Held

-- on the plain machine
abbrev pub state_in : LaidCode → Point → PlainState
state_in c p = state_at (word_address c.footing.depth) p.at p.held

abbrev pub plain_point : LaidCode → Point → PlainPoint
plain_point c p = record { state = state_in c p; operand = pos 0 }

-- ---- one instruction

-- the next instruction of the process is this one
pub record Executes (c : LaidCode) (p : Point) (instruction : Instruction) : Type 0 where
  pub function : Fun
  pub operand : ℤ
  pub behind : ℕ
  pub fetches : Fetches c.code p.at function operand behind
  pub is : instruction_of function operand ≡ Some instruction

-- One instruction, which asks nothing of others, leads from the one point to the other.
pub record Steps (c : LaidCode) (p q : Point) : Type 0 where
  pub instruction : Instruction
  pub executes : Executes c p instruction
  pub flow : PlainFlow
  pub alone : IsAlone flow
  pub steps : plain_step c.start instruction executes.operand (state_in c (record p { at = executes.behind }))
      ≡ leaves flow (state_in c q)

-- some of them do, one after the other
pub data GoesTo (c : LaidCode) : Point → Point → Type 0 where
  there : {p : Point} → GoesTo c p p
  steps : {p q r : Point} → Steps c p q → GoesTo c q r → GoesTo c p r

-- ---- what pieces do where they lie

abbrev pub point : ℕ → Held → Point
point at h = record { at = at; held = h }

-- A is not needed any more
abbrev pub without_top : Held → Held
without_top h = record h { stack = plain_popped h.stack }

-- the index and the count of a block at this address
abbrev pub index_in : Memory → ℕ → ℤ
index_in memory block = plain_word memory block

abbrev pub count_in : Memory → ℕ → ℤ
count_in memory block = plain_word memory (local_address block (pos 1))

-- once a turn of the loop is counted whose block's address is in A, and this is pushed
abbrev pub turned : ℤ → Held → Held
turned distance h =
    let block = address h.stack.a in
    record (with_pushed distance h) {
      memory = with_turn block (index_in h.memory block) (count_in h.memory block) h.memory;
    }

pub record PiecesGo : Type 0 where
  -- straight pieces, to what they lead to
  pub straight : (c : LaidCode) (at to : ℕ) (ps : List Piece) (h k : Held) → Lie c at ps to → LeadOn c.footing ps h k
      → GoesTo c (point at h) (point to k)
  -- a jump, to its label
  pub jumps : (c : LaidCode) (at l to : ℕ) (h : Held) → IsAt c at (Jump l) to
      → Steps c (point at h) (point (c.labels l) h)
  -- a test: to the label where A is 0, and otherwise on, without A
  pub tests : (c : LaidCode) (at l to : ℕ) (h : Held) → IsAt c at (JumpUnless l) to → (address h.stack.a == 0) ≡ true
      → Steps c (point at h) (point (c.labels l) h)
  pub goes_on : (c : LaidCode) (at l to : ℕ) (h : Held) → IsAt c at (JumpUnless l) to
      → (address h.stack.a == 0) ≡ false → Steps c (point at h) (point to (without_top h))
  -- the end of a turn: back to the head where turns are left, and otherwise on
  pub turns : (c : LaidCode) (at head behind to : ℕ) (h : Held) (is : IsAt c at (LoopBack head behind) to)
      → c.labels behind ≡ to → int_lt (pos 1) (count_in h.memory (address h.stack.a)) ≡ true
      → GoesTo c (point at h) (point (c.labels head) (turned is.distance h))
  pub ends : (c : LaidCode) (at head behind to : ℕ) (h : Held) (is : IsAt c at (LoopBack head behind) to)
      → c.labels behind ≡ to → int_lt (pos 1) (count_in h.memory (address h.stack.a)) ≡ false
      → GoesTo c (point at h) (point to (turned is.distance h))

-- so many bytes lead to a point
pub record Comes (start : ℕ) (code : List ℕ) (from to : PlainPoint) : Type 0 where
  pub bytes : ℕ
  pub runs : RunsTo start code from bytes to

-- On the plain machine the bytes of such instructions lead from the one point to the other.
abbrev pub PointsAreComeTo : Type 0
PointsAreComeTo = (c : LaidCode) (executed : ℕ) (from : PlainPoint) (p q : Point)
    → CanRun c.start c.code executed from → GoesTo c p q → Comes c.start c.code from (plain_point c p)
    → Comes c.start c.code from (plain_point c q)
