-- What straight pieces make of the registers and the memory of a process on plain words, wherever in the code they are.
-- Straight pieces are instructions and the addresses of tables.
use Rattle.std.specs.Prelude.{◌≡◌, ℕ, ◌+◌, ◌*◌, ℤ, pos, List, [], ◌∷◌, ◌++◌, Some}
use Rattle.prefix_decoder.specs.declared.function.Fun.{Fun}
use Rattle.module_format.specs.declared.stack.Stack.{Stack}
use Rattle.module_format.specs.Stack.{pushed}
use Rattle.machine_state.specs.declared.instruction.Instruction.{Instruction}
use Rattle.machine_state.specs.Instructions.{instruction_of}
use Rattle.machine_state.specs.LocalStep.{word_of}
use Rattle.machine_state.specs.Memory.{Memory, data_start}
use Rattle.plain_machine.specs.declared.flow.PlainFlow.TheVariants as flow
use Rattle.plain_machine.specs.PlainStep.{PlainState, leaves, plain_step}
use Rattle.code_pieces.specs.declared.modules.TheConstants.{BASE}
use Rattle.code_pieces.specs.Pieces.{Piece, Direct, TableAddress}
use Rattle.code_pieces.specs.Laying.{operand_at}

-- ---- where code runs

-- the workspace's word of the frame, and the address of each table
pub record Footing : Type 0 where
  pub depth : ℕ
  pub tables : List ℤ → ℕ

-- the address of a word of the frame
abbrev pub word_address : ℕ → ℕ
word_address word = data_start + 4 * (BASE + word)

-- where a word of the frame is in memory
abbrev pub word_place : ℕ → ℕ
word_place word = 4 * (BASE + word)

-- ---- what is held there

-- registers and memory, where the workspace and the code offset are not asked
pub record Held : Type 0 where
  pub stack : Stack ℤ
  pub memory : Memory

-- with this workspace, at this offset of the code
abbrev pub state_at : ℕ → ℕ → Held → PlainState
state_at workspace at h = record {
  registers = record { workspace = workspace; at = at; stack = h.stack };
  memory = h.memory;
}

-- a word more is in A
abbrev pub with_pushed : ℤ → Held → Held
with_pushed v h = record h { stack = pushed v h.stack }

-- ---- what pieces do

-- There is such an instruction, and wherever in the code it is, it goes on with this.
pub record Leads (workspace : ℕ) (f : Fun) (e : ℤ) (before after : Held) : Type 0 where
  pub instruction : Instruction
  pub is : instruction_of f e ≡ Some instruction
  pub leads : (start at : ℕ) → plain_step start instruction e (state_at workspace at before)
      ≡ leaves flow.Next (state_at workspace at after)

-- So do straight pieces, one after the other. The address of a table is pushed.
pub data LeadOn (w : Footing) : List Piece → Held → Held → Type 0 where
  done : {h : Held} → LeadOn w [] h h
  next : {f : Fun} {e : ℤ} {ps : List Piece} {g h k : Held}
      → Leads (word_address w.depth) f (operand_at (pos w.depth) f e) g h → LeadOn w ps h k
      → LeadOn w (Direct f e ∷ ps) g k
  table : {values : List ℤ} {ps : List Piece} {h k : Held}
      → LeadOn w ps (with_pushed (word_of (w.tables values)) h) k → LeadOn w (TableAddress values ∷ ps) h k

-- straight pieces after others
abbrev pub StraightPiecesFollow : Type 0
StraightPiecesFollow = (w : Footing) (ps qs : List Piece) (g h k : Held) → LeadOn w ps g h → LeadOn w qs h k
    → LeadOn w (ps ++ qs) g k
