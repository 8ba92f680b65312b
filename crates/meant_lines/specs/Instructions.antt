-- What each instruction of straight code makes of the registers and of memory, at any workspace of the frame and
-- wherever in the code it is. An address that is in a register is the word of its bits.
use Rattle.std.specs.Prelude.{◌≡◌, ℕ, ◌+◌, ◌*◌, ◌^◌, ◌<◌, ℤ, pos, List, [], ◌∷◌, Some}
use Rattle.std.specs.Ordering.{int_eq}
use Rattle.prefix_decoder.specs.declared.function.Fun.TheVariants as fun
use Rattle.word_arithmetic.specs.Word.{least_word, checked_sum, truth, word_not}
use Rattle.word_arithmetic.specs.Binary.{computed}
use Rattle.word_arithmetic.specs.declared.binary.Binary.{Binary}
use Rattle.module_format.specs.Stack.{reversed, with_top}
use Rattle.machine_state.specs.declared.op.Shift.{Shift}
use Rattle.machine_state.specs.LocalStep.{address, word_of, shift_result, copied}
use Rattle.machine_state.specs.Memory.{Memory, place_of, local_address, word_at, byte_at, with_word, with_byte}
use Rattle.machine_state.specs.Memory.{byte_worth}
use Rattle.plain_machine.specs.PlainStep.{plain_popped}
use Rattle.code_pieces.specs.declared.operations.TheConstants.{REVERSE, LOAD_BYTE, BYTE_SUBSCRIPT, WORD_SUBSCRIPT}
use Rattle.code_pieces.specs.declared.operations.TheConstants.{NOT, STORE_BYTE, MINIMUM_INTEGER, MOVE}
use Rattle.code_pieces.specs.Pieces.{Piece, Direct, TableAddress, operates, loads, stores, points, constant, moves}
use Rattle.code_pieces.specs.Pieces.{below}
use Rattle.placed_code.specs.OperandsName.{IsBinary, IsShift, OperandsName}
use Rattle.placed_code.specs.StraightPieces.{Footing, Held, LeadOn, with_pushed, word_address, word_place}
use Rattle.meant_lines.specs.Words.{IsInFrame, Holds, with_frame_word}

-- ---- what is held afterwards

-- another word is in A
abbrev pub with_a : ℤ → Held → Held
with_a v h = record h { stack = with_top v h.stack }

-- this word is in the place of A and B
abbrev pub with_result : ℤ → Held → Held
with_result v h = record h { stack = with_top v (plain_popped h.stack) }

abbrev pub without_a : Held → Held
without_a h = record h { stack = plain_popped h.stack }

abbrev pub with_memory : Memory → Held → Held
with_memory m h = record h { memory = m }

-- ---- pieces

-- this piece alone leads there
abbrev pub PieceLeads : Footing → Piece → Held → Held → Type 0
PieceLeads w p g h = LeadOn w (p ∷ []) g h

-- the workspace is one of the frame
abbrev pub IsInside : Footing → Type 0
IsInside w = IsInFrame w.depth

-- ---- constants and words of the frame

abbrev pub LeastWordIsPushed : Type 0
LeastWordIsPushed = (w : Footing) (h : Held)
    → PieceLeads w (operates MINIMUM_INTEGER) h (with_pushed least_word h)

abbrev pub ConstantsArePushed : Type 0
ConstantsArePushed = (w : Footing) (v : ℤ) (h : Held) → PieceLeads w (constant v) h (with_pushed v h)

abbrev pub WordsAreLoaded : Type 0
WordsAreLoaded = (w : Footing) (word : ℕ) (v : ℤ) (h : Held) → IsInside w → IsInFrame word → Holds h.memory word v
    → PieceLeads w (loads word) h (with_pushed v h)

abbrev pub WordsAreStored : Type 0
WordsAreStored = (w : Footing) (word : ℕ) (h : Held) → IsInside w → IsInFrame word
    → PieceLeads w (stores word) h (with_memory (with_frame_word word h.stack.a h.memory) (without_a h))

abbrev pub AddressesArePushed : Type 0
AddressesArePushed = (w : Footing) (word : ℕ) (h : Held) → IsInside w → IsInFrame word
    → PieceLeads w (points word) h (with_pushed (word_of (word_address word)) h)

abbrev pub TablesArePushed : Type 0
TablesArePushed = (w : Footing) (values : List ℤ) (h : Held)
    → PieceLeads w (TableAddress values) h (with_pushed (word_of (w.tables values)) h)

-- ---- words and bytes at an address

-- the address of another word, so many words further
abbrev pub AddressesMoveOn : Type 0
AddressesMoveOn = (w : Footing) (e : ℤ) (a : ℕ) (h : Held) → address h.stack.a ≡ a
    → PieceLeads w (Direct fun.LoadNonLocalPointer e) h (with_a (word_of (local_address a e)) h)

abbrev pub DistantWordsAreLoaded : Type 0
DistantWordsAreLoaded = (w : Footing) (e : ℤ) (a : ℕ) (v : ℤ) (h : Held) → address h.stack.a ≡ a
    → word_at h.memory (place_of (local_address a e)) ≡ Some v
    → PieceLeads w (Direct fun.LoadNonLocal e) h (with_a v h)

abbrev pub DistantWordsAreStored : Type 0
DistantWordsAreStored = (w : Footing) (e : ℤ) (a : ℕ) (h : Held) → address h.stack.a ≡ a
    → PieceLeads w (Direct fun.StoreNonLocal e) h
    (with_memory (with_word h.memory (place_of (local_address a e)) (Some h.stack.b)) (without_a (without_a h)))

abbrev pub BytesAreLoaded : Type 0
BytesAreLoaded = (w : Footing) (a b : ℕ) (h : Held) → address h.stack.a ≡ a → byte_at h.memory (place_of a) ≡ Some b
    → PieceLeads w (operates LOAD_BYTE) h (with_a (pos b) h)

abbrev pub BytesAreStored : Type 0
BytesAreStored = (w : Footing) (a : ℕ) (h : Held) → address h.stack.a ≡ a
    → PieceLeads w (operates STORE_BYTE) h
    (with_memory (with_byte h.memory (place_of a) (Some (byte_worth 1 h.stack.b))) (without_a (without_a h)))

-- a subscript in B selects a word
abbrev pub WordsAreSelected : Type 0
WordsAreSelected = (w : Footing) (a : ℕ) (h : Held) → address h.stack.a ≡ a
    → PieceLeads w (operates WORD_SUBSCRIPT) h (with_result (word_of (local_address a h.stack.b)) h)

-- and so a byte
abbrev pub BytesAreSelected : Type 0
BytesAreSelected = (w : Footing) (a i : ℕ) (h : Held) → address h.stack.a ≡ a → address h.stack.b ≡ i
    → a + i < 2 ^ 32 → PieceLeads w (operates BYTE_SUBSCRIPT) h (with_result (word_of (a + i)) h)

-- A bytes at C go to B
abbrev pub BytesAreMoved : Type 0
BytesAreMoved = (w : Footing) (count to from : ℕ) (h : Held) → address h.stack.a ≡ count → address h.stack.b ≡ to
    → address h.stack.c ≡ from
    → PieceLeads w (operates MOVE) h
    (with_memory (copied h.memory (place_of from) (place_of to) count h.memory) h)

-- ---- operators

abbrev pub RegistersAreReversed : Type 0
RegistersAreReversed = (w : Footing) (h : Held)
    → PieceLeads w (operates REVERSE) h (record h { stack = reversed h.stack })

abbrev pub ConstantsAreAdded : Type 0
ConstantsAreAdded = (w : Footing) (e v : ℤ) (h : Held) → checked_sum h.stack.a e ≡ Some v
    → PieceLeads w (Direct fun.AddConstant e) h (with_a v h)

abbrev pub ConstantsAreCompared : Type 0
ConstantsAreCompared = (w : Footing) (e : ℤ) (h : Held)
    → PieceLeads w (Direct fun.EqualsConstant e) h (with_a (truth (int_eq h.stack.a e)) h)

abbrev pub BitsAreTurned : Type 0
BitsAreTurned = (w : Footing) (h : Held) → PieceLeads w (operates NOT) h (with_a (word_not h.stack.a) h)

-- an operation of B and A that has a result
abbrev pub OperationsAreComputed : Type 0
OperationsAreComputed = (w : Footing) (operation : ℤ) (op : Binary) (v : ℤ) (h : Held)
    → IsBinary operation op → computed op h.stack.b h.stack.a ≡ Some v
    → PieceLeads w (operates operation) h (with_result v h)

-- B is shifted by A bits
abbrev pub WordsAreShifted : Type 0
WordsAreShifted = (w : Footing) (operation : ℤ) (op : Shift) (count : ℕ) (h : Held)
    → IsShift operation op → address h.stack.a ≡ count
    → PieceLeads w (operates operation) h (with_result (shift_result op h.stack.b count) h)

abbrev pub OperandsNameOperations : Type 0
OperandsNameOperations = OperandsName

-- ---- several

-- what waited in a word of the frame is pushed below what is in A
abbrev pub WaitingIsPushedBelow : Type 0
WaitingIsPushedBelow = (w : Footing) (word : ℕ) (v : ℤ) (h : Held) → IsInside w → IsInFrame word
    → Holds h.memory word v
    → LeadOn w (below word) h (record h { stack = record { a = h.stack.a; b = v; c = h.stack.b } })

-- this number of words goes from one place of the frame to another
abbrev pub WordsAreMoved : Type 0
WordsAreMoved = (w : Footing) (count from to : ℕ) (h : Held) → IsInside w → IsInFrame count → IsInFrame from
    → IsInFrame to
    → LeadOn w (moves count from to) h (record {
      stack = record { a = pos (4 * count); b = word_of (word_address to); c = word_of (word_address from) };
      memory = copied h.memory (word_place from) (word_place to) (4 * count) h.memory;
    })
