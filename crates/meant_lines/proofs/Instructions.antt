-- What each instruction of straight code does, by its step on plain words.
use Rattle.std.proofs.Common.{◌≡◌, ℕ, ◌+◌, ◌*◌, ◌%◌, ◌^◌, ℤ, pos, Bool, true, false, List, [], ◌∷◌, if◌then◌else◌, Some}
use Rattle.std.proofs.Common.{Option, refl, sym, ap, subst, ◌∙◌, arith}
use Rattle.std.specs.Prelude.{unwrap_or}
use Rattle.std.specs.Option.{option_map}
use Rattle.std.specs.Ordering.{int_eq}
use Rattle.std.proofs.lemmas.Bool.Decides.{Decides-int_eq}
use Rattle.prefix_decoder.specs.declared.function.Fun.{Fun}
use Rattle.prefix_decoder.specs.declared.function.Fun.TheVariants as fun
use Rattle.word_arithmetic.specs.Word.{least_word}
use Rattle.word_arithmetic.specs.Binary.{computed}
use Rattle.word_arithmetic.specs.Unary.{unary_computed}
use Rattle.word_arithmetic.specs.declared.unary.Unary.TheVariants as unary
use Rattle.word_arithmetic.specs.declared.binary.Binary.TheVariants as binary
use Rattle.machine_state.specs.declared.op.Op.{Op}
use Rattle.machine_state.specs.declared.op.Op.TheVariants as ops
use Rattle.machine_state.specs.declared.instruction.Instruction.{Instruction}
use Rattle.machine_state.specs.declared.instruction.Instruction.TheVariants as instructions
use Rattle.machine_state.specs.Instructions.{instruction_of, op_of}
use Rattle.machine_state.specs.LocalStep.{word_of, copied}
use Rattle.machine_state.specs.Memory.{place_of, local_address, word_at, with_word}
use Rattle.plain_machine.specs.declared.flow.PlainFlow.TheVariants as flow
use Rattle.plain_machine.specs.PlainStep.{leaves, plain_step, plain_operation}
use Rattle.code_pieces.specs.declared.operations.TheConstants.{MINIMUM_INTEGER, MOVE}
use Rattle.code_pieces.specs.Pieces.{Piece, Direct, operates, points, constant, counted}
use Rattle.code_pieces.specs.Laying.{operand_at}
use Rattle.placed_code.specs.StraightPieces.{Footing, Held, LeadOn, done, next, table, state_at, with_pushed}
use Rattle.placed_code.specs.StraightPieces.{word_address, word_place}
use Rattle.placed_code.proofs.StraightPieces.{lead_both}
use Rattle.placed_code.proofs.OperandsName.{operands_name}
use Rattle.meant_lines.specs.Words.{IsInFrame}
use Rattle.meant_lines.specs.Instructions.{PieceLeads, IsInside, without_a}
use Rattle.meant_lines.specs.Instructions.{with_memory, LeastWordIsPushed, ConstantsArePushed, WordsAreLoaded}
use Rattle.meant_lines.specs.Instructions.{WordsAreStored, AddressesArePushed, TablesArePushed, AddressesMoveOn}
use Rattle.meant_lines.specs.Instructions.{DistantWordsAreLoaded, DistantWordsAreStored, BytesAreLoaded}
use Rattle.meant_lines.specs.Instructions.{BytesAreStored, WordsAreSelected, BytesAreSelected, BytesAreMoved}
use Rattle.meant_lines.specs.Instructions.{RegistersAreReversed, ConstantsAreAdded, ConstantsAreCompared}
use Rattle.meant_lines.specs.Instructions.{BitsAreTurned, OperationsAreComputed, WordsAreShifted}
use Rattle.meant_lines.specs.Instructions.{OperandsNameOperations, WaitingIsPushedBelow, WordsAreMoved}
use Rattle.meant_lines.proofs.Words.{operands_name_words, words_have_places, words_are_counted}
use Rattle.meant_lines.proofs.Words.{address_reads_back}

-- an instruction that goes on so, wherever it is
leads_by : {w : Footing} {f : Fun} {e : ℤ} {g h : Held} (i : Instruction)
    → instruction_of f (operand_at (pos w.depth) f e) ≡ Some i
    → ((start at : ℕ) → plain_step start i (operand_at (pos w.depth) f e) (state_at (word_address w.depth) at g)
    ≡ leaves flow.Next (state_at (word_address w.depth) at h))
    → PieceLeads w (Direct f e) g h
leads_by i is leads = next (record { instruction = i; is = is; leads = leads }) done

-- ---- constants and words of the frame

pub least_word_is_pushed : LeastWordIsPushed
unfolding plain_step plain_operation instruction_of op_of
least_word_is_pushed w h = leads_by (instructions.Operate ops.MinimumInteger) refl (λ start at. refl)

constants_are_loaded : (w : Footing) (v : ℤ) (h : Held)
    → PieceLeads w (Direct fun.LoadConstant v) h (with_pushed v h)
unfolding plain_step instruction_of
constants_are_loaded w v h = leads_by instructions.LoadConstant refl (λ start at. refl)

constant_by : (w : Footing) (v : ℤ) (h : Held) (is_least : Bool) → (is_least ≡ true → v ≡ least_word)
    → PieceLeads w (if is_least then operates MINIMUM_INTEGER else Direct fun.LoadConstant v) h (with_pushed v h)
constant_by w v h true least =
    subst (λ (u : ℤ). PieceLeads w (operates MINIMUM_INTEGER) h (with_pushed u h)) (sym (least refl))
    (least_word_is_pushed w h)
constant_by w v h false least = constants_are_loaded w v h

pub constants_are_pushed : ConstantsArePushed
constants_are_pushed w v h =
    constant_by w v h (int_eq v least_word) (λ is. (Decides-int_eq v least_word).0 is)

-- the address of a word of the frame, and its place
named : (w : Footing) (word : ℕ) → IsInside w → IsInFrame word
    → local_address (word_address w.depth) (operand_at (pos w.depth) fun.LoadLocal (pos (counted word)))
    ≡ word_address word
named w word inside few =
    ap (λ (n : ℕ). local_address (word_address w.depth) (operand_at (pos w.depth) fun.LoadLocal (pos n)))
    (words_are_counted word few)
    ∙ operands_name_words w.depth word inside few

placed : (w : Footing) (word : ℕ) → IsInside w → IsInFrame word
    → place_of (local_address (word_address w.depth) (operand_at (pos w.depth) fun.LoadLocal (pos (counted word))))
    ≡ word_place word
placed w word inside few = ap place_of (named w word inside few) ∙ words_have_places word few

pub words_are_loaded : WordsAreLoaded
unfolding plain_step instruction_of
words_are_loaded w word v h inside few is = leads_by instructions.LoadLocal refl (λ start at.
    ap (λ (u : ℤ). leaves flow.Next (state_at (word_address w.depth) at (with_pushed u h)))
    (ap (λ (place : ℕ). unwrap_or (word_at h.memory place) (pos 0)) (placed w word inside few)
    ∙ ap (λ (o : Option ℤ). unwrap_or o (pos 0)) is))

pub words_are_stored : WordsAreStored
unfolding plain_step instruction_of
words_are_stored w word h inside few = leads_by instructions.StoreLocal refl (λ start at.
    ap (λ (place : ℕ). leaves flow.Next (state_at (word_address w.depth) at
    (with_memory (with_word h.memory place (Some h.stack.a)) (without_a h)))) (placed w word inside few))

pub addresses_are_pushed : AddressesArePushed
unfolding plain_step instruction_of
addresses_are_pushed w word h inside few = leads_by instructions.LoadLocalPointer refl (λ start at.
    ap (λ (a : ℕ). leaves flow.Next (state_at (word_address w.depth) at (with_pushed (word_of a) h)))
    (named w word inside few))

pub tables_are_pushed : TablesArePushed
tables_are_pushed w values h = table done

-- ---- words and bytes at an address

pub addresses_move_on : AddressesMoveOn
unfolding plain_step instruction_of
addresses_move_on w e a h is = leads_by instructions.LoadNonLocalPointer refl (λ start at. rw is refl)

pub distant_words_are_loaded : DistantWordsAreLoaded
unfolding plain_step instruction_of
distant_words_are_loaded w e a v h is there = leads_by instructions.LoadNonLocal refl (λ start at. rw (is, there) refl)

pub distant_words_are_stored : DistantWordsAreStored
unfolding plain_step instruction_of
distant_words_are_stored w e a h is = leads_by instructions.StoreNonLocal refl (λ start at. rw is refl)

pub bytes_are_loaded : BytesAreLoaded
unfolding plain_step plain_operation instruction_of op_of
bytes_are_loaded w a b h is there =
    leads_by (instructions.Operate ops.LoadByte) refl (λ start at. rw (is, there) refl)

pub bytes_are_stored : BytesAreStored
unfolding plain_step plain_operation instruction_of op_of
bytes_are_stored w a h is = leads_by (instructions.Operate ops.StoreByte) refl (λ start at. rw is refl)

pub words_are_selected : WordsAreSelected
unfolding plain_step plain_operation instruction_of op_of
words_are_selected w a h is = leads_by (instructions.Operate ops.WordSubscript) refl (λ start at. rw is refl)

pub bytes_are_selected : BytesAreSelected
unfolding plain_step plain_operation instruction_of op_of
bytes_are_selected w a i h is other low =
    let sum : (a + i) % 2 ^ 32 ≡ a + i = omega (arith, low) in
    leads_by (instructions.Operate ops.ByteSubscript) refl (λ start at. rw (is, other, sum) refl)

pub bytes_are_moved : BytesAreMoved
unfolding plain_step plain_operation instruction_of op_of
bytes_are_moved w count to from h counts goes comes =
    leads_by (instructions.Operate ops.Move) refl (λ start at. rw (counts, goes, comes) refl)

-- ---- operators

pub registers_are_reversed : RegistersAreReversed
unfolding plain_step plain_operation instruction_of op_of
registers_are_reversed w h = leads_by (instructions.Operate ops.Reverse) refl (λ start at. refl)

pub constants_are_added : ConstantsAreAdded
unfolding plain_step instruction_of computed
constants_are_added w e v h gives =
    leads_by (instructions.WithConstant binary.Add) refl (λ start at. rw gives refl)

pub constants_are_compared : ConstantsAreCompared
unfolding plain_step instruction_of computed
constants_are_compared w e h = leads_by (instructions.WithConstant binary.Equal) refl (λ start at. refl)

pub bits_are_turned : BitsAreTurned
unfolding plain_step plain_operation instruction_of op_of unary_computed
bits_are_turned w h = leads_by (instructions.Operate (ops.Unary unary.Not)) refl (λ start at. refl)

pub operations_are_computed : OperationsAreComputed
unfolding plain_step plain_operation instruction_of
operations_are_computed w operation op v h is gives =
    leads_by (instructions.Operate (ops.Binary op)) (ap (λ (o : Option Op). option_map instructions.Operate o) is)
    (λ start at. rw gives refl)

pub words_are_shifted : WordsAreShifted
unfolding plain_step plain_operation instruction_of
words_are_shifted w operation op count h is counts =
    leads_by (instructions.Operate (ops.Shift op)) (ap (λ (o : Option Op). option_map instructions.Operate o) is)
    (λ start at. rw counts refl)

pub operands_name_operations : OperandsNameOperations
operands_name_operations = operands_name

-- ---- several

-- a piece, and what follows
pub then_leads : {w : Footing} {p : Piece} {ps : List Piece} {g h k : Held} → PieceLeads w p g h → LeadOn w ps h k
    → LeadOn w (p ∷ ps) g k
then_leads x y = lead_both x y

pub waiting_is_pushed_below : WaitingIsPushedBelow
waiting_is_pushed_below w word v h inside few is =
    then_leads (words_are_loaded w word v h inside few is) (registers_are_reversed w (with_pushed v h))

pub words_are_moved : WordsAreMoved
words_are_moved w count from to h inside few there here =
    let first : Held = with_pushed (word_of (word_address from)) h in
    let second : Held = with_pushed (word_of (word_address to)) first in
    let third : Held = with_pushed (pos (4 * count)) second in
    let counts : counted count ≡ count = words_are_counted count few in
    rw counts
    (subst (λ (place : ℕ). LeadOn w (points from ∷ points to ∷ constant (pos (4 * count)) ∷ operates MOVE ∷ []) h
    (with_memory (copied h.memory place (word_place to) (4 * count) h.memory) third))
    (words_have_places from there)
    (subst (λ (place : ℕ). LeadOn w (points from ∷ points to ∷ constant (pos (4 * count)) ∷ operates MOVE ∷ []) h
    (with_memory (copied h.memory (place_of (word_address from)) place (4 * count) h.memory) third))
    (words_have_places to here)
    (then_leads (addresses_are_pushed w from h inside there)
    (then_leads (addresses_are_pushed w to first inside here)
    (then_leads (constants_are_pushed w (pos (4 * count)) second)
    (bytes_are_moved w (4 * count) (word_address to) (word_address from) third refl
    (address_reads_back to here) (address_reads_back from there)))))))

pub ruleset pushing = (
  least_word_is_pushed,
  constants_are_pushed,
  words_are_loaded,
  words_are_stored,
  addresses_are_pushed,
  tables_are_pushed,
)

pub ruleset addressing = (
  addresses_move_on,
  distant_words_are_loaded,
  distant_words_are_stored,
  bytes_are_loaded,
  bytes_are_stored,
  words_are_selected,
  bytes_are_selected,
  bytes_are_moved,
)

pub ruleset operating = (
  registers_are_reversed,
  constants_are_added,
  constants_are_compared,
  bits_are_turned,
  operations_are_computed,
  words_are_shifted,
  operands_name_operations,
)

pub ruleset together = (waiting_is_pushed_below, words_are_moved)
