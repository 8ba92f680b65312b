-- The rule of lend, which ends a turn of a loop: the loop's block is two words of the frame, its index and its count.
use Rattle.std.specs.Prelude.{◌≡◌, ℕ, ◌+◌, ◌/◌, nat_lt, nat_le, ◌&&◌, ◌||◌, ℤ, pos, negsuc, ◌+ℤ◌, ◌-ℤ◌, int_le}
use Rattle.std.specs.Prelude.{int_lt, FitsSigned, Bool, true, false, if◌then◌else◌, Option, Some, None, Result, Ok}
use Rattle.std.specs.Prelude.{Err, option_map, option_and_then}
use Rattle.module_format.specs.Rows.{Fact, LabelRow}
use Rattle.module_format.specs.declared.fact.Fact.TheVariants.{Number, Pointer}
use Rattle.module_format.specs.Regions.{is_frame}
use Rattle.module_format.specs.Order.{is_stepped, least_word, greatest_word}
use Rattle.std.specs.Borrow.{Bor}
use Rattle.std.specs.Int.{w32}
use Rattle.module_format.specs.Contents.{Contents, Label, label_at, label_of}
use Rattle.module_format.specs.Contexts.{context_at}
use Rattle.certificate.specs.Rights.{may_write_word, has_word}
use Rattle.machine_state.specs.LocalStep.{target}
use Rattle.states.specs.declared.rule.Rule.{Rule}
use Rattle.states.specs.declared.rule.Rule.TheVariants as rules
use Rattle.states.specs.declared.known.Loop.{Loop as CountedLoop}
use Rattle.states.specs.declared.known.WordFact.{WordFact}
use Rattle.states.specs.declared.known.WordFact.TheVariants.{Index, Count}
use Rattle.states.specs.State.{State, is_same_number as is_same, written}
use Rattle.states.specs.Below.{is_same_loop, view, compared}
use Rattle.local_rules.specs.declared.loops.Block.{Block}
use Rattle.rulings.specs.Rulings.{Ruling, falls, falls_or_leads, breaks, Site, outside_alternation, outside_starts}
use Rattle.rulings.specs.Rulings.{uses, schedules, pays, without_registers}

-- ---- the block of a loop

-- the word in which a byte of the frame lies
abbrev pub word_of_offset : ℤ → ℤ
word_of_offset (pos n) = pos (n / 4)
word_of_offset (negsuc n) = negsuc (n / 4)

-- the word of the frame that a pointer leads to, if that is known exactly
unfoldable pub word_pointed : Fact → Option ℤ
word_pointed (Pointer region lo hi step) =
    if is_frame region && is_same lo hi && is_stepped lo then Some (word_of_offset lo) else None
word_pointed _ = None

-- the last index of a loop, which is a word
unfoldable pub last_index : CountedLoop → Option ℤ
last_index loop =
    let last = loop.base +ℤ pos loop.count -ℤ pos 1 in
    if int_le least_word last && int_le last greatest_word then Some last else None

-- a loop, whose index is this word
abbrev pub block_of_loop : ℤ → CountedLoop → Option Block
block_of_loop k loop = option_map (λ last. record { word = k; turning = loop; last = last }) (last_index loop)

-- a word is the index of a loop, and the next one its count
unfoldable pub loop_block : ℤ → WordFact → WordFact → Option Block
loop_block k (Index loop) (Count other) = if is_same_loop loop other then block_of_loop k loop else None
loop_block k _ _ = None

-- word k and the next one are none of the three below the workspace
abbrev pub is_beside_workspace : ℤ → ℤ → Bool
is_beside_workspace depth k = int_le depth k || int_lt (k +ℤ pos 4) depth

-- this, if the test passes
unfoldable pub provided : {A : Type 0} → Bool → Option A → Option A
provided true found = found
provided false found = None

-- the block at word k: the context may write both words, and scheduling does not take them
unfoldable pub block_at : Site → State → ℤ → Option Block
block_at site s k =
    provided (may_write_word site.contents s.context k)
    (provided (may_write_word site.contents s.context (k +ℤ pos 1))
    (provided (is_beside_workspace s.depth k)
    (loop_block k (s.frame k) (s.frame (k +ℤ pos 1)))))

abbrev pub block_of : Site → State → Fact → Option Block
block_of site s fact = option_and_then (block_at site s) (word_pointed fact)

-- ---- where the loop begins

-- A turn begins at a label, at this code offset.
pub record Beginning : Type 0 where
  pub at : ℕ
  pub label : Label

abbrev pub begins_at : ℕ → Label → Beginning
begins_at to label = record { at = to; label = label }

-- the label at an offset that is not after the instruction's
abbrev pub beginning_at : Site → ℕ → Option Beginning
beginning_at site to =
    if nat_le to site.at
    then option_map (begins_at to) (label_at site.contents to)
    else None

-- the label a constant of at least 1 back from the next instruction
unfoldable pub beginning : Site → Fact → Option Beginning
beginning site (Number lo hi) =
    if is_same lo hi && int_le (pos 1) lo
    then beginning_at site (target (site.at + site.length) (pos 0 -ℤ lo))
    else None
beginning site _ = None

-- what was found of where a turn begins
abbrev pub begins_of : ℕ × Bor LabelRow → Beginning
begins_of found = begins_at found.0 (label_of found.1.now)

-- The words of the block are words of some context.
pub record OwnsBlock (m : Contents) (block : Block) : Type 0 where
  pub context : ℕ
  pub first : has_word (context_at m context) block.word ≡ true
  pub second : has_word (context_at m context) (block.word +ℤ pos 1) ≡ true
  pub fits : FitsSigned w32 (block.word +ℤ pos 1)

-- ---- lend

-- a condition of lend that gives a value
unfoldable pub finds : {A : Type 0} → Option A → (A → Ruling) → Ruling
finds None k = breaks rules.Forward
finds (Some x) k = k x

-- the loop is over: no turn is left, and the index stays at its last
abbrev pub after_loop : Block → State → State
after_loop block s =
    written block.word (Number block.last block.last) (written (block.word +ℤ pos 1) (Number (pos 0) (pos 0)) s)

-- the loop ends, or it turns, if it has more than one turn; the loop's weight pays for the turn that begins
unfoldable pub turns : Block → Beginning → State → Ruling
turns block begins s =
    if nat_lt 1 block.turning.count
    then elim (compared (s.number + block.turning.weight) (view s) begins.label) [
      | Ok cost ↦ falls_or_leads (after_loop block s) begins.at
      | Err broken ↦ breaks broken
    ]
    else falls (after_loop block s)

-- the state may go on as the label at an offset, if there is one, with this number to pay from
abbrev pub MayGoOn : Contents → ℕ → ℕ → State → Type 0
MayGoOn m to number s =
    (t : Label) → label_at m to ≡ Some t → (cost : ℕ) × (compared number (view s) t ≡ Ok cost)

-- the loop may turn where this is so, and ends else
abbrev pub turns_or_ends : Bool → Block → Beginning → State → Ruling
turns_or_ends may_turn block begins s =
    if may_turn then falls_or_leads (after_loop block s) begins.at else falls (after_loop block s)

-- whether a loop may turn, or it alone decides the ruling
abbrev pub Permits : Result Bool Rule → Block → Beginning → State → Type 0
Permits (Ok may_turn) block begins s = turns block begins s ≡ turns_or_ends may_turn block begins s
Permits (Err broken) block begins s = turns block begins s ≡ breaks broken

abbrev pub ends_turn : Site → State → Ruling
ends_turn site s =
    uses s.stack.a (λ a. uses s.stack.b (λ b. outside_alternation s.mode
    (finds (beginning site a) (λ begins. finds (block_of site s b) (λ block.
    outside_starts s.mode (schedules site s (λ s. pays site s (λ s. turns block begins (without_registers s)))))))))
