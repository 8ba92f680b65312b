-- What the facts of a state mean of a process.
use Rattle.std.specs.Prelude.{◌≡◌, ⊤, ℕ, ◌+◌, ◌*◌, ◌-◌, ◌≤◌, ◌<◌, ℤ, pos, negsuc, ◌+ℤ◌, ◌-ℤ◌, ◌*ℤ◌, ◌≤ℤ◌}
use Rattle.std.specs.Prelude.{FitsSigned, Bool, true, not, ◌&&◌, int_le, IsTrue, if◌then◌else◌, List, length, Option}
use Rattle.std.specs.Prelude.{◌<ℤ◌, zero, suc, neg_ℤ, slice_get, Some, None, ◌||◌}
use Rattle.std.specs.Int.{w32, int_wrap}
use Rattle.std.specs.List.{AllByRecursion}
use Rattle.module_format.specs.Rows.{Fact, Entry}
use Rattle.module_format.specs.declared.fact.Fact.TheVariants.{Unknown, Number, Pointer, CodeAddress, Loop}
use Rattle.module_format.specs.declared.fact.Fact.TheVariants.{ReturnAddress}
use Rattle.module_format.specs.declared.fact.Region.{Region}
use Rattle.module_format.specs.declared.fact.Region.TheVariants as regions
use Rattle.module_format.specs.declared.fact.Step.{Step}
use Rattle.module_format.specs.declared.fact.Step.TheVariants.{Byte, Word}
use Rattle.module_format.specs.Order.{IsBytes, InOrder, is_stepped}
use Rattle.module_format.specs.Contents.{Contents, Label, Procedure, Par, label_at}
use Rattle.module_format.specs.Procedures.{ProcedureKeeps, TableKeeps, behind_table}
use Rattle.module_format.specs.Contexts.{context_at}
use Rattle.module_format.specs.Stack.{AreRelated}
use Rattle.certificate.specs.Rights as rights
use Rattle.certificate.specs.Starts.{Entered, procedure_at}
use Rattle.word_arithmetic.specs.Word.{truth}
use Rattle.module_format.specs.declared.stack.Stack.{Stack}
use Rattle.machine_state.specs.declared.process.Mode as machine
use Rattle.machine_state.specs.declared.process.Mode.TheVariants as machine_modes
use Rattle.machine_state.specs.Memory.{Memory, word_at, data_start}
use Rattle.machine_state.specs.Holding.{Holding, may_write_word, may_read_word}
use Rattle.machine_state.specs.World.{constants_start}
use Rattle.states.specs.declared.known.Mode as states
use Rattle.states.specs.declared.known.Mode.TheVariants as states_modes
use Rattle.states.specs.declared.known.Known.{Known}
use Rattle.states.specs.declared.known.Source.{Source}
use Rattle.states.specs.declared.known.Source.TheVariants.{Nowhere, From, Test}
use Rattle.states.specs.declared.known.Loop.{Loop as CountedLoop}
use Rattle.states.specs.declared.known.WordFact.{WordFact}
use Rattle.states.specs.declared.known.WordFact.TheVariants.{Alone, Index, Count}
use Rattle.states.specs.State.{State, Facts, entry_fact}
use Rattle.states.specs.Rows.{IsRowOf}
use Rattle.rulings.specs.Remaining.{is_hidden, word_given_to_write, word_given_to_read}

-- Where the regions of an activation lie, where it returns to, and how long messages are.
pub record Layout : Type 0 where
  pub origin : ℤ  -- the place of frame word 0
  pub starts : ℕ → ℕ  -- the address of the first byte of what parameter j names
  pub back : ℕ  -- the code offset to which it returns
  pub lengths : ℕ → ℕ  -- the bytes of a message on the channel at an address of which it has an end

-- One activation of the root, a procedure or a branch. The machine keeps none of it.
pub record Activation : Type 0 where
  pub layout : Layout
  pub turns : ℤ → ℕ  -- the turns left of the loop whose index is in this word

-- the same activation, but for the turns of its loops
abbrev pub with_turns : (ℤ → ℕ) → Activation → Activation
with_turns turns act = record act { turns = turns }

-- ---- what one value is

-- the address of a code offset
abbrev pub code_address : Contents → ℕ → ℕ
code_address m offset = data_start + 4 * m.data_words + offset

-- the address where a region starts: the frame at its word 0
abbrev pub region_start : Contents → Layout → Region → ℤ
region_start m layout regions.Frame = pos data_start +ℤ layout.origin
region_start m layout regions.Constants = pos (data_start + constants_start m)
region_start m layout (regions.Parameter j) = pos (layout.starts j)

-- an address as the machine has it: the word that it is modulo 2^32
abbrev pub word_of : ℤ → ℤ
word_of address = int_wrap w32 address

-- an offset of a pointer of this step
abbrev pub IsOffset : Step → ℤ → Type 0
IsOffset Byte offset = ⊤
IsOffset Word offset = IsTrue (is_stepped offset)

-- A fact holds of a value, which is none where it is undefined. No value alone is a loop.
pub data Means (m : Contents) (layout : Layout) : Fact → Option ℤ → Type 0 where
  says_nothing : {v : Option ℤ} → Means m layout Unknown v
  is_number : {lo hi x : ℤ} → lo ≤ℤ x → x ≤ℤ hi → FitsSigned w32 x → Means m layout (Number lo hi) (Some x)
  is_pointer : {region : Region} {lo hi x : ℤ} {step : Step} (offset : ℤ) → lo ≤ℤ offset → offset ≤ℤ hi
      → IsOffset step offset → x ≡ word_of (region_start m layout region +ℤ offset)
      → Means m layout (Pointer region lo hi step) (Some x)
  is_code_address : {offset : ℕ} {x : ℤ} → x ≡ word_of (pos (code_address m offset))
      → Means m layout (CodeAddress offset) (Some x)
  is_return_address : {x : ℤ} → x ≡ word_of (pos (code_address m layout.back)) → Means m layout ReturnAddress (Some x)

-- What is known of word k holds of its value: by itself; or it is the index of a loop that has c turns left, base +
-- count - c; or the count of one, c.
pub data MeansWord (m : Contents) (act : Activation) (k : ℤ) : WordFact → Option ℤ → Type 0 where
  is_fact : {fact : Fact} {v : Option ℤ} → Means m act.layout fact v → MeansWord m act k (Alone fact) v
  is_index : {loop : CountedLoop} {x : ℤ} → 1 ≤ act.turns k → act.turns k ≤ loop.count
      → x ≡ loop.base +ℤ pos loop.count -ℤ pos (act.turns k) → FitsSigned w32 x
      → MeansWord m act k (Index loop) (Some x)
  is_count : {loop : CountedLoop} {x : ℤ} → 1 ≤ act.turns (k -ℤ pos 1) → act.turns (k -ℤ pos 1) ≤ loop.count
      → x ≡ pos (act.turns (k -ℤ pos 1)) → FitsSigned w32 x → MeansWord m act k (Count loop) (Some x)

pub means_unknown : (m : Contents) (layout : Layout) (v : Option ℤ) → Means m layout Unknown v
means_unknown m layout v = says_nothing

pub nothing_known : (m : Contents) (act : Activation) (k : ℤ) (v : Option ℤ) → MeansWord m act k (Alone Unknown) v
nothing_known m act k v = is_fact says_nothing

-- ---- the frame

-- the place of frame word k, where frame word 0 is at `origin`
abbrev pub place_in : ℤ → ℤ → ℤ
place_in origin k = origin +ℤ (pos 4 *ℤ k)

abbrev pub word_at_place : Memory → ℤ → Option ℤ
word_at_place memory (pos place) = word_at memory place
word_at_place memory (negsuc n) = None

abbrev pub frame_word : Memory → ℤ → ℤ → Option ℤ
frame_word memory origin k = word_at_place memory (place_in origin k)

-- a word of the frame is a word of memory that the process may read
pub record IsReadableWord (h : Holding) (size : ℕ) (origin k : ℤ) : Type 0 where
  pub place : ℕ
  pub is : pos place ≡ place_in origin k
  pub inside : place + 4 ≤ size
  pub readable : may_read_word h place ≡ true

-- it is one that the process may write
pub record IsOwnWord (h : Holding) (size : ℕ) (origin k : ℤ) : Type 0 where
  pub place : ℕ
  pub is : pos place ≡ place_in origin k
  pub inside : place + 4 ≤ size
  pub mine : may_write_word h place ≡ true

-- the words of a frame that count for a process: those that it may write, and those that it may read; and the bounds of
-- the frame, the second of which is the first word after it
pub record Words : Type 0 where
  pub writes : ℤ → Bool
  pub reads : ℤ → Bool
  pub lo : ℤ
  pub hi : ℤ

-- the bounds of a context's frame
abbrev pub frame_lo : Contents → ℕ → ℤ
frame_lo m n = elim (context_at m n) [ None ↦ pos 0 | Some context ↦ context.lo ]

abbrev pub frame_hi : Contents → ℕ → ℤ
frame_hi m n = elim (context_at m n) [ None ↦ pos 0 | Some context ↦ context.hi ]

-- the words that a context may use
abbrev pub words_in : Contents → ℕ → Words
words_in m context = record {
  writes = rights.may_write_word m context;
  reads = rights.may_read_word m context;
  lo = frame_lo m context;
  hi = frame_hi m context;
}

-- the words that the opener of a PAR has left in a context, once `started` branches are started: a word that a branch
-- was given to read is only read
abbrev pub words_left : Contents → Par → ℕ → ℕ → Words
words_left m par context started = record {
  writes = λ k. rights.may_write_word m context k && not (is_hidden par k)
      && not (word_given_to_write par started k || word_given_to_read par started k);
  reads = λ k. rights.may_read_word m context k && not (is_hidden par k) && not (word_given_to_write par started k);
  lo = frame_lo m context;
  hi = frame_hi m context;
}

-- Where the frame lies: it lies in memory, the words that count as written are the process's own, it may read those
-- that count as read, and the workspace is `depth` words from frame word 0.
pub record HasFrame (h : Holding) (size : ℕ) (words : Words) (origin depth : ℤ) (workspace : ℕ) : Type 0 where
  pub small : size ≤ 1048576
  pub from_start : pos 0 ≤ℤ place_in origin words.lo
  pub to_end : place_in origin words.hi ≤ℤ pos size
  pub own : (k : ℤ) → words.writes k ≡ true → IsOwnWord h size origin k
  pub readable : (k : ℤ) → words.reads k ≡ true → IsReadableWord h size origin k
  pub start : pos workspace ≡ pos data_start +ℤ place_in origin depth

-- ---- registers

-- the number lies from lo to hi, or it does not where `inside` is false
abbrev pub is_tested : ℤ → ℤ → Bool → ℤ → Bool
is_tested lo hi inside x = if inside then int_le lo x && int_le x hi else not (int_le lo x && int_le x hi)

-- Where a value comes from: from a word that counts, which has it still; or it is whether that word lies in a range.
pub data ComesFrom (counts : ℤ → Bool) (memory : Memory) (origin : ℤ) : Source → Option ℤ → Type 0 where
  from_nowhere : {v : Option ℤ} → ComesFrom counts memory origin Nowhere v
  from_word : {word : ℤ} {v : Option ℤ} → counts word ≡ true → v ≡ frame_word memory origin word
      → ComesFrom counts memory origin (From word) v
  from_test : {word lo hi : ℤ} {inside : Bool} {v : Option ℤ} (x : ℤ) → counts word ≡ true
      → frame_word memory origin word ≡ Some x → v ≡ Some (truth (is_tested lo hi inside x))
      → ComesFrom counts memory origin (Test word lo hi inside) v

-- what is known of a register holds of its value
pub record MeansKnown (m : Contents) (counts : ℤ → Bool) (layout : Layout) (memory : Memory) (known : Known)
    (v : Option ℤ) : Type 0 where
  pub fact : Means m layout known.fact v
  pub source : ComesFrom counts memory layout.origin known.source v

-- ---- states

-- All that is said of registers and words holds in an activation, of the words that count.
pub record Knows (m : Contents) (counts : ℤ → Bool) (act : Activation) (said : Stack Known) (facts : Facts)
    (stack : Stack (Option ℤ)) (memory : Memory) : Type 0 where
  pub registers : AreRelated (MeansKnown m counts act.layout memory) said stack
  pub words : (k : ℤ) → counts k ≡ true → MeansWord m act k (facts k) (frame_word memory act.layout.origin k)

-- the modes of a state and of a process
pub data SameMode : states.Mode → machine.Mode → Type 0 where
  both_plain : SameMode states_modes.Plain machine_modes.Plain
  both_enabling : {is_ready : Bool} → SameMode states_modes.Enabling (machine_modes.Enabling is_ready)
  both_disabling : {done : ℕ} {selection : Option ℤ}
      → SameMode (states_modes.Disabling done) (machine_modes.Disabling selection)
  both_starting : {row started : ℕ} → SameMode (states_modes.Starting row started) machine_modes.Starting

-- ---- what is owed

-- what the loop whose index is in a word has still to pay: its weight for each turn that is left but this one
abbrev pub loop_due : WordFact → ℕ → ℕ
loop_due (Alone fact) turns = 0
loop_due (Index loop) turns = loop.weight * (turns - 1)
loop_due (Count loop) turns = 0

-- what the loops whose indices are in a number of words from this one on have still to pay
abbrev pub dues_from : Facts → (ℤ → ℕ) → ℤ → ℕ → ℕ
dues_from facts turns word zero = 0
dues_from facts turns word (suc more) =
    loop_due (facts word) (turns word) + dues_from facts turns (word +ℤ pos 1) more

-- No frame has words farther from its word 0.
unfoldable pub farthest_word : ℕ
farthest_word = 16384

-- what the loops of a frame have still to pay
unfoldable pub dues : Facts → (ℤ → ℕ) → ℕ
dues facts turns = dues_from facts turns (neg_ℤ (pos farthest_word)) (2 * farthest_word)

-- What a process owes that is in a state in an activation: its number, and what the loops there have still to pay.
abbrev pub owed : State → Activation → ℕ
owed s act = s.number + dues s.frame act.turns

-- ---- loops at a label

-- the turns left of a loop at a label: those that it had, if it is under way, else all
abbrev pub turns_from : WordFact → WordFact → ℕ → ℕ
turns_from (Index loop) wanted turns = turns
turns_from said (Index loop) turns = loop.count
turns_from said wanted turns = turns

-- the turns that are left where a state with these facts goes on at a label
abbrev pub label_turns : Facts → List Entry → (ℤ → ℕ) → ℤ → ℕ
label_turns facts entries turns = λ k. turns_from (facts k) (entry_fact entries k) (turns k)

-- the activation in which a state goes on as a label's
abbrev pub at_label : State → Label → Activation → Activation
at_label s t act = with_turns (label_turns s.frame t.entries act.turns) act

-- ---- modules

-- a fact may be said of this number of words: a loop has two
abbrev pub IsSpan : ℕ → Fact → Type 0
IsSpan span (Loop base count weight) = span ≡ 2
IsSpan span _ = ⊤

-- the loops of a label have two words each
abbrev pub ArePairs : List Entry → Type 0
ArePairs entries = AllByRecursion (λ (entry : Entry). IsSpan entry.span entry.fact) entries

-- What the format of module files says of the parts that the theorems need.
pub record IsWellFormed (m : Contents) : Type 0 where
  pub some_code : 0 < length m.code
  pub short_code : length m.code ≤ 262143
  pub few_words : m.data_words ≤ 16384
  pub few_constants : length m.constants ≤ 16384
  pub base : m.base ≤ m.data_words
  pub labels : (at : ℕ) (t : Label) → label_at m at ≡ Some t → at < length m.code
  pub rows : (at : ℕ) (t : Label) → label_at m at ≡ Some t → IsRowOf m t
  pub pairs : (at : ℕ) (t : Label) → label_at m at ≡ Some t → ArePairs t.entries
  pub procedures : (n : ℕ) (p : Procedure) → slice_get m.procedures n ≡ Some p
      → (low : ℕ) × ProcedureKeeps (length m.code) low p
  pub entries : (at : ℕ) (e : Entered) → procedure_at m at ≡ Some e → label_at m at ≡ None
  pub eight : length m.lengths ≡ 8
  pub frames : (n : ℕ) (k : ℤ) → rights.has_word (context_at m n) k ≡ true
      → (neg_ℤ (pos farthest_word) ≤ℤ k) × (k <ℤ pos farthest_word)
  pub constant_bytes : IsBytes m.constants
  pub tables : InOrder (TableKeeps m.constants) behind_table 0 m.table_rows
