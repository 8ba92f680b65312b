-- What the parameters of an activation name, and what an activation may change.
use Rattle.std.specs.Prelude.{◌≡◌, ◌⊎◌, ⊤, ℕ, ◌+◌, ◌*◌, ◌%◌, ◌^◌, ◌≤◌, ◌<◌, ℤ, pos, negsuc, ◌+ℤ◌, ◌≤ℤ◌, ◌<ℤ◌, Bool}
use Rattle.std.specs.Prelude.{true, IsTrue, length, get_or, slice_get, Option, Some, None, option_map, if◌then◌else◌}
use Rattle.std.specs.Int.{w32, cast_unsigned}
use Rattle.module_format.specs.declared.fact.Fact.TheVariants.{Number}
use Rattle.module_format.specs.declared.rows.Parameter.{Parameter}
use Rattle.module_format.specs.declared.rows.ParameterKind.{ParameterKind}
use Rattle.module_format.specs.declared.rows.ParameterKind.TheVariants.{Value, ReadRegion, WrittenRegion, Channels}
use Rattle.module_format.specs.declared.rows.Direction.{Direction}
use Rattle.module_format.specs.Order.{is_multiple_of_four, is_stepped}
use Rattle.module_format.specs.Contents.{Contents, Par}
use Rattle.module_format.specs.Contexts.{parameters_at}
use Rattle.module_format.specs.declared.rows.EndKind.{EndKind}
use Rattle.module_format.specs.declared.rows.EndKind.TheVariants as kinds
use Rattle.certificate.specs.Rights as rights
use Rattle.machine_state.specs.Memory.{Memory, byte_at, word_at, place_of, data_start}
use Rattle.machine_state.specs.World.{constants_start, link_words}
use Rattle.machine_state.specs.Holding.{Holding, may_write, may_read, has_end}
use Rattle.states.specs.declared.known.Mode.{Mode}
use Rattle.states.specs.declared.known.Mode.TheVariants.{Starting}
use Rattle.states.specs.State.{State}
use Rattle.rulings.specs.Meaning.{Layout, Words, words_in, words_left, word_of, Means, place_in}
use Rattle.rulings.specs.Reach.{may_write_parameter, may_read_parameter}
use Rattle.rulings.specs.Channels.{message_length}
use Rattle.rulings.specs.Remaining.{only_read, not_used, kind_left, end_left}

-- the byte at a place is one of frame word k
pub record IsByteOf (origin k : ℤ) (place : ℕ) : Type 0 where
  pub low : place_in origin k ≤ℤ pos place
  pub high : pos place <ℤ (place_in origin k +ℤ pos 4)

-- What an activation may reach: words of its frame, what its parameters name, and ends of channels, with the bytes of
-- the messages of a channel, where it is known.
pub record Scope : Type 0 where
  pub words : Words
  pub layout : Layout
  pub parameters : ℕ → Option Parameter
  pub ends : EndKind → Direction → Bool
  pub lengths : EndKind → Option ℕ

-- what a parameter is to a context: a branch uses those so that its row names
abbrev pub kind_used : Contents → ℕ → ℕ → ParameterKind → ParameterKind
kind_used m context j kind =
    if may_write_parameter m context j then kind
    else if may_read_parameter m context j then only_read kind else not_used kind

-- parameter j, as a context uses it
abbrev pub parameter_used : Contents → ℕ → ℕ → Option Parameter
parameter_used m context j =
    option_map (λ (p : Parameter). record p { kind = kind_used m context j p.kind })
    (slice_get (parameters_at m context) j)

-- the scope of an activation of a context
abbrev pub scope_of : Contents → ℕ → Layout → Scope
scope_of m context layout = record {
  words = words_in m context;
  layout = layout;
  parameters = parameter_used m context;
  ends = λ kind direction. rights.has_end m context (record { kind = kind; direction = direction });
  lengths = message_length m context;
}

-- a channel of a PAR has the length that its row says, whatever the word is around it
abbrev pub length_left : Contents → Par → ℕ → EndKind → Option ℕ
length_left m par context (kinds.FrameWord word) = elim (rights.listed_length par.channels word) [
  | Some len ↦ Some len
  | None ↦ message_length m context (kinds.FrameWord word)
]
length_left m par context kind = message_length m context kind

-- what the opener of a PAR has left, once `started` branches are started
abbrev pub scope_left : Contents → Par → ℕ → ℕ → Layout → Scope
scope_left m par context started layout = record {
  words = words_left m par context started;
  layout = layout;
  parameters = λ j. option_map (λ (p : Parameter). record p { kind = kind_left par started j p.kind })
      (parameter_used m context j);
  ends = end_left m par context started;
  lengths = length_left m par context;
}

-- the scope of an activation in a mode: among the starts of a PAR what its opener has left
abbrev pub scope_among : Contents → ℕ → Mode → Layout → Scope
scope_among m context (Starting row started) layout = elim (slice_get m.pars row) [
  | None ↦ scope_of m context layout
  | Some par ↦ scope_left m par context started layout
]
scope_among m context mode layout = scope_of m context layout

-- the scope of an activation in a state
abbrev pub scope_in : Contents → State → Layout → Scope
scope_in m s layout = scope_among m s.context s.mode layout

-- ---- what parameters name

-- A region: its `size` bytes from a place on, both multiples of 4, each of which may be used so. No word of the frame
-- that counts as read has one of them, and each word is a number from lo to hi.
pub record IsHeldRegion (m : Contents) (may_use : ℕ → Bool) (scope : Scope) (memory : Memory) (place size : ℕ)
    (lo hi : ℤ) : Type 0 where
  pub aligned : IsTrue (is_multiple_of_four place)
  pub whole : IsTrue (is_multiple_of_four size)
  pub held : (i : ℕ) → i < size → may_use (place + i) ≡ true
  pub beside : (k : ℤ) (i : ℕ) → scope.words.reads k ≡ true → i < size
      → IsByteOf scope.layout.origin k (place + i) → ⊥
  pub numbers : (i : ℕ) → 4 * i + 4 ≤ size → Means m scope.layout (Number lo hi) (word_at memory (place + 4 * i))

-- the process holds what a parameter of this kind names, which begins at this address: channels are words
abbrev pub IsNamed : Contents → Holding → Scope → Memory → ParameterKind → ℕ → Type 0
IsNamed m h scope memory (Value lo hi) start = ⊤
IsNamed m h scope memory (ReadRegion size lo hi) start =
    IsHeldRegion m (may_read h) scope memory (place_of start) size lo hi
IsNamed m h scope memory (WrittenRegion size lo hi) start =
    IsHeldRegion m (may_write h) scope memory (place_of start) size lo hi
IsNamed m h scope memory (Channels count len ends) start = IsTrue (is_multiple_of_four start)

-- ---- what an activation changes

-- the byte at a place is one of a region that is written, which begins at this address
abbrev pub IsWrittenAt : ParameterKind → ℕ → ℕ → Type 0
IsWrittenAt (Value lo hi) start place = ⊥
IsWrittenAt (ReadRegion size lo hi) start place = ⊥
IsWrittenAt (WrittenRegion size lo hi) start place = (place_of start ≤ place) × (place < place_of start + size)
IsWrittenAt (Channels count len ends) start place = ⊥

-- the byte at a place is one of a region, which begins at this address
abbrev pub IsNamedAt : ParameterKind → ℕ → ℕ → Type 0
IsNamedAt (Value lo hi) start place = ⊥
IsNamedAt (ReadRegion size lo hi) start place = (place_of start ≤ place) × (place < place_of start + size)
IsNamedAt (WrittenRegion size lo hi) start place = (place_of start ≤ place) × (place < place_of start + size)
IsNamedAt (Channels count len ends) start place = ⊥

-- ---- what an activation holds

-- the address of a channel that an activation names
abbrev pub channel_address : Layout → EndKind → ℕ
channel_address layout (kinds.FrameWord word) =
    cast_unsigned w32 (word_of (pos data_start +ℤ place_in layout.origin word))
channel_address layout (kinds.Parameter (pos j) element) = (layout.starts j + 4 * element) % 2 ^ 32
channel_address layout (kinds.Parameter (negsuc j) element) = 0
channel_address layout (kinds.Link link) = (link_words + 4 * link) % 2 ^ 32

-- The process has the constants of the module: they may be read, and lie after all that it may write.
pub record HasConstants (m : Contents) (h : Holding) (memory : Memory) : Type 0 where
  pub readable : (i : ℕ) → i < length m.constants → may_read h (constants_start m + i) ≡ true
  pub bytes : (i : ℕ) → i < length m.constants → byte_at memory (constants_start m + i) ≡ Some (get_or m.constants i 0)
  pub behind : (place : ℕ) → may_write h place ≡ true → place < 4 * m.data_words

-- what may be read are bytes, where it is defined
pub record HasBytes (h : Holding) (memory : Memory) : Type 0 where
  pub each : (place b : ℕ) → may_read h place ≡ true → byte_at memory place ≡ Some b → b < 256

-- The process holds what each parameter of the scope names, the constants, and the ends of the scope. No byte of a
-- region that is written is one of another parameter's region. The frame lies at a multiple of 4, and the activation
-- returns into the code. A channel of which the scope has an end has messages of the length that is known, and one name
-- for that end.
pub record HoldsNamed (m : Contents) (h : Holding) (scope : Scope) (memory : Memory) : Type 0 where
  pub each : (j : ℕ) (p : Parameter) → scope.parameters j ≡ Some p
      → IsNamed m h scope memory p.kind (scope.layout.starts j)
  pub apart : (j k : ℕ) (p q : Parameter) → scope.parameters j ≡ Some p
      → scope.parameters k ≡ Some q → (j ≡ k → ⊥) → (place : ℕ)
      → IsWrittenAt p.kind (scope.layout.starts j) place → IsNamedAt q.kind (scope.layout.starts k) place → ⊥
  pub constants : HasConstants m h memory
  pub bytes : HasBytes h memory
  pub even : IsTrue (is_stepped scope.layout.origin)
  pub ends : (kind : EndKind) (direction : Direction) → scope.ends kind direction ≡ true
      → has_end h (record { address = channel_address scope.layout kind; direction = direction }) ≡ true
  pub back : scope.layout.back < length m.code
  pub lengths : (kind : EndKind) (direction : Direction) → scope.ends kind direction ≡ true
      → scope.lengths kind ≡ Some (scope.layout.lengths (channel_address scope.layout kind))
  pub differ : (a b : EndKind) (direction : Direction) → scope.ends a direction ≡ true
      → scope.ends b direction ≡ true → channel_address scope.layout a ≡ channel_address scope.layout b → a ≡ b

-- The activation may change the byte at a place.
pub data MayChange (scope : Scope) (place : ℕ) : Type 0 where
  in_frame : (k : ℤ) → scope.words.writes k ≡ true → IsByteOf scope.layout.origin k place → MayChange scope place
  in_region : (j : ℕ) (p : Parameter) → scope.parameters j ≡ Some p
      → IsWrittenAt p.kind (scope.layout.starts j) place → MayChange scope place

-- What steps of an activation leave of memory: of the bytes that the process may read only those have changed that the
-- activation may change, and what its parameters name is still there.
pub record KeepsMemory (m : Contents) (h : Holding) (scope : Scope) (old new : Memory) : Type 0 where
  pub size : length new ≡ length old
  pub bytes : (place : ℕ) → may_read h place ≡ true → (byte_at new place ≡ byte_at old place) ⊎ MayChange scope place
  pub named : HoldsNamed m h scope old → HoldsNamed m h scope new
