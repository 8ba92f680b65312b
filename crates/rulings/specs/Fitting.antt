-- When the rule of an instruction and its step fit each other: if the rule is not broken, the step is no fault, it
-- changes own bytes only, and what the rule says of the state after it holds.
use Rattle.std.specs.Prelude.{◌≡◌, ℕ, ◌+◌, ◌*◌, ◌≤◌, ◌<◌, ℤ, pos, ◌+ℤ◌, ◌≤ℤ◌, Bool, true, false, List, [], ◌∷◌, ◌++◌}
use Rattle.std.specs.Prelude.{length, Option, Some, None, slice_get, slice_set}
use Rattle.module_format.specs.Contents.{Contents, Label, label_at}
use Rattle.module_format.specs.Stack.{of_empty}
use Rattle.module_format.specs.declared.rows.Direction.{Direction}
use Rattle.module_format.specs.declared.rows.Direction.TheVariants.{In, Out}
use Rattle.module_format.specs.declared.rows.EndKind.{EndKind}
use Rattle.certificate.specs.Starts.{Entered, procedure_at}
use Rattle.machine_state.specs.declared.process.Mode as machine
use Rattle.machine_state.specs.declared.process.Mode.TheVariants as machine_modes
use Rattle.machine_state.specs.declared.process.Exchange.{Exchange}
use Rattle.machine_state.specs.Memory.{Memory, byte_at, data_start}
use Rattle.machine_state.specs.Holding.{Holding, may_read, may_write}
use Rattle.machine_state.specs.Frame.{ChangesOwn}
use Rattle.machine_state.specs.Site as steps
use Rattle.machine_state.specs.LocalStep.{with_a_alone}
use Rattle.machine_state.specs.Site.{Outcome, goes, jumps, lands, stops, receives, sends, Local}
use Rattle.machine_state.specs.Site.{begins, enables_channel, enables_skip, waits, disables_channel, disables_skip}
use Rattle.machine_state.specs.Site.{ends_alternation}
use Rattle.states.specs.declared.rule.Rule.{Rule}
use Rattle.states.specs.declared.known.Guard.{Guard}
use Rattle.states.specs.declared.known.GuardKind.{GuardKind}
use Rattle.states.specs.declared.known.GuardKind.TheVariants.{Channel, Skip}
use Rattle.states.specs.declared.known.GuardName.{GuardName}
use Rattle.states.specs.declared.known.Mode.TheVariants.{Plain, Enabling, Disabling}
use Rattle.states.specs.State.{State, unknown, label_state, procedure_state}
use Rattle.rulings.specs.Regions.{Scope, scope_of, scope_in, channel_address, HoldsNamed, KeepsMemory}
use Rattle.rulings.specs.Buffers.{message_place, is_of_message, IsByte, Fills}
use Rattle.rulings.specs.Guarding.{guard_value, GuardsFit}
use Rattle.rulings.specs.Lends.{Lends}
use Rattle.rulings.specs.Rulings as rule
use Rattle.rulings.specs.Rulings.{Ruling, calls, returns, ends, breaks, falling, leading}
use Rattle.rulings.specs.Meaning.{Layout, Activation, MeansWord, frame_word, place_in, with_turns, words_in, HasFrame}
use Rattle.rulings.specs.Meaning.{Knows, owed, SameMode}

-- The frame is there, what a state says is so, and the process holds what a scope has.
pub record Described (m : Contents) (h : Holding) (mode : machine.Mode) (act : Activation) (s : State) (l : Local)
    (scope : Scope) : Type 0 where
  pub frame : HasFrame h (length l.memory) scope.words act.layout.origin s.depth l.registers.workspace
  pub knows : Knows m scope.words.reads act s.stack s.frame l.registers.stack l.memory
  pub named : HoldsNamed m h scope l.memory
  pub same_mode : SameMode s.mode mode

-- what holds after an instruction, of all that the activation has in its mode
abbrev pub After : Contents → Holding → machine.Mode → Activation → State → Local → Type 0
After m h mode act s l = Described m h mode act s l (scope_in m s act.layout)

-- where an instruction runs: the module, what the process holds, its context, state and activation, its mode, memory
-- and what it owed before, and the place of the instruction
pub record Situation : Type 0 where
  pub m : Contents
  pub h : Holding
  pub context : ℕ
  pub before : State
  pub act : Activation
  pub mode : machine.Mode
  pub memory : Memory
  pub owed : ℕ
  pub at : ℕ
  pub len : ℕ

-- A state and what the machine has are those before the instruction.
pub record StandsAt (x : Situation) (s : State) (l : Local) : Type 0 where
  pub state : x.before ≡ s
  pub memory : l.memory ≡ x.memory

-- An instruction that goes on in the middle of something changes registers alone.
pub record Stays (x : Situation) (s : State) (l : Local) : Type 0 where
  pub mode : s.mode ≡ x.before.mode
  pub guards : s.guards ≡ x.before.guards
  pub depth : s.depth ≡ x.before.depth
  pub memory : l.memory ≡ x.memory

-- What an instruction leaves of memory: it changes own bytes only, and no others than its activation may.
pub record Changes (x : Situation) (new : Memory) : Type 0 where
  pub own : ChangesOwn x.h x.memory new
  pub keeps : KeepsMemory x.m x.h (scope_of x.m x.context x.act.layout) x.memory new

abbrev pub rule_site : Situation → rule.Site
rule_site x = record { contents = x.m; at = x.at; length = x.len }

abbrev pub step_site : Situation → steps.Site
step_site x = record {
  code_start = data_start + 4 * x.m.data_words;
  code_length = length x.m.code;
  next = x.at + x.len;
  mode = x.mode;
  holding = x.h;
  has_long_operations = x.m.has_long_operations;
}

-- ---- activations that wait for a return

-- An activation that waits until the one that it called returns, and the state in which it goes on then.
pub record Caller : Type 0 where
  pub act : Activation
  pub state : State
  pub workspace : ℕ

-- All that is known of the words of a caller holds, and it has what its parameters name.
pub record Resumes (m : Contents) (h : Holding) (c : Caller) (memory : Memory) : Type 0 where
  pub frame : HasFrame h (length memory) (words_in m c.state.context) c.act.layout.origin c.state.depth c.workspace
  pub words : (k : ℤ) → (words_in m c.state.context).reads k ≡ true
      → MeansWord m c.act k (c.state.frame k) (frame_word memory c.act.layout.origin k)
  pub named : HoldsNamed m h (scope_of m c.state.context c.act.layout) memory

-- The state in which a caller goes on, and the place of its workspace, when an activation with this layout returns.
pub record GoesOn (layout : Layout) (c : Caller) : Type 0 where
  pub plain : c.state.mode ≡ Plain
  pub registers : c.state.stack ≡ of_empty unknown
  pub workspace : pos c.workspace ≡ pos data_start +ℤ place_in layout.origin (pos 4)

-- A caller waits for a procedure that it has lent what that has. Whatever the procedure still changes, the caller goes
-- on.
pub record Waits (m : Contents) (h : Holding) (context : ℕ) (layout : Layout) (c : Caller)
    (memory : Memory) : Type 0 where
  pub goes_on : GoesOn layout c
  pub base : ℤ
  pub lends : Lends m (scope_of m c.state.context c.act.layout) (scope_of m context layout) base
  pub lengths : layout.lengths ≡ c.act.layout.lengths
  pub resumes : (later : Memory) → KeepsMemory m h (scope_of m context layout) memory later → Resumes m h c later

-- the process goes on at this code offset
pub data GoesTo (x : Situation) : Outcome → ℕ → Local → Type 0 where
  goes_behind : {l : Local} → GoesTo x (goes l) (x.at + x.len) l
  is_jump : {to : ℕ} {l : Local} → GoesTo x (jumps to l) to l
  is_landing : {to : ℕ} {l : Local} → GoesTo x (lands to l) to l

-- A channel of which the activation has the end in a direction, and whose messages have the length of this one.
pub record GoesOver (x : Situation) (direction : Direction) (e : Exchange) : Type 0 where
  pub kind : EndKind
  pub end : (scope_of x.m x.context x.act.layout).ends kind direction ≡ true
  pub address : channel_address x.act.layout kind ≡ e.channel
  pub len : (scope_of x.m x.context x.act.layout).lengths kind ≡ Some e.length
  pub some : 1 ≤ e.length

-- The process may write the buffer of a message that comes. Whatever bytes come there, and whatever happens to bytes
-- that it may not read, what is known of the state holds once all are there; and as long as some come, it keeps the
-- rest.
pub record Receives (x : Situation) (s : State) (l : Local) (e : Exchange) : Type 0 where
  pub over : GoesOver x In e
  pub room : (place : ℕ) → is_of_message e place ≡ true → (may_write x.h place ≡ true) × (place < length l.memory)
  pub fills : (old new : Memory) → Fills x.h (is_of_message e) old new
      → KeepsMemory x.m x.h (scope_in x.m s x.act.layout) old new
  pub after : (later : Memory) → length later ≡ length l.memory
      → ((place : ℕ) → may_read x.h place ≡ true → is_of_message e place ≡ false
      → byte_at later place ≡ byte_at l.memory place)
      → ((place : ℕ) → is_of_message e place ≡ true → IsByte (byte_at later place))
      → After x.m x.h x.mode x.act s (record l { memory = later })

-- The process may read the bytes of a message that goes out, and they are bytes.
pub record Sends (x : Situation) (s : State) (l : Local) (e : Exchange) : Type 0 where
  pub over : GoesOver x Out e
  pub bytes : (j : ℕ) → j < e.length
      → (may_read x.h (message_place e j) ≡ true) × IsByte (byte_at l.memory (message_place e j))
  pub after : After x.m x.h x.mode x.act s l

-- An instruction of plain mode that asks for a message: the state after it, what it leaves of memory, and what it pays.
pub record Exchanges (x : Situation) (r : Ruling) (s : State) (l : Local) : Type 0 where
  pub is : falling r ≡ Some s
  pub plain : s.mode ≡ Plain
  pub in_plain_mode : x.mode ≡ machine_modes.Plain
  pub low : x.at + x.len < length x.m.code
  pub same : s.context ≡ x.context
  pub changes : Changes x l.memory
  pub pay : owed s x.act + x.len ≤ x.owed

-- ---- alternations

-- An instruction of an alternation: the state after it, what it leaves of memory, and what it pays.
pub record Alters (x : Situation) (r : Ruling) (s : State) (l : Local) : Type 0 where
  pub is : falling r ≡ Some s
  pub low : x.at + x.len < length x.m.code
  pub same : s.context ≡ x.context
  pub changes : Changes x l.memory
  pub pay : owed s x.act + x.len ≤ x.owed

-- It begins with no guards.
pub record Begins (x : Situation) (s : State) (l : Local) : Type 0 where
  pub before : x.before.mode ≡ Plain
  pub mode : s.mode ≡ Enabling
  pub none : s.guards ≡ []
  pub after : After x.m x.h (machine_modes.Enabling false) x.act s l

-- The guards of the state after the instruction fit as those before it did, each of which still has its value.
pub record KeepsGuards (x : Situation) (s : State) (l : Local) : Type 0 where
  pub fit : GuardsFit x.m x.before → GuardsFit x.m s
  pub values : GuardsFit x.m x.before → (i : ℕ) (g : Guard) → slice_get x.before.guards i ≡ Some g
      → guard_value l.memory x.act g.name ≡ guard_value x.memory x.act g.name

-- The value of a guard's name, and whether that is true.
pub record HasTruth (x : Situation) (name : GuardName) (holds : Bool) : Type 0 where
  pub value : ℤ
  pub is : guard_value x.memory x.act name ≡ Some value
  pub yes : holds ≡ true → value ≡ pos 0 → ⊥
  pub no : holds ≡ false → value ≡ pos 0

-- One guard more is enabled, if it is true, whatever was ready before.
pub record Enables (x : Situation) (kind : GuardKind) (holds : Bool) (s : State) (l : Local) : Type 0 where
  pub before : x.before.mode ≡ Enabling
  pub mode : s.mode ≡ Enabling
  pub name : GuardName
  pub list : s.guards ≡ x.before.guards ++ (record { kind = kind; name = name; exit = None }) ∷ []
  pub truth : HasTruth x name holds
  pub memory : l.memory ≡ x.memory
  pub keeps : KeepsGuards x s l
  pub after : (is_ready : Bool) → After x.m x.h (machine_modes.Enabling is_ready) x.act s l

-- It waits until a guard is ready.
pub record AwaitsGuards (x : Situation) (s : State) (l : Local) : Type 0 where
  pub before : x.before.mode ≡ Enabling
  pub mode : s.mode ≡ Disabling 0
  pub list : s.guards ≡ x.before.guards
  pub keeps : KeepsGuards x s l
  pub after : (selection : Option ℤ) → After x.m x.h (machine_modes.Disabling selection) x.act s l

-- The next guard is disabled, whatever was selected before. A says whether it is selected.
pub record Disables (x : Situation) (kind : GuardKind) (holds : Bool) (distance : ℤ) (s : State) (l : Local) : Type 0
  where
    pub done : ℕ
    pub before : x.before.mode ≡ Disabling done
    pub mode : s.mode ≡ Disabling (done + 1)
    pub guard : Guard
    pub there : slice_get x.before.guards done ≡ Some guard
    pub kind_is : guard.kind ≡ kind
    pub list : s.guards ≡ slice_set x.before.guards done (record guard { exit = Some distance })
    pub truth : HasTruth x guard.name holds
    pub keeps : KeepsGuards x s l
    pub after : (selection : Option ℤ) (a : ℤ) → pos 0 ≤ℤ a → a ≤ℤ pos 1
        → After x.m x.h (machine_modes.Disabling selection) x.act s (with_a_alone (Some a) l)

-- A channel from which the activation may receive has this address.
pub record IsAtChannel (x : Situation) (kind : EndKind) (address : ℕ) : Type 0 where
  pub end : (scope_of x.m x.context x.act.layout).ends kind In ≡ true
  pub address_is : channel_address x.act.layout kind ≡ address

-- What the instruction asks of the world is what the ruling says, and the world may grant it. Each family of
-- instructions that ask something has its constructors here.
pub data Asks (x : Situation) (r : Ruling) : Outcome → Type 0 where
  -- a message comes, or goes, and after that the process goes on after the instruction
  to_receive : {s : State} {l : Local} {e : Exchange} → Exchanges x r s l → Receives x s l e → Asks x r (receives e l)
  to_send : {s : State} {l : Local} {e : Exchange} → Exchanges x r s l → Sends x s l e → Asks x r (sends e l)
  -- an alternation begins, a guard is enabled, it waits, a guard is disabled
  to_begin : {s : State} {l : Local} → Alters x r s l → Begins x s l → Asks x r (begins l)
  to_enable : {s : State} {l : Local} {holds : Bool} {address : ℕ} (kind : EndKind) → Alters x r s l
      → IsAtChannel x kind address → Enables x (Channel kind) holds s l
      → ((i : ℕ) (g : Guard) → slice_get x.before.guards i ≡ Some g → g.kind ≡ Channel kind → ⊥)
      → Asks x r (enables_channel holds address l)
  to_enable_skip : {s : State} {l : Local} {holds : Bool} → Alters x r s l → Enables x Skip holds s l
      → Asks x r (enables_skip holds l)
  to_wait : {s : State} {l : Local} → Alters x r s l → AwaitsGuards x s l → Asks x r (waits l)
  to_disable : {s : State} {l : Local} {holds : Bool} {address : ℕ} {distance : ℤ} (kind : EndKind) → Alters x r s l
      → IsAtChannel x kind address → Disables x (Channel kind) holds distance s l
      → Asks x r (disables_channel holds address distance l)
  to_disable_skip : {s : State} {l : Local} {holds : Bool} {distance : ℤ} → Alters x r s l
      → Disables x Skip holds distance s l → Asks x r (disables_skip holds distance l)

-- one of the offsets
abbrev pub IsOneOf : ℕ → List ℕ → Type 0
IsOneOf to offsets = (n : ℕ) × (slice_get offsets n ≡ Some to)

-- A ruling and an outcome fit each other. After the instruction the activation is the same; at a label its loops may
-- have other turns left. Of what was owed each byte of the instruction is paid.
pub data Fits (x : Situation) : Ruling → Outcome → Type 0 where
  it_falls : {r : Ruling} {o : Outcome} {s : State} {l : Local} → falling r ≡ Some s → GoesTo x o (x.at + x.len) l
      → x.at + x.len < length x.m.code → After x.m x.h x.mode x.act s l → s.context ≡ x.context → Changes x l.memory
      → owed s x.act + x.len ≤ x.owed → ((x.mode ≡ machine_modes.Plain → ⊥) → Stays x s l) → Fits x r o
  it_leads : {r : Ruling} {o : Outcome} {to : ℕ} {l : Local} {t : Label} (turns : ℤ → ℕ) → leading r ≡ to ∷ []
      → GoesTo x o to l → label_at x.m to ≡ Some t → to < length x.m.code
      → After x.m x.h x.mode (with_turns turns x.act) (label_state t) l → t.context ≡ x.context → Changes x l.memory
      → owed (label_state t) (with_turns turns x.act) + x.len ≤ x.owed → Fits x r o
  it_calls : {to : ℕ} {s : State} {l : Local} {e : Entered} (act : Activation) (workspace : ℕ)
      → procedure_at x.m to ≡ Some e → to < length x.m.code
      → After x.m x.h x.mode act (procedure_state e.context e.procedure) l → act.layout.back ≡ x.at + x.len
      → Waits x.m x.h e.context act.layout (record { act = x.act; state = s; workspace = workspace }) l.memory
      → s.context ≡ x.context → Changes x l.memory
      → owed (procedure_state e.context e.procedure) act + owed s x.act + x.len ≤ x.owed
      → 1 ≤ e.context → e.context ≤ length x.m.procedures → Fits x (calls to s) (lands to l)
  it_returns : {l : Local} → 1 ≤ x.context → x.context ≤ length x.m.procedures → x.mode ≡ machine_modes.Plain
      → Changes x l.memory → l.registers.stack ≡ of_empty None
      → pos l.registers.workspace ≡ pos data_start +ℤ place_in x.act.layout.origin (pos 4)
      → x.act.layout.back < length x.m.code → x.len ≤ x.owed → Fits x returns (lands x.act.layout.back l)
  -- an alternation ends, all of whose guards are disabled
  it_selects : {r : Ruling} {to : ℕ} {l : Local} {t : Label} (turns : ℤ → ℕ) → IsOneOf to (leading r)
      → label_at x.m to ≡ Some t → to < length x.m.code
      → After x.m x.h machine_modes.Plain (with_turns turns x.act) (label_state t) l → t.context ≡ x.context
      → Changes x l.memory → owed (label_state t) (with_turns turns x.act) + x.len ≤ x.owed
      → x.before.mode ≡ Disabling (length x.before.guards) → Fits x r (ends_alternation to l)
  it_ends : {l : Local} → x.mode ≡ machine_modes.Plain → Changes x l.memory → x.len ≤ x.owed → Fits x ends (stops l)
  it_asks : {r : Ruling} {o : Outcome} → Asks x r o → x.len ≤ x.owed → Fits x r o
  it_breaks : {broken : Rule} {o : Outcome} → Fits x (breaks broken) o

-- what falls through has code after it
abbrev pub HasNext : Situation → Ruling → Type 0
HasNext x r = (s : State) → falling r ≡ Some s → x.at + x.len < length x.m.code
