-- One byte of one process.
use Rattle.std.proofs.Common.{◌≡◌, ℕ, zero, suc, ◌+◌, ◌*◌, ◌≤◌, ◌<◌, true, false, cond, is_some, inl, inr, ℤ, List, []}
use Rattle.std.proofs.Common.{◌∷◌, length, drop, Option, Some, None, Result, Ok, Err, refl, sym, ap, ◌∙◌, subst, arith}
use Rattle.std.proofs.Common.{add-one, pos, ◌+ℤ◌, ◌≤ℤ◌, ◌⊎◌, Bool}
use Rattle.std.proofs.lemmas.Bool.{cases_lt}
use Rattle.std.specs.Prelude.{slice_get}
use Rattle.prefix_decoder.specs.declared.function.Fun.{Fun}
use Rattle.prefix_decoder.specs.declared.decoding.Instr.{Instr}
use Rattle.prefix_decoder.specs.declared.decoding.DecodeFault.{DecodeFault}
use Rattle.prefix_decoder.specs.Functions.{fun_of, function_code, nibble}
use Rattle.prefix_decoder.specs.Operand.{with_nibble, after_prefix}
use Rattle.prefix_decoder.specs.Fetching.{ended_or, read, fetched}
use Rattle.module_format.specs.declared.stack.Stack.{Stack}
use Rattle.module_format.specs.Contents.{Contents, Label, label_at}
use Rattle.certificate.specs.Starts.{procedure_at, Entered as Begun}
use Rattle.machine_state.specs.declared.process.Registers.{Registers}
use Rattle.machine_state.specs.declared.process.Task.{Task}
use Rattle.machine_state.specs.declared.process.Exchange.{Exchange}
use Rattle.machine_state.specs.declared.process.Condition.{Condition}
use Rattle.machine_state.specs.declared.process.Condition.TheVariants.{Ready, Sending, Receiving, Alternating}
use Rattle.machine_state.specs.declared.process.Mode as machine
use Rattle.machine_state.specs.Memory.{Memory, byte_at, data_start}
use Rattle.machine_state.specs.Holding.{Holding, may_read, may_write, has_end}
use Rattle.machine_state.specs.Site.{Site, Local, Outcome, goes, jumps, lands, stops, receives, sends, begins}
use Rattle.machine_state.specs.Site.{enables_channel, enables_skip, waits, disables_channel, disables_skip}
use Rattle.machine_state.specs.Site.{ends_alternation}
use Rattle.machine_state.specs.LocalStep.{with_a_alone}
use Rattle.machine_state.specs.LocalStep.{local_step}
use Rattle.machine_state.specs.Happens.{between}
use Rattle.states.specs.declared.rule.Rule.{Rule}
use Rattle.states.specs.declared.rule.Rule.TheVariants as rules
use Rattle.states.specs.declared.known.Known.{Known}
use Rattle.states.specs.State.{State, label_state, unknown, procedure_state}
use Rattle.states.specs.Below.{below}
use Rattle.rulings.specs.Rulings.{Ruling, breaks, falling}
use Rattle.machine_state.specs.declared.instruction.Instruction.{Instruction}
use Rattle.machine_state.specs.Instructions.{instruction_of}
use Rattle.module_format.specs.Keeping.{Keeps as IsKept}
use Rattle.start_laws.specs.Starting.{StartFits, to_start_next, to_start_first, start_breaks}
use Rattle.start_laws.specs.Ending.{EndFits, to_end_own, to_end_branch, end_breaks}
use Rattle.facts.specs.RulesFit.{FitsStep, it_starts, it_joins, it_fits}
use Rattle.facts.specs.Rules.{rule_at}
use Rattle.certified_worlds.specs.Certified.{state_at, Reaches, follows, IsCertified}
use Rattle.rulings.specs.Meaning.{owed, Layout, Activation, with_turns, at_label, words_in, MeansKnown, IsWellFormed}
use Rattle.rulings.specs.Meaning.{HasFrame, place_in, SameMode, both_plain, both_enabling, both_disabling}
use Rattle.rulings.specs.Meaning.{both_starting}
use Rattle.machine_state.specs.Frame.{ChangesOwn}
use Rattle.certified_worlds.specs.Point.{IsReading, Began, Behind, nobody_waits, one_waits, owed_behind, Point}
use Rattle.certified_worlds.specs.Point.{owed_at, MeetsPoint, Decodes}
use Rattle.certified_worlds.specs.Lives.{awaits, IsExchanging, Lives}
use Rattle.certified_worlds.proofs.LivesAs.{LivesAs}
use Rattle.certified_worlds.proofs.BehindKeeps.{behind_as, behind_keeps, behind_lengths, behind_of}
use Rattle.rulings.specs.Guarding.{HasSelected}
use Rattle.states.specs.Below.{is_plain}
use Rattle.states.specs.declared.known.Guard.{Guard}
use Rattle.states.specs.declared.known.GuardKind.TheVariants.{Channel, Skip}
use Rattle.module_format.specs.declared.rows.EndKind.{EndKind}
use Rattle.rulings.specs.Regions.{channel_address}
use Rattle.rulings.proofs.Within.{is_starting, scope_still}
use Rattle.rulings.specs.Buffers.{message_place, IsByte, Fills}
use Rattle.rulings.specs.Channels.{message_length}
use Rattle.module_format.specs.declared.rows.Direction.{Direction}
use Rattle.module_format.specs.declared.rows.Direction.TheVariants.{In, Out}
use Rattle.rulings.proofs.Agreeing.{agree_keeps, after_agrees}
use Rattle.rulings.specs.Fitting.{Described, After, Situation, step_site, GoesTo, goes_behind, is_jump, is_landing}
use Rattle.rulings.specs.Fitting.{Fits}
use Rattle.rulings.specs.Fitting.{it_falls, it_leads, it_calls, it_returns, it_ends, it_asks, it_breaks, Caller}
use Rattle.rulings.specs.Fitting.{GoesOver, Receives, Sends, Exchanges, to_receive, to_send, Changes, Stays, it_selects}
use Rattle.rulings.specs.Fitting.{Alters, Begins, Enables, AwaitsGuards, Disables, IsAtChannel, to_begin, to_enable}
use Rattle.rulings.specs.Fitting.{to_enable_skip, to_wait, to_disable, to_disable_skip}
use Rattle.rulings.proofs.Combining.{elsewhere, unknown_means}
use Rattle.facts.proofs.Local.{function_fits}
use Rattle.rulings.proofs.Entering.{below_tells, label_after}
use Rattle.rulings.proofs.Dues.{label_owed}
use Rattle.rulings.proofs.Regions.{keeps_all}
use Rattle.rulings.specs.Regions.{Scope, scope_of, scope_in, scope_among, KeepsMemory, HoldsNamed}
use Rattle.rulings.proofs.Lending.{lift}
use Rattle.certified_worlds.proofs.GivenStates.{nothing_given, is_given, given_label, given_none, label_is_start}
use Rattle.certified_worlds.proofs.GivenStates.{given_procedure}
use Rattle.certified_worlds.proofs.GivenStates.{procedure_is_start}
use Rattle.std.proofs.lemmas.Int.{ints}
use Rattle.small_laws.proofs.Options.{same_some, same_ok}
use Rattle.module_format.specs.Stack.{of_empty, AreRelated}
use Rattle.machine_state.specs.declared.process.Mode.TheVariants as machine_modes
use Rattle.states.specs.declared.known.Mode as states
use Rattle.states.specs.declared.known.Mode.TheVariants as states_modes

-- ---- modes

-- a process that starts no branches is at a point at which none is started
pub still_state : {p : states.Mode} {q : machine.Mode} → SameMode p q → (q ≡ machine_modes.Starting → ⊥)
    → is_starting p ≡ false
still_state both_plain calm = refl
still_state both_enabling calm = refl
still_state both_disabling calm = refl
still_state both_starting calm = absurd (calm refl)

-- and one that is at a point in plain mode is in that mode
pub plain_process : {p : states.Mode} {q : machine.Mode} → SameMode p q → p ≡ states_modes.Plain
    → q ≡ machine_modes.Plain
plain_process both_plain e = refl
plain_process both_enabling e = absurd (cc)
plain_process both_disabling e = absurd (cc)
plain_process both_starting e = absurd (cc)

pub owed_still : (q : states.Mode) (s : State) (act : Activation) (callers : List Caller) → is_starting q ≡ false
    → owed_at q s act callers ≡ owed s act + owed_behind callers
owed_still states_modes.Plain s act callers still = refl
owed_still states_modes.Enabling s act callers still = refl
owed_still (states_modes.Disabling done) s act callers still = refl
owed_still (states_modes.Starting row started) s act callers still = absurd (cc)

settled_mode : (q : states.Mode) → is_plain q ≡ true → q ≡ states_modes.Plain
settled_mode states_modes.Plain e = refl
settled_mode states_modes.Enabling e = absurd (cc)
settled_mode (states_modes.Disabling done) e = absurd (cc)
settled_mode (states_modes.Starting row started) e = absurd (cc)

-- a process in plain mode is at a point in plain mode
pub plain_state : {p : states.Mode} {q : machine.Mode} → SameMode p q → q ≡ machine_modes.Plain
    → p ≡ states_modes.Plain
plain_state both_plain e = refl
plain_state both_enabling e = absurd (cc)
plain_state both_disabling e = absurd (cc)
plain_state both_starting e = absurd (cc)

-- ---- reading the code

-- what is at a place of a list, and what is after it
front : {A : Type 0} (xs : List A) (i : ℕ) (y : A) (ys : List A) → drop i xs ≡ y ∷ ys
    → (slice_get xs i ≡ Some y) × (drop (suc i) xs ≡ ys) × (i < length xs)
front [] zero y ys h = absurd (cc)
front [] (suc i) y ys h = absurd (cc)
front (x ∷ xs) zero y ys h = let e : x ≡ y = cc in let f : xs ≡ ys = cc in (ap Some e, f, omega arith)
front (x ∷ xs) (suc i) y ys h = let r = front xs i y ys h in (r.0, r.1, omega (arith, r.2))

-- the byte at which the process is
pub record ByteHere (m : Contents) (r : Registers) (i : Instr) (taken : ℕ) : Type 0 where
  pub fuel : ℕ
  pub whole : fuel + (taken + 1) ≡ 8
  pub byte : ℕ
  pub here : slice_get m.code r.at ≡ Some byte
  pub rest : ended_or (fun_of (function_code byte)) (with_nibble r.operand (nibble byte)) (taken + 1)
      (read fuel (drop (r.at + 1) m.code) (after_prefix (function_code byte) (with_nibble r.operand (nibble byte)))
      (taken + 1)) ≡ Ok i

byte_of : (m : Contents) (r : Registers) (i : Instr) (taken fuel : ℕ) (bytes : List ℕ) → fuel + taken ≡ 8
    → drop r.at m.code ≡ bytes → read fuel bytes r.operand taken ≡ Ok i → ByteHere m r i taken
byte_of m r i taken zero bytes whole is h = absurd (cc)
byte_of m r i taken (suc fuel) [] whole is h = absurd (cc)
byte_of m r i taken (suc fuel) (byte ∷ bytes) whole is h =
    let f = front m.code r.at byte bytes is in
    record {
      fuel = fuel;
      whole = omega arith;
      byte = byte;
      here = f.0;
      rest = subst (λ bs. ended_or (fun_of (function_code byte)) (with_nibble r.operand (nibble byte)) (taken + 1)
          (read fuel bs (after_prefix (function_code byte) (with_nibble r.operand (nibble byte))) (taken + 1)) ≡ Ok i)
          (sym (ap (λ n. drop n m.code) (add-one r.at) ∙ f.1)) h;
    }

pub byte_here : (m : Contents) (r : Registers) (i : Instr) (taken : ℕ) → IsReading m r i taken → ByteHere m r i taken
byte_here m r i taken reading = byte_of m r i taken reading.fuel (drop r.at m.code) reading.whole refl reading.rest

-- what is still read makes the instruction longer
pub longer : (fuel : ℕ) (bytes : List ℕ) (operand : ℤ) (taken : ℕ) (i : Instr) → read fuel bytes operand taken ≡ Ok i
    → taken < i.len
longer zero bytes operand taken i h = absurd (cc)
longer (suc fuel) [] operand taken i h = absurd (cc)
longer (suc fuel) (byte ∷ bytes) operand taken i h =
    on_function (fun_of (function_code byte))
    (λ e. longer fuel bytes (after_prefix (function_code byte) (with_nibble operand (nibble byte)))
    (taken + 1) i e) h
  where
    on_function : (f : Option Fun) → (read fuel bytes (after_prefix (function_code byte)
        (with_nibble operand (nibble byte))) (taken + 1) ≡ Ok i → taken + 1 < i.len)
        → ended_or f (with_nibble operand (nibble byte)) (taken + 1)
        (read fuel bytes (after_prefix (function_code byte) (with_nibble operand (nibble byte))) (taken + 1)) ≡ Ok i
        → taken < i.len
    on_function (Some f) later e =
        let same : record { fun = f; operand = with_nibble operand (nibble byte); len = taken + 1 } ≡ i = cc in
        let len : taken + 1 ≡ i.len = ap (λ (j : Instr). j.len) same in
        omega arith
    on_function None later e = omega (arith, later e)

after_none : (f : Option Fun) (e : ℤ) (n : ℕ) (rest : Result Instr DecodeFault) (i : Instr) → f ≡ None
    → ended_or f e n rest ≡ Ok i → rest ≡ Ok i
after_none None e n rest i none h = h
after_none (Some f) e n rest i none h = absurd (cc)

after_some : (f : Option Fun) (g : Fun) (e : ℤ) (n : ℕ) (rest : Result Instr DecodeFault) (i : Instr) → f ≡ Some g
    → ended_or f e n rest ≡ Ok i → (g ≡ i.fun) × (e ≡ i.operand) × (n ≡ i.len)
after_some None g e n rest i some h = absurd (cc)
after_some (Some f) g e n rest i some h =
    let same : ◌≡◌ {A = Result Instr DecodeFault} (Ok (record { fun = f; operand = e; len = n })) (Ok i) = h in
    let is : record { fun = f; operand = e; len = n } ≡ i = cc in
    let fg : f ≡ g = cc in
    (sym fg ∙ ap (λ (j : Instr). j.fun) is, ap (λ (j : Instr). j.operand) is, ap (λ (j : Instr). j.len) is)

fits_pays : (x : Situation) {r : Ruling} {o : Outcome} → Fits x r o → ((v : Rule) → r ≡ breaks v → ⊥) → x.len ≤ x.owed
fits_pays x (it_falls fallen gone low after same changes pay stays) whole = omega arith
fits_pays x (it_leads turns led gone label low after same changes pay) whole = omega arith
fits_pays x (it_calls act workspace found low after back called same changes pay one few) whole = omega arith
fits_pays x (it_returns some few plain changes registers workspace back pay) whole = pay
fits_pays x (it_selects turns among label low after same changes pay all) whole = omega arith
fits_pays x (it_ends plain changes pay) whole = pay
fits_pays x (it_asks asks pay) whole = pay
fits_pays x (it_breaks {broken = v}) whole = absurd (whole v refl)

owed_more : (s : State) (act : Activation) → s.number ≤ owed s act
owed_more s act = omega arith

start_pays : (x : Situation) {s : State} {l : Local} {r : Ruling} {o : Outcome} → s.number ≤ x.owed
    → owed s x.act ≤ x.owed
    → StartFits x s l r o → ((v : Rule) → r ≡ breaks v → ⊥) → x.len ≤ x.owed
start_pays x most all (to_start_next found starts next) whole = let pay = next.paid in omega arith
start_pays x most all (to_start_first found starts first) whole = let pay = first.paid in omega arith
start_pays x most all (start_breaks {broken = v}) whole = absurd (whole v refl)

end_pays : (x : Situation) {s : State} {l : Local} {r : Ruling} {o : Outcome} → s.number ≤ x.owed → EndFits x s l r o
    → ((v : Rule) → r ≡ breaks v → ⊥) → x.len ≤ x.owed
end_pays x most (to_end_own par started pay) whole = omega arith
end_pays x most (to_end_branch par leaves pay) whole = omega arith
end_pays x most (end_breaks {broken = v}) whole = absurd (whole v refl)

step_pays : (x : Situation) {s : State} {l : Local} {i : Option Instruction} {r : Ruling} {o : Outcome}
    → s.number ≤ x.owed → owed s x.act ≤ x.owed → FitsStep x s l i r o → ((v : Rule) → r ≡ breaks v → ⊥)
    → x.len ≤ x.owed
step_pays x most all (it_starts fits) whole = start_pays x most all fits whole
step_pays x most all (it_joins fits) whole = end_pays x most fits whole
step_pays x most all (it_fits none fits) whole = fits_pays x fits whole

-- ---- what the last byte of an instruction comes to

module _ (m : Contents) where
  -- where the last byte of an instruction is executed
  abbrev pub site_in : ℕ → machine.Mode → Holding → Site
  site_in next mode h = record {
    code_start = data_start + 4 * m.data_words;
    code_length = length m.code;
    next = next;
    mode = mode;
    holding = h;
    has_long_operations = m.has_long_operations;
  }

  -- a message over a channel of which the process has the end, of the length that the layout it began with has for that
  -- channel; the code goes on after it
  pub record Talks (h : Holding) (began : Began) (t : Task) (direction : Direction) (e : Exchange) : Type 0 where
    pub end : has_end h (record { address = e.channel; direction = direction }) ≡ true
    pub len : e.length ≡ began.layout.lengths e.channel
    pub some : 1 ≤ e.length
    pub low : t.registers.at + 1 < length m.code

  -- the task after an instruction, in a mode and a condition
  abbrev pub behind_in : Task → machine.Mode → Condition → Local → Task
  behind_in t mode condition l =
      record { registers = between (t.registers.at + 1) l.registers; mode = mode; condition = condition }

  -- the task at an offset
  abbrev pub task_at : Task → machine.Mode → ℕ → Local → Task
  task_at t mode to l = record { registers = between to l.registers; mode = mode; condition = Ready }

  -- Where the process goes on, in the middle of something only registers have changed.
  pub record GoesOnAs (x : Situation) (began : Began) (t u : Task) (l : Local) (later : ℕ) : Type 0 where
    pub state : State
    pub act : Activation
    pub lives : LivesAs x.m x.h began l.memory u later state act
    pub stays : (t.mode ≡ machine_modes.Plain → ⊥) → Stays x state l × (state.context ≡ x.context) × (act ≡ x.act)

  -- an instruction of an alternation: the state after it is that in which the process goes on
  pub record AltersTo (x : Situation) (t : Task) (due later : ℕ) (l : Local) : Type 0 where
    pub own : ChangesOwn x.h x.memory l.memory
    pub less : later + 1 ≤ due
    pub low : t.registers.at + 1 < length x.m.code

  -- the process holds the end of the channel of a guard
  pub record HoldsChannel (x : Situation) (kind : EndKind) (address : ℕ) : Type 0 where
    pub end : (scope_of x.m x.context x.act.layout).ends kind In ≡ true
    pub held : has_end x.h (record { address = address; direction = In }) ≡ true
    pub address_is : channel_address x.act.layout kind ≡ address

  -- what the last byte of an instruction comes to
  pub data Comes (x : Situation) (began : Began) (t : Task) (due : ℕ) : Outcome → Type 0 where
    -- it goes on after it
    comes_on : {l : Local} (later : ℕ) → ChangesOwn x.h x.memory l.memory
        → GoesOnAs x began t (task_at t t.mode (t.registers.at + 1) l) l later → later + 1 ≤ due
        → Comes x began t due (goes l)
    -- or at another offset, where it may be sent to the back of the ready list
    comes_to : {to : ℕ} {l : Local} (later : ℕ) → ChangesOwn x.h x.memory l.memory
        → GoesOnAs x began t (task_at t t.mode to l) l later → later + 1 ≤ due → Comes x began t due (jumps to l)
    -- or at one with no such break
    comes_straight : {to : ℕ} {l : Local} (later : ℕ) → ChangesOwn x.h x.memory l.memory
        → GoesOnAs x began t (task_at t t.mode to l) l later → later + 1 ≤ due → Comes x began t due (lands to l)
    -- or it stops
    comes_down : {l : Local} → t.mode ≡ machine_modes.Plain → ChangesOwn x.h x.memory l.memory → 1 ≤ due
        → Comes x began t due (stops l)
    -- or it wants a message, and goes on after it once that has come, or gone
    comes_in : {e : Exchange} {l : Local} (later : ℕ) → t.mode ≡ machine_modes.Plain → Talks x.h began t In e
        → ChangesOwn x.h x.memory l.memory
        → Lives x.m x.h began l.memory (behind_in t t.mode (Receiving e) l) later → later + 1 ≤ due
        → Comes x began t due (receives e l)
    comes_out : {e : Exchange} {l : Local} (later : ℕ) → t.mode ≡ machine_modes.Plain → Talks x.h began t Out e
        → ChangesOwn x.h x.memory l.memory
        → Lives x.m x.h began l.memory (behind_in t t.mode (Sending e) l) later → later + 1 ≤ due
        → Comes x began t due (sends e l)
    -- or an alternation begins, enables, waits, disables, or ends
    comes_to_begin : {l : Local} {s : State} (later : ℕ) → AltersTo x t due later l → Begins x s l
        → LivesAs x.m x.h began l.memory (behind_in t (machine_modes.Enabling false) Ready l) later s x.act
        → Comes x began t due (begins l)
    comes_to_enable : {l : Local} {s : State} {holds : Bool} {address : ℕ} (later : ℕ) (kind : EndKind)
        → AltersTo x t due later l → HoldsChannel x kind address → Enables x (Channel kind) holds s l
        → ((i : ℕ) (g : Guard) → slice_get x.before.guards i ≡ Some g → g.kind ≡ Channel kind → ⊥)
        → ((b : Bool) → LivesAs x.m x.h began l.memory (behind_in t (machine_modes.Enabling b) Ready l) later s x.act)
        → Comes x began t due (enables_channel holds address l)
    comes_to_enable_skip : {l : Local} {s : State} {holds : Bool} (later : ℕ)
        → AltersTo x t due later l → Enables x Skip holds s l
        → ((b : Bool) → LivesAs x.m x.h began l.memory (behind_in t (machine_modes.Enabling b) Ready l) later s x.act)
        → Comes x began t due (enables_skip holds l)
    comes_to_wait : {l : Local} {s : State} (later : ℕ) → AltersTo x t due later l → AwaitsGuards x s l
        → ((condition : Condition) → (condition ≡ Ready) ⊎ (condition ≡ Alternating)
        → LivesAs x.m x.h began l.memory (behind_in t (machine_modes.Disabling None) condition l) later s x.act)
        → Comes x began t due (waits l)
    comes_to_disable : {l : Local} {s : State} {holds : Bool} {address : ℕ} {distance : ℤ} (later : ℕ) (kind : EndKind)
        → AltersTo x t due later l → HoldsChannel x kind address → Disables x (Channel kind) holds distance s l
        → ((selection : Option ℤ) (a : ℤ) → pos 0 ≤ℤ a → a ≤ℤ pos 1
        → LivesAs x.m x.h began l.memory (behind_in t (machine_modes.Disabling selection) Ready
        (with_a_alone (Some a) l)) later s x.act)
        → Comes x began t due (disables_channel holds address distance l)
    comes_to_disable_skip : {l : Local} {s : State} {holds : Bool} {distance : ℤ} (later : ℕ)
        → AltersTo x t due later l → Disables x Skip holds distance s l
        → ((selection : Option ℤ) (a : ℤ) → pos 0 ≤ℤ a → a ≤ℤ pos 1
        → LivesAs x.m x.h began l.memory (behind_in t (machine_modes.Disabling selection) Ready
        (with_a_alone (Some a) l)) later s x.act)
        → Comes x began t due (disables_skip holds distance l)
    comes_to_end : {to : ℕ} {l : Local} {s : State} {act : Activation} (later : ℕ)
        → x.before.mode ≡ states_modes.Disabling (length x.before.guards) → ChangesOwn x.h x.memory l.memory
        → LivesAs x.m x.h began l.memory (task_at t machine_modes.Plain to l) later s act → later + 1 ≤ due
        → to < length x.m.code → Comes x began t due (ends_alternation to l)

-- ---- a process at its point

-- no rule that the certificate holds at is broken
module _ (m : Contents) (d : Decodes m) (wf : IsWellFormed m) (c : IsCertified m) where
  -- what falls through has code after it
  has_next : (at : ℕ) (before : Option State) (s : State) (i : Instr) → Reaches m at before
      → state_at m at before ≡ Some s → fetched m.code at ≡ Ok i
      → (s' : State) → falling (rule_at m at i s) ≡ Some s' → at + i.len < length m.code
  has_next at before s i r st sp s' e =
      let inside = d.inside at i sp in
      elim (cases_lt (at + i.len) (length m.code)) [
        | inl low ↦ low
        | inr high ↦
            let end : at + i.len ≡ length m.code = omega arith in
            let next : Reaches m (at + i.len) (Some s') = follows r st sp refl (sym e) in
            let none : Some s' ≡ None = c.ends (Some s') (subst (λ n. Reaches m n (Some s')) end next) in
            absurd (cc)
      ]

  -- The state after an instruction, where one falls in, and its activation: what is known of the state that falls is
  -- known of this one.
  pub record Entered (h : Holding) (mode : machine.Mode) (at : ℕ) (fallen : State) (from : Activation) : Type 0 where
    pub state : State
    pub stands : state_at m at (Some fallen) ≡ Some state
    pub act : Activation
    pub after : (l : Local) → After m h mode from fallen l → After m h mode act state l
    pub paid : owed state act ≤ owed fallen from
    pub mode_is : state.mode ≡ fallen.mode
    pub stays : (fallen.mode ≡ states_modes.Plain → ⊥) → (state ≡ fallen) × (act ≡ from)
    pub context : state.context ≡ fallen.context
    pub layout : act.layout ≡ from.layout

  -- at a label, or where the tables give no state
  enter_on : (h : Holding) (mode : machine.Mode) (act : Activation) (at : ℕ) (s : State) (cost : ℕ)
      (label : Option Label) (begun : Option Begun) → label_at m at ≡ label
      → procedure_at m at ≡ begun
      → elim label as (λ o. Result ℕ Rule)
      [ None ↦ cond (is_some begun) (Err rules.Flow) (Ok 0) | Some t ↦ below s t ] ≡ Ok cost
      → Entered h mode at s act
  enter_on h mode act at s cost None None no_label no_procedure ok = record {
    state = s;
    stands = nothing_given m at (Some s) (given_none m at no_label no_procedure);
    act = act;
    after = λ l a. a;
    paid = omega arith;
    mode_is = refl;
    stays = λ busy. (refl, refl);
    context = refl;
    layout = refl;
  }
  enter_on h mode act at s cost None (Some e) no_label starts ok = absurd (cc)
  enter_on h mode act at s cost (Some t) begun e f ok =
      let b = below_tells s t cost ok in
      record {
        state = label_state t;
        stands = is_given m at (Some s) (label_state t) (given_label m at t e);
        act = at_label s t act;
        after = λ l a. label_after m h mode act s t l wf at e b.1 a;
        paid = label_owed s t cost act (wf.pairs at t e) ok;
        mode_is = sym (settled_mode s.mode b.1.plain);
        stays = λ busy. absurd (busy (settled_mode s.mode b.1.plain));
        context = sym b.1.context;
        layout = refl;
      }

  pub enter : (h : Holding) (mode : machine.Mode) (act : Activation) (at : ℕ) (s : State) → Reaches m at (Some s)
      → at < length m.code → Entered h mode at s act
  enter h mode act at s r low =
      let holds = c.holds.each at (Some s) low r in
      enter_on h mode act at s holds.cost (label_at m at) (procedure_at m at) refl refl holds.enters

  -- the callers that wait still wait
  pub entered_behind : {h : Holding} {began : Began} {mode : machine.Mode} {at : ℕ} {s : State} {act : Activation}
      {memory : Memory} {callers : List Caller} (en : Entered h mode at s act)
      → Behind m h began s.context act.layout memory callers
      → Behind m h began en.state.context en.act.layout memory callers
  entered_behind en behind = rw (en.context, en.layout) behind

  -- and the activation has what it had
  entered_scope : {h : Holding} {mode : machine.Mode} {at : ℕ} {s : State} {act : Activation}
      (en : Entered h mode at s act)
      → scope_of m en.state.context en.act.layout ≡ scope_of m s.context act.layout
  entered_scope {s = s} en = ap (λ (n : ℕ). scope_of m n en.act.layout) en.context
      ∙ ap (λ (layout : Layout). scope_of m s.context layout) en.layout

  -- What is known in a condition, at the point where the process goes on.
  pub record Meanwhile (h : Holding) (began : Began) (mode : machine.Mode) (act : Activation) (s : State) (l : Local)
      (condition : Condition) : Type 0 where
    pub after : (later : Memory) → length later ≡ length l.memory
        → ((place : ℕ) → may_read h place ≡ true → awaits condition place ≡ false
        → byte_at later place ≡ byte_at l.memory place)
        → ((place : ℕ) → awaits condition place ≡ true → IsByte (byte_at later place))
        → After m h mode act s (record l { memory = later })
    pub room : (place : ℕ) → awaits condition place ≡ true
        → (may_write h place ≡ true) × (place < length l.memory)
    pub sends : (e : Exchange) → condition ≡ Sending e → (j : ℕ) → j < e.length
        → (may_read h (message_place e j) ≡ true) × IsByte (byte_at l.memory (message_place e j))
    pub fills : (old new : Memory) → Fills h (awaits condition) old new
        → KeepsMemory m h (scope_of m s.context act.layout) old new
    pub named : HoldsNamed m h (scope_of m s.context act.layout) l.memory
    pub known_length : (e : Exchange) → IsExchanging condition e → e.length ≡ began.layout.lengths e.channel

  -- where no branches are started an activation has all that its context has
  whole_scope : (s : State) (layout : Layout) → is_starting s.mode ≡ false
      → scope_in m s layout ≡ scope_of m s.context layout
  whole_scope s layout still = scope_still m s.context s.mode layout still

  -- a point between two instructions, with nothing read of the next one
  abbrev pub point_between : (registers : Registers) (mode : machine.Mode) (condition : Condition) (act : Activation)
      (at : ℕ) (before : Option State) (s : State) (callers : List Caller) → Reaches m at before → at < length m.code
      → state_at m at before ≡ Some s
      → Point m (record { registers = between at registers; mode = mode; condition = condition })
  point_between registers mode condition act at before s callers r low st =
      let holds = c.holds.each at before low r in
      record {
        before = before;
        state = s;
        reached = r;
        stands = st;
        instr = holds.instr;
        taken = 0;
        reading =
            record {
              fuel = 8;
              whole = refl;
              at_is = omega arith;
              spelled = holds.spelled;
              rest = d.reads at holds.instr holds.spelled;
            };
        act = act;
        callers = callers;
      }

  -- a process that lives there
  abbrev LivesBetween : Holding → Began → machine.Mode → Activation → ℕ → State → Local → List Caller → Condition
      → Type 0
  LivesBetween h began mode act at s l callers condition =
      LivesAs m h began l.memory (record {
        registers = between at l.registers;
        mode = mode;
        condition = condition;
      }) (owed s act + owed_behind callers) s act

  -- between two instructions, in whatever condition
  lives_while : (h : Holding) (began : Began) (mode : machine.Mode) (act : Activation) (at : ℕ) (before : Option State)
      (s : State) (l : Local) (callers : List Caller) (condition : Condition) → Reaches m at before
      → at < length m.code → state_at m at before ≡ Some s → is_starting s.mode ≡ false
      → Meanwhile h began mode act s l condition → Behind m h began s.context act.layout l.memory callers
      → LivesBetween h began mode act at s l callers condition
  lives_while h began mode act at before s l callers condition r low st still meanwhile behind =
      record {
        state_is = refl;
        act_is = refl;
        lives = record {
          point = point_between l.registers mode condition act at before s callers r low st;
          claim = λ later size agree bytes. record {
            here = elsewhere at at (pos 0) (meanwhile.after later size agree bytes);
            behind = behind_as {m = m} {h = h} {began = began} s.mode {context = s.context} {layout = act.layout}
                {memory = later}
                {callers = callers} still
                (behind_keeps (meanwhile.fills l.memory later (record {
                  size = size;
                  others = agree;
                  come = λ place e awaited. inr (bytes place awaited);
                })) behind);
          };
          room = meanwhile.room;
          sends = meanwhile.sends;
          fills = λ old new fills. subst (λ (scope : Scope). KeepsMemory m h scope old new)
              (sym (whole_scope s act.layout still)) (meanwhile.fills old new fills);
          named = subst (λ (scope : Scope). HoldsNamed m h scope l.memory) (sym (whole_scope s act.layout still))
              meanwhile.named;
          behind = behind_as {m = m} {h = h} {began = began} s.mode {context = s.context} {layout = act.layout}
              {memory = l.memory} {callers = callers} still behind;
          known_length = meanwhile.known_length;
          paid = let same = owed_still s.mode s act callers still in omega (arith, same);
        };
      }

  -- between two instructions, in a condition in which it waits for no message
  lives_quietly : (h : Holding) (began : Began) (mode : machine.Mode) (act : Activation) (at : ℕ) (before : Option
      State)
      (s : State) (l : Local) (callers : List Caller) (condition : Condition)
      → (condition ≡ Ready) ⊎ (condition ≡ Alternating) → Reaches m at before → at < length m.code
      → state_at m at before ≡ Some s → is_starting s.mode ≡ false
      → After m h mode act s l → Behind m h began s.context act.layout l.memory callers
      → LivesBetween h began mode act at s l callers condition
  lives_quietly h began mode act at before s l callers condition quiet r low st still a behind =
      lives_while h began mode act at before s l callers condition r low st still (record {
        after = λ later size agree bytes. after_agrees later size (λ place e. agree place e (none place)) a;
        room = λ place e. let no' = sym (none place) ∙ e in absurd (cc);
        sends = λ e is. absurd (elim quiet [ inl r ↦ let no' = sym r ∙ is in cc | inr r ↦ let no' = sym r ∙ is in cc ]);
        fills = λ old new fills. agree_keeps h old new fills.size (λ place e. fills.others place e (none place)) m
            (scope_of m s.context act.layout);
        named = subst (λ (scope : Scope). HoldsNamed m h scope l.memory) (whole_scope s act.layout still) a.named;
        known_length = λ e is. absurd (elim is [
          | inl out ↦ elim quiet [ inl r ↦ let no' = sym r ∙ out in cc | inr r ↦ let no' = sym r ∙ out in cc ]
          | inr takes ↦ elim quiet [ inl r ↦ let no' = sym r ∙ takes in cc | inr r ↦ let no' = sym r ∙ takes in cc ]
        ]);
      }) behind
    where
      none : (place : ℕ) → awaits condition place ≡ false
      none place = elim quiet [ inl r ↦ ap (λ c. awaits c place) r | inr r ↦ ap (λ c. awaits c place) r ]

  -- where it goes on at once
  pub lives_at : (h : Holding) (began : Began) (mode : machine.Mode) (act : Activation) (at : ℕ) (before : Option State)
      (s : State) (l : Local) (callers : List Caller) → Reaches m at before → at < length m.code
      → state_at m at before ≡ Some s → is_starting s.mode ≡ false
      → After m h mode act s l → Behind m h began s.context act.layout l.memory callers
      → LivesAs m h began l.memory (record {
        registers = between at l.registers;
        mode = mode;
        condition = Ready;
      }) (owed s act + owed_behind callers) s act
  lives_at h began mode act at before s l callers r low st still a behind =
      lives_quietly h began mode act at before s l callers Ready (inl refl) r low st still a behind

  -- how the rule at the process's point and the step fit, with the whole instruction read
  abbrev pub here_of : Holding → Activation → Memory → Task → State → Instr → Situation
  here_of h act memory t s i =
      record {
        m = m;
        h = h;
        context = s.context;
        before = s;
        act = act;
        mode = t.mode;
        memory = memory;
        owed = owed s act;
        at = t.registers.began;
        len = i.len;
      }

  -- a process at a point; at the end of an alternation the machine has selected an exit
  module _ (kept : IsKept m) (h : Holding) (began : Began) (memory : Memory) (t : Task) (p : Point m t)
      (meets : MeetsPoint m t h began p memory) (selected : p.state.mode
      ≡ states_modes.Disabling (length p.state.guards) → HasSelected t.mode p.state.guards) where
    abbrev pub at_point : Situation
    at_point = here_of h p.act memory t p.state p.instr

    abbrev pub registers_here : Local
    registers_here = record { registers = t.registers; memory = memory }

    pub point_fits : FitsStep at_point p.state registers_here (instruction_of p.instr.fun p.instr.operand)
        (rule_at m t.registers.began p.instr p.state)
        (local_step (step_site at_point) p.instr.fun p.instr.operand registers_here)
    point_fits =
        function_fits at_point wf kept p.state registers_here
        meets.here refl (record { own = record { size = refl; others = λ place e. refl }; keeps = keeps_all })
        (omega arith) (record { state = refl; memory = refl }) selected
        p.instr.fun p.instr.operand (d.fits t.registers.began p.instr p.reading.spelled)
        (has_next t.registers.began p.before p.state p.instr p.reached p.stands p.reading.spelled)

    began_inside : t.registers.began < length m.code
    began_inside =
        let some = d.some t.registers.began p.instr p.reading.spelled in
        let inside = d.inside t.registers.began p.instr p.reading.spelled in
        omega arith

    -- the rule at the process's point is not broken
    pub unbroken : (v : Rule) → rule_at m t.registers.began p.instr p.state ≡ breaks v → ⊥
    unbroken v e =
        let holds = c.holds.each t.registers.began p.before began_inside p.reached in
        let i_is : p.instr ≡ holds.instr =
        same_ok (fetched m.code t.registers.began) p.instr holds.instr p.reading.spelled holds.spelled in
        let s_is : p.state ≡ holds.state =
        same_some (state_at m t.registers.began p.before) p.state holds.state p.stands holds.stands in
        holds.unbroken v (ap (λ j. rule_at m t.registers.began j holds.state) (sym i_is) ∙ ap
        (λ u. rule_at m t.registers.began p.instr u) (sym s_is) ∙ e)

    -- what falls through after the instruction is reached
    pub reaches_behind : (s : State) → falling (rule_at m t.registers.began p.instr p.state) ≡ Some s
        → Reaches m (t.registers.began + p.instr.len) (Some s)
    reaches_behind s is = follows p.reached p.stands p.reading.spelled refl (sym is)

    -- what the last byte of an instruction comes to is what its rule says
    pub last_fits : (byte : ℕ) (f : Fun) → slice_get m.code t.registers.at ≡ Some byte
        → fun_of (function_code byte) ≡ Some f
        → (p.taken + 1 ≡ p.instr.len) × FitsStep at_point p.state registers_here
        (instruction_of p.instr.fun p.instr.operand) (rule_at m t.registers.began p.instr p.state)
        (local_step (site_in m (t.registers.at + 1) t.mode h) f (with_nibble t.registers.operand (nibble byte))
        registers_here)
    last_fits byte f here some =
        let b = byte_here m t.registers p.instr p.taken p.reading in
        let same : b.byte ≡ byte = same_some (slice_get m.code t.registers.at) b.byte byte b.here here in
        let rest = subst (λ y. ended_or (fun_of (function_code y)) (with_nibble t.registers.operand (nibble y))
        (p.taken + 1) (read b.fuel (drop (t.registers.at + 1) m.code)
        (after_prefix (function_code y) (with_nibble t.registers.operand (nibble y))) (p.taken + 1))
        ≡ Ok p.instr) same b.rest in
        let is = after_some (fun_of (function_code byte)) f _ _ _ p.instr some rest in
        let at : t.registers.began + p.instr.len ≡ t.registers.at + 1 = omega (arith, p.reading.at_is, is.2) in (
          is.2,
          subst (λ n. FitsPoint (local_step (site_in m n t.mode h) f
              (with_nibble t.registers.operand (nibble byte)) registers_here)) at
              (subst (λ g. FitsPoint (local_step (step_site at_point) g (with_nibble t.registers.operand (nibble byte))
              registers_here)) (sym is.0)
              (subst (λ e. FitsPoint (local_step (step_site at_point) p.instr.fun e registers_here)) (sym is.1)
              point_fits)),
        )
      where
        FitsPoint : Outcome → Type 0
        FitsPoint o = FitsStep at_point p.state registers_here (instruction_of p.instr.fun p.instr.operand)
            (rule_at m t.registers.began p.instr p.state) o

  -- a process that starts no branches; its instruction is none of PARs
  module _ (kept : IsKept m) (h : Holding) (began : Began) (memory : Memory) (t : Task) (due : ℕ) (p : Point m t)
      (meets : MeetsPoint m t h began p memory) (paid : due + p.taken ≡ owed_at p.state.mode p.state p.act p.callers)
      (calm : t.mode ≡ machine_modes.Starting → ⊥)
      (selected : p.state.mode ≡ states_modes.Disabling (length p.state.guards)
      → HasSelected t.mode p.state.guards) where
    abbrev x : Situation
    x = here_of h p.act memory t p.state p.instr

    still : is_starting p.state.mode ≡ false
    still = still_state meets.here.same_mode calm

    behind : Behind m h began p.state.context p.act.layout memory p.callers
    behind = behind_of {m = m} {h = h} {began = began} p.state.mode {context = p.state.context} {layout = p.act.layout}
        {memory = memory} {callers = p.callers} still meets.behind

    owes_all : due + p.taken ≡ owed p.state p.act + owed_behind p.callers
    owes_all = paid ∙ owed_still p.state.mode p.state p.act p.callers still

    -- something is owed before each byte
    pub owes : 1 ≤ due
    owes =
        let pay = step_pays x (owed_more p.state p.act) (omega arith)
        (point_fits kept h began memory t p meets selected) (unbroken kept h began memory t p meets selected) in
        let more =
        longer p.reading.fuel (drop t.registers.at m.code) t.registers.operand p.taken p.instr p.reading.rest in
        omega (arith, owes_all)

    -- it goes on at an offset, by whatever outcome
    comes_by : {o : Outcome} {to : ℕ} {l : Local} (later : ℕ) → GoesTo x o to l → x.at + x.len ≡ t.registers.at + 1
        → ChangesOwn h memory l.memory → GoesOnAs m x began t (task_at m t t.mode to l) l later
        → later + 1 ≤ due → Comes m x began t due o
    comes_by later (goes_behind {l = l}) at own lives less =
        comes_on later own (subst (λ n. GoesOnAs m x began t (task_at m t t.mode n l) l later) at lives) less
    comes_by later is_jump at own lives less = comes_to later own lives less
    comes_by later is_landing at own lives less = comes_straight later own lives less

    -- where it goes on in plain mode
    goes_plainly : {s : State} {act : Activation} {u : Task} {l : Local} {later : ℕ} → t.mode ≡ machine_modes.Plain
        → LivesAs m h began l.memory u later s act → GoesOnAs m x began t u l later
    goes_plainly {s} {act} plain lives =
        record { state = s; act = act; lives = lives; stays = λ busy. absurd (busy plain) }

    -- the caller that has waited goes on
    resumed : (l : Local) (callers : List Caller) → Behind m h began p.state.context p.act.layout l.memory callers
        → ChangesOwn h memory l.memory → 1 ≤ p.state.context → p.state.context ≤ length m.procedures
        → l.registers.stack ≡ of_empty None
        → pos l.registers.workspace ≡ pos data_start +ℤ place_in p.act.layout.origin (pos 4)
        → p.act.layout.back < length m.code → owed_behind callers + 1 ≤ due → p.callers ≡ callers
        → t.mode ≡ machine_modes.Plain → Comes m x began t due (lands p.act.layout.back l)
    resumed l [] (nobody_waits same there procedure) own some few registers workspace back pay e plain =
        absurd (let high = procedure some in omega arith)
    resumed l (caller ∷ callers) (one_waits one inside reached going lengths base lends resumes rest) own some few
        registers workspace back pay e plain =
        let again = resumes l.memory keeps_all in
        let said : MeansStack caller.state.stack l.registers.stack caller.state.context caller.act l.memory =
        subst (λ (said : Stack Known). MeansStack said l.registers.stack caller.state.context caller.act l.memory)
        (sym going.registers)
        (subst (λ (stack : Stack (Option ℤ)). MeansStack (of_empty unknown) stack caller.state.context caller.act
        l.memory) (sym registers) (record { a = unknown_means; b = unknown_means; c = unknown_means })) in
        let whole : scope_in m caller.state caller.act.layout ≡ scope_of m caller.state.context caller.act.layout =
        ap (λ (q : states.Mode). scope_among m caller.state.context q caller.act.layout) going.plain in
        let here : After m h t.mode caller.act caller.state l =
        subst (λ (scope : Scope). Described m h t.mode caller.act caller.state l scope) (sym whole) (record {
          frame = subst (λ (w : ℕ). HasFrame h (length l.memory) (words_in m caller.state.context)
              caller.act.layout.origin
              caller.state.depth w) (let at = going.workspace in omega (arith, ints, at, workspace)) again.frame;
          knows = record { registers = said; words = again.words };
          named = again.named;
          same_mode = subst (λ (q : states.Mode). SameMode q t.mode) (sym going.plain)
              (subst (λ (q : machine.Mode). SameMode states_modes.Plain q) (sym plain) both_plain);
        }) in
        let en = enter h t.mode caller.act p.act.layout.back caller.state reached back in
        comes_straight (owed en.state en.act + owed_behind callers) own
        (goes_plainly plain (lives_at h began t.mode en.act p.act.layout.back (Some caller.state) en.state l callers
        reached
        back en.stands (ap is_starting (en.mode_is ∙ going.plain)) (en.after l here)
        (entered_behind en (rest l.memory keeps_all)))) (let less = en.paid in omega arith)
      where
        MeansStack : Stack Known → Stack (Option ℤ) → ℕ → Activation → Memory → Type 0
        MeansStack said stack context act memory =
            AreRelated (MeansKnown m (words_in m context).reads act.layout memory) said stack

    -- the callers that wait still wait after an instruction of this activation
    still_behind : (n : ℕ) (new : Memory) → n ≡ p.state.context
        → KeepsMemory m h (scope_of m p.state.context p.act.layout) memory new
        → Behind m h began n p.act.layout new p.callers
    still_behind n new same keeps = rw same (behind_keeps keeps behind)

    -- ---- messages

    module _ {r : Ruling} {s' : State} {l : Local} (asks : Exchanges x r s' l) where
      named_after : HoldsNamed m h (scope_of m p.state.context p.act.layout) l.memory
      named_after = asks.changes.keeps.named (subst (λ (scope : Scope). HoldsNamed m h scope memory)
          (whole_scope p.state p.act.layout still) meets.here.named)

      exchange_enters : r ≡ rule_at m t.registers.began p.instr p.state
          → Reaches m (t.registers.began + p.instr.len) (Some s')
      exchange_enters e = follows p.reached p.stands p.reading.spelled refl (sym asks.is ∙ ap falling e)

      talks : {direction : Direction} {e : Exchange} → p.taken + 1 ≡ p.instr.len → GoesOver x direction e
          → Talks m h began t direction e
      talks {direction} {e} last over = record {
        end = subst (λ a. has_end h (record { address = a; direction = direction }) ≡ true) over.address
            (named_after.ends over.kind direction over.end);
        len = same_some (message_length m p.state.context over.kind) e.length _ over.len
            (named_after.lengths over.kind direction over.end)
            ∙ ap p.act.layout.lengths over.address ∙ ap (λ (f : ℕ → ℕ). f e.channel) (behind_lengths behind);
        some = over.some;
        low = let low = asks.low in omega (arith, p.reading.at_is);
      }

      known : {direction : Direction} {e : Exchange} (other : Exchange) → p.taken + 1 ≡ p.instr.len
          → GoesOver x direction e
          → e ≡ other → other.length ≡ began.layout.lengths other.channel
      known other last over same = subst (λ (e : Exchange). e.length ≡ began.layout.lengths e.channel) same
          (talks last over).len

      receiving : {e : Exchange} → p.taken + 1 ≡ p.instr.len → Receives x s' l e
          → Meanwhile h began t.mode p.act s' l (Receiving e)
      receiving {e} last wants = record {
        after = wants.after;
        room = wants.room;
        sends = λ other no'. absurd (cc);
        fills = λ old new fills. subst (λ (scope : Scope). KeepsMemory m h scope old new)
            (whole_scope s' p.act.layout (ap is_starting asks.plain)) (wants.fills old new fills);
        named = subst (λ (n : ℕ). HoldsNamed m h (scope_of m n p.act.layout) l.memory) (sym asks.same) named_after;
        known_length = λ other is. elim is [
          | inl no' ↦ absurd (cc)
          | inr same ↦ known other last wants.over (let is : Receiving e ≡ Receiving other = same in cc)
        ];
      }

      sending : {e : Exchange} → p.taken + 1 ≡ p.instr.len → Sends x s' l e
          → Meanwhile h began t.mode p.act s' l (Sending e)
      sending {e} last wants = record {
        after = λ later size agree bytes. after_agrees later size (λ place e. agree place e refl) wants.after;
        room = λ place no'. absurd (cc);
        sends = λ other is j. let same : e ≡ other = cc in
            subst (λ (e : Exchange). j < e.length
            → (may_read h (message_place e j) ≡ true) × IsByte (byte_at l.memory (message_place e j))) same
            (wants.bytes j);
        fills = λ old new fills. agree_keeps h old new fills.size (λ place e. fills.others place e refl) m
            (scope_of m s'.context p.act.layout);
        named = subst (λ (n : ℕ). HoldsNamed m h (scope_of m n p.act.layout) l.memory) (sym asks.same) named_after;
        known_length = λ other is. elim is [
          | inl same ↦ known other last wants.over (let is : Sending e ≡ Sending other = same in cc)
          | inr no' ↦ absurd (cc)
        ];
      }

      -- what it owes once it goes on
      abbrev exchange_enter : r ≡ rule_at m t.registers.began p.instr p.state
          → Entered h t.mode (t.registers.began + p.instr.len) s' p.act
      exchange_enter e = enter h t.mode p.act (t.registers.began + p.instr.len) s' (exchange_enters e) asks.low

      abbrev exchange_due : r ≡ rule_at m t.registers.began p.instr p.state → ℕ
      exchange_due e = let en = exchange_enter e in owed en.state en.act + owed_behind p.callers

      exchange_pays : (e : r ≡ rule_at m t.registers.began p.instr p.state) → p.taken + 1 ≡ p.instr.len
          → exchange_due e + 1 ≤ due
      exchange_pays e last =
          let en = exchange_enter e in
          omega (arith, en.paid, asks.pay, owes_all, last)

      exchange_lives : (e : r ≡ rule_at m t.registers.began p.instr p.state) → p.taken + 1 ≡ p.instr.len
          → {condition : Condition} → Meanwhile h began t.mode p.act s' l condition
          → Lives m h began l.memory (record {
            registers = between (t.registers.at + 1) l.registers;
            mode = t.mode;
            condition = condition;
          }) (exchange_due e)
      exchange_lives e last {condition} meanwhile =
          let en = exchange_enter e in
          let at : t.registers.began + p.instr.len ≡ t.registers.at + 1 = omega (arith, p.reading.at_is) in
          subst (λ n. Lives m h began l.memory (record {
            registers = between n l.registers;
            mode = t.mode;
            condition = condition;
          }) (exchange_due e)) at
          (lives_while h began t.mode en.act (t.registers.began + p.instr.len) (Some s') en.state l p.callers condition
          (exchange_enters e) asks.low en.stands (ap is_starting (en.mode_is ∙ asks.plain)) (record {
            after = λ later size agree bytes. en.after (record l { memory = later })
                (meanwhile.after later size agree bytes);
            room = meanwhile.room;
            sends = meanwhile.sends;
            fills = λ old new fills. subst (λ (scope : Scope). KeepsMemory m h scope old new) (sym (entered_scope en))
                (meanwhile.fills old new fills);
            named = subst (λ (scope : Scope). HoldsNamed m h scope l.memory) (sym (entered_scope en)) meanwhile.named;
            known_length = meanwhile.known_length;
          }) (entered_behind en (still_behind s'.context l.memory asks.same asks.changes.keeps))).lives

    -- ---- alternations

    -- what the activation has here
    named_here : HoldsNamed m h (scope_of m p.state.context p.act.layout) memory
    named_here = subst (λ (scope : Scope). HoldsNamed m h scope memory) (whole_scope p.state p.act.layout still)
        meets.here.named

    holds_channel : (kind : EndKind) (address : ℕ) → IsAtChannel x kind address → HoldsChannel m x kind address
    holds_channel kind address at = record {
      end = at.end;
      held = subst (λ a. has_end h (record { address = a; direction = In }) ≡ true) at.address_is
          (named_here.ends kind In at.end);
      address_is = at.address_is;
    }

    module _ {r : Ruling} {s' : State} {l : Local} (alters : Alters x r s' l)
        (e : r ≡ rule_at m t.registers.began p.instr p.state) (last : p.taken + 1 ≡ p.instr.len) where
      abbrev alters_due : ℕ
      alters_due = owed s' p.act + owed_behind p.callers

      alters_reaches : Reaches m (t.registers.began + p.instr.len) (Some s')
      alters_reaches = follows p.reached p.stands p.reading.spelled refl (sym alters.is ∙ ap falling e)

      alters_to : AltersTo m x t due alters_due l
      alters_to = record {
        own = alters.changes.own;
        less = let pay = alters.pay in omega (arith, pay, owes_all, last);
        low = let low = alters.low in omega (arith, low, p.reading.at_is, last);
      }

      -- in the state that falls, since no label is in an alternation
      alters_lives : (mode : machine.Mode) (condition : Condition) → (condition ≡ Ready) ⊎ (condition ≡ Alternating)
          → (k : Local) → Changes x k.memory → is_starting s'.mode ≡ false → (s'.mode ≡ states_modes.Plain → ⊥)
          → After m h mode p.act s' k
          → LivesAs m h began k.memory (behind_in m t mode condition k) alters_due s' p.act
      alters_lives mode condition quiet k changes unstarted busy after =
          let en = enter h mode p.act (t.registers.began + p.instr.len) s' alters_reaches alters.low in
          let to = en.stays busy in
          let st = subst (λ (state : State). state_at m (t.registers.began + p.instr.len) (Some s') ≡ Some state) to.0
          en.stands in
          let at : t.registers.began + p.instr.len ≡ t.registers.at + 1 = omega (arith, p.reading.at_is, last) in
          subst (λ n. LivesAs m h began k.memory (record {
            registers = between n k.registers;
            mode = mode;
            condition = condition;
          }) alters_due s' p.act) at
          (lives_quietly h began mode p.act (t.registers.began + p.instr.len) (Some s') s' k p.callers condition quiet
          alters_reaches alters.low st unstarted after (still_behind s'.context k.memory alters.same changes.keeps))

    comes : (r : Ruling) (o : Outcome)
        → r ≡ rule_at m t.registers.began p.instr p.state → p.taken + 1 ≡ p.instr.len
        → Fits x r o → Comes m x began t due o
    comes r o e last (it_falls {s = s'} {l = l} is gone low after same changes pay stays) =
        let next : Reaches m (t.registers.began + p.instr.len) (Some s') =
        follows p.reached p.stands p.reading.spelled refl (sym is ∙ ap falling e) in
        let en = enter h t.mode p.act (t.registers.began + p.instr.len) s' next low in
        comes_by (owed en.state en.act + owed_behind p.callers)
        gone (omega (arith, p.reading.at_is)) changes.own
        (record {
          state = en.state;
          act = en.act;
          lives = lives_at h began t.mode en.act (t.registers.began + p.instr.len) (Some s') en.state l p.callers
              next low
              en.stands (ap is_starting en.mode_is ∙ still_state after.same_mode calm) (en.after l after)
              (entered_behind en (still_behind s'.context l.memory same changes.keeps));
          stays = λ busy.
              let to = en.stays (λ plain. busy (plain_process after.same_mode plain)) in (
                subst (λ (u : State). Stays x u l) (sym to.0) (stays busy),
                ap (λ (u : State). u.context) to.0 ∙ same,
                to.1,
              );
        })
        (omega (arith, owes_all, en.paid, pay))
    comes r o e last (it_leads {to = to} {l = l} {t = label} turns led gone is low after same changes
        pay) =
        let r = c.holds.starts to low (label_is_start m to label is) in
        let st : state_at m to r.0 ≡ Some (label_state label) =
        is_given m to r.0 (label_state label) (given_label m to label is) in
        comes_by (owed (label_state label) (with_turns turns p.act) + owed_behind p.callers) gone
        (omega (arith, p.reading.at_is)) changes.own
        (goes_plainly (plain_process after.same_mode refl)
        (lives_at h began t.mode (with_turns turns p.act) to r.0 (label_state label) l p.callers r.1 low st refl after
        (still_behind label.context l.memory same changes.keeps)))
        (omega (arith, owes_all, pay))
    comes r o e last
        (it_calls {to = to} {s = s'} {l = l} {e = f} act workspace found low after back lent
        same changes pay some few) =
        let next : Reaches m (t.registers.began + p.instr.len) (Some s') =
        follows p.reached p.stands p.reading.spelled refl (ap falling e) in
        let unlabelled = wf.entries to f found in
        let r = c.holds.starts to low (procedure_is_start m to f unlabelled found) in
        let st : state_at m to r.0 ≡ Some (procedure_state f.context f.procedure) =
        is_given m to r.0 (procedure_state f.context f.procedure) (given_procedure m to f unlabelled found) in
        let caller : Caller = record { act = p.act; state = s'; workspace = workspace } in
        let waiting = still_behind s'.context l.memory same changes.keeps in
        let called : Behind m h began f.context act.layout l.memory (caller ∷ p.callers) =
        one_waits some few (subst (λ (n : ℕ). Reaches m n (Some s')) (sym back) next) lent.goes_on lent.lengths
        lent.base lent.lends lent.resumes
        (λ later keeps. behind_keeps (lift m h (scope_of m s'.context p.act.layout) (scope_of m f.context act.layout)
        lent.base lent.lends l.memory later after.named keeps) waiting) in
        comes_straight (owed (procedure_state f.context f.procedure) act + owed_behind (caller ∷ p.callers)) changes.own
        (goes_plainly (plain_process after.same_mode refl)
        (lives_at h began t.mode act to r.0 (procedure_state f.context f.procedure) l
        (caller ∷ p.callers) r.1 low st refl after called))
        (omega (arith, owes_all, pay))
    comes r o e last (it_returns {l = l} some few plain_mode changes registers workspace back pay) =
        resumed l p.callers (behind_keeps changes.keeps behind) changes.own some few registers
        workspace back (let paid = owes_all in omega arith) refl plain_mode
    comes r o e last (it_selects {to = to} {l = l} {t = label} turns among is low after same changes pay all) =
        let r = c.holds.starts to low (label_is_start m to label is) in
        let st : state_at m to r.0 ≡ Some (label_state label) =
        is_given m to r.0 (label_state label) (given_label m to label is) in
        comes_to_end (owed (label_state label) (with_turns turns p.act) + owed_behind p.callers) all changes.own
        (lives_at h began machine_modes.Plain (with_turns turns p.act) to r.0 (label_state label) l p.callers r.1 low
        st refl
        after (still_behind label.context l.memory same changes.keeps))
        (omega (arith, owes_all, pay)) low
    comes r o e last (it_ends plain changes pay) = comes_down plain changes.own (omega (arith, owes_all, pay))
    comes r o e last (it_asks (to_receive asks wants) pay) =
        comes_in (exchange_due asks e) asks.in_plain_mode (talks asks last wants.over) asks.changes.own
        (exchange_lives asks e last (receiving asks last wants)) (exchange_pays asks e last)
    comes r o e last (it_asks (to_send asks wants) pay) =
        comes_out (exchange_due asks e) asks.in_plain_mode (talks asks last wants.over) asks.changes.own
        (exchange_lives asks e last (sending asks last wants)) (exchange_pays asks e last)
    comes r o e last (it_asks (to_begin {l = l} alters begun) pay) =
        comes_to_begin (alters_due alters e last) (alters_to alters e last) begun
        (alters_lives alters e last (machine_modes.Enabling false) Ready (inl refl) l alters.changes
        (ap is_starting begun.mode) (λ plain. let no' = sym begun.mode ∙ plain in cc) begun.after)
    comes r o e last (it_asks (to_enable {l = l} {address = address} kind alters at more fresh) pay) =
        comes_to_enable (alters_due alters e last) kind (alters_to alters e last) (holds_channel kind address at)
        more fresh
        (λ b. alters_lives alters e last (machine_modes.Enabling b) Ready (inl refl) l alters.changes
        (ap is_starting more.mode) (λ plain. let no' = sym more.mode ∙ plain in cc) (more.after b))
    comes r o e last (it_asks (to_enable_skip {l = l} alters more) pay) =
        comes_to_enable_skip (alters_due alters e last) (alters_to alters e last) more
        (λ b. alters_lives alters e last (machine_modes.Enabling b) Ready (inl refl) l alters.changes
        (ap is_starting more.mode) (λ plain. let no' = sym more.mode ∙ plain in cc) (more.after b))
    comes r o e last (it_asks (to_wait {l = l} alters awaits) pay) =
        comes_to_wait (alters_due alters e last) (alters_to alters e last) awaits
        (λ condition quiet. alters_lives alters e last (machine_modes.Disabling None) condition quiet l alters.changes
        (ap is_starting awaits.mode) (λ plain. let no' = sym awaits.mode ∙ plain in cc) (awaits.after None))
    comes r o e last (it_asks (to_disable {l = l} {address = address} kind alters at less) pay) =
        comes_to_disable (alters_due alters e last) kind (alters_to alters e last) (holds_channel kind address at) less
        (λ selection a low high. alters_lives alters e last (machine_modes.Disabling selection) Ready (inl refl)
        (with_a_alone (Some a) l) alters.changes (ap is_starting less.mode) (λ plain. let no' = sym less.mode
        ∙ plain in cc)
        (less.after selection a low high))
    comes r o e last (it_asks (to_disable_skip {l = l} alters less) pay) =
        comes_to_disable_skip (alters_due alters e last) (alters_to alters e last) less
        (λ selection a low high. alters_lives alters e last (machine_modes.Disabling selection) Ready (inl refl)
        (with_a_alone (Some a) l) alters.changes (ap is_starting less.mode) (λ plain. let no' = sym less.mode
        ∙ plain in cc)
        (less.after selection a low high))
    comes r o e last (it_breaks {broken = v}) =
        absurd (unbroken kept h began memory t p meets selected v (sym e))

    -- the last byte of an instruction
    pub comes_last : {o : Outcome} → p.taken + 1 ≡ p.instr.len
        → Fits x (rule_at m t.registers.began p.instr p.state) o → Comes m x began t due o
    comes_last {o} last fits = comes (rule_at m t.registers.began p.instr p.state) o refl last fits

-- ---- a prefix

-- the rest is read as before
pub prefixed_reading : {m : Contents} {t : Task} (byte : ℕ) (p : Point m t)
    → slice_get m.code t.registers.at ≡ Some byte → fun_of (function_code byte) ≡ None
    → IsReading m (record t.registers {
      at = t.registers.at + 1;
      operand = after_prefix (function_code byte) (with_nibble t.registers.operand (nibble byte));
    }) p.instr (p.taken + 1)
prefixed_reading {m} {t} byte p here none =
    let b = byte_here m t.registers p.instr p.taken p.reading in
    let same : b.byte ≡ byte = same_some (slice_get m.code t.registers.at) b.byte byte b.here here in
    record {
      fuel = b.fuel;
      whole = b.whole;
      at_is = omega (arith, p.reading.at_is);
      spelled = p.reading.spelled;
      rest = after_none (fun_of (function_code byte)) _ _ _ p.instr none
          (subst (λ y. ended_or (fun_of (function_code y)) (with_nibble t.registers.operand (nibble y))
          (p.taken + 1) (read b.fuel (drop (t.registers.at + 1) m.code)
          (after_prefix (function_code y) (with_nibble t.registers.operand (nibble y))) (p.taken + 1))
          ≡ Ok p.instr) same b.rest);
    }

-- the point one byte further in its instruction
abbrev pub prefixed_point : {m : Contents} {t : Task} (byte : ℕ) (p : Point m t)
    → slice_get m.code t.registers.at ≡ Some byte → fun_of (function_code byte) ≡ None
    → Point m (record t {
      registers = record t.registers {
        at = t.registers.at + 1;
        operand = after_prefix (function_code byte) (with_nibble t.registers.operand (nibble byte));
      };
    })
prefixed_point byte p here none = record {
  before = p.before;
  state = p.state;
  reached = p.reached;
  stands = p.stands;
  instr = p.instr;
  taken = p.taken + 1;
  reading = prefixed_reading byte p here none;
  act = p.act;
  callers = p.callers;
}
