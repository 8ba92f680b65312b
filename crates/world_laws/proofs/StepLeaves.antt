-- What one instruction leaves of the words below the workspace, of the registers and of a message, by its outcome.
use Rattle.std.proofs.Common.{◌≡◌, ℕ, ◌≤◌, ℤ, pos, Bool, true, inl, inr, Option, Some, None, refl, sym, ◌∙◌, cond}
use Rattle.std.specs.Prelude.{⊤, ◌==◌, not}
use Rattle.std.proofs.lemmas.Bool.{and_parts}
use Rattle.prefix_decoder.specs.declared.function.Fun.{Fun}
use Rattle.module_format.specs.Stack.{of_empty}
use Rattle.module_format.specs.declared.limits.TheConstants.{MAX_MESSAGE}
use Rattle.module_format.specs.declared.rows.Direction.{Direction}
use Rattle.module_format.specs.declared.rows.Direction.TheVariants.{In, Out}
use Rattle.machine_state.specs.declared.fault.FaultKind.{FaultKind}
use Rattle.machine_state.specs.declared.fault.FaultKind.TheVariants.{AlternationOrder, NotOwn, Undefined, ErrorFlag}
use Rattle.machine_state.specs.declared.fault.FaultKind.TheVariants.{UnknownOperation, JoinOrder}
use Rattle.machine_state.specs.declared.instruction.Instruction.{Instruction}
use Rattle.machine_state.specs.declared.instruction.Instruction.TheVariants as instructions
use Rattle.machine_state.specs.declared.op.Op.{Op}
use Rattle.machine_state.specs.declared.op.Op.TheVariants as ops
use Rattle.machine_state.specs.declared.process.Exchange.{Exchange}
use Rattle.machine_state.specs.declared.process.Mode.{Mode}
use Rattle.machine_state.specs.declared.process.Mode.TheVariants.{Plain, Enabling, Disabling, Starting}
use Rattle.machine_state.specs.Holding.{Holding, may_write, may_read, may_write_word}
use Rattle.machine_state.specs.Instructions.{instruction_of}
use Rattle.machine_state.specs.LocalStep as step
use Rattle.machine_state.specs.Memory.{place_of, local_address, word_at, with_word, scheduling_word}
use Rattle.machine_state.specs.Site.{Site, Local, Outcome, goes, jumps, lands, stops, fails, receives, sends, starts}
use Rattle.machine_state.specs.Site.{joins, begins, enables_channel, enables_skip, waits, disables_channel}
use Rattle.machine_state.specs.Site.{disables_skip, ends_alternation}
use Rattle.machine_state.specs.Spans.{all_places}
use Rattle.machine_state.proofs.Combining as each
use Rattle.machine_state.proofs.Scheduling.{schedules-is}
use Rattle.world_laws.specs.Parked.{IsInside, HasWords, HasSelection}
use Rattle.world_laws.proofs.BlankWords.{words_taken, words_with, selection_taken}

-- ---- what is left

-- workspace and memory are as they were
pub record IsSame (before after : Local) : Type 0 where
  pub workspace : after.registers.workspace ≡ before.registers.workspace
  pub memory : after.memory ≡ before.memory

-- no register is defined, and scheduling has taken the words below the workspace
pub record Gives (h : Holding) (after : Local) : Type 0 where
  pub stack : after.registers.stack ≡ of_empty None
  pub words : HasWords h after.memory after.registers.workspace

-- so has what keeps the selection, at the workspace
pub record Waits (h : Holding) (after : Local) : Type 0 where
  pub gives : Gives h after
  pub selection : HasSelection h after.memory after.registers.workspace

-- that word alone was taken
pub record Selects (h : Holding) (before after : Local) : Type 0 where
  pub workspace : after.registers.workspace ≡ before.registers.workspace
  pub memory : after.memory ≡ with_word before.memory (place_of before.registers.workspace) None
  pub own : may_write_word h (place_of before.registers.workspace) ≡ true

-- the bytes of a message pass a test, and do not meet the words that scheduling takes
pub record Messages (h : Holding) (test : ℕ → Bool) (after : Local) (e : Exchange) : Type 0 where
  pub gives : Gives h after
  pub some : 1 ≤ e.length
  pub bytes : all_places test (place_of e.address) e.length ≡ true
  pub apart : not (step.places_meet (place_of e.address) e.length
      (place_of (scheduling_word after.registers.workspace 2)) 12)
      ≡ true

abbrev pub Leaves : Site → Local → Outcome → Type 0
Leaves s before (goes l) = IsInside s.mode → IsSame before l
Leaves s before (jumps to l) = (s.mode ≡ Plain) × Gives s.holding l
Leaves s before (lands to l) = s.mode ≡ Plain
Leaves s before (stops l) = ⊤
Leaves s before (fails kind) = ⊤
Leaves s before (receives e l) = Messages s.holding (may_write s.holding) l e
Leaves s before (sends e l) = Messages s.holding (may_read s.holding) l e
Leaves s before (starts to workspace l) = ⊤
Leaves s before (joins block l) = ⊤
Leaves s before (begins l) = HasWords s.holding l.memory l.registers.workspace
Leaves s before (enables_channel guard address l) = IsSame before l
Leaves s before (enables_skip guard l) = IsSame before l
Leaves s before (waits l) = Waits s.holding l
Leaves s before (disables_channel guard address distance l) = Selects s.holding before l
Leaves s before (disables_skip guard distance l) = Selects s.holding before l
Leaves s before (ends_alternation to l) = ⊤

-- ---- the combinators that test the mode

module _ (P : Outcome → Type 0) (at_fault : (kind : FaultKind) → P (fails kind)) where
  pub alone_tells : (mode : Mode) (o : Outcome) → (mode ≡ Plain → P o) → P (step.alone mode o)
  unfolding step.outside_alternation step.outside_starts
  alone_tells Plain o h = h refl
  alone_tells (Enabling is_ready) o h = at_fault AlternationOrder
  alone_tells (Disabling selection) o h = at_fault AlternationOrder
  alone_tells Starting o h = at_fault JoinOrder

pub plain_is_outside : (mode : Mode) → mode ≡ Plain → IsInside mode → ⊥
plain_is_outside mode plain (inl enables) = let x : Plain ≡ Enabling enables.0 = sym plain ∙ enables.1 in cc
plain_is_outside mode plain (inr disables) = let x : Plain ≡ Disabling disables.0 = sym plain ∙ disables.1 in cc

module _ (s : Site) (before : Local) where
  abbrev L : Outcome → Type 0
  L o = Leaves s before o

  abbrev R : Outcome → Outcome → Type 0
  R o other = Leaves s before o

  fault : (kind : FaultKind) → L (fails kind)
  fault kind = tt

  alone : (o : Outcome) → (s.mode ≡ Plain → L o) → L (step.alone s.mode o)
  alone o h = alone_tells L fault s.mode o h

  beside_starts : (o : Outcome) → L o → L (step.outside_starts s.mode o)
  beside_starts o h = each.outside_starts R fault s.mode o o h

  outside : (o : Outcome) → L o → L (step.outside_alternation s.mode o)
  outside o h = each.outside_alternation R fault s.mode o o h

  enabling : (o : Outcome) → L o → L (step.while_enabling s.mode o)
  enabling o h = each.while_enabling R fault s.mode o o h

  disabling : (k : Option ℤ → Outcome) → ((v : Option ℤ) → L (k v)) → L (step.while_disabling s.mode k)
  disabling k h = each.while_disabling R fault s.mode k k h

  -- it goes on in plain mode, or with what it had
  go : s.mode ≡ Plain → (l : Local) → L (step.goes_on s l)
  go plain l = each.goes_on R fault s l l (λ inside. absurd (plain_is_outside s.mode plain inside))

  go_same : (l : Local) → IsSame before l → L (step.goes_on s l)
  go_same l same = each.goes_on R fault s l l (λ inside. same)

  leads : s.mode ≡ Plain → (to : ℕ) (l : Local) → Gives s.holding l → L (step.leads_to s to l)
  leads plain to l gives = each.leads_to R fault s to l l (plain, gives)

  land : s.mode ≡ Plain → (to : ℕ) (l : Local) → L (step.lands_at s to l)
  land plain to l = each.lands_at R fault s to l l plain

  used : (v : Option ℤ) (k : ℤ → Outcome) → ((x : ℤ) → L (k x)) → L (step.uses v k)
  used v k h = each.uses R fault v k k h

  one : (k : ℤ → Outcome) → ((a : ℤ) → L (k a)) → L (step.uses before.registers.stack.a k)
  one k h = used before.registers.stack.a k h

  two : (k : ℤ → ℤ → Outcome) → ((a b : ℤ) → L (k a b))
      → L (step.uses before.registers.stack.a (λ a. step.uses before.registers.stack.b (λ b. k a b)))
  two k h = one _ (λ a. used before.registers.stack.b (λ b. k a b) (λ b. h a b))

  three : (k : ℤ → ℤ → ℤ → Outcome) → ((a b c : ℤ) → L (k a b c))
      → L (step.uses before.registers.stack.a (λ a. step.uses before.registers.stack.b (λ b.
      step.uses before.registers.stack.c (λ c. k a b c))))
  three k h = two _ (λ a b. used before.registers.stack.c (λ c. k a b c) (λ c. h a b c))

  reads : (a : ℕ) (l : Local) (k : Option ℤ → Outcome) → ((v : Option ℤ) → L (k v)) → L (step.reads s a l k)
  reads a l k h = each.reads R fault s a l l k k (λ e. refl) h

  reads_byte : (a : ℕ) (l : Local) (k : Option ℕ → Outcome) → ((v : Option ℕ) → L (k v)) → L (step.reads_byte s a l k)
  reads_byte a l k h = each.reads_byte R fault s a l l k k (λ e. refl) h

  writes_byte : (a byte : ℕ) (l : Local) (k : Local → Outcome) → ((l : Local) → L (k l))
      → L (step.writes_byte s a byte l k)
  writes_byte a byte l k h = each.writes_byte R fault s a byte l l k k (λ own. h _)

  writes : (a : ℕ) (v : Option ℤ) (l : Local) (k : Local → Outcome)
      → (may_write_word s.holding (place_of a) ≡ true → L (k (record l { memory = with_word l.memory (place_of a) v })))
      → L (step.writes s a v l k)
  writes a v l k h = each.writes R fault s a v l l k k h

  any_writes : (a : ℕ) (v : Option ℤ) (l : Local) (k : Local → Outcome) → ((l : Local) → L (k l))
      → L (step.writes s a v l k)
  any_writes a v l k h = writes a v l k (λ own. h _)

  test : (b : Bool) (kind : FaultKind) (o : Outcome) → (b ≡ true → L o) → L (step.holds b kind o)
  test b kind o h = each.holds R fault b kind o o h

  either : (b : Bool) (x y : Outcome) → L x → L y → L (cond b x y)
  either b x y p q = each.by_test R fault b x x y y (λ e. p) (λ e. q)

  aligned : (v : ℤ) (k : ℕ → Outcome) → ((a : ℕ) → L (k a)) → L (step.aligned v k)
  aligned v k h = each.aligned R fault v k k (λ a even. h a)

  counts : (least most : ℕ) (v : ℤ) (k : ℕ → Outcome) → ((n : ℕ) → least ≤ n → L (k n))
      → L (step.counts least most v k)
  counts least most v k h = each.counts R fault least most v k k (λ n a b. h n a)

  channel : (v : ℤ) (direction : Direction) (k : ℕ → Outcome) → ((a : ℕ) → L (k a)) → L (step.channel s v direction k)
  channel v direction k h = each.channel R fault s v direction k k (λ a held. h a)

  computes : (v : Option ℤ) (k : ℤ → Outcome) → ((x : ℤ) → L (k x)) → L (step.computes v k)
  computes v k h = each.computes R fault v k k h

  followed : (o : Outcome) → L o → L (step.followed_by_code s o)
  followed o h = each.followed R fault s o o h

  -- scheduling takes the words below the workspace
  abbrev scheduled : Local → Local
  scheduled l = record l { memory = step.without_scheduling_words l.memory l.registers.workspace }

  schedules : (l : Local) (k : Local → Outcome)
      → (HasWords s.holding (scheduled l).memory l.registers.workspace → L (k (scheduled l))) → L (step.schedules s l k)
  schedules l k h = rw (schedules-is s l k)
      (each.by_test R fault (step.holds_scheduling_words s.holding l.registers.workspace) (k (scheduled l))
      (k (scheduled l)) (fails NotOwn) (fails NotOwn)
      (λ own. h (words_taken s.holding l.memory l.registers.workspace own)) (λ none. tt))

  -- ---- messages

  abbrev Asked : (Exchange → Local → Outcome) → Type 0
  Asked k = (e : Exchange) → 1 ≤ e.length → (l : Local) → Gives s.holding l → L (k e l)

  exchanges : (direction : Direction) (k : Exchange → Local → Outcome) → Asked k
      → L (step.exchanges s direction before k)
  unfolding step.exchanges
  exchanges direction k h =
      three _ (λ a b c. counts 1 MAX_MESSAGE a _ (λ n some. channel b direction _ (λ at.
      schedules before _ (λ words. h _ some _ (record { stack = refl; words = words })))))

  receives_into : Asked (step.receives_into s)
  receives_into e some l gives = test _ NotOwn _ (λ own.
      let both = and_parts _ _ own in
      record { gives = gives; some = some; bytes = both.0; apart = both.1 })

  sends_from : Asked (step.sends_from s)
  sends_from e some l gives = test _ NotOwn _ (λ own.
      let both = and_parts _ _ own in
      test _ Undefined _ (λ defined. record { gives = gives; some = some; bytes = both.0; apart = both.1 }))

  -- ---- the instructions

  loop_end : s.mode ≡ Plain → L (step.loop_end_step s before)
  loop_end plain = two _ (λ a b. aligned b _ (λ block. test _ NotOwn _ (λ own. schedules before _ (λ later.
      used (word_at before.memory (place_of block)) _ (λ index.
      used (word_at before.memory (place_of (local_address block (pos 1)))) _ (λ count.
      schedules _ _ (λ words. leads plain _ _ (record { stack = refl; words = words }))))))))

  alternation_end : (selection : Option ℤ) → L (elim selection as (λ o. Outcome) [
    | None ↦ fails AlternationOrder
    | Some distance ↦ ends_alternation (step.target s.next distance) before
  ])
  alternation_end None = tt
  alternation_end (Some distance) = tt

  abbrev same : (stack : Rattle.module_format.specs.declared.stack.Stack.Stack (Option ℤ))
      → IsSame before (record before { registers = record before.registers { stack = stack } })
  same stack = record { workspace = refl; memory = refl }

  operation : (op : Op) → L (step.operation_step s op before)
  unfolding step.operation_step
  operation ops.Reverse = alone _ (λ p. go p _)
  operation ops.MinimumInteger = beside_starts _ (go_same _ (same _))
  operation ops.StopProcess = alone _ (λ p. schedules before _ (λ words. tt))
  operation (ops.Binary op) = alone _ (λ p. two _ (λ a b. computes _ _ (λ v. go p _)))
  operation (ops.Unary op) = alone _ (λ p. one _ (λ a. computes _ _ (λ v. go p _)))
  operation (ops.Shift op) = alone _ (λ p. two _ (λ a b. counts 0 31 a _ (λ n least. go p _)))
  operation (ops.Long op) = test _ UnknownOperation _ (λ has. alone _ (λ p. three _ (λ a b c. go p _)))
  operation ops.LoadByte = alone _ (λ p. one _ (λ a. reads_byte _ before _ (λ v. go p _)))
  operation ops.StoreByte = alone _ (λ p. two _ (λ a b. writes_byte _ _ before _ (λ l. go p _)))
  operation ops.ByteSubscript = alone _ (λ p. two _ (λ a b. go p _))
  operation ops.WordSubscript = alone _ (λ p. two _ (λ a b. go p _))
  operation ops.CheckSubscript = alone _ (λ p. two _ (λ a b. test _ ErrorFlag _ (λ below. go p _)))
  operation ops.CheckCount = alone _ (λ p. two _ (λ a b. test _ ErrorFlag _ (λ below. go p _)))
  operation ops.LoadPointerToInstruction = alone _ (λ p. one _ (λ a. go p _))
  operation ops.Move =
      alone _ (λ p. three _ (λ a b c. counts 0 65536 a _ (λ n least. test _ NotOwn _ (λ own. go p _))))
  operation ops.Input = alone _ (λ p. exchanges In (step.receives_into s) receives_into)
  operation ops.Output = alone _ (λ p. exchanges Out (step.sends_from s) sends_from)
  operation ops.StartProcess =
      outside _ (two _ (λ a b. aligned a _ (λ workspace. tt)))
  operation ops.EndProcess = outside _ (one _ (λ a. aligned a _ (λ block. tt)))
  operation ops.Return = alone _ (λ p. reads _ before _ (λ back. used back _ (λ back. land p _ _)))
  operation ops.LoopEnd = alone _ loop_end
  operation ops.Alternate = alone _ (λ p. schedules before _ (λ words. followed _ words))
  operation ops.EnableChannel = enabling _ (two _ (λ a b. channel b In _ (λ at. same _)))
  operation ops.EnableSkip = enabling _ (one _ (λ a. followed _ (same _)))
  operation ops.AlternationWait = enabling _ (schedules before _ (λ words.
      writes _ None _ _ (λ own. followed _ (record {
        gives = record { stack = refl; words = words_with s.holding _ _ _ words };
        selection = selection_taken s.holding _ _ own;
      }))))
  operation ops.DisableChannel = disabling _ (λ selection. three _ (λ a b c. channel c In _ (λ at.
      writes _ None before _ (λ own. record { workspace = refl; memory = refl; own = own }))))
  operation ops.DisableSkip = disabling _ (λ selection. two _ (λ a b.
      writes _ None before _ (λ own. followed _ (record { workspace = refl; memory = refl; own = own }))))
  operation ops.AlternationEnd = disabling _ alternation_end

  instruction : (i : Instruction) (e : ℤ) → L (step.instruction_step s i e before)
  unfolding step.instruction_step
  instruction instructions.LoadConstant e = go_same _ (same _)
  instruction instructions.LoadLocal e = beside_starts _ (reads _ before _ (λ v. go_same _ (same _)))
  instruction instructions.StoreLocal e = alone _ (λ p. one _ (λ a. any_writes _ _ before _ (λ l. go p _)))
  instruction instructions.LoadLocalPointer e = go_same _ (same _)
  instruction instructions.LoadNonLocalPointer e = beside_starts _ (one _ (λ a. go_same _ (same _)))
  instruction instructions.LoadNonLocal e =
      alone _ (λ p. one _ (λ a. aligned a _ (λ at. reads _ before _ (λ v. go p _))))
  instruction instructions.StoreNonLocal e =
      alone _ (λ p. two _ (λ a b. aligned a _ (λ at. any_writes _ _ before _ (λ l. go p _))))
  instruction (instructions.WithConstant op) e = alone _ (λ p. one _ (λ a. computes _ _ (λ v. go p _)))
  instruction instructions.Jump e =
      alone _ (λ p. schedules before _ (λ words. leads p _ _ (record { stack = refl; words = words })))
  instruction instructions.ConditionalJump e =
      alone _ (λ p. one _ (λ a. either (step.address a == 0) _ _ (land p _ _) (go p _)))
  instruction instructions.AdjustWorkspace e = alone _ (λ p. go p _)
  instruction instructions.Call e = alone _ (λ p. any_writes _ _ before _ (λ l. any_writes _ _ l _ (λ l.
      any_writes _ _ l _ (λ l. any_writes _ _ l _ (λ l. land p _ _)))))
  instruction (instructions.Operate op) e = operation op

  decoded : (i : Option Instruction) (e : ℤ) → L (step.step_of s i e before)
  unfolding step.step_of
  decoded None e = tt
  decoded (Some i) e = instruction i e

  pub steps_leave : (f : Fun) (e : ℤ) → L (step.local_step s f e before)
  unfolding step.local_step
  steps_leave f e = decoded (instruction_of f e) e
