-- In which mode an instruction can ask for what it asks.
use Rattle.std.proofs.Common.{◌≡◌, ℕ, ℤ, pos, Bool, ◌⊎◌, inl, inr, Option, Some, None, refl, cond}
use Rattle.std.specs.Prelude.{⊤, ◌==◌}
use Rattle.prefix_decoder.specs.declared.function.Fun.{Fun}
use Rattle.machine_state.specs.declared.fault.FaultKind.{FaultKind}
use Rattle.machine_state.specs.declared.fault.FaultKind.TheVariants.{AlternationOrder, NotOwn, Undefined, ErrorFlag}
use Rattle.machine_state.specs.declared.fault.FaultKind.TheVariants.{UnknownOperation, JoinOrder}
use Rattle.machine_state.specs.declared.process.Mode.{Mode}
use Rattle.machine_state.specs.declared.process.Mode.TheVariants.{Plain, Enabling, Disabling, Starting}
use Rattle.machine_state.specs.declared.process.Exchange.{Exchange}
use Rattle.machine_state.specs.declared.op.Op.{Op}
use Rattle.machine_state.specs.declared.op.Op.TheVariants as ops
use Rattle.machine_state.specs.declared.instruction.Instruction.{Instruction}
use Rattle.machine_state.specs.declared.instruction.Instruction.TheVariants as instructions
use Rattle.machine_state.specs.Instructions.{instruction_of}
use Rattle.module_format.specs.declared.rows.Direction.{Direction}
use Rattle.module_format.specs.declared.rows.Direction.TheVariants.{In, Out}
use Rattle.module_format.specs.declared.limits.TheConstants.{MAX_MESSAGE}
use Rattle.machine_state.specs.Memory.{place_of, local_address, word_at}
use Rattle.machine_state.specs.EnabledLaws.{Enables, Disables}
use Rattle.machine_state.specs.LocalStep as step
use Rattle.machine_state.specs.Site.{Site, Local, Outcome, goes, jumps, lands, stops, fails, receives, sends, starts}
use Rattle.machine_state.specs.Site.{joins, begins, enables_channel, enables_skip, waits, disables_channel}
use Rattle.machine_state.specs.Site.{disables_skip, ends_alternation}
use Rattle.machine_state.proofs.Combining as each

-- outside alternations
abbrev pub IsOutside : Mode → Type 0
IsOutside mode = (mode ≡ Plain) ⊎ (mode ≡ Starting)

abbrev pub Fits : Mode → Outcome → Type 0
Fits mode (goes l) = ⊤
Fits mode (jumps to l) = ⊤
Fits mode (lands to l) = ⊤
Fits mode (stops l) = mode ≡ Plain
Fits mode (fails kind) = ⊤
Fits mode (receives e l) = mode ≡ Plain
Fits mode (sends e l) = mode ≡ Plain
Fits mode (starts to workspace l) = IsOutside mode
Fits mode (joins block l) = IsOutside mode
Fits mode (begins l) = mode ≡ Plain
Fits mode (enables_channel guard address l) = Enables mode
Fits mode (enables_skip guard l) = Enables mode
Fits mode (waits l) = Enables mode
Fits mode (disables_channel guard address distance l) = Disables mode
Fits mode (disables_skip guard distance l) = Disables mode
Fits mode (ends_alternation to l) = Disables mode

-- ---- the combinators that test the mode

module _ (P : Outcome → Type 0) (at_fault : (kind : FaultKind) → P (fails kind)) where
  alone_tells : (mode : Mode) (o : Outcome) → (mode ≡ Plain → P o) → P (step.alone mode o)
  unfolding step.outside_alternation step.outside_starts
  alone_tells Plain o h = h refl
  alone_tells (Enabling is_ready) o h = at_fault AlternationOrder
  alone_tells (Disabling selection) o h = at_fault AlternationOrder
  alone_tells Starting o h = at_fault JoinOrder

  outside_tells : (mode : Mode) (o : Outcome) → (IsOutside mode → P o) → P (step.outside_alternation mode o)
  unfolding step.outside_alternation
  outside_tells Plain o h = h (inl refl)
  outside_tells (Enabling is_ready) o h = at_fault AlternationOrder
  outside_tells (Disabling selection) o h = at_fault AlternationOrder
  outside_tells Starting o h = h (inr refl)

  enabling_tells : (mode : Mode) (o : Outcome) → (Enables mode → P o) → P (step.while_enabling mode o)
  unfolding step.while_enabling
  enabling_tells Plain o h = at_fault AlternationOrder
  enabling_tells (Enabling is_ready) o h = h (is_ready, refl)
  enabling_tells (Disabling selection) o h = at_fault AlternationOrder
  enabling_tells Starting o h = at_fault JoinOrder

  disabling_tells : (mode : Mode) (k : Option ℤ → Outcome) → (Disables mode → (v : Option ℤ) → P (k v))
      → P (step.while_disabling mode k)
  unfolding step.while_disabling
  disabling_tells Plain k h = at_fault AlternationOrder
  disabling_tells (Enabling is_ready) k h = at_fault AlternationOrder
  disabling_tells (Disabling selection) k h = h (selection, refl) selection
  disabling_tells Starting k h = at_fault JoinOrder

module _ (s : Site) where
  abbrev F : Outcome → Type 0
  F o = Fits s.mode o

  abbrev R : Outcome → Outcome → Type 0
  R o other = Fits s.mode o

  fault : (kind : FaultKind) → Fits s.mode (fails kind)
  fault kind = tt

  alone : (o : Outcome) → (s.mode ≡ Plain → Fits s.mode o) → Fits s.mode (step.alone s.mode o)
  alone o h = alone_tells F fault s.mode o h

  -- whatever mode it is in
  plain : (o : Outcome) → Fits s.mode o → Fits s.mode (step.alone s.mode o)
  plain o h = alone o (λ p. h)

  go : (l : Local) → Fits s.mode (step.goes_on s l)
  go l = each.goes_on R fault s l l tt

  leads : (to : ℕ) (l : Local) → Fits s.mode (step.leads_to s to l)
  leads to l = each.leads_to R fault s to l l tt

  land : (to : ℕ) (l : Local) → Fits s.mode (step.lands_at s to l)
  land to l = each.lands_at R fault s to l l tt

  used : (v : Option ℤ) (k : ℤ → Outcome) → ((x : ℤ) → Fits s.mode (k x)) → Fits s.mode (step.uses v k)
  used v k h = each.uses R fault v k k h

  beside_starts : (o : Outcome) → Fits s.mode o → Fits s.mode (step.outside_starts s.mode o)
  beside_starts o h = each.outside_starts R fault s.mode o o h

  reads_byte : (a : ℕ) (l : Local) (k : Option ℕ → Outcome) → ((v : Option ℕ) → Fits s.mode (k v))
      → Fits s.mode (step.reads_byte s a l k)
  reads_byte a l k h = each.reads_byte R fault s a l l k k (λ e. refl) h

  writes_byte : (a byte : ℕ) (l : Local) (k : Local → Outcome) → ((l : Local) → Fits s.mode (k l))
      → Fits s.mode (step.writes_byte s a byte l k)
  writes_byte a byte l k h = each.writes_byte R fault s a byte l l k k (λ own. h _)

  either : (b : Bool) (x y : Outcome) → Fits s.mode x → Fits s.mode y → Fits s.mode (cond b x y)
  either b x y p q = each.by_test R fault b x x y y (λ e. p) (λ e. q)

  one : (l : Local) (k : ℤ → Outcome) → ((a : ℤ) → Fits s.mode (k a))
      → Fits s.mode (step.uses l.registers.stack.a k)
  one l k h = each.uses R fault l.registers.stack.a k k h

  two : (l : Local) (k : ℤ → ℤ → Outcome) → ((a b : ℤ) → Fits s.mode (k a b))
      → Fits s.mode (step.uses l.registers.stack.a (λ a. step.uses l.registers.stack.b (λ b. k a b)))
  two l k h = one l _ (λ a. used l.registers.stack.b (λ b. k a b) (λ b. h a b))

  three : (l : Local) (k : ℤ → ℤ → ℤ → Outcome) → ((a b c : ℤ) → Fits s.mode (k a b c))
      → Fits s.mode (step.uses l.registers.stack.a (λ a. step.uses l.registers.stack.b (λ b.
      step.uses l.registers.stack.c (λ c. k a b c))))
  three l k h = two l _ (λ a b. used l.registers.stack.c (λ c. k a b c) (λ c. h a b c))

  reads : (a : ℕ) (l : Local) (k : Option ℤ → Outcome) → ((v : Option ℤ) → Fits s.mode (k v))
      → Fits s.mode (step.reads s a l k)
  reads a l k h = each.reads R fault s a l l k k (λ e. refl) h

  writes : (a : ℕ) (v : Option ℤ) (l : Local) (k : Local → Outcome) → ((l : Local) → Fits s.mode (k l))
      → Fits s.mode (step.writes s a v l k)
  writes a v l k h = each.writes R fault s a v l l k k (λ own. h _)

  schedules : (l : Local) (k : Local → Outcome) → ((l : Local) → Fits s.mode (k l))
      → Fits s.mode (step.schedules s l k)
  unfolding step.schedules
  schedules l k h = writes _ None l _ (λ one. writes _ None one _ (λ two. writes _ None two _ h))

  test : (b : Bool) (kind : FaultKind) (o : Outcome) → Fits s.mode o → Fits s.mode (step.holds b kind o)
  test b kind o h = each.holds R fault b kind o o (λ e. h)

  aligned : (v : ℤ) (k : ℕ → Outcome) → ((a : ℕ) → Fits s.mode (k a)) → Fits s.mode (step.aligned v k)
  aligned v k h = each.aligned R fault v k k (λ a even. h a)

  counts : (least most : ℕ) (v : ℤ) (k : ℕ → Outcome) → ((n : ℕ) → Fits s.mode (k n))
      → Fits s.mode (step.counts least most v k)
  counts least most v k h = each.counts R fault least most v k k (λ n a b. h n)

  channel : (v : ℤ) (direction : Direction) (k : ℕ → Outcome) → ((a : ℕ) → Fits s.mode (k a))
      → Fits s.mode (step.channel s v direction k)
  channel v direction k h = each.channel R fault s v direction k k (λ a held. h a)

  computes : (v : Option ℤ) (k : ℤ → Outcome) → ((x : ℤ) → Fits s.mode (k x)) → Fits s.mode (step.computes v k)
  computes v k h = each.computes R fault v k k h

  followed : (o : Outcome) → Fits s.mode o → Fits s.mode (step.followed_by_code s o)
  followed o h = each.followed R fault s o o h

  exchanges : (direction : Direction) (l : Local) (k : Exchange → Local → Outcome)
      → ((e : Exchange) (l : Local) → Fits s.mode (k e l)) → Fits s.mode (step.exchanges s direction l k)
  unfolding step.exchanges
  exchanges direction l k h = three l _ (λ a b c. counts 1 MAX_MESSAGE a _ (λ n. channel b direction _ (λ at.
      schedules l _ (λ l. h _ _))))

  loop_end : (l : Local) → Fits s.mode (step.loop_end_step s l)
  loop_end l = two l _ (λ a b. aligned b _ (λ block. test _ NotOwn _ (schedules l _ (λ later.
      used (word_at l.memory (place_of block)) _ (λ index.
      used (word_at l.memory (place_of (local_address block (pos 1)))) _ (λ count.
      schedules _ _ (λ l. leads _ _)))))))

  alternation_end : Disables s.mode → (l : Local) (selection : Option ℤ) → Fits s.mode (elim selection as
      (λ o. Outcome) [
        | None ↦ fails AlternationOrder
        | Some distance ↦ ends_alternation (step.target s.next distance) l
      ])
  alternation_end is l None = tt
  alternation_end is l (Some distance) = is

  operation : (op : Op) (l : Local) → Fits s.mode (step.operation_step s op l)
  unfolding step.operation_step
  operation ops.Reverse l = plain _ (go _)
  operation ops.MinimumInteger l = beside_starts _ (go _)
  operation ops.StopProcess l = alone _ (λ p. schedules l _ (λ l. p))
  operation (ops.Binary op) l = plain _ (two l _ (λ a b. computes _ _ (λ v. go _)))
  operation (ops.Unary op) l = plain _ (one l _ (λ a. computes _ _ (λ v. go _)))
  operation (ops.Shift op) l = plain _ (two l _ (λ a b. counts 0 31 a _ (λ n. go _)))
  operation (ops.Long op) l = test _ UnknownOperation _ (plain _ (three l _ (λ a b c. go _)))
  operation ops.LoadByte l =
      plain _ (one l _ (λ a. reads_byte _ l _ (λ v. go _)))
  operation ops.StoreByte l =
      plain _ (two l _ (λ a b. writes_byte _ _ l _ (λ l. go _)))
  operation ops.ByteSubscript l = plain _ (two l _ (λ a b. go _))
  operation ops.WordSubscript l = plain _ (two l _ (λ a b. go _))
  operation ops.CheckSubscript l = plain _ (two l _ (λ a b. test _ ErrorFlag _ (go _)))
  operation ops.CheckCount l = plain _ (two l _ (λ a b. test _ ErrorFlag _ (go _)))
  operation ops.LoadPointerToInstruction l = plain _ (one l _ (λ a. go _))
  operation ops.Move l = plain _ (three l _ (λ a b c. counts 0 65536 a _ (λ n. test _ NotOwn _ (go _))))
  operation ops.Input l = alone _ (λ p. exchanges In l _ (λ e l. test _ NotOwn _ p))
  operation ops.Output l = alone _ (λ p. exchanges Out l _ (λ e l. test _ NotOwn _ (test _ Undefined _ p)))
  operation ops.StartProcess l =
      outside_tells F fault s.mode _ (λ out. two l _ (λ a b. aligned a _ (λ workspace. out)))
  operation ops.EndProcess l = outside_tells F fault s.mode _ (λ out. one l _ (λ a. aligned a _ (λ block. out)))
  operation ops.Return l = plain _ (reads _ l _ (λ back. used back _ (λ back. land _ _)))
  operation ops.LoopEnd l = plain _ (loop_end l)
  operation ops.Alternate l = alone _ (λ p. schedules l _ (λ l. followed _ p))
  operation ops.EnableChannel l =
      enabling_tells F fault s.mode _ (λ is. two l _ (λ a b. channel b In _ (λ at. is)))
  operation ops.EnableSkip l = enabling_tells F fault s.mode _ (λ is. one l _ (λ a. followed _ is))
  operation ops.AlternationWait l =
      enabling_tells F fault s.mode _ (λ is. schedules l _ (λ l. writes _ None l _ (λ l. followed _ is)))
  operation ops.DisableChannel l = disabling_tells F fault s.mode _ (λ is selection.
      three l _ (λ a b c. channel c In _ (λ at. writes _ None l _ (λ l. is))))
  operation ops.DisableSkip l = disabling_tells F fault s.mode _ (λ is selection.
      two l _ (λ a b. writes _ None l _ (λ l. followed _ is)))
  operation ops.AlternationEnd l = disabling_tells F fault s.mode _ (λ is selection. alternation_end is l selection)

  instruction : (i : Instruction) (e : ℤ) (l : Local) → Fits s.mode (step.instruction_step s i e l)
  unfolding step.instruction_step
  instruction instructions.LoadConstant e l = go _
  instruction instructions.LoadLocal e l =
      beside_starts _ (reads _ l _ (λ v. go _))
  instruction instructions.StoreLocal e l = plain _ (one l _ (λ a. writes _ _ l _ (λ l. go _)))
  instruction instructions.LoadLocalPointer e l = go _
  instruction instructions.LoadNonLocalPointer e l =
      beside_starts _ (one l _ (λ a. go _))
  instruction instructions.LoadNonLocal e l =
      plain _ (one l _ (λ a. aligned a _ (λ at. reads _ l _ (λ v. go _))))
  instruction instructions.StoreNonLocal e l =
      plain _ (two l _ (λ a b. aligned a _ (λ at. writes _ _ l _ (λ l. go _))))
  instruction (instructions.WithConstant op) e l = plain _ (one l _ (λ a. computes _ _ (λ v. go _)))
  instruction instructions.Jump e l = plain _ (schedules l _ (λ l. leads _ _))
  instruction instructions.ConditionalJump e l = plain _ (one l _ (λ a.
      either (step.address a == 0) _ _ (land _ _) (go _)))
  instruction instructions.AdjustWorkspace e l = plain _ (go _)
  instruction instructions.Call e l = plain _ (writes _ _ l _ (λ l. writes _ _ l _ (λ l. writes _ _ l _ (λ l.
      writes _ _ l _ (λ l. land _ _)))))
  instruction (instructions.Operate op) e l = operation op l

  decoded : (i : Option Instruction) (e : ℤ) (l : Local) → Fits s.mode (step.step_of s i e l)
  unfolding step.step_of
  decoded None e l = tt
  decoded (Some i) e l = instruction i e l

  pub steps_fit : (f : Fun) (e : ℤ) (l : Local) → Fits s.mode (step.local_step s f e l)
  unfolding step.local_step
  steps_fit f e l = decoded (instruction_of f e) e l
