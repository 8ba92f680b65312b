-- In an alternation, and among the starts of a PAR, an instruction of this family that is not allowed there breaks a
-- rule.
use Rattle.std.proofs.Common.{◌≡◌, ℤ, pos, ◌+ℤ◌, Bool, true, false, cond, Option, Some, None, refl, sym, ◌∙◌}
use Rattle.module_format.specs.Rows.{Fact}
use Rattle.module_format.specs.declared.fact.Step.{Step}
use Rattle.machine_state.specs.declared.op.Op.{Op}
use Rattle.machine_state.specs.declared.op.Op.TheVariants as ops
use Rattle.machine_state.specs.declared.instruction.Instruction.{Instruction}
use Rattle.machine_state.specs.declared.instruction.Instruction.TheVariants as instructions
use Rattle.states.specs.declared.rule.Rule.TheVariants as rules
use Rattle.states.specs.declared.known.Source.{Source}
use Rattle.states.specs.State.{State}
use Rattle.rulings.specs.Rulings.{Ruling, Site, alone}
use Rattle.local_rules.specs.LocalRules.{local_operation_rule, local_rule}
use Rattle.local_rules.specs.WordRules.{becomes, has_long_operations}
use Rattle.rulings.specs.Pointers.{leaves_words, stored_byte}
use Rattle.local_rules.specs.MemoryRules.{pops_two, subscripts, stored_word}
use Rattle.local_rules.specs.MoveRules.{amount, come, moves_some, moves_bytes, clears}
use Rattle.rulings.specs.Filling.{filled, are_numbers}
use Rattle.local_rules.specs.LoopRules.{finds}
use Rattle.rulings.specs.declared.pointers.Pointed.{Pointed}
use Rattle.rulings.proofs.Within.{is_starting}
use Rattle.rulings.proofs.OtherModes.{Breaks, IsBusy, uses_break, tested_breaks, bounds_break, settles_break}
use Rattle.rulings.proofs.OtherModes.{reads_break, writes_break, forward_breaks, starts_break, alternation_breaks}
use Rattle.rulings.proofs.OtherModes.{alone_breaks, leaves_mode, filled_mode}

finds_break : {A : Type 0} (o : Option A) (r : A → Ruling) → ((v : A) → Breaks (r v)) → Breaks (finds o r)
unfolding finds
finds_break None r all = (rules.Forward, refl)
finds_break (Some v) r all = all v

-- ---- the instructions

module _ (site : Site) (s : State) (busy : IsBusy s.mode) where
  alone_in : (r : Ruling) → Breaks (alone s.mode r)
  alone_in r = alone_breaks s.mode busy r

  becomes_breaks : (fact : Option Fact) (source : Source) (t : State) → t.mode ≡ s.mode
      → Breaks (becomes site fact source t)
  unfolding becomes
  becomes_breaks None source t same = (rules.Number, refl)
  becomes_breaks (Some fact) source t same =
      alone_breaks t.mode (λ e. busy (sym same ∙ e)) _

  subscripts_break : (element : Step) → Breaks (subscripts element site s)
  subscripts_break element =
      uses_break _ _ (λ a. uses_break _ _ (λ b. settles_break _ _ (λ r. settles_break _ _ (λ p.
      settles_break _ _ (λ fact. alone_in _)))))

  pops_break : (t : State) → t.mode ≡ s.mode → Breaks (pops_two site t)
  pops_break t same = alone_breaks t.mode (λ e. busy (sym same ∙ e)) _

  clears_break : (t : State) → t.mode ≡ s.mode → Breaks (clears site t)
  clears_break t same = alone_breaks t.mode (λ e. busy (sym same ∙ e)) _

  come_breaks : (count : ℤ) (from to : Pointed) → Breaks (come site count from to s)
  unfolding come
  come_breaks count from to = tested_breaks _ _ rules.Pointer (clears_break
      (filled (are_numbers s from count) to (to.hi +ℤ count) s) (filled_mode _ to _ s))

  moves_break : (count : ℤ) (from to : Pointed) → Breaks (moves_bytes site count from to s)
  unfolding moves_bytes moves_some
  moves_break count from to = on _
    where
      on : (b : Bool) → Breaks (cond b (clears site s) (moves_some site count from to s))
      on true = clears_break s refl
      on false = reads_break site s _ _ _ _ (writes_break site s _ _ _ _ (come_breaks count from to))

  amount_breaks : (a b : Fact) (r : ℤ → Ruling) → ((count : ℤ) → Breaks (r count)) → Breaks (amount site s a b r)
  unfolding amount
  amount_breaks a b r all = settles_break _ _ (λ count. bounds_break _ _ (all count))

  -- mint alone is allowed in an alternation
  abbrev pub IsFreeOperation : Op → Bool
  IsFreeOperation ops.MinimumInteger = true
  IsFreeOperation op = false

  long_breaks : (r : Ruling) → Breaks r → Breaks (has_long_operations site r)
  unfolding has_long_operations
  long_breaks r all = tested_breaks _ r rules.Spelling all

  pub operation_breaks : (op : Op) → IsFreeOperation op ≡ false → Breaks (local_operation_rule site op s)
  unfolding local_operation_rule
  operation_breaks ops.Reverse e = alone_in _
  operation_breaks ops.MinimumInteger e = absurd (cc)
  operation_breaks ops.StopProcess e = alone_in _
  operation_breaks (ops.Binary op) e =
      uses_break _ _ (λ a. uses_break _ _ (λ b. becomes_breaks _ _ _ refl))
  operation_breaks (ops.Unary op) e = uses_break _ _ (λ a. becomes_breaks _ _ _ refl)
  operation_breaks (ops.Shift op) e =
      uses_break _ _ (λ a. uses_break _ _ (λ b. becomes_breaks _ _ _ refl))
  operation_breaks (ops.Long op) e = long_breaks _ (uses_break _ _ (λ a. uses_break _ _ (λ b. uses_break _ _ (λ c.
      bounds_break _ _ (alone_in _)))))
  operation_breaks ops.CheckSubscript e = uses_break _ _ (λ a. uses_break _ _ (λ b. bounds_break _ _ (alone_in _)))
  operation_breaks ops.CheckCount e = uses_break _ _ (λ a. uses_break _ _ (λ b. bounds_break _ _ (alone_in _)))
  operation_breaks ops.ByteSubscript e = subscripts_break _
  operation_breaks ops.WordSubscript e = subscripts_break _
  operation_breaks ops.LoadPointerToInstruction e =
      uses_break _ _ (λ a. settles_break _ _ (λ v. settles_break _ _ (λ fact. alone_in _)))
  operation_breaks ops.LoadByte e =
      uses_break _ _ (λ a. settles_break _ _ (λ p. reads_break _ _ _ _ _ _ (alone_in _)))
  operation_breaks ops.StoreByte e =
      uses_break _ _ (λ a. uses_break _ _ (λ b. bounds_break _ _ (settles_break _ _ (λ p.
      writes_break _ _ _ _ _ _ (pops_break (leaves_words p (p.hi +ℤ pos 1) stored_byte s) (leaves_mode p _ _ s))))))
  operation_breaks ops.Move e =
      uses_break _ _ (λ a. uses_break _ _ (λ b. uses_break _ _ (λ c. amount_breaks a b _ (λ count.
      settles_break _ _ (λ to. settles_break _ _ (λ from. moves_break count from to))))))
  operation_breaks ops.LoopEnd e =
      uses_break _ _ (λ a. uses_break _ _ (λ b. alternation_breaks s.mode busy _ (λ starting.
      finds_break _ _ (λ begins. finds_break _ _ (λ block. starts_break s.mode starting _)))))
  operation_breaks _ e = (rules.Spelling, refl)

  -- so are ldl and ldnlp; ldc and ldlp are allowed anywhere
  abbrev pub IsFree : Instruction → Bool
  IsFree instructions.LoadConstant = true
  IsFree instructions.LoadLocal = true
  IsFree instructions.LoadLocalPointer = true
  IsFree instructions.LoadNonLocalPointer = true
  IsFree (instructions.Operate op) = IsFreeOperation op
  IsFree i = false

  pub instruction_breaks : (i : Instruction) (e : ℤ) → IsFree i ≡ false → Breaks (local_rule site i e s)
  unfolding local_rule
  instruction_breaks instructions.LoadConstant e free = absurd (cc)
  instruction_breaks instructions.LoadLocal e free = absurd (cc)
  instruction_breaks instructions.StoreLocal e free = uses_break _ _ (λ a. alone_in _)
  instruction_breaks (instructions.WithConstant op) e free = uses_break _ _ (λ a. becomes_breaks _ _ _ refl)
  instruction_breaks instructions.LoadLocalPointer e free = absurd (cc)
  instruction_breaks instructions.AdjustWorkspace e free = alone_in _
  instruction_breaks instructions.Jump e free =
      alternation_breaks s.mode busy _ (λ starting. forward_breaks e _ (starts_break s.mode starting _))
  instruction_breaks instructions.ConditionalJump e free =
      uses_break _ _ (λ a. bounds_break _ _ (alternation_breaks s.mode busy _ (λ starting.
      forward_breaks e _ (starts_break s.mode starting _))))
  instruction_breaks instructions.LoadNonLocalPointer e free = absurd (cc)
  instruction_breaks instructions.LoadNonLocal e free =
      uses_break _ _ (λ a. settles_break _ _ (λ p. settles_break _ _ (λ p. reads_break _ _ _ _ _ _ (alone_in _))))
  instruction_breaks instructions.StoreNonLocal e free =
      uses_break _ _ (λ a. uses_break _ _ (λ b. bounds_break _ _ (settles_break _ _ (λ p.
      settles_break _ _ (λ q. writes_break _ _ _ _ _ _
      (pops_break (leaves_words q (q.hi +ℤ pos 4) (stored_word q b) s) (leaves_mode q _ _ s)))))))
  instruction_breaks instructions.Call e free = (rules.Spelling, refl)
  instruction_breaks (instructions.Operate op) e free = operation_breaks op free

  -- among the starts only ldc and ldlp are allowed
  pub mint_breaks : is_starting s.mode ≡ true → Breaks (local_operation_rule site ops.MinimumInteger s)
  unfolding local_operation_rule
  mint_breaks starting = starts_break s.mode starting _

  pub ldl_breaks : is_starting s.mode ≡ true → (e : ℤ) → Breaks (local_rule site instructions.LoadLocal e s)
  unfolding local_rule
  ldl_breaks starting e = starts_break s.mode starting _

  pub ldnlp_breaks : is_starting s.mode ≡ true → (e : ℤ)
      → Breaks (local_rule site instructions.LoadNonLocalPointer e s)
  unfolding local_rule
  ldnlp_breaks starting e = uses_break _ _ (λ a. settles_break _ _ (λ fact. starts_break s.mode starting _))
