-- What pieces do where they lie.
use Rattle.std.proofs.Common.{◌≡◌, ℕ, ◌+◌, ◌-◌, ◌%◌, ◌^◌, ◌==◌, ℤ, pos, Bool, true, false, List, Option}
use Rattle.std.proofs.Common.{Some, FitsSigned, refl, sym, ap, subst, ◌∙◌, inl, inr, arith}
use Rattle.std.specs.Prelude.{unwrap_or, int_lt, if◌then◌else◌, ◌+ℤ◌}
use Rattle.std.specs.Int.{w32}
use Rattle.std.proofs.lemmas.Int.{ints}
use Rattle.word_arithmetic.specs.Binary.{computed}
use Rattle.word_arithmetic.specs.Word.{checked}
use Rattle.word_arithmetic.specs.declared.binary.Binary.TheVariants as binary
use Rattle.word_arithmetic.proofs.WordLaws.{checked_fits}
use Rattle.prefix_decoder.specs.declared.function.Fun.{Fun}
use Rattle.prefix_decoder.specs.declared.function.Fun.TheVariants as fun
use Rattle.machine_state.specs.declared.op.Op.TheVariants as ops
use Rattle.machine_state.specs.declared.instruction.Instruction.{Instruction}
use Rattle.machine_state.specs.declared.instruction.Instruction.TheVariants as instructions
use Rattle.machine_state.specs.Instructions.{instruction_of, op_of}
use Rattle.machine_state.specs.LocalStep.{address, target, word_of}
use Rattle.plain_machine.specs.declared.flow.PlainFlow.TheVariants as flow
use Rattle.plain_machine.specs.PlainStep.{leaves, plain_step, plain_operation}
use Rattle.code_pieces.specs.declared.operations.TheConstants.{LOOP_END, LOAD_POINTER_TO_INSTRUCTION}
use Rattle.code_pieces.specs.Pieces.{Piece, Direct, Jump, JumpUnless, LoopBack}
use Rattle.code_pieces.specs.Laying.{operand_at}
use Rattle.placed_code.specs.LaidCode.{LaidCode, Fetches, Reaches, LoopsBack, LoadsTable, IsAt, Lie}
use Rattle.placed_code.specs.LaidCode as laid
use Rattle.placed_code.specs.Points.{Point, Steps, GoesTo, there, steps, point, without_top}
use Rattle.placed_code.specs.Points.{turned, count_in, PiecesGo}
use Rattle.placed_code.specs.StraightPieces.{Held, Leads, LeadOn, done, next, table, state_at, with_pushed}
use Rattle.placed_code.specs.StraightPieces.{word_address}

-- instructions after others
pub goes_both : {c : LaidCode} {p q r : Point} → GoesTo c p q → GoesTo c q r → GoesTo c p r
goes_both there b = b
goes_both (steps x a) b = steps x (goes_both a b)

module _ (c : LaidCode) where
  abbrev workspace : ℕ
  workspace = word_address c.footing.depth

  -- an instruction that is fetched, and does this
  takes : (at to : ℕ) (f : Fun) (e : ℤ) (h k : Held) (q : ℕ) (i : Instruction) → Fetches c.code at f e to
      → instruction_of f e ≡ Some i
      → plain_step c.start i e (state_at workspace to h) ≡ leaves flow.Next (state_at workspace q k)
      → Steps c (point at h) (point q k)
  takes at to f e h k q i fetches is does = record {
    instruction = i;
    executes = record { function = f; operand = e; behind = to; fetches = fetches; is = is };
    flow = flow.Next;
    alone = tt;
    steps = does;
  }

  jumps_off : (at to : ℕ) (f : Fun) (e : ℤ) (h k : Held) (q : ℕ) (i : Instruction) → Fetches c.code at f e to
      → instruction_of f e ≡ Some i
      → plain_step c.start i e (state_at workspace to h) ≡ leaves flow.Jump (state_at workspace q k)
      → Steps c (point at h) (point q k)
  jumps_off at to f e h k q i fetches is does = record {
    instruction = i;
    executes = record { function = f; operand = e; behind = to; fetches = fetches; is = is };
    flow = flow.Jump;
    alone = tt;
    steps = does;
  }

  loads : (at to : ℕ) (e : ℤ) (h : Held) → Fetches c.code at fun.LoadConstant e to
      → Steps c (point at h) (point to (with_pushed e h))
  unfolding plain_step instruction_of
  loads at to e h fetches =
      takes at to fun.LoadConstant e h (with_pushed e h) to instructions.LoadConstant fetches refl refl

  -- ---- the address of a table

  nothing_added : (e : ℤ) → FitsSigned w32 e → computed binary.Add e (pos 0) ≡ Some e
  unfolding computed
  nothing_added e word =
      let same : e +ℤ pos 0 ≡ e = omega (arith, ints) in
      ap checked same ∙ checked_fits e word

  -- `adc 0` changes nothing
  fills : (at to : ℕ) (e : ℤ) (h : Held) → FitsSigned w32 e → Fetches c.code at fun.AddConstant (pos 0) to
      → Steps c (point at (with_pushed e h)) (point to (with_pushed e h))
  unfolding plain_step instruction_of
  fills at to e h word fetches =
      takes at to fun.AddConstant (pos 0) (with_pushed e h) (with_pushed e h) to (instructions.WithConstant binary.Add)
      fetches refl
      (ap (λ (o : Option ℤ). leaves flow.Next (state_at workspace to (with_pushed (unwrap_or o (pos 0)) h)))
      (nothing_added e word))

  points : (at to address_is : ℕ) (e : ℤ) (h : Held) → Fetches c.code at fun.Operate LOAD_POINTER_TO_INSTRUCTION to
      → ((c.start + to) % 2 ^ 32 + address e) % 2 ^ 32 ≡ address_is
      → Steps c (point at (with_pushed e h)) (point to (with_pushed (word_of address_is) h))
  unfolding plain_step plain_operation instruction_of op_of
  points at to address_is e h fetches is =
      takes at to fun.Operate LOAD_POINTER_TO_INSTRUCTION (with_pushed e h) (with_pushed (word_of address_is) h) to
      (instructions.Operate ops.LoadPointerToInstruction) fetches refl
      (ap (λ (a : ℕ). leaves flow.Next (state_at workspace to (with_pushed (word_of a) h))) is)

  table_goes : (at to : ℕ) (values : List ℤ) (h : Held) → LoadsTable c at values to
      → GoesTo c (point at h) (point to (with_pushed (word_of (c.footing.tables values)) h))
  table_goes at to values h x =
      let last : Steps c (point x.last (with_pushed x.distance h))
      (point to (with_pushed (word_of (c.footing.tables values)) h)) =
      points x.last to (c.footing.tables values) x.distance h x.points x.reaches in
      steps (loads at x.middle x.distance h x.loads)
      (elim x.fills [
        | inl same ↦ steps (subst (λ (n : ℕ). Steps c (point n (with_pushed x.distance h))
            (point to (with_pushed (word_of (c.footing.tables values)) h))) (sym same) last) there
        | inr filled ↦ steps (fills x.middle x.last x.distance h x.word filled) (steps last there)
      ])

  -- ---- straight pieces

  piece_steps : (at to : ℕ) (f : Fun) (e : ℤ) (h k : Held) → IsAt c at (Direct f e) to
      → Leads workspace f (operand_at (pos c.footing.depth) f e) h k → Steps c (point at h) (point to k)
  piece_steps at to f e h k fetches x =
      takes at to f (operand_at (pos c.footing.depth) f e) h k to x.instruction fetches x.is (x.leads c.start to)

  pub straight_goes : {at to : ℕ} {ps : List Piece} {h k : Held} → Lie c at ps to → LeadOn c.footing ps h k
      → GoesTo c (point at h) (point to k)
  straight_goes laid.none done = there
  straight_goes (laid.more {at = at} {middle = middle} is rest) (next {f = f} {e = e} {g = g} {h = h} x leads) =
      steps (piece_steps at middle f e g h is x) (straight_goes rest leads)
  straight_goes (laid.more {at = at} {middle = middle} is rest) (table {values = values} {h = h} leads) =
      goes_both (table_goes at middle values h is) (straight_goes rest leads)

  -- ---- jumps

  jump_goes : (at l to : ℕ) (h : Held) → IsAt c at (Jump l) to → Steps c (point at h) (point (c.labels l) h)
  unfolding plain_step instruction_of
  jump_goes at l to h x =
      jumps_off at to fun.Jump x.operand h h (c.labels l) instructions.Jump x.fetches refl
      (ap (λ (n : ℕ). leaves flow.Jump (state_at workspace n h)) x.reaches)

  test_goes : (at l to : ℕ) (h : Held) → IsAt c at (JumpUnless l) to → (address h.stack.a == 0) ≡ true
      → Steps c (point at h) (point (c.labels l) h)
  unfolding plain_step instruction_of
  test_goes at l to h x is =
      takes at to fun.ConditionalJump x.operand h h (c.labels l) instructions.ConditionalJump x.fetches refl
      (ap (λ (b : Bool). if b then leaves flow.Next (state_at workspace (target to x.operand) h)
      else leaves flow.Next (state_at workspace to (without_top h))) is
      ∙ ap (λ (n : ℕ). leaves flow.Next (state_at workspace n h)) x.reaches)

  test_goes_on : (at l to : ℕ) (h : Held) → IsAt c at (JumpUnless l) to → (address h.stack.a == 0) ≡ false
      → Steps c (point at h) (point to (without_top h))
  unfolding plain_step instruction_of
  test_goes_on at l to h x is =
      takes at to fun.ConditionalJump x.operand h (without_top h) to instructions.ConditionalJump x.fetches refl
      (ap (λ (b : Bool). if b then leaves flow.Next (state_at workspace (target to x.operand) h)
      else leaves flow.Next (state_at workspace to (without_top h))) is)

  -- ---- loops

  -- `lend`, by whether turns are left
  loop_ends : (at to q : ℕ) (distance : ℤ) (h : Held) → Fetches c.code at fun.Operate LOOP_END to
      → (if int_lt (pos 1) (count_in h.memory (address h.stack.a))
      then target to (word_of ((2 ^ 32 - address distance) % 2 ^ 32)) else to) ≡ q
      → Steps c (point at (with_pushed distance h)) (point q (turned distance h))
  unfolding plain_step plain_operation instruction_of op_of
  loop_ends at to q distance h fetches is =
      jumps_off at to fun.Operate LOOP_END (with_pushed distance h) (turned distance h) q
      (instructions.Operate ops.LoopEnd) fetches refl
      (ap (λ (n : ℕ). leaves flow.Jump (state_at workspace n (turned distance h))) is)

  turn_goes : (at head behind to : ℕ) (h : Held) (is : IsAt c at (LoopBack head behind) to) → c.labels behind ≡ to
      → int_lt (pos 1) (count_in h.memory (address h.stack.a)) ≡ true
      → GoesTo c (point at h) (point (c.labels head) (turned is.distance h))
  turn_goes at head behind to h x there_is more =
      steps (loads at x.middle x.distance h x.loads)
      (steps (loop_ends x.middle to (c.labels head) x.distance h x.loops
      (ap (λ (b : Bool). if b then target to (word_of ((2 ^ 32 - address x.distance) % 2 ^ 32)) else to) more
      ∙ x.back there_is)) there)

  turn_ends : (at head behind to : ℕ) (h : Held) (is : IsAt c at (LoopBack head behind) to) → c.labels behind ≡ to
      → int_lt (pos 1) (count_in h.memory (address h.stack.a)) ≡ false
      → GoesTo c (point at h) (point to (turned is.distance h))
  turn_ends at head behind to h x there_is last =
      steps (loads at x.middle x.distance h x.loads)
      (steps (loop_ends x.middle to to x.distance h x.loops
      (ap (λ (b : Bool). if b then target to (word_of ((2 ^ 32 - address x.distance) % 2 ^ 32)) else to) last)) there)

pub pieces_go : PiecesGo
pieces_go = record {
  straight = λ c at to ps h k lie leads. straight_goes c lie leads;
  jumps = jump_goes;
  tests = test_goes;
  goes_on = test_goes_on;
  turns = turn_goes;
  ends = turn_ends;
}
