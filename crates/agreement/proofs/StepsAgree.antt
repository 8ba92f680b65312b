-- The walk through every instruction, once, on plain words beside what a process has.
use Rattle.std.proofs.Common.{◌≡◌, ◌≤◌, ◌<◌, ◌+◌, ◌%◌, ◌^◌, ℕ, ℤ, pos, negsuc, Bool, true, false, cond, Option}
use Rattle.std.proofs.Common.{Some, None, refl, subst, arith, int_le, length}
use Rattle.std.proofs.lemmas.Int.{ints}
use Rattle.std.specs.Prelude.{⊤, ◌==◌, ◌&&◌, not, nat_abs, IsSome}
use Rattle.std.specs.Option.{unwrap_or}
use Rattle.module_format.specs.Stack.{of_empty, AreRelated}
use Rattle.module_format.specs.declared.limits.TheConstants.{MAX_MESSAGE}
use Rattle.module_format.specs.declared.rows.Direction.{Direction}
use Rattle.module_format.specs.declared.rows.Direction.TheVariants.{In, Out}
use Rattle.module_format.specs.declared.stack.Stack.{Stack}
use Rattle.machine_state.specs.declared.fault.FaultKind.{FaultKind}
use Rattle.machine_state.specs.declared.fault.FaultKind.TheVariants.{AlternationOrder, NotOwn, Undefined, ErrorFlag}
use Rattle.machine_state.specs.declared.fault.FaultKind.TheVariants.{UnknownOperation, Unaligned, CountRange}
use Rattle.machine_state.specs.declared.fault.FaultKind.TheVariants.{EndNotHeld, JoinOrder}
use Rattle.machine_state.specs.declared.instruction.Instruction.{Instruction}
use Rattle.machine_state.specs.declared.instruction.Instruction.TheVariants as instructions
use Rattle.machine_state.specs.declared.op.Op.{Op}
use Rattle.machine_state.specs.declared.op.Op.TheVariants as ops
use Rattle.machine_state.specs.declared.process.Exchange.{Exchange}
use Rattle.machine_state.specs.declared.process.Mode.{Mode}
use Rattle.machine_state.specs.declared.process.Mode.TheVariants.{Plain, Enabling, Disabling, Starting}
use Rattle.machine_state.specs.Holding.{Holding, may_write, may_read, may_write_word, may_read_word}
use Rattle.machine_state.specs.LocalStep as step
use Rattle.machine_state.specs.Spans.{all_places}
use Rattle.machine_state.specs.Memory.{Memory, place_of, word_at, with_word, byte_at, with_byte}
use Rattle.machine_state.specs.Site.{jumps, Site, Local, Outcome, fails}
use Rattle.machine_state.specs.Site.{ends_alternation}
use Rattle.machine_state.proofs.Combining as each
use Rattle.machine_state.proofs.Scheduling.{schedules-is}
use Rattle.world_laws.specs.Parked.{HasWords}
use Rattle.world_laws.proofs.BlankWords.{words_taken}
use Rattle.std.proofs.lemmas.Bool.{ltb-true, eqb-true, and_parts}
use Rattle.machine_state.specs.declared.fault.FaultKind.TheVariants.{OutsideCode}
use Rattle.world_laws.proofs.StepLeaves.{alone_tells, plain_is_outside}
use Rattle.plain_machine.specs.declared.flow.PlainFlow.{PlainFlow}
use Rattle.plain_machine.specs.declared.flow.PlainFlow.TheVariants as flow
use Rattle.plain_machine.specs.PlainStep as plain
use Rattle.plain_machine.specs.PlainStep.{PlainState, Stepped}
use Rattle.agreement.specs.Matching.{Matches, MatchesMemory}
use Rattle.agreement.specs.StepsAgree as agree
use Rattle.agreement.specs.StepsAgree.{Agreed, IsLeft, IsAsked}
use Rattle.agreement.proofs.Matching as match
use Rattle.machine_state.specs.Frame.{ChangesOwn}
use Rattle.machine_state.proofs.Frame.{write_is_own, byte_is_own, copy_is_own, changes_more, changes_nothing}

-- a count in its range is the unsigned number of its word
counted : (least most : ℕ) (v : ℤ) → most < 2 ^ 31 → (int_le (pos least) v && int_le v (pos most)) ≡ true
    → step.address v ≡ nat_abs v
counted least most (pos n) small within =
    let bounds = each.counted_between least most (pos n) within in
    omega (arith, ints, bounds.1)
counted least most (negsuc n) small within = absurd (cc)

-- Memory has come from an old one to this, by changes of what may be written, and matches.
record Comes (h : Holding) (old m n : Memory) : Type 0 where
  matches : MatchesMemory m n
  own : ChangesOwn h old n

-- The site and the process are taken with the offset and the workspace that the plain machine has, which are theirs.
module _ (site : Site) (original : Local) (state : PlainState) (start : agree.Finds site original state) where
  abbrev s : Site
  s = record site { next = state.registers.at }

  abbrev before : Local
  before = record original { registers = record original.registers { workspace = state.registers.workspace } }

  abbrev found : Stack ℤ
  found = state.registers.stack

  abbrev A : Type 0 → Stepped → Outcome → Type 0
  A safe t o = Agreed s state safe t o

  abbrev R : Type 0 → Stepped → Outcome → Outcome → Type 0
  R safe t o other = Agreed s state safe t o

  fault : {safe : Type 0} {t : Stepped} → (kind : FaultKind) → A safe t (fails kind)
  fault kind = record { safe = λ none. absurd none; shown = tt }

  -- ---- the combinators

  alone : {safe : Type 0} {t : Stepped} → (o : Outcome) → (s.mode ≡ Plain → A safe t o)
      → A safe t (step.alone s.mode o)
  alone {safe = p} {t = t} o h = alone_tells (A p t) fault s.mode o h

  beside_starts : {safe : Type 0} {t : Stepped} → (o : Outcome) → A safe t o → A safe t (step.outside_starts s.mode o)
  beside_starts {safe = p} {t = t} o h = each.outside_starts (R p t) fault s.mode o o h

  outside : {safe : Type 0} {t : Stepped} → (o : Outcome) → A safe t o → A safe t (step.outside_alternation s.mode o)
  outside {safe = p} {t = t} o h = each.outside_alternation (R p t) fault s.mode o o h

  enabling : {safe : Type 0} {t : Stepped} → (o : Outcome) → A safe t o → A safe t (step.while_enabling s.mode o)
  enabling {safe = p} {t = t} o h = each.while_enabling (R p t) fault s.mode o o h

  disabling : {safe : Type 0} {t : Stepped} → (mode : Mode) (k : Option ℤ → Outcome)
      → ((v : Option ℤ) → mode ≡ Disabling v → A safe t (k v)) → A safe t (step.while_disabling mode k)
  unfolding step.while_disabling
  disabling Plain k h = fault AlternationOrder
  disabling (Enabling is_ready) k h = fault AlternationOrder
  disabling (Disabling selection) k h = h selection refl
  disabling Starting k h = fault JoinOrder

  test : {safe : Type 0} {t : Stepped} → (b : Bool) (kind : FaultKind) (o : Outcome) → (b ≡ true → A safe t o)
      → A safe t (step.holds b kind o)
  test {safe = p} {t = t} b kind o h = each.holds (R p t) fault b kind o o h

  passes : {safe : Type 0} {t : Stepped} → (b : Bool) (kind : FaultKind) (o : Outcome) → (b ≡ true → A safe t o)
      → A safe t (cond b o (fails kind))
  passes {safe = p} {t = t} b kind o h = each.passes (R p t) fault b kind o o h

  -- a value that is used is the plain one
  used : {safe : Type 0} {t : Stepped} → (v : Option ℤ) (x : ℤ) (k : ℤ → Outcome) → Matches v x → A safe t (k x)
      → A safe t (step.uses v k)
  unfolding step.uses
  used None x k same h = fault Undefined
  used {safe = p} {t = t} (Some v) x k same h = subst (λ (y : ℤ). A p t (k y)) same h

  one : {safe : Type 0} {t : Stepped} → (k : ℤ → Outcome) → A safe t (k found.a)
      → A safe t (step.uses before.registers.stack.a k)
  one k h = used before.registers.stack.a found.a k start.matches.stack.a h

  two : {safe : Type 0} {t : Stepped} → (k : ℤ → ℤ → Outcome) → A safe t (k found.a found.b)
      → A safe t (step.uses before.registers.stack.a (λ a. step.uses before.registers.stack.b (λ b. k a b)))
  two k h = one _ (used before.registers.stack.b found.b (k found.a) start.matches.stack.b h)

  three : {safe : Type 0} {t : Stepped} → (k : ℤ → ℤ → ℤ → Outcome) → A safe t (k found.a found.b found.c)
      → A safe t (step.uses before.registers.stack.a (λ a. step.uses before.registers.stack.b (λ b.
      step.uses before.registers.stack.c (λ c. k a b c))))
  three k h =
      two (λ a b. step.uses before.registers.stack.c (λ c. k a b c))
      (used before.registers.stack.c found.c (k found.a found.b) start.matches.stack.c h)

  reads : {safe : Type 0} {t : Stepped} → (a : ℕ) (l : Local) (k : Option ℤ → Outcome)
      → (may_read_word s.holding (place_of a) ≡ true → A safe t (k (word_at l.memory (place_of a))))
      → A safe t (step.reads s a l k)
  unfolding step.reads
  reads a l k h = passes _ NotOwn _ h

  reads_byte : {safe : Type 0} {t : Stepped} → (a : ℕ) (l : Local) (k : Option ℕ → Outcome)
      → (may_read s.holding (place_of a) ≡ true → A safe t (k (byte_at l.memory (place_of a))))
      → A safe t (step.reads_byte s a l k)
  unfolding step.reads_byte
  reads_byte a l k h = passes _ NotOwn _ h

  writes : {safe : Type 0} {t : Stepped} → (a : ℕ) (v : Option ℤ) (l : Local) (k : Local → Outcome)
      → (may_write_word s.holding (place_of a) ≡ true
      → A safe t (k (record l { memory = with_word l.memory (place_of a) v })))
      → A safe t (step.writes s a v l k)
  unfolding step.writes
  writes a v l k h = passes _ NotOwn _ h

  writes_byte : {safe : Type 0} {t : Stepped} → (a byte : ℕ) (l : Local) (k : Local → Outcome)
      → (may_write s.holding (place_of a) ≡ true
      → A safe t (k (record l { memory = with_byte l.memory (place_of a) (Some byte) })))
      → A safe t (step.writes_byte s a byte l k)
  unfolding step.writes_byte
  writes_byte a byte l k h = passes _ NotOwn _ h

  even : {safe : Type 0} {t : Stepped} → (v : ℤ) (k : ℕ → Outcome)
      → (step.address v % 4 ≡ 0 → A safe t (k (step.address v))) → A safe t (step.aligned v k)
  unfolding step.aligned
  even v k h = passes _ Unaligned _ (λ is. h (eqb-true (step.address v % 4) 0 is))

  aligned : {safe : Type 0} {t : Stepped} → (v : ℤ) (k : ℕ → Outcome) → A safe t (k (step.address v))
      → A safe t (step.aligned v k)
  aligned v k h = even v k (λ is. h)

  channel : {safe : Type 0} {t : Stepped} → (v : ℤ) (direction : Direction) (k : ℕ → Outcome)
      → (agree.HoldsEnd s direction (step.address v) → A safe t (k (step.address v)))
      → A safe t (step.channel s v direction k)
  unfolding step.channel
  channel v direction k h =
      even v _ (λ is. test _ EndNotHeld _ (λ held. h (record { held = held; even = is })))

  counts : {safe : Type 0} {t : Stepped} → (least most : ℕ) (v : ℤ) (k : ℕ → Outcome) → most < 2 ^ 31
      → (step.address v ≤ most → A safe t (k (step.address v))) → A safe t (step.counts least most v k)
  unfolding step.counts
  counts {safe = p} {t = t} least most v k small h = passes _ CountRange _ (λ within.
      let is : step.address v ≡ nat_abs v = counted least most v small within in
      let bounds = each.counted_between least most v within in
      subst (λ (n : ℕ). A p t (k n)) is (h (omega (arith, bounds.1))))

  computes : {safe : Type 0} {t : Stepped} → (v : Option ℤ) (k : ℤ → Outcome)
      → (IsSome v → A safe t (k (unwrap_or v (pos 0)))) → A safe t (step.computes v k)
  unfolding step.computes
  computes None k h = fault ErrorFlag
  computes (Some x) k h = h refl

  -- scheduling takes the words below the workspace
  abbrev scheduled : Local → Local
  scheduled l = record l { memory = step.without_scheduling_words l.memory l.registers.workspace }

  schedules : {safe : Type 0} {t : Stepped} → (l : Local) (k : Local → Outcome)
      → (step.holds_scheduling_words s.holding l.registers.workspace ≡ true → A safe t (k (scheduled l)))
      → A safe t (step.schedules s l k)
  schedules l k h = rw (schedules-is s l k) (passes _ NotOwn _ h)

  -- it goes on in plain mode, or with the memory that it had
  go : {safe : Type 0} {t : Stepped} → s.mode ≡ Plain → (l : Local) → safe → IsLeft s state flow.Next s.next l t
      → A safe t (step.goes_on s l)
  go {safe = p} {t = t} plain_mode l can left = each.goes_on (R p t) fault s l l (record {
    safe = λ none. can;
    shown = (left, λ inside. absurd (plain_is_outside s.mode plain_mode inside));
  })

  go_same : {safe : Type 0} {t : Stepped} → (l : Local) → safe → IsLeft s state flow.Next s.next l t
      → agree.IsKept state t → A safe t (step.goes_on s l)
  go_same {safe = p} {t = t} l can left same =
      each.goes_on (R p t) fault s l l (record { safe = λ none. can; shown = (left, λ inside. same) })

  lead : {safe : Type 0} {t : Stepped} → s.mode ≡ Plain → (to : ℕ) (l : Local) → safe
      → l.registers.stack ≡ of_empty None → HasWords s.holding l.memory l.registers.workspace
      → IsLeft s state flow.Jump to l t → A safe t (step.leads_to s to l)
  unfolding step.leads_to
  lead plain_mode to l can stack words left = passes _ OutsideCode (jumps to l) (λ inside. record {
    safe = λ none. can;
    shown = (left, plain_mode, record { inside = ltb-true to s.code_length inside; stack = stack; words = words });
  })

  land : {safe : Type 0} {t : Stepped} → s.mode ≡ Plain → (to : ℕ) (l : Local) → safe
      → IsLeft s state flow.Next to l t → A safe t (step.lands_at s to l)
  land {safe = p} {t = t} plain_mode to l can left =
      each.lands_at (R p t) fault s to l l (record { safe = λ none. can; shown = (left, plain_mode) })

  followed : {safe : Type 0} {t : Stepped} → (o : Outcome) → A safe t o → A safe t (step.followed_by_code s o)
  followed {safe = p} {t = t} o h = each.followed (R p t) fault s o o h

  either : {safe : Type 0} → (b : Bool) (x y : Outcome) (t u : Stepped) → A safe t x → A safe u y
      → A safe (cond b t u) (cond b x y)
  either true x y t u p q = p
  either false x y t u p q = q

  asks : {t : Stepped} → (o : Outcome) → agree.Shows s state o t → A ⊤ t o
  asks o shown = record { safe = λ none. tt; shown = shown }

  -- ---- what is left

  -- memory has come to this on both sides
  abbrev C : Memory → Memory → Type 0
  C m n = Comes s.holding state.memory m n

  found_memory : C before.memory state.memory
  found_memory = record { matches = start.matches.memory; own = changes_nothing s.holding state.memory }

  word_comes : (m n : Memory) (place : ℕ) (v : Option ℤ) (x : ℤ) → Matches v x
      → may_write_word s.holding place ≡ true → C m n → C (with_word m place v) (with_word n place (Some x))
  word_comes m n place v x same own comes = record {
    matches = match.word_matches m n place v x same comes.matches;
    own = changes_more s.holding state.memory n _ comes.own (write_is_own s.holding n place (Some x) own);
  }

  byte_comes : (m n : Memory) (place byte : ℕ) → may_write s.holding place ≡ true → C m n
      → C (with_byte m place (Some byte)) (with_byte n place (Some byte))
  byte_comes m n place byte own comes = record {
    matches = match.byte_matches m n place (Some byte) (Some byte) (λ b is. is) comes.matches;
    own = changes_more s.holding state.memory n _ comes.own (byte_is_own s.holding n place (Some byte) own);
  }

  copy_comes : (source to count : ℕ) → all_places (may_write s.holding) to count ≡ true
      → C (step.copied before.memory source to count before.memory)
      (step.copied state.memory source to count state.memory)
  copy_comes source to count own = record {
    matches = match.copy_matches before.memory state.memory source to count start.matches.memory;
    own = copy_is_own s.holding state.memory source to count state.memory own;
  }

  words_forgotten : (m n : Memory) (workspace : ℕ) → C m n → C (step.without_scheduling_words m workspace) n
  words_forgotten m n workspace comes =
      record { matches = match.words_forgotten m n workspace comes.matches; own = comes.own }

  forgets : C (step.without_scheduling_words before.memory state.registers.workspace) state.memory
  forgets = words_forgotten before.memory state.memory state.registers.workspace found_memory

  -- this workspace, these registers and this memory, at this offset
  left_at : (f : PlainFlow) (to workspace : ℕ) (m n : Memory) (registers : Stack (Option ℤ)) (stack : Stack ℤ)
      → C m n → AreRelated Matches registers stack
      → IsLeft s state f to
      (record { registers = record before.registers { workspace = workspace; stack = registers }; memory = m })
      (plain.leaves f (record {
        registers = record { workspace = workspace; at = to; stack = stack };
        memory = n;
      }))
  left_at f to workspace m n registers stack comes related = record {
    flow = refl;
    at = refl;
    matches = record { workspace = refl; stack = related; memory = comes.matches };
    own = comes.own;
  }

  -- workspace and offset as they are
  left : (f : PlainFlow) (m n : Memory) (registers : Stack (Option ℤ)) (stack : Stack ℤ) → C m n
      → AreRelated Matches registers stack
      → IsLeft s state f s.next (record { registers = record before.registers { stack = registers }; memory = m })
      (plain.leaves f (record { registers = record state.registers { stack = stack }; memory = n }))
  left f m n registers stack comes related =
      left_at f state.registers.at state.registers.workspace m n registers stack comes related

  -- memory as it is
  keep : (registers : Stack (Option ℤ)) (stack : Stack ℤ) → AreRelated Matches registers stack
      → IsLeft s state flow.Next s.next (record before { registers = record before.registers { stack = registers } })
      (plain.leaves flow.Next (record state { registers = record state.registers { stack = stack } }))
  keep registers stack related = left flow.Next before.memory state.memory registers stack found_memory related

  -- the plain state as it is
  asked : (f : PlainFlow) (m : Memory) (registers : Stack (Option ℤ)) → MatchesMemory m state.memory
      → AreRelated Matches registers found
      → IsAsked state f (record { registers = record before.registers { stack = registers }; memory = m })
      (plain.leaves f state)
  asked f m registers memory related = record {
    flow = refl;
    state = refl;
    matches = record { workspace = refl; stack = related; memory = memory };
  }

  pushes : (v : Option ℤ) (x : ℤ) → Matches v x
      → AreRelated Matches (record { a = v; b = before.registers.stack.a; c = before.registers.stack.b })
      (record { a = x; b = found.a; c = found.b })
  pushes v x same = record { a = same; b = start.matches.stack.a; c = start.matches.stack.b }

  tops : (v : Option ℤ) (x : ℤ) → Matches v x
      → AreRelated Matches (record before.registers.stack { a = v }) (record found { a = x })
  tops v x same = record { a = same; b = start.matches.stack.b; c = start.matches.stack.c }

  pops : AreRelated Matches (record { a = before.registers.stack.b; b = before.registers.stack.c; c = None })
      (record { a = found.b; b = found.c; c = found.c })
  pops = record { a = start.matches.stack.b; b = start.matches.stack.c; c = tt }

  pops_both : AreRelated Matches (record { a = before.registers.stack.c; b = None; c = None })
      (record { a = found.c; b = found.c; c = found.c })
  pops_both = record { a = start.matches.stack.c; b = tt; c = tt }

  results : (x : ℤ) → AreRelated Matches (record { a = Some x; b = before.registers.stack.c; c = None })
      (record { a = x; b = found.c; c = found.c })
  results x = record { a = refl; b = start.matches.stack.c; c = tt }

  none : (stack : Stack ℤ) → AreRelated Matches (of_empty None) stack
  none stack = record { a = tt; b = tt; c = tt }

  -- the workspace and memory as they are
  kept : {f : PlainFlow} {stack : Stack ℤ}
      → agree.IsKept state (plain.leaves f (record state { registers = record state.registers { stack = stack } }))
  kept = record { workspace = refl; memory = refl }

  -- ---- what lies in memory

  memory : MatchesMemory before.memory state.memory
  memory = start.matches.memory

  word_inside : (place : ℕ) → may_read_word s.holding place ≡ true → place + 4 ≤ length state.memory
  word_inside place own = rw start.matches.memory.size (match.word_lies s.holding _ place start.holding own)

  own_word_inside : (place : ℕ) → may_write_word s.holding place ≡ true → place + 4 ≤ length state.memory
  own_word_inside place own = rw start.matches.memory.size (match.own_word_lies s.holding _ place start.holding own)

  byte_inside : (place : ℕ) → may_read s.holding place ≡ true → place < length state.memory
  byte_inside place own = rw start.matches.memory.size (start.holding place own)

  own_byte_inside : (place : ℕ) → may_write s.holding place ≡ true → place < length state.memory
  own_byte_inside place own = rw start.matches.memory.size (match.writable_lies s.holding _ place start.holding own)

  forgotten : MatchesMemory (step.without_scheduling_words before.memory state.registers.workspace) state.memory
  forgotten = match.words_forgotten before.memory state.memory state.registers.workspace memory

  -- ---- the instructions that take more than a line

  moves : (own : (step.may_read_bytes s.holding (step.address found.c) (step.address found.a)
      && step.may_write_bytes s.holding (step.address found.b) (step.address found.a)
      && not (step.places_meet (place_of (step.address found.c)) (step.address found.a)
      (place_of (step.address found.b)) (step.address found.a))) ≡ true) → plain.HasMove state.memory found
  moves own =
      let both = and_parts _ _ (and_parts _ _ own).0 in
      let size = start.matches.memory.size in
      record {
        source = λ some. rw size (match.bytes_lie s.holding _ _ _ start.holding both.0 some);
        target = λ some. rw size (match.own_bytes_lie s.holding _ _ _ start.holding both.1 some);
      }

  turns : (b : Bool) (m n : Memory) (place : ℕ) (v : ℤ) → may_write_word s.holding place ≡ true → C m n
      → C (cond b (with_word m place (Some v)) m) (cond b (with_word n place (Some v)) n)
  turns true m n place v own comes = word_comes m n place (Some v) v refl own comes
  turns false m n place v own comes = comes

  loop_end : s.mode ≡ Plain
      → A (plain.IsOperationSafe ops.LoopEnd state) (plain.plain_loop_end state) (step.loop_end_step s before)
  loop_end p = two _ (aligned found.b _ (test _ NotOwn _ (λ own. schedules before _ (λ taken.
      used _ _ _ (match.word_read before.memory state.memory _ memory)
      (used _ _ _ (match.word_read before.memory state.memory _ memory) (schedules _ _ (λ again.
      let both = and_parts _ _ own in
      lead p _ _ (record { index = own_word_inside _ both.0; count = own_word_inside _ both.1 }) refl
      (words_taken s.holding _ state.registers.workspace again)
      (left_at flow.Jump _ _ _ _ (of_empty None) found
      (words_forgotten _ _ _ (turns _ _ _ _ _ both.0 (word_comes _ _ _ (Some _) _ refl both.1 found_memory)))
      (none found)))))))))

  message : Exchange
  message = record {
    channel = step.address found.b;
    address = step.address found.c;
    length = step.address found.a;
  }

  is_message : agree.IsMessage message found
  unfolding message
  is_message = record { length = refl; channel = refl; address = refl }

  small : MAX_MESSAGE < 2 ^ 31
  small = omega arith

  exchanges : {t : Stepped} → (direction : Direction) (k : Exchange → Local → Outcome)
      → (agree.HoldsEnd s direction message.channel
      → HasWords s.holding (scheduled before).memory state.registers.workspace
      → A ⊤ t (k message (step.without_registers (scheduled before)))) → A ⊤ t (step.exchanges s direction before k)
  unfolding step.exchanges message
  exchanges direction k h =
      three _ (counts 1 MAX_MESSAGE found.a _ small (λ most.
      channel found.b direction _ (λ end. schedules before _ (λ taken.
      h end (words_taken s.holding before.memory state.registers.workspace taken)))))

  asks_none : (f : PlainFlow) → IsAsked state f (step.without_registers (scheduled before)) (plain.leaves f state)
  asks_none f = asked f _ (of_empty None) forgotten (none found)

  ends : (selection : Option ℤ) → s.mode ≡ Disabling selection
      → A ⊤ (plain.leaves flow.End state) (elim selection as (λ o. Outcome) [
        | None ↦ fails AlternationOrder
        | Some distance ↦ ends_alternation (step.target s.next distance) before
      ])
  ends None is = fault AlternationOrder
  ends (Some distance) is =
      asks _ (asked flow.End before.memory before.registers.stack memory start.matches.stack, (distance, is, refl))

  call : (e : ℤ) → A (plain.HasCallWords state.memory state.registers.workspace)
      (plain.plain_step s.code_start instructions.Call e state) (step.instruction_step s instructions.Call e before)
  unfolding step.instruction_step plain.plain_step
  call e = alone _ (λ p. writes _ _ before _ (λ first. writes _ _ _ _ (λ second. writes _ _ _ _ (λ third.
      writes _ _ _ _ (λ fourth. land p _ _ (record {
        first = own_word_inside _ first;
        second = own_word_inside _ second;
        third = own_word_inside _ third;
        fourth = own_word_inside _ fourth;
      }) (left_at flow.Next _ _ _ _ (of_empty None) found
      (word_comes _ _ _ (Some _) _ refl fourth
      (word_comes _ _ _ before.registers.stack.a found.a start.matches.stack.a third
      (word_comes _ _ _ before.registers.stack.b found.b start.matches.stack.b second
      (word_comes _ _ _ before.registers.stack.c found.c start.matches.stack.c first found_memory)))) (none found)))))))

  -- ---- the instructions

  operation : (op : Op) → A (plain.IsOperationSafe op state) (plain.plain_operation s.code_start op state)
      (step.operation_step s op before)
  unfolding step.operation_step plain.plain_operation
  operation ops.Reverse = alone _ (λ p. go p _ tt (keep _ _ (record {
    a = start.matches.stack.b;
    b = start.matches.stack.a;
    c = start.matches.stack.c;
  })))
  operation ops.MinimumInteger = beside_starts _ (go_same _ tt (keep _ _ (pushes _ _ refl)) kept)
  operation ops.StopProcess = alone _ (λ p. schedules before _ (λ own. record {
    safe = λ none. tt;
    shown = (
      asked flow.Stop _ before.registers.stack forgotten start.matches.stack,
      p,
      words_taken s.holding before.memory state.registers.workspace own,
    );
  }))
  operation (ops.Binary op) = alone _ (λ p. two _ (computes _ _ (λ some. go p _ some (keep _ _ (results _)))))
  operation (ops.Unary op) = alone _ (λ p. one _ (computes _ _ (λ some. go p _ some (keep _ _ (tops _ _ refl)))))
  operation (ops.Shift op) = alone _ (λ p. two _ (counts 0 31 found.a _ (omega arith) (λ most.
      go p _ (omega arith) (keep _ _ (results _)))))
  operation (ops.Long op) = test _ UnknownOperation _ (λ has. alone _ (λ p. three _ (go p _ tt (keep _ _
      (record { a = refl; b = refl; c = tt })))))
  operation ops.LoadByte = alone _ (λ p. one _ (reads_byte _ before _ (λ own.
      go p _ (byte_inside _ own) (keep _ _ (tops _ _ (match.byte_read before.memory state.memory _ memory))))))
  operation ops.StoreByte = alone _ (λ p. two _ (writes_byte _ _ before _ (λ own.
      go p _ (own_byte_inside _ own) (left flow.Next _ _ _ _
      (byte_comes before.memory state.memory _ _ own found_memory) pops_both))))
  operation ops.ByteSubscript = alone _ (λ p. two _ (go p _ tt (keep _ _ (results _))))
  operation ops.WordSubscript = alone _ (λ p. two _ (go p _ tt (keep _ _ (results _))))
  operation ops.CheckSubscript = alone _ (λ p. two _ (test _ ErrorFlag _ (λ below. go p _ tt (keep _ _ pops))))
  operation ops.CheckCount = alone _ (λ p. two _ (test _ ErrorFlag _ (λ below. go p _ tt (keep _ _ pops))))
  operation ops.LoadPointerToInstruction = alone _ (λ p. one _ (go p _ tt (keep _ _ (tops _ _ refl))))
  operation ops.Move = alone _ (λ p. three _ (counts 0 65536 found.a _ (omega arith) (λ most. test _ NotOwn _ (λ own.
      go p _ (moves own) (left flow.Next _ _ (of_empty None) found
      (copy_comes _ _ _ (and_parts _ _ (and_parts _ _ own).0).1) (none found))))))
  operation ops.Return = alone _ (λ p. reads _ before _ (λ own.
      used _ _ _ (match.word_read before.memory state.memory _ memory) (land p _ _ (word_inside _ own)
      (left_at flow.Next _ _ _ _ (of_empty None) found found_memory (none found)))))
  operation ops.LoopEnd = alone _ loop_end
  operation ops.Input = alone _ (λ p. exchanges In _ (λ end words. test _ NotOwn _ (λ own. asks _ (
    asks_none flow.Receive,
    is_message,
    record { plain = p; stack = refl; words = words },
    end,
  ))))
  operation ops.Output = alone _ (λ p. exchanges Out _ (λ end words. test _ NotOwn _ (λ own.
      test _ Undefined _ (λ defined. asks _ (
        asks_none flow.Send,
        is_message,
        record { plain = p; stack = refl; words = words },
        end,
        defined,
      )))))
  operation ops.StartProcess = outside _ (two _ (aligned found.a _
      (asks _ (asked flow.Start _ (of_empty None) memory (none found), refl, refl))))
  operation ops.EndProcess = outside _ (one _ (aligned found.a _
      (asks _ (asked flow.Join _ before.registers.stack memory start.matches.stack, refl))))
  operation ops.Alternate = alone _ (λ p. schedules before _ (λ own. followed _
      (asks _ (asked flow.Begin _ before.registers.stack forgotten start.matches.stack))))
  operation ops.EnableChannel = enabling _ (two _ (channel found.b In _ (λ end. asks _
      (asked flow.EnableChannel _ _ memory (record { a = refl; b = tt; c = tt }), refl, refl, end))))
  operation ops.EnableSkip = enabling _ (one _ (followed _ (asks _
      (asked flow.EnableSkip _ _ memory (record { a = refl; b = tt; c = tt }), refl))))
  operation ops.AlternationWait = enabling _ (schedules before _ (λ own. writes _ None _ _ (λ again. followed _
      (asks _ (asked flow.Wait _ (of_empty None) (match.word_forgotten _ _ _ forgotten) (none found))))))
  operation ops.DisableChannel = disabling s.mode _ (λ selection is. three _ (channel found.c In _
      (λ end. writes _ None before _ (λ own. asks _ (
        asked flow.DisableChannel _ before.registers.stack
            (match.word_forgotten _ _ _ memory) start.matches.stack,
        refl,
        refl,
        refl,
        end,
      )))))
  operation ops.DisableSkip = disabling s.mode _ (λ selection is. two _ (writes _ None before _ (λ own. followed _
      (asks _ (
        asked flow.DisableSkip _ before.registers.stack
            (match.word_forgotten _ _ _ memory) start.matches.stack,
        refl,
        refl,
      )))))
  operation ops.AlternationEnd = disabling s.mode _ ends

  instruction : (i : Instruction) (e : ℤ) → A (plain.IsSafe i e state) (plain.plain_step s.code_start i e state)
      (step.instruction_step s i e before)
  unfolding step.instruction_step plain.plain_step
  instruction instructions.LoadConstant e = go_same _ tt (keep _ _ (pushes _ _ refl)) kept
  instruction instructions.LoadLocal e = beside_starts _ (reads _ before _ (λ own. go_same _ (word_inside _ own)
      (keep _ _ (pushes _ _ (match.word_read before.memory state.memory _ memory))) kept))
  instruction instructions.StoreLocal e = alone _ (λ p. one _ (writes _ _ before _ (λ own.
      go p _ (own_word_inside _ own)
      (left flow.Next _ _ _ _ (word_comes before.memory state.memory _ (Some _) _ refl own found_memory) pops))))
  instruction instructions.LoadLocalPointer e = go_same _ tt (keep _ _ (pushes _ _ refl)) kept
  instruction instructions.LoadNonLocalPointer e =
      beside_starts _ (one _ (go_same _ tt (keep _ _ (tops _ _ refl)) kept))
  instruction instructions.LoadNonLocal e = alone _ (λ p. one _ (aligned found.a _ (reads _ before _ (λ own.
      go p _ (word_inside _ own)
      (keep _ _ (tops _ _ (match.word_read before.memory state.memory _ memory)))))))
  instruction instructions.StoreNonLocal e = alone _ (λ p. two _ (aligned found.a _ (writes _ _ before _ (λ own.
      go p _ (own_word_inside _ own) (left flow.Next _ _ _ _
      (word_comes before.memory state.memory _ (Some _) _ refl own found_memory) pops_both)))))
  instruction (instructions.WithConstant op) e =
      alone _ (λ p. one _ (computes _ _ (λ some. go p _ some (keep _ _ (tops _ _ refl)))))
  instruction instructions.Jump e = alone _ (λ p. schedules before _ (λ own. lead p _ _ tt refl
      (words_taken s.holding before.memory state.registers.workspace own)
      (left_at flow.Jump _ _ _ _ (of_empty None) found forgets (none found))))
  instruction instructions.ConditionalJump e = alone _ (λ p. one _ (either (step.address found.a == 0) _ _ _ _
      (land p _ _ tt (left_at flow.Next _ _ _ _ before.registers.stack found found_memory start.matches.stack))
      (go p _ tt (keep _ _ pops))))
  instruction instructions.AdjustWorkspace e = alone _ (λ p. go p _ tt
      (left_at flow.Next _ _ _ _ before.registers.stack found found_memory start.matches.stack))
  instruction instructions.Call e = call e
  instruction (instructions.Operate op) e = operation op

pub steps_agree : agree.StepsAgree
steps_agree s l i e state finds =
    let same_site = λ (next : ℕ). record s { next = next } in
    let same_local = λ (w : ℕ). record l { registers = record l.registers { workspace = w } } in
    let holds = λ (site : Site) (before : Local). Agreed site state (plain.IsSafe i e state)
    (plain.plain_step s.code_start i e state) (step.instruction_step site i e before) in
    subst (λ (w : ℕ). holds s (same_local w)) finds.matches.workspace
    (subst (λ (next : ℕ). holds (same_site next) (same_local state.registers.workspace)) finds.next
    (instruction s l state finds i e))
