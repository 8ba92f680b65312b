-- The walk through every instruction, once: a law says what it wants of each outcome and what each change of the
-- registers or of memory keeps. It is of one instruction in two memories; most laws are of one of them.
use Rattle.std.proofs.Common.{◌≡◌, ◌≤◌, ◌^◌, ◌-◌, ◌+◌, ◌%◌, ℕ, zero, suc, ℤ, pos, negsuc, Bool, true, false}
use Rattle.std.proofs.Common.{cond, Option, Some, None, refl, ap, subst, int_lt, is_some}
use Rattle.std.specs.Prelude.{⊤, ◌==◌, not}
use Rattle.std.proofs.lemmas.Bool.{and_parts}
use Rattle.prefix_decoder.specs.declared.function.Fun.{Fun}
use Rattle.module_format.specs.declared.rows.Direction.{Direction}
use Rattle.module_format.specs.declared.rows.Direction.TheVariants.{In, Out}
use Rattle.module_format.specs.declared.limits.TheConstants.{MAX_MESSAGE}
use Rattle.module_format.specs.declared.stack.Stack.{Stack}
use Rattle.module_format.specs.Stack.{of_empty}
use Rattle.machine_state.specs.declared.fault.FaultKind.{FaultKind}
use Rattle.machine_state.specs.declared.fault.FaultKind.TheVariants.{AlternationOrder, NotOwn, Undefined, ErrorFlag}
use Rattle.machine_state.specs.declared.fault.FaultKind.TheVariants.{UnknownOperation}
use Rattle.machine_state.specs.declared.process.Registers.{Registers}
use Rattle.machine_state.specs.declared.process.Exchange.{Exchange}
use Rattle.machine_state.specs.declared.op.Op.{Op}
use Rattle.machine_state.specs.declared.op.Op.TheVariants as ops
use Rattle.machine_state.specs.declared.instruction.Instruction.{Instruction}
use Rattle.machine_state.specs.declared.instruction.Instruction.TheVariants as instructions
use Rattle.machine_state.specs.Instructions.{instruction_of}
use Rattle.machine_state.specs.Memory.{Memory, place_of, local_address, word_at, with_word, byte_at, with_byte}
use Rattle.machine_state.specs.Holding.{Holding, may_write, may_read, may_write_word, may_read_word, has_end}
use Rattle.machine_state.specs.Spans.{all_places}
use Rattle.machine_state.specs.LocalStep as step
use Rattle.machine_state.specs.Site.{Site, Local, Outcome, goes, jumps, lands, stops, fails, receives, sends, starts}
use Rattle.machine_state.specs.Site.{joins, begins, enables_channel, enables_skip, waits, disables_channel}
use Rattle.machine_state.specs.Site.{disables_skip, ends_alternation}
use Rattle.machine_state.proofs.Combining as each

abbrev pub here : Registers → Memory → Local
here r m = record { registers = r; memory = m }

-- a message that was asked for: its end is held, it has a byte at least, and it does not meet the scheduling words
pub record IsAsked (s : Site) (r : Registers) (direction : Direction) (e : Exchange) : Type 0 where
  pub end : has_end s.holding (record { address = e.channel; direction = direction }) ≡ true
  pub some : 1 ≤ e.length
  pub most : e.length ≤ MAX_MESSAGE
  pub apart :
      not (step.places_meet (place_of e.address) e.length (place_of (local_address r.workspace (negsuc 2))) 12) ≡ true

-- memory once scheduling has taken the words below the workspace of these registers
abbrev pub scheduled : Registers → Memory → Memory
scheduled r m = step.without_scheduling_words m r.workspace

-- What a law wants of the steps from these registers and memories: K is kept, and comes to R.
pub record Wants (s : Site) (rs : Registers) (m0 n0 : Memory) (K : Registers → Memory → Memory → Type 0)
    (R : Outcome → Outcome → Type 0) : Type 0 where
  pub same_word : (r : Registers) (m n : Memory) (place : ℕ) → K r m n → may_read_word s.holding place ≡ true
      → word_at m place ≡ word_at n place
  pub same_byte : (r : Registers) (m n : Memory) (place : ℕ) → K r m n → may_read s.holding place ≡ true
      → byte_at m place ≡ byte_at n place
  pub stack : (r : Registers) (m n : Memory) (stack : Stack (Option ℤ)) → K r m n
      → K (record r { stack = stack }) m n
  pub workspace : (r : Registers) (m n : Memory) (e : ℤ) → K r m n
      → K (record r { workspace = local_address r.workspace e }) m n
  pub word : (r : Registers) (m n : Memory) (place : ℕ) (v : Option ℤ) → K r m n
      → may_write_word s.holding place ≡ true → K r (with_word m place v) (with_word n place v)
  pub byte : (r : Registers) (m n : Memory) (place : ℕ) (v : Option ℕ) → K r m n
      → may_write s.holding place ≡ true → K r (with_byte m place v) (with_byte n place v)
  pub copy : (r : Registers) (m n : Memory) (source to count : ℕ) → K r m n
      → all_places (may_read s.holding) source count ≡ true → all_places (may_write s.holding) to count ≡ true
      → K r (step.copied m source to count m) (step.copied n source to count n)
  pub at_fault : (kind : FaultKind) → R (fails kind) (fails kind)
  pub at_goes : (r : Registers) (m n : Memory) → K r m n → R (goes (here r m)) (goes (here r n))
  pub at_jumps : (to : ℕ) (r : Registers) (m n : Memory) → K r m n → R (jumps to (here r m)) (jumps to (here r n))
  pub at_lands : (to : ℕ) (r : Registers) (m n : Memory) → K r m n → R (lands to (here r m)) (lands to (here r n))
  pub at_stops : (r : Registers) (m n : Memory) → K r m n → R (stops (here r m)) (stops (here r n))
  pub at_receives : (e : Exchange) → IsAsked s rs In e
      → all_places (may_write s.holding) (place_of e.address) e.length ≡ true
      → let r = record rs { stack = of_empty None } in K r (scheduled r m0) (scheduled r n0)
      → R (receives e (here r (scheduled r m0))) (receives e (here r (scheduled r n0)))
  pub at_sends : (e : Exchange) → IsAsked s rs Out e
      → all_places (may_read s.holding) (place_of e.address) e.length ≡ true
      → step.are_defined (scheduled rs m0) e.address e.length ≡ true
      → let r = record rs { stack = of_empty None } in K r (scheduled r m0) (scheduled r n0)
      → R (sends e (here r (scheduled r m0))) (sends e (here r (scheduled r n0)))
  pub at_starts : (to workspace : ℕ) (r : Registers) (m n : Memory) → (workspace % 4 == 0) ≡ true → K r m n
      → R (starts to workspace (here r m)) (starts to workspace (here r n))
  pub at_joins : (block : ℕ) (r : Registers) (m n : Memory) → K r m n
      → R (joins block (here r m)) (joins block (here r n))
  pub at_begins : (r : Registers) (m n : Memory) → K r m n → R (begins (here r m)) (begins (here r n))
  pub at_enables_channel : (guard : Bool) (at : ℕ) (r : Registers) (m n : Memory) → K r m n
      → has_end s.holding (record { address = at; direction = In }) ≡ true
      → R (enables_channel guard at (here r m)) (enables_channel guard at (here r n))
  pub at_enables_skip : (guard : Bool) (r : Registers) (m n : Memory) → K r m n
      → R (enables_skip guard (here r m)) (enables_skip guard (here r n))
  pub at_waits : (r : Registers) (m n : Memory) → K r m n → R (waits (here r m)) (waits (here r n))
  pub at_disables_channel : (guard : Bool) (at : ℕ) (distance : ℤ) (r : Registers) (m n : Memory) → K r m n
      → has_end s.holding (record { address = at; direction = In }) ≡ true
      → R (disables_channel guard at distance (here r m)) (disables_channel guard at distance (here r n))
  pub at_disables_skip : (guard : Bool) (distance : ℤ) (r : Registers) (m n : Memory) → K r m n
      → R (disables_skip guard distance (here r m)) (disables_skip guard distance (here r n))
  pub at_ends_alternation : (to : ℕ) (r : Registers) (m n : Memory) → K r m n
      → R (ends_alternation to (here r m)) (ends_alternation to (here r n))

-- a law that wants something of the messages that are asked for, and of what is enabled
abbrev pub OfAsked : (Exchange → Local → Type 0) → (Exchange → Local → Type 0) → (ℕ → Type 0) → Outcome → Type 0
OfAsked Received Sent Enabled (receives e l) = Received e l
OfAsked Received Sent Enabled (sends e l) = Sent e l
OfAsked Received Sent Enabled (enables_channel guard address l) = Enabled address
OfAsked Received Sent Enabled _ = ⊤

pub wants_asked : (s : Site) (rs : Registers) (old : Memory) (Received Sent : Exchange → Local → Type 0)
    (Enabled : ℕ → Type 0)
    → ((e : Exchange) → IsAsked s rs In e → all_places (may_write s.holding) (place_of e.address) e.length ≡ true
    → Received e (here (record rs { stack = of_empty None }) (scheduled rs old)))
    → ((e : Exchange) → IsAsked s rs Out e → step.are_defined (scheduled rs old) e.address e.length ≡ true
    → Sent e (here (record rs { stack = of_empty None }) (scheduled rs old)))
    → ((at : ℕ) → has_end s.holding (record { address = at; direction = In }) ≡ true → Enabled at)
    → Wants s rs old old (λ r m n. m ≡ n) (λ o other. OfAsked Received Sent Enabled o)
wants_asked s rs old Received Sent Enabled of_received of_sent of_enabled = record {
  same_word = λ r m n place k own. ap (λ (m : Memory). word_at m place) k;
  same_byte = λ r m n place k own. ap (λ (m : Memory). byte_at m place) k;
  stack = λ r m n stack k. k;
  workspace = λ r m n e k. k;
  word = λ r m n place v k own. ap (λ (m : Memory). with_word m place v) k;
  byte = λ r m n place v k own. ap (λ (m : Memory). with_byte m place v) k;
  copy = λ r m n source to count k read own. ap (λ (m : Memory). step.copied m source to count m) k;
  at_fault = λ kind. tt;
  at_goes = λ r m n k. tt;
  at_jumps = λ to r m n k. tt;
  at_lands = λ to r m n k. tt;
  at_stops = λ r m n k. tt;
  at_receives = λ e asked own k. of_received e asked own;
  at_sends = λ e asked own defined k. of_sent e asked defined;
  at_starts = λ to workspace r m n even k. tt;
  at_joins = λ block r m n k. tt;
  at_begins = λ r m n k. tt;
  at_enables_channel = λ guard at r m n k held. of_enabled at held;
  at_enables_skip = λ guard r m n k. tt;
  at_waits = λ r m n k. tt;
  at_disables_channel = λ guard at distance r m n k held. tt;
  at_disables_skip = λ guard distance r m n k. tt;
  at_ends_alternation = λ to r m n k. tt;
}

-- ---- what may be written may be read

readable_byte : (h : Holding) (place : ℕ) → may_write h place ≡ true → may_read h place ≡ true
readable_byte h place own = rw own

pub readable_word : (h : Holding) (place : ℕ) → may_write_word h place ≡ true → may_read_word h place ≡ true
unfolding may_write_word may_read_word
readable_word h place own =
    let p = and_parts _ _ own in
    let q = and_parts _ _ p.0 in
    let t = and_parts _ _ q.0 in
    let a : may_read h place ≡ true = readable_byte h place t.0 in
    let b : may_read h (place + 1) ≡ true = readable_byte h (place + 1) t.1 in
    let c : may_read h (place + 2) ≡ true = readable_byte h (place + 2) q.1 in
    let d : may_read h (place + 3) ≡ true = readable_byte h (place + 3) p.1 in
    rw (a, b, c, d)

-- bytes that agree are defined alike
defined_alike : (test : ℕ → Bool) (m n : Memory)
    → ((place : ℕ) → test place ≡ true → byte_at m place ≡ byte_at n place) → (place count : ℕ)
    → all_places test place count ≡ true
    → all_places (λ p. is_some (byte_at m p)) place count ≡ all_places (λ p. is_some (byte_at n p)) place count
unfolding all_places
defined_alike test m n same place zero own = refl
defined_alike test m n same place (suc count) own =
    let both = and_parts _ _ own in
    let a : byte_at m place ≡ byte_at n place = same place both.0 in
    let b = defined_alike test m n same (place + 1) count both.1 in
    rw (a, b)

module _ (s : Site) (rs : Registers) (m0 n0 : Memory) (K : Registers → Memory → Memory → Type 0)
    (R : Outcome → Outcome → Type 0) (w : Wants s rs m0 n0 K R) (start : K rs m0 n0) where
  -- ---- the combinators, from registers and two memories on

  alone : (o o' : Outcome) → R o o' → R (step.alone s.mode o) (step.alone s.mode o')
  alone o o' h = each.alone R w.at_fault s.mode o o' h

  test : (b : Bool) (kind : FaultKind) (o o' : Outcome) → (b ≡ true → R o o')
      → R (step.holds b kind o) (step.holds b kind o')
  test b kind o o' h = each.holds R w.at_fault b kind o o' h

  goes_on : (r : Registers) (m n : Memory) → K r m n → R (step.goes_on s (here r m)) (step.goes_on s (here r n))
  goes_on r m n k = each.goes_on R w.at_fault s (here r m) (here r n) (w.at_goes r m n k)

  lands_at : (to : ℕ) (r : Registers) (m n : Memory) → K r m n
      → R (step.lands_at s to (here r m)) (step.lands_at s to (here r n))
  lands_at to r m n k = each.lands_at R w.at_fault s to (here r m) (here r n) (w.at_lands to r m n k)

  leads_to : (to : ℕ) (r : Registers) (m n : Memory) → K r m n
      → R (step.leads_to s to (here r m)) (step.leads_to s to (here r n))
  leads_to to r m n k = each.leads_to R w.at_fault s to (here r m) (here r n) (w.at_jumps to r m n k)

  followed : (o o' : Outcome) → R o o' → R (step.followed_by_code s o) (step.followed_by_code s o')
  followed o o' h = each.followed R w.at_fault s o o' h

  reads : (a : ℕ) (r : Registers) (m n : Memory) (k k' : Option ℤ → Outcome) → K r m n
      → ((v : Option ℤ) → R (k v) (k' v)) → R (step.reads s a (here r m) k) (step.reads s a (here r n) k')
  reads a r m n k k' kept h = each.reads R w.at_fault s a (here r m) (here r n) k k'
      (w.same_word r m n (place_of a) kept) h

  reads_byte : (a : ℕ) (r : Registers) (m n : Memory) (k k' : Option ℕ → Outcome) → K r m n
      → ((v : Option ℕ) → R (k v) (k' v)) → R (step.reads_byte s a (here r m) k) (step.reads_byte s a (here r n) k')
  reads_byte a r m n k k' kept h = each.reads_byte R w.at_fault s a (here r m) (here r n) k k'
      (w.same_byte r m n (place_of a) kept) h

  writes : (a : ℕ) (v : Option ℤ) (r : Registers) (m n : Memory) (k k' : Local → Outcome) → K r m n
      → (K r (with_word m (place_of a) v) (with_word n (place_of a) v)
      → R (k (here r (with_word m (place_of a) v))) (k' (here r (with_word n (place_of a) v))))
      → R (step.writes s a v (here r m) k) (step.writes s a v (here r n) k')
  writes a v r m n k k' kept h = each.writes R w.at_fault s a v (here r m) (here r n) k k'
      (λ own. h (w.word r m n (place_of a) v kept own))

  writes_byte : (a byte : ℕ) (r : Registers) (m n : Memory) (k k' : Local → Outcome) → K r m n
      → (K r (with_byte m (place_of a) (Some byte)) (with_byte n (place_of a) (Some byte))
      → R (k (here r (with_byte m (place_of a) (Some byte)))) (k' (here r (with_byte n (place_of a) (Some byte)))))
      → R (step.writes_byte s a byte (here r m) k) (step.writes_byte s a byte (here r n) k')
  writes_byte a byte r m n k k' kept h = each.writes_byte R w.at_fault s a byte (here r m) (here r n) k k'
      (λ own. h (w.byte r m n (place_of a) (Some byte) kept own))

  schedules : (r : Registers) (m n : Memory) (k k' : Local → Outcome) → K r m n
      → (K r (scheduled r m) (scheduled r n) → R (k (here r (scheduled r m))) (k' (here r (scheduled r n))))
      → R (step.schedules s (here r m) k) (step.schedules s (here r n) k')
  unfolding step.schedules
  schedules r m n k k' kept h =
      let word = local_address r.workspace in
      writes (word (negsuc 0)) None r m n _ _ kept (λ one.
      writes (word (negsuc 1)) None r _ _ _ _ one (λ two.
      writes (word (negsuc 2)) None r _ _ k k' two h))

  uses : (v : Option ℤ) (k k' : ℤ → Outcome) → ((x : ℤ) → R (k x) (k' x)) → R (step.uses v k) (step.uses v k')
  uses v k k' h = each.uses R w.at_fault v k k' h

  -- the same word is used in both memories
  uses_word : (place : ℕ) (r : Registers) (m n : Memory) (k k' : ℤ → Outcome) → K r m n
      → may_write_word s.holding place ≡ true → ((x : ℤ) → R (k x) (k' x))
      → R (step.uses (word_at m place) k) (step.uses (word_at n place) k')
  uses_word place r m n k k' kept own h =
      subst (λ v. R (step.uses (word_at m place) k) (step.uses v k'))
      (w.same_word r m n place kept (readable_word s.holding place own)) (uses (word_at m place) k k' h)

  -- an instruction that uses A, A and B, or all three
  one_used : (k k' : ℤ → Outcome) → ((a : ℤ) → R (k a) (k' a))
      → R (step.uses rs.stack.a k) (step.uses rs.stack.a k')
  one_used k k' h = uses rs.stack.a k k' h

  two_used : (k k' : ℤ → ℤ → Outcome) → ((a b : ℤ) → R (k a b) (k' a b))
      → R (step.uses rs.stack.a (λ a. step.uses rs.stack.b (λ b. k a b)))
      (step.uses rs.stack.a (λ a. step.uses rs.stack.b (λ b. k' a b)))
  two_used k k' h = one_used _ _ (λ a. uses rs.stack.b _ _ (λ b. h a b))

  three_used : (k k' : ℤ → ℤ → ℤ → Outcome) → ((a b c : ℤ) → R (k a b c) (k' a b c))
      → R (step.uses rs.stack.a (λ a. step.uses rs.stack.b (λ b. step.uses rs.stack.c (λ c. k a b c))))
      (step.uses rs.stack.a (λ a. step.uses rs.stack.b (λ b. step.uses rs.stack.c (λ c. k' a b c))))
  three_used k k' h = two_used _ _ (λ a b. uses rs.stack.c _ _ (λ c. h a b c))

  -- ---- the instructions

  -- another stack, and memory as it was
  abbrev with_stack : Stack (Option ℤ) → Registers
  with_stack stack = record rs { stack = stack }

  pushes : (stack : Stack (Option ℤ)) → R (step.goes_on s (here (with_stack stack) m0))
      (step.goes_on s (here (with_stack stack) n0))
  pushes stack = goes_on _ m0 n0 (w.stack rs m0 n0 stack start)

  pushes_on : (m n : Memory) (stack : Stack (Option ℤ)) → K rs m n
      → R (step.goes_on s (here (with_stack stack) m)) (step.goes_on s (here (with_stack stack) n))
  pushes_on m n stack kept = goes_on (with_stack stack) m n (w.stack rs m n stack kept)

  aligned : (v : ℤ) (k k' : ℕ → Outcome) → ((a : ℕ) → (a % 4 == 0) ≡ true → R (k a) (k' a))
      → R (step.aligned v k) (step.aligned v k')
  aligned v k k' h = each.aligned R w.at_fault v k k' h

  channel : (v : ℤ) (direction : Direction) (k k' : ℕ → Outcome)
      → ((a : ℕ) → has_end s.holding (record { address = a; direction = direction }) ≡ true → R (k a) (k' a))
      → R (step.channel s v direction k) (step.channel s v direction k')
  channel v direction k k' h = each.channel R w.at_fault s v direction k k' h

  -- a message that was asked for, before its bytes are looked at
  abbrev Asked : Direction → (Exchange → Local → Outcome) → (Exchange → Local → Outcome) → Type 0
  Asked direction k k' =
      (e : Exchange) → has_end s.holding (record { address = e.channel; direction = direction }) ≡ true
      → 1 ≤ e.length → e.length ≤ MAX_MESSAGE
      → K (with_stack (of_empty None)) (scheduled rs m0) (scheduled rs n0)
      → R (k e (here (with_stack (of_empty None)) (scheduled rs m0)))
      (k' e (here (with_stack (of_empty None)) (scheduled rs n0)))

  exchanges : (direction : Direction) (k k' : Exchange → Local → Outcome) → Asked direction k k'
      → R (step.exchanges s direction (here rs m0) k) (step.exchanges s direction (here rs n0) k')
  unfolding step.exchanges
  exchanges direction k k' h =
      three_used _ _ (λ a b c. each.counts R w.at_fault 1 MAX_MESSAGE a _ _ (λ count some most.
      channel b direction _ _ (λ at held.
      schedules rs m0 n0 _ _ start (λ kept.
      h _ held some most (w.stack rs (scheduled rs m0) (scheduled rs n0) (of_empty None) kept)))))

  receives_into : Asked In (step.receives_into s) (step.receives_into s)
  receives_into e held some most kept = test _ NotOwn _ _ (λ own.
      let both = and_parts _ _ own in
      w.at_receives e (record { end = held; some = some; most = most; apart = both.1 }) both.0 kept)

  sends_from : Asked Out (step.sends_from s) (step.sends_from s)
  sends_from e held some most kept = test _ NotOwn _ _ (λ own.
      let both = and_parts _ _ own in
      subst (λ b. R (step.holds (step.are_defined (scheduled rs m0) e.address e.length) Undefined
      (sends e (here (with_stack (of_empty None)) (scheduled rs m0))))
      (step.holds b Undefined (sends e (here (with_stack (of_empty None)) (scheduled rs n0)))))
      (defined_alike (may_read s.holding) (scheduled rs m0) (scheduled rs n0)
      (λ place read. w.same_byte _ _ _ place kept read) (place_of e.address) e.length both.0)
      (test _ Undefined _ _ (λ defined.
      w.at_sends e (record { end = held; some = some; most = most; apart = both.1 }) both.0 defined kept)))

  -- the block of a loop is written
  turned : (block : ℕ) (index count : ℤ) → may_write_word s.holding (place_of block) ≡ true
      → may_write_word s.holding (place_of (local_address block (pos 1))) ≡ true
      → K rs (step.turned block index count (here rs m0)).memory (step.turned block index count (here rs n0)).memory
  turned block index count one two = on_more (int_lt (pos 1) count)
    where
      counted : Memory → Memory
      counted m = with_word m (place_of (local_address block (pos 1)))
          (Some (step.word_of ((step.address count + (2 ^ 32 - 1)) % 2 ^ 32)))

      counts_down : K rs (counted m0) (counted n0)
      counts_down = w.word rs m0 n0 _ _ start two

      next : Option ℤ
      next = Some (step.word_of ((step.address index + 1) % 2 ^ 32))

      on_more : (b : Bool) → K rs (cond b (with_word (counted m0) (place_of block) next) (counted m0))
          (cond b (with_word (counted n0) (place_of block) next) (counted n0))
      on_more true = w.word rs (counted m0) (counted n0) (place_of block) next counts_down one
      on_more false = counts_down

  loop_end : R (step.loop_end_step s (here rs m0)) (step.loop_end_step s (here rs n0))
  loop_end =
      two_used _ _ (λ a b. aligned b _ _ (λ block even.
      test _ NotOwn _ _ (λ own.
      let both = and_parts _ _ own in
      schedules rs m0 n0 _ _ start (λ later.
      uses_word (place_of block) rs m0 n0 _ _ start both.0 (λ index.
      uses_word (place_of (local_address block (pos 1))) rs m0 n0 _ _ start both.1 (λ count.
      schedules rs _ _ _ _ (turned block index count both.0 both.1) (λ kept.
      leads_to _ _ _ _ (w.stack rs _ _ (of_empty None) kept))))))))

  move : R (step.move_step s (here rs m0)) (step.move_step s (here rs n0))
  move =
      three_used _ _ (λ a b c. each.counts R w.at_fault 0 65536 a _ _ (λ count least most.
      test _ NotOwn _ _ (λ own.
      let both = and_parts _ _ (and_parts _ _ own).0 in
      pushes_on _ _ (of_empty None)
      (w.copy rs m0 n0 (place_of (step.address c)) (place_of (step.address b)) count start both.0 both.1))))

  alternation_end : (selection : Option ℤ) → R (elim selection as (λ o. Outcome) [
    | None ↦ fails AlternationOrder
    | Some distance ↦ ends_alternation (step.target s.next distance) (here rs m0)
  ]) (elim selection as (λ o. Outcome) [
    | None ↦ fails AlternationOrder
    | Some distance ↦ ends_alternation (step.target s.next distance) (here rs n0)
  ])
  alternation_end None = w.at_fault AlternationOrder
  alternation_end (Some distance) = w.at_ends_alternation (step.target s.next distance) rs m0 n0 start

  operation : (op : Op) → R (step.operation_step s op (here rs m0)) (step.operation_step s op (here rs n0))
  unfolding step.operation_step
  operation ops.Reverse = alone _ _ (pushes _)
  operation ops.MinimumInteger = each.outside_starts R w.at_fault s.mode _ _ (pushes _)
  operation ops.StopProcess =
      alone _ _ (schedules rs m0 n0 _ _ start (λ kept. w.at_stops rs _ _ kept))
  operation (ops.Binary op) =
      alone _ _ (two_used _ _ (λ a b. each.computes R w.at_fault _ _ _ (λ v. pushes _)))
  operation (ops.Unary op) = alone _ _ (one_used _ _ (λ a. each.computes R w.at_fault _ _ _ (λ v. pushes _)))
  operation (ops.Shift op) =
      alone _ _ (two_used _ _ (λ a b. each.counts R w.at_fault 0 31 a _ _ (λ n least most. pushes _)))
  operation (ops.Long op) =
      test _ UnknownOperation _ _ (λ has. alone _ _ (three_used _ _ (λ a b c. pushes _)))
  operation ops.LoadByte =
      alone _ _ (one_used _ _ (λ a. reads_byte _ rs m0 n0 _ _ start (λ v. pushes _)))
  operation ops.StoreByte = alone _ _ (two_used _ _ (λ a b.
      writes_byte _ _ rs m0 n0 _ _ start (λ kept. pushes_on _ _ _ kept)))
  operation ops.ByteSubscript = alone _ _ (two_used _ _ (λ a b. pushes _))
  operation ops.WordSubscript = alone _ _ (two_used _ _ (λ a b. pushes _))
  operation ops.CheckSubscript = alone _ _ (two_used _ _ (λ a b. test _ ErrorFlag _ _ (λ below. pushes _)))
  operation ops.CheckCount = alone _ _ (two_used _ _ (λ a b. test _ ErrorFlag _ _ (λ below. pushes _)))
  operation ops.LoadPointerToInstruction = alone _ _ (one_used _ _ (λ a. pushes _))
  operation ops.Move = alone _ _ move
  operation ops.Input = alone _ _ (exchanges In (step.receives_into s) (step.receives_into s) receives_into)
  operation ops.Output = alone _ _ (exchanges Out (step.sends_from s) (step.sends_from s) sends_from)
  operation ops.StartProcess = each.outside_alternation R w.at_fault s.mode _ _ (two_used _ _ (λ a b.
      aligned a _ _ (λ workspace even.
      w.at_starts _ workspace _ m0 n0 even (w.stack rs m0 n0 (of_empty None) start))))
  operation ops.EndProcess = each.outside_alternation R w.at_fault s.mode _ _ (one_used _ _ (λ a.
      aligned a _ _ (λ block even. w.at_joins block rs m0 n0 start)))
  operation ops.Return = alone _ _ (reads _ rs m0 n0 _ _ start (λ back. uses back _ _ (λ back.
      lands_at _ _ m0 n0 (w.stack _ m0 n0 (of_empty None) (w.workspace rs m0 n0 (pos 4) start)))))
  operation ops.LoopEnd = alone _ _ loop_end
  operation ops.Alternate = alone _ _ (schedules rs m0 n0 _ _ start (λ kept.
      followed _ _ (w.at_begins rs _ _ kept)))
  operation ops.EnableChannel = each.while_enabling R w.at_fault s.mode _ _ (two_used _ _ (λ a b.
      channel b In _ _ (λ at held. w.at_enables_channel _ at _ m0 n0 (w.stack rs m0 n0 _ start) held)))
  operation ops.EnableSkip = each.while_enabling R w.at_fault s.mode _ _ (one_used _ _ (λ a.
      followed _ _ (w.at_enables_skip _ _ m0 n0 (w.stack rs m0 n0 _ start))))
  operation ops.AlternationWait = each.while_enabling R w.at_fault s.mode _ _ (schedules rs m0 n0 _ _ start (λ kept.
      writes _ None rs _ _ _ _ kept (λ more.
      followed _ _ (w.at_waits _ _ _ (w.stack rs _ _ (of_empty None) more)))))
  operation ops.DisableChannel = each.while_disabling R w.at_fault s.mode _ _ (λ selection.
      three_used _ _ (λ a b c. channel c In _ _ (λ at held.
      writes _ None rs m0 n0 _ _ start (λ kept. w.at_disables_channel _ at a rs _ _ kept held))))
  operation ops.DisableSkip = each.while_disabling R w.at_fault s.mode _ _ (λ selection.
      two_used _ _ (λ a b. writes _ None rs m0 n0 _ _ start (λ kept.
      followed _ _ (w.at_disables_skip _ a rs _ _ kept))))
  operation ops.AlternationEnd = each.while_disabling R w.at_fault s.mode _ _ alternation_end

  instruction : (i : Instruction) (e : ℤ)
      → R (step.instruction_step s i e (here rs m0)) (step.instruction_step s i e (here rs n0))
  unfolding step.instruction_step
  instruction instructions.LoadConstant e = pushes _
  instruction instructions.LoadLocal e =
      each.outside_starts R w.at_fault s.mode _ _ (reads _ rs m0 n0 _ _ start (λ v. pushes _))
  instruction instructions.StoreLocal e = alone _ _ (one_used _ _ (λ a.
      writes _ (Some a) rs m0 n0 _ _ start (λ kept. pushes_on _ _ _ kept)))
  instruction instructions.LoadLocalPointer e = pushes _
  instruction instructions.LoadNonLocalPointer e =
      each.outside_starts R w.at_fault s.mode _ _ (one_used _ _ (λ a. pushes _))
  instruction instructions.LoadNonLocal e = alone _ _ (one_used _ _ (λ a.
      aligned a _ _ (λ at even. reads _ rs m0 n0 _ _ start (λ v. pushes _))))
  instruction instructions.StoreNonLocal e = alone _ _ (two_used _ _ (λ a b.
      aligned a _ _ (λ at even.
      writes _ (Some b) rs m0 n0 _ _ start (λ kept. pushes_on _ _ _ kept))))
  instruction (instructions.WithConstant op) e =
      alone _ _ (one_used _ _ (λ a. each.computes R w.at_fault _ _ _ (λ v. pushes _)))
  instruction instructions.Jump e = alone _ _ (schedules rs m0 n0 _ _ start (λ kept.
      leads_to _ _ _ _ (w.stack rs _ _ (of_empty None) kept)))
  instruction instructions.ConditionalJump e = alone _ _ (one_used _ _ (λ a.
      each.by_test R w.at_fault (step.address a == 0) _ _ _ _ (λ zero. lands_at _ rs m0 n0 start)
      (λ other. pushes _)))
  instruction instructions.AdjustWorkspace e = alone _ _ (goes_on _ m0 n0 (w.workspace rs m0 n0 e start))
  instruction instructions.Call e = alone _ _
      (writes _ _ rs m0 n0 _ _ start (λ one.
      writes _ _ rs _ _ _ _ one (λ two.
      writes _ _ rs _ _ _ _ two (λ three.
      writes _ _ rs _ _ _ _ three (λ four.
      lands_at _ _ _ _ (w.stack _ _ _ (of_empty None) (w.workspace rs _ _ (negsuc 3) four)))))))
  instruction (instructions.Operate op) e = operation op

  decoded : (i : Option Instruction) (e : ℤ)
      → R (step.step_of s i e (here rs m0)) (step.step_of s i e (here rs n0))
  unfolding step.step_of
  decoded None e = w.at_fault UnknownOperation
  decoded (Some i) e = instruction i e

  pub each_step : (f : Fun) (e : ℤ)
      → R (step.local_step s f e (here rs m0)) (step.local_step s f e (here rs n0))
  unfolding step.local_step
  each_step f e = decoded (instruction_of f e) e
