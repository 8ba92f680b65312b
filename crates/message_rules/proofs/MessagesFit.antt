-- The instructions that take and give messages: what their rules say fits their steps.
use Rattle.std.proofs.Common.{◌≡◌, ℕ, ◌+◌, ◌-◌, ◌≤◌, ◌<◌, ℤ, pos, ◌+ℤ◌, ◌-ℤ◌, ◌≤ℤ◌}
use Rattle.std.proofs.Common.{nat_abs, true, false, not, ◌||◌, length, Option, Some, Ok}
use Rattle.std.proofs.Common.{is_some, ltb, refl, sym, ap, ◌∙◌, subst, arith, ◌⊎◌, inl, inr}
use Rattle.std.proofs.lemmas.Int.{ints}
use Rattle.std.specs.Prelude.{int_le}
use Rattle.std.proofs.lemmas.Bool.{and_parts, or_cases, and_from, cases_Bool}
use Rattle.small_laws.proofs.Comparisons.{int_le-true, int_lt-true, pos_from}
use Rattle.module_format.specs.declared.fact.Region.{Region}
use Rattle.module_format.specs.declared.fact.Region.TheVariants as regions
use Rattle.module_format.specs.Regions.{is_frame}
use Rattle.module_format.specs.Rows.{Fact}
use Rattle.module_format.specs.declared.fact.Fact.TheVariants.{Pointer}
use Rattle.module_format.specs.declared.rows.Direction.{Direction}
use Rattle.module_format.specs.declared.rows.Direction.TheVariants.{In, Out}
use Rattle.machine_state.specs.declared.op.Op.TheVariants.{Input, Output}
use Rattle.machine_state.specs.declared.fault.FaultKind.TheVariants.{NotOwn, Undefined}
use Rattle.machine_state.specs.declared.process.Exchange.{Exchange}
use Rattle.machine_state.specs.Memory.{Memory, byte_at, place_of}
use Rattle.machine_state.specs.Holding.{may_read, may_write}
use Rattle.machine_state.specs.LocalStep as step
use Rattle.machine_state.specs.LocalStep.{copied}
use Rattle.machine_state.specs.Site.{Outcome, Local}
use Rattle.machine_state.specs.Seeing.{Agree}
use Rattle.machine_state.proofs.Copying.{copied-beside}
use Rattle.states.specs.declared.known.Mode.{Mode}
use Rattle.states.specs.declared.known.Mode.TheVariants.{Plain}
use Rattle.states.specs.State.{State}
use Rattle.rulings.specs.declared.pointers.Pointed.{Pointed}
use Rattle.rulings.specs.Rulings as rule
use Rattle.rulings.specs.Rulings.{Ruling, falls}
use Rattle.rulings.specs.Meaning.{Means, is_pointer, owed, dues, region_start, IsWellFormed}
use Rattle.rulings.specs.Regions.{Scope, scope_of, scope_among, scope_in, KeepsMemory}
use Rattle.rulings.specs.Reach.{word_of_byte, may_read_bytes, may_write_bytes}
use Rattle.rulings.specs.Pointers.{constant_of, pointer_of, takes_any, byte_read, wanted_range, is_full}
use Rattle.rulings.specs.Filling.{are_numbers}
use Rattle.rulings.specs.Buffers.{is_of_message, IsByte, Fills}
use Rattle.rulings.specs.Fitting.{Changes, After, Situation, rule_site, step_site, GoesOver, Exchanges, Asks}
use Rattle.rulings.specs.Fitting.{to_receive, to_send, it_asks, it_breaks}
use Rattle.rulings.proofs.Within.{Within, ArePlain, whole_after}
use Rattle.rulings.proofs.Agreeing.{after_agrees}
use Rattle.rulings.proofs.Reaching.{region_place, place_at, region_at, inside_memory, word_of_byte_low}
use Rattle.rulings.proofs.Reaching.{word_of_byte_high}
use Rattle.rulings.proofs.PointerFacts.{constant_is, pointer_is}
use Rattle.rulings.proofs.Combining.{FitsIf, unknown_means, on_rule_test, uses_fits, in_bounds_fits, wants_fits}
use Rattle.rulings.proofs.Combining.{settles_fits, reads_bytes_fits, writes_bytes_fits, holds_fits, counts_fits}
use Rattle.rulings.proofs.Combining.{in_plain_rule, beside_plain_rule, in_plain_step, after_stack, enough}
use Rattle.rulings.proofs.Combining.{MaySchedule, Scheduled, unscheduled, scheduled, scheduling, scheduled_changes}
use Rattle.rulings.proofs.Combining.{unscheduled_owed, unscheduled_context, unscheduled_mode, rule_schedules_fits}
use Rattle.rulings.proofs.Combining.{step_schedules_fits}
use Rattle.rulings.proofs.BlocksMove.{all_held, source_read, read_at, written_at, written_read, IsReadAt, defined_of}
use Rattle.rulings.proofs.BlocksMove.{Room}
use Rattle.rulings.proofs.BlocksMove.{written_room, copied-inside, length-copied, Moved}
use Rattle.rulings.proofs.BufferPlaces.{message_place_is, of_message_tells, of_message, beside_message, IsOff}
use Rattle.rulings.proofs.BufferPlaces.{off_scheduling, off_stays, unscheduled_agree, beside_scheduling}
use Rattle.rulings.proofs.FillingKeeps.{fills_keep}
use Rattle.rulings.proofs.HeldChannels.{held_channel_fits}
use Rattle.message_rules.specs.MessageRules as message
use Rattle.message_rules.specs.MessageRules.{is_message, ends_before, begins_behind, is_off_scheduling, received}
use Rattle.message_rules.proofs.Buffering.{IsLeft, received_left, received_into}
use Rattle.message_rules.proofs.NamedChannels.{IsChannel, is_channel, over_channel_fits}

-- ---- where a buffer lies

-- where a pointer leads, by one of its offsets
record LeadsTo (x : Situation) (p : Pointed) (v : ℤ) : Type 0 where
  offset : ℤ
  low : p.lo ≤ℤ offset
  high : offset ≤ℤ p.hi
  place : (q : ℕ) → pos q ≡ region_place x.m x.act.layout p.region +ℤ offset → q < 4294967296
      → place_of (step.address v) ≡ q

leads_to : (x : Situation) (p : Pointed) (v : ℤ) → Means x.m x.act.layout (Pointer p.region p.lo p.hi p.step) (Some v)
    → LeadsTo x p v
leads_to x p v (is_pointer offset low high stepped at) = record {
  offset = offset;
  low = low;
  high = high;
  place = λ q is small.
      ap (λ (z : ℤ). place_of (step.address z)) at
      ∙ place_at (region_start x.m x.act.layout p.region +ℤ offset) q
      (region_at x.m x.act.layout p.region offset q is) small;
}

module _ (x : Situation) (s : State) (l : Local) (a : Within ArePlain x.m x.h x.mode x.act s l) (p : Pointed) (n : ℕ)
    (offset : ℤ) (low : p.lo ≤ℤ offset) (high : offset ≤ℤ p.hi) where
  -- by the test of the rule, where it lies in the frame
  off_in_frame : (ends_before s.depth (p.hi +ℤ pos n) || begins_behind s.depth p.lo) ≡ true → (place i : ℕ) → i < n
      → pos place ≡ x.act.layout.origin +ℤ offset → IsOff x.act.layout.origin s.depth (place + i)
  off_in_frame t place i less is = elim (or_cases (ends_before s.depth (p.hi +ℤ pos n)) _ t) [
    | inl before ↦
        let word = int_lt-true (word_of_byte (p.hi +ℤ pos n -ℤ pos 1)) (s.depth -ℤ pos 3) before in
        let byte = word_of_byte_high (p.hi +ℤ pos n -ℤ pos 1) in
        inl (omega (arith, ints, word, byte))
    | inr behind ↦
        let word = int_le-true s.depth (word_of_byte p.lo) behind in
        let byte = word_of_byte_low p.lo in
        inr (omega (arith, ints, word, byte))
  ]

  -- a buffer lies beside the words that scheduling takes
  buffer_off : MaySchedule x.m s.context s.depth → is_off_scheduling s p (p.hi +ℤ pos n) ≡ true → (place : ℕ)
      → pos place ≡ region_place x.m x.act.layout p.region +ℤ offset
      → ((i : ℕ) → i < n → IsReadAt x.m s.context x.act.layout p.region (place + i)) → (i : ℕ) → i < n
      → IsOff x.act.layout.origin s.depth (place + i)
  buffer_off may t place is read i less = on p.region t is (read i less)
    where
      on : (region : Region)
          → (not (is_frame region) || (ends_before s.depth (p.hi +ℤ pos n) || begins_behind s.depth p.lo)) ≡ true
          → pos place ≡ region_place x.m x.act.layout region +ℤ offset
          → IsReadAt x.m s.context x.act.layout region (place + i) → IsOff x.act.layout.origin s.depth (place + i)
      on regions.Frame t is read = off_in_frame t place i less is
      on regions.Constants t is read = off_scheduling a may regions.Constants (place + i) (λ e. cc) read
      on (regions.Parameter j) t is read = off_scheduling a may (regions.Parameter j) (place + i) (λ e. cc) read

  -- the bytes from the first to which the pointer may lead on
  byte_among : (place i : ℕ) → i < n → pos place ≡ region_place x.m x.act.layout p.region +ℤ offset
      → (k : ℕ) × (j : ℕ) × (j < k) × (p.hi +ℤ pos n ≡ p.lo +ℤ pos k)
      × (pos (place + i) ≡ region_place x.m x.act.layout p.region +ℤ p.lo +ℤ pos j)
  byte_among place i less is =
      let k = pos_from (p.hi +ℤ pos n -ℤ p.lo) (omega (arith, ints)) in
      let j = pos_from (offset -ℤ p.lo +ℤ pos i) (omega (arith, ints)) in
      let k_is = k.1 in
      let j_is = j.1 in
      (k.0, j.0, omega (arith, ints), omega (arith, ints), omega (arith, ints))

  read_there : may_read_bytes x.m s.context p.region p.lo (p.hi +ℤ pos n) ≡ true → (place i : ℕ) → i < n
      → pos place ≡ region_place x.m x.act.layout p.region +ℤ offset
      → IsReadAt x.m s.context x.act.layout p.region (place + i)
  read_there may place i less is =
      let b = byte_among place i less is in
      read_at x.m s.context x.act.layout p.region p.lo b.0 b.1 (place + i) b.2 b.4
      (ap (may_read_bytes x.m s.context p.region p.lo) (sym b.3) ∙ may)

  written_there : may_write_bytes x.m s.context p.region p.lo (p.hi +ℤ pos n) ≡ true → (place i : ℕ) → i < n
      → pos place ≡ region_place x.m x.act.layout p.region +ℤ offset
      → IsReadAt x.m s.context x.act.layout p.region (place + i)
  written_there may place i less is =
      let b = byte_among place i less is in
      written_read x.m x.h (scope_of x.m s.context x.act.layout) l.memory (place + i) s.context x.act.layout p.region
      (written_at x.m s.context x.act.layout p.region p.lo b.0 b.1 (place + i) b.2 b.4
      (ap (may_write_bytes x.m s.context p.region p.lo) (sym b.3) ∙ may))

-- ---- what is asked

module _ (x : Situation) (wf : IsWellFormed x.m) (s : State) (l : Local) (a : Within ArePlain x.m x.h x.mode x.act s l)
    (same : s.context ≡ x.context) (changes : Changes x l.memory) (n : owed s x.act ≤ x.owed) where
  -- the bytes of the instruction are paid
  abbrev paid_state : State → State
  paid_state t = record t { number = t.number - x.len }

  asks_fits : (t : State) (new : Local) (o : Outcome) → t.mode ≡ Plain → t.context ≡ x.context → Changes x new.memory
      → owed t x.act ≤ x.owed
      → (Exchanges x (falls (paid_state t)) (paid_state t) new → Asks x (falls (paid_state t)) o)
      → FitsIf x (rule.goes_on (rule_site x) t) o
  unfolding rule.goes_on rule.pays
  asks_fits t new o plain here changed less asks =
      on_rule_test x (ltb t.number x.len) _ _ _
      (λ u next. it_breaks)
      (λ u next.
      let pay = enough t.number x.len (dues t.frame x.act.turns) x.owed u less in
      it_asks (asks (record {
        is = refl;
        plain = plain;
        in_plain_mode = a.same_mode.step;
        low = next _ refl;
        same = here;
        changes = changed;
        pay = pay;
      })) (omega (arith, pay)))

  -- a channel of the activation's
  goes_over : (direction : Direction) (k : ℕ) (v : ℤ) (e : Exchange) → 0 < k → e.length ≡ k
      → e.channel ≡ step.address v → IsChannel x s direction k v → GoesOver x direction e
  goes_over direction k v e some long at c = record {
    kind = c.kind;
    end = subst (λ (context : ℕ). (scope_of x.m context x.act.layout).ends c.kind direction ≡ true) same c.end;
    address = c.at.address ∙ sym at;
    len = subst (λ (context : ℕ). (scope_of x.m context x.act.layout).lengths c.kind ≡ Some e.length) same
        (c.known ∙ ap Some (sym long));
    some = omega (arith, some, long);
  }

  -- the state after an exchange
  abbrev left_after : State → State
  left_after t = rule.without_registers (unscheduled t)

  left_plain : (t : State) → t.mode ≡ Plain → (left_after t).mode ≡ Plain
  left_plain t plain = unscheduled_mode x t ∙ plain

  abbrev local_after : Local
  local_after = step.without_registers (record l { memory = scheduled l })

  -- ---- out

  module _ (k : ℕ) (some : 0 < k) (p : Pointed) (channel : Fact) (u w : ℤ)
      (means_channel : Means x.m x.act.layout channel (Some u))
      (means_buffer : Means x.m x.act.layout (Pointer p.region p.lo p.hi p.step) (Some w)) where
    abbrev end : ℤ
    end = p.hi +ℤ pos k

    abbrev exchange : Exchange
    exchange = record { channel = step.address u; address = step.address w; length = k }

    abbrev at : ℕ
    at = place_of (step.address w)

    -- what is known of the bytes that go
    record Sendable : Type 0 where
      held : (i : ℕ) → i < k → may_read x.h (at + i) ≡ true
      bytes : (i : ℕ) → i < k → IsByte (byte_at l.memory (at + i))
      off : (i : ℕ) → i < k → IsOff x.act.layout.origin s.depth (at + i)

    sendable : are_numbers s p (pos k) ≡ true → may_read_bytes x.m s.context p.region p.lo end ≡ true
        → is_off_scheduling s p end ≡ true → MaySchedule x.m s.context s.depth → Sendable
    sendable numbers may off m =
        let b = leads_to x p w means_buffer in
        let low = b.low in
        let high = b.high in
        let source = source_read wf a p.region b.offset k some p.lo end low (omega (arith, ints)) may in
        let there : source.place ≡ at = sym (b.place source.place source.is source.small) in
        let defined = defined_of (byte_read s p.region p.lo (end -ℤ pos 1)) l.memory source.place k numbers
        source.means in
        record {
          held = λ i less. ap (λ (q : ℕ). may_read x.h (q + i)) (sym there) ∙ source.held i less;
          bytes = λ i less.
              let byte = defined i less in
              subst (λ (q : ℕ). IsByte (byte_at l.memory (q + i))) there
              (byte.0, byte.1, a.named.bytes.each (source.place + i) byte.0 (source.held i less) byte.1);
          off = λ i less. subst (λ (q : ℕ). IsOff x.act.layout.origin s.depth (q + i)) there
              (buffer_off x s l a p k b.offset low high m off source.place source.is
              (λ j under. read_there x s l a p k b.offset low high may source.place j under source.is) i less);
        }

    -- all of it lies in memory
    small_of : Sendable → at + k ≤ length l.memory
    small_of b =
        let last = b.bytes (k - 1) (omega arith) in
        let inside = inside_memory l.memory (at + (k - 1)) last.0 last.1 in
        omega arith

    sent_fits : Sendable → IsChannel x s Out k u → Scheduled x ArePlain s l
        → FitsIf x (rule.goes_on (rule_site x) (left_after s)) (step.sends_from (step_site x) exchange local_after)
    sent_fits b c d =
        holds_fits x _ NotOwn _ _
        (and_from _ _ (all_held (may_read x.h) at k b.held) (beside_scheduling d at k some b.off))
        (holds_fits x _ Undefined _ _
        (all_held (λ place. is_some (byte_at (scheduled l) place)) at k (λ i less. ap is_some (there i less).1))
        (asks_fits (left_after s) local_after _ (left_plain s a.same_mode.rule) (unscheduled_context x s ∙ same)
        (scheduled_changes x d same changes) (let less = unscheduled_owed x s in omega (arith, less, n))
        (λ ex. to_send ex (record {
          over = goes_over Out k u exchange some refl refl c;
          bytes = λ j less.
              let is = message_place_is exchange small j less in (
                ap (may_read x.h) is ∙ b.held j less,
                subst (λ (q : ℕ). IsByte (byte_at (scheduled l) q)) (sym is) (byte_of j less),
              );
          after = whole_after (after_stack x d.after
              (record { a = unknown_means; b = unknown_means; c = unknown_means }));
        }))))
      where
        small : at + k < 4294967296
        small = let inside = small_of b in let few = a.frame.small in omega arith

        byte_of : (i : ℕ) → i < k → IsByte (byte_at (scheduled l) (at + i))
        byte_of i less =
            subst (λ (o : Option ℕ). IsByte o) (sym (off_stays d l.memory (at + i) (b.off i less))) (b.bytes i less)

        there : (i : ℕ) → i < k → (c : ℕ) × (byte_at (scheduled l) (at + i) ≡ Some c)
        there i less = let byte = byte_of i less in (byte.0, byte.1)

    -- what the machine does with it
    abbrev sending : Outcome
    sending = step.channel (step_site x) u Out (λ at. step.schedules (step_site x) l (λ l.
        step.sends_from (step_site x) (record { channel = at; address = step.address w; length = k })
        (step.without_registers l)))

    sends_fit : FitsIf x (message.sends (rule_site x) s channel (pos k) p) sending
    unfolding message.sends message.gives
    sends_fit =
        wants_fits x (are_numbers s p (pos k)) _ _ _ (λ numbers.
        reads_bytes_fits x s p.region p.lo end _ _ (λ may.
        wants_fits x (is_off_scheduling s p end) _ _ _ (λ off.
        over_channel_fits x s channel Out (pos k) _ _ (λ kind named held long.
        let c = is_channel x s l a Out k channel u means_channel kind named held long in
        held_channel_fits x Out u _ _ c.at
        (in_plain_rule x s a.same_mode _ _ (beside_plain_rule x s a.same_mode _ _
        (rule_schedules_fits x s _ _ (λ m.
        let d = scheduling x s l a m in
        step_schedules_fits x l _ _ d.may (sent_fits (sendable numbers may off m) c d)))))))))

  -- a count that a message may have
  message_count : (count : ℤ) → is_message count ≡ true → (k : ℕ) × (count ≡ pos k) × (0 < k) × (k ≤ 4096)
  message_count count t =
      let both = and_parts (int_le (pos 1) count) (int_le count (pos 4096)) t in
      let low = int_le-true (pos 1) count both.0 in
      let high = int_le-true count (pos 4096) both.1 in
      let k = pos_from count (omega (arith, ints)) in
      let is = k.1 in
      (k.0, k.1, omega (arith, ints), omega (arith, ints))

  -- a message of `count` bytes
  some_sent : (v u w count : ℤ) → Means x.m x.act.layout s.stack.a.fact (Some v)
      → Means x.m x.act.layout s.stack.b.fact (Some u) → Means x.m x.act.layout s.stack.c.fact (Some w)
      → constant_of s.stack.a.fact ≡ Ok count
      → FitsIf x (message.sends_some (rule_site x) s s.stack.b.fact count s.stack.c.fact)
      (step.counts 1 4096 v (λ k. step.channel (step_site x) u Out (λ at. step.schedules (step_site x) l (λ l.
      step.sends_from (step_site x) (record { channel = at; address = step.address w; length = k })
      (step.without_registers l)))))
  unfolding message.sends_some
  some_sent v u w count first second third constant =
      on_rule_test x (is_message count) _ _ _
      (λ t. settles_fits x (pointer_of s.stack.c.fact) _ _ (λ p pointed.
      let is = (constant_is x.m x.act.layout s.stack.a.fact count v constant first).0 in
      let k = message_count count t in
      let k_is = k.1 in
      let some = k.2 in
      let few = k.3 in
      let size : nat_abs v ≡ k.0 = ap nat_abs (is ∙ k.1) in
      counts_fits x 1 4096 v _ _ (omega (arith, ints)) (omega (arith, ints))
      (subst (λ (c : ℕ). FitsIf x (message.sends (rule_site x) s s.stack.b.fact count p)
      (step.channel (step_site x) u Out (λ at. step.schedules (step_site x) l (λ l.
      step.sends_from (step_site x) (record { channel = at; address = step.address w; length = c })
      (step.without_registers l))))) (sym size)
      (subst (λ (z : ℤ). FitsIf x (message.sends (rule_site x) s s.stack.b.fact z p)
      (step.channel (step_site x) u Out (λ at. step.schedules (step_site x) l (λ l.
      step.sends_from (step_site x) (record { channel = at; address = step.address w; length = k.0 })
      (step.without_registers l))))) (sym k.1)
      (sends_fit k.0 k.2 p s.stack.b.fact u w second
      (subst (λ (f : Fact). Means x.m x.act.layout f (Some w))
      (pointer_is x.m x.act.layout s.stack.c.fact p pointed).0 third))))))
      (λ t. over_channel_fits x s s.stack.b.fact Out count _ _ (λ kind named held long next. it_breaks))

  pub output_fits : FitsIf x (message.out_rule (rule_site x) s) (step.operation_step (step_site x) Output l)
  unfolding message.out_rule step.operation_step step.exchanges
  output_fits =
      in_plain_step x s a.same_mode _ _ (uses_fits x s.stack.a l.registers.stack.a _ _ a.knows.registers.a (λ v first.
      uses_fits x s.stack.b l.registers.stack.b _ _ a.knows.registers.b (λ u second.
      uses_fits x s.stack.c l.registers.stack.c _ _ a.knows.registers.c (λ w third.
      settles_fits x (constant_of s.stack.a.fact) _ _ (λ count constant.
      some_sent v u w count first.fact second.fact third.fact constant)))))

  -- ---- in

  module _ (k : ℕ) (some : 0 < k) (p : Pointed) (channel : Fact) (u w : ℤ)
      (means_channel : Means x.m x.act.layout channel (Some u))
      (means_buffer : Means x.m x.act.layout (Pointer p.region p.lo p.hi p.step) (Some w))
      (wide : is_full (wanted_range x.m s.context p.region) ≡ true)
      (may : may_write_bytes x.m s.context p.region p.lo (p.hi +ℤ pos k) ≡ true)
      (off_test : is_off_scheduling s p (p.hi +ℤ pos k) ≡ true) where
    abbrev behind : ℤ
    behind = p.hi +ℤ pos k

    -- the state once all the bytes are there
    abbrev filled_state : State
    filled_state = received p behind s

    abbrev taken : Exchange
    taken = record { channel = step.address u; address = step.address w; length = k }

    leads : LeadsTo x p w
    leads = leads_to x p w means_buffer

    room : Room x.h (length l.memory) (region_place x.m x.act.layout p.region) leads.offset k
    room =
        let low = leads.low in
        let high = leads.high in
        written_room a k some leads.offset p.lo behind low (omega (arith, ints)) p.region may

    there : place_of taken.address ≡ room.place
    there = leads.place room.place room.is room.small

    small : place_of taken.address + taken.length < 4294967296
    small = let fits = room.fits in let few = a.frame.small in let at = there in omega arith

    -- the places of the message are those of the buffer
    in_room : (q : ℕ) → is_of_message taken q ≡ true → (room.place ≤ q) × (q < room.place + k)
    in_room q t =
        let both = of_message_tells taken small q t in
        let at = there in
        (omega (arith, both.0), omega (arith, both.1))

    left : IsLeft x.act s filled_state
    left = received_left x.act p behind s

    off : MaySchedule x.m s.context s.depth → (i : ℕ) → i < k → IsOff x.act.layout.origin s.depth (room.place + i)
    off m i less =
        buffer_off x s l a p k leads.offset leads.low leads.high m off_test room.place room.is
        (λ j under. written_there x s l a p k leads.offset leads.low leads.high may room.place j under room.is) i less

    same_words : MaySchedule x.m filled_state.context filled_state.depth → MaySchedule x.m s.context s.depth
    same_words m =
        subst (λ (depth : ℤ). MaySchedule x.m s.context depth) left.depth
        (subst (λ (context : ℕ). MaySchedule x.m context filled_state.depth) left.context m)

    -- what the process may write
    room_of_message : Scheduled x ArePlain s l → (q : ℕ) → is_of_message taken q ≡ true
        → (may_write x.h q ≡ true) × (q < length (scheduled l))
    room_of_message d q t =
        let both = in_room q t in
        let fits = room.fits in
        let size = d.own.size in (
          ap (may_write x.h) (let e : q ≡ room.place + (q - room.place) = omega (arith, both.0) in e)
              ∙ room.own (q - room.place) (omega (arith, both.0, both.1)),
          omega (arith, both.1),
        )

    -- some bytes come
    keeps_scope : (old new : Memory) → Fills x.h (is_of_message taken) old new
        → KeepsMemory x.m x.h (scope_in x.m (paid_state (left_after filled_state)) x.act.layout) old new
    keeps_scope old new fills =
        let t = paid_state (left_after filled_state) in
        let plain : t.mode ≡ Plain = left_plain filled_state (left.mode ∙ a.same_mode.rule) in
        let context : t.context ≡ s.context = unscheduled_context x filled_state ∙ left.context in
        subst (λ (scope : Scope). KeepsMemory x.m x.h scope old new)
        (ap (λ (c : ℕ). scope_of x.m c x.act.layout) (sym context)
        ∙ ap (λ (mode : Mode). scope_among x.m t.context mode x.act.layout) (sym plain))
        (fills_keep a k leads.offset p.lo behind leads.low
        (let high = leads.high in omega (arith, ints)) (is_of_message taken) p.region may wide room in_room old new
        fills)

    -- all bytes have come
    module _ (m : MaySchedule x.m filled_state.context filled_state.depth) (d : Scheduled x ArePlain s l)
        (later : Memory) (size : length later ≡ length (scheduled l))
        (others : (q : ℕ) → may_read x.h q ≡ true → is_of_message taken q ≡ false
        → byte_at later q ≡ byte_at (scheduled l) q)
        (come : (q : ℕ) → is_of_message taken q ≡ true → IsByte (byte_at later q)) where
      byte_come : (i : ℕ) → i < k → IsByte (byte_at later (room.place + i))
      byte_come i less =
          come (room.place + i)
          (let at = there in of_message taken small (room.place + i) (omega arith) (omega arith))

      abbrev filled_memory : Memory
      filled_memory = copied later room.place room.place k l.memory

      abbrev filled_local : Local
      filled_local = record l { memory = filled_memory }

      with_bytes : Moved a later room.place room.place k filled_state
      with_bytes = received_into a later k some p leads.offset leads.low leads.high may wide room byte_come

      without_words : Scheduled x ArePlain filled_state filled_local
      without_words = scheduling x filled_state filled_local with_bytes.after m

      -- memory with the bytes, and without the words that scheduling takes, is that later one, where it may be read
      beside_it : Agree (λ q. not (is_of_message taken q)) l.memory filled_memory
      beside_it = record {
        size = length-copied later room.place room.place k l.memory;
        same = λ q t.
            copied-beside later room.place room.place k l.memory q
            (subst (λ (r : ℕ). (q < r) ⊎ (r + k ≤ q)) there (beside_message taken small q (not_true q t)));
      }
        where
          not_true : (q : ℕ) → not (is_of_message taken q) ≡ true → is_of_message taken q ≡ false
          not_true q t = elim (cases_Bool (is_of_message taken q)) [
            | inr e ↦ e
            | inl e ↦ let no : false ≡ true = sym (ap not e) ∙ t in absurd (cc)
          ]

      of_the_message : (q : ℕ) → is_of_message taken q ≡ true → byte_at later q ≡ byte_at (scheduled filled_local) q
      of_the_message q t =
          let both = in_room q t in
          let is : q ≡ room.place + (q - room.place) = omega (arith, both.0) in
          let less : q - room.place < k = omega (arith, both.0, both.1) in
          ap (byte_at later) is
          ∙ (sym (copied-inside later room.place room.place k l.memory (q - room.place) less room.fits)
          ∙ (sym (off_stays d filled_memory (room.place + (q - room.place)) (off (same_words m) (q - room.place) less))
          ∙ ap (byte_at (scheduled filled_local)) (sym is)))

      agrees : (q : ℕ) → may_read x.h q ≡ true → byte_at later q ≡ byte_at (scheduled filled_local) q
      agrees q held = elim (cases_Bool (is_of_message taken q)) [
        | inl t ↦ of_the_message q t
        | inr t ↦
            let agree = unscheduled_agree d (λ q. not (is_of_message taken q)) l.memory filled_memory beside_it in
            others q held t ∙ sym (agree.same q (ap not t))
      ]

      long : length later ≡ length (scheduled filled_local)
      long =
          size ∙ (d.own.size ∙ (sym (length-copied later room.place room.place k l.memory)
          ∙ sym without_words.own.size))

      after_message : After x.m x.h x.mode x.act (paid_state (left_after filled_state))
          (record local_after { memory = later })
      after_message = after_agrees later long agrees
          (whole_after (after_stack x without_words.after
          (record { a = unknown_means; b = unknown_means; c = unknown_means })))

    received_fits : MaySchedule x.m filled_state.context filled_state.depth → IsChannel x s In k u
        → Scheduled x ArePlain s l
        → FitsIf x (rule.goes_on (rule_site x) (left_after filled_state))
        (step.receives_into (step_site x) taken local_after)
    received_fits m c d =
        holds_fits x _ NotOwn _ _
        (and_from _ _ (all_held (may_write x.h) (place_of taken.address) k (λ i less.
        ap (λ (q : ℕ). may_write x.h (q + i)) there ∙ room.own i less))
        (beside_scheduling d (place_of taken.address) k some (λ i less.
        subst (λ (q : ℕ). IsOff x.act.layout.origin s.depth (q + i)) (sym there) (off (same_words m) i less))))
        (asks_fits (left_after filled_state) local_after _ (left_plain filled_state (left.mode ∙ a.same_mode.rule))
        (unscheduled_context x filled_state ∙ left.context ∙ same) (scheduled_changes x d same changes)
        (let less = unscheduled_owed x filled_state in let fewer = left.owes in omega (arith, less, fewer, n))
        (λ ex. to_receive ex (record {
          over = goes_over In k u taken some refl refl c;
          room = room_of_message d;
          fills = keeps_scope;
          after = λ later size others come. after_message m d later size others come;
        })))

  -- a message that comes
  receives_fit : (k : ℕ) → 0 < k → (p : Pointed) (channel : Fact) (u w : ℤ)
      → Means x.m x.act.layout channel (Some u)
      → Means x.m x.act.layout (Pointer p.region p.lo p.hi p.step) (Some w)
      → is_full (wanted_range x.m s.context p.region) ≡ true
      → FitsIf x (message.receives (rule_site x) s channel (pos k) p)
      (step.channel (step_site x) u In (λ at. step.schedules (step_site x) l (λ l.
      step.receives_into (step_site x) (record { channel = at; address = step.address w; length = k })
      (step.without_registers l))))
  unfolding message.receives message.takes
  receives_fit k some p channel u w means_channel means_buffer wide =
      writes_bytes_fits x s p.region p.lo (p.hi +ℤ pos k) _ _ (λ may.
      wants_fits x (is_off_scheduling s p (p.hi +ℤ pos k)) _ _ _ (λ off.
      over_channel_fits x s channel In (pos k) _ _ (λ kind named held long.
      let c = is_channel x s l a In k channel u means_channel kind named held long in
      let t = received p (p.hi +ℤ pos k) s in
      let left = received_left x.act p (p.hi +ℤ pos k) s in
      let plain : ArePlain t.mode x.mode = record { rule = left.mode ∙ a.same_mode.rule; step = a.same_mode.step } in
      held_channel_fits x In u _ _ c.at
      (in_plain_rule x t plain _ _ (beside_plain_rule x t plain _ _
      (rule_schedules_fits x t _ _ (λ m.
      let d = scheduling x s l a (same_words k some p channel u w means_channel means_buffer wide may off m) in
      step_schedules_fits x l _ _ d.may
      (received_fits k some p channel u w means_channel means_buffer wide may off m c d))))))))

  -- where C points, any number may be kept
  takes_wide : (fact : Fact) (p : Pointed) → fact ≡ Pointer p.region p.lo p.hi p.step
      → takes_any x.m s.context fact ≡ true → is_full (wanted_range x.m s.context p.region) ≡ true
  unfolding takes_any
  takes_wide fact p is t = subst (λ (f : Fact). takes_any x.m s.context f ≡ true) is t

  -- a message of `count` bytes
  some_received : (v u w count : ℤ) → Means x.m x.act.layout s.stack.a.fact (Some v)
      → Means x.m x.act.layout s.stack.b.fact (Some u) → Means x.m x.act.layout s.stack.c.fact (Some w)
      → constant_of s.stack.a.fact ≡ Ok count
      → FitsIf x (message.receives_some (rule_site x) s s.stack.b.fact count s.stack.c.fact)
      (step.counts 1 4096 v (λ k. step.channel (step_site x) u In (λ at. step.schedules (step_site x) l (λ l.
      step.receives_into (step_site x) (record { channel = at; address = step.address w; length = k })
      (step.without_registers l)))))
  unfolding message.receives_some
  some_received v u w count first second third constant =
      on_rule_test x (is_message count) _ _ _
      (λ t. in_bounds_fits x (takes_any x.m s.context s.stack.c.fact) _ _ (λ takes.
      settles_fits x (pointer_of s.stack.c.fact) _ _ (λ p pointed.
      let pointer = (pointer_is x.m x.act.layout s.stack.c.fact p pointed).0 in
      let is = (constant_is x.m x.act.layout s.stack.a.fact count v constant first).0 in
      let k = message_count count t in
      let k_is = k.1 in
      let some = k.2 in
      let few = k.3 in
      let size : nat_abs v ≡ k.0 = ap nat_abs (is ∙ k.1) in
      counts_fits x 1 4096 v _ _ (omega (arith, ints)) (omega (arith, ints))
      (subst (λ (c : ℕ). FitsIf x (message.receives (rule_site x) s s.stack.b.fact count p)
      (step.channel (step_site x) u In (λ at. step.schedules (step_site x) l (λ l.
      step.receives_into (step_site x) (record { channel = at; address = step.address w; length = c })
      (step.without_registers l))))) (sym size)
      (subst (λ (z : ℤ). FitsIf x (message.receives (rule_site x) s s.stack.b.fact z p)
      (step.channel (step_site x) u In (λ at. step.schedules (step_site x) l (λ l.
      step.receives_into (step_site x) (record { channel = at; address = step.address w; length = k.0 })
      (step.without_registers l))))) (sym k.1)
      (receives_fit k.0 k.2 p s.stack.b.fact u w second
      (subst (λ (f : Fact). Means x.m x.act.layout f (Some w)) pointer third)
      (takes_wide s.stack.c.fact p pointer takes)))))))
      (λ t. over_channel_fits x s s.stack.b.fact In count _ _ (λ kind named held long next. it_breaks))

  pub input_fits : FitsIf x (message.in_rule (rule_site x) s) (step.operation_step (step_site x) Input l)
  unfolding message.in_rule step.operation_step step.exchanges
  input_fits =
      in_plain_step x s a.same_mode _ _ (uses_fits x s.stack.a l.registers.stack.a _ _ a.knows.registers.a (λ v first.
      uses_fits x s.stack.b l.registers.stack.b _ _ a.knows.registers.b (λ u second.
      uses_fits x s.stack.c l.registers.stack.c _ _ a.knows.registers.c (λ w third.
      settles_fits x (constant_of s.stack.a.fact) _ _ (λ count constant.
      some_received v u w count first.fact second.fact third.fact constant)))))
