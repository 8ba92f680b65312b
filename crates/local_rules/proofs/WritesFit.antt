-- The instructions that write memory through pointers: what their rules say fits their steps.
use Rattle.std.proofs.Common.{◌≡◌, ℕ, ◌+◌, ◌*◌, ◌/◌, ◌%◌, ◌≤◌, ◌<◌, ℤ, pos, ◌+ℤ◌, ◌-ℤ◌, ◌*ℤ◌, ◌≤ℤ◌, ◌<ℤ◌}
use Rattle.std.proofs.Common.{nat_abs, neg_ℤ, FitsSigned, Bool, true, false, cond, ◌&&◌, ◌||◌, length, Option, Some}
use Rattle.std.proofs.Common.{Ok, refl, sym, ap, ◌∙◌, subst, arith, ◌⊎◌, inl, inr, negsuc}
use Rattle.std.proofs.lemmas.Bool.{cases_lt, cases_eq, eqb-true, and_parts}
use Rattle.std.proofs.lemmas.Int.{ints}
use Rattle.std.specs.Prelude.{IsTrue, int_le, int_lt}
use Rattle.std.specs.Int.{w32}
use Rattle.small_laws.proofs.Comparisons.{int_le-true, int_lt-true, pos_from}
use Rattle.word_arithmetic.specs.Range.{Ends, full}
use Rattle.module_format.specs.Rows.{Fact}
use Rattle.module_format.specs.declared.fact.Fact.TheVariants.{Unknown, Number, Pointer, CodeAddress, Loop}
use Rattle.module_format.specs.declared.fact.Fact.TheVariants.{ReturnAddress}
use Rattle.module_format.specs.declared.fact.Region.{Region}
use Rattle.module_format.specs.declared.fact.Region.TheVariants as regions
use Rattle.module_format.specs.declared.rows.ParameterKind.{ParameterKind}
use Rattle.module_format.specs.Regions.{is_frame}
use Rattle.module_format.specs.Order.{is_stepped, least_word, greatest_word}
use Rattle.module_format.specs.Contents.{Contents}
use Rattle.certificate.specs.Rights.{may_write_word as context_writes}
use Rattle.machine_state.specs.declared.op.Op.TheVariants as operations
use Rattle.machine_state.specs.declared.instruction.Instruction.TheVariants as instructions
use Rattle.machine_state.specs.declared.process.Mode as machine
use Rattle.machine_state.specs.Memory.{Memory, byte_at, word_at, with_byte, with_word, place_of, local_address}
use Rattle.machine_state.specs.Memory.{byte_worth}
use Rattle.machine_state.specs.Holding.{Holding, may_write, may_write_word}
use Rattle.machine_state.specs.LocalStep as step
use Rattle.machine_state.specs.Site.{Outcome, Local}
use Rattle.machine_state.proofs.Reading.{length-with_word, length-with_byte, byte_at-with_byte_other}
use Rattle.machine_state.proofs.Reading.{byte_at-with_word_other, word_at-with_word_other, word_at-with_byte_other}
use Rattle.machine_state.proofs.Frame.{write_is_own, byte_is_own, changes_more}
use Rattle.states.specs.declared.span.Leaving.{Leaving}
use Rattle.states.specs.declared.span.Leaving.TheVariants.{Become}
use Rattle.states.specs.State.{State, is_same_number as is_same}
use Rattle.states.specs.Spans.{is_in_span, on_span, after_change}
use Rattle.states.specs.Below.{lies_within}
use Rattle.rulings.specs.declared.pointers.Pointed.{Pointed}
use Rattle.rulings.specs.Rulings as rule
use Rattle.rulings.specs.Rulings.{Ruling}
use Rattle.local_rules.specs.MemoryRules as memory
use Rattle.rulings.specs.Pointers.{pointer_of, wanted_range, is_number_in, is_full, widened_by, stored_byte}
use Rattle.rulings.specs.Pointers.{leaves_words}
use Rattle.local_rules.specs.MemoryRules.{words_behind, may_store_word, may_store_byte, stored_word}
use Rattle.rulings.specs.Reach.{word_of_byte, words_touched, all_touched, lie_in, may_write_bytes, writable_bytes}
use Rattle.rulings.specs.Reach.{parameter_range, kept_range}
use Rattle.local_rules.specs.LocalRules as table
use Rattle.rulings.specs.Meaning.{Layout, Activation, Means, is_pointer, place_in, word_at_place, frame_word, owed}
use Rattle.rulings.specs.Meaning.{region_start}
use Rattle.rulings.specs.Regions.{Scope, scope_of, IsByteOf, IsHeldRegion, IsNamed, KeepsMemory}
use Rattle.rulings.specs.Fitting.{Changes, Situation, rule_site, step_site}
use Rattle.rulings.proofs.Within.{Within, ArePlain}
use Rattle.rulings.proofs.Words.{frame_word_is, word_test, stored_means, word_elsewhere, same_word_by}
use Rattle.rulings.proofs.Dues.{changed_dues}
use Rattle.rulings.proofs.Regions.{write_keeps, frame_keeps, keeps_more, may_too, bytes_written, word_small}
use Rattle.rulings.proofs.Regions.{byte_small}
use Rattle.rulings.proofs.ReadThrough.{word_writable}
use Rattle.rulings.proofs.Reaching.{region_place, place_at, region_at, word_place, even_word, word_of_byte_low}
use Rattle.rulings.proofs.Reaching.{word_of_byte_high}
use Rattle.rulings.proofs.ReadThroughPointers.{even_place, inside_some}
use Rattle.rulings.proofs.Addresses.{stepped_quotient}
use Rattle.rulings.proofs.WriteThrough.{number_wider, widened_means, widened_by_means, LeavesWell, FrameWord}
use Rattle.rulings.proofs.WriteThrough.{frame_written, after_span, after_beside, Writable, writable_found, Lies}
use Rattle.rulings.proofs.WriteThrough.{AltersRegion, region_keeps, word_beside, number_within, number_stays}
use Rattle.rulings.proofs.WriteThrough.{byte_written, byte_left}
use Rattle.rulings.proofs.Combining.{FitsIf, unknown_means, written_readable, on_step_test, uses_fits, in_bounds_fits}
use Rattle.rulings.proofs.Combining.{writes_fits, goes_on_fits, in_plain_rule, beside_plain_rule, in_plain_step}
use Rattle.rulings.proofs.Combining.{after_stack, settles_fits, writes_bytes_fits}
use Rattle.local_rules.proofs.MemoryFits.{words_behind_is, aligned_fits}
use Rattle.rulings.proofs.PointerFacts.{pointer_is}

-- ---- the words that are touched

-- the four bytes from a multiple of four on lie in one word
one_word_touched : (z k : ℤ) → z ≡ pos 4 *ℤ k → (word_of_byte z ≡ k) × (words_touched z (z +ℤ pos 4) ≡ 1)
one_word_touched z k is =
    let low = word_of_byte_low z in
    let high = word_of_byte_high z in
    let first : word_of_byte z ≡ k = omega (arith, ints) in
    let from = word_of_byte_low (z +ℤ pos 4 -ℤ pos 1) in
    let to = word_of_byte_high (z +ℤ pos 4 -ℤ pos 1) in
    let none : word_of_byte (z +ℤ pos 4 -ℤ pos 1) -ℤ word_of_byte z ≡ pos 0 = omega (arith, ints) in
    (first, ap (λ (d : ℤ). nat_abs d + 1) none)

-- a byte that is written in one word of the frame leaves the others
byte_elsewhere : (memory : Memory) (origin j k : ℤ) (place : ℕ) (c : Option ℕ) → IsByteOf origin k place → (j ≡ k → ⊥)
    → frame_word (with_byte memory place c) origin j ≡ frame_word memory origin j
byte_elsewhere memory origin j k place c b differ = at_place (place_in origin j) refl
  where
    beside : (other : ℕ) → pos other ≡ place_in origin j → (place < other) ⊎ (other + 4 ≤ place)
    beside other is =
        let low = b.low in
        let high = b.high in
        elim (word_test j k) [
          | inl p ↦ absurd (differ p.1)
          | inr p ↦ apart other is (below_or_above j k differ)
        ]
      where
        below_or_above : (j k : ℤ) → (j ≡ k → ⊥) → (j <ℤ k) ⊎ (k <ℤ j)
        below_or_above j k differ = grind (arith, ints)

        apart : (other : ℕ) → pos other ≡ place_in origin j → (j <ℤ k) ⊎ (k <ℤ j)
            → (place < other) ⊎ (other + 4 ≤ place)
        apart other is (inl less) = let low = b.low in inr (omega (arith, ints))
        apart other is (inr more) = let high = b.high in inl (omega (arith, ints))

    at_place : (other : ℤ) → other ≡ place_in origin j
        → word_at_place (with_byte memory place c) other ≡ word_at_place memory other
    at_place (pos other) is = word_at-with_byte_other memory place other c (beside other is)
    at_place (negsuc n) is = refl

-- ---- what is stored

module _ (m : Contents) (layout : Layout) where
  -- a fact that is a number in a range
  pub stored_number : (range : Ends) (fact : Fact) (v : Option ℤ) → is_number_in range fact ≡ true
      → Means m layout fact v
      → Means m layout (Number range.lo range.hi) v
  stored_number range (Number lo hi) v t means =
      let both = and_parts (int_le range.lo lo) (int_le hi range.hi) t in
      number_wider m layout range.lo range.hi v (int_le-true range.lo lo both.0) (int_le-true hi range.hi both.1) means
  stored_number range Unknown v t means = absurd (cc)
  stored_number range (Pointer region lo hi step) v t means = absurd (cc)
  stored_number range (CodeAddress offset) v t means = absurd (cc)
  stored_number range (Loop base count weight) v t means = absurd (cc)
  stored_number range ReturnAddress v t means = absurd (cc)

-- ---- a write through a pointer

-- the process may write the word at a place
pub record IsOwnAt (h : Holding) (place : ℕ) : Type 0 where
  pub mine : may_write_word h place ≡ true
  pub even : place % 4 ≡ 0

-- Memory with bytes written at a place, which is at `offset` after the start of a region, and what is known then.
pub record Written {m : Contents} {h : Holding} {mode : machine.Mode} {act : Activation} {s : State} {l : Local}
    (a : Within ArePlain m h mode act s l) (start offset : ℤ) (new : ℕ → Memory)
    (mine : ℕ → Type 0) (left : State) : Type 0 where
  pub place : ℕ
  pub is : pos place ≡ start +ℤ offset
  pub small : place < 4294967296
  pub own : mine place
  pub after : Within ArePlain m h mode act left (record l { memory = new place })
  pub keeps : KeepsMemory m h (scope_of m s.context act.layout) l.memory (new place)

module _ {m : Contents} {h : Holding} {mode : machine.Mode} {act : Activation} {s : State} {l : Local}
    (a : Within ArePlain m h mode act s l) (lo hi offset : ℤ) (low : lo ≤ℤ offset) (high : offset ≤ℤ hi) where
  abbrev scope : Scope
  scope = scope_of m s.context act.layout

  -- ---- the region that a parameter names

  named_region : (j size : ℕ) (r : Writable m s.context j size)
      → IsHeldRegion m (may_write h) scope l.memory (place_of (act.layout.starts j)) size r.lo r.hi
  named_region j size r = subst (λ (kind : ParameterKind). IsNamed m h scope l.memory kind (act.layout.starts j)) r.is
      (a.named.each j r.parameter r.found)

  range_is : (j size : ℕ) (r : Writable m s.context j size)
      → parameter_range m s.context j ≡ record { lo = r.lo; hi = r.hi }
  range_is j size r = r.range ∙ ap kept_range r.is

  -- some of its bytes are written
  into_region : (j size : ℕ) (r : Writable m s.context j size) (n width : ℕ) (new : ℕ → Memory) (mine : ℕ → Type 0)
      → offset ≡ pos n → place_of (act.layout.starts j) + n < length l.memory
      → mine (place_of (act.layout.starts j) + n)
      → AltersRegion m h scope (place_of (act.layout.starts j)) size r.lo r.hi
      (place_of (act.layout.starts j) + n) width
      l.memory (new (place_of (act.layout.starts j) + n))
      → Written a (pos (place_of (act.layout.starts j))) offset new mine s
  into_region j size r n width new mine is low own alters =
      let small = a.frame.small in
      let keeps = region_keeps m h scope l.memory
      (new place) a.named j r.parameter r.found size r.lo r.hi r.is place width
      alters in
      record {
        place = place;
        is = omega (arith, ints);
        small = omega arith;
        own = own;
        after = after_beside a (new place) (λ k counts.
            let w = a.frame.readable k counts in
            word_beside m h scope l.memory (new place) a.named j r.parameter r.found size r.lo r.hi r.is
            place width alters
            k w.place counts w.is) keeps;
        keeps = keeps;
      }
    where
      place : ℕ
      place = place_of (act.layout.starts j) + n

  -- ---- a word

  module _ (aligned : IsTrue (is_stepped offset)) (b : Fact) (v : ℤ) (means : Means m act.layout b (Some v)) where
    word_into_frame : all_touched (context_writes m s.context) lo (hi +ℤ pos 4) ≡ true
        → Written a act.layout.origin offset (λ place. with_word l.memory place (Some v)) (IsOwnAt h)
        (after_change (on_span (word_of_byte lo) (words_touched lo (hi +ℤ pos 4))
        (cond (is_same lo hi) (Become b) (widened_by b))) s)
    word_into_frame all =
        let w = frame_written a lo (hi +ℤ pos 4) offset low (omega (arith, ints)) all in
        let k = w.word in
        let q = stepped_quotient offset aligned in
        let q_is = q.1 in
        let k_low = w.low in
        let k_high = w.high in
        let k_is : offset ≡ pos 4 *ℤ w.word = omega (arith, ints) in
        let own = w.own in
        let is = own.is in
        let inside = own.inside in
        let small = a.frame.small in
        let o = stepped_quotient act.layout.origin a.named.even in
        let o_is = o.1 in
        let keeps = write_keeps m h scope k l.memory (Some v) w.may (written_readable m s.context k w.may) own in
        record {
          place = own.place;
          is = omega (arith, ints);
          small = omega arith;
          own = record { mine = own.mine; even = even_place own.place (o.0 +ℤ k) (omega (arith, ints)) };
          after = after_span a (word_of_byte lo) (words_touched lo (hi +ℤ pos 4)) _ k _ w.in_span (leaves w k_is) keeps;
          keeps = keeps;
        }
      where
        leaves : (w : FrameWord m h s.context (length l.memory) act.layout.origin lo (hi +ℤ pos 4) offset)
            → offset ≡ pos 4 *ℤ w.word
            → LeavesWell m act.layout (word_of_byte lo) (words_touched lo (hi +ℤ pos 4))
            (cond (is_same lo hi) (Become b) (widened_by b)) w.word l.memory (with_word l.memory w.own.place (Some v))
        leaves w k_is = on (is_same lo hi) refl
          where
            new : Memory
            new = with_word l.memory w.own.place (Some v)

            here : Means m act.layout b (frame_word new act.layout.origin w.word)
            here = subst (λ (u : Option ℤ). Means m act.layout b u)
                (sym (frame_word_is new act.layout.origin w.word w.own.place w.own.is))
                (stored_means m act.layout b v l.memory w.own.place w.own.inside means)

            elsewhere : (j : ℤ) → (j ≡ w.word → ⊥)
                → frame_word new act.layout.origin j ≡ frame_word l.memory act.layout.origin j
            elsewhere j differ = word_elsewhere l.memory act.layout.origin j w.word w.own.place (Some v) w.own.is differ

            alone : is_same lo hi ≡ true → (j : ℤ)
                → is_in_span (word_of_byte lo) (words_touched lo (hi +ℤ pos 4)) j ≡ true → j ≡ w.word
            alone t j inside =
                let same = same_word_by lo hi t in
                let one = one_word_touched lo w.word (omega (arith, ints)) in
                let count : words_touched lo (hi +ℤ pos 4) ≡ 1 =
                ap (λ (z : ℤ). words_touched lo (z +ℤ pos 4)) (sym same) ∙ one.1 in
                let first = one.0 in
                let both = and_parts (int_le (word_of_byte lo) j)
                (int_lt j (word_of_byte lo +ℤ pos (words_touched lo (hi +ℤ pos 4)))) inside in
                let from = int_le-true (word_of_byte lo) j both.0 in
                let to = int_lt-true j (word_of_byte lo +ℤ pos (words_touched lo (hi +ℤ pos 4))) both.1 in
                omega (arith, ints)

            on : (exact : Bool) → is_same lo hi ≡ exact
                → LeavesWell m act.layout (word_of_byte lo) (words_touched lo (hi +ℤ pos 4))
                (cond exact (Become b) (widened_by b)) w.word l.memory new
            on true t = record {
              here = λ said known. here;
              others = λ j said u differ inside known. absurd (differ (alone t j inside));
              elsewhere = elsewhere;
            }
            on false t = record {
              here = λ said known. widened_by_means m act.layout b said _ (inr here);
              others = λ j said u differ inside known. widened_by_means m act.layout b said u (inl known);
              elsewhere = elsewhere;
            }

    word_into_parameter : (j : ℕ) → lie_in (writable_bytes m s.context j) lo (hi +ℤ pos 4) ≡ true
        → is_number_in (parameter_range m s.context j) b ≡ true
        → Written a (pos (place_of (act.layout.starts j))) offset
        (λ place. with_word l.memory place (Some v)) (IsOwnAt h) s
    word_into_parameter j inside t =
        let f = inside_some (writable_bytes m s.context j) 4 lo hi offset low high inside in
        let is = f.3 in
        let q = stepped_quotient offset aligned in
        let q_is = q.1 in
        of_region f.0 (writable_found m s.context j f.0 f.1) f.2 is (even_place f.2 q.0 (omega (arith, ints))) f.4
      where
        of_region : (size : ℕ) (r : Writable m s.context j size) (n : ℕ) → offset ≡ pos n → n % 4 ≡ 0 → n + 4 ≤ size
            → Written a (pos (place_of (act.layout.starts j))) offset (λ place. with_word l.memory place (Some v))
            (IsOwnAt h) s
        of_region size r n is even fits =
            let region = named_region j size r in
            let low = number_within l.memory (start + n) (old n even fits) in
            into_region j size r n 4 (λ place. with_word l.memory place (Some v)) (IsOwnAt h) is (omega arith)
            (record {
              mine = word_writable h (start + n) (λ i less.
                  ap (may_write h) (let e : start + n + i ≡ start + (n + i) = omega arith in e)
                  ∙ region.held (n + i) (omega arith));
              even = let aligned = eqb-true (start % 4) 0 region.aligned in omega (arith, even, aligned);
            })
            alters
          where
            start : ℕ
            start = place_of (act.layout.starts j)

            new : Memory
            new = with_word l.memory (start + n) (Some v)

            old : (n : ℕ) → n % 4 ≡ 0 → n + 4 ≤ size
                → Means m act.layout (Number r.lo r.hi) (word_at l.memory (start + n))
            old n even fits = subst (λ (p : ℕ). Means m act.layout (Number r.lo r.hi) (word_at l.memory p))
                (let e : start + 4 * (n / 4) ≡ start + n = omega arith in e)
                ((named_region j size r).numbers (n / 4) (omega arith))

            stored : Means m act.layout (Number r.lo r.hi) (Some v)
            stored = subst (λ (e : Ends). Means m act.layout (Number e.lo e.hi) (Some v)) (range_is j size r)
                (stored_number m act.layout (parameter_range m s.context j) b (Some v) t means)

            number : (i : ℕ) → 4 * i + 4 ≤ size → Means m act.layout (Number r.lo r.hi) (word_at new (start + 4 * i))
            number i inside = elim (cases_eq (4 * i) n) [
              | inl same ↦ subst (λ (p : ℕ). Means m act.layout (Number r.lo r.hi) (word_at new p))
                  (ap (λ (x : ℕ). start + x) (sym same))
                  (stored_means m act.layout (Number r.lo r.hi) v l.memory (start + n)
                  (number_within l.memory (start + n) (old n even fits)) stored)
              | inr differ ↦ subst (λ (u : Option ℤ). Means m act.layout (Number r.lo r.hi) u)
                  (sym (word_at-with_word_other l.memory (start + n) (start + 4 * i) (Some v) (apart i n even differ)))
                  ((named_region j size r).numbers i inside)
            ]
              where
                apart : (i n : ℕ) → n % 4 ≡ 0 → (4 * i ≡ n → ⊥) → (start + 4 * i + 4 ≤ start + n)
                    ⊎ (start + n + 4 ≤ start + 4 * i)
                apart i n even differ = grind arith

            alters : AltersRegion m h scope start size r.lo r.hi (start + n) 4 l.memory new
            alters = record {
              long = length-with_word l.memory (start + n) (Some v);
              first = omega arith;
              last = omega arith;
              kept = λ q. beside q (start + n);
              small = λ q c found. word_small l.memory (start + n) (Some v) q c found;
              numbers = number;
            }
              where
                beside : (q at : ℕ) → (byte_at (with_word l.memory at (Some v)) q ≡ byte_at l.memory q) ⊎ Lies at 4 q
                beside q at = elim (low_or_high q at) [
                  | inl out ↦ inl (byte_at-with_word_other l.memory at q (Some v) out)
                  | inr lies ↦ inr lies
                ]
                  where
                    low_or_high : (q at : ℕ) → ((q < at) ⊎ (at + 4 ≤ q)) ⊎ Lies at 4 q
                    low_or_high q at = elim (cases_lt q at) [
                      | inl low ↦ inl (inl low)
                      | inr high ↦ elim (cases_lt q (at + 4)) [
                        | inl here ↦ inr (record { low = high; high = here })
                        | inr behind ↦ inl (inr behind)
                      ]
                    ]

  -- ---- a byte

  module _ (c : ℕ) (byte : c < 256) where
    byte_into_frame : all_touched (context_writes m s.context) lo (hi +ℤ pos 1) ≡ true
        → Written a act.layout.origin offset (λ place. with_byte l.memory place (Some c))
        (λ place. may_write h place ≡ true)
        (after_change (on_span (word_of_byte lo) (words_touched lo (hi +ℤ pos 1)) stored_byte) s)
    byte_into_frame all =
        let w = frame_written a lo (hi +ℤ pos 1) offset low (omega (arith, ints)) all in
        let k_low = w.low in
        let k_high = w.high in
        let n = pos_from (offset +ℤ neg_ℤ (pos 4 *ℤ w.word)) (omega (arith, ints)) in
        let n_is = n.1 in
        of_word w n.0 (omega (arith, ints)) (omega (arith, ints))
      where
        of_word : (w : FrameWord m h s.context (length l.memory) act.layout.origin lo (hi +ℤ pos 1) offset)
            (n : ℕ) → n < 4
            → offset ≡ pos 4 *ℤ w.word +ℤ pos n
            → Written a act.layout.origin offset (λ place. with_byte l.memory place (Some c))
            (λ place. may_write h place ≡ true)
            (after_change (on_span (word_of_byte lo) (words_touched lo (hi +ℤ pos 1)) stored_byte) s)
        of_word w n less at =
            let own = w.own in
            let is = own.is in
            let inside = own.inside in
            let small = a.frame.small in
            record {
              place = own.place + n;
              is = omega (arith, ints);
              small = omega arith;
              own = bytes_written h own.place own.mine n less;
              after = after_span a (word_of_byte lo)
                  (words_touched lo (hi +ℤ pos 1)) stored_byte w.word new w.in_span leaves keeps;
              keeps = keeps;
            }
          where
            new : Memory
            new = with_byte l.memory (w.own.place + n) (Some c)

            there : IsByteOf act.layout.origin w.word (w.own.place + n)
            there = let is = w.own.is in record { low = omega (arith, ints); high = omega (arith, ints) }

            keeps : KeepsMemory m h scope l.memory new
            keeps = frame_keeps m h scope w.word l.memory new w.may (written_readable m s.context w.word w.may) w.own
                (byte_written act.layout.origin w.word l.memory (w.own.place + n) (Some c) there
                (λ d e. let is : c ≡ d = cc in subst (λ (x : ℕ). x < 256) is byte))

            leaves : LeavesWell m act.layout (word_of_byte lo)
                (words_touched lo (hi +ℤ pos 1)) stored_byte w.word l.memory new
            leaves = record {
              here = λ said known. byte_left m act.layout said _ _
                  (λ low high known.
                  subst (λ (u : Option ℤ). Means m act.layout (Number least_word greatest_word) u)
                  (sym (frame_word_is new act.layout.origin w.word w.own.place w.own.is))
                  (number_stays h l.memory w.own.place n c less byte
                  (λ i below. may_too h (w.own.place + i)
                  (bytes_written h w.own.place w.own.mine i below)) a.named.bytes
                  (subst (λ (u : Option ℤ). Means m act.layout (Number low high) u)
                  (frame_word_is l.memory act.layout.origin w.word w.own.place w.own.is) known)))
                  known;
              others = λ j said u differ inside known.
                  widened_means m act.layout least_word greatest_word said u (inl known);
              elsewhere = λ j differ. byte_elsewhere l.memory act.layout.origin j w.word (w.own.place + n)
                  (Some c) there differ;
            }

    byte_into_parameter : (j : ℕ) → lie_in (writable_bytes m s.context j) lo (hi +ℤ pos 1) ≡ true
        → is_full (parameter_range m s.context j) ≡ true
        → Written a (pos (place_of (act.layout.starts j))) offset (λ place. with_byte l.memory place (Some c))
        (λ place. may_write h place ≡ true) s
    byte_into_parameter j inside t =
        let f = inside_some (writable_bytes m s.context j) 1 lo hi offset low high inside in
        let fits = f.4 in
        of_region f.0 (writable_found m s.context j f.0 f.1) f.2 f.3 (omega arith)
      where
        of_region : (size : ℕ) (r : Writable m s.context j size) (n : ℕ) → offset ≡ pos n → n < size
            → Written a (pos (place_of (act.layout.starts j))) offset (λ place. with_byte l.memory place (Some c))
            (λ place. may_write h place ≡ true) s
        of_region size r n is within =
            let inside = number_within l.memory (start + 4 * (n / 4)) (in_region_of.numbers (n / 4) fits) in
            into_region j size r n 1 (λ place. with_byte l.memory place (Some c)) (λ place. may_write h place ≡ true) is
            (omega arith) (in_region_of.held n within) alters
          where
            start : ℕ
            start = place_of (act.layout.starts j)

            new : Memory
            new = with_byte l.memory (start + n) (Some c)

            in_region_of : IsHeldRegion m (may_write h) scope l.memory start size r.lo r.hi
            in_region_of = named_region j size r

            whole : size % 4 ≡ 0
            whole = eqb-true (size % 4) 0 in_region_of.whole

            fits : 4 * (n / 4) + 4 ≤ size
            fits = omega (arith, whole)

            wide : lies_within least_word greatest_word r.lo r.hi ≡ true
            wide = ap is_full (sym (range_is j size r)) ∙ t

            any : (p : ℕ) → Means m act.layout (Number least_word greatest_word) (word_at new p)
                → Means m act.layout (Number r.lo r.hi) (word_at new p)
            any p means =
                let both = and_parts (int_le r.lo least_word) (int_le greatest_word r.hi) wide in
                number_wider m act.layout r.lo r.hi _ (int_le-true r.lo least_word both.0)
                (int_le-true greatest_word r.hi both.1) means

            number : (i : ℕ) → 4 * i + 4 ≤ size → Means m act.layout (Number r.lo r.hi) (word_at new (start + 4 * i))
            number i inside = elim (cases_eq i (n / 4)) [
              | inl same ↦ any (start + 4 * i)
                  (subst (λ (p : ℕ). Means m act.layout (Number least_word greatest_word)
                  (word_at (with_byte l.memory p (Some c)) (start + 4 * i)))
                  (let e : start + 4 * i + n % 4 ≡ start + n = omega (arith, same) in e)
                  (number_stays h l.memory (start + 4 * i) (n % 4) c (omega arith) byte
                  (λ k below. may_too h (start + 4 * i + k)
                  (ap (may_write h) (let e : start + 4 * i + k ≡ start + (4 * i + k) = omega arith in e)
                  ∙ in_region_of.held (4 * i + k) (omega arith))) a.named.bytes (in_region_of.numbers i inside)))
              | inr differ ↦ subst (λ (u : Option ℤ). Means m act.layout (Number r.lo r.hi) u)
                  (sym (word_at-with_byte_other l.memory (start + n) (start + 4 * i) (Some c) (apart start i n differ)))
                  (in_region_of.numbers i inside)
            ]
              where
                apart : (start i n : ℕ) → (i ≡ n / 4 → ⊥) → (start + n < start + 4 * i)
                    ⊎ (start + 4 * i + 4 ≤ start + n)
                apart start i n differ = elim (cases_lt (start + n) (start + 4 * i)) [
                  | inl low ↦ inl low
                  | inr high ↦ elim (cases_lt (start + n) (start + 4 * i + 4)) [
                    | inl here ↦ absurd (differ (omega (arith, high, here)))
                    | inr behind ↦ inr behind
                  ]
                ]

            alters : AltersRegion m h scope start size r.lo r.hi (start + n) 1 l.memory new
            alters = record {
              long = length-with_byte l.memory (start + n) (Some c);
              first = omega arith;
              last = omega arith;
              kept = λ q. elim (cases_eq q (start + n)) [
                | inl same ↦ inr (record { low = omega (arith, same); high = omega (arith, same) })
                | inr differ ↦ inl (byte_at-with_byte_other l.memory (start + n) q (Some c) differ)
              ];
              small = λ q d found. byte_small l.memory (start + n) (Some c)
                  (λ e is. let same : c ≡ e = cc in subst (λ (x : ℕ). x < 256) same byte) q d found;
              numbers = number;
            }

-- ---- the instructions

module _ (x : Situation) (s : State) (l : Local) (a : Within ArePlain x.m x.h x.mode x.act s l)
    (same : s.context ≡ x.context)
    (changes : Changes x l.memory) (n : owed s x.act ≤ x.owed) where
  -- A is a pointer that may be used, and B may be stored where it leads
  stored_fits : (may_store : Fact → Fact → Bool) (r : Fact → Pointed → Ruling) (o : ℤ → ℤ → Outcome)
      → ((v u : ℤ) (p : Pointed) → Means x.m x.act.layout (Pointer p.region p.lo p.hi p.step) (Some v)
      → Means x.m x.act.layout s.stack.b.fact (Some u)
      → may_store (Pointer p.region p.lo p.hi p.step) s.stack.b.fact ≡ true → FitsIf x (r s.stack.b.fact p) (o v u))
      → FitsIf x (rule.uses s.stack.a (λ a. rule.uses s.stack.b (λ b. rule.in_bounds (may_store a b)
      (rule.settles (pointer_of a) (r b)))))
      (step.uses l.registers.stack.a (λ v. step.uses l.registers.stack.b (o v)))
  stored_fits may_store r o go =
      uses_fits x s.stack.a l.registers.stack.a _ _ a.knows.registers.a (λ v means.
      uses_fits x s.stack.b l.registers.stack.b _ _ a.knows.registers.b (λ u other.
      in_bounds_fits x (may_store s.stack.a.fact s.stack.b.fact) _ _ (λ stores.
      settles_fits x (pointer_of s.stack.a.fact) _ _ (λ p pointer.
      let fact_is = (pointer_is x.m x.act.layout s.stack.a.fact p pointer).0 in
      go v u p (subst (λ (f : Fact). Means x.m x.act.layout f (Some v)) fact_is means.fact) other.fact
      (subst (λ (f : Fact). may_store f s.stack.b.fact ≡ true) fact_is stores)))))

  left_context : (p : Pointed) (end : ℤ) (leaving : Leaving) → (leaves_words p end leaving s).context ≡ s.context
  unfolding leaves_words after_change
  left_context p end leaving = on (is_frame p.region)
    where
      on : (frame : Bool)
          → (cond frame (after_change (on_span (word_of_byte p.lo) (words_touched p.lo end) leaving) s) s).context
          ≡ s.context
      on true = refl
      on false = refl

  left_owed : (p : Pointed) (end : ℤ) (leaving : Leaving) → owed (leaves_words p end leaving s) x.act ≤ owed s x.act
  unfolding leaves_words after_change
  left_owed p end leaving = on (is_frame p.region)
    where
      on : (frame : Bool)
          → owed (cond frame (after_change (on_span (word_of_byte p.lo) (words_touched p.lo end) leaving) s) s)
          x.act ≤ owed s x.act
      on true =
          let less = changed_dues (on_span (word_of_byte p.lo) (words_touched p.lo end) leaving) s.frame x.act.turns in
          omega (arith, less)
      on false = omega arith

  -- what a write leaves, once A and B are used up
  pops_two_fits : (p : Pointed) (end : ℤ) (leaving : Leaving) (new : Memory)
      → Within ArePlain x.m x.h x.mode x.act (leaves_words p end leaving s) (record l { memory = new }) → Changes x new
      → FitsIf x (memory.pops_two (rule_site x) (leaves_words p end leaving s))
      (step.goes_on (step_site x) (step.pop (step.pop (record l { memory = new }))))
  pops_two_fits p end leaving new b changed =
      let t = leaves_words p end leaving s in
      let less = left_owed p end leaving in
      in_plain_rule x t b.same_mode _ _ (beside_plain_rule x t b.same_mode _ _
      (goes_on_fits x (rule.pop (rule.pop t)) (step.pop (step.pop (record l { memory = new })))
      (after_stack x b (record { a = b.knows.registers.c; b = unknown_means; c = unknown_means }))
      (left_context p end leaving ∙ same) changed (omega (arith, n, less))))

  changes_too : (new : Memory) → KeepsMemory x.m x.h (scope_of x.m s.context x.act.layout) l.memory new
      → KeepsMemory x.m x.h (scope_of x.m x.context x.act.layout) l.memory new
  changes_too new keeps =
      subst (λ (c : ℕ). KeepsMemory x.m x.h (scope_of x.m c x.act.layout) l.memory new) same keeps

  -- ---- stnl

  -- where a word goes
  word_written_at : (p : Pointed) (b : Fact) (v offset : ℤ) → p.lo ≤ℤ offset → offset ≤ℤ p.hi
      → IsTrue (is_stepped offset)
      → Means x.m x.act.layout b (Some v)
      → (is_frame p.region ≡ false → is_number_in (wanted_range x.m s.context p.region) b ≡ true)
      → may_write_bytes x.m s.context p.region p.lo (p.hi +ℤ pos 4) ≡ true
      → Written a (region_place x.m x.act.layout p.region) offset (λ place. with_word l.memory place (Some v))
      (IsOwnAt x.h) (leaves_words p (p.hi +ℤ pos 4) (stored_word p b) s)
  unfolding may_write_bytes leaves_words
  word_written_at p b v offset low high aligned means stores may = on p.region may stores
    where
      on : (region : Region) → may_write_bytes x.m s.context region p.lo (p.hi +ℤ pos 4) ≡ true
          → (is_frame region ≡ false → is_number_in (wanted_range x.m s.context region) b ≡ true)
          → Written a (region_place x.m x.act.layout region) offset
          (λ place. with_word l.memory place (Some v)) (IsOwnAt x.h)
          (cond (is_frame region) (after_change (on_span (word_of_byte p.lo) (words_touched p.lo (p.hi +ℤ pos 4))
          (stored_word p b)) s) s)
      on regions.Frame may stores = word_into_frame a p.lo p.hi offset low high aligned b v means may
      on regions.Constants may stores = absurd (cc)
      on (regions.Parameter j) may stores =
          word_into_parameter a p.lo p.hi offset low high aligned b v means j may (stores refl)

  -- B may be stored where a pointer leads that is no word of the frame
  stores_number : (q : Pointed) (b : Fact)
      → may_store_word x.m s.context (Pointer q.region q.lo q.hi q.step) b ≡ true → is_frame q.region ≡ false
      → is_number_in (wanted_range x.m s.context q.region) b ≡ true
  unfolding may_store_word
  stores_number q b t outside = on (is_frame q.region) outside t
    where
      on : (frame : Bool) → frame ≡ false
          → ((frame && is_same q.lo q.hi) || is_number_in (wanted_range x.m s.context q.region) b) ≡ true
          → is_number_in (wanted_range x.m s.context q.region) b ≡ true
      on true is t = absurd (cc)
      on false _ t = t

  stnl_word : (e v u : ℤ) (q p : Pointed) → words_behind (pos 4 *ℤ e) q ≡ Ok p → FitsSigned w32 e
      → Means x.m x.act.layout (Pointer q.region q.lo q.hi q.step) (Some v)
      → Means x.m x.act.layout s.stack.b.fact (Some u)
      → may_store_word x.m s.context (Pointer q.region q.lo q.hi q.step) s.stack.b.fact ≡ true
      → may_write_bytes x.m s.context p.region p.lo (p.hi +ℤ pos 4) ≡ true
      → FitsIf x (memory.pops_two (rule_site x) (leaves_words p (p.hi +ℤ pos 4) (stored_word p s.stack.b.fact) s))
      (step.aligned v (λ at. step.writes (step_site x) (local_address at e) (Some u) l (λ l.
      step.goes_on (step_site x) (step.pop (step.pop l)))))
  stnl_word e v u q p is fits means other stores may =
      let b = words_behind_is x.m x.act.layout e v q p is means in
      let number : is_frame p.region ≡ false
      → is_number_in (wanted_range x.m s.context p.region) s.stack.b.fact ≡ true =
      subst (λ (r : Region). is_frame r ≡ false → is_number_in (wanted_range x.m s.context r) s.stack.b.fact ≡ true)
      b.region
      (stores_number q s.stack.b.fact stores) in
      let w = word_written_at p s.stack.b.fact u (b.offset +ℤ (pos 4 *ℤ e)) b.low b.high b.stepped other number may in
      let from = region_at x.m x.act.layout p.region (b.offset +ℤ (pos 4 *ℤ e)) w.place w.is in
      aligned_fits x s l a same changes n v _ _
      (even_word v (region_start x.m x.act.layout p.region) b.offset e w.place b.at from w.own.even)
      (writes_fits x l (local_address (step.address v) e) w.place (Some u) _ _
      (word_place v (region_start x.m x.act.layout p.region) b.offset e w.place b.at fits from w.small) w.own.mine
      (pops_two_fits p (p.hi +ℤ pos 4) (stored_word p s.stack.b.fact)
      (with_word l.memory w.place (Some u)) w.after (record {
        own = changes_more x.h x.memory l.memory (with_word l.memory w.place (Some u)) changes.own
            (write_is_own x.h l.memory w.place (Some u) w.own.mine);
        keeps = keeps_more changes.keeps (changes_too (with_word l.memory w.place (Some u)) w.keeps);
      })))

  pub stnl_fits : (e : ℤ) → FitsSigned w32 e
      → FitsIf x (table.local_rule (rule_site x) instructions.StoreNonLocal e s)
      (step.instruction_step (step_site x) instructions.StoreNonLocal e l)
  unfolding table.local_rule step.instruction_step
  stnl_fits e fits =
      in_plain_step x s a.same_mode _ _ (stored_fits (may_store_word x.m s.context) _ _ (λ v u q means other stores.
      settles_fits x (words_behind (pos 4 *ℤ e) q) _ _ (λ p is.
      writes_bytes_fits x s p.region p.lo (p.hi +ℤ pos 4) _ _ (λ may.
      stnl_word e v u q p is fits means other stores may))))

  -- ---- sb

  writes_byte_fits : (address place c : ℕ) (r : Ruling) (o : Local → Outcome) → place_of address ≡ place
      → may_write x.h place ≡ true → FitsIf x r (o (record l { memory = with_byte l.memory place (Some c) }))
      → FitsIf x r (step.writes_byte (step_site x) address c l o)
  unfolding step.writes_byte
  writes_byte_fits address place c r o is mine go =
      on_step_test x (may_write x.h (place_of address)) _ _ _
      (λ t. subst (λ (p : ℕ). FitsIf x r (o (record l { memory = with_byte l.memory p (Some c) }))) (sym is) go)
      (λ t. let no : true ≡ false = sym mine ∙ (ap (may_write x.h) (sym is) ∙ t) in absurd (cc))

  -- where a byte goes
  byte_written_at : (p : Pointed) (c : ℕ) (offset : ℤ) → c < 256 → p.lo ≤ℤ offset → offset ≤ℤ p.hi
      → is_full (wanted_range x.m s.context p.region) ≡ true
      → may_write_bytes x.m s.context p.region p.lo (p.hi +ℤ pos 1) ≡ true
      → Written a (region_place x.m x.act.layout p.region) offset (λ place. with_byte l.memory place (Some c))
      (λ place. may_write x.h place ≡ true) (leaves_words p (p.hi +ℤ pos 1) stored_byte s)
  unfolding may_write_bytes leaves_words
  byte_written_at p c offset byte low high wide may = on p.region may wide
    where
      on : (region : Region) → may_write_bytes x.m s.context region p.lo (p.hi +ℤ pos 1) ≡ true
          → is_full (wanted_range x.m s.context region) ≡ true
          → Written a (region_place x.m x.act.layout region) offset
          (λ place. with_byte l.memory place (Some c)) (λ place. may_write x.h place ≡ true)
          (cond (is_frame region)
          (after_change (on_span (word_of_byte p.lo) (words_touched p.lo (p.hi +ℤ pos 1)) stored_byte) s) s)
      on regions.Frame may wide = byte_into_frame a p.lo p.hi offset low high c byte may
      on regions.Constants may wide = absurd (cc)
      on (regions.Parameter j) may wide = byte_into_parameter a p.lo p.hi offset low high c byte j may wide

  stores_any : (q : Pointed) (b : Fact)
      → may_store_byte x.m s.context (Pointer q.region q.lo q.hi q.step) b ≡ true
      → is_full (wanted_range x.m s.context q.region) ≡ true
  unfolding may_store_byte
  stores_any q b t = (and_parts (is_full (wanted_range x.m s.context q.region)) (is_number_in full b) t).0

  sb_byte : (v u : ℤ) (p : Pointed) → Means x.m x.act.layout (Pointer p.region p.lo p.hi p.step) (Some v)
      → may_store_byte x.m s.context (Pointer p.region p.lo p.hi p.step) s.stack.b.fact ≡ true
      → may_write_bytes x.m s.context p.region p.lo (p.hi +ℤ pos 1) ≡ true
      → FitsIf x (memory.pops_two (rule_site x) (leaves_words p (p.hi +ℤ pos 1) stored_byte s))
      (step.writes_byte (step_site x) (step.address v) (byte_worth 1 u) l (λ l.
      step.goes_on (step_site x) (step.pop (step.pop l))))
  sb_byte v u p (is_pointer offset low high stepped at) stores may =
      let c = byte_worth 1 u in
      let w = byte_written_at p c offset (omega arith) low high (stores_any p s.stack.b.fact stores) may in
      writes_byte_fits (step.address v) w.place c _ _
      (ap (λ (z : ℤ). place_of (step.address z)) at
      ∙ place_at (region_start x.m x.act.layout p.region +ℤ offset) w.place
      (region_at x.m x.act.layout p.region offset w.place w.is) w.small) w.own
      (pops_two_fits p (p.hi +ℤ pos 1) stored_byte (with_byte l.memory w.place (Some c)) w.after (record {
        own = changes_more x.h x.memory l.memory (with_byte l.memory w.place (Some c)) changes.own
            (byte_is_own x.h l.memory w.place (Some c) w.own);
        keeps = keeps_more changes.keeps (changes_too (with_byte l.memory w.place (Some c)) w.keeps);
      }))

  pub sb_fits : FitsIf x (table.local_operation_rule (rule_site x) operations.StoreByte s)
      (step.operation_step (step_site x) operations.StoreByte l)
  unfolding table.local_operation_rule step.operation_step
  sb_fits =
      in_plain_step x s a.same_mode _ _ (stored_fits (may_store_byte x.m s.context) _ _ (λ v u p means other stores.
      writes_bytes_fits x s p.region p.lo (p.hi +ℤ pos 1) _ _ (λ may. sb_byte v u p means stores may)))
