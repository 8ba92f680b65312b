-- The instruction that moves bytes: what its rule says fits its step.
use Rattle.std.proofs.Common.{◌≡◌, ℕ, ◌+◌, ◌-◌, ◌≤◌, ◌<◌, ℤ, pos, ◌+ℤ◌, ◌-ℤ◌, nat_abs, Bool, true, false}
use Rattle.std.proofs.Common.{not, cond, ◌&&◌, ◌||◌, length, Some, Ok, refl, sym, ap, ◌∙◌, subst, arith}
use Rattle.std.proofs.Common.{inl, inr}
use Rattle.std.proofs.lemmas.Bool.{cases_lt, eq-eqb, and_parts, or_cases, and_from, cases_Bool}
use Rattle.std.proofs.lemmas.Int.{ints}
use Rattle.std.specs.Prelude.{int_le, nat_lt}
use Rattle.small_laws.proofs.Comparisons.{int_le-true, pos_from}
use Rattle.word_arithmetic.specs.Range.{full}
use Rattle.module_format.specs.Rows.{Fact}
use Rattle.module_format.specs.declared.fact.Fact.TheVariants.{Unknown, Pointer}
use Rattle.module_format.specs.declared.fact.Region.{Region}
use Rattle.module_format.specs.declared.fact.Region.TheVariants as regions
use Rattle.module_format.specs.declared.fact.Step.{Step}
use Rattle.module_format.specs.Regions.{is_frame, is_same_region}
use Rattle.module_format.specs.Stack.{of_empty}
use Rattle.machine_state.specs.declared.op.Op.TheVariants as operations
use Rattle.machine_state.specs.declared.fault.FaultKind.TheVariants.{NotOwn}
use Rattle.machine_state.specs.Memory.{Memory, byte_at, place_of}
use Rattle.machine_state.specs.Holding.{may_read, may_write}
use Rattle.machine_state.specs.Spans.{all_places}
use Rattle.machine_state.specs.LocalStep as step
use Rattle.machine_state.specs.LocalStep.{copied}
use Rattle.machine_state.specs.Site.{Outcome, Local}
use Rattle.machine_state.proofs.Copying.{copied-none, all_places-none}
use Rattle.machine_state.proofs.Frame.{copy_is_own, changes_more}
use Rattle.states.specs.declared.span.Leaving.{Leaving}
use Rattle.states.specs.declared.span.Leaving.TheVariants.{Become}
use Rattle.states.specs.State.{State, unknown, changed, is_same_number as is_same}
use Rattle.states.specs.Spans.{on_span, after_change}
use Rattle.states.proofs.Claimed.{same-region}
use Rattle.rulings.specs.declared.pointers.Pointed.{Pointed}
use Rattle.rulings.specs.Pointers.{constant_of, wanted_range, is_full, byte_read, number_within}
use Rattle.rulings.specs.Pointers.{stored_byte, leaves_words, exact_pointer, takes_any}
use Rattle.local_rules.specs.MoveRules as move
use Rattle.rulings.specs.Filling as filling
use Rattle.local_rules.specs.MoveRules.{is_movable, are_blocks_apart}
use Rattle.rulings.specs.Filling.{word_behind, words_within, filled, become_numbers}
use Rattle.rulings.specs.Reach.{word_of_byte, words_touched, may_read_bytes, may_write_bytes}
use Rattle.local_rules.specs.LocalRules as table
use Rattle.rulings.specs.Meaning.{Means, is_pointer, owed, region_start, IsWellFormed}
use Rattle.rulings.specs.Regions.{scope_of, KeepsMemory}
use Rattle.rulings.specs.Fitting.{Changes, Situation, rule_site, step_site, it_breaks}
use Rattle.rulings.proofs.Within.{Within, ArePlain}
use Rattle.rulings.proofs.Words.{word_test, same_word_by}
use Rattle.rulings.proofs.Dues.{changed_dues}
use Rattle.rulings.proofs.Regions.{keeps_more}
use Rattle.rulings.proofs.Reaching.{region_place, place_at, region_at}
use Rattle.rulings.proofs.Combining.{FitsIf, unknown_means, on_rule_test, uses_fits, in_bounds_fits}
use Rattle.rulings.proofs.Combining.{holds_fits, goes_on_fits, in_plain_rule, beside_plain_rule, in_plain_step}
use Rattle.rulings.proofs.Combining.{after_stack, settles_fits, reads_bytes_fits, writes_bytes_fits, counts_fits}
use Rattle.rulings.proofs.BlocksMove.{all_held, source_read, read_at, written_at, regions_apart, AreDefined, Room}
use Rattle.rulings.proofs.BlocksMove.{Moved}
use Rattle.rulings.proofs.BlocksMove.{meet_tells, defined_of}
use Rattle.rulings.proofs.BlocksMove.{written_room, unknown_into_frame, numbers_into_frame, numbers_into_parameter}
use Rattle.rulings.proofs.PointerFacts.{constant_is, exact_is}

-- ---- what is asked

-- a region is the same as itself
itself : (r : Region) → is_same_region r r ≡ true
itself regions.Frame = refl
itself regions.Constants = refl
itself (regions.Parameter j) = eq-eqb j j refl

regions_differ : (a b : Region) → is_same_region a b ≡ false → a ≡ b → ⊥
regions_differ a b differ one =
    let no : false ≡ true = sym differ ∙ (sym (ap (is_same_region a) one) ∙ itself a) in cc

module _ (x : Situation) (wf : IsWellFormed x.m) (s : State) (l : Local) (a : Within ArePlain x.m x.h x.mode x.act s l)
    (same : s.context ≡ x.context) (changes : Changes x l.memory) (n : owed s x.act ≤ x.owed) where
  -- all registers are used up
  clears_fits : (t : State) (new : Memory) → Within ArePlain x.m x.h x.mode x.act t (record l { memory = new })
      → t.context ≡ x.context → owed t x.act ≤ x.owed → Changes x new
      → FitsIf x (move.clears (rule_site x) t)
      (step.goes_on (step_site x) (step.without_registers (record l { memory = new })))
  clears_fits t new b here less changed =
      in_plain_rule x t b.same_mode _ _ (beside_plain_rule x t b.same_mode _ _
      (goes_on_fits x (record t { stack = of_empty unknown }) (step.without_registers (record l { memory = new }))
      (after_stack x b (record { a = unknown_means; b = unknown_means; c = unknown_means })) here changed less))

  -- what the machine does, by the places of the two blocks
  abbrev copying : ℕ → ℕ → ℕ → Outcome
  copying p q k =
      step.holds (all_places (may_read x.h) p k && all_places (may_write x.h) q k && not (step.places_meet p k q k))
      NotOwn
      (step.goes_on (step_site x) (step.without_registers (record l { memory = copied l.memory p q k l.memory })))

  -- no bytes
  none_fits : (p q : ℕ) → FitsIf x (move.clears (rule_site x) s) (copying p q 0)
  none_fits p q =
      holds_fits x (all_places (may_read x.h) p 0 && all_places (may_write x.h) q 0
      && not (step.places_meet p 0 q 0)) NotOwn _ _
      (and_from _ _ (and_from _ _ (all_places-none (may_read x.h) p) (all_places-none (may_write x.h) q)) (beside p q))
      (subst (λ (mem : Memory). FitsIf x (move.clears (rule_site x) s)
      (step.goes_on (step_site x) (step.without_registers (record l { memory = mem }))))
      (sym (copied-none l.memory p q l.memory)) (clears_fits s l.memory a same n changes))
    where
      beside : (p q : ℕ) → not (step.places_meet p 0 q 0) ≡ true
      beside p q = elim (cases_Bool (step.places_meet p 0 q 0)) [
        | inl t ↦ let tells = meet_tells p 0 q 0 t in absurd (omega (arith, tells.0, tells.1))
        | inr t ↦ ap not t
      ]

  -- where a pointer to one byte leads
  address_is : (p : Pointed) (v : ℤ) → Means x.m x.act.layout (Pointer p.region p.lo p.hi p.step) (Some v) → p.lo ≡ p.hi
      → (place : ℕ) → pos place ≡ region_place x.m x.act.layout p.region +ℤ p.lo → place < 4294967296
      → place_of (step.address v) ≡ place
  address_is p v (is_pointer offset low high stepped at) one place is small =
      let e : p.lo ≡ offset = omega (arith, ints) in
      ap (λ (z : ℤ). place_of (step.address z)) at
      ∙ place_at (region_start x.m x.act.layout p.region +ℤ offset) place
      (region_at x.m x.act.layout p.region offset place
      (is ∙ ap (λ (z : ℤ). region_place x.m x.act.layout p.region +ℤ z) e)) small

  -- what a move leaves is of the same context, and owes no more
  left_same : (numbers : Bool) (p : Pointed) (end : ℤ)
      → ((filled numbers p end s).context ≡ s.context) × (owed (filled numbers p end s) x.act ≤ owed s x.act)
  unfolding filled become_numbers leaves_words after_change
  left_same numbers p end = on numbers (is_frame p.region) (nat_lt 0 (words_within p.lo end))
    where
      touched : Leaving → State
      touched leaving = after_change (on_span (word_of_byte p.lo) (words_touched p.lo end) leaving) s

      within : State → State
      within t = after_change (on_span (word_behind p.lo) (words_within p.lo end) (Become (number_within full))) t

      on : (numbers frame some : Bool)
          → ((cond numbers (cond (frame && some) (within (cond frame (touched stored_byte) s))
          (cond frame (touched stored_byte) s))
          (cond frame (touched (Become Unknown)) s)).context ≡ s.context)
          × (owed (cond numbers
          (cond (frame && some) (within (cond frame (touched stored_byte) s)) (cond frame (touched stored_byte) s))
          (cond frame (touched (Become Unknown)) s)) x.act ≤ owed s x.act)
      on false false some = (refl, omega arith)
      on false true some =
          let less = changed_dues (on_span (word_of_byte p.lo) (words_touched p.lo end) (Become Unknown))
          s.frame x.act.turns in
          (refl, omega (arith, less))
      on true false some = (refl, omega arith)
      on true true false =
          let less = changed_dues (on_span (word_of_byte p.lo) (words_touched p.lo end) stored_byte)
          s.frame x.act.turns in
          (refl, omega (arith, less))
      on true true true =
          let less = changed_dues (on_span (word_of_byte p.lo) (words_touched p.lo end) stored_byte)
          s.frame x.act.turns in
          let more = changed_dues
          (on_span (word_behind p.lo) (words_within p.lo end) (Become (number_within full)))
          (changed (on_span (word_of_byte p.lo) (words_touched p.lo end) stored_byte) s.frame) x.act.turns in
          (refl, omega (arith, less, more))

  -- ---- some bytes

  module _ (k : ℕ) (some : 0 < k) (source_region target_region : Region) (source_lo target_lo : ℤ)
      (source_step target_step : Step) where
    abbrev from : Pointed
    from = record { region = source_region; lo = source_lo; hi = source_lo; step = source_step }

    abbrev to : Pointed
    to = record { region = target_region; lo = target_lo; hi = target_lo; step = target_step }

    abbrev end : ℤ
    end = target_lo +ℤ pos k

    -- what comes to where a pointer leads
    moved_to : (source : ℕ) → ((i : ℕ) → i < k → may_read x.h (source + i) ≡ true) → (numbers : Bool)
        → (numbers ≡ true → AreDefined l.memory source k) → (is_frame target_region || numbers) ≡ true
        → is_full (wanted_range x.m s.context target_region) ≡ true
        → may_write_bytes x.m s.context target_region target_lo end ≡ true
        → (room : Room x.h (length l.memory) (region_place x.m x.act.layout target_region) target_lo k)
        → Moved a l.memory source room.place k (filled numbers to end s)
    unfolding may_write_bytes filled become_numbers leaves_words
    moved_to source held numbers defined allowed wide may room =
        on numbers target_region defined allowed wide may room
      where
        bytes : (i : ℕ) → i < k → (c : ℕ) → byte_at l.memory (source + i) ≡ Some c → c < 256
        bytes i less c e = a.named.bytes.each (source + i) c (held i less) e

        touched : Leaving → State
        touched leaving = after_change (on_span (word_of_byte target_lo) (words_touched target_lo end) leaving) s

        on : (numbers : Bool) (region : Region) → (numbers ≡ true → AreDefined l.memory source k)
            → (is_frame region || numbers) ≡ true
            → is_full (wanted_range x.m s.context region) ≡ true
            → may_write_bytes x.m s.context region target_lo end ≡ true
            → (room : Room x.h (length l.memory) (region_place x.m x.act.layout region) target_lo k)
            → Moved a l.memory source room.place k
            (cond numbers
            (cond (is_frame region && nat_lt 0 (words_within target_lo end))
            (after_change (on_span (word_behind target_lo) (words_within target_lo end) (Become (number_within full)))
            (cond (is_frame region) (touched stored_byte) s)) (cond (is_frame region) (touched stored_byte) s))
            (cond (is_frame region) (touched (Become Unknown)) s))
        on true regions.Frame defined allowed wide may room =
            numbers_into_frame a l.memory source k some bytes target_lo target_lo end (omega (arith, ints))
            (omega (arith, ints)) may room (defined refl) (nat_lt 0 (words_within target_lo end)) (λ t. (refl, refl))
        on false regions.Frame defined allowed wide may room =
            unknown_into_frame a l.memory source k some bytes target_lo target_lo end (omega (arith, ints))
            (omega (arith, ints)) may room
        on numbers regions.Constants defined allowed wide may room = absurd (cc)
        on true (regions.Parameter j) defined allowed wide may room =
            numbers_into_parameter a l.memory source k some bytes target_lo (defined refl) j room may wide
        on false (regions.Parameter j) defined allowed wide may room = absurd (cc)

    -- the two blocks have no place in common
    blocks_apart : (p q : ℕ) → are_blocks_apart (pos k) from to ≡ true
        → pos p ≡ region_place x.m x.act.layout source_region +ℤ source_lo
        → pos q ≡ region_place x.m x.act.layout target_region +ℤ target_lo
        → may_read_bytes x.m s.context source_region source_lo (source_lo +ℤ pos k) ≡ true
        → may_write_bytes x.m s.context target_region target_lo (target_lo +ℤ pos k) ≡ true
        → not (step.places_meet p k q k) ≡ true
    blocks_apart p q apart p_is q_is read write = elim (cases_Bool (step.places_meet p k q k)) [
      | inr t ↦ ap not t
      | inl t ↦
          let tells = meet_tells p k q k t in absurd (elim (cases_Bool (is_same_region source_region target_region)) [
            | inl one ↦ in_one one tells.0 tells.1
            | inr differ ↦ elim (cases_lt p q) [
              | inl low ↦ common differ (q - p) 0 q (omega (arith, low, tells.1)) some (omega (arith, ints, p_is, low))
                  (omega (arith, ints, q_is))
              | inr high ↦ common differ 0 (p - q) p some (omega (arith, high, tells.0)) (omega (arith, ints, p_is))
                  (omega (arith, ints, q_is, high))
            ]
          ])
    ]
      where
        common : is_same_region source_region target_region ≡ false → (i j place : ℕ) → i < k → j < k
            → pos place ≡ region_place x.m x.act.layout source_region +ℤ source_lo +ℤ pos i
            → pos place ≡ region_place x.m x.act.layout target_region +ℤ target_lo +ℤ pos j → ⊥
        common differ i j place less below is there =
            regions_apart a source_region target_region place (regions_differ source_region target_region differ)
            (read_at x.m s.context x.act.layout source_region source_lo k i place less is read)
            (written_at x.m s.context x.act.layout target_region target_lo k j place below there write)

        in_one : is_same_region source_region target_region ≡ true → p < q + k → q < p + k → ⊥
        in_one one low high = elim (or_cases _ (int_le (target_lo +ℤ pos k) source_lo) apart) [
          | inr behind ↦ let le = int_le-true (target_lo +ℤ pos k) source_lo behind in
              omega (arith, ints, le, start, p_is, q_is, low, high)
          | inl other ↦ elim (or_cases (not (is_same_region source_region target_region))
              (int_le (source_lo +ℤ pos k) target_lo) other) [
                | inr before ↦
                    let le = int_le-true (source_lo +ℤ pos k) target_lo before in
                    omega (arith, ints, le, start, p_is, q_is, low, high)
                | inl differ ↦ let no : false ≡ true = sym (ap not one) ∙ differ in absurd (cc)
              ]
        ]
          where
            start : region_place x.m x.act.layout source_region ≡ region_place x.m x.act.layout target_region
            start = ap (region_place x.m x.act.layout) (same-region source_region target_region one)

    some_fits : (u w : ℤ) → Means x.m x.act.layout (Pointer source_region source_lo source_lo source_step) (Some w)
        → Means x.m x.act.layout (Pointer target_region target_lo target_lo target_step) (Some u)
        → is_full (wanted_range x.m s.context target_region) ≡ true
        → FitsIf x (move.moves_some (rule_site x) (pos k) from to s)
        (copying (place_of (step.address w)) (place_of (step.address u)) k)
    unfolding move.moves_some move.come
    some_fits u w source_means target_means wide =
        reads_bytes_fits x s source_region source_lo (source_lo +ℤ pos k) _ _ (λ read.
        writes_bytes_fits x s target_region target_lo end _ _ (λ write.
        on_rule_test x
        (are_blocks_apart (pos k) from to && (is_frame target_region || filling.are_numbers s from (pos k))) _ _ _
        (λ t. copies read write (and_parts (are_blocks_apart (pos k) from to) _ t).0
        (and_parts (are_blocks_apart (pos k) from to) _ t).1)
        (λ t next. it_breaks)))
      where
        copies : may_read_bytes x.m s.context source_region source_lo (source_lo +ℤ pos k) ≡ true
            → may_write_bytes x.m s.context target_region target_lo end ≡ true → are_blocks_apart (pos k) from to ≡ true
            → (is_frame target_region || filling.are_numbers s from (pos k)) ≡ true
            → FitsIf x (move.clears (rule_site x) (filled (filling.are_numbers s from (pos k)) to end s))
            (copying (place_of (step.address w)) (place_of (step.address u)) k)
        copies read write apart allowed =
            let source = source_read wf a source_region source_lo k some source_lo (source_lo +ℤ pos k)
            (omega (arith, ints))
            (omega (arith, ints)) read in
            let room = written_room a k some target_lo target_lo end (omega (arith, ints)) (omega (arith, ints))
            target_region write in
            let target = moved_to source.place source.held (filling.are_numbers s from (pos k))
            (λ t. defined_of (byte_read s source_region source_lo (source_lo +ℤ pos k -ℤ pos 1)) l.memory
            source.place k t source.means)
            allowed wide write room in
            let left = left_same (filling.are_numbers s from (pos k)) to end in
            let own = all_held (may_write x.h) room.place k room.own in
            let new : Memory = copied l.memory source.place room.place k l.memory in
            subst (λ (p : ℕ). FitsIf x (move.clears (rule_site x)
            (filled (filling.are_numbers s from (pos k)) to end s))
            (copying p (place_of (step.address u)) k))
            (sym (address_is from w source_means refl source.place source.is source.small))
            (subst (λ (q : ℕ). FitsIf x (move.clears (rule_site x)
            (filled (filling.are_numbers s from (pos k)) to end s))
            (copying source.place q k))
            (sym (address_is to u target_means refl room.place room.is room.small))
            (holds_fits x _ NotOwn _ _
            (and_from _ _ (and_from _ _ (all_held (may_read x.h) source.place k source.held) own)
            (blocks_apart source.place room.place apart source.is room.is read write))
            (clears_fits (filled (filling.are_numbers s from (pos k)) to end s) new target.after (left.0 ∙ same)
            (omega (arith, left.1, n)) (record {
              own = changes_more x.h x.memory l.memory new changes.own
                  (copy_is_own x.h l.memory source.place room.place k l.memory own);
              keeps = keeps_more changes.keeps
                  (subst (λ (c : ℕ). KeepsMemory x.m x.h (scope_of x.m c x.act.layout) l.memory new) same target.keeps);
            }))))

  -- ---- the instruction

  -- a pointer to one byte by its offset
  by_offset : (p : Pointed) → p.lo ≡ p.hi → record { region = p.region; lo = p.lo; hi = p.lo; step = p.step } ≡ p
  by_offset p one = λ i. record { region = p.region; lo = p.lo; hi = one i; step = p.step }

  bytes_fit : (k : ℕ) (from to : Pointed) (u w : ℤ) → from.lo ≡ from.hi → to.lo ≡ to.hi
      → Means x.m x.act.layout (Pointer from.region from.lo from.hi from.step) (Some w)
      → Means x.m x.act.layout (Pointer to.region to.lo to.hi to.step) (Some u)
      → is_full (wanted_range x.m s.context to.region) ≡ true
      → FitsIf x (move.moves_bytes (rule_site x) (pos k) from to s)
      (copying (place_of (step.address w)) (place_of (step.address u)) k)
  unfolding move.moves_bytes
  bytes_fit k from to u w source_one target_one source_means target_means wide =
      on_rule_test x (is_same (pos k) (pos 0)) _ _ _
      (λ t. subst (λ (c : ℕ). FitsIf x (move.clears (rule_site x) s)
      (copying (place_of (step.address w)) (place_of (step.address u)) c))
      (let e = same_word_by (pos k) (pos 0) t in let zero_is : 0 ≡ k = omega (arith, ints) in zero_is)
      (none_fits (place_of (step.address w)) (place_of (step.address u))))
      (λ t.
      subst (λ (p : Pointed). FitsIf x (move.moves_some (rule_site x) (pos k) p to s)
      (copying (place_of (step.address w)) (place_of (step.address u)) k)) (by_offset from source_one)
      (subst (λ (q : Pointed). FitsIf x (move.moves_some (rule_site x) (pos k)
      (record { region = from.region; lo = from.lo; hi = from.lo; step = from.step }) q s)
      (copying (place_of (step.address w)) (place_of (step.address u)) k)) (by_offset to target_one)
      (some_fits k (some t) from.region to.region from.lo to.lo from.step to.step u w
      (subst (λ (z : ℤ). Means x.m x.act.layout (Pointer from.region from.lo z from.step) (Some w))
      (sym source_one) source_means)
      (subst (λ (z : ℤ). Means x.m x.act.layout (Pointer to.region to.lo z to.step) (Some u))
      (sym target_one) target_means)
      wide)))
    where
      some : is_same (pos k) (pos 0) ≡ false → 0 < k
      some t = elim (cases_lt 0 k) [
        | inl less ↦ less
        | inr none ↦ elim (word_test (pos k) (pos 0)) [
          | inl p ↦ let no : true ≡ false = sym p.0 ∙ t in absurd (cc)
          | inr p ↦ absurd (p.1 (omega (arith, ints, none)))
        ]
      ]

  -- where B points, any number may be kept
  takes_wide : (fact : Fact) (p : Pointed) → fact ≡ Pointer p.region p.lo p.hi p.step
      → takes_any x.m s.context fact ≡ true → is_full (wanted_range x.m s.context p.region) ≡ true
  unfolding takes_any
  takes_wide fact p is t = subst (λ (f : Fact). takes_any x.m s.context f ≡ true) is t

  moves_fit : (v u w count : ℤ) (to from : Pointed) → Means x.m x.act.layout s.stack.a.fact (Some v)
      → Means x.m x.act.layout s.stack.b.fact (Some u) → Means x.m x.act.layout s.stack.c.fact (Some w)
      → constant_of s.stack.a.fact ≡ Ok count
      → (is_movable count && takes_any x.m s.context s.stack.b.fact) ≡ true
      → exact_pointer s.stack.b.fact ≡ Ok to → exact_pointer s.stack.c.fact ≡ Ok from
      → FitsIf x (move.moves_bytes (rule_site x) count from to s)
      (step.counts 0 65536 v (copying (place_of (step.address w)) (place_of (step.address u))))
  moves_fit v u w count to from first second third constant bounds there here =
      let both = and_parts (is_movable count) _ bounds in
      let range = and_parts (int_le (pos 0) count) (int_le count (pos 65536)) both.0 in
      let low = int_le-true (pos 0) count range.0 in
      let high = int_le-true count (pos 65536) range.1 in
      let v_is = (constant_is x.m x.act.layout s.stack.a.fact count v constant first).0 in
      let k = pos_from count low in
      let size : nat_abs v ≡ k.0 = ap nat_abs (v_is ∙ k.1) in
      let source = exact_is s.stack.c.fact from here in
      let target = exact_is s.stack.b.fact to there in
      counts_fits x 0 65536 v _ _ (omega (arith, ints)) (omega (arith, ints))
      (subst (λ (c : ℕ). FitsIf x (move.moves_bytes (rule_site x) count from to s)
      (copying (place_of (step.address w)) (place_of (step.address u)) c)) (sym size)
      (subst (λ (z : ℤ). FitsIf x (move.moves_bytes (rule_site x) z from to s)
      (copying (place_of (step.address w)) (place_of (step.address u)) k.0)) (sym k.1)
      (bytes_fit k.0 from to u w source.1 target.1
      (subst (λ (f : Fact). Means x.m x.act.layout f (Some w)) source.0 third)
      (subst (λ (f : Fact). Means x.m x.act.layout f (Some u)) target.0 second)
      (takes_wide s.stack.b.fact to target.0 both.1))))

  pub move_fits : FitsIf x (table.local_operation_rule (rule_site x) operations.Move s)
      (step.operation_step (step_site x) operations.Move l)
  unfolding table.local_operation_rule step.operation_step move.amount
  move_fits =
      in_plain_step x s a.same_mode _ _ (uses_fits x s.stack.a l.registers.stack.a _ _ a.knows.registers.a (λ v first.
      uses_fits x s.stack.b l.registers.stack.b _ _ a.knows.registers.b (λ u second.
      uses_fits x s.stack.c l.registers.stack.c _ _ a.knows.registers.c (λ w third.
      settles_fits x (constant_of s.stack.a.fact) _ _ (λ count constant.
      in_bounds_fits x (is_movable count && takes_any x.m s.context s.stack.b.fact) _ _ (λ bounds.
      settles_fits x (exact_pointer s.stack.b.fact) _ _ (λ to there.
      settles_fits x (exact_pointer s.stack.c.fact) _ _ (λ from here.
      moves_fit v u w count to from first.fact second.fact third.fact constant bounds there here))))))))
