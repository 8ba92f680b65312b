-- What is passed to a procedure is what it wants, where the tests of a call hold.
use Rattle.std.proofs.Common.{◌≡◌, ℕ, suc, ◌+◌, ◌-◌, ◌*◌, ◌/◌, ◌%◌, ◌≤◌, ◌<◌, ℤ, pos, negsuc, ◌+ℤ◌, ◌-ℤ◌, ◌*ℤ◌, ◌≤ℤ◌}
use Rattle.std.proofs.Common.{◌<ℤ◌, Bool, true, false, if◌then◌else◌, ◌||◌, not, inl, inr, List, [], ◌∷◌, length}
use Rattle.std.proofs.Common.{Option, Some, None, FitsSigned, refl, sym, ap, ◌∙◌, subst, arith}
use Rattle.std.specs.Int.{w32, cast_unsigned}
use Rattle.std.specs.Prelude.{slice_get, int_le, int_lt, nat_abs, ◌==◌, option_map, bit_and, ◌⊎◌, nat_lt, IsTrue}
use Rattle.std.specs.List.{list_all, list_any}
use Rattle.std.proofs.lemmas.Bool.{cases_lt, cases_eq, eqb-true, eq-eqb, le-leb, and_parts, ne_eqb, and_from}
use Rattle.std.proofs.lemmas.Bool.Decides.{leb_tells}
use Rattle.std.proofs.lemmas.Int.{ints}
use Rattle.module_format.specs.Rows.{Fact}
use Rattle.module_format.specs.declared.fact.Fact.TheVariants.{Number, Pointer, ReturnAddress}
use Rattle.module_format.specs.declared.fact.Region.{Region}
use Rattle.module_format.specs.declared.fact.Region.TheVariants as regions
use Rattle.module_format.specs.declared.fact.Step.TheVariants.{Word}
use Rattle.module_format.specs.declared.rows.Parameter.{Parameter}
use Rattle.module_format.specs.declared.rows.ParameterKind.{ParameterKind}
use Rattle.module_format.specs.declared.rows.ParameterKind.TheVariants.{Value, ReadRegion, WrittenRegion, Channels}
use Rattle.module_format.specs.Procedures.{KindKeeps, ProcedureKeeps}
use Rattle.module_format.specs.Order.{is_multiple_of_four}
use Rattle.module_format.specs.Contents.{Contents, Procedure, Par, Branch}
use Rattle.module_format.specs.Pars.{key_of}
use Rattle.module_format.specs.Places.{branches_of}
use Rattle.module_format.specs.Contexts.{first_branch, branch_count, owner, own_parameters, context_at, parameters_at}
use Rattle.module_format.specs.Contexts.{procedure_context}
use Rattle.module_format.proofs.PlaceLaws.{owner_below}
use Rattle.certificate.specs.Branches.{numbered_branch}
use Rattle.certificate.specs.Rights as rights
use Rattle.machine_state.specs.declared.process.Mode as machine
use Rattle.machine_state.specs.Memory.{place_of, data_start, word_at}
use Rattle.machine_state.specs.Holding.{Holding, has_end, may_write, may_read}
use Rattle.machine_state.specs.World.{constants_start}
use Rattle.machine_state.specs.Site.{Local}
use Rattle.states.specs.declared.known.WordFact.{WordFact}
use Rattle.states.specs.declared.known.WordFact.TheVariants.{Alone}
use Rattle.states.specs.State.{State, is_same_number, plain, parameter_fact, parameter_facts, procedure_facts}
use Rattle.states.specs.Below.{lies_within}
use Rattle.states.proofs.Procedures.{procedure-at}
use Rattle.rulings.specs.Meaning.{Layout, Activation, Means, MeansWord, is_pointer, is_fact, is_return_address}
use Rattle.rulings.specs.Meaning.{word_of, region_start, code_address, place_in, frame_word, word_at_place}
use Rattle.rulings.specs.Meaning.{IsReadableWord, HasFrame, words_in, frame_lo, frame_hi, IsWellFormed, says_nothing}
use Rattle.module_format.specs.declared.contexts.Context.{Context}
use Rattle.rulings.specs.Regions.{IsByteOf, Scope, scope_of, IsHeldRegion, IsNamed, HoldsNamed, channel_address}
use Rattle.rulings.specs.Regions.{IsWrittenAt, IsNamedAt}
use Rattle.certificate.specs.Words.{all_words}
use Rattle.states.specs.Spans.{together}
use Rattle.rulings.specs.Reach.{word_of_byte, words_touched, lie_in, readable_size, writable_size, readable_bytes}
use Rattle.rulings.specs.Reach.{writable_bytes, may_read_bytes, may_write_bytes, is_listed, kept_range}
use Rattle.call_rules.specs.CallRules as rule
use Rattle.call_rules.specs.declared.lent.Lent.{Lent}
use Rattle.call_rules.specs.CallRules.{Calling, callee_word, given, lent_from, lent, suits, parameter_suits}
use Rattle.call_rules.specs.CallRules.{numbers_suit, numbers_fit, is_off_callee, may_use, may_lend}
use Rattle.call_rules.specs.CallRules.{pointers_fit, frame_size, frame_is_own, lent_end, ends_are_held, holds_ends}
use Rattle.call_rules.specs.CallRules.{clash, are_apart, regions_are_apart, all_below, lengths_fit, give_other_ends}
use Rattle.rulings.specs.Channels.{channel_of, has_direction, further, is_length, channels_meet, message_length}
use Rattle.rulings.specs.Remaining.{only_read, not_used}
use Rattle.call_rules.proofs.OneName.{EndsPass, further_once, further_meet, share_direction, no_meeting, length_is}
use Rattle.rulings.proofs.Within.{Within, ArePlain}
use Rattle.rulings.proofs.Ends.{names}
use Rattle.rulings.proofs.EvenChannels.{channel_even}
use Rattle.call_rules.proofs.EndRuns.{end_held, all_below_at}
use Rattle.module_format.specs.declared.rows.EndKind.{EndKind}
use Rattle.module_format.specs.declared.rows.EndKind.TheVariants as end_kinds
use Rattle.module_format.specs.declared.rows.Direction.{Direction}
use Rattle.module_format.specs.declared.rows.Ends.{Ends as EndSet}
use Rattle.std.proofs.lemmas.Option.{slice_get_within}
use Rattle.std.proofs.lemmas.Bool.{cases_Bool}
use Rattle.small_laws.proofs.Comparisons.{lt-int_lt, int_le-true, int_lt-true, pos_from}
use Rattle.small_laws.proofs.Lookups.{list_all_at}
use Rattle.rulings.proofs.Words.{word_test, means_same, plain_means, frame_word_is}
use Rattle.rulings.proofs.Entering.{implies_means}
use Rattle.rulings.proofs.Combining.{readable_byte, written_readable}
use Rattle.rulings.proofs.Offsets.{address_of_word, place_of_address, place_behind, word_of_address, defined_inside}
use Rattle.rulings.proofs.Offsets.{offset_of_word, words_of_region, all_words_at}
use Rattle.rulings.proofs.Lending.{byte_index, number_means, wider_means, same_word, run_byte, named_at}
use Rattle.rulings.specs.Lends.{IsRegionKind, IsPart, of_frame, of_constants, of_parameter, PartOf, Part, Lends}
use Rattle.call_rules.proofs.CallTests.{other, stepped_natural, no_region, read_kind, same_as_equal}
use Rattle.call_rules.proofs.CallTests.{write_kind, readable_kind, LinkedBy, each_two_at, constant_known}
use Rattle.call_rules.proofs.CallTests.{stepped_further, whole_words, more_words, even_place, constants_aligned}
use Rattle.call_rules.proofs.CallTests.{constants_near, of_kind, lend_parts, words_parts, HoldsPointer, pointer_held}
use Rattle.call_rules.proofs.CallTests.{lent_fact, together_means, HasPassed, given_is}
use Rattle.rulings.proofs.EndNumbers.{parameter_keeps}
use Rattle.rulings.proofs.Words.{same_word_by}
use Rattle.rulings.proofs.Regions.{bytes_read, bytes_written}
use Rattle.rulings.proofs.Reaching.{lies_inside}
use Rattle.rulings.proofs.ReadThrough.{Usable, readable_found, writable_usable}
use Rattle.rulings.proofs.WriteThrough.{writable_kind}

-- ---- regions that are passed

-- how a parameter of the callee may use its region
abbrev pub may_use_place : Holding → Bool → ℕ → Bool
may_use_place h true = may_write h
may_use_place h false = may_read h

-- the range of a parameter of this kind suits
abbrev suits_kind : Lent → ParameterKind → Bool
suits_kind l kind = elim kind [
  | Value lo hi ↦ true
  | ReadRegion size lo hi ↦ suits l lo hi
  | WrittenRegion size lo hi ↦ suits l lo hi
  | Channels count len ends ↦ true
]

suits_read : (l : Lent) (kind : ParameterKind) → suits_kind l kind ≡ suits_kind l (only_read kind)
suits_read l (Value lo hi) = refl
suits_read l (ReadRegion size lo hi) = refl
suits_read l (WrittenRegion size lo hi) = refl
suits_read l (Channels count len ends) = refl

-- how many bytes a parameter names that may be used so
abbrev size_used : Bool → ParameterKind → Option ℕ
size_used true = writable_size
size_used false = readable_size

module _ (m : Contents) (h : Holding) (mode : machine.Mode) (act : Activation) (s : State) (l : Local)
    (wf : IsWellFormed m) (a : Within ArePlain m h mode act s l) (p : Procedure) (context : ℕ) (some : 1 ≤ context)
    (is : slice_get m.procedures (context - 1) ≡ Some p) (back : ℕ)
    (own : frame_is_own (record { contents = m; state = s; callee = p }) ≡ true) (passed : HasPassed s) where
  abbrev pub call : Calling
  call = record { contents = m; state = s; callee = p }

  -- the caller's word that is word 0 of the callee's frame, and its place
  abbrev pub base : ℤ
  base = s.depth +ℤ negsuc 3

  abbrev pub origin : ℤ
  origin = place_in act.layout.origin base

  -- what a parameter's word holds
  abbrev pub value : Parameter → Option ℤ
  value q = frame_word l.memory origin (pos q.word)

  abbrev pub address_held : Option ℤ → ℕ
  address_held None = 0
  address_held (Some x) = cast_unsigned w32 x

  abbrev pub start_of : Option Parameter → ℕ
  start_of None = 0
  start_of (Some q) = address_held (value q)

  -- where the callee's regions lie, and where it returns to
  abbrev pub layout : Layout
  layout = record {
    origin = origin;
    starts = λ j. start_of (slice_get p.parameters j);
    back = back;
    lengths = act.layout.lengths;
  }

  abbrev pub caller : Scope
  caller = scope_of m s.context act.layout

  abbrev pub callee : Scope
  callee = scope_of m context layout

  -- ---- the callee's frame

  row : (low : ℕ) × ProcedureKeeps (length m.code) low p
  row = wf.procedures (context - 1) p is

  pub callee_context : context_at m context ≡ Some (procedure_context p)
  callee_context = procedure-at m context p some is

  -- it has the words of its row
  pub callee_word_inside : (k : ℤ) → callee.words.reads k ≡ true → (p.lo ≤ℤ k) × (k <ℤ p.hi)
  callee_word_inside k t =
      let has = subst (λ c. rights.has_word c k ≡ true) callee_context (and_parts _ _ t).0 in
      let both = and_parts (int_le p.lo k) (int_lt k p.hi) has in
      (int_le-true p.lo k both.0, int_lt-true k p.hi both.1)

  pub callee_reads : (k : ℤ) → callee.words.writes k ≡ true → callee.words.reads k ≡ true
  callee_reads k t = written_readable m context k t

  -- its words are the caller's
  pub own_word : (k : ℤ) → p.lo ≤ℤ k → k <ℤ p.hi → caller.words.writes (base +ℤ k) ≡ true
  unfolding frame_is_own
  own_word k low high =
      let i = pos_from (k -ℤ p.lo) (omega (arith, ints)) in
      let n = pos_from (p.hi -ℤ p.lo) (omega (arith, ints)) in
      let size : frame_size p ≡ n.0 = ap nat_abs n.1 in
      subst (λ (z : ℤ). caller.words.writes z ≡ true) (omega (arith, ints, i.1))
      (all_words_at caller.words.writes (callee_word s p.lo) (frame_size p) i.0 own
      (omega (arith, ints, i.1, n.1, size)))

  pub own_read : (k : ℤ) → p.lo ≤ℤ k → k <ℤ p.hi → caller.words.reads (base +ℤ k) ≡ true
  own_read k low high = written_readable m s.context (base +ℤ k) (own_word k low high)

  -- a word of the callee's frame is the caller's
  pub same_place : (k : ℤ) → place_in origin k ≡ place_in act.layout.origin (base +ℤ k)
  same_place k = omega (arith, ints)

  pub same_frame_word : (k : ℤ) → frame_word l.memory origin k ≡ frame_word l.memory act.layout.origin (base +ℤ k)
  same_frame_word k = ap (word_at_place l.memory) (same_place k)

  -- what the caller knows of it holds
  pub known_word : (k : ℤ) → p.lo ≤ℤ k → k <ℤ p.hi → MeansWord m act (base +ℤ k) (s.frame (base +ℤ k))
      (frame_word l.memory origin k)
  known_word k low high =
      means_same (a.knows.words (base +ℤ k) (own_read k low high)) refl (sym (same_frame_word k))

  -- a parameter's word is one of them
  pub parameter_inside : (j : ℕ) (q : Parameter) → slice_get p.parameters j ≡ Some q
      → (p.lo ≤ℤ pos q.word) × (pos q.word <ℤ p.hi)
  parameter_inside j q found =
      let keeps = parameter_keeps p.hi 0 p.parameters j q row.1.parameters found in
      (omega (arith, ints, row.1.lo_high), keeps.1.inside)

  pub given_means : (j : ℕ) (q : Parameter) → slice_get p.parameters j ≡ Some q
      → MeansWord m act (callee_word s (pos q.word)) (given call q) (value q)
  given_means j q found =
      let inside = parameter_inside j q found in
      means_same (known_word (pos q.word) inside.0 inside.1) (sym (given_is call q passed)) refl

  -- where a parameter begins
  pub start_is : (j : ℕ) (q : Parameter) (x : ℤ) → slice_get p.parameters j ≡ Some q → value q ≡ Some x
      → layout.starts j ≡ cast_unsigned w32 x
  start_is j q x found held = ap start_of found ∙ ap address_held held

  -- ---- what is lent

  -- a region that is lent: it is the caller's, and the callee has it
  record IsPassed (size : ℕ) (lo hi : ℤ) (w : Bool) (region : Region) (first : ℤ) (start : ℕ) : Type 0 where
    part : IsPart m caller callee base region first (size / 4) lo hi w (place_of start)
    has : IsHeldRegion m (may_use_place h w) callee l.memory (place_of start) size lo hi

  abbrev a_lent : Region → ℤ → ℕ → ℤ → ℤ → Bool → Lent
  a_lent region first size lo hi w =
      record { region = region; first = first; size = size; lo = lo; hi = hi; is_written = w }

  readable_place : (w : Bool) (place : ℕ) → may_use_place h w place ≡ true → may_read h place ≡ true
  readable_place true place e = readable_byte h place e
  readable_place false place e = e

  -- of the frame
  module _ (size count : ℕ) (whole : size ≡ 4 * count) (at_least : 1 ≤ count) (lo hi : ℤ) (w : Bool)
      (word : ℤ) (start : ℕ)
      (usable : all_words (if w then caller.words.writes else caller.words.reads) word count ≡ true)
      (numbers : (together s.frame word count).are_numbers ≡ true) (off : is_off_callee call word count ≡ true)
      (suit : lies_within (together s.frame word count).lo (together s.frame word count).hi lo hi ≡ true) where
    reads_at : (b : Bool) (k : ℤ) → (if b then caller.words.writes else caller.words.reads) k ≡ true
        → caller.words.reads k ≡ true
    reads_at true k t = written_readable m s.context k t
    reads_at false k t = t

    reads : (i : ℕ) → i < count → caller.words.reads (word +ℤ pos i) ≡ true
    reads i low = reads_at w (word +ℤ pos i)
        (all_words_at (if w then caller.words.writes else caller.words.reads) word count i usable low)

    writes_at : (b : Bool) (k : ℤ) → (if b then caller.words.writes else caller.words.reads) k ≡ true → b ≡ true
        → caller.words.writes k ≡ true
    writes_at true k t e = t
    writes_at false k t e = absurd (cc)

    writes : (i : ℕ) → i < count → w ≡ true → caller.words.writes (word +ℤ pos i) ≡ true
    writes i low e = writes_at w (word +ℤ pos i)
        (all_words_at (if w then caller.words.writes else caller.words.reads) word count i usable low) e

    apart_from : (i : ℕ) (k : ℤ) → i < count → callee.words.reads k ≡ true → word +ℤ pos i ≡ base +ℤ k → ⊥
    apart_from i k low t e =
        let inside = callee_word_inside k t in
        elim (cases_Bool (int_le (word +ℤ pos count) (callee_word s p.lo))) [
          | inl before ↦ let b = int_le-true (word +ℤ pos count) (callee_word s p.lo) before in
              omega (arith, ints, b, e, inside.0, inside.1, low)
          | inr not_before ↦
              let behind : int_le (callee_word s p.hi) word ≡ true =
              sym (ap (λ (b : Bool). b || int_le (callee_word s p.hi) word) not_before) ∙ off in
              let b = int_le-true (callee_word s p.hi) word behind in omega (arith, ints, b, e, inside.0, inside.1, low)
        ]

    first_place : IsReadableWord h (length l.memory) act.layout.origin (word +ℤ pos 0)
    first_place = a.frame.readable (word +ℤ pos 0) (reads 0 (omega arith))

    place : ℕ
    place = first_place.place

    place_is : pos first_place.place ≡ place_in act.layout.origin word
    place_is = let e = first_place.is in omega (arith, ints, e)

    -- the byte of one of these words
    byte_usable : (b : Bool) (k : ℤ) (n i : ℕ) → (if b then caller.words.writes else caller.words.reads) k ≡ true
        → pos n ≡ place_in act.layout.origin k → i < 4 → may_use_place h b (n + i) ≡ true
    byte_usable true k n i t e low =
        let v = a.frame.own k t in
        let same : v.place ≡ n = let q = v.is in omega (arith, ints, q, e) in
        subst (λ (q : ℕ). may_write h (q + i) ≡ true) same (bytes_written h v.place v.mine i low)
    byte_usable false k n i t e low =
        let v = a.frame.readable k t in
        let same : v.place ≡ n = let q = v.is in omega (arith, ints, q, e) in
        subst (λ (q : ℕ). may_read h (q + i) ≡ true) same (bytes_read h v.place v.readable i low)

    frame_passed : (first : ℤ) → first ≡ pos 4 *ℤ word → place_of start ≡ first_place.place
        → IsPassed size lo hi w regions.Frame first start
    frame_passed first f at = record {
      part = subst (λ (n : ℕ). IsPart m caller callee base regions.Frame first n lo hi w (place_of start))
          (omega (arith, whole))
          (of_frame word refl f (omega (arith, ints, at, place_is)) reads writes apart_from);
      has = subst (λ (n : ℕ). IsHeldRegion m (may_use_place h w) callee l.memory n size lo hi) (sym at) (record {
        whole = whole_words size count whole;
        aligned = even_place act.layout.origin word first_place.place a.named.even place_is;
        held = λ i low.
            subst (λ (n : ℕ). may_use_place h w n ≡ true) (omega arith)
            (byte_usable w (word +ℤ pos (i / 4)) (first_place.place + 4 * (i / 4)) (i % 4)
            (all_words_at (if w then caller.words.writes else caller.words.reads) word count (i / 4) usable
            (omega (arith, whole)))
            (omega (arith, ints, place_is)) (omega arith));
        beside = λ k i t low b. apart_from (i / 4) k (omega (arith, whole)) t
            (same_word act.layout.origin (word +ℤ pos (i / 4)) (base +ℤ k) (first_place.place + i)
            (run_byte act.layout.origin word first_place.place i place_is)
            (record { low = omega (arith, ints, b.low); high = omega (arith, ints, b.high) }));
        numbers = λ i fits.
            let low : i < count = omega (arith, whole) in
            let both = and_parts (int_le lo (together s.frame word count).lo)
            (int_le (together s.frame word count).hi hi) suit in
            let means = together_means {act = act} s.frame word count i
            (frame_word l.memory act.layout.origin (word +ℤ pos i))
            low numbers (a.knows.words (word +ℤ pos i) (reads i low)) in
            let within : Means m act.layout (Number lo hi) (frame_word l.memory act.layout.origin (word +ℤ pos i)) =
            wider_means (int_le-true lo _ both.0) (int_le-true _ hi both.1) means in
            number_means (subst (λ (v : Option ℤ). Means m act.layout (Number lo hi) v)
            (frame_word_is l.memory act.layout.origin (word +ℤ pos i) (first_place.place + 4 * i)
            (omega (arith, ints, place_is))) within);
      });
    }

  -- a region of another size and range is the same where these are equal
  same_region : {may : ℕ → Bool} {place size total : ℕ} {lo hi low high : ℤ}
      → (size ≡ total) × (lo ≡ low) × (hi ≡ high) → IsHeldRegion m may caller l.memory place size lo hi
      → IsHeldRegion m may caller l.memory place total low high
  same_region {may} {place} {size} {total} {lo} {hi} {low} {high} same region =
      subst (λ (z : ℤ). IsHeldRegion m may caller l.memory place total low z) same.2
      (subst (λ (z : ℤ). IsHeldRegion m may caller l.memory place total z hi) same.1
      (subst (λ (n : ℕ). IsHeldRegion m may caller l.memory place n lo hi) same.0 region))

  -- of the caller's parameter of this number
  module _ (size count : ℕ) (whole : size ≡ 4 * count) (at_least : 1 ≤ count) (lo hi : ℤ) (w : Bool) (q n : ℕ)
      (r : Parameter)
      (found : caller.parameters q ≡ Some r) (start : ℕ)
      (at : start ≡ (act.layout.starts q + 4 * n) % 4294967296) where
    module _ (total : ℕ) (low high : ℤ) (kind : IsRegionKind r.kind total low high)
        (may : ℕ → Bool) (region : IsHeldRegion m may caller l.memory (place_of (act.layout.starts q)) total low high)
        (may_so : (place : ℕ) → may place ≡ true → may_use_place h w place ≡ true)
        (writes : w ≡ true → r.kind ≡ WrittenRegion total lo hi) (below : lo ≤ℤ low) (above : high ≤ℤ hi)
        (fits : 4 * n + 4 * count ≤ total) where
      last_inside : place_of (act.layout.starts q) + 4 * (n + (count - 1)) + 4 ≤ length l.memory
      last_inside = on_value (word_at l.memory (place_of (act.layout.starts q) + 4 * (n + (count - 1)))) refl
          (region.numbers (n + (count - 1)) (omega arith))
        where
          on_value : (v : Option ℤ) → word_at l.memory (place_of (act.layout.starts q) + 4 * (n + (count - 1))) ≡ v
              → Means m act.layout (Number low high) v
              → place_of (act.layout.starts q) + 4 * (n + (count - 1)) + 4 ≤ length l.memory
          on_value None e means = elim means [ ]
          on_value (Some x) e means = defined_inside l.memory _ x e

      part_place : place_of start ≡ place_of (act.layout.starts q) + 4 * n
      part_place = ap place_of at ∙ place_behind (act.layout.starts q) (4 * n)
          (let i = last_inside in let b = a.frame.small in omega arith)

      parameter_passed : (first : ℤ) → first ≡ pos (4 * n)
          → IsPassed size lo hi w (regions.Parameter q) first start
      parameter_passed first f = record {
        part = subst
            (λ (c : ℕ). IsPart m caller callee base (regions.Parameter q) first c lo hi w (place_of start))
            (omega (arith, whole))
            (of_parameter q r n total low high refl f found kind writes below above part_place fits);
        has = subst (λ (place : ℕ). IsHeldRegion m (may_use_place h w) callee l.memory place size lo hi)
            (sym part_place) (record {
              whole = whole_words size count whole;
              aligned = more_words (place_of (act.layout.starts q)) n region.aligned;
              held = λ i low'. subst (λ (place : ℕ). may_use_place h w place ≡ true) (omega arith)
                  (may_so _ (region.held (4 * n + i) (omega (arith, whole))));
              beside = λ k i t low' b.
                  let inside = callee_word_inside k t in
                  region.beside (base +ℤ k) (4 * n + i) (own_read k inside.0 inside.1) (omega (arith, whole))
                  (record { low = omega (arith, ints, b.low); high = omega (arith, ints, b.high) });
              numbers = λ i fits'. subst (λ (place : ℕ). Means m layout (Number lo hi) (word_at l.memory place))
                  (omega arith)
                  (wider_means below above (region.numbers (n + i) (omega (arith, whole))));
            });
      }

  -- of the constants
  module _ (size count : ℕ) (whole : size ≡ 4 * count) (at_least : 1 ≤ count) (lo hi : ℤ) (n start : ℕ)
      (aligned : n ≡ 4 * (n / 4))
      (at : place_of start ≡ constants_start m + n) (fits : n + 4 * count ≤ length m.constants)
      (numbers : (i : ℕ) → i < count → Means m act.layout (Number lo hi)
      (word_at l.memory (constants_start m + n + 4 * i))) where
    constants_passed : (first : ℤ) → first ≡ pos n → IsPassed size lo hi false regions.Constants first start
    constants_passed first f = record {
      part = subst (λ (c : ℕ). IsPart m caller callee base regions.Constants first c lo hi false (place_of start))
          (omega (arith, whole))
          (of_constants n refl f refl at fits);
      has = subst (λ (place : ℕ). IsHeldRegion m (may_read h) callee l.memory place size lo hi) (sym at) (record {
        whole = whole_words size count whole;
        aligned = constants_aligned m n aligned;
        held = λ i low. subst (λ (place : ℕ). may_read h place ≡ true) (omega arith)
            (a.named.constants.readable (n + i) (omega (arith, whole)));
        beside = λ k i t low b.
            let inside = callee_word_inside k t in
            let w = a.frame.own (base +ℤ k) (own_word k inside.0 inside.1) in
            let is = w.is in
            let j = pos_from (pos (constants_start m + n + i) -ℤ pos w.place) (omega (arith, ints, is, b.low)) in
            let low' = a.named.constants.behind (w.place + j.0)
            (bytes_written h w.place w.mine j.0 (omega (arith, ints, is, b.high, j.1))) in
            omega (arith, ints, j.1, low');
        numbers = λ i fits'. number_means (numbers i (omega (arith, whole)));
      });
    }

  -- ---- what a parameter is passed

  -- a parameter that is lent a region: the parameter's word holds its address
  record IsLent (size : ℕ) (lo hi : ℤ) (w : Bool) (j : ℕ) (q : Parameter) : Type 0 where
    region : Region
    first : ℤ
    whole : size ≡ 4 * (size / 4)
    pointer : HoldsPointer m act.layout region first (value q)
    part_is : IsPassed size lo hi w region first (layout.starts j)
    lent_is : lent_from size lo hi w (given call q) ≡ Some (a_lent region first size lo hi w)

  -- the place that a parameter's word names
  at_address : (j : ℕ) (q : Parameter) → slice_get p.parameters j ≡ Some q → (region : Region) (first : ℤ)
      → (held : HoldsPointer m act.layout region first (value q)) → (place : ℕ)
      → region_start m act.layout region +ℤ first ≡ pos (data_start + place) → place ≤ 2147483391
      → place_of (layout.starts j) ≡ place
  at_address j q found region first held place is low =
      ap place_of (start_is j q held.x found held.is)
      ∙ ap (λ (x : ℤ). place_of (cast_unsigned w32 x)) held.address
      ∙ place_of_address (region_start m act.layout region +ℤ first) place is low

  -- bytes of a parameter of the caller's that it may use so
  record Uses (w : Bool) (k : ℕ) (first end : ℤ) : Type 0 where
    r : Parameter
    found : caller.parameters k ≡ Some r
    was : Parameter
    was_found : slice_get (parameters_at m s.context) k ≡ Some was
    is_used : (r.kind ≡ was.kind) ⊎ (r.kind ≡ only_read was.kind)
    total : ℕ
    low : ℤ
    high : ℤ
    kind : IsRegionKind r.kind total low high
    written : w ≡ true → r.kind ≡ WrittenRegion total low high
    from : pos 0 ≤ℤ first
    to : end ≤ℤ pos total

  uses_bytes : (w : Bool) (k : ℕ) (first end : ℤ)
      → lie_in (if w then writable_bytes m s.context k else readable_bytes m s.context k) first end ≡ true
      → Uses w k first end
  uses_bytes w k first end inside =
      let f = lies_inside (if w then writable_bytes m s.context k else readable_bytes m s.context k) first end inside in
      let u = usable w f.0 f.1 in
      record {
        r = u.parameter;
        found = u.found;
        was = u.was;
        was_found = u.was_found;
        is_used = u.is_used;
        total = f.0;
        low = (kept_range u.parameter.kind).lo;
        high = (kept_range u.parameter.kind).hi;
        kind = kind_of w u.parameter.kind f.0 u.has;
        written = written_of w u.parameter.kind f.0 u.has;
        from = f.2;
        to = f.3;
      }
    where
      usable : (w : Bool) (size : ℕ)
          → (if w then writable_bytes m s.context k else readable_bytes m s.context k) ≡ Some size
          → Usable m (size_used w) s.context k size
      usable true size e = writable_usable m s.context k size e
      usable false size e = readable_found m s.context k size e

      kind_of : (w : Bool) (kind : ParameterKind) (size : ℕ) → size_used w kind ≡ Some size
          → IsRegionKind kind size (kept_range kind).lo (kept_range kind).hi
      kind_of true kind size e = inr (writable_kind kind size e)
      kind_of false kind size e = readable_kind kind size e

      written_of : (w : Bool) (kind : ParameterKind) (size : ℕ) → size_used w kind ≡ Some size → w ≡ true
          → kind ≡ WrittenRegion size (kept_range kind).lo (kept_range kind).hi
      written_of true kind size e t = writable_kind kind size e
      written_of false kind size e t = absurd (cc)

  -- whether a range suits does not hang on how the region is used
  suits_used : (l : Lent) (was r : Parameter) → (r.kind ≡ was.kind) ⊎ (r.kind ≡ only_read was.kind)
      → parameter_suits l (Some was) ≡ parameter_suits l (Some r)
  suits_used l was r (inl e) = ap (suits_kind l) (sym e)
  suits_used l was r (inr e) = suits_read l was.kind ∙ ap (suits_kind l) (sym e)

  -- the ranges of two regions suit
  record Ranges (lo hi low high : ℤ) (w : Bool) : Type 0 where
    below : lo ≤ℤ low
    above : high ≤ℤ hi
    same : w ≡ true → (low ≡ lo) × (high ≡ hi)

  ranges_of : (region : Region) (first : ℤ) (size : ℕ) (lo hi low high : ℤ) (w : Bool)
      → suits (a_lent region first size lo hi w) low high ≡ true → Ranges lo hi low high w
  ranges_of region first size lo hi low high true h =
      let both = and_parts (is_same_number low lo) (is_same_number high hi) h in
      let l : low ≡ lo = same_word_by low lo both.0 in
      let u : high ≡ hi = same_word_by high hi both.1 in
      record { below = omega (arith, ints, l); above = omega (arith, ints, u); same = λ e. (l, u) }
  ranges_of region first size lo hi low high false h =
      let both = and_parts (int_le lo low) (int_le high hi) h in
      record { below = int_le-true lo low both.0; above = int_le-true high hi both.1; same = λ e. absurd (cc) }

  module _ (j : ℕ) (q : Parameter) (found : slice_get p.parameters j ≡ Some q) (size count : ℕ)
      (whole : size ≡ 4 * count)
      (at_least : 1 ≤ count) (lo hi : ℤ) (w : Bool) where
    -- a region that may be lent from a byte on, to which the parameter's word points
    record MayLend (region : Region) (first : ℤ) : Type 0 where
      suit : numbers_suit call (a_lent region first size lo hi w) ≡ true
      may : may_lend call (a_lent region first size lo hi w) ≡ true
      held : HoldsPointer m act.layout region first (value q)

    -- where a parameter of the caller's lends
    of_own : (k : ℕ) (first : ℤ) → MayLend (regions.Parameter k) first
        → IsPassed size lo hi w (regions.Parameter k) first (layout.starts j)
    unfolding numbers_suit may_read_bytes may_write_bytes
    of_own k first lends =
        let used = (lend_parts call (a_lent (regions.Parameter k) first size lo hi w) lends.may).0 in
        let u = uses_bytes w k first (lent_end (a_lent (regions.Parameter k) first size lo hi w)) (on_use w used) in
        let n = pos_from first u.from in
        let ranges = ranges_of (regions.Parameter k) first size lo hi u.low u.high w
        (of_kind (a_lent (regions.Parameter k) first size lo hi w) u.r u.total u.low u.high u.kind
        (sym (suits_used (a_lent (regions.Parameter k) first size lo hi w) u.was u.r u.is_used)
        ∙ sym (ap (parameter_suits (a_lent (regions.Parameter k) first size lo hi w)) u.was_found) ∙ lends.suit)) in
        let quarter : n.0 ≡ 4 * (n.0 / 4) = stepped_natural first n.0 n.1 lends.held.stepped in
        let to = u.to in
        let fits : 4 * (n.0 / 4) + 4 * count ≤ u.total = omega (arith, ints, to, n.1, quarter, whole) in
        let address : layout.starts j ≡ (act.layout.starts k + 4 * (n.0 / 4)) % 4294967296 =
        start_is j q lends.held.x found lends.held.is ∙ ap (cast_unsigned w32) lends.held.address
        ∙ ap (λ (z : ℤ). cast_unsigned w32 (word_of (pos (act.layout.starts k) +ℤ z))) n.1
        ∙ address_of_word (act.layout.starts k + n.0)
        ∙ ap (λ (i : ℕ). (act.layout.starts k + i) % 4294967296) quarter in
        on_kind u.r.kind k (n.0 / 4) u.r refl u.found u.total u.low u.high u.kind u.written ranges address
        fits first (n.1 ∙ ap pos quarter) (a.named.each k u.r u.found)
      where
        on_use : (w : Bool) → rule.may_use call (a_lent (regions.Parameter k) first size lo hi w) ≡ true
            → lie_in (if w then writable_bytes m s.context k else readable_bytes m s.context k) first
            (lent_end (a_lent (regions.Parameter k) first size lo hi w)) ≡ true
        on_use true used = used
        on_use false used = used

        on_read : (w : Bool) (place : ℕ) → (w ≡ true → ⊥) → may_read h place ≡ true → may_use_place h w place ≡ true
        on_read true place no' may = absurd (no' refl)
        on_read false place no' may = may

        on_write : (w : Bool) (place : ℕ) → may_write h place ≡ true → may_use_place h w place ≡ true
        on_write true place may = may
        on_write false place may = readable_byte h place may

        on_kind : (kind : ParameterKind) (k n : ℕ) (r : Parameter) → r.kind ≡ kind
            → caller.parameters k ≡ Some r
            → (total : ℕ) (low high : ℤ) → IsRegionKind r.kind total low high
            → (w ≡ true → r.kind ≡ WrittenRegion total low high)
            → Ranges lo hi low high w → layout.starts j ≡ (act.layout.starts k + 4 * n) % 4294967296
            → 4 * n + 4 * count ≤ total
            → (first : ℤ) → first ≡ pos (4 * n)
            → IsNamed m h caller l.memory kind (act.layout.starts k)
            → IsPassed size lo hi w (regions.Parameter k) first (layout.starts j)
        on_kind (Value lo' hi') k n r e found total low high is_kind written ranges at fits first first_is named =
            let no' : false ≡ true = no_region (Value lo' hi') r.kind total low high e is_kind in absurd (cc)
        on_kind (ReadRegion size' lo' hi') k n r e found total low high is_kind written ranges at fits first
            first_is named =
            parameter_passed size count whole at_least lo hi w k n r found (layout.starts j) at total low high is_kind
            (may_read h) (same_region (read_kind r.kind size' total lo' hi' low high e is_kind) named)
            (λ place may. on_read w place (λ t. let no' : ReadRegion size' lo' hi' ≡ WrittenRegion total low high =
            sym e ∙ written t in cc) may)
            (λ t. let no' : ReadRegion size' lo' hi' ≡ WrittenRegion total low high = sym e ∙ written t in absurd (cc))
            ranges.below ranges.above fits first first_is
        on_kind (WrittenRegion size' lo' hi') k n r e found total low high is_kind written ranges at fits first
            first_is named =
            parameter_passed size count whole at_least lo hi w k n r found (layout.starts j) at total low high is_kind
            (may_write h) (same_region (write_kind r.kind size' total lo' hi' low high e is_kind) named)
            (λ place may. on_write w place may)
            (λ t. written t ∙ ap (λ (z : ℤ). WrittenRegion total z high) (ranges.same t).0
            ∙ ap (λ (z : ℤ). WrittenRegion total lo z) (ranges.same t).1)
            ranges.below ranges.above fits first first_is
        on_kind (Channels count' len ends) k n r e found total low high is_kind written ranges at fits first
            first_is named = (let no' : false ≡ true =
            no_region (Channels count' len ends) r.kind total low high e is_kind in absurd (cc))

    -- where the frame lends
    of_words : (first : ℤ) → MayLend regions.Frame first → IsPassed size lo hi w regions.Frame first (layout.starts j)
    unfolding numbers_suit may_read_bytes may_write_bytes
    of_words first lends =
        let word : ℤ = word_of_byte first in
        let f : first ≡ pos 4 *ℤ word = offset_of_word first lends.held.stepped in
        let size_is : size / 4 ≡ count = omega (arith, whole) in
        let both = lend_parts call (a_lent regions.Frame first size lo hi w) lends.may in
        let parts = words_parts call (a_lent regions.Frame first size lo hi w) both.1 in
        let many : words_touched first (lent_end (a_lent regions.Frame first size lo hi w)) ≡ count =
        ap (λ (z : ℤ). words_touched z (z +ℤ pos size)) f
        ∙ ap (λ (n : ℕ). words_touched (pos 4 *ℤ word) (pos 4 *ℤ word +ℤ pos n)) whole
        ∙ words_of_region word count at_least in
        let usable : all_words (if w then caller.words.writes else caller.words.reads) word count ≡ true =
        subst (λ (n : ℕ). all_words (if w then caller.words.writes else caller.words.reads) word n ≡ true) many
        (on_use w first both.0) in
        let number = subst (λ (n : ℕ). (together s.frame word n).are_numbers ≡ true) size_is parts.0 in
        let off = subst (λ (n : ℕ). is_off_callee call word n ≡ true) size_is parts.1 in
        let suits_it = subst (λ (n : ℕ). lies_within (together s.frame word n).lo
        (together s.frame word n).hi lo hi ≡ true) size_is lends.suit in
        let there = first_place size count whole at_least lo hi w word (layout.starts j) usable number off suits_it in
        let start : pos data_start +ℤ act.layout.origin +ℤ first ≡ pos (data_start + there.place) =
        let e = there.is in omega (arith, ints, e, f) in
        let at : place_of (layout.starts j) ≡ there.place =
        at_address j q found regions.Frame first lends.held there.place start
        (let i = there.inside in let b = a.frame.small in omega arith) in
        frame_passed size count whole at_least lo hi w word
        (layout.starts j) usable number off suits_it first f at
      where
        on_use : (w : Bool) (first : ℤ)
            → rule.may_use call (a_lent regions.Frame first size lo hi w) ≡ true
            → all_words (if w then caller.words.writes else caller.words.reads) (word_of_byte first)
            (words_touched first (lent_end (a_lent regions.Frame first size lo hi w))) ≡ true
        on_use true first used = used
        on_use false first used = used

    -- where the constants lend
    of_the_constants : (first : ℤ) → MayLend regions.Constants first
        → IsPassed size lo hi w regions.Constants first (layout.starts j)
    unfolding numbers_suit may_read_bytes may_write_bytes
    of_the_constants first lends =
        on_written w refl lends.suit (lend_parts call (a_lent regions.Constants first size lo hi w) lends.may).0
      where
        inside : (lo hi : ℤ) (w : Bool) → w ≡ false
            → rule.may_use call (a_lent regions.Constants first size lo hi w) ≡ true
            → lie_in (Some (length m.constants)) first (lent_end (a_lent regions.Constants first size lo hi w)) ≡ true
        inside lo hi true no' used = absurd (cc)
        inside lo hi false no' used = used

        not_written : (lo hi : ℤ) (w : Bool) → rule.may_use call (a_lent regions.Constants first size lo hi w) ≡ true
            → w ≡ false
        not_written lo hi false used = refl
        not_written lo hi true used = let no' : false ≡ true = used in absurd (cc)

        on_written : (v : Bool) → w ≡ v
            → numbers_suit call (a_lent regions.Constants first size lo hi w) ≡ true
            → rule.may_use call (a_lent regions.Constants first size lo hi w) ≡ true
            → IsPassed size lo hi w regions.Constants first (layout.starts j)
        on_written true e suit used = let no' : true ≡ false = sym e ∙ not_written lo hi w used in absurd (cc)
        on_written false e suit used =
            let both = and_parts (int_le (pos 0) first)
            (int_le (lent_end (a_lent regions.Constants first size lo hi w)) (pos (length m.constants)))
            (inside lo hi w e used) in
            let n = pos_from first (int_le-true (pos 0) first both.0) in
            let to =
            int_le-true (lent_end (a_lent regions.Constants first size lo hi w)) (pos (length m.constants)) both.1 in
            let fits : n.0 + 4 * count ≤ length m.constants = omega (arith, ints, to, n.1, whole) in
            let start : pos (data_start + constants_start m) +ℤ first ≡ pos (data_start + (constants_start m + n.0)) =
            let f = n.1 in omega (arith, ints, f) in
            let at = at_address j q found regions.Constants first lends.held (constants_start m + n.0) start
            (constants_near m n.0 wf (omega (arith, fits))) in
            subst (λ (b : Bool). IsPassed size lo hi b regions.Constants first (layout.starts j)) (sym e)
            (constants_passed size count whole at_least lo hi n.0 (layout.starts j)
            (stepped_natural first n.0 n.1 lends.held.stepped) at fits
            (λ i low. constant_known m wf act l.memory a.named.constants first n.0
            (lent_end (a_lent regions.Constants first size lo hi w)) lo hi
            (constants_start m + n.0 + 4 * i) (n.0 + 4 * i) (omega arith)
            (let q = stepped_natural first n.0 n.1 lends.held.stepped in omega arith)
            (let f = n.1 in omega (arith, ints, f)) (let f = n.1 in omega (arith, ints, f, whole))
            (omega (arith, fits)) suit)
            first n.1)

    of_region : (region : Region) (first : ℤ) → MayLend region first
        → IsPassed size lo hi w region first (layout.starts j)
    of_region regions.Frame first lends = of_words first lends
    of_region regions.Constants first lends = of_the_constants first lends
    of_region (regions.Parameter k) first lends = of_own k first lends

    -- what a region parameter is lent
    passed_region : (o : Option Lent) → lent_from size lo hi w (given call q) ≡ o
        → (elim o as (λ o. Bool) [ None ↦ true | Some l ↦ numbers_suit call l ]) ≡ true
        → (elim o as (λ o. Bool) [ None ↦ false | Some l ↦ may_lend call l ]) ≡ true → IsLent size lo hi w j q
    passed_region None e suit may = absurd (cc)
    passed_region (Some l) e suit may =
        let fact = lent_fact size lo hi w (given call q) l e in
        let held = pointer_held m act (callee_word s (pos q.word)) l.region l.first (value q)
        (means_same (given_means j q found) fact.0 refl) in
        let suit' = subst (λ (x : Lent). numbers_suit call x ≡ true) fact.1 suit in
        let may' = subst (λ (x : Lent). may_lend call x ≡ true) fact.1 may in
        let lends : MayLend l.region l.first = record { suit = suit'; may = may'; held = held } in
        record {
          region = l.region;
          first = l.first;
          whole = omega (arith, whole);
          pointer = held;
          part_is = of_region l.region l.first lends;
          lent_is = e ∙ ap (λ (x : Lent). Some x) fact.1;
        }

  -- ---- each parameter

  -- a parameter's word holds the address of what it names
  address_means : (j : ℕ) (q : Parameter) → slice_get p.parameters j ≡ Some q → (x : ℤ) → value q ≡ Some x
      → FitsSigned w32 x → Means m layout (Pointer (regions.Parameter j) (pos 0) (pos 0) Word) (value q)
  address_means j q found x held fits =
      subst (λ (v : Option ℤ). Means m layout (Pointer (regions.Parameter j) (pos 0) (pos 0) Word) v) (sym held)
      (is_pointer (pos 0) (omega (arith, ints)) (omega (arith, ints)) refl
      (word_of_address x fits ∙ ap word_of (sym region)))
    where
      region : region_start m layout (regions.Parameter j) +ℤ pos 0 ≡ pos (cast_unsigned w32 x)
      region = ap (λ (n : ℕ). pos n +ℤ pos 0) (start_is j q x found held) ∙ omega (arith, ints)

  -- what the callee has of a parameter
  pub record Passed (j : ℕ) (kind : ParameterKind) (v : Option ℤ) (fact : WordFact) : Type 0 where
    pub part : Part m caller callee base kind (layout.starts j)
    pub named : IsNamed m h callee l.memory kind (layout.starts j)
    pub means : Means m layout (parameter_fact j kind) v
    pub linked : LinkedBy kind fact part.region part.first

  kind_kept : (j : ℕ) (q : Parameter) → slice_get p.parameters j ≡ Some q → KindKeeps q.kind
  kind_kept j q found = (parameter_keeps p.hi 0 p.parameters j q row.1.parameters found).1.kind

  passed_lent : (j : ℕ) (q : Parameter) → slice_get p.parameters j ≡ Some q → (size : ℕ) (lo hi : ℤ) (w : Bool)
      → KindKeeps (ReadRegion size lo hi)
      → (elim (lent_from size lo hi w (given call q)) as (λ o. Bool) [ None ↦ true | Some l ↦ numbers_suit call l ])
      ≡ true
      → (elim (lent_from size lo hi w (given call q)) as (λ o. Bool) [ None ↦ false | Some l ↦ may_lend call l ]) ≡ true
      → IsLent size lo hi w j q
  passed_lent j q found size lo hi w keeps suit may =
      let e : size % 4 ≡ 0 = eqb-true (size % 4) 0 keeps.words in
      let least = keeps.some in
      let whole : size ≡ 4 * (size / 4) = omega arith in
      passed_region j q found size (size / 4) whole (omega (arith, whole)) lo hi w
      (lent_from size lo hi w (given call q)) refl suit may

  -- a parameter that names a region has what it is lent
  passed_of : (kind : ParameterKind) (j : ℕ) (q : Parameter) (size : ℕ) (lo hi : ℤ) (w : Bool)
      → slice_get p.parameters j ≡ Some q → (it : IsLent size lo hi w j q)
      → PartOf m caller callee base kind (layout.starts j) it.region it.first (size / 4)
      → IsNamed m h callee l.memory kind (layout.starts j)
      → parameter_fact j kind ≡ Pointer (regions.Parameter j) (pos 0) (pos 0) Word
      → LinkedBy kind (given call q) it.region it.first → Passed j kind (value q) (given call q)
  passed_of kind j q size lo hi w found it part named fact linked = record {
    part = record { region = it.region; first = it.first; count = size / 4; is = part };
    named = named;
    means = subst (λ (f : Fact). Means m layout f (value q)) (sym fact)
        (address_means j q found it.pointer.x it.pointer.is it.pointer.fits);
    linked = linked;
  }

  pub passed_at : (j word : ℕ) (kind : ParameterKind)
      → slice_get p.parameters j ≡ Some (record { word = word; kind = kind })
      → numbers_fit call (record { word = word; kind = kind }) ≡ true
      → pointers_fit call (record { word = word; kind = kind }) ≡ true
      → ends_are_held call (record { word = word; kind = kind }) ≡ true
      → lengths_fit call (record { word = word; kind = kind }) ≡ true
      → Passed j kind (value (record { word = word; kind = kind })) (given call (record { word = word; kind = kind }))
  unfolding numbers_fit pointers_fit ends_are_held lengths_fit
  passed_at j word (Value lo hi) found numbers pointers ends lengths = record {
    part = record { region = regions.Frame; first = pos 0; count = 0; is = tt };
    named = tt;
    means = number_means (implies_means m act.layout (plain (given call (record { word = word; kind = Value lo hi })))
        (Number lo hi) _ numbers
        (plain_means m act (callee_word s (pos word)) (given call (record { word = word; kind = Value lo hi })) _
        (given_means j (record { word = word; kind = Value lo hi }) found)));
    linked = tt;
  }
  passed_at j word (ReadRegion size lo hi) found numbers pointers ends lengths =
      let q : Parameter = record { word = word; kind = ReadRegion size lo hi } in
      let it = passed_lent j q found size lo hi false (kind_kept j q found) numbers pointers in
      passed_of (ReadRegion size lo hi) j q size lo hi false found it (it.whole, it.part_is.part) it.part_is.has
      refl it.lent_is
  passed_at j word (WrittenRegion size lo hi) found numbers pointers ends lengths =
      let q : Parameter = record { word = word; kind = WrittenRegion size lo hi } in
      let it = passed_lent j q found size lo hi true (kind_kept j q found) numbers pointers in
      passed_of (WrittenRegion size lo hi) j q size lo hi true found it (it.whole, it.part_is.part) it.part_is.has
      refl it.lent_is
  passed_at j word (Channels count len ends) found numbers pointers held lengths =
      on_channel (channel_of (given call q)) refl held lengths
    where
      q : Parameter
      q = record { word = word; kind = Channels count len ends }

      -- channels begin where the caller has one
      even_start : (v : ℤ) → value q ≡ Some v → (first : EndKind)
          → channel_address act.layout first ≡ (cast_unsigned w32 v + 4 * 0) % 4294967296
          → message_length m s.context first ≡ Some len → IsTrue (is_multiple_of_four (layout.starts j))
      even_start v held first at known =
          let even = channel_even m h s.context act.layout l.memory a.named first len known in
          eq-eqb (layout.starts j % 4) 0
          (ap (λ (n : ℕ). n % 4) (start_is j q v found held) ∙ rest (cast_unsigned w32 v) at even)
        where
          rest : (n : ℕ) → channel_address act.layout first ≡ (n + 4 * 0) % 4294967296
              → channel_address act.layout first % 4 ≡ 0 → n % 4 ≡ 0
          rest n at even = omega (arith, at, even)

      on_channel : (o : Option EndKind) → channel_of (given call q) ≡ o
          → (elim o as (λ o. Bool) [ None ↦ false | Some first ↦ holds_ends m s.context first count ends.0 ]) ≡ true
          → (elim o as (λ o. Bool) [
            | None ↦ true
            | Some first ↦ all_below count (λ n. is_length len (message_length m s.context (further first n)))
          ]) ≡ true
          → Passed j (Channels count len ends) (value q) (given call q)
      on_channel None e h g = absurd (cc)
      on_channel (Some first) e h g =
          let n = names m act (callee_word s (pos word)) (given call q) first (value q) e (given_means j q found) in
          record {
            part = record { region = regions.Frame; first = pos 0; count = 0; is = tt };
            named = even_start n.x n.is (further first 0) (n.addresses 0)
                (length_is len _ (all_below_at count 0
                (λ i. is_length len (message_length m s.context (further first i))) g (kind_kept j q found).some));
            means = address_means j q found n.x n.is n.fits;
            linked = tt;
          }

  -- ---- the callee's tables

  pub row_inside : context < first_branch m
  row_inside = let low = slice_get_within m.procedures (context - 1) p is in omega arith

  pub parameters_are : parameters_at m context ≡ p.parameters
  unfolding parameters_at
  parameters_are =
      ap (λ (b : Bool). if b then own_parameters m (owner (first_branch m) m.pars context) else [])
      (le-leb (suc context) (first_branch m + branch_count m.pars) (let low = row_inside in omega arith))
      ∙ ap (own_parameters m) (owner_below (first_branch m) m.pars context row_inside)
      ∙ ap (λ (b : Bool). if b then [] else
      (elim (slice_get m.procedures (context - 1)) as (λ o. List Parameter) [ None ↦ [] | Some p ↦ p.parameters ]))
      (ne_eqb context 0 (λ e. omega (arith, e)))
      ∙ ap (λ (o : Option Procedure). elim o as (λ o. List Parameter) [ None ↦ [] | Some p ↦ p.parameters ]) is

  pub no_branch : numbered_branch m context ≡ None
  no_branch = ap (λ (b : Bool). if b then None else slice_get (branches_of m.pars) (context - first_branch m))
      (le-leb (suc context) (first_branch m) (let low = row_inside in omega arith))

  -- a procedure uses each of its parameters by its kind
  pub callee_parameters : (j : ℕ) → callee.parameters j ≡ slice_get p.parameters j
  callee_parameters j =
      ap (λ (o : Option (Par × Branch)). option_map (λ (q : Parameter).
      record q { kind = used_by o q.kind }) (slice_get (parameters_at m context) j)) no_branch
      ∙ same (slice_get (parameters_at m context) j)
      ∙ ap (λ (ps : List Parameter). slice_get ps j) parameters_are
    where
      used_by : Option (Par × Branch) → ParameterKind → ParameterKind
      used_by o kind =
          if elim o [ None ↦ true | Some found ↦ is_listed found.1.written_parameters j ] then kind
          else if elim o [
            | None ↦ true
            | Some found ↦ is_listed found.1.written_parameters j || is_listed found.1.read_parameters j
          ] then only_read kind else not_used kind

      same : (o : Option Parameter) → option_map (λ (q : Parameter). record q { kind = q.kind }) o ≡ o
      same None = refl
      same (Some q) = refl

  there : (j : ℕ) (q : Parameter) → callee.parameters j ≡ Some q → slice_get p.parameters j ≡ Some q
  there j q found = sym (callee_parameters j) ∙ found

  -- ---- what the tests of a call say

  module _ (numbers : list_all (numbers_fit call) p.parameters ≡ true)
      (pointers : list_all (pointers_fit call) p.parameters ≡ true)
      (beside : regions_are_apart call ≡ true) (passed_ends : EndsPass call) where
    pub passed_parameter : (j : ℕ) (q : Parameter) → slice_get p.parameters j ≡ Some q
        → Passed j q.kind (value q) (given call q)
    passed_parameter j q found = passed_at j q.word q.kind found
        (list_all_at (numbers_fit call) p.parameters j q numbers found)
        (list_all_at (pointers_fit call) p.parameters j q pointers found)
        (list_all_at (ends_are_held call) p.parameters j q passed_ends.held found)
        (list_all_at (lengths_fit call) p.parameters j q passed_ends.lengths found)

    pub lends : Lends m caller callee base
    lends = record {
      origin = refl;
      writes = λ k t. let inside = callee_word_inside k (callee_reads k t) in own_word k inside.0 inside.1;
      reads = λ k t. let inside = callee_word_inside k t in own_read k inside.0 inside.1;
      callee_reads = callee_reads;
      caller_reads = λ k t. written_readable m s.context k t;
      parts = λ j q found. (passed_parameter j q (there j q found)).part;
    }

    pub linked : (j : ℕ) (q : Parameter) (found : callee.parameters j ≡ Some q) (size : ℕ) (lo hi : ℤ)
        → q.kind ≡ WrittenRegion size lo hi → lent call q
        ≡ Some (a_lent (lends.parts j q found).region (lends.parts j q found).first size lo hi true)
    unfolding lends passed_parameter
    linked j q found size lo hi e =
        let given_it = passed_parameter j q (there j q found) in
        ap (λ (kind : ParameterKind). rule.lent_to kind (given call q)) e
        ∙ subst (λ (kind : ParameterKind). LinkedBy kind (given call q) given_it.part.region given_it.part.first) e
        given_it.linked

    -- ---- regions that do not meet

    -- a word that counts has no byte of a region that a parameter names
    beside_region : (q : ℕ) (u : Parameter) (total : ℕ) (low high : ℤ) → caller.parameters q ≡ Some u
        → IsRegionKind u.kind total low high → (k : ℤ) (i : ℕ) → caller.words.reads k ≡ true → i < total
        → IsByteOf act.layout.origin k (place_of (act.layout.starts q) + i) → ⊥
    beside_region q u total low high found (inl e) k i t inside b =
        (subst (λ (kind : ParameterKind). IsNamed m h caller l.memory kind (act.layout.starts q)) e
        (a.named.each q u found)).beside k i t inside b
    beside_region q u total low high found (inr e) k i t inside b =
        (subst (λ (kind : ParameterKind). IsNamed m h caller l.memory kind (act.layout.starts q)) e
        (a.named.each q u found)).beside k i t inside b

    -- nor has a run of words that count a byte of one
    beside_run : (q : ℕ) (u : Parameter) (total : ℕ) (low high : ℤ) → caller.parameters q ≡ Some u
        → IsRegionKind u.kind total low high → (k : ℤ) (place i n : ℕ) → caller.words.reads (k +ℤ pos (i / 4)) ≡ true
        → n < total → pos place ≡ place_in act.layout.origin k → place + i ≡ place_of (act.layout.starts q) + n → ⊥
    beside_run q u total low high found kind k place i n t inside at same =
        beside_region q u total low high found kind (k +ℤ pos (i / 4)) n t inside
        (subst (λ (b : ℕ). IsByteOf act.layout.origin (k +ℤ pos (i / 4)) b) same
        (run_byte act.layout.origin k place i at))

    -- two parts have a byte in common only where they clash
    parts_apart : (r1 r2 : Region) (f1 f2 : ℤ) (c1 c2 : ℕ) (lo1 hi1 lo2 hi2 : ℤ) (w : Bool) (p1 p2 i1 i2 : ℕ)
        → IsPart m caller callee base r1 f1 c1 lo1 hi1 true p1 → IsPart m caller callee base r2 f2 c2 lo2 hi2 w p2
        → p1 + i1 ≡ p2 + i2 → i1 < 4 * c1 → i2 < 4 * c2
        → (r1 ≡ r2 → f1 <ℤ (f2 +ℤ pos (4 * c2)) → f2 <ℤ (f1 +ℤ pos (4 * c1)) → ⊥) → ⊥
    parts_apart r1 r2 f1 f2 c1 c2 lo1 hi1 lo2 hi2 w p1 p2 i1 i2 (of_frame k1 e1 g1 at1 reads1 writes1 off1)
        (of_frame k2 e2 g2 at2 reads2 writes2 off2) same low1 low2 no_meet =
        no_meet (e1 ∙ sym e2) (omega (arith, ints, at1, at2, g1, g2, same, low1, low2))
        (omega (arith, ints, at1, at2, g1, g2, same, low1, low2))
    parts_apart r1 r2 f1 f2 c1 c2 lo1 hi1 lo2 hi2 w p1 p2 i1 i2 (of_frame k1 e1 g1 at1 reads1 writes1 off1)
        (of_constants n2 e2 g2 read2 at2 fits2) same low1 low2 no_meet =
        let own1 = a.frame.own (k1 +ℤ pos (i1 / 4)) (writes1 (i1 / 4) (omega (arith, low1)) refl) in
        let is1 = own1.is in
        let place : own1.place + i1 % 4 ≡ p1 + i1 = omega (arith, ints, is1, at1) in
        let behind = a.named.constants.behind (own1.place + i1 % 4)
        (bytes_written h own1.place own1.mine (i1 % 4) (omega arith)) in
        omega (arith, place, behind, same, at2)
    parts_apart r1 r2 f1 f2 c1 c2 lo1 hi1 lo2 hi2 w p1 p2 i1 i2 (of_frame k1 e1 g1 at1 reads1 writes1 off1)
        (of_parameter q2 u2 n2 total2 low' high' e2 g2 found2 kind2 written2 below2 above2 at2 fits2) same low1
        low2 no_meet =
        beside_run q2 u2 total2 low' high' found2 kind2 k1 p1 i1 (4 * n2 + i2) (reads1 (i1 / 4) (omega (arith, low1)))
        (omega (arith, low2, fits2)) at1 (omega (arith, same, at2))
    parts_apart r1 r2 f1 f2 c1 c2 lo1 hi1 lo2 hi2 w p1 p2 i1 i2
        (of_constants n1 e1 g1 no' at1 fits1) part2 same low1 low2 no_meet = cc
    parts_apart r1 r2 f1 f2 c1 c2 lo1 hi1 lo2 hi2 w p1 p2 i1 i2
        (of_parameter q1 u1 n1 total1 low' high' e1 g1 found1 kind1 written1 below1 above1 at1 fits1)
        (of_frame k2 e2 g2 at2 reads2 writes2 off2) same low1 low2 no_meet =
        beside_run q1 u1 total1 low' high' found1 kind1 k2 p2 i2 (4 * n1 + i1) (reads2 (i2 / 4) (omega (arith, low2)))
        (omega (arith, low1, fits1)) at2 (omega (arith, same, at1))
    parts_apart r1 r2 f1 f2 c1 c2 lo1 hi1 lo2 hi2 w p1 p2 i1 i2
        (of_parameter q1 u1 n1 total1 low' high' e1 g1 found1 kind1 written1 below1 above1 at1 fits1)
        (of_constants n2 e2 g2 read2 at2 fits2) same low1 low2 no_meet =
        let named = subst (λ (kind : ParameterKind). IsNamed m h caller l.memory kind (act.layout.starts q1))
        (written1 refl)
        (a.named.each q1 u1 found1) in
        let behind = a.named.constants.behind (place_of (act.layout.starts q1) + (4 * n1 + i1))
        (named.held (4 * n1 + i1) (omega (arith, low1, fits1))) in
        omega (arith, behind, same, at1, at2)
    parts_apart r1 r2 f1 f2 c1 c2 lo1 hi1 lo2 hi2 w p1 p2 i1 i2
        (of_parameter q1 u1 n1 total1 low' high' e1 g1 found1 kind1 written1 below1 above1 at1 fits1)
        (of_parameter q2 u2 n2 total2 low'' high'' e2 g2 found2 kind2 written2 below2 above2 at2 fits2) same low1
        low2 no_meet =
        elim (cases_eq q1 q2) [
          | inl one ↦
              let starts : place_of (act.layout.starts q1) ≡ place_of (act.layout.starts q2) =
              ap (λ (n : ℕ). place_of (act.layout.starts n)) one in
              no_meet (e1 ∙ ap (λ (n : ℕ). regions.Parameter n) one ∙ sym e2)
              (omega (arith, ints, g1, g2, at1, at2, starts, same, low1, low2))
              (omega (arith, ints, g1, g2, at1, at2, starts, same, low1, low2))
          | inr two ↦ a.named.apart q1 q2 u1 u2 found1 found2 two (p1 + i1)
              (subst (λ (kind : ParameterKind). IsWrittenAt kind (act.layout.starts q1) (p1 + i1)) (sym (written1 refl))
              (omega (arith, at1, low1, fits1), omega (arith, at1, low1, fits1)))
              (named_at u2.kind total2 (act.layout.starts q2) low'' high'' (p1 + i1) kind2
              (omega (arith, at2, same, low2, fits2)) (omega (arith, at2, same, low2, fits2)))
        ]

    -- what a parameter is lent where it has a byte
    record Piece (place start : ℕ) (kind : ParameterKind) (fact : WordFact) : Type 0 where
      region : Region
      first : ℤ
      size : ℕ
      count : ℕ
      lo : ℤ
      hi : ℤ
      w : Bool
      whole : size ≡ 4 * count
      part : IsPart m caller callee base region first count lo hi w (place_of start)
      i : ℕ
      at : place ≡ place_of start + i
      low : i < 4 * count
      lent_is : rule.lent_to kind fact ≡ Some (a_lent region first size lo hi w)

    region_piece : (region : Region) (first : ℤ) (size count : ℕ) (lo hi : ℤ) (w : Bool) (kind : ParameterKind)
        (fact : WordFact) (start place : ℕ) → size ≡ 4 * count
        → IsPart m caller callee base region first count lo hi w (place_of start)
        → (place_of start ≤ place) × (place < place_of start + size)
        → rule.lent_to kind fact ≡ Some (a_lent region first size lo hi w) → Piece place start kind fact
    region_piece region first size count lo hi w kind fact start place whole part there lent_is =
        let i = byte_index place (place_of start) size there.0 there.1 in
        record {
          region = region;
          first = first;
          size = size;
          count = count;
          lo = lo;
          hi = hi;
          w = w;
          whole = whole;
          part = part;
          i = i.0;
          at = i.1;
          low = omega (arith, i.2, whole);
          lent_is = lent_is;
        }

    piece_of : (j : ℕ) (kind : ParameterKind) (v : Option ℤ) (fact : WordFact) (place : ℕ) → Passed j kind v fact
        → IsNamedAt kind (layout.starts j) place → Piece place (layout.starts j) kind fact
    piece_of j (Value lo hi) v fact place passes there = absurd there
    piece_of j (ReadRegion size lo hi) v fact place passes there =
        region_piece passes.part.region passes.part.first size passes.part.count lo hi false
        (ReadRegion size lo hi) fact
        (layout.starts j) place passes.part.is.0 passes.part.is.1 there passes.linked
    piece_of j (WrittenRegion size lo hi) v fact place passes there =
        region_piece passes.part.region passes.part.first size passes.part.count lo hi true
        (WrittenRegion size lo hi) fact
        (layout.starts j) place passes.part.is.0 passes.part.is.1 there passes.linked
    piece_of j (Channels count len ends) v fact place passes there = absurd there

    -- two that are lent, of which one may be written, do not meet
    no_clash : (o u : Option Lent) (l k : Lent) → o ≡ Some l → u ≡ Some k → are_apart o u ≡ true
        → (l.is_written || k.is_written) ≡ true → l.region ≡ k.region → l.first <ℤ lent_end k → k.first <ℤ lent_end l
        → ⊥
    no_clash o u l k e f apart written same before behind =
        let yes : clash l k ≡ true = and_from _ _ (and_from _ _ (and_from _ _ written
        (same_as_equal l.region k.region same)) (lt-int_lt l.first (lent_end k) before))
        (lt-int_lt k.first (lent_end l) behind) in
        let no' : false ≡ true = sym (ap not yes) ∙ sym (ap (λ (x : Option Lent). are_apart x (Some k)) e
        ∙ refl) ∙ ap (λ (x : Option Lent). are_apart o x) (sym f) ∙ apart in
        (cc)

    pub callee_apart : (j k : ℕ) (q r : Parameter) → callee.parameters j ≡ Some q
        → callee.parameters k ≡ Some r → (j ≡ k → ⊥) → (place : ℕ)
        → IsWrittenAt q.kind (layout.starts j) place → IsNamedAt r.kind (layout.starts k) place → ⊥
    unfolding regions_are_apart
    callee_apart j k q r found other_found differ place written named =
        meet (piece_of j q.kind (value q) (given call q) place (passed_parameter j q (there j q found))
        (is_named q.kind (layout.starts j) place written)) (piece_of k r.kind (value r) (given call r) place
        (passed_parameter k r (there k r other_found)) named)
      where
        is_named : (kind : ParameterKind) (start place : ℕ) → IsWrittenAt kind start place → IsNamedAt kind start place
        is_named (Value lo hi) start place at = at
        is_named (ReadRegion size lo hi) start place at = absurd at
        is_named (WrittenRegion size lo hi) start place at = at
        is_named (Channels count len ends) start place at = at

        is_written : (kind : ParameterKind) (fact : WordFact) (start place : ℕ) (l : Lent)
            → IsWrittenAt kind start place
            → rule.lent_to kind fact ≡ Some l → l.is_written ≡ true
        is_written (Value lo hi) fact start place l at e = absurd at
        is_written (ReadRegion size lo hi) fact start place l at e = absurd at
        is_written (WrittenRegion size lo hi) fact start place l at e =
            ap (λ (x : Lent). x.is_written) (lent_fact size lo hi true fact l e).1
        is_written (Channels count len ends) fact start place l at e = absurd at

        tested : (j k : ℕ) (q r : Parameter) → slice_get p.parameters j ≡ Some q → slice_get p.parameters k ≡ Some r
            → j < k → are_apart (lent call q) (lent call r) ≡ true
        tested j k q r a b low = each_two_at
            (λ q r. are_apart (lent call q) (lent call r)) p.parameters j k q r low a b beside

        meet : Piece place (layout.starts j) q.kind (given call q)
            → Piece place (layout.starts k) r.kind (given call r) → ⊥
        meet x y =
            let mine : x.w ≡ true = is_written q.kind (given call q) (layout.starts j) place
            (a_lent x.region x.first x.size x.lo x.hi x.w) written x.lent_is in
            parts_apart x.region y.region x.first y.first x.count y.count x.lo x.hi y.lo y.hi y.w
            (place_of (layout.starts j)) (place_of (layout.starts k)) x.i y.i
            (subst (λ (b : Bool). IsPart m caller callee base x.region x.first x.count x.lo x.hi b
            (place_of (layout.starts j))) mine x.part)
            y.part (sym x.at ∙ y.at) x.low y.low
            (λ same before behind. in_order x y mine same
            (let w = x.whole in let v = y.whole in omega (arith, ints, before, w, v))
            (let w = x.whole in let v = y.whole in omega (arith, ints, behind, w, v)))
          where
            either : (a b : Bool) → a ≡ true → (b || a) ≡ true
            either a true h = refl
            either a false h = h

            at_most : (j k : ℕ) → k ≤ j → (j ≡ k → ⊥) → k < j
            at_most j k low differ = elim (cases_lt k j) [ inl less ↦ less | inr more ↦ absurd (differ (omega arith)) ]

            in_order : (x : Piece place (layout.starts j) q.kind (given call q))
                (y : Piece place (layout.starts k) r.kind (given call r))
                → x.w ≡ true → x.region ≡ y.region → x.first <ℤ (y.first +ℤ pos y.size)
                → y.first <ℤ (x.first +ℤ pos x.size) → ⊥
            in_order x y mine same before behind = elim (cases_lt j k) [
              | inl low ↦ no_clash (lent call q) (lent call r) (a_lent x.region x.first x.size x.lo x.hi x.w)
                  (a_lent y.region y.first y.size y.lo y.hi y.w) x.lent_is y.lent_is
                  (tested j k q r (there j q found) (there k r other_found) low)
                  (ap (λ (b : Bool). b || y.w) mine) same before behind
              | inr high ↦ no_clash (lent call r) (lent call q) (a_lent y.region y.first y.size y.lo y.hi y.w)
                  (a_lent x.region x.first x.size x.lo x.hi x.w) y.lent_is x.lent_is
                  (tested k j r q (there k r other_found) (there j q found) (omega (arith, at_most j k high differ)))
                  (either x.w y.w mine) (sym same) behind before
            ]

    -- ---- ends

    -- an end of the callee is one of a channel of its caller's
    record IsEndOf (kind : EndKind) (d : Direction) : Type 0 where
      j : ℕ
      el : ℕ
      word : ℕ
      count : ℕ
      len : ℕ
      ends : EndSet
      found : slice_get p.parameters j ≡ Some (record { word = word; kind = Channels count len ends })
      kind_is : kind ≡ end_kinds.Parameter (pos j) el
      low : el < count
      gives : has_direction ends.0 d ≡ true
      first : EndKind
      named : channel_of (given call (record { word = word; kind = Channels count len ends })) ≡ Some first
      has : caller.ends (further first el) d ≡ true
      address : channel_address layout kind ≡ channel_address act.layout (further first el)

    element_of : (j word el count len : ℕ) (ends : EndSet) (d : Direction)
        → slice_get p.parameters j ≡ Some (record { word = word; kind = Channels count len ends })
        → (nat_lt el count ≡ true) × (has_direction ends.0 d ≡ true)
        → ends_are_held call (record { word = word; kind = Channels count len ends }) ≡ true
        → IsEndOf (end_kinds.Parameter (pos j) el) d
    unfolding ends_are_held
    element_of j word el count len ends d found gives holds = on_channel (channel_of (given call q)) refl holds
      where
        q : Parameter
        q = record { word = word; kind = Channels count len ends }

        low : el < count
        low = elim (leb_tells (suc el) count) [
          | inl e ↦ omega (arith, e.1)
          | inr e ↦ let no' : false ≡ true = sym e.0 ∙ gives.0 in absurd (cc)
        ]

        on_channel : (o : Option EndKind) → channel_of (given call q) ≡ o
            → (elim o as (λ o. Bool) [ None ↦ false | Some first ↦ holds_ends m s.context first count ends.0 ]) ≡ true
            → IsEndOf (end_kinds.Parameter (pos j) el) d
        on_channel None e h' = absurd (cc)
        on_channel (Some first) e h' =
            let n = names m act (callee_word s (pos word)) (given call q) first (value q) e (given_means j q found) in
            record {
              j = j;
              el = el;
              word = word;
              count = count;
              len = len;
              ends = ends;
              found = found;
              kind_is = refl;
              low = low;
              gives = gives.1;
              first = first;
              named = e;
              has = end_held m s.context first count ends.0 el d h' gives.1 low;
              address = sym (n.addresses el
                  ∙ ap (λ (start : ℕ). (start + 4 * el) % 4294967296) (sym (start_is j q n.x found n.is)));
            }

    end_of_caller : (kind : EndKind) (d : Direction) → callee.ends kind d ≡ true → IsEndOf kind d
    end_of_caller kind d t =
        on_kind kind (subst (λ (ps : List Parameter). rights.gives_parameter ps kind d ≡ true) parameters_are
        (other (context == 0) _ _ (ne_eqb context 0 (λ e. omega (arith, e)))
        (sym (ap (λ (o : Option (Par × Branch)). elim o as (λ o. Bool) [
          | Some found ↦ list_any (λ other. rights.is_same_end (key_of other)
              (key_of (record { kind = kind; direction = d }))) found.1.ends
          | None ↦ if context == 0 then rights.gives_link m.lengths kind d else rights.gives_parameter
              (parameters_at m context) kind d
        ]) no_branch) ∙ (and_parts _ _ t).1)))
      where
        on_element : (j word el : ℕ) (kind : ParameterKind)
            → slice_get p.parameters j ≡ Some (record { word = word; kind = kind })
            → rights.gives_element kind el d ≡ true → ends_are_held call (record { word = word; kind = kind }) ≡ true
            → IsEndOf (end_kinds.Parameter (pos j) el) d
        on_element j word el (Value lo hi) found gives holds = absurd (cc)
        on_element j word el (ReadRegion size lo hi) found gives holds = absurd (cc)
        on_element j word el (WrittenRegion size lo hi) found gives holds = absurd (cc)
        on_element j word el (Channels count len ends) found gives holds =
            element_of j word el count len ends d found
            (and_parts (nat_lt el count) (has_direction ends.0 d) gives) holds

        on_parameter : (j el : ℕ) (o : Option Parameter) → slice_get p.parameters j ≡ o
            → (elim o as (λ o. Bool) [ None ↦ false | Some q ↦ rights.gives_element q.kind el d ]) ≡ true
            → IsEndOf (end_kinds.Parameter (pos j) el) d
        on_parameter j el None e gives = absurd (cc)
        on_parameter j el (Some q) e gives = on_element j q.word el q.kind e gives
            (list_all_at (ends_are_held call) p.parameters j q passed_ends.held e)

        on_kind : (kind : EndKind) → rights.gives_parameter p.parameters kind d ≡ true → IsEndOf kind d
        on_kind (end_kinds.FrameWord word) gives = absurd (cc)
        on_kind (end_kinds.Link link) gives = absurd (cc)
        on_kind (end_kinds.Parameter (negsuc j) el) gives = absurd (cc)
        on_kind (end_kinds.Parameter (pos j) el) gives = on_parameter j el (slice_get p.parameters j) refl gives

    callee_ends : (kind : EndKind) (d : Direction) → callee.ends kind d ≡ true
        → has_end h (record { address = channel_address layout kind; direction = d }) ≡ true
    callee_ends kind d t =
        let e = end_of_caller kind d t in
        subst (λ (address : ℕ). has_end h (record { address = address; direction = d }) ≡ true) (sym e.address)
        (a.named.ends (further e.first e.el) d e.has)

    -- messages are as long as the caller knows
    callee_lengths : (kind : EndKind) (d : Direction) → callee.ends kind d ≡ true
        → callee.lengths kind ≡ Some (layout.lengths (channel_address layout kind))
    unfolding lengths_fit
    callee_lengths kind d t =
        let e = end_of_caller kind d t in
        let q : Parameter = record { word = e.word; kind = Channels e.count e.len e.ends } in
        let tested = list_all_at (lengths_fit call) p.parameters e.j q passed_ends.lengths e.found in
        let known : caller.lengths (further e.first e.el) ≡ Some e.len =
        length_is e.len (caller.lengths (further e.first e.el))
        (all_below_at e.count e.el (λ n. is_length e.len (message_length m s.context (further e.first n)))
        (sym (ap (λ (o : Option EndKind). elim o as (λ o. Bool) [
          | None ↦ true
          | Some first ↦ all_below e.count (λ n. is_length e.len (message_length m s.context (further first n)))
        ]) e.named) ∙ tested) e.low) in
        ap (message_length m context) e.kind_is
        ∙ ap (λ (ps : List Parameter). length_in (slice_get ps e.j)) parameters_are
        ∙ ap length_in e.found
        ∙ sym known ∙ a.named.lengths (further e.first e.el) d e.has
        ∙ ap (λ (address : ℕ). Some (act.layout.lengths address)) (sym e.address)
      where
        length_in : Option Parameter → Option ℕ
        length_in o = elim o [ None ↦ None | Some p ↦ elim p.kind [ Channels count len ends ↦ Some len | _ ↦ None ] ]

    -- no end is passed to two parameters
    callee_differ : (x y : EndKind) (d : Direction) → callee.ends x d ≡ true → callee.ends y d ≡ true
        → channel_address layout x ≡ channel_address layout y → x ≡ y
    unfolding give_other_ends
    callee_differ x y d t u same =
        let e = end_of_caller x d t in
        let f = end_of_caller y d u in
        let one : further e.first e.el ≡ further f.first f.el =
        a.named.differ (further e.first e.el) (further f.first f.el) d e.has f.has
        (sym e.address ∙ same ∙ f.address) in
        elim (cases_eq e.j f.j) [
          | inl same_j ↦ of_one x y d e f one same_j
          | inr differ ↦ elim (cases_lt e.j f.j) [
            | inl less ↦ absurd (of_two x y d e f one less)
            | inr more ↦ absurd (of_two y x d f e (sym one) (omega arith))
          ]
        ]
      where
        of_one : (x y : EndKind) (d : Direction) (e : IsEndOf x d) (f : IsEndOf y d)
            → further e.first e.el ≡ further f.first f.el → e.j ≡ f.j → x ≡ y
        of_one x y d e f one same_j =
            let q : Parameter = record { word = e.word; kind = Channels e.count e.len e.ends } in
            let r : Parameter = record { word = f.word; kind = Channels f.count f.len f.ends } in
            let there : Some q ≡ Some r = sym e.found ∙ ap (slice_get p.parameters) same_j ∙ f.found in
            let same_q : q ≡ r = cc in
            let both : Some e.first ≡ Some f.first =
            sym e.named ∙ ap (λ (z : Parameter). channel_of (given call z)) same_q ∙ f.named in
            let same_first : e.first ≡ f.first = cc in
            let same_el : e.el ≡ f.el = further_once f.first e.el f.el
            (ap (λ (z : EndKind). further z e.el) (sym same_first) ∙ one) in
            e.kind_is ∙ ap (λ (n : ℕ). end_kinds.Parameter (pos n) e.el) same_j
            ∙ ap (λ (n : ℕ). end_kinds.Parameter (pos f.j) n) same_el ∙ sym f.kind_is

        of_two : (x y : EndKind) (d : Direction) (e : IsEndOf x d) (f : IsEndOf y d)
            → further e.first e.el ≡ further f.first f.el → e.j < f.j → ⊥
        of_two x y d e f one less =
            let q : Parameter = record { word = e.word; kind = Channels e.count e.len e.ends } in
            let r : Parameter = record { word = f.word; kind = Channels f.count f.len f.ends } in
            let tested = each_two_at (give_other_ends call) p.parameters e.j f.j q r less e.found f.found
            passed_ends.once in
            let limits = kind_kept e.j q e.found in
            let other_limits = kind_kept f.j r f.found in
            no_meeting (bit_and e.ends.0 f.ends.0 == 0) (channels_meet e.first e.count f.first f.count)
            (sym (ap (λ (o : Option EndKind). elim o as (λ o. Bool) [
              | None ↦ true
              | Some first ↦ elim (channel_of (given call r)) [
                | None ↦ true
                | Some other ↦ (bit_and e.ends.0 f.ends.0 == 0) || not (channels_meet first e.count other f.count)
              ]
            ]) e.named
            ∙ ap (λ (o : Option EndKind). elim o as (λ o. Bool) [
              | None ↦ true
              | Some other ↦ (bit_and e.ends.0 f.ends.0 == 0) || not (channels_meet e.first e.count other f.count)
            ]) f.named) ∙ tested)
            (share_direction e.ends.0 f.ends.0 d limits.no_more other_limits.no_more e.gives f.gives)
            (further_meet e.first f.first e.el f.el e.count f.count one e.low f.low)

    -- the callee has all that its parameters name
    pub callee_named : back < length m.code → HoldsNamed m h callee l.memory
    callee_named inside = record {
      each = λ j q found. (passed_parameter j q (there j q found)).named;
      apart = callee_apart;
      constants = a.named.constants;
      bytes = a.named.bytes;
      even = stepped_further act.layout.origin base a.named.even;
      ends = callee_ends;
      back = inside;
      lengths = callee_lengths;
      differ = callee_differ;
    }

    -- ---- what is known where the procedure begins

    abbrev pub callee_act : Activation
    callee_act = record { layout = layout; turns = λ k. 0 }

    parameters_mean : (number : ℕ) (ps : List Parameter) (k : ℤ)
        → ((j : ℕ) (q : Parameter) → slice_get ps j ≡ Some q
        → Means m layout (parameter_fact (number + j) q.kind) (value q))
        → MeansWord m callee_act k (parameter_facts number ps k) (frame_word l.memory origin k)
    parameters_mean number [] k means = is_fact says_nothing
    parameters_mean number (q ∷ ps) k means = elim (word_test k (pos q.word)) [
      | inl e ↦ means_same (is_fact (subst (λ (n : ℕ). Means m layout (parameter_fact n q.kind) (value q))
          (let z : number + 0 ≡ number = omega arith in z) (means 0 q refl)))
          (sym (ap (λ (b : Bool). if b then Alone (parameter_fact number q.kind) else parameter_facts
          (number + 1) ps k) e.0))
          (ap (frame_word l.memory origin) (sym e.1))
      | inr e ↦ means_same (parameters_mean (number + 1) ps k (λ j r found.
          subst (λ (n : ℕ). Means m layout (parameter_fact n r.kind) (value r))
          (let z : number + suc j ≡ number + 1 + j = omega arith in z) (means (suc j) r found)))
          (sym (ap (λ (b : Bool). if b then Alone (parameter_fact number q.kind) else parameter_facts
          (number + 1) ps k) e.0)) refl
    ]

    pub callee_words : frame_word l.memory origin (pos 0) ≡ Some (word_of (pos (code_address m back))) → (k : ℤ)
        → MeansWord m callee_act k (procedure_facts p k) (frame_word l.memory origin k)
    callee_words returned k = elim (word_test k (pos 0)) [
      | inl e ↦ means_same (is_fact (subst (λ (v : Option ℤ). Means m layout ReturnAddress v)
          (sym (ap (frame_word l.memory origin) e.1 ∙ returned)) (is_return_address refl)))
          (sym (ap (λ (b : Bool). if b then Alone ReturnAddress else parameter_facts 0 p.parameters k) e.0)) refl
      | inr e ↦ means_same (parameters_mean 0 p.parameters k (λ j q found.
          subst (λ (n : ℕ). Means m layout (parameter_fact n q.kind) (value q))
          (let z : j ≡ 0 + j = omega arith in z) (passed_parameter j q found).means))
          (sym (ap (λ (b : Bool). if b then Alone ReturnAddress else parameter_facts 0 p.parameters k) e.0)) refl
    ]

  -- ---- the callee's frame

  pub callee_frame : (workspace : ℕ) → pos workspace ≡ pos data_start +ℤ place_in origin (pos 0)
      → HasFrame h (length l.memory) (words_in m context) origin (pos 0) workspace
  callee_frame workspace at = record {
    small = a.frame.small;
    from_start = from_start;
    to_end = to_end;
    own = λ k t.
        let inside = callee_word_inside k (callee_reads k t) in
        let w = a.frame.own (base +ℤ k) (own_word k inside.0 inside.1) in
        record { place = w.place; is = w.is ∙ sym (same_place k); inside = w.inside; mine = w.mine };
    readable = λ k t.
        let inside = callee_word_inside k t in
        let w = a.frame.readable (base +ℤ k) (own_read k inside.0 inside.1) in
        record { place = w.place; is = w.is ∙ sym (same_place k); inside = w.inside; readable = w.readable };
    start = at;
  }
    where
      lo_is : frame_lo m context ≡ p.lo
      lo_is = ap (λ (o : Option Context). elim o as (λ o. ℤ) [ None ↦ pos 0 | Some context ↦ context.lo ])
          callee_context

      hi_is : frame_hi m context ≡ p.hi
      hi_is = ap (λ (o : Option Context). elim o as (λ o. ℤ) [ None ↦ pos 0 | Some context ↦ context.hi ])
          callee_context

      from_start : pos 0 ≤ℤ place_in origin (frame_lo m context)
      from_start =
          let low = row.1.lo_high in
          let high = row.1.hi_low in
          let w = a.frame.own (base +ℤ p.lo) (own_word p.lo (omega (arith, ints)) (omega (arith, ints, low, high))) in
          let at' = w.is in
          omega (arith, ints, at', lo_is)

      to_end : place_in origin (frame_hi m context) ≤ℤ pos (length l.memory)
      to_end =
          let low = row.1.lo_high in
          let high = row.1.hi_low in
          let w = a.frame.own (base +ℤ (p.hi -ℤ pos 1))
          (own_word (p.hi -ℤ pos 1) (omega (arith, ints, low, high)) (omega (arith, ints))) in
          let at' = w.is in
          let inside' = w.inside in
          omega (arith, ints, at', hi_is, inside')
