-- What the tests of a call say: of the procedure's row, of facts, and of the constants.
use Rattle.std.proofs.Common.{◌≡◌, ℕ, zero, suc, ◌+◌, ◌-◌, ◌*◌, ◌/◌, ◌%◌, ◌≤◌, ◌<◌, ℤ, pos, negsuc, ◌+ℤ◌, ◌*ℤ◌, ◌≤ℤ◌}
use Rattle.std.proofs.Common.{Bool, true, false, cond, if◌then◌else◌, ◌&&◌, ◌||◌, not, ◌⊎◌, inl, inr, List, [], ◌∷◌}
use Rattle.std.proofs.Common.{length, Option, Some, None, FitsSigned, refl, sym, ap, ◌∙◌, subst, arith, rules, get_or}
use Rattle.std.specs.Int.{w32, cast_signed}
use Rattle.std.specs.Prelude.{⊤, slice_get, int_le, ◌==◌, find, unwrap_or}
use Rattle.std.specs.List.{list_all}
use Rattle.std.proofs.lemmas.Bool.{cases_eq, eqb-true, eq-eqb, and_parts}
use Rattle.std.proofs.lemmas.Bool.Decides.{eqb_tells}
use Rattle.std.proofs.lemmas.Int.{ints, clamps, SFits-int_wrap}
use Rattle.module_format.specs.Rows.{Fact}
use Rattle.module_format.specs.declared.fact.Fact.TheVariants.{Unknown, Number, Pointer, CodeAddress, Loop}
use Rattle.module_format.specs.declared.fact.Fact.TheVariants.{ReturnAddress}
use Rattle.module_format.specs.declared.fact.Region.{Region}
use Rattle.module_format.specs.declared.fact.Region.TheVariants as regions
use Rattle.module_format.specs.declared.fact.Step.TheVariants.{Word, Byte}
use Rattle.module_format.specs.declared.rows.Parameter.{Parameter}
use Rattle.module_format.specs.declared.rows.ParameterKind.{ParameterKind}
use Rattle.module_format.specs.declared.rows.ParameterKind.TheVariants.{Value, ReadRegion, WrittenRegion, Channels}
use Rattle.module_format.specs.Order.{is_multiple_of_four, is_stepped}
use Rattle.module_format.specs.Contents.{Contents, Procedure}
use Rattle.module_format.specs.Keeping.{is_region}
use Rattle.module_format.specs.Regions.{is_frame, is_same_region}
use Rattle.certificate.specs.Starts.{Entered, procedure_from}
use Rattle.machine_state.specs.Memory.{Memory, byte_at, word_at, word_from_bytes}
use Rattle.machine_state.specs.Holding.{Holding}
use Rattle.machine_state.specs.World.{constants_start}
use Rattle.states.specs.declared.known.WordFact.{WordFact}
use Rattle.states.specs.declared.known.WordFact.TheVariants.{Alone, Index, Count}
use Rattle.states.specs.State.{State, Facts, is_alone, plain}
use Rattle.states.specs.Below.{lies_within}
use Rattle.rulings.specs.Meaning.{Layout, Activation, Means, MeansWord, is_number, is_pointer, is_fact, word_of}
use Rattle.rulings.specs.Meaning.{region_start, place_in, IsWellFormed}
use Rattle.rulings.specs.Regions.{HasConstants}
use Rattle.states.specs.declared.span.Together.{Together}
use Rattle.states.specs.Spans.{with_plain, together}
use Rattle.rulings.specs.Reach.{word_of_byte, readable_size, constant_range, lie_in_row, kept_range}
use Rattle.word_arithmetic.specs.Range.{Ends, full}
use Rattle.module_format.specs.declared.rows.TableRow.{TableRow}
use Rattle.std.specs.Option.{option_map}
use Rattle.small_laws.proofs.Comparisons.{int_le-true}
use Rattle.small_laws.proofs.Lookups.{list_all_at}
use Rattle.rulings.proofs.Constants.{word_in, row_word}
use Rattle.rulings.specs.Pointers.{is_near}
use Rattle.call_rules.specs.CallRules as rule
use Rattle.call_rules.specs.declared.lent.Lent.{Lent}
use Rattle.call_rules.specs.CallRules.{Calling, callee_word, given, lent_from, suits, parameter_suits, is_off_callee}
use Rattle.call_rules.specs.CallRules.{words_fit, may_lend, lent_words, each_two}
use Rattle.rulings.proofs.Words.{word_test, plain_means}
use Rattle.rulings.proofs.Offsets.{offset_of_word}
use Rattle.rulings.proofs.Lending.{wider_means}
use Rattle.rulings.specs.Lends.{IsRegionKind}

-- ---- tests

pub other : (b x y : Bool) → b ≡ false → (if b then x else y) ≡ true → y ≡ true
other b x y e h = sym (ap (λ (c : Bool). cond c x y) e) ∙ h

-- one of two numbers is the other, or is not
pub number_test : (m n : ℕ) → (((m == n) ≡ true) × (m ≡ n)) ⊎ (((m == n) ≡ false) × (m ≡ n → ⊥))
number_test m n = elim (eqb_tells m n) [ inl e ↦ inl (e.0, e.1) | inr e ↦ inr (e.0, e.1) ]

-- a natural offset that is a multiple of four
pub stepped_natural : (z : ℤ) (n : ℕ) → z ≡ pos n → is_stepped z ≡ true → n ≡ 4 * (n / 4)
stepped_natural z n is stepped = elim (eqb_tells (n % 4) 0) [
  | inl e ↦ let zero' : n % 4 ≡ 0 = e.1 in omega arith
  | inr e ↦ let no' : false ≡ true = sym e.0 ∙ ap is_stepped (sym is) ∙ stepped in absurd (cc)
]

-- a region that passes for the frame is it
pub frame_is : (region : Region) → is_frame region ≡ true → region ≡ regions.Frame
frame_is regions.Frame e = refl
frame_is regions.Constants e = absurd (cc)
frame_is (regions.Parameter j) e = absurd (cc)

-- a region is the same as its equal
pub same_as_equal : (region other : Region) → region ≡ other → is_same_region region other ≡ true
same_as_equal region other e = subst (λ (r : Region). is_same_region region r ≡ true) e (itself region)
  where
    itself : (region : Region) → is_same_region region region ≡ true
    itself regions.Frame = refl
    itself regions.Constants = refl
    itself (regions.Parameter j) = eq-eqb j j refl

-- a region's kind is that of its equal
pub no_region : (kind other : ParameterKind) (total : ℕ) (low high : ℤ) → other ≡ kind
    → IsRegionKind other total low high
    → is_region kind ≡ true
no_region kind other total low high e (inl is) = ap is_region (sym e ∙ is)
no_region kind other total low high e (inr is) = ap is_region (sym e ∙ is)

pub read_kind : (kind : ParameterKind) (size total : ℕ) (lo hi low high : ℤ) → kind ≡ ReadRegion size lo hi
    → IsRegionKind kind total low high → (size ≡ total) × (lo ≡ low) × (hi ≡ high)
read_kind kind size total lo hi low high e (inl is) =
    let same : ReadRegion size lo hi ≡ ReadRegion total low high = sym e ∙ is in (cc, cc, cc)
read_kind kind size total lo hi low high e (inr is) =
    let no' : ReadRegion size lo hi ≡ WrittenRegion total low high = sym e ∙ is in absurd (cc)

pub write_kind : (kind : ParameterKind) (size total : ℕ) (lo hi low high : ℤ) → kind ≡ WrittenRegion size lo hi
    → IsRegionKind kind total low high → (size ≡ total) × (lo ≡ low) × (hi ≡ high)
write_kind kind size total lo hi low high e (inl is) =
    let no' : WrittenRegion size lo hi ≡ ReadRegion total low high = sym e ∙ is in absurd (cc)
write_kind kind size total lo hi low high e (inr is) =
    let same : WrittenRegion size lo hi ≡ WrittenRegion total low high = sym e ∙ is in (cc, cc, cc)

-- a region that may be read is named to be read or to be written
pub readable_kind : (kind : ParameterKind) (size : ℕ) → readable_size kind ≡ Some size
    → IsRegionKind kind size (kept_range kind).lo (kept_range kind).hi
readable_kind (Value lo hi) size e = absurd (cc)
readable_kind (ReadRegion bytes lo hi) size e =
    let same : bytes ≡ size = cc in inl (ap (λ (n : ℕ). ReadRegion n lo hi) same)
readable_kind (WrittenRegion bytes lo hi) size e =
    let same : bytes ≡ size = cc in inr (ap (λ (n : ℕ). WrittenRegion n lo hi) same)
readable_kind (Channels count len ends) size e = absurd (cc)

-- what a parameter of this kind is lent, by where it lies
abbrev pub LinkedBy : ParameterKind → WordFact → Region → ℤ → Type 0
LinkedBy (Value lo hi) fact region first = ⊤
LinkedBy (ReadRegion size lo hi) fact region first = lent_from size lo hi false fact
    ≡ Some (record { region = region; first = first; size = size; lo = lo; hi = hi; is_written = false })
LinkedBy (WrittenRegion size lo hi) fact region first = lent_from size lo hi true fact
    ≡ Some (record { region = region; first = first; size = size; lo = lo; hi = hi; is_written = true })
LinkedBy (Channels count len ends) fact region first = ⊤

-- each two of a list pass the test that all pass
pub each_two_at : {A : Type 0} (test : A → A → Bool) (ps : List A) (i j : ℕ) (p q : A) → i < j
    → slice_get ps i ≡ Some p → slice_get ps j ≡ Some q → each_two test ps ≡ true → test p q ≡ true
each_two_at test [] i j p q low a b all = absurd (cc)
each_two_at test (r ∷ ps) i zero p q low a b all = absurd (omega arith)
each_two_at {A} test (r ∷ ps) zero (suc j) p q low a b all =
    let same : r ≡ p = cc in
    subst (λ (x : A). test x q ≡ true) same
    (list_all_at (test r) ps j q (and_parts (list_all (test r) ps) (each_two test ps) all).0 b)
each_two_at test (r ∷ ps) (suc i) (suc j) p q low a b all =
    each_two_at test ps i j p q (omega arith) a b (and_parts (list_all (test r) ps) (each_two test ps) all).1

-- ---- the constants

abbrev pub range_of_row : TableRow → Ends
range_of_row row = record { lo = row.lo; hi = row.hi }

pub signed_fits : (n : ℕ) → n < 4294967296 → FitsSigned w32 (cast_signed w32 n)
signed_fits n low = search (rules, arith, ints)

-- A word of the constants is a number from lo to hi, where that is the range of the row in which it lies with others.
pub constant_known : (m : Contents) (wf : IsWellFormed m) (act : Activation) {h : Holding} (memory : Memory)
    → HasConstants m h memory
    → (first : ℤ) (start : ℕ) (end lo hi : ℤ) (place i : ℕ) → place ≡ constants_start m + i → i % 4 ≡ 0 → first ≤ℤ pos i
    → pos (i + 4) ≤ℤ end → i + 4 ≤ length m.constants
    → lies_within (constant_range m first end).lo (constant_range m first end).hi lo hi ≡ true
    → Means m act.layout (Number lo hi) (word_at memory place)
unfolding constant_range word_at
constant_known m wf act memory has first start end lo hi place i at even low high inside range =
    on_row (find (lie_in_row first end) m.table_rows) refl range
  where
    byte : (j k : ℕ) → k ≡ place + j → j < 4 → byte_at memory k ≡ Some (get_or m.constants (i + j) 0)
    byte j k e less =
        ap (byte_at memory) (let is : k ≡ constants_start m + (i + j) = omega (arith, e, at) in is)
        ∙ has.bytes (i + j) (omega arith)

    small : (j : ℕ) → get_or m.constants j 0 < 256
    small j = wf.constant_bytes j

    word_is : word_from_bytes (byte_at memory place) (byte_at memory (place + 1)) (byte_at memory (place + 2))
        (byte_at memory (place + 3))
        ≡ Some (word_in m.constants i)
    word_is = rw (
      byte 0 place (omega arith) (omega arith),
      byte 1 (place + 1) refl (omega arith),
      byte 2 (place + 2) refl (omega arith),
      byte 3 (place + 3) refl (omega arith),
    ) refl

    fits : FitsSigned w32 (word_in m.constants i)
    fits = signed_fits _ (let a = small (i + 0) in let b = small (i + 1) in let c = small (i + 2) in
        let d = small (i + 3) in omega arith)

    of_word : lo ≤ℤ word_in m.constants i → word_in m.constants i ≤ℤ hi
        → Means m act.layout (Number lo hi)
        (word_from_bytes (byte_at memory place) (byte_at memory (place + 1)) (byte_at memory (place + 2))
        (byte_at memory (place + 3)))
    of_word from to = subst (λ (v : Option ℤ). Means m act.layout (Number lo hi) v) (sym word_is)
        (is_number from to fits)

    on_row : (o : Option TableRow) → find (lie_in_row first end) m.table_rows ≡ o
        → lies_within (unwrap_or (option_map range_of_row o) full).lo
        (unwrap_or (option_map range_of_row o) full).hi lo hi ≡ true
        → Means m act.layout (Number lo hi)
        (word_from_bytes (byte_at memory place) (byte_at memory (place + 1)) (byte_at memory (place + 2))
        (byte_at memory (place + 3)))
    on_row None e h =
        let both = and_parts (int_le lo full.lo) (int_le full.hi hi) h in
        let from = int_le-true lo full.lo both.0 in
        let to = int_le-true full.hi hi both.1 in
        of_word (omega (arith, ints, from, fits)) (omega (arith, ints, to, fits))
    on_row (Some row) e h =
        let both = and_parts (int_le lo row.lo) (int_le row.hi hi) h in
        let from = int_le-true lo row.lo both.0 in
        let to = int_le-true row.hi hi both.1 in
        let within = row_word m.constants m.table_rows first end row i wf.tables e even low high in
        let l = within.low in
        let u = within.high in
        of_word (omega (arith, ints, from, l)) (omega (arith, ints, to, u))

-- ---- multiples of four

-- a place `k` words further
pub stepped_further : (z k : ℤ) → is_stepped z ≡ true → is_stepped (place_in z k) ≡ true
stepped_further z k h = is_whole (place_in z k) (word_of_byte z +ℤ k)
    (let e = offset_of_word z h in omega (arith, ints, e))
  where
    is_whole : (y q : ℤ) → y ≡ pos 4 *ℤ q → is_stepped y ≡ true
    is_whole (pos n) q e = eq-eqb (n % 4) 0 (omega (arith, ints))
    is_whole (negsuc n) q e = eq-eqb (suc n % 4) 0 (omega (arith, ints))

pub whole_words : (n k : ℕ) → n ≡ 4 * k → is_multiple_of_four n ≡ true
whole_words n k e = eq-eqb (n % 4) 0 (omega arith)

pub more_words : (place n : ℕ) → is_multiple_of_four place ≡ true → is_multiple_of_four (place + 4 * n) ≡ true
more_words place n h = let e : place % 4 ≡ 0 = eqb-true (place % 4) 0 h in eq-eqb ((place + 4 * n) % 4) 0 (omega arith)

pub even_place : (origin word : ℤ) (place : ℕ) → is_stepped origin ≡ true → pos place ≡ place_in origin word
    → is_multiple_of_four place ≡ true
even_place origin word place h is =
    let e = offset_of_word origin h in
    let z : pos place ≡ pos 4 *ℤ (word_of_byte origin +ℤ word) = omega (arith, ints, e, is) in
    on_word (word_of_byte origin +ℤ word) z
  where
    on_word : (k : ℤ) → pos place ≡ pos 4 *ℤ k → is_multiple_of_four place ≡ true
    on_word (pos k) e = whole_words place k (omega (arith, ints, e))
    on_word (negsuc k) e = absurd (omega (arith, ints, e))

pub constants_aligned : (m : Contents) (n : ℕ) → n ≡ 4 * (n / 4) → is_multiple_of_four (constants_start m + n) ≡ true
constants_aligned m n e = eq-eqb ((constants_start m + n) % 4) 0 (padded m.data_words (length m.code) n e)
  where
    padded : (words code n : ℕ) → n ≡ 4 * (n / 4) → (4 * words + code + (4 - code % 4) % 4 + n) % 4 ≡ 0
    padded words code n e = omega arith

pub constants_near : (m : Contents) (n : ℕ) → IsWellFormed m → n ≤ length m.constants
    → constants_start m + n ≤ 2147483391
constants_near m n wf low = omega (arith, wf.short_code, wf.few_words, wf.few_constants)

-- the ranges of a region's kind
pub of_kind : (l : Lent) (r : Parameter) (total : ℕ) (low high : ℤ) → IsRegionKind r.kind total low high
    → parameter_suits l (Some r) ≡ true → suits l low high ≡ true
of_kind l r total low high (inl e) h =
    subst (λ (k : ParameterKind). parameter_suits l (Some (record r { kind = k })) ≡ true) e h
of_kind l r total low high (inr e) h =
    subst (λ (k : ParameterKind). parameter_suits l (Some (record r { kind = k })) ≡ true) e h

-- ---- procedures

-- the procedure that was found begins there, and has its row
pub found_row : (n : ℕ) (ps : List Procedure) (at : ℕ) (e : Entered) → procedure_from n ps at ≡ Some e
    → (n ≤ e.context) × (slice_get ps (e.context - n) ≡ Some e.procedure) × (e.procedure.entry ≡ at)
found_row n [] at e h = absurd (cc)
found_row n (p ∷ ps) at e h = elim (number_test p.entry at) [
  | inl here ↦
      let found : Some (record { context = n; procedure = p }) ≡ Some e =
      sym (ap (λ (b : Bool). cond b (Some (record { context = n; procedure = p })) (procedure_from (n + 1) ps at))
      here.0) ∙ h in
      let is : record { context = n; procedure = p } ≡ e = cc in
      let context_is : n ≡ e.context = ap (λ (x : Entered). x.context) is in
      let procedure_is : p ≡ e.procedure = ap (λ (x : Entered). x.procedure) is in (
        omega (arith, context_is),
        (let first : 0 ≡ e.context - n = omega (arith, context_is) in
            subst (λ (k : ℕ). slice_get (p ∷ ps) k ≡ Some e.procedure) first
            (ap (λ (x : Procedure). Some x) procedure_is)),
        sym (ap (λ (x : Procedure). x.entry) procedure_is) ∙ here.1,
      )
  | inr there ↦
      let rest = found_row (n + 1) ps at e
      (sym (ap (λ (b : Bool). cond b (Some (record { context = n; procedure = p })) (procedure_from (n + 1) ps at))
      there.0) ∙ h) in
      let low = rest.0 in (
        omega arith,
        (let next : suc (e.context - (n + 1)) ≡ e.context - n = omega arith in
            subst (λ (k : ℕ). slice_get (p ∷ ps) k ≡ Some e.procedure) next rest.1),
        rest.2,
      )
]

-- ---- the tests of what is lent

pub lend_parts : (c : Calling) (l : Lent) → may_lend c l ≡ true
    → (rule.may_use c l ≡ true) × ((if is_frame l.region then words_fit c l else true) ≡ true)
unfolding may_lend
lend_parts c l h =
    let both = and_parts (is_near l.first && rule.may_use c l) (if is_frame l.region then words_fit c l else true) h in
    ((and_parts (is_near l.first) (rule.may_use c l) both.0).1, both.1)

pub words_parts : (c : Calling) (l : Lent) → words_fit c l ≡ true
    → ((lent_words c l).are_numbers ≡ true) × (is_off_callee c (word_of_byte l.first) (l.size / 4) ≡ true)
unfolding words_fit
words_parts c l h =
    let both = and_parts ((lent_words c l).are_numbers && (not l.is_written || (lent_words c l).are_alone))
    (is_off_callee c (word_of_byte l.first) (l.size / 4)) h in
    ((and_parts (lent_words c l).are_numbers (not l.is_written || (lent_words c l).are_alone) both.0).0, both.1)

-- ---- what is known of a word

-- the exact pointer that a word holds
pub record HoldsPointer (m : Contents) (layout : Layout) (region : Region) (first : ℤ) (v : Option ℤ) : Type 0 where
  pub x : ℤ
  pub is : v ≡ Some x
  pub stepped : is_stepped first ≡ true
  pub address : x ≡ word_of (region_start m layout region +ℤ first)
  pub fits : FitsSigned w32 x

pub pointer_held : (m : Contents) (act : Activation) (k : ℤ) (region : Region) (first : ℤ) (v : Option ℤ)
    → MeansWord m act k (Alone (Pointer region first first Word)) v → HoldsPointer m act.layout region first v
pointer_held m act k region first None (is_fact means) = elim means [ ]
pointer_held m act k region first (Some x) (is_fact (is_pointer offset low high stepped is)) =
    let same : offset ≡ first = omega (arith, ints, low, high) in
    record {
      x = x;
      is = refl;
      stepped = subst (λ (z : ℤ). is_stepped z ≡ true) same stepped;
      address = is ∙ ap (λ (z : ℤ). word_of (region_start m act.layout region +ℤ z)) same;
      fits = subst (λ (z : ℤ). FitsSigned w32 z) (sym is) (SFits-int_wrap w32 _);
    }

-- the fact that lends
pub lent_fact : (size : ℕ) (lo hi : ℤ) (w : Bool) (fact : WordFact) (l : Lent) → lent_from size lo hi w fact ≡ Some l
    → (fact ≡ Alone (Pointer l.region l.first l.first Word))
    × (l ≡ record { region = l.region; first = l.first; size = size; lo = lo; hi = hi; is_written = w })
unfolding lent_from
lent_fact size lo hi w (Alone (Pointer region low high Word)) l h = elim (word_test low high) [
  | inl e ↦
      let is : Some (record { region = region; first = low; size = size; lo = lo; hi = hi; is_written = w }) ≡ Some l =
      sym
      (ap
      (λ (b : Bool). cond b
      (Some (record { region = region; first = low; size = size; lo = lo; hi = hi; is_written = w })) None)
      e.0) ∙ h in
      let same : record { region = region; first = low; size = size; lo = lo; hi = hi; is_written = w } ≡ l = cc in
      let r : region ≡ l.region = ap (λ (x : Lent). x.region) same in
      let f : low ≡ l.first = ap (λ (x : Lent). x.first) same in (
        ap (λ (z : ℤ). Alone (Pointer region low z Word)) (sym e.1)
            ∙ ap (λ (t : Region). Alone (Pointer t low low Word)) r
            ∙ ap (λ (z : ℤ). Alone (Pointer l.region z z Word)) f,
        sym same
            ∙ ap (λ (t : Region). record { region = t; first = low; size = size; lo = lo; hi = hi; is_written = w }) r
            ∙ ap (λ (z : ℤ). record { region = l.region; first = z; size = size; lo = lo; hi = hi; is_written = w }) f,
      )
  | inr e ↦
      let no' : None ≡ Some l =
      sym
      (ap
      (λ (b : Bool). cond b
      (Some (record { region = region; first = low; size = size; lo = lo; hi = hi; is_written = w })) None)
      e.0) ∙ h in
      absurd (cc)
]
lent_fact size lo hi w (Alone (Pointer region low high Byte)) l h = absurd (cc)
lent_fact size lo hi w (Alone Unknown) l h = absurd (cc)
lent_fact size lo hi w (Alone (Number low high)) l h = absurd (cc)
lent_fact size lo hi w (Alone (CodeAddress offset)) l h = absurd (cc)
lent_fact size lo hi w (Alone (Loop b n p)) l h = absurd (cc)
lent_fact size lo hi w (Alone ReturnAddress) l h = absurd (cc)
lent_fact size lo hi w (Index loop) l h = absurd (cc)
lent_fact size lo hi w (Count loop) l h = absurd (cc)

-- what is known of words together holds of each of them, where all are numbers
pub together_means : {m : Contents} {act : Activation} (facts : Facts) (first : ℤ) (count i : ℕ)
    (v : Option ℤ) → i < count
    → (together facts first count).are_numbers ≡ true
    → MeansWord m act (first +ℤ pos i) (facts (first +ℤ pos i)) v
    → Means m act.layout (Number (together facts first count).lo (together facts first count).hi) v
together_means facts first zero i v low numbers means = absurd (omega arith)
together_means {m} {act} facts first (suc more) i v low numbers means =
    on_plain (plain (facts (first +ℤ pos more))) refl
    (λ below all. together_means {act = act} facts first more i v below all means)
  where
    rest : Together
    rest = together facts first more

    of_last : i ≡ more → (lo hi : ℤ) → plain (facts (first +ℤ pos more)) ≡ Number lo hi
        → Means m act.layout (Number lo hi) v
    of_last e lo hi is =
        subst (λ (f : Fact). Means m act.layout f v) (ap (λ (n : ℕ). plain (facts (first +ℤ pos n))) e ∙ is)
        (plain_means m act (first +ℤ pos i) (facts (first +ℤ pos i)) v means)

    no_number : (f : Fact) → plain (facts (first +ℤ pos more)) ≡ f
        → (with_plain f
        (record rest { are_alone = rest.are_alone && is_alone (facts (first +ℤ pos more)) })).are_numbers ≡ false
        → Means m act.layout (Number (together facts first (suc more)).lo (together facts first (suc more)).hi) v
    no_number f e none =
        let no' : false ≡ true = sym none ∙ ap
        (λ (g : Fact).
        (with_plain g
        (record rest { are_alone = rest.are_alone && is_alone (facts (first +ℤ pos more)) })).are_numbers)
        (sym e) ∙ numbers in
        absurd (cc)

    on_plain : (f : Fact) → plain (facts (first +ℤ pos more)) ≡ f
        → (i < more → rest.are_numbers ≡ true → Means m act.layout (Number rest.lo rest.hi) v)
        → Means m act.layout (Number (together facts first (suc more)).lo (together facts first (suc more)).hi) v
    on_plain (Number lo hi) e earlier_means =
        subst (λ (t : Together). Means m act.layout (Number t.lo t.hi) v)
        (ap
        (λ (g : Fact). with_plain g (record
        rest { are_alone = rest.are_alone && is_alone (facts (first +ℤ pos more)) })) (sym e))
        (elim (cases_eq i more) [
          | inl last ↦ wider_means (omega (arith, ints, clamps)) (omega (arith, ints, clamps)) (of_last last lo hi e)
          | inr earlier ↦
              let all : rest.are_numbers ≡ true =
              ap
              (λ (g : Fact).
              (with_plain g
              (record rest {
                are_alone = rest.are_alone && is_alone
                    (facts (first +ℤ pos more));
              })).are_numbers) (sym e) ∙ numbers in
              wider_means (omega (arith, ints, clamps)) (omega (arith, ints, clamps))
              (earlier_means (omega arith) all)
        ])
    on_plain Unknown e earlier_means = no_number Unknown e refl
    on_plain (Pointer region lo hi step) e earlier_means = no_number (Pointer region lo hi step) e refl
    on_plain (CodeAddress offset) e earlier_means = no_number (CodeAddress offset) e refl
    on_plain (Loop b n p) e earlier_means = no_number (Loop b n p) e refl
    on_plain ReturnAddress e earlier_means = no_number ReturnAddress e refl

-- A, B and C are in the callee's words 1 to 3
pub record HasPassed (s : State) : Type 0 where
  pub a : s.frame (callee_word s (pos 1)) ≡ Alone s.stack.a.fact
  pub b : s.frame (callee_word s (pos 2)) ≡ Alone s.stack.b.fact
  pub c : s.frame (callee_word s (pos 3)) ≡ Alone s.stack.c.fact

abbrev pub here_given : Calling → Parameter → WordFact
here_given c q = c.state.frame (callee_word c.state (pos q.word))

abbrev pub third_given : Calling → Parameter → WordFact
third_given c q = if q.word == 3 then Alone c.state.stack.c.fact else here_given c q

abbrev pub second_given : Calling → Parameter → WordFact
second_given c q = if q.word == 2 then Alone c.state.stack.b.fact else third_given c q

-- what is given is known of the callee's word
pub given_is : (c : Calling) (q : Parameter) → HasPassed c.state
    → given c q ≡ c.state.frame (callee_word c.state (pos q.word))
given_is c q has = elim (number_test q.word 1) [
  | inl e ↦ ap (λ (b : Bool). if b then Alone c.state.stack.a.fact else second_given c q) e.0 ∙ sym has.a
      ∙ ap (λ (n : ℕ). c.state.frame (callee_word c.state (pos n))) (sym e.1)
  | inr e ↦ ap (λ (b : Bool). if b then Alone c.state.stack.a.fact else second_given c q) e.0
      ∙ elim (number_test q.word 2) [
        | inl f ↦ ap (λ (b : Bool). if b then Alone c.state.stack.b.fact else third_given c q) f.0 ∙ sym has.b
            ∙ ap (λ (n : ℕ). c.state.frame (callee_word c.state (pos n))) (sym f.1)
        | inr f ↦ ap (λ (b : Bool). if b then Alone c.state.stack.b.fact else third_given c q) f.0
            ∙ elim (number_test q.word 3) [
              | inl g ↦ ap (λ (b : Bool). if b then Alone c.state.stack.c.fact else here_given c q) g.0 ∙ sym has.c
                  ∙ ap (λ (n : ℕ). c.state.frame (callee_word c.state (pos n))) (sym g.1)
              | inr g ↦ ap (λ (b : Bool). if b then Alone c.state.stack.c.fact else here_given c q) g.0
            ]
      ]
]
