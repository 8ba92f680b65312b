-- Where a pointer leads that a context may write through, and what a write there leaves.
use Rattle.std.proofs.Common.{◌≡◌, ℕ, ◌+◌, ◌-◌, ◌*◌, ◌≤◌, ◌<◌, ℤ, pos, ◌+ℤ◌, ◌*ℤ◌, ◌≤ℤ◌, ◌<ℤ◌, Bool, true, false}
use Rattle.std.proofs.Common.{length, FitsSigned, Option, Some, None, refl, sym, ap, ◌∙◌, subst, arith, ◌⊎◌, inl, inr}
use Rattle.std.proofs.lemmas.Bool.{cases_eq}
use Rattle.std.proofs.lemmas.Int.{ints, clamps}
use Rattle.std.specs.Int.{w32, cast_signed}
use Rattle.module_format.specs.Rows.{Fact}
use Rattle.module_format.specs.declared.fact.Fact.TheVariants.{Unknown, Number, Pointer, CodeAddress, Loop}
use Rattle.module_format.specs.declared.fact.Fact.TheVariants.{ReturnAddress}
use Rattle.module_format.specs.declared.rows.Parameter.{Parameter}
use Rattle.module_format.specs.declared.rows.ParameterKind.{ParameterKind}
use Rattle.module_format.specs.declared.rows.ParameterKind.TheVariants.{Value, ReadRegion, WrittenRegion, Channels}
use Rattle.module_format.specs.Order.{least_word, greatest_word}
use Rattle.module_format.specs.Contents.{Contents}
use Rattle.certificate.specs.Rights.{may_write_word as context_writes}
use Rattle.machine_state.specs.declared.process.Mode as machine
use Rattle.machine_state.specs.Memory.{Memory, byte_at, word_at, with_byte, place_of}
use Rattle.machine_state.specs.Holding.{Holding, may_read, may_write}
use Rattle.machine_state.specs.Site.{Local}
use Rattle.machine_state.proofs.Reading.{length-with_byte, byte_at-with_byte, byte_at-with_byte_other, word_at_same}
use Rattle.states.specs.declared.known.Known.{Known}
use Rattle.states.specs.declared.known.Source.{Source}
use Rattle.states.specs.declared.known.Source.TheVariants.{Nowhere, From, Test}
use Rattle.states.specs.declared.span.Leaving.{Leaving}
use Rattle.states.specs.State.{Change, State}
use Rattle.states.specs.Spans.{is_in_span, widened, left_of, on_span, after_change}
use Rattle.states.proofs.SpanFacts.{in-span}
use Rattle.rulings.specs.Meaning.{Layout, Activation, Means, says_nothing, is_number, place_in, frame_word, IsOwnWord}
use Rattle.rulings.specs.Meaning.{words_in, ComesFrom, from_nowhere, from_word, from_test, MeansKnown}
use Rattle.rulings.specs.Regions.{Scope, scope_of, IsByteOf, IsHeldRegion, IsNamed, IsWrittenAt, HoldsNamed, HasBytes}
use Rattle.rulings.specs.Regions.{in_region, KeepsMemory, parameter_used}
use Rattle.rulings.specs.Reach.{word_of_byte, words_touched, all_touched, writable_size, writable_bytes, kept_range}
use Rattle.rulings.specs.Reach.{parameter_range}
use Rattle.rulings.specs.Pointers.{widened_by}
use Rattle.rulings.proofs.Within.{Within, ArePlain}
use Rattle.rulings.proofs.Words.{means_same, frame_word_is, word_test, Follows, knows_changed}
use Rattle.rulings.proofs.Regions.{AltersWord, Alters, named_left, IsBeside, byte_small}
use Rattle.rulings.proofs.ReadThrough.{no_byte, word_of_bytes, word_fits, writable_usable}
use Rattle.rulings.proofs.Reaching.{inside_memory, touched_span, touched_passes, word_of_byte_low, word_of_byte_high}
use Rattle.rulings.proofs.Combining.{same_frame}

-- ---- what is left of what is known of a word

module _ (m : Contents) (layout : Layout) where
  -- a number in a range is one in a wider range
  pub number_wider : {lo hi : ℤ} (low high : ℤ) (v : Option ℤ) → low ≤ℤ lo → hi ≤ℤ high
      → Means m layout (Number lo hi) v
      → Means m layout (Number low high) v
  number_wider low high None from to means = elim means [ ]
  number_wider low high (Some x) from to (is_number least most fits) =
      is_number (omega (arith, ints)) (omega (arith, ints)) fits

  -- a number that stayed or was replaced
  pub widened_means : (lo hi : ℤ) (said : Fact) (v : Option ℤ) → Means m layout said v ⊎ Means m layout (Number lo hi) v
      → Means m layout (widened lo hi said) v
  widened_means lo hi (Number low high) v (inl means) =
      number_wider _ _ v (omega (arith, ints, clamps)) (omega (arith, ints, clamps)) means
  widened_means lo hi (Number low high) v (inr means) =
      number_wider _ _ v (omega (arith, ints, clamps)) (omega (arith, ints, clamps)) means
  widened_means lo hi Unknown v means = says_nothing
  widened_means lo hi (Pointer region low high step) v means = says_nothing
  widened_means lo hi (CodeAddress offset) v means = says_nothing
  widened_means lo hi (Loop base count weight) v means = says_nothing
  widened_means lo hi ReturnAddress v means = says_nothing

  -- a word that stayed, or was replaced by one of which a fact holds
  pub widened_by_means : (fact said : Fact) (v : Option ℤ) → Means m layout said v ⊎ Means m layout fact v
      → Means m layout (left_of (widened_by fact) said) v
  widened_by_means (Number lo hi) said v means = widened_means lo hi said v means
  widened_by_means Unknown said v means = says_nothing
  widened_by_means (Pointer region low high step) said v means = says_nothing
  widened_by_means (CodeAddress offset) said v means = says_nothing
  widened_by_means (Loop base count weight) said v means = says_nothing
  widened_by_means ReturnAddress said v means = says_nothing

  -- what is left of a word of which a byte is written
  pub byte_left : (said : Fact) (old new : Option ℤ)
      → ((lo hi : ℤ) → Means m layout (Number lo hi) old → Means m layout (Number least_word greatest_word) new)
      → Means m layout said old → Means m layout (widened least_word greatest_word said) new
  byte_left (Number lo hi) old new stays means =
      widened_means least_word greatest_word (Number lo hi) new (inr (stays lo hi means))
  byte_left Unknown old new stays means = says_nothing
  byte_left (Pointer region lo hi step) old new stays means = says_nothing
  byte_left (CodeAddress offset) old new stays means = says_nothing
  byte_left (Loop base count weight) old new stays means = says_nothing
  byte_left ReturnAddress old new stays means = says_nothing

-- ---- a word of a span of the frame

-- A span of words is left so as one of them changes.
pub record LeavesWell (m : Contents) (layout : Layout) (first : ℤ) (count : ℕ) (leaving : Leaving) (k : ℤ)
    (old new : Memory) : Type 0 where
  pub here : (said : Fact) → Means m layout said (frame_word old layout.origin k)
      → Means m layout (left_of leaving said) (frame_word new layout.origin k)
  pub others : (j : ℤ) (said : Fact) (v : Option ℤ) → (j ≡ k → ⊥) → is_in_span first count j ≡ true
      → Means m layout said v
      → Means m layout (left_of leaving said) v
  pub elsewhere : (j : ℤ) → (j ≡ k → ⊥) → frame_word new layout.origin j ≡ frame_word old layout.origin j

pub span_follows : {m : Contents} {layout : Layout} {leaving : Leaving} {old new : Memory}
    (counts : ℤ → Bool) (first : ℤ)
    (count : ℕ) (k : ℤ) → is_in_span first count k ≡ true → LeavesWell m layout first count leaving k old new
    → Follows m counts layout (on_span first count leaving) old new
span_follows {m} {layout} {leaving} {old} {new} counts first count k there leaves = record {
  touched = λ j said inside e means. elim (word_test j k) [
    | inl p ↦
        subst (λ (i : ℤ). Means m layout (left_of leaving said) (frame_word new layout.origin i)) (sym p.1)
        (leaves.here said (subst (λ (i : ℤ). Means m layout said (frame_word old layout.origin i)) p.1 means))
    | inr p ↦ subst (λ (v : Option ℤ). Means m layout (left_of leaving said) v) (sym (leaves.elsewhere j p.1))
        (leaves.others j said _ p.1 e means)
  ];
  kept = λ j inside e. leaves.elsewhere j
      (λ same. let no : true ≡ false = sym there ∙ (ap (is_in_span first count) (sym same) ∙ e) in absurd (cc));
}

-- the word of the frame to which a pointer leads that a context may write through
pub record FrameWord (m : Contents) (h : Holding) (context : ℕ) (size : ℕ) (origin lo end offset : ℤ) : Type 0 where
  pub word : ℤ
  pub may : context_writes m context word ≡ true
  pub own : IsOwnWord h size origin word
  pub in_span : is_in_span (word_of_byte lo) (words_touched lo end) word ≡ true
  pub low : (pos 4 *ℤ word) ≤ℤ offset
  pub high : offset <ℤ (pos 4 *ℤ word +ℤ pos 4)

module _ {m : Contents} {h : Holding} {mode : machine.Mode} {act : Activation} {s : State} {l : Local}
    (a : Within ArePlain m h mode act s l) where
  pub frame_written : (lo end offset : ℤ) → lo ≤ℤ offset → offset <ℤ end
      → all_touched (context_writes m s.context) lo end ≡ true
      → FrameWord m h s.context (length l.memory) act.layout.origin lo end offset
  frame_written lo end offset low high all =
      let k = word_of_byte offset in
      let from = word_of_byte_low offset in
      let to = word_of_byte_high offset in
      let may = touched_passes (context_writes m s.context) lo end k all (omega (arith, ints)) (omega (arith, ints)) in
      let span = touched_span lo end k (omega (arith, ints)) (omega (arith, ints)) in
      record {
        word = k;
        may = may;
        own = a.frame.own k may;
        in_span = in-span (word_of_byte lo) (words_touched lo end) k span.0 span.1;
        low = from;
        high = to;
      }

  -- what is known changes as memory does
  pub after_followed : (change : Change) (new : Memory)
      → Follows m (words_in m s.context).reads act.layout change l.memory new
      → KeepsMemory m h (scope_of m s.context act.layout) l.memory new
      → Within ArePlain m h mode act (after_change change s) (record l { memory = new })
  unfolding after_change
  after_followed change new follows keeps = record {
    frame = same_frame (sym keeps.size) a.frame;
    knows = knows_changed change follows a.knows;
    named = keeps.named a.named;
    same_mode = a.same_mode;
    modes = a.modes;
    whole = a.whole;
  }

  -- what is known of a span changes as one of its words does
  pub after_span : (first : ℤ) (count : ℕ) (leaving : Leaving) (k : ℤ) (new : Memory) → is_in_span first count k ≡ true
      → LeavesWell m act.layout first count leaving k l.memory new
      → KeepsMemory m h (scope_of m s.context act.layout) l.memory new
      → Within ArePlain m h mode act (after_change (on_span first count leaving) s) (record l { memory = new })
  after_span first count leaving k new there leaves keeps =
      after_followed (on_span first count leaving) new
      (span_follows (words_in m s.context).reads first count k there leaves) keeps

  -- ---- what is known of the frame where a region changes that is beside it

  pub after_beside : (new : Memory) → ((k : ℤ) → (words_in m s.context).reads k ≡ true
      → frame_word new act.layout.origin k ≡ frame_word l.memory act.layout.origin k)
      → KeepsMemory m h (scope_of m s.context act.layout) l.memory new
      → Within ArePlain m h mode act s (record l { memory = new })
  after_beside new same keeps = record {
    frame = same_frame (sym keeps.size) a.frame;
    knows = record {
      registers = record {
        a = register s.stack.a _ a.knows.registers.a;
        b = register s.stack.b _ a.knows.registers.b;
        c = register s.stack.c _ a.knows.registers.c;
      };
      words = λ k counts. means_same (a.knows.words k counts) refl (sym (same k counts));
    };
    named = keeps.named a.named;
    same_mode = a.same_mode;
    modes = a.modes;
    whole = a.whole;
  }
    where
      source_same : (source : Source) (v : Option ℤ)
          → ComesFrom (words_in m s.context).reads l.memory act.layout.origin source v
          → ComesFrom (words_in m s.context).reads new act.layout.origin source v
      source_same Nowhere v comes = from_nowhere
      source_same (From word) v (from_word counts is) = from_word counts (is ∙ sym (same word counts))
      source_same (Test word lo hi inside) v (from_test x counts is tested) =
          from_test x counts (same word counts ∙ is) tested

      register : (known : Known) (v : Option ℤ)
          → MeansKnown m (words_in m s.context).reads act.layout l.memory known v
          → MeansKnown m (words_in m s.context).reads act.layout new known v
      register known v means = record { fact = means.fact; source = source_same known.source v means.source }

-- ---- a region that a parameter names

-- the parameter that a region is that of which may be written
pub record Writable (m : Contents) (context j size : ℕ) : Type 0 where
  pub parameter : Parameter
  pub found : parameter_used m context j ≡ Some parameter
  pub lo : ℤ
  pub hi : ℤ
  pub is : parameter.kind ≡ WrittenRegion size lo hi
  pub range : parameter_range m context j ≡ kept_range parameter.kind

pub writable_kind : (kind : ParameterKind) (size : ℕ) → writable_size kind ≡ Some size
    → kind ≡ WrittenRegion size (kept_range kind).lo (kept_range kind).hi
writable_kind (Value lo hi) size e = absurd (cc)
writable_kind (ReadRegion bytes lo hi) size e = absurd (cc)
writable_kind (WrittenRegion bytes lo hi) size e =
    let same : bytes ≡ size = cc in ap (λ (n : ℕ). WrittenRegion n lo hi) same
writable_kind (Channels count len ends) size e = absurd (cc)

pub writable_found : (m : Contents) (context j size : ℕ) → writable_bytes m context j ≡ Some size
    → Writable m context j size
writable_found m context j size h =
    let u = writable_usable m context j size h in
    record {
      parameter = u.parameter;
      found = u.found;
      lo = (kept_range u.parameter.kind).lo;
      hi = (kept_range u.parameter.kind).hi;
      is = writable_kind u.parameter.kind size u.has;
      range = u.range;
    }

-- some bytes from a place on
pub record Lies (from width place : ℕ) : Type 0 where
  pub low : from ≤ place
  pub high : place < from + width

-- Memory has changed in some bytes of a written region alone, and the region is still what it was.
pub record AltersRegion (m : Contents) (h : Holding) (scope : Scope) (start size : ℕ) (lo hi : ℤ) (from width : ℕ)
    (old new : Memory) : Type 0 where
  pub long : length new ≡ length old
  pub first : start ≤ from
  pub last : from + width ≤ start + size
  pub kept : (place : ℕ) → (byte_at new place ≡ byte_at old place) ⊎ Lies from width place
  pub small : (place b : ℕ) → byte_at new place ≡ Some b → (b < 256) ⊎ (byte_at old place ≡ Some b)
  pub numbers : (i : ℕ) → 4 * i + 4 ≤ size → Means m scope.layout (Number lo hi) (word_at new (start + 4 * i))

module _ (m : Contents) (h : Holding) (scope : Scope) (old new : Memory) (has : HoldsNamed m h scope old) (j : ℕ)
    (p : Parameter) (found : scope.parameters j ≡ Some p) (size : ℕ) (lo hi : ℤ)
    (is : p.kind ≡ WrittenRegion size lo hi) (from width : ℕ)
    (alters : AltersRegion m h scope (place_of (scope.layout.starts j)) size lo hi from width old new) where
  abbrev start : ℕ
  start = place_of (scope.layout.starts j)

  region : IsHeldRegion m (may_write h) scope old start size lo hi
  region = subst (λ (kind : ParameterKind). IsNamed m h scope old kind (scope.layout.starts j)) is (has.each j p found)

  is_written : (place : ℕ) → Lies from width place → IsWrittenAt p.kind (scope.layout.starts j) place
  is_written place lies =
      let first = alters.first in
      let last = alters.last in
      let low = lies.low in
      let high = lies.high in
      subst (λ (kind : ParameterKind). IsWrittenAt kind (scope.layout.starts j) place) (sym is)
      (omega arith, omega arith)

  region_alters : Alters h old new (Lies from width)
  region_alters = record {
    bytes = λ place held. alters.kept place;
    own = λ place lies.
        let first = alters.first in
        let last = alters.last in
        let low = lies.low in
        let high = lies.high in
        ap (may_write h) (let e : place ≡ start + (place - start) = omega arith in e)
        ∙ region.held (place - start) (omega arith);
    small = λ place b held e. alters.small place b e;
  }

  again : IsNamed m h scope new p.kind (scope.layout.starts j)
  again = subst (λ (kind : ParameterKind). IsNamed m h scope new kind (scope.layout.starts j)) (sym is)
      (let r : IsHeldRegion m (may_write h) scope new start size lo hi = record {
        aligned = region.aligned;
        whole = region.whole;
        held = region.held;
        beside = region.beside;
        numbers = alters.numbers;
      } in r)

  each : (i : ℕ) (q : Parameter) → scope.parameters i ≡ Some q
      → IsBeside (Lies from width) q.kind (scope.layout.starts i) ⊎ IsNamed m h scope new q.kind (scope.layout.starts i)
  each i q there = elim (cases_eq i j) [
    | inl same ↦
        let one : Some p ≡ Some q = sym found ∙ (ap scope.parameters (sym same) ∙ there) in
        let p_is : p ≡ q = cc in
        inr (subst (λ (n : ℕ). IsNamed m h scope new q.kind (scope.layout.starts n)) (sym same)
        (subst (λ (r : Parameter). IsNamed m h scope new r.kind (scope.layout.starts j)) p_is again))
    | inr differ ↦ inl (λ place at lies. has.apart j i p q found there (λ e. differ (sym e)) place
        (is_written place lies) at)
  ]

  -- it is a change that the activation may make
  pub region_keeps : KeepsMemory m h scope old new
  region_keeps = record {
    size = alters.long;
    bytes = λ place held. elim (alters.kept place) [
      | inl same ↦ inl same
      | inr lies ↦ inr (in_region j p found (is_written place lies))
    ];
    named = λ has. named_left m h scope old new (Lies from width) region_alters each has;
  }

  -- no word of the frame that counts is one of those
  pub word_beside : (k : ℤ) (place : ℕ) → scope.words.reads k ≡ true → pos place ≡ place_in scope.layout.origin k
      → frame_word new scope.layout.origin k ≡ frame_word old scope.layout.origin k
  word_beside k place counts at =
      frame_word_is new scope.layout.origin k place at
      ∙ (word_at_same new old place (same place (omega arith) (omega arith))
      (same (place + 1) (omega arith) (omega arith))
      (same (place + 2) (omega arith) (omega arith)) (same (place + 3) (omega arith) (omega arith))
      ∙ sym (frame_word_is old scope.layout.origin k place at))
    where
      same : (q : ℕ) → place ≤ q → q < place + 4 → byte_at new q ≡ byte_at old q
      same q low high = elim (alters.kept q) [
        | inl e ↦ e
        | inr lies ↦
            let first = alters.first in
            let last = alters.last in
            let from_low = lies.low in
            let to_high = lies.high in
            absurd (region.beside k (q - start) counts (omega arith)
            (subst (λ (n : ℕ). IsByteOf scope.layout.origin k n) (let e : q ≡ start + (q - start) = omega arith in e)
            (record { low = omega (arith, ints); high = omega (arith, ints) })))
      ]

-- ---- words and bytes in memory

-- each byte of a word that is a number is there
pub number_byte : {m : Contents} {layout : Layout} {lo hi : ℤ} (memory : Memory) (place n : ℕ) → n < 4
    → Means m layout (Number lo hi) (word_at memory place) → (b : ℕ) × (byte_at memory (place + n) ≡ Some b)
number_byte {m} {layout} {lo} {hi} memory place n less means = on (byte_at memory (place + n)) refl
  where
    nothing : Means m layout (Number lo hi) None → ⊥
    nothing means = elim means [ ]

    on : (o : Option ℕ) → byte_at memory (place + n) ≡ o → (b : ℕ) × (o ≡ Some b)
    on None e = absurd (nothing (subst (λ (v : Option ℤ). Means m layout (Number lo hi) v)
        (no_byte memory place n less e) means))
    on (Some b) e = (b, refl)

-- so the word lies in memory
pub number_within : {m : Contents} {layout : Layout} {lo hi : ℤ} (memory : Memory) (place : ℕ)
    → Means m layout (Number lo hi) (word_at memory place) → place + 4 ≤ length memory
number_within memory place means =
    let b = number_byte memory place 3 (omega arith) means in
    let inside = inside_memory memory (place + 3) b.0 b.1 in
    omega arith

-- a word each of whose bytes is there is some number
pub number_of_bytes : {m : Contents} {layout : Layout} (memory : Memory) (place : ℕ)
    → ((i : ℕ) → i < 4 → (b : ℕ) × (byte_at memory (place + i) ≡ Some b) × (b < 256))
    → Means m layout (Number least_word greatest_word) (word_at memory place)
number_of_bytes {m} {layout} memory place each =
    let one = each 0 (omega arith) in
    let two = each 1 (omega arith) in
    let three = each 2 (omega arith) in
    let four = each 3 (omega arith) in
    subst (λ (v : Option ℤ). Means m layout (Number least_word greatest_word) v)
    (sym (word_of_bytes memory place one.0 two.0 three.0 four.0
    (ap (byte_at memory) (let e : place ≡ place + 0 = omega arith in e) ∙ one.1) two.1 three.1 four.1))
    (any (cast_signed w32 (one.0 + 256 * two.0 + 65536 * three.0 + 16777216 * four.0))
    (word_fits one.0 two.0 three.0 four.0 one.2 two.2 three.2 four.2))
  where
    any : (v : ℤ) → FitsSigned w32 v → Means m layout (Number least_word greatest_word) (Some v)
    any v fits = is_number (omega (arith, ints, fits)) (omega (arith, ints, fits)) fits

-- a word that is a number still is one, if one of its bytes is replaced
pub number_stays : {m : Contents} {layout : Layout} {lo hi : ℤ} (h : Holding) (memory : Memory)
    (place n c : ℕ) → n < 4 → c < 256
    → ((i : ℕ) → i < 4 → may_read h (place + i) ≡ true) → HasBytes h memory
    → Means m layout (Number lo hi) (word_at memory place)
    → Means m layout (Number least_word greatest_word) (word_at (with_byte memory (place + n) (Some c)) place)
number_stays {m} {layout} {lo} {hi} h memory place n c less small held bytes means =
    number_of_bytes (with_byte memory (place + n) (Some c)) place byte
  where
    byte : (i : ℕ) → i < 4 → (b : ℕ)
        × (byte_at (with_byte memory (place + n) (Some c)) (place + i) ≡ Some b) × (b < 256)
    byte i less =
        let old = number_byte memory place i less means in
        elim (cases_eq (place + i) (place + n)) [
          | inl same ↦ (
            c,
            ap (byte_at (with_byte memory (place + n) (Some c))) same
                ∙ byte_at-with_byte memory (place + n) (Some c)
                (let inside = inside_memory memory (place + i) old.0 old.1 in omega (arith, inside)),
            small,
          )
          | inr differ ↦ (
            old.0,
            byte_at-with_byte_other memory (place + n) (place + i) (Some c) differ ∙ old.1,
            bytes.each (place + i) old.0 (held i less) old.1,
          )
        ]

-- a byte of a word of the frame that is written
pub byte_written : (origin k : ℤ) (memory : Memory) (place : ℕ) (byte : Option ℕ) → IsByteOf origin k place
    → ((c : ℕ) → byte ≡ Some c → c < 256) → AltersWord origin k memory (with_byte memory place byte)
byte_written origin k memory place byte b low = record {
  size = length-with_byte memory place byte;
  kept = λ q. elim (cases_eq q place) [
    | inl same ↦ inr (subst (λ (n : ℕ). IsByteOf origin k n) (sym same) b)
    | inr differ ↦ inl (byte_at-with_byte_other memory place q byte differ)
  ];
  small = byte_small memory place byte low;
}
