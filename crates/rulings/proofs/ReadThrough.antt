-- What is read through a pointer.
use Rattle.std.proofs.Common.{◌≡◌, ℕ, zero, suc, ◌+◌, ◌*◌, ◌<◌, ◌==◌, ℤ, pos, ◌+ℤ◌, ◌≤ℤ◌, ◌<ℤ◌, FitsSigned, Bool, true}
use Rattle.std.proofs.Common.{false, cond, ◌&&◌, length, Option, Some, None, refl, ap, ◌∙◌, subst, arith, rules, inl}
use Rattle.std.proofs.Common.{inr, sym}
use Rattle.std.proofs.lemmas.Bool.{cases_lt, eqb-true, and_from}
use Rattle.std.proofs.lemmas.List.{get_or_past}
use Rattle.std.proofs.lemmas.Int.{ints, clamps, by_lt_z}
use Rattle.std.specs.Prelude.{slice_get, option_map, if◌then◌else◌, ◌⊎◌}
use Rattle.std.specs.Int.{w32, cast_signed}
use Rattle.word_arithmetic.specs.Range.{Ends, full}
use Rattle.module_format.specs.Rows.{Fact}
use Rattle.module_format.specs.declared.fact.Fact.TheVariants.{Unknown, Number, Pointer, CodeAddress, Loop}
use Rattle.module_format.specs.declared.fact.Fact.TheVariants.{ReturnAddress}
use Rattle.module_format.specs.declared.rows.Parameter.{Parameter}
use Rattle.module_format.specs.declared.rows.ParameterKind.{ParameterKind}
use Rattle.module_format.specs.declared.rows.ParameterKind.TheVariants.{Value, ReadRegion, WrittenRegion, Channels}
use Rattle.module_format.specs.Contents.{Contents}
use Rattle.module_format.specs.Contexts.{parameters_at}
use Rattle.machine_state.specs.Memory.{Memory, byte_at, word_at, word_from_bytes, place_of}
use Rattle.machine_state.specs.Holding.{Holding, may_read, may_write, may_read_word, may_write_word}
use Rattle.states.specs.declared.span.Together.{Together}
use Rattle.states.specs.State.{Facts, plain, is_alone}
use Rattle.states.specs.Spans.{with_plain, together}
use Rattle.rulings.specs.Meaning.{Layout, Activation, Means, is_number, says_nothing, MeansWord}
use Rattle.rulings.specs.Regions.{Scope, IsHeldRegion, IsNamed, kind_used, parameter_used}
use Rattle.rulings.specs.Remaining.{only_read, not_used}
use Rattle.rulings.specs.Reach.{readable_size, readable_bytes, may_read_parameter, kept_range, parameter_range}
use Rattle.rulings.specs.Reach.{writable_size, writable_bytes, may_write_parameter}
use Rattle.rulings.specs.Pointers.{any_of, frame_read}
use Rattle.rulings.proofs.Words.{plain_means}
use Rattle.rulings.proofs.Regions.{may_too}

-- ---- what is known of words together

-- the plain fact is a number within the bounds
pub record IsNumberOf (t : Together) (fact : Fact) : Type 0 where
  pub lo : ℤ
  pub hi : ℤ
  pub is : fact ≡ Number lo hi
  pub low : t.lo ≤ℤ lo
  pub high : hi ≤ℤ t.hi

-- one more word that is a number
with_plain_number : (fact : Fact) (t : Together) → (with_plain fact t).are_numbers ≡ true
    → IsNumberOf (with_plain fact t) fact × (t.are_numbers ≡ true) × ((with_plain fact t).lo ≤ℤ t.lo)
    × (t.hi ≤ℤ (with_plain fact t).hi)
with_plain_number (Number lo hi) t h = (
  record { lo = lo; hi = hi; is = refl; low = omega (arith, ints, clamps); high = omega (arith, ints, clamps) },
  h,
  omega (arith, ints, clamps),
  omega (arith, ints, clamps),
)
with_plain_number Unknown t h = absurd (cc)
with_plain_number (Pointer region lo hi steps) t h = absurd (cc)
with_plain_number (CodeAddress offset) t h = absurd (cc)
with_plain_number (Loop base count weight) t h = absurd (cc)
with_plain_number ReturnAddress t h = absurd (cc)

-- each word of a span of numbers
pub number_among : (facts : Facts) (first : ℤ) (count : ℕ) (k : ℤ) → (together facts first count).are_numbers ≡ true
    → first ≤ℤ k → k <ℤ (first +ℤ pos count) → IsNumberOf (together facts first count) (plain (facts k))
number_among facts first zero k h low high = absurd (omega (arith, ints))
number_among facts first (suc more) k h low high =
    let fact = facts (first +ℤ pos more) in
    let before = together facts first more in
    let step = with_plain_number (plain fact) (record before { are_alone = before.are_alone && is_alone fact }) h in
    by_lt_z k (first +ℤ pos more)
    (λ earlier.
    let n = number_among facts first more k step.1 low earlier in
    let from = n.low in
    let to = n.high in
    let lower = step.2 in
    let upper = step.3 in
    record { lo = n.lo; hi = n.hi; is = n.is; low = omega (arith, ints); high = omega (arith, ints) })
    (λ here. subst (λ (z : ℤ). IsNumberOf (together facts first (suc more)) (plain (facts z)))
    (let e : first +ℤ pos more ≡ k = omega (arith, ints) in e) step.0)

-- what is read of a word of the frame
pub frame_means : (m : Contents) (act : Activation) (facts : Facts) (first : ℤ) (count : ℕ) (k : ℤ) (v : Option ℤ)
    → first ≤ℤ k → k <ℤ (first +ℤ pos count) → MeansWord m act k (facts k) v
    → Means m act.layout (frame_read facts first count) v
frame_means m act facts first count k v low high means = on_one (count == 1) refl
  where
    known : Means m act.layout (plain (facts k)) v
    known = plain_means m act k (facts k) v means

    within : (t : Together) (fact : Fact) → IsNumberOf t fact → Means m act.layout fact v
        → Means m act.layout (Number t.lo t.hi) v
    within t fact n means = of_number v (subst (λ (f : Fact). Means m act.layout f v) n.is means)
      where
        of_number : (v : Option ℤ) → Means m act.layout (Number n.lo n.hi) v → Means m act.layout (Number t.lo t.hi) v
        of_number None means = elim means [ ]
        of_number (Some x) (is_number low high fits) =
            let from = n.low in
            let to = n.high in
            is_number (omega (arith, ints)) (omega (arith, ints)) fits

    on_any : (b : Bool) → (together facts first count).are_numbers ≡ b
        → Means m act.layout (cond b (Number (together facts first count).lo (together facts first count).hi) Unknown) v
    on_any true h = within (together facts first count) (plain (facts k))
        (number_among facts first count k h low high) known
    on_any false h = says_nothing

    on_one : (b : Bool) → (count == 1) ≡ b
        → Means m act.layout (cond b (plain (facts first)) (any_of (together facts first count))) v
    on_one true h =
        let one : count ≡ 1 = eqb-true count 1 h in
        subst (λ (z : ℤ). Means m act.layout (plain (facts z)) v)
        (let e : k ≡ first = omega (arith, ints) in e) known
    on_one false h = on_any (together facts first count).are_numbers refl

-- ---- words of regions

-- each byte of a word passes a test
each_byte : (may : ℕ → Bool) (place : ℕ) → ((n : ℕ) → n < 4 → may (place + n) ≡ true)
    → (may place && may (place + 1) && may (place + 2) && may (place + 3)) ≡ true
each_byte may place each =
    and_from _ _ (and_from _ _ (and_from _ _
    (ap may (let e : place ≡ place + 0 = omega arith in e) ∙ each 0 (omega arith)) (each 1 (omega arith)))
    (each 2 (omega arith))) (each 3 (omega arith))

pub word_readable : (h : Holding) (place : ℕ) → ((n : ℕ) → n < 4 → may_read h (place + n) ≡ true)
    → may_read_word h place ≡ true
unfolding may_read_word
word_readable h place each = each_byte (may_read h) place each

pub word_writable : (h : Holding) (place : ℕ) → ((n : ℕ) → n < 4 → may_write h (place + n) ≡ true)
    → may_write_word h place ≡ true
unfolding may_write_word
word_writable h place each = each_byte (may_write h) place each

no_first_byte : (memory : Memory) (place : ℕ) → byte_at memory place ≡ None → word_at memory place ≡ None
unfolding word_at
no_first_byte memory place e = rw e

-- a word is undefined where one of its bytes is
pub no_byte : (memory : Memory) (place n : ℕ) → n < 4 → byte_at memory (place + n) ≡ None → word_at memory place ≡ None
unfolding word_at
no_byte memory place zero less e =
    no_first_byte memory place (ap (byte_at memory) (let is : place ≡ place + 0 = omega arith in is) ∙ e)
no_byte memory place (suc zero) less e = rw e (second (byte_at memory place))
  where
    second : (p : Option ℕ) → word_from_bytes p None (byte_at memory (place + 2)) (byte_at memory (place + 3)) ≡ None
    second None = refl
    second (Some p) = refl
no_byte memory place (suc (suc zero)) less e = rw e (third (byte_at memory place) (byte_at memory (place + 1)))
  where
    third : (p q : Option ℕ) → word_from_bytes p q None (byte_at memory (place + 3)) ≡ None
    third None q = refl
    third (Some p) None = refl
    third (Some p) (Some q) = refl
no_byte memory place (suc (suc (suc zero))) less e =
    rw e (fourth (byte_at memory place) (byte_at memory (place + 1)) (byte_at memory (place + 2)))
  where
    fourth : (p q r : Option ℕ) → word_from_bytes p q r None ≡ None
    fourth None q r = refl
    fourth (Some p) None r = refl
    fourth (Some p) (Some q) None = refl
    fourth (Some p) (Some q) (Some r) = refl
no_byte memory place (suc (suc (suc (suc n)))) less e = absurd (omega arith)

-- a word that is a number lies in memory
pub number_inside : {m : Contents} {layout : Layout} {lo hi : ℤ} (memory : Memory) (place : ℕ)
    → Means m layout (Number lo hi) (word_at memory place) → place < length memory
number_inside {m} {layout} {lo} {hi} memory place means = elim (cases_lt place (length memory)) [
  | inl low ↦ low
  | inr past ↦ absurd (nothing (subst (λ (v : Option ℤ). Means m layout (Number lo hi) v)
      (no_first_byte memory place (get_or_past memory place None past)) means))
]
  where
    nothing : Means m layout (Number lo hi) None → ⊥
    nothing means = elim means [ ]

-- ---- parameters, as a context uses them

-- the parameter of whose region `size` bytes may be used
pub record Usable (m : Contents) (size_of : ParameterKind → Option ℕ) (context j size : ℕ) : Type 0 where
  pub parameter : Parameter
  pub found : parameter_used m context j ≡ Some parameter
  pub has : size_of parameter.kind ≡ Some size
  pub range : parameter_range m context j ≡ kept_range parameter.kind
  -- the row that it has, and what is used of that
  pub was : Parameter
  pub was_found : slice_get (parameters_at m context) j ≡ Some was
  pub is_used : (parameter.kind ≡ was.kind) ⊎ (parameter.kind ≡ only_read was.kind)

-- what is used of a parameter's kind, where it may be written, or only read
abbrev used_if : Bool → Bool → ParameterKind → ParameterKind
used_if write read kind = if write then kind else if read then only_read kind else not_used kind

read_size : (kind : ParameterKind) → readable_size (only_read kind) ≡ readable_size kind
read_size (Value lo hi) = refl
read_size (ReadRegion size lo hi) = refl
read_size (WrittenRegion size lo hi) = refl
read_size (Channels count len ends) = refl

read_range : (kind : ParameterKind) → kept_range (only_read kind) ≡ kept_range kind
read_range (Value lo hi) = refl
read_range (ReadRegion size lo hi) = refl
read_range (WrittenRegion size lo hi) = refl
read_range (Channels count len ends) = refl

used_size : (write : Bool) (kind : ParameterKind) → readable_size (used_if write true kind) ≡ readable_size kind
used_size true kind = refl
used_size false kind = read_size kind

used_kind : (write : Bool) (kind : ParameterKind)
    → (used_if write true kind ≡ kind) ⊎ (used_if write true kind ≡ only_read kind)
used_kind true kind = inl refl
used_kind false kind = inr refl

used_range : (write : Bool) (kind : ParameterKind) → kept_range (used_if write true kind) ≡ kept_range kind
used_range true kind = refl
used_range false kind = read_range kind

module _ (m : Contents) (context j size : ℕ) where
  abbrev p_used : Parameter → Parameter
  p_used p = record p { kind = kind_used m context j p.kind }

  abbrev used_by : Bool → Bool → Parameter → Parameter
  used_by write read p = record p { kind = used_if write read p.kind }

  range_of : (p : Parameter) → slice_get (parameters_at m context) j ≡ Some p
      → parameter_range m context j ≡ kept_range p.kind
  range_of p e = ap (λ (o : Option Parameter). elim o as (λ o. Ends) [
    | None ↦ full
    | Some p ↦ kept_range p.kind
  ]) e

  used_of : (p : Parameter) → slice_get (parameters_at m context) j ≡ Some p
      → parameter_used m context j ≡ Some (p_used p)
  used_of p e = ap (λ (o : Option Parameter). option_map p_used o) e

  pub readable_found : readable_bytes m context j ≡ Some size → Usable m readable_size context j size
  readable_found h = on (slice_get (parameters_at m context) j) (may_read_parameter m context j) refl refl h
    where
      on : (o : Option Parameter) (may : Bool) → slice_get (parameters_at m context) j ≡ o
          → may_read_parameter m context j ≡ may
          → (elim o as (λ o. Option ℕ) [ None ↦ None | Some p ↦ cond may (readable_size p.kind) None ]) ≡ Some size
          → Usable m readable_size context j size
      on None may e r h = absurd (cc)
      on (Some p) true e r h = record {
        parameter = used_by (may_write_parameter m context j) true p;
        found = used_of p e ∙ ap (λ (b : Bool). Some (used_by (may_write_parameter m context j) b p)) r;
        has = used_size (may_write_parameter m context j) p.kind ∙ h;
        range = range_of p e ∙ sym (used_range (may_write_parameter m context j) p.kind);
        was = p;
        was_found = e;
        is_used = used_kind (may_write_parameter m context j) p.kind;
      }
      on (Some p) false e r h = absurd (cc)

  pub writable_usable : writable_bytes m context j ≡ Some size → Usable m writable_size context j size
  writable_usable h = on (slice_get (parameters_at m context) j) (may_write_parameter m context j) refl refl h
    where
      on : (o : Option Parameter) (may : Bool) → slice_get (parameters_at m context) j ≡ o
          → may_write_parameter m context j ≡ may
          → (elim o as (λ o. Option ℕ) [ None ↦ None | Some p ↦ cond may (writable_size p.kind) None ]) ≡ Some size
          → Usable m writable_size context j size
      on None may e r h = absurd (cc)
      on (Some p) true e r h = record {
        parameter = used_by true (may_read_parameter m context j) p;
        found = used_of p e ∙ ap (λ (b : Bool). Some (used_by b (may_read_parameter m context j) p)) r;
        has = h;
        range = range_of p e;
        was = p;
        was_found = e;
        is_used = inl refl;
      }
      on (Some p) false e r h = absurd (cc)

-- it is a region that may be read
pub readable_region : (m : Contents) (h : Holding) (scope : Scope) (memory : Memory) (kind : ParameterKind)
    (start size : ℕ)
    → readable_size kind ≡ Some size → IsNamed m h scope memory kind start
    → IsHeldRegion m (may_read h) scope memory (place_of start) size (kept_range kind).lo (kept_range kind).hi
readable_region m h scope memory (Value lo hi) start size e named = absurd (cc)
readable_region m h scope memory (ReadRegion bytes lo hi) start size e named =
    let same : bytes ≡ size = cc in
    subst (λ (n : ℕ). IsHeldRegion m (may_read h) scope memory (place_of start) n lo hi) same named
readable_region m h scope memory (WrittenRegion bytes lo hi) start size e named =
    let same : bytes ≡ size = cc in
    subst (λ (n : ℕ). IsHeldRegion m (may_read h) scope memory (place_of start) n lo hi) same (record {
      aligned = named.aligned;
      whole = named.whole;
      held = λ i inside. may_too h (place_of start + i) (named.held i inside);
      beside = named.beside;
      numbers = named.numbers;
    })
readable_region m h scope memory (Channels count len ends) start size e named = absurd (cc)

-- ---- the constants

pub word_of_bytes : (memory : Memory) (place a b c d : ℕ) → byte_at memory place ≡ Some a
    → byte_at memory (place + 1) ≡ Some b
    → byte_at memory (place + 2) ≡ Some c → byte_at memory (place + 3) ≡ Some d
    → word_at memory place ≡ Some (cast_signed w32 (a + 256 * b + 65536 * c + 16777216 * d))
unfolding word_at
word_of_bytes memory place a b c d p q r s = rw (p, q, r, s) refl

pub word_fits : (a b c d : ℕ) → a < 256 → b < 256 → c < 256 → d < 256
    → FitsSigned w32 (cast_signed w32 (a + 256 * b + 65536 * c + 16777216 * d))
word_fits a b c d p q r s = signed_fits (a + 256 * b + 65536 * c + 16777216 * d) (omega arith)
  where
    signed_fits : (n : ℕ) → n < 4294967296 → FitsSigned w32 (cast_signed w32 n)
    signed_fits n low = search (rules, arith, ints)
