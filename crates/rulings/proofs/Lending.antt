-- What a call lends: whatever the callee may change its caller may change, and what the caller's parameters name is
-- still
-- there afterwards.
use Rattle.std.proofs.Common.{◌≡◌, ℕ, ◌+◌, ◌-◌, ◌*◌, ◌/◌, ◌≤◌, ◌<◌, ℤ, pos, ◌+ℤ◌, ◌≤ℤ◌, ◌<ℤ◌, Bool, true, ◌⊎◌, inl}
use Rattle.std.proofs.Common.{inr, Option, Some, None, refl, sym, ap, ◌∙◌, subst, arith}
use Rattle.std.proofs.lemmas.Bool.{cases_eq}
use Rattle.std.proofs.lemmas.Int.{ints}
use Rattle.small_laws.proofs.Options.{same_some}
use Rattle.module_format.specs.declared.fact.Fact.TheVariants.{Number}
use Rattle.module_format.specs.declared.fact.Region.{Region}
use Rattle.module_format.specs.declared.rows.Parameter.{Parameter}
use Rattle.module_format.specs.declared.rows.ParameterKind.{ParameterKind}
use Rattle.module_format.specs.declared.rows.ParameterKind.TheVariants.{Value, ReadRegion, WrittenRegion, Channels}
use Rattle.module_format.specs.Contents.{Contents}
use Rattle.machine_state.specs.Memory.{Memory, byte_at, word_at, place_of}
use Rattle.machine_state.specs.Holding.{Holding, may_read}
use Rattle.machine_state.proofs.Reading.{word_at_same}
use Rattle.rulings.specs.Meaning.{Layout, Means, is_number, place_in}
use Rattle.rulings.specs.Regions.{IsByteOf, Scope, IsHeldRegion, IsNamed, HoldsNamed, IsWrittenAt, IsNamedAt, MayChange}
use Rattle.rulings.specs.Regions.{in_frame, in_region, KeepsMemory}
use Rattle.rulings.specs.Lends.{IsRegionKind, IsPart, of_frame, of_constants, of_parameter, Part, Lends}
use Rattle.rulings.proofs.Words.{int_le_tells}
use Rattle.rulings.proofs.Combining.{readable_byte}

-- ---- places and words

-- a number is one in every layout
pub number_means : {m : Contents} {layout other : Layout} {lo hi : ℤ} {v : Option ℤ} → Means m layout (Number lo hi) v
    → Means m other (Number lo hi) v
number_means {v = None} means = elim means [ ]
number_means {v = Some x} (is_number low high fits) = is_number low high fits

-- a number of a range is one of a wider range
pub wider_means : {m : Contents} {layout other : Layout} {lo hi low high : ℤ} {v : Option ℤ} → low ≤ℤ lo → hi ≤ℤ high
    → Means m layout (Number lo hi) v → Means m other (Number low high) v
wider_means {v = None} below above means = elim means [ ]
wider_means {v = Some x} below above (is_number low high fits) =
    is_number (omega (arith, ints, below, low)) (omega (arith, ints, above, high)) fits

-- the byte of a region that lies at a place
pub byte_index : (place start size : ℕ) → start ≤ place → place < start + size
    → (i : ℕ) × (place ≡ start + i) × (i < size)
byte_index place start size low high = (place - start, omega arith, omega arith)

-- a byte lies in one word of a frame
pub same_word : (origin j k : ℤ) (place : ℕ) → IsByteOf origin j place → IsByteOf origin k place → j ≡ k
same_word origin j k place a b = elim (int_le_tells j k) [
  | inl p ↦ elim (int_le_tells k j) [
    | inl q ↦ omega (arith, ints, p.1, q.1)
    | inr q ↦ let low : j <ℤ k = q.1 in absurd (omega (arith, ints, a.high, b.low))
  ]
  | inr p ↦ let low : k <ℤ j = p.1 in absurd (omega (arith, ints, b.high, a.low))
]

-- the byte of a run of words is one of these words
pub run_byte : (origin word : ℤ) (place i : ℕ) → pos place ≡ place_in origin word
    → IsByteOf origin (word +ℤ pos (i / 4)) (place + i)
run_byte origin word place i is = record { low = omega (arith, ints); high = omega (arith, ints) }

-- the callee changes a byte of a region that it may write: where that is the caller's
pub data WritesIn (m : Contents) (caller callee : Scope) (base : ℤ) (lends : Lends m caller callee base)
    (place : ℕ) : Type 0 where
  writes_in : (j : ℕ) (p : Parameter) (size : ℕ) (lo hi : ℤ) (region : Region) (first : ℤ) (count : ℕ)
      (found : callee.parameters j ≡ Some p) → (lends.parts j p found).region ≡ region
      → (lends.parts j p found).first ≡ first → p.kind ≡ WrittenRegion size lo hi → size ≡ 4 * count
      → IsPart m caller callee base region first count lo hi true (place_of (callee.layout.starts j)) → (i : ℕ)
      → place ≡ place_of (callee.layout.starts j) + i → i < 4 * count → WritesIn m caller callee base lends place

module _ (m : Contents) (caller callee : Scope) (base : ℤ) (lends : Lends m caller callee base) where
  -- a byte of the callee's frame is one of the caller's
  pub frame_byte : (k : ℤ) (place : ℕ) → IsByteOf callee.layout.origin k place
      → IsByteOf caller.layout.origin (base +ℤ k) place
  frame_byte k place b = record {
    low = omega (arith, ints, b.low, lends.origin);
    high = omega (arith, ints, b.high, lends.origin);
  }

  written_part : (j : ℕ) (p : Parameter) (kind : ParameterKind) (place : ℕ) → p.kind ≡ kind
      → (found : callee.parameters j ≡ Some p) → IsWrittenAt kind (callee.layout.starts j) place
      → (part : Part m caller callee base kind (callee.layout.starts j)) → (lends.parts j p found).region ≡ part.region
      → (lends.parts j p found).first ≡ part.first → WritesIn m caller callee base lends place
  written_part j p (Value lo hi) place is found there part r f = absurd there
  written_part j p (ReadRegion size lo hi) place is found there part r f = absurd there
  written_part j p (WrittenRegion size lo hi) place is found there part r f =
      let i = byte_index place (place_of (callee.layout.starts j)) size there.0 there.1 in
      writes_in j p size lo hi part.region part.first part.count found r f is part.is.0 part.is.1 i.0 i.1
      (let whole = part.is.0 in omega (arith, i.2, whole))
  written_part j p (Channels count len ends) place is found there part r f = absurd there

  pub writes_of : (j : ℕ) (p : Parameter) (place : ℕ) → callee.parameters j ≡ Some p
      → IsWrittenAt p.kind (callee.layout.starts j) place → WritesIn m caller callee base lends place
  writes_of j p place found there = written_part j p p.kind place refl found there (lends.parts j p found) refl refl

  part_change : {region : Region} {first : ℤ} {count : ℕ} {lo hi : ℤ} {start place i : ℕ}
      → IsPart m caller callee base region first count lo hi true start → place ≡ start + i → i < 4 * count
      → MayChange caller place
  part_change {start = start} {place = place} {i = i} (of_frame word r f is reads writes off) at inside =
      in_frame (word +ℤ pos (i / 4)) (writes (i / 4) (omega arith) refl)
      (subst (λ (q : ℕ). IsByteOf caller.layout.origin (word +ℤ pos (i / 4)) q) (sym at)
      (run_byte caller.layout.origin word start i is))
  part_change (of_constants n r f read is fits) at inside = absurd (cc)
  part_change {start = start} {place = place}
      (of_parameter q p n total low high r f found kind whole below above is fits) at inside =
      in_region q p found (subst (λ (k : ParameterKind). IsWrittenAt k (caller.layout.starts q) place)
      (sym (whole refl))
      (omega (arith, at, is, inside, fits), omega (arith, at, is, inside, fits)))

  -- whatever the callee may change its caller may
  pub lift_change : (place : ℕ) → MayChange callee place → MayChange caller place
  lift_change place (in_frame k t b) =
      in_frame (base +ℤ k) (lends.writes k t) (frame_byte k place b)
  lift_change place (in_region j p found there) = elim (writes_of j p place found there) [
    | writes_in j p size lo hi region first count found r f is whole part i at inside ↦ part_change part at inside
  ]

-- ---- what is left of memory

-- one of the four bytes of a word is one that may change
pub record Touched (scope : Scope) (place : ℕ) : Type 0 where
  pub at : ℕ
  pub low : place ≤ at
  pub high : at < place + 4
  pub change : MayChange scope at

-- a word that may be read is the same, or one of its bytes may change
pub word_kept : {m : Contents} {h : Holding} {scope : Scope} {memory later : Memory}
    → KeepsMemory m h scope memory later
    → (place : ℕ) → may_read h place ≡ true → may_read h (place + 1) ≡ true → may_read h (place + 2) ≡ true
    → may_read h (place + 3) ≡ true → (word_at later place ≡ word_at memory place) ⊎ Touched scope place
word_kept {scope = scope} {memory = memory} {later = later} keeps place a b c d =
    elim (keeps.bytes place a) [
      | inr t ↦ inr (record { at = place; low = omega arith; high = omega arith; change = t })
      | inl p ↦ elim (keeps.bytes (place + 1) b) [
        | inr t ↦ inr (record { at = place + 1; low = omega arith; high = omega arith; change = t })
        | inl q ↦ elim (keeps.bytes (place + 2) c) [
          | inr t ↦ inr (record { at = place + 2; low = omega arith; high = omega arith; change = t })
          | inl r ↦ elim (keeps.bytes (place + 3) d) [
            | inr t ↦ inr (record { at = place + 3; low = omega arith; high = omega arith; change = t })
            | inl s ↦ inl (word_at_same later memory place p q r s)
          ]
        ]
      ]
    ]

-- what a parameter of the callee has of a region of its caller's
record InPart (m : Contents) (callee : Scope) (start : ℕ) (lo hi : ℤ) (i : ℕ) : Type 0 where
  j : ℕ
  p : Parameter
  size : ℕ
  n : ℕ
  count : ℕ
  found : callee.parameters j ≡ Some p
  is : p.kind ≡ WrittenRegion size lo hi
  whole : size ≡ 4 * count
  place : place_of (callee.layout.starts j) ≡ start + 4 * n
  low : 4 * n ≤ i
  high : i < 4 * n + 4 * count

-- the range of a region's kind
same_kind : (kind : ParameterKind) (total size : ℕ) (lo hi low high : ℤ) → IsRegionKind kind total lo hi
    → kind ≡ WrittenRegion size low high → (total ≡ size) × (lo ≡ low) × (hi ≡ high)
same_kind kind total size lo hi low high (inl p) q = absurd (cc)
same_kind kind total size lo hi low high (inr p) q =
    let e : WrittenRegion total lo hi ≡ WrittenRegion size low high = sym p ∙ q in (cc, cc, cc)

-- each byte of a region is one of what its parameter names
pub named_at : (kind : ParameterKind) (total start : ℕ) (lo hi : ℤ) (place : ℕ) → IsRegionKind kind total lo hi
    → place_of start ≤ place → place < place_of start + total → IsNamedAt kind start place
named_at kind total start lo hi place (inl is) low high =
    subst (λ (k : ParameterKind). IsNamedAt k start place) (sym is) (low, high)
named_at kind total start lo hi place (inr is) low high =
    subst (λ (k : ParameterKind). IsNamedAt k start place) (sym is) (low, high)

module _ (m : Contents) (h : Holding) (caller callee : Scope) (base : ℤ) (lends : Lends m caller callee base)
    (memory later : Memory) (keeps : KeepsMemory m h callee memory later) (has : HoldsNamed m h caller memory)
    (mine : HoldsNamed m h callee later) where
  -- the callee changes a region that its caller's parameter names only where the same parameter was lent
  in_part : {may_use : ℕ → Bool} (q : ℕ) (p : Parameter) (total : ℕ) (lo hi : ℤ) (i : ℕ)
      → caller.parameters q ≡ Some p → IsRegionKind p.kind total lo hi
      → IsHeldRegion m may_use caller memory (place_of (caller.layout.starts q)) total lo hi → i < total
      → MayChange callee (place_of (caller.layout.starts q) + i)
      → InPart m callee (place_of (caller.layout.starts q)) lo hi i
  in_part q p total lo hi i found kind region inside (in_frame k t b) =
      absurd (region.beside (base +ℤ k) i (lends.reads k (lends.callee_reads k t)) inside
      (frame_byte m caller callee base lends k (place_of (caller.layout.starts q) + i) b))
  in_part q p total lo hi i found kind region inside (in_region j r there at) =
      on_writes (writes_of m caller callee base lends j r (place_of (caller.layout.starts q) + i) there at)
    where
      start : ℕ
      start = place_of (caller.layout.starts q)

      on_part : (j : ℕ) (r : Parameter) (size : ℕ) (lo' hi' : ℤ) (region' : Region) (first : ℤ) (count n : ℕ)
          → callee.parameters j ≡ Some r → r.kind ≡ WrittenRegion size lo' hi' → size ≡ 4 * count
          → place_of (caller.layout.starts q) + i ≡ place_of (callee.layout.starts j) + n → n < 4 * count
          → IsPart m caller callee base region' first count lo' hi' true (place_of (callee.layout.starts j))
          → InPart m callee (place_of (caller.layout.starts q)) lo hi i
      on_part j r size lo' hi' region' first count n there is whole at less (of_frame word e f place reads writes off) =
          absurd (region.beside (word +ℤ pos (n / 4)) i (reads (n / 4) (omega arith)) inside
          (subst (λ (place : ℕ). IsByteOf caller.layout.origin (word +ℤ pos (n / 4)) place) (sym at)
          (run_byte caller.layout.origin word (place_of (callee.layout.starts j)) n place)))
      on_part j r size lo' hi' region' first count n there is whole at less
          (of_constants k e f read place fits) = absurd (cc)
      on_part j r size lo' hi' region' first count n there is whole at less
          (of_parameter q' p' k total' low high e f found' kind' written below above place fits) =
          elim (cases_eq q q') [
            | inl same ↦
                let p_is : p ≡ p' = same_some (caller.parameters q) p p' found
                (ap (λ (n : ℕ). caller.parameters n) same ∙ found') in
                let range = same_kind p.kind total total' lo hi lo' hi' kind
                (ap (λ (x : Parameter). x.kind) p_is ∙ written refl) in
                let there' : place_of (callee.layout.starts j) ≡ place_of (caller.layout.starts q) + 4 * k =
                place ∙ ap (λ (n : ℕ). place_of (caller.layout.starts n) + 4 * k) (sym same) in
                record {
                  j = j;
                  p = r;
                  size = size;
                  n = k;
                  count = count;
                  found = there;
                  is = is ∙ ap (λ (z : ℤ). WrittenRegion size z hi') (sym range.1)
                      ∙ ap (λ (z : ℤ). WrittenRegion size lo z) (sym range.2);
                  whole = whole;
                  place = there';
                  low = omega (arith, at, there', less);
                  high = omega (arith, at, there', less);
                }
            | inr differ ↦ absurd (has.apart q' q p' p found' found (λ e. differ (sym e))
                (place_of (caller.layout.starts q) + i)
                (subst (λ (k : ParameterKind). IsWrittenAt k (caller.layout.starts q')
                (place_of (caller.layout.starts q) + i))
                (sym (written refl)) (omega (arith, at, place, less, fits), omega (arith, at, place, less, fits)))
                (named_at p.kind total (caller.layout.starts q) lo hi (place_of (caller.layout.starts q) + i) kind
                (omega arith) (omega arith)))
          ]

      on_writes : WritesIn m caller callee base lends (place_of (caller.layout.starts q) + i)
          → InPart m callee (place_of (caller.layout.starts q)) lo hi i
      on_writes (writes_in j r size lo' hi' region' first count there e f is whole part n at less) =
          on_part j r size lo' hi' region' first count n there is whole at less part

  region_kept : {may_use : ℕ → Bool} (q : ℕ) (p : Parameter) (total : ℕ) (lo hi : ℤ)
      → ((place : ℕ) → may_use place ≡ true → may_read h place ≡ true)
      → caller.parameters q ≡ Some p → IsRegionKind p.kind total lo hi
      → IsHeldRegion m may_use caller memory (place_of (caller.layout.starts q)) total lo hi
      → IsHeldRegion m may_use caller later (place_of (caller.layout.starts q)) total lo hi
  region_kept {may_use} q p total lo hi reads found kind region = record {
    aligned = region.aligned;
    whole = region.whole;
    held = region.held;
    beside = region.beside;
    numbers = numbers;
  }
    where
      start : ℕ
      start = place_of (caller.layout.starts q)

      readable : (k place : ℕ) → k < total → place ≡ start + k → may_read h place ≡ true
      readable k place less is = subst (λ (n : ℕ). may_read h n ≡ true) (sym is)
          (reads (start + k) (region.held k less))

      of_part : (i k : ℕ) → 4 * i + 4 ≤ total → 4 * i ≤ k → k < 4 * i + 4
          → InPart m callee (place_of (caller.layout.starts q)) lo hi k
          → Means m caller.layout (Number lo hi) (word_at later (place_of (caller.layout.starts q) + 4 * i))
      of_part i k fits low high part =
          let named : IsNamed m h callee later (WrittenRegion part.size lo hi) (callee.layout.starts part.j) =
          subst (λ (kind : ParameterKind). IsNamed m h callee later kind (callee.layout.starts part.j)) part.is
          (mine.each part.j part.p part.found) in
          subst (λ (place : ℕ). Means m caller.layout (Number lo hi) (word_at later place))
          (let is = part.place in let l = part.low in let u = part.high in omega arith)
          (number_means (named.numbers (i - part.n)
          (let l = part.low in let u = part.high in let w = part.whole in omega arith)))

      numbers : (i : ℕ) → 4 * i + 4 ≤ total
          → Means m caller.layout (Number lo hi) (word_at later (place_of (caller.layout.starts q) + 4 * i))
      numbers i fits = elim (word_kept keeps (start + 4 * i)
          (readable (4 * i) (start + 4 * i) (omega arith) refl)
          (readable (4 * i + 1) (start + 4 * i + 1) (omega arith) (omega arith))
          (readable (4 * i + 2) (start + 4 * i + 2) (omega arith) (omega arith))
          (readable (4 * i + 3) (start + 4 * i + 3) (omega arith) (omega arith))) [
            | inl same ↦ subst (λ (v : Option ℤ). Means m caller.layout (Number lo hi) v) (sym same)
                (region.numbers i fits)
            | inr touched ↦
                let low = touched.low in
                let high = touched.high in
                let k : ℕ = touched.at - start in
                of_part i k fits (omega arith) (omega arith) (in_part q p total lo hi k found kind region (omega arith)
                (subst (λ (n : ℕ). MayChange callee n) (omega arith) touched.change))
          ]

  named_kept : (q : ℕ) (p : Parameter) (kind : ParameterKind) → p.kind ≡ kind → caller.parameters q ≡ Some p
      → IsNamed m h caller memory kind (caller.layout.starts q) → IsNamed m h caller later kind (caller.layout.starts q)
  named_kept q p (Value lo hi) is found named = tt
  named_kept q p (ReadRegion size lo hi) is found named =
      region_kept q p size lo hi (λ place e. e) found (inl is) named
  named_kept q p (WrittenRegion size lo hi) is found named =
      region_kept q p size lo hi (readable_byte h) found (inr is) named
  named_kept q p (Channels count len ends) is found named = named

  -- what the caller's parameters name is still there
  pub lift_named : HoldsNamed m h caller later
  lift_named = record {
    each = λ q p found. named_kept q p p.kind refl found (has.each q p found);
    apart = has.apart;
    constants = mine.constants;
    bytes = mine.bytes;
    even = has.even;
    ends = has.ends;
    back = has.back;
    lengths = has.lengths;
    differ = has.differ;
  }

-- whatever keeps the callee's scope keeps its caller's
pub lift : (m : Contents) (h : Holding) (caller callee : Scope) (base : ℤ) → Lends m caller callee base
    → (memory later : Memory) → HoldsNamed m h callee memory → KeepsMemory m h callee memory later
    → KeepsMemory m h caller memory later
lift m h caller callee base lends memory later mine keeps = record {
  size = keeps.size;
  bytes = λ place e. lifted place (keeps.bytes place e);
  named = λ has. lift_named m h caller callee base lends memory later keeps has (keeps.named mine);
}
  where
    lifted : (place : ℕ) → (byte_at later place ≡ byte_at memory place) ⊎ MayChange callee place
        → (byte_at later place ≡ byte_at memory place) ⊎ MayChange caller place
    lifted place (inl same) = inl same
    lifted place (inr change) = inr (lift_change m caller callee base lends place change)
