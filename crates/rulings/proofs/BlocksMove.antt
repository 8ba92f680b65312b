-- Bytes that are moved: where they lie, and what is left of what is known.
use Rattle.std.proofs.Common.{◌≡◌, ℕ, zero, suc, ◌+◌, ◌-◌, ◌*◌, ◌/◌, ◌%◌, ◌≤◌, ◌<◌, ℤ, pos, negsuc, ◌+ℤ◌, ◌-ℤ◌}
use Rattle.std.proofs.Common.{◌*ℤ◌, ◌≤ℤ◌, ◌<ℤ◌, Bool, true, false, cond, length, Option, Some, None, refl, sym, ap}
use Rattle.std.proofs.Common.{◌∙◌, subst, arith, ◌⊎◌, inl, inr}
use Rattle.std.proofs.lemmas.Bool.{cases_lt, eqb-true, and_parts, and_from}
use Rattle.std.proofs.lemmas.Bool.Decides.{nat_tests}
use Rattle.std.proofs.lemmas.Int.{ints}
use Rattle.std.specs.Prelude.{int_le, int_lt, nat_lt}
use Rattle.std.specs.Option.{option_map}
use Rattle.small_laws.proofs.Comparisons.{int_le-true, int_lt-true, pos_from}
use Rattle.module_format.specs.Rows.{Fact}
use Rattle.module_format.specs.declared.fact.Fact.TheVariants.{Unknown, Number, Pointer, CodeAddress, Loop}
use Rattle.module_format.specs.declared.fact.Fact.TheVariants.{ReturnAddress}
use Rattle.module_format.specs.declared.fact.Region.{Region}
use Rattle.module_format.specs.declared.fact.Region.TheVariants as regions
use Rattle.module_format.specs.declared.rows.Parameter.{Parameter}
use Rattle.module_format.specs.declared.rows.ParameterKind.{ParameterKind}
use Rattle.module_format.specs.declared.rows.ParameterKind.TheVariants.{Value, ReadRegion, WrittenRegion, Channels}
use Rattle.module_format.specs.Order.{least_word, greatest_word}
use Rattle.module_format.specs.Contents.{Contents}
use Rattle.certificate.specs.Rights.{may_write_word as context_writes, may_read_word as context_reads}
use Rattle.machine_state.specs.declared.process.Mode as machine
use Rattle.machine_state.specs.Memory.{Memory, byte_at, word_at, with_byte, place_of}
use Rattle.machine_state.specs.Holding.{Holding, may_read, may_write}
use Rattle.machine_state.specs.World.{constants_start}
use Rattle.machine_state.specs.Spans.{all_places}
use Rattle.machine_state.specs.LocalStep.{copied, places_meet}
use Rattle.machine_state.specs.Site.{Local}
use Rattle.machine_state.proofs.Copying.{copied-none, copied-more, copied-beside}
use Rattle.machine_state.proofs.Reading.{length-with_byte, byte_at-with_byte, word_at_same}
use Rattle.states.specs.declared.span.Leaving.TheVariants.{Become}
use Rattle.states.specs.State.{State}
use Rattle.states.specs.Spans.{is_in_span, on_span, after_change}
use Rattle.states.specs.Below.{lies_within}
use Rattle.states.proofs.SpanFacts.{in-span}
use Rattle.rulings.specs.Meaning.{Layout, Activation, Means, says_nothing, place_in, frame_word, words_in, IsOwnWord}
use Rattle.rulings.specs.Meaning.{IsWellFormed}
use Rattle.rulings.specs.Regions.{parameter_used, Scope, scope_of, IsByteOf, IsHeldRegion, IsNamed, IsWrittenAt}
use Rattle.rulings.specs.Regions.{IsNamedAt}
use Rattle.rulings.specs.Regions.{KeepsMemory}
use Rattle.rulings.specs.Reach.{word_of_byte, words_touched, all_touched, lie_in, may_read_bytes, may_write_bytes}
use Rattle.rulings.specs.Reach.{readable_bytes, readable_size, writable_bytes, parameter_range, kept_range}
use Rattle.rulings.specs.Pointers.{byte_read, stored_byte, is_full, is_number_in}
use Rattle.word_arithmetic.specs.Range.{full}
use Rattle.rulings.specs.Filling.{word_behind, words_within}
use Rattle.rulings.proofs.Within.{Within, ArePlain}
use Rattle.rulings.proofs.Words.{frame_word_is, Follows}
use Rattle.rulings.proofs.Regions.{frame_keeps, keeps_all, keeps_more, may_too, byte_of_own, bytes_read}
use Rattle.rulings.proofs.ReadThrough.{readable_found}
use Rattle.rulings.proofs.Reaching.{region_place, word_of_byte_low, word_of_byte_high}
use Rattle.rulings.proofs.Reaching.{touched_span, touched_passes, lies_inside}
use Rattle.rulings.proofs.ReadThroughPointers.{ByteThrough, byte_through}
use Rattle.rulings.proofs.WriteThrough.{byte_left, number_wider, FrameWord, frame_written, after_followed}
use Rattle.rulings.proofs.WriteThrough.{after_beside, Writable, writable_found, number_within, AltersRegion}
use Rattle.rulings.proofs.WriteThrough.{region_keeps, word_beside, number_byte, number_of_bytes, byte_written}
use Rattle.rulings.proofs.Combining.{written_readable}

-- ---- blocks of bytes

-- each of n places from one on passes a test
pub all_held : (test : ℕ → Bool) (place n : ℕ) → ((i : ℕ) → i < n → test (place + i) ≡ true)
    → all_places test place n ≡ true
unfolding all_places
all_held test place zero each = refl
all_held test place (suc n) each =
    and_from (test place) (all_places test (place + 1) n)
    (ap test (let e : place ≡ place + 0 = omega arith in e) ∙ each 0 (omega arith))
    (all_held test (place + 1) n (λ i less.
    ap test (let e : place + 1 + i ≡ place + suc i = omega arith in e) ∙ each (suc i) (omega arith)))

-- a block is as long as before
pub length-copied : (from : Memory) (source to n : ℕ) (m : Memory) → length (copied from source to n m) ≡ length m
unfolding copied
length-copied from source to zero m = refl
length-copied from source to (suc n) m =
    length-copied from (source + 1) (to + 1) n (with_byte m to (byte_at from source))
    ∙ length-with_byte m to (byte_at from source)

-- the bytes of a block are those that were copied
pub copied-inside : (from : Memory) (source to n : ℕ) (m : Memory) (i : ℕ) → i < n → to + n ≤ length m
    → byte_at (copied from source to n m) (to + i) ≡ byte_at from (source + i)
unfolding copied
copied-inside from source to zero m i less inside = absurd (omega arith)
copied-inside from source to (suc n) m zero less inside =
    copied-beside from (source + 1) (to + 1) n (with_byte m to (byte_at from source)) (to + 0) (inl (omega arith))
    ∙ (ap (byte_at (with_byte m to (byte_at from source))) (let e : to + 0 ≡ to = omega arith in e)
    ∙ (byte_at-with_byte m to (byte_at from source) (omega arith)
    ∙ ap (byte_at from) (let e : source ≡ source + 0 = omega arith in e)))
copied-inside from source to (suc n) m (suc i) less inside =
    let long = length-with_byte m to (byte_at from source) in
    ap (byte_at (copied from (source + 1) (to + 1) n (with_byte m to (byte_at from source))))
    (let e : to + suc i ≡ to + 1 + i = omega arith in e)
    ∙ (copied-inside from (source + 1) (to + 1) n (with_byte m to (byte_at from source)) i (omega arith)
    (omega (arith, long))
    ∙ ap (byte_at from) (let e : source + 1 + i ≡ source + suc i = omega arith in e))

-- two blocks that meet have a place in common
pub meet_tells : (p n q k : ℕ) → places_meet p n q k ≡ true → (p < q + k) × (q < p + n)
meet_tells p n q k t =
    let both = and_parts (nat_lt p (q + k)) (nat_lt q (p + n)) t in
    (less p (q + k) both.0, less q (p + n) both.1)
  where
    less : (a b : ℕ) → nat_lt a b ≡ true → a < b
    less a b t = grind (arith, nat_tests)

-- each of the bytes is defined
abbrev pub AreDefined : Memory → ℕ → ℕ → Type 0
AreDefined memory place n = (i : ℕ) → i < n → (b : ℕ) × (byte_at memory (place + i) ≡ Some b)

-- bytes of numbers are defined
pub defined_of : {m : Contents} {layout : Layout} (said : Fact) (mem : Memory) (place n : ℕ)
    → is_number_in full said ≡ true
    → ((i : ℕ) → i < n → Means m layout said (option_map pos (byte_at mem (place + i)))) → AreDefined mem place n
defined_of {m} {layout} (Number lo hi) mem place n t means = λ i less.
    on (place + i) (byte_at mem (place + i)) refl (means i less)
  where
    on : (p : ℕ) (o : Option ℕ) → byte_at mem p ≡ o → Means m layout (Number lo hi) (option_map pos o)
        → (b : ℕ) × (byte_at mem p ≡ Some b)
    on p None e known = elim known [ ]
    on p (Some b) e known = (b, e)
defined_of Unknown mem place n t means = absurd (cc)
defined_of (Pointer region lo hi steps) mem place n t means = absurd (cc)
defined_of (CodeAddress offset) mem place n t means = absurd (cc)
defined_of (Loop base count weight) mem place n t means = absurd (cc)
defined_of ReturnAddress mem place n t means = absurd (cc)

-- ---- bytes that are read

-- The `n` bytes of a region from an offset on, each of which may be read, and what is known of each.
pub record Source (m : Contents) (h : Holding) (layout : Layout) (memory : Memory) (start offset : ℤ) (n : ℕ)
    (said : Fact) : Type 0 where
  pub place : ℕ
  pub is : pos place ≡ start +ℤ offset
  pub small : place < 4294967296
  pub held : (i : ℕ) → i < n → may_read h (place + i) ≡ true
  pub means : (i : ℕ) → i < n → Means m layout said (option_map pos (byte_at memory (place + i)))

module _ {m : Contents} {h : Holding} {mode : machine.Mode} {act : Activation} {s : State} {l : Local}
    (wf : IsWellFormed m) (a : Within ArePlain m h mode act s l) (region : Region) (lo : ℤ) (n : ℕ) (some : 0 < n)
    (low high : ℤ) (below : low ≤ℤ lo) (above : (lo +ℤ pos n) ≤ℤ high)
    (may : may_read_bytes m s.context region low high ≡ true) where
  abbrev said : Fact
  said = byte_read s region low (high -ℤ pos 1)

  one : (i : ℕ) → i < n → ByteThrough m h act.layout l.memory (region_place m act.layout region) (lo +ℤ pos i) said
  one i less =
      byte_through wf a low (high -ℤ pos 1) (lo +ℤ pos i) (omega (arith, ints)) (omega (arith, ints)) region
      (ap (may_read_bytes m s.context region low)
      (let e : high -ℤ pos 1 +ℤ pos 1 ≡ high = omega (arith, ints) in e) ∙ may)

  pub source_read : Source m h act.layout l.memory (region_place m act.layout region) lo n said
  source_read =
      let first = one 0 some in
      let is = first.is in
      record {
        place = first.place;
        is = omega (arith, ints);
        small = first.small;
        held = λ i less. ap (may_read h) (sym (there i less)) ∙ (one i less).held;
        means = λ i less. subst (λ (p : ℕ). Means m act.layout said (option_map pos (byte_at l.memory p)))
            (there i less)
            (one i less).means;
      }
    where
      there : (i : ℕ) (less : i < n) → (one i less).place ≡ (one 0 some).place + i
      there i less =
          let is = (one i less).is in
          let first = (one 0 some).is in
          omega (arith, ints)

-- ---- where bytes lie

-- the byte at a place is one that may be read through a region
pub data IsReadAt (m : Contents) (context : ℕ) (layout : Layout) (region : Region) (place : ℕ) : Type 0 where
  read_in_frame : (k : ℤ) → region ≡ regions.Frame → context_reads m context k ≡ true
      → IsByteOf layout.origin k place → IsReadAt m context layout region place
  read_in_constants : (i : ℕ) → i < length m.constants → place ≡ constants_start m + i
      → IsReadAt m context layout region place
  read_in_parameter : (j : ℕ) (p : Parameter) → region ≡ regions.Parameter j → parameter_used m context j ≡ Some p
      → IsNamedAt p.kind (layout.starts j) place → IsReadAt m context layout region place

-- it is one that may be written
pub data IsWrittenIn (m : Contents) (context : ℕ) (layout : Layout) (region : Region) (place : ℕ) : Type 0 where
  written_in_frame : (k : ℤ) → region ≡ regions.Frame → context_writes m context k ≡ true
      → IsByteOf layout.origin k place → IsWrittenIn m context layout region place
  written_in_parameter : (j : ℕ) (p : Parameter) → region ≡ regions.Parameter j → parameter_used m context j ≡ Some p
      → IsWrittenAt p.kind (layout.starts j) place → IsWrittenIn m context layout region place

-- a byte within the size of a region is one that its parameter names
named_at : (kind : ParameterKind) (size start place : ℕ) → readable_size kind ≡ Some size → place_of start ≤ place
    → place < place_of start + size → IsNamedAt kind start place
named_at (Value lo hi) size start place e low high = absurd (cc)
named_at (ReadRegion bytes lo hi) size start place e low high = let same : bytes ≡ size = cc in (low, omega arith)
named_at (WrittenRegion bytes lo hi) size start place e low high = let same : bytes ≡ size = cc in (low, omega arith)
named_at (Channels count len ends) size start place e low high = absurd (cc)

module _ (m : Contents) (context : ℕ) (layout : Layout) where
  pub read_at : (region : Region) (lo : ℤ) (n i place : ℕ) → i < n
      → pos place ≡ region_place m layout region +ℤ lo +ℤ pos i
      → may_read_bytes m context region lo (lo +ℤ pos n) ≡ true → IsReadAt m context layout region place
  unfolding may_read_bytes
  read_at regions.Frame lo n i place less is may =
      let k = word_of_byte (lo +ℤ pos i) in
      let from = word_of_byte_low (lo +ℤ pos i) in
      let to = word_of_byte_high (lo +ℤ pos i) in
      read_in_frame k refl
      (touched_passes (context_reads m context) lo (lo +ℤ pos n) k may (omega (arith, ints)) (omega (arith, ints)))
      (record { low = omega (arith, ints); high = omega (arith, ints) })
  read_at regions.Constants lo n i place less is may =
      let inside = lies_inside (Some (length m.constants)) lo (lo +ℤ pos n) may in
      let same : length m.constants ≡ inside.0 = cc in
      let from = inside.2 in
      let to = inside.3 in
      let q = pos_from (lo +ℤ pos i) (omega (arith, ints)) in
      let q_is = q.1 in
      read_in_constants q.0 (omega (arith, ints)) (omega (arith, ints))
  read_at (regions.Parameter j) lo n i place less is may =
      let inside = lies_inside (readable_bytes m context j) lo (lo +ℤ pos n) may in
      let from = inside.2 in
      let to = inside.3 in
      let r = readable_found m context j inside.0 inside.1 in
      read_in_parameter j r.parameter refl r.found
      (named_at r.parameter.kind inside.0 (layout.starts j) place r.has (omega (arith, ints)) (omega (arith, ints)))

  pub written_at : (region : Region) (lo : ℤ) (n i place : ℕ) → i < n
      → pos place ≡ region_place m layout region +ℤ lo +ℤ pos i
      → may_write_bytes m context region lo (lo +ℤ pos n) ≡ true → IsWrittenIn m context layout region place
  unfolding may_write_bytes
  written_at regions.Frame lo n i place less is may =
      let k = word_of_byte (lo +ℤ pos i) in
      let from = word_of_byte_low (lo +ℤ pos i) in
      let to = word_of_byte_high (lo +ℤ pos i) in
      written_in_frame k refl
      (touched_passes (context_writes m context) lo (lo +ℤ pos n) k may (omega (arith, ints)) (omega (arith, ints)))
      (record { low = omega (arith, ints); high = omega (arith, ints) })
  written_at regions.Constants lo n i place less is may = absurd (cc)
  written_at (regions.Parameter j) lo n i place less is may =
      let inside = lies_inside (writable_bytes m context j) lo (lo +ℤ pos n) may in
      let from = inside.2 in
      let to = inside.3 in
      let r = writable_found m context j inside.0 inside.1 in
      written_in_parameter j r.parameter refl r.found
      (subst (λ (kind : ParameterKind). IsWrittenAt kind (layout.starts j) place) (sym r.is)
      (omega (arith, ints), omega (arith, ints)))

-- ---- bytes of different regions

module _ (m : Contents) (h : Holding) (scope : Scope) (memory : Memory) (place : ℕ) where
  -- what is written is named
  named_too : (kind : ParameterKind) (start : ℕ) → IsWrittenAt kind start place → IsNamedAt kind start place
  named_too (Value lo hi) start at = at
  named_too (ReadRegion size lo hi) start at = absurd at
  named_too (WrittenRegion size lo hi) start at = at
  named_too (Channels count len ends) start at = at

  in_region : {may_use : ℕ → Bool} {start size : ℕ} {lo hi : ℤ}
      → IsHeldRegion m may_use scope memory start size lo hi → (k : ℤ)
      → scope.words.reads k ≡ true → IsByteOf scope.layout.origin k place → start ≤ place → place < start + size → ⊥
  in_region {may_use} {start} r k counts b low high =
      r.beside k (place - start) counts (omega arith)
      (subst (λ (q : ℕ). IsByteOf scope.layout.origin k q)
      (let e : place ≡ start + (place - start) = omega arith in e) b)

  -- what may be written through a region may be read through it
  pub written_read : (context : ℕ) (layout : Layout) (region : Region) → IsWrittenIn m context layout region place
      → IsReadAt m context layout region place
  written_read context layout region (written_in_frame k z may b) =
      read_in_frame k z (written_readable m context k may) b
  written_read context layout region (written_in_parameter j p e found at) =
      read_in_parameter j p e found (named_too p.kind (layout.starts j) at)

  -- what is named is no byte of a word of the frame that counts
  pub named_beside : (kind : ParameterKind) (start : ℕ) → IsNamed m h scope memory kind start
      → IsNamedAt kind start place
      → (k : ℤ) → scope.words.reads k ≡ true → IsByteOf scope.layout.origin k place → ⊥
  named_beside (Value lo hi) start named at k counts b = at
  named_beside (ReadRegion size lo hi) start named at k counts b = in_region named k counts b at.0 at.1
  named_beside (WrittenRegion size lo hi) start named at k counts b = in_region named k counts b at.0 at.1
  named_beside (Channels count len ends) start named at k counts b = at

  -- what is written may be written
  written_mine : (kind : ParameterKind) (start : ℕ) → IsNamed m h scope memory kind start → IsWrittenAt kind start place
      → may_write h place ≡ true
  written_mine (Value lo hi) start named at = absurd at
  written_mine (ReadRegion size lo hi) start named at = absurd at
  written_mine (WrittenRegion size lo hi) start named at =
      let low = at.0 in
      let high = at.1 in
      ap (may_write h) (let e : place ≡ place_of start + (place - place_of start) = omega arith in e)
      ∙ named.held (place - place_of start) (omega arith)
  written_mine (Channels count len ends) start named at = absurd at

module _ {m : Contents} {h : Holding} {mode : machine.Mode} {act : Activation} {s : State} {l : Local}
    (a : Within ArePlain m h mode act s l) (from to : Region) (place : ℕ) (differ : from ≡ to → ⊥) where
  abbrev scope : Scope
  scope = scope_of m s.context act.layout

  -- what may be written lies before the constants
  before_constants : may_write h place ≡ true → (i : ℕ) → place ≡ constants_start m + i → ⊥
  before_constants mine i is = let low = a.named.constants.behind place mine in omega (arith, ints)

  frame_mine : (k : ℤ) → context_writes m s.context k ≡ true → IsByteOf act.layout.origin k place
      → may_write h place ≡ true
  frame_mine k may b = byte_of_own h (length l.memory) act.layout.origin k place (a.frame.own k may) b

  -- a byte of one region is none of another that is written
  pub regions_apart : IsReadAt m s.context act.layout from place → IsWrittenIn m s.context act.layout to place → ⊥
  regions_apart (read_in_frame k z counts b) (written_in_frame j y may c) = differ (z ∙ sym y)
  regions_apart (read_in_frame k z counts b) (written_in_parameter j p is found at) =
      named_beside m h scope l.memory place p.kind (act.layout.starts j) (a.named.each j p found)
      (named_too m h scope l.memory place p.kind (act.layout.starts j) at) k counts b
  regions_apart (read_in_constants i less is) (written_in_frame k y may c) = before_constants (frame_mine k may c) i is
  regions_apart (read_in_constants i less is) (written_in_parameter j p e found at) =
      before_constants (written_mine m h scope l.memory place p.kind (act.layout.starts j) (a.named.each j p found) at)
      i is
  regions_apart (read_in_parameter j p is found at) (written_in_frame k y may c) =
      named_beside m h scope l.memory place p.kind (act.layout.starts j) (a.named.each j p found) at k
      (written_readable m s.context k may) c
  regions_apart (read_in_parameter j p is found at) (written_in_parameter k q e there written) =
      a.named.apart k j q p there found
      (λ same. differ (is ∙ (ap regions.Parameter (sym same) ∙ sym e))) place written at

-- ---- words all of whose bytes come

within_ends : (first end k : ℤ) → word_behind first ≤ℤ k → k <ℤ (word_behind first +ℤ pos (words_within first end))
    → k <ℤ word_of_byte end
within_ends first end k low high = on (word_of_byte end -ℤ word_behind first) refl high
  where
    on : (d : ℤ) → word_of_byte end -ℤ word_behind first ≡ d
        → k <ℤ (word_behind first +ℤ pos (elim d as (λ d. ℕ) [ pos n ↦ n | negsuc n ↦ 0 ])) → k <ℤ word_of_byte end
    on (pos n) e high = omega (arith, ints)
    on (negsuc n) e high = absurd (omega (arith, ints))

-- each of them has some of the bytes
pub within_touched : (first end k : ℤ) → word_behind first ≤ℤ k
    → k <ℤ (word_behind first +ℤ pos (words_within first end))
    → (word_of_byte first ≤ℤ k) × (k <ℤ (word_of_byte first +ℤ pos (words_touched first end)))
within_touched first end k low high =
    let less = within_ends first end k low high in
    let from = word_of_byte_high (first +ℤ pos 3) in
    let to = word_of_byte_low end in
    touched_span first end k (omega (arith, ints)) (omega (arith, ints))

-- the same with other terms for the bounds
pub within_told : (first end w x y b z k : ℤ) (n : ℕ) → w ≡ first → b ≡ word_behind w → x ≡ first → y ≡ end
    → n ≡ words_within x y → z ≡ b → z ≤ℤ k → k <ℤ (z +ℤ pos n)
    → (word_of_byte first ≤ℤ k) × (k <ℤ (word_of_byte first +ℤ pos (words_touched first end)))
within_told first end w x y b z k n w_is b_is x_is y_is n_is z_is low high =
    let from : z ≡ word_behind first = z_is ∙ (b_is ∙ ap word_behind w_is) in
    let count : n ≡ words_within first end =
    n_is ∙ (ap (λ (v : ℤ). words_within v y) x_is ∙ ap (words_within first) y_is) in
    within_touched first end k (omega (arith, ints)) (omega (arith, ints))

-- ---- what is left

-- The `n` bytes of the process's own from a place on, which is at `offset` after the start of a region.
pub record Room (h : Holding) (size : ℕ) (start offset : ℤ) (n : ℕ) : Type 0 where
  pub place : ℕ
  pub is : pos place ≡ start +ℤ offset
  pub small : place < 4294967296
  pub fits : place + n ≤ size
  pub own : (i : ℕ) → i < n → may_write h (place + i) ≡ true

-- The `n` bytes of a memory are moved to a place, and what is known then.
pub record Moved {m : Contents} {h : Holding} {mode : machine.Mode} {act : Activation} {s : State} {l : Local}
    (a : Within ArePlain m h mode act s l) (from : Memory) (source place n : ℕ) (left : State) : Type 0 where
  pub after : Within ArePlain m h mode act left (record l { memory = copied from source place n l.memory })
  pub keeps : KeepsMemory m h (scope_of m s.context act.layout) l.memory (copied from source place n l.memory)

-- ---- where bytes may go

module _ {m : Contents} {h : Holding} {mode : machine.Mode} {act : Activation} {s : State} {l : Local}
    (a : Within ArePlain m h mode act s l) (n : ℕ) (some : 0 < n) (lo low high : ℤ) (below : low ≤ℤ lo)
    (above : (lo +ℤ pos n) ≤ℤ high) where
  -- in the frame
  frame_room : all_touched (context_writes m s.context) low high ≡ true
      → Room h (length l.memory) act.layout.origin lo n
  frame_room may =
      let w = word 0 some in
      let own = w.own in
      let is = own.is in
      let from = w.low in
      let to = w.high in
      let q = pos_from (lo -ℤ pos 4 *ℤ w.word) (omega (arith, ints)) in
      let q_is = q.1 in
      let q_low : q.0 < 4 = omega (arith, ints) in
      let last = word (n - 1) (omega arith) in
      let last_own = last.own in
      let last_is = last_own.is in
      let last_low = last.low in
      let last_high = last.high in
      let inside = own.inside in
      let last_inside = last_own.inside in
      let small = a.frame.small in
      let some_is = some in
      let shift : pos (n - 1) ≡ pos n -ℤ pos 1 = omega (arith, ints) in
      record {
        place = own.place + q.0;
        is = omega (arith, ints);
        small = omega arith;
        fits = omega (arith, ints);
        own = λ i less.
            let x = word i less in
            let x_low = x.low in
            let x_high = x.high in
            byte_of_own h (length l.memory) act.layout.origin x.word (own.place + q.0 + i) x.own
            (record { low = omega (arith, ints); high = omega (arith, ints) });
      }
    where
      word : (i : ℕ) → i < n → FrameWord m h s.context (length l.memory) act.layout.origin low high (lo +ℤ pos i)
      word i less = frame_written a low high (lo +ℤ pos i) (omega (arith, ints)) (omega (arith, ints)) may

  -- in a region that a parameter names
  parameter_room : (j : ℕ) → lie_in (writable_bytes m s.context j) low high ≡ true
      → Room h (length l.memory) (pos (place_of (act.layout.starts j))) lo n
  parameter_room j inside =
      let f = lies_inside (writable_bytes m s.context j) low high inside in
      let from = f.2 in
      let to = f.3 in
      let q = pos_from lo (omega (arith, ints)) in
      let is = q.1 in
      of_region f.0 (writable_found m s.context j f.0 f.1) q.0 is (omega (arith, ints))
    where
      of_region : (size : ℕ) → Writable m s.context j size → (q : ℕ) → lo ≡ pos q → q + n ≤ size
          → Room h (length l.memory) (pos (place_of (act.layout.starts j))) lo n
      of_region size r q is fits =
          let start : ℕ = place_of (act.layout.starts j) in
          let length_small = a.frame.small in
          let region : IsHeldRegion m (may_write h) (scope_of m s.context act.layout) l.memory start size r.lo r.hi =
          subst (λ (kind : ParameterKind). IsNamed m h (scope_of m s.context act.layout) l.memory kind
          (act.layout.starts j)) r.is (a.named.each j r.parameter r.found) in
          let whole : size % 4 ≡ 0 = eqb-true (size % 4) 0 region.whole in
          let last = number_within l.memory (start + 4 * ((q + n - 1) / 4))
          (region.numbers ((q + n - 1) / 4) (omega (arith, whole, fits, some))) in
          let inside : start + q + n ≤ length l.memory = omega (arith, last, some) in
          record {
            place = start + q;
            is = omega (arith, ints);
            small = omega arith;
            fits = inside;
            own = λ i less. ap (may_write h) (let e : start + q + i ≡ start + (q + i) = omega arith in e)
                ∙ region.held (q + i) (omega arith);
          }

  pub written_room : (region : Region) → may_write_bytes m s.context region low high ≡ true
      → Room h (length l.memory) (region_place m act.layout region) lo n
  unfolding may_write_bytes
  written_room regions.Frame may = frame_room may
  written_room regions.Constants may = absurd (cc)
  written_room (regions.Parameter j) may = parameter_room j may

-- ---- what comes

module _ {m : Contents} {h : Holding} {mode : machine.Mode} {act : Activation} {s : State} {l : Local}
    (a : Within ArePlain m h mode act s l) (from : Memory) (source n : ℕ) (some : 0 < n)
    (byte_low : (i : ℕ) → i < n → (c : ℕ) → byte_at from (source + i) ≡ Some c → c < 256) (lo : ℤ) where
  abbrev all : Scope
  all = scope_of m s.context act.layout

  module _ (to : ℕ) (fits : to + n ≤ length l.memory) where
    abbrev new : Memory
    new = copied from source to n l.memory

    -- a byte is one of those that come, or stays
    comes_or_stays : (place : ℕ)
        → ((i : ℕ) × (i < n) × (place ≡ to + i) × (byte_at new place ≡ byte_at from (source + i)))
        ⊎ (((place < to) ⊎ (to + n ≤ place)) × (byte_at new place ≡ byte_at l.memory place))
    comes_or_stays place = elim (cases_lt place to) [
      | inl low ↦ inr (inl low, copied-beside from source to n l.memory place (inl low))
      | inr high ↦ elim (cases_lt place (to + n)) [
        | inr behind ↦ inr (inr behind, copied-beside from source to n l.memory place (inr behind))
        | inl inside ↦
            let is : place ≡ to + (place - to) = omega arith in
            let less : place - to < n = omega arith in
            inl (
              place - to,
              less,
              is,
              ap (byte_at new) is ∙ copied-inside from source to n l.memory (place - to) less fits,
            )
      ]
    ]

    -- a word all of whose bytes come, or are there
    word_comes : AreDefined from source n → (place : ℕ)
        → ((t : ℕ) → t < 4 → ((place + t < to) ⊎ (to + n ≤ place + t))
        → (b : ℕ) × (byte_at l.memory (place + t) ≡ Some b) × (b < 256))
        → Means m act.layout (Number least_word greatest_word) (word_at new place)
    word_comes defined place other = number_of_bytes new place (λ t less. elim (comes_or_stays (place + t)) [
      | inl come ↦
          let byte = defined come.0 come.1 in (byte.0, come.3 ∙ byte.1, byte_low come.0 come.1 byte.0 byte.1)
      | inr stays ↦ let byte = other t less stays.0 in (byte.0, stays.1 ∙ byte.1, byte.2)
    ])

    -- a word of which no byte comes
    word_stays : (place : ℕ) → ((t : ℕ) → t < 4 → (place + t < to) ⊎ (to + n ≤ place + t))
        → word_at new place ≡ word_at l.memory place
    word_stays place out =
        sym (word_at_same l.memory new place (same 0 (omega arith) place (omega arith))
        (same 1 (omega arith) (place + 1) refl)
        (same 2 (omega arith) (place + 2) refl) (same 3 (omega arith) (place + 3) refl))
      where
        same : (t : ℕ) → t < 4 → (p : ℕ) → p ≡ place + t → byte_at l.memory p ≡ byte_at new p
        same t less p is =
            sym (copied-beside from source to n l.memory p
            (subst (λ (q : ℕ). (q < to) ⊎ (to + n ≤ q)) (sym is) (out t less)))

  -- ---- in the frame

  module _ (low high : ℤ) (below : low ≤ℤ lo) (above : (lo +ℤ pos n) ≤ℤ high)
      (may : all_touched (context_writes m s.context) low high ≡ true)
      (room : Room h (length l.memory) act.layout.origin lo n) where
    word : (i : ℕ) → i < n
        → FrameWord m h s.context (length l.memory) act.layout.origin low high (lo +ℤ pos i)
    word i less = frame_written a low high (lo +ℤ pos i) (omega (arith, ints)) (omega (arith, ints)) may

    abbrev to : ℕ
    to = room.place

    abbrev after_it : Memory
    after_it = copied from source to n l.memory

    byte_in : (i : ℕ) (less : i < n) → IsByteOf act.layout.origin (word i less).word (to + i)
    byte_in i less =
        let at = room.is in
        let w = word i less in
        let w_low = w.low in
        let w_high = w.high in
        record { low = omega (arith, ints); high = omega (arith, ints) }

    -- one byte after another is written
    frame_kept : (k : ℕ) → k ≤ n → KeepsMemory m h all l.memory (copied from source to k l.memory)
    frame_kept zero few =
        subst (λ (x : Memory). KeepsMemory m h all l.memory x) (sym (copied-none from source to l.memory)) keeps_all
    frame_kept (suc k) few =
        let so_far = frame_kept k (omega arith) in
        let w = word k (omega arith) in
        let before = copied from source to k l.memory in
        let byte = byte_at from (source + k) in
        keeps_more so_far (subst (λ (x : Memory). KeepsMemory m h all before x)
        (sym (copied-more from source to k l.memory))
        (frame_keeps m h all w.word before (with_byte before (to + k) byte) w.may
        (written_readable m s.context w.word w.may)
        (subst (λ (size : ℕ). IsOwnWord h size act.layout.origin w.word) (sym so_far.size) w.own)
        (byte_written act.layout.origin w.word before (to + k) byte (byte_in k (omega arith))
        (byte_low k (omega arith)))))

    abbrev first : ℤ
    first = word_of_byte low

    abbrev count : ℕ
    count = words_touched low high

    -- a byte of a word that is not touched
    outside : (k : ℤ) (place : ℕ) → pos place ≡ place_in act.layout.origin k
        → is_in_span first count k ≡ false → (t : ℕ)
        → t < 4 → (place + t < to) ⊎ (to + n ≤ place + t)
    outside k place is out t less = elim (cases_lt (place + t) to) [
      | inl before ↦ inl before
      | inr on ↦ elim (cases_lt (place + t) (to + n)) [
        | inr behind ↦ inr behind
        | inl inside ↦
            let at = room.is in
            let span = touched_span low high k (omega (arith, ints)) (omega (arith, ints)) in
            let no : true ≡ false = sym (in-span first count k span.0 span.1) ∙ out in
            absurd (cc)
      ]
    ]

    kept : (k : ℤ) → context_reads m s.context k ≡ true → is_in_span first count k ≡ false
        → frame_word after_it act.layout.origin k ≡ frame_word l.memory act.layout.origin k
    kept k counts out =
        let w = a.frame.readable k counts in
        frame_word_is after_it act.layout.origin k w.place w.is
        ∙ (word_stays to room.fits w.place (outside k w.place w.is out)
        ∙ sym (frame_word_is l.memory act.layout.origin k w.place w.is))

    -- ---- bytes of which nothing is known

    pub unknown_into_frame : Moved a from source to n (after_change (on_span first count (Become Unknown)) s)
    unknown_into_frame = record {
      after = after_followed a (on_span first count (Become Unknown)) after_it
          (record { touched = λ k said counts e means. says_nothing; kept = kept }) (frame_kept n (omega arith));
      keeps = frame_kept n (omega arith);
    }

    -- ---- bytes of numbers

    module _ (defined : AreDefined from source n) where
      -- a word that was a number
      mixed : (k : ℤ) (least most : ℤ) → context_reads m s.context k ≡ true
          → Means m act.layout (Number least most) (frame_word l.memory act.layout.origin k)
          → Means m act.layout (Number least_word greatest_word) (frame_word after_it act.layout.origin k)
      mixed k least most counts means =
          let w = a.frame.readable k counts in
          subst (λ (v : Option ℤ). Means m act.layout (Number least_word greatest_word) v)
          (sym (frame_word_is after_it act.layout.origin k w.place w.is))
          (word_comes to room.fits defined w.place (λ t less out.
          let byte = number_byte l.memory w.place t less
          (subst (λ (v : Option ℤ). Means m act.layout (Number least most) v)
          (frame_word_is l.memory act.layout.origin k w.place w.is) means) in
          (byte.0, byte.1, a.named.bytes.each (w.place + t) byte.0 (bytes_read h w.place w.readable t less) byte.1)))

      -- a word all of whose bytes come
      whole : (low ≡ lo) × (high ≡ lo +ℤ pos n) → (k : ℤ) → context_reads m s.context k ≡ true → word_behind low ≤ℤ k
          → k <ℤ (word_behind low +ℤ pos (words_within low high))
          → Means m act.layout (Number least_word greatest_word) (frame_word after_it act.layout.origin k)
      whole exact k counts k_low k_high =
          let w = a.frame.readable k counts in
          let is = w.is in
          let at = room.is in
          let start = word_of_byte_high (low +ℤ pos 3) in
          let end = word_of_byte_low high in
          let within = within_ends low high k k_low k_high in
          subst (λ (v : Option ℤ). Means m act.layout (Number least_word greatest_word) v)
          (sym (frame_word_is after_it act.layout.origin k w.place w.is))
          (word_comes to room.fits defined w.place
          (λ t less out. absurd (inside w.place t less is at exact.0 exact.1 start end k_low within out)))
        where
          inside : (place t : ℕ) → t < 4 → pos place ≡ place_in act.layout.origin k → pos to ≡ act.layout.origin +ℤ lo
              → low ≡ lo → high ≡ lo +ℤ pos n
              → (low +ℤ pos 3) <ℤ (pos 4 *ℤ word_behind low +ℤ pos 4) → (pos 4 *ℤ word_of_byte high) ≤ℤ high
              → word_behind low ≤ℤ k → k <ℤ word_of_byte high → (place + t < to) ⊎ (to + n ≤ place + t) → ⊥
          inside place t less is at first_is end_is start end k_low k_high (inl before) = omega (arith, ints)
          inside place t less is at first_is end_is start end k_low k_high (inr behind) = omega (arith, ints)

      numbers_follow : Follows m (words_in m s.context).reads act.layout (on_span first count stored_byte)
          l.memory after_it
      numbers_follow = record {
        touched = λ k said counts e means. byte_left m act.layout said _ _
            (λ least most known. mixed k least most counts known) means;
        kept = kept;
      }

      after_numbers : Within ArePlain m h mode act (after_change (on_span first count stored_byte) s)
          (record l { memory = after_it })
      after_numbers = after_followed a (on_span first count stored_byte) after_it numbers_follow
          (frame_kept n (omega arith))

      moved_numbers : (left : State) → Within ArePlain m h mode act left (record l { memory = after_it })
          → Moved a from source to n left
      moved_numbers left after = record { after = after; keeps = frame_kept n (omega arith) }

      -- Some words have all their bytes among them, where the bytes may lie in one place alone, or none is said to.
      pub numbers_into_frame : (some_within : Bool) → (some_within ≡ true → (low ≡ lo) × (high ≡ lo +ℤ pos n))
          → Moved a from source to n
          (cond some_within (after_change (on_span (word_behind low) (words_within low high)
          (Become (Number least_word greatest_word))) (after_change (on_span first count stored_byte) s))
          (after_change (on_span first count stored_byte) s))
      unfolding after_change
      numbers_into_frame false exact = moved_numbers _ after_numbers
      numbers_into_frame true exact =
          moved_numbers _ (after_followed after_numbers
          (on_span (word_behind low) (words_within low high) (Become (Number least_word greatest_word))) after_it
          (record {
            touched = λ k said counts e means.
                let both = and_parts (int_le (word_behind low) k)
                (int_lt k (word_behind low +ℤ pos (words_within low high))) e in
                whole (exact refl) k counts (int_le-true (word_behind low) k both.0)
                (int_lt-true k (word_behind low +ℤ pos (words_within low high)) both.1);
            kept = λ k counts e. refl;
          }) keeps_all)

  -- ---- in a region that a parameter names

  module _ (defined : AreDefined from source n) (j : ℕ)
      (room : Room h (length l.memory) (pos (place_of (act.layout.starts j))) lo n) where
    abbrev moved : Memory
    moved = copied from source room.place n l.memory

    of_region : (size : ℕ) (r : Writable m s.context j size) (q : ℕ) → lo ≡ pos q → q + n ≤ size
        → is_full (parameter_range m s.context j) ≡ true
        → Moved a from source room.place n s
    of_region size r q is fits t =
        let keeps = region_keeps m h all l.memory moved a.named j r.parameter r.found size r.lo r.hi r.is
        room.place n alters in
        record {
          after = after_beside a moved (λ k counts.
              let w = a.frame.readable k counts in
              word_beside m h all l.memory moved a.named j r.parameter r.found size r.lo r.hi r.is
              room.place n alters k w.place
              counts w.is) keeps;
          keeps = keeps;
        }
      where
        start : ℕ
        start = place_of (act.layout.starts j)

        at : room.place ≡ start + q
        at = let there = room.is in omega (arith, ints)

        region : IsHeldRegion m (may_write h) all l.memory start size r.lo r.hi
        region = subst (λ (kind : ParameterKind). IsNamed m h all l.memory kind (act.layout.starts j)) r.is
            (a.named.each j r.parameter r.found)

        range_is : parameter_range m s.context j ≡ record { lo = r.lo; hi = r.hi }
        range_is = r.range ∙ ap kept_range r.is

        wide : lies_within least_word greatest_word r.lo r.hi ≡ true
        wide = ap is_full (sym range_is) ∙ t

        number : (i : ℕ) → 4 * i + 4 ≤ size → Means m act.layout (Number r.lo r.hi) (word_at moved (start + 4 * i))
        number i within =
            let both = and_parts (int_le r.lo least_word) (int_le greatest_word r.hi) wide in
            number_wider m act.layout r.lo r.hi _
            (int_le-true r.lo least_word both.0) (int_le-true greatest_word r.hi both.1)
            (word_comes room.place room.fits defined (start + 4 * i) (λ k less out.
            let byte = number_byte l.memory (start + 4 * i) k less (region.numbers i within) in (
              byte.0,
              byte.1,
              a.named.bytes.each (start + 4 * i + k) byte.0 (may_too h (start + 4 * i + k)
                  (ap (may_write h) (let e : start + 4 * i + k ≡ start + (4 * i + k) = omega arith in e)
                  ∙ region.held (4 * i + k) (omega arith))) byte.1,
            )))

        alters : AltersRegion m h all start size r.lo r.hi room.place n l.memory moved
        alters = record {
          long = length-copied from source room.place n l.memory;
          first = let there = at in omega arith;
          last = let there = at in omega arith;
          kept = λ place. elim (comes_or_stays room.place room.fits place) [
            | inl come ↦
                let less = come.1 in
                let there = come.2 in
                inr (record { low = omega arith; high = omega arith })
            | inr stays ↦ inl stays.1
          ];
          small = λ place b found. elim (comes_or_stays room.place room.fits place) [
            | inl come ↦ inl (byte_low come.0 come.1 b (sym come.3 ∙ found))
            | inr stays ↦ inr (sym stays.1 ∙ found)
          ];
          numbers = number;
        }

    pub numbers_into_parameter : lie_in (writable_bytes m s.context j) lo (lo +ℤ pos n) ≡ true
        → is_full (parameter_range m s.context j) ≡ true → Moved a from source room.place n s
    numbers_into_parameter inside t =
        let f = lies_inside (writable_bytes m s.context j) lo (lo +ℤ pos n) inside in
        let low = f.2 in
        let high = f.3 in
        let q = pos_from lo (omega (arith, ints)) in
        let is = q.1 in
        of_region f.0 (writable_found m s.context j f.0 f.1) q.0 is (omega (arith, ints)) t
