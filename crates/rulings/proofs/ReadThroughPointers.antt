-- Where a pointer leads that a context may read through, and what is there.
use Rattle.std.proofs.Common.{◌≡◌, ℕ, ◌+◌, ◌*◌, ◌/◌, ◌%◌, ◌≤◌, ◌<◌, ℤ, pos, ◌+ℤ◌, ◌*ℤ◌, ◌≤ℤ◌, ◌<ℤ◌}
use Rattle.std.proofs.Common.{Bool, rules, neg_ℤ, not, true, false, cond, length, get_or, FitsSigned, Option, Some}
use Rattle.std.proofs.Common.{None, refl, sym, ap, ◌∙◌, subst, arith}
use Rattle.std.proofs.lemmas.Bool.{eqb-true}
use Rattle.std.proofs.lemmas.Int.{ints}
use Rattle.std.specs.Prelude.{IsTrue, find, unwrap_or}
use Rattle.std.specs.Option.{option_map}
use Rattle.std.specs.Int.{w32}
use Rattle.small_laws.proofs.Comparisons.{pos_from}
use Rattle.word_arithmetic.specs.Range.{Ends, full}
use Rattle.module_format.specs.Rows.{Fact}
use Rattle.module_format.specs.declared.fact.Fact.TheVariants.{Unknown, Number}
use Rattle.module_format.specs.declared.fact.Region.{Region}
use Rattle.module_format.specs.declared.fact.Region.TheVariants as regions
use Rattle.module_format.specs.declared.rows.TableRow.{TableRow}
use Rattle.module_format.specs.Order.{is_stepped}
use Rattle.module_format.specs.Contents.{Contents}
use Rattle.certificate.specs.Rights.{may_read_word as context_reads}
use Rattle.machine_state.specs.declared.process.Mode as machine
use Rattle.machine_state.specs.Memory.{Memory, byte_at, word_at, place_of}
use Rattle.machine_state.specs.Holding.{Holding, may_read, may_read_word}
use Rattle.machine_state.specs.World.{constants_start}
use Rattle.machine_state.specs.Site.{Local}
use Rattle.states.specs.State.{State, plain}
use Rattle.states.specs.Spans.{together}
use Rattle.rulings.specs.Meaning.{Layout, Activation, Means, is_number, says_nothing, frame_word, IsWellFormed}
use Rattle.rulings.specs.Regions.{Scope, scope_of, IsHeldRegion, HasBytes}
use Rattle.rulings.specs.Reach.{word_of_byte, words_touched, all_touched, lie_in, lie_in_row, readable_bytes}
use Rattle.rulings.specs.Reach.{may_read_bytes, kept_range, constant_range, parameter_range, region_range}
use Rattle.rulings.specs.Pointers.{number_within, frame_read, word_read, byte_read}
use Rattle.rulings.proofs.Within.{Within, ArePlain}
use Rattle.rulings.proofs.Words.{plain_means, means_same, frame_word_is}
use Rattle.rulings.proofs.Regions.{bytes_read}
use Rattle.rulings.proofs.Addresses.{stepped_quotient}
use Rattle.rulings.proofs.Reaching.{region_place, word_of_byte_low, word_of_byte_high, touched_span, touched_passes}
use Rattle.rulings.proofs.Reaching.{lies_inside}
use Rattle.rulings.proofs.Constants.{word_in, row_word}
use Rattle.rulings.proofs.ReadThrough.{frame_means, word_readable, number_inside, readable_found, readable_region}
use Rattle.rulings.proofs.ReadThrough.{word_of_bytes, word_fits, no_byte, number_among}

-- A word of a region, by its offset, that may be read, and what is known of it.
pub record WordThrough (m : Contents) (h : Holding) (layout : Layout) (memory : Memory) (start : ℤ) (offset : ℤ)
    (said : Fact) : Type 0 where
  pub place : ℕ
  pub is : pos place ≡ start +ℤ offset
  pub small : place < 4294967296
  pub even : place % 4 ≡ 0
  pub held : may_read_word h place ≡ true
  pub means : Means m layout said (word_at memory place)

pub even_place : (place : ℕ) (q : ℤ) → pos place ≡ pos 4 *ℤ q → place % 4 ≡ 0
even_place place q e = omega (arith, ints)

-- the `width` bytes from an offset on lie in a region, each wherever a pointer points, if it is one
pub inside_some : (size : Option ℕ) (width : ℕ) (lo hi offset : ℤ) → lo ≤ℤ offset → offset ≤ℤ hi
    → lie_in size lo (hi +ℤ pos width) ≡ true
    → (total : ℕ) × (size ≡ Some total) × (n : ℕ) × (offset ≡ pos n) × (n + width ≤ total)
inside_some size width lo hi offset low high inside =
    let f = lies_inside size lo (hi +ℤ pos width) inside in
    let from = f.2 in
    let to = f.3 in
    let n = pos_from offset (omega (arith, ints)) in
    let is = n.1 in
    (f.0, f.1, n.0, n.1, omega (arith, ints))

pub inside_region : (size width : ℕ) (lo hi offset : ℤ) → lo ≤ℤ offset → offset ≤ℤ hi
    → lie_in (Some size) lo (hi +ℤ pos width) ≡ true → (n : ℕ) × (offset ≡ pos n) × (n + width ≤ size)
inside_region size width lo hi offset low high inside =
    let f = inside_some (Some size) width lo hi offset low high inside in
    let is = f.1 in
    let same : size ≡ f.0 = cc in
    let fits = f.4 in
    (f.2, f.3, omega arith)

-- the region that a parameter names, of which the bytes from the first up to `end` may be read
record Readable (m : Contents) (h : Holding) (scope : Scope) (context : ℕ) (memory : Memory) (j : ℕ) (first end : ℤ)
    : Type 0 where
  size : ℕ
  range : Ends
  range_is : parameter_range m context j ≡ range
  region : IsHeldRegion m (may_read h) scope memory (place_of (scope.layout.starts j)) size range.lo range.hi
  from : pos 0 ≤ℤ first
  to : end ≤ℤ pos size

named_readable : {m : Contents} {h : Holding} {mode : machine.Mode} {act : Activation} {s : State} {l : Local}
    → Within ArePlain m h mode act s l → (j : ℕ) (first end : ℤ)
    → lie_in (readable_bytes m s.context j) first end ≡ true
    → Readable m h (scope_of m s.context act.layout) s.context l.memory j first end
named_readable {m} {h} {mode} {act} {s} {l} a j first end inside =
    let f = lies_inside (readable_bytes m s.context j) first end inside in
    let r = readable_found m s.context j f.0 f.1 in
    record {
      size = f.0;
      range = kept_range r.parameter.kind;
      range_is = r.range;
      region = readable_region m h (scope_of m s.context act.layout) l.memory r.parameter.kind (act.layout.starts j) f.0
          r.has (a.named.each j r.parameter r.found);
      from = f.2;
      to = f.3;
    }

module _ {m : Contents} {h : Holding} {mode : machine.Mode} {act : Activation} {s : State} {l : Local}
    (wf : IsWellFormed m) (a : Within ArePlain m h mode act s l) (lo hi offset : ℤ)
    (low : lo ≤ℤ offset) (high : offset ≤ℤ hi)
    (aligned : IsTrue (is_stepped offset)) where
  -- a word of the frame
  through_frame : all_touched (context_reads m s.context) lo (hi +ℤ pos 4) ≡ true
      → WordThrough m h act.layout l.memory act.layout.origin offset
      (frame_read s.frame (word_of_byte lo) (words_touched lo (hi +ℤ pos 1)))
  through_frame all =
      let q = stepped_quotient offset aligned in
      let k = q.0 in
      let k_is : offset ≡ pos 4 *ℤ k = q.1 in
      let counts = touched_passes (context_reads m s.context) lo (hi +ℤ pos 4) k all (omega (arith, ints))
      (omega (arith, ints)) in
      let span = touched_span lo (hi +ℤ pos 1) k (omega (arith, ints)) (omega (arith, ints)) in
      let w = a.frame.readable k counts in
      let is = w.is in
      let inside = w.inside in
      let small = a.frame.small in
      let o = stepped_quotient act.layout.origin a.named.even in
      let o_is = o.1 in
      record {
        place = w.place;
        is = omega (arith, ints);
        small = omega arith;
        even = even_place w.place (o.0 +ℤ k) (omega (arith, ints));
        held = w.readable;
        means = frame_means m act s.frame (word_of_byte lo) (words_touched lo (hi +ℤ pos 1)) k
            (word_at l.memory w.place)
            span.0 span.1
            (means_same (a.knows.words k counts) refl (frame_word_is l.memory act.layout.origin k w.place w.is));
      }

  -- the range of a word of the constants
  constant_means : (n : ℕ) → n % 4 ≡ 0 → offset ≡ pos n → n + 4 ≤ length m.constants
      → Means m act.layout (number_within (constant_range m lo (hi +ℤ pos 4))) (Some (word_in m.constants n))
  unfolding constant_range
  constant_means n even is inside = on (find (lie_in_row lo (hi +ℤ pos 4)) m.table_rows) refl
    where
      fits : FitsSigned w32 (word_in m.constants n)
      fits = word_fits _ _ _ _ (wf.constant_bytes (n + 0)) (wf.constant_bytes (n + 1)) (wf.constant_bytes (n + 2))
          (wf.constant_bytes (n + 3))

      on : (o : Option TableRow) → find (lie_in_row lo (hi +ℤ pos 4)) m.table_rows ≡ o
          → Means m act.layout (number_within
          (unwrap_or (option_map (λ (row : TableRow). record { lo = row.lo; hi = row.hi }) o) full))
          (Some (word_in m.constants n))
      on None e = is_number (omega (arith, ints, fits)) (omega (arith, ints, fits)) fits
      on (Some row) e =
          let w = row_word m.constants m.table_rows lo (hi +ℤ pos 4) row n wf.tables e even (omega (arith, ints))
          (omega (arith, ints)) in
          is_number w.low w.high fits

  through_constants : lie_in (Some (length m.constants)) lo (hi +ℤ pos 4) ≡ true
      → WordThrough m h act.layout l.memory (pos (constants_start m)) offset
      (number_within (constant_range m lo (hi +ℤ pos 4)))
  through_constants inside =
      let n = inside_region (length m.constants) 4 lo hi offset low high inside in
      let is : offset ≡ pos n.0 = n.1 in
      let fits : n.0 + 4 ≤ length m.constants = n.2 in
      let q = stepped_quotient offset aligned in
      let q_is = q.1 in
      let even : n.0 % 4 ≡ 0 = even_place n.0 q.0 (omega (arith, ints)) in
      record {
        place = constants_start m + n.0;
        is = omega (arith, ints);
        small = omega (arith, wf.few_words, wf.short_code, wf.few_constants);
        even = omega arith;
        held = word_readable h (constants_start m + n.0) (λ j less.
            ap (may_read h) (let e : constants_start m + n.0 + j ≡ constants_start m + (n.0 + j) = omega arith in e)
            ∙ a.named.constants.readable (n.0 + j) (omega arith));
        means = subst (λ (v : Option ℤ). Means m act.layout (number_within (constant_range m lo (hi +ℤ pos 4))) v)
            (sym (word_of_bytes l.memory (constants_start m + n.0) _ _ _ _
            (byte n.0 0 fits (omega arith) _ (omega arith))
            (byte n.0 1 fits (omega arith) _ (omega arith)) (byte n.0 2 fits (omega arith) _ (omega arith))
            (byte n.0 3 fits (omega arith) _ (omega arith))))
            (constant_means n.0 even is fits);
      }
    where
      byte : (n j : ℕ) → n + 4 ≤ length m.constants → j < 4 → (place : ℕ) → place ≡ constants_start m + (n + j)
          → byte_at l.memory place ≡ Some (get_or m.constants (n + j) 0)
      byte n j fits less place is = ap (byte_at l.memory) is ∙ a.named.constants.bytes (n + j) (omega arith)

  -- a word of what a parameter names
  through_parameter : (j : ℕ) → lie_in (readable_bytes m s.context j) lo (hi +ℤ pos 4) ≡ true
      → WordThrough m h act.layout l.memory (pos (place_of (act.layout.starts j))) offset
      (number_within (parameter_range m s.context j))
  through_parameter j inside =
      let r = named_readable a j lo (hi +ℤ pos 4) inside in
      subst (λ (e : Ends). WordThrough m h act.layout l.memory (pos (place_of (act.layout.starts j))) offset
      (number_within e)) (sym r.range_is)
      (of_region (place_of (act.layout.starts j)) r.size r.range.lo r.range.hi r.region r.from r.to)
    where
      of_region : (start size : ℕ) (least most : ℤ)
          → IsHeldRegion m (may_read h) (scope_of m s.context act.layout) l.memory start size least most
          → pos 0 ≤ℤ lo → (hi +ℤ pos 4) ≤ℤ pos size
          → WordThrough m h act.layout l.memory (pos start) offset (Number least most)
      of_region start size least most region from to =
          let n = pos_from offset (omega (arith, ints)) in
          let is : offset ≡ pos n.0 = n.1 in
          let q = stepped_quotient offset aligned in
          let q_is = q.1 in
          let even : n.0 % 4 ≡ 0 = even_place n.0 q.0 (omega (arith, ints)) in
          let fits : n.0 + 4 ≤ size = omega (arith, ints) in
          let start_even : start % 4 ≡ 0 = eqb-true (start % 4) 0 region.aligned in
          let means : Means m act.layout (Number least most) (word_at l.memory (start + n.0)) =
          subst (λ (p : ℕ). Means m act.layout (Number least most) (word_at l.memory p))
          (let e : start + 4 * (n.0 / 4) ≡ start + n.0 = omega arith in e) (region.numbers (n.0 / 4) (omega arith)) in
          let there = number_inside l.memory (start + n.0) means in
          let small = a.frame.small in
          record {
            place = start + n.0;
            is = omega (arith, ints);
            small = omega arith;
            even = omega arith;
            held = word_readable h (start + n.0) (λ j less.
                ap (may_read h) (let e : start + n.0 + j ≡ start + (n.0 + j) = omega arith in e)
                ∙ region.held (n.0 + j) (omega arith));
            means = means;
          }

  -- a word of any region
  pub word_through : (region : Region) → may_read_bytes m s.context region lo (hi +ℤ pos 4) ≡ true
      → WordThrough m h act.layout l.memory (region_place m act.layout region) offset (word_read m s region lo hi)
  unfolding may_read_bytes word_read region_range
  word_through regions.Frame may = through_frame may
  word_through regions.Constants may = through_constants may
  word_through (regions.Parameter j) may = through_parameter j may

-- A byte of a region, by its offset, that may be read, and what is known of it.
pub record ByteThrough (m : Contents) (h : Holding) (layout : Layout) (memory : Memory) (start : ℤ) (offset : ℤ)
    (said : Fact) : Type 0 where
  pub place : ℕ
  pub is : pos place ≡ start +ℤ offset
  pub small : place < 4294967296
  pub held : may_read h place ≡ true
  pub means : Means m layout said (option_map pos (byte_at memory place))

byte_fits : (b : ℕ) → b < 256 → FitsSigned w32 (pos b)
byte_fits b low = search (rules, arith, ints)

-- a byte of a word that is a number
byte_of_word : {m : Contents} {layout : Layout} {lo hi : ℤ} (h : Holding) (memory : Memory) (place n : ℕ) → n < 4
    → may_read h (place + n) ≡ true → HasBytes h memory → Means m layout (Number lo hi) (word_at memory place)
    → Means m layout (Number (pos 0) (pos 255)) (option_map pos (byte_at memory (place + n)))
byte_of_word {m} {layout} {lo} {hi} h memory place n less held bytes means =
    on (byte_at memory (place + n)) refl
  where
    none : word_at memory place ≡ None → ⊥
    none e = nothing (subst (λ (v : Option ℤ). Means m layout (Number lo hi) v) e means)
      where
        nothing : Means m layout (Number lo hi) None → ⊥
        nothing means = elim means [ ]

    on : (o : Option ℕ) → byte_at memory (place + n) ≡ o → Means m layout (Number (pos 0) (pos 255)) (option_map pos o)
    on None e = absurd (none (no_byte memory place n less e))
    on (Some b) e =
        let low = bytes.each (place + n) b held e in
        is_number (omega (arith, ints)) (omega (arith, ints)) (byte_fits b low)

module _ {m : Contents} {h : Holding} {mode : machine.Mode} {act : Activation} {s : State} {l : Local}
    (wf : IsWellFormed m) (a : Within ArePlain m h mode act s l) (lo hi offset : ℤ) (low : lo ≤ℤ offset)
    (high : offset ≤ℤ hi) where
  -- a byte of the frame
  byte_frame : all_touched (context_reads m s.context) lo (hi +ℤ pos 1) ≡ true
      → (numbers : Bool) → (together s.frame (word_of_byte lo) (words_touched lo (hi +ℤ pos 1))).are_numbers ≡ numbers
      → ByteThrough m h act.layout l.memory act.layout.origin offset
      (cond (not numbers) Unknown (Number (pos 0) (pos 255)))
  byte_frame all numbers known =
      let k = word_of_byte offset in
      let from = word_of_byte_low offset in
      let to = word_of_byte_high offset in
      let counts = touched_passes (context_reads m s.context) lo (hi +ℤ pos 1) (word_of_byte offset) all
      (omega (arith, ints)) (omega (arith, ints)) in
      let span = touched_span lo (hi +ℤ pos 1) (word_of_byte offset) (omega (arith, ints)) (omega (arith, ints)) in
      let w = a.frame.readable (word_of_byte offset) counts in
      let is = w.is in
      let inside = w.inside in
      let small = a.frame.small in
      let n = pos_from (offset +ℤ neg_ℤ (pos 4 *ℤ word_of_byte offset)) (omega (arith, ints)) in
      let n_is = n.1 in
      let less : n.0 < 4 = omega (arith, ints) in
      let held = bytes_read h w.place w.readable n.0 less in
      record {
        place = w.place + n.0;
        is = omega (arith, ints);
        small = omega arith;
        held = held;
        means = on numbers known (word_of_byte offset) w.place n.0 less held counts span.0 span.1
            (frame_word_is l.memory act.layout.origin (word_of_byte offset) w.place w.is);
      }
    where
      on : (numbers : Bool) → (together s.frame (word_of_byte lo) (words_touched lo (hi +ℤ pos 1))).are_numbers
          ≡ numbers
          → (k : ℤ) (place n : ℕ) → n < 4 → may_read h (place + n) ≡ true → context_reads m s.context k ≡ true
          → word_of_byte lo ≤ℤ k → k <ℤ (word_of_byte lo +ℤ pos (words_touched lo (hi +ℤ pos 1)))
          → frame_word l.memory act.layout.origin k ≡ word_at l.memory place
          → Means m act.layout (cond (not numbers) Unknown (Number (pos 0) (pos 255)))
          (option_map pos (byte_at l.memory (place + n)))
      on false known k place n less held counts low high is = says_nothing
      on true known k place n less held counts low high is =
          let among = number_among s.frame (word_of_byte lo) (words_touched lo (hi +ℤ pos 1)) k known low high in
          byte_of_word h l.memory place n less held a.named.bytes
          (subst (λ (f : Fact). Means m act.layout f (word_at l.memory place)) among.is
          (subst (λ (v : Option ℤ). Means m act.layout (plain (s.frame k)) v) is
          (plain_means m act k (s.frame k) _ (a.knows.words k counts))))

  -- a byte of the constants
  byte_constants : lie_in (Some (length m.constants)) lo (hi +ℤ pos 1) ≡ true
      → ByteThrough m h act.layout l.memory (pos (constants_start m)) offset (Number (pos 0) (pos 255))
  byte_constants inside =
      let n = inside_region (length m.constants) 1 lo hi offset low high inside in
      let is : offset ≡ pos n.0 = n.1 in
      let fits = n.2 in
      let within : n.0 < length m.constants = omega arith in
      record {
        place = constants_start m + n.0;
        is = omega (arith, ints);
        small = omega (arith, wf.few_words, wf.short_code, wf.few_constants);
        held = a.named.constants.readable n.0 within;
        means = subst (λ (o : Option ℕ). Means m act.layout (Number (pos 0) (pos 255)) (option_map pos o))
            (sym (a.named.constants.bytes n.0 within))
            (is_number (omega (arith, ints)) (omega (arith, ints, wf.constant_bytes n.0))
            (byte_fits (get_or m.constants n.0 0) (wf.constant_bytes n.0)));
      }

  -- a byte of what a parameter names
  byte_parameter : (j : ℕ) → lie_in (readable_bytes m s.context j) lo (hi +ℤ pos 1) ≡ true
      → ByteThrough m h act.layout l.memory (pos (place_of (act.layout.starts j))) offset (Number (pos 0) (pos 255))
  byte_parameter j inside =
      let r = named_readable a j lo (hi +ℤ pos 1) inside in
      of_region (place_of (act.layout.starts j)) r.size r.range.lo r.range.hi r.region r.from r.to
    where
      of_region : (start size : ℕ) (least most : ℤ)
          → IsHeldRegion m (may_read h) (scope_of m s.context act.layout) l.memory start size least most
          → pos 0 ≤ℤ lo → (hi +ℤ pos 1) ≤ℤ pos size
          → ByteThrough m h act.layout l.memory (pos start) offset (Number (pos 0) (pos 255))
      of_region start size least most region from to =
          let n = pos_from offset (omega (arith, ints)) in
          let is : offset ≡ pos n.0 = n.1 in
          let whole : size % 4 ≡ 0 = eqb-true (size % 4) 0 region.whole in
          let within : n.0 < size = omega (arith, ints) in
          let fits : 4 * (n.0 / 4) + 4 ≤ size = omega arith in
          let means = region.numbers (n.0 / 4) fits in
          let there = number_inside l.memory (start + 4 * (n.0 / 4)) means in
          let small = a.frame.small in
          let same : start + 4 * (n.0 / 4) + n.0 % 4 ≡ start + n.0 = omega arith in
          let held = region.held n.0 within in
          record {
            place = start + n.0;
            is = omega (arith, ints);
            small = omega arith;
            held = held;
            means = subst (λ (p : ℕ). Means m act.layout (Number (pos 0) (pos 255))
                (option_map pos (byte_at l.memory p))) same
                (byte_of_word h l.memory (start + 4 * (n.0 / 4)) (n.0 % 4) (omega arith) (ap (may_read h) same ∙ held)
                a.named.bytes means);
          }

  -- a byte of any region
  pub byte_through : (region : Region) → may_read_bytes m s.context region lo (hi +ℤ pos 1) ≡ true
      → ByteThrough m h act.layout l.memory (region_place m act.layout region) offset (byte_read s region lo hi)
  unfolding may_read_bytes byte_read
  byte_through regions.Frame may = byte_frame may
      (together s.frame (word_of_byte lo) (words_touched lo (hi +ℤ pos 1))).are_numbers refl
  byte_through regions.Constants may = byte_constants may
  byte_through (regions.Parameter j) may = byte_parameter j may
