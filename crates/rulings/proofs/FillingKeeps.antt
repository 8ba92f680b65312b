-- Filling a buffer that a context may write keeps what its activation has, whatever bytes come and however many.
use Rattle.std.proofs.Common.{◌≡◌, ℕ, ◌+◌, ◌-◌, ◌*◌, ◌≤◌, ◌<◌, ℤ, pos, ◌+ℤ◌, ◌≤ℤ◌, Bool, true}
use Rattle.std.proofs.Common.{length, Some, sym, ap, ◌∙◌, subst, arith, ◌⊎◌, inl, inr}
use Rattle.std.proofs.lemmas.Bool.{cases_eq, and_parts, cases_Bool}
use Rattle.std.proofs.lemmas.Int.{ints}
use Rattle.std.specs.Prelude.{int_le}
use Rattle.small_laws.proofs.Comparisons.{int_le-true}
use Rattle.module_format.specs.declared.fact.Region.{Region}
use Rattle.module_format.specs.declared.fact.Region.TheVariants as regions
use Rattle.module_format.specs.declared.rows.Parameter.{Parameter}
use Rattle.module_format.specs.declared.rows.ParameterKind.{ParameterKind}
use Rattle.module_format.specs.declared.rows.ParameterKind.TheVariants.{WrittenRegion}
use Rattle.module_format.specs.Order.{least_word, greatest_word}
use Rattle.module_format.specs.Contents.{Contents}
use Rattle.certificate.specs.Rights.{may_write_word as context_writes}
use Rattle.machine_state.specs.declared.process.Mode as machine
use Rattle.machine_state.specs.Memory.{Memory, byte_at, place_of}
use Rattle.machine_state.specs.Holding.{Holding, may_read, may_write}
use Rattle.machine_state.specs.Site.{Local}
use Rattle.states.specs.State.{State}
use Rattle.states.specs.Below.{lies_within}
use Rattle.rulings.specs.Meaning.{Activation}
use Rattle.rulings.specs.Regions.{Scope, scope_of, IsByteOf, IsHeldRegion, IsNamed, IsWrittenAt, HoldsNamed, MayChange}
use Rattle.rulings.specs.Regions.{in_frame, in_region, KeepsMemory}
use Rattle.rulings.specs.Reach.{all_touched, lie_in, may_write_bytes, writable_bytes, kept_range, parameter_range}
use Rattle.rulings.specs.Pointers.{is_full, wanted_range}
use Rattle.rulings.specs.Buffers.{IsByte, Fills}
use Rattle.rulings.proofs.Within.{Within, ArePlain}
use Rattle.rulings.proofs.Regions.{Alters, IsBeside, named_left, may_too}
use Rattle.rulings.proofs.Reaching.{region_place, lies_inside}
use Rattle.rulings.proofs.WriteThrough.{number_wider, frame_written, writable_found, number_byte}
use Rattle.rulings.proofs.WriteThrough.{number_of_bytes}
use Rattle.rulings.proofs.Combining.{written_readable}
use Rattle.rulings.proofs.BlocksMove.{Room, named_beside}

module _ (m : Contents) (h : Holding) (scope : Scope) (awaited : ℕ → Bool)
    (own : (place : ℕ) → awaited place ≡ true → may_write h place ≡ true) (old new : Memory)
    (fills : Fills h awaited old new) where
  fills_alter : Alters h old new (λ place. awaited place ≡ true)
  fills_alter = record {
    bytes = λ place held. elim (cases_Bool (awaited place)) [
      | inl t ↦ inr t
      | inr t ↦ inl (fills.others place held t)
    ];
    own = own;
    small = λ place b held found. elim (cases_Bool (awaited place)) [
      | inr t ↦ inr (sym (fills.others place held t) ∙ found)
      | inl t ↦ elim (fills.come place held t) [
        | inl same ↦ inr (sym same ∙ found)
        | inr byte ↦ inl (is_byte place b byte found)
      ]
    ];
  }
    where
      is_byte : (place b : ℕ) → IsByte (byte_at new place) → byte_at new place ≡ Some b → b < 256
      is_byte place b byte found =
          let low = byte.2 in
          let one : Some byte.0 ≡ Some b = sym byte.1 ∙ found in
          let same : byte.0 ≡ b = cc in
          omega arith

  -- the buffer is part of what the activation may change
  changes_bytes : ((place : ℕ) → awaited place ≡ true → MayChange scope place) → (place : ℕ)
      → may_read h place ≡ true → (byte_at new place ≡ byte_at old place) ⊎ MayChange scope place
  changes_bytes may place held = elim (cases_Bool (awaited place)) [
    | inl t ↦ inr (may place t)
    | inr t ↦ inl (fills.others place held t)
  ]

  -- ---- a buffer in words of the frame

  -- a place is that of a byte of a word that may be written
  record InFrame (place : ℕ) : Type 0 where
    word : ℤ
    writes : scope.words.writes word ≡ true
    reads : scope.words.reads word ≡ true
    byte : IsByteOf scope.layout.origin word place

  frame_filled : ((place : ℕ) → awaited place ≡ true → InFrame place) → KeepsMemory m h scope old new
  frame_filled word = record {
    size = fills.size;
    bytes = changes_bytes (λ place t. let w = word place t in in_frame w.word w.writes w.byte);
    named = λ has. named_left m h scope old new (λ place. awaited place ≡ true) fills_alter
        (λ j p found. inl (λ place at t. let w = word place t in
        named_beside m h scope old place p.kind (scope.layout.starts j) (has.each j p found) at w.word w.reads w.byte))
        has;
  }

  -- ---- a buffer in a region that a parameter names

  module _ (j : ℕ) (p : Parameter) (found : scope.parameters j ≡ Some p) (size : ℕ) (lo hi : ℤ)
      (is : p.kind ≡ WrittenRegion size lo hi) (wide : lies_within least_word greatest_word lo hi ≡ true)
      (inside : (place : ℕ) → awaited place ≡ true → IsWrittenAt p.kind (scope.layout.starts j) place) where
    abbrev start : ℕ
    start = place_of (scope.layout.starts j)

    -- a byte of a word of the region is one
    byte_there : HoldsNamed m h scope old → (place b : ℕ) → may_read h place ≡ true → byte_at old place ≡ Some b
        → IsByte (byte_at new place)
    byte_there has place b held before =
        let stays : byte_at new place ≡ byte_at old place → IsByte (byte_at new place) =
        λ same. (b, same ∙ before, has.bytes.each place b held before) in
        elim (cases_Bool (awaited place)) [
          | inr t ↦ stays (fills.others place held t)
          | inl t ↦ elim (fills.come place held t) [ inl same ↦ stays same | inr byte ↦ byte ]
        ]

    again : HoldsNamed m h scope old → IsHeldRegion m (may_write h) scope old start size lo hi
        → IsHeldRegion m (may_write h) scope new start size lo hi
    again has region = record {
      aligned = region.aligned;
      whole = region.whole;
      held = region.held;
      beside = region.beside;
      numbers = λ i within.
          let both = and_parts (int_le lo least_word) (int_le greatest_word hi) wide in
          number_wider m scope.layout lo hi _ (int_le-true lo least_word both.0) (int_le-true greatest_word hi both.1)
          (number_of_bytes new (start + 4 * i) (λ k less.
          let byte = number_byte old (start + 4 * i) k less (region.numbers i within) in
          byte_there has (start + 4 * i + k) byte.0 (may_too h (start + 4 * i + k)
          (ap (may_write h) (let e : start + 4 * i + k ≡ start + (4 * i + k) = omega arith in e)
          ∙ region.held (4 * i + k) (omega arith))) byte.1));
    }

    named_again : HoldsNamed m h scope old → IsNamed m h scope new p.kind (scope.layout.starts j)
    named_again has =
        subst (λ (kind : ParameterKind). IsNamed m h scope new kind (scope.layout.starts j)) (sym is)
        (again has (subst (λ (kind : ParameterKind). IsNamed m h scope old kind (scope.layout.starts j)) is
        (has.each j p found)))

    each : HoldsNamed m h scope old → (i : ℕ) (q : Parameter) → scope.parameters i ≡ Some q
        → IsBeside (λ place. awaited place ≡ true) q.kind (scope.layout.starts i)
        ⊎ IsNamed m h scope new q.kind (scope.layout.starts i)
    each has i q there = elim (cases_eq i j) [
      | inl same ↦
          let one : Some p ≡ Some q = sym found ∙ (ap scope.parameters (sym same) ∙ there) in
          let p_is : p ≡ q = cc in
          inr (subst (λ (n : ℕ). IsNamed m h scope new q.kind (scope.layout.starts n)) (sym same)
          (subst (λ (r : Parameter). IsNamed m h scope new r.kind (scope.layout.starts j)) p_is (named_again has)))
      | inr differ ↦ inl (λ place at t. has.apart j i p q found there (λ e. differ (sym e)) place (inside place t) at)
    ]

    region_filled : KeepsMemory m h scope old new
    region_filled = record {
      size = fills.size;
      bytes = changes_bytes (λ place t. in_region j p found (inside place t));
      named = λ has. named_left m h scope old new (λ place. awaited place ≡ true) fills_alter (each has) has;
    }

-- ---- the buffer to which a pointer leads

module _ {m : Contents} {h : Holding} {mode : machine.Mode} {act : Activation} {s : State} {l : Local}
    (a : Within ArePlain m h mode act s l) (n : ℕ) (lo low high : ℤ) (below : low ≤ℤ lo)
    (above : (lo +ℤ pos n) ≤ℤ high) (awaited : ℕ → Bool) where
  abbrev all : Scope
  all = scope_of m s.context act.layout

  -- the awaited bytes are among `n` bytes from `lo` after the start of a region
  record Awaits (start : ℤ) : Type 0 where
    place : ℕ
    is : pos place ≡ start +ℤ lo
    own : (q : ℕ) → awaited q ≡ true → may_write h q ≡ true
    from : (q : ℕ) → awaited q ≡ true → place ≤ q
    to : (q : ℕ) → awaited q ≡ true → q < place + n

  in_words : all_touched (context_writes m s.context) low high ≡ true → Awaits act.layout.origin → (old new : Memory)
      → Fills h awaited old new → KeepsMemory m h all old new
  in_words may b old new fills = frame_filled m h all awaited b.own old new fills (λ q t.
      let from = b.from q t in
      let to = b.to q t in
      let is = b.is in
      let offset : ℤ = lo +ℤ pos (q - b.place) in
      let w = frame_written a low high offset (omega (arith, ints)) (omega (arith, ints)) may in
      let w_low = w.low in
      let w_high = w.high in
      record {
        word = w.word;
        writes = w.may;
        reads = written_readable m s.context w.word w.may;
        byte = record { low = omega (arith, ints); high = omega (arith, ints) };
      })

  in_parameter : (j : ℕ) → lie_in (writable_bytes m s.context j) low high ≡ true
      → is_full (parameter_range m s.context j) ≡ true → Awaits (pos (place_of (act.layout.starts j)))
      → (old new : Memory) → Fills h awaited old new → KeepsMemory m h all old new
  in_parameter j inside wide b old new fills =
      let f = lies_inside (writable_bytes m s.context j) low high inside in
      let from = f.2 in
      let to = f.3 in
      let r = writable_found m s.context j f.0 f.1 in
      let range_is : parameter_range m s.context j ≡ record { lo = r.lo; hi = r.hi } = r.range ∙ ap kept_range r.is in
      region_filled m h all awaited b.own old new fills j r.parameter r.found f.0 r.lo r.hi r.is
      (ap is_full (sym range_is) ∙ wide)
      (λ q t. subst (λ (kind : ParameterKind). IsWrittenAt kind (act.layout.starts j) q) (sym r.is)
      (lies q f.0 from to b.place b.is (b.from q t) (b.to q t)))
    where
      lies : (q size : ℕ) → pos 0 ≤ℤ low → high ≤ℤ pos size → (place : ℕ)
          → pos place ≡ pos (place_of (act.layout.starts j)) +ℤ lo → place ≤ q → q < place + n
          → (place_of (act.layout.starts j) ≤ q) × (q < place_of (act.layout.starts j) + size)
      lies q size from to place is after before = (omega (arith, ints), omega (arith, ints))

  -- those of a buffer that may be written
  awaits_in : (start : ℤ) (room : Room h (length l.memory) start lo n)
      → ((q : ℕ) → awaited q ≡ true → (room.place ≤ q) × (q < room.place + n)) → Awaits start
  awaits_in start room tells = record {
    place = room.place;
    is = room.is;
    own = λ q t.
        let both = tells q t in
        ap (may_write h) (let e : q ≡ room.place + (q - room.place) = omega (arith, both.0) in e)
        ∙ room.own (q - room.place) (omega (arith, both.0, both.1));
    from = λ q t. (tells q t).0;
    to = λ q t. (tells q t).1;
  }

  pub fills_keep : (region : Region) → may_write_bytes m s.context region low high ≡ true
      → is_full (wanted_range m s.context region) ≡ true
      → (room : Room h (length l.memory) (region_place m act.layout region) lo n)
      → ((q : ℕ) → awaited q ≡ true → (room.place ≤ q) × (q < room.place + n)) → (old new : Memory)
      → Fills h awaited old new → KeepsMemory m h all old new
  unfolding may_write_bytes
  fills_keep regions.Frame may wide room tells = in_words may (awaits_in _ room tells)
  fills_keep regions.Constants may wide room tells = absurd (cc)
  fills_keep (regions.Parameter j) may wide room tells = in_parameter j may wide (awaits_in _ room tells)
