-- What a change of memory leaves of what an activation holds: of what its parameters name, of the constants, and of
-- bytes.
use Rattle.std.proofs.Common.{◌≡◌, ℕ, ◌+◌, ◌*◌, ◌≤◌, ◌<◌, ℤ, Bool, true, ◌&&◌, ◌⊎◌, inl, inr, length, ◌-◌}
use Rattle.std.proofs.Common.{zero, suc, Option, Some, None, refl, sym, ap, ◌∙◌, subst, arith}
use Rattle.std.specs.List.{list_any}
use Rattle.std.proofs.lemmas.Bool.{cases_lt, cases_eq, and_parts, or_left}
use Rattle.std.proofs.lemmas.List.{get_or_past}
use Rattle.std.proofs.lemmas.Int.{ints}
use Rattle.std.specs.Option.{option_map}
use Rattle.module_format.specs.declared.fact.Fact.TheVariants.{Number}
use Rattle.module_format.specs.declared.rows.Parameter.{Parameter}
use Rattle.module_format.specs.declared.rows.ParameterKind.{ParameterKind}
use Rattle.module_format.specs.declared.rows.ParameterKind.TheVariants.{Value, ReadRegion, WrittenRegion, Channels}
use Rattle.module_format.specs.Contents.{Contents}
use Rattle.machine_state.specs.Memory.{Memory, byte_at, with_byte, with_word, byte_worth}
use Rattle.machine_state.specs.World.{constants_start}
use Rattle.machine_state.specs.Holding.{Holding, covers, may_read, may_write, may_read_word, may_write_word}
use Rattle.machine_state.proofs.Reading.{length-with_word, length-with_byte, byte_at-with_byte}
use Rattle.machine_state.proofs.Reading.{byte_at-with_byte_other, byte_at-with_word_other, word_at_same}
use Rattle.rulings.specs.Meaning.{Means, IsOwnWord}
use Rattle.rulings.specs.Regions.{Scope, IsByteOf, IsHeldRegion, IsNamed, IsNamedAt, HasConstants, HasBytes, HoldsNamed}
use Rattle.rulings.specs.Regions.{MayChange, in_frame, KeepsMemory}

pub keeps_all : {m : Contents} {h : Holding} {scope : Scope} {memory : Memory} → KeepsMemory m h scope memory memory
keeps_all = record { size = refl; bytes = λ place e. inl refl; named = λ has. has }

pub keeps_more : {m : Contents} {h : Holding} {scope : Scope} {old new later : Memory} → KeepsMemory m h scope old new
    → KeepsMemory m h scope new later → KeepsMemory m h scope old later
keeps_more {m} {h} {scope} {old} {new} {later} first second = record {
  size = second.size ∙ first.size;
  bytes = λ place e. both place (first.bytes place e) (second.bytes place e);
  named = λ has. second.named (first.named has);
}
  where
    both : (place : ℕ) → (byte_at new place ≡ byte_at old place) ⊎ MayChange scope place
        → (byte_at later place ≡ byte_at new place) ⊎ MayChange scope place
        → (byte_at later place ≡ byte_at old place) ⊎ MayChange scope place
    both place (inl p) (inl q) = inl (q ∙ p)
    both place (inl p) (inr q) = inr q
    both place (inr p) q = inr p

-- ---- bytes that may be used

-- what may be written may be read
pub may_too : (h : Holding) (place : ℕ) → may_write h place ≡ true → may_read h place ≡ true
may_too h place mine = or_left (may_write h place) (list_any (λ span. covers span place) h.reads) mine

-- each byte of a word
pub bytes_of_word : (may : ℕ → Bool) (place : ℕ)
    → (may place && may (place + 1) && may (place + 2) && may (place + 3)) ≡ true
    → (n : ℕ) → n < 4 → may (place + n) ≡ true
bytes_of_word may place h n low = on n low
  where
    three : (may place && may (place + 1) && may (place + 2)) ≡ true
    three = (and_parts (may place && may (place + 1) && may (place + 2)) (may (place + 3)) h).0

    two : (may place && may (place + 1)) ≡ true
    two = (and_parts (may place && may (place + 1)) (may (place + 2)) three).0

    on : (n : ℕ) → n < 4 → may (place + n) ≡ true
    on zero low =
        ap may (let e : place + 0 ≡ place = omega arith in e)
        ∙ (and_parts (may place) (may (place + 1)) two).0
    on (suc zero) low = (and_parts (may place) (may (place + 1)) two).1
    on (suc (suc zero)) low = (and_parts (may place && may (place + 1)) (may (place + 2)) three).1
    on (suc (suc (suc zero))) low =
        (and_parts (may place && may (place + 1) && may (place + 2)) (may (place + 3)) h).1
    on (suc (suc (suc (suc n)))) low = absurd (omega arith)

pub bytes_written : (h : Holding) (place : ℕ) → may_write_word h place ≡ true → (n : ℕ) → n < 4
    → may_write h (place + n) ≡ true
unfolding may_write_word
bytes_written h place mine = bytes_of_word (may_write h) place mine

pub bytes_read : (h : Holding) (place : ℕ) → may_read_word h place ≡ true → (n : ℕ) → n < 4
    → may_read h (place + n) ≡ true
unfolding may_read_word
bytes_read h place held = bytes_of_word (may_read h) place held

-- ---- what is written are bytes

-- a byte of memory is one that is written, or was there
pub byte_small : (memory : Memory) (place : ℕ) (byte : Option ℕ) → ((c : ℕ) → byte ≡ Some c → c < 256) → (q b : ℕ)
    → byte_at (with_byte memory place byte) q ≡ Some b → (b < 256) ⊎ (byte_at memory q ≡ Some b)
byte_small memory place byte low q b found = elim (cases_eq q place) [
  | inr differ ↦ inr (sym (byte_at-with_byte_other memory place q byte differ) ∙ found)
  | inl same ↦ elim (cases_lt place (length memory)) [
    | inl inside ↦ inl (low b (sym (byte_at-with_byte memory place byte inside)
        ∙ ap (byte_at (with_byte memory place byte)) (sym same) ∙ found))
    | inr past ↦
        let none : None ≡ Some b = sym (get_or_past (with_byte memory place byte) q None
        (let long = length-with_byte memory place byte in omega (arith, long))) ∙ found in
        absurd (cc)
  ]
]

worth_small : (worth : ℕ) (v : Option ℤ) (c : ℕ) → option_map (byte_worth worth) v ≡ Some c → c < 256
worth_small worth None c e = absurd (cc)
worth_small worth (Some v) c e =
    let is : byte_worth worth v ≡ c = cc in omega (arith, is)

pub word_small : (memory : Memory) (place : ℕ) (v : Option ℤ) (q b : ℕ)
    → byte_at (with_word memory place v) q ≡ Some b → (b < 256) ⊎ (byte_at memory q ≡ Some b)
unfolding with_word
word_small memory place v q b found =
    let one = with_byte memory place (option_map (byte_worth 1) v) in
    let two = with_byte one (place + 1) (option_map (byte_worth 256) v) in
    let three = with_byte two (place + 2) (option_map (byte_worth 65536) v) in
    elim (byte_small three (place + 3) (option_map (byte_worth 16777216) v) (worth_small 16777216 v) q b found) [
      | inl low ↦ inl low
      | inr found ↦ elim (byte_small two (place + 2) (option_map (byte_worth 65536) v)
          (worth_small 65536 v) q b found) [
            | inl low ↦ inl low
            | inr found ↦ elim (byte_small one (place + 1) (option_map (byte_worth 256) v)
                (worth_small 256 v) q b found) [
                  | inl low ↦ inl low
                  | inr found ↦ byte_small memory place (option_map (byte_worth 1) v) (worth_small 1 v) q b found
                ]
          ]
    ]

-- ---- what is left of what is held

-- What a change of memory does to what the process may read: only these places have changed, which it may write, and
-- what is there now are bytes, or was there.
pub record Alters (h : Holding) (old new : Memory) (changed : ℕ → Type 0) : Type 0 where
  pub bytes : (place : ℕ) → may_read h place ≡ true → (byte_at new place ≡ byte_at old place) ⊎ changed place
  pub own : (place : ℕ) → changed place → may_write h place ≡ true
  pub small : (place b : ℕ) → may_read h place ≡ true → byte_at new place ≡ Some b
      → (b < 256) ⊎ (byte_at old place ≡ Some b)

-- none of a region's bytes has changed
abbrev pub IsBeside : (ℕ → Type 0) → ParameterKind → ℕ → Type 0
IsBeside changed kind start = (place : ℕ) → IsNamedAt kind start place → changed place → ⊥

module _ (m : Contents) (h : Holding) (scope : Scope) (old new : Memory) (changed : ℕ → Type 0)
    (alters : Alters h old new changed) where
  constants_left : HasConstants m h old → HasConstants m h new
  constants_left c = record {
    readable = c.readable;
    bytes = λ i inside. elim (alters.bytes (constants_start m + i) (c.readable i inside)) [
      | inl stays ↦ stays ∙ c.bytes i inside
      | inr change ↦
          let low = c.behind (constants_start m + i) (alters.own (constants_start m + i) change) in
          absurd (omega arith)
    ];
    behind = c.behind;
  }

  bytes_left : HasBytes h old → HasBytes h new
  bytes_left bytes = record {
    each = λ place b held found. elim (alters.small place b held found) [
      | inl low ↦ low
      | inr before ↦ bytes.each place b held before
    ];
  }

  -- a region none of whose bytes has changed
  region_left : {may_use : ℕ → Bool} {place size : ℕ} {lo hi : ℤ}
      → ((q : ℕ) → may_use q ≡ true → may_read h q ≡ true) → ((q : ℕ) → place ≤ q → q < place + size → changed q → ⊥)
      → IsHeldRegion m may_use scope old place size lo hi → IsHeldRegion m may_use scope new place size lo hi
  region_left {may_use} {place} {size} {lo} {hi} reads beside r = record {
    aligned = r.aligned;
    whole = r.whole;
    held = r.held;
    beside = r.beside;
    numbers = λ i fits. subst (λ (x : Option ℤ). Means m scope.layout (Number lo hi) x)
        (word_at_same old new (place + 4 * i) (same (place + 4 * i) (omega arith) (omega arith))
        (same (place + 4 * i + 1) (omega arith) (omega arith)) (same (place + 4 * i + 2) (omega arith) (omega arith))
        (same (place + 4 * i + 3) (omega arith) (omega arith))) (r.numbers i fits);
  }
    where
      same : (q : ℕ) → place ≤ q → q < place + size → byte_at old q ≡ byte_at new q
      same q low high = elim (alters.bytes q (reads q (ap may_use (let e : q ≡ place + (q - place) = omega arith in e)
          ∙ r.held (q - place) (omega arith)))) [
            | inl stays ↦ sym stays
            | inr change ↦ absurd (beside q low high change)
          ]

  kind_left : (kind : ParameterKind) (start : ℕ) → IsBeside changed kind start → IsNamed m h scope old kind start
      → IsNamed m h scope new kind start
  kind_left (Value lo hi) start beside named = tt
  kind_left (ReadRegion size lo hi) start beside named =
      region_left (λ q held. held) (λ q low high. beside q (low, high)) named
  kind_left (WrittenRegion size lo hi) start beside named =
      region_left (may_too h) (λ q low high. beside q (low, high)) named
  kind_left (Channels count len ends) start beside named = named

  -- Of each region either no byte has changed, or it is still what it was.
  pub named_left : ((j : ℕ) (p : Parameter) → scope.parameters j ≡ Some p
      → IsBeside changed p.kind (scope.layout.starts j) ⊎ IsNamed m h scope new p.kind (scope.layout.starts j))
      → HoldsNamed m h scope old → HoldsNamed m h scope new
  named_left regions has = record {
    each = λ j p found. elim (regions j p found) [
      | inl beside ↦ kind_left p.kind (scope.layout.starts j) beside (has.each j p found)
      | inr named ↦ named
    ];
    apart = has.apart;
    constants = constants_left has.constants;
    bytes = bytes_left has.bytes;
    even = has.even;
    ends = has.ends;
    back = has.back;
    lengths = has.lengths;
    differ = has.differ;
  }

-- ---- a write to a word of the frame

-- Memory has changed in one word of the frame alone, and what is there now are bytes, or was there.
-- the bytes of a word that the process may write are its own
pub byte_of_own : (h : Holding) (size : ℕ) (origin k : ℤ) (place : ℕ) → IsOwnWord h size origin k
    → IsByteOf origin k place → may_write h place ≡ true
byte_of_own h size origin k place w b =
    let is = w.is in
    let low = b.low in
    let high = b.high in
    let from : w.place ≤ place = omega (arith, ints) in
    let to : place < w.place + 4 = omega (arith, ints) in
    ap (may_write h) (let e : place ≡ w.place + (place - w.place) = omega arith in e)
    ∙ bytes_written h w.place w.mine (place - w.place) (omega arith)

pub record AltersWord (origin k : ℤ) (old new : Memory) : Type 0 where
  pub size : length new ≡ length old
  pub kept : (place : ℕ) → (byte_at new place ≡ byte_at old place) ⊎ IsByteOf origin k place
  pub small : (place b : ℕ) → byte_at new place ≡ Some b → (b < 256) ⊎ (byte_at old place ≡ Some b)

module _ (m : Contents) (h : Holding) (scope : Scope) (k : ℤ) (memory new : Memory)
    (inside : scope.words.writes k ≡ true) (counts : scope.words.reads k ≡ true)
    (w : IsOwnWord h (length memory) scope.layout.origin k)
    (alters : AltersWord scope.layout.origin k memory new) where
  word_alters : Alters h memory new (IsByteOf scope.layout.origin k)
  word_alters = record {
    bytes = λ place held. alters.kept place;
    own = λ place b. byte_of_own h (length memory) scope.layout.origin k place w b;
    small = λ place b held found. alters.small place b found;
  }

  region_beside : {may_use : ℕ → Bool} {start size : ℕ} {lo hi : ℤ}
      → IsHeldRegion m may_use scope memory start size lo hi
      → (place : ℕ) → start ≤ place → place < start + size → IsByteOf scope.layout.origin k place → ⊥
  region_beside {may_use} {start} r place low high b =
      r.beside k (place - start) counts (omega arith)
      (subst (λ (q : ℕ). IsByteOf scope.layout.origin k q)
      (let e : place ≡ start + (place - start) = omega arith in e) b)

  beside : (kind : ParameterKind) (start : ℕ) → IsNamed m h scope memory kind start
      → IsBeside (IsByteOf scope.layout.origin k) kind start
  beside (Value lo hi) start named place at b = at
  beside (ReadRegion size lo hi) start named place at b = region_beside named place at.0 at.1 b
  beside (WrittenRegion size lo hi) start named place at b = region_beside named place at.0 at.1 b
  beside (Channels count len ends) start named place at b = at

  -- a change of a word of the frame is one that the activation may make
  pub frame_keeps : KeepsMemory m h scope memory new
  frame_keeps = record {
    size = alters.size;
    bytes = λ place e. elim (alters.kept place) [ inl same ↦ inl same | inr b ↦ inr (in_frame k inside b) ];
    named = λ has. named_left m h scope memory new (IsByteOf scope.layout.origin k) word_alters
        (λ j p found. inl (beside p.kind (scope.layout.starts j) (has.each j p found))) has;
  }

-- a word of the frame that is written
pub word_written : (h : Holding) (origin k : ℤ) (memory : Memory) (v : Option ℤ)
    (w : IsOwnWord h (length memory) origin k)
    → AltersWord origin k memory (with_word memory w.place v)
word_written h origin k memory v w = record {
  size = length-with_word memory w.place v;
  kept = λ place. elim (cases_lt place w.place) [
    | inl low ↦ inl (byte_at-with_word_other memory w.place place v (inl low))
    | inr high ↦ elim (cases_lt place (w.place + 4)) [
      | inl here ↦ inr (record {
        low = let is = w.is in omega (arith, ints);
        high = let is = w.is in omega (arith, ints);
      })
      | inr behind ↦ inl (byte_at-with_word_other memory w.place place v (inr behind))
    ]
  ];
  small = λ place b found. word_small memory w.place v place b found;
}

pub write_keeps : (m : Contents) (h : Holding) (scope : Scope) (k : ℤ) (memory : Memory) (v : Option ℤ)
    → scope.words.writes k ≡ true → scope.words.reads k ≡ true
    → (w : IsOwnWord h (length memory) scope.layout.origin k)
    → KeepsMemory m h scope memory (with_word memory w.place v)
write_keeps m h scope k memory v inside counts w =
    frame_keeps m h scope k memory (with_word memory w.place v) inside counts w
    (word_written h scope.layout.origin k memory v w)
