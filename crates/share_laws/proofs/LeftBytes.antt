-- The bytes of a share are held by the starter, and lie beside what the starter keeps.
use Rattle.std.proofs.Common.{pos, ◌≡◌, ℕ, ◌+◌, ◌-◌, ◌<◌, ◌≤◌, ◌&&◌, ◌||◌, not, Bool, true, false, inl, inr, ℤ, List}
use Rattle.std.proofs.Common.{length, Option, Some, refl, sym, ap, ◌∙◌, subst, arith}
use Rattle.std.proofs.lemmas.Bool.{cases_eq, lt-ltb, le-ltb, and_from, or_cases, or_left, or_right, and_parts}
use Rattle.std.proofs.lemmas.Int.{ints}
use Rattle.std.specs.Prelude.{slice_get, nat_lt}
use Rattle.std.proofs.lemmas.Bool.{not_from_false}
use Rattle.module_format.specs.declared.rows.Parameter.{Parameter}
use Rattle.module_format.specs.declared.rows.ParameterKind.{ParameterKind}
use Rattle.module_format.specs.declared.rows.ParameterKind.TheVariants.{Value, ReadRegion, WrittenRegion, Channels}
use Rattle.module_format.specs.declared.rows.Interval.{Interval}
use Rattle.module_format.specs.Contents.{Contents, Par}
use Rattle.module_format.specs.Contexts.{parameters_at}
use Rattle.module_format.specs.Keeping.{is_region}
use Rattle.certificate.specs.Rights as rights
use Rattle.certificate.specs.Rights.{is_among}
use Rattle.machine_state.specs.BranchContexts.{context_of}
use Rattle.machine_state.specs.BranchShares.{region_size, holding_of}
use Rattle.machine_state.specs.Holding.{Holding, may_write, may_read, may_write_word, may_read_word}
use Rattle.machine_state.specs.JoinLookups.{Found}
use Rattle.machine_state.specs.Memory.{Memory, place_of}
use Rattle.machine_state.specs.Spans.{Share, less, writes_place, reads_place}
use Rattle.machine_state.specs.World.{constants_start}
use Rattle.machine_state.proofs.SpanLaws.{runs_have, runs_tell}
use Rattle.rulings.specs.Lends.{IsRegionKind}
use Rattle.rulings.specs.Meaning.{place_in, Layout, words_left}
use Rattle.rulings.specs.Reach.{is_listed}
use Rattle.rulings.specs.Regions.{Scope, scope_of, scope_left, IsByteOf, IsHeldRegion, IsNamed, IsWrittenAt, IsNamedAt}
use Rattle.rulings.specs.Remaining.{is_hidden, word_given_to_write, word_given_to_read}
use Rattle.rulings.proofs.Combining.{written_readable, readable_byte}
use Rattle.rulings.proofs.Lending.{same_word, byte_index, named_at}
use Rattle.rulings.proofs.Regions.{bytes_read, byte_of_own}
use Rattle.share_laws.specs.Shares.{IsListedByte, of_word, of_region, share_at, IsOfWords}
use Rattle.share_laws.specs.Starts.{CanStart}
use Rattle.share_laws.proofs.Rows.{has_context, read_is_region}
use Rattle.share_laws.proofs.ShareBytes.{share_is_of_words}
use Rattle.share_laws.proofs.LeftParameters.{Taken, taken, IsRegionLeft, written_left, read_left}

-- ---- tests

-- two that are false
pub none_of : (a b : Bool) → a ≡ false → b ≡ false → not (a || b) ≡ true
none_of true b p q = absurd (cc)
none_of false true p q = absurd (cc)
none_of false false p q = refl

-- a byte of a word's four
pub byte_of : (origin k : ℤ) (place i : ℕ) → pos place ≡ place_in origin k → i < 4 → IsByteOf origin k (place + i)
byte_of origin k place i is low = record { low = omega (arith, ints, is); high = omega (arith, ints, is, low) }

-- a word each of whose bytes may be written, or read
pub word_of_bytes : (h : Holding) (place : ℕ) → ((i : ℕ) → i < 4 → may_write h (place + i) ≡ true)
    → may_write_word h place ≡ true
unfolding may_write_word
word_of_bytes h place each =
    let first : may_write h place ≡ true = subst (λ n. may_write h n ≡ true) (omega arith) (each 0 (omega arith)) in
    and_from _ _ (and_from _ _ (and_from _ _ first (each 1 (omega arith))) (each 2 (omega arith)))
    (each 3 (omega arith))

-- the same of reading
pub word_to_read : (h : Holding) (place : ℕ) → ((i : ℕ) → i < 4 → may_read h (place + i) ≡ true)
    → may_read_word h place ≡ true
unfolding may_read_word
word_to_read h place each =
    let first : may_read h place ≡ true = subst (λ n. may_read h n ≡ true) (omega arith) (each 0 (omega arith)) in
    and_from _ _ (and_from _ _ (and_from _ _ first (each 1 (omega arith))) (each 2 (omega arith)))
    (each 3 (omega arith))

-- ---- what is left, and what is given, place by place

-- a place that may be written and that a share has not is left to write
pub less_written : (n : ℕ) (h : Holding) (share : Share) (x : ℕ) → x < n → may_write h x ≡ true
    → writes_place share x ≡ false → reads_place share x ≡ false → may_write (less n h share) x ≡ true
unfolding less
less_written n h share x inside own w r = runs_have _ 0 n x (record {
  above = omega arith;
  below = omega arith;
  passes = and_from _ _ (and_from _ _ own (not_from_false _ w)) (not_from_false _ r);
})

-- one that may be read, and that it has not to write, may be read
pub less_read : (n : ℕ) (h : Holding) (share : Share) (x : ℕ) → x < n → may_read h x ≡ true
    → writes_place share x ≡ false → may_read (less n h share) x ≡ true
unfolding less
less_read n h share x inside read w = on (may_write h x) (reads_place share x) refl refl
  where
    only : (not (may_write h x) || reads_place share x) ≡ true → may_read (less n h share) x ≡ true
    only passes = or_right (may_write (less n h share) x) _ (runs_have (λ place.
        may_read h place && not (writes_place share place)
        && (not (may_write h place) || reads_place share place)) 0 n x (record {
          above = omega arith;
          below = omega arith;
          passes = and_from _ _ (and_from _ _ read (not_from_false _ w)) passes;
        }))

    on : (a b : Bool) → may_write h x ≡ a → reads_place share x ≡ b → may_read (less n h share) x ≡ true
    on a true e f = only (or_right (not (may_write h x)) _ f)
    on false false e f = only (or_left _ (reads_place share x) (not_from_false _ e))
    on true false e f = or_left _ _ (less_written n h share x inside e w f)

-- what is left lies in memory
pub less_inside : (n : ℕ) (h : Holding) (share : Share) (x : ℕ) → may_read (less n h share) x ≡ true → x < n
unfolding less
less_inside n h share x read = elim (or_cases (may_write (less n h share) x) _ read) [
  | inl own ↦ let t = runs_tell (λ place.
      may_write h place && not (writes_place share place) && not (reads_place share place)) 0 n x own in
      let below = t.below in omega (arith, below)
  | inr only ↦ let t = runs_tell (λ place. may_read h place && not (writes_place share place)
      && (not (may_write h place) || reads_place share place)) 0 n x only in
      let below = t.below in omega (arith, below)
]

-- a place that a share has to write is given
pub given_written : (m : Contents) (n : ℕ) (share : Share) (x : ℕ) → x < n → writes_place share x ≡ true
    → may_write (holding_of m n share) x ≡ true
given_written m n share x inside w =
    runs_have (writes_place share) 0 n x (record { above = omega arith; below = omega arith; passes = w })

-- a constant may be read
pub given_constant : (m : Contents) (n : ℕ) (share : Share) (x : ℕ) → x < n → constants_start m ≤ x
    → x < constants_start m + length m.constants → may_read (holding_of m n share) x ≡ true
given_constant m n share x inside low high = on (writes_place share x) refl
  where
    on : (b : Bool) → writes_place share x ≡ b → may_read (holding_of m n share) x ≡ true
    on true e = or_left _ _ (given_written m n share x inside e)
    on false e = or_right (may_write (holding_of m n share) x) _ (runs_have (λ place.
        not (writes_place share place) && (reads_place share place
        || (nat_lt place (constants_start m + length m.constants) && not (nat_lt place (constants_start m))))) 0 n x
        (record {
          above = omega arith;
          below = omega arith;
          passes = and_from _ _ (not_from_false _ e) (or_right (reads_place share x) _ (and_from _ _ (lt-ltb x _ high)
              (not_from_false _ (le-ltb x (constants_start m) low))));
        }))

-- and a place that it has to read
pub given_read : (m : Contents) (n : ℕ) (share : Share) (x : ℕ) → x < n → reads_place share x ≡ true
    → may_read (holding_of m n share) x ≡ true
given_read m n share x inside r = on (writes_place share x) refl
  where
    on : (b : Bool) → writes_place share x ≡ b → may_read (holding_of m n share) x ≡ true
    on true e = or_left _ _ (given_written m n share x inside e)
    on false e = or_right (may_write (holding_of m n share) x) _ (runs_have (λ place.
        not (writes_place share place) && (reads_place share place
        || (nat_lt place (constants_start m + length m.constants) && not (nat_lt place (constants_start m))))) 0 n x
        (record {
          above = omega arith;
          below = omega arith;
          passes = and_from _ _ (not_from_false _ e) (or_left _ _ r);
        }))

-- ---- words that are left

module _ (m : Contents) (par : Par) (context started : ℕ) where
  -- what is left to write is left to read
  pub left_readable : (k : ℤ) → (words_left m par context started).writes k ≡ true
      → (words_left m par context started).reads k ≡ true
  left_readable k h =
      let a = and_parts (rights.may_write_word m context k && not (is_hidden par k))
      (not (word_given_to_write par started k || word_given_to_read par started k)) h in
      let b = and_parts (rights.may_write_word m context k) (not (is_hidden par k)) a.0 in
      and_from (rights.may_read_word m context k && not (is_hidden par k)) (not (word_given_to_write par started k))
      (and_from (rights.may_read_word m context k) (not (is_hidden par k)) (written_readable m context k b.0) b.1)
      (first (word_given_to_write par started k) (word_given_to_read par started k) a.1)
    where
      first : (x y : Bool) → not (x || y) ≡ true → not x ≡ true
      first true y h = absurd (cc)
      first false y h = refl

module _ (m : Contents) (h : Holding) (scope : Scope) (memory : Memory) (kind : ParameterKind) (start size : ℕ)
    (lo hi : ℤ) where
  -- a region that a parameter names may be read
  pub region_to_read : IsRegionKind kind size lo hi → IsNamed m h scope memory kind start
      → IsHeldRegion m (may_read h) scope memory (place_of start) size lo hi
  region_to_read (inl is) named = subst (λ (k : ParameterKind). IsNamed m h scope memory k start) is named
  region_to_read (inr is) named =
      let r : IsHeldRegion m (may_write h) scope memory (place_of start) size lo hi =
      subst (λ (k : ParameterKind). IsNamed m h scope memory k start) is named in
      record {
        aligned = r.aligned;
        whole = r.whole;
        held = λ i less. readable_byte h (place_of start + i) (r.held i less);
        beside = r.beside;
        numbers = r.numbers;
      }

module _ (m : Contents) (found : Found) (layout : Layout) (base : ℕ) (addresses : List (Option ℕ))
    (h : Holding) (memory : Memory) (depth : ℤ) (workspace : ℕ)
    (s : CanStart m found layout base addresses h memory depth workspace) where
  -- what the starter had left
  abbrev pub scope : Scope
  scope = scope_left m found.par found.par.context found.number layout

  abbrev pub share : Share
  share = share_at m found base addresses

  abbrev pub n : ℕ
  n = length memory

  -- the branch's share is of words
  pub of_words : IsOfWords m found layout share
  of_words = share_is_of_words m found layout base addresses s.keeps s.is s.laid

  -- a word that the branch is to write counts for its starter
  pub branch_word_left : (k : ℤ) → is_among found.branch.writes k ≡ true → scope.words.reads k ≡ true
  branch_word_left k among = left_readable m found.par found.par.context found.number k (s.left.writes k among)

  -- a parameter of the branch, as its starter has it left
  pub taken_by : (j : ℕ) (p : Parameter) → (scope_of m (context_of m found) layout).parameters j ≡ Some p
      → Taken m found layout (has_context m found s.keeps s.is).numbered
      (has_context m found s.keeps s.is).parameters s.left j p
  taken_by j p there = taken m found layout (has_context m found s.keeps s.is).numbered
      (has_context m found s.keeps s.is).parameters s.left j p there

  -- ---- regions that the row lists

  -- a parameter that names a region, and that the branch is to read, is left as one
  region_of_kind : (j : ℕ) (raw : Parameter) (kind : ParameterKind) → raw.kind ≡ kind → is_region kind ≡ true
      → slice_get (parameters_at m found.par.context) j ≡ Some raw → is_listed found.branch.read_parameters j ≡ true
      → IsRegionLeft m found layout j raw
  region_of_kind j raw (Value lo hi) e region there listed = absurd (cc)
  region_of_kind j raw (Channels count len ends) e region there listed = absurd (cc)
  region_of_kind j raw (ReadRegion size lo hi) e region there listed =
      read_left m found layout s.left j raw there size lo hi (inl e) (ap region_size e) listed
  region_of_kind j raw (WrittenRegion size lo hi) e region there listed =
      read_left m found layout s.left j raw there size lo hi (inr e) (ap region_size e) listed

  -- each that it is to read names one
  read_region : (j : ℕ) (raw : Parameter) → slice_get (parameters_at m found.par.context) j ≡ Some raw
      → is_listed found.branch.read_parameters j ≡ true → IsRegionLeft m found layout j raw
  read_region j raw there listed = region_of_kind j raw raw.kind refl
      (read_is_region m found s.keeps s.is j raw listed there) there listed

  -- the bytes of a region that is left
  region_held : (j : ℕ) (raw : Parameter) (r : IsRegionLeft m found layout j raw)
      → IsHeldRegion m (may_read h) scope memory (place_of (layout.starts j)) r.size r.lo r.hi
  region_held j raw r = region_to_read m h scope memory r.theirs.kind (layout.starts j) r.size r.lo r.hi r.kind
      (s.named.each j r.theirs r.found_there)

  -- a listed region that has the byte at a place
  pub record InRegionLeft (j : ℕ) (raw : Parameter) (place : ℕ) : Type 0 where
    pub region : IsRegionLeft m found layout j raw
    pub i : ℕ
    pub at : place ≡ place_of (layout.starts j) + i
    pub low : i < region.size

  -- a byte of the branch's region is one of its starter's
  in_region_left : (j place : ℕ) (raw : Parameter) → IsRegionLeft m found layout j raw
      → place_of (layout.starts j) ≤ place → place < place_of (layout.starts j) + region_size raw.kind
      → InRegionLeft j raw place
  in_region_left j place raw r low high =
      let long = r.long in
      let b = byte_index place (place_of (layout.starts j)) (region_size raw.kind) low high in
      record { region = r; i = b.0; at = b.1; low = (let less = b.2 in omega (arith, long, less)) }

  -- the lists of words and parameters of a row that a share has to write, or to read
  pub record AreLeft (words : List Interval) (numbers : List ℕ) : Type 0 where
    pub counts : (k : ℤ) → is_among words k ≡ true → scope.words.reads k ≡ true
    pub regions : (j : ℕ) (raw : Parameter) → is_listed numbers j ≡ true
        → slice_get (parameters_at m found.par.context) j ≡ Some raw → IsRegionLeft m found layout j raw

  -- so is what the branch is to write
  pub to_write_left : AreLeft found.branch.writes found.branch.written_parameters
  to_write_left = record {
    counts = branch_word_left;
    regions = λ j raw listed there. (written_left m found layout s.left j raw there listed).0;
  }

  -- and what it is to read
  pub to_read_left : AreLeft found.branch.reads found.branch.read_parameters
  to_read_left = record {
    counts = λ k among. s.left.reads k among;
    regions = λ j raw listed there. read_region j raw there listed;
  }

  -- a byte of a word that counts is listed by its word alone
  pub listed_word : {words : List Interval} {numbers : List ℕ} → AreLeft words numbers → (k : ℤ) (place : ℕ)
      → scope.words.reads k ≡ true → IsByteOf layout.origin k place
      → IsListedByte (parameters_at m found.par.context) layout words numbers place → is_among words k ≡ true
  listed_word {words = words} are k place counts b (of_word j among c) =
      subst (λ (z : ℤ). is_among words z ≡ true) (same_word layout.origin j k place c b) among
  listed_word are k place counts b (of_region j raw listed there low high) =
      let r = in_region_left j place raw (are.regions j raw listed there) low high in
      absurd ((region_held j raw r.region).beside k r.i counts r.low
      (subst (λ (q : ℕ). IsByteOf layout.origin k q) r.at b))

  -- what a share has to write the starter may write
  pub written_held : (place : ℕ) → writes_place share place ≡ true → may_write h place ≡ true
  written_held place w = on (of_words.written place w)
    where
      on : IsListedByte (parameters_at m found.par.context) layout found.branch.writes found.branch.written_parameters
          place → may_write h place ≡ true
      on (of_word k among b) = byte_of_own h n layout.origin k place (s.frame.own k (s.left.writes k among)) b
      on (of_region j raw listed there low high) =
          let r = written_left m found layout s.left j raw there listed in
          let b = in_region_left j place raw r.0 low high in
          let region : IsHeldRegion m (may_write h) scope memory (place_of (layout.starts j)) r.0.size r.0.lo r.0.hi =
          subst (λ (k : ParameterKind). IsNamed m h scope memory k (layout.starts j)) r.1
          (s.named.each j r.0.theirs r.0.found_there) in
          let long = r.0.long in
          let at = b.at in
          subst (λ (q : ℕ). may_write h q ≡ true) (sym b.at) (region.held b.i (omega (arith, at, high, long)))

  -- what it has to read may be read
  pub read_held : (place : ℕ) → reads_place share place ≡ true → may_read h place ≡ true
  read_held place r = on (of_words.read place r)
    where
      on : IsListedByte (parameters_at m found.par.context) layout found.branch.reads found.branch.read_parameters
          place → may_read h place ≡ true
      on (of_word k among b) =
          let w = s.frame.readable k (s.left.reads k among) in
          let is = w.is in
          let low = b.low in
          let high = b.high in
          let from : w.place ≤ place = omega (arith, ints) in
          let to : place < w.place + 4 = omega (arith, ints) in
          ap (may_read h) (let e : place ≡ w.place + (place - w.place) = omega arith in e)
          ∙ bytes_read h w.place w.readable (place - w.place) (omega arith)
      on (of_region j raw listed there low high) =
          let b = in_region_left j place raw (read_region j raw there listed) low high in
          subst (λ (q : ℕ). may_read h q ≡ true) (sym b.at) ((region_held j raw b.region).held b.i b.low)

  -- ---- bytes of the starter's regions that a share has

  -- the starter has a region, and a byte of it
  pub record HasByte (j : ℕ) (q : Parameter) (place : ℕ) : Type 0 where
    pub size : ℕ
    pub lo : ℤ
    pub hi : ℤ
    pub found_there : scope.parameters j ≡ Some q
    pub kind : IsRegionKind q.kind size lo hi
    pub i : ℕ
    pub at : place ≡ place_of (layout.starts j) + i
    pub low : i < size

  -- the region that has the byte
  region_of : (j : ℕ) (q : Parameter) (place : ℕ) (b : HasByte j q place)
      → IsHeldRegion m (may_read h) scope memory (place_of (layout.starts j)) b.size b.lo b.hi
  region_of j q place b = region_to_read m h scope memory q.kind (layout.starts j) b.size b.lo b.hi b.kind
      (s.named.each j q b.found_there)

  -- the byte is one of what its parameter names
  is_named_at : (j : ℕ) (q : Parameter) (place : ℕ) → HasByte j q place → IsNamedAt q.kind (layout.starts j) place
  is_named_at j q place b =
      let at = b.at in
      let low = b.low in
      named_at q.kind b.size (layout.starts j) b.lo b.hi place b.kind (omega (arith, at)) (omega (arith, at, low))

  -- a byte of a region that the starter has is one to write of the share by its number alone
  pub written_by_number : (j : ℕ) (q : Parameter) (place : ℕ) → HasByte j q place → writes_place share place ≡ true
      → is_listed found.branch.written_parameters j ≡ true
  written_by_number j q place b w = on (of_words.written place w)
    where
      on : IsListedByte (parameters_at m found.par.context) layout found.branch.writes found.branch.written_parameters
          place → is_listed found.branch.written_parameters j ≡ true
      on (of_word k among c) = absurd ((region_of j q place b).beside k b.i (branch_word_left k among) b.low
          (subst (λ (q : ℕ). IsByteOf layout.origin k q) b.at c))
      on (of_region i raw listed there low high) = elim (cases_eq i j) [
        | inl same ↦ subst (λ n. is_listed found.branch.written_parameters n ≡ true) same listed
        | inr differ ↦
            let r = written_left m found layout s.left i raw there listed in
            let long = r.0.long in
            absurd (s.named.apart i j r.0.theirs q r.0.found_there b.found_there differ place
            (subst (λ (k : ParameterKind). IsWrittenAt k (layout.starts i) place) (sym r.1)
            (low, omega (arith, high, long))) (is_named_at j q place b))
      ]

  -- a byte of a region that the starter may write is one to read of the share by its number alone
  pub read_by_number : (j : ℕ) (q : Parameter) (place : ℕ) (b : HasByte j q place)
      → q.kind ≡ WrittenRegion b.size b.lo b.hi → reads_place share place ≡ true
      → is_listed found.branch.read_parameters j ≡ true
  read_by_number j q place b writes r = on (of_words.read place r)
    where
      on : IsListedByte (parameters_at m found.par.context) layout found.branch.reads found.branch.read_parameters
          place → is_listed found.branch.read_parameters j ≡ true
      on (of_word k among c) = absurd ((region_of j q place b).beside k b.i (s.left.reads k among) b.low
          (subst (λ (q : ℕ). IsByteOf layout.origin k q) b.at c))
      on (of_region i raw listed there low high) = elim (cases_eq j i) [
        | inl same ↦ subst (λ n. is_listed found.branch.read_parameters n ≡ true) (sym same) listed
        | inr differ ↦
            let l = read_region i raw there listed in
            let long = l.long in
            let at = b.at in
            let less = b.low in
            absurd (s.named.apart j i q l.theirs b.found_there l.found_there differ place
            (subst (λ (k : ParameterKind). IsWrittenAt k (layout.starts j) place) (sym writes)
            (omega (arith, at), omega (arith, at, less)))
            (named_at l.theirs.kind l.size (layout.starts i) l.lo l.hi place l.kind low (omega (arith, high, long))))
      ]
