-- Changes climb from a branch to its opener, and on up.
use Rattle.std.proofs.Common.{◌≡◌, ◌⊎◌, inl, inr, ℕ, ◌+◌, ◌-◌, ◌*◌, ◌/◌, ◌<◌, ◌≤◌, ℤ, pos, ◌+ℤ◌, Bool, true, false}
use Rattle.std.proofs.Common.{length, refl, sym, ap, ◌∙◌, subst, arith}
use Rattle.std.proofs.lemmas.Int.{ints}
use Rattle.std.proofs.lemmas.Bool.{cases_Bool}
use Rattle.module_format.specs.declared.fact.Region.{Region}
use Rattle.module_format.specs.declared.rows.ParameterKind.{ParameterKind}
use Rattle.module_format.specs.declared.rows.ParameterKind.TheVariants.{Value, ReadRegion, WrittenRegion, Channels}
use Rattle.module_format.specs.Contents.{Contents}
use Rattle.machine_state.specs.Holding.{Holding, may_write, may_read}
use Rattle.machine_state.specs.Memory.{Memory, byte_at, place_of}
use Rattle.machine_state.specs.World.{constants_start}
use Rattle.machine_state.proofs.Reading.{word_at_same}
use Rattle.rulings.specs.Lends.{IsRegionKind, IsPart, of_frame, of_constants, of_parameter, PartOf, Lends}
use Rattle.rulings.specs.Meaning.{frame_word, word_at_place, place_in}
use Rattle.rulings.specs.Regions.{Scope, IsByteOf, IsHeldRegion, IsNamed, HoldsNamed, IsWrittenAt, MayChange, in_frame}
use Rattle.rulings.specs.Regions.{in_region, KeepsMemory}
use Rattle.rulings.proofs.Combining.{readable_byte}
use Rattle.rulings.proofs.Lending.{byte_index, same_word, run_byte, lift_change, lift_named, frame_byte}
use Rattle.rulings.proofs.Regions.{byte_of_own, bytes_read}
use Rattle.share_laws.specs.Climbing.{ChangesWithin, IsRung, ChangesClimb, OtherWordsStay, is_branch, is_under}
use Rattle.share_laws.specs.Climbing.{ChangesAreByABranch}

-- a byte of a word that may be read may be read
byte_to_read : (h : Holding) (origin k : ℤ) (place word : ℕ) → pos word ≡ place_in origin k
    → ((i : ℕ) → i < 4 → may_read h (word + i) ≡ true) → IsByteOf origin k place → may_read h place ≡ true
byte_to_read h origin k place word is each b =
    let low = b.low in
    let high = b.high in
    let from : word ≤ place = omega (arith, ints) in
    let to : place < word + 4 = omega (arith, ints) in
    subst (λ q. may_read h q ≡ true) (let e : word + (place - word) ≡ place = omega (arith, from) in e)
    (each (place - word) (omega (arith, from, to)))

module _ (m : Contents) (theirs mine : Holding) (opener branch : Scope) (old new : Memory)
    (rung : IsRung m old theirs mine opener branch) (within : ChangesWithin m mine branch old new) where
  -- what the opener has lent
  lends : Lends m opener branch (pos 0)
  lends = rung.lent.lends

  -- each byte is the same, or the branch may change it
  each_byte : (place : ℕ) → (byte_at new place ≡ byte_at old place) ⊎ MayChange branch place
  each_byte place = elim (cases_Bool (may_write mine place)) [
    | inl own ↦ within.keeps.bytes place (readable_byte mine place own)
    | inr other ↦ inl (within.own.others place other)
  ]

  -- what the branch's parameters name in the new memory
  branch_now : HoldsNamed m mine branch new
  branch_now = within.keeps.named rung.branch_named

  -- what the opener's scope may change the opener may write
  change_is_own : (place : ℕ) → MayChange opener place → may_write theirs place ≡ true
  change_is_own place (in_frame k t b) =
      byte_of_own theirs (length old) opener.layout.origin k place (rung.frame.own k t) b
  change_is_own place (in_region j p there at) =
      on p.kind refl at (rung.opener_named.each j p there)
    where
      on : (kind : ParameterKind) → p.kind ≡ kind → IsWrittenAt kind (opener.layout.starts j) place
          → IsNamed m theirs opener old kind (opener.layout.starts j) → may_write theirs place ≡ true
      on (Value lo hi) e at named = absurd at
      on (ReadRegion size lo hi) e at named = absurd at
      on (WrittenRegion size lo hi) e at named =
          let b = byte_index place (place_of (opener.layout.starts j)) size at.0 at.1 in
          subst (λ q. may_write theirs q ≡ true) (sym b.1) (named.held b.0 b.2)
      on (Channels count len ends) e at named = absurd at

  -- ---- what the branch's parameters name, held by the opener

  -- the branch's scope without its ends
  abbrev endless : Scope
  endless = record branch { ends = λ kind direction. false }

  -- the same parts are lent it without its ends
  lent_parts : Lends m opener endless (pos 0)
  lent_parts = record {
    origin = lends.origin;
    writes = lends.writes;
    reads = lends.reads;
    callee_reads = lends.callee_reads;
    caller_reads = lends.caller_reads;
    parts = λ j p there. let x = lends.parts j p there in
        record { region = x.region; first = x.first; count = x.count; is = same_part p.kind _ _ _ _ x.is };
  }
    where
      part_alike : {region : Region} {first : ℤ} {count : ℕ} {lo hi : ℤ} {written : Bool} {place : ℕ}
          → IsPart m opener branch (pos 0) region first count lo hi written place
          → IsPart m opener endless (pos 0) region first count lo hi written place
      part_alike (of_frame word a b c d e f) = of_frame word a b c d e f
      part_alike (of_constants n a b c d e) = of_constants n a b c d e
      part_alike (of_parameter q p n total low high a b c d e f g i k) =
          of_parameter q p n total low high a b c d e f g i k

      same_part : (kind : ParameterKind) (start : ℕ) (region : Region) (first : ℤ) (count : ℕ)
          → PartOf m opener branch (pos 0) kind start region first count
          → PartOf m opener endless (pos 0) kind start region first count
      same_part (Value lo hi) start region first count is = tt
      same_part (ReadRegion size lo hi) start region first count is = (is.0, part_alike is.1)
      same_part (WrittenRegion size lo hi) start region first count is = (is.0, part_alike is.1)
      same_part (Channels count' len ends) start region first count is = tt

  -- the opener may read the bytes of a part that it has lent
  part_read : {region : Region} {first : ℤ} {count : ℕ} {lo hi : ℤ} {written : Bool} {place : ℕ}
      → IsPart m opener branch (pos 0) region first count lo hi written place → (i : ℕ) → i < 4 * count
      → may_read theirs (place + i) ≡ true
  part_read {place = place} (of_frame word a b is reads d e) i low =
      let w = rung.frame.readable (word +ℤ pos (i / 4)) (reads (i / 4) (omega (arith, low))) in
      byte_to_read theirs opener.layout.origin (word +ℤ pos (i / 4)) (place + i) w.place w.is
      (λ n small. bytes_read theirs w.place w.readable n small) (run_byte opener.layout.origin word place i is)
  part_read (of_constants n a b c is fits) i low =
      subst (λ q. may_read theirs q ≡ true) (let e : constants_start m + (n + i) ≡ _ = omega (arith, is) in e)
      (rung.opener_named.constants.readable (n + i) (omega (arith, low, fits)))
  part_read {place = place} (of_parameter q p n total low' high' a b there kind writes c d is fits) i low =
      on p.kind refl kind (rung.opener_named.each q p there)
    where
      at : place_of (opener.layout.starts q) + (4 * n + i) ≡ place + i
      at = omega (arith, is)

      on : (k : ParameterKind) → p.kind ≡ k → IsRegionKind k total low' high'
          → IsNamed m theirs opener old k (opener.layout.starts q) → may_read theirs (place + i) ≡ true
      on (Value lo hi) e (inl k) named = absurd (cc)
      on (Value lo hi) e (inr k) named = absurd (cc)
      on (Channels count len ends) e (inl k) named = absurd (cc)
      on (Channels count len ends) e (inr k) named = absurd (cc)
      on (ReadRegion size lo hi) e (inr k) named = absurd (cc)
      on (WrittenRegion size lo hi) e (inl k) named = absurd (cc)
      on (ReadRegion size lo hi) e (inl k) named =
          let same : size ≡ total = cc in
          subst (λ x. may_read theirs x ≡ true) at (named.held (4 * n + i) (omega (arith, same, low, fits)))
      on (WrittenRegion size lo hi) e (inr k) named =
          let same : size ≡ total = cc in
          subst (λ x. may_read theirs x ≡ true) at (readable_byte theirs (place_of (opener.layout.starts q) + (4 * n +
          i))
          (named.held (4 * n + i) (omega (arith, same, low, fits))))

  -- and those that it has lent to write it may write
  part_written : {region : Region} {first : ℤ} {count : ℕ} {lo hi : ℤ} {place : ℕ}
      → IsPart m opener branch (pos 0) region first count lo hi true place → (i : ℕ) → i < 4 * count
      → may_write theirs (place + i) ≡ true
  part_written {place = place} (of_frame word a b is reads writes e) i low =
      byte_of_own theirs (length old) opener.layout.origin (word +ℤ pos (i / 4)) (place + i)
      (rung.frame.own (word +ℤ pos (i / 4)) (writes (i / 4) (omega (arith, low)) refl))
      (run_byte opener.layout.origin word place i is)
  part_written (of_constants n a b c is fits) i low = absurd (cc)
  part_written {lo = lo} {hi = hi} {place = place}
      (of_parameter q p n total low' high' a b there kind writes c d is fits) i low =
      let named : IsHeldRegion m (may_write theirs) opener old (place_of (opener.layout.starts q)) total lo hi =
      subst (λ (k : ParameterKind). IsNamed m theirs opener old k (opener.layout.starts q)) (writes refl)
      (rung.opener_named.each q p there) in
      subst (λ x. may_write theirs x ≡ true)
      (let e : place_of (opener.layout.starts q) + (4 * n + i) ≡ place + i = omega (arith, is) in e)
      (named.held (4 * n + i) (omega (arith, low, fits)))

  -- what a parameter of the branch names the opener holds, with what is there now
  named_by_opener : (kind : ParameterKind) (start : ℕ) (region : Region) (first : ℤ) (count : ℕ)
      → PartOf m opener branch (pos 0) kind start region first count → IsNamed m mine branch new kind start
      → IsNamed m theirs endless new kind start
  named_by_opener (Value lo hi) start region first count is named = tt
  named_by_opener (ReadRegion size lo hi) start region first count is named =
      let whole = is.0 in
      record {
        aligned = named.aligned;
        whole = named.whole;
        held = λ i low. part_read is.1 i (omega (arith, low, whole));
        beside = named.beside;
        numbers = named.numbers;
      }
  named_by_opener (WrittenRegion size lo hi) start region first count is named =
      let whole = is.0 in
      record {
        aligned = named.aligned;
        whole = named.whole;
        held = λ i low. part_written is.1 i (omega (arith, low, whole));
        beside = named.beside;
        numbers = named.numbers;
      }
  named_by_opener (Channels count' len ends) start region first count is named = named

  -- so of all its parameters, with the constants and bytes that the opener may read
  held_by_opener : HoldsNamed m theirs endless new
  held_by_opener = record {
    each = λ j p there. let x = lends.parts j p there in
        named_by_opener p.kind (branch.layout.starts j) x.region x.first x.count x.is (branch_now.each j p there);
    apart = branch_now.apart;
    constants = record {
      readable = rung.opener_named.constants.readable;
      bytes = branch_now.constants.bytes;
      behind = rung.opener_named.constants.behind;
    };
    bytes = record {
      each = λ place b held found. elim (cases_Bool (may_write mine place)) [
        | inl own ↦ branch_now.bytes.each place b (readable_byte mine place own) found
        | inr other ↦ rung.opener_named.bytes.each place b held (sym (within.own.others place other) ∙ found)
      ];
    };
    even = branch_now.even;
    ends = λ kind direction t. absurd (cc);
    back = branch_now.back;
    lengths = λ kind direction t. absurd (cc);
    differ = λ a b direction t u same. absurd (cc);
  }

  -- of the bytes that the opener may read only what the branch may change has changed
  keeps_endless : KeepsMemory m theirs endless old new
  keeps_endless = record {
    size = within.keeps.size;
    bytes = λ place held. elim (each_byte place) [ inl same ↦ inl same | inr change ↦ inr (without_ends change) ];
    named = λ has. held_by_opener;
  }
    where
      without_ends : {place : ℕ} → MayChange branch place → MayChange endless place
      without_ends (in_frame k t b) = in_frame k t b
      without_ends (in_region j p there at) = in_region j p there at

  -- so the opener's scope allows the change
  climbs : ChangesWithin m theirs opener old new
  climbs = record {
    own = record {
      size = within.own.size;
      others = λ place other. elim (each_byte place) [
        | inl same ↦ same
        | inr change ↦
            let own = change_is_own place (lift_change m opener branch (pos 0) lends place change) in
            let no' : false ≡ true = sym other ∙ own in absurd (cc)
      ];
    };
    keeps = record {
      size = within.keeps.size;
      bytes = λ place held. elim (each_byte place) [
        | inl same ↦ inl same
        | inr change ↦ inr (lift_change m opener branch (pos 0) lends place change)
      ];
      named = λ has. lift_named m theirs opener endless (pos 0) lent_parts old new keeps_endless has held_by_opener;
    };
  }

  -- ---- words that stay

  -- no byte of a word that the opener may read, and the branch may not write, has changed
  word_stays : (k : ℤ) → opener.words.reads k ≡ true → branch.words.writes k ≡ false → (place : ℕ)
      → IsByteOf opener.layout.origin k place → byte_at new place ≡ byte_at old place
  word_stays k counts free place b = elim (each_byte place) [
    | inl same ↦ same
    | inr change ↦ absurd (on change)
  ]
    where
      on : MayChange branch place → ⊥
      on (in_frame j t c) =
          let there = frame_byte m opener branch (pos 0) lends j place c in
          let same : pos 0 +ℤ j ≡ k = same_word opener.layout.origin (pos 0 +ℤ j) k place there b in
          let is : j ≡ k = omega (arith, ints, same) in
          let no' : true ≡ false = sym t ∙ (ap branch.words.writes is ∙ free) in
          cc
      on (in_region j p there at) = by_kind p.kind refl at
        where
          by_kind : (kind : ParameterKind) → p.kind ≡ kind → IsWrittenAt kind (branch.layout.starts j) place → ⊥
          by_kind (Value lo hi) e at = at
          by_kind (ReadRegion size lo hi) e at = at
          by_kind (Channels count len ends) e at = at
          by_kind (WrittenRegion size lo hi) e at =
              let q = rung.lent.regions j p size lo hi there e in
              let region : IsHeldRegion m (may_write theirs) opener old (place_of (opener.layout.starts j)) size lo hi =
              subst (λ (k : ParameterKind). IsNamed m theirs opener old k (opener.layout.starts j)) q.2
              (rung.opener_named.each j q.0 q.1) in
              let start : place_of (branch.layout.starts j) ≡ place_of (opener.layout.starts j) =
              ap place_of (rung.lent.alike.starts j) in
              let x = byte_index place (place_of (branch.layout.starts j)) size at.0 at.1 in
              region.beside k x.0 counts x.2
              (subst (λ (n : ℕ). IsByteOf opener.layout.origin k n)
              (x.1 ∙ ap (λ (n : ℕ). n + x.0) start) b)

  -- nor has the word
  stays : (k : ℤ) → opener.words.reads k ≡ true → branch.words.writes k ≡ false
      → frame_word new opener.layout.origin k ≡ frame_word old opener.layout.origin k
  stays k counts free =
      let w = rung.frame.readable k counts in
      let byte : (i : ℕ) → i < 4 → byte_at new (w.place + i) ≡ byte_at old (w.place + i) =
      λ i low. word_stays k counts free (w.place + i)
      (record {
        low = (let is = w.is in omega (arith, ints, is));
        high = (let is = w.is in omega (
          arith,
          ints,
          is,
          low,
        ));
      })
      in
      let zero_is : w.place + 0 ≡ w.place = omega arith in
      sym (ap (word_at_place new) w.is)
      ∙ word_at_same new old w.place (subst (λ n. byte_at new n ≡ byte_at old n) zero_is (byte 0 (omega arith)))
      (byte 1 (omega arith)) (byte 2 (omega arith)) (byte 3 (omega arith))
      ∙ ap (word_at_place old) w.is

-- a change climbs one rung
pub changes_climb : ChangesClimb
changes_climb m theirs mine opener branch old new rung within =
    climbs m theirs mine opener branch old new rung within

-- and leaves the words that the branch has not to write
pub other_words_stay : OtherWordsStay
other_words_stay m theirs mine opener branch old new rung within k counts free =
    stays m theirs mine opener branch old new rung within k counts free

-- rung by rung to the branch of the one above
pub changes_are_by_a_branch : ChangesAreByABranch
changes_are_by_a_branch m old new own began waits_in q p (is_branch b rung) within =
    record { branch = b; rung = rung; within = within }
changes_are_by_a_branch m old new own began waits_in q p (is_under b o rung lifts above) within =
    let up = changes_climb m (own o) (own b) (waits_in o) (began b) old new rung within in
    changes_are_by_a_branch m old new own began waits_in q o above
    (record { own = up.own; keeps = lifts new up.keeps })
