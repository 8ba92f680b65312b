-- What a caller knows of its words after a call holds, whatever the callee does to what it was lent.
use Rattle.std.proofs.Common.{◌≡◌, ℕ, zero, suc, ◌+◌, ◌-◌, ◌*◌, ◌/◌, ◌≤◌, ◌<◌, ℤ, pos, negsuc, ◌+ℤ◌, ◌-ℤ◌, ◌≤ℤ◌, ◌<ℤ◌}
use Rattle.std.proofs.Common.{Bool, true, false, cond, ◌&&◌, ◌⊎◌, inl, inr, List, [], ◌∷◌, length, Option, Some, None}
use Rattle.std.proofs.Common.{refl, sym, ap, ◌∙◌, subst, arith}
use Rattle.std.specs.Prelude.{slice_get, int_le, int_lt, nat_abs}
use Rattle.std.proofs.lemmas.Int.{ints}
use Rattle.std.proofs.lemmas.Bool.{and_parts, and_from, cases_Bool}
use Rattle.small_laws.proofs.Comparisons.{lt-int_lt, le-int_le, int_le-true, int_lt-true, pos_from}
use Rattle.module_format.specs.declared.fact.Fact.TheVariants.{Number}
use Rattle.module_format.specs.declared.fact.Region.{Region}
use Rattle.module_format.specs.declared.fact.Region.TheVariants as regions
use Rattle.module_format.specs.declared.rows.Parameter.{Parameter}
use Rattle.module_format.specs.declared.rows.ParameterKind.{ParameterKind}
use Rattle.module_format.specs.declared.rows.ParameterKind.TheVariants.{Value, ReadRegion, WrittenRegion, Channels}
use Rattle.module_format.specs.Contents.{Contents, Procedure}
use Rattle.module_format.specs.Regions.{is_frame}
use Rattle.machine_state.specs.Memory.{Memory, word_at, place_of}
use Rattle.machine_state.specs.Holding.{Holding, may_write, may_read}
use Rattle.states.specs.declared.known.WordFact.TheVariants.{Alone}
use Rattle.states.specs.State.{State, Facts, Change, by_itself, is_parted, changed}
use Rattle.rulings.specs.Meaning.{Layout, Activation, Means, says_nothing, MeansWord, is_fact, place_in, frame_word}
use Rattle.rulings.specs.Meaning.{IsReadableWord}
use Rattle.rulings.specs.Regions.{IsByteOf, Scope, scope_of, IsHeldRegion, IsNamed, HoldsNamed, MayChange, in_frame}
use Rattle.rulings.specs.Regions.{in_region, KeepsMemory, parameter_used}
use Rattle.states.specs.declared.span.Leaving.TheVariants.{Become}
use Rattle.states.specs.Spans.{on_span}
use Rattle.rulings.specs.Reach.{word_of_byte}
use Rattle.call_rules.specs.declared.lent.Lent.{Lent}
use Rattle.call_rules.specs.CallRules.{Calling, callee_word, given, lent_to, lent, with_lent, with_all_lent}
use Rattle.call_rules.specs.CallRules.{callee_span, frame_size}
use Rattle.rulings.proofs.Words.{means_same, itself_means, frame_word_is}
use Rattle.rulings.proofs.Offsets.{word_of_offset}
use Rattle.rulings.specs.Lends.{IsPart, of_frame, of_constants, of_parameter, PartOf, Lends}
use Rattle.rulings.proofs.Lending.{number_means, same_word, run_byte, WritesIn, writes_in, writes_of, word_kept}
use Rattle.rulings.proofs.Lending.{frame_byte}
use Rattle.call_rules.proofs.CallTests.{lent_fact, frame_is}
use Rattle.rulings.proofs.Regions.{bytes_read}

-- ---- one change of what is known

-- what is known of a word that has its new value already: where it is touched, what the change leaves holds of that
changed_means : (m : Contents) (act : Activation) (change : Change) (facts : Facts) (k : ℤ) (v : Option ℤ)
    → MeansWord m act k (facts k) v
    → (change.touches k ≡ true → Means m act.layout (change.leaves k (by_itself (facts k))) v)
    → MeansWord m act k (changed change facts k) v
changed_means m act change facts k v means touched = elim (cases_Bool (change.touches k)) [
  | inl e ↦ means_same (is_fact (touched e))
      (sym (ap (λ (b : Bool). cond b (Alone (change.leaves k (by_itself (facts k))))
      (cond (is_parted change.touches k (facts k)) (Alone (by_itself (facts k))) (facts k))) e)) refl
  | inr e ↦ elim (cases_Bool (is_parted change.touches k (facts k))) [
    | inl parted ↦ means_same (is_fact (itself_means m act k (facts k) v means))
        (sym (ap (λ (b : Bool). cond b (Alone (change.leaves k (by_itself (facts k))))
        (cond (is_parted change.touches k (facts k)) (Alone (by_itself (facts k))) (facts k))) e
        ∙ ap (λ (b : Bool). cond b (Alone (by_itself (facts k))) (facts k)) parted)) refl
    | inr whole ↦ means_same means
        (sym (ap (λ (b : Bool). cond b (Alone (change.leaves k (by_itself (facts k))))
        (cond (is_parted change.touches k (facts k)) (Alone (by_itself (facts k))) (facts k))) e
        ∙ ap (λ (b : Bool). cond b (Alone (by_itself (facts k))) (facts k)) whole)) refl
  ]
]

-- of a word that is touched only that counts
touched_means : (m : Contents) (act : Activation) (change : Change) (facts : Facts) (k : ℤ) (v : Option ℤ)
    → change.touches k ≡ true → Means m act.layout (change.leaves k (by_itself (facts k))) v
    → MeansWord m act k (changed change facts k) v
touched_means m act change facts k v e means = means_same (is_fact means)
    (sym (ap (λ (b : Bool). cond b (Alone (change.leaves k (by_itself (facts k))))
    (cond (is_parted change.touches k (facts k)) (Alone (by_itself (facts k))) (facts k))) e)) refl

-- ---- what all that is lent leaves

abbrev pub to_write : Lent → Bool
to_write l = l.is_written && is_frame l.region

abbrev pub lent_span : Lent → Change
lent_span l = on_span (word_of_byte l.first) (l.size / 4) (Become (Number l.lo l.hi))

module _ (m : Contents) (act : Activation) (c : Calling) (k : ℤ) (v : Option ℤ) where
  -- what is lent to a parameter has the word, and the word is a number in its range
  abbrev Holds : Option Lent → Type 0
  Holds o = (l : Lent) → o ≡ Some l → to_write l ≡ true → (lent_span l).touches k ≡ true
      → Means m act.layout (Number l.lo l.hi) v

  abbrev AllHold : List Parameter → Type 0
  AllHold ps = (j : ℕ) (q : Parameter) → slice_get ps j ≡ Some q → Holds (lent c q)

  -- some parameter is lent the word
  record Covered (ps : List Parameter) : Type 0 where
    j : ℕ
    q : Parameter
    found : slice_get ps j ≡ Some q
    l : Lent
    is : lent c q ≡ Some l
    writes : to_write l ≡ true
    touches : (lent_span l).touches k ≡ true

  abbrev Uncovered : List Parameter → Type 0
  Uncovered ps = (j : ℕ) (q : Parameter) → slice_get ps j ≡ Some q → (l : Lent) → lent c q ≡ Some l
      → to_write l ≡ true → (lent_span l).touches k ≡ false

  one_lent : (o : Option Lent) (facts : Facts) → Holds o → MeansWord m act k (facts k) v
      → MeansWord m act k (with_lent o facts k) v
  one_lent None facts holds means = means
  one_lent (Some l) facts holds means = elim (cases_Bool (to_write l)) [
    | inl e ↦ subst (λ (b : Bool). MeansWord m act k ((cond b (changed (lent_span l) facts) facts) k) v) (sym e)
        (changed_means m act (lent_span l) facts k v means (λ t. holds l refl e t))
    | inr e ↦ subst (λ (b : Bool). MeansWord m act k ((cond b (changed (lent_span l) facts) facts) k) v) (sym e) means
  ]

  all_lent : (ps : List Parameter) (facts : Facts) → AllHold ps → MeansWord m act k (facts k) v
      → MeansWord m act k (with_all_lent c ps facts k) v
  all_lent [] facts hold means = means
  all_lent (p ∷ ps) facts hold means =
      all_lent ps (with_lent (lent c p) facts) (λ j q found. hold (suc j) q found)
      (one_lent (lent c p) facts (hold 0 p refl) means)

  covered_lent : (ps : List Parameter) (facts : Facts) → AllHold ps → (j : ℕ) (q : Parameter) (l : Lent)
      → slice_get ps j ≡ Some q → lent c q ≡ Some l → to_write l ≡ true → (lent_span l).touches k ≡ true
      → MeansWord m act k (with_all_lent c ps facts k) v
  covered_lent [] facts hold j q l found is writes touches = absurd (cc)
  covered_lent (p ∷ ps) facts hold zero q l found is writes touches =
      let same : p ≡ q = cc in
      let is_here : lent c p ≡ Some l = ap (λ (x : Parameter). lent c x) same ∙ is in
      all_lent ps (with_lent (lent c p) facts) (λ j r there. hold (suc j) r there)
      (subst (λ (o : Option Lent). MeansWord m act k (with_lent o facts k) v) (sym is_here)
      (subst (λ (b : Bool). MeansWord m act k ((cond b (changed (lent_span l) facts) facts) k) v) (sym writes)
      (touched_means m act (lent_span l) facts k v touches (hold 0 p refl l is_here writes touches))))
  covered_lent (p ∷ ps) facts hold (suc j) q l found is writes touches =
      covered_lent ps (with_lent (lent c p) facts) (λ i r there. hold (suc i) r there) j q l found is writes touches

  search : (ps : List Parameter) → Covered ps ⊎ Uncovered ps
  search [] = inr (λ j q found. absurd (cc))
  search (p ∷ ps) = elim (search ps) [
    | inl at ↦ inl (record {
      j = suc at.j;
      q = at.q;
      found = at.found;
      l = at.l;
      is = at.is;
      writes = at.writes;
      touches = at.touches;
    })
    | inr none ↦ on_head (lent c p) refl none
  ]
    where
      later : Uncovered ps → ((l : Lent) → lent c p ≡ Some l → to_write l ≡ true → (lent_span l).touches k ≡ false)
          → Uncovered (p ∷ ps)
      later none head zero q found l is writes =
          let same : p ≡ q = cc in head l (ap (λ (x : Parameter). lent c x) same ∙ is) writes
      later none head (suc j) q found l is writes = none j q found l is writes

      on_head : (o : Option Lent) → lent c p ≡ o → Uncovered ps → Covered (p ∷ ps) ⊎ Uncovered (p ∷ ps)
      on_head None e none = inr (later none (λ l is writes. let no' : None ≡ Some l = sym e ∙ is in absurd (cc)))
      on_head (Some l) e none = elim (cases_Bool (to_write l)) [
        | inr not_written ↦ inr (later none (λ l' is writes.
            let same : l ≡ l' = let e : Some l ≡ Some l' = sym e ∙ is in cc in
            let no' : false ≡ true = sym not_written ∙ ap to_write same ∙ writes in absurd (cc)))
        | inl writes ↦ elim (cases_Bool ((lent_span l).touches k)) [
          | inl touches ↦ inl (record { j = 0; q = p; found = refl; l = l; is = e; writes = writes; touches = touches })
          | inr misses ↦ inr (later none (λ l' is writes.
              let same : l ≡ l' = let e : Some l ≡ Some l' = sym e ∙ is in cc in
              ap (λ (x : Lent). (lent_span x).touches k) (sym same) ∙ misses))
        ]
      ]

-- ---- the words of the caller

module _ (m : Contents) (h : Holding) (act : Activation) (s : State) (p : Procedure) (context : ℕ) (layout : Layout)
    (lends : Lends m (scope_of m s.context act.layout) (scope_of m context layout) (s.depth +ℤ negsuc 3))
    (memory later : Memory) (keeps : KeepsMemory m h (scope_of m context layout) memory later)
    (has : HoldsNamed m h (scope_of m s.context act.layout) memory)
    (mine : HoldsNamed m h (scope_of m context layout) later)
    (parameters_are : (j : ℕ) → parameter_used m context j ≡ slice_get p.parameters j) where
  abbrev c : Calling
  c = record { contents = m; state = s; callee = p }

  abbrev caller : Scope
  caller = scope_of m s.context act.layout

  abbrev callee : Scope
  callee = scope_of m context layout

  abbrev base : ℤ
  base = s.depth +ℤ negsuc 3

  -- a parameter that is written was lent its part
  abbrev pub part_lent : (j : ℕ) (q : Parameter) → callee.parameters j ≡ Some q → ℕ → ℤ → ℤ → Lent
  part_lent j q found size lo hi =
      let part = lends.parts j q found in
      record { region = part.region; first = part.first; size = size; lo = lo; hi = hi; is_written = true }

  abbrev pub AreLinked : Type 0
  AreLinked = (j : ℕ) (q : Parameter) (found : callee.parameters j ≡ Some q) (size : ℕ) (lo hi : ℤ)
      → q.kind ≡ WrittenRegion size lo hi → lent c q ≡ Some (part_lent j q found size lo hi)

  module _ (linked : AreLinked) (inside : (k : ℤ) → callee.words.reads k ≡ true → (p.lo ≤ℤ k) × (k <ℤ p.hi))
      (readable : (k : ℤ) → caller.words.reads k ≡ true → IsReadableWord h (length memory) act.layout.origin k)
      (words : (k : ℤ) → caller.words.reads k ≡ true
      → MeansWord m act k (s.frame k) (frame_word memory act.layout.origin k)) where
    -- what is lent of the frame is numbers in its range
    lent_part : (k : ℤ) (q : Parameter) (l : Lent) (start size : ℕ) (lo hi : ℤ) (region : Region) (first : ℤ)
        (count : ℕ)
        → l ≡ record { region = region; first = first; size = size; lo = lo; hi = hi; is_written = true }
        → l.region ≡ regions.Frame → (lent_span l).touches k ≡ true → size ≡ 4 * count
        → IsHeldRegion m (may_write h) callee later (place_of start) size lo hi
        → IsPart m caller callee base region first count lo hi true (place_of start)
        → Means m act.layout (Number l.lo l.hi) (frame_word later act.layout.origin k)
    lent_part k q l start size lo hi region first count is at_frame touches whole has
        (of_frame word e f place reads writes off) =
        let first_is : l.first ≡ first = ap (λ (x : Lent). x.first) is in
        let size_is : l.size ≡ size = ap (λ (x : Lent). x.size) is in
        let word_is : word_of_byte l.first ≡ word = ap word_of_byte (first_is ∙ f) ∙ word_of_offset word in
        let both = and_parts (int_le (word_of_byte l.first) k)
        (int_lt k (word_of_byte l.first +ℤ pos (l.size / 4))) touches in
        let low = int_le-true (word_of_byte l.first) k both.0 in
        let high = int_lt-true k (word_of_byte l.first +ℤ pos (l.size / 4)) both.1 in
        let i = pos_from (k -ℤ word) (omega (arith, ints, low, word_is)) in
        let at : pos (place_of start + 4 * i.0) ≡ place_in act.layout.origin k = omega (arith, ints, place, i.1) in
        subst (λ (v : Option ℤ). Means m act.layout (Number l.lo l.hi) v)
        (sym (frame_word_is later act.layout.origin k (place_of start + 4 * i.0) at))
        (subst (λ (z : ℤ). Means m act.layout (Number l.lo z) (word_at later (place_of start + 4 * i.0)))
        (sym (ap (λ (x : Lent). x.hi) is))
        (subst (λ (z : ℤ). Means m act.layout (Number z hi) (word_at later (place_of start + 4 * i.0)))
        (sym (ap (λ (x : Lent). x.lo) is))
        (number_means (has.numbers i.0 (omega (arith, ints, i.1, high, word_is, size_is, whole))))))
    lent_part k q l start size lo hi region first count is at_frame touches whole has
        (of_constants n e f no' place fits) =
        absurd (cc)
    lent_part k q l start size lo hi region first count is at_frame touches whole has
        (of_parameter r t n total low high e f found kind written below above place fits) =
        let region_is : l.region ≡ region = ap (λ (x : Lent). x.region) is in
        absurd (cc)

    all_hold : (k : ℤ) → AllHold m act c k (frame_word later act.layout.origin k) p.parameters
    all_hold k j q found l is writes touches = on_kind q.kind refl is
      where
        there : callee.parameters j ≡ Some q
        there = parameters_are j ∙ found

        both : (l.is_written ≡ true) × (is_frame l.region ≡ true)
        both = and_parts l.is_written (is_frame l.region) writes

        region_is : l.region ≡ regions.Frame
        region_is = frame_is l.region both.1

        on_kind : (kind : ParameterKind) → q.kind ≡ kind → lent_to kind (given c q) ≡ Some l
            → Means m act.layout (Number l.lo l.hi) (frame_word later act.layout.origin k)
        on_kind (Value lo hi) e at = absurd (cc)
        on_kind (ReadRegion size lo hi) e at =
            let no' : true ≡ false = sym both.0
            ∙ ap (λ (x : Lent). x.is_written) (lent_fact size lo hi false (given c q) l at).1 in
            absurd (cc)
        on_kind (WrittenRegion size lo hi) e at =
            let part = lends.parts j q there in
            let is_part = subst (λ (kind : ParameterKind). PartOf m caller callee base kind
            (layout.starts j) part.region part.first part.count) e part.is in
            let same : l ≡ part_lent j q there size lo hi =
            let f : Some l ≡ Some (part_lent j q there size lo hi) = sym is ∙ linked j q there size lo hi e in cc in
            lent_part k q l (layout.starts j) size lo hi part.region part.first part.count same region_is
            touches is_part.0
            (subst (λ (kind : ParameterKind). IsNamed m h callee later kind (layout.starts j)) e
            (mine.each j q there)) is_part.1
        on_kind (Channels count len ends) e at = absurd (cc)

    -- a word that neither the callee's frame has nor any parameter was lent is the same
    module _ (k : ℤ) (t : caller.words.reads k ≡ true) (outside : (callee_span c).touches k ≡ false)
        (uncovered : Uncovered m act c k (frame_word later act.layout.origin k) p.parameters) where
      untouched : (place at : ℕ) → pos place ≡ place_in act.layout.origin k → place ≤ at → at < place + 4
          → MayChange callee at → ⊥
      untouched place at is low high (in_frame j w b) =
          let there = same_word act.layout.origin k (base +ℤ j) at
          (record { low = omega (arith, ints, is); high = omega (arith, ints, is) })
          (frame_byte m caller callee base lends j at b) in
          let bounds = inside j (lends.callee_reads j w) in
          let n = pos_from (p.hi -ℤ p.lo) (omega (arith, ints, bounds.0, bounds.1)) in
          let size : frame_size p ≡ n.0 = ap nat_abs n.1 in
          let yes : (callee_span c).touches k ≡ true =
          and_from _ _ (le-int_le (callee_word s p.lo) k (omega (arith, ints, there, bounds.0)))
          (lt-int_lt k (callee_word s p.lo +ℤ pos (frame_size p)) (omega (arith, ints, there, bounds.1, n.1, size))) in
          let no' : false ≡ true = sym outside ∙ yes in (cc)
      untouched place at is low high (in_region j q found changes) =
          on_writes (writes_of m caller callee base lends j q at found changes)
        where
          on_part : (j : ℕ) (q : Parameter) (size : ℕ) (lo hi : ℤ) (region : Region) (first : ℤ) (count i : ℕ)
              → (found : callee.parameters j ≡ Some q) → (lends.parts j q found).region ≡ region
              → (lends.parts j q found).first ≡ first → q.kind ≡ WrittenRegion size lo hi → size ≡ 4 * count
              → at ≡ place_of (layout.starts j) + i → i < 4 * count
              → IsPart m caller callee base region first count lo hi true (place_of (layout.starts j)) → ⊥
          on_part j q size lo hi region first count i found r f kind whole there less
              (of_frame word at_frame first_is start reads writes off) =
              let same = same_word act.layout.origin k (word +ℤ pos (i / 4)) at
              (record { low = omega (arith, ints, is); high = omega (arith, ints, is) })
              (subst (λ (n : ℕ). IsByteOf act.layout.origin (word +ℤ pos (i / 4)) n) (sym there)
              (run_byte act.layout.origin word (place_of (layout.starts j)) i start)) in
              let l : Lent = part_lent j q found size lo hi in
              let word_is : word_of_byte (lends.parts j q found).first ≡ word =
              ap word_of_byte (f ∙ first_is) ∙ word_of_offset word in
              let none = uncovered j q (sym (parameters_are j) ∙ found) l
              (linked j q found size lo hi kind) (ap is_frame (r ∙ at_frame)) in
              let yes : (lent_span l).touches k ≡ true =
              and_from _ _ (le-int_le (word_of_byte l.first) k (omega (arith, ints, same, word_is)))
              (lt-int_lt k (word_of_byte l.first +ℤ pos (size / 4))
              (omega (arith, ints, same, word_is, whole, less))) in
              let no' : false ≡ true = sym none ∙ yes in (cc)
          on_part j q size lo hi region first count i found r f kind whole there less
              (of_constants n e g no' start fits) =
              cc
          on_part j q size lo hi region first count i found r f kind whole there less
              (of_parameter o u n total low' high' e g own kind' written below above start fits) =
              let named : IsNamed m h caller memory (WrittenRegion total lo hi) (act.layout.starts o) =
              subst (λ (kind : ParameterKind). IsNamed m h caller memory kind (act.layout.starts o)) (written refl)
              (has.each o u own) in
              let off : ℕ = at - place_of (act.layout.starts o) in
              let off_is : place_of (act.layout.starts o) + off ≡ at = omega (arith, there, start) in
              named.beside k off t (omega (arith, there, start, less, fits))
              (record { low = omega (arith, ints, is, off_is); high = omega (arith, ints, is, off_is) })

          on_writes : WritesIn m caller callee base lends at → ⊥
          on_writes (writes_in j q size lo hi region first count found r f kind whole part i there less) =
              on_part j q size lo hi region first count i found r f kind whole there less part

      same_value : frame_word later act.layout.origin k ≡ frame_word memory act.layout.origin k
      same_value =
          let w = readable k t in
          elim (word_kept keeps w.place (subst (λ (n : ℕ). may_read h n ≡ true) (omega arith)
          (bytes_read h w.place w.readable 0 (omega arith)))
          (bytes_read h w.place w.readable 1 (omega arith)) (bytes_read h w.place w.readable 2 (omega arith))
          (bytes_read h w.place w.readable 3 (omega arith))) [
            | inl same ↦ frame_word_is later act.layout.origin k w.place w.is ∙ same
                ∙ sym (frame_word_is memory act.layout.origin k w.place w.is)
            | inr touched ↦ absurd (untouched w.place touched.at w.is touched.low touched.high touched.change)
          ]

    -- all that the caller knows of its words after the call holds in every memory that the callee may leave
    pub resumes_words : (k : ℤ) → caller.words.reads k ≡ true
        → MeansWord m act k (with_all_lent c p.parameters (changed (callee_span c) s.frame) k)
        (frame_word later act.layout.origin k)
    resumes_words k t = elim (search m act c k (frame_word later act.layout.origin k) p.parameters) [
      | inl at ↦ covered_lent m act c k (frame_word later act.layout.origin k) p.parameters
          (changed (callee_span c) s.frame)
          (all_hold k) at.j at.q at.l at.found at.is at.writes at.touches
      | inr none ↦ all_lent m act c k (frame_word later act.layout.origin k) p.parameters
          (changed (callee_span c) s.frame)
          (all_hold k) (elim (cases_Bool ((callee_span c).touches k)) [
            | inl touches ↦ touched_means m act (callee_span c) s.frame k
                (frame_word later act.layout.origin k) touches says_nothing
            | inr outside ↦ changed_means m act (callee_span c) s.frame k (frame_word later act.layout.origin k)
                (means_same (words k t) refl (sym (same_value k t outside none)))
                (λ touches. let no' : true ≡ false = sym touches ∙ outside in absurd (cc))
          ])
    ]
