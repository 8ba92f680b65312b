-- Entries that are cut by intervals.
use Rattle.std.proofs.Common.{◌≡◌, ◌⊎◌, ℕ, ◌+◌, ℤ, ◌≤ℤ◌, ◌<ℤ◌, Bool, true, false, ◌&&◌, cond, if◌then◌else◌, List, []}
use Rattle.std.proofs.Common.{◌∷◌, ◌++◌, refl, sym, ap, subst, inl, inr, ◌∙◌, arith, Option, Some, None}
use Rattle.std.specs.Prelude.{sum_by, not, is_some, IfSome}
use Rattle.std.specs.List.{list_all}
use Rattle.std.proofs.lemmas.Int.{ints, by_lt_z}
use Rattle.std.proofs.lemmas.List.Folds.{list_all-append}
use Rattle.std.proofs.lemmas.List.Sums.{sum_by-cons, sum_by_push, sum_by-append}
use Rattle.std.proofs.lemmas.Bool.{and_parts, and_from, cases_Bool}
use Rattle.std.proofs.Math.Bool.{and-true, and_assoc}
use Rattle.small_laws.proofs.Comparisons.{le-int_le, int_le-true}
use Rattle.module_format.specs.Rows.{Fact, Entry}
use Rattle.module_format.specs.declared.rows.Interval.{Interval}
use Rattle.module_format.specs.declared.fact.Fact.TheVariants.{Unknown, Number, Pointer, CodeAddress, Loop}
use Rattle.module_format.specs.declared.fact.Fact.TheVariants.{ReturnAddress}
use Rattle.module_format.specs.Facts.{end_of}
use Rattle.module_format.specs.Order.{least_word}
use Rattle.certificate.specs.Rights.{is_among}
use Rattle.states.specs.declared.cutting.Side.{Side}
use Rattle.states.specs.declared.cutting.Side.TheVariants.{Inside, Outside}
use Rattle.states.specs.declared.known.WordFact.{WordFact}
use Rattle.states.specs.declared.known.WordFact.TheVariants.{Alone}
use Rattle.states.specs.State.{Facts, is_same_number, is_alone, is_about, said_of, entry_fact}
use Rattle.states.specs.Below.{says, entries_hold, is_whole, price}
use Rattle.states.specs.Comparing.{loop_of}
use Rattle.states.specs.Rows.{rise_from, AreApart}
use Rattle.states.specs.Cutting.{is_on_side, kept_facts, rise_between, AreCut, IsCutTo, IsCutBefore, CutsOn, CutsEntry}
use Rattle.states.specs.Cutting.{SaysOutside, SaysInside, IsPaidOutside}
use Rattle.states.proofs.RowFacts.{about-before, about-behind, rise-parts}
use Rattle.states.proofs.RowFacts.{unknown-below, entry_fact-before, entry_fact-within, entry_fact-behind}
use Rattle.states.proofs.Comparisons.{entries_hold-says}
use Rattle.states.proofs.Entering.{plain-by}

-- ---- pieces, each after the one before it

between-parts : (low high : ℤ) (entry : Entry) (entries : List Entry) → rise_between low high (entry ∷ entries) ≡ true
    → (low ≤ℤ entry.word) × (rise_between (end_of entry) high entries ≡ true)
between-parts low high entry entries h = let p = and_parts _ _ h in (int_le-true low entry.word p.0, p.1)

between-ends : (low high : ℤ) (entries : List Entry) → rise_between low high entries ≡ true → low ≤ℤ high
between-ends low high [] h = int_le-true low high h
between-ends low high (entry ∷ entries) h =
    let p = between-parts low high entry entries h in
    let first = p.0 in
    let later = between-ends (end_of entry) high entries p.1 in
    omega (arith, ints, first, later)

between-rises : (low high : ℤ) (entries : List Entry) → rise_between low high entries ≡ true
    → rise_from low entries ≡ true
between-rises low high [] h = refl
between-rises low high (entry ∷ entries) h =
    let p = and_parts _ _ h in and_from _ _ p.0 (between-rises (end_of entry) high entries p.1)

between-further : (low high further : ℤ) (entries : List Entry) → high ≤ℤ further
    → rise_between low high entries ≡ true → rise_between low further entries ≡ true
between-further low high further [] le h =
    let first = int_le-true low high h in le-int_le low further (omega (arith, ints, first))
between-further low high further (entry ∷ entries) le h =
    let p = and_parts _ _ h in and_from _ _ p.0 (between-further (end_of entry) high further entries le p.1)

between-more : (low high end : ℤ) (entries : List Entry) (piece : Entry) → rise_between low high entries ≡ true
    → high ≤ℤ piece.word → end_of piece ≤ℤ end → rise_between low end (entries ++ (piece ∷ [])) ≡ true
between-more low high end [] piece h le ends =
    let first = int_le-true low high h in
    and_from _ _ (le-int_le low piece.word (omega (arith, ints, first))) (le-int_le (end_of piece) end ends)
between-more low high end (entry ∷ entries) piece h le ends =
    let p = and_parts _ _ h in
    and_from _ _ p.0 (between-more (end_of entry) high end entries piece p.1 le ends)

-- nothing is said of the words after them
unknown-behind : (low high k : ℤ) (entries : List Entry) → rise_between low high entries ≡ true → high ≤ℤ k
    → entry_fact entries k ≡ Alone Unknown
unknown-behind low high k [] h le = refl
unknown-behind low high k (entry ∷ entries) h le =
    let p = between-parts low high entry entries h in
    let ends = between-ends (end_of entry) high entries p.1 in
    rw (about-behind entry k (omega (arith, ints, ends))) (unknown-behind (end_of entry) high k entries p.1 le)

-- one more piece says nothing of a word before it
more-before : (entries : List Entry) (piece : Entry) (k : ℤ) → k <ℤ piece.word
    → entry_fact (entries ++ (piece ∷ [])) k ≡ entry_fact entries k
more-before [] piece k h = rw (about-before piece k h) refl
more-before (entry ∷ entries) piece k h =
    ap (λ (f : WordFact). cond (is_about entry k) (said_of entry.fact (is_same_number entry.word k)) f)
    (more-before entries piece k h)

-- from its first word on it says all
more-behind : (low high : ℤ) (entries : List Entry) (piece : Entry) (k : ℤ) → rise_between low high entries ≡ true
    → high ≤ℤ k → entry_fact (entries ++ (piece ∷ [])) k ≡ entry_fact (piece ∷ []) k
more-behind low high [] piece k h le = refl
more-behind low high (entry ∷ entries) piece k h le =
    let p = between-parts low high entry entries h in
    let ends = between-ends (end_of entry) high entries p.1 in
    rw (about-behind entry k (omega (arith, ints, ends))) (more-behind (end_of entry) high entries piece k p.1 le)

-- ---- facts of no loop

pub plain-said : (fact : Fact) (is_first : Bool) → loop_of fact ≡ None → said_of fact is_first ≡ Alone fact
plain-said Unknown is_first h = refl
plain-said (Number lo hi) is_first h = refl
plain-said (Pointer region lo hi step) is_first h = refl
plain-said (CodeAddress offset) is_first h = refl
plain-said (Loop base count weight) is_first h = absurd (cc)
plain-said ReturnAddress is_first h = refl

pub plain-alone : (fact : Fact) (is_first : Bool) → loop_of fact ≡ None → is_alone (said_of fact is_first) ≡ true
plain-alone fact is_first h = ap is_alone (plain-said fact is_first h)

-- ---- what is kept

-- nothing is said of a word that is not kept, or of which nothing is said
kept-none : (b : Bool) (said : WordFact) → said ≡ Alone Unknown → (if b then said else Alone Unknown) ≡ Alone Unknown
kept-none true said h = h
kept-none false said h = refl

-- ---- one step of the pass

module _ (side : Side) (intervals : List Interval) (row rest further pieces : List Entry) (left next : List Interval)
    (word end : ℤ) (cut : IsCutTo side intervals row rest pieces left word) (ahead : word ≤ℤ end)
    (same_left : (k : ℤ) → end ≤ℤ k → is_among next k ≡ is_among left k)
    (same_rest : (k : ℤ) → end ≤ℤ k → entry_fact rest k ≡ entry_fact further k)
    (alone : (k : ℤ) → word ≤ℤ k → k <ℤ end → is_among intervals k ≡ true → is_alone (entry_fact row k) ≡ true) where
  -- words are passed of which nothing is kept
  pub cut-skip : ((k : ℤ) → word ≤ℤ k → k <ℤ end → kept_facts side intervals (entry_fact row) k ≡ Alone Unknown)
      → ((facts : Facts) → is_on_side side false ≡ true
      → list_all (is_whole facts) rest ≡ list_all (is_whole facts) further)
      → ((facts : Facts) → is_on_side side false ≡ true → sum_by (price facts) rest ≡ sum_by (price facts) further)
      → IsCutTo side intervals row further pieces next end
  cut-skip none whole due = record {
    later = λ k l. same_left k l ∙ cut.later k (omega (arith, ints));
    apart = between-further least_word word end pieces ahead cut.apart;
    kept = λ k h. by_lt_z k word (λ low. cut.kept k low)
        (λ high. unknown-behind least_word word k pieces cut.apart high ∙ sym (none k high h));
    same = λ k l. cut.same k (omega (arith, ints)) ∙ same_rest k l;
    alone = λ k h. by_lt_z k word (λ low. cut.alone k low) (λ high. alone k high h);
    whole = λ facts kept.
        cut.whole facts kept ∙ ap (λ (b : Bool). list_all (is_whole facts) pieces && b) (whole facts kept);
    due = λ facts kept. cut.due facts kept ∙ ap (λ (n : ℕ). sum_by (price facts) pieces + n) (due facts kept);
  }

  -- words are passed that are kept, by one piece
  pub cut-keep : (piece : Entry) → piece.word ≡ word → end_of piece ≡ end
      → ((k : ℤ) → word ≤ℤ k → k <ℤ end
      → entry_fact (piece ∷ []) k ≡ kept_facts side intervals (entry_fact row) k)
      → ((facts : Facts) → is_on_side side false ≡ true
      → list_all (is_whole facts) rest ≡ (is_whole facts piece && list_all (is_whole facts) further))
      → ((facts : Facts) → is_on_side side false ≡ true
      → sum_by (price facts) rest ≡ price facts piece + sum_by (price facts) further)
      → IsCutTo side intervals row further (pieces ++ (piece ∷ [])) next end
  cut-keep piece first last kept whole due = record {
    later = λ k l. same_left k l ∙ cut.later k (omega (arith, ints));
    apart = between-more least_word word end pieces piece cut.apart (omega (arith, ints, first))
        (omega (arith, ints, last));
    kept = λ k h. by_lt_z k word
        (λ low. more-before pieces piece k (omega (arith, ints, first)) ∙ cut.kept k low)
        (λ high. more-behind least_word word pieces piece k cut.apart high ∙ kept k high h);
    same = λ k l. cut.same k (omega (arith, ints)) ∙ same_rest k l;
    alone = λ k h. by_lt_z k word (λ low. cut.alone k low) (λ high. alone k high h);
    whole = λ facts is.
        cut.whole facts is
        ∙ (ap (λ (b : Bool). list_all (is_whole facts) pieces && b) (whole facts is)
        ∙ (all-more (is_whole facts) pieces piece (list_all (is_whole facts) further)));
    due = λ facts is.
        let so_far = cut.due facts is in
        let here = due facts is in
        let all = sum_by_push (price facts) pieces piece in
        omega (arith, so_far, here, all);
  } where
    all-more : (test : Entry → Bool) (entries : List Entry) (entry : Entry) (later : Bool)
        → list_all test entries && (test entry && later)
        ≡ list_all test (entries ++ (entry ∷ [])) && later
    all-more test entries entry later =
        sym (and_assoc (list_all test entries) (test entry) later)
        ∙ ap (λ (b : Bool). b && later) (sym (list_all-append test entries (entry ∷ [])
        ∙ ap (λ (b : Bool). list_all test entries && b) (and-true (test entry))))

-- ---- the words of an entry

module _ (side : Side) (entry : Entry) (pieces : List Entry) (left next : List Interval) (word end : ℤ) (b : Bool)
    (alone : loop_of entry.fact ≡ None) (begun : entry.word ≤ℤ word) (ahead : word <ℤ end)
    (within : end ≤ℤ end_of entry) (later_same : (k : ℤ) → word ≤ℤ k → is_among next k ≡ is_among left k)
    (alike : (k : ℤ) → word ≤ℤ k → k <ℤ end → is_among left k ≡ b) where
  said-here : (row later : List Entry) (k : ℤ) → ((k : ℤ) → word ≤ℤ k → entry_fact row k ≡ entry_fact (entry ∷ later) k)
      → word ≤ℤ k → k <ℤ end → entry_fact row k ≡ Alone entry.fact
  said-here row later k same l h =
      same k l ∙ (entry_fact-within k entry later (omega (arith, ints)) (omega (arith, ints))
      ∙ plain-said entry.fact (is_same_number entry.word k) alone)

  test-here : (intervals : List Interval) (k : ℤ) → ((k : ℤ) → word ≤ℤ k → is_among left k ≡ is_among intervals k)
      → word ≤ℤ k → k <ℤ end → is_on_side side (is_among intervals k) ≡ is_on_side side b
  test-here intervals k same l h = ap (is_on_side side) (sym (same k l) ∙ alike k l h)

  -- words that are not kept
  pub run-skipped : is_on_side side b ≡ false → CutsOn side entry pieces pieces left next word end
  run-skipped skips = λ intervals row later cut.
      cut-skip side intervals row (entry ∷ later) (entry ∷ later) pieces left next word end cut
      (omega (arith, ints)) (λ k l. later_same k (omega (arith, ints))) (λ k l. refl)
      (λ k l h _. ap is_alone (said-here row later k cut.same l h))
      (λ k l h. ap (λ (t : Bool). if t then entry_fact row k else Alone Unknown)
      (test-here intervals k cut.later l h ∙ skips))
      (λ facts is. refl) (λ facts is. refl)

  -- words that are kept
  pub run-kept : (piece : Entry) → piece.word ≡ word → end_of piece ≡ end → piece.fact ≡ entry.fact
      → is_on_side side b ≡ true → CutsOn side entry pieces (pieces ++ (piece ∷ [])) left next word end
  run-kept piece first last fact kept = λ intervals row later cut.
      let plain : loop_of piece.fact ≡ None = ap loop_of fact ∙ alone in
      cut-keep side intervals row (entry ∷ later) (entry ∷ later) pieces left next word end cut
      (omega (arith, ints)) (λ k l. later_same k (omega (arith, ints))) (λ k l. refl)
      (λ k l h _. ap is_alone (said-here row later k cut.same l h))
      piece first last
      (λ k l h.
      entry_fact-within k piece [] (omega (arith, ints, first)) (omega (arith, ints, last))
      ∙ (plain-said piece.fact (is_same_number piece.word k) plain ∙ (ap (λ (f : Fact). Alone f) fact
      ∙ (sym (said-here row later k cut.same l h)
      ∙ sym (ap (λ (t : Bool). if t then entry_fact row k else Alone Unknown)
      (test-here intervals k cut.later l h ∙ kept))))))
      (λ facts is. sym (ap (λ (t : Bool). t && list_all (is_whole facts) (entry ∷ later))
      (plain-by facts piece piece.fact refl plain).0))
      (λ facts is.
      let free = (plain-by facts piece piece.fact refl plain).1 in
      omega (arith, free))

-- all words of an entry are passed
pub entry-passed : (side : Side) (entry : Entry) (pieces further : List Entry) (left next : List Interval) (end : ℤ)
    → loop_of entry.fact ≡ None → end ≡ end_of entry → CutsOn side entry pieces further left next entry.word end
    → CutsEntry side entry pieces further left next
entry-passed side entry pieces further left next end alone end_is cuts = λ intervals row later cut.
    let free = λ (facts : Facts). plain-by facts entry entry.fact refl alone in
    subst (IsCutTo side intervals row later further next) end_is
    (cut-skip side intervals row (entry ∷ later) later further next next end end (cuts intervals row later cut)
    (omega (arith, ints)) (λ k l. refl) (λ k l. entry_fact-behind k end entry later (omega (arith, ints, end_is)) l)
    (λ k l h _. absurd (omega (arith, ints)))
    (λ k l h. absurd (omega (arith, ints)))
    (λ facts is. ap (λ (t : Bool). t && list_all (is_whole facts) later) (free facts).0)
    (λ facts is.
    let none = (free facts).1 in
    let all = sum_by-cons (price facts) entry later in
    omega (arith, none, all)))

-- nothing of it is passed yet
pub words-begun : (side : Side) (entry : Entry) (pieces : List Entry) (left : List Interval) (word : ℤ)
    → word ≡ entry.word → CutsOn side entry pieces pieces left left entry.word word
words-begun side entry pieces left word word_is = λ intervals row later cut.
    subst (IsCutTo side intervals row (entry ∷ later) pieces left) (sym word_is) cut

-- ---- an entry of which no interval has a word

module _ (side : Side) (entry : Entry) (pieces : List Entry) (left next : List Interval)
    (later_same : (k : ℤ) → entry.word ≤ℤ k → is_among next k ≡ is_among left k)
    (none : (k : ℤ) → entry.word ≤ℤ k → k <ℤ end_of entry → is_among left k ≡ false) where
  among-none : (intervals : List Interval) (k : ℤ)
      → ((k : ℤ) → entry.word ≤ℤ k → is_among left k ≡ is_among intervals k) → entry.word ≤ℤ k → k <ℤ end_of entry
      → is_among intervals k ≡ false
  among-none intervals k same l h = sym (same k l) ∙ none k l h

  -- it is not kept
  pub loop-skipped : is_on_side side false ≡ false → CutsEntry side entry pieces pieces left next
  loop-skipped skips = λ intervals row later cut.
      cut-skip side intervals row (entry ∷ later) later pieces left next entry.word (end_of entry) cut
      (omega (arith, ints)) (λ k l. later_same k (omega (arith, ints)))
      (λ k l. entry_fact-behind k (end_of entry) entry later (omega (arith, ints)) l)
      (λ k l h is. let clash : true ≡ false = sym is ∙ among-none intervals k cut.later l h in absurd (cc))
      (λ k l h. ap (λ (t : Bool). if is_on_side side t then entry_fact row k else Alone Unknown)
      (among-none intervals k cut.later l h)
      ∙ ap (λ (t : Bool). if t then entry_fact row k else Alone Unknown) skips)
      (λ facts is. let clash : true ≡ false = sym is ∙ skips in absurd (cc))
      (λ facts is. let clash : true ≡ false = sym is ∙ skips in absurd (cc))

  -- it is kept
  pub loop-kept : is_on_side side false ≡ true → CutsEntry side entry pieces (pieces ++ (entry ∷ [])) left next
  loop-kept kept = λ intervals row later cut.
      cut-keep side intervals row (entry ∷ later) later pieces left next entry.word (end_of entry) cut
      (omega (arith, ints)) (λ k l. later_same k (omega (arith, ints)))
      (λ k l. entry_fact-behind k (end_of entry) entry later (omega (arith, ints)) l)
      (λ k l h is. let clash : true ≡ false = sym is ∙ among-none intervals k cut.later l h in absurd (cc))
      entry refl refl
      (λ k l h.
      entry_fact-within k entry [] l h ∙ (sym (entry_fact-within k entry later l h) ∙ (sym (cut.same k l)
      ∙ sym (ap (λ (t : Bool). if is_on_side side t then entry_fact row k else Alone Unknown)
      (among-none intervals k cut.later l h)
      ∙ ap (λ (t : Bool). if t then entry_fact row k else Alone Unknown) kept))))
      (λ facts is. refl) (λ facts is. sum_by-cons (price facts) entry later)

-- ---- all entries

pub cut-begun : (side : Side) (intervals : List Interval) (row : List Entry) → AreApart row
    → IsCutBefore side intervals row row [] intervals
cut-begun side intervals row apart = record {
  word = least_word;
  rises = apart;
  cut = record {
    later = λ k l. refl;
    apart = le-int_le least_word least_word (omega (arith, ints));
    kept = λ k h. sym (kept-none (is_on_side side (is_among intervals k)) (entry_fact row k)
        (unknown-below least_word k row apart h));
    same = λ k l. refl;
    alone = λ k h is. ap is_alone (unknown-below least_word k row apart h);
    whole = λ facts is. refl;
    due = λ facts is. omega arith;
  };
}

-- nothing is said of the words before an entry
before-entry : (side : Side) (intervals : List Interval) (row later pieces : List Entry) (left : List Interval)
    (entry : Entry) (word : ℤ) → rise_from word (entry ∷ later) ≡ true
    → IsCutTo side intervals row (entry ∷ later) pieces left word
    → IsCutTo side intervals row (entry ∷ later) pieces left entry.word
before-entry side intervals row later pieces left entry word rises cut =
    let unsaid = λ (k : ℤ) (l : word ≤ℤ k) (h : k <ℤ entry.word).
    cut.same k l ∙ entry_fact-before word k entry later rises h in
    cut-skip side intervals row (entry ∷ later) (entry ∷ later) pieces left left word entry.word cut
    (rise-parts word entry later rises).0 (λ k l. refl) (λ k l. refl) (λ k l h is. ap is_alone (unsaid k l h))
    (λ k l h. kept-none (is_on_side side (is_among intervals k)) (entry_fact row k) (unsaid k l h)) (λ facts is. refl)
    (λ facts is. refl)

pub cut-next : (side : Side) (intervals : List Interval) (row rest pieces : List Entry) (left : List Interval)
    (entry : Entry) (later further : List Entry) (next : List Interval)
    → IsCutBefore side intervals row rest pieces left → rest ≡ entry ∷ later
    → CutsEntry side entry pieces further left next → IsCutBefore side intervals row later further next
cut-next side intervals row rest pieces left entry later further next before is cuts =
    let rises = subst (λ (es : List Entry). rise_from before.word es ≡ true) is before.rises in
    let cut = subst (λ (es : List Entry). IsCutTo side intervals row es pieces left before.word) is before.cut in
    record {
      word = end_of entry;
      rises = (rise-parts before.word entry later rises).1;
      cut = cuts intervals row later (before-entry side intervals row later pieces left entry before.word rises cut);
    }

pub cut-done : (side : Side) (intervals : List Interval) (row rest pieces : List Entry) (left : List Interval)
    → IsCutBefore side intervals row rest pieces left → rest ≡ [] → AreCut side intervals row pieces
cut-done side intervals row rest pieces left before is =
    let cut = before.cut in
    let unsaid = λ (k : ℤ) (l : before.word ≤ℤ k).
    cut.same k l ∙ ap (λ (es : List Entry). entry_fact es k) is in
    record {
      apart = between-rises least_word before.word pieces cut.apart;
      kept = λ k. by_lt_z k before.word (λ low. cut.kept k low)
          (λ high. unknown-behind least_word before.word k pieces cut.apart high
          ∙ sym (kept-none (is_on_side side (is_among intervals k)) (entry_fact row k) (unsaid k high)));
      alone = λ k among. by_lt_z k before.word (λ low. cut.alone k low among)
          (λ high. ap is_alone (unsaid k high));
      whole = λ facts kept.
          cut.whole facts kept
          ∙ (ap (λ (es : List Entry). list_all (is_whole facts) pieces && list_all (is_whole facts) es) is
          ∙ and-true (list_all (is_whole facts) pieces));
      due = λ facts kept.
          let all = cut.due facts kept in
          let none = ap (sum_by (price facts)) is in
          omega (arith, all, none);
    }

-- ---- what is known of the pieces

kept-said : (side : Side) (intervals : List Interval) (entries pieces : List Entry) (facts : Facts) (k : ℤ)
    → AreCut side intervals entries pieces → entries_hold facts pieces ≡ true
    → is_on_side side (is_among intervals k) ≡ true → says (facts k) (entry_fact entries k) ≡ true
kept-said side intervals entries pieces facts k cut hold kept =
    ap (says (facts k)) (sym (cut.kept k
    ∙ ap (λ (t : Bool). if t then entry_fact entries k else Alone Unknown) kept))
    ∙ entries_hold-says facts pieces hold k

-- what is so where there is something
pub so-where-some : {A P : Type 0} (o : Option A) → is_some o ≡ true → IfSome o (λ _. P) → P
so-where-some None some h = absurd (cc)
so-where-some (Some x) some h = h

pub outside-said : (intervals : List Interval) (entries pieces : List Entry) (facts : Facts)
    → AreCut Outside intervals entries pieces → entries_hold facts pieces ≡ true
    → SaysOutside intervals facts (entry_fact entries)
outside-said intervals entries pieces facts cut hold = λ k no.
    kept-said Outside intervals entries pieces facts k cut hold (ap not no)

pub inside-said : (intervals : List Interval) (entries pieces : List Entry) (facts : Facts)
    → AreCut Inside intervals entries pieces → entries_hold facts pieces ≡ true
    → SaysInside intervals facts (entry_fact entries)
inside-said intervals entries pieces facts cut hold = λ k yes.
    (kept-said Inside intervals entries pieces facts k cut hold yes, cut.alone k yes)

-- ---- parts of a row

entry-either : (first second : List Entry) (k : ℤ) → (entry_fact (first ++ second) k ≡ entry_fact first k)
    ⊎ (entry_fact (first ++ second) k ≡ entry_fact second k)
entry-either [] second k = inr refl
entry-either (entry ∷ first) second k = elim (cases_Bool (is_about entry k)) [
  | inl here ↦ inl (rw here refl)
  | inr past ↦ rw past (entry-either first second k)
]

-- what is paid where all words are tested is paid where some are
pub outside-all : (intervals : List Interval) (facts : Facts) (entries : List Entry) (paid : ℕ)
    → entries_hold facts entries ≡ true → list_all (is_whole facts) entries ≡ true
    → sum_by (price facts) entries ≡ paid → IsPaidOutside intervals facts entries paid
outside-all intervals facts entries paid hold whole due = record {
  says = λ k no. entries_hold-says facts entries hold k;
  whole = whole;
  due = due;
}

-- what is paid for two parts of a row is paid for both
pub outside-both : (intervals : List Interval) (facts : Facts) (first second : List Entry) (paid more : ℕ)
    → IsPaidOutside intervals facts first paid → IsPaidOutside intervals facts second more
    → IsPaidOutside intervals facts (first ++ second) (paid + more)
outside-both intervals facts first second paid more one other = record {
  says = λ k no. elim (entry-either first second k) [
    | inl is ↦ rw is (one.says k no)
    | inr is ↦ rw is (other.says k no)
  ];
  whole = list_all-append (is_whole facts) first second ∙ and_from _ _ one.whole other.whole;
  due = sum_by-append (price facts) first second ∙ (rw (one.due, other.due) refl);
}
