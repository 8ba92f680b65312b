-- Where what is known says what the label after a PAR does of the words that no branch writes, it would say all of it,
-- if the branches left their words as the label has them.
use Rattle.std.proofs.Common.{◌≡◌, ◌⊎◌, ℕ, zero, suc, ◌-◌, ◌*◌, ◌≤◌, ◌&&◌, ◌||◌, Bool, true, false}
use Rattle.std.proofs.Common.{inl, inr, ℤ}
use Rattle.std.proofs.Common.{pos, ◌+ℤ◌, ◌≤ℤ◌, neg_ℤ, List, [], ◌∷◌, refl, sym, ap, ◌∙◌, arith, eqb}
use Rattle.std.proofs.Common.{if◌then◌else◌}
use Rattle.std.proofs.lemmas.Int.{ints}
use Rattle.std.specs.Prelude.{int_le, sum_by}
use Rattle.std.specs.List.{list_any, list_all}
use Rattle.std.proofs.lemmas.List.Sums.{sum_by-cons}
use Rattle.std.proofs.lemmas.Bool.{and_from, and_parts, false_from_ne_true, or_parts, cases_Bool}
use Rattle.small_laws.proofs.Comparisons.{eqb-self, le-int_le}
use Rattle.module_format.specs.Rows.{Fact, Entry}
use Rattle.module_format.specs.declared.fact.Fact.TheVariants.{Unknown, Number, Pointer, CodeAddress, Loop}
use Rattle.module_format.specs.declared.fact.Fact.TheVariants.{ReturnAddress}
use Rattle.module_format.specs.declared.fact.Region.{Region}
use Rattle.module_format.specs.declared.fact.Region.TheVariants as regions
use Rattle.module_format.specs.declared.fact.Step.{Step}
use Rattle.module_format.specs.declared.fact.Step.TheVariants.{Byte, Word}
use Rattle.module_format.specs.Facts.{end_of}
use Rattle.module_format.specs.Contents.{Par}
use Rattle.module_format.specs.Regions.{is_same_region}
use Rattle.certificate.specs.Starting.{is_written, is_loop, is_written_loop}
use Rattle.states.specs.declared.known.WordFact.{WordFact}
use Rattle.states.specs.declared.known.WordFact.TheVariants.{Alone, Index, Count}
use Rattle.states.specs.State.{Facts, is_about, is_alone, said_of, entry_fact}
use Rattle.states.specs.Below.{implies, step_implies, says, words_say, entries_hold, are_alike, is_whole, price}
use Rattle.states.specs.Below.{holds_constant}
use Rattle.states.specs.Rows.{rise_from}
use Rattle.states.proofs.RowFacts.{rise-parts, about-within, about-behind}
use Rattle.rulings.specs.Meaning.{ArePairs, loop_due, dues_from, dues, farthest_word}
use Rattle.rulings.proofs.Entering.{first_word, entry_here, entry_later}
use Rattle.par_rules.specs.Comparisons.{words_pass, is_left}
use Rattle.share_laws.proofs.HiddenWords.{is_itself}
use Rattle.start_laws.proofs.AfterPars.{written_alone}

-- ---- what is said says itself

step_itself : (step : Step) → step_implies step step ≡ true
step_itself Byte = refl
step_itself Word = refl

region_itself : (region : Region) → is_same_region region region ≡ true
region_itself regions.Frame = refl
region_itself regions.Constants = refl
region_itself (regions.Parameter j) = eqb-self j

range_itself : (lo hi : ℤ) → (int_le lo lo && int_le hi hi) ≡ true
range_itself lo hi =
    and_from _ _ (le-int_le lo lo (omega (arith, ints))) (le-int_le hi hi (omega (arith, ints)))

implies_itself : (fact : Fact) → (is_loop fact ≡ true → ⊥) → implies fact fact ≡ true
implies_itself Unknown other = refl
implies_itself (Number lo hi) other = range_itself lo hi
implies_itself (Pointer region lo hi step) other =
    and_from _ _ (and_from _ _ (region_itself region) (range_itself lo hi)) (step_itself step)
implies_itself (CodeAddress offset) other = eqb-self offset
implies_itself (Loop base count weight) other = absurd (other refl)
implies_itself ReturnAddress other = refl

said_itself : (fact : Fact) (first : Bool) → says (said_of fact first) (said_of fact first) ≡ true
said_itself Unknown first = refl
said_itself (Number lo hi) first = range_itself lo hi
said_itself (Pointer region lo hi step) first = implies_itself (Pointer region lo hi step) (λ e. cc)
said_itself (CodeAddress offset) first = eqb-self offset
said_itself (Loop base count weight) true =
    and_from _ _ (and_from _ _ (is_itself base) (eqb-self count)) (eqb-self weight)
said_itself (Loop base count weight) false =
    and_from _ _ (and_from _ _ (is_itself base) (eqb-self count)) (eqb-self weight)
said_itself ReturnAddress first = refl

-- ---- loops, by the facts of their words

-- a loop is asked of two words, and nothing of another fact
abbrev whole_by : Fact → WordFact → WordFact → Bool
whole_by fact first second = elim fact [
  | Loop base count weight ↦ are_alike (is_alone first) (is_alone second)
  | _ ↦ true
]

abbrev price_by : Fact → WordFact → WordFact → ℕ
price_by fact first second = elim fact [
  | Loop base count weight ↦
      if holds_constant first base && holds_constant second (pos count) then weight * (count - 1) else 0
  | _ ↦ 0
]

same_by : (fact : Fact) (a b c d : WordFact) → (is_loop fact ≡ true → (a ≡ c) × (b ≡ d))
    → (whole_by fact a b ≡ whole_by fact c d) × (price_by fact a b ≡ price_by fact c d)
same_by (Loop base count weight) a b c d same =
    let e = same refl in (
      ap (λ (f : WordFact). whole_by (Loop base count weight) f b) e.0
          ∙ ap (λ (f : WordFact). whole_by (Loop base count weight) c f) e.1,
      ap (λ (f : WordFact). price_by (Loop base count weight) f b) e.0
          ∙ ap (λ (f : WordFact). price_by (Loop base count weight) c f) e.1,
    )
same_by Unknown a b c d same = (refl, refl)
same_by (Number lo hi) a b c d same = (refl, refl)
same_by (Pointer region lo hi step) a b c d same = (refl, refl)
same_by (CodeAddress offset) a b c d same = (refl, refl)
same_by ReturnAddress a b c d same = (refl, refl)

-- a word that is in no loop has nothing to pay
alone_due : (fact : WordFact) (turns : ℕ) → is_alone fact ≡ true → loop_due fact turns ≡ 0
alone_due (Alone fact) turns h = refl
alone_due (Index loop) turns h = absurd (cc)
alone_due (Count loop) turns h = absurd (cc)

-- ---- facts in which branches have left their words so

module _ (par : Par) (facts : Facts) where
  -- what is known of words that no branch writes, and of the others what the entries say
  abbrev pub facts_after : List Entry → Facts
  facts_after entries k = if is_written par k then entry_fact entries k else facts k

  -- other facts are these from a word on
  record AreThese (given : Facts) (entries : List Entry) (low : ℤ) : Type 0 where
    written : (k : ℤ) → low ≤ℤ k → is_written par k ≡ true → given k ≡ entry_fact entries k
    others : (k : ℤ) → is_written par k ≡ false → given k ≡ facts k

  pub of_written : (entries : List Entry) (k : ℤ) → is_written par k ≡ true
      → facts_after entries k ≡ entry_fact entries k
  of_written entries k e = ap (λ (b : Bool). if b then entry_fact entries k else facts k) e

  pub of_others : (entries : List Entry) (k : ℤ) → is_written par k ≡ false → facts_after entries k ≡ facts k
  of_others entries k e = ap (λ (b : Bool). if b then entry_fact entries k else facts k) e

  -- words of an entry
  words_hold : (given : Facts) (entry : Entry) (entries : List Entry) (span : ℕ)
      → AreThese given (entry ∷ entries) entry.word → span ≤ entry.span
      → words_pass (is_left par facts) entry span ≡ true → words_say given entry span ≡ true
  words_hold given entry entries zero these low t = refl
  words_hold given entry entries (suc more) these low t =
      let both = and_parts (is_left par facts (entry.word +ℤ pos more) (said_of entry.fact (eqb more 0))) _ t in
      and_from _ _ (on both.0 (cases_Bool (is_written par (entry.word +ℤ pos more))))
      (words_hold given entry entries more these (omega (arith, low)) both.1)
    where
      about : is_about entry (entry.word +ℤ pos more) ≡ true
      about = about-within entry (entry.word +ℤ pos more) (omega (arith, ints)) (omega (arith, ints, low))

      on : is_left par facts (entry.word +ℤ pos more) (said_of entry.fact (eqb more 0)) ≡ true
          → (is_written par (entry.word +ℤ pos more) ≡ true) ⊎ (is_written par (entry.word +ℤ pos more) ≡ false)
          → says (given (entry.word +ℤ pos more)) (said_of entry.fact (eqb more 0)) ≡ true
      on left (inl writes) =
          ap (λ (f : WordFact). says f (said_of entry.fact (eqb more 0)))
          (these.written (entry.word +ℤ pos more) (omega (arith, ints)) writes
          ∙ (entry_here entry entries (entry.word +ℤ pos more) about
          ∙ ap (said_of entry.fact) (sym (first_word entry.word (entry.word +ℤ pos more) more refl))))
          ∙ said_itself entry.fact (eqb more 0)
      on left (inr beside) =
          ap (λ (f : WordFact). says f (said_of entry.fact (eqb more 0)))
          (these.others (entry.word +ℤ pos more) beside)
          ∙ (ap (λ (b : Bool). b || says (facts (entry.word +ℤ pos more)) (said_of entry.fact (eqb more 0)))
          (sym beside) ∙ left)

  entries_pass : (given : Facts) (low : ℤ) (entries : List Entry) → rise_from low entries ≡ true
      → AreThese given entries low
      → list_all (λ entry. words_pass (is_left par facts) entry entry.span) entries ≡ true
      → entries_hold given entries ≡ true
  entries_pass given low [] rise these t = refl
  entries_pass given low (entry ∷ entries) rise these t =
      let parts = rise-parts low entry entries rise in
      let from : low ≤ℤ entry.word = parts.0 in
      let both = and_parts (words_pass (is_left par facts) entry entry.span) _ t in
      and_from _ _ (words_hold given entry entries entry.span (record {
        written = λ k above. these.written k (omega (arith, ints, from, above));
        others = these.others;
      }) (let same : entry.span ≤ entry.span = omega arith in same) both.0)
      (entries_pass given (end_of entry) entries parts.1 (record {
        written = λ k behind writes.
            these.written k (let e = behind in omega (arith, ints, from, e)) writes
            ∙ entry_later entry entries k (about-behind entry k behind);
        others = these.others;
      }) both.1)

  -- then all that the label says holds
  pub holds_after : (low : ℤ) (entries : List Entry) → rise_from low entries ≡ true
      → list_all (λ entry. words_pass (is_left par facts) entry entry.span) entries ≡ true
      → entries_hold (facts_after entries) entries ≡ true
  holds_after low entries rise t = entries_pass (facts_after entries) low entries rise (record {
    written = λ k above writes. of_written entries k writes;
    others = of_others entries;
  }) t

  -- ---- loops

  -- the words of a loop are as they were
  record LoopStays (given : Facts) (entry : Entry) : Type 0 where
    first : given entry.word ≡ facts entry.word
    second : given (entry.word +ℤ pos 1) ≡ facts (entry.word +ℤ pos 1)

  loop_stays : (given : Facts) (entry : Entry) → ((k : ℤ) → is_written par k ≡ false → given k ≡ facts k)
      → is_written_loop par entry ≡ false → is_loop entry.fact ≡ true → LoopStays given entry
  loop_stays given entry others none loop =
      let quiet : (is_written par entry.word || is_written par (entry.word +ℤ pos 1)) ≡ false =
      false_from_ne_true _ (λ meets.
      let loud : is_written_loop par entry ≡ true = and_from _ _ loop meets in
      let no' : false ≡ true = sym none ∙ loud in cc) in
      let both = or_parts (is_written par entry.word) (is_written par (entry.word +ℤ pos 1)) quiet in
      record { first = others entry.word both.0; second = others (entry.word +ℤ pos 1) both.1 }

  -- what is asked of a loop, and what it costs, are the same
  entry_same : (given : Facts) (entry : Entry) → ((k : ℤ) → is_written par k ≡ false → given k ≡ facts k)
      → is_written_loop par entry ≡ false
      → (is_whole given entry ≡ is_whole facts entry) × (price given entry ≡ price facts entry)
  entry_same given entry others none =
      same_by entry.fact (given entry.word) (given (entry.word +ℤ pos 1)) (facts entry.word)
      (facts (entry.word +ℤ pos 1)) (λ loop. let stays = loop_stays given entry others none loop in
      (stays.first, stays.second))

  pub whole_after : (given : Facts) (entries : List Entry)
      → ((k : ℤ) → is_written par k ≡ false → given k ≡ facts k)
      → list_any (is_written_loop par) entries ≡ false → list_all (is_whole facts) entries ≡ true
      → list_all (is_whole given) entries ≡ true
  whole_after given [] others none whole = refl
  whole_after given (entry ∷ entries) others none whole =
      let quiet = or_parts (is_written_loop par entry) (list_any (is_written_loop par) entries) none in
      let both = and_parts (is_whole facts entry) (list_all (is_whole facts) entries) whole in
      and_from _ _ ((entry_same given entry others quiet.0).0 ∙ both.0)
      (whole_after given entries others quiet.1 both.1)

  pub price_after : (given : Facts) (entries : List Entry)
      → ((k : ℤ) → is_written par k ≡ false → given k ≡ facts k)
      → list_any (is_written_loop par) entries ≡ false
      → sum_by (price given) entries ≡ sum_by (price facts) entries
  price_after given [] others none = refl
  price_after given (entry ∷ entries) others none =
      let quiet = or_parts (is_written_loop par entry) (list_any (is_written_loop par) entries) none in
      let here = (entry_same given entry others quiet.0).1 in
      let rest = price_after given entries others quiet.1 in
      let one = sum_by-cons (price given) entry entries in
      let other = sum_by-cons (price facts) entry entries in
      omega (arith, here, rest, one, other)

  -- nothing more is due
  module _ (entries : List Entry) (pairs : ArePairs entries)
      (none : list_any (is_written_loop par) entries ≡ false) (turns : ℤ → ℕ) where
    due_here : (k : ℤ) → loop_due (facts_after entries k) (turns k) ≤ loop_due (facts k) (turns k)
    due_here k = elim (cases_Bool (is_written par k)) [
      | inl writes ↦
          let nothing : loop_due (facts_after entries k) (turns k) ≡ 0 =
          ap (λ (f : WordFact). loop_due f (turns k)) (of_written entries k writes)
          ∙ alone_due (entry_fact entries k) (turns k) (written_alone par entries k pairs none writes) in
          omega (arith, nothing)
      | inr beside ↦
          let same : loop_due (facts_after entries k) (turns k) ≡ loop_due (facts k) (turns k) =
          ap (λ (f : WordFact). loop_due f (turns k)) (of_others entries k beside) in
          omega (arith, same)
    ]

    due_from : (word : ℤ) (more : ℕ) → dues_from (facts_after entries) turns word more ≤ dues_from facts turns word more
    due_from word zero = omega arith
    due_from word (suc more) =
        let here = due_here word in
        let rest = due_from (word +ℤ pos 1) more in
        omega (arith, here, rest)

    pub dues_after : dues (facts_after entries) turns ≤ dues facts turns
    unfolding dues
    dues_after = due_from (neg_ℤ (pos farthest_word)) (2 * farthest_word)
