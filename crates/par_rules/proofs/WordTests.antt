-- Tests of the words of an entry, one after the other.
use Rattle.std.proofs.Common.{◌≡◌, ℕ, zero, suc, ◌<◌, ℤ, pos, ◌+ℤ◌, ◌&&◌, Bool, true, false, eqb, List, [], ◌∷◌}
use Rattle.std.proofs.Common.{refl, sym, ap, ◌∙◌, arith, inl, inr}
use std.Path.{fun_ext}
use Rattle.std.proofs.Common.{◌||◌, not, ◌≤◌}
use Rattle.std.proofs.Math.Bool.{or-true}
use Rattle.std.proofs.lemmas.Int.{ints, by_lt_z}
use Rattle.std.specs.List.{list_all}
use Rattle.std.proofs.lemmas.Bool.{cases_lt, cases_Bool, and_parts, and_from}
use Rattle.module_format.specs.Rows.{Entry}
use Rattle.module_format.specs.declared.rows.Interval.{Interval}
use Rattle.module_format.specs.declared.fact.Fact.TheVariants.{Unknown}
use Rattle.module_format.specs.Contents.{Contents, Par, Label}
use Rattle.module_format.specs.Facts.{end_of}
use Rattle.module_format.specs.Order.{least_word}
use Rattle.certificate.specs.Rights.{is_among, may_write_word}
use Rattle.certificate.specs.Starting.{is_written}
use Rattle.states.specs.declared.known.WordFact.{WordFact}
use Rattle.states.specs.declared.known.WordFact.TheVariants.{Alone}
use Rattle.states.specs.State.{Facts, is_alone, said_of, entry_fact}
use Rattle.states.specs.Below.{says, words_say, entries_hold}
use Rattle.states.specs.Cutting.{SaysOutside, SaysInside}
use Rattle.states.specs.Rows.{rise_from, AreApart}
use Rattle.states.proofs.RowFacts.{rise-parts, unknown-below, entry_fact-within}
use Rattle.states.proofs.RowFacts.{entry_fact-behind}
use Rattle.states.proofs.Comparisons.{says-unknown, first-test}
use Rattle.par_rules.specs.Comparisons.{words_pass, label_passes, is_left, is_kept, keeps}

-- what is known is a test as any other
words_pass-says : (facts : Facts) (entry : Entry) (n : ℕ)
    → words_pass (λ k wanted. says (facts k) wanted) entry n ≡ words_say facts entry n
words_pass-says facts entry zero = refl
words_pass-says facts entry (suc n) =
    ap (λ (b : Bool). says (facts (entry.word +ℤ pos n)) (said_of entry.fact (eqb n 0)) && b)
    (words_pass-says facts entry n)

pub all_pass-hold : (facts : Facts) (entries : List Entry)
    → list_all (λ entry. words_pass (λ k wanted. says (facts k) wanted) entry entry.span) entries
    ≡ entries_hold facts entries
all_pass-hold facts [] = refl
all_pass-hold facts (entry ∷ entries) =
    ap (λ (b : Bool). b && list_all (λ e. words_pass (λ k wanted. says (facts k) wanted) e e.span) entries)
    (words_pass-says facts entry entry.span)
    ∙ ap (λ (b : Bool). words_say facts entry entry.span && b) (all_pass-hold facts entries)

-- ---- one word after the other

module _ (test : ℤ → WordFact → Bool) (entry : Entry) where
  words_pass-at : (span n : ℕ) → words_pass test entry span ≡ true → n < span
      → test (entry.word +ℤ pos n) (said_of entry.fact (eqb n 0)) ≡ true
  words_pass-at zero n h l = absurd (omega arith)
  words_pass-at (suc m) n h l =
      let p : (test (entry.word +ℤ pos m) (said_of entry.fact (eqb m 0)) ≡ true)
      × (words_pass test entry m ≡ true) = and_parts _ _ h in
      elim (cases_lt n m) [
        | inl low ↦ words_pass-at m n p.1 low
        | inr high ↦
            let same : n ≡ m = omega arith in
            ap (λ j. test (entry.word +ℤ pos j) (said_of entry.fact (eqb j 0))) same ∙ p.0
      ]

  -- one of the words does not pass
  pub words_pass-fails : (k : ℤ) (span n : ℕ) (wanted : WordFact) → k ≡ entry.word +ℤ pos n → n < span
      → wanted ≡ said_of entry.fact (eqb n 0) → test k wanted ≡ false → words_pass test entry span ≡ false
  words_pass-fails k span n wanted at low wanted_is fails =
      elim (cases_Bool (words_pass test entry span)) [
        | inl e ↦
            let holds : test k wanted ≡ true =
            ap (λ (j : ℤ). test j wanted) at
            ∙ (ap (test (entry.word +ℤ pos n)) wanted_is ∙ words_pass-at span n e low) in
            let clash : true ≡ false = sym holds ∙ fails in
            absurd (cc)
        | inr e ↦ e
      ]

  -- one more of the words
  pub words_pass-more : (k : ℤ) (n m : ℕ) (wanted : WordFact) → k ≡ entry.word +ℤ pos n → m ≡ suc n
      → wanted ≡ said_of entry.fact (eqb n 0) → test k wanted ≡ true → words_pass test entry n ≡ true
      → words_pass test entry m ≡ true
  words_pass-more k n m wanted at m_is wanted_is holds earlier =
      ap (words_pass test entry) m_is
      ∙ and_from _ _
      (ap (test (entry.word +ℤ pos n)) (sym wanted_is) ∙ (ap (λ (j : ℤ). test j wanted) (sym at) ∙ holds)) earlier

-- ---- all words of which a label says something

module _ (test : ℤ → WordFact → Bool) (silent : (k : ℤ) → test k (Alone Unknown) ≡ true) where
  words-pass : (entry : Entry) (later : List Entry) (count : ℕ) → count ≤ entry.span
      → ((k : ℤ) → test k (entry_fact (entry ∷ later) k) ≡ true) → words_pass test entry count ≡ true
  words-pass entry later zero few each = refl
  words-pass entry later (suc more) few each =
      let k = entry.word +ℤ pos more in
      and_from _ _
      (ap (λ (b : Bool). test k (said_of entry.fact b)) (sym (first-test entry.word more))
      ∙ (ap (test k) (sym (entry_fact-within k entry later (omega (arith, ints)) (omega (arith, ints, few)))) ∙ each k))
      (words-pass entry later more (omega arith) each)

  all-pass : (low : ℤ) (entries : List Entry) → rise_from low entries ≡ true
      → ((k : ℤ) → test k (entry_fact entries k) ≡ true)
      → list_all (λ entry. words_pass test entry entry.span) entries ≡ true
  all-pass low [] rises each = refl
  all-pass low (entry ∷ later) rises each =
      let parts = rise-parts low entry later rises in
      and_from _ _ (words-pass entry later entry.span (omega arith) each)
      (all-pass (end_of entry) later parts.1 (λ k. by_lt_z k (end_of entry)
      (λ less. ap (test k) (unknown-below (end_of entry) k later parts.1 less) ∙ silent k)
      (λ more. ap (test k) (sym (entry_fact-behind k (end_of entry) entry later (omega (arith, ints)) more)) ∙ each k)))

  -- a label passes where what it says of each word does
  pub label-passes : (t : Label) → AreApart t.entries → ((k : ℤ) → test k (entry_fact t.entries k) ≡ true)
      → label_passes test t ≡ true
  label-passes t apart each = all-pass least_word t.entries apart each

-- two tests that are the same of each word
pub label-passes-alike : (test other : ℤ → WordFact → Bool) (t : Label)
    → ((k : ℤ) (wanted : WordFact) → test k wanted ≡ other k wanted) → label_passes test t ≡ label_passes other t
label-passes-alike test other t same =
    ap (λ (f : ℤ → WordFact → Bool). label_passes f t) (fun_ext (λ k. fun_ext (λ wanted. same k wanted)))

-- ---- words that branches write

pub written-passes : (par : Par) (facts : Facts) (t : Label) (written : List Interval) → AreApart t.entries
    → ((k : ℤ) → is_among written k ≡ is_written par k) → SaysOutside written facts (entry_fact t.entries)
    → label_passes (is_left par facts) t ≡ true
written-passes par facts t written apart words outside =
    label-passes (is_left par facts)
    (λ k. ap (λ (b : Bool). is_written par k || b) (says-unknown (facts k)) ∙ or-true (is_written par k)) t apart
    (λ k. elim (cases_Bool (is_written par k)) [
      | inl e ↦ ap (λ (b : Bool). b || says (facts k) (entry_fact t.entries k)) e
      | inr e ↦ ap (λ (b : Bool). is_written par k || b) (outside k (words k ∙ e)) ∙ or-true (is_written par k)
    ])

-- ---- words that a context writes

pub kept-passes : (m : Contents) (context : ℕ) (facts : Facts) (t : Label) (written : List Interval)
    → AreApart t.entries → ((k : ℤ) → is_among written k ≡ false → may_write_word m context k ≡ false)
    → SaysInside written facts (entry_fact t.entries) → label_passes (is_kept m context facts) t ≡ true
kept-passes m context facts t written apart others inside =
    label-passes (is_kept m context facts)
    (λ k. ap (λ (b : Bool). not (may_write_word m context k) || (b && true)) (says-unknown (facts k))
    ∙ or-true (not (may_write_word m context k))) t apart
    (λ k. elim (cases_Bool (is_among written k)) [
      | inl e ↦
          let here = inside k e in
          ap (λ (b : Bool). not (may_write_word m context k)
          || (b && (is_alone (entry_fact t.entries k) || not (is_alone (facts k))))) here.0
          ∙ (ap (λ (b : Bool). not (may_write_word m context k) || (true && (b || not (is_alone (facts k))))) here.1
          ∙ or-true (not (may_write_word m context k)))
      | inr e ↦ ap (λ (b : Bool). not b || keeps (facts k) (entry_fact t.entries k)) (others k e)
    ])

pub ruleset entries_hold_by_words = (all_pass-hold)
