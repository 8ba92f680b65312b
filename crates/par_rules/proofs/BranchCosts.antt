-- What a state knows of the words of a branch's label, and what the branch knows of them at its first byte.
use Rattle.std.proofs.Common.{◌≡◌, ℕ, zero, suc, ◌+◌, ◌-◌, ◌*◌, ◌<◌, ℤ, pos, ◌+ℤ◌, Bool, true, false, ◌&&◌}
use Rattle.std.proofs.Common.{◌||◌, if◌then◌else◌, eqb, List, [], ◌∷◌, refl, sym, ap, ◌∙◌, arith}
use Rattle.std.proofs.Common.{inl, inr}
use Rattle.std.proofs.Math.Bool.{or-true, or-false}
use Rattle.std.specs.Prelude.{sum_by}
use Rattle.std.specs.List.{list_all}
use Rattle.std.proofs.lemmas.Bool.{cases_eq, and_parts, and_from}
use Rattle.std.proofs.lemmas.Bool.Decides.{nat_tests}
use Rattle.std.proofs.lemmas.Int.{ints, by_lt_z}
use Rattle.std.proofs.lemmas.List.Sums.{sum_by-cons}
use Rattle.module_format.specs.Rows.{Fact, Entry}
use Rattle.module_format.specs.declared.fact.Fact.TheVariants.{Unknown, Number, Pointer, CodeAddress, Loop}
use Rattle.module_format.specs.declared.fact.Fact.TheVariants.{ReturnAddress}
use Rattle.module_format.specs.Facts.{end_of}
use Rattle.module_format.specs.Order.{least_word}
use Rattle.module_format.specs.Contents.{Contents, Branch, Label}
use Rattle.certificate.specs.Starting.{is_read_beside_scheduling, is_unknown, entry_is_seen}
use Rattle.certificate.specs.Words.{all_words}
use Rattle.states.specs.declared.known.WordFact.{WordFact}
use Rattle.states.specs.declared.known.WordFact.TheVariants.{Alone, Index, Count}
use Rattle.states.specs.State.{State, Facts, by_itself, handed_out, plain, is_alone, said_of, entry_fact}
use Rattle.states.specs.Below.{implies, is_exactly, says, words_say, entries_hold, is_whole, holds_constant}
use Rattle.states.specs.Below.{price}
use Rattle.states.specs.Rows.{rise_from, AreApart}
use Rattle.states.specs.Cutting.{AreLoopsApart}
use Rattle.states.proofs.RowFacts.{rise-parts, unknown-below, entry_fact-within, entry_fact-behind}
use Rattle.states.proofs.Comparisons.{implies-unknown, says-unknown, first-test}
use Rattle.par_rules.specs.Comparisons.{branch_facts, branch_view}
use Rattle.par_rules.specs.Costs.{is_readable, IsCostOf}

-- ---- what reading shows of a word

-- what an instruction learns says what the fact says, of all but a return address
handed-implies : (fact wanted : Fact) → (wanted ≡ ReturnAddress → ⊥) → implies fact wanted ≡ true
    → implies (handed_out fact) wanted ≡ true
handed-implies fact Unknown other h = implies-unknown (handed_out fact)
handed-implies (Number lo hi) (Number low high) other h = h
handed-implies (Pointer region lo hi step) (Pointer region' low high stride) other h = h
handed-implies (CodeAddress offset) (CodeAddress offset') other h = h
handed-implies ReturnAddress ReturnAddress other h = absurd (other refl)
handed-implies fact wanted other h = absurd (cc)

handed-constant : (fact : Fact) (number : ℤ) → is_exactly (handed_out fact) number ≡ is_exactly fact number
handed-constant Unknown number = refl
handed-constant (Number lo hi) number = refl
handed-constant (Pointer region lo hi step) number = refl
handed-constant (CodeAddress offset) number = refl
handed-constant (Loop base count weight) number = refl
handed-constant ReturnAddress number = refl

-- a word of no loop has a number, if what reading shows of it is that number
plain-constant : (said : WordFact) (number : ℤ) → is_alone said ≡ true
    → holds_constant (Alone (plain said)) number ≡ holds_constant said number
plain-constant (Alone fact) number alone = handed-constant fact number
plain-constant (Index loop) number alone = absurd (cc)
plain-constant (Count loop) number alone = absurd (cc)

-- what a word says of a loop by itself, reading shows too
plain-index : (said : WordFact) (base : ℤ) (count weight : ℕ) → is_alone said ≡ true
    → says said (said_of (Loop base count weight) true) ≡ true
    → says (Alone (plain said)) (said_of (Loop base count weight) true) ≡ true
plain-index (Alone fact) base count weight alone h = handed-constant fact base ∙ h
plain-index (Index loop) base count weight alone h = absurd (cc)
plain-index (Count loop) base count weight alone h = absurd (cc)

plain-count : (said : WordFact) (base : ℤ) (count weight : ℕ) → is_alone said ≡ true
    → says said (said_of (Loop base count weight) false) ≡ true
    → says (Alone (plain said)) (said_of (Loop base count weight) false) ≡ true
plain-count (Alone fact) base count weight alone h = handed-constant fact (pos count) ∙ h
plain-count (Index loop) base count weight alone h = absurd (cc)
plain-count (Count loop) base count weight alone h = absurd (cc)

-- reading shows of a word what an entry wants of it, if the word says so, and both are of no loop together
plain-says : (said : WordFact) (wanted : Fact) (is_first : Bool) → (wanted ≡ ReturnAddress → ⊥)
    → is_alone said || is_alone (said_of wanted is_first) ≡ true → says said (said_of wanted is_first) ≡ true
    → says (Alone (plain said)) (said_of wanted is_first) ≡ true
plain-says said Unknown is_first other apart h = says-unknown (Alone (plain said))
plain-says said (Number lo hi) is_first other apart h = handed-implies (by_itself said) (Number lo hi) other h
plain-says said (Pointer region lo hi step) is_first other apart h =
    handed-implies (by_itself said) (Pointer region lo hi step) other h
plain-says said (CodeAddress offset) is_first other apart h =
    handed-implies (by_itself said) (CodeAddress offset) other h
plain-says said (Loop base count weight) true other apart h =
    plain-index said base count weight (sym (or-false (is_alone said)) ∙ apart) h
plain-says said (Loop base count weight) false other apart h =
    plain-count said base count weight (sym (or-false (is_alone said)) ∙ apart) h
plain-says said ReturnAddress is_first other apart h = absurd (other refl)

-- ---- an entry of the label

module _ (m : Contents) (n : ℕ) (workspace : ℤ) (facts : Facts) where
  abbrev view : Facts
  view = branch_facts m n workspace facts

  view-seen : (k : ℤ) → is_read_beside_scheduling m n workspace k ≡ true → view k ≡ Alone (plain (facts k))
  view-seen k seen = ap (λ (b : Bool). if b then Alone (plain (facts k)) else Alone Unknown) seen

  view-alone : (k : ℤ) → is_alone (view k) ≡ true
  view-alone k = either (is_read_beside_scheduling m n workspace k) where
    either : (b : Bool) → is_alone (if b then Alone (plain (facts k)) else Alone Unknown) ≡ true
    either true = refl
    either false = refl

  -- words of an entry
  words-view : (entry : Entry) (count : ℕ) → (entry.fact ≡ ReturnAddress → ⊥)
      → all_words (is_read_beside_scheduling m n workspace) entry.word count ≡ true
      → ((i : ℕ) → i < count
      → is_alone (facts (entry.word +ℤ pos i)) || is_alone (said_of entry.fact (eqb i 0)) ≡ true)
      → words_say facts entry count ≡ true → words_say view entry count ≡ true
  words-view entry zero other seen apart h = refl
  words-view entry (suc more) other seen apart h =
      let here : (is_read_beside_scheduling m n workspace (entry.word +ℤ pos more) ≡ true)
      × (all_words (is_read_beside_scheduling m n workspace) entry.word more ≡ true) = and_parts _ _ seen in
      let said : (says (facts (entry.word +ℤ pos more)) (said_of entry.fact (eqb more 0)) ≡ true)
      × (words_say facts entry more ≡ true) = and_parts _ _ h in
      and_from _ _
      (ap (λ (f : WordFact). says f (said_of entry.fact (eqb more 0))) (view-seen (entry.word +ℤ pos more) here.0)
      ∙ plain-says (facts (entry.word +ℤ pos more)) entry.fact (eqb more 0) other (apart more (omega arith)) said.0)
      (words-view entry more other here.1 (λ i low. apart i (omega arith)) said.1)

  -- of an entry that says nothing all words hold
  words-unknown : (entry : Entry) (count : ℕ) → entry.fact ≡ Unknown → words_say view entry count ≡ true
  words-unknown entry zero is = refl
  words-unknown entry (suc more) is =
      and_from _ _
      (ap (λ (f : Fact). says (view (entry.word +ℤ pos more)) (said_of f (eqb more 0))) is
      ∙ says-unknown (view (entry.word +ℤ pos more)))
      (words-unknown entry more is)

  -- what is asked of an entry
  record Agrees (entry : Entry) : Type 0 where
    words : words_say view entry entry.span ≡ true
    whole : is_whole view entry ≡ true
    due : price view entry ≡ price facts entry

  -- the words of an entry are not of a loop by what is known and by the entry
  abbrev pub IsApart : Entry → Type 0
  IsApart entry = (i : ℕ) → i < entry.span
      → is_alone (facts (entry.word +ℤ pos i)) || is_alone (said_of entry.fact (eqb i 0)) ≡ true

  plain-agrees : (entry : Entry) → (entry.fact ≡ ReturnAddress → ⊥)
      → all_words (is_read_beside_scheduling m n workspace) entry.word entry.span ≡ true → IsApart entry
      → words_say facts entry entry.span ≡ true → is_whole view entry ≡ true
      → price view entry ≡ price facts entry → Agrees entry
  plain-agrees entry other seen apart h whole due =
      record { words = words-view entry entry.span other seen apart h; whole = whole; due = due }

  -- both words of a loop are alone
  loop-whole : (entry : Entry) (base : ℤ) (count weight : ℕ) → entry.fact ≡ Loop base count weight
      → is_whole view entry ≡ true
  loop-whole entry base count weight is =
      rw (is, view-alone entry.word, view-alone (entry.word +ℤ pos 1)) refl

  seen-at : (first : ℤ) (count i : ℕ) → all_words (is_read_beside_scheduling m n workspace) first count ≡ true
      → i < count
      → is_read_beside_scheduling m n workspace (first +ℤ pos i) ≡ true
  seen-at first zero i seen low = absurd (omega arith)
  seen-at first (suc more) i seen low =
      let both : (is_read_beside_scheduling m n workspace (first +ℤ pos more) ≡ true)
      × (all_words (is_read_beside_scheduling m n workspace) first more ≡ true) = and_parts _ _ seen in
      elim (cases_eq i more) [
        | inl e ↦ ap (λ (j : ℕ). is_read_beside_scheduling m n workspace (first +ℤ pos j)) e ∙ both.0
        | inr e ↦ seen-at first more i both.1 (omega arith)
      ]

  loop-due : (entry : Entry) (base : ℤ) (count weight : ℕ) → entry.fact ≡ Loop base count weight → entry.span ≡ 2
      → all_words (is_read_beside_scheduling m n workspace) entry.word entry.span ≡ true → IsApart entry
      → price view entry ≡ price facts entry
  loop-due entry base count weight is span seen apart =
      let at_zero : entry.word +ℤ pos 0 ≡ entry.word = omega (arith, ints) in
      let first_alone : is_alone (facts entry.word) ≡ true =
      ap (λ (k : ℤ). is_alone (facts k)) (sym at_zero)
      ∙ (sym (or-false (is_alone (facts (entry.word +ℤ pos 0))))
      ∙ (ap (λ (f : Fact). is_alone (facts (entry.word +ℤ pos 0)) || is_alone (said_of f true)) (sym is)
      ∙ apart 0 (omega (arith, span)))) in
      let second_alone : is_alone (facts (entry.word +ℤ pos 1)) ≡ true =
      sym (or-false (is_alone (facts (entry.word +ℤ pos 1))))
      ∙ (ap (λ (f : Fact). is_alone (facts (entry.word +ℤ pos 1)) || is_alone (said_of f false)) (sym is)
      ∙ apart 1 (omega (arith, span))) in
      let first : holds_constant (view entry.word) base ≡ holds_constant (facts entry.word) base =
      ap (λ (f : WordFact). holds_constant f base)
      (view-seen entry.word (ap (is_read_beside_scheduling m n workspace) (sym at_zero)
      ∙ seen-at entry.word entry.span 0 seen (omega (arith, span))))
      ∙ plain-constant (facts entry.word) base first_alone in
      let second : holds_constant (view (entry.word +ℤ pos 1)) (pos count)
      ≡ holds_constant (facts (entry.word +ℤ pos 1)) (pos count) =
      ap (λ (f : WordFact). holds_constant f (pos count))
      (view-seen (entry.word +ℤ pos 1) (seen-at entry.word entry.span 1 seen (omega (arith, span))))
      ∙ plain-constant (facts (entry.word +ℤ pos 1)) (pos count) second_alone in
      rw is
      (ap (λ (b : Bool). if b && holds_constant (view (entry.word +ℤ pos 1)) (pos count)
      then weight * (count - 1) else 0)
      first
      ∙ ap (λ (b : Bool). if holds_constant (facts entry.word) base && b then weight * (count - 1) else 0) second)

  entry-agrees-by : (entry : Entry) (fact : Fact) → entry.fact ≡ fact
      → is_unknown entry.fact || all_words (is_read_beside_scheduling m n workspace) entry.word entry.span ≡ true
      → is_readable entry ≡ true → IsApart entry → words_say facts entry entry.span ≡ true → Agrees entry
  entry-agrees-by entry Unknown is seen readable apart h = record {
    words = words-unknown entry entry.span is;
    whole = rw is refl;
    due = rw is refl;
  }
  entry-agrees-by entry (Number lo hi) is seen readable apart h =
      plain-agrees entry (λ e. let clash : Number lo hi ≡ ReturnAddress = sym is ∙ e in cc) (rw is at seen) apart h
      (rw is refl) (rw is refl)
  entry-agrees-by entry (Pointer region lo hi step) is seen readable apart h =
      plain-agrees entry (λ e. let clash : Pointer region lo hi step ≡ ReturnAddress = sym is ∙ e in cc) (rw is at seen)
      apart h (rw is refl) (rw is refl)
  entry-agrees-by entry (CodeAddress offset) is seen readable apart h =
      plain-agrees entry (λ e. let clash : CodeAddress offset ≡ ReturnAddress = sym is ∙ e in cc) (rw is at seen)
      apart h (rw is refl) (rw is refl)
  entry-agrees-by entry (Loop base count weight) is seen readable apart h =
      let all : all_words (is_read_beside_scheduling m n workspace) entry.word entry.span ≡ true = rw is at seen in
      let two : eqb entry.span 2 ≡ true = rw is at readable in
      let span : entry.span ≡ 2 = grind (arith, nat_tests) in
      plain-agrees entry (λ e. let clash : Loop base count weight ≡ ReturnAddress = sym is ∙ e in cc) all apart h
      (loop-whole entry base count weight is) (loop-due entry base count weight is span all apart)
  entry-agrees-by entry ReturnAddress is seen readable apart h =
      let clash : false ≡ true = rw is at readable in absurd (cc)

  -- ---- all entries

  record AllAgree (entries : List Entry) : Type 0 where
    hold : entries_hold view entries ≡ true
    whole : list_all (is_whole view) entries ≡ true
    due : sum_by (price view) entries ≡ sum_by (price facts) entries

  apart-later : (entry : Entry) (later : List Entry) → rise_from (end_of entry) later ≡ true
      → AreLoopsApart facts (entry_fact (entry ∷ later)) → AreLoopsApart facts (entry_fact later)
  apart-later entry later rises apart = λ k. by_lt_z k (end_of entry)
      (λ less. ap (λ (f : WordFact). is_alone (facts k) || is_alone f) (unknown-below (end_of entry) k later rises less)
      ∙ or-true (is_alone (facts k)))
      (λ more. ap (λ (f : WordFact). is_alone (facts k) || is_alone f)
      (sym (entry_fact-behind k (end_of entry) entry later (omega (arith, ints)) more)) ∙ apart k)

  apart-here : (entry : Entry) (later : List Entry) → AreLoopsApart facts (entry_fact (entry ∷ later)) → IsApart entry
  apart-here entry later apart = λ i low.
      let k = entry.word +ℤ pos i in
      ap (λ (b : Bool). is_alone (facts k) || is_alone (said_of entry.fact b)) (sym (first-test entry.word i))
      ∙ (ap (λ (f : WordFact). is_alone (facts k) || is_alone f)
      (sym (entry_fact-within k entry later (omega (arith, ints)) (omega (arith, ints, low)))) ∙ apart k)

  all-agree : (low : ℤ) (entries : List Entry) → rise_from low entries ≡ true
      → list_all (entry_is_seen m n workspace) entries ≡ true → list_all is_readable entries ≡ true
      → AreLoopsApart facts (entry_fact entries) → entries_hold facts entries ≡ true → AllAgree entries
  all-agree low [] rises seen readable apart h = record { hold = refl; whole = refl; due = refl }
  all-agree low (entry ∷ later) rises seen readable apart h =
      let parts = rise-parts low entry later rises in
      let see : (entry_is_seen m n workspace entry ≡ true)
      × (list_all (entry_is_seen m n workspace) later ≡ true) = and_parts _ _ seen in
      let read : (is_readable entry ≡ true) × (list_all is_readable later ≡ true) = and_parts _ _ readable in
      let hold : (words_say facts entry entry.span ≡ true) × (entries_hold facts later ≡ true) = and_parts _ _ h in
      let here = entry-agrees-by entry entry.fact refl see.0 read.0 (apart-here entry later apart) hold.0 in
      let rest = all-agree (end_of entry) later parts.1 see.1 read.1 (apart-later entry later parts.1 apart) hold.1 in
      record {
        hold = and_from _ _ here.words rest.hold;
        whole = and_from _ _ here.whole rest.whole;
        due = sum_by-cons (price view) entry later
            ∙ (ap (λ (x : ℕ). x + sum_by (price view) later) here.due
            ∙ (ap (λ (x : ℕ). price facts entry + x) rest.due ∙ sym (sum_by-cons (price facts) entry later)));
      }

-- one pass over the entries gives what the label of a branch costs
pub branch-cost : (m : Contents) (n : ℕ) (b : Branch) (s : State) (t : Label) (paid total : ℕ) → AreApart t.entries
    → list_all (entry_is_seen m n b.workspace) t.entries ≡ true → list_all is_readable t.entries ≡ true
    → AreLoopsApart s.frame (entry_fact t.entries) → entries_hold s.frame t.entries ≡ true
    → sum_by (price s.frame) t.entries ≡ paid → total ≡ paid + t.number → IsCostOf (branch_view m n b s) t total
branch-cost m n b s t paid total apart seen readable loops hold due total_is =
    let all = all-agree m n b.workspace s.frame least_word t.entries apart seen readable loops hold in
    let dues = all.due in
    record { hold = all.hold; whole = all.whole; due = omega (arith, dues, due, total_is) }
