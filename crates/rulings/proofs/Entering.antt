-- What a state that is below a label knows: what the label says, in the activation in which the label's loops are under
-- way.
use Rattle.std.proofs.Common.{FitsSigned, ◌≡◌, ℕ, zero, suc, ◌≤◌, ◌<◌, ◌<ℤ◌, ℤ, pos, ◌+ℤ◌, ◌-ℤ◌, ◌≤ℤ◌, Bool, true}
use Rattle.std.proofs.Common.{false, cond, if◌then◌else◌, inl, inr, List, [], ◌∷◌, length, Option, Some, None, Result}
use Rattle.std.proofs.Common.{Ok, Err, refl, sym, ap, ◌∙◌, subst, arith, ltb, eqb}
use Rattle.std.proofs.lemmas.Bool.Decides.{leb_tells, nat_tests}
use Rattle.std.proofs.lemmas.Int.{ints}
use Rattle.std.specs.Prelude.{int_le, int_lt, ◌==◌}
use Rattle.std.specs.List.{list_all}
use Rattle.std.specs.Int.{w32}
use Rattle.std.proofs.lemmas.Bool.{eqb-true, and_parts, cases_Bool}
use Rattle.small_laws.proofs.Comparisons.{int_le-true, int_lt-true}
use Rattle.module_format.specs.Rows.{Fact, Entry}
use Rattle.module_format.specs.declared.fact.Fact.TheVariants.{Unknown, Number, Pointer, CodeAddress, Loop}
use Rattle.module_format.specs.declared.fact.Fact.TheVariants.{ReturnAddress}
use Rattle.module_format.specs.declared.fact.Region.{Region}
use Rattle.module_format.specs.declared.fact.Step.{Step}
use Rattle.module_format.specs.declared.fact.Step.TheVariants.{Byte, Word}
use Rattle.module_format.specs.Order.{least_word}
use Rattle.module_format.specs.Facts.{end_of}
use Rattle.module_format.specs.Contents.{Contents, Label, label_at}
use Rattle.machine_state.specs.declared.process.Mode as machine
use Rattle.machine_state.specs.Holding.{Holding}
use Rattle.machine_state.specs.Site.{Local}
use Rattle.states.specs.declared.known.Mode as states
use Rattle.states.specs.declared.known.Mode.TheVariants as states_modes
use Rattle.states.specs.declared.known.Loop.{Loop as CountedLoop}
use Rattle.states.specs.declared.known.WordFact.{WordFact}
use Rattle.states.specs.declared.known.WordFact.TheVariants.{Alone, Index, Count}
use Rattle.states.specs.declared.rule.Rule.{Rule}
use Rattle.states.specs.declared.rule.Rule.TheVariants as rules
use Rattle.states.specs.declared.known.Known.{Known}
use Rattle.states.specs.State.{State, Facts, known, label_state, is_same_number, is_about, by_itself, is_alone, said_of}
use Rattle.states.specs.State.{entry_fact}
use Rattle.states.specs.Below.{below, agrees, implies, step_implies, is_exactly, is_same_loop, says, words_say}
use Rattle.states.specs.Below.{entries_hold, are_alike, is_whole, is_plain, view, cost}
use Rattle.states.specs.Rows.{IsRowOf, LoopFits, rise_from}
use Rattle.rulings.specs.Meaning.{Layout, Activation, with_turns, Means, says_nothing, is_number, is_pointer}
use Rattle.rulings.specs.Meaning.{is_code_address, word_of, region_start, code_address, IsOffset, MeansWord, is_fact}
use Rattle.rulings.specs.Meaning.{is_index, is_count, frame_word, Words, words_in, HasFrame, from_nowhere, MeansKnown}
use Rattle.rulings.specs.Meaning.{both_enabling, both_disabling, both_starting, SameMode, both_plain, turns_from}
use Rattle.rulings.specs.Meaning.{label_turns, at_label, IsSpan, ArePairs, IsWellFormed}
use Rattle.states.proofs.RowFacts.{rise-parts, about-within, about-behind}
use Rattle.states.proofs.Claimed.{same-region}
use Rattle.rulings.specs.Regions.{scope_of, HoldsNamed}
use Rattle.rulings.proofs.Within.{Within, AreStill, is_starting, within}
use Rattle.rulings.specs.Fitting.{After}
use Rattle.rulings.proofs.Words.{means_same, word_test, int_le_tells, itself_means}

same_word : (j k : ℤ) → is_same_number j k ≡ true → j ≡ k
same_word j k h = elim (word_test j k) [ inl p ↦ p.1 | inr p ↦ let no' : true ≡ false = sym h ∙ p.0 in absurd (cc) ]

-- ---- facts of one value

module _ (m : Contents) (layout : Layout) where
  -- a multiple of four is any offset too
  step_means : (step stride : Step) (offset : ℤ) → step_implies step stride ≡ true → IsOffset step offset
      → IsOffset stride offset
  step_means step Byte offset t stepped = tt
  step_means Byte Word offset t stepped = absurd (cc)
  step_means Word Word offset t stepped = stepped

  pub implies_means : (f g : Fact) (v : Option ℤ) → implies f g ≡ true → Means m layout f v → Means m layout g v
  implies_means f Unknown v t means = says_nothing
  implies_means (Number lo hi) (Number low high) None t means = elim means [ ]
  implies_means (Number lo hi) (Number low high) (Some a) t (is_number p q fits) =
      let both = and_parts (int_le low lo) (int_le hi high) t in
      is_number (omega (arith, ints, int_le-true low lo both.0)) (omega (arith, ints, int_le-true hi high both.1)) fits
  implies_means (Pointer region lo hi step) (Pointer other low high stride) None t means = elim means [ ]
  implies_means (Pointer region lo hi step) (Pointer other low high stride) (Some a) t
      (is_pointer offset p q stepped is) =
      let all = and_parts _ _ t in
      let first = and_parts _ _ all.0 in
      let range = and_parts (int_le low lo) (int_le hi high) first.1 in
      is_pointer offset (omega (arith, ints, int_le-true low lo range.0))
      (omega (arith, ints, int_le-true hi high range.1))
      (step_means step stride offset all.1 stepped)
      (is ∙ ap (λ (r : Region). word_of (region_start m layout r +ℤ offset)) (same-region region other first.0))
  implies_means (CodeAddress offset) (CodeAddress other) None t means = elim means [ ]
  implies_means (CodeAddress offset) (CodeAddress other) (Some a) t (is_code_address is) =
      is_code_address (is ∙ ap (λ (o : ℕ). word_of (pos (code_address m o))) (eqb-true offset other t))
  implies_means ReturnAddress ReturnAddress v t means = means
  implies_means f g v t means = absurd (cc)

-- ---- facts of words

pub same_loop : (loop other : CountedLoop) → is_same_loop loop other ≡ true
    → (loop.base ≡ other.base) × (loop.count ≡ other.count) × (loop.weight ≡ other.weight)
same_loop loop other t =
    let all = and_parts _ _ t in
    let first = and_parts _ _ all.0 in (
      same_word loop.base other.base first.0,
      eqb-true loop.count other.count first.1,
      eqb-true loop.weight other.weight all.1,
    )

-- a number that is exactly this one
pub constant_means : (m : Contents) (layout : Layout) (f : Fact) (v : Option ℤ) (number : ℤ)
    → is_exactly f number ≡ true
    → Means m layout f v → (FitsSigned w32 number) × (v ≡ Some number)
constant_means m layout (Number lo hi) None number t means = elim means [ ]
constant_means m layout (Number lo hi) (Some x) number t (is_number low high fits) =
    let both = and_parts (is_same_number lo number) (is_same_number hi number) t in
    let first = same_word lo number both.0 in
    let last = same_word hi number both.1 in
    let is : x ≡ number = omega (arith, ints) in
    (subst (λ (z : ℤ). FitsSigned w32 z) is fits, ap (λ (z : ℤ). Some z) is)
constant_means m layout f v number t means = absurd (cc)

module _ (m : Contents) (act : Activation) (turns : ℤ → ℕ) (k : ℤ) where
  -- each kind of word that a label may have: a fact alone
  alone_means : (v : Option ℤ) (said : WordFact) (wanted : Fact) → implies (by_itself said) wanted ≡ true
      → MeansWord m act k said v
      → MeansWord m (with_turns turns act) k (Alone wanted) v
  alone_means v said wanted t means =
      is_fact (implies_means m act.layout (by_itself said) wanted v t (itself_means m act k said v means))

  -- the index of a loop
  index_means : (v : Option ℤ) (said : WordFact) (loop : CountedLoop) → says said (Index loop) ≡ true
      → LoopFits (Index loop)
      → turns k ≡ turns_from said (Index loop) (act.turns k) → MeansWord m act k said v
      → MeansWord m (with_turns turns act) k (Index loop) v
  index_means v (Alone fact) loop t fits left (is_fact means) =
      let constant = constant_means m act.layout fact v loop.base t means in
      let some : 1 ≤ loop.count = fits.some in
      subst (λ (x : Option ℤ). MeansWord m (with_turns turns act) k (Index loop) x) (sym constant.1)
      (is_index (omega arith) (omega arith) (omega (arith, ints)) constant.0)
  index_means None (Index other) loop t fits left means = elim means [ ]
  index_means (Some x) (Index other) loop t fits left (is_index some most is sfits) =
      let same = same_loop other loop t in
      let first : other.base ≡ loop.base = same.0 in
      let number : other.count ≡ loop.count = same.1 in
      is_index (omega arith) (omega arith) (omega (arith, ints)) sfits
  index_means v (Count other) loop t fits left means = absurd (cc)

  -- the count of a loop whose index is in the word before
  count_means : (v : Option ℤ) (said first : WordFact) (loop : CountedLoop) → says said (Count loop) ≡ true
      → says first (Index loop) ≡ true
      → are_alike (is_alone first) (is_alone said) ≡ true → LoopFits (Count loop)
      → turns (k -ℤ pos 1) ≡ turns_from first (Index loop) (act.turns (k -ℤ pos 1)) → MeansWord m act k said v
      → MeansWord m (with_turns turns act) k (Count loop) v
  count_means v (Alone fact) (Alone one) loop t u alike fits left (is_fact means) =
      let constant = constant_means m act.layout fact v (pos loop.count) t means in
      let some : 1 ≤ loop.count = fits.some in
      subst (λ (x : Option ℤ). MeansWord m (with_turns turns act) k (Count loop) x) (sym constant.1)
      (is_count (omega arith) (omega arith) (ap (λ (n : ℕ). pos n) (sym left)) constant.0)
  count_means None (Count other) (Index index) loop t u alike fits left means = elim means [ ]
  count_means (Some x) (Count other) (Index index) loop t u alike fits left (is_count some most is sfits) =
      let same = same_loop other loop t in
      let all : other.count ≡ loop.count = same.1 in
      is_count (omega arith) (omega arith) (is ∙ ap (λ (c : ℕ). pos c) (sym left)) sfits
  count_means v said first loop t u alike fits left means = absurd (cc)

-- ---- entries

-- the first word of an entry
pub first_word : (word k : ℤ) (more : ℕ) → k ≡ word +ℤ pos more → (more == 0) ≡ is_same_number word k
first_word word k zero e = elim (word_test word k) [ inl p ↦ sym p.0 | inr p ↦ absurd (p.1 (omega (arith, ints))) ]
first_word word k (suc more) e =
    let later : eqb (suc more) 0 ≡ false = grind (arith, nat_tests) in
    elim (word_test word k) [
      | inl p ↦ let same : word ≡ k = p.1 in absurd (omega (arith, ints))
      | inr p ↦ later
          ∙ sym p.0
    ]

pub below_last : (k word : ℤ) (more : ℕ) → k <ℤ (word +ℤ pos (suc more)) → (k ≡ word +ℤ pos more → ⊥)
    → k <ℤ (word +ℤ pos more)
below_last k word more high differ = elim (int_le_tells (word +ℤ pos more) k) [
  | inl p ↦ absurd (differ (omega (arith, ints, p.1)))
  | inr p ↦ p.1
]

-- each word that an entry is about
words_said : (facts : Facts) (entry : Entry) (k : ℤ) (span : ℕ) → words_say facts entry span ≡ true → entry.word ≤ℤ k
    → k <ℤ (entry.word +ℤ pos span) → says (facts k) (said_of entry.fact (is_same_number entry.word k)) ≡ true
words_said facts entry k zero t low high = absurd (omega (arith, ints))
words_said facts entry k (suc more) t low high =
    let both = and_parts _ _ t in
    elim (word_test k (entry.word +ℤ pos more)) [
      | inl e ↦
          ap (λ (j : ℤ). says (facts j) (said_of entry.fact (is_same_number entry.word k))) e.1
          ∙ ap (λ (b : Bool). says (facts (entry.word +ℤ pos more)) (said_of entry.fact b))
          (sym (first_word entry.word k more e.1)) ∙ both.0
      | inr e ↦ words_said facts entry k more both.1 low (below_last k entry.word more high e.1)
    ]

pub entry_here : (entry : Entry) (entries : List Entry) (k : ℤ) → is_about entry k ≡ true
    → entry_fact (entry ∷ entries) k ≡ said_of entry.fact (is_same_number entry.word k)
entry_here entry entries k e =
    ap (λ (b : Bool). cond b (said_of entry.fact (is_same_number entry.word k)) (entry_fact entries k)) e

pub entry_later : (entry : Entry) (entries : List Entry) (k : ℤ) → is_about entry k ≡ false
    → entry_fact (entry ∷ entries) k ≡ entry_fact entries k
entry_later entry entries k e =
    ap (λ (b : Bool). cond b (said_of entry.fact (is_same_number entry.word k)) (entry_fact entries k)) e

-- what is known says of each word what the entries say
pub entries_said : (facts : Facts) (entries : List Entry) (k : ℤ) → entries_hold facts entries ≡ true
    → says (facts k) (entry_fact entries k) ≡ true
entries_said facts [] k t = refl
entries_said facts (entry ∷ entries) k t =
    let both = and_parts (words_say facts entry entry.span) (entries_hold facts entries) t in
    elim (cases_Bool (is_about entry k)) [
      | inl e ↦
          let place = and_parts _ _ e in
          ap (says (facts k)) (entry_here entry entries k e)
          ∙ words_said facts entry k entry.span both.0 (int_le-true entry.word k place.0)
          (int_lt-true k (entry.word +ℤ pos entry.span) place.1)
      | inr e ↦ ap (says (facts k)) (entry_later entry entries k e) ∙ entries_said facts entries k both.1
    ]

-- what rises after a word says nothing of words before
index_behind : (low : ℤ) (entries : List Entry) (k : ℤ) (loop : CountedLoop) → rise_from low entries ≡ true
    → entry_fact entries k ≡ Index loop → low ≤ℤ k
index_behind low [] k loop rise h = absurd (cc)
index_behind low (entry ∷ entries) k loop rise h =
    let parts = rise-parts low entry entries rise in
    let below : low ≤ℤ entry.word = parts.0 in
    elim (cases_Bool (is_about entry k)) [
      | inl e ↦
          let place = and_parts (int_le entry.word k) (int_lt k (entry.word +ℤ pos entry.span)) e in
          let here : entry.word ≤ℤ k = int_le-true entry.word k place.0 in
          omega (arith, ints)
      | inr e ↦
          let behind : end_of entry ≤ℤ k =
          index_behind (end_of entry) entries k loop parts.1 (sym (entry_later entry entries k e) ∙ h) in
          omega (arith, ints)
    ]

-- only the second word of a loop's entry is a count
count_of : (fact : Fact) (first : Bool) (loop : CountedLoop) → said_of fact first ≡ Count loop
    → (fact ≡ Loop loop.base loop.count loop.weight) × (first ≡ false)
count_of (Loop b n w) false loop h = (cc, refl)
count_of (Loop b n w) true loop h = absurd (cc)
count_of Unknown first loop h = absurd (cc)
count_of (Number lo hi) first loop h = absurd (cc)
count_of (Pointer region lo hi step) first loop h = absurd (cc)
count_of (CodeAddress offset) first loop h = absurd (cc)
count_of ReturnAddress first loop h = absurd (cc)

-- the word before the count of a loop
record HasIndex (facts : Facts) (entries : List Entry) (k : ℤ) (loop : CountedLoop) : Type 0 where
  index : entry_fact entries (k -ℤ pos 1) ≡ Index loop
  alike : are_alike (is_alone (facts (k -ℤ pos 1))) (is_alone (facts k)) ≡ true

count_behind_index : (facts : Facts) (low : ℤ) (entries : List Entry) (k : ℤ) (loop : CountedLoop)
    → rise_from low entries ≡ true → ArePairs entries → list_all (is_whole facts) entries ≡ true
    → entry_fact entries k ≡ Count loop → HasIndex facts entries k loop
count_behind_index facts low [] k loop rise pairs whole h = absurd (cc)
count_behind_index facts low (entry ∷ entries) k loop rise pairs whole h =
    let both = and_parts (is_whole facts entry) (list_all (is_whole facts) entries) whole in
    let parts = rise-parts low entry entries rise in
    elim (cases_Bool (is_about entry k)) [
      | inl e ↦ here e (count_of entry.fact (is_same_number entry.word k) loop (sym (entry_here entry entries k e) ∙ h))
          both.0
      | inr e ↦
          let later = count_behind_index facts (end_of entry) entries k loop parts.1 pairs.1 both.1
          (sym (entry_later entry entries k e) ∙ h) in
          let behind : end_of entry ≤ℤ (k -ℤ pos 1) =
          index_behind (end_of entry) entries (k -ℤ pos 1) loop parts.1 later.index in
          record {
            index = entry_later entry entries (k -ℤ pos 1) (about-behind entry (k -ℤ pos 1) behind)
                ∙ later.index;
            alike = later.alike;
          }
    ]
  where
    here : is_about entry k ≡ true → (entry.fact ≡ Loop loop.base loop.count loop.weight)
        × (is_same_number entry.word k ≡ false)
        → is_whole facts entry ≡ true → HasIndex facts (entry ∷ entries) k loop
    here e known alike =
        let place = and_parts (int_le entry.word k) (int_lt k (entry.word +ℤ pos entry.span)) e in
        let low' : entry.word ≤ℤ k = int_le-true entry.word k place.0 in
        let high : k <ℤ (entry.word +ℤ pos entry.span) = int_lt-true k (entry.word +ℤ pos entry.span) place.1 in
        let two : entry.span ≡ 2 = subst (λ (f : Fact). IsSpan entry.span f) known.0 pairs.0 in
        elim (word_test entry.word k) [
          | inl p ↦ let no' : true ≡ false = sym p.0 ∙ known.1 in absurd (cc)
          | inr p ↦
              let second : k ≡ entry.word +ℤ pos 1 = next low' high two p.1 in
              let first : k -ℤ pos 1 ≡ entry.word = omega (arith, ints) in
              record {
                index =
                    entry_here entry entries (k -ℤ pos 1)
                    (about-within entry (k -ℤ pos 1) (omega (arith, ints)) (omega (arith, ints)))
                    ∙ ap (λ (f : Fact). said_of f (is_same_number entry.word (k -ℤ pos 1))) known.0
                    ∙ ap (λ (b : Bool). said_of (Loop loop.base loop.count loop.weight) b) (is_same first);
                alike =
                    ap (λ (j : ℤ). are_alike (is_alone (facts j)) (is_alone (facts k))) first
                    ∙ ap (λ (j : ℤ). are_alike (is_alone (facts entry.word)) (is_alone (facts j))) second
                    ∙ subst (λ (f : Fact).
                    (elim f as (λ f. Bool) [
                      | Loop b n w ↦ are_alike (is_alone (facts entry.word))
                          (is_alone (facts (entry.word +ℤ pos 1)))
                      | _ ↦ true
                    ]) ≡ true) known.0 alike;
              }
        ]
      where
        next : entry.word ≤ℤ k → k <ℤ (entry.word +ℤ pos entry.span) → entry.span ≡ 2 → (entry.word ≡ k → ⊥)
            → k ≡ entry.word +ℤ pos 1
        next low high two differ = elim (int_le_tells k entry.word) [
          | inl p ↦ absurd (differ (omega (arith, ints, p.1)))
          | inr p ↦ let above : entry.word <ℤ k = p.1 in omega (arith, ints)
        ]

        is_same : k -ℤ pos 1 ≡ entry.word → is_same_number entry.word (k -ℤ pos 1) ≡ true
        is_same first = elim (word_test entry.word (k -ℤ pos 1)) [ inl p ↦ p.0 | inr p ↦ absurd (p.1 (sym first)) ]

-- ---- labels

-- each word as the label has it, where its loops have the turns that the label leaves
pub label_words : (m : Contents) (act : Activation) (facts : Facts) (t : Label) (k : ℤ) (v : Option ℤ) → IsRowOf m t
    → ArePairs t.entries → entries_hold facts t.entries ≡ true → list_all (is_whole facts) t.entries ≡ true
    → MeansWord m act k (facts k) v → MeansWord m (with_turns (label_turns facts t.entries act.turns) act) k
    (entry_fact t.entries k) v
label_words m act facts t k v row pairs hold whole means = on_fact (entry_fact t.entries k) refl
  where
    turns : ℤ → ℕ
    turns = label_turns facts t.entries act.turns

    on_fact : (f : WordFact) → entry_fact t.entries k ≡ f
        → MeansWord m (with_turns turns act) k (entry_fact t.entries k) v
    on_fact (Alone wanted) e =
        means_same (alone_means m act turns k v (facts k) wanted
        (ap (says (facts k)) (sym e) ∙ entries_said facts t.entries k hold) means) (sym e) refl
    on_fact (Index loop) e =
        means_same
        (index_means m act turns k v (facts k) loop (ap (says (facts k)) (sym e) ∙ entries_said facts t.entries k hold)
        (subst LoopFits e (row.loops k))
        (ap (λ (f : WordFact). turns_from (facts k) f (act.turns k)) e) means) (sym e) refl
    on_fact (Count loop) e =
        let before = count_behind_index facts least_word t.entries k loop row.apart pairs whole e in
        let j = k -ℤ pos 1 in
        means_same
        (count_means m act turns k v (facts k) (facts j) loop
        (ap (says (facts k)) (sym e) ∙ entries_said facts t.entries k hold)
        (ap (says (facts j)) (sym before.index) ∙ entries_said facts t.entries j hold)
        before.alike (subst LoopFits e (row.loops k))
        (ap (λ (f : WordFact). turns_from (facts j) f (act.turns j)) before.index) means) (sym e) refl

-- what a state that is below a label has
pub record IsBelow (s : State) (t : Label) : Type 0 where
  pub context : s.context ≡ t.context
  pub depth : s.depth ≡ t.depth
  pub plain : is_plain s.mode ≡ true
  pub a : implies s.stack.a.fact t.stack.a ≡ true
  pub b : implies s.stack.b.fact t.stack.b ≡ true
  pub c : implies s.stack.c.fact t.stack.c ≡ true
  pub entries : entries_hold s.frame t.entries ≡ true
  pub whole : list_all (is_whole s.frame) t.entries ≡ true

agrees_tells : (s : State) (t : Label) → agrees (view s) t ≡ true → IsBelow s t
agrees_tells s t e =
    let p = and_parts _ _ e in
    let q = and_parts _ _ p.0 in
    let r = and_parts _ _ q.0 in
    let u = and_parts _ _ r.0 in
    let v = and_parts _ _ u.0 in
    let w = and_parts _ _ v.0 in
    let x = and_parts _ _ w.0 in
    record {
      a = v.1;
      b = u.1;
      c = r.1;
      context = eqb-true s.context t.context x.0;
      depth = same_word s.depth t.depth x.1;
      entries = q.1;
      plain = w.1;
      whole = p.1;
    }

pub below_tells : (s : State) (t : Label) (price : ℕ) → below s t ≡ Ok price
    → (cost (view s) t ≤ s.number) × IsBelow s t
unfolding below
below_tells s t price h = first (ltb s.number (cost (view s) t)) refl h
  where
    not_below : (m n : ℕ) → ltb m n ≡ false → n ≤ m
    not_below m n e = elim (leb_tells (suc m) n) [
      | inl p ↦ let no' : true ≡ false = sym p.0 ∙ e in absurd (cc)
      | inr p ↦
          let high : n < suc m = p.1 in omega arith
    ]

    second : (b : Bool) → agrees (view s) t ≡ b
        → ◌≡◌ {A = Result ℕ Rule} (if b then Ok (cost (view s) t) else Err rules.Label) (Ok price) → IsBelow s t
    second true e g = agrees_tells s t e
    second false e g = absurd (cc)

    first : (b : Bool) → ltb s.number (cost (view s) t) ≡ b
        → ◌≡◌ {A = Result ℕ Rule} (if b then Err rules.Budget else
        (if agrees (view s) t then Ok (cost (view s) t) else Err rules.Label)) (Ok price)
        → (cost (view s) t ≤ s.number) × IsBelow s t
    first true e g = absurd (cc)
    first false e g = (not_below s.number (cost (view s) t) e, second (agrees (view s) t) refl g)

-- what holds after an instruction holds as the label's state, where the state is below the label
pub label_after : (m : Contents) (h : Holding) (mode : machine.Mode) (act : Activation) (s : State) (t : Label)
    (l : Local) → IsWellFormed m → (at : ℕ) → label_at m at ≡ Some t → IsBelow s t
    → After m h mode act s l → After m h mode (at_label s t act) (label_state t) l
label_after m h mode act s t l wf at e g a = record {
  frame = subst (λ d. HasFrame h (length l.memory) (words_in m t.context) act.layout.origin d
      l.registers.workspace) g.depth
      (subst (λ w. HasFrame h (length l.memory) w act.layout.origin s.depth l.registers.workspace) same_words b.frame);
  knows = record {
    registers = record {
      a = register s.stack.a t.stack.a l.registers.stack.a g.a b.knows.registers.a;
      b = register s.stack.b t.stack.b l.registers.stack.b g.b b.knows.registers.b;
      c = register s.stack.c t.stack.c l.registers.stack.c g.c b.knows.registers.c;
    };
    words = λ k inside. label_words m act s.frame t k (frame_word l.memory act.layout.origin k) (wf.rows at t e)
        (wf.pairs at t e) g.entries g.whole
        (b.knows.words k (ap (λ (w : Words). w.reads k) same_words ∙ inside));
  };
  named = subst (λ (n : ℕ). HoldsNamed m h (scope_of m n act.layout) l.memory) g.context b.named;
  same_mode = plain_mode s.mode mode g.plain a.same_mode;
}
  where
    still_mode : (p : states.Mode) → is_plain p ≡ true → is_starting p ≡ false
    still_mode states_modes.Plain e = refl
    still_mode states_modes.Enabling e = refl
    still_mode (states_modes.Disabling done) e = refl
    still_mode (states_modes.Starting row started) e = absurd (cc)

    b : Within AreStill m h mode act s l
    b =
        let still = still_mode s.mode g.plain in
        within still (record { modes = a.same_mode; still = still }) a

    same_words : words_in m s.context ≡ words_in m t.context
    same_words = ap (λ (n : ℕ). words_in m n) g.context

    register : (f : Known) (wanted : Fact) (v : Option ℤ) → implies f.fact wanted ≡ true
        → MeansKnown m (words_in m s.context).reads act.layout l.memory f v
        → MeansKnown m (words_in m t.context).reads act.layout l.memory (known wanted) v
    register f wanted v says_so means =
        record { fact = implies_means m act.layout f.fact wanted v says_so means.fact; source = from_nowhere }

    plain_mode : (p : states.Mode) (q : machine.Mode) → is_plain p ≡ true → SameMode p q → SameMode states_modes.Plain q
    plain_mode p q e both_plain = both_plain
    plain_mode p q e both_enabling = absurd (cc)
    plain_mode p q e both_disabling = absurd (cc)
    plain_mode p q e both_starting = absurd (cc)
