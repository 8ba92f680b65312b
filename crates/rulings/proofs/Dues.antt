-- What loops have still to pay: a change of what is known adds nothing, and to enter a loop costs what it adds.
use Rattle.std.proofs.Common.{◌≡◌, ℕ, zero, suc, ◌+◌, ◌-◌, ◌*◌, ◌≤◌, ℤ, pos, ◌+ℤ◌, ◌≤ℤ◌, ◌<ℤ◌, neg_ℤ, Bool, true}
use Rattle.std.proofs.Common.{false, cond, ◌⊎◌, inl, inr, List, [], ◌∷◌, Ok, refl, sym, ap, ◌∙◌, subst, arith}
use Rattle.std.specs.Prelude.{sum_by}
use Rattle.std.specs.List.{list_all}
use Rattle.std.proofs.lemmas.Int.{ints}
use Rattle.std.proofs.lemmas.List.Sums.{sum_by-cons}
use Rattle.std.proofs.Math.Nat.{mul-suc}
use Rattle.std.proofs.lemmas.Bool.{and_parts, cases_Bool}
use Rattle.module_format.specs.Rows.{Fact, Entry}
use Rattle.module_format.specs.declared.fact.Fact.TheVariants.{Loop}
use Rattle.module_format.specs.Contents.{Label}
use Rattle.states.specs.declared.known.Loop.{Loop as CountedLoop}
use Rattle.states.specs.declared.known.WordFact.{WordFact}
use Rattle.states.specs.declared.known.WordFact.TheVariants.{Alone, Index, Count}
use Rattle.states.specs.State.{State, Facts, Change, one_word, no_facts, by_itself, is_alone, is_parted, changed}
use Rattle.states.specs.State.{is_same_number, is_about, said_of, entry_fact, written, label_state}
use Rattle.states.specs.Below.{below, says, words_say, entries_hold, are_alike, is_whole, price}
use Rattle.states.proofs.Prices.{price-due}
use Rattle.rulings.specs.Meaning.{Activation, ArePairs, IsSpan, loop_due, dues_from, farthest_word, dues, owed}
use Rattle.rulings.specs.Meaning.{turns_from, label_turns, at_label}
use Rattle.rulings.proofs.Words.{word_test, int_le_tells}
use Rattle.rulings.proofs.Entering.{same_loop, entries_said, entry_here, entry_later, below_tells}

-- ---- a change adds nothing

changed_due : (touches : Bool) (parted : Bool) (f : WordFact) (new : Fact) (turns : ℕ)
    → loop_due (cond touches (Alone new) (cond parted (Alone (by_itself f)) f)) turns ≤ loop_due f turns
changed_due true parted f new turns = omega arith
changed_due false true f new turns = omega arith
changed_due false false f new turns = omega arith

changed_from : (change : Change) (facts : Facts) (turns : ℤ → ℕ) (word : ℤ) (more : ℕ)
    → dues_from (changed change facts) turns word more ≤ dues_from facts turns word more
changed_from change facts turns word zero = omega arith
changed_from change facts turns word (suc more) =
    let here = changed_due (change.touches word) (is_parted change.touches word (facts word)) (facts word)
    (change.leaves word (by_itself (facts word))) (turns word) in
    let rest = changed_from change facts turns (word +ℤ pos 1) more in
    omega (arith, here, rest)

pub changed_dues : (change : Change) (facts : Facts) (turns : ℤ → ℕ)
    → dues (changed change facts) turns ≤ dues facts turns
unfolding dues
changed_dues change facts turns = changed_from change facts turns (neg_ℤ (pos farthest_word)) (2 * farthest_word)

pub written_owed : (k : ℤ) (fact : Fact) (s : State) (act : Activation) → owed (written k fact s) act ≤ owed s act
unfolding written
written_owed k fact s act = let less = changed_dues (one_word k fact) s.frame act.turns in omega (arith, less)

-- ---- where nothing is known, nothing is due

nothing_from : (turns : ℤ → ℕ) (word : ℤ) (more : ℕ) → dues_from no_facts turns word more ≡ 0
nothing_from turns word zero = refl
nothing_from turns word (suc more) = let rest = nothing_from turns (word +ℤ pos 1) more in omega (arith, rest)

pub nothing_due : (turns : ℤ → ℕ) → dues no_facts turns ≡ 0
unfolding dues
nothing_due turns = nothing_from turns (neg_ℤ (pos farthest_word)) (2 * farthest_word)

-- ---- loops that are entered

-- what a word adds that is wanted to be the index of a loop, where it is alone so far
abbrev entered : Bool → WordFact → ℕ
entered alone (Alone fact) = 0
entered alone (Index loop) = cond alone (loop.weight * (loop.count - 1)) 0
entered alone (Count loop) = 0

abbrev entered_from : Facts → Facts → ℤ → ℕ → ℕ
entered_from facts wanted word zero = 0
entered_from facts wanted word (suc more) =
    entered (is_alone (facts word)) (wanted word) + entered_from facts wanted (word +ℤ pos 1) more

-- what is due of a word at a label was due before, or is added
due_at : (said wanted : WordFact) (turns : ℕ) → says said wanted ≡ true
    → loop_due wanted (turns_from said wanted turns) ≤ loop_due said turns + entered (is_alone said) wanted
due_at said (Alone fact) turns t = omega arith
due_at said (Count loop) turns t = omega arith
due_at (Alone fact) (Index loop) turns t = omega arith
due_at (Index other) (Index loop) turns t =
    let same = same_loop other loop t in
    let is : loop.weight * (turns - 1) ≡ other.weight * (turns - 1) =
    ap (λ (w : ℕ). w * (turns - 1)) (sym same.2) in
    omega (arith, is)
due_at (Count other) (Index loop) turns t = absurd (cc)

dues_at_from : (facts wanted : Facts) (turns : ℤ → ℕ) → ((k : ℤ) → says (facts k) (wanted k) ≡ true) → (word : ℤ)
    (more : ℕ) → dues_from wanted (λ k. turns_from (facts k) (wanted k) (turns k)) word more
    ≤ dues_from facts turns word more + entered_from facts wanted word more
dues_at_from facts wanted turns t word zero = omega arith
dues_at_from facts wanted turns t word (suc more) =
    let here = due_at (facts word) (wanted word) (turns word) (t word) in
    let rest = dues_at_from facts wanted turns t (word +ℤ pos 1) more in
    omega (arith, here, rest)

-- ---- the price of an entry, paid at its first word

abbrev once : ℤ → ℕ → ℤ → ℕ
once first paid word = cond (is_same_number first word) paid 0

abbrev once_from : ℤ → ℕ → ℤ → ℕ → ℕ
once_from first paid word zero = 0
once_from first paid word (suc more) = once first paid word + once_from first paid (word +ℤ pos 1) more

never_from : (first : ℤ) (paid : ℕ) (word : ℤ) (more : ℕ) → first <ℤ word → once_from first paid word more ≡ 0
never_from first paid word zero low = refl
never_from first paid word (suc more) low = elim (word_test first word) [
  | inl p ↦ let same : first ≡ word = p.1 in absurd (omega (arith, ints))
  | inr p ↦
      let none : once first paid word ≡ 0 = ap (λ (b : Bool). cond b paid 0) p.0 in
      let rest = never_from first paid (word +ℤ pos 1) more (omega (arith, ints)) in
      omega (arith, none, rest)
]

-- it is paid in full at that word
once_at : (first : ℤ) (paid : ℕ) (word : ℤ) (more : ℕ) → first ≡ word → is_same_number first word ≡ true
    → once first paid word + once_from first paid (word +ℤ pos 1) more ≡ paid
once_at first paid word more same t =
    let here : once first paid word ≡ paid = ap (λ (b : Bool). cond b paid 0) t in
    let rest = never_from first paid (word +ℤ pos 1) more (omega (arith, ints)) in
    omega (arith, here, rest)

once_is_enough : (first : ℤ) (paid : ℕ) (word : ℤ) (more : ℕ) → once_from first paid word more ≤ paid
once_is_enough first paid word zero = omega arith
once_is_enough first paid word (suc more) = elim (word_test first word) [
  | inl p ↦ let whole = once_at first paid word more p.1 p.0 in omega (arith, whole)
  | inr p ↦
      let none : once first paid word ≡ 0 = ap (λ (b : Bool). cond b paid 0) p.0 in
      let rest = once_is_enough first paid (word +ℤ pos 1) more in
      omega (arith, none, rest)
]

-- what the first word of a loop's entry adds is at most the price of the entry
loop_price : (facts : Facts) (entry : Entry) (base : ℤ) (count weight : ℕ) → entry.fact ≡ Loop base count weight
    → IsSpan entry.span entry.fact → words_say facts entry entry.span ≡ true → is_whole facts entry ≡ true
    → entered (is_alone (facts entry.word)) (Index (record { base = base; count = count; weight = weight }))
    ≤ price facts entry
loop_price facts entry base count weight is pair said whole =
    on_words (facts entry.word) (facts (entry.word +ℤ pos 1)) refl refl
  where
    loop : CountedLoop
    loop = record { base = base; count = count; weight = weight }

    two : entry.span ≡ 2
    two = subst (λ (f : Fact). IsSpan entry.span f) is pair

    both : words_say facts entry 2 ≡ true
    both = ap (words_say facts entry) (sym two) ∙ said

    count_said : says (facts (entry.word +ℤ pos 1)) (said_of entry.fact false) ≡ true
    count_said = (and_parts (says (facts (entry.word +ℤ pos 1)) (said_of entry.fact false)) (words_say facts entry 1)
        both).0

    index_said : says (facts (entry.word +ℤ pos 0)) (said_of entry.fact true) ≡ true
    index_said = (and_parts (says (facts (entry.word +ℤ pos 0)) (said_of entry.fact true)) true
        (and_parts (says (facts (entry.word +ℤ pos 1)) (said_of entry.fact false)) (words_say facts entry 1) both).1).0

    first_word : entry.word ≡ entry.word +ℤ pos 0
    first_word = omega (arith, ints)

    alike : are_alike (is_alone (facts entry.word)) (is_alone (facts (entry.word +ℤ pos 1))) ≡ true
    alike = subst (λ (f : Fact). (elim f as (λ f. Bool) [
      | Loop b n w ↦ are_alike (is_alone (facts entry.word)) (is_alone (facts (entry.word +ℤ pos 1)))
      | _ ↦ true
    ]) ≡ true) is whole

    alone : (first second : WordFact) → facts entry.word ≡ first → facts (entry.word +ℤ pos 1) ≡ second
        → are_alike (is_alone first) (is_alone second) ≡ true
    alone first second f g =
        ap (λ (x : WordFact). are_alike (is_alone x) (is_alone second)) (sym f)
        ∙ ap (λ (y : WordFact). are_alike (is_alone (facts entry.word)) (is_alone y)) (sym g) ∙ alike

    on_words : (first second : WordFact) → facts entry.word ≡ first → facts (entry.word +ℤ pos 1) ≡ second
        → entered (is_alone (facts entry.word)) (Index loop) ≤ price facts entry
    on_words (Index other) second f g =
        let none : entered (is_alone (facts entry.word)) (Index loop) ≡ 0 =
        ap (λ (x : WordFact). entered (is_alone x) (Index loop)) f in
        omega (arith, none)
    on_words (Count other) second f g =
        let none : entered (is_alone (facts entry.word)) (Index loop) ≡ 0 =
        ap (λ (x : WordFact). entered (is_alone x) (Index loop)) f in
        omega (arith, none)
    on_words (Alone fact) (Index other) f g =
        let no' : false ≡ true = alone (Alone fact) (Index other) f g in absurd (cc)
    on_words (Alone fact) (Count other) f g =
        let no' : false ≡ true = alone (Alone fact) (Count other) f g in absurd (cc)
    on_words (Alone fact) (Alone other) f g =
        let here : entered (is_alone (facts entry.word)) (Index loop) ≡ weight * (count - 1) =
        ap (λ (x : WordFact). entered (is_alone x) (Index loop)) f in
        let paid : price facts entry ≡ weight * (count - 1) =
        price-due facts entry base count weight entry.word (entry.word +ℤ pos 1) base (pos count) (Alone fact)
        (Alone other) is refl refl (sym f) (sym g) refl refl
        (ap (λ (x : WordFact). says x (Index loop)) (sym f ∙ ap facts first_word)
        ∙ ap (λ (x : Fact). says (facts (entry.word +ℤ pos 0)) (said_of x true)) (sym is) ∙ index_said)
        (ap (λ (x : WordFact). says x (Count loop)) (sym g)
        ∙ ap (λ (x : Fact). says (facts (entry.word +ℤ pos 1)) (said_of x false)) (sym is) ∙ count_said) in
        omega (arith, here, paid)

-- what a word adds at the entries of a label is the price of the entry whose first word it is, or is added by the
-- others
entered_here : (facts : Facts) (entry : Entry) (entries : List Entry) (k : ℤ) → IsSpan entry.span entry.fact
    → words_say facts entry entry.span ≡ true → is_whole facts entry ≡ true
    → entered (is_alone (facts k)) (entry_fact (entry ∷ entries) k)
    ≤ once entry.word (price facts entry) k + entered (is_alone (facts k)) (entry_fact entries k)
entered_here facts entry entries k pair said whole = elim (cases_Bool (is_about entry k)) [
  | inr e ↦
      let is = ap (entered (is_alone (facts k))) (entry_later entry entries k e) in
      omega (arith, is)
  | inl e ↦
      let is = ap (entered (is_alone (facts k))) (entry_here entry entries k e) in
      let less = on_word (word_test entry.word k) in
      omega (arith, is, less)
]
  where
    on_first : (f : Fact) → entry.fact ≡ f
        → entered (is_alone (facts entry.word)) (said_of entry.fact true) ≤ price facts entry
    on_first (Loop base count weight) is =
        let same : entered (is_alone (facts entry.word)) (said_of entry.fact true)
        ≡ entered (is_alone (facts entry.word)) (Index (record { base = base; count = count; weight = weight })) =
        ap (λ (x : Fact). entered (is_alone (facts entry.word)) (said_of x true)) is in
        let less = loop_price facts entry base count weight is pair said whole in
        omega (arith, same, less)
    on_first f is =
        let none : entered (is_alone (facts entry.word)) (said_of entry.fact true) ≡ 0 =
        ap (λ (x : Fact). entered (is_alone (facts entry.word)) (said_of x true)) is in
        omega (arith, none)

    on_other : (f : Fact) → entry.fact ≡ f → entered (is_alone (facts k)) (said_of entry.fact false) ≡ 0
    on_other (Loop base count weight) is = ap (λ (x : Fact). entered (is_alone (facts k)) (said_of x false)) is
    on_other f is = ap (λ (x : Fact). entered (is_alone (facts k)) (said_of x false)) is

    on_word : ((is_same_number entry.word k ≡ true) × (entry.word ≡ k))
        ⊎ ((is_same_number entry.word k ≡ false) × (entry.word ≡ k → ⊥))
        → entered (is_alone (facts k)) (said_of entry.fact (is_same_number entry.word k))
        ≤ once entry.word (price facts entry) k
    on_word (inl p) =
        let first : entered (is_alone (facts k)) (said_of entry.fact (is_same_number entry.word k))
        ≡ entered (is_alone (facts entry.word)) (said_of entry.fact true) =
        ap (λ (b : Bool). entered (is_alone (facts k)) (said_of entry.fact b)) p.0
        ∙ ap (λ (j : ℤ). entered (is_alone (facts j)) (said_of entry.fact true)) (sym p.1) in
        let whole_price : once entry.word (price facts entry) k ≡ price facts entry =
        ap (λ (b : Bool). cond b (price facts entry) 0) p.0 in
        let less = on_first entry.fact refl in
        omega (arith, first, whole_price, less)
    on_word (inr p) =
        let none : entered (is_alone (facts k)) (said_of entry.fact (is_same_number entry.word k)) ≡ 0 =
        ap (λ (b : Bool). entered (is_alone (facts k)) (said_of entry.fact b)) p.0 ∙ on_other entry.fact refl in
        omega (arith, none)

entered_more : (facts : Facts) (entry : Entry) (entries : List Entry) (word : ℤ) (more : ℕ)
    → IsSpan entry.span entry.fact → words_say facts entry entry.span ≡ true → is_whole facts entry ≡ true
    → entered_from facts (entry_fact (entry ∷ entries)) word more
    ≤ once_from entry.word (price facts entry) word more + entered_from facts (entry_fact entries) word more
entered_more facts entry entries word zero pair said whole = omega arith
entered_more facts entry entries word (suc more) pair said whole =
    let here = entered_here facts entry entries word pair said whole in
    let rest = entered_more facts entry entries (word +ℤ pos 1) more pair said whole in
    omega (arith, here, rest)

none_entered : (facts : Facts) (word : ℤ) (more : ℕ) → entered_from facts (entry_fact []) word more ≡ 0
none_entered facts word zero = refl
none_entered facts word (suc more) = let rest = none_entered facts (word +ℤ pos 1) more in omega (arith, rest)

entered_entries : (facts : Facts) (entries : List Entry) (word : ℤ) (more : ℕ) → ArePairs entries
    → entries_hold facts entries ≡ true → list_all (is_whole facts) entries ≡ true
    → entered_from facts (entry_fact entries) word more ≤ sum_by (price facts) entries
entered_entries facts [] word more pairs hold whole = let none = none_entered facts word more in omega (arith, none)
entered_entries facts (entry ∷ entries) word more pairs hold whole =
    let held = and_parts (words_say facts entry entry.span) (entries_hold facts entries) hold in
    let both = and_parts (is_whole facts entry) (list_all (is_whole facts) entries) whole in
    let here = entered_more facts entry entries word more pairs.0 held.0 both.0 in
    let enough = once_is_enough entry.word (price facts entry) word more in
    let rest = entered_entries facts entries word more pairs.1 held.1 both.1 in
    let all = sum_by-cons (price facts) entry entries in
    omega (arith, here, enough, rest, all)

-- ---- what is owed at a label

label_dues : (facts : Facts) (entries : List Entry) (turns : ℤ → ℕ) → ArePairs entries
    → entries_hold facts entries ≡ true → list_all (is_whole facts) entries ≡ true
    → dues (entry_fact entries) (label_turns facts entries turns) ≤ dues facts turns + sum_by (price facts) entries
unfolding dues
label_dues facts entries turns pairs hold whole =
    let due = dues_at_from facts (entry_fact entries) turns (λ k. entries_said facts entries k hold)
    (neg_ℤ (pos farthest_word)) (2 * farthest_word) in
    let less = entered_entries facts entries (neg_ℤ (pos farthest_word)) (2 * farthest_word) pairs hold whole in
    omega (arith, due, less)

-- A state that is below a label owes no more as the label's: the cost that `below` reports covers the loops that are
-- entered.
pub label_owed : (s : State) (t : Label) (paid : ℕ) (act : Activation) → ArePairs t.entries → below s t ≡ Ok paid
    → owed (label_state t) (at_label s t act) ≤ owed s act
label_owed s t paid act pairs is =
    let b = below_tells s t paid is in
    let due = label_dues s.frame t.entries act.turns pairs b.1.entries b.1.whole in
    omega (arith, b.0, due)

-- ---- a turn that begins

-- the turns left, where the loop whose index is in word k has one less
abbrev pub one_turn_less : (ℤ → ℕ) → ℤ → ℤ → ℕ
one_turn_less turns k = λ j. cond (is_same_number k j) (turns j - 1) (turns j)

-- what is paid once in a stretch of words is paid in full where the word lies in the stretch
once_there : (first : ℤ) (paid : ℕ) (word : ℤ) (more : ℕ) → word ≤ℤ first → first <ℤ (word +ℤ pos more)
    → once_from first paid word more ≡ paid
once_there first paid word zero low high = absurd (omega (arith, ints))
once_there first paid word (suc more) low high = elim (word_test first word) [
  | inl p ↦ once_at first paid word more p.1 p.0
  | inr p ↦
      let none : once first paid word ≡ 0 = ap (λ (b : Bool). cond b paid 0) p.0 in
      let differ : word ≡ first → ⊥ = λ e. p.1 (sym e) in
      let rest = once_there first paid (word +ℤ pos 1) more (above word first low differ) (omega (arith, ints)) in
      omega (arith, none, rest)
]
  where
    above : (word first : ℤ) → word ≤ℤ first → (word ≡ first → ⊥) → (word +ℤ pos 1) ≤ℤ first
    above word first low differ = elim (int_le_tells first word) [
      | inl p ↦ let high : first ≤ℤ word = p.1 in absurd (differ (omega (arith, ints)))
      | inr p ↦ let more : word <ℤ first = p.1 in omega (arith, ints)
    ]

-- one turn more costs the weight
one_weight : (weight turns : ℕ) → 2 ≤ turns → weight * (turns - 1 - 1) + weight ≡ weight * (turns - 1)
one_weight weight zero some = absurd (omega arith)
one_weight weight (suc zero) some = absurd (omega arith)
one_weight weight (suc (suc turns)) some =
    let less : suc (suc turns) - 1 - 1 ≡ turns = omega arith in
    let one : suc turns ≡ suc (suc turns) - 1 = omega arith in
    ap (λ (n : ℕ). weight * n + weight) less ∙ (sym (mul-suc weight turns) ∙ ap (λ (n : ℕ). weight * n) one)

turned_from : (facts : Facts) (turns : ℤ → ℕ) (k : ℤ) (loop : CountedLoop) → facts k ≡ Index loop → 2 ≤ turns k
    → (word : ℤ) (more : ℕ)
    → dues_from facts (one_turn_less turns k) word more + once_from k loop.weight word more
    ≡ dues_from facts turns word more
turned_from facts turns k loop is some word zero = refl
turned_from facts turns k loop is some word (suc more) =
    let rest = turned_from facts turns k loop is some (word +ℤ pos 1) more in
    elim (word_test k word) [
      | inl p ↦
          let paid : once k loop.weight word ≡ loop.weight = ap (λ (b : Bool). cond b loop.weight 0) p.0 in
          let fact : facts word ≡ Index loop = ap facts (sym p.1) ∙ is in
          let less : one_turn_less turns k word ≡ turns word - 1 =
          ap (λ (b : Bool). cond b (turns word - 1) (turns word)) p.0 in
          let enough : 2 ≤ turns word = subst (λ (j : ℤ). 2 ≤ turns j) p.1 some in
          let after : loop_due (facts word) (one_turn_less turns k word) ≡ loop.weight * (turns word - 1 - 1) =
          ap (λ (f : WordFact). loop_due f (one_turn_less turns k word)) fact
          ∙ ap (λ (n : ℕ). loop.weight * (n - 1)) less in
          let before : loop_due (facts word) (turns word) ≡ loop.weight * (turns word - 1) =
          ap (λ (f : WordFact). loop_due f (turns word)) fact in
          let weight = one_weight loop.weight (turns word) enough in
          omega (arith, rest, paid, after, before, weight)
      | inr p ↦
          let none : once k loop.weight word ≡ 0 = ap (λ (b : Bool). cond b loop.weight 0) p.0 in
          let same : loop_due (facts word) (one_turn_less turns k word) ≡ loop_due (facts word) (turns word) =
          ap (λ (b : Bool). loop_due (facts word) (cond b (turns word - 1) (turns word))) p.0 in
          omega (arith, rest, none, same)
    ]

stretch : (k : ℤ) → k <ℤ pos farthest_word → k <ℤ (neg_ℤ (pos farthest_word) +ℤ pos (2 * farthest_word))
unfolding farthest_word
stretch k high = omega (arith, ints)

-- Where a loop turns, less is due by its weight.
pub turned_dues : (facts : Facts) (turns : ℤ → ℕ) (k : ℤ) (loop : CountedLoop) → facts k ≡ Index loop → 2 ≤ turns k
    → neg_ℤ (pos farthest_word) ≤ℤ k → k <ℤ pos farthest_word
    → dues facts (one_turn_less turns k) + loop.weight ≡ dues facts turns
unfolding dues
turned_dues facts turns k loop is some low high =
    let first = neg_ℤ (pos farthest_word) in
    let paid = once_there k loop.weight first (2 * farthest_word) low (stretch k high) in
    ap (λ (n : ℕ). dues_from facts (one_turn_less turns k) first (2 * farthest_word) + n) (sym paid)
    ∙ turned_from facts turns k loop is some first (2 * farthest_word)
