-- Words one after the other of which the same is known, and entries that hold by that.
use Rattle.std.proofs.Common.{◌≡◌, ℕ, suc, ◌+◌, ◌*◌, ◌-◌, ◌/◌, ℤ, pos, ◌+ℤ◌, ◌-ℤ◌, ◌≤ℤ◌, ◌<ℤ◌, true}
use Rattle.std.proofs.Common.{Bool, ◌&&◌, eqb, List, [], ◌∷◌, Option, Some, None, refl, sym, ap, ◌∙◌, subst, arith}
use Rattle.std.proofs.Common.{nat_abs, inl, inr}
use Rattle.std.specs.Prelude.{sum_by, option_map, unwrap_or}
use Rattle.std.specs.List.{list_all}
use Rattle.std.proofs.lemmas.List.Sums.{sum_by-cons}
use Rattle.std.proofs.lemmas.Int.{ints}
use Rattle.module_format.specs.Rows.{Fact, Entry}
use Rattle.module_format.specs.Facts.{end_of}
use Rattle.module_format.specs.Order.{least_word}
use Rattle.module_format.specs.declared.fact.Fact.TheVariants.{Unknown, Number, Pointer, CodeAddress, Loop}
use Rattle.module_format.specs.declared.fact.Fact.TheVariants.{ReturnAddress}
use Rattle.states.specs.declared.blocks.Block.{Block}
use Rattle.states.specs.declared.known.Loop.{Loop as CountedLoop}
use Rattle.states.specs.declared.known.WordFact.{WordFact}
use Rattle.states.specs.declared.known.WordFact.TheVariants.{Alone}
use Rattle.states.specs.declared.overlay.Written.{Written}
use Rattle.states.specs.declared.span.Leaving.{Leaving}
use Rattle.states.specs.declared.span.Leaving.TheVariants.{Become}
use Rattle.states.specs.declared.span.Together.{Together}
use Rattle.states.specs.State.{Facts, is_same_number, said_of, entry_fact}
use Rattle.states.specs.Below.{implies, is_exactly, says, words_say, entries_hold, is_whole, price}
use Rattle.states.specs.Blocks.{block_words, block_numbered, first_of, fact_left_by, leaving_at, left_fact, facts_left}
use Rattle.states.specs.Comparing.{loop_of, IsEntered}
use Rattle.states.specs.Lookup.{lookup, fact_of_index, facts_over}
use Rattle.states.specs.Rows.{AreApart}
use Rattle.states.specs.Runs.{IsAlike, IsPaidEntry, IsPassed}
use Rattle.states.specs.Spans.{of_none, with_one, together}
use Rattle.states.proofs.Comparisons.{words_say-each, first-test}
use Rattle.states.proofs.Entering.{loop-entered}
use Rattle.states.proofs.FrameFacts.{distance}
use Rattle.states.proofs.Hulls.{plain-said}
use Rattle.states.proofs.Leavings.{leaving-inside, together-alike}
use Rattle.states.proofs.RowFacts.{entry_fact-before, entry_fact-within}
use Rattle.states.proofs.SaidWords.{index-in}

-- ---- what a row says

-- a row without entries says nothing
pub alike-none : (row : List Entry) (word end : ℤ) → row ≡ [] → IsAlike (entry_fact row) word end Unknown
alike-none row word end none = λ k low high. ap (λ (es : List Entry). entry_fact es k) none

-- nor does one of the words before its first entry
pub alike-before : (row : List Entry) (entry : Entry) (later : List Entry) (word end : ℤ) → AreApart row
    → row ≡ entry ∷ later → end ≤ℤ entry.word → IsAlike (entry_fact row) word end Unknown
alike-before row entry later word end apart is ends = λ k low high.
    ap (λ (es : List Entry). entry_fact es k) is
    ∙ entry_fact-before least_word k entry later (subst (λ (es : List Entry). AreApart es) is apart)
    (omega (arith, ints, high, ends))

-- of the words of its first entry it says what that one says, if that is of no loop
pub alike-within : (row : List Entry) (entry : Entry) (later : List Entry) (word end : ℤ) → row ≡ entry ∷ later
    → entry.word ≤ℤ word → end ≤ℤ end_of entry → loop_of entry.fact ≡ None
    → IsAlike (entry_fact row) word end entry.fact
alike-within row entry later word end is begun ends none = λ k low high.
    ap (λ (es : List Entry). entry_fact es k) is
    ∙ (entry_fact-within k entry later (omega (arith, ints, low, begun)) (omega (arith, ints, high, ends))
    ∙ plain-said entry.fact (is_same_number entry.word k) none)

-- ---- what is known of words of a block

-- a word of a block of which no word was written
unwritten : (lo k : ℤ) (row : List Entry) (written : List Written) (blocks : List Block) (number : ℕ)
    → first_of lo number ≤ℤ k → k <ℤ (first_of lo number +ℤ pos block_words)
    → ((j : ℕ) → j / block_words ≡ number → lookup written j ≡ None)
    → facts_over lo row written k ≡ entry_fact row k
unwritten lo k row written blocks number low high none =
    let at = index-in lo k number low high in
    ap (λ (o : Option Fact). unwrap_or (option_map Alone o) (entry_fact row k))
    (ap (fact_of_index written) at.1 ∙ none at.0 at.2)

-- how the block of one of its words was left
left-there : (lo k : ℤ) (blocks : List Block) (number : ℕ) → first_of lo number ≤ℤ k
    → k <ℤ (first_of lo number +ℤ pos block_words)
    → leaving_at blocks (k -ℤ lo) ≡ (block_numbered blocks number).left
left-there lo k blocks number low high =
    let j = nat_abs (k -ℤ first_of lo number) in
    let far = distance k (first_of lo number) j low refl in
    leaving-inside blocks lo k number j (omega (arith, ints, far, high)) far

-- a fact of a word by itself, once it was left so
fact-left : (left : Option Leaving) (said : Fact) → fact_left_by left (Alone said) ≡ Alone (left_fact left said)
fact-left None said = refl
fact-left (Some leaving) said = refl

-- of words of a block none of which was written the same is known, where its row says the same
pub alike-left : (lo word last end : ℤ) (row : List Entry) (written : List Written) (blocks : List Block)
    (number : ℕ) (left : Option Leaving) (said known : Fact) → first_of lo number ≤ℤ word
    → last ≤ℤ (first_of lo number +ℤ pos block_words) → end ≤ℤ last → left ≡ (block_numbered blocks number).left
    → ((j : ℕ) → j / block_words ≡ number → lookup written j ≡ None)
    → IsAlike (entry_fact row) word end said → known ≡ left_fact left said
    → IsAlike (facts_left lo blocks (facts_over lo row written)) word end known
unfolding facts_left
alike-left lo word last end row written blocks number left said known begun ends within left_is none same known_is =
    λ k low high.
    let here : first_of lo number ≤ℤ k = omega (arith, ints, begun, low) in
    let there : k <ℤ (first_of lo number +ℤ pos block_words) = omega (arith, ints, ends, within, high) in
    ap (λ (o : Option Leaving). fact_left_by o (facts_over lo row written k))
    (left-there lo k blocks number here there ∙ sym left_is)
    ∙ (ap (fact_left_by left) (unwritten lo k row written blocks number here there none ∙ same k low high)
    ∙ (fact-left left said ∙ ap Alone (sym known_is)))

-- all words of a block that became one fact
pub alike-became : (lo word end : ℤ) (blocks : List Block) (facts : Facts) (number : ℕ) (left : Option Leaving)
    (fact : Fact) → first_of lo number ≤ℤ word → end ≤ℤ (first_of lo number +ℤ pos block_words)
    → left ≡ (block_numbered blocks number).left → left ≡ Some (Become fact)
    → IsAlike (facts_left lo blocks facts) word end fact
unfolding facts_left
alike-became lo word end blocks facts number left fact begun ends left_is is = λ k low high.
    ap (λ (o : Option Leaving). fact_left_by o (facts k))
    (left-there lo k blocks number (omega (arith, ints, begun, low)) (omega (arith, ints, ends, high))
    ∙ (sym left_is ∙ is))

-- what is known together of words of which the same is known
pub together-run : (facts : Facts) (word end : ℤ) (fact : Fact) (count : ℕ) (all : Together)
    → IsAlike facts word end fact → word <ℤ end → count ≡ nat_abs (end -ℤ word)
    → all ≡ with_one (Alone fact) of_none → all ≡ together facts word count
together-run facts word end fact count all same ahead count_is all_is =
    let far = distance end word count (omega (arith, ints, ahead)) count_is in
    let more : suc (count - 1) ≡ count = omega (arith, ints, far, ahead) in
    all_is
    ∙ (sym (together-alike facts word fact (count - 1)
    (λ j less. same (word +ℤ pos j) (omega (arith, ints)) (omega (arith, ints, far, less, more))))
    ∙ ap (together facts word) more)

-- ---- entries

-- an entry that wants no loop, of whose words what it wants is known
pub plain-words : (facts : Facts) (entry : Entry) → loop_of entry.fact ≡ None
    → ((k : ℤ) → entry.word ≤ℤ k → k <ℤ end_of entry → says (facts k) (Alone entry.fact) ≡ true)
    → words_say facts entry entry.span ≡ true
plain-words facts entry none each =
    words_say-each facts entry entry.span
    (λ n less. ap (says (facts (entry.word +ℤ pos n))) (plain-said entry.fact (eqb n 0) none)
    ∙ each (entry.word +ℤ pos n) (omega (arith, ints)) (omega (arith, ints, less)))

-- no loop is half known, and nothing is paid, where none is wanted
plain-whole : (facts : Facts) (entry : Entry) (fact : Fact) → entry.fact ≡ fact → loop_of fact ≡ None
    → (is_whole facts entry ≡ true) × (price facts entry ≡ 0)
plain-whole facts entry Unknown is none = (rw is refl, rw is refl)
plain-whole facts entry (Number lo hi) is none = (rw is refl, rw is refl)
plain-whole facts entry (Pointer region lo hi step) is none = (rw is refl, rw is refl)
plain-whole facts entry (CodeAddress offset) is none = (rw is refl, rw is refl)
plain-whole facts entry (Loop base count weight) is none = absurd (cc)
plain-whole facts entry ReturnAddress is none = (rw is refl, rw is refl)

-- an entry that wants no loop, of whose words the same is known, which says what it wants
pub plain-paid : (facts : Facts) (entry : Entry) (fact : Fact) → loop_of entry.fact ≡ None
    → implies fact entry.fact ≡ true → IsAlike facts entry.word (end_of entry) fact → IsPaidEntry facts entry 0
plain-paid facts entry fact none implied same =
    let both = plain-whole facts entry entry.fact refl none in
    record {
      words = plain-words facts entry none
          (λ k low high. ap (λ (f : WordFact). says f (Alone entry.fact)) (same k low high) ∙ implied);
      whole = both.0;
      due = both.1;
    }

-- an entry of which the words themselves say what it wants
pub entered-paid : (facts : Facts) (entry : Entry) (paid : ℕ) → IsEntered facts facts entry paid
    → IsPaidEntry facts entry paid
entered-paid facts entry paid entered = record {
  words = words_say-each facts entry entry.span
      (λ n less. ap (λ (b : Bool). says (facts (entry.word +ℤ pos n)) (said_of entry.fact b))
      (sym (first-test entry.word n))
      ∙ elim (entered.each (entry.word +ℤ pos n) (omega (arith, ints)) (omega (arith, ints, less))) [
        | inl h ↦ h
        | inr h ↦ h
      ]);
  whole = entered.whole;
  due = entered.due;
}

-- an entry of a loop whose words are known to be its first constants
pub loop-paid : (facts : Facts) (entry : Entry) (fact : Fact) (wanted : CountedLoop) (paid : ℕ)
    → loop_of entry.fact ≡ Some wanted → entry.span ≡ 2 → is_exactly fact wanted.base ≡ true
    → is_exactly fact (pos wanted.count) ≡ true → IsAlike facts entry.word (end_of entry) fact
    → paid ≡ wanted.weight * (wanted.count - 1) → IsPaidEntry facts entry paid
loop-paid facts entry fact wanted paid loop span base count same due =
    entered-paid facts entry paid
    (loop-entered facts facts entry wanted entry.word (entry.word +ℤ pos 1) (Alone fact) (Alone fact) paid loop span
    refl refl (sym (same entry.word (omega (arith, ints)) (omega (arith, ints, span))))
    (sym (same (entry.word +ℤ pos 1) (omega (arith, ints)) (omega (arith, ints, span))))
    (record { index = base; count = count; alike = refl; price = rw (base, count) (sym due) }))

-- an entry that wants no loop, of whose words what it wants is known
pub plain-entry : (facts : Facts) (entry : Entry) → loop_of entry.fact ≡ None
    → words_say facts entry entry.span ≡ true → IsPaidEntry facts entry 0
plain-entry facts entry none words =
    let both = plain-whole facts entry entry.fact refl none in
    record { words = words; whole = both.0; due = both.1 }

-- no entry is passed
pub passed-none : (facts : Facts) (row : List Entry) → IsPassed facts row row 0
passed-none facts row =
    let same : sum_by (price facts) row ≡ 0 + sum_by (price facts) row = omega arith in
    record { hold = refl; whole = refl; due = same }

-- an entry more is passed
pub passed-more : (facts : Facts) (row rest : List Entry) (entry : Entry) (later : List Entry)
    (paid cost sum : ℕ) → IsPassed facts row rest paid → rest ≡ entry ∷ later → IsPaidEntry facts entry cost
    → sum ≡ paid + cost → IsPassed facts row later sum
passed-more facts row rest entry later paid cost sum passed is holds sum_is =
    let hold : entries_hold facts rest ≡ entries_hold facts later =
    ap (entries_hold facts) is ∙ ap (λ (b : Bool). b && entries_hold facts later) holds.words in
    let whole : list_all (is_whole facts) rest ≡ list_all (is_whole facts) later =
    ap (list_all (is_whole facts)) is ∙ ap (λ (b : Bool). b && list_all (is_whole facts) later) holds.whole in
    let due : sum_by (price facts) rest ≡ cost + sum_by (price facts) later =
    ap (sum_by (price facts)) is ∙ (sum_by-cons (price facts) entry later
    ∙ ap (λ (n : ℕ). n + sum_by (price facts) later) holds.due) in
    let before = passed.due in
    record {
      hold = passed.hold ∙ hold;
      whole = passed.whole ∙ whole;
      due = omega (arith, before, due, sum_is);
    }

-- ---- words of a block of which some were written

-- how a block was left says as much of what was written to a word as of what is left of it
pub left-says : (left : Option Leaving) (fact wanted : Fact)
    → says (fact_left_by left (Alone fact)) (Alone wanted) ≡ implies (left_fact left fact) wanted
left-says left fact wanted = ap (λ (f : WordFact). says f (Alone wanted)) (fact-left left fact)

-- a word to which this was written, or nothing
pub mixed-word : (lo k : ℤ) (row : List Entry) (written : List Written) (blocks : List Block) (left : Option Leaving)
    (o : Option Fact) (wanted : Fact) → leaving_at blocks (k -ℤ lo) ≡ left → o ≡ fact_of_index written (k -ℤ lo)
    → says (fact_left_by left (unwrap_or (option_map Alone o) (entry_fact row k))) (Alone wanted) ≡ true
    → says (facts_left lo blocks (facts_over lo row written) k) (Alone wanted) ≡ true
unfolding facts_left
mixed-word lo k row written blocks left o wanted left_is is said =
    ap (λ (l : Option Leaving). says (fact_left_by l (facts_over lo row written k)) (Alone wanted)) left_is
    ∙ (ap (λ (f : Option Fact). says (fact_left_by left (unwrap_or (option_map Alone f) (entry_fact row k)))
    (Alone wanted)) (sym is) ∙ said)

-- how the block of some of its words was left
pub left-over : (lo word end : ℤ) (blocks : List Block) (number : ℕ) (left : Option Leaving)
    → first_of lo number ≤ℤ word → end ≤ℤ (first_of lo number +ℤ pos block_words)
    → left ≡ (block_numbered blocks number).left
    → (k : ℤ) → word ≤ℤ k → k <ℤ end → leaving_at blocks (k -ℤ lo) ≡ left
left-over lo word end blocks number left begun ends is = λ k low high.
    left-there lo k blocks number (omega (arith, ints, begun, low)) (omega (arith, ints, ends, high)) ∙ sym is
