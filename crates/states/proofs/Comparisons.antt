-- One map of facts against another, by entries and by words.
use Rattle.std.proofs.Common.{◌≡◌, ℕ, zero, suc, ◌+◌, ◌-◌, ◌/◌, ◌%◌, ◌^◌, ◌<◌, ℤ, pos, negsuc, ◌+ℤ◌, ◌-ℤ◌, ◌<ℤ◌}
use Rattle.std.proofs.Common.{nat_abs}
use Rattle.std.proofs.Common.{Bool, true, false, cond, eqb, List, [], ◌∷◌, length, get_or, Option, Some, None, refl}
use Rattle.std.proofs.Common.{sym, ap, subst, ◌∙◌, arith, ◌⊎◌, inl, inr}
use Rattle.std.specs.Prelude.{option_map, unwrap_or, is_some}
use Rattle.std.proofs.lemmas.Nat.{div-add-mod'}
use Rattle.std.proofs.Math.Nat.{mod-lt}
use Rattle.std.proofs.lemmas.List.{get_or_default, get_or_past}
use Rattle.std.proofs.lemmas.Bool.{cases_eq, cases_lt, cases_Bool, and_parts, and_from}
use Rattle.std.proofs.lemmas.Bool.Decides.{nat_tests}
use Rattle.std.proofs.lemmas.Int.{ints, by_lt_z}
use Rattle.module_format.specs.Rows.{Fact}
use Rattle.module_format.specs.declared.fact.Fact.TheVariants.{Unknown, Number, Pointer, CodeAddress, Loop}
use Rattle.module_format.specs.declared.fact.Fact.TheVariants.{ReturnAddress}
use Rattle.module_format.specs.Rows.{Entry}
use Rattle.states.specs.declared.overlay.Written.{Written}
use Rattle.states.specs.Lookup.{lookup, fact_of_index, facts_over}
use Rattle.states.specs.declared.blocks.Block.{Block}
use Rattle.states.specs.declared.span.Leaving.{Leaving}
use Rattle.states.specs.Blocks.{block_words, no_block, block_numbered, first_of, fact_left_by, leaving_at, facts_left}
use Rattle.states.specs.declared.known.WordFact.{WordFact}
use Rattle.states.specs.declared.known.WordFact.TheVariants.{Alone}
use Rattle.states.specs.State.{Facts, by_itself, is_same_number, is_about, said_of, entry_fact}
use Rattle.states.specs.Below.{implies, says, words_say, entries_hold}
use Rattle.module_format.specs.Order.{least_word}
use Rattle.module_format.specs.Facts.{end_of}
use Rattle.states.specs.Rows.{rise_from, AreApart}
use Rattle.states.specs.Comparing.{SaysAll, SaysLess, OneSaysAll, WrittenSaysAll, BlockSaysAll, LeftSaysAll}
use Rattle.states.proofs.RowFacts.{before, within, behind, lies, about-before, about-behind}
use Rattle.states.proofs.RowFacts.{rise-parts, unknown-below, entry_fact-within}
use Rattle.states.proofs.FrameFacts.{distance, is_word-same, is_word-below}
use Rattle.states.proofs.Loops.{some-words}

pub implies-unknown : (fact : Fact) → implies fact Unknown ≡ true
implies-unknown Unknown = refl
implies-unknown (Number lo hi) = refl
implies-unknown (Pointer region lo hi step) = refl
implies-unknown (CodeAddress offset) = refl
implies-unknown (Loop base count weight) = refl
implies-unknown ReturnAddress = refl

pub says-unknown : (fact : WordFact) → says fact (Alone Unknown) ≡ true
says-unknown fact = implies-unknown (by_itself fact)

-- ---- the words of an entry

-- a word of an entry is its first word, or another one
pub first-test : (word : ℤ) (n : ℕ) → is_same_number word (word +ℤ pos n) ≡ eqb n 0
first-test word zero = is_word-same word (word +ℤ pos 0) (omega (arith, ints))
first-test word (suc n) =
    let no : eqb (suc n) 0 ≡ false = grind (arith, nat_tests) in
    is_word-below word (word +ℤ pos (suc n)) (omega (arith, ints)) ∙ sym no

pub words_say-each : (facts : Facts) (entry : Entry) (span : ℕ)
    → ((n : ℕ) → n < span → says (facts (entry.word +ℤ pos n)) (said_of entry.fact (eqb n 0)) ≡ true)
    → words_say facts entry span ≡ true
words_say-each facts entry zero each = refl
words_say-each facts entry (suc n) each =
    and_from _ _ (each n (omega arith)) (words_say-each facts entry n (λ m h. each m (omega arith)))

words_say-at : (facts : Facts) (entry : Entry) (span n : ℕ) → words_say facts entry span ≡ true → n < span
    → says (facts (entry.word +ℤ pos n)) (said_of entry.fact (eqb n 0)) ≡ true
words_say-at facts entry zero n h l = absurd (omega arith)
words_say-at facts entry (suc m) n h l =
    let p : (says (facts (entry.word +ℤ pos m)) (said_of entry.fact (eqb m 0)) ≡ true)
    × (words_say facts entry m ≡ true) = and_parts _ _ h in
    elim (cases_lt n m) [
      | inl low ↦ words_say-at facts entry m n p.1 low
      | inr high ↦ let same : n ≡ m =
          omega arith in ap (λ j. says (facts (entry.word +ℤ pos j)) (said_of entry.fact (eqb j 0))) same ∙ p.0
    ]

-- one of the words says less
pub words_say-fails : (facts : Facts) (entry : Entry) (k : ℤ) (span n : ℕ) (fact wanted : WordFact)
    → k ≡ entry.word +ℤ pos n → n < span → fact ≡ facts k → wanted ≡ said_of entry.fact (eqb n 0)
    → says fact wanted ≡ false → words_say facts entry span ≡ false
words_say-fails facts entry k span n fact wanted at low fact_is wanted_is fails =
    elim (cases_Bool (words_say facts entry span)) [
      | inl e ↦
          let holds : says fact wanted ≡ true =
          ap (λ (f : WordFact). says f wanted) (fact_is ∙ ap facts at)
          ∙ (ap (says (facts (entry.word +ℤ pos n))) wanted_is ∙ words_say-at facts entry span n e low) in
          let clash : true ≡ false = sym holds ∙ fails in
          absurd (cc)
      | inr e ↦ e
    ]

-- one more of the words
pub words_say-more : (facts : Facts) (entry : Entry) (k : ℤ) (n m : ℕ) (fact wanted : WordFact)
    → k ≡ entry.word +ℤ pos n → m ≡ suc n → fact ≡ facts k → wanted ≡ said_of entry.fact (eqb n 0)
    → says fact wanted ≡ true → words_say facts entry n ≡ true → words_say facts entry m ≡ true
words_say-more facts entry k n m fact wanted at m_is fact_is wanted_is holds earlier =
    ap (words_say facts entry) m_is
    ∙ and_from _ _
    (ap (says (facts (entry.word +ℤ pos n))) (sym wanted_is)
    ∙ (ap (λ (f : WordFact). says f wanted) (sym (fact_is ∙ ap facts at)) ∙ holds))
    earlier

-- ---- the words of a row

-- what is said by the rest of a row
says-rest : (facts : Facts) (entry : Entry) (entries : List Entry) (k : ℤ) → is_about entry k ≡ false
    → says (facts k) (entry_fact entries k) ≡ true → says (facts k) (entry_fact (entry ∷ entries) k) ≡ true
says-rest facts entry entries k none h =
    ap (λ b. says (facts k) (cond b (said_of entry.fact (is_same_number entry.word k)) (entry_fact entries k))) none ∙ h

pub entries_hold-says : (facts : Facts) (entries : List Entry) → entries_hold facts entries ≡ true
    → SaysAll facts (entry_fact entries)
entries_hold-says facts [] h = λ k. says-unknown (facts k)
entries_hold-says facts (entry ∷ entries) h = λ k.
    let p : (words_say facts entry entry.span ≡ true) × (entries_hold facts entries ≡ true) = and_parts _ _ h in
    let rest = entries_hold-says facts entries p.1 k in
    elim (lies entry k) [
      | before b ↦ says-rest facts entry entries k (about-before entry k b) rest
      | within l b ↦
          let n = nat_abs (k -ℤ entry.word) in
          let far = distance k entry.word n l refl in
          let inside : n < entry.span = omega (arith, ints) in
          let at = words_say-at facts entry entry.span n p.0 inside in
          ap (says (facts k)) (entry_fact-within k entry entries l b)
          ∙ (ap (λ j. says (facts j) (said_of entry.fact (is_same_number entry.word j))) far
          ∙ (ap (λ c. says (facts (entry.word +ℤ pos n)) (said_of entry.fact c)) (first-test entry.word n) ∙ at))
      | behind l b ↦ says-rest facts entry entries k (about-behind entry k b) rest
    ]

says-entries_hold : (low : ℤ) (facts : Facts) (entries : List Entry) → rise_from low entries ≡ true
    → SaysAll facts (entry_fact entries) → entries_hold facts entries ≡ true
says-entries_hold low facts [] r h = refl
says-entries_hold low facts (entry ∷ entries) r h =
    let p = rise-parts low entry entries r in
    and_from _ _
    (words_say-each facts entry entry.span (λ n l.
    let k = entry.word +ℤ pos n in
    ap (λ c. says (facts k) (said_of entry.fact c)) (sym (first-test entry.word n))
    ∙ (sym (ap (says (facts k)) (entry_fact-within k entry entries (omega (arith, ints)) (omega (arith, ints))))
    ∙ h k)))
    (says-entries_hold (end_of entry) facts entries p.1 (λ k. by_lt_z k (end_of entry)
    (λ l. ap (says (facts k)) (unknown-below (end_of entry) k entries p.1 l) ∙ says-unknown (facts k))
    (λ l. sym (ap (λ b. says (facts k)
    (cond b (said_of entry.fact (is_same_number entry.word k)) (entry_fact entries k)))
    (about-behind entry k l)) ∙ h k)))

pub entries_hold-true : (facts : Facts) (entries : List Entry) → AreApart entries → SaysAll facts (entry_fact entries)
    → entries_hold facts entries ≡ true
entries_hold-true facts entries apart h = says-entries_hold least_word facts entries apart h

pub entries_hold-false : (facts : Facts) (entries : List Entry) → SaysLess facts (entry_fact entries)
    → entries_hold facts entries ≡ false
entries_hold-false facts entries h = elim (cases_Bool (entries_hold facts entries)) [
  | inl e ↦ let clash : true ≡ false = sym (entries_hold-says facts entries e h.0) ∙ h.1 in absurd (cc)
  | inr e ↦ e
]

-- ---- what was changed, over a row

-- What is known of a word says what is wanted, where that of a word that was left or written does, and what the row
-- says or what is known does.
combined-at : (left : Option Leaving) (o : Option Fact) (said wanted : WordFact)
    → ((leaving : Leaving) → left ≡ Some leaving
    → says (fact_left_by left (unwrap_or (option_map Alone o) said)) wanted ≡ true)
    → ((f : Fact) → o ≡ Some f → says (fact_left_by left (unwrap_or (option_map Alone o) said)) wanted ≡ true)
    → (says said wanted ≡ true) ⊎ (says (fact_left_by left (unwrap_or (option_map Alone o) said)) wanted ≡ true)
    → says (fact_left_by left (unwrap_or (option_map Alone o) said)) wanted ≡ true
combined-at (Some leaving) o said wanted left written h = left leaving refl
combined-at None (Some f) said wanted left written h = written f refl
combined-at None None said wanted left written h = elim h [ inl p ↦ p | inr p ↦ p ]

pub says-combined : (lo : ℤ) (row : List Entry) (written : List Written) (blocks : List Block) (wanted : Facts)
    → WrittenSaysAll written lo (facts_left lo blocks (facts_over lo row written)) wanted
    → LeftSaysAll blocks lo (facts_left lo blocks (facts_over lo row written)) wanted
    → OneSaysAll (entry_fact row) (facts_left lo blocks (facts_over lo row written)) wanted
    → SaysAll (facts_left lo blocks (facts_over lo row written)) wanted
unfolding facts_left
says-combined lo row written blocks wanted w l o = λ k.
    combined-at (leaving_at blocks (k -ℤ lo)) (fact_of_index written (k -ℤ lo)) (entry_fact row k) (wanted k) (l k)
    (w k) (o k)

-- ---- words that are asked one by one

-- one more of a block's words
pub block-more : (first : ℤ) (facts wanted : Facts) (n : ℕ) → BlockSaysAll first facts wanted n
    → says (facts (first +ℤ pos n)) (wanted (first +ℤ pos n)) ≡ true → BlockSaysAll first facts wanted (n + 1)
block-more first facts wanted n earlier here = λ j h. elim (cases_lt j n) [
  | inl l ↦ earlier j l
  | inr l ↦
      let same : j ≡ n = omega arith in
      ap (λ (i : ℕ). says (facts (first +ℤ pos i)) (wanted (first +ℤ pos i))) same ∙ here
]

-- of each word of the first `count` blocks that was left, at least what is wanted is known
abbrev pub BlocksSay : List Block → ℤ → Facts → Facts → ℕ → Type 0
BlocksSay blocks lo facts wanted count =
    (n : ℕ) → n < count → is_some (block_numbered blocks n).left ≡ true
    → BlockSaysAll (first_of lo n) facts wanted block_words

-- one block more
pub blocks-more : (blocks : List Block) (lo : ℤ) (facts wanted : Facts) (n : ℕ) → BlocksSay blocks lo facts wanted n
    → (is_some (block_numbered blocks n).left ≡ true → BlockSaysAll (first_of lo n) facts wanted block_words)
    → BlocksSay blocks lo facts wanted (n + 1)
blocks-more blocks lo facts wanted n earlier here = λ m h. elim (cases_lt m n) [
  | inl l ↦ earlier m l
  | inr l ↦
      let same : m ≡ n = omega arith in
      λ left. subst (λ (i : ℕ). BlockSaysAll (first_of lo i) facts wanted block_words) (sym same)
      (here (ap (λ (i : ℕ). is_some (block_numbered blocks i).left) (sym same) ∙ left))
]

-- each word that was left is one of a block's
pub left-says : (blocks : List Block) (lo : ℤ) (facts wanted : Facts)
    → BlocksSay blocks lo facts wanted (length blocks) → LeftSaysAll blocks lo facts wanted
left-says blocks lo facts wanted each = λ k leaving left. on k (k -ℤ lo) leaving refl left
  where
    on : (k z : ℤ) (leaving : Leaving) → k -ℤ lo ≡ z → leaving_at blocks z ≡ Some leaving
        → says (facts k) (wanted k) ≡ true
    on k (pos index) leaving at left = elim (cases_lt (index / block_words) (length blocks)) [
      | inl low ↦
          let both = div-add-mod' index block_words in
          let rest : index % block_words < block_words = mod-lt index some-words in
          let word : first_of lo (index / block_words) +ℤ pos (index % block_words) ≡ k =
          omega (arith, ints, at, both) in
          ap (λ (j : ℤ). says (facts j) (wanted j)) (sym word)
          ∙ each (index / block_words) low (ap is_some left) (index % block_words) rest
      | inr high ↦
          let none = ap (λ (b : Block). b.left) (get_or_past blocks (index / block_words) no_block high) in
          let clash : None ≡ Some leaving = sym none ∙ left in
          absurd (cc)
    ]
    on k (negsuc n) leaving at left = absurd (cc)

-- ---- the list of what was written

-- of the words of the first `n` items of the list, at least what is wanted is known
abbrev pub ItemsSay : List Written → ℕ → ℤ → Facts → Facts → Type 0
ItemsSay written n lo facts wanted = (i : ℕ) → i < n → (d : Written)
    → says (facts (lo +ℤ pos ((get_or written i d).index))) (wanted (lo +ℤ pos ((get_or written i d).index))) ≡ true

-- what was asked of an item
pub item-holds : (facts wanted : Facts) (lo word : ℤ) (index : ℕ) (fact : Fact) (asked : Bool)
    → word ≡ lo +ℤ pos index → Alone fact ≡ facts (lo +ℤ pos index) → asked ≡ says (Alone fact) (wanted word)
    → asked ≡ true → says (facts (lo +ℤ pos index)) (wanted (lo +ℤ pos index)) ≡ true
item-holds facts wanted lo word index fact asked word_is fact_is is holds =
    ap (λ (f : WordFact). says f (wanted (lo +ℤ pos index))) (sym fact_is)
    ∙ (ap (λ (j : ℤ). says (Alone fact) (wanted j)) (sym word_is) ∙ (sym is ∙ holds))

-- one item more
pub items-more : (written : List Written) (n : ℕ) (lo : ℤ) (facts wanted : Facts) (e : Written) → n < length written
    → ItemsSay written n lo facts wanted
    → says (facts (lo +ℤ pos ((get_or written n e).index))) (wanted (lo +ℤ pos ((get_or written n e).index))) ≡ true
    → ItemsSay written (n + 1) lo facts wanted
items-more written n lo facts wanted e low earlier here = λ i h d. elim (cases_lt i n) [
  | inl l ↦ earlier i l d
  | inr l ↦
      let same : i ≡ n = omega arith in
      let item : get_or written i d ≡ get_or written n e =
      ap (λ j. get_or written j d) same ∙ get_or_default written n d e low in
      ap (λ (w : Written). says (facts (lo +ℤ pos w.index)) (wanted (lo +ℤ pos w.index))) item ∙ here
]

-- what is found is in the list
found-at : (written : List Written) (index : ℕ) (fact : Fact) (d : Written) → lookup written index ≡ Some fact
    → (i : ℕ) × (i < length written) × ((get_or written i d).index ≡ index) × ((get_or written i d).fact ≡ fact)
found-at [] index fact d h = absurd (cc)
found-at (w ∷ ws) index fact d h = elim (cases_eq w.index index) [
  | inl e ↦
      let first : eqb w.index index ≡ true = grind (arith, nat_tests) in
      let same : Some (w.fact) ≡ Some fact = sym (ap (λ b. cond b (Some w.fact) (lookup ws index)) first) ∙ h in
      let fact_is : w.fact ≡ fact = cc in
      (0, omega arith, e, fact_is)
  | inr e ↦
      let later : eqb w.index index ≡ false = grind (arith, nat_tests) in
      let r = found-at ws index fact d (sym (ap (λ b. cond b (Some w.fact) (lookup ws index)) later) ∙ h) in
      (suc r.0, omega (arith, r.1), r.2, r.3)
]

index-found : (written : List Written) (z : ℤ) (fact : Fact) → fact_of_index written z ≡ Some fact
    → (index : ℕ) × (z ≡ pos index) × (lookup written index ≡ Some fact)
index-found written (pos n) fact h = (n, refl, h)
index-found written (negsuc n) fact h = absurd (cc)

pub written-says : (written : List Written) (lo : ℤ) (facts wanted : Facts) (d : Written)
    → ItemsSay written (length written) lo facts wanted → WrittenSaysAll written lo facts wanted
written-says written lo facts wanted d each = λ k fact h.
    let i = index-found written (k -ℤ lo) fact h in
    let f = found-at written i.0 fact d i.2 in
    let word : lo +ℤ pos ((get_or written f.0 d).index) ≡ k = let same = f.2 in let index =
    i.1 in omega (arith, ints) in
    ap (λ (j : ℤ). says (facts j) (wanted j)) (sym word) ∙ each f.0 f.1 d

-- ---- how far a word is from the greatest number

abbrev pub ahead : ℤ → ℕ
ahead (pos n) = 2 ^ 63 - n
ahead (negsuc n) = 2 ^ 63 + suc n

pub ahead-falls : (a b : ℤ) → a <ℤ b → b <ℤ pos (2 ^ 63) → ahead b < ahead a
ahead-falls (pos m) (pos n) h l = omega (arith, ints)
ahead-falls (pos m) (negsuc n) h l = absurd (omega (arith, ints))
ahead-falls (negsuc m) (pos n) h l = omega (arith, ints)
ahead-falls (negsuc m) (negsuc n) h l = omega (arith, ints)
