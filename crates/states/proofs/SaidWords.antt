-- What the entries of a row want of the words of a block, one entry after the other.
use Rattle.std.proofs.Common.{◌≡◌, ℕ, ◌*◌, ℤ, pos, ◌+ℤ◌, ◌≤ℤ◌, ◌<ℤ◌, true, List, [], ◌∷◌, refl, ap, ◌∙◌, subst, arith}
use Rattle.std.proofs.Common.{◌⊎◌, inl, inr, ◌+◌, ◌/◌, ◌-ℤ◌, nat_abs, Option, Some, None, IfSome}
use Rattle.std.proofs.lemmas.Int.{ints, by_lt_z}
use Rattle.module_format.specs.Rows.{Entry}
use Rattle.module_format.specs.Order.{least_word}
use Rattle.module_format.specs.Facts.{end_of}
use Rattle.module_format.specs.declared.fact.Fact.TheVariants.{Unknown}
use Rattle.states.specs.declared.known.WordFact.{WordFact}
use Rattle.states.specs.declared.known.WordFact.TheVariants.{Alone}
use Rattle.states.specs.State.{Facts, is_same_number, said_of, entry_fact}
use Rattle.states.specs.Below.{says}
use Rattle.states.specs.Blocks.{block_words, first_of}
use Rattle.states.specs.Comparing.{BlockSaysAll}
use Rattle.states.specs.Rows.{AreApart}
use Rattle.states.proofs.BlockSums.{number-of}
use Rattle.states.proofs.Comparisons.{says-unknown}
use Rattle.states.proofs.FrameFacts.{distance}
use Rattle.states.proofs.RowFacts.{before, within, behind, lies, about-before, about-behind, entry_fact-before}
use Rattle.states.proofs.RowFacts.{entry_fact-within}

-- what holds anyway holds if there is some number
pub if-some : (P : Type 0) (o : Option ℕ) → P → IfSome o (λ x. P)
if-some P None h = tt
if-some P (Some n) h = h

-- the index of a word of a block
pub index-in : (lo k : ℤ) (number : ℕ) → first_of lo number ≤ℤ k → k <ℤ (first_of lo number +ℤ pos block_words)
    → (n : ℕ) × (k -ℤ lo ≡ pos n) × (n / block_words ≡ number)
index-in lo k number low high =
    let j = nat_abs (k -ℤ first_of lo number) in
    let far = distance k (first_of lo number) j low refl in (
      number * block_words + j,
      omega (arith, ints, far),
      number-of (number * block_words + j) number block_words (omega arith) (omega (arith, ints, far, high)),
    )

-- a word more
pub word-more : (P : ℤ → Type 0) (first word next : ℤ) → next ≡ word +ℤ pos 1
    → ((k : ℤ) → first ≤ℤ k → k <ℤ word → P k) → P word → (k : ℤ) → first ≤ℤ k → k <ℤ next → P k
word-more P first word next next_is earlier here = λ k low high.
    by_lt_z k word (λ l. earlier k low l)
    (λ l. let same : word ≡ k = omega (arith, ints, next_is, high, l) in subst P same here)

-- of some words of a row so far what is wanted is known
abbrev pub SaidSoFar : Facts → List Entry → List Entry → ℤ → ℤ → Type 0
SaidSoFar facts row rest first end =
    (k : ℤ) → first ≤ℤ k → k <ℤ end
    → (entry_fact row k ≡ entry_fact rest k) ⊎ (says (facts k) (entry_fact row k) ≡ true)

-- what an entry wants is known of those of some words that it is about
abbrev pub EntrySays : Facts → List Entry → Entry → ℤ → ℤ → Type 0
EntrySays facts row entry first end =
    (k : ℤ) → first ≤ℤ k → k <ℤ end → entry.word ≤ℤ k → k <ℤ end_of entry
    → entry_fact row k ≡ said_of entry.fact (is_same_number entry.word k)
    → says (facts k) (said_of entry.fact (is_same_number entry.word k)) ≡ true

-- an entry more
pub said-more : (facts : Facts) (row rest : List Entry) (entry : Entry) (later : List Entry) (first end : ℤ)
    → rest ≡ entry ∷ later → EntrySays facts row entry first end → SaidSoFar facts row rest first end
    → SaidSoFar facts row later first end
said-more facts row rest entry later first end is here so_far = λ k low high. elim (so_far k low high) [
  | inl same ↦
      let there : entry_fact row k ≡ entry_fact (entry ∷ later) k =
      same ∙ ap (λ (es : List Entry). entry_fact es k) is in
      elim (lies entry k) [
        | before b ↦ inl (there ∙ rw (about-before entry k b) refl)
        | within l b ↦
            let wanted = there ∙ entry_fact-within k entry later l b in
            inr (ap (says (facts k)) wanted ∙ here k low high l b wanted)
        | behind l b ↦ inl (there ∙ rw (about-behind entry k b) refl)
      ]
  | inr h ↦ inr h
]

-- nothing is wanted of a word
unwanted : (facts : Facts) (k : ℤ) (wanted : WordFact) → wanted ≡ Alone Unknown → says (facts k) wanted ≡ true
unwanted facts k wanted is = ap (says (facts k)) is ∙ says-unknown (facts k)

-- the next entry begins after these words
pub said-before : (facts : Facts) (row rest : List Entry) (entry : Entry) (later : List Entry) (first end : ℤ)
    → AreApart rest → rest ≡ entry ∷ later → end ≤ℤ entry.word → SaidSoFar facts row rest first end
    → (k : ℤ) → first ≤ℤ k → k <ℤ end → says (facts k) (entry_fact row k) ≡ true
said-before facts row rest entry later first end apart is ends so_far = λ k low high. elim (so_far k low high) [
  | inl same ↦ unwanted facts k (entry_fact row k) (same ∙ (ap (λ (es : List Entry). entry_fact es k) is
      ∙ entry_fact-before least_word k entry later (subst (λ (es : List Entry). AreApart es) is apart)
      (omega (arith, ints, high, ends))))
  | inr h ↦ h
]

-- all entries
pub said-done : (facts : Facts) (row rest : List Entry) (first end : ℤ) → rest ≡ []
    → SaidSoFar facts row rest first end
    → (k : ℤ) → first ≤ℤ k → k <ℤ end → says (facts k) (entry_fact row k) ≡ true
said-done facts row rest first end is so_far = λ k low high. elim (so_far k low high) [
  | inl same ↦ unwanted facts k (entry_fact row k) (same ∙ ap (λ (es : List Entry). entry_fact es k) is)
  | inr h ↦ h
]

-- the words of a block
pub block-said : (facts wanted : Facts) (lo first end : ℤ) (number : ℕ) → first ≡ first_of lo number
    → end ≡ first +ℤ pos block_words
    → ((k : ℤ) → first ≤ℤ k → k <ℤ end → says (facts k) (wanted k) ≡ true)
    → BlockSaysAll (first_of lo number) facts wanted block_words
block-said facts wanted lo first end number first_is end_is all = λ j l.
    all (first_of lo number +ℤ pos j) (omega (arith, ints, first_is)) (omega (arith, ints, first_is, end_is, l))
