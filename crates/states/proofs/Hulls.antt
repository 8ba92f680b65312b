-- What is known of words together, and of each of them.
use Rattle.std.proofs.Common.{◌≡◌, ℕ, zero, suc, ◌<◌, ℤ, pos, ◌+ℤ◌, ◌≤ℤ◌, ◌<ℤ◌, Bool, true, ◌&&◌}
use Rattle.std.proofs.Common.{List, [], ◌∷◌, ◌++◌, length, get_or, drop, None, refl, sym, ap, ◌∙◌, subst, arith, ◌⊎◌}
use Rattle.std.proofs.Common.{inl, inr, ◌-ℤ◌, nat_abs}
use Rattle.std.specs.Int.{int_min, int_max}
use Rattle.std.proofs.lemmas.Bool.{cases_lt, and_parts, and_from}
use Rattle.std.proofs.lemmas.Int.{ints, clamps}
use Rattle.small_laws.proofs.Comparisons.{le-int_le, int_le-true}
use Rattle.module_format.specs.Rows.{Fact, Entry}
use Rattle.module_format.specs.Order.{least_word}
use Rattle.module_format.specs.Facts.{end_of}
use Rattle.module_format.specs.declared.fact.Fact.TheVariants.{Unknown, Number, Pointer, CodeAddress, Loop}
use Rattle.module_format.specs.declared.fact.Fact.TheVariants.{ReturnAddress}
use Rattle.states.specs.declared.known.WordFact.{WordFact}
use Rattle.states.specs.declared.known.WordFact.TheVariants.{Alone}
use Rattle.states.specs.declared.span.Together.{Together}
use Rattle.states.specs.State.{Facts, by_itself, is_alone, handed_out, is_same_number, said_of, entry_fact}
use Rattle.states.specs.Below.{says, implies}
use Rattle.states.specs.Comparing.{BlockSaysAll, loop_of}
use Rattle.states.specs.Blocks.{block_words}
use Rattle.states.specs.Implied.{IsImplied, AllImplied, BlockImplied, WantsOnlyWithin}
use Rattle.states.specs.Rows.{rise_from, AreApart}
use Rattle.states.specs.Spans.{with_plain, together}
use Rattle.states.proofs.FrameFacts.{distance}
use Rattle.states.proofs.RowFacts.{before, within, behind, lies, about-before}
use Rattle.states.proofs.RowFacts.{rise-parts, about-behind, entry_fact-before, entry_fact-within, entry_fact-drop}

-- each fact says nothing
pub unknown-implied : (fact : Fact) → implies fact Unknown ≡ true
unknown-implied Unknown = refl
unknown-implied (Number lo hi) = refl
unknown-implied (Pointer region lo hi step) = refl
unknown-implied (CodeAddress offset) = refl
unknown-implied (Loop base count weight) = refl
unknown-implied ReturnAddress = refl

-- a range within another one implies what that one implies
pub implies-narrower : (lo hi low high : ℤ) (wanted : Fact) → low ≤ℤ lo → hi ≤ℤ high
    → implies (Number low high) wanted ≡ true → implies (Number lo hi) wanted ≡ true
implies-narrower lo hi low high Unknown a b h = refl
implies-narrower lo hi low high (Number from to) a b h =
    let both = and_parts _ _ h in
    let l = int_le-true from low both.0 in
    let r = int_le-true high to both.1 in
    and_from _ _ (le-int_le from lo (omega (arith, ints, l))) (le-int_le hi to (omega (arith, ints, r)))
implies-narrower lo hi low high (Pointer region from to step) a b h = absurd (cc)
implies-narrower lo hi low high (CodeAddress offset) a b h = absurd (cc)
implies-narrower lo hi low high (Loop base count weight) a b h = absurd (cc)
implies-narrower lo hi low high ReturnAddress a b h = absurd (cc)

-- what is implied by what is known of words together is implied by one of them and by the others together
one-more : (fact wanted : Fact) (t : Together) → (with_plain (handed_out fact) t).are_numbers ≡ true
    → implies (Number (with_plain (handed_out fact) t).lo (with_plain (handed_out fact) t).hi) wanted ≡ true
    → (implies fact wanted ≡ true) × (t.are_numbers ≡ true) × (implies (Number t.lo t.hi) wanted ≡ true)
one-more (Number lo hi) wanted t numbers h = (
  implies-narrower lo hi (int_min t.lo lo) (int_max t.hi hi) wanted (omega (arith, ints, clamps))
      (omega (arith, ints, clamps)) h,
  numbers,
  implies-narrower t.lo t.hi (int_min t.lo lo) (int_max t.hi hi) wanted (omega (arith, ints, clamps))
      (omega (arith, ints, clamps)) h,
)
one-more Unknown wanted t numbers h = absurd (cc)
one-more (Pointer region lo hi step) wanted t numbers h = absurd (cc)
one-more (CodeAddress offset) wanted t numbers h = absurd (cc)
one-more (Loop base count weight) wanted t numbers h = absurd (cc)
one-more ReturnAddress wanted t numbers h = absurd (cc)

pub together-implies : (facts : Facts) (first : ℤ) (n j : ℕ) (wanted : Fact)
    → (together facts first n).are_numbers ≡ true
    → implies (Number (together facts first n).lo (together facts first n).hi) wanted ≡ true → j < n
    → implies (by_itself (facts (first +ℤ pos j))) wanted ≡ true
together-implies facts first zero j wanted numbers h l = absurd (omega arith)
together-implies facts first (suc more) j wanted numbers h l =
    let t = together facts first more in
    let f = facts (first +ℤ pos more) in
    let next : Together = record t { are_alone = t.are_alone && is_alone f } in
    let both = one-more (by_itself f) wanted next numbers h in
    elim (cases_lt j more) [
      | inl low ↦ together-implies facts first more j wanted both.1 both.2 low
      | inr high ↦
          let same : j ≡ more = omega arith in
          ap (λ (i : ℕ). implies (by_itself (facts (first +ℤ pos i))) wanted) same ∙ both.0
    ]

-- so of words up to an end
pub together-each : (facts : Facts) (first end : ℤ) (count : ℕ) (t : Together) (wanted : Fact) (said : Bool)
    → t ≡ together facts first count → end ≡ first +ℤ pos count
    → said ≡ (t.are_numbers && implies (Number t.lo t.hi) wanted) → said ≡ true
    → (k : ℤ) → first ≤ℤ k → k <ℤ end → implies (by_itself (facts k)) wanted ≡ true
together-each facts first end count t wanted said is end_is said_is holds = λ k low high.
    let both = and_parts t.are_numbers (implies (Number t.lo t.hi) wanted) (sym said_is ∙ holds) in
    let j = nat_abs (k -ℤ first) in
    let far = distance k first j low refl in
    ap (λ (i : ℤ). implies (by_itself (facts i)) wanted) far
    ∙ together-implies facts first count j wanted (ap (λ (u : Together). u.are_numbers) (sym is) ∙ both.0)
    (ap (λ (u : Together). implies (Number u.lo u.hi) wanted) (sym is) ∙ both.1) (omega (arith, ints, far, high, end_is))

-- a block of which what is known together implies all that is wanted
pub sum-says : (facts wanted : Facts) (first : ℤ) (t : Together) → t ≡ together facts first block_words
    → t.are_numbers ≡ true → BlockImplied wanted first (Number t.lo t.hi) → BlockSaysAll first facts wanted block_words
sum-says facts wanted first t is numbers all = λ j l.
    let k = first +ℤ pos j in
    let here = all k (omega (arith, ints)) (omega (arith, ints, l)) in
    ap (says (facts k)) here.is
    ∙ together-implies facts first block_words j here.fact (ap (λ (u : Together). u.are_numbers) (sym is) ∙ numbers)
    (ap (λ (u : Together). implies (Number u.lo u.hi) here.fact) (sym is) ∙ here.implied) l

-- a fact that says nothing implies no other one
implied-nothing : (said wanted : Fact) → implies Unknown wanted ≡ true → implies said wanted ≡ true
implied-nothing said Unknown h = unknown-implied said
implied-nothing said (Number lo hi) h = absurd (cc)
implied-nothing said (Pointer region lo hi step) h = absurd (cc)
implied-nothing said (CodeAddress offset) h = absurd (cc)
implied-nothing said (Loop base count weight) h = absurd (cc)
implied-nothing said ReturnAddress h = absurd (cc)

-- a block of which nothing is wanted
pub nothing-says : (facts wanted : Facts) (first : ℤ) → BlockImplied wanted first Unknown
    → BlockSaysAll first facts wanted block_words
nothing-says facts wanted first all = λ j l.
    let k = first +ℤ pos j in
    let here = all k (omega (arith, ints)) (omega (arith, ints, l)) in
    ap (says (facts k)) here.is ∙ implied-nothing (by_itself (facts k)) here.fact here.implied

-- ---- the first and the last entry of a row

rises-to : (low : ℤ) (earlier : List Entry) (last : Entry) → rise_from low (earlier ++ last ∷ []) ≡ true
    → low ≤ℤ end_of last
rises-to low [] last rises = let p = rise-parts low last [] rises in let l = p.0 in omega (arith, ints, l)
rises-to low (entry ∷ earlier) last rises =
    let p = rise-parts low entry (earlier ++ last ∷ []) rises in
    let l = p.0 in
    let next = rises-to (end_of entry) earlier last p.1 in
    omega (arith, ints, l, next)

-- after the last entry nothing is said
unknown-after : (low k : ℤ) (earlier : List Entry) (last : Entry) → rise_from low (earlier ++ last ∷ []) ≡ true
    → end_of last ≤ℤ k → entry_fact (earlier ++ last ∷ []) k ≡ Alone Unknown
unknown-after low k [] last rises h = rw (about-behind last k h) refl
unknown-after low k (entry ∷ earlier) last rises h =
    let p = rise-parts low entry (earlier ++ last ∷ []) rises in
    let next = rises-to (end_of entry) earlier last p.1 in
    rw (about-behind entry k (omega (arith, ints, next, h))) (unknown-after (end_of entry) k earlier last p.1 h)

-- a row whose first entry begins no earlier than some words, and whose last one ends with them or before
pub within-ends : (row later earlier : List Entry) (lowest highest : Entry) (first end : ℤ) → AreApart row
    → row ≡ lowest ∷ later → row ≡ earlier ++ highest ∷ [] → first ≤ℤ lowest.word → end_of highest ≤ℤ end
    → WantsOnlyWithin (entry_fact row) first end
within-ends row later earlier lowest highest first end apart is last_is low high = λ k far. elim far [
  | inl l ↦ ap (λ (es : List Entry). entry_fact es k) is
      ∙ entry_fact-before least_word k lowest later (subst (λ (es : List Entry). AreApart es) is apart)
      (omega (arith, ints, l, low))
  | inr h ↦ ap (λ (es : List Entry). entry_fact es k) last_is
      ∙ unknown-after least_word k earlier highest (subst (λ (es : List Entry). AreApart es) last_is apart)
      (omega (arith, ints, h, high))
]

-- ---- the entries of some words

-- of some words of a row so far what is wanted is implied
abbrev pub ImpliedSoFar : List Entry → List Entry → ℤ → ℤ → Fact → Type 0
ImpliedSoFar row rest first end fact =
    (k : ℤ) → first ≤ℤ k → k <ℤ end → (entry_fact row k ≡ entry_fact rest k) ⊎ IsImplied fact (entry_fact row k)

pub plain-said : (wanted : Fact) (is_first : Bool) → loop_of wanted ≡ None → said_of wanted is_first ≡ Alone wanted
plain-said Unknown is_first h = refl
plain-said (Number lo hi) is_first h = refl
plain-said (Pointer region lo hi step) is_first h = refl
plain-said (CodeAddress offset) is_first h = refl
plain-said (Loop base count weight) is_first h = absurd (cc)
plain-said ReturnAddress is_first h = refl

-- an entry more, which ended before these words or wants no loop and is implied
pub implied-more : (row rest : List Entry) (entry : Entry) (later : List Entry) (first end : ℤ) (fact : Fact)
    → rest ≡ entry ∷ later
    → (end_of entry ≤ℤ first) ⊎ ((loop_of entry.fact ≡ None) × (implies fact entry.fact ≡ true))
    → ImpliedSoFar row rest first end fact → ImpliedSoFar row later first end fact
implied-more row rest entry later first end fact is either so_far = λ k low high. elim (so_far k low high) [
  | inl same ↦
      let here : entry_fact row k ≡ entry_fact (entry ∷ later) k =
      same ∙ ap (λ (es : List Entry). entry_fact es k) is in
      elim (lies entry k) [
        | before b ↦ inl (here ∙ rw (about-before entry k b) refl)
        | within l b ↦ elim either [
          | inl ended ↦ absurd (omega (arith, ints, low, b, ended))
          | inr said ↦ inr (record {
            fact = entry.fact;
            is = here ∙ (entry_fact-within k entry later l b
                ∙ plain-said entry.fact (is_same_number entry.word k) said.0);
            implied = said.1;
          })
        ]
        | behind l b ↦ inl (here ∙ rw (about-behind entry k b) refl)
      ]
  | inr h ↦ inr h
]

-- nothing is wanted of a word
unwanted : (fact : Fact) (wanted : WordFact) → wanted ≡ Alone Unknown → IsImplied fact wanted
unwanted fact wanted is = record { fact = Unknown; is = is; implied = unknown-implied fact }

-- the next entry begins after these words
pub implied-before : (row rest : List Entry) (entry : Entry) (later : List Entry) (first end : ℤ) (fact : Fact)
    → AreApart rest → rest ≡ entry ∷ later → end ≤ℤ entry.word → ImpliedSoFar row rest first end fact
    → AllImplied (entry_fact row) first end fact
implied-before row rest entry later first end fact apart is ends so_far = λ k low high. elim (so_far k low high) [
  | inl same ↦ unwanted fact (entry_fact row k) (same ∙ (ap (λ (es : List Entry). entry_fact es k) is
      ∙ entry_fact-before least_word k entry later (subst (λ (es : List Entry). AreApart es) is apart)
      (omega (arith, ints, high, ends))))
  | inr h ↦ h
]

-- all entries
pub implied-done : (row rest : List Entry) (first end : ℤ) (fact : Fact) → rest ≡ []
    → ImpliedSoFar row rest first end fact → AllImplied (entry_fact row) first end fact
implied-done row rest first end fact is so_far = λ k low high. elim (so_far k low high) [
  | inl same ↦ unwanted fact (entry_fact row k) (same ∙ ap (λ (es : List Entry). entry_fact es k) is)
  | inr h ↦ h
]

-- ---- a row from a word on

-- without the entries before one that begins at a word or before
pub dropped : (row : List Entry) (n : ℕ) (d : Entry) (first word : ℤ) → AreApart row → n < length row
    → first ≡ (get_or row n d).word → first ≤ℤ word → (k : ℤ) → word ≤ℤ k
    → entry_fact (drop n row) k ≡ entry_fact row k
dropped row n d first word apart low is begun = λ k l.
    entry_fact-drop least_word k row n d apart low (omega (arith, ints, is, begun, l))
