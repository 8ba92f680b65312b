-- Blocks of words that were left in some way.
use Rattle.std.proofs.Common.{◌≡◌, ◌≢◌, ℕ, zero, suc, ◌+◌, ◌*◌, ◌/◌, ◌%◌, ◌<◌, ℤ, pos, negsuc, ◌+ℤ◌, ◌-ℤ◌}
use Rattle.std.proofs.Common.{Bool, true, false, ◌&&◌, cond, eqb, nat_abs, List, [], length, get_or, Option, Some, None}
use Rattle.std.proofs.Common.{refl, sym, ap, ◌∙◌, subst}
use Rattle.std.proofs.Common.{arith, inl, inr}
use std.Path.{fun_ext}
use Rattle.std.specs.Int.{int_min, int_max}
use Rattle.std.proofs.lemmas.Bool.{cases_eq, cases_lt, and_from}
use Rattle.std.proofs.lemmas.List.{get_or_default, get_or_past}
use Rattle.std.proofs.lemmas.Bool.Decides.{nat_tests}
use Rattle.std.proofs.lemmas.Int.{ints, clamps}
use Rattle.std.proofs.lemmas.Nat.{div-add-mod'}
use Rattle.std.proofs.Math.Nat.{mod-lt}
use Rattle.std.specs.Prelude.{option_map, unwrap_or}
use Rattle.std.proofs.Math.Bool.{and-true}
use Rattle.module_format.specs.Rows.{Fact, Entry}
use Rattle.module_format.specs.declared.fact.Fact.TheVariants.{Unknown, Number, Pointer, CodeAddress, Loop}
use Rattle.module_format.specs.declared.fact.Fact.TheVariants.{ReturnAddress}
use Rattle.states.specs.declared.blocks.Block.{Block}
use Rattle.states.specs.declared.known.WordFact.{WordFact}
use Rattle.states.specs.declared.known.WordFact.TheVariants.{Alone}
use Rattle.states.specs.declared.span.Leaving.{Leaving}
use Rattle.states.specs.declared.span.Leaving.TheVariants.{Become, Widen}
use Rattle.states.specs.declared.span.Together.{Together}
use Rattle.states.specs.declared.overlay.Written.{Written}
use Rattle.states.specs.State.{Facts, by_itself, is_alone, handed_out, entry_fact}
use Rattle.states.specs.Lookup.{fact_of_index, facts_over}
use Rattle.states.specs.Frames.{with_alone, with_span}
use Rattle.states.specs.Spans.{is_in_span, left_of, widened, of_none, with_plain, with_one, together}
use Rattle.states.specs.Blocks.{block_words, no_block, block_numbered, first_of, fact_left_by, left_after, leaving_at}
use Rattle.states.specs.Blocks.{facts_left}
use Rattle.states.specs.Blocks.{AreSummed}
use Rattle.states.specs.Blocks.{is_number, is_unbounded, sum_left}
use Rattle.module_format.specs.Order.{least_word, greatest_word}
use Rattle.states.proofs.FrameFacts.{word-cases, is_word-same, distance}
use Rattle.states.proofs.SpanFacts.{LiesBy, below, within, above, lies-by, in-span, not-below, not-above}
use Rattle.states.proofs.Loops.{some-words}
use Rattle.states.proofs.BlockSums.{number-of, together-same, min-assoc, max-assoc}

-- ---- one way of leaving after another

widened-twice : (lo hi : ℤ) (said : Fact) → widened lo hi (widened lo hi said) ≡ widened lo hi said
widened-twice lo hi (Number low high) =
    let a : int_min (int_min low lo) lo ≡ int_min low lo = omega (arith, ints, clamps) in
    let b : int_max (int_max high hi) hi ≡ int_max high hi = omega (arith, ints, clamps) in
    λ i. Number (a i) (b i)
widened-twice lo hi Unknown = refl
widened-twice lo hi (Pointer region low high step) = refl
widened-twice lo hi (CodeAddress offset) = refl
widened-twice lo hi (Loop base count weight) = refl
widened-twice lo hi ReturnAddress = refl

left-twice : (leaving : Leaving) (said : Fact) → left_of leaving (left_of leaving said) ≡ left_of leaving said
left-twice (Become fact) said = refl
left-twice (Widen lo hi) said = widened-twice lo hi said

widened-after : (low high lo hi : ℤ) (said : Fact)
    → widened (int_min low lo) (int_max high hi) said ≡ widened lo hi (widened low high said)
widened-after low high lo hi (Number a b) =
    λ i. Number (sym (min-assoc a low lo) i) (sym (max-assoc b high hi) i)
widened-after low high lo hi Unknown = refl
widened-after low high lo hi (Pointer region a b step) = refl
widened-after low high lo hi (CodeAddress offset) = refl
widened-after low high lo hi (Loop base count weight) = refl
widened-after low high lo hi ReturnAddress = refl

left-after : (before : Option Leaving) (leaving : Leaving) (said : WordFact)
    → fact_left_by (Some (left_after before leaving)) said ≡ Alone
    (left_of leaving (by_itself (fact_left_by before said)))
left-after None leaving said = refl
left-after (Some (Become fact)) (Become other) said = refl
left-after (Some (Widen low high)) (Become other) said = refl
left-after (Some (Become fact)) (Widen lo hi) said = refl
left-after (Some (Widen low high)) (Widen lo hi) said =
    ap (λ (x : Fact). Alone x) (widened-after low high lo hi (by_itself said))

-- ---- the block of a word

-- a word is one of a block's, or none of them
pub data InBlock (lo : ℤ) (number : ℕ) (k : ℤ) : Type 0 where
  inside : (j : ℕ) → j < block_words
      → k ≡ first_of lo number +ℤ pos j → is_in_span (first_of lo number) block_words k ≡ true
      → InBlock lo number k
  outside : is_in_span (first_of lo number) block_words k ≡ false
      → ((n : ℕ) → k -ℤ lo ≡ pos n → n / block_words ≢ number)
      → InBlock lo number k

pub in-block : (lo : ℤ) (number : ℕ) (k : ℤ) → InBlock lo number k
in-block lo number k = elim (lies-by (first_of lo number) block_words k) [
  | below l e ↦ outside e (λ n at same.
      let from : number * block_words + n % block_words ≡ n =
      ap (λ (i : ℕ). i * block_words + n % block_words) (sym same) ∙ div-add-mod' n block_words in
      absurd (omega (arith, ints, from)))
  | within l h e ↦
      let j = nat_abs (k -ℤ first_of lo number) in
      let far = distance k (first_of lo number) j l refl in
      inside j (omega (arith, ints)) far e
  | above h e ↦ outside e (λ n at same.
      let from : number * block_words + n % block_words ≡ n =
      ap (λ (i : ℕ). i * block_words + n % block_words) (sym same) ∙ div-add-mod' n block_words in
      let rest : n % block_words < block_words = mod-lt n some-words in
      absurd (omega (arith, ints, from, rest)))
]

pub leaving-inside : (blocks : List Block) (lo k : ℤ) (number j : ℕ) → j < block_words → k ≡ first_of lo number +ℤ pos j
    → leaving_at blocks (k -ℤ lo) ≡ (block_numbered blocks number).left
leaving-inside blocks lo k number j less at =
    let index : k -ℤ lo ≡ pos (number * block_words + j) = omega (arith, ints) in
    ap (leaving_at blocks) index
    ∙ ap (λ (n : ℕ). (block_numbered blocks n).left)
    (number-of (number * block_words + j) number block_words (omega arith) (omega arith))

leaving-others : (blocks others : List Block) (number : ℕ) (z : ℤ)
    → ((n : ℕ) → n ≢ number → block_numbered others n ≡ block_numbered blocks n)
    → ((n : ℕ) → z ≡ pos n → n / block_words ≢ number)
    → leaving_at others z ≡ leaving_at blocks z
leaving-others blocks others number (pos n) same far =
    ap (λ (b : Block). b.left) (same (n / block_words) (far n refl))
leaving-others blocks others number (negsuc n) same far = refl

-- the leavings of blocks are what they were where each block has its own
pub left-same : (lo : ℤ) (blocks others : List Block) (facts : Facts)
    → ((n : ℕ) → (block_numbered others n).left ≡ (block_numbered blocks n).left)
    → facts_left lo others facts ≡ facts_left lo blocks facts
unfolding facts_left
left-same lo blocks others facts same = fun_ext
    (λ k. ap (λ (o : Option Leaving). fact_left_by o (facts k)) (on (k -ℤ lo)))
  where
    on : (z : ℤ) → leaving_at others z ≡ leaving_at blocks z
    on (pos n) = same (n / block_words)
    on (negsuc n) = refl

-- no block was left
pub left-none : (lo : ℤ) (blocks : List Block) (facts : Facts) → ((n : ℕ) → (block_numbered blocks n).left ≡ None)
    → facts_left lo blocks facts ≡ facts
unfolding facts_left
left-none lo blocks facts none = fun_ext (λ k. ap (λ (o : Option Leaving). fact_left_by o (facts k)) (on (k -ℤ lo)))
  where
    on : (z : ℤ) → leaving_at blocks z ≡ None
    on (pos n) = none (n / block_words)
    on (negsuc n) = refl

-- ---- a block is left

-- what is kept for one block is this from now on, and for the others what it was
abbrev pub IsSet : List Block → ℕ → Block → List Block → Type 0
IsSet blocks number block others = (n : ℕ)
    → block_numbered others n ≡ cond (eqb n number) block (block_numbered blocks n)

pub set-here : (blocks others : List Block) (number : ℕ) (block : Block) → IsSet blocks number block others
    → block_numbered others number ≡ block
set-here blocks others number block kept =
    let yes : eqb number number ≡ true = grind (arith, nat_tests) in
    kept number ∙ ap (λ (b : Bool). cond b block (block_numbered blocks number)) yes

set-other : (blocks others : List Block) (number n : ℕ) (block : Block) → IsSet blocks number block others → n ≢ number
    → block_numbered others n ≡ block_numbered blocks n
set-other blocks others number n block kept differs =
    let no : eqb n number ≡ false = grind (arith, nat_tests) in
    kept n ∙ ap (λ (b : Bool). cond b block (block_numbered blocks n)) no

-- the words of another block are left as they were
outside-set : (lo k : ℤ) (blocks others : List Block) (number : ℕ) (block : Block) → IsSet blocks number block others
    → ((n : ℕ) → k -ℤ lo ≡ pos n → n / block_words ≢ number) → leaving_at others (k -ℤ lo) ≡ leaving_at blocks (k -ℤ lo)
outside-set lo k blocks others number block kept far =
    leaving-others blocks others number (k -ℤ lo) (λ n differs. set-other blocks others number n block kept differs) far

pub block-left : (lo : ℤ) (blocks others : List Block) (facts : Facts) (number : ℕ) (leaving : Leaving) (block : Block)
    → block.left ≡ Some (left_after (block_numbered blocks number).left leaving) → IsSet blocks number block others
    → facts_left lo others facts ≡ with_span (first_of lo number) block_words leaving (facts_left lo blocks facts)
unfolding facts_left
block-left lo blocks others facts number leaving block left kept = fun_ext (λ k. elim (in-block lo number k) [
  | inside j less at e ↦
      let new : leaving_at others (k -ℤ lo) ≡ Some (left_after (block_numbered blocks number).left leaving) =
      leaving-inside others lo k number j less at
      ∙ (ap (λ (b : Block). b.left) (set-here blocks others number block kept) ∙ left) in
      let old : leaving_at blocks (k -ℤ lo) ≡ (block_numbered blocks number).left =
      leaving-inside blocks lo k number j less at in
      ap (λ (o : Option Leaving). fact_left_by o (facts k)) new
      ∙ (left-after (block_numbered blocks number).left leaving (facts k)
      ∙ (ap (λ (o : Option Leaving). Alone (left_of leaving (by_itself (fact_left_by o (facts k))))) (sym old)
      ∙ sym (ap (λ (b : Bool). cond b (Alone (left_of leaving (by_itself (facts_left lo blocks facts k))))
      (facts_left lo blocks facts k)) e)))
  | outside e far ↦
      ap (λ (o : Option Leaving). fact_left_by o (facts k)) (outside-set lo k blocks others number block kept far)
      ∙ sym (ap (λ (b : Bool). cond b (Alone (left_of leaving (by_itself (facts_left lo blocks facts k))))
      (facts_left lo blocks facts k)) e)
])

-- words of another block are none of the span
other-words : (facts : Facts) (lo : ℤ) (number n j : ℕ) (leaving : Leaving) → n ≢ number → j < block_words
    → facts (first_of lo n +ℤ pos j) ≡ with_span (first_of lo number) block_words leaving facts (first_of lo n +ℤ pos j)
other-words facts lo number n j leaving differs less = elim (in-block lo number (first_of lo n +ℤ pos j)) [
  | inside i low at e ↦
      let same : n * block_words + j ≡ number * block_words + i = omega (arith, ints) in
      let here = number-of (n * block_words + j) n block_words (omega arith) (omega arith) in
      let there = number-of (n * block_words + j) number block_words (omega arith) (omega arith) in
      absurd (differs (sym here ∙ there))
  | outside e far ↦ sym (ap (λ (b : Bool). cond b (Alone (left_of leaving (by_itself (facts (first_of lo n +ℤ pos j)))))
      (facts (first_of lo n +ℤ pos j))) e)
]

-- the sums of blocks, of which one is left
pub summed-left : (facts new : Facts) (lo : ℤ) (number : ℕ) (leaving : Leaving) (block : Block)
    (blocks others : List Block) → AreSummed facts lo blocks
    → new ≡ with_span (first_of lo number) block_words leaving facts → IsSet blocks number block others
    → ((sum : Together) → block.sum ≡ Some sum → sum ≡ together new (first_of lo number) block_words)
    → AreSummed new lo others
unfolding AreSummed
summed-left facts new lo number leaving block blocks others summed new_is kept right = λ n sum is.
    elim (cases_eq n number) [
      | inl e ↦
          let here : block_numbered others n ≡ block = ap (block_numbered others) e
          ∙ set-here blocks others number block kept in
          right sum (sym (ap (λ (b : Block). b.sum) here) ∙ is)
          ∙ ap (λ (k : ℕ). together new (first_of lo k) block_words) (sym e)
      | inr d ↦
          let same : block_numbered others n ≡ block_numbered blocks n = set-other blocks others number n block kept d
          in
          summed n sum (sym (ap (λ (b : Block). b.sum) same) ∙ is)
          ∙ (together-same facts (with_span (first_of lo number) block_words leaving facts) (first_of lo n) block_words
          (λ j below. other-words facts lo number n j leaving d below)
          ∙ ap (λ (f : Facts). together f (first_of lo n) block_words) (sym new_is))
    ]

-- ---- a word of a block is written

-- a word of a block that was not left
pub word-placed : (lo word : ℤ) (blocks others : List Block) (facts new : Facts) (index number : ℕ) (fact : Fact)
    → word ≡ lo +ℤ pos index → number ≡ index / block_words → (block_numbered blocks number).left ≡ None
    → new ≡ with_alone word fact facts → IsSet blocks number no_block others
    → facts_left lo others new ≡ with_alone word fact (facts_left lo blocks facts)
unfolding facts_left
word-placed lo word blocks others facts new index number fact word_is number_is none new_is kept =
    left-same lo blocks others new (λ n. elim (cases_eq n number) [
      | inl e ↦ ap (λ (b : Block). b.left) (ap (block_numbered others) e ∙ set-here blocks others number no_block kept)
          ∙ (sym none ∙ ap (λ (k : ℕ). (block_numbered blocks k).left) (sym e))
      | inr d ↦ ap (λ (b : Block). b.left) (set-other blocks others number n no_block kept d)
    ])
    ∙ (ap (facts_left lo blocks) new_is ∙ fun_ext (λ k. elim (word-cases k word) [
      | inl h ↦
          let at : k -ℤ lo ≡ pos index = (let same = h.1 in omega (arith, ints)) in
          let free : leaving_at blocks (k -ℤ lo) ≡ None =
          ap (leaving_at blocks) at ∙ (ap (λ (n : ℕ). (block_numbered blocks n).left) (sym number_is) ∙ none) in
          rw (h.0, free) refl
      | inr h ↦ rw h refl
    ]))

-- a word of a block that is left is written as what is known of it
pub word-settled : (lo word : ℤ) (blocks : List Block) (facts new : Facts) (index : ℕ) (leaving : Leaving) (fact : Fact)
    (said : WordFact) → word ≡ lo +ℤ pos index → (block_numbered blocks (index / block_words)).left ≡ Some leaving
    → said ≡ facts_left lo blocks facts word → fact ≡ by_itself said → new ≡ with_alone word fact facts
    → facts_left lo blocks new ≡ facts_left lo blocks facts
unfolding facts_left
word-settled lo word blocks facts new index leaving fact said word_is left said_is fact_is new_is =
    ap (facts_left lo blocks) new_is ∙ fun_ext (λ k. elim (word-cases k word) [
      | inl h ↦
          let at : k -ℤ lo ≡ pos index = (let same = h.1 in omega (arith, ints)) in
          let here : leaving_at blocks (k -ℤ lo) ≡ Some leaving = ap (leaving_at blocks) at ∙ left in
          let known : fact ≡ left_of leaving (by_itself (facts k)) =
          fact_is ∙ (ap by_itself (said_is ∙ ap (facts_left lo blocks facts) (sym h.1))
          ∙ ap (λ (o : Option Leaving). by_itself (fact_left_by o (facts k))) here) in
          rw (h.0, here) (ap (λ (x : Fact). Alone (left_of leaving x)) known
          ∙ ap (λ (x : Fact). Alone x) (left-twice leaving (by_itself (facts k))))
      | inr h ↦ rw h refl
    ])

-- the words of a block were written as what is known of them, so that it is left no more
pub block-settled : (lo : ℤ) (blocks others : List Block) (facts : Facts) (number : ℕ) (block : Block)
    → block.left ≡ None → IsSet blocks number block others
    → ((j : ℕ) → j < block_words → facts (first_of lo number +ℤ pos j)
    ≡ facts_left lo blocks facts (first_of lo number +ℤ pos j))
    → facts_left lo others facts ≡ facts_left lo blocks facts
unfolding facts_left
block-settled lo blocks others facts number block none kept settled = fun_ext (λ k. elim (in-block lo number k) [
  | inside j less at e ↦
      let free : leaving_at others (k -ℤ lo) ≡ None =
      leaving-inside others lo k number j less at
      ∙ (ap (λ (b : Block). b.left) (set-here blocks others number block kept) ∙ none) in
      ap (λ (o : Option Leaving). fact_left_by o (facts k)) free
      ∙ (ap facts at ∙ (settled j less ∙ ap (facts_left lo blocks facts) (sym at)))
  | outside e far ↦
      ap (λ (o : Option Leaving). fact_left_by o (facts k)) (outside-set lo k blocks others number block kept far)
])

-- sums stay where each block has its own
pub summed-same : (facts new : Facts) (lo : ℤ) (blocks others : List Block) → AreSummed facts lo blocks → new ≡ facts
    → ((n : ℕ) → (block_numbered others n).sum ≡ (block_numbered blocks n).sum) → AreSummed new lo others
unfolding AreSummed
summed-same facts new lo blocks others summed new_is same = λ n sum is.
    summed n sum (sym (same n) ∙ is) ∙ ap (λ (f : Facts). together f (first_of lo n) block_words) (sym new_is)

-- ---- one span after the other

pub span-further : (first word : ℤ) (n m k : ℕ) (leaving : Leaving) (facts before new : Facts) → word ≡ first +ℤ pos n
    → k ≡ n + m → before ≡ with_span first n leaving facts → new ≡ with_span word m leaving before
    → new ≡ with_span first k leaving facts
span-further first word n m k leaving facts before new word_is k_is before_is new_is =
    new_is ∙ (ap (with_span word m leaving) before_is ∙ fun_ext (λ j. on j (lies-by first n j) (lies-by word m j)))
  where
    on : (j : ℤ) → LiesBy first n j → LiesBy word m j
        → with_span word m leaving (with_span first n leaving facts) j ≡ with_span first k leaving facts j
    on j (below l e) (below h f) = rw (e, f, not-below first k j l) refl
    on j (below l e) (within h g f) = absurd (omega (arith, ints))
    on j (below l e) (above h f) = rw (e, f, not-below first k j l) refl
    on j (within l g e) (below h f) = rw (e, f, in-span first k j l (omega (arith, ints))) refl
    on j (within l g e) (within h i f) = absurd (omega (arith, ints))
    on j (within l g e) (above h f) = rw (e, f, in-span first k j l (omega (arith, ints))) refl
    on j (above l e) (below h f) = absurd (omega (arith, ints))
    on j (above l e) (within h g f) =
        rw (e, f, in-span first k j (omega (arith, ints)) (omega (arith, ints))) refl
    on j (above l e) (above h f) = rw (e, f, not-above first k j (omega (arith, ints))) refl

-- one word more of a block is written as what is known of it
pub settled-more : (lo first word : ℤ) (blocks : List Block) (facts new old : Facts) (index i : ℕ) (leaving : Leaving)
    (fact : Fact) (said : WordFact) → word ≡ first +ℤ pos i → word ≡ lo +ℤ pos index
    → (block_numbered blocks (index / block_words)).left ≡ Some leaving → said ≡ facts_left lo blocks facts word
    → fact ≡ by_itself said → new ≡ with_alone word fact facts → facts_left lo blocks facts ≡ old
    → ((j : ℕ) → j < i → facts (first +ℤ pos j) ≡ old (first +ℤ pos j))
    → (j : ℕ) → j < i + 1 → new (first +ℤ pos j) ≡ old (first +ℤ pos j)
unfolding facts_left
settled-more lo first word blocks facts new old index i leaving fact said word_is at left said_is fact_is new_is old_is
    settled = λ j below. elim (word-cases (first +ℤ pos j) word) [
      | inl h ↦
          let here : leaving_at blocks (word -ℤ lo) ≡ Some leaving =
          ap (leaving_at blocks) (let e : word -ℤ lo ≡ pos index = omega (arith, ints) in e) ∙ left in
          let alone : said ≡ Alone (left_of leaving (by_itself (facts word))) =
          said_is ∙ ap (λ (o : Option Leaving). fact_left_by o (facts word)) here in
          ap (λ (f : Facts). f (first +ℤ pos j)) new_is
          ∙ (ap (λ (b : Bool). cond b (Alone fact) (facts (first +ℤ pos j))) h.0
          ∙ (ap (λ (x : Fact). Alone x) (fact_is ∙ ap by_itself alone)
          ∙ (sym alone ∙ (said_is ∙ (ap (λ (f : Facts). f word) old_is ∙ ap old (sym h.1))))))
      | inr h ↦
          ap (λ (f : Facts). f (first +ℤ pos j)) new_is
          ∙ (ap (λ (b : Bool). cond b (Alone fact) (facts (first +ℤ pos j))) h
          ∙ settled j (elim (cases_lt j i) [
            | inl less ↦ less
            | inr more ↦
                let clash : true ≡ false = sym (is_word-same (first +ℤ pos j) word (omega (arith, ints))) ∙ h in
                absurd (cc)
          ]))
    ]

pub some-leaving : (o : Option Leaving) → o ≢ None → (leaving : Leaving) × (o ≡ Some leaving)
some-leaving None h = absurd (h refl)
some-leaving (Some leaving) h = (leaving, refl)

-- nothing is kept for blocks
pub left-cleared : (lo : ℤ) (blocks : List Block) (facts : Facts) → blocks ≡ [] → facts_left lo blocks facts ≡ facts
left-cleared lo blocks facts none =
    left-none lo blocks facts (λ n. ap (λ (bs : List Block). (block_numbered bs n).left) none)

-- one more block that was not left
pub none-more : (blocks : List Block) (i : ℕ) (e : Block) → i < length blocks
    → ((n : ℕ) → n < i → (block_numbered blocks n).left ≡ None) → (get_or blocks i e).left ≡ None
    → (n : ℕ) → n < i + 1 → (block_numbered blocks n).left ≡ None
none-more blocks i e low earlier here = λ n below. elim (cases_lt n i) [
  | inl less ↦ earlier n less
  | inr more ↦
      ap (λ (j : ℕ). (block_numbered blocks j).left) (let same : n ≡ i = omega arith in same)
      ∙ (ap (λ (b : Block). b.left) (get_or_default blocks i no_block e low) ∙ here)
]

-- no block was left
pub none-left : (blocks : List Block) → ((n : ℕ) → n < length blocks → (block_numbered blocks n).left ≡ None)
    → (n : ℕ) → (block_numbered blocks n).left ≡ None
none-left blocks each n = elim (cases_lt n (length blocks)) [
  | inl low ↦ each n low
  | inr high ↦ ap (λ (b : Block). b.left) (get_or_past blocks n no_block high)
]

-- nothing was written and no block was left
pub facts-cleared : (lo : ℤ) (blocks : List Block) (row : List Entry) (written : List Written)
    → blocks ≡ [] → written ≡ []
    → facts_left lo blocks (facts_over lo row written) ≡ entry_fact row
facts-cleared lo blocks row written none nothing =
    left-cleared lo blocks (facts_over lo row written) none
    ∙ (ap (facts_over lo row) nothing ∙ fun_ext (λ k. on k (k -ℤ lo)))
  where
    on : (k z : ℤ) → unwrap_or (option_map Alone (fact_of_index [] z)) (entry_fact row k) ≡ entry_fact row k
    on k (pos n) = refl
    on k (negsuc n) = refl

-- the sums stay of blocks of which one is set with the sum that it had
pub sums-set : (blocks others : List Block) (number : ℕ) (block : Block) → IsSet blocks number block others
    → block.sum ≡ (block_numbered blocks number).sum → (n : ℕ)
    → (block_numbered others n).sum ≡ (block_numbered blocks n).sum
sums-set blocks others number block kept same = λ n. elim (cases_eq n number) [
  | inl e ↦ ap (λ (b : Block). b.sum) (ap (block_numbered others) e ∙ set-here blocks others number block kept)
      ∙ (same ∙ ap (λ (k : ℕ). (block_numbered blocks k).sum) (sym e))
  | inr d ↦ ap (λ (b : Block). b.sum) (set-other blocks others number n block kept d)
]

-- so do the leavings of blocks
pub lefts-set : (blocks others : List Block) (number : ℕ) (block : Block) → IsSet blocks number block others
    → block.left ≡ (block_numbered blocks number).left → (n : ℕ)
    → (block_numbered others n).left ≡ (block_numbered blocks n).left
lefts-set blocks others number block kept same = λ n. elim (cases_eq n number) [
  | inl e ↦ ap (λ (b : Block). b.left) (ap (block_numbered others) e ∙ set-here blocks others number block kept)
      ∙ (same ∙ ap (λ (k : ℕ). (block_numbered blocks k).left) (sym e))
  | inr d ↦ ap (λ (b : Block). b.left) (set-other blocks others number n block kept d)
]

-- ---- blocks whose words all become one fact

-- a block that was left as one fact
pub left-alike : (lo : ℤ) (blocks : List Block) (facts : Facts) (number : ℕ) (said : Fact) (leaving : Leaving)
    → (block_numbered blocks number).left ≡ Some (Become said)
    → with_span (first_of lo number) block_words (Become (left_of leaving said)) (facts_left lo blocks facts)
    ≡ with_span (first_of lo number) block_words leaving (facts_left lo blocks facts)
unfolding facts_left
left-alike lo blocks facts number said leaving left = fun_ext (λ k. elim (in-block lo number k) [
  | inside j less at e ↦
      let here : leaving_at blocks (k -ℤ lo) ≡ Some (Become said) =
      leaving-inside blocks lo k number j less at ∙ left in
      rw (e, here) refl
  | outside e far ↦ rw e refl
])

no-number : (lo hi : ℤ) (said : Fact) → is_number said ≡ false → widened lo hi said ≡ Unknown
no-number lo hi (Number a b) h = absurd (cc)
no-number lo hi Unknown h = refl
no-number lo hi (Pointer region a b step) h = refl
no-number lo hi (CodeAddress offset) h = refl
no-number lo hi (Loop base count weight) h = refl
no-number lo hi ReturnAddress h = refl

-- a span without a number
pub left-unknown : (facts : Facts) (first : ℤ) (n : ℕ) (lo hi : ℤ)
    → ((j : ℕ) → j < n → is_number (by_itself (facts (first +ℤ pos j))) ≡ false)
    → with_span first n (Become Unknown) facts ≡ with_span first n (Widen lo hi) facts
left-unknown facts first n lo hi none = fun_ext (λ k. elim (lies-by first n k) [
  | below l e ↦ rw e refl
  | within l h e ↦
      let j = nat_abs (k -ℤ first) in
      let far : k ≡ first +ℤ pos j = distance k first j l refl in
      let here : is_number (by_itself (facts k)) ≡ false =
      ap (λ (z : ℤ). is_number (by_itself (facts z))) far ∙ none j (omega (arith, ints)) in
      rw e (ap (λ (x : Fact). Alone x) (sym (no-number lo hi (by_itself (facts k)) here)))
  | above h e ↦ rw e refl
])

-- ---- the sum of a block that is left

one-twice : (fact : Fact) → with_one (Alone fact) (with_one (Alone fact) of_none) ≡ with_one (Alone fact) of_none
one-twice (Number lo hi) =
    let low : int_min (int_min greatest_word lo) lo ≡ int_min greatest_word lo = omega (arith, ints, clamps) in
    let high : int_max (int_max least_word hi) hi ≡ int_max least_word hi = omega (arith, ints, clamps) in
    λ i. record { lo = low i; hi = high i; are_numbers = true; are_alone = true }
one-twice Unknown = refl
one-twice (Pointer region lo hi step) = refl
one-twice (CodeAddress offset) = refl
one-twice (Loop base count weight) = refl
one-twice ReturnAddress = refl

-- of words of each of which the same is known
pub together-alike : (facts : Facts) (first : ℤ) (fact : Fact) (n : ℕ)
    → ((j : ℕ) → j < suc n → facts (first +ℤ pos j) ≡ Alone fact)
    → together facts first (suc n) ≡ with_one (Alone fact) of_none
together-alike facts first fact zero each = ap (λ (f : WordFact). with_one f of_none) (each 0 (omega arith))
together-alike facts first fact (suc n) each =
    ap (λ (f : WordFact). with_one f (together facts first (suc n))) (each (suc n) (omega arith))
    ∙ (ap (with_one (Alone fact)) (together-alike facts first fact n (λ j less. each j (omega arith))) ∙ one-twice fact)

-- what is known of words together, and of the same words once each was widened
pub data Widened (lo hi : ℤ) (t u : Together) : Type 0 where
  no_number : t.lo ≡ greatest_word → t.hi ≡ least_word → u.lo ≡ greatest_word → u.hi ≡ least_word
      → u.are_numbers ≡ t.are_numbers → u.are_alone ≡ true → Widened lo hi t u
  a_number : u.lo ≡ int_min t.lo lo → u.hi ≡ int_max t.hi hi → u.are_numbers ≡ t.are_numbers → u.are_alone ≡ true
      → Widened lo hi t u

widened-other : (lo hi : ℤ) (t u : Together) (alone : Bool) → Widened lo hi t u
    → Widened lo hi (record t { are_numbers = false; are_alone = t.are_alone && alone })
    (record u { are_numbers = false; are_alone = u.are_alone && true })
widened-other lo hi t u alone (no_number a b c d e f) = no_number a b c d refl (and-true u.are_alone ∙ f)
widened-other lo hi t u alone (a_number a b e f) = a_number a b refl (and-true u.are_alone ∙ f)

widened-more : (lo hi : ℤ) (said : Fact) (t u : Together) (alone : Bool) → Widened lo hi t u
    → Widened lo hi (with_plain (handed_out said) (record t { are_alone = t.are_alone && alone }))
    (with_plain (handed_out (widened lo hi said)) (record u { are_alone = u.are_alone && true }))
widened-more lo hi (Number a b) t u alone (no_number tl th ul uh numbers lone) =
    a_number (omega (arith, ints, clamps, tl, ul)) (omega (arith, ints, clamps, th, uh)) numbers
    (and-true u.are_alone ∙ lone)
widened-more lo hi (Number a b) t u alone (a_number ul uh numbers lone) =
    a_number (omega (arith, ints, clamps, ul)) (omega (arith, ints, clamps, uh)) numbers (and-true u.are_alone ∙ lone)
widened-more lo hi Unknown t u alone w = widened-other lo hi t u alone w
widened-more lo hi (Pointer region a b step) t u alone w = widened-other lo hi t u alone w
widened-more lo hi (CodeAddress offset) t u alone w = widened-other lo hi t u alone w
widened-more lo hi (Loop base count weight) t u alone w = widened-other lo hi t u alone w
widened-more lo hi ReturnAddress t u alone w = widened-other lo hi t u alone w

pub together-widened : (lo hi : ℤ) (facts others : Facts) (first : ℤ) (n : ℕ)
    → ((j : ℕ) → j < n → others (first +ℤ pos j) ≡ Alone (widened lo hi (by_itself (facts (first +ℤ pos j)))))
    → Widened lo hi (together facts first n) (together others first n)
together-widened lo hi facts others first zero each = no_number refl refl refl refl refl refl
together-widened lo hi facts others first (suc n) each =
    let fact = facts (first +ℤ pos n) in
    let t = together facts first n in
    let u = together others first n in
    subst (λ (f : WordFact). Widened lo hi (with_one fact t) (with_one f u)) (sym (each n (omega arith)))
    (widened-more lo hi (by_itself fact) t u (is_alone fact)
    (together-widened lo hi facts others first n (λ j less. each j (omega arith))))

-- a word of a span that is left
span-word : (facts : Facts) (first : ℤ) (n j : ℕ) (leaving : Leaving) → j < n
    → with_span first n leaving facts (first +ℤ pos j) ≡ Alone (left_of leaving (by_itself (facts (first +ℤ pos j))))
span-word facts first n j leaving less =
    ap (λ (b : Bool). cond b (Alone (left_of leaving (by_itself (facts (first +ℤ pos j))))) (facts (first +ℤ pos j)))
    (in-span first n (first +ℤ pos j) (omega (arith, ints)) (omega (arith, ints)))

-- the bounds show that there is a number
pub sum-widened : (lo hi : ℤ) (t u sum : Together) → Widened lo hi t u
    → sum_left (Some t) (Widen lo hi) ≡ Some sum → sum ≡ u
sum-widened lo hi t u sum (no_number tl th ul uh numbers lone) is =
    let unbounded = and_from _ _ (is_word-same t.lo greatest_word tl) (is_word-same t.hi least_word th) in
    let clash : None ≡ Some sum =
    sym (ap (λ (b : Bool). cond b None (Some
    (record t { lo = int_min t.lo lo; hi = int_max t.hi hi; are_alone = true })))
    unbounded) ∙ is in
    absurd (cc)
sum-widened lo hi t u sum (a_number ul uh numbers lone) is = on (is_unbounded t) is
  where
    there : Together
    there = record t { lo = int_min t.lo lo; hi = int_max t.hi hi; are_alone = true }

    same : there ≡ u
    same = λ i. record { lo = sym ul i; hi = sym uh i; are_numbers = sym numbers i; are_alone = sym lone i }

    on : (b : Bool) → cond b None (Some there) ≡ Some sum → sum ≡ u
    on true h = absurd (cc)
    on false h = let at : there ≡ sum = cc in sym at ∙ same

pub sum-right : (facts : Facts) (first : ℤ) (before : Option Together) (leaving : Leaving)
    → ((sum : Together) → before ≡ Some sum → sum ≡ together facts first block_words)
    → (sum : Together) → sum_left before leaving ≡ Some sum
    → sum ≡ together (with_span first block_words leaving facts) first block_words
unfolding block_words
sum-right facts first before (Become fact) right = λ sum is.
    let same : with_one (Alone fact) of_none ≡ sum = cc in
    sym same ∙ sym (together-alike (with_span first block_words (Become fact) facts) first fact 63
    (λ j less. span-word facts first block_words j (Become fact) less))
sum-right facts first None (Widen lo hi) right = λ sum is. absurd (cc)
sum-right facts first (Some t) (Widen lo hi) right = λ sum is.
    sum-widened lo hi t (together (with_span first block_words (Widen lo hi) facts) first block_words) sum
    (subst (λ (s : Together).
    Widened lo hi s (together (with_span first block_words (Widen lo hi) facts) first block_words)) (sym (right t refl))
    (together-widened lo hi facts (with_span first block_words (Widen lo hi) facts) first block_words
    (λ j less. span-word facts first block_words j (Widen lo hi) less)))
    is
