-- The sums of spans of words of several sizes, as they are kept.
use Rattle.std.proofs.Common.{◌≡◌, ◌≢◌, ℕ, suc, ◌+◌, ◌*◌, ◌/◌, ◌%◌, ◌<◌, ℤ, pos, ◌+ℤ◌, ◌≤ℤ◌, ◌<ℤ◌, ◌^◌, true, false, cond, eqb}
use Rattle.std.proofs.Common.{List, [], length, set, Option, Some, None, refl, sym, ap, ◌∙◌, subst, arith, inl, inr}
use Rattle.std.specs.Prelude.{IfSome}
use Rattle.std.proofs.lemmas.List.{get_or-set_other, get_or-set_same}
use Rattle.std.proofs.lemmas.Bool.{cases_eq}
use Rattle.std.proofs.lemmas.Bool.Decides.{nat_tests}
use Rattle.std.proofs.lemmas.Int.{ints}
use Rattle.std.proofs.lemmas.Nat.{div-mul-add, div-add-mod'}
use Rattle.std.proofs.Math.Nat.{mod-lt, div-div-eq-div-mul}
use Rattle.module_format.specs.Order.{least_word}
use Rattle.module_format.specs.Rows.{Fact}
use Rattle.states.specs.declared.known.WordFact.TheVariants.{Alone}
use Rattle.states.specs.declared.span.Leaving.{Leaving}
use Rattle.states.specs.declared.span.Leaving.TheVariants.{Become, Widen}
use Rattle.states.specs.declared.span.Together.{Together}
use Rattle.states.specs.declared.sums.Size.{Size}
use Rattle.states.specs.declared.sums.Size.TheVariants.{Group, Page, Zone}
use Rattle.states.specs.declared.sums.Sums.{Sums}
use Rattle.states.specs.State.{Facts, by_itself}
use Rattle.states.specs.Blocks.{block_words, first_of, HaveRoom}
use Rattle.states.specs.Frames.{with_alone, with_span}
use Rattle.states.specs.Spans.{left_of, of_none, with_one, together}
use Rattle.states.specs.Sums.{words_of, layer_of, sum_numbered, sum_after, AreSumsOf, AreSums}
use Rattle.states.proofs.BlockSums.{number-of, together-same}
use Rattle.states.proofs.FrameFacts.{word-cases}
use Rattle.states.proofs.Leavings.{Widened, together-alike, together-widened, sum-widened}
use Rattle.states.proofs.SpanFacts.{below, within, above, lies-by, in-span}

-- ---- what is kept for the spans of a size

-- what is kept for one span is this from now on, and for the others what it was
abbrev pub IsKeptAs : List (Option Together) → ℕ → Option Together → List (Option Together) → Type 0
IsKeptAs kept number there others =
    (n : ℕ) → sum_numbered others n ≡ cond (eqb n number) there (sum_numbered kept n)

-- for this span
kept-here : (kept others : List (Option Together)) (number n : ℕ) (there : Option Together)
    → IsKeptAs kept number there others → n ≡ number → sum_numbered others n ≡ there
kept-here kept others number n there set e =
    let yes : eqb n number ≡ true = grind (arith, nat_tests) in
    set n ∙ ap (λ b. cond b there (sum_numbered kept n)) yes

-- for another one
kept-other : (kept others : List (Option Together)) (number n : ℕ) (there : Option Together)
    → IsKeptAs kept number there others → n ≢ number → sum_numbered others n ≡ sum_numbered kept n
kept-other kept others number n there set d =
    let no : eqb n number ≡ false = grind (arith, nat_tests) in
    set n ∙ ap (λ b. cond b there (sum_numbered kept n)) no

-- nothing is summed
pub sums-none : (facts : Facts) (lo : ℤ) (size : ℕ) (kept : List (Option Together)) → kept ≡ []
    → AreSumsOf facts lo size kept
unfolding AreSumsOf
sums-none facts lo size kept none = λ number sum is.
    let clash : None ≡ Some sum =
    sym (ap (λ (k : List (Option Together)). sum_numbered k number) none) ∙ is in
    absurd (cc)

-- a word of a span, from the first word of the frame on
word-of : (lo : ℤ) (before j : ℕ) → (lo +ℤ pos before) +ℤ pos j ≡ lo +ℤ pos (before + j)
word-of lo before j = omega (arith, ints)

-- only words of one span change, which has no sum any more
pub sums-forget : (facts new : Facts) (lo : ℤ) (size number : ℕ) (kept others : List (Option Together))
    → AreSumsOf facts lo size kept
    → ((j : ℕ) → j / size ≢ number → new (lo +ℤ pos j) ≡ facts (lo +ℤ pos j))
    → IsKeptAs kept number None others → AreSumsOf new lo size others
unfolding AreSumsOf
sums-forget facts new lo size number kept others right outside set = λ n sum is. elim (cases_eq n number) [
  | inl e ↦
      let clash : None ≡ Some sum = sym (kept-here kept others number n None set e) ∙ is in
      absurd (cc)
  | inr d ↦
      right n sum (sym (kept-other kept others number n None set d) ∙ is)
      ∙ together-same facts new (lo +ℤ pos (n * size)) size
      (λ j less. ap facts (word-of lo (n * size) j)
      ∙ (sym (outside (n * size + j) (λ h. d (sym (div-mul-add n size j less) ∙ h)))
      ∙ ap new (sym (word-of lo (n * size) j))))
]

-- one more sum
pub sums-more : (facts : Facts) (lo : ℤ) (size index number : ℕ) (all : Together)
    (kept others : List (Option Together)) → AreSumsOf facts lo size kept → number * size ≡ index
    → all ≡ together facts (lo +ℤ pos index) size → IsKeptAs kept number (Some all) others
    → AreSumsOf facts lo size others
unfolding AreSumsOf
sums-more facts lo size index number all kept others right begins all_is set =
    λ n sum is. elim (cases_eq n number) [
      | inl e ↦
          let same : Some sum ≡ Some all = sym is ∙ kept-here kept others number n (Some all) set e in
          let sum_is : sum ≡ all = cc in
          sum_is ∙ (all_is ∙ ap (λ (k : ℕ). together facts (lo +ℤ pos k) size)
          (sym begins ∙ ap (λ (k : ℕ). k * size) (sym e)))
      | inr d ↦ right n sum (sym (kept-other kept others number n (Some all) set d) ∙ is)
    ]

-- the sum that is kept for the span that begins at an index
pub sum-there : (facts : Facts) (lo : ℤ) (size index number : ℕ) (kept : List (Option Together))
    (found : Option Together) → found ≡ sum_numbered kept number → number * size ≡ index
    → AreSumsOf facts lo size kept → (sum : Together) → found ≡ Some sum
    → sum ≡ together facts (lo +ℤ pos index) size
unfolding AreSumsOf
sum-there facts lo size index number kept found is begins right sum some =
    right number sum (sym is ∙ some) ∙ ap (λ (k : ℕ). together facts (lo +ℤ pos k) size) begins

-- what follows of a sum that is there
pub if-there : (P : Together → Type 0) (found : Option Together) → ((sum : Together) → found ≡ Some sum → P sum)
    → IfSome found P
if-there P None right = tt
if-there P (Some sum) right = right sum refl

-- ---- a block is left

-- the sum of words once each is left so
left-right : (facts new : Facts) (first : ℤ) (n : ℕ) (before : Option Together) (leaving : Leaving)
    → ((j : ℕ) → j < suc n → new (first +ℤ pos j) ≡ Alone (left_of leaving (by_itself (facts (first +ℤ pos j)))))
    → ((sum : Together) → before ≡ Some sum → sum ≡ together facts first (suc n))
    → (sum : Together) → sum_after before leaving ≡ Some sum → sum ≡ together new first (suc n)
left-right facts new first n None leaving left right = λ sum is. absurd (cc)
left-right facts new first n (Some t) (Become fact) left right = λ sum is.
    let same : with_one (Alone fact) of_none ≡ sum = cc in
    sym same ∙ sym (together-alike new first fact n left)
left-right facts new first n (Some t) (Widen lo hi) left right = λ sum is.
    sum-widened lo hi t (together new first (suc n)) sum
    (subst (λ (s : Together). Widened lo hi s (together new first (suc n))) (sym (right t refl))
    (together-widened lo hi facts new first (suc n) left))
    is

-- a word of the block
left-inside : (facts : Facts) (first k : ℤ) (count : ℕ) (leaving : Leaving) → first ≤ℤ k
    → k <ℤ (first +ℤ pos count)
    → with_span first count leaving facts k ≡ Alone (left_of leaving (by_itself (facts k)))
left-inside facts first k count leaving low high =
    ap (λ b. cond b (Alone (left_of leaving (by_itself (facts k)))) (facts k)) (in-span first count k low high)

-- a word of another one
left-outside : (facts : Facts) (lo : ℤ) (block j : ℕ) (leaving : Leaving) → j / block_words ≢ block
    → with_span (first_of lo block) block_words leaving facts (lo +ℤ pos j) ≡ facts (lo +ℤ pos j)
left-outside facts lo block j leaving other = elim (lies-by (first_of lo block) block_words (lo +ℤ pos j)) [
  | below l e ↦ rw e refl
  | within l h e ↦
      absurd (other (number-of j block block_words (omega (arith, ints)) (omega (arith, ints))))
  | above h e ↦ rw e refl
]

-- nor is one of another span in which there are whole blocks
pub left-beyond : (facts : Facts) (lo : ℤ) (parts size block j : ℕ) (leaving : Leaving)
    → size ≡ block_words * parts → j / size ≢ block / parts
    → with_span (first_of lo block) block_words leaving facts (lo +ℤ pos j) ≡ facts (lo +ℤ pos j)
left-beyond facts lo parts size block j leaving whole other =
    left-outside facts lo block j leaving (λ h. other
    (ap (λ (n : ℕ). j / n) whole ∙ (sym (div-div-eq-div-mul j block_words parts) ∙ ap (λ (n : ℕ). n / parts) h)))

-- the block of a word of a group
eighth : (n j block : ℕ) → j < 8 → (n * 8 + j) / block_words ≡ block → n / 8 ≡ block
unfolding block_words
eighth n j block less h =
    ap (λ (k : ℕ). k / 8) (sym (div-mul-add n 8 j less)) ∙ (div-div-eq-div-mul (n * 8 + j) 8 8 ∙ h)

-- the sums of groups, of which those of one block are what follows for them
pub groups-left : (facts : Facts) (lo : ℤ) (block : ℕ) (leaving : Leaving) (kept others : List (Option Together))
    → AreSumsOf facts lo 8 kept
    → ((n : ℕ) → n / 8 ≡ block → sum_numbered others n ≡ sum_after (sum_numbered kept n) leaving)
    → ((n : ℕ) → n / 8 ≢ block → sum_numbered others n ≡ sum_numbered kept n)
    → AreSumsOf (with_span (first_of lo block) block_words leaving facts) lo 8 others
unfolding AreSumsOf block_words
groups-left facts lo block leaving kept others right inside outside =
    λ n sum is. elim (cases_eq (n / 8) block) [
      | inl e ↦
          let both = div-add-mod' n 8 in
          let rest : n % 8 < 8 = mod-lt n (omega arith) in
          left-right facts (with_span (first_of lo block) block_words leaving facts) (lo +ℤ pos (n * 8)) 7
          (sum_numbered kept n) leaving
          (λ j less. left-inside facts (first_of lo block) ((lo +ℤ pos (n * 8)) +ℤ pos j) block_words leaving
          (omega (arith, ints, e, both, rest)) (omega (arith, ints, e, both, rest)))
          (λ s h. right n s h) sum (sym (inside n e) ∙ is)
      | inr d ↦
          right n sum (sym (outside n d) ∙ is)
          ∙ together-same facts (with_span (first_of lo block) block_words leaving facts) (lo +ℤ pos (n * 8)) 8
          (λ j less. ap facts (word-of lo (n * 8) j)
          ∙ (sym (left-outside facts lo block (n * 8 + j) leaving
          (λ h. d (eighth n j block less h)))
          ∙ ap (with_span (first_of lo block) block_words leaving facts) (sym (word-of lo (n * 8) j))))
    ]

-- ---- all sizes

pub all-sizes : (facts : Facts) (lo : ℤ) (s : Sums) → AreSumsOf facts lo 8 s.groups.kept.items
    → AreSumsOf facts lo 512 s.pages.kept.items → AreSumsOf facts lo 4096 s.zones.kept.items → AreSums facts lo s
unfolding AreSums
all-sizes facts lo s groups pages zones = on
  where
    on : (size : Size) → AreSumsOf facts lo (words_of size) (layer_of size s).kept.items
    on Group = groups
    on Page = pages
    on Zone = zones

pub of-size : (facts : Facts) (lo : ℤ) (s : Sums) (size : Size) → AreSums facts lo s
    → AreSumsOf facts lo (words_of size) (layer_of size s).kept.items
unfolding AreSums
of-size facts lo s size right = right size

-- what is known stays what it is
pub all-same : (facts new : Facts) (lo : ℤ) (s : Sums) → AreSums facts lo s → new ≡ facts → AreSums new lo s
all-same facts new lo s right same = subst (λ (f : Facts). AreSums f lo s) (sym same) right

-- one item of the list is set
pub kept-set : (kept : List (Option Together)) (number n : ℕ) (there : Option Together) → number < length kept
    → sum_numbered (set kept number there) n ≡ cond (eqb n number) there (sum_numbered kept n)
kept-set kept number n there low = elim (cases_eq n number) [
  | inl e ↦
      let yes : eqb n number ≡ true = grind (arith, nat_tests) in
      rw yes (ap (sum_numbered (set kept number there)) e ∙ get_or-set_same kept number there None low)
  | inr d ↦
      let no : eqb n number ≡ false = grind (arith, nat_tests) in
      rw no (get_or-set_other kept number n there None d)
]

-- ---- the eight groups of a block, one after the other

-- what is kept for one of them is what follows, and for the others what it was
abbrev pub IsLeftAt : List (Option Together) → ℕ → Leaving → List (Option Together) → Type 0
IsLeftAt kept number leaving others =
    (n : ℕ) → sum_numbered others n
    ≡ cond (eqb n number) (sum_after (sum_numbered kept n) leaving) (sum_numbered kept n)

-- for this one
pub left-at : (kept others : List (Option Together)) (number n : ℕ) (leaving : Leaving)
    → IsLeftAt kept number leaving others → n ≡ number
    → sum_numbered others n ≡ sum_after (sum_numbered kept n) leaving
left-at kept others number n leaving left e =
    let yes : eqb n number ≡ true = grind (arith, nat_tests) in
    left n ∙ ap (λ b. cond b (sum_after (sum_numbered kept n) leaving) (sum_numbered kept n)) yes

-- for another one
pub left-not-at : (kept others : List (Option Together)) (number n : ℕ) (leaving : Leaving)
    → IsLeftAt kept number leaving others → n ≢ number → sum_numbered others n ≡ sum_numbered kept n
left-not-at kept others number n leaving left d =
    let no : eqb n number ≡ false = grind (arith, nat_tests) in
    left n ∙ ap (λ b. cond b (sum_after (sum_numbered kept n) leaving) (sum_numbered kept n)) no

-- the number of a group of a block
pub group-of : (block i : ℕ) → i < 8 → (block * 8 + i) / 8 ≡ block
group-of block i less = div-mul-add block 8 i less

-- a group of a block is one of its first eight
pub group-below : (n block : ℕ) → n / 8 ≡ block → n < block * 8 + 8
group-below n block is =
    let both = div-add-mod' n 8 in
    let rest : n % 8 < 8 = mod-lt n (omega arith) in
    omega (arith, is, both, rest)

-- an index at which a span begins
pub whole-number : (index size : ℕ) → index % size ≡ 0 → index / size * size ≡ index
whole-number index size whole =
    let both = div-add-mod' index size in
    omega (arith, both, whole)

-- the number of a block of a frame is small
pub room-below : (lo : ℤ) (number blocks words : ℕ) → number < blocks → HaveRoom words blocks → least_word ≤ℤ lo
    → (lo +ℤ pos words) ≤ℤ pos (2 ^ 31) → number < 2 ^ 40
unfolding HaveRoom block_words
room-below lo number blocks words low whole least high = omega (arith, ints, low, whole, least, high)

-- the words but one stay what they are
pub all-but : (facts : Facts) (lo word : ℤ) (index j : ℕ) (fact : Fact) → word ≡ lo +ℤ pos index → j ≢ index
    → with_alone word fact facts (lo +ℤ pos j) ≡ facts (lo +ℤ pos j)
all-but facts lo word index j fact word_is other = elim (word-cases (lo +ℤ pos j) word) [
  | inl h ↦ let same = h.1 in absurd (other (omega (arith, ints, same, word_is)))
  | inr h ↦ rw h refl
]
