-- What is known of the words of blocks together, as it is kept.
use Rattle.std.proofs.Common.{◌≡◌, ◌≢◌, ℕ, zero, suc, ◌+◌, ◌-◌, ◌*◌, ◌/◌, ◌%◌, ◌<◌, ◌≤◌, ℤ, pos, ◌+ℤ◌, ◌≤ℤ◌}
use Rattle.std.proofs.Common.{Bool, true, false, ◌&&◌, cond, eqb, List, [], length, set, Option, Some, None, refl, sym}
use Rattle.std.proofs.Common.{ap}
use Rattle.std.proofs.Common.{◌∙◌, arith, inl, inr}
use Rattle.std.specs.Prelude.{IfSome}
use Rattle.std.specs.Int.{int_min, int_max}
use Rattle.std.proofs.lemmas.List.{get_or-set_other, get_or-set_same}
use Rattle.std.proofs.lemmas.Nat.{div-mul-add, div-add-mod'}
use Rattle.std.proofs.lemmas.Bool.{cases_eq}
use Rattle.std.proofs.lemmas.Bool.Decides.{nat_tests}
use Rattle.std.proofs.lemmas.Int.{ints, clamps}
use Rattle.std.proofs.Math.Bool.{and-true}
use Rattle.module_format.specs.Rows.{Fact}
use Rattle.module_format.specs.declared.fact.Fact.TheVariants.{Unknown, Number, Pointer, CodeAddress, Loop}
use Rattle.module_format.specs.declared.fact.Fact.TheVariants.{ReturnAddress}
use Rattle.module_format.specs.Order.{least_word, greatest_word}
use Rattle.states.specs.declared.blocks.Block.{Block}
use Rattle.states.specs.declared.known.WordFact.{WordFact}
use Rattle.states.specs.declared.span.Together.{Together}
use Rattle.states.specs.State.{Facts, plain, is_alone}
use Rattle.states.specs.Frames.{with_alone}
use Rattle.states.specs.Spans.{of_none, with_plain, with_one, together, joined}
use Rattle.states.specs.Blocks.{block_words, no_block, block_numbered, first_of, AreSummed}
use Rattle.states.proofs.FrameFacts.{word-cases}

-- ---- one span after the other

pub min-assoc : (a b c : ℤ) → int_min (int_min a b) c ≡ int_min a (int_min b c)
min-assoc a b c = omega (arith, ints, clamps)

pub max-assoc : (a b c : ℤ) → int_max (int_max a b) c ≡ int_max a (int_max b c)
max-assoc a b c = omega (arith, ints, clamps)

and-assoc : (a b c : Bool) → (a && b) && c ≡ a && (b && c)
and-assoc true b c = refl
and-assoc false b c = refl

and-none : (a : Bool) → false ≡ a && false
and-none true = refl
and-none false = refl

no-number : (t u : Together)
    → ◌≡◌ {A = Together} (record (joined t u) { are_numbers = false }) (joined t (record u { are_numbers = false }))
no-number t u = λ i. record (joined t u) { are_numbers = and-none t.are_numbers i }

plain-joined : (fact : Fact) (t u : Together) → with_plain fact (joined t u) ≡ joined t (with_plain fact u)
plain-joined (Number lo hi) t u =
    λ i. record (joined t u) { lo = min-assoc t.lo u.lo lo i; hi = max-assoc t.hi u.hi hi i }
plain-joined Unknown t u = no-number t u
plain-joined (Pointer region lo hi step) t u = no-number t u
plain-joined (CodeAddress offset) t u = no-number t u
plain-joined (Loop base count weight) t u = no-number t u
plain-joined ReturnAddress t u = no-number t u

one-joined : (fact : WordFact) (t u : Together) → with_one fact (joined t u) ≡ joined t (with_one fact u)
one-joined fact t u =
    ap (λ (b : Bool). with_plain (plain fact) (record (joined t u) { are_alone = b }))
    (and-assoc t.are_alone u.are_alone (is_alone fact))
    ∙ plain-joined (plain fact) t (record u { are_alone = u.are_alone && is_alone fact })

-- what is known of words together lies between the words of no number
record IsBounded (t : Together) : Type 0 where
  low : t.lo ≤ℤ greatest_word
  high : least_word ≤ℤ t.hi

plain-bounded : (fact : Fact) (t : Together) → IsBounded t → IsBounded (with_plain fact t)
plain-bounded (Number lo hi) t b =
    let low = b.low in
    let high = b.high in
    record { low = omega (arith, ints, clamps); high = omega (arith, ints, clamps) }
plain-bounded Unknown t b = record { low = b.low; high = b.high }
plain-bounded (Pointer region lo hi step) t b = record { low = b.low; high = b.high }
plain-bounded (CodeAddress offset) t b = record { low = b.low; high = b.high }
plain-bounded (Loop base count weight) t b = record { low = b.low; high = b.high }
plain-bounded ReturnAddress t b = record { low = b.low; high = b.high }

together-bounded : (facts : Facts) (first : ℤ) (n : ℕ) → IsBounded (together facts first n)
together-bounded facts first zero = record { low = omega (arith, ints); high = omega (arith, ints) }
together-bounded facts first (suc n) =
    let b = together-bounded facts first n in
    let t = together facts first n in
    let fact = facts (first +ℤ pos n) in
    plain-bounded (plain fact) (record t { are_alone = t.are_alone && is_alone fact })
    (record { low = b.low; high = b.high })

joined-none : (t : Together) → IsBounded t → joined t of_none ≡ t
joined-none t b =
    let low : int_min t.lo greatest_word ≡ t.lo = (let l = b.low in omega (arith, ints, clamps)) in
    let high : int_max t.hi least_word ≡ t.hi = (let h = b.high in omega (arith, ints, clamps)) in
    λ i. record {
      lo = low i;
      hi = high i;
      are_numbers = and-true t.are_numbers i;
      are_alone = and-true t.are_alone i;
    }

together-joined : (facts : Facts) (first : ℤ) (n m : ℕ)
    → joined (together facts first n) (together facts (first +ℤ pos n) m) ≡ together facts first (n + m)
together-joined facts first n zero =
    joined-none (together facts first n) (together-bounded facts first n)
    ∙ ap (together facts first) (let e : n ≡ n + 0 = omega arith in e)
together-joined facts first n (suc m) =
    sym (one-joined (facts ((first +ℤ pos n) +ℤ pos m)) (together facts first n) (together facts (first +ℤ pos n) m))
    ∙ (ap (with_one (facts ((first +ℤ pos n) +ℤ pos m))) (together-joined facts first n m)
    ∙ (ap (λ (k : ℤ). with_one (facts k) (together facts first (n + m)))
    (let e : (first +ℤ pos n) +ℤ pos m ≡ first +ℤ pos (n + m) = omega (arith, ints) in e)
    ∙ ap (together facts first) (let e : suc (n + m) ≡ n + suc m = omega arith in e)))

-- what is known so far, with what is known of some words more
pub together-further : (facts : Facts) (first word : ℤ) (n m k : ℕ) (so_far more new : Together)
    → word ≡ first +ℤ pos n → k ≡ n + m → so_far ≡ together facts first n → more ≡ together facts word m
    → new ≡ joined so_far more → new ≡ together facts first k
together-further facts first word n m k so_far more new word_is k_is so_far_is more_is new_is =
    new_is
    ∙ (ap (λ (t : Together). joined t more) so_far_is
    ∙ (ap (joined (together facts first n)) (more_is ∙ ap (λ (w : ℤ). together facts w m) word_is)
    ∙ (together-joined facts first n m
    ∙ ap (together facts first) (sym k_is))))

pub together-one : (facts : Facts) (word : ℤ) (fact : WordFact) (none all : Together) → fact ≡ facts word
    → none ≡ of_none → all ≡ with_one fact none → all ≡ together facts word 1
together-one facts word fact none all fact_is none_is all_is =
    all_is
    ∙ (ap (with_one fact) none_is
    ∙ ap (λ (f : WordFact). with_one f of_none)
    (fact_is ∙ ap facts (let e : word ≡ word +ℤ pos 0 = omega (arith, ints) in e)))

-- of words of which the same is known, the same is known together
pub together-same : (facts others : Facts) (first : ℤ) (n : ℕ)
    → ((j : ℕ) → j < n → facts (first +ℤ pos j) ≡ others (first +ℤ pos j))
    → together facts first n ≡ together others first n
together-same facts others first zero same = refl
together-same facts others first (suc n) same =
    ap (λ (f : WordFact). with_one f (together facts first n)) (same n (omega arith))
    ∙ ap (with_one (others (first +ℤ pos n))) (together-same facts others first n (λ j l. same j (omega arith)))

-- ---- what is kept for blocks

pub kept-set : (blocks : List Block) (number n : ℕ) (block : Block) → number < length blocks
    → block_numbered (set blocks number block) n ≡ cond (eqb n number) block (block_numbered blocks n)
kept-set blocks number n block low = elim (cases_eq n number) [
  | inl e ↦
      let yes : eqb n number ≡ true = grind (arith, nat_tests) in
      rw yes (ap (block_numbered (set blocks number block)) e ∙ get_or-set_same blocks number block no_block low)
  | inr d ↦
      let no : eqb n number ≡ false = grind (arith, nat_tests) in
      rw no (get_or-set_other blocks number n block no_block d)
]

-- ---- the sums of blocks

-- the block that has an index
pub number-of : (index number size : ℕ) → number * size ≤ index → index < number * size + size → index / size ≡ number
number-of index number size low high =
    let behind = index - number * size in
    let here : number * size + behind ≡ index = omega arith in
    ap (λ (k : ℕ). k / size) (sym here) ∙ div-mul-add number size behind (omega arith)

pub no-sum : (block : Block) (sum : Together) → block ≡ no_block → block.sum ≡ Some sum → ⊥
no-sum block sum none some =
    let clash : None ≡ Some sum = sym (ap (λ (b : Block). b.sum) none) ∙ some in
    cc

-- nothing is summed
pub none-summed : (facts : Facts) (lo : ℤ) (blocks : List Block) → blocks ≡ [] → AreSummed facts lo blocks
unfolding AreSummed
none-summed facts lo blocks none = λ n sum is.
    absurd (no-sum (block_numbered blocks n) sum (ap (λ (bs : List Block). block_numbered bs n) none) is)

-- what is kept of a block is the sum of its words
pub sum-is : (facts : Facts) (lo : ℤ) (blocks : List Block) (number : ℕ) (found : Option Together)
    → AreSummed facts lo blocks → found ≡ (block_numbered blocks number).sum
    → (sum : Together) → found ≡ Some sum → sum ≡ together facts (first_of lo number) block_words
unfolding AreSummed
sum-is facts lo blocks number found summed is sum some = summed number sum (sym is ∙ some)

-- a word of another block stays what it is
other-block : (facts : Facts) (lo word : ℤ) (index number j : ℕ) (fact : Fact) → word ≡ lo +ℤ pos index
    → number ≢ index / block_words → j < block_words
    → facts (first_of lo number +ℤ pos j) ≡ with_alone word fact facts (first_of lo number +ℤ pos j)
other-block facts lo word index number j fact word_is other below =
    elim (word-cases (first_of lo number +ℤ pos j) word) [
      | inl h ↦
          let same = h.1 in
          let at : number * block_words + j ≡ index = omega (arith, ints) in
          absurd (other (sym (number-of index number block_words (omega arith) (omega arith))))
      | inr h ↦ rw h refl
    ]

-- a word is written, and its block has no sum any more
pub summed-write : (facts new : Facts) (lo word : ℤ) (index number : ℕ) (fact : Fact) (blocks others : List Block)
    → AreSummed facts lo blocks → new ≡ with_alone word fact facts → word ≡ lo +ℤ pos index
    → number ≡ index / block_words
    → ((n : ℕ) → block_numbered others n ≡ cond (eqb n number) no_block (block_numbered blocks n))
    → AreSummed new lo others
unfolding AreSummed
summed-write facts new lo word index number fact blocks others summed new_is word_is number_is kept =
    λ n sum is. elim (cases_eq n number) [
      | inl e ↦
          let yes : eqb n number ≡ true = grind (arith, nat_tests) in
          absurd (no-sum (block_numbered others n) sum
          (kept n ∙ ap (λ (b : Bool). cond b no_block (block_numbered blocks n)) yes) is)
      | inr d ↦
          let no : eqb n number ≡ false = grind (arith, nat_tests) in
          let same : block_numbered others n ≡ block_numbered blocks n =
          kept n ∙ ap (λ (b : Bool). cond b no_block (block_numbered blocks n)) no in
          summed n sum (sym (ap (λ (b : Block). b.sum) same) ∙ is)
          ∙ (together-same facts (with_alone word fact facts) (first_of lo n) block_words
          (λ j below. other-block facts lo word index n j fact word_is (λ h. d (h ∙ sym number_is)) below)
          ∙ ap (λ (f : Facts). together f (first_of lo n) block_words) (sym new_is))
    ]

-- one more sum
pub summed-more : (facts : Facts) (lo word : ℤ) (number : ℕ) (all : Together) (block : Block)
    (blocks others : List Block) → AreSummed facts lo blocks → block.sum ≡ Some all → word ≡ first_of lo number
    → all ≡ together facts word block_words
    → ((n : ℕ) → block_numbered others n ≡ cond (eqb n number) block (block_numbered blocks n))
    → AreSummed facts lo others
unfolding AreSummed
summed-more facts lo word number all block blocks others summed all_is word_is right kept =
    λ n sum is. elim (cases_eq n number) [
      | inl e ↦
          let yes : eqb n number ≡ true = grind (arith, nat_tests) in
          let here : block_numbered others n ≡ block = kept n
          ∙ ap (λ (b : Bool). cond b block (block_numbered blocks n)) yes in
          let same : Some sum ≡ Some all = sym is ∙ (ap (λ (b : Block). b.sum) here ∙ all_is) in
          let sum_is : sum ≡ all = cc in
          sum_is ∙ (right ∙ (ap (λ (w : ℤ). together facts w block_words) word_is
          ∙ ap (λ (k : ℕ). together facts (first_of lo k) block_words) (sym e)))
      | inr d ↦
          let no : eqb n number ≡ false = grind (arith, nat_tests) in
          let same : block_numbered others n ≡ block_numbered blocks n =
          kept n ∙ ap (λ (b : Bool). cond b block (block_numbered blocks n)) no in
          summed n sum (sym (ap (λ (b : Block). b.sum) same) ∙ is)
    ]

-- the sum of the block that begins at a word
pub sum-at : (facts : Facts) (lo word : ℤ) (number : ℕ) (blocks : List Block) (found : Option Together)
    → AreSummed facts lo blocks → found ≡ (block_numbered blocks number).sum → first_of lo number ≡ word
    → IfSome found (λ sum. sum ≡ together facts word block_words)
unfolding AreSummed
sum-at facts lo word number blocks None summed is begins = tt
sum-at facts lo word number blocks (Some sum) summed is begins =
    summed number sum (sym is) ∙ ap (λ (w : ℤ). together facts w block_words) begins

-- the block that begins at a word
pub begins-at : (lo word : ℤ) (index : ℕ) → word ≡ lo +ℤ pos index → index % block_words ≡ 0
    → first_of lo (index / block_words) ≡ word
begins-at lo word index word_is whole =
    let both = div-add-mod' index block_words in
    let at : index / block_words * block_words ≡ index = omega arith in
    ap (λ (k : ℕ). lo +ℤ pos k) at ∙ sym word_is
