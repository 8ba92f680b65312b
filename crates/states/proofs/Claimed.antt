-- What is claimed of what labels want of some words.
use Rattle.std.proofs.Common.{◌≡◌, ℕ, zero, suc, ◌+◌, ◌*◌, ◌<◌, ◌≤◌, ℤ, pos, ◌+ℤ◌, ◌-ℤ◌, ◌≤ℤ◌, ◌<ℤ◌, true, false}
use Rattle.std.proofs.Common.{List, [], ◌∷◌, ◌++◌, length, get_or, Some, None, refl, sym, ap, ◌∙◌, subst, arith}
use Rattle.std.specs.Prelude.{◌==◌, Option, is_some}
use Rattle.std.proofs.lemmas.Bool.Decides.{nat_tests}
use Rattle.std.proofs.lemmas.Int.{ints}
use Rattle.std.proofs.lemmas.Bool.{and_parts, and_from}
use Rattle.small_laws.proofs.Comparisons.{le-int_le, int_le-true}
use Rattle.module_format.specs.Rows.{Fact, Entry}
use Rattle.module_format.specs.Regions.{is_same_region}
use Rattle.module_format.specs.Contents.{Contents, Label}
use Rattle.module_format.specs.declared.fact.Fact.TheVariants.{Unknown, Number, Pointer, CodeAddress, Loop}
use Rattle.module_format.specs.declared.fact.Fact.TheVariants.{ReturnAddress}
use Rattle.module_format.specs.declared.fact.Region.{Region}
use Rattle.module_format.specs.declared.fact.Region.TheVariants as regions
use Rattle.module_format.specs.declared.fact.Step.{Step}
use Rattle.module_format.specs.declared.fact.Step.TheVariants.{Byte, Word}
use Rattle.states.specs.declared.claims.Claim.{Claim}
use Rattle.states.specs.declared.known.Loop.{Loop as CountedLoop}
use Rattle.states.specs.declared.known.WordFact.{WordFact}
use Rattle.states.specs.declared.known.WordFact.TheVariants.{Alone, Index, Count}
use Rattle.states.specs.Claims.{IsClaim, AreClaimed}
use Rattle.states.specs.State.{Facts, by_itself, is_alone, entry_fact}
use Rattle.states.specs.Below.{says, implies, step_implies}
use Rattle.states.specs.Blocks.{block_words, first_of}
use Rattle.states.specs.Comparing.{BlockSaysAll, loop_of, IsPast}
use Rattle.states.specs.Remembered.{numbered_label, time_of, index_time, word_time, wants_no_loop}
use Rattle.states.proofs.Hulls.{unknown-implied, implies-narrower, plain-said}
use Rattle.states.proofs.BlockSums.{number-of}

-- ---- claims

-- each of some claims and one more
each-more : (m : Contents) (claims : List Claim) (c : Claim) → IsClaim m c
    → ((i : ℕ) → i < length claims → (d : Claim) → IsClaim m (get_or claims i d))
    → (i : ℕ) → i < length (claims ++ c ∷ []) → (d : Claim) → IsClaim m (get_or (claims ++ c ∷ []) i d)
each-more m [] c here all zero l d = here
each-more m [] c here all (suc i) l d = absurd (omega (arith, l))
each-more m (first ∷ claims) c here all zero l d = all 0 (omega arith) d
each-more m (first ∷ claims) c here all (suc i) l d =
    each-more m claims c here (λ j h e. all (suc j) (omega (arith, h)) e) i (omega (arith, l)) d

-- one more is claimed
pub claimed-more : (m : Contents) (claims others : List Claim) (c : Claim) → others ≡ claims ++ c ∷ [] → IsClaim m c
    → AreClaimed m claims → AreClaimed m others
unfolding AreClaimed
claimed-more m claims others c is here all =
    subst (λ (cs : List Claim). (i : ℕ) → i < length cs → (d : Claim) → IsClaim m (get_or cs i d)) (sym is)
    (each-more m claims c here all)

-- nothing is claimed
pub none-claimed : (m : Contents) (claims : List Claim) → claims ≡ [] → AreClaimed m claims
unfolding AreClaimed
none-claimed m claims none = λ i l d.
    let len = ap length none in
    absurd (omega (arith, l, len))

-- the claim at a place
pub claim-at : (m : Contents) (claims : List Claim) (i : ℕ) (d c : Claim) (label : ℕ) (first end : ℤ)
    → AreClaimed m claims → i < length claims → c ≡ get_or claims i d → label ≡ c.label → first ≡ c.first
    → end ≡ c.end → IsClaim m (record { label = label; first = first; end = end; fact = c.fact })
unfolding AreClaimed
claim-at m claims i d c label first end all low is label_is first_is end_is = λ t found.
    let here : IsClaim m c = subst (IsClaim m) (sym is) (all i low d) in
    let both = here t (ap (numbered_label m) (sym label_is) ∙ found) in
    (both.0, λ k l h. both.1 k (omega (arith, ints, first_is, l)) (omega (arith, ints, end_is, h)))

-- a label of which something is claimed wants no loop
pub claimed-plain : (m : Contents) (claims : List Claim) (i : ℕ) (d c : Claim) (label : ℕ) → AreClaimed m claims
    → i < length claims → c ≡ get_or claims i d → c.label ≡ label
    → (t : Label) → numbered_label m label ≡ Some t → wants_no_loop t.entries ≡ true
unfolding AreClaimed
claimed-plain m claims i d c label all low is label_is t found =
    let here : IsClaim m c = subst (IsClaim m) (sym is) (all i low d) in
    (here t (ap (numbered_label m) label_is ∙ found)).0

pub no-loop-there : (o : Option CountedLoop) → is_some o ≡ false → o ≡ None
no-loop-there None h = refl
no-loop-there (Some loop) h = absurd (cc)

-- ---- what a fact says of which another one says what is wanted

steps-through : (a b c : Step) → step_implies a b ≡ true → step_implies b c ≡ true → step_implies a c ≡ true
steps-through a b Byte h g = byte a
  where
    byte : (s : Step) → step_implies s Byte ≡ true
    byte Byte = refl
    byte Word = refl
steps-through Byte Byte Word h g = absurd (cc)
steps-through Byte Word Word h g = absurd (cc)
steps-through Word b Word h g = refl

same-through : (a b c : ℕ) → (a == b) ≡ true → (b == c) ≡ true → (a == c) ≡ true
same-through a b c h g = grind (arith, nat_tests)

-- regions that are the same are one
pub same-region : (a b : Region) → is_same_region a b ≡ true → a ≡ b
same-region regions.Frame regions.Frame h = refl
same-region regions.Constants regions.Constants h = refl
same-region (regions.Parameter j) (regions.Parameter k) h =
    let same : j ≡ k = grind (arith, nat_tests, h) in ap regions.Parameter same
same-region regions.Frame regions.Constants h = absurd (cc)
same-region regions.Frame (regions.Parameter k) h = absurd (cc)
same-region regions.Constants regions.Frame h = absurd (cc)
same-region regions.Constants (regions.Parameter k) h = absurd (cc)
same-region (regions.Parameter j) regions.Frame h = absurd (cc)
same-region (regions.Parameter j) regions.Constants h = absurd (cc)

regions-through : (a b c : Region) → is_same_region a b ≡ true → is_same_region b c ≡ true
    → is_same_region a c ≡ true
regions-through a b c h g = subst (λ (r : Region). is_same_region a r ≡ true) (same-region b c g) h

-- what a fact says says what that one says
implies-through : (a b c : Fact) → implies a b ≡ true → implies b c ≡ true → implies a c ≡ true
implies-through a b Unknown h g = unknown-implied a
implies-through (Number lo hi) (Number low high) (Number from to) h g =
    let both = and_parts _ _ h in
    implies-narrower lo hi low high (Number from to) (int_le-true low lo both.0) (int_le-true hi high both.1) g
implies-through (Pointer region lo hi step) (Pointer other low high stride) (Pointer third from to pace) h g =
    let first = and_parts _ _ h in
    let regions = and_parts _ _ first.0 in
    let second = and_parts _ _ g in
    let others = and_parts _ _ second.0 in
    let l = and_parts _ _ regions.1 in
    let r = and_parts _ _ others.1 in
    let a = int_le-true low lo l.0 in
    let b = int_le-true hi high l.1 in
    let c = int_le-true from low r.0 in
    let d = int_le-true high to r.1 in
    and_from _ _
    (and_from _ _ (regions-through region other third regions.0 others.0)
    (and_from _ _ (le-int_le from lo (omega (arith, ints, a, c))) (le-int_le hi to (omega (arith, ints, b, d)))))
    (steps-through step stride pace first.1 second.1)
implies-through (CodeAddress offset) (CodeAddress other) (CodeAddress third) h g = same-through offset other third h g
implies-through ReturnAddress ReturnAddress ReturnAddress h g = refl
implies-through a Unknown (Number from to) h g = absurd (cc)
implies-through Unknown (Number low high) (Number from to) h g = absurd (cc)
implies-through (Pointer region lo hi step) (Number low high) (Number from to) h g = absurd (cc)
implies-through (CodeAddress offset) (Number low high) (Number from to) h g = absurd (cc)
implies-through (Loop start times price) (Number low high) (Number from to) h g = absurd (cc)
implies-through ReturnAddress (Number low high) (Number from to) h g = absurd (cc)
implies-through a (Pointer other low high stride) (Number from to) h g = absurd (cc)
implies-through a (CodeAddress other) (Number from to) h g = absurd (cc)
implies-through a (Loop base count weight) (Number from to) h g = absurd (cc)
implies-through a ReturnAddress (Number from to) h g = absurd (cc)
implies-through a Unknown (Pointer third from to pace) h g = absurd (cc)
implies-through a (Number low high) (Pointer third from to pace) h g = absurd (cc)
implies-through Unknown (Pointer other low high stride) (Pointer third from to pace) h g = absurd (cc)
implies-through (Number lo hi) (Pointer other low high stride) (Pointer third from to pace) h g = absurd (cc)
implies-through (CodeAddress offset) (Pointer other low high stride) (Pointer third from to pace) h g = absurd (cc)
implies-through (Loop start times price) (Pointer other low high stride) (Pointer third from to pace) h g = absurd (cc)
implies-through ReturnAddress (Pointer other low high stride) (Pointer third from to pace) h g = absurd (cc)
implies-through a (CodeAddress other) (Pointer third from to pace) h g = absurd (cc)
implies-through a (Loop base count weight) (Pointer third from to pace) h g = absurd (cc)
implies-through a ReturnAddress (Pointer third from to pace) h g = absurd (cc)
implies-through a Unknown (CodeAddress third) h g = absurd (cc)
implies-through a (Number low high) (CodeAddress third) h g = absurd (cc)
implies-through a (Pointer other low high stride) (CodeAddress third) h g = absurd (cc)
implies-through Unknown (CodeAddress other) (CodeAddress third) h g = absurd (cc)
implies-through (Number lo hi) (CodeAddress other) (CodeAddress third) h g = absurd (cc)
implies-through (Pointer region lo hi step) (CodeAddress other) (CodeAddress third) h g = absurd (cc)
implies-through (Loop start times price) (CodeAddress other) (CodeAddress third) h g = absurd (cc)
implies-through ReturnAddress (CodeAddress other) (CodeAddress third) h g = absurd (cc)
implies-through a (Loop base count weight) (CodeAddress third) h g = absurd (cc)
implies-through a ReturnAddress (CodeAddress third) h g = absurd (cc)
implies-through a Unknown (Loop first turns cost) h g = absurd (cc)
implies-through a (Number low high) (Loop first turns cost) h g = absurd (cc)
implies-through a (Pointer other low high stride) (Loop first turns cost) h g = absurd (cc)
implies-through a (CodeAddress other) (Loop first turns cost) h g = absurd (cc)
implies-through a (Loop base count weight) (Loop first turns cost) h g = absurd (cc)
implies-through a ReturnAddress (Loop first turns cost) h g = absurd (cc)
implies-through a Unknown ReturnAddress h g = absurd (cc)
implies-through a (Number low high) ReturnAddress h g = absurd (cc)
implies-through a (Pointer other low high stride) ReturnAddress h g = absurd (cc)
implies-through a (CodeAddress other) ReturnAddress h g = absurd (cc)
implies-through a (Loop base count weight) ReturnAddress h g = absurd (cc)
implies-through Unknown ReturnAddress ReturnAddress h g = absurd (cc)
implies-through (Number lo hi) ReturnAddress ReturnAddress h g = absurd (cc)
implies-through (Pointer region lo hi step) ReturnAddress ReturnAddress h g = absurd (cc)
implies-through (CodeAddress offset) ReturnAddress ReturnAddress h g = absurd (cc)
implies-through (Loop start times price) ReturnAddress ReturnAddress h g = absurd (cc)

-- a fact says of a word what one says that it implies
says-through : (said : WordFact) (fact : Fact) (wanted : WordFact) → implies (by_itself said) fact ≡ true
    → is_alone wanted ≡ true → says (Alone fact) wanted ≡ true → says said wanted ≡ true
says-through said fact (Alone wanted) h alone g = implies-through (by_itself said) fact wanted h g
says-through said fact (Index loop) h alone g = absurd (cc)
says-through said fact (Count loop) h alone g = absurd (cc)

-- a block of which no word was changed since the state went on from a label, whose row says there what is claimed
pub row-says : (facts : Facts) (row rest left : List Entry) (wanted : Facts) (lo first end next : ℤ)
    (times : List ℕ) (began number : ℕ) (fact : Fact)
    → ((k : ℤ) → 1 ≤ word_time lo times k → word_time lo times k < began → facts k ≡ entry_fact row k)
    → 1 ≤ time_of times number → time_of times number < began → first ≡ first_of lo number
    → end ≡ first +ℤ pos block_words
    → ((k : ℤ) → first ≤ℤ k → entry_fact rest k ≡ entry_fact row k) → IsPast rest first end fact left next
    → end ≤ℤ next → loop_of fact ≡ None
    → ((k : ℤ) → first ≤ℤ k → k <ℤ end → (is_alone (wanted k) ≡ true) × (says (Alone fact) (wanted k) ≡ true))
    → BlockSaysAll (first_of lo number) facts wanted block_words
row-says facts row rest left wanted lo first end next times began number fact fresh some early first_is end_is same
    past ends none claim = λ j l.
    let k = first_of lo number +ℤ pos j in
    let index : k -ℤ lo ≡ pos (number * block_words + j) = omega (arith, ints) in
    let number_is = number-of (number * block_words + j) number block_words (omega arith) (omega (arith, l)) in
    let time : word_time lo times k ≡ time_of times number =
    ap (index_time times) index ∙ ap (time_of times) number_is in
    let low : first ≤ℤ k = omega (arith, ints, first_is) in
    let high : k <ℤ end = omega (arith, ints, first_is, end_is, l) in
    let here = claim k low high in
    let known : facts k ≡ entry_fact row k = fresh k (omega (arith, time, some)) (omega (arith, time, early)) in
    let holds : says (entry_fact rest k) (Alone fact) ≡ true =
    ap (says (entry_fact rest k)) (sym (plain-said fact true none))
    ∙ past.each k low (omega (arith, ints, high, ends)) true in
    ap (λ (f : WordFact). says f (wanted k)) (known ∙ sym (same k low))
    ∙ says-through (entry_fact rest k) fact (wanted k) holds here.0 here.1
