-- What lend finds, what a turn costs, and the words of a loop's block.
use Rattle.std.proofs.Common.{◌≡◌, ℕ, suc, ◌+◌, ◌-◌, ◌%◌, ◌^◌, ◌<◌, ◌≤◌, nat_le, ◌&&◌, ◌||◌, ℤ, pos, negsuc}
use Rattle.std.proofs.Common.{◌+ℤ◌, ◌-ℤ◌, ◌*ℤ◌, ◌≤ℤ◌, ◌<ℤ◌, FitsSigned, Bool, true, false, cond, ◌⊎◌, inl, inr, Option}
use Rattle.std.proofs.Common.{Some, None, refl, sym, ap, ◌∙◌, subst, arith}
use Rattle.std.proofs.lemmas.Bool.{eqb-true, and_parts, cases_Bool}
use Rattle.std.proofs.lemmas.Int.{ints, of_z-to_z, to_z-of_z, wrapping_add_onto, int_wrap_fits}
use Rattle.std.specs.Prelude.{int_le, int_lt, option_map, option_and_then}
use Rattle.std.specs.Int.{w32, int_wrap, cast_unsigned}
use Rattle.std.proofs.lemmas.Option.{same_Some, cond_some}
use Rattle.small_laws.proofs.Comparisons.{int_le-true, int_lt-true}
use Rattle.module_format.specs.Rows.{Fact}
use Rattle.module_format.specs.declared.fact.Fact.TheVariants.{Unknown, Number, Pointer, CodeAddress, Loop}
use Rattle.module_format.specs.declared.fact.Region.TheVariants as regions
use Rattle.module_format.specs.declared.fact.Fact.TheVariants.{ReturnAddress}
use Rattle.module_format.specs.declared.fact.Step.{Step}
use Rattle.module_format.specs.Order.{is_stepped, least_word, greatest_word}
use Rattle.module_format.specs.Contents.{Label, label_at}
use Rattle.certificate.specs.Rights.{may_write_word}
use Rattle.machine_state.specs.Memory.{place_of, local_address, data_start}
use Rattle.machine_state.specs.LocalStep as step
use Rattle.machine_state.specs.LocalStep.{target}
use Rattle.states.specs.declared.known.Loop.{Loop as CountedLoop}
use Rattle.states.specs.declared.known.WordFact.{WordFact}
use Rattle.states.specs.declared.known.WordFact.TheVariants.{Alone, Index, Count}
use Rattle.states.specs.State.{State, Facts, by_itself, is_same_number, is_at, is_parted, with_fact}
use Rattle.states.specs.Below.{is_same_loop}
use Rattle.local_rules.specs.declared.loops.Block.{Block}
use Rattle.rulings.specs.Rulings.{Site}
use Rattle.local_rules.specs.LoopRules.{word_of_offset, word_pointed, last_index, block_of_loop, loop_block}
use Rattle.local_rules.specs.LoopRules.{is_beside_workspace, provided, block_at, block_of, Beginning, begins_at}
use Rattle.local_rules.specs.LoopRules.{beginning_at, beginning}
use Rattle.rulings.proofs.Words.{word_test, same_word_by}
use Rattle.rulings.proofs.Reaching.{address_of}

-- ---- tests that passed

provided_some : {A : Type 0} (b : Bool) (o : Option A) (w : A) → provided b o ≡ Some w → (b ≡ true) × (o ≡ Some w)
unfolding provided
provided_some true o w e = (refl, e)
provided_some false o w e = absurd (cc)

-- ---- the block

four_times : (z : ℤ) → is_stepped z ≡ true → pos 4 *ℤ word_of_offset z ≡ z
four_times (pos n) h = let e : n % 4 ≡ 0 = eqb-true (n % 4) 0 h in omega (arith, ints)
four_times (negsuc n) h = let e : suc n % 4 ≡ 0 = eqb-true (suc n % 4) 0 h in omega (arith, ints)

-- a pointer that leads to a word of the frame
pub record Leads (fact : Fact) (k : ℤ) : Type 0 where
  pub step : Step
  pub is : fact ≡ Pointer regions.Frame (pos 4 *ℤ k) (pos 4 *ℤ k) step

pub pointed : (fact : Fact) (k : ℤ) → word_pointed fact ≡ Some k → Leads fact k
unfolding word_pointed
pointed Unknown k e = absurd (cc)
pointed (Number lo hi) k e = absurd (cc)
pointed (CodeAddress offset) k e = absurd (cc)
pointed (Loop base count weight) k e = absurd (cc)
pointed ReturnAddress k e = absurd (cc)
pointed (Pointer regions.Constants lo hi step) k e = absurd (cc)
pointed (Pointer (regions.Parameter j) lo hi step) k e = absurd (cc)
pointed (Pointer regions.Frame lo hi step) k e =
    let found = cond_some (is_same_number lo hi && is_stepped lo) (word_of_offset lo) k e in
    let tests = and_parts (is_same_number lo hi) (is_stepped lo) found.0 in
    let low : lo ≡ pos 4 *ℤ k = sym (four_times lo tests.1) ∙ ap (λ (z : ℤ). pos 4 *ℤ z) found.1 in
    let high : hi ≡ pos 4 *ℤ k = sym (same_word_by lo hi tests.0) ∙ low in
    record {
      step = step;
      is = ap (λ (z : ℤ). Pointer regions.Frame z hi step) low
          ∙ ap (λ (z : ℤ). Pointer regions.Frame (pos 4 *ℤ k) z step) high;
    }

-- The words of a block are the index and the count of its loop, whose last index is a word.
pub record IsBlock (k : ℤ) (first second : WordFact) (block : Block) : Type 0 where
  pub word : block.word ≡ k
  pub index : first ≡ Index block.turning
  pub other : CountedLoop
  pub count : second ≡ Count other
  pub last : block.last ≡ block.turning.base +ℤ pos block.turning.count -ℤ pos 1
  pub low : least_word ≤ℤ block.last
  pub high : block.last ≤ℤ greatest_word

abbrev block_with : ℤ → CountedLoop → ℤ → Block
block_with k loop last = record { word = k; turning = loop; last = last }

last_tells : (k : ℤ) (loop : CountedLoop) (block : Block) → block_of_loop k loop ≡ Some block
    → (block.word ≡ k) × (block.turning ≡ loop) × (block.last ≡ loop.base +ℤ pos loop.count -ℤ pos 1)
    × (least_word ≤ℤ block.last) × (block.last ≤ℤ greatest_word)
unfolding last_index
last_tells k loop block e = on_test (cases_Bool (int_le least_word last && int_le last greatest_word))
  where
    last : ℤ
    last = loop.base +ℤ pos loop.count -ℤ pos 1

    on_test : ((int_le least_word last && int_le last greatest_word) ≡ true)
        ⊎ ((int_le least_word last && int_le last greatest_word) ≡ false)
        → (block.word ≡ k) × (block.turning ≡ loop) × (block.last ≡ last) × (least_word ≤ℤ block.last)
        × (block.last ≤ℤ greatest_word)
    on_test (inl t) =
        let tests = and_parts (int_le least_word last) (int_le last greatest_word) t in
        let found : Some (block_with k loop last) ≡ Some block =
        sym (ap (λ (b : Bool). option_map (block_with k loop)
        (cond b (Some last) None)) t) ∙ e in
        let is = same_Some _ _ found in
        let same : block.last ≡ last = sym (ap (λ (b : Block). b.last) is) in (
          sym (ap (λ (b : Block). b.word) is),
          sym (ap (λ (b : Block). b.turning) is),
          same,
          subst (λ (z : ℤ). least_word ≤ℤ z) (sym same) (int_le-true least_word last tests.0),
          subst (λ (z : ℤ). z ≤ℤ greatest_word) (sym same) (int_le-true last greatest_word tests.1),
        )
    on_test (inr t) =
        let none : None ≡ Some block =
        sym (ap (λ (b : Bool). option_map (block_with k loop)
        (cond b (Some last) None)) t) ∙ e in absurd (cc)

pub loop_tells : (k : ℤ) (first second : WordFact) (block : Block) → loop_block k first second ≡ Some block
    → IsBlock k first second block
unfolding loop_block
loop_tells k (Alone fact) second block e = absurd (cc)
loop_tells k (Count loop) second block e = absurd (cc)
loop_tells k (Index loop) (Alone fact) block e = absurd (cc)
loop_tells k (Index loop) (Index other) block e = absurd (cc)
loop_tells k (Index loop) (Count other) block e = on_test (cases_Bool (is_same_loop loop other))
  where
    on_test : (is_same_loop loop other ≡ true) ⊎ (is_same_loop loop other ≡ false)
        → IsBlock k (Index loop) (Count other) block
    on_test (inl t) =
        let all = last_tells k loop block
        (sym (ap (λ (b : Bool). cond b (block_of_loop k loop) None) t) ∙ e) in
        record {
          word = all.0;
          index = ap Index (sym all.1);
          other = other;
          count = refl;
          last = all.2 ∙ ap (λ (l : CountedLoop). l.base +ℤ pos l.count -ℤ pos 1) (sym all.1);
          low = all.3;
          high = all.4;
        }
    on_test (inr t) =
        let none : None ≡ Some block = sym (ap (λ (b : Bool). cond b (block_of_loop k loop) None) t) ∙ e in absurd (cc)

-- A pointer leads to a block at word k. The context may write both words, which are not those below the workspace.
pub record FindsBlock (site : Site) (s : State) (fact : Fact) (k : ℤ) (block : Block) : Type 0 where
  pub leads : Leads fact k
  pub first : may_write_word site.contents s.context k ≡ true
  pub second : may_write_word site.contents s.context (k +ℤ pos 1) ≡ true
  pub beside : is_beside_workspace s.depth k ≡ true
  pub is : IsBlock k (s.frame k) (s.frame (k +ℤ pos 1)) block

found_at : (site : Site) (s : State) (fact : Fact) (k : ℤ) (block : Block) → word_pointed fact ≡ Some k
    → block_at site s k ≡ Some block → FindsBlock site s fact k block
unfolding block_at
found_at site s fact k block is found =
    let one = provided_some (may_write_word site.contents s.context k) _ block found in
    let two = provided_some (may_write_word site.contents s.context (k +ℤ pos 1)) _ block one.1 in
    let three = provided_some (is_beside_workspace s.depth k) _ block two.1 in
    record {
      leads = pointed fact k is;
      first = one.0;
      second = two.0;
      beside = three.0;
      is = loop_tells k (s.frame k) (s.frame (k +ℤ pos 1)) block three.1;
    }

pub finds_block : (site : Site) (s : State) (fact : Fact) (block : Block) → block_of site s fact ≡ Some block
    → (k : ℤ) × FindsBlock site s fact k block
finds_block site s fact block e = on_word (word_pointed fact) refl e
  where
    on_word : (o : Option ℤ) → word_pointed fact ≡ o → option_and_then (block_at site s) o ≡ Some block
        → (k : ℤ) × FindsBlock site s fact k block
    on_word None is found = absurd (cc)
    on_word (Some k) is found = (k, found_at site s fact k block is found)

-- word k and the next one are none of the three below the workspace
pub beside_words : (depth k : ℤ) → is_beside_workspace depth k ≡ true → (depth ≤ℤ k) ⊎ ((k +ℤ pos 4) <ℤ depth)
beside_words depth k e = elim (cases_Bool (int_le depth k)) [
  | inl t ↦ inl (int_le-true depth k t)
  | inr t ↦ inr (int_lt-true (k +ℤ pos 4) depth (sym (ap (λ (b : Bool). b || int_lt (k +ℤ pos 4) depth) t) ∙ e))
]

-- ---- where a turn begins

-- The distance is a constant, which leads back to a label.
pub record FindsBeginning (site : Site) (fact : Fact) (begins : Beginning) : Type 0 where
  pub back : ℕ
  pub some : 1 ≤ back
  pub is : fact ≡ Number (pos back) (pos back)
  pub at : begins.at ≡ target (site.at + site.length) (pos 0 -ℤ pos back)
  pub label : label_at site.contents begins.at ≡ Some begins.label

beginning_tells : (site : Site) (to : ℕ) (begins : Beginning) → beginning_at site to ≡ Some begins
    → (begins.at ≡ to) × (label_at site.contents begins.at ≡ Some begins.label)
beginning_tells site to begins e = on_label (label_at site.contents to) refl (nat_le to site.at) e
  where
    on_label : (o : Option Label) → label_at site.contents to ≡ o → (b : Bool)
        → cond b (option_map (begins_at to) o) None ≡ Some begins
        → (begins.at ≡ to) × (label_at site.contents begins.at ≡ Some begins.label)
    on_label o is false found = absurd (cc)
    on_label None is true found = absurd (cc)
    on_label (Some t) is true found =
        let same = same_Some _ _ found in
        let at : begins.at ≡ to = sym (ap (λ (b : Beginning). b.at) same) in (
          at,
          ap (label_at site.contents) at ∙ (is ∙ ap (λ (b : Beginning). Some b.label) same),
        )

back_of : (z : ℤ) → pos 1 ≤ℤ z → (n : ℕ) × (z ≡ pos n) × (1 ≤ n)
back_of (pos n) some = (n, refl, omega (arith, ints))
back_of (negsuc n) some = absurd (omega (arith, ints))

pub finds_beginning : (site : Site) (fact : Fact) (begins : Beginning) → beginning site fact ≡ Some begins
    → FindsBeginning site fact begins
unfolding beginning
finds_beginning site Unknown begins e = absurd (cc)
finds_beginning site (Pointer region lo hi step) begins e = absurd (cc)
finds_beginning site (CodeAddress offset) begins e = absurd (cc)
finds_beginning site (Loop base count weight) begins e = absurd (cc)
finds_beginning site ReturnAddress begins e = absurd (cc)
finds_beginning site (Number lo hi) begins e = on_test (cases_Bool (is_same_number lo hi && int_le (pos 1) lo))
  where
    to : ℕ
    to = target (site.at + site.length) (pos 0 -ℤ lo)

    on_test : ((is_same_number lo hi && int_le (pos 1) lo) ≡ true)
        ⊎ ((is_same_number lo hi && int_le (pos 1) lo) ≡ false)
        → FindsBeginning site (Number lo hi) begins
    on_test (inl t) =
        let tests = and_parts (is_same_number lo hi) (int_le (pos 1) lo) t in
        let back = back_of lo (int_le-true (pos 1) lo tests.1) in
        let high : hi ≡ pos back.0 = sym (same_word_by lo hi tests.0) ∙ back.1 in
        let told = beginning_tells site to begins
        (sym (ap (λ (b : Bool). cond b (beginning_at site to) None) t) ∙ e) in
        record {
          back = back.0;
          some = back.2;
          is = ap (λ (z : ℤ). Number z hi) back.1 ∙ ap (λ (z : ℤ). Number (pos back.0) z) high;
          at = told.0 ∙ ap (λ (z : ℤ). target (site.at + site.length) (pos 0 -ℤ z)) back.1;
          label = told.1;
        }
    on_test (inr t) =
        let none : None ≡ Some begins = sym (ap (λ (b : Bool). cond b (beginning_at site to) None) t) ∙ e in
        absurd (cc)

-- ---- arithmetic modulo 2^32

-- an address, as a word, is the address
pub address_small : (n : ℕ) → n < 4294967296 → step.address (int_wrap w32 (pos n)) ≡ n
address_small n low = address_of (pos n) ∙ omega arith

pub place_here : (place : ℕ) → place < 1048576 → place_of (data_start + place) ≡ place
unfolding place_of
place_here place low = omega arith

pub place_next : (place : ℕ) → place < 1048576 → place_of (local_address (data_start + place) (pos 1)) ≡ place + 4
unfolding place_of local_address
place_next place low = omega (arith, ints)

-- a count that is one less
pub one_less : (t : ℕ) → 1 ≤ t → t < 2147483648
    → step.word_of ((step.address (pos t) + (2 ^ 32 - 1)) % 2 ^ 32) ≡ pos (t - 1)
one_less t some low = omega (arith, ints)

-- an index that is one more
pub one_more : (z : ℤ) → FitsSigned w32 z → FitsSigned w32 (z +ℤ pos 1)
    → step.word_of ((step.address z + 1) % 2 ^ 32) ≡ z +ℤ pos 1
one_more z fits more =
    wrapping_add_onto w32 (step.address z) (pos 1) (omega (arith, ints)) (omega (arith, ints))
    ∙ (ap (λ (y : ℤ). int_wrap w32 (y +ℤ pos 1)) (to_z-of_z w32 z fits) ∙ int_wrap_fits w32 (z +ℤ pos 1) more)

-- the offset to which lend goes back
pub back_target : (next n : ℕ) → 1 ≤ n → n < 2147483648
    → target next (step.word_of ((2 ^ 32 - step.address (pos n)) % 2 ^ 32)) ≡ target next (pos 0 -ℤ pos n)
back_target next n some low =
    let rest = (2 ^ 32 - step.address (pos n)) % 2 ^ 32 in
    let same : cast_unsigned w32 (pos 0 -ℤ pos n) ≡ 4294967296 - n = omega (arith, ints) in
    let there : rest ≡ 4294967296 - n = omega (arith, ints) in
    ap (λ (k : ℕ). (next + k) % 2 ^ 32) (of_z-to_z w32 rest (omega (arith, there)) ∙ (there ∙ sym same))

-- ---- facts of words that are written elsewhere

-- the index of a loop is as it was where neither word of the block is written
pub index_kept : (j k : ℤ) (fact : Fact) (facts : Facts) (loop : CountedLoop) → facts k ≡ Index loop
    → (j ≡ k → ⊥) → (j ≡ k +ℤ pos 1 → ⊥) → with_fact j fact facts k ≡ Index loop
index_kept j k fact facts loop is one two =
    on_tests (word_test k j) (word_test (k +ℤ pos 1) j)
  where
    on_tests : ((is_same_number k j ≡ true) × (k ≡ j)) ⊎ ((is_same_number k j ≡ false) × (k ≡ j → ⊥))
        → ((is_same_number (k +ℤ pos 1) j ≡ true) × (k +ℤ pos 1 ≡ j))
        ⊎ ((is_same_number (k +ℤ pos 1) j ≡ false) × (k +ℤ pos 1 ≡ j → ⊥))
        → with_fact j fact facts k ≡ Index loop
    on_tests (inl p) q = absurd (one (sym p.1))
    on_tests (inr p) (inl q) = absurd (two (sym q.1))
    on_tests (inr p) (inr q) =
        ap (λ (b : Bool). cond b (Alone fact) (cond (is_parted (is_at j) k (facts k)) (Alone (by_itself (facts k)))
        (facts k))) p.0
        ∙ (ap (λ (f : WordFact). cond (is_parted (is_at j) k f) (Alone (by_itself f)) f) is
        ∙ ap (λ (b : Bool). cond b (Alone (by_itself (Index loop))) (Index loop)) q.0)

-- what a change leaves of the fact of a word: this if it is touched, else what is left of its loop
abbrev left : Bool → Fact → (WordFact → Bool) → WordFact → WordFact
left touched new parted f = cond touched (Alone new) (cond (parted f) (Alone (by_itself f)) f)

left_commutes : (a b : Bool) (f g : Fact) (p q : WordFact → Bool) (x : WordFact) → ((y : Fact) → p (Alone y) ≡ false)
    → ((y : Fact) → q (Alone y) ≡ false) → (a ≡ true → b ≡ true → ⊥)
    → left a f p (left b g q x) ≡ left b g q (left a f p x)
left_commutes true true f g p q x hp hq differ = absurd (differ refl refl)
left_commutes true false f g p q x hp hq differ =
    sym (ap (λ (t : Bool). cond t (Alone f) (Alone f)) (hq f))
left_commutes false true f g p q x hp hq differ = ap (λ (t : Bool). cond t (Alone g) (Alone g)) (hp g)
left_commutes false false f g p q x hp hq differ = on_parts (p x) (q x) refl refl
  where
    itself : WordFact
    itself = Alone (by_itself x)

    on_parts : (c d : Bool) → p x ≡ c → q x ≡ d
        → left false f p (left false g q x) ≡ left false g q (left false f p x)
    on_parts c d e h =
        ap (left false f p) (ap (λ (t : Bool). cond t itself x) h) ∙ (both c d e h
        ∙ sym (ap (left false g q) (ap (λ (t : Bool). cond t itself x) e)))
      where
        alone_p : left false f p itself ≡ itself
        alone_p = ap (λ (t : Bool). cond t itself itself) (hp (by_itself x))

        alone_q : left false g q itself ≡ itself
        alone_q = ap (λ (t : Bool). cond t itself itself) (hq (by_itself x))

        both : (c d : Bool) → p x ≡ c → q x ≡ d
            → left false f p (cond d itself x) ≡ left false g q (cond c itself x)
        both true true e h = alone_p ∙ sym alone_q
        both true false e h = ap (λ (t : Bool). cond t itself x) e ∙ sym alone_q
        both false true e h = alone_p ∙ sym (ap (λ (t : Bool). cond t itself x) h)
        both false false e h =
            ap (λ (t : Bool). cond t itself x) e ∙ sym (ap (λ (t : Bool). cond t itself x) h)

-- two words that are written may be written in either order
pub with_facts_commute : (j k i : ℤ) (f g : Fact) (facts : Facts) → (j ≡ k → ⊥)
    → with_fact j f (with_fact k g facts) i ≡ with_fact k g (with_fact j f facts) i
with_facts_commute j k i f g facts differ =
    left_commutes (is_at j i) (is_at k i) f g (is_parted (is_at j) i) (is_parted (is_at k) i) (facts i) (λ y. refl)
    (λ y. refl) (λ p q. differ (sym (same_word_by i j p) ∙ same_word_by i k q))

-- a write to a word whose fact is the same before is the same
pub with_fact_same : (j i : ℤ) (f : Fact) (facts others : Facts) → facts i ≡ others i
    → with_fact j f facts i ≡ with_fact j f others i
with_fact_same j i f facts others same = ap (left (is_at j i) f (is_parted (is_at j) i)) same
