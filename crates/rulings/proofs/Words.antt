-- Words of the frame: where they lie, and what a write to one leaves.
use Rattle.std.proofs.Common.{◌≡◌, ℕ, ◌+◌, ◌*◌, ◌%◌, ◌^◌, ◌≤◌, ◌<◌, ◌<ℤ◌, ℤ, pos, negsuc, ◌+ℤ◌, ◌*ℤ◌, ◌≤ℤ◌, FitsSigned}
use Rattle.std.proofs.Common.{Bool, true, false, cond, ◌&&◌, ◌⊎◌, inl, inr, length, Option, Some, None, refl, sym, ap}
use Rattle.std.proofs.Common.{◌∙◌, subst, lit<, arith}
use Rattle.std.specs.Prelude.{int_le, unsigned_abs}
use Rattle.std.proofs.lemmas.Int.{ints, SFits-int_wrap, int_rem_euclid_is}
use Rattle.std.specs.Int.{w32, cast_signed, cast_unsigned, int_wrap}
use Rattle.std.proofs.lemmas.Bool.{cases_Bool}
use Rattle.module_format.specs.Rows.{Fact}
use Rattle.module_format.specs.declared.fact.Fact.TheVariants.{Unknown, Number, Pointer, CodeAddress, Loop}
use Rattle.module_format.specs.declared.fact.Fact.TheVariants.{ReturnAddress}
use Rattle.module_format.specs.Contents.{Contents}
use Rattle.machine_state.specs.Memory.{Memory, place_of, local_address, data_start, word_at, with_word}
use Rattle.machine_state.specs.Holding.{Holding}
use Rattle.machine_state.proofs.Reading.{word_at-with_word, word_at-with_word_other}
use Rattle.states.specs.declared.known.WordFact.{WordFact}
use Rattle.states.specs.declared.known.WordFact.TheVariants.{Alone, Index, Count}
use Rattle.states.specs.declared.known.Known.{Known}
use Rattle.states.specs.declared.known.Source.{Source}
use Rattle.states.specs.declared.known.Source.TheVariants.{Nowhere, From, Test}
use Rattle.states.specs.State.{Facts, Change, is_same_number, is_parted, by_itself, handed_out, plain, changed}
use Rattle.states.specs.State.{one_word}
use Rattle.states.specs.State.{without_source, forgets}
use Rattle.module_format.specs.declared.stack.Stack.{Stack}
use Rattle.module_format.specs.Stack.{mapped}
use Rattle.rulings.specs.Meaning.{Layout, Activation, Means, says_nothing, is_number, is_pointer, is_code_address}
use Rattle.rulings.specs.Meaning.{is_return_address, MeansWord, is_fact, is_index, is_count, place_in, word_at_place}
use Rattle.rulings.specs.Meaning.{frame_word, IsOwnWord, Words, HasFrame, ComesFrom, from_nowhere, from_word}
use Rattle.rulings.specs.Meaning.{from_test, MeansKnown, Knows}

-- a word named from the workspace is the frame's word at depth + e
address_of_word : (workspace place : ℕ) (e : ℤ) → FitsSigned w32 e → place < 1048576
    → pos workspace +ℤ (pos 4 *ℤ e) ≡ pos data_start +ℤ pos place → place_of (local_address workspace e) ≡ place
unfolding place_of local_address
address_of_word workspace place e fits small is = omega (arith, ints)

pub local_place : {h : Holding} {size : ℕ} {words : Words} {origin depth : ℤ} {workspace : ℕ}
    → HasFrame h size words origin depth workspace → (e : ℤ) → FitsSigned w32 e
    → (place : ℕ) → pos place ≡ place_in origin (depth +ℤ e) → place + 4 ≤ size
    → place_of (local_address workspace e) ≡ place
local_place {h} {size} {words} {origin} {depth} {workspace} f e fits place is inside =
    address_of_word workspace place e fits (omega (arith, f.small, inside)) (omega (arith, ints, f.start, is))

-- the test of two numbers
pub int_le_tells : (j k : ℤ) → ((int_le j k ≡ true) × (j ≤ℤ k)) ⊎ ((int_le j k ≡ false) × (k <ℤ j))
int_le_tells j k = grind (arith, ints)

pub word_test : (j k : ℤ) → ((is_same_number j k ≡ true) × (j ≡ k)) ⊎ ((is_same_number j k ≡ false) × (j ≡ k → ⊥))
word_test j k = elim (int_le_tells j k) [
  | inr p ↦ inr (ap (λ (b : Bool). b && int_le k j) p.0, λ e. let low : k <ℤ j = p.1 in absurd (omega (arith, ints)))
  | inl p ↦ elim (int_le_tells k j) [
    | inl q ↦ inl (ap (λ (b : Bool). b && int_le k j) p.0 ∙ q.0, omega (arith, ints, p.1, q.1))
    | inr q ↦ inr (
      ap (λ (b : Bool). b && int_le k j) p.0 ∙ q.0,
      λ e. let low : j <ℤ k = q.1 in absurd
          (omega (arith, ints)),
    )
  ]
]

-- words that pass the test are the same
pub same_word_by : (j k : ℤ) → is_same_number j k ≡ true → j ≡ k
same_word_by j k e = elim (word_test j k) [
  | inl p ↦ p.1
  | inr p ↦ let no' : false ≡ true = sym p.0 ∙ e in absurd (cc)
]

-- a sum of addresses as a word, where a multiple of 2^32 may have been added
pub wrapped : (z : ℤ) (k n : ℕ) → z +ℤ pos (k * 2 ^ 32) ≡ pos n → cast_signed w32 (n % 2 ^ 32) ≡ int_wrap w32 z
unfolding int_wrap
wrapped z k n h =
    sym (ap (λ r. cast_signed w32 (unsigned_abs r))
    (int_rem_euclid_is z (pos (2 ^ 32)) (2 ^ 32) k n (lit< tt) refl h))

-- the address of word e from a workspace, as a word
pub local_word : (workspace : ℕ) (e z : ℤ) → FitsSigned w32 e → z ≡ pos workspace +ℤ (pos 4 *ℤ e)
    → cast_signed w32 (local_address workspace e) ≡ int_wrap w32 z
unfolding local_address
local_word workspace e z fits is = elim (int_le_tells (pos 0) e) [
  | inl p ↦ wrapped z 0 (workspace + 4 * cast_unsigned w32 e) (omega (arith, ints, fits, is, p.1))
  | inr p ↦ wrapped z 4 (workspace + 4 * cast_unsigned w32 e) (omega (arith, ints, fits, is, p.1))
]

-- the workspace moved by e words within the frame
pub moved_workspace : (workspace : ℕ) (origin depth e : ℤ) → FitsSigned w32 e
    → pos workspace ≡ pos data_start +ℤ place_in origin depth → pos 0 ≤ℤ place_in origin (depth +ℤ e)
    → place_in origin (depth +ℤ e) ≤ℤ pos 1048576
    → pos (local_address workspace e) ≡ pos data_start +ℤ place_in origin (depth +ℤ e)
unfolding local_address
moved_workspace workspace origin depth e fits is low high = omega (arith, ints, fits, is, low, high)

-- ---- facts

-- what a fact says of a value, it says of its equal
pub means_same : {m : Contents} {act : Activation} {k : ℤ} {f g : WordFact} {v u : Option ℤ} → MeansWord m act k f v
    → f ≡ g → v ≡ u → MeansWord m act k g u
means_same {m} {act} {k} {f} {g} {v} {u} means p q =
    subst (λ x. MeansWord m act k g x) q (subst (λ x. MeansWord m act k x v) p means)

-- a value that is known is a word
pub means_word : (m : Contents) (layout : Layout) (f : Fact) (v : ℤ) → Means m layout f (Some v)
    → (f ≡ Unknown) ⊎ FitsSigned w32 v
means_word m layout Unknown v says_nothing = inl refl
means_word m layout (Number lo hi) v (is_number low high fits) = inr fits
means_word m layout (Pointer region lo hi step) v (is_pointer offset low high stepped is) =
    inr (subst (λ (z : ℤ). FitsSigned w32 z) (sym is) (SFits-int_wrap w32 _))
means_word m layout (CodeAddress offset) v (is_code_address is) =
    inr (subst (λ (z : ℤ). FitsSigned w32 z) (sym is) (SFits-int_wrap w32 _))
means_word m layout (Loop base count weight) v means = elim means [ ]
means_word m layout ReturnAddress v (is_return_address is) =
    inr (subst (λ (z : ℤ). FitsSigned w32 z) (sym is) (SFits-int_wrap w32 _))

-- what is known of a word that is stored is known of the word that is read
pub stored_means : (m : Contents) (layout : Layout) (f : Fact) (v : ℤ) (memory : Memory) (place : ℕ)
    → place + 4 ≤ length memory → Means m layout f (Some v)
    → Means m layout f (word_at (with_word memory place (Some v)) place)
stored_means m layout f v memory place inside means = elim (means_word m layout f v means) [
  | inl unknown ↦ subst (λ (g : Fact). Means m layout g (word_at (with_word memory place (Some v)) place))
      (sym unknown) says_nothing
  | inr fits ↦ subst (λ (x : Option ℤ). Means m layout f x) (sym (word_at-with_word memory place v inside fits)) means
]

-- what is known of a word of a loop says this by itself
pub itself_means : (m : Contents) (act : Activation) (k : ℤ) (f : WordFact) (v : Option ℤ) → MeansWord m act k f v
    → Means m act.layout (by_itself f) v
itself_means m act k (Alone f) v (is_fact means) = means
itself_means m act k (Index loop) None means = elim means [ ]
itself_means m act k (Index loop) (Some x) (is_index some most is fits) =
    is_number (omega (arith, ints)) (omega (arith, ints)) fits
itself_means m act k (Count loop) None means = elim means [ ]
itself_means m act k (Count loop) (Some x) (is_count some most is fits) =
    is_number (omega (arith, ints)) (omega (arith, ints)) fits

-- what an instruction learns of it
pub plain_means : (m : Contents) (act : Activation) (k : ℤ) (f : WordFact) (v : Option ℤ) → MeansWord m act k f v
    → Means m act.layout (plain f) v
plain_means m act k f v means = handed_means (by_itself f) (itself_means m act k f v means)
  where
    handed_means : (g : Fact) → Means m act.layout g v → Means m act.layout (handed_out g) v
    handed_means Unknown known = says_nothing
    handed_means (Number lo hi) known = known
    handed_means (Pointer region lo hi step) known = known
    handed_means (CodeAddress offset) known = known
    handed_means (Loop base count weight) known = says_nothing
    handed_means ReturnAddress known = says_nothing

-- ---- words of the frame

-- a frame word at its place
pub frame_word_is : (memory : Memory) (origin k : ℤ) (place : ℕ) → pos place ≡ place_in origin k
    → frame_word memory origin k ≡ word_at memory place
frame_word_is memory origin k place is = ap (word_at_place memory) (sym is)

-- two words of one frame do not meet
words_apart : (origin j k : ℤ) (place other : ℕ) → pos place ≡ place_in origin j → pos other ≡ place_in origin k
    → (j ≡ k → ⊥) → (place + 4 ≤ other) ⊎ (other + 4 ≤ place)
words_apart origin j k place other is other_is differ = elim (int_le_tells j k) [
  | inl p ↦ elim (int_le_tells k j) [
    | inl q ↦ absurd (differ (omega (arith, ints, p.1, q.1)))
    | inr q ↦ inl (omega (arith, ints, q.1, is, other_is))
  ]
  | inr p ↦ inr (omega (arith, ints, p.1, is, other_is))
]

-- ---- changes of what is known of words

-- what is left of a loop whose other word is touched is true by itself
left_means : (m : Contents) (act : Activation) (touches : ℤ → Bool) (k : ℤ) (f : WordFact) (v : Option ℤ)
    → MeansWord m act k f v → MeansWord m act k (cond (is_parted touches k f) (Alone (by_itself f)) f) v
left_means m act touches k f v means = elim (cases_Bool (is_parted touches k f)) [
  | inl e ↦ means_same (is_fact (itself_means m act k f v means))
      (sym (ap (λ (b : Bool). cond b (Alone (by_itself f)) f) e)) refl
  | inr e ↦ means_same means (sym (ap (λ (b : Bool). cond b (Alone (by_itself f)) f) e)) refl
]

-- Memory changed as what is known did: a touched word has what the change leaves of it, and the others are the same.
pub record Follows (m : Contents) (counts : ℤ → Bool) (layout : Layout) (change : Change)
    (old new : Memory) : Type 0 where
  pub touched : (k : ℤ) (f : Fact) → counts k ≡ true → change.touches k ≡ true
      → Means m layout f (frame_word old layout.origin k)
      → Means m layout (change.leaves k f) (frame_word new layout.origin k)
  pub kept : (k : ℤ) → counts k ≡ true → change.touches k ≡ false
      → frame_word new layout.origin k ≡ frame_word old layout.origin k

-- a register that speaks of no touched word
source_means : {counts : ℤ → Bool} {old new : Memory} {origin : ℤ} (touches : ℤ → Bool)
    → ((k : ℤ) → counts k ≡ true → touches k ≡ false → frame_word new origin k ≡ frame_word old origin k)
    → (source : Source) (v : Option ℤ) → ComesFrom counts old origin source v
    → ComesFrom counts new origin (without_source touches source) v
source_means touches kept Nowhere v comes = from_nowhere
source_means {counts} {old} {new} {origin} touches kept (From word) v (from_word inside is) =
    elim (cases_Bool (touches word)) [
      | inl e ↦ subst (λ (s : Source). ComesFrom counts new origin s v)
          (sym (ap (λ (b : Bool). cond b Nowhere (From word)) e)) from_nowhere
      | inr e ↦ subst (λ (s : Source). ComesFrom counts new origin s v)
          (sym (ap (λ (b : Bool). cond b Nowhere (From word)) e)) (from_word inside (is ∙ sym (kept word inside e)))
    ]
source_means {counts} {old} {new} {origin} touches kept (Test word lo hi within) v (from_test x inside is tested) =
    elim (cases_Bool (touches word)) [
      | inl e ↦ subst (λ (s : Source). ComesFrom counts new origin s v)
          (sym (ap (λ (b : Bool). cond b Nowhere (Test word lo hi within)) e)) from_nowhere
      | inr e ↦ subst (λ (s : Source). ComesFrom counts new origin s v)
          (sym (ap (λ (b : Bool). cond b Nowhere (Test word lo hi within)) e))
          (from_test x inside (kept word inside e ∙ is) tested)
    ]

-- The law of changes, of words: what was known of them, and is changed as memory is, is known afterwards.
pub words_changed : (m : Contents) (counts : ℤ → Bool) (act : Activation) (facts : Facts) (old new : Memory)
    (change : Change) → Follows m counts act.layout change old new
    → ((k : ℤ) → counts k ≡ true → MeansWord m act k (facts k) (frame_word old act.layout.origin k))
    → (k : ℤ) → counts k ≡ true → MeansWord m act k (changed change facts k) (frame_word new act.layout.origin k)
words_changed m counts act facts old new change follows words k inside = elim (cases_Bool (change.touches k)) [
  | inl e ↦ means_same
      (is_fact (follows.touched k (by_itself (facts k)) inside e
      (itself_means m act k (facts k) _ (words k inside))))
      (sym (ap (λ (b : Bool). cond b (Alone (change.leaves k (by_itself (facts k))))
      (cond (is_parted change.touches k (facts k)) (Alone (by_itself (facts k))) (facts k))) e)) refl
  | inr e ↦ means_same (left_means m act change.touches k (facts k) _ (words k inside))
      (sym (ap (λ (b : Bool). cond b (Alone (change.leaves k (by_itself (facts k))))
      (cond (is_parted change.touches k (facts k)) (Alone (by_itself (facts k))) (facts k))) e))
      (sym (follows.kept k inside e))
]

-- The same of registers besides, which forget their sources in the words that are touched.
pub knows_changed : {m : Contents} {counts : ℤ → Bool} {act : Activation} {said : Stack Known} {facts : Facts}
    {stack : Stack (Option ℤ)} {old new : Memory} (change : Change) → Follows m counts act.layout change old new
    → Knows m counts act said facts stack old
    → Knows m counts act (mapped (forgets change.touches) said) (changed change facts) stack new
knows_changed {m} {counts} {act} {said} {facts} {stack} {old} {new} change follows known = record {
  registers = record {
    a = register said.a stack.a known.registers.a;
    b = register said.b stack.b known.registers.b;
    c = register said.c stack.c known.registers.c;
  };
  words = words_changed m counts act facts old new change follows known.words;
}
  where
    register : (known : Known) (v : Option ℤ) → MeansKnown m counts act.layout old known v
        → MeansKnown m counts act.layout new (forgets change.touches known) v
    register known v means = record {
      fact = means.fact;
      source = source_means change.touches follows.kept known.source v means.source;
    }

-- a write to a word of the frame leaves the others
pub word_elsewhere : (memory : Memory) (origin j k : ℤ) (place : ℕ) (v : Option ℤ) → pos place ≡ place_in origin k
    → (j ≡ k → ⊥) → frame_word (with_word memory place v) origin j ≡ frame_word memory origin j
word_elsewhere memory origin j k place v is differ = at_place (place_in origin j) refl
  where
    at_place : (other : ℤ) → other ≡ place_in origin j
        → word_at_place (with_word memory place v) other ≡ word_at_place memory other
    at_place (pos other) there =
        word_at-with_word_other memory place other v (words_apart origin j k other place there is differ)
    at_place (negsuc n) there = refl

-- one word that is written
pub write_follows : (m : Contents) (h : Holding) (counts : ℤ → Bool) (layout : Layout) (k : ℤ) (memory : Memory)
    (f : Fact) (v : Option ℤ) (w : IsOwnWord h (length memory) layout.origin k)
    → Means m layout f (word_at (with_word memory w.place v) w.place)
    → Follows m counts layout (one_word k f) memory (with_word memory w.place v)
write_follows m h counts layout k memory f v w here = record {
  touched = λ j said inside e means. elim (word_test j k) [
    | inl same ↦ subst (λ (x : Option ℤ). Means m layout f x)
        (sym (frame_word_is (with_word memory w.place v) layout.origin j w.place
        (w.is ∙ ap (place_in layout.origin) (sym same.1)))) here
    | inr differ ↦ let no' : true ≡ false = sym e ∙ differ.0 in absurd (cc)
  ];
  kept = λ j inside e. elim (word_test j k) [
    | inl same ↦ let no' : true ≡ false = sym same.0 ∙ e in absurd (cc)
    | inr differ ↦ word_elsewhere memory layout.origin j k w.place v w.is differ.1
  ];
}
