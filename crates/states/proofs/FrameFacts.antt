-- What is known of the words of a frame, written over a label's row.
use Rattle.std.proofs.Common.{◌≡◌, ℕ, ℤ, pos, negsuc, ◌+ℤ◌, ◌-ℤ◌, ◌≤ℤ◌, ◌<ℤ◌, nat_abs, Bool, true, false, ◌&&◌, cond}
use Rattle.std.proofs.Common.{eqb, List, Some, refl, sym, ap, ◌∙◌, arith, ◌⊎◌, inl, inr}
use std.Path.{fun_ext}
use Rattle.std.specs.Prelude.{int_le, option_map, unwrap_or}
use Rattle.std.proofs.lemmas.Bool.{cases_eq, cases_lt, and_from}
use Rattle.std.proofs.lemmas.Bool.Decides.{nat_tests}
use Rattle.std.proofs.lemmas.Int.{ints, by_lt_z}
use Rattle.small_laws.proofs.Comparisons.{le-int_le, lt-int_le}
use Rattle.module_format.specs.Rows.{Fact}
use Rattle.module_format.specs.Rows.{Entry}
use Rattle.states.specs.declared.overlay.Written.{Written}
use Rattle.states.specs.Lookup.{lookup, fact_of_index, facts_over}
use Rattle.states.specs.State.{Facts, by_itself, is_same_number, is_at, is_parted, with_fact, entry_fact}
use Rattle.states.specs.declared.known.Loop.{Loop}
use Rattle.states.specs.declared.known.LoopWord.{LoopWord}
use Rattle.states.specs.declared.known.LoopWord.TheVariants as words
use Rattle.states.specs.declared.known.WordFact.{WordFact}
use Rattle.states.specs.declared.known.WordFact.TheVariants.{Alone, Index, Count}
use Rattle.states.specs.Frames.{with_alone, is_loop_word, parted}

pub is_word-same : (j k : ℤ) → j ≡ k → is_same_number j k ≡ true
is_word-same j k e = and_from _ _ (le-int_le j k (omega (arith, ints))) (le-int_le k j (omega (arith, ints)))

pub is_word-below : (j k : ℤ) → j <ℤ k → is_same_number j k ≡ false
is_word-below j k h = rw (lt-int_le k j h) (false-right (int_le j k)) where
  false-right : (b : Bool) → b && false ≡ false
  false-right true = refl
  false-right false = refl

pub is_word-above : (j k : ℤ) → k <ℤ j → is_same_number j k ≡ false
is_word-above j k h = rw (lt-int_le j k h) refl

-- one more written
write-at : (written new : List Written) (fact : Fact) (rest : WordFact) (lo word k : ℤ) (i : ℕ) (z : ℤ) → z ≡ k -ℤ lo
    → word ≡ lo +ℤ pos i → ((j : ℕ) → lookup new j ≡ cond (eqb j i) (Some fact) (lookup written j))
    → unwrap_or (option_map Alone (fact_of_index new z)) rest
    ≡ cond (is_same_number k word) (Alone fact) (unwrap_or (option_map Alone (fact_of_index written z)) rest)
write-at written new fact rest lo word k i (pos n) z_is word_is each = elim (cases_eq n i) [
  | inl e ↦
      let yes : eqb n i ≡ true = grind (arith, nat_tests) in
      rw (each n, yes, is_word-same k word (omega (arith, ints))) refl
  | inr d ↦
      let no : eqb n i ≡ false = grind (arith, nat_tests) in
      let other : is_same_number k word ≡ false = elim (cases_lt n i) [
        | inl h ↦ is_word-below k word (omega (arith, ints))
        | inr h ↦ is_word-above k word (omega (arith, ints))
      ] in
      rw (each n, no, other) refl
]
write-at written new fact rest lo word k i (negsuc n) z_is word_is each =
    rw (is_word-below k word (omega (arith, ints))) refl

pub facts_over-write : (lo word : ℤ) (row : List Entry) (written new : List Written) (fact : Fact) (i : ℕ)
    → word ≡ lo +ℤ pos i → ((j : ℕ) → lookup new j ≡ cond (eqb j i) (Some fact) (lookup written j))
    → facts_over lo row new ≡ with_alone word fact (facts_over lo row written)
facts_over-write lo word row written new fact i is each =
    fun_ext (λ k. write-at written new fact (entry_fact row k) lo word k i (k -ℤ lo) refl is each)

-- ---- the words of loops

-- a word is this one, or another one
pub word-cases : (j k : ℤ) → ((is_same_number j k ≡ true) × (j ≡ k)) ⊎ (is_same_number j k ≡ false)
word-cases j k = by_lt_z j k (λ l. inr (is_word-below j k l)) (λ h. by_lt_z k j (λ l. inr (is_word-above j k l)) (λ l.
    let same : j ≡ k = omega (arith, ints) in
    inl (is_word-same j k same, same)))

-- another word than the one that is parted stays what it is
kept : (is_loop : Bool) (fact : WordFact) → fact ≡ cond (is_loop && false) (Alone (by_itself fact)) fact
kept true fact = refl
kept false fact = refl

-- a word of a loop that is parted from the other one
pub parted-place : (which : LoopWord) (k : ℤ) (facts new : Facts) (fact : WordFact) (alone : Fact)
    → fact ≡ facts k → true ≡ is_loop_word which fact → alone ≡ by_itself fact → new ≡ with_alone k alone facts
    → new ≡ parted which k facts
parted-place which k facts new fact alone is such by_is placed = placed ∙ fun_ext (λ j. elim (word-cases j k) [
  | inl h ↦
      let here : facts j ≡ fact = ap facts h.1 ∙ sym is in
      rw (h.0, here, ← such, by_is) refl
  | inr h ↦ rw h (kept (is_loop_word which (facts j)) (facts j))
])

pub parted-none : (which : LoopWord) (k : ℤ) (facts : Facts) (fact : WordFact) → fact ≡ facts k
    → false ≡ is_loop_word which fact → facts ≡ parted which k facts
parted-none which k facts fact is such = fun_ext (λ j. elim (word-cases j k) [
  | inl h ↦
      let here : facts j ≡ fact = ap facts h.1 ∙ sym is in
      rw (h.0, here, ← such) refl
  | inr h ↦ rw h (kept (is_loop_word which (facts j)) (facts j))
])

-- a word that is parted where it is this word of a loop
abbrev parted_if : Bool → LoopWord → WordFact → WordFact
parted_if here which fact = cond (is_loop_word which fact && here) (Alone (by_itself fact)) fact

part-index : (before behind : Bool) (loop : Loop)
    → parted_if behind words.Count (parted_if before words.Index (Index loop))
    ≡ cond before (Alone (by_itself (Index loop))) (Index loop)
part-index true behind loop = refl
part-index false behind loop = refl

-- two numbers are the same where two others are that lie as far apart
as-far : (j k u w : ℤ) → j -ℤ k ≡ u -ℤ w → is_same_number j k ≡ is_same_number u w
as-far j k u w far = elim (word-cases j k) [
  | inl h ↦ let same = h.1 in h.0 ∙ sym (is_word-same u w (omega (arith, ints)))
  | inr h ↦ h ∙ sym (elim (word-cases u w) [
    | inl g ↦
        let same = g.1 in
        let yes = is_word-same j k (omega (arith, ints)) in
        let clash : true ≡ false = sym yes ∙ h in
        absurd (cc)
    | inr g ↦ g
  ])
]

-- what is known of a word once those are parted that are in a loop with word w
parted-word : (w j : ℤ) (fact : WordFact)
    → parted_if (is_same_number j (w +ℤ pos 1)) words.Count (parted_if (is_same_number j (w -ℤ pos 1)) words.Index fact)
    ≡ cond (is_parted (is_at w) j fact) (Alone (by_itself fact)) fact
parted-word w j (Alone fact) = refl
parted-word w j (Index loop) =
    part-index (is_same_number j (w -ℤ pos 1)) (is_same_number j (w +ℤ pos 1)) loop
    ∙ ap (λ b. cond b (Alone (by_itself (Index loop))) (Index loop))
    (as-far j (w -ℤ pos 1) (j +ℤ pos 1) w (omega (arith, ints)))
parted-word w j (Count loop) =
    ap (λ b. cond b (Alone (by_itself (Count loop))) (Count loop))
    (as-far j (w +ℤ pos 1) (j -ℤ pos 1) w (omega (arith, ints)))

-- a word is written once the words are parted that can be in a loop with it
pub parts-write : (w : ℤ) (fact : Fact) (facts : Facts)
    → with_alone w fact (parted words.Count (w +ℤ pos 1) (parted words.Index (w -ℤ pos 1) facts))
    ≡ with_fact w fact facts
parts-write w fact facts = fun_ext (λ j. elim (word-cases j w) [
  | inl h ↦ rw h.0 refl
  | inr h ↦ rw h (parted-word w j (facts j))
])

-- the same, step by step
pub write-steps : (w here before behind : ℤ) (fact : Fact) (facts first second new : Facts) → here ≡ w
    → before ≡ w -ℤ pos 1 → behind ≡ w +ℤ pos 1
    → first ≡ parted words.Index before facts → second ≡ parted words.Count behind first
    → new ≡ with_alone here fact second
    → new ≡ with_fact w fact facts
write-steps w here before behind fact facts first second new here_is before_is behind_is one two three =
    three ∙ (rw (here_is, two, behind_is, one, before_is) (parts-write w fact facts))

-- how far a word is after another
distance-of : (a b z : ℤ) (n : ℕ) → b ≤ℤ a → z ≡ a -ℤ b → n ≡ nat_abs z → a ≡ b +ℤ pos n
distance-of a b (pos m) n h e n_is = omega (arith, ints)
distance-of a b (negsuc m) n h e n_is = absurd (omega (arith, ints))

pub distance : (a b : ℤ) (n : ℕ) → b ≤ℤ a → n ≡ nat_abs (a -ℤ b) → a ≡ b +ℤ pos n
distance a b n h e = distance-of a b (a -ℤ b) n h refl e
