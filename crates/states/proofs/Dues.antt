-- What is paid for the loops that entries want, by which words are by themselves.
use Rattle.std.proofs.Common.{◌≡◌, ℕ, ◌+◌, ◌-◌, ◌*◌, ◌<◌, ◌≤◌, ℤ, pos, ◌+ℤ◌, Bool, true, false, ◌&&◌, ◌||◌, cond}
use Rattle.std.proofs.Common.{List, [], ◌∷◌, length, get_or, take, Option, Some, None, refl, sym, ap, ◌∙◌, arith}
use Rattle.std.proofs.Common.{subst}
use std.Path.{fun_ext}
use Rattle.std.specs.Prelude.{◌==◌, is_none, not, sum_by, if◌then◌else◌, SomeIff, IfSome}
use mathlib.Core.Bool.{beq}
use Rattle.std.specs.List.{list_all}
use Rattle.std.proofs.lemmas.Bool.{and_parts, and_from, or_left, eqb-true}
use Rattle.std.proofs.lemmas.Int.{ints}
use Rattle.std.proofs.lemmas.List.{take_all}
use Rattle.std.proofs.lemmas.List.Sums.{sum_by-cons, sum_by_more}
use Rattle.std.proofs.lemmas.List.Folds.{list_all_more}
use Rattle.module_format.specs.Rows.{Fact, Entry}
use Rattle.module_format.specs.declared.fact.Fact.TheVariants.{Unknown, Number, Pointer, CodeAddress, Loop}
use Rattle.module_format.specs.declared.fact.Fact.TheVariants.{ReturnAddress}
use Rattle.states.specs.declared.known.Loop.{Loop as CountedLoop}
use Rattle.states.specs.declared.known.WordFact.{WordFact}
use Rattle.states.specs.declared.known.WordFact.TheVariants.{Alone, Index, Count}
use Rattle.states.specs.State.{Facts, is_alone, said_of, entry_fact}
use Rattle.states.specs.Below.{says, are_alike, is_whole, holds_constant, price, words_say, entries_hold}
use Rattle.states.specs.Comparing.{SaysAll, loop_of}
use Rattle.states.specs.Remembered.{wants_no_loop, are_loops_of_two, whole_by, due_by, IsDueSince, AreDueSince, IsPaid}
use Rattle.states.specs.Rows.{AreApart}
use Rattle.states.proofs.Comparisons.{entries_hold-true}
use Rattle.states.proofs.Entering.{loop-is}

-- ---- entries of no loop

-- an entry of no loop passes a test of loops
no-loop : (fact : Fact) (b : Bool) → is_none (loop_of fact) ≡ true
    → (elim fact as (λ _. Bool) [ Loop base count weight ↦ b | _ ↦ true ]) ≡ true
no-loop (Loop base count weight) b h = absurd (cc)
no-loop Unknown b h = refl
no-loop (Number lo hi) b h = refl
no-loop (Pointer region lo hi step) b h = refl
no-loop (CodeAddress offset) b h = refl
no-loop ReturnAddress b h = refl

-- nothing is paid for an entry of no loop
no-due : (fact : Fact) (b : Bool) → is_none (loop_of fact) ≡ true
    → (elim fact as (λ _. ℕ) [ Loop base count weight ↦ if b then weight * (count - 1) else 0 | _ ↦ 0 ]) ≡ 0
no-due (Loop base count weight) b h = absurd (cc)
no-due Unknown b h = refl
no-due (Number lo hi) b h = refl
no-due (Pointer region lo hi step) b h = refl
no-due (CodeAddress offset) b h = refl
no-due ReturnAddress b h = refl

-- where no loop is wanted, none is half known
pub none-whole : (alone : ℤ → Bool) (entries : List Entry) → wants_no_loop entries ≡ true
    → list_all (whole_by alone) entries ≡ true
none-whole alone [] none = refl
none-whole alone (entry ∷ entries) none =
    let both : (is_none (loop_of entry.fact) ≡ true) × (wants_no_loop entries ≡ true) = and_parts _ _ none in
    and_from _ _
    (no-loop entry.fact (are_alike (alone entry.word) (alone (entry.word +ℤ pos 1))) both.0)
    (none-whole alone entries both.1)

-- nothing is paid there
pub none-due : (alone : ℤ → Bool) (entries : List Entry) → wants_no_loop entries ≡ true
    → sum_by (due_by alone) entries ≡ 0
none-due alone [] none = refl
none-due alone (entry ∷ entries) none =
    let both : (is_none (loop_of entry.fact) ≡ true) × (wants_no_loop entries ≡ true) = and_parts _ _ none in
    let here : due_by alone entry ≡ 0 = no-due entry.fact (alone entry.word) both.0 in
    let rest = none-due alone entries both.1 in
    let all = sum_by-cons (due_by alone) entry entries in
    omega (arith, here, rest, all)

-- each loop that is wanted there is of two words
pub none-pairs : (entries : List Entry) → wants_no_loop entries ≡ true → are_loops_of_two entries ≡ true
none-pairs [] none = refl
none-pairs (entry ∷ entries) none =
    let both : (is_none (loop_of entry.fact) ≡ true) × (wants_no_loop entries ≡ true) = and_parts _ _ none in
    and_from _ _ (or_left _ _ both.0) (none-pairs entries both.1)

-- ---- what is known of the words of loops

-- what is known of both words of a loop is at least what the loop says, and both are by themselves or neither
loop-price : (f g : WordFact) (loop : CountedLoop) (weight : ℕ) → says f (Index loop) ≡ true
    → says g (Count loop) ≡ true → are_alike (is_alone f) (is_alone g) ≡ true
    → cond (holds_constant f loop.base && holds_constant g (pos loop.count)) weight 0 ≡ cond (is_alone f) weight 0
loop-price (Alone a) (Alone b) loop weight first second alike =
    ap (λ (x : Bool). cond x weight 0) (and_from _ _ first second)
loop-price (Alone a) (Index other) loop weight first second alike = absurd (cc)
loop-price (Alone a) (Count other) loop weight first second alike = absurd (cc)
loop-price (Index other) g loop weight first second alike = refl
loop-price (Count other) g loop weight first second alike = refl

-- what is known of the two words of a loop's entry that holds
pair-says : (facts : Facts) (entry : Entry) (span : ℕ) → span ≡ 2 → words_say facts entry span ≡ true
    → (says (facts entry.word) (said_of entry.fact true) ≡ true)
    × (says (facts (entry.word +ℤ pos 1)) (said_of entry.fact false) ≡ true)
pair-says facts entry span two hold =
    let both : words_say facts entry 2 ≡ true = subst (λ (n : ℕ). words_say facts entry n ≡ true) two hold in
    let parts = and_parts (says (facts (entry.word +ℤ pos 1)) (said_of entry.fact false)) (words_say facts entry 1) both
    in
    let first = and_parts (says (facts (entry.word +ℤ pos 0)) (said_of entry.fact true)) (words_say facts entry 0)
    parts.1 in
    let word : entry.word +ℤ pos 0 ≡ entry.word = omega (arith, ints) in
    (subst (λ (k : ℤ). says (facts k) (said_of entry.fact true) ≡ true) word first.0, parts.0)

-- what is paid for an entry whose words say what it wants follows from whether the first is by itself
entry-price : (facts : Facts) (word : ℤ) (fact : Fact) (span : ℕ)
    → (is_none (loop_of fact) || (span == 2)) ≡ true
    → (span ≡ 2 → (says (facts word) (said_of fact true) ≡ true)
    × (says (facts (word +ℤ pos 1)) (said_of fact false) ≡ true))
    → (elim fact as (λ _. Bool) [
      | Loop base count weight ↦ are_alike (is_alone (facts word)) (is_alone (facts (word +ℤ pos 1)))
      | _ ↦ true
    ]) ≡ true
    → (elim fact as (λ _. ℕ) [
      | Loop base count weight ↦
          if holds_constant (facts word) base && holds_constant (facts (word +ℤ pos 1)) (pos count)
          then weight * (count - 1) else 0
      | _ ↦ 0
    ])
    ≡ (elim fact as (λ _. ℕ) [
      | Loop base count weight ↦ if is_alone (facts word) then weight * (count - 1) else 0
      | _ ↦ 0
    ])
entry-price facts word (Loop base count weight) span pair hold whole =
    let both = hold (eqb-true span 2 pair) in
    loop-price (facts word) (facts (word +ℤ pos 1)) (record { base = base; count = count; weight = weight })
    (weight * (count - 1)) both.0 both.1 whole
entry-price facts word Unknown span pair hold whole = refl
entry-price facts word (Number lo hi) span pair hold whole = refl
entry-price facts word (Pointer region lo hi step) span pair hold whole = refl
entry-price facts word (CodeAddress offset) span pair hold whole = refl
entry-price facts word ReturnAddress span pair hold whole = refl

-- so what is paid follows from which words are by themselves
price-by : (facts : Facts) (entries : List Entry) → entries_hold facts entries ≡ true
    → are_loops_of_two entries ≡ true → list_all (is_whole facts) entries ≡ true
    → sum_by (price facts) entries ≡ sum_by (due_by (λ k. is_alone (facts k))) entries
price-by facts [] hold pairs whole = refl
price-by facts (entry ∷ entries) hold pairs whole =
    let holds : (words_say facts entry entry.span ≡ true) × (entries_hold facts entries ≡ true) = and_parts _ _ hold in
    let pair : ((is_none (loop_of entry.fact) || (entry.span == 2)) ≡ true) × (are_loops_of_two entries ≡ true) =
    and_parts _ _ pairs in
    let wholes : (is_whole facts entry ≡ true) × (list_all (is_whole facts) entries ≡ true) = and_parts _ _ whole in
    let here : price facts entry ≡ due_by (λ k. is_alone (facts k)) entry =
    entry-price facts entry.word entry.fact entry.span pair.0
    (λ two. pair-says facts entry entry.span two holds.0) wholes.0 in
    let rest = price-by facts entries holds.1 pair.1 wholes.1 in
    let old = sum_by-cons (price facts) entry entries in
    let new = sum_by-cons (due_by (λ k. is_alone (facts k))) entry entries in
    omega (arith, old, new, here, rest)

-- what was paid, by which words are by themselves
pub paid-by : (facts : Facts) (alone : ℤ → Bool) (entries : List Entry) (paid : ℕ) → AreApart entries
    → are_loops_of_two entries ≡ true → ((k : ℤ) → is_alone (facts k) ≡ alone k) → IsPaid facts entries paid
    → (list_all (whole_by alone) entries ≡ true) × (sum_by (due_by alone) entries ≡ paid)
paid-by facts alone entries paid apart pairs same due =
    let is : (λ (k : ℤ). is_alone (facts k)) ≡ alone = fun_ext same in (
      ap (λ (a : ℤ → Bool). list_all (whole_by a) entries) (sym is) ∙ due.whole,
      ap (λ (a : ℤ → Bool). sum_by (due_by a) entries) (sym is)
          ∙ (sym (price-by facts entries (entries_hold-true facts entries apart due.knows) pairs due.whole) ∙ due.due),
    )

-- what is paid now, where what is wanted is known
pub paid-now : (facts : Facts) (alone : ℤ → Bool) (entries : List Entry) (paid : ℕ) → AreApart entries
    → are_loops_of_two entries ≡ true → ((k : ℤ) → is_alone (facts k) ≡ alone k) → SaysAll facts (entry_fact entries)
    → list_all (whole_by alone) entries ≡ true → sum_by (due_by alone) entries ≡ paid → IsPaid facts entries paid
paid-now facts alone entries paid apart pairs same knows whole due =
    let is : (λ (k : ℤ). is_alone (facts k)) ≡ alone = fun_ext same in
    let wholes : list_all (is_whole facts) entries ≡ true =
    ap (λ (a : ℤ → Bool). list_all (whole_by a) entries) is ∙ whole in
    record {
      knows = knows;
      whole = wholes;
      due = price-by facts entries (entries_hold-true facts entries apart knows) pairs wholes
          ∙ (ap (λ (a : ℤ → Bool). sum_by (due_by a) entries) is ∙ due);
    }

-- ---- what is due since a time

-- of an entry of no loop
pub free-due : (was now : ℤ → Bool) (entry : Entry) → loop_of entry.fact ≡ None → IsDueSince was now entry 0
free-due was now entry none =
    let no = ap (λ (o : Option CountedLoop). is_none o) none in
    let first : due_by was entry ≡ 0 = no-due entry.fact (was entry.word) no in
    let second : due_by now entry ≡ 0 = no-due entry.fact (now entry.word) no in
    record {
      whole = λ h. no-loop entry.fact (are_alike (now entry.word) (now (entry.word +ℤ pos 1))) no;
      paid = omega (arith, first, second);
    }

-- of an entry whose words are by themselves if they were
pub same-due : (was now : ℤ → Bool) (entry : Entry) → now entry.word ≡ was entry.word
    → now (entry.word +ℤ pos 1) ≡ was (entry.word +ℤ pos 1) → IsDueSince was now entry 0
same-due was now entry first second =
    let due : due_by now entry ≡ due_by was entry =
    ap (λ (b : Bool). elim entry.fact as (λ _. ℕ) [
      | Loop base count weight ↦ if b then weight * (count - 1) else 0
      | _ ↦ 0
    ]) first in
    record {
      whole = λ h.
          ap (λ (b : Bool). elim entry.fact as (λ _. Bool) [
            | Loop base count weight ↦ are_alike b (now (entry.word +ℤ pos 1))
            | _ ↦ true
          ]) first
          ∙ (ap (λ (b : Bool). elim entry.fact as (λ _. Bool) [
            | Loop base count weight ↦ are_alike (was entry.word) b
            | _ ↦ true
          ]) second
          ∙ h);
      paid = omega (arith, due);
    }

-- each truth is alike to itself
alike-self : (b : Bool) → are_alike b b ≡ true
alike-self true = refl
alike-self false = refl

-- a loop whose words are both by themselves now or neither is whole
whole-now : (now : ℤ → Bool) (entry : Entry) (loop : CountedLoop) → loop_of entry.fact ≡ Some loop
    → now entry.word ≡ now (entry.word +ℤ pos 1) → whole_by now entry ≡ true
whole-now now entry loop is same =
    ap (λ (fact : Fact). elim fact as (λ _. Bool) [
      | Loop base count weight ↦ are_alike (now entry.word) (now (entry.word +ℤ pos 1))
      | _ ↦ true
    ]) (loop-is entry.fact loop is)
    ∙ (ap (λ (b : Bool). are_alike b (now (entry.word +ℤ pos 1))) same ∙ alike-self (now (entry.word +ℤ pos 1)))

-- what is paid for a loop, by whether its first word is by itself
due-now : (now : ℤ → Bool) (entry : Entry) (loop : CountedLoop) → loop_of entry.fact ≡ Some loop
    → due_by now entry ≡ cond (now entry.word) (loop.weight * (loop.count - 1)) 0
due-now now entry loop is =
    ap (λ (fact : Fact). elim fact as (λ _. ℕ) [
      | Loop base count weight ↦ if now entry.word then weight * (count - 1) else 0
      | _ ↦ 0
    ]) (loop-is entry.fact loop is)

-- of a loop that was entered or kept then as it is now
pub kept-due : (was now : ℤ → Bool) (entry : Entry) (loop : CountedLoop) → loop_of entry.fact ≡ Some loop
    → now entry.word ≡ now (entry.word +ℤ pos 1) → now entry.word ≡ was entry.word → IsDueSince was now entry 0
kept-due was now entry loop is same first =
    let before = due-now was entry loop is in
    let after = due-now now entry loop is in
    let equal = ap (λ (b : Bool). cond b (loop.weight * (loop.count - 1)) 0) first in
    record {
      whole = λ h. whole-now now entry loop is same;
      paid = omega (arith, before, after, equal);
    }

-- of a loop that was kept then and is entered now
pub entered-due : (was now : ℤ → Bool) (entry : Entry) (loop : CountedLoop) → loop_of entry.fact ≡ Some loop
    → now entry.word ≡ now (entry.word +ℤ pos 1) → was entry.word ≡ false → now entry.word ≡ true
    → IsDueSince was now entry (loop.weight * (loop.count - 1))
entered-due was now entry loop is same kept entered =
    let before = due-now was entry loop is
    ∙ ap (λ (b : Bool). cond b (loop.weight * (loop.count - 1)) 0) kept in
    let after = due-now now entry loop is
    ∙ ap (λ (b : Bool). cond b (loop.weight * (loop.count - 1)) 0) entered in
    record {
      whole = λ h. whole-now now entry loop is same;
      paid = omega (arith, before, after);
    }

-- of one entry more
pub due-more : (was now : ℤ → Bool) (row : List Entry) (i : ℕ) (d : Entry) (due more all : ℕ) → i < length row
    → all ≡ due + more → AreDueSince was now (take i row) due → IsDueSince was now (get_or row i d) more
    → AreDueSince was now (take (i + 1) row) all
due-more was now row i d due more all low sum earlier here =
    let wholes = list_all_more (whole_by was) row i d low in
    let after = list_all_more (whole_by now) row i d low in
    let paid = sum_by_more (due_by was) row i d low in
    let next = sum_by_more (due_by now) row i d low in
    let before = earlier.paid in
    let at = here.paid in
    record {
      whole = λ h.
          let both = and_parts (list_all (whole_by was) (take i row)) (whole_by was (get_or row i d))
          (sym wholes ∙ h) in
          after ∙ and_from _ _ (earlier.whole both.0) (here.whole both.1);
      paid = omega (arith, paid, next, before, at, sum);
    }

-- of no entry
pub due-none : (was now : ℤ → Bool) → AreDueSince was now [] 0
due-none was now = record { whole = λ h. refl; paid = refl }

-- of all entries
pub due-all : (was now : ℤ → Bool) (row : List Entry) (n due : ℕ) → length row ≤ n
    → AreDueSince was now (take n row) due → AreDueSince was now row due
due-all was now row n due all so_far =
    subst (λ (es : List Entry). AreDueSince was now es due) (take_all n row all) so_far

-- ---- tests of truths

-- the test that two truths are not equal fails
pub alike-is : (a b : Bool) → not (beq a b) ≡ false → a ≡ b
alike-is true true h = refl
alike-is true false h = absurd (cc)
alike-is false true h = absurd (cc)
alike-is false false h = refl

-- the test that they are equal succeeds
pub same-is : (a b : Bool) → beq a b ≡ true → a ≡ b
same-is true true h = refl
same-is true false h = absurd (cc)
same-is false true h = absurd (cc)
same-is false false h = refl

-- it fails, and the second is false
pub unlike-not : (a b : Bool) → beq a b ≡ false → b ≡ false → a ≡ true
unlike-not true b h is = refl
unlike-not false true h is = absurd (cc)
unlike-not false false h is = absurd (cc)

-- what holds of a number holds of it if it fits
pub if-some-is : (P : ℕ → Type 0) (o : Option ℕ) (Q : Type 0) (n : ℕ) → SomeIff o Q n → P n → IfSome o P
if-some-is P None Q n some h = tt
if-some-is P (Some m) Q n some h = subst P (sym some.1) h
