-- What entries of loops cost, and whether both of their words are known.
use Rattle.std.proofs.Common.{◌≡◌, ℕ, ◌-◌, ◌*◌, ℤ, pos, ◌+ℤ◌, Bool, true, false, cond, ◌&&◌, refl, sym, ap, ◌∙◌}
use mathlib.Core.Bool.{beq}
use Rattle.module_format.specs.declared.fact.Fact.TheVariants.{Loop}
use Rattle.module_format.specs.Rows.{Entry}
use Rattle.states.specs.declared.known.WordFact.{WordFact}
use Rattle.states.specs.State.{Facts, is_alone}
use Rattle.states.specs.Below.{are_alike, is_whole, holds_constant, price}

-- the test that two booleans are equal
pub alike : (a b : Bool) → beq a b ≡ are_alike a b
alike true true = refl
alike true false = refl
alike false true = refl
alike false false = refl

pub whole-loop : (facts : Facts) (entry : Entry) (base : ℤ) (count weight : ℕ) (word next : ℤ) (first second : WordFact)
    → entry.fact ≡ Loop base count weight → word ≡ entry.word → next ≡ entry.word +ℤ pos 1 → first ≡ facts word
    → second ≡ facts next
    → are_alike (is_alone first) (is_alone second) ≡ is_whole facts entry
whole-loop facts entry base count weight word next first second is word_is next_is first_is second_is =
    rw (first_is, second_is, word_is, next_is, is) refl

-- where the count is not known as a number, nothing is entered
pub price-free : (facts : Facts) (entry : Entry) (base : ℤ) (count weight : ℕ) (next turns : ℤ) (second : WordFact)
    → entry.fact ≡ Loop base count weight → next ≡ entry.word +ℤ pos 1 → second ≡ facts next → turns ≡ pos count
    → holds_constant second turns ≡ false
    → price facts entry ≡ 0
price-free facts entry base count weight next turns second is next_is second_is turns_is none =
    let no : holds_constant (facts (entry.word +ℤ pos 1)) (pos count) ≡ false =
    ap (λ f. holds_constant f (pos count)) (ap facts (sym next_is) ∙ sym second_is)
    ∙ (ap (holds_constant second) (sym turns_is) ∙ none) in
    rw is (ap (λ b. cond b (weight * (count - 1)) 0) (and-no (holds_constant (facts entry.word) base) _ no))
  where
    and-no : (x y : Bool) → y ≡ false → x && y ≡ false
    and-no true y q = q
    and-no false y q = refl

-- where both words are the constants with which it begins, it is entered
pub price-due : (facts : Facts) (entry : Entry) (base : ℤ) (count weight : ℕ) (word next begin turns : ℤ)
    (first second : WordFact) → entry.fact ≡ Loop base count weight → word ≡ entry.word → next ≡ entry.word +ℤ pos 1
    → first ≡ facts word → second ≡ facts next
    → begin ≡ base → turns ≡ pos count → holds_constant first begin ≡ true → holds_constant second turns ≡ true
    → price facts entry ≡ weight * (count - 1)
price-due facts entry base count weight word next begin turns first second is word_is next_is first_is second_is
    begin_is turns_is begun counted =
    let yes : holds_constant (facts entry.word) base ≡ true =
    ap (λ f. holds_constant f base) (ap facts (sym word_is) ∙ sym first_is)
    ∙ (ap (holds_constant first) (sym begin_is) ∙ begun) in
    let due : holds_constant (facts (entry.word +ℤ pos 1)) (pos count) ≡ true =
    ap (λ f. holds_constant f (pos count)) (ap facts (sym next_is) ∙ sym second_is)
    ∙ (ap (holds_constant second) (sym turns_is) ∙ counted) in
    rw (is, yes, due) refl
