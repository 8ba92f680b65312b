use Rattle.std.proofs.Common.{◌≡◌, Bool, cond, refl, rules, w32, sym, ◌∙◌, ap, ◌&&◌, ℤ}
use Rattle.std.proofs.lemmas.Int.{to_z-of_z}
use Rattle.word_arithmetic.specs.Range.{Ends, ends_of, constant, full, zero_to, bits_range, is_constant}
use Rattle.word_arithmetic.specs.Range.{is_not_negative}
use Rattle.word_arithmetic.proofs.ranges.Range.bits.Goals as goal

-- the range, by the results of both tests
by_tests : (r s : Ends) (value hi : ℤ) {single natural tested signed : Bool}
    → single ≡ (is_constant r && is_constant s) → single ≡ tested
    → natural ≡ (is_not_negative r && is_not_negative s) → natural ≡ signed
    → cond tested (constant value) (cond signed (zero_to hi) full) ≡ bits_range value hi r s
by_tests r s value hi p q m n =
    λ i. cond ((sym q ∙ p) i) (constant value) (cond ((sym n ∙ m) i) (zero_to hi) full)

pub returns-then-is_single_with : goal.returns-then-is_single_with
returns-then-is_single_with c value hi p q =
    c.constant.ensures ∙ ap constant (to_z-of_z w32 c.args.of_constants (search rules) ∙ sym p)
    ∙ by_tests (ends_of c.args.self) (ends_of c.args.other) value hi
    c.is_single_with.ensures c.if-is_single_with.true refl refl

pub returns-then-is_not_negative_with : goal.returns-then-is_not_negative_with
returns-then-is_not_negative_with c value hi p q =
    c.zero_to.ensures ∙ ap zero_to (to_z-of_z w32 c.args.top (search rules) ∙ sym q)
    ∙ by_tests (ends_of c.args.self) (ends_of c.args.other) value hi
    c.is_single_with.ensures c.if-is_single_with.false c.is_not_negative_with.ensures c.if-is_not_negative_with.true

pub returns : goal.returns
returns c value hi p q =
    c.full.ensures
    ∙ by_tests (ends_of c.args.self) (ends_of c.args.other) value hi
    c.is_single_with.ensures c.if-is_single_with.false c.is_not_negative_with.ensures c.if-is_not_negative_with.false
