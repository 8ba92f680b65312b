-- How many operands of a chain its constant front covers.
use Rattle.std.proofs.Common.{◌≡◌, ℕ, ◌+◌, ◌≤◌, ℤ, Bool, true, false, cond, nat_le, Option, Some, None, refl, sym}
use Rattle.std.proofs.Common.{◌∙◌, arith}
use Rattle.std.proofs.lemmas.Bool.{leb-true, le-leb}
use Rattle.scalar_ranges.specs.Fronts.{Front}

-- the value of a front, if it has this number of operands
abbrev pub covering : Front → ℕ → Option ℤ
covering f n = cond (nat_le n f.operands) (Some f.value) None

-- operands before one that is covered are covered
pub covered_before : (f : Front) (n : ℕ) (c : ℤ) → covering f (n + 1) ≡ Some c → covering f n ≡ Some c
covered_before f n c is = by_tests (nat_le (n + 1) f.operands) (nat_le n f.operands) refl refl is
  where
    by_tests : (p q : Bool) → nat_le (n + 1) f.operands ≡ p → nat_le n f.operands ≡ q
        → cond p (Some f.value) None ≡ Some c → cond q (Some f.value) None ≡ Some c
    by_tests true true more less is = is
    by_tests true false more less is =
        let far = leb-true (n + 1) f.operands more in
        absurd (cc (sym less ∙ le-leb n f.operands (omega (arith, far))))
    by_tests false q more less is = absurd (cc)

-- Where one operand more is not covered, those before are the whole front or are not covered. So what is made of its
-- value is what is made of none, if it is that of the whole front.
pub whole_or_uncovered : {A : Type 0} (of : Option ℤ → A) (f : Front) (n : ℕ) → covering f (n + 1) ≡ None
    → (f.operands ≡ n → of (Some f.value) ≡ of None) → of (covering f n) ≡ of None
whole_or_uncovered {A} of f n is same = by_tests (nat_le (n + 1) f.operands) (nat_le n f.operands) refl refl is
  where
    by_tests : (p q : Bool) → nat_le (n + 1) f.operands ≡ p → nat_le n f.operands ≡ q
        → cond p (Some f.value) None ≡ None → of (cond q (Some f.value) None) ≡ of None
    by_tests true q more less is = absurd (cc)
    by_tests false false more less is = refl
    by_tests false true more less is =
        let not_more : n + 1 ≤ f.operands → ⊥ = λ far. absurd (cc (sym more ∙ le-leb (n + 1) f.operands far)) in
        let far = leb-true n f.operands less in
        same (omega (arith, far, not_more))
