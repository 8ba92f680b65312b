-- The constant front of a chain is the value of its first operands, and covers all that are together a constant.
use Rattle.std.proofs.Common.{◌≡◌, ℕ, ◌+◌, ◌≤◌, ◌<◌, ℤ, Bool, true, false, cond, nat_le, List, Option, Some, None, refl}
use Rattle.std.proofs.Common.{sym, ap, ◌∙◌, arith}
use Rattle.std.proofs.lemmas.Bool.{leb-true, le-leb}
use Rattle.occam_parser.specs.declared.tree.ChainOperator.{ChainOperator}
use Rattle.occam_parser.specs.Expressions.{Terms, Two, Then}
use Rattle.scalar_ranges.specs.Bounds.{bound_of_term, bound_of_terms, exact_value}
use Rattle.scalar_ranges.specs.Entries.{Entry}
use Rattle.scalar_ranges.specs.Fronts.{Front, count_of, longer, front_in}
use Rattle.line_pieces.specs.Expressions.{covered}

-- A front of as many operands is their value, and covers them if they have one.
pub record FitsHere (es : List Entry) (op : ChainOperator) (front : Option Front) (ts : Terms) : Type 0 where
  pub value : (f : Front) → front ≡ Some f → f.operands ≡ count_of ts
      → exact_value (bound_of_terms es op ts) ≡ Some f.value
  pub covers : (v : ℤ) → exact_value (bound_of_terms es op ts) ≡ Some v → covered front (count_of ts) ≡ None → ⊥

abbrev pub FrontFits : List Entry → ChainOperator → Option Front → Terms → Type 0
FrontFits es op front (Two a b) = FitsHere es op front (Two a b)
FrontFits es op front (Then ts x) = FrontFits es op front ts × FitsHere es op front (Then ts x)

pub fits_here : (es : List Entry) (op : ChainOperator) (front : Option Front) (ts : Terms) → FrontFits es op front ts
    → FitsHere es op front ts
fits_here es op front (Two a b) fits = fits
fits_here es op front (Then ts x) fits = fits.1

covered_all : (f : Front) (n : ℕ) → n ≤ f.operands → covered (Some f) n ≡ None → ⊥
covered_all f n up is =
    absurd (cc (sym (ap (λ (b : Bool). cond b (Some f.value) None) (le-leb n f.operands up)) ∙ is))

-- a front that is longer than these operands
beyond_here : (es : List Entry) (op : ChainOperator) (f : Front) (ts : Terms) → count_of ts < f.operands
    → FitsHere es op (Some f) ts
beyond_here es op f ts less = record {
  value = λ e same many. absurd (differ e same many);
  covers = λ v is none. covered_all f (count_of ts) (omega (arith, less)) none;
}
  where
    differ : (e : Front) → Some f ≡ Some e → e.operands ≡ count_of ts → ⊥
    differ e same many =
        let one : f ≡ e = cc in
        let length = ap (λ (x : Front). x.operands) one in
        omega (arith, less, length, many)

beyond : (es : List Entry) (op : ChainOperator) (f : Front) (ts : Terms) → count_of ts < f.operands
    → FrontFits es op (Some f) ts
beyond es op f (Two a b) less = beyond_here es op f (Two a b) less
beyond es op f (Then ts x) less =
    (beyond es op f ts (omega (arith, less)), beyond_here es op f (Then ts x) less)

-- ---- how long fronts are

longer_short : (o : Option ℤ) (n : ℕ) (shorter : Option Front) (f : Front)
    → ((e : Front) → shorter ≡ Some e → e.operands ≤ n) → longer o n shorter ≡ Some f → f.operands ≤ n
longer_short None n shorter f short is = short f is
longer_short (Some v) n shorter f short is =
    let one : record { value = v; operands = n } ≡ f = cc in
    let length = ap (λ (x : Front). x.operands) one in
    omega (arith, length)

first_short : (o : Option ℤ) (e : Front) → longer o 1 None ≡ Some e → e.operands ≤ 1
first_short None e is = absurd (cc)
first_short (Some v) e is =
    let one : record { value = v; operands = 1 } ≡ e = cc in
    let length = ap (λ (x : Front). x.operands) one in
    omega (arith, length)

front_short : (es : List Entry) (op : ChainOperator) (ts : Terms) (f : Front) → front_in es op ts ≡ Some f
    → f.operands ≤ count_of ts
front_short es op (Two a b) f is =
    longer_short (exact_value (bound_of_terms es op (Two a b))) 2 (longer (exact_value (bound_of_term es a)) 1 None) f
    (λ e same. let less = first_short (exact_value (bound_of_term es a)) e same in omega (arith, less)) is
front_short es op (Then ts x) f is =
    longer_short (exact_value (bound_of_terms es op (Then ts x))) (count_of ts + 1) (front_in es op ts) f
    (λ e same. let less = front_short es op ts e same in omega (arith, less)) is

-- ---- fronts fit

here_by : (es : List Entry) (op : ChainOperator) (ts : Terms) (o : Option ℤ) (shorter : Option Front)
    → exact_value (bound_of_terms es op ts) ≡ o → ((e : Front) → shorter ≡ Some e → e.operands < count_of ts)
    → FitsHere es op (longer o (count_of ts) shorter) ts
here_by es op ts None shorter is short = record {
  value = λ f same many. absurd (let less = short f same in omega (arith, less, many));
  covers = λ v some none. absurd (cc (sym is ∙ some));
}
here_by es op ts (Some v) shorter is short = record {
  value = λ f same many. is ∙ of_front f same;
  covers = λ u some none. covered_all (record { value = v; operands = count_of ts }) (count_of ts) (omega arith) none;
}
  where
    of_front : (f : Front) → Some (record { value = v; operands = count_of ts }) ≡ Some f → Some v ≡ Some f.value
    of_front f same =
        let one : record { value = v; operands = count_of ts } ≡ f = cc in ap (λ (x : Front). Some x.value) one

behind_by : (es : List Entry) (op : ChainOperator) (ts : Terms) (n : ℕ) (o : Option ℤ) (shorter : Option Front)
    → count_of ts < n → FrontFits es op shorter ts → FrontFits es op (longer o n shorter) ts
behind_by es op ts n None shorter less fits = fits
behind_by es op ts n (Some v) shorter less fits = beyond es op (record { value = v; operands = n }) ts less

pub fronts_fit : (es : List Entry) (op : ChainOperator) (ts : Terms) → FrontFits es op (front_in es op ts) ts
fronts_fit es op (Two a b) =
    here_by es op (Two a b) (exact_value (bound_of_terms es op (Two a b)))
    (longer (exact_value (bound_of_term es a)) 1 None) refl
    (λ e same. let less = first_short (exact_value (bound_of_term es a)) e same in omega (arith, less))
fronts_fit es op (Then ts x) = (
  behind_by es op ts (count_of ts + 1) (exact_value (bound_of_terms es op (Then ts x))) (front_in es op ts)
      (omega arith) (fronts_fit es op ts),
  here_by es op (Then ts x) (exact_value (bound_of_terms es op (Then ts x))) (front_in es op ts) refl
      (λ e same. let less = front_short es op ts e same in omega (arith, less)),
)

-- Of operands without a value none are covered by their own front.
covers_by : (t : Bool) (f : Front) (n : ℕ) (o : Option ℤ) → nat_le n f.operands ≡ t → f.operands ≤ n
    → (f.operands ≡ n → o ≡ Some f.value) → o ≡ None → cond t (Some f.value) None ≡ None
covers_by true f n o test short value is =
    let far = leb-true n f.operands test in absurd (cc (sym (value (omega (arith, far, short))) ∙ is))
covers_by false f n o test short value is = refl

uncovered_by : (front : Option Front) (n : ℕ) (o : Option ℤ) → ((f : Front) → front ≡ Some f → f.operands ≤ n)
    → ((f : Front) → front ≡ Some f → f.operands ≡ n → o ≡ Some f.value) → o ≡ None → covered front n ≡ None
uncovered_by None n o short value is = refl
uncovered_by (Some f) n o short value is =
    covers_by (nat_le n f.operands) f n o refl (short f refl) (value f refl) is

pub uncovered : (es : List Entry) (op : ChainOperator) (ts : Terms) → exact_value (bound_of_terms es op ts) ≡ None
    → covered (front_in es op ts) (count_of ts) ≡ None
uncovered es op ts is =
    let here = fits_here es op (front_in es op ts) ts (fronts_fit es op ts) in
    uncovered_by (front_in es op ts) (count_of ts) (exact_value (bound_of_terms es op ts)) (front_short es op ts)
    here.value is
