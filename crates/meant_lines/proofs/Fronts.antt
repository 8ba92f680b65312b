-- The constant front of a chain has the value of its operands.
use Rattle.std.proofs.Common.{◌≡◌, ℕ, ◌+◌, ◌<◌, ◌≤◌, ℤ, List, Option, Some, None, refl, ap, ◌∙◌, arith}
use Rattle.std.proofs.lemmas.Option.{same_Some}
use Rattle.occam_parser.specs.declared.tree.ChainOperator.{ChainOperator}
use Rattle.occam_parser.specs.Expressions.{Terms, Two, Then, Term}
use Rattle.scalar_ranges.specs.Bounds.{bound_of_term, bound_of_terms, exact_value}
use Rattle.scalar_ranges.specs.Entries.{Entry}
use Rattle.scalar_ranges.specs.Fronts.{Front, count_of, longer, front_in}

-- a front of as many operands has their value
abbrev pub IsExactHere : List Entry → ChainOperator → Option Front → Terms → Type 0
IsExactHere es op front ts = (f : Front) → front ≡ Some f → f.operands ≡ count_of ts
    → exact_value (bound_of_terms es op ts) ≡ Some f.value

abbrev pub IsExactFront : List Entry → ChainOperator → Option Front → Terms → Type 0
IsExactFront es op front (Two a b) = IsExactHere es op front (Two a b)
IsExactFront es op front (Then ts x) = IsExactFront es op front ts × IsExactHere es op front (Then ts x)

-- ---- how long a front is

two_ends : (o p : Option ℤ) (f : Front) → longer o 2 (longer p 1 None) ≡ Some f → f.operands ≤ 2
two_ends (Some v) p f is =
    let same : 2 ≡ f.operands = ap (λ (k : Front). k.operands) (same_Some _ f is) in omega (arith, same)
two_ends None (Some v) f is =
    let same : 1 ≡ f.operands = ap (λ (k : Front). k.operands) (same_Some _ f is) in omega (arith, same)
two_ends None None f is = absurd (cc is)

more_ends : (o : Option ℤ) (n : ℕ) (shorter : Option Front) (f : Front)
    → ((k : Front) → shorter ≡ Some k → k.operands ≤ n) → longer o (n + 1) shorter ≡ Some f → f.operands ≤ n + 1
more_ends (Some v) n shorter f before is =
    let same : n + 1 ≡ f.operands = ap (λ (k : Front). k.operands) (same_Some _ f is) in omega (arith, same)
more_ends None n shorter f before is = let less = before f is in omega (arith, less)

-- it is no longer than the chain
pub fronts_end : (es : List Entry) (op : ChainOperator) (ts : Terms) (f : Front) → front_in es op ts ≡ Some f
    → f.operands ≤ count_of ts
fronts_end es op (Two a b) f is =
    two_ends (exact_value (bound_of_terms es op (Two a b))) (exact_value (bound_of_term es a)) f is
fronts_end es op (Then ts x) f is =
    more_ends (exact_value (bound_of_terms es op (Then ts x))) (count_of ts) (front_in es op ts) f
    (fronts_end es op ts) is

-- ---- its value

-- a longer front says nothing of fewer operands
beyond : (es : List Entry) (op : ChainOperator) (front : Option Front) (ts : Terms)
    → ((f : Front) → front ≡ Some f → count_of ts < f.operands) → IsExactFront es op front ts
beyond es op front (Two a b) far = λ f is same. let more = far f is in absurd (omega (arith, more, same))
beyond es op front (Then ts x) far = (
  beyond es op front ts (λ f is. let more = far f is in omega (arith, more)),
  λ f is same. let more = far f is in absurd (omega (arith, more, same)),
)

two_exact : (o p : Option ℤ) (f : Front) → longer o 2 (longer p 1 None) ≡ Some f → f.operands ≡ 2
    → o ≡ Some f.value
two_exact (Some v) p f is same = ap (λ (k : Front). Some k.value) (same_Some _ f is)
two_exact None (Some v) f is same =
    let one : 1 ≡ f.operands = ap (λ (k : Front). k.operands) (same_Some _ f is) in absurd (omega (arith, one, same))
two_exact None None f is same = absurd (cc is)

then_by : (es : List Entry) (op : ChainOperator) (ts : Terms) (x : Term) (o : Option ℤ)
    → exact_value (bound_of_terms es op (Then ts x)) ≡ o → IsExactFront es op (front_in es op ts) ts
    → IsExactFront es op (longer o (count_of ts + 1) (front_in es op ts)) (Then ts x)
then_by es op ts x (Some v) is before = (
  beyond es op (Some (record { value = v; operands = count_of ts + 1 })) ts (λ f same.
      let long : count_of ts + 1 ≡ f.operands = ap (λ (k : Front). k.operands) (same_Some _ f same) in
      omega (arith, long)),
  λ f same long. is ∙ ap (λ (k : Front). Some k.value) (same_Some _ f same),
)
then_by es op ts x None is before = (
  before,
  λ f same long. let less = fronts_end es op ts f same in absurd (omega (arith, less, long)),
)

pub fronts_are_exact : (es : List Entry) (op : ChainOperator) (ts : Terms)
    → IsExactFront es op (front_in es op ts) ts
fronts_are_exact es op (Two a b) = λ f is same.
    two_exact (exact_value (bound_of_terms es op (Two a b))) (exact_value (bound_of_term es a)) f is same
fronts_are_exact es op (Then ts x) =
    then_by es op ts x (exact_value (bound_of_terms es op (Then ts x))) refl (fronts_are_exact es op ts)
