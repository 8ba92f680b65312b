-- The innermost entry of a name is the one with its number.
use Rattle.std.proofs.Common.{◌≡◌, ℕ, suc, ◌<◌, Bool, true, false, cond, List, [], ◌∷◌, length, Option, Some, None}
use Rattle.std.proofs.Common.{refl, sym, ap, arith, ◌∙◌, nat_eq, bytes_eq}
use Rattle.std.proofs.lemmas.Bool.{eq-eqb}
use Rattle.small_laws.proofs.Comparisons.{gt-eqb}
use Rattle.word_arithmetic.specs.Range.{Ends}
use Rattle.scalar_ranges.specs.Entries.{Meaning, Entry, meaning_in, number_in}
use Rattle.scalar_ranges.specs.Naming.{number_of}
use Rattle.scalar_ranges.specs.Nesting.{names_of}
use Rattle.occam_parser.specs.Expressions.{Expression}
use Rattle.scalar_ranges.specs.Narrowing.{Tested, test_of, left_of, with_range, changed, as_holds, by_test, narrow}
use Rattle.scalar_ranges.specs.Moves.{at_number, with_meaning}
use Rattle.scalar_ranges.specs.MoveLaws.{meaning_at}
use Rattle.scalar_ranges.specs.Changes.{changed_to}
use Rattle.scalar_ranges.proofs.Nesting.{names_long}

below_by : (t : Bool) (name : List ℕ) (es : List Entry) (n : ℕ) → cond t (Some (length es)) (number_in name es) ≡ Some n
    → (number_in name es ≡ Some n → n < length es) → n < suc (length es)
below_by true name es n is further = let same : length es ≡ n = cc in omega arith
below_by false name es n is further = let less = further is in omega arith

number_below : (name : List ℕ) (es : List Entry) (n : ℕ) → number_in name es ≡ Some n → n < length es
number_below name [] n is = absurd (cc)
number_below name (e ∷ es) n is = below_by (bytes_eq e.name name) name es n is (number_below name es n)

-- where a name has a number, the test of the name is the test of the number
pub by_number : {A : Type 0} (t : Bool) (name : List ℕ) (es : List Entry) (n : ℕ) (x y z : A)
    → cond t (Some (length es)) (number_in name es) ≡ Some n → (number_in name es ≡ Some n → y ≡ z)
    → cond t x y ≡ cond (nat_eq (length es) n) x z
by_number true name es n x y z is further =
    let same : length es ≡ n = cc in ap (λ t. cond t x z) (sym (eq-eqb (length es) n same))
by_number false name es n x y z is further =
    further is ∙ ap (λ t. cond t x z) (sym (gt-eqb (length es) n (number_below name es n is)))

pub changed_at : (f : Ends → Ends) (name : List ℕ) (n : ℕ) (es : List Entry) → number_in name es ≡ Some n
    → changed f name es ≡ at_number (with_meaning (with_range f)) n es
changed_at f name n [] is = absurd (cc)
changed_at f name n (e ∷ es) is =
    by_number (bytes_eq e.name name) name es n (with_meaning (with_range f) e ∷ es) (e ∷ changed f name es)
    (e ∷ at_number (with_meaning (with_range f)) n es) is (λ h. ap (λ ks. e ∷ ks) (changed_at f name n es h))

pub meaning_found : (name : List ℕ) (n : ℕ) (es : List Entry) → number_in name es ≡ Some n
    → meaning_in name es ≡ meaning_at n es
meaning_found name n [] is = absurd (cc)
meaning_found name n (e ∷ es) is =
    by_number (bytes_eq e.name name) name es n (Some e.meaning) (meaning_in name es) (meaning_at n es) is
    (meaning_found name n es)

something_by : (t : Bool) (l n : ℕ) (m : Meaning) (a : Option ℕ) (b : Option Meaning) → cond t (Some l) a ≡ Some n
    → cond t (Some m) b ≡ None → (a ≡ Some n → b ≡ None → ⊥) → ⊥
something_by true l n m a b is none further = absurd (cc)
something_by false l n m a b is none further = further is none

-- what has a number means something
means_something : (name : List ℕ) (n : ℕ) (es : List Entry) → number_in name es ≡ Some n
    → meaning_in name es ≡ None → ⊥
means_something name n [] is none = absurd (cc)
means_something name n (e ∷ es) is none =
    something_by (bytes_eq e.name name) (length es) n e.meaning (number_in name es) (meaning_in name es) is none
    (means_something name n es)

-- what has a number is an entry
pub number_found : (name : List ℕ) (n : ℕ) (es : List Entry) → number_in name es ≡ Some n → None ≡ meaning_at n es → ⊥
number_found name n es is none = means_something name n es is (meaning_found name n es is ∙ sym none)

-- the same of a name that denotes nothing
by_none : {A : Type 0} (t : Bool) (name : List ℕ) (es : List Entry) (x y z : A)
    → cond t (Some (length es)) (number_in name es) ≡ None → (number_in name es ≡ None → y ≡ z) → cond t x y ≡ z
by_none true name es x y z is further = absurd (cc)
by_none false name es x y z is further = further is

pub unchanged : (f : Ends → Ends) (name : List ℕ) (es : List Entry) → number_in name es ≡ None
    → changed f name es ≡ es
unchanged f name [] is = refl
unchanged f name (e ∷ es) is =
    by_none (bytes_eq e.name name) name es (with_meaning (with_range f) e ∷ es) (e ∷ changed f name es) (e ∷ es) is
    (λ h. ap (λ ks. e ∷ ks) (unchanged f name es h))

pub means_nothing : (name : List ℕ) (es : List Entry) → number_in name es ≡ None → meaning_in name es ≡ None
means_nothing name [] is = refl
means_nothing name (e ∷ es) is =
    by_none (bytes_eq e.name name) name es (Some e.meaning) (meaning_in name es) None is (means_nothing name es)

pub number_of_names : (name : List ℕ) (es : List Entry) → number_in name es ≡ number_of name (names_of es)
number_of_names name [] = refl
number_of_names name (e ∷ es) =
    (λ i. cond (bytes_eq e.name name) (Some (sym (names_long es) i)) (number_of_names name es i))

-- ---- the entry with a number

to_by : (t : Bool) (f : Meaning → Meaning) (n : ℕ) (m k : Meaning) (e : Entry) (es : List Entry)
    → cond t (Some e.meaning) (meaning_at n es) ≡ Some k → m ≡ f k
    → (meaning_at n es ≡ Some k → changed_to m n es ≡ at_number (with_meaning f) n es)
    → cond t (with_meaning (λ j. m) e ∷ es) (e ∷ changed_to m n es)
    ≡ cond t (with_meaning f e ∷ es) (e ∷ at_number (with_meaning f) n es)
to_by true f n m k e es there is further =
    let same : e.meaning ≡ k = cc in ap (λ j. record { name = e.name; meaning = j } ∷ es) (is ∙ ap f (sym same))
to_by false f n m k e es there is further = ap (λ ks. e ∷ ks) (further there)

-- an entry that means what a function makes of its meaning
pub changed_by_meaning : (f : Meaning → Meaning) (n : ℕ) (m k : Meaning) (es : List Entry) → meaning_at n es ≡ Some k
    → m ≡ f k → changed_to m n es ≡ at_number (with_meaning f) n es
changed_by_meaning f n m k [] there is = refl
changed_by_meaning f n m k (e ∷ es) there is =
    to_by (nat_eq (length es) n) f n m k e es there is (λ h. changed_by_meaning f n m k es h is)

same_by : (t : Bool) (f : Entry → Entry) (n : ℕ) (e : Entry) (es : List Entry)
    → cond t (Some e.meaning) (meaning_at n es) ≡ None → (meaning_at n es ≡ None → at_number f n es ≡ es)
    → cond t (f e ∷ es) (e ∷ at_number f n es) ≡ e ∷ es
same_by true f n e es none further = absurd (cc)
same_by false f n e es none further = ap (λ ks. e ∷ ks) (further none)

pub none_changed : (f : Entry → Entry) (n : ℕ) (es : List Entry) → meaning_at n es ≡ None → at_number f n es ≡ es
none_changed f n [] none = refl
none_changed f n (e ∷ es) none = same_by (nat_eq (length es) n) f n e es none (none_changed f n es)

-- ---- a condition

-- the range of a scalar where a condition has this truth
abbrev pub left_by : Tested → Bool → Ends → Ends
left_by t holds = left_of (as_holds holds t.comparison) t.constant

pub narrows_none : (es : List Entry) (condition : Expression) (holds : Bool) (t : Tested)
    → test_of es condition ≡ Some t → number_in t.name es ≡ None → narrow es condition holds ≡ es
narrows_none es condition holds t is none = ap (by_test es holds) is ∙ unchanged (left_by t holds) t.name es none

pub narrows : (es : List Entry) (condition : Expression) (holds : Bool) (t : Tested) (n : ℕ)
    → test_of es condition ≡ Some t → number_in t.name es ≡ Some n
    → narrow es condition holds ≡ at_number (with_meaning (with_range (left_by t holds))) n es
narrows es condition holds t n is number =
    ap (by_test es holds) is ∙ changed_at (left_by t holds) t.name n es number
