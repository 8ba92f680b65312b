-- A loop without turns whose body changes no scalar leaves what is known as it is.
use Rattle.std.proofs.Common.{◌≡◌, ℕ, ◌≤◌, Bool, true, false, cond, List, [], ◌∷◌, length, Option, Some, None, refl}
use Rattle.std.proofs.Common.{sym, ap, ◌∙◌, arith, ◌||◌}
use Rattle.std.specs.Prelude.{nat_eq, option_map}
use Rattle.std.specs.List.{list_any}
use Rattle.std.proofs.lemmas.Bool.Decides.{nat_tests}
use Rattle.small_laws.proofs.Comparisons.{eqb-self}
use Rattle.scalar_ranges.specs.Entries.{Entry, Meaning, Scalar, entry_at}
use Rattle.scalar_ranges.specs.Moves.{is_one_of, widen, widened, widened_if}
use Rattle.code_generator.specs.Processes.{has_scalar, is_scalar}

either_false : (a b : Bool) → (a || b) ≡ false → (a ≡ false) × (b ≡ false)
either_false false b is = (refl, is)
either_false true b is = absurd (cc is)

-- what holds of no number of a list
none_of : (f : ℕ → Bool) (ns : List ℕ) → list_any f ns ≡ false → (n : ℕ) → is_one_of ns n ≡ true → f n ≡ false
none_of f [] none n is = absurd (cc is)
none_of f (m ∷ ms) none n is = by (nat_eq m n) refl is (λ later. none_of f ms both.1 n later)
  where
    both : (f m ≡ false) × (list_any f ms ≡ false)
    both = either_false (f m) (list_any f ms) none

    by : (b : Bool) → nat_eq m n ≡ b → cond b true (is_one_of ms n) ≡ true
        → (is_one_of ms n ≡ true → f n ≡ false) → f n ≡ false
    by true same is further = let one : m ≡ n = grind (arith, nat_tests, same) in ap f (sym one) ∙ both.0
    by false same is further = further is

abbrev IsScalarAt : List Entry → ℕ → Bool
IsScalarAt es n = is_scalar (option_map (λ (e : Entry). e.meaning) (entry_at n es))

none_there : (n : ℕ) (es : List Entry) → length es ≤ n → entry_at n es ≡ None
none_there n [] low = refl
none_there n (e ∷ es) low =
    let apart : nat_eq (length es) n ≡ false = grind (arith, nat_tests, low) in
    ap (λ (b : Bool). cond b (Some e) (entry_at n es)) apart ∙ none_there n es (omega (arith, low))

meaning_stays : (m : Meaning) → is_scalar (Some m) ≡ false → widened m ≡ m
meaning_stays (Scalar kind type range) is = absurd (cc is)
meaning_stays m is = refl

-- so does an entry
entry_stays : (b : Bool) (e : Entry) → (b ≡ true → is_scalar (Some e.meaning) ≡ false) → widened_if b e ≡ e
entry_stays true e none =
    ap (λ (m : Meaning). record { name = e.name; meaning = m }) (meaning_stays e.meaning (none refl))
entry_stays false e none = refl

widen_stays : (ns : List ℕ) (es : List Entry) → ((n : ℕ) → is_one_of ns n ≡ true → IsScalarAt es n ≡ false)
    → widen ns es ≡ es
widen_stays ns [] none = refl
widen_stays ns (e ∷ es) none =
    (λ i. entry_stays (is_one_of ns (length es)) e here i ∷ widen_stays ns es further i)
  where
    at : (n : ℕ) (b : Bool) → nat_eq (length es) n ≡ b
        → is_scalar (option_map (λ (x : Entry). x.meaning) (cond b (Some e) (entry_at n es))) ≡ false
        → IsScalarAt es n ≡ false
    at n true same is =
        let one : length es ≡ n = grind (arith, nat_tests, same) in
        ap (λ (o : Option Entry). is_scalar (option_map (λ (x : Entry). x.meaning) o))
        (none_there n es (omega (arith, one)))
    at n false same is = is

    here : is_one_of ns (length es) ≡ true → is_scalar (Some e.meaning) ≡ false
    here is =
        sym (ap (λ (b : Bool). is_scalar
        (option_map (λ (x : Entry). x.meaning) (cond b (Some e) (entry_at (length es) es))))
        (eqb-self (length es)))
        ∙ none (length es) is

    further : (n : ℕ) → is_one_of ns n ≡ true → IsScalarAt es n ≡ false
    further n is = at n (nat_eq (length es) n) refl (none n is)

-- Where no number is that of a scalar, no range changes.
pub no_scalar_widens : (ns : List ℕ) (es : List Entry) → has_scalar ns es ≡ false → widen ns es ≡ es
no_scalar_widens ns es none = widen_stays ns es (none_of (IsScalarAt es) ns none)
