-- One end more of the parameters of a procedure.
use Rattle.std.proofs.Common.{◌≡◌, ℕ, zero, suc, ◌+◌, ◌<◌, true, false, cond, List, [], ◌∷◌, ◌++◌, map, nat_eq, nat_lt}
use Rattle.std.proofs.Common.{refl, sym, ap, ◌∙◌, arith, length, ◌≤◌, Some, Result, Ok, Err, OnOk}
use Rattle.std.proofs.Common.{Vec, Global, slice_set, unwrap_or, ◌-◌, ◌⊎◌, inl, inr}
use Rattle.std.specs.Prelude.{fold, nat_le}
use Rattle.std.specs.List.{slice_get}
use Rattle.std.proofs.lemmas.Bool.{and_cases, cases_lt}
use Rattle.std.proofs.lemmas.Bool.Decides.{nat_tests}
use Rattle.scalar_ranges.specs.Scopes.{meaning_of}
use Rattle.program_uses.specs.declared.ends.ChannelEnd.{ChannelEnd}
use Rattle.program_uses.specs.declared.signature.Parameter as code_parameter
use Rattle.program_uses.specs.declared.uses.End.{End}
use Rattle.program_uses.specs.declared.uses.Use.{Use}
use Rattle.program_uses.specs.Ends.{sorted_ends, is_parameter, of_parameters, pushed_at, with_end}
use Rattle.program_uses.specs.Signatures.{Parameter, parameter_of}
use Rattle.program_uses.proofs.EndsInOrder.{kept, parameters_kept}

others_stay : (number : ℕ) (qs : List Parameter) (d : ChannelEnd) → d.channel < number → with_end number qs d ≡ qs
others_stay number [] d low = refl
others_stay number (q ∷ qs) d low =
    let other : nat_eq d.channel number ≡ false = grind (arith, nat_tests) in
    λ i. cond (other i) (record { meaning = q.meaning; ends = q.ends ++ d.end ∷ [] }) q
    ∷ others_stay (suc number) qs d (omega arith) i

pub pushed_is : (first place : ℕ) (qs : List Parameter) (d : ChannelEnd) → d.channel ≡ first + place
    → pushed_at place d.end qs ≡ with_end first qs d
pushed_is first zero [] d is = refl
pushed_is first (suc place) [] d is = refl
pushed_is first zero (q ∷ qs) d is =
    let one : nat_eq d.channel first ≡ true = grind (arith, nat_tests) in
    λ i. cond (sym one i) (record { meaning = q.meaning; ends = q.ends ++ d.end ∷ [] }) q
    ∷ sym (others_stay (suc first) qs d (omega arith)) i
pushed_is first (suc place) (q ∷ qs) d is =
    let other : nat_eq d.channel first ≡ false = grind (arith, nat_tests) in
    λ i. cond (sym other i) (record { meaning = q.meaning; ends = q.ends ++ d.end ∷ [] }) q
    ∷ pushed_is (suc first) place qs d (omega arith) i

-- an end of a channel before these parameters
pub pushed_nowhere : (first : ℕ) (qs : List Parameter) (d : ChannelEnd) → d.channel < first
    → qs ≡ with_end first qs d
pushed_nowhere first qs d low = sym (others_stay first qs d low)

pub if_pushed : {A B : Type 0} (qs : List Parameter) {there wanted : List Parameter} (r : Result A B) → there ≡ wanted
    → OnOk r (qs ≡ there) → OnOk r (qs ≡ wanted)
if_pushed qs (Ok x) same pushed = pushed ∙ same
if_pushed qs (Err e) same pushed = tt

pub pushed_there : (xs : List code_parameter.Parameter) (place : ℕ) (x : code_parameter.Parameter) (d : End)
    (ds : Vec End Global) → slice_get xs place ≡ Some x → ds.items ≡ x.ends.items ++ d ∷ []
    → map parameter_of (slice_set xs place (record { meaning = x.meaning; ends = ds }))
    ≡ pushed_at place d (map parameter_of xs)
pushed_there [] place x d ds there is = absurd (let k = there in cc)
pushed_there (y ∷ xs) zero x d ds there is =
    let same : y ≡ x = ap (λ o. unwrap_or o y) there in
    let ends = is ∙ ap (λ y. y.ends.items ++ d ∷ []) (sym same) in
    λ i. record { meaning = meaning_of (sym same i).meaning; ends = ends i }
    ∷ map parameter_of xs
pushed_there (y ∷ xs) (suc place) x d ds there is =
    ap (λ qs. parameter_of y ∷ qs) (pushed_there xs place x d ds there is)

pub pushed_beyond : (xs : List code_parameter.Parameter) (place : ℕ) (d : End) → length xs ≤ place
    → map parameter_of xs ≡ pushed_at place d (map parameter_of xs)
pushed_beyond [] zero d beyond = refl
pushed_beyond [] (suc place) d beyond = refl
pushed_beyond (x ∷ xs) zero d beyond = absurd (omega arith)
pushed_beyond (x ∷ xs) (suc place) d beyond =
    ap (λ qs. parameter_of x ∷ qs) (pushed_beyond xs place d (omega arith))

-- ---- the ends of other channels

beyond_stay : (first : ℕ) (qs : List Parameter) (d : ChannelEnd) → first + length qs ≤ d.channel
    → with_end first qs d ≡ qs
beyond_stay first [] d high = refl
beyond_stay first (q ∷ qs) d high =
    let other : nat_eq d.channel first ≡ false = grind (arith, nat_tests) in
    λ i. cond (other i) (record { meaning = q.meaning; ends = q.ends ++ d.end ∷ [] }) q
    ∷ beyond_stay (suc first) qs d (omega (arith, high)) i

no_parameter : (first count n : ℕ) → is_parameter first count n ≡ false → (n < first) ⊎ (first + count ≤ n)
no_parameter first count n h =
    elim (and_cases (nat_le first n) (nat_lt (n - first) count) h) [
      | inl e ↦ inl (grind (arith, nat_tests))
      | inr e ↦ elim (cases_lt n first) [ inl less ↦ inl less | inr more ↦ inr (grind (arith, nat_tests)) ]
    ]

stays : (first : ℕ) (qs : List Parameter) (d : ChannelEnd) → is_parameter first (length qs) d.channel ≡ false
    → with_end first qs d ≡ qs
stays first qs d h =
    elim (no_parameter first (length qs) d.channel h) [
      | inl low ↦ others_stay first qs d low
      | inr high ↦ beyond_stay first qs d high
    ]

with_end_long : (number : ℕ) (qs : List Parameter) (d : ChannelEnd) → length (with_end number qs d) ≡ length qs
with_end_long number [] d = refl
with_end_long number (q ∷ qs) d = ap suc (with_end_long (suc number) qs d)

-- only ends of the parameters count
fold_kept : (first : ℕ) (ds : List ChannelEnd) (qs : List Parameter) (count : ℕ) → count ≡ length qs
    → fold (with_end first) qs (kept first count ds) ≡ fold (with_end first) qs ds
fold_kept first [] qs count long = refl
fold_kept first (d ∷ ds) qs count long =
    (elim (is_parameter first count d.channel) as (λ t. is_parameter first count d.channel ≡ t
    → fold (with_end first) qs (cond t (d ∷ kept first count ds) (kept first count ds))
    ≡ fold (with_end first) (with_end first qs d) ds) [
      | true ↦ λ e. fold_kept first ds (with_end first qs d) count (long ∙ sym (with_end_long first qs d))
      | false ↦ λ e. fold_kept first ds qs count long
          ∙ ap (λ rs. fold (with_end first) rs ds)
          (sym (stays first qs d (ap (λ n. is_parameter first n d.channel) (sym long) ∙ e)))
    ]) refl

pub parameters_pushed : (first count : ℕ) (qs : List Parameter) (us : List Use) → count ≡ length qs
    → fold (with_end first) qs (sorted_ends (of_parameters first count us))
    ≡ fold (with_end first) qs (sorted_ends us)
parameters_pushed first count qs us long =
    ap (fold (with_end first) qs) (sym (parameters_kept first count us))
    ∙ fold_kept first (sorted_ends us) qs count long
