-- Reading one thing after the other, as a loop does.
use Rattle.std.proofs.Common.{◌≡◌, List, [], ◌∷◌, ◌++◌, Result, Ok, Err, refl, sym, ap, ◌∙◌, append_assoc}
use Rattle.std.proofs.lemmas.List.{append-nil}
use Rattle.occam_layout.specs.Reading.{◌>>=◌}

-- what was read before, and what is still read
abbrev pub with_front : {A E : Type 0} → List A → Result (List A) E → Result (List A) E
with_front front read = read >>= λ xs. Ok (front ++ xs)

-- one more
regroup : {A E : Type 0} (front : List A) (x : A) (others : Result (List A) E)
    → with_front front (others >>= λ xs. Ok (x ∷ xs)) ≡ with_front (front ++ x ∷ []) others
regroup front x (Ok xs) = ap Ok (sym (append_assoc front (x ∷ []) xs))
regroup front x (Err e) = refl

pub goes_on : {A E : Type 0} (front : List A) (x : A) (now others total : Result (List A) E)
    → now ≡ (others >>= λ xs. Ok (x ∷ xs)) → with_front front now ≡ total
    → with_front (front ++ x ∷ []) others ≡ total
goes_on front x now others total is_now so_far =
    sym (regroup front x others) ∙ ap (with_front front) (sym is_now) ∙ so_far

pub is_done : {A E : Type 0} (front : List A) (now total : Result (List A) E) → now ≡ Ok []
    → with_front front now ≡ total → total ≡ Ok front
is_done front now total is_now so_far = sym so_far ∙ ap (with_front front) is_now ∙ ap Ok (append-nil front)

pub fails : {A E : Type 0} (front : List A) (e : E) (now total : Result (List A) E) → now ≡ Err e
    → with_front front now ≡ total → total ≡ Err e
fails front e now total is_now so_far = sym so_far ∙ ap (with_front front) is_now

-- what was read first where all was read, and what was read then
pub bind_ok : {A B E : Type 0} (r : Result A E) (f : A → Result B E) (y : B) → (r >>= f) ≡ Ok y
    → (x : A) × (r ≡ Ok x) × (f x ≡ Ok y)
bind_ok (Ok x) f y e = (x, refl, e)
bind_ok (Err d) f y e = absurd (cc e)

abbrev done : {A : Type 0} → (E : Type 0) → A → Result A E
done E x = Ok x

pub ok_is : {A : Type 0} (E : Type 0) (x y : A) → done E x ≡ done E y → x ≡ y
ok_is E x y e = cc
