-- One item more of those that are gone over one after another.
use Rattle.std.proofs.Common.{◌≡◌, ℕ, ◌+◌, ◌<◌, List, [], ◌∷◌, ◌++◌, length, map, take, get_or, refl, sym, ap}
use Rattle.std.proofs.Common.{◌∙◌}
use Rattle.std.proofs.lemmas.List.{map-append, get_or-map}
use Rattle.program_uses.specs.InTurn.{in_turn}
use Rattle.program_uses.proofs.Adding.{taken_one}

pub seen_more : {A B : Type 0} (view : A → B) (xs : List A) (i : ℕ) (x d : A) → i < length xs → x ≡ get_or xs i d
    → map view (take i xs) ++ view x ∷ [] ≡ map view (take (i + 1) xs)
seen_more view xs i x d h is =
    sym (ap (map view) (taken_one xs i x d h is) ∙ map-append view (take i xs) (x ∷ []))

-- two lists that are seen alike are so item by item
pub same_at : {A B C : Type 0} (f : A → C) (g : B → C) (xs : List A) (ys : List B) (i : ℕ) (x : A) (y : B)
    → map f xs ≡ map g ys → i < length xs → x ≡ get_or xs i x → i < length ys → y ≡ get_or ys i y → f x ≡ g y
same_at f g xs ys i x y same h is j at =
    ap f is ∙ sym (get_or-map f xs i x (f x) h) ∙ ap (λ zs. get_or zs i (f x)) same ∙ get_or-map g ys i y (f x) j
    ∙ ap g (sym at)

pub last_in_turn : {A S : Type 0} (step : A → S → S) (xs : List A) (x : A) (s : S)
    → in_turn step (xs ++ x ∷ []) s ≡ step x (in_turn step xs s)
last_in_turn step [] x s = refl
last_in_turn step (y ∷ xs) x s = last_in_turn step xs x (step y s)

pub next_in_turn : {A B S : Type 0} (step : B → S → S) (view : A → B) (xs : List A) (i : ℕ) (x d : A) (s : S)
    → i < length xs → x ≡ get_or xs i d
    → step (view x) (in_turn step (map view (take i xs)) s) ≡ in_turn step (map view (take (i + 1) xs)) s
next_in_turn step view xs i x d s h is =
    sym (last_in_turn step (map view (take i xs)) (view x) s)
    ∙ ap (λ ys. in_turn step ys s) (seen_more view xs i x d h is)
