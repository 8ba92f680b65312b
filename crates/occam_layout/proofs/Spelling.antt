-- A word is looked for only among the keywords of its length.
use Rattle.std.proofs.Common.{◌≡◌, ℕ, suc, Bool, true, false, cond, eqb, List, [], ◌∷◌, length, refl, ap, subst, ◌∙◌}
use Rattle.std.specs.Prelude.{bytes_eq, filter, ◌||◌, ◌&&◌, ◌==◌}
use Rattle.std.specs.List.{list_any}
use Rattle.std.proofs.lemmas.Bool.{eqb-false}
use Rattle.std.proofs.Math.Bool.{and-false}
use Rattle.occam_layout.specs.Kind.{keyword_among}

pub bytes_eq-longer : (text word : List ℕ) → (length word ≡ length text → ⊥) → bytes_eq text word ≡ false
bytes_eq-longer [] [] h = absurd (h refl)
bytes_eq-longer [] (w ∷ word) h = refl
bytes_eq-longer (t ∷ text) [] h = refl
bytes_eq-longer (t ∷ text) (w ∷ word) h = ap (λ b. eqb t w && b)
    (bytes_eq-longer text word (λ e. h (ap suc e))) ∙ and-false (eqb t w)

any_but_one : (b : Bool) (text word : List ℕ) (some all : List (List ℕ)) → (b ≡ false → bytes_eq text word ≡ false)
    → list_any (bytes_eq text) some ≡ list_any (bytes_eq text) all
    → list_any (bytes_eq text) (cond b (word ∷ some) some) ≡ (bytes_eq text word || list_any (bytes_eq text) all)
any_but_one true text word some all h e = ap (λ found. bytes_eq text word || found) e
any_but_one false text word some all h e = rw (h refl) e

list_any-filter : (text : List ℕ) (words : List (List ℕ))
    → list_any (bytes_eq text) (filter (λ word. length word == length text) words) ≡ list_any (bytes_eq text) words
list_any-filter text [] = refl
list_any-filter text (word ∷ words) = any_but_one (eqb (length word) (length text)) text word _ words
    (λ e. bytes_eq-longer text word (eqb-false _ _ e)) (list_any-filter text words)

pub among_its_length : (text : List ℕ) (n : ℕ) (words : List (List ℕ)) → length text ≡ n
    → keyword_among (filter (λ word. length word == n) words) text ≡ keyword_among words text
among_its_length text n words e = subst (λ (k : ℕ). keyword_among (filter (λ word. length word == k) words)
    text ≡ keyword_among words text) e (rw (list_any-filter text words) refl)
