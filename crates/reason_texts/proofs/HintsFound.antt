-- A row of a table that is found by the bytes of its word.
use Rattle.std.proofs.Common.{◌≡◌, ℕ, Bool, true, false, cond, List, [], ◌∷◌, map, Option, Some, None, refl, sym, ap, ◌∙◌}
use Rattle.std.specs.Prelude.{bytes_eq, option_map}
use Rattle.std.specs.List.{find}
use Rattle.std.specs.Borrow.{Bor}
use Rattle.reason_texts.specs.Blocks.{Text}
use Rattle.reason_texts.specs.Hints.{row_of, lacked_words, word_hint}

mapped : {A B : Type 0} (f : A → B) (b : Bool) (x : A) (found : Option A)
    → cond b (Some (f x)) (option_map f found) ≡ option_map f (cond b (Some x) found)
mapped f true x found = refl
mapped f false x found = refl

-- what is found among images is the image of what is found
find_image : {A B : Type 0} (f : A → B) (p : B → Bool) (xs : List A)
    → find p (map f xs) ≡ option_map f (find (λ x. p (f x)) xs)
find_image f p [] = refl
find_image f p (x ∷ xs) = ap (cond (p (f x)) (Some (f x))) (find_image f p xs) ∙ mapped f (p (f x)) x _

hint_of : (found : Option (Bor Text × Bor Text))
    → option_map (λ (r : Text × Text). r.1) (option_map row_of found)
    ≡ option_map (λ (r : Bor Text × Bor Text). r.1.now) found
hint_of None = refl
hint_of (Some r) = refl

-- the hint of a row is that of its word
pub hinted : (word : List ℕ) (rows : List (Bor Text × Bor Text)) (found : Option (Bor Text × Bor Text))
    → map row_of rows ≡ lacked_words → found ≡ find (λ r. bytes_eq word r.0.now) rows
    → option_map (λ (r : Bor Text × Bor Text). r.1.now) found ≡ word_hint word
unfolding word_hint
hinted word rows found is_table is_found =
    rw is_found (sym (hint_of (find (λ r. bytes_eq word r.0.now) rows))
    ∙ ap (option_map (λ (r : Text × Text). r.1)) (sym (find_image row_of (λ r. bytes_eq word r.0) rows))
    ∙ ap (λ table. option_map (λ (r : Text × Text). r.1) (find (λ r. bytes_eq word r.0) table)) is_table)
