-- Names of one line that are gone over one after the other.
use Rattle.std.proofs.Common.{◌≡◌, ℕ, ◌+◌, ◌<◌, ◌≤◌, List, [], ◌∷◌, ◌++◌, length, map, take, drop, get_or, Bor}
use Rattle.std.proofs.Common.{sym}
use Rattle.std.proofs.Common.{ap, ◌∙◌}
use Rattle.std.proofs.lemmas.List.{append_assoc, map_push, at_drop_more, at_drop_all, take_all}
use Rattle.occam_parser.specs.LineViews.{spelling_of}
use Rattle.program_uses.proofs.Adding.{taken_one}
use Rattle.line_pieces.specs.Declarations.{Frame, with_words, with_names}

abbrev pub Names : Type 0
Names = List (Bor (List ℕ))

nobody : Bor (List ℕ)
nobody = record { ref_ptr = (0, 0); now = [] }

-- ---- words

pub words_next : (count : ℕ) (names : Names) (i : ℕ) (start before after : Frame) → i < length names
    → with_names count (map spelling_of (drop i names)) before ≡ start → after ≡ with_words count before
    → with_names count (map spelling_of (drop (i + 1) names)) after ≡ start
words_next count names i start before after h b a =
    let step : with_names count (map spelling_of (drop i names)) before
    ≡ with_names count (map spelling_of (drop (i + 1) names)) (with_words count before) =
    at_drop_more (λ (ns : Names). with_names count (map spelling_of ns) before) names i nobody h in
    ap (with_names count (map spelling_of (drop (i + 1) names))) a ∙ sym step ∙ b

pub words_done : (count : ℕ) (names : Names) (i : ℕ) (start after : Frame) → length names ≤ i
    → with_names count (map spelling_of (drop i names)) after ≡ start → after ≡ start
words_done count names i start after h a =
    let none : with_names count (map spelling_of (drop i names)) after ≡ after =
    at_drop_all (λ (ns : Names). with_names count (map spelling_of ns) after) names i h in
    sym none ∙ a

-- ---- values of items

pub values_next : {A B C : Type 0} (f : B → C) (g : A → B) (xs : List A) (i : ℕ) (x : A) (start before after : List C)
    → i < length xs → x ≡ get_or xs i x → before ≡ start ++ map f (map g (take i xs)) → after ≡ before ++ f (g x) ∷ []
    → after ≡ start ++ map f (map g (take (i + 1) xs))
values_next f g xs i x start before after h is b a =
    a ∙ ap (λ l. l ++ f (g x) ∷ []) b ∙ append_assoc start (map f (map g (take i xs))) (f (g x) ∷ [])
    ∙ ap (λ l. start ++ l)
    (sym (ap (map f) (ap (map g) (taken_one xs i x x h is) ∙ map_push g (take i xs) x)
    ∙ map_push f (map g (take i xs)) (g x)))

pub values_done : {A B C : Type 0} (f : B → C) (g : A → B) (xs : List A) (i : ℕ) (start after : List C)
    → length xs ≤ i → after ≡ start ++ map f (map g (take i xs)) → after ≡ start ++ map f (map g xs)
values_done f g xs i start after h a = a ∙ ap (λ ys. start ++ map f (map g ys)) (take_all i xs h)
