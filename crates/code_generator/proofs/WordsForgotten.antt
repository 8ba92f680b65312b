-- Nothing is known of the words of all targets, whether they are gone over one after another or all at once.
use Rattle.std.proofs.Common.{◌≡◌, ℕ, ◌+◌, ◌<◌, suc, Bool, true, false, List, [], ◌∷◌, length, map, drop, get_or}
use Rattle.std.proofs.Common.{◌||◌, if◌then◌else◌, nat_eq, refl, sym, ap, arith, ◌∙◌, ◌++◌, append_assoc}
use Rattle.std.proofs.Common.{◌≤◌, Result, Ok, Err, IfOk, Vec, Global}
use Rattle.std.proofs.lemmas.Bool.Decides.{nat_tests}
use Rattle.std.proofs.lemmas.List.{at_drop_more, at_drop_all}
use Rattle.word_arithmetic.specs.Range.{full}
use Rattle.occam_parser.specs.declared.tree.Expr.{Expr}
use Rattle.occam_parser.specs.Views.{expression_of}
use Rattle.scalar_ranges.specs.Entries.{Entry}
use Rattle.program_uses.specs.Signatures.{Parameter}
use Rattle.code_pieces.specs.declared.piece.RowEntry.{RowEntry}
use Rattle.line_pieces.specs.Homes.{Home, is_in}
use Rattle.line_pieces.specs.Actions.{Target, NoTarget, OwnWord, KnownElement, OtherElement}
use Rattle.code_generator.specs.Instances.{meaning_at, passed_target, unknown_at, unknown_in, with_target, forgotten}
use Rattle.code_generator.specs.Instances.{all_forgotten}

-- one word more, at an entry whose word is that one or is not
one_more : (w : ℕ) (r : RowEntry) (same here : Bool) → nat_eq r.word w ≡ same
    → (if same || here then is_in r.word 1 full else r) ≡ unknown_at w (if here then is_in r.word 1 full else r)
one_more w r true true h = grind (arith, nat_tests)
one_more w r true false h = grind (arith, nat_tests)
one_more w r false true h = grind (arith, nat_tests)
one_more w r false false h = grind (arith, nat_tests)

at_word : (w : ℕ) (old new : ℕ → Bool) → ((v : ℕ) → new v ≡ (nat_eq v w || old v)) → (r : RowEntry)
    → unknown_in new r ≡ unknown_at w (unknown_in old r)
at_word w old new more r =
    ap (λ b. if b then is_in r.word 1 full else r) (more r.word)
    ∙ one_more w r (nat_eq r.word w) (old r.word) refl

at_words : (w : ℕ) (old new : ℕ → Bool) → ((v : ℕ) → new v ≡ (nat_eq v w || old v)) → (rs : List RowEntry)
    → map (unknown_in new) rs ≡ map (unknown_at w) (map (unknown_in old) rs)
at_words w old new more [] = refl
at_words w old new more (r ∷ rs) =
    ap (λ q. q ∷ map (unknown_in new) rs) (at_word w old new more r)
    ∙ ap (λ qs. unknown_at w (unknown_in old r) ∷ qs) (at_words w old new more rs)

-- no word more
at_none : (old new : ℕ → Bool) → ((v : ℕ) → new v ≡ old v) → (rs : List RowEntry)
    → map (unknown_in new) rs ≡ map (unknown_in old) rs
at_none old new same [] = refl
at_none old new same (r ∷ rs) =
    ap (λ q. q ∷ map (unknown_in new) rs) (ap (λ b. if b then is_in r.word 1 full else r) (same r.word))
    ∙ ap (λ qs. unknown_in old r ∷ qs) (at_none old new same rs)

one_target : (t : Target) (old new : ℕ → Bool) → ((v : ℕ) → new v ≡ with_target t old v) → (rs : List RowEntry)
    → map (unknown_in new) rs ≡ forgotten t (map (unknown_in old) rs)
one_target NoTarget old new more rs = at_none old new more rs
one_target (OwnWord type w) old new more rs = at_words w old new more rs
one_target (KnownElement type w n) old new more rs = at_none old new more rs
one_target (OtherElement type w s) old new more rs = at_none old new more rs

-- one entry more
pub next_mapped : {A B : Type 0} (f : A → B) (xs : List A) (i : ℕ) (d : A) (known more : List B) (y : B)
    → i < length xs → y ≡ f (get_or xs i d) → more ≡ known ++ y ∷ [] → known ++ map f (drop i xs) ≡ map f xs
    → more ++ map f (drop (i + 1) xs) ≡ map f xs
next_mapped f xs i d known more y less is pushed before =
    ap (λ zs. zs ++ map f (drop (i + 1) xs)) pushed
    ∙ append_assoc known (y ∷ []) (map f (drop (i + 1) xs))
    ∙ ap (λ z. known ++ z ∷ map f (drop (i + 1) xs)) is
    ∙ ap (λ zs. known ++ zs) (sym (at_drop_more (map f) xs i d less))
    ∙ before

-- no words
pub forgets_none : (words : ℕ → Bool) → ((v : ℕ) → words v ≡ false) → (rs : List RowEntry)
    → map (unknown_in words) rs ≡ rs
forgets_none words none [] = refl
forgets_none words none (r ∷ rs) =
    ap (λ q. q ∷ map (unknown_in words) rs) (ap (λ b. if b then is_in r.word 1 full else r) (none r.word))
    ∙ ap (λ qs. r ∷ qs) (forgets_none words none rs)

-- the target of one actual more
pub forgets_next : (hs : List Home) (es : List Entry) (t : ℕ) (qs : List Parameter) (xs : List Expr) (i : ℕ) (x : Expr)
    (old new : ℕ → Bool) (rs all : List RowEntry) → i < length xs → x ≡ get_or xs i x
    → ((v : ℕ) → new v ≡ with_target (passed_target hs es t (meaning_at i qs) (expression_of x)) old v)
    → all_forgotten hs es t qs i (map expression_of (drop i xs)) (map (unknown_in old) rs) ≡ all
    → all_forgotten hs es t qs (i + 1) (map expression_of (drop (i + 1) xs)) (map (unknown_in new) rs) ≡ all
forgets_next hs es t qs xs i x old new rs all less is more before =
    let rest = map expression_of (drop (i + 1) xs) in
    let target = passed_target hs es t (meaning_at i qs) (expression_of x) in
    let one : i + 1 ≡ suc i = omega arith in
    ap (all_forgotten hs es t qs (i + 1) rest) (one_target target old new more rs)
    ∙ ap (λ n. all_forgotten hs es t qs n rest (forgotten target (map (unknown_in old) rs))) one
    ∙ ap (λ y. all_forgotten hs es t qs i (expression_of y ∷ rest) (map (unknown_in old) rs)) is
    ∙ sym (at_drop_more (λ ys. all_forgotten hs es t qs i (map expression_of ys) (map (unknown_in old) rs)) xs i x less)
    ∙ before

-- the targets of all actuals
pub forgets_all : {F : Type 0} (hs : List Home) (es : List Entry) (t : ℕ) (qs : List Parameter) (xs : List Expr) (i : ℕ)
    (words : ℕ → Bool) (rs ss all : List RowEntry) (found : Result (Vec RowEntry Global) F) → length xs ≤ i → ss ≡ rs
    → IfOk found (λ known. known.items ≡ map (unknown_in words) ss)
    → all_forgotten hs es t qs i (map expression_of (drop i xs)) (map (unknown_in words) rs) ≡ all
    → IfOk found (λ known. known.items ≡ all)
forgets_all hs es t qs xs i words rs ss all (Err e) done same is last = tt
forgets_all hs es t qs xs i words rs ss all (Ok known) done same is last =
    is ∙ ap (map (unknown_in words)) same
    ∙ sym (at_drop_all (λ ys. all_forgotten hs es t qs i (map expression_of ys) (map (unknown_in words) rs)) xs i done)
    ∙ last
