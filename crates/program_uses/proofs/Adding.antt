-- What a set of uses has after one use more, after several in turn, and after a loop.
use Rattle.std.proofs.Common.{◌≡◌, ℕ, suc, ◌+◌, ◌<◌, ◌≤◌, true, false, ◌&&◌, ◌||◌, List, [], ◌∷◌, ◌++◌}
use Rattle.std.proofs.Common.{length, take, get_or, refl, sym, ap, subst, ◌∙◌, arith, append_assoc}
use Rattle.std.proofs.Common.{add-zero}
use Rattle.std.proofs.lemmas.List.{take_more, take_all, length-take, append-nil}
use Rattle.std.proofs.Math.Bool.{or_assoc, or-false}
use Rattle.small_laws.proofs.Comparisons.{eqb_comm}
use Rattle.program_uses.specs.declared.uses.Direction.{Direction}
use Rattle.program_uses.specs.declared.uses.Direction.TheVariants as direction
use Rattle.program_uses.specs.declared.uses.Use.{Use}
use Rattle.program_uses.specs.declared.uses.Use.TheVariants as used
use Rattle.program_uses.specs.declared.uses.Uses.{Uses}
use Rattle.program_uses.specs.Sets.{is_same_way, is_same, is_among, has, Adds}

flips_way : (d e : Direction) → is_same_way d e ≡ is_same_way e d
flips_way direction.Input direction.Input = refl
flips_way direction.Input direction.Output = refl
flips_way direction.Output direction.Input = refl
flips_way direction.Output direction.Output = refl

pub flips : (u v : Use) → is_same u v ≡ is_same v u
flips (used.Read m) (used.Read n) = eqb_comm m n
flips (used.Read m) (used.Change n) = refl
flips (used.Read m) (used.Channel n j e) = refl
flips (used.Change m) (used.Read n) = refl
flips (used.Change m) (used.Change n) = eqb_comm m n
flips (used.Change m) (used.Channel n j e) = refl
flips (used.Channel m i d) (used.Read n) = refl
flips (used.Channel m i d) (used.Change n) = refl
flips (used.Channel m i d) (used.Channel n j e) =
    λ k. eqb_comm m n k && (eqb_comm i j k && flips_way d e k)

-- ---- tests that are joined

pub among_both : (us vs : List Use) (u : Use) → is_among (us ++ vs) u ≡ (is_among us u || is_among vs u)
among_both [] vs u = refl
among_both (w ∷ us) vs u =
    ap (λ t. is_same u w || t) (among_both us vs u) ∙ sym (or_assoc (is_same u w) (is_among us u) (is_among vs u))

-- ---- sets

pub adds_none : (s : Uses) → Adds s s []
adds_none s = record { complete = λ e. e; has = λ e u. sym (or-false (has s u)) }

pub adds_both : {s t w : Uses} {us vs : List Use} → Adds s t us → Adds t w vs → Adds s w (us ++ vs)
adds_both {s = s} {us = us} {vs = vs} a b = record {
  complete = λ e. a.complete (b.complete e);
  has = λ e u. b.has e u ∙ ap (λ k. k || is_among vs u) (a.has (b.complete e) u)
      ∙ or_assoc (has s u) (is_among us u) (is_among vs u) ∙ ap (λ k. has s u || k) (sym (among_both us vs u));
}

pub adds_as : {s t : Uses} {us vs : List Use} → us ≡ vs → Adds s t us → Adds s t vs
adds_as {s = s} {t = t} e a = subst (Adds s t) e a

-- a set that began with nothing
pub has_exactly : {s t : Uses} {us : List Use} → ((u : Use) → has s u ≡ false) → Adds s t us → t.complete ≡ true
    → has t ≡ is_among us
has_exactly {us = us} nothing a complete = λ i u. (a.has complete u ∙ ap (λ b. b || is_among us u) (nothing u)) i

-- ---- loops

-- what is gathered of the items of a list, each by its place, which are counted from a number on
unfoldable pub gathered : {A B : Type 0} → (ℕ → A → List B) → ℕ → List A → List B
gathered f n [] = []
gathered f n (x ∷ xs) = f n x ++ gathered f (suc n) xs

gathered_last : {A B : Type 0} (f : ℕ → A → List B) (n : ℕ) (xs : List A) (x : A)
    → gathered f n (xs ++ x ∷ []) ≡ gathered f n xs ++ f (n + length xs) x
unfolding gathered
gathered_last f n [] x = append-nil (f n x) ∙ ap (λ k. f k x) (sym (add-zero n))
gathered_last f n (y ∷ xs) x =
    ap (λ us. f n y ++ us) (gathered_last f (suc n) xs x)
    ∙ sym (append_assoc (f n y) (gathered f (suc n) xs) (f (suc n + length xs) x))
    ∙ ap (λ k. (f n y ++ gathered f (suc n) xs) ++ f k x) (omega arith)

pub taken_one : {A : Type 0} (xs : List A) (i : ℕ) (x d : A) → i < length xs → x ≡ get_or xs i d
    → take (i + 1) xs ≡ take i xs ++ x ∷ []
taken_one xs i x d h is = take_more xs i d h ∙ ap (λ y. take i xs ++ y ∷ []) (sym is)

pub gathered_next : {A B : Type 0} (f : ℕ → A → List B) (xs : List A) (i : ℕ) (x d : A) → i < length xs
    → x ≡ get_or xs i d → gathered f 0 (take i xs) ++ f i x ≡ gathered f 0 (take (i + 1) xs)
gathered_next f xs i x d h is =
    let many : 0 + length (take i xs) ≡ i = simp length-take (omega arith) in
    ap (λ k. gathered f 0 (take i xs) ++ f k x) (sym many) ∙ sym (gathered_last f 0 (take i xs) x)
    ∙ ap (gathered f 0) (sym (taken_one xs i x d h is))

pub gathers_none : {A : Type 0} (f : ℕ → A → List Use) (s : Uses) → Adds s s (gathered f 0 [])
unfolding gathered
gathers_none f s = adds_none s

-- x is the item with the number i, whatever the default is where there is none
pub gathers_next : {A : Type 0} (f : ℕ → A → List Use) (xs : List A) (i : ℕ) (x d : A) {s t w : Uses} → i < length xs
    → x ≡ get_or xs i d → Adds s t (gathered f 0 (take i xs)) → Adds t w (f i x)
    → Adds s w (gathered f 0 (take (i + 1) xs))
gathers_next f xs i x d h is a b = adds_as (gathered_next f xs i x d h is) (adds_both a b)

pub gathers_all : {A : Type 0} (f : ℕ → A → List Use) (xs : List A) (i : ℕ) {s t : Uses} → length xs ≤ i
    → Adds s t (gathered f 0 (take i xs)) → Adds s t (gathered f 0 xs)
gathers_all f xs i h a = adds_as (ap (gathered f 0) (take_all i xs h)) a

pub gathered_same : {A B : Type 0} (f : ℕ → A → List B) (n : ℕ) (xs : List A)
    → gathered f (suc n) xs ≡ gathered (λ k x. f (suc k) x) n xs
unfolding gathered
gathered_same f n [] = refl
gathered_same f n (x ∷ xs) = ap (λ us. f (suc n) x ++ us) (gathered_same f (suc n) xs)
