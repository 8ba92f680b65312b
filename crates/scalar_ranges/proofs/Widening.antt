-- A loop that widens one variable after another widens them all.
use Rattle.std.proofs.Common.{◌≡◌, ℕ, suc, ◌<◌, Bool, true, false, cond, List, [], ◌∷◌, ◌++◌, length, take, get_or}
use Rattle.std.proofs.Common.{◌+◌, Option, Some, refl, sym, ap, arith, ◌∙◌, nat_eq}
use Rattle.std.proofs.lemmas.List.{take_more}
use Rattle.std.proofs.lemmas.Bool.Decides.{nat_tests}
use Rattle.small_laws.proofs.Comparisons.{eqb_comm}
use Rattle.scalar_ranges.specs.declared.scope.ScalarKind.TheVariants as kinds
use Rattle.scalar_ranges.specs.Entries.{Meaning, Constant, Scalar, Array, Channel, Channels, Procedure, Entry}
use Rattle.scalar_ranges.specs.Moves.{at_number, with_meaning, widened, is_one_of, widened_if, widen}
use Rattle.scalar_ranges.specs.MoveLaws.{meaning_at}
use Rattle.scalar_ranges.proofs.Rows.{none_at}

widen_long : (ns : List ℕ) (es : List Entry) → length (widen ns es) ≡ length es
widen_long ns [] = refl
widen_long ns (e ∷ es) = ap suc (widen_long ns es)

twice : (m : Meaning) → widened (widened m) ≡ widened m
twice (Scalar kinds.Variable type r) = refl
twice (Scalar kinds.Value type r) = refl
twice (Scalar kinds.Reference type r) = refl
twice (Scalar kinds.Index type r) = refl
twice (Constant type value) = refl
twice (Array kind type size r) = refl
twice (Channel type) = refl
twice (Channels type size) = refl
twice (Procedure number) = refl

pub last_by : (t : Bool) → cond t true false ≡ t
last_by true = refl
last_by false = refl

more_by : (t : Bool) (ms : List ℕ) (n k : ℕ)
    → is_one_of (ms ++ n ∷ []) k ≡ cond (is_one_of ms k) true (nat_eq n k)
    → cond t true (is_one_of (ms ++ n ∷ []) k) ≡ cond (cond t true (is_one_of ms k)) true (nat_eq n k)
more_by true ms n k h = refl
more_by false ms n k h = h

pub one_more : (ns : List ℕ) (n k : ℕ) → is_one_of (ns ++ n ∷ []) k ≡ cond (is_one_of ns k) true (nat_eq n k)
one_more [] n k = last_by (nat_eq n k)
one_more (m ∷ ms) n k = more_by (nat_eq m k) ms n k (one_more ms n k)

widen_here : (t : Bool) (e : Entry) → with_meaning widened (widened_if t e) ≡ widened_if true e
widen_here true e = ap (λ m. record { name = e.name; meaning = m }) (twice e.meaning)
widen_here false e = refl

widen_by : (s t : Bool) (n : ℕ) (e : Entry) (es ws us : List Entry)
    → (t ≡ true → at_number (with_meaning widened) n ws ≡ ws)
    → at_number (with_meaning widened) n ws ≡ us
    → cond t (with_meaning widened (widened_if s e) ∷ ws) (widened_if s e ∷ at_number (with_meaning widened) n ws)
    ≡ widened_if (cond s true t) e ∷ us
widen_by true true n e es ws us none h = λ i. widen_here true e i ∷ (sym (none refl) ∙ h) i
widen_by false true n e es ws us none h = λ i. widen_here false e i ∷ (sym (none refl) ∙ h) i
widen_by true false n e es ws us none h = ap (λ ks. widened_if true e ∷ ks) h
widen_by false false n e es ws us none h = ap (λ ks. widened_if false e ∷ ks) h

pub widen_one : (ns : List ℕ) (n : ℕ) (es : List Entry)
    → at_number (with_meaning widened) n (widen ns es) ≡ widen (ns ++ n ∷ []) es
widen_one ns n [] = refl
widen_one ns n (e ∷ es) =
    let k = length es in
    let s = is_one_of ns k in
    let long = widen_long ns es in
    let none : nat_eq n k ≡ true → at_number (with_meaning widened) n (widen ns es) ≡ widen ns es =
    λ h. none_at (with_meaning widened) n (widen ns es) (grind (arith, nat_tests)) in
    ap (λ t. cond t (with_meaning widened (widened_if s e) ∷ widen ns es)
    (widened_if s e ∷ at_number (with_meaning widened) n (widen ns es))) (ap (λ a. nat_eq a n) long ∙ eqb_comm k n)
    ∙ widen_by s (nat_eq n k) n e es (widen ns es) (widen (ns ++ n ∷ []) es) none (widen_one ns n es)
    ∙ ap (λ t. widened_if t e ∷ widen (ns ++ n ∷ []) es) (sym (one_more ns n k))

pub widen_none : (es : List Entry) → es ≡ widen [] es
widen_none [] = refl
widen_none (e ∷ es) = ap (λ ks. e ∷ ks) (widen_none es)

pub widen_step : (numbers : List ℕ) (i : ℕ) (es before after : List Entry) → i < length numbers
    → before ≡ widen (take i numbers) es → after ≡ at_number (with_meaning widened) (get_or numbers i 0) before
    → after ≡ widen (take (i + 1) numbers) es
widen_step numbers i es before after less b a =
    a ∙ ap (at_number (with_meaning widened) (get_or numbers i 0)) b
    ∙ widen_one (take i numbers) (get_or numbers i 0) es
    ∙ ap (λ ns. widen ns es) (sym (take_more numbers i 0 less))

-- ---- what stays

still_by : (f : Meaning → Meaning) (t : Bool) (m : Meaning) (e : Entry) (es more : List Entry) (o : Option Meaning)
    → cond t (Some e.meaning) o ≡ Some m → f m ≡ m → (o ≡ Some m → more ≡ es)
    → cond t (with_meaning f e ∷ es) (e ∷ more) ≡ e ∷ es
still_by f true m e es more o is stays further =
    let same : e.meaning ≡ m = cc in
    λ i. record { name = e.name; meaning = (ap f same ∙ stays ∙ sym same) i } ∷ es
still_by f false m e es more o is stays further = ap (λ es. e ∷ es) (further is)

-- An entry that keeps its meaning stays as it is.
pub still : (f : Meaning → Meaning) (n : ℕ) (m : Meaning) (es : List Entry) → meaning_at n es ≡ Some m → f m ≡ m
    → at_number (with_meaning f) n es ≡ es
still f n m [] is stays = refl
still f n m (e ∷ es) is stays =
    still_by f (nat_eq (length es) n) m e es (at_number (with_meaning f) n es) (meaning_at n es) is stays
    (λ h. still f n m es h stays)

-- Widening a variable of which no more is known than its type changes nothing.
pub widened_still : (n : ℕ) (m : Meaning) (es : List Entry) → meaning_at n es ≡ Some m → widened m ≡ m
    → at_number (with_meaning widened) n es ≡ es
widened_still n m es is wide = still widened n m es is wide
