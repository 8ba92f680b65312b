-- What is passed twice is found by a set of what was passed so far.
use Rattle.std.proofs.Common.{◌≡◌, ℕ, suc, ◌+◌, ◌<◌, ◌≤◌, Bool, true, false, not, ◌&&◌, ◌||◌, List, [], ◌∷◌, ◌++◌}
use Rattle.std.proofs.Common.{nat_eq, map, take, get_or, Option, None, inl, inr, refl, sym, ap, subst, ◌∙◌, ◌⊎◌, arith}
use Rattle.std.proofs.Common.{append_assoc, add-zero, length}
use Rattle.std.specs.List.{list_any}
use Rattle.std.proofs.lemmas.List.{append-nil, take_all, length-take, length-map}
use Rattle.std.proofs.Math.Bool.{and-true, or_assoc}
use Rattle.small_laws.proofs.Connectives.{or_swap}
use Rattle.occam_parser.specs.declared.tree.Expr.{Expr}
use Rattle.occam_parser.specs.Expressions.{Expression}
use Rattle.occam_parser.specs.Views.{expression_of}
use Rattle.scalar_ranges.specs.Entries.{Entry}
use Rattle.scalar_ranges.specs.Environments.{item_at}
use Rattle.program_uses.specs.declared.faults.TheConstants.{PASSED_TWICE}
use Rattle.program_uses.specs.declared.uses.Direction.TheVariants as direction
use Rattle.program_uses.specs.declared.uses.Use.{Use}
use Rattle.program_uses.specs.declared.uses.Use.TheVariants as used
use Rattle.program_uses.specs.declared.uses.Uses.{Uses}
use Rattle.program_uses.specs.Lowest.{IsLowest, lower, told_unless}
use Rattle.program_uses.specs.Sets.{is_among, has, Adds}
use Rattle.program_uses.specs.Signatures.{Parameter}
use Rattle.program_uses.proofs.Adding.{adds_none, adds_both, adds_as}
use Rattle.program_uses.proofs.Adding.{has_exactly}
use Rattle.program_uses.proofs.LowestOfBoth.{none_broken, lowest_of, lowest_as, lowest_at}
use Rattle.program_uses.proofs.NextInTurn.{seen_more}
use Rattle.usage_checks.specs.declared.handing.Handed.{Handed}
use Rattle.usage_checks.specs.declared.handing.Handed.TheVariants as handed
use Rattle.usage_checks.specs.Handing.{handed_by, handed_all, collide, IsAgain, AreAgain}
use Rattle.usage_checks.specs.Remembering.{remembered, all_remembered, is_again}

-- ---- the set

-- one thing more in the set
again_more : (h k : Handed) (us : List Use)
    → is_again (is_among (remembered k ++ us)) h ≡ (collide h k || is_again (is_among us) h)
again_more handed.Nothing handed.Nothing us = refl
again_more handed.Nothing (handed.Whole n) us = refl
again_more handed.Nothing (handed.Values n) us = refl
again_more handed.Nothing (handed.Element t) us = refl
again_more (handed.Whole m) handed.Nothing us = refl
again_more (handed.Whole m) (handed.Whole n) us =
    or_swap (is_among us (used.Read m)) (nat_eq m n) (is_among us (used.Change m))
again_more (handed.Whole m) (handed.Values n) us =
    or_assoc (nat_eq m n) (is_among us (used.Read m)) (is_among us (used.Change m))
again_more (handed.Whole m) (handed.Element t) us =
    or_assoc (nat_eq m t.channel) (is_among us (used.Read m)) (is_among us (used.Change m))
again_more (handed.Values m) handed.Nothing us = refl
again_more (handed.Values m) (handed.Whole n) us = refl
again_more (handed.Values m) (handed.Values n) us = refl
again_more (handed.Values m) (handed.Element t) us = refl
again_more (handed.Element s) handed.Nothing us = refl
again_more (handed.Element s) (handed.Whole n) us =
    or_assoc (nat_eq s.channel n) (is_among us (used.Change s.channel))
    (is_among us (used.Channel s.channel s.element direction.Input))
again_more (handed.Element s) (handed.Values n) us = refl
again_more (handed.Element s) (handed.Element t) us =
    let d = is_among us (used.Channel s.channel s.element direction.Input) in
    or_swap (is_among us (used.Change s.channel))
    (nat_eq s.channel t.channel && (nat_eq s.element t.element && true)) d
    ∙ ap (λ b. (nat_eq s.channel t.channel && b) || (is_among us (used.Change s.channel) || d))
    (and-true (nat_eq s.element t.element))

again_all : (h : Handed) (hs : List Handed) → is_again (is_among (all_remembered hs)) h ≡ list_any (collide h) hs
again_all handed.Nothing [] = refl
again_all (handed.Whole n) [] = refl
again_all (handed.Values n) [] = refl
again_all (handed.Element s) [] = refl
again_all h (k ∷ hs) = again_more h k (all_remembered hs) ∙ ap (λ b. collide h k || b) (again_all h hs)

-- ---- one actual more

remembered_last : (hs : List Handed) (h : Handed)
    → all_remembered (hs ++ h ∷ []) ≡ all_remembered hs ++ remembered h
remembered_last [] h = append-nil (remembered h)
remembered_last (k ∷ hs) h =
    ap (λ us. remembered k ++ us) (remembered_last hs h)
    ∙ sym (append_assoc (remembered k) (all_remembered hs) (remembered h))

handed_last : (es : List Entry) (qs : List Parameter) (i : ℕ) (xs : List Expression) (x : Expression)
    → handed_all es qs i (xs ++ x ∷ []) ≡ handed_all es qs i xs ++ handed_by es (item_at (i + length xs) qs) x ∷ []
handed_last es qs i [] x = ap (λ k. handed_by es (item_at k qs) x ∷ []) (sym (add-zero i))
handed_last es qs i (y ∷ xs) x =
    let place : suc i + length xs ≡ i + length (y ∷ xs) = omega arith in
    ap (λ hs. handed_by es (item_at i qs) y ∷ hs) (handed_last es qs (suc i) xs x
    ∙ ap (λ k. handed_all es qs (suc i) xs ++ handed_by es (item_at k qs) x ∷ []) place)

again_before : (before hs : List Handed) (h : Handed) (n : ℕ) → AreAgain before (hs ++ h ∷ []) n
    → AreAgain before hs n ⊎ IsAgain (before ++ hs) h n
again_before before [] h n (inl x) = inr (subst (λ k. IsAgain k h n) (sym (append-nil before)) x)
again_before before [] h n (inr x) = absurd x
again_before before (k ∷ hs) h n (inl x) = inl (inl x)
again_before before (k ∷ hs) h n (inr x) =
    elim (again_before (before ++ k ∷ []) hs h n x) [
      | inl y ↦ inl (inr y)
      | inr y ↦ inr (subst (λ b. IsAgain b h n) (append_assoc before (k ∷ []) hs) y)
    ]

again_last : (before hs : List Handed) (h : Handed) (n : ℕ) → AreAgain before hs n ⊎ IsAgain (before ++ hs) h n
    → AreAgain before (hs ++ h ∷ []) n
again_last before [] h n (inl x) = absurd x
again_last before [] h n (inr x) = inl (subst (λ k. IsAgain k h n) (append-nil before) x)
again_last before (k ∷ hs) h n (inl (inl x)) = inl x
again_last before (k ∷ hs) h n (inl (inr x)) = inr (again_last (before ++ k ∷ []) hs h n (inl x))
again_last before (k ∷ hs) h n (inr x) =
    inr (again_last (before ++ k ∷ []) hs h n
    (inr (subst (λ b. IsAgain b h n) (sym (append_assoc before (k ∷ []) hs)) x)))

-- ---- the loop

-- the set has what these actuals pass, and the number of the rule was reported if something is passed twice
abbrev pub Hands : (s t : Uses) → List Handed → Option ℕ → Type 0
Hands s t hs found = Adds s t (all_remembered hs) × (t.complete ≡ true → IsLowest (AreAgain [] hs) found)

pub hands_none : (s : Uses) → Hands s s [] None
hands_none s = (adds_none s, (λ e. none_broken (λ n h. h)))

told_again : (t : Bool) → IsLowest (λ n. (t ≡ true) × (n ≡ PASSED_TWICE)) (told_unless (not t) PASSED_TWICE)
told_again true = record { broken = (refl, refl); least = λ n x. let k = x.1 in omega arith }
told_again false = record { broken = tt; least = λ n x. absurd (let k = x.0 in cc) }

hands_more : {s t w : Uses} (hs : List Handed) (h : Handed) (again : Bool) {found fault told : Option ℕ}
    → ((u : Use) → has s u ≡ false) → again ≡ is_again (has t) h → fault ≡ told_unless (not again) PASSED_TWICE
    → told ≡ lower found fault → Hands s t hs found → Adds t w (remembered h)
    → Hands s w (hs ++ h ∷ []) told
hands_more {t = t} hs h again {fault = fault} nothing asked one lower before adds = (
  adds_as (sym (remembered_last hs h)) (adds_both before.0 adds),
  λ e.
      let complete = adds.complete e in
      let same : again ≡ list_any (collide h) hs =
      asked ∙ (λ i. is_again (has_exactly nothing before.0 complete i) h) ∙ again_all h hs in
      let here = subst (λ f. IsLowest (IsAgain hs h) f) (sym one)
      (subst (λ b. IsLowest (λ n. (list_any (collide h) hs ≡ true) × (n ≡ PASSED_TWICE))
      (told_unless (not b) PASSED_TWICE)) (sym same) (told_again (list_any (collide h) hs))) in
      lowest_as (again_last [] hs h) (again_before [] hs h) (lowest_of lower (before.1 complete) here),
)

pub hands_next : (es : List Entry) (qs : List Parameter) (xs : List Expr) (i : ℕ) (x : Expr) {s t w : Uses}
    (h : Handed) (again : Bool) {found fault told : Option ℕ} → i < length xs → x ≡ get_or xs i x
    → ((u : Use) → has s u ≡ false) → h ≡ handed_by es (item_at i qs) (expression_of x)
    → again ≡ is_again (has t) h → fault ≡ told_unless (not again) PASSED_TWICE → told ≡ lower found fault
    → Hands s t (handed_all es qs 0 (map expression_of (take i xs))) found → Adds t w (remembered h)
    → Hands s w (handed_all es qs 0 (map expression_of (take (i + 1) xs))) told
hands_next es qs xs i x {s} {w = w} h again {told = told} less is nothing handed asked one lower before adds =
    let ys = map expression_of (take i xs) in
    let many : i ≡ 0 + length ys = simp (length-map, length-take) (omega arith) in
    subst (λ hs. Hands s w hs told)
    (ap (λ h. handed_all es qs 0 ys ++ h ∷ []) (handed ∙ ap (λ k. handed_by es (item_at k qs) (expression_of x)) many)
    ∙ sym (handed_last es qs 0 ys (expression_of x))
    ∙ ap (handed_all es qs 0) (seen_more expression_of xs i x x less is))
    (hands_more (handed_all es qs 0 ys) h again nothing asked one lower before adds)

pub hands_all : (es : List Entry) (qs : List Parameter) (xs : List Expr) (i : ℕ) {s t : Uses} {found : Option ℕ}
    → length xs ≤ i → Hands s t (handed_all es qs 0 (map expression_of (take i xs))) found → t.complete ≡ true
    → IsLowest (AreAgain [] (handed_all es qs 0 (map expression_of xs))) found
hands_all es qs xs i done x complete =
    lowest_at (λ ys. AreAgain [] (handed_all es qs 0 (map expression_of ys))) (take_all i xs done) (x.1 complete)
