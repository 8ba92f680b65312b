-- Items that are gone over one after another.
use Rattle.std.proofs.Common.{◌≡◌, ℕ, ◌+◌, ◌<◌, List, [], ◌∷◌, ◌++◌, length, map, take, get_or, inl, inr, sym}
use Rattle.std.proofs.Common.{subst, ◌⊎◌}
use Rattle.scalar_ranges.specs.Entries.{Entry}
use Rattle.scalar_ranges.specs.Moves.{Known}
use Rattle.program_uses.specs.InTurn.{in_turn}
use Rattle.program_uses.proofs.NextInTurn.{seen_more, last_in_turn}
use Rattle.program_uses.specs.declared.telling.UsageFault.{UsageFault}
use Rattle.usage_checks.specs.declared.telling.Findings.{Findings}
use Rattle.usage_checks.specs.BrokenInTurn.{BreaksInTurn}
use Rattle.usage_checks.specs.NameRules.{with_entries}
use Rattle.usage_checks.specs.Telling.{Walks}
use Rattle.usage_checks.proofs.FaultsInOrder.{walks_both, walks_as}

-- ---- what is checked

breaks_last : {A S : Type 0} (step : A → S → S) (Breaks : A → S → UsageFault → Type 0) (xs : List A) (x : A) (s : S)
    (f : UsageFault) → BreaksInTurn step Breaks xs s f ⊎ Breaks x (in_turn step xs s) f
    → BreaksInTurn step Breaks (xs ++ x ∷ []) s f
breaks_last step Breaks [] x s f (inl a) = absurd a
breaks_last step Breaks [] x s f (inr b) = inl b
breaks_last step Breaks (y ∷ xs) x s f (inl (inl a)) = inl a
breaks_last step Breaks (y ∷ xs) x s f (inl (inr b)) = inr (breaks_last step Breaks xs x (step y s) f (inl b))
breaks_last step Breaks (y ∷ xs) x s f (inr c) = inr (breaks_last step Breaks xs x (step y s) f (inr c))

breaks_before : {A S : Type 0} (step : A → S → S) (Breaks : A → S → UsageFault → Type 0) (xs : List A) (x : A) (s : S)
    (f : UsageFault) → BreaksInTurn step Breaks (xs ++ x ∷ []) s f
    → BreaksInTurn step Breaks xs s f ⊎ Breaks x (in_turn step xs s) f
breaks_before step Breaks [] x s f (inl a) = inr a
breaks_before step Breaks [] x s f (inr b) = absurd b
breaks_before step Breaks (y ∷ xs) x s f (inl a) = inl (inl a)
breaks_before step Breaks (y ∷ xs) x s f (inr b) =
    elim (breaks_before step Breaks xs x (step y s) f b) [ inl c ↦ inl (inr c) | inr c ↦ inr c ]

-- ---- the walk over items that change the entries alone

abbrev pub WalksOver : {A : Type 0} → (A → List Entry → List Entry) → (A → List Entry → UsageFault → Type 0) → List A
    → Findings → Findings → Known → Known → Type 0
WalksOver step Breaks xs s t before after =
    Walks s t after (with_entries (in_turn step xs) before) (BreaksInTurn step Breaks xs before.entries)

pub walks_next : {A B : Type 0} (step : B → List Entry → List Entry) (Breaks : B → List Entry → UsageFault → Type 0)
    (view : A → B) (xs : List A) (i : ℕ) (x d : A) (k : Known) {s t w : Findings} {l m : Known} → i < length xs
    → x ≡ get_or xs i d → WalksOver step Breaks (map view (take i xs)) s t k l
    → Walks t w m (with_entries (step (view x)) l) (Breaks (view x) l.entries)
    → WalksOver step Breaks (map view (take (i + 1) xs)) s w k m
walks_next step Breaks view xs i x d k {s} {t} {w} {l} {m} h is a b =
    let ys = map view (take i xs) in
    let whole = walks_both (with_entries (step (view x))) (λ k. Breaks (view x) k.entries) a b in
    let more = walks_as (breaks_last step Breaks ys (view x) k.entries)
    (breaks_before step Breaks ys (view x) k.entries) whole in
    let last : WalksOver step Breaks (ys ++ view x ∷ []) s w k m =
    subst (λ es. Walks s w m (record { entries = es; blocks = k.blocks })
    (BreaksInTurn step Breaks (ys ++ view x ∷ []) k.entries)) (sym (last_in_turn step ys (view x) k.entries)) more in
    subst (λ zs. WalksOver step Breaks zs s w k m) (seen_more view xs i x d h is) last

-- the same of whatever is known
abbrev pub WalksAll : {A S : Type 0} → (A → S → S) → (A → S → UsageFault → Type 0) → List A → (s t : Findings)
    → (before after : S) → Type 0
WalksAll step Breaks xs s t before after = Walks s t after (in_turn step xs before) (BreaksInTurn step Breaks xs before)

pub walks_further : {A B S : Type 0} (step : B → S → S) (Breaks : B → S → UsageFault → Type 0) (view : A → B)
    (xs : List A) (i : ℕ) (x d : A) (k : S) {s t w : Findings} {l m : S} → i < length xs → x ≡ get_or xs i d
    → WalksAll step Breaks (map view (take i xs)) s t k l → Walks t w m (step (view x) l) (Breaks (view x) l)
    → WalksAll step Breaks (map view (take (i + 1) xs)) s w k m
walks_further step Breaks view xs i x d k {s} {t} {w} {l} {m} h is a b =
    let ys = map view (take i xs) in
    let whole = walks_as (breaks_last step Breaks ys (view x) k) (breaks_before step Breaks ys (view x) k)
    (walks_both (step (view x)) (Breaks (view x)) a b) in
    let last : WalksAll step Breaks (ys ++ view x ∷ []) s w k m =
    subst (λ n. Walks s w m n (BreaksInTurn step Breaks (ys ++ view x ∷ []) k))
    (sym (last_in_turn step ys (view x) k)) whole in
    subst (λ zs. WalksAll step Breaks zs s w k m) (seen_more view xs i x d h is) last
