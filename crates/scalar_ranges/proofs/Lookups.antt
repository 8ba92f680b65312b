-- A name holds what its meaning says, where an environment meets the scope.
use Rattle.std.proofs.Common.{◌≡◌, ℕ, zero, suc, ℤ, pos, negsuc, ◌<◌, Bool, true, false, cond, List, [], ◌∷◌, length}
use Rattle.std.proofs.Common.{Some, IsSomeAnd, sym, subst, arith, ◌≤ℤ◌, ◌<ℤ◌}
use Rattle.std.specs.Prelude.{bytes_eq}
use Rattle.std.specs.List.{AllByRecursion}
use Rattle.std.proofs.lemmas.Int.{ints}
use Rattle.scalar_ranges.specs.Entries.{Meaning, Entry, meaning_in}
use Rattle.scalar_ranges.specs.Environments.{Held, Environment, held_in, item_at, item_of, IsHeld, Meets}

found_by : (name : List ℕ) (t : Bool) (m k : Meaning) (h : Held) (es : List Entry) (bs : Environment)
    → cond t (Some m) (meaning_in name es) ≡ Some k → IsHeld m h
    → (meaning_in name es ≡ Some k → IsHeld k (held_in name bs)) → IsHeld k (cond t h (held_in name bs))
found_by name true m k h es bs e is others = let same : m ≡ k = cc in subst (λ n. IsHeld n h) same is
found_by name false m k h es bs e is others = others e

pub found_held : (name : List ℕ) (es : List Entry) (env : Environment) (k : Meaning) → Meets env es
    → meaning_in name es ≡ Some k → IsHeld k (held_in name env)
found_held name [] env k m e = absurd (cc)
found_held name (x ∷ es) [] k m e = absurd m
found_held name (x ∷ es) (b ∷ bs) k m e =
    subst (λ n. IsHeld k (cond (bytes_eq n name) b.held (held_in name bs))) (sym m.0)
    (found_by name (bytes_eq x.name name) x.meaning k b.held es bs e m.1 (found_held name es bs k m.2))

item_in : (P : ℤ → Type 0) (i : ℕ) (vs : List ℤ) → i < length vs → AllByRecursion P vs → IsSomeAnd (item_at i vs) P
item_in P i [] less all = absurd (omega arith)
item_in P zero (v ∷ vs) less all = all.0
item_in P (suc i) (v ∷ vs) less all = item_in P i vs (omega arith) all.1

-- an array has an element at each subscript from 0 to its size
pub item_holds : (P : ℤ → Type 0) (vs : List ℤ) (size : ℕ) (i : ℤ) → length vs ≡ size → AllByRecursion P vs
    → pos 0 ≤ℤ i → i <ℤ pos size → IsSomeAnd (item_of vs i) P
item_holds P vs size (pos i) e all low high = item_in P i vs (omega (arith, ints)) all
item_holds P vs size (negsuc i) e all low high = absurd (omega (arith, ints))
