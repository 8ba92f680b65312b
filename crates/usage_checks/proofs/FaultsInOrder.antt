-- The first fault of several parts of a program, which are gone over one after the other.
use Rattle.std.proofs.Common.{◌≡◌, ℕ, true, false, Option, inl, inr, refl, sym, ap, subst, ◌∙◌, ◌⊎◌}
use Rattle.program_uses.specs.declared.telling.UsageFault.{UsageFault}
use Rattle.program_uses.specs.Lowest.{IsLowest}
use Rattle.program_uses.specs.Telling.{IsFirst, earlier, fault_at, At, Among}
use Rattle.program_uses.proofs.FaultsInOrder.{first_both, first_none, line_first, earlier_first, first_as}
use Rattle.usage_checks.specs.declared.telling.Findings.{Findings}
use Rattle.usage_checks.specs.Telling.{Walks}

-- ---- parts of the walk

-- Something is checked, and nothing moves.
pub walks_first : {K : Type 0} {Breaks : UsageFault → Type 0} (s t : Findings) (k : K) (told : Option UsageFault)
    → t.first ≡ earlier s.first told → t.complete ≡ s.complete → IsFirst Breaks told → Walks s t k k Breaks
walks_first {Breaks = Breaks} s t k told first complete x = record {
  complete = λ e. sym complete ∙ e;
  known = λ e. refl;
  first = λ e. subst (IsFirst (Among s.first Breaks)) (sym first) (earlier_first s.first told x);
}

-- A line is checked.
pub walks_told : {K : Type 0} {Breaks : ℕ → Type 0} (s t : Findings) (k : K) (line : ℕ) (told : Option ℕ)
    → t.first ≡ earlier s.first (fault_at line told) → t.complete ≡ s.complete → IsLowest Breaks told
    → Walks s t k k (At line Breaks)
walks_told s t k line told first complete x =
    walks_first s t k (fault_at line told) first complete (line_first line told x)

-- what is known has no part in it
pub walks_still : {K L : Type 0} {s t : Findings} {k : K} (l : L) {P : UsageFault → Type 0} → Walks s t k k P
    → Walks s t l l P
walks_still l a = record { complete = a.complete; known = λ e. refl; first = a.first }

-- Nothing is checked.
pub walks_moved : {K : Type 0} (s : Findings) (after wanted : K) → after ≡ wanted → Walks s s after wanted (λ f. ⊥)
walks_moved s after wanted e = record { complete = λ c. c; known = λ c. e; first = λ c. first_none s.first }

-- The second part begins with what is known after the first one.
pub walks_both : {K L : Type 0} {s t w : Findings} {k l : K} {m : L} {P : UsageFault → Type 0} (g : K → L)
    (Q : K → UsageFault → Type 0) → Walks s t k l P → Walks t w m (g k) (Q k)
    → Walks s w m (g l) (λ f. P f ⊎ Q l f)
walks_both {s = s} {t = t} {w = w} {l = l} g Q a b = record {
  complete = λ e. a.complete (b.complete e);
  known = λ e. b.known e ∙ ap g (a.known (b.complete e));
  first = λ e. first_both s.first t.first w.first (a.first (b.complete e))
      (subst (λ k. IsFirst (Among t.first (Q k)) w.first) (a.known (b.complete e)) (b.first e));
}

-- then something moves, for which nothing is checked
pub walks_then : {K L : Type 0} {s t : Findings} {k l : K} {m : L} {P : UsageFault → Type 0} (g : K → L)
    → Walks s t k l P → m ≡ g k → Walks s t m (g l) P
walks_then g a e = record { complete = a.complete; known = λ c. e ∙ ap g (a.known c); first = a.first }

pub walks_as : {K : Type 0} {s t : Findings} {k l : K} {P Q : UsageFault → Type 0} → ((f : UsageFault) → P f → Q f)
    → ((f : UsageFault) → Q f → P f) → Walks s t k l P → Walks s t k l Q
walks_as there back a = record { complete = a.complete; known = a.known; first = λ c. first_as there back (a.first c) }

-- If memory was not enough, nothing is said.
pub walks_failed : {K : Type 0} (s t : Findings) (k l : K) (P : UsageFault → Type 0) → t.complete ≡ false
    → Walks s t k l P
walks_failed s t k l P lacks =
    let never : t.complete ≡ true → ⊥ = λ e. (let x = sym lacks ∙ e in absurd cc) in
    record {
      complete = λ e. absurd (never e);
      known = λ e. absurd (never e);
      first = λ e. absurd (never e);
    }

pub only_one : (P : UsageFault → Type 0) (f : UsageFault) → P f → P f ⊎ ⊥
only_one P f p = inl p

pub from_one : (P : UsageFault → Type 0) (f : UsageFault) → P f ⊎ ⊥ → P f
from_one P f (inl p) = p
from_one P f (inr x) = absurd x

-- then something is done in which nothing is checked
pub walks_on : {K L : Type 0} {s t w : Findings} {k l : K} {m : L} {P : UsageFault → Type 0} (g : K → L)
    → Walks s t k l P → Walks t w m (g k) (λ f. ⊥) → Walks s w m (g l) P
walks_on {P = P} g a b = walks_as (from_one P) (only_one P) (walks_both g (λ k f. ⊥) a b)

-- two rules of one line
pub on_line : (P Q : ℕ → Type 0) {line : ℕ} (f : UsageFault) → At line P f ⊎ At line Q f → At line (λ n. P n ⊎ Q n) f
on_line P Q f (inl p) = (p.0, inl p.1)
on_line P Q f (inr q) = (q.0, inr q.1)

pub of_line : (P Q : ℕ → Type 0) {line : ℕ} (f : UsageFault) → At line (λ n. P n ⊎ Q n) f → At line P f ⊎ At line Q f
of_line P Q f h = elim h.1 [ inl p ↦ inl (h.0, p) | inr q ↦ inr (h.0, q) ]

-- no rule, on whatever line
pub none_of_line : {line : ℕ} (f : UsageFault) → ⊥ → At line (λ n. ⊥) f
none_of_line f x = absurd x

pub no_rule : {line : ℕ} (f : UsageFault) → At line (λ n. ⊥) f → ⊥
no_rule f h = h.1
