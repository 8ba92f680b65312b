-- What the components of a PAR share is checked component by component, each beside those before it.
use Rattle.std.proofs.Common.{◌≡◌, ℕ, ◌+◌, ◌<◌, ◌≤◌, Bool, false, List, [], length, map, take, get_or, Option}
use Rattle.std.proofs.Common.{ℤ, ap, add-one, sym, subst, ◌∙◌, ◌++◌, ◌||◌, ◌⊎◌, inl, inr}
use Rattle.std.proofs.lemmas.List.{take_all}
use Rattle.occam_parser.specs.Lines.{Replicator}
use Rattle.occam_parser.specs.Blocks.{Part, Body, Components, NoComponent, Component}
use Rattle.occam_parser.specs.BlockViews.{all_of}
use Rattle.occam_parser.proofs.SeenBlocks.{all_push}
use Rattle.scalar_ranges.specs.Entries.{Meaning, Entry}
use Rattle.scalar_ranges.specs.Moves.{Known}
use Rattle.program_uses.specs.declared.telling.UsageFault.{UsageFault}
use Rattle.program_uses.specs.declared.uses.Use.{Use}
use Rattle.program_uses.specs.declared.uses.Uses.{Uses}
use Rattle.program_uses.specs.Sets.{is_among, has, Joins}
use Rattle.program_uses.specs.Actions.{Around}
use Rattle.program_uses.specs.ParRules.{BreaksSharing}
use Rattle.program_uses.specs.Declaring.{add}
use Rattle.program_uses.specs.Indices.{index_at, index_meaning, in_turns}
use Rattle.program_uses.specs.Components.{BreakSharing, BreakTurns}
use Rattle.program_uses.specs.Processes.{Collects, uses_of_components, uses_of_component, uses_of_one, uses_in_turn}
use Rattle.program_uses.specs.Sharing.{InSomeTurn, SharesInComponents, SharesInComponent, SharesInOne}
use Rattle.program_uses.specs.Telling.{IsFirst, At, Among}
use Rattle.program_uses.proofs.Adding.{adds_both, has_exactly, taken_one}
use Rattle.program_uses.proofs.FaultsInOrder.{first_both, first_as}
use Rattle.program_uses.proofs.UsesOfProcesses.{collects_none, collects_for, collects_at}

-- ---- a set that another one joins

-- What was collected in a set of its own joins those before it.
pub collects_apart : {s t old new : Uses} {o m : Option UsageFault} {k l : Known} {us : List Use}
    {P : UsageFault → Type 0} → ((u : Use) → has s u ≡ false) → Collects s t o m k l us P → Joins old new t
    → Collects old new o m k l us P
collects_apart {old = old} nothing a joins = record {
  uses = record {
    complete = λ e. (joins.complete e).0;
    has = λ e u. joins.has e u ∙ (λ i. has old u || has_exactly nothing a.uses (joins.complete e).1 i u);
  };
  first = λ e. a.first (joins.complete e).1;
  scope = a.scope;
}

-- The same, and what it shares with them is reported.
pub collects_beside : {line count : ℕ} {s t old new : Uses} {o m n : Option UsageFault} {k l : Known} {us : List Use}
    {P : UsageFault → Type 0} → ((u : Use) → has s u ≡ false) → Collects s t o m k l us P → Joins old new t
    → count ≡ length l.entries → IsFirst (Among m (At line (BreaksSharing count (has old) (has t)))) n
    → Collects old new o n k l us
    (λ f. P f ⊎ At line (BreaksSharing (length k.entries) (has old) (is_among us)) f)
collects_beside {line} {count} {t = t} {old = old} {o = o} {m = m} {n = n} {k = k} {us = us} nothing a joins long
    shared =
    let joined = collects_apart nothing a joins in
    let all : count ≡ length k.entries = long ∙ ap (λ l. length l.entries) a.scope in
    record {
      uses = joined.uses;
      first = λ e.
          let had = has_exactly nothing a.uses (joins.complete e).1 in
          first_both o m n (joined.first e)
          (subst (λ (x : ℕ × (Use → Bool)). IsFirst (Among m (At line (BreaksSharing x.0 (has old) x.1))) n)
          (λ i. (all i, had i)) shared);
      scope = a.scope;
    }

-- ---- components and turns

regrouped : (A B : UsageFault → Type 0) (C D : ℕ → Type 0) {line : ℕ} (f : UsageFault)
    → (A f ⊎ At line C f) ⊎ (B f ⊎ At line D f) → (A f ⊎ B f) ⊎ At line (λ n. C n ⊎ D n) f
regrouped A B C D f (inl (inl a)) = inl (inl a)
regrouped A B C D f (inl (inr c)) = inr (c.0, inl c.1)
regrouped A B C D f (inr (inl b)) = inl (inr b)
regrouped A B C D f (inr (inr d)) = inr (d.0, inr d.1)

ungrouped : (A B : UsageFault → Type 0) (C D : ℕ → Type 0) {line : ℕ} (f : UsageFault)
    → (A f ⊎ B f) ⊎ At line (λ n. C n ⊎ D n) f → (A f ⊎ At line C f) ⊎ (B f ⊎ At line D f)
ungrouped A B C D f (inl (inl a)) = inl (inl a)
ungrouped A B C D f (inl (inr b)) = inr (inl b)
ungrouped A B C D f (inr h) = elim h.1 [ inl c ↦ inl (inr (h.0, c)) | inr d ↦ inr (inr (h.0, d)) ]

-- what is checked for some components or turns, and what they share with each other
abbrev pub Apart : ℕ → (UsageFault → Type 0) → (ℕ → Type 0) → UsageFault → Type 0
Apart line Inside Shared f = Inside f ⊎ At line Shared f

apart_more : {line : ℕ} (k : Known) (us : List Use) (Inside : UsageFault → Type 0) (Shared : ℕ → Type 0)
    (uses : List Entry → List Use) (Breaks : List Entry → UsageFault → Type 0) {s t w : Uses}
    {o m n : Option UsageFault} {l h : Known} → ((u : Use) → has s u ≡ false)
    → Collects s t o m k l us (Apart line Inside Shared)
    → Collects t w m n l h (uses l.entries)
    (Apart line (Breaks l.entries) (BreaksSharing (length l.entries) (has t) (is_among (uses l.entries))))
    → Collects s w o n k h (us ++ uses k.entries)
    (Apart line (λ f. Inside f ⊎ Breaks k.entries f)
    (λ n. Shared n ⊎ BreaksSharing (length k.entries) (is_among us) (is_among (uses k.entries)) n))
apart_more {line} k us Inside Shared uses Breaks {s} {t} {w} {o} {m} {n} {l} {h} nothing before next =
    let asked : Known → (Use → Bool) → UsageFault → Type 0 =
    λ l had. Apart line (Breaks l.entries) (BreaksSharing (length l.entries) had (is_among (uses l.entries))) in
    let last : Collects t w m n k h (uses k.entries) (asked k (has t)) =
    subst (λ l. Collects t w m n l h (uses l.entries) (asked l (has t))) before.scope next in
    record {
      uses = adds_both before.uses last.uses;
      first = λ e.
          let complete = last.uses.complete e in
          let had = has_exactly nothing before.uses complete in
          let shared = BreaksSharing (length k.entries) (is_among us) (is_among (uses k.entries)) in
          first_as (regrouped Inside (Breaks k.entries) Shared shared)
          (ungrouped Inside (Breaks k.entries) Shared shared)
          (first_both o m n (before.first complete)
          (subst (λ had. IsFirst (Among m (asked k had)) n) had (last.first e)));
      scope = last.scope;
    }

nothing_yet : {line : ℕ} (s : Uses) (o : Option UsageFault) (k : Known)
    → Collects s s o o k k [] (Apart line (λ f. ⊥) (λ n. ⊥))
nothing_yet s o k =
    collects_for (λ f h. absurd h) (λ f h. elim h [ inl x ↦ x | inr x ↦ x.1 ]) (collects_none s o k)

-- the components of a PAR on this line
abbrev pub ComponentsApart : {part : Part} → Around → List Entry → ℕ → Components part → UsageFault → Type 0
ComponentsApart a es line cs = Apart line (SharesInComponents a es cs) (BreakSharing a es cs)

pub components_none : (part : Part) (a : Around) (line : ℕ) (s : Uses) (o : Option UsageFault) (k : Known)
    → Collects s s o o k k [] (ComponentsApart a k.entries line (NoComponent {part = part}))
components_none part a line s o k = nothing_yet s o k

pub components_next : {part : Part} {A : Type 0} (a : Around) (line : ℕ) (f : A → Component part) (xs : List A) (i : ℕ)
    (x : A) (k : Known) {s t w : Uses} {o m n : Option UsageFault} {l h : Known} → ((u : Use) → has s u ≡ false)
    → i < length xs → x ≡ get_or xs i x
    → Collects s t o m k l (uses_of_components a k.entries (all_of (map f (take i xs))))
    (ComponentsApart a k.entries line (all_of (map f (take i xs))))
    → Collects t w m n l h (uses_of_component a l.entries (f x))
    (Apart line (SharesInComponent a l.entries (f x))
    (BreaksSharing (length l.entries) (has t) (is_among (uses_of_component a l.entries (f x)))))
    → Collects s w o n k h (uses_of_components a k.entries (all_of (map f (take (i + 1) xs))))
    (ComponentsApart a k.entries line (all_of (map f (take (i + 1) xs))))
components_next a line f xs i x k nothing h is before next =
    let cs = all_of (map f (take i xs)) in
    collects_at (uses_of_components a k.entries) (ComponentsApart a k.entries line)
    (sym (all_push f (take i xs) (take (i + 1) xs) x (taken_one xs i x x h is)))
    (apart_more k (uses_of_components a k.entries cs) (SharesInComponents a k.entries cs)
    (BreakSharing a k.entries cs) (λ es. uses_of_component a es (f x)) (λ es. SharesInComponent a es (f x)) nothing
    before next)

pub components_all : {part : Part} {A : Type 0} (a : Around) (line : ℕ) (f : A → Component part) (xs : List A) (i : ℕ)
    (k : Known) {s t : Uses} {o m : Option UsageFault} {l : Known} → length xs ≤ i
    → Collects s t o m k l (uses_of_components a k.entries (all_of (map f (take i xs))))
    (ComponentsApart a k.entries line (all_of (map f (take i xs))))
    → Collects s t o m k l (uses_of_components a k.entries (all_of (map f xs)))
    (ComponentsApart a k.entries line (all_of (map f xs)))
components_all a line f xs i k done x =
    collects_at (λ ys. uses_of_components a k.entries (all_of (map f ys)))
    (λ ys. ComponentsApart a k.entries line (all_of (map f ys))) (take_all i xs done) x

-- n turns of one
abbrev pub TurnsApart : Around → List Entry → ℕ → Replicator → Body → Option ℤ → ℕ → UsageFault → Type 0
TurnsApart a es line r b first n =
    Apart line (InSomeTurn (λ n. SharesInOne a (add r.name (index_meaning false (index_at first n)) es) b) n)
    (BreakTurns (length es) (uses_in_turn a es first r.name b) n)

pub turns_none : (a : Around) (line : ℕ) (r : Replicator) (b : Body) (first : Option ℤ) (s : Uses)
    (o : Option UsageFault) (k : Known) → Collects s s o o k k [] (TurnsApart a k.entries line r b first 0)
turns_none a line r b first s o k = nothing_yet s o k

pub one_more_turn : (a : Around) (line : ℕ) (r : Replicator) (b : Body) (first : Option ℤ) (turn : ℕ) (m : Meaning)
    (k : Known) {s t w : Uses} {o p q : Option UsageFault} {l h : Known} → ((u : Use) → has s u ≡ false)
    → m ≡ index_meaning false (index_at first turn)
    → Collects s t o p k l (in_turns (uses_in_turn a k.entries first r.name b) turn)
    (TurnsApart a k.entries line r b first turn)
    → Collects t w p q l h (uses_of_one a (add r.name m l.entries) b)
    (Apart line (SharesInOne a (add r.name m l.entries) b)
    (BreaksSharing (length l.entries) (has t) (is_among (uses_of_one a (add r.name m l.entries) b))))
    → Collects s w o q k h (in_turns (uses_in_turn a k.entries first r.name b) (turn + 1))
    (TurnsApart a k.entries line r b first (turn + 1))
one_more_turn a line r b first turn m k {t = t} {l = l} nothing means before next =
    let index = index_meaning false (index_at first turn) in
    let used = uses_in_turn a k.entries first r.name b in
    let indexed = collects_at (λ m. uses_of_one a (add r.name m l.entries) b)
    (λ m. Apart line (SharesInOne a (add r.name m l.entries) b)
    (BreaksSharing (length l.entries) (has t) (is_among (uses_of_one a (add r.name m l.entries) b)))) means next in
    collects_at (in_turns used) (TurnsApart a k.entries line r b first) (sym (add-one turn))
    (apart_more k (in_turns used turn)
    (InSomeTurn (λ n. SharesInOne a (add r.name (index_meaning false (index_at first n)) k.entries) b) turn)
    (BreakTurns (length k.entries) used turn) (λ es. uses_of_one a (add r.name index es) b)
    (λ es. SharesInOne a (add r.name index es) b) nothing before indexed)
