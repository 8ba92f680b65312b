-- Sets of ends with one end more, and ends one after another.
use Rattle.std.proofs.Common.{◌≡◌, ℕ, ◌<◌, Bool, true, false, cond, ◌&&◌, ◌||◌, List, [], ◌∷◌, map, nat_eq}
use Rattle.std.proofs.Common.{refl, sym, ap, ◌∙◌}
use Rattle.std.specs.BTreeMap.{is_at}
use Rattle.std.specs.List.{list_any}
use Rattle.std.specs.Ordering.{is_eq, nat_cmp, ordering_then}
use Rattle.std.specs.declared.cmp.Ordering.{Ordering}
use Rattle.std.specs.declared.cmp.Ordering.TheVariants.{Less, Equal, Greater}
use Rattle.std.proofs.Math.Bool.{or_assoc, or-false}
use Rattle.program_uses.specs.contracts.ends.ChannelEndOrd.TheImpl.{ghosts}
use Rattle.program_uses.specs.declared.ends.ChannelEnd.{ChannelEnd}
use Rattle.program_uses.specs.declared.used_ends.UsedEnds.{UsedEnds}
use Rattle.program_uses.specs.declared.uses.Direction.{Direction}
use Rattle.program_uses.specs.declared.uses.Direction.TheVariants as direction
use Rattle.program_uses.specs.declared.uses.Use.{Use}
use Rattle.program_uses.specs.declared.uses.Use.TheVariants as used
use Rattle.program_uses.specs.InCommon.{AreBoth}
use Rattle.program_uses.specs.Sets.{is_same_way, is_same, is_among, use_of, uses_at}
use Rattle.program_uses.proofs.Adding.{flips}
use Rattle.program_uses.proofs.EndsInOrder.{is_eq_then, is_eq_number}
use Rattle.program_uses.proofs.HasByParts.{no_read, no_change}

-- ---- two ends are the same where their order says that they are equal

abbrev end_at : ℕ → ℕ → Direction → ChannelEnd
end_at n i d = record { channel = n; end = record { element = i; direction = d } }

same_end : (m n i j : ℕ) (o : Ordering) (t : Bool) → is_eq o ≡ t
    → is_eq (ordering_then (nat_cmp m n) (ordering_then (nat_cmp i j) o)) ≡ (nat_eq m n && (nat_eq i j && t))
same_end m n i j o t way =
    is_eq_then (nat_cmp m n) (ordering_then (nat_cmp i j) o)
    ∙ (λ k. is_eq_number m n k && is_eq_then (nat_cmp i j) o k)
    ∙ (λ k. nat_eq m n && (is_eq_number i j k && way k))

same : (m n i j : ℕ) (d e : Direction)
    → is_at (ghosts.cmp (end_at m i d)) (end_at n j e) ≡ (nat_eq m n && (nat_eq i j && is_same_way d e))
same m n i j direction.Input direction.Input = same_end m n i j Equal true refl
same m n i j direction.Input direction.Output = same_end m n i j Less false refl
same m n i j direction.Output direction.Input = same_end m n i j Greater false refl
same m n i j direction.Output direction.Output = same_end m n i j Equal true refl

is_at_end : (d e : ChannelEnd) → is_at (ghosts.cmp d) e ≡ is_same (use_of d) (use_of e)
is_at_end d e = same d.channel e.channel d.end.element e.end.element d.end.direction e.end.direction

pub has_end : (ds : List ChannelEnd) (d : ChannelEnd)
    → list_any (is_at (ghosts.cmp d)) ds ≡ is_among (map use_of ds) (use_of d)
has_end [] d = refl
has_end (e ∷ ds) d = λ i. is_at_end d e i || has_end ds d i

-- ---- one end more

one_more : (a b : Bool) → cond a true b ≡ (b || a)
one_more true true = refl
one_more true false = refl
one_more false true = refl
one_more false false = refl

-- after an insertion
pub has_end_more : (old new : List ChannelEnd) (d : ChannelEnd)
    → ((q : ChannelEnd) → list_any (is_at (ghosts.cmp q)) new
    ≡ cond (is_at (ghosts.cmp d) q) true (list_any (is_at (ghosts.cmp q)) old))
    → (u : Use) → is_among (map use_of new) u ≡ (is_among (map use_of old) u || is_same u (use_of d))
has_end_more old new d h (used.Read n) = no_read new n ∙ ap (λ t. t || false) (sym (no_read old n))
has_end_more old new d h (used.Change n) = no_change new n ∙ ap (λ t. t || false) (sym (no_change old n))
has_end_more old new d h (used.Channel n i e) =
    let q : ChannelEnd = record { channel = n; end = record { element = i; direction = e } } in
    sym (has_end new q) ∙ h q ∙ (λ k. cond (is_at_end d q k) true (has_end old q k))
    ∙ one_more (is_same (use_of d) (use_of q)) (is_among (map use_of old) (use_of q))
    ∙ ap (λ t. is_among (map use_of old) (use_of q) || t) (flips (use_of d) (use_of q))

-- the ends that are left, after one of them was added
pub ends_next : (s t w other : UsedEnds) (rest items : List ChannelEnd) (d : ChannelEnd) → rest ≡ d ∷ items
    → ((u : Use) → is_among (uses_at w) u ≡ (is_among (uses_at t) u || is_same u (use_of d)))
    → ((u : Use) → (is_among (uses_at t) u || is_among (map use_of rest) u)
    ≡ (is_among (uses_at s) u || is_among (uses_at other) u))
    → (u : Use) → (is_among (uses_at w) u || is_among (map use_of items) u)
    ≡ (is_among (uses_at s) u || is_among (uses_at other) u)
ends_next s t w other rest items d is one before u =
    ap (λ b. b || is_among (map use_of items) u) (one u)
    ∙ or_assoc (is_among (uses_at t) u) (is_same u (use_of d)) (is_among (map use_of items) u)
    ∙ ap (λ ds. is_among (uses_at t) u || is_among (map use_of ds) u) (sym is) ∙ before u

pub ends_none : (s t other : UsedEnds) (rest : List ChannelEnd) → rest ≡ []
    → ((u : Use) → (is_among (uses_at t) u || is_among (map use_of rest) u)
    ≡ (is_among (uses_at s) u || is_among (uses_at other) u))
    → (u : Use) → is_among (uses_at t) u ≡ (is_among (uses_at s) u || is_among (uses_at other) u)
ends_none s t other rest none all u =
    sym (or-false (is_among (uses_at t) u)) ∙ ap (λ ds. is_among (uses_at t) u || is_among (map use_of ds) u) (sym none)
    ∙ all u

-- ---- ends in common

-- Two sets have an end in common of a channel below this one only if it is among the ends that are left of the first.
pub record EndsLeft (count : ℕ) (s t : UsedEnds) (rest : List ChannelEnd) : Type 0 where
  pub found : (d : ChannelEnd) → d.channel < count → is_among (uses_at s) (use_of d) ≡ true
      → is_among (uses_at t) (use_of d) ≡ true → is_among (map use_of rest) (use_of d) ≡ true
  pub there : (d : ChannelEnd) → is_among (map use_of rest) (use_of d) ≡ true → is_among (uses_at s) (use_of d) ≡ true

pub ends_first : (count : ℕ) (s t : UsedEnds) (rest : List ChannelEnd) → rest ≡ s.set.keys → EndsLeft count s t rest
ends_first count s t rest all = record {
  found = λ d h has others. ap (λ ds. is_among (map use_of ds) (use_of d)) all ∙ has;
  there = λ d h. ap (λ ds. is_among (map use_of ds) (use_of d)) (sym all) ∙ h;
}

pub ends_apart : (count : ℕ) (s t : UsedEnds) (rest : List ChannelEnd) → rest ≡ [] → EndsLeft count s t rest
    → AreBoth count s t → ⊥
ends_apart count s t rest none left (d, h, has, others) =
    let k : false ≡ true = ap (λ ds. is_among (map use_of ds) (use_of d)) (sym none) ∙ left.found d h has others in cc
