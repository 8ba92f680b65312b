-- Facts by index in a list, and the table of their places.
use Rattle.std.proofs.Common.{◌≡◌, ◌≢◌, ℕ, zero, suc, ◌<◌, ◌≤◌, true, false, ◌||◌, cond, eqb, List, [], ◌∷◌, ◌++◌}
use Rattle.std.proofs.Common.{length, get_or, set, Some, None, refl, sym, ap, ◌∙◌, arith, inl, inr}
use Rattle.std.proofs.Math.ListN.{get_or-append}
use Rattle.std.proofs.lemmas.List.{length-set, length_push, get_or_push, get_or-set_other, get_or-set_same}
use Rattle.std.proofs.lemmas.Grind.{get_or_default_zero}
use Rattle.std.proofs.lemmas.Map.Steps.{length-le_from_distinct_below}
use Rattle.std.proofs.lemmas.Map.Keys.{IsDistinct-from_apart}
use Rattle.std.specs.List.{list_any}
use Rattle.std.proofs.lemmas.Bool.{cases_eq, cases_lt, false≢true}
use Rattle.std.proofs.lemmas.Bool.Decides.{nat_tests}
use Rattle.states.specs.declared.overlay.Written.{Written}
use Rattle.states.specs.Lookup.{lookup, indices, ArePlaced}

-- the table of places, as a record that tactics read
pub record Placed (places : List ℕ) (written : List Written) : Type 0 where
  pub each : ArePlaced places written

pub indices-at : (ws : List Written) (p : ℕ) (d : Written) → p < length ws
    → get_or (indices ws) p 0 ≡ (get_or ws p d).index
indices-at [] p d h = absurd (omega arith)
indices-at (w ∷ ws) zero d h = refl
indices-at (w ∷ ws) (suc p) d h = indices-at ws p d (omega arith)

-- an index that is at no place was not written
pub lookup-none : (ws : List Written) (index : ℕ) → ((j : ℕ) → j < length ws → get_or (indices ws) j 0 ≢ index)
    → lookup ws index ≡ None
lookup-none [] index h = refl
lookup-none (w ∷ ws) index h =
    let differs : w.index ≢ index = h 0 (omega arith) in
    let rest = lookup-none ws index (λ j low. h (suc j) (omega arith)) in
    grind (arith, nat_tests)

-- the fact at the first place where an index is
pub lookup-first : (ws : List Written) (index p : ℕ) (d : Written) → p < length ws → get_or (indices ws) p 0 ≡ index
    → ((j : ℕ) → j < p → get_or (indices ws) j 0 ≢ index)
    → lookup ws index ≡ Some ((get_or ws p d).fact)
lookup-first [] index p d low is others = absurd (omega arith)
lookup-first (w ∷ ws) index zero d low is others =
    let e : w.index ≡ index = is in grind (arith, nat_tests)
lookup-first (w ∷ ws) index (suc p) d low is others =
    let differs : w.index ≢ index = others 0 (omega arith) in
    let rest = lookup-first ws index p d (omega arith) is (λ j l. others (suc j) (omega arith)) in
    grind (arith, nat_tests)

-- the fact at the place where an index is
pub lookup-at : (places : List ℕ) (ws : List Written) (index p : ℕ) (d : Written) → ArePlaced places ws → p < length ws
    → get_or (indices ws) p 0 ≡ index → lookup ws index ≡ Some ((get_or ws p d).fact)
lookup-at places ws index p d placed low is =
    lookup-first ws index p d low is (λ j l e.
    let here : get_or places (get_or (indices ws) p 0) 0 ≡ p = (placed p low).1 in
    let there : get_or places (get_or (indices ws) j 0) 0 ≡ j = (placed j (omega arith)).1 in
    let same : p ≡ j = sym here ∙ (ap (λ n. get_or places n 0) (is ∙ sym e) ∙ there) in
    absurd (omega arith))

-- an index that is not where the table says was not written
pub lookup-absent : (places : List ℕ) (ws : List Written) (index : ℕ) → ArePlaced places ws
    → ((p : ℕ) → p ≡ get_or places index 0 → p < length ws → index < length places → get_or (indices ws) p 0 ≢ index)
    → lookup ws index ≡ None
lookup-absent places ws index placed absent =
    lookup-none ws index (λ j l e.
    let p = placed j l in
    let there : j ≡ get_or places index 0 = sym p.1 ∙ ap (λ n. get_or places n 0) e in
    absent j there l (let low : get_or (indices ws) j 0 < length places = p.0 in omega arith) e)

pub lookup-outside : (places : List ℕ) (ws : List Written) (index : ℕ) → ArePlaced places ws → length places ≤ index
    → lookup ws index ≡ None
lookup-outside places ws index placed out =
    lookup-absent places ws index placed (λ p is low inside e. absurd (omega arith))

pub lookup-beyond : (places : List ℕ) (ws : List Written) (index : ℕ) → ArePlaced places ws
    → length ws ≤ get_or places index 0 → lookup ws index ≡ None
lookup-beyond places ws index placed out =
    lookup-absent places ws index placed (λ p is low inside e. absurd (omega arith))

pub lookup-other : (places : List ℕ) (ws : List Written) (index p : ℕ) (d : Written) → ArePlaced places ws
    → p ≡ get_or places index 0 → p < length ws → (get_or ws p d).index ≢ index → lookup ws index ≡ None
lookup-other places ws index p d placed is low other = lookup-absent places ws index placed (λ q q_is q_low inside e.
    let same : q ≡ p = q_is ∙ sym is in
    other (sym (indices-at ws p d low) ∙ (ap (λ n. get_or (indices ws) n 0) (sym same) ∙ e)))

-- ---- a fact written in place of another

indices-set : (ws : List Written) (p : ℕ) (w : Written) → get_or (indices ws) p 0 ≡ w.index → p < length ws
    → indices (set ws p w) ≡ indices ws
indices-set [] p w is low = refl
indices-set (v ∷ ws) zero w is low = ap (λ n. n ∷ indices ws) (sym is)
indices-set (v ∷ ws) (suc p) w is low = ap (λ ns. v.index ∷ ns) (indices-set ws p w is (omega arith))

pub ArePlaced-set : (places : List ℕ) (ws : List Written) (p : ℕ) (w : Written) → ArePlaced places ws → p < length ws
    → get_or (indices ws) p 0 ≡ w.index → ArePlaced places (set ws p w)
ArePlaced-set places ws p w placed low is =
    λ i l. rw (indices-set ws p w is low) (placed i (let e = length-set ws p w in omega arith))

lookup-set-other : (ws : List Written) (p : ℕ) (w : Written) (j : ℕ) → get_or (indices ws) p 0 ≡ w.index → p < length ws
    → j ≢ w.index → lookup (set ws p w) j ≡ lookup ws j
lookup-set-other [] p w j is low other = refl
lookup-set-other (v ∷ ws) zero w j is low other =
    let same : v.index ≡ w.index = is in grind (arith, nat_tests)
lookup-set-other (v ∷ ws) (suc p) w j is low other =
    ap (λ o. cond (eqb v.index j) (Some v.fact) o) (lookup-set-other ws p w j is (omega arith) other)

pub lookup-set : (places : List ℕ) (ws : List Written) (p : ℕ) (w : Written) (j : ℕ) → ArePlaced places ws
    → p < length ws → get_or (indices ws) p 0 ≡ w.index
    → lookup (set ws p w) j ≡ cond (eqb j w.index) (Some w.fact) (lookup ws j)
lookup-set places ws p w j placed low is = elim (cases_eq j w.index) [
  | inl e ↦
      let longer : p < length (set ws p w) = let e = length-set ws p w in omega arith in
      let here : get_or (indices (set ws p w)) p 0 ≡ j =
      ap (λ ns. get_or ns p 0) (indices-set ws p w is low) ∙ (is ∙ sym e) in
      let found = lookup-at places (set ws p w) j p w (ArePlaced-set places ws p w placed low is) longer here in
      let fact_is : get_or (set ws p w) p w ≡ w = get_or-set_same ws p w w low in
      let yes : eqb j w.index ≡ true = grind (arith, nat_tests) in
      rw yes (found ∙ ap (λ (v : Written). Some v.fact) fact_is)
  | inr d ↦
      let no : eqb j w.index ≡ false = grind (arith, nat_tests) in
      rw no (lookup-set-other ws p w j is low d)
]

-- ---- a fact written for the first time

-- an index that was not written is at no place
pub stands-nowhere : (places : List ℕ) (ws : List Written) (index i : ℕ) (w : Written) → ArePlaced places ws
    → lookup ws index ≡ None → i < length ws → get_or (indices ws) i 0 ≢ index
stands-nowhere places ws index i w placed none low e =
    let found = lookup-at places ws index i w placed low e in
    let clash : Some ((get_or ws i w).fact) ≡ None = sym found ∙ none in
    cc

indices-push : (ws : List Written) (w : Written) → indices (ws ++ w ∷ []) ≡ indices ws ++ w.index ∷ []
indices-push [] w = refl
indices-push (v ∷ ws) w = ap (λ ns. v.index ∷ ns) (indices-push ws w)

length-indices : (ws : List Written) → length (indices ws) ≡ length ws
length-indices [] = refl
length-indices (v ∷ ws) = ap suc (length-indices ws)

pub ArePlaced-push : (places : List ℕ) (ws : List Written) (w : Written) → ArePlaced places ws
    → lookup ws w.index ≡ None → w.index < length places
    → ArePlaced (set places w.index (length ws)) (ws ++ w ∷ [])
ArePlaced-push places ws w placed none low = λ i l.
    let len = length_push ws w in
    let longer = length-set places w.index (length ws) in
    elim (cases_lt i (length ws)) [
      | inl h ↦
          let p = placed i h in
          let old : get_or (indices (ws ++ w ∷ [])) i 0 ≡ get_or (indices ws) i 0 =
          ap (λ ns. get_or ns i 0) (indices-push ws w)
          ∙ get_or-append (indices ws) (w.index ∷ []) 0 i (let e = length-indices ws in omega arith) in
          let other : get_or (indices ws) i 0 ≢ w.index = stands-nowhere places ws w.index i w placed none h in
          rw old (
            omega (arith, p.0),
            get_or-set_other places w.index (get_or (indices ws) i 0) (length ws) 0 other
                ∙ p.1,
          )
      | inr h ↦
          let last : i ≡ length ws = omega arith in
          let new : get_or (indices (ws ++ w ∷ [])) i 0 ≡ w.index =
          ap (λ ns. get_or ns i 0) (indices-push ws w)
          ∙ get_or_push (indices ws) w.index 0 i (length-indices ws ∙ sym last) in
          rw new (omega arith, get_or-set_same places w.index (length ws) 0 low ∙ sym last)
    ]

pub lookup-push : (ws : List Written) (w : Written) (j : ℕ) → lookup ws w.index ≡ None
    → lookup (ws ++ w ∷ []) j ≡ cond (eqb j w.index) (Some w.fact) (lookup ws j)
lookup-push [] w j none = grind (arith, nat_tests)
lookup-push (v ∷ ws) w j none = elim (cases_eq v.index w.index) [
  | inl e ↦
      let yes : eqb v.index w.index ≡ true = grind (arith, nat_tests) in
      let clash : Some v.fact ≡ None = sym (ap (λ b. cond b (Some v.fact) (lookup ws w.index)) yes) ∙ none in
      absurd (cc)
  | inr d ↦
      let no : eqb v.index w.index ≡ false = grind (arith, nat_tests) in
      let rest = lookup-push ws w j (sym (ap (λ b. cond b (Some v.fact) (lookup ws w.index)) no) ∙ none) in
      grind (arith, nat_tests)
]

-- ---- the capacity is enough

member-at : (xs : List ℕ) (q : ℕ) → list_any (eqb q) xs ≡ true → (i : ℕ) × (i < length xs) × (get_or xs i 0 ≡ q)
member-at [] q h = absurd (false≢true h)
member-at (x ∷ xs) q h = elim (cases_eq q x) [
  | inl e ↦ (0, omega arith, sym e)
  | inr d ↦
      let no : eqb q x ≡ false = grind (arith, nat_tests) in
      let m = member-at xs q (sym (ap (λ b. b || list_any (eqb q) xs) no) ∙ h) in
      (suc m.0, omega (arith, m.1), m.2)
]

-- no more are written than there are indices
pub length-le-places : (places : List ℕ) (ws : List Written) → ArePlaced places ws → length ws ≤ length places
length-le-places places ws placed =
    let len = length-indices ws in
    let bound : length (indices ws) ≤ length places =
    length-le_from_distinct_below (indices ws) (length places)
    (IsDistinct-from_apart eqb (indices ws) (λ i j d h l.
    let i_low : i < length ws = omega arith in
    let j_low : j < length ws = omega arith in
    let differs : get_or (indices ws) i d ≢ get_or (indices ws) j d = λ e.
    let i_is = get_or_default_zero (indices ws) i d (omega arith) in
    let j_is = get_or_default_zero (indices ws) j d (omega arith) in
    let same : i ≡ j =
    sym (placed i i_low).1 ∙ (ap (λ n. get_or places n 0) (sym i_is ∙ (e ∙ j_is)) ∙ (placed j j_low).1) in
    absurd (omega arith) in
    grind (arith, nat_tests)))
    (λ q h. let m = member-at (indices ws) q h in rw (← m.2) (placed m.0 (omega (arith, m.1))).0) in
    omega arith

-- one more fits
pub room-for-one : (places : List ℕ) (ws : List Written) (w : Written) → ArePlaced places ws → lookup ws w.index ≡ None
    → w.index < length places → length ws < length places
room-for-one places ws w placed none low =
    let more =
    length-le-places (set places w.index (length ws)) (ws ++ w ∷ []) (ArePlaced-push places ws w placed none low) in
    let longer = length_push ws w in
    let same = length-set places w.index (length ws) in
    omega arith

-- a written index has a place in the table
pub index-low : (places : List ℕ) (ws : List Written) (i : ℕ) (d : Written) → ArePlaced places ws → i < length ws
    → (get_or ws i d).index < length places
index-low places ws i d placed low = rw (← indices-at ws i d low) (placed i low).0
