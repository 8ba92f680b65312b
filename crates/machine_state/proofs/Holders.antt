-- What follows where holders are in order.
use Rattle.std.proofs.Common.{◌≡◌, ◌≢◌, ℕ, ◌/◌, ◌<◌, ◌≤◌, true, ◌⊎◌, inl, inr, List, Option, Some, None, refl, sym, ap}
use Rattle.std.proofs.Common.{◌∙◌, subst, arith}
use Rattle.std.proofs.lemmas.Bool.{cases_eq}
use Rattle.small_laws.proofs.Options.{same_some}
use Rattle.module_format.specs.Contents.{Par}
use Rattle.machine_state.specs.declared.holding.End.{End}
use Rattle.machine_state.specs.Memory.{place_of}
use Rattle.machine_state.specs.Holding.{Holding, may_write, may_read, has_end}
use Rattle.machine_state.specs.World.{Join}
use Rattle.machine_state.specs.Moves.{cell_of}
use Rattle.machine_state.specs.Ownership.{NoClash, Under, child, deeper, Counted, KeepsPlace, in_block, in_channel}
use Rattle.machine_state.specs.Ownership.{OwnEnd, Holders, Claim, to_write, to_read, to_use, claims, rival}
use Rattle.machine_state.proofs.Claims.{twice, written_is_read}

-- ---- what follows from it

module _ {size : ℕ} {pars : List Par} {own : ℕ → Holding} {opener : ℕ → Option ℕ} {opened : ℕ → Option Join}
    {owner : ℕ → Option ℕ} (t : Holders size pars own opener opened owner) where
  pub above_is_less : (q p : ℕ) → Under opener q p → q < p
  above_is_less q p (child a is) = t.rises a q is
  above_is_less q p (deeper a o is above) =
      let further = above_is_less q o above in
      let near = t.rises a o is in
      omega (arith, further, near)

  -- what claims anything is, or is under, a member of the join
  pub reaches : (q p : ℕ) (c : Claim) → Under opener q p → claims (own p) c ≡ true
      → (d : ℕ) × (opener d ≡ Some q) × Counted opened q d
  reaches q p c (child a is) claimed = (a, is, t.counted a q c is claimed)
  reaches q p c (deeper a o is above) claimed =
      let counts = t.counted a o c is claimed in
      reaches q o (to_write (place_of counts.join.block)) above
      (t.kept o (place_of counts.join.block) (in_block counts.join counts.is_open (omega arith, omega arith)))

  pub is_idle : (q p : ℕ) (c : Claim) → Under opener q p → opened q ≡ None → claims (own p) c ≡ true → ⊥
  is_idle q p c above none claimed =
      let r = reaches q p c above claimed in
      let e : None ≡ Some r.2.join = sym none ∙ r.2.is_open in cc

  pub held_read : (p : ℕ) (j : Join) (x : ℕ) → opened p ≡ Some j → may_read j.rest x ≡ true
      → may_read (own p) x ≡ true
  held_read p j x is read = elim (t.within p j (to_read x) is read) [ inl mine ↦ mine | inr end ↦ absurd end ]

  pub held_write : (p : ℕ) (j : Join) (x : ℕ) → opened p ≡ Some j → may_write j.rest x ≡ true
      → may_write (own p) x ≡ true
  held_write p j x is written =
      elim (t.within p j (to_write x) is written) [ inl mine ↦ mine | inr end ↦ absurd end ]

  pub keeper : (p x : ℕ) → KeepsPlace opened owner p x → (j : Join) × (opened p ≡ Some j)
  keeper p x (in_block j is inside) = (j, is)
  keeper p x (in_channel owned) = t.opens (x / 4) p owned

  -- no link is a channel
  pub outside_is_free : (q : ℕ) (e : End) → size ≤ place_of e.address → owner (cell_of e.address) ≡ Some q → ⊥
  outside_is_free q e outside owned =
      let low = t.inside q (place_of e.address) (t.kept q (place_of e.address) (in_channel owned)) in
      omega (arith, low, outside)

  -- who holds for good an end of a channel is under who has opened it
  pub lent_by : (p q : ℕ) (e : End) → has_end (own p) e ≡ true → owner (cell_of e.address) ≡ Some q
      → Under opener q p
  lent_by p q e held owned = elim (t.ends p e held) [
    | inl outside ↦ absurd (outside_is_free q e outside owned)
    | inr lent ↦
        subst (λ n. Under opener n p) (same_some (owner (cell_of e.address)) lent.0.process q lent.0.owned owned)
        lent.0.above
  ]

  -- a place that no process has a channel in, since it belongs to a process that has no join open
  pub not_owned : (p q x : ℕ) → opened p ≡ None → may_write (own p) x ≡ true → owner (x / 4) ≡ Some q → ⊥
  not_owned p q x none mine owned = elim (cases_eq p q) [
    | inl e ↦
        let o = t.opens (x / 4) q owned in
        let same : None ≡ Some o.0 = sym none ∙ (ap opened e ∙ o.1) in cc
    | inr differ ↦
        let keeps : KeepsPlace opened owner q x = in_channel owned in
        let theirs = t.kept q x keeps in
        t.apart p q differ (λ u. is_idle p q (to_write x) u none theirs)
        (λ u. t.below_kept q p x u (written_is_read (own p) x mine) keeps) (to_write x) mine
        (written_is_read (own q) x theirs)
  ]

  -- ---- what is held now

  abbrev held_now : ℕ → Holding
  held_now p = elim (opened p) as (λ o. Holding) [ None ↦ own p | Some join ↦ join.rest ]

  on_held : (p : ℕ) (c : Claim) (o : Option Join) → opened p ≡ o
      → claims (elim o as (λ o. Holding) [ None ↦ own p | Some join ↦ join.rest ]) c ≡ true
      → (claims (own p) c ≡ true) ⊎ OwnEnd owner p c
  on_held p c None is claimed = inl claimed
  on_held p c (Some j) is claimed = t.within p j c is claimed

  pub now_claims : (p : ℕ) (c : Claim) → claims (held_now p) c ≡ true → (claims (own p) c ≡ true) ⊎ OwnEnd owner p c
  now_claims p c claimed = on_held p c (opened p) refl claimed

  on_now : (q p : ℕ) (c : Claim) → Under opener q p → claims (own p) c ≡ true → (o : Option Join) → opened q ≡ o
      → claims (elim o as (λ o. Holding) [ None ↦ own q | Some join ↦ join.rest ]) (rival c) ≡ true → ⊥
  on_now q p c above claimed None is other = is_idle q p c above is claimed
  on_now q p c above claimed (Some j) is other = t.below q p j c above is claimed other

  -- what one has for good under another, and what the other holds now
  under_now : (q p : ℕ) (c : Claim) → Under opener q p → claims (own p) c ≡ true
      → claims (held_now q) (rival c) ≡ true → ⊥
  under_now q p c above claimed other = on_now q p c above claimed (opened q) refl other

  -- no end of one's own channels is held by another one
  own_end : (p q : ℕ) (c : Claim) → p ≢ q → (Under opener p q → ⊥) → OwnEnd owner p c
      → claims (held_now q) (rival c) ≡ true → ⊥
  own_end p q (to_write x) differ beside mine other = mine
  own_end p q (to_read x) differ beside mine other = mine
  own_end p q (to_use e) differ beside mine other = elim (now_claims q (to_use e) other) [
    | inl theirs ↦ beside (lent_by q p e theirs mine.0)
    | inr theirs ↦ differ (same_some (owner (cell_of e.address)) p q mine.0 theirs.0)
  ]

  end_back : (p : ℕ) (c : Claim) → OwnEnd owner p (rival c) → OwnEnd owner p c
  end_back p (to_write x) end = end
  end_back p (to_read x) end = end
  end_back p (to_use e) end = end

  not_itself : (p q : ℕ) → Under opener q p → p ≢ q
  not_itself p q above e = let low = above_is_less q p above in omega arith

  not_both : (p q : ℕ) → Under opener q p → Under opener p q → ⊥
  not_both p q a b =
      let low = above_is_less q p a in
      let high = above_is_less p q b in
      omega arith

  below_now : (q p : ℕ) (c : Claim) → Under opener q p → claims (held_now p) c ≡ true
      → claims (held_now q) (rival c) ≡ true → ⊥
  below_now q p c above mine other = elim (now_claims p c mine) [
    | inl own ↦ under_now q p c above own other
    | inr end ↦ own_end p q c (not_itself p q above) (λ u. not_both p q above u) end other
  ]

  -- whatever two processes are to each other
  pub now_apart : (p q : ℕ) → p ≢ q → NoClash (held_now p) (held_now q)
  now_apart p q differ c mine other = unrelated (λ u. below_now p q (rival c) u other (twice (held_now p) c mine))
      (λ u. below_now q p c u mine other)
    where
      unrelated : (Under opener p q → ⊥) → (Under opener q p → ⊥) → ⊥
      unrelated up down = elim (now_claims p c mine) [
        | inl own_p ↦ elim (now_claims q (rival c) other) [
          | inl own_q ↦ t.apart p q differ up down c own_p own_q
          | inr end ↦ own_end q p (rival c) (λ e. differ (sym e)) down end (twice (held_now p) c mine)
        ]
        | inr end ↦ own_end p q c differ up end other
      ]

  on_itself : (p x : ℕ) → KeepsPlace opened owner p x → (o : Option Join) → opened p ≡ o
      → may_read (elim o as (λ o. Holding) [ None ↦ own p | Some join ↦ join.rest ]) x ≡ true → ⊥
  on_itself p x keeps None is read =
      let k = keeper p x keeps in
      let e : None ≡ Some k.0 = sym is ∙ k.1 in cc
  on_itself p x keeps (Some j) is read = t.hidden p j x is read keeps

  -- what a join keeps is held by no process
  pub kept_is_free : (p q x : ℕ) → KeepsPlace opened owner p x → may_read (held_now q) x ≡ true → ⊥
  kept_is_free p q x keeps read = elim (cases_eq p q) [
    | inl e ↦ on_itself q x (subst (λ n. KeepsPlace opened owner n x) e keeps) (opened q) refl read
    | inr differ ↦ elim (now_claims q (to_read x) read) [
      | inl own_q ↦ t.apart p q differ (λ u. t.below_kept p q x u own_q keeps)
          (λ u. under_now q p (to_write x) u (t.kept p x keeps) read) (to_write x) (t.kept p x keeps) own_q
      | inr end ↦ end
    ]
  ]

  -- two joins keep nothing together
  pub kept_once : (p q x : ℕ) → p ≢ q → KeepsPlace opened owner p x → KeepsPlace opened owner q x → ⊥
  kept_once p q x differ a b =
      let mine = t.kept p x a in
      let theirs = t.kept q x b in
      t.apart p q differ (λ u. t.below_kept p q x u (written_is_read (own q) x theirs) a)
      (λ u. t.below_kept q p x u (written_is_read (own p) x mine) b) (to_write x) mine
      (written_is_read (own q) x theirs)
