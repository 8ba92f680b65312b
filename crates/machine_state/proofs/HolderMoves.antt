-- Holdings stay apart whenever a join opens, goes on or closes, and a branch comes or gives back what it had.
use Rattle.std.proofs.Common.{◌≡◌, ◌≢◌, ℕ, ◌+◌, ◌/◌, ◌%◌, ◌<◌, ◌≤◌, true, ◌⊎◌, inl, inr, List, Option, Some, None}
use Rattle.std.proofs.Common.{refl, sym, ap, ◌∙◌, subst, slice_get, arith}
use Rattle.std.proofs.lemmas.Bool.{cases_eq}
use Rattle.small_laws.proofs.Options.{same_some}
use Rattle.module_format.specs.Contents.{Par}
use Rattle.machine_state.specs.declared.holding.End.{End}
use Rattle.machine_state.specs.Memory.{place_of}
use Rattle.machine_state.specs.Holding.{Holding, nothing, may_write, may_read, has_end}
use Rattle.machine_state.specs.World.{Join}
use Rattle.machine_state.specs.Moves.{cell_of}
use Rattle.machine_state.specs.BranchShares.{frame_address}
use Rattle.machine_state.specs.Ownership.{IsAmong, Claim, to_write, to_read, to_use, claims, rival, Under, child}
use Rattle.machine_state.specs.Ownership.{deeper, Counted, InBlock, KeepsPlace, in_block, in_channel, Lent, IsWord}
use Rattle.machine_state.specs.Ownership.{OwnEnd, AtPlace, Holders}
use Rattle.machine_state.proofs.Claims.{twice, nothing_claimed, IsBehind}
use Rattle.machine_state.proofs.Holders.{above_is_less, reaches, is_idle, held_write, keeper, lent_by}

-- ---- what a move changes

-- the process gives back what it had, and has no join open
pub record GivesBack (own later : ℕ → Holding) (opened : ℕ → Option Join) (p : ℕ) : Type 0 where
  pub none : opened p ≡ None
  pub here : later p ≡ nothing
  pub others : (q : ℕ) → p ≢ q → later q ≡ own q

-- its join goes on, with other members, and with less to give
pub record GoesOn (own : ℕ → Holding) (opener : ℕ → Option ℕ) (opened later : ℕ → Option Join) (p : ℕ) (j k : Join)
    : Type 0 where
  pub is : opened p ≡ Some j
  pub here : later p ≡ Some k
  pub others : (q : ℕ) → p ≢ q → later q ≡ opened q
  pub block : k.block ≡ j.block
  pub base : k.base ≡ j.base
  pub row : k.row ≡ j.row
  pub less : (c : Claim) → claims k.rest c ≡ true → claims j.rest c ≡ true
  pub counts : (s : ℕ) (c : Claim) → opener s ≡ Some p → claims (own s) c ≡ true → IsAmong s j.members
      → IsAmong s k.members

-- its join closes, of which no member is left
pub record Closes (opened later : ℕ → Option Join) (owner owns : ℕ → Option ℕ) (p : ℕ) (j : Join) : Type 0 where
  pub is : opened p ≡ Some j
  pub nobody : (s : ℕ) → IsAmong s j.members → ⊥
  pub here : later p ≡ None
  pub others : (q : ℕ) → p ≢ q → later q ≡ opened q
  pub owned : (n q : ℕ) → owns n ≡ Some q → (owner n ≡ Some q) × (p ≢ q)
  pub still : (n q : ℕ) → p ≢ q → owner n ≡ Some q → owns n ≡ Some q

-- it opens a join, whose channels lie in words of its own
pub record Opens (pars : List Par) (own : ℕ → Holding) (opened later : ℕ → Option Join) (owner owns : ℕ → Option ℕ)
    (p : ℕ) (j : Join) : Type 0 where
  pub none : opened p ≡ None
  pub here : later p ≡ Some j
  pub others : (q : ℕ) → p ≢ q → later q ≡ opened q
  pub owned : (n q : ℕ) → owns n ≡ Some q
      → (owner n ≡ Some q) ⊎ ((p ≡ q) × ((x : ℕ) → x / 4 ≡ n → may_write (own p) x ≡ true))
  pub still : (n q : ℕ) → owner n ≡ Some q → owns n ≡ Some q
  pub rest : (c : Claim) → claims j.rest c ≡ true → (claims (own p) c ≡ true) ⊎ OwnEnd owns p c
  pub block : (x : ℕ) → InBlock j x → may_write (own p) x ≡ true
  pub hides : (x : ℕ) → may_read j.rest x ≡ true → KeepsPlace later owns p x → ⊥
  pub both : (x : ℕ) → InBlock j x → owns (x / 4) ≡ Some p → ⊥
  pub place : AtPlace pars j

-- What a branch is given was its opener's to give, and no process under the opener claims what clashes with it.
pub record IsGiven (own : ℕ → Holding) (opener : ℕ → Option ℕ) (opened : ℕ → Option Join) (owner : ℕ → Option ℕ)
    (p : ℕ) (j : Join) (c : Claim) : Type 0 where
  pub from : (claims (own p) c ≡ true) ⊎ OwnEnd owner p c
  pub below : (s : ℕ) → Under opener p s → claims (own s) (rival c) ≡ true → ⊥
  pub rest : claims j.rest (rival c) ≡ true → ⊥
  pub kept : (x : ℕ) → c ≡ to_read x → KeepsPlace opened owner p x → ⊥

-- a branch comes, with a new number
pub record Comes (size : ℕ) (own later : ℕ → Holding) (opener by : ℕ → Option ℕ) (opened : ℕ → Option Join)
    (owner : ℕ → Option ℕ) (p new : ℕ) (j : Join) (given : Holding) : Type 0 where
  pub is : opened p ≡ Some j
  pub low : p < new
  pub fresh : (s o : ℕ) → opener s ≡ Some o → s < new
  pub shut : opened new ≡ None
  pub here : later new ≡ given
  pub others : (q : ℕ) → new ≢ q → later q ≡ own q
  pub opens_new : by new ≡ Some p
  pub by_others : (q : ℕ) → new ≢ q → by q ≡ opener q
  pub member : IsAmong new j.members
  pub from : (c : Claim) → claims given c ≡ true → IsBehind size c ⊎ IsGiven own opener opened owner p j c

module _ {size : ℕ} {pars : List Par} {own : ℕ → Holding} {opener : ℕ → Option ℕ} {opened : ℕ → Option Join}
    {owner : ℕ → Option ℕ} (t : Holders size pars own opener opened owner) where
  end_still : (later : ℕ → Option ℕ) (q : ℕ) (c : Claim)
      → ((k : ℕ) → owner k ≡ Some q → later k ≡ Some q) → OwnEnd owner q c → OwnEnd later q c
  end_still later q (to_write x) still end = end
  end_still later q (to_read x) still end = end
  end_still later q (to_use e) still end = (still (cell_of e.address) end.0, end.1)

  -- an end that one holds is outside or lent, also in another's hands, if those above it are above the other too
  stays_lent : (by owns : ℕ → Option ℕ) (s other : ℕ) (e : End)
      → ((q : ℕ) → Under opener q s → Under by q other)
      → ((q : ℕ) → Under opener q s → owner (cell_of e.address) ≡ Some q → owns (cell_of e.address) ≡ Some q)
      → has_end (own s) e ≡ true
      → (size ≤ place_of e.address) ⊎ (Lent by owns other (cell_of e.address) × IsWord e.address)
  stays_lent by owns s other e under still held = elim (t.ends s e held) [
    | inl outside ↦ inl outside
    | inr lent ↦ inr (
      record {
        process = lent.0.process;
        owned = still lent.0.process lent.0.above lent.0.owned;
        above = under lent.0.process lent.0.above;
      },
      lent.1,
    )
  ]

  -- other hands keep what joins rest on, if those who have a join open lose nothing
  abbrev KeepOpen : (ℕ → Holding) → Type 0
  KeepOpen later =
      (q : ℕ) (x : Join) (c : Claim) → opened q ≡ Some x → claims (own q) c ≡ true → claims (later q) c ≡ true

  still_within : (later : ℕ → Holding) → KeepOpen later → (q : ℕ) (x : Join) (c : Claim) → opened q ≡ Some x
      → claims x.rest c ≡ true → (claims (later q) c ≡ true) ⊎ OwnEnd owner q c
  still_within later keeps q x c now rest = elim (t.within q x c now rest) [
    | inl mine ↦ inl (keeps q x c now mine)
    | inr end ↦ inr end
  ]

  still_kept : (later : ℕ → Holding) → KeepOpen later → (q x : ℕ) → KeepsPlace opened owner q x
      → may_write (later q) x ≡ true
  still_kept later keeps q x place =
      let k = keeper t q x place in keeps q k.0 (to_write x) k.1 (t.kept q x place)

  -- ---- a process gives back what it had, and has no join open

  module _ (p : ℕ) (later : ℕ → Holding) (g : GivesBack own later opened p) where
    was : (q : ℕ) (c : Claim) → claims (later q) c ≡ true → claims (own q) c ≡ true
    was q c claimed = elim (cases_eq p q) [
      | inl e ↦ absurd (nothing_claimed c
          (subst (λ (h : Holding). claims h c ≡ true) g.here (subst (λ n. claims (later n) c ≡ true) (sym e) claimed)))
      | inr differ ↦ subst (λ (h : Holding). claims h c ≡ true) (g.others q differ) claimed
    ]

    is_other : (q : ℕ) (j : Join) → opened q ≡ Some j → p ≢ q
    is_other q j is e = let x : None ≡ Some j = sym g.none ∙ (ap opened e ∙ is) in cc

    now : (q : ℕ) (c : Claim) → p ≢ q → claims (own q) c ≡ true → claims (later q) c ≡ true
    now q c differ claimed = subst (λ (h : Holding). claims h c ≡ true) (sym (g.others q differ)) claimed

    open_ones_keep : KeepOpen later
    open_ones_keep q x c is mine = now q c (is_other q x is) mine

    pub given_back : Holders size pars later opener opened owner
    given_back = record {
      rises = t.rises;
      counted = λ s o c is claimed. t.counted s o c is (was s c claimed);
      inside = λ q x written. t.inside q x (was q (to_write x) written);
      ends = λ q e held. t.ends q e (was q (to_use e) held);
      within = still_within later open_ones_keep;
      kept = still_kept later open_ones_keep;
      hidden = t.hidden;
      both = t.both;
      opens = t.opens;
      apart = λ a b differ up down c x y. t.apart a b differ up down c (was a c x) (was b (rival c) y);
      below = λ q s j c u is x y. t.below q s j c u is (was s c x) y;
      below_kept = λ q s x u read keeps. t.below_kept q s x u (was s (to_read x) read) keeps;
      places = t.places;
    }

  -- ---- a join goes on, with other members, and with less to give

  module _ (p : ℕ) (j k : Join) (later : ℕ → Option Join) (g : GoesOn own opener opened later p j k) where
    record Was (q : ℕ) (x : Join) : Type 0 where
      join : Join
      was : opened q ≡ Some join
      block : x.block ≡ join.block
      base : x.base ≡ join.base
      row : x.row ≡ join.row
      less : (c : Claim) → claims x.rest c ≡ true → claims join.rest c ≡ true

    it_was : (q : ℕ) (x : Join) → later q ≡ Some x → Was q x
    it_was q x now = elim (cases_eq p q) [
      | inl e ↦ subst (λ (x : Join). Was q x)
          (same_some (later q) k x (subst (λ n. later n ≡ Some k) e g.here) now) (record {
            join = j;
            was = subst (λ n. opened n ≡ Some j) e g.is;
            block = g.block;
            base = g.base;
            row = g.row;
            less = g.less;
          })
      | inr differ ↦ record {
        join = x;
        was = sym (g.others q differ) ∙ now;
        block = refl;
        base = refl;
        row = refl;
        less = λ c claimed. claimed;
      }
    ]

    still_open : (q : ℕ) (x : Join) → opened q ≡ Some x → (y : Join) × (later q ≡ Some y)
    still_open q x now = elim (cases_eq p q) [
      | inl e ↦ (k, subst (λ n. later n ≡ Some k) e g.here)
      | inr differ ↦ (x, g.others q differ ∙ now)
    ]

    in_same : (x y : Join) (place : ℕ) → x.block ≡ y.block → InBlock x place → InBlock y place
    in_same x y place same inside =
        subst (λ a. (place_of a ≤ place) × (place < place_of a + 8)) same inside

    was_kept : (q x : ℕ) → KeepsPlace later owner q x → KeepsPlace opened owner q x
    was_kept q x (in_block y now inside) =
        let w = it_was q y now in in_block w.join w.was (in_same y w.join x w.block inside)
    was_kept q x (in_channel owned) = in_channel owned

    counted_still : (s o : ℕ) (c : Claim) → opener s ≡ Some o → claims (own s) c ≡ true → Counted later o s
    counted_still s o c by claimed = elim (cases_eq p o) [
      | inl e ↦ record {
        join = k;
        is_open = subst (λ n. later n ≡ Some k) e g.here;
        member = (
            let mine = subst (λ n. opener s ≡ Some n) (sym e) by in
            let counts = t.counted s p c mine claimed in
            g.counts s c mine claimed (subst (λ (x : Join). IsAmong s x.members)
            (same_some (opened p) counts.join j counts.is_open g.is) counts.member));
      }
      | inr differ ↦
          let counts = t.counted s o c by claimed in
          record { join = counts.join; is_open = g.others o differ ∙ counts.is_open; member = counts.member }
    ]

    pub goes_on : Holders size pars own opener later owner
    goes_on = record {
      rises = t.rises;
      counted = counted_still;
      inside = t.inside;
      ends = t.ends;
      within = λ q x c now rest. let w = it_was q x now in t.within q w.join c w.was (w.less c rest);
      kept = λ q x keeps. t.kept q x (was_kept q x keeps);
      hidden = λ q y x now read keeps.
          let w = it_was q y now in t.hidden q w.join x w.was (w.less (to_read x) read) (was_kept q x keeps);
      both = λ q y x now inside owned.
          let w = it_was q y now in t.both q w.join x w.was (in_same y w.join x w.block inside) owned;
      opens = λ n q owned. let o = t.opens n q owned in still_open q o.0 o.1;
      apart = t.apart;
      below = λ q s y c u now x z. let w = it_was q y now in t.below q s w.join c u w.was x (w.less (rival c) z);
      below_kept = λ q s x u read keeps. t.below_kept q s x u read (was_kept q x keeps);
      places = λ q y now.
          let w = it_was q y now in
          let at = t.places q w.join w.was in
          record {
            par = at.par;
            row = subst (λ n. slice_get pars n ≡ Some at.par) (sym w.row) at.row;
            even = subst (λ n. n % 4 ≡ 0) (sym w.base) at.even;
            block = w.block ∙ (at.block ∙ ap (λ n. frame_address n at.par.block)
                (sym w.base));
          };
    }

    -- what it had to give, and has no more
    pub gives : (c : Claim) → claims j.rest c ≡ true → (claims k.rest (rival c) ≡ true → ⊥)
        → IsGiven own opener later owner p k c
    gives c claimed gone = record {
      from = t.within p j c g.is claimed;
      below = λ s u other. t.below p s j (rival c) u g.is other (twice j.rest c claimed);
      rest = gone;
      kept = λ x e keeps. t.hidden p j x g.is (subst (λ (d : Claim). claims j.rest d ≡ true) e claimed)
          (was_kept p x keeps);
    }

  -- ---- a join closes, of which no member is left

  module _ (p : ℕ) (j : Join) (later : ℕ → Option Join) (owns : ℕ → Option ℕ)
      (g : Closes opened later owner owns p j) where
    alone : (s : ℕ) (c : Claim) → Under opener p s → claims (own s) c ≡ true → ⊥
    alone s c above claimed =
        let r = reaches t p s c above claimed in
        g.nobody r.0 (subst (λ (x : Join). IsAmong r.0 x.members)
        (same_some (opened p) r.2.join j r.2.is_open g.is) r.2.member)

    was_open : (q : ℕ) (x : Join) → later q ≡ Some x → (opened q ≡ Some x) × (p ≢ q)
    was_open q x now = elim (cases_eq p q) [
      | inl e ↦ absurd (let z : None ≡ Some x = sym g.here ∙ (ap later e ∙ now) in cc)
      | inr differ ↦ (sym (g.others q differ) ∙ now, differ)
    ]

    stays_open : (q : ℕ) (x : Join) → p ≢ q → opened q ≡ Some x → later q ≡ Some x
    stays_open q x differ now = g.others q differ ∙ now

    kept_before : (q x : ℕ) → KeepsPlace later owns q x → KeepsPlace opened owner q x
    kept_before q x (in_block y now inside) = in_block y (was_open q y now).0 inside
    kept_before q x (in_channel at) = in_channel (g.owned (x / 4) q at).0

    counts_still : (s o : ℕ) (c : Claim) → opener s ≡ Some o → claims (own s) c ≡ true → Counted later o s
    counts_still s o c by claimed =
        let c1 = t.counted s o c by claimed in
        record {
          join = c1.join;
          is_open = stays_open o c1.join
              (λ e. alone s c (subst (λ n. Under opener n s) (sym e) (child s by)) claimed) c1.is_open;
          member = c1.member;
        }

    pub closes : Holders size pars own opener later owns
    closes = record {
      rises = t.rises;
      counted = counts_still;
      inside = t.inside;
      ends = λ s e held. stays_lent opener owns s s e (λ q above. above)
          (λ q above. g.still (cell_of e.address) q
          (λ same. alone s (to_use e) (subst (λ n. Under opener n s) (sym same) above) held)) held;
      within = λ q x c now rest.
          let w = was_open q x now in
          elim (t.within q x c w.0 rest) [
            | inl mine ↦ inl mine
            | inr end ↦ inr (end_still owns q c (λ n at. g.still n q w.1 at) end)
          ];
      kept = λ q x keeps. t.kept q x (kept_before q x keeps);
      hidden = λ q y x now read keeps. t.hidden q y x (was_open q y now).0 read (kept_before q x keeps);
      both = λ q y x now inside at. t.both q y x (was_open q y now).0 inside (g.owned (x / 4) q at).0;
      opens = λ n q at.
          let b = g.owned n q at in
          let o = t.opens n q b.0 in
          (o.0, stays_open q o.0 b.1 o.1);
      apart = t.apart;
      below = λ q s y c u now x z. t.below q s y c u (was_open q y now).0 x z;
      below_kept = λ q s x u read keeps. t.below_kept q s x u read (kept_before q x keeps);
      places = λ q y now. t.places q y (was_open q y now).0;
    }

  -- ---- a join opens

  module _ (p : ℕ) (j : Join) (later : ℕ → Option Join) (owns : ℕ → Option ℕ)
      (g : Opens pars own opened later owner owns p j) where
    open_before : (q : ℕ) (x : Join) → p ≢ q → later q ≡ Some x → opened q ≡ Some x
    open_before q x differ now = sym (g.others q differ) ∙ now

    open_after : (q : ℕ) (x : Join) → opened q ≡ Some x → later q ≡ Some x
    open_after q x now = g.others q (λ e. let z : None ≡ Some x = sym g.none ∙ (ap opened e ∙ now) in cc) ∙ now

    -- what is said of its join is said of the new one
    it_is : (P : ℕ → Join → Type 0) → P p j → (q : ℕ) (x : Join) → p ≡ q → later q ≡ Some x → P q x
    it_is P told q x e now =
        let same = same_some (later q) j x (subst (λ n. later n ≡ Some j) e g.here) now in
        subst (λ (x : Join). P q x) same (subst (λ n. P n j) e told)

    kept_old : (q x : ℕ) → p ≢ q → KeepsPlace later owns q x → KeepsPlace opened owner q x
    kept_old q x differ (in_block y now inside) = in_block y (open_before q y differ now) inside
    kept_old q x differ (in_channel at) = elim (g.owned (x / 4) q at) [
      | inl old ↦ in_channel old
      | inr new ↦ absurd (differ new.0)
    ]

    kept_new : (q x : ℕ) → p ≡ q → KeepsPlace later owns q x → may_write (own q) x ≡ true
    kept_new q x e (in_block y now inside) = it_is (λ n y. InBlock y x → may_write (own n) x ≡ true)
        (λ inside. g.block x inside) q y e now inside
    kept_new q x e (in_channel at) = elim (g.owned (x / 4) q at) [
      | inl old ↦ t.kept q x (in_channel old)
      | inr new ↦ subst (λ n. may_write (own n) x ≡ true) e (new.1 x refl)
    ]

    counts_on : (s o : ℕ) (c : Claim) → opener s ≡ Some o → claims (own s) c ≡ true → Counted later o s
    counts_on s o c by claimed =
        let c1 = t.counted s o c by claimed in
        record { join = c1.join; is_open = open_after o c1.join c1.is_open; member = c1.member }

    pub opens : Holders size pars own opener later owns
    opens = record {
      rises = t.rises;
      counted = counts_on;
      inside = t.inside;
      ends = λ s e. stays_lent opener owns s s e (λ q above. above) (λ q above. g.still (cell_of e.address) q);
      within = λ q x c now claimed. elim (cases_eq p q) [
        | inl e ↦ it_is (λ n y. claims y.rest c ≡ true → (claims (own n) c ≡ true) ⊎ OwnEnd owns n c) (g.rest c) q x e
            now claimed
        | inr differ ↦ elim (t.within q x c (open_before q x differ now) claimed) [
          | inl mine ↦ inl mine
          | inr end ↦ inr (end_still owns q c (λ n at. g.still n q at) end)
        ]
      ];
      kept = λ q x keeps. elim (cases_eq p q) [
        | inl e ↦ kept_new q x e keeps
        | inr differ ↦ t.kept q x (kept_old q x differ keeps)
      ];
      hidden = λ q y x now read keeps. elim (cases_eq p q) [
        | inl e ↦ it_is (λ n y. may_read y.rest x ≡ true → KeepsPlace later owns n x → ⊥)
            (g.hides x) q y e now read keeps
        | inr differ ↦ t.hidden q y x (open_before q y differ now) read (kept_old q x differ keeps)
      ];
      both = λ q y x now inside at. elim (cases_eq p q) [
        | inl e ↦ it_is (λ n y. InBlock y x → owns (x / 4) ≡ Some n → ⊥) (g.both x) q y e now inside at
        | inr differ ↦ elim (g.owned (x / 4) q at) [
          | inl old ↦ t.both q y x (open_before q y differ now) inside old
          | inr new ↦ differ new.0
        ]
      ];
      opens = λ n q at. elim (g.owned n q at) [
        | inl old ↦ let o = t.opens n q old in (o.0, open_after q o.0 o.1)
        | inr new ↦ (j, subst (λ n. later n ≡ Some j) new.0 g.here)
      ];
      apart = t.apart;
      below = λ q s y c u now x z. elim (cases_eq p q) [
        | inl e ↦ is_idle t p s c (subst (λ n. Under opener n s) (sym e) u) g.none x
        | inr differ ↦ t.below q s y c u (open_before q y differ now) x z
      ];
      below_kept = λ q s x u read keeps. elim (cases_eq p q) [
        | inl e ↦ is_idle t p s (to_read x) (subst (λ n. Under opener n s) (sym e) u) g.none read
        | inr differ ↦ t.below_kept q s x u read (kept_old q x differ keeps)
      ];
      places = λ q y now. elim (cases_eq p q) [
        | inl e ↦ it_is (λ n y. AtPlace pars y) g.place q y e now
        | inr differ ↦ t.places q y (open_before q y differ now)
      ];
    }

  -- ---- a branch comes

  module _ (p new : ℕ) (j : Join) (given : Holding) (later : ℕ → Holding) (by : ℕ → Option ℕ)
      (g : Comes size own later opener by opened owner p new j given) where
    abbrev Given : Claim → Type 0
    Given c = IsGiven own opener opened owner p j c

    -- ---- who is under whom

    under_before : (q s : ℕ) → new ≢ s → Under by q s → Under opener q s
    under_before q s differ (child a by_q) = child a (sym (g.by_others a differ) ∙ by_q)
    under_before q s differ (deeper a o by_o above) =
        let old : opener a ≡ Some o = sym (g.by_others a differ) ∙ by_o in
        let less = t.rises a o old in
        let bound = g.fresh a o old in
        deeper a o old (under_before q o (λ e. omega (arith, less, bound)) above)

    under_after : (q s : ℕ) → Under opener q s → Under by q s
    under_after q s (child a old) =
        let bound = g.fresh a q old in
        child a (g.by_others a (λ e. omega (arith, bound)) ∙ old)
    under_after q s (deeper a o old above) =
        let bound = g.fresh a o old in
        deeper a o (g.by_others a (λ e. omega (arith, bound)) ∙ old) (under_after q o above)

    above_new : (q s : ℕ) → new ≡ s → Under by q s → (p ≡ q) ⊎ Under opener q p
    above_new q s e (child a by_q) =
        inl (same_some (by new) p q g.opens_new (subst (λ n. by n ≡ Some q) (sym e) by_q))
    above_new q s e (deeper a o by_o above) =
        let same : p ≡ o = same_some (by new) p o g.opens_new (subst (λ n. by n ≡ Some o) (sym e) by_o) in
        inr (subst (λ n. Under opener q n) (sym same)
        (under_before q o (λ e. let z : p ≡ o = same in omega (arith, g.low)) above))

    is_under : Under by p new
    is_under = child new g.opens_new

    under_new : (q : ℕ) → Under opener q p → Under by q new
    under_new q above = deeper new p g.opens_new (under_after q p above)

    -- ---- what is claimed

    claimed_before : (q : ℕ) (c : Claim) → new ≢ q → claims (later q) c ≡ true → claims (own q) c ≡ true
    claimed_before q c differ claimed = subst (λ (h : Holding). claims h c ≡ true) (g.others q differ) claimed

    claimed_after : (q : ℕ) (c : Claim) → new ≢ q → claims (own q) c ≡ true → claims (later q) c ≡ true
    claimed_after q c differ claimed = subst (λ (h : Holding). claims h c ≡ true) (sym (g.others q differ)) claimed

    given_it : (q : ℕ) (c : Claim) → new ≡ q → claims (later q) c ≡ true → IsBehind size c ⊎ Given c
    given_it q c e claimed = g.from c (subst (λ (h : Holding). claims h c ≡ true) g.here
        (subst (λ n. claims (later n) c ≡ true) (sym e) claimed))

    has_none : (q : ℕ) (x : Join) → opened q ≡ Some x → new ≢ q
    has_none q x now e = let z : None ≡ Some x = sym g.shut ∙ (ap opened e ∙ now) in cc

    -- no process may write the constants
    behind : (q : ℕ) (c : Claim) → IsBehind size c → claims (own q) (rival c) ≡ true → ⊥
    behind q (to_write x) far claimed = far
    behind q (to_read x) far claimed = let near = t.inside q x claimed in omega (arith, near, far)
    behind q (to_use e) far claimed = far

    behind_rest : (q : ℕ) (x : Join) (c : Claim) → opened q ≡ Some x → IsBehind size c
        → claims x.rest (rival c) ≡ true → ⊥
    behind_rest q x (to_write n) now far claimed = far
    behind_rest q x (to_read n) now far claimed =
        let near = t.inside q n (held_write t q x n now claimed) in omega (arith, near, far)
    behind_rest q x (to_use e) now far claimed = far

    -- no process beside the opener has an end of the opener's channels
    end_beside : (s : ℕ) (c : Claim) → OwnEnd owner p c → (Under opener p s → ⊥) → claims (own s) (rival c) ≡ true → ⊥
    end_beside s (to_write x) end apart claimed = end
    end_beside s (to_read x) end apart claimed = end
    end_beside s (to_use e) end apart claimed = apart (lent_by t s p e claimed end.0)

    end_above : (q : ℕ) (x : Join) (c : Claim) → OwnEnd owner p c → Under opener q p → opened q ≡ Some x
        → claims x.rest (rival c) ≡ true → ⊥
    end_above q x (to_write n) end above now claimed = end
    end_above q x (to_read n) end above now claimed = end
    end_above q x (to_use e) end above now claimed =
        let less = above_is_less t q p above in
        elim (t.within q x (to_use e) now claimed) [
          | inl mine ↦ let more = above_is_less t p q (lent_by t q p e mine end.0) in omega (arith, less, more)
          | inr own_end ↦
              let same = same_some (owner (cell_of e.address)) p q end.0 own_end.0 in omega (arith, less, same)
        ]

    -- the new process and one that is neither its opener nor above it
    beside : (s : ℕ) (c : Claim) → p ≢ s → (Under opener s p → ⊥) → IsBehind size c ⊎ Given c
        → claims (own s) (rival c) ≡ true → ⊥
    beside s c differ up (inl far) claimed = behind s c far claimed
    beside s c differ up (inr gift) claimed =
        let apart : Under opener p s → ⊥ = λ u. gift.below s u claimed in
        elim gift.from [
          | inl mine ↦ t.apart p s differ apart up c mine claimed
          | inr end ↦ end_beside s c end apart claimed
        ]

    -- the new process and one above it
    under : (q : ℕ) (x : Join) (c : Claim) → (p ≡ q) ⊎ Under opener q p → opened q ≡ Some x
        → IsBehind size c ⊎ Given c → claims x.rest (rival c) ≡ true → ⊥
    under q x c above now (inl far) claimed = behind_rest q x c now far claimed
    under q x c (inl e) now (inr gift) claimed =
        let same = same_some (opened q) j x (subst (λ n. opened n ≡ Some j) e g.is) now in
        gift.rest (subst (λ (y : Join). claims y.rest (rival c) ≡ true) (sym same) claimed)
    under q x c (inr above) now (inr gift) claimed = elim gift.from [
      | inl mine ↦ t.below q p x c above now mine claimed
      | inr end ↦ end_above q x c end above now claimed
    ]

    under_kept : (q x : ℕ) → (p ≡ q) ⊎ Under opener q p → IsBehind size (to_read x) ⊎ Given (to_read x)
        → KeepsPlace opened owner q x → ⊥
    under_kept q x above (inl far) keeps =
        let near = t.inside q x (t.kept q x keeps) in omega (arith, near, far)
    under_kept q x (inl e) (inr gift) keeps = gift.kept x refl (subst (λ n. KeepsPlace opened owner n x) (sym e) keeps)
    under_kept q x (inr above) (inr gift) keeps = elim gift.from [
      | inl mine ↦ t.below_kept q p x above mine keeps
      | inr end ↦ end
    ]

    new_ends : (e : End) → IsBehind size (to_use e) ⊎ Given (to_use e)
        → (size ≤ place_of e.address) ⊎ (Lent by owner new (cell_of e.address) × IsWord e.address)
    new_ends e (inl far) = absurd far
    new_ends e (inr gift) = elim gift.from [
      | inl mine ↦ stays_lent by owner p new e under_new (λ q above owned. owned) mine
      | inr end ↦ inr (record { process = p; owned = end.0; above = is_under }, end.1)
    ]

    new_inside : (x : ℕ) → IsBehind size (to_write x) ⊎ Given (to_write x) → x < size
    new_inside x (inl far) = absurd far
    new_inside x (inr gift) = elim gift.from [ inl mine ↦ t.inside p x mine | inr end ↦ absurd end ]

    old_ones_keep : KeepOpen later
    old_ones_keep q x c now mine = claimed_after q c (has_none q x now) mine

    pub comes : Holders size pars later by opened owner
    comes = record {
      rises = λ s o by_o. elim (cases_eq new s) [
        | inl e ↦
            let same = same_some (by new) p o g.opens_new (subst (λ n. by n ≡ Some o) (sym e) by_o) in
            omega (arith, same, e, g.low)
        | inr differ ↦ t.rises s o (sym (g.by_others s differ) ∙ by_o)
      ];
      counted = λ s o c by_o claimed. elim (cases_eq new s) [
        | inl e ↦
            let same = same_some (by new) p o g.opens_new (subst (λ n. by n ≡ Some o) (sym e) by_o) in
            subst (λ n. Counted opened n s) same (subst (λ n. Counted opened p n) e
            (record { join = j; is_open = g.is; member = g.member }))
        | inr differ ↦ t.counted s o c (sym (g.by_others s differ) ∙ by_o) (claimed_before s c differ claimed)
      ];
      inside = λ q x written. elim (cases_eq new q) [
        | inl e ↦ new_inside x (given_it q (to_write x) e written)
        | inr differ ↦ t.inside q x (claimed_before q (to_write x) differ written)
      ];
      ends = λ s e held. elim (cases_eq new s) [
        | inl same ↦ subst (λ n. (size ≤ place_of e.address) ⊎ (Lent by owner n (cell_of e.address) × IsWord e.address))
            same (new_ends e (given_it s (to_use e) same held))
        | inr differ ↦ stays_lent by owner s s e (λ q above. under_after q s above) (λ q above owned. owned)
            (claimed_before s (to_use e) differ held)
      ];
      within = still_within later old_ones_keep;
      kept = still_kept later old_ones_keep;
      hidden = t.hidden;
      both = t.both;
      opens = t.opens;
      apart = λ a b differ up down c x y. elim (cases_eq new a) [
        | inl e ↦ beside b c
            (λ same. up_is a b e same down)
            (λ u. down (subst (λ n. Under by b n) e (under_new b u))) (given_it a c e x)
            (claimed_before b (rival c) (λ same. differ (sym e ∙ same)) y)
        | inr other ↦ elim (cases_eq new b) [
          | inl e ↦ beside a (rival c)
              (λ same. up_is b a e same up)
              (λ u. up (subst (λ n. Under by a n) e (under_new a u))) (given_it b (rival c) e y)
              (twice (own a) c (claimed_before a c other x))
          | inr another ↦ t.apart a b differ (λ u. up (under_after a b u)) (λ u. down (under_after b a u)) c
              (claimed_before a c other x) (claimed_before b (rival c) another y)
        ]
      ];
      below = λ q s x c u now y z. elim (cases_eq new s) [
        | inl e ↦ under q x c (above_new q s e u) now (given_it s c e y) z
        | inr differ ↦ t.below q s x c (under_before q s differ u) now (claimed_before s c differ y) z
      ];
      below_kept = λ q s x u read keeps. elim (cases_eq new s) [
        | inl e ↦ under_kept q x (above_new q s e u) (given_it s (to_read x) e read) keeps
        | inr differ ↦ t.below_kept q s x (under_before q s differ u) (claimed_before s (to_read x) differ read) keeps
      ];
      places = t.places;
    }
      where
        -- no process beside the new process is its opener
        up_is : (a b : ℕ) → new ≡ a → p ≡ b → (Under by b a → ⊥) → ⊥
        up_is a b e same apart = apart (subst (λ n. Under by b n) e (subst (λ n. Under by n new) same is_under))
