-- What a share takes of a holding, and what is left of it: nothing that the one claims clashes with the other.
use Rattle.std.proofs.Common.{◌≡◌, ℕ, ◌+◌, ◌-◌, ◌<◌, ◌≤◌, ◌&&◌, Bool, true, false, ◌⊎◌, inl, inr, ℤ, pos, negsuc, ◌+ℤ◌}
use Rattle.std.proofs.Common.{int_le, List, [], ◌∷◌, ◌++◌, map, refl, sym, ap, ap₂, subst, arith, eqb-true, nat_lt}
use Rattle.std.proofs.Common.{not, if◌then◌else◌}
use Rattle.std.proofs.lemmas.Bool.{cases_lt, lt-ltb, leb-true, le-leb, and_parts, and_from, or_cases}
use Rattle.std.specs.Prelude.{◌==◌}
use Rattle.std.specs.List.{list_any, list_all}
use Rattle.std.proofs.lemmas.Bool.{or_left}
use Rattle.small_laws.proofs.Comparisons.{eqb-self}
use Rattle.module_format.specs.declared.rows.Direction.{Direction}
use Rattle.module_format.specs.declared.rows.Direction.TheVariants.{In, Out}
use Rattle.module_format.specs.Contents.{Contents, Par}
use Rattle.machine_state.specs.declared.holding.End.{End}
use Rattle.machine_state.specs.Memory.{place_of}
use Rattle.machine_state.specs.Holding.{Holding, may_write, may_read, has_end, same_direction}
use Rattle.machine_state.specs.Spans.{Stretch, Share, less, lies_in, all_pass_within, stretches_over, writes_place}
use Rattle.machine_state.specs.Spans.{reads_place, is_same_end, is_among_ends, all_places}
use Rattle.machine_state.specs.World.{constants_start}
use Rattle.machine_state.specs.BranchShares.{holding_of}
use Rattle.machine_state.specs.StartPlans.{hidden, block_addresses, channel_addresses, with_ends}
use Rattle.machine_state.proofs.SpanLaws.{runs_tell}
use Rattle.machine_state.proofs.Writing.{all_at}
use Rattle.machine_state.proofs.Among.{among_more, all_among, any_among, mapped_among, any_all, filtered}
use Rattle.machine_state.specs.Ownership.{IsAmong, Claim, to_write, to_read, to_use, claims, rival}
use Rattle.machine_state.proofs.Claims.{IsBehind}

-- ---- ends

direction_is : (a b : Direction) → same_direction a b ≡ true → a ≡ b
direction_is In In same = refl
direction_is Out Out same = refl
direction_is In Out same = absurd (cc)
direction_is Out In same = absurd (cc)

same_as_itself : (a : Direction) → same_direction a a ≡ true
same_as_itself In = refl
same_as_itself Out = refl

end_is : (x e : End) → ((x.address == e.address) && same_direction x.direction e.direction) ≡ true → x ≡ e
end_is x e same =
    let both = and_parts _ _ same in
    let address : x.address ≡ e.address = eqb-true x.address e.address both.0 in
    let direction : x.direction ≡ e.direction = direction_is x.direction e.direction both.1 in
    ap₂ (λ (a : ℕ) (d : Direction). let y : End = record { address = a; direction = d } in y) address direction

end_itself : (x : End) → ((x.address == x.address) && same_direction x.direction x.direction) ≡ true
end_itself x = and_from _ _ (eqb-self x.address) (same_as_itself x.direction)

pub end_among : (h : Holding) (e : End) → has_end h e ≡ true → IsAmong e h.ends
end_among h e held = on h.ends held
  where
    on : (xs : List End)
        → list_any (λ (x : End). (x.address == e.address) && same_direction x.direction e.direction) xs ≡ true
        → IsAmong e xs
    on [] held = absurd (cc)
    on (x ∷ xs) held = elim (or_cases ((x.address == e.address) && same_direction x.direction e.direction) _ held) [
      | inl here ↦ inl (end_is x e here)
      | inr there ↦ inr (on xs there)
    ]

pub end_held : (h : Holding) (e : End) → IsAmong e h.ends → has_end h e ≡ true
end_held h e among = any_among
    (λ (x : End). (x.address == e.address) && same_direction x.direction e.direction) h.ends e among (end_itself e)

listed_among : (xs : List End) (e : End) → is_among_ends xs e ≡ true → IsAmong e xs
listed_among [] e listed = absurd (cc)
listed_among (x ∷ xs) e listed = elim (or_cases (is_same_end e x) _ listed) [
  | inl here ↦ inl (sym (end_is e x here))
  | inr there ↦ inr (listed_among xs e there)
]

among_listed : (xs : List End) (e : End) → IsAmong e xs → is_among_ends xs e ≡ true
among_listed xs e among = any_among (is_same_end e) xs e among (end_itself e)

-- the ends of new channels beside those that are held
pub with_ends_tells : (addresses : List ℕ) (held : List End) (e : End) → IsAmong e (with_ends addresses held)
    → IsAmong e held ⊎ IsAmong e.address addresses
with_ends_tells [] held e among = inl among
with_ends_tells (a ∷ addresses) held e among =
    on (is_among_ends held (record { address = a; direction = In }))
    (with_ends_tells addresses (if is_among_ends held (record { address = a; direction = In })
    then held
    else held ++ record { address = a; direction = In } ∷ record { address = a; direction = Out } ∷ []) e among)
  where
    two : IsAmong e held ⊎ IsAmong e (record { address = a; direction = In } ∷ record {
      address = a;
      direction = Out;
    } ∷ []) → IsAmong e held ⊎ IsAmong e.address (a ∷ addresses)
    two (inl old) = inl old
    two (inr (inl input)) = inr (inl (ap (λ (x : End). x.address) input))
    two (inr (inr (inl output))) = inr (inl (ap (λ (x : End). x.address) output))
    two (inr (inr (inr none))) = absurd none

    on : (b : Bool) → IsAmong e (if b
        then held
        else held ++ record { address = a; direction = In } ∷ record { address = a; direction = Out } ∷ [])
        ⊎ IsAmong e.address addresses → IsAmong e held ⊎ IsAmong e.address (a ∷ addresses)
    on true (inl old) = inl old
    on false (inl more) = two (among_more e held _ more)
    on b (inr later) = inr (inr later)

-- ---- stretches

test_at : (test : ℕ → Bool) (first size x : ℕ) → all_places test first size ≡ true → first ≤ x → x < first + size
    → test x ≡ true
test_at test first size x all low high =
    let at : first + (x - first) ≡ x = omega arith in
    subst (λ n. test n ≡ true) at (all_at test first size (x - first) all (omega arith))

int_le_tells : (j k : ℕ) → int_le (pos j) (pos k) ≡ true → j ≤ k
int_le_tells j k is = leb-true j k is

int_le_there : (j k : ℕ) → j ≤ k → int_le (pos j) (pos k) ≡ true
int_le_there j k low = le-leb j k low

within_passes : (n : ℕ) (test : ℕ → Bool) (start : ℤ) (size x : ℕ)
    → all_pass_within n test (record { start = start; size = size }) ≡ true
    → stretches_over (record { start = start; size = size }) x ≡ true → test x ≡ true
within_passes n test (pos first) size x within over =
    let all = (and_parts (lies_in n (record { start = pos first; size = size }))
    (all_places test first size) within).1 in
    let ends = and_parts (int_le (pos first) (pos x)) (int_le (pos (x + 1)) (pos first +ℤ pos size)) over in
    let high : x + 1 ≤ first + size = int_le_tells (x + 1) (first + size) ends.1 in
    test_at test first size x all (int_le_tells first x ends.0) (omega arith)
within_passes n test (negsuc k) size x within over = absurd (cc)

-- ---- what is left

cannot_be : (b : Bool) → b ≡ true → not b ≡ true → ⊥
cannot_be true p q = cc
cannot_be false p q = cc

not_below : (x y : ℕ) → not (nat_lt x y) ≡ true → y ≤ x
not_below x y h = elim (cases_lt x y) [
  | inl below ↦ absurd (cannot_be (nat_lt x y) (lt-ltb x y below) h)
  | inr above ↦ above
]

module _ (n : ℕ) (h : Holding) (share : Share) where
  left_write : (x : ℕ) → may_write (less n h share) x ≡ true
      → (may_write h x ≡ true) × (not (writes_place share x) ≡ true) × (not (reads_place share x) ≡ true)
  unfolding less
  left_write x own =
      let passes = (runs_tell _ 0 n x own).passes in
      let both = and_parts _ _ passes in
      let first = and_parts _ _ both.0 in
      (first.0, first.1, both.1)

  left_read : (x : ℕ) → may_read (less n h share) x ≡ true
      → (may_read h x ≡ true) × (not (writes_place share x) ≡ true)
  unfolding less
  left_read x own = elim (or_cases (may_write (less n h share) x) _ own) [
    | inl written ↦ let w = left_write x written in (or_left _ _ w.0, w.1)
    | inr read ↦
        let passes = (runs_tell _ 0 n x read).passes in
        let first = and_parts _ _ (and_parts _ _ passes).0 in
        (first.0, first.1)
  ]

  left_end : (e : End) → has_end (less n h share) e ≡ true
      → IsAmong e h.ends × (not (is_among_ends share.ends e) ≡ true)
  unfolding less
  left_end e held = filtered (λ end. not (is_among_ends share.ends end)) h.ends e (end_among (less n h share) e held)

  pub left_claims : (c : Claim) → claims (less n h share) c ≡ true → claims h c ≡ true
  left_claims (to_write x) claimed = (left_write x claimed).0
  left_claims (to_read x) claimed = (left_read x claimed).0
  left_claims (to_use e) claimed = end_held h e (left_end e claimed).0

-- ---- what is given

module _ (m : Contents) (n : ℕ) (h : Holding) (share : Share)
    (writes_there : list_all (all_pass_within n (may_write h)) share.writes ≡ true)
    (reads_there : list_all (all_pass_within n (may_read h)) share.reads ≡ true)
    (ends_there : list_all (is_among_ends h.ends) share.ends ≡ true) where
  share_writes : (x : ℕ) → writes_place share x ≡ true → may_write h x ≡ true
  share_writes x there =
      let s = any_all (λ (s : Stretch). stretches_over s x) (all_pass_within n
      (may_write h)) share.writes there writes_there in
      within_passes n (may_write h) s.0.start s.0.size x s.2 s.1

  share_reads : (x : ℕ) → reads_place share x ≡ true → may_read h x ≡ true
  share_reads x there =
      let s = any_all (λ (s : Stretch). stretches_over s x) (all_pass_within n (may_read h)) share.reads there
      reads_there in
      within_passes n (may_read h) s.0.start s.0.size x s.2 s.1

  given_write : (x : ℕ) → may_write (holding_of m n share) x ≡ true → writes_place share x ≡ true
  given_write x own = (runs_tell _ 0 n x own).passes

  given_read : (x : ℕ) → may_read (holding_of m n share) x ≡ true
      → (writes_place share x ≡ true) ⊎ ((reads_place share x ≡ true) ⊎ (constants_start m ≤ x))
  given_read x own = elim (or_cases (may_write (holding_of m n share) x) _ own) [
    | inl written ↦ inl (given_write x written)
    | inr read ↦ elim (or_cases (reads_place share x) _ (and_parts _ _ (runs_tell _ 0 n x read).passes).1) [
      | inl there ↦ inr (inl there)
      | inr constant ↦ inr (inr (not_below x (constants_start m) (and_parts _ _ constant).1))
    ]
  ]

  -- what a branch claims is a constant, or was there and is not left
  pub given_claims : (size : ℕ) → size ≤ constants_start m → (c : Claim) → claims (holding_of m n share) c ≡ true
      → IsBehind size c ⊎ ((claims h c ≡ true) × (claims (less n h share) (rival c) ≡ true → ⊥))
  given_claims size low (to_write x) claimed =
      let there = given_write x claimed in
      inr (share_writes x there, λ left. cannot_be (writes_place share x) there (left_read n h share x left).1)
  given_claims size low (to_read x) claimed = elim (given_read x claimed) [
    | inl there ↦ inr (
      or_left _ _ (share_writes x there),
      λ left. cannot_be (writes_place share x) there (left_write n h share x left).1,
    )
    | inr (inl there) ↦ inr (
      share_reads x there,
      λ left. cannot_be (reads_place share x) there (left_write n h share x left).2,
    )
    | inr (inr constant) ↦ inl (omega (arith, low, constant))
  ]
  given_claims size low (to_use e) claimed =
      let there = end_among (holding_of m n share) e claimed in
      inr (
        end_held h e (listed_among h.ends e (all_among (is_among_ends h.ends) share.ends e ends_there there)),
        λ left. cannot_be (is_among_ends share.ends e) (among_listed share.ends e there) (left_end n h share e left).1,
      )

-- ---- the words that no branch has

abbrev pub word_stretch : ℕ → Stretch
word_stretch a = record { start = pos (place_of a); size = 4 }

pub hidden_is_gone : (n : ℕ) (h : Holding) (base : ℕ) (par : Par) (a x : ℕ)
    → IsAmong a (block_addresses base par ++ channel_addresses base par) → place_of a ≤ x → x < place_of a + 4
    → may_read (less n h (hidden base par)) x ≡ true → ⊥
hidden_is_gone n h base par a x among low high read =
    let addresses = block_addresses base par ++ channel_addresses base par in
    let over : stretches_over (word_stretch a) x ≡ true =
    and_from _ _ (int_le_there (place_of a) x low) (int_le_there (x + 1) (place_of a + 4) (omega arith)) in
    cannot_be (writes_place (hidden base par) x)
    (any_among (λ (s : Stretch). stretches_over s x) (map word_stretch addresses) (word_stretch a)
    (mapped_among word_stretch addresses a among) over)
    (left_read n h (hidden base par) x read).1
