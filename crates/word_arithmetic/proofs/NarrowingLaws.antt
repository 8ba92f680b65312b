-- What is left of a range inside and outside another, and by a comparison.
use Rattle.std.proofs.Common.{◌≡◌, ◌↔◌, ◌⊎◌, inl, inr, Bool, true, false, not, cond, refl, sym, subst, ap, ◌∙◌, arith}
use Rattle.std.proofs.Common.{IsTrue, ℤ, pos, ◌+ℤ◌, ◌-ℤ◌, ◌≤ℤ◌, ◌<ℤ◌, int_le, int_lt, FitsSigned, to_z, of_z}
use Rattle.std.specs.Int.{w32, int_min, int_max}
use Rattle.std.specs.Ordering.{int_eq}
use Rattle.std.proofs.lemmas.Int.{ints, clamps, by_lt_z, to_z-of_z}
use Rattle.std.proofs.lemmas.Bool.{cond_both, not-true, both_ways}
use Rattle.std.proofs.lemmas.Bool.Decides.{Decides-int_eq}
use Rattle.small_laws.proofs.Comparisons.{le-int_le, lt-int_lt}
use Rattle.word_arithmetic.specs.declared.compare.Comparison.{Comparison}
use Rattle.word_arithmetic.specs.declared.compare.Comparison.TheVariants.{Equal, NotEqual, Less, LessOrEqual, Greater}
use Rattle.word_arithmetic.specs.declared.compare.Comparison.TheVariants.{GreaterOrEqual}
use Rattle.word_arithmetic.specs.Comparison.{compares}
use Rattle.word_arithmetic.specs.Range.{Ends, InRange, IsRange, IsLeft, Narrows, in_range, inside, outside, at_least}
use Rattle.word_arithmetic.specs.Range.{at_most, constant, narrowed}
use Rattle.word_arithmetic.proofs.EndsLaws.{in_range_out, not_in_range, fits_between, lo_in, hi_in}

-- ---- ranges with the same members are one

-- two numbers, each up to the other, are one
antisym : (a b : ℤ) → a ≤ℤ b → b ≤ℤ a → a ≡ b
antisym a b h k = omega (arith, ints)

-- ranges with the same ends are one
pub same_ends : (r s : Ends) → r.lo ≡ s.lo → r.hi ≡ s.hi → r ≡ s
same_ends r s p q = λ i. record { lo = p i; hi = q i }

-- ranges with the same members have the same ends
pub one_range : (r s : Ends) → r.lo ≤ℤ r.hi → s.lo ≤ℤ s.hi → ((v : ℤ) → InRange r v ↔ InRange s v) → r ≡ s
one_range r s p q h =
    let a = (h r.lo).0 (lo_in r p) in
    let b = (h r.hi).0 (hi_in r p) in
    let c = (h s.lo).1 (lo_in s q) in
    let d = (h s.hi).1 (hi_in s q) in
    same_ends r s (antisym r.lo s.lo c.from_lo a.from_lo) (antisym r.hi s.hi b.to_hi d.to_hi)

-- ---- the two ways to narrow

-- what is left is the new range
left_narrows : (P : ℤ → Type 0) (r new : Ends) → IsLeft P r new → Narrows P r new
left_narrows P r new h = record {
  members = λ v m p. (h.members v).1 (m, p);
  within = λ v m. ((h.members v).0 m).0;
  left = λ l k. one_range new l h.ordered k.ordered
      (λ v. ((λ m. (k.members v).1 ((h.members v).0 m)), (λ m. (h.members v).1 ((k.members v).0 m))));
  unchanged = λ none. absurd (none new h);
}

-- what is left can only be the old range
old_narrows : (P : ℤ → Type 0) (r : Ends) → ((l : Ends) → IsLeft P r l → r ≡ l) → Narrows P r r
old_narrows P r h = record { members = λ v m p. m; within = λ v m. m; left = h; unchanged = λ none. refl }

-- ---- inside

-- a number lies in both ranges if it lies between the greater lower end and the lesser upper one
in_both : (r k : Ends) (v : ℤ)
    → InRange (record { lo = int_max r.lo k.lo; hi = int_min r.hi k.hi }) v ↔ (InRange r v × InRange k v)
in_both r k v = (
  (λ m. let a = m.from_lo in let b = m.to_hi in (
    record { from_lo = omega (arith, ints, clamps); to_hi = omega (arith, ints, clamps) },
    record {
      from_lo = omega (arith, ints, clamps);
      to_hi = omega (arith, ints, clamps);
    },
  )),
  (λ m. let a = m.0 in let b = m.1 in record {
    from_lo = omega (arith, ints, clamps);
    to_hi = omega (arith, ints, clamps);
  }),
)

-- the part inside is what is left
pub inside_narrows : (r k : Ends) → Narrows (λ v. InRange k v) r (inside r k)
inside_narrows r k =
    let both : Ends = record { lo = int_max r.lo k.lo; hi = int_min r.hi k.hi } in
    cond_both (int_le both.lo both.hi) both r (Narrows (λ v. InRange k v) r)
    (λ e. left_narrows (λ v. InRange k v) r both (record { ordered = omega (arith, ints, e); members = in_both r k }))
    (λ e. old_narrows (λ v. InRange k v) r (λ l h.
    let m = (in_both r k l.lo).1 ((h.members l.lo).0 (lo_in l h.ordered)) in
    absurd (omega (arith, ints, e, m.from_lo, m.to_hi))))

-- ---- outside

-- a number of the range that is not in the other, whose one end holds an end of the range, lies beyond the other end
beyond_hi : (k : Ends) (v : ℤ) → k.lo ≤ℤ v → (InRange k v → ⊥) → k.hi <ℤ v
beyond_hi k v h n = by_lt_z k.hi v (λ p. p) (λ p. absurd (n (record { from_lo = h; to_hi = p })))

beyond_lo : (k : Ends) (v : ℤ) → v ≤ℤ k.hi → (InRange k v → ⊥) → v <ℤ k.lo
beyond_lo k v h n = by_lt_z v k.lo (λ p. p) (λ p. absurd (n (record { from_lo = p; to_hi = h })))

-- a part of the range is what is left if it lies outside the other, and each number of the range lies in one of them
part_left : (r k part : Ends) → part.lo ≤ℤ part.hi
    → ((v : ℤ) → InRange part v → InRange r v × (InRange k v → ⊥))
    → ((v : ℤ) → InRange r v → InRange k v ⊎ InRange part v)
    → IsLeft (λ v. InRange k v → ⊥) r part
part_left r k part o outside either = record {
  ordered = o;
  members = λ v. (outside v, λ p. elim (either v p.0) [ inl q ↦ absurd (p.1 q) | inr q ↦ q ]);
}

-- the other range holds one end of this one: a part is left after it, or before it
data HoldsOneEnd (r k : Ends) : Ends → Type 0 where
  after : k.lo ≤ℤ r.lo → r.lo ≤ℤ k.hi → k.hi <ℤ r.hi → HoldsOneEnd r k (record { lo = k.hi +ℤ pos 1; hi = r.hi })
  before : r.lo <ℤ k.lo → k.lo ≤ℤ r.hi → r.hi ≤ℤ k.hi → HoldsOneEnd r k (record { lo = r.lo; hi = k.lo -ℤ pos 1 })

-- that part is what is left
one_end_left : (r k part : Ends) → HoldsOneEnd r k part → IsLeft (λ v. InRange k v → ⊥) r part
one_end_left r k part (after low high end) =
    part_left r k part (omega (arith, ints))
    (λ v p. let a = p.from_lo in let b = p.to_hi in
    (record { from_lo = omega (arith, ints); to_hi = b }, λ q. let d = q.to_hi in omega (arith, ints)))
    (λ v p. let a = p.from_lo in let b = p.to_hi in by_lt_z k.hi v
    (λ h. inr (record { from_lo = omega (arith, ints); to_hi = b }))
    (λ h. inl (record { from_lo = omega (arith, ints); to_hi = h })))
one_end_left r k part (before end low high) =
    part_left r k part (omega (arith, ints))
    (λ v p. let a = p.from_lo in let b = p.to_hi in
    (record { from_lo = a; to_hi = omega (arith, ints) }, λ q. let d = q.from_lo in omega (arith, ints)))
    (λ v p. let a = p.from_lo in let b = p.to_hi in by_lt_z v k.lo
    (λ h. inr (record { from_lo = a; to_hi = omega (arith, ints) }))
    (λ h. inl (record { from_lo = h; to_hi = omega (arith, ints) })))

module _ (r k : Ends) (o : r.lo ≤ℤ r.hi) where
  -- the other range ends before this one, if it holds the lower end and not the upper one
  pub ends_before : in_range k r.lo ≡ true → in_range k r.hi ≡ false → k.hi <ℤ r.hi
  ends_before t u =
      let low = (in_range_out k r.lo t).from_lo in
      beyond_hi k r.hi (omega (arith, ints)) (not_in_range k r.hi u)

  -- it begins after this one, if it holds the upper end and not the lower one
  pub begins_after : in_range k r.lo ≡ false → in_range k r.hi ≡ true → r.lo <ℤ k.lo
  begins_after t u =
      let high = (in_range_out k r.hi u).to_hi in
      beyond_lo k r.lo (omega (arith, ints)) (not_in_range k r.lo t)

  -- the lower end is removed
  upper_left : in_range k r.lo ≡ true → in_range k r.hi ≡ false
      → IsLeft (λ v. InRange k v → ⊥) r (record { lo = k.hi +ℤ pos 1; hi = r.hi })
  upper_left t u =
      let m = in_range_out k r.lo t in one_end_left r k _ (after m.from_lo m.to_hi (ends_before t u))

  -- the upper end is removed
  lower_left : in_range k r.lo ≡ false → in_range k r.hi ≡ true
      → IsLeft (λ v. InRange k v → ⊥) r (record { lo = r.lo; hi = k.lo -ℤ pos 1 })
  lower_left t u =
      let m = in_range_out k r.hi u in one_end_left r k _ (before (begins_after t u) m.from_lo m.to_hi)

  -- both ends are removed, and all between them
  none_left : InRange k r.lo → InRange k r.hi → (l : Ends) → IsLeft (λ v. InRange k v → ⊥) r l → r ≡ l
  none_left m n l h =
      let x = (h.members l.lo).0 (lo_in l h.ordered) in
      let a = x.0.from_lo in
      let b = x.0.to_hi in
      let c = m.from_lo in
      let d = n.to_hi in
      absurd (x.1 (record { from_lo = omega (arith, ints); to_hi = omega (arith, ints) }))

  -- both ends stay
  ends_left : (InRange k r.lo → ⊥) → (InRange k r.hi → ⊥) → (l : Ends) → IsLeft (λ v. InRange k v → ⊥) r l → r ≡ l
  ends_left m n l h =
      let a = (h.members r.lo).1 (lo_in r o, m) in
      let b = (h.members r.hi).1 (hi_in r o, n) in
      let c = (h.members l.lo).0 (lo_in l h.ordered) in
      let d = (h.members l.hi).0 (hi_in l h.ordered) in
      same_ends r l (antisym r.lo l.lo c.0.from_lo a.from_lo) (antisym r.hi l.hi b.to_hi d.0.to_hi)

  -- the part outside is what is left, where it is one range
  pub outside_narrows : Narrows (λ v. InRange k v → ⊥) r (outside r k)
  outside_narrows =
      let P = λ (v : ℤ). InRange k v → ⊥ in
      let upper : Ends = record { lo = k.hi +ℤ pos 1; hi = r.hi } in
      let lower : Ends = record { lo = r.lo; hi = k.lo -ℤ pos 1 } in
      cond_both (in_range k r.lo) (cond (in_range k r.hi) r upper) (cond (in_range k r.hi) lower r) (Narrows P r)
      (λ p. cond_both (in_range k r.hi) r upper (Narrows P r)
      (λ q. old_narrows P r (none_left (in_range_out k r.lo p) (in_range_out k r.hi q)))
      (λ q. left_narrows P r upper (upper_left p q)))
      (λ p. cond_both (in_range k r.hi) lower r (Narrows P r)
      (λ q. left_narrows P r lower (lower_left p q))
      (λ q. old_narrows P r (ends_left (not_in_range k r.lo p) (not_in_range k r.hi q))))

-- ---- a comparison with a constant

-- another fact that says the same of the numbers of the range
same_left : (P Q : ℤ → Type 0) (r l : Ends) → ((v : ℤ) → InRange r v → P v ↔ Q v) → IsLeft Q r l → IsLeft P r l
same_left P Q r l e h = record {
  ordered = h.ordered;
  members = λ v. (
    (λ m. let x = (h.members v).0 m in (x.0, (e v x.0).1 x.1)),
    (λ x. (h.members v).1 (x.0, (e v x.0).0 x.1)),
  );
}

-- facts that say the same of the members narrow alike
pub same_narrows : (P Q : ℤ → Type 0) (r new : Ends) → ((v : ℤ) → InRange r v → P v ↔ Q v) → Narrows P r new
    → Narrows Q r new
same_narrows P Q r new e h = record {
  members = λ v m q. h.members v m ((e v m).1 q);
  within = h.within;
  left = λ l k. h.left l (same_left P Q r l e k);
  unchanged = λ none. h.unchanged (λ l k. none l (same_left Q P r l (λ v m. ((e v m).1, (e v m).0)) k));
}

-- to lie in the range of one number is to be it
equal_is : (c : ℤ) (v : ℤ) → InRange (constant c) v ↔ IsTrue (int_eq v c)
equal_is c v = (
  (λ m. let a = m.from_lo in let b = m.to_hi in (Decides-int_eq v c).1 (antisym v c b a)),
  (λ h. let e = (Decides-int_eq v c).0 h in record { from_lo = omega (arith, ints); to_hi = omega (arith, ints) }),
)

module _ (r : Ends) (w : IsRange r) (c : ℤ) where
  -- a member is a word
  word : (v : ℤ) → InRange r v → FitsSigned w32 v
  word v m = fits_between r v w.lo_fits w.hi_fits m

  -- to lie in the words from c on is to be c at least
  from_is : (v : ℤ) → InRange r v → InRange (at_least c) v ↔ IsTrue (int_le c v)
  from_is v m =
      let f = word v m in (
        (λ p. let a = p.from_lo in le-int_le c v a),
        (λ h. record { from_lo = omega (arith, ints, h); to_hi = omega (arith, ints) }),
      )

  -- to lie in the words up to c is to be c at most
  upto_is : (v : ℤ) → InRange r v → InRange (at_most c) v ↔ IsTrue (int_le v c)
  upto_is v m =
      let f = word v m in (
        (λ p. let a = p.to_hi in le-int_le v c a),
        (λ h. record { from_lo = omega (arith, ints); to_hi = omega (arith, ints, h) }),
      )

  -- to lie outside the words from c on is to be less
  below_is : (v : ℤ) → InRange r v → (InRange (at_least c) v → ⊥) ↔ IsTrue (int_lt v c)
  below_is v m = let f = word v m in (
    (λ n. by_lt_z v c (λ p. lt-int_lt v c p) (λ p. absurd (n (record { from_lo = p; to_hi = omega (arith, ints) })))),
    (λ h p. let a = p.from_lo in omega (arith, ints, h)),
  )

  -- to lie outside the words up to c is to be greater
  beyond_is : (v : ℤ) → InRange r v → (InRange (at_most c) v → ⊥) ↔ IsTrue (int_lt c v)
  beyond_is v m = let f = word v m in (
    (λ n. by_lt_z c v (λ p. lt-int_lt c v p) (λ p. absurd (n (record { from_lo = omega (arith, ints); to_hi = p })))),
    (λ h p. let a = p.to_hi in omega (arith, ints, h)),
  )

  -- to lie outside the range of one number is to differ from it
  differs_is : (v : ℤ) → (InRange (constant c) v → ⊥) ↔ IsTrue (not (int_eq v c))
  differs_is v = (
    (λ n. ap not (not-true-from (int_eq v c) (λ h. n ((equal_is c v).1 h)))),
    (λ h m. both_ways (int_eq v c) (not-true (int_eq v c) h) ((equal_is c v).0 m)),
  )
    where
      not-true-from : (b : Bool) → (b ≡ true → ⊥) → b ≡ false
      not-true-from true n = absurd (n refl)
      not-true-from false n = refl

  -- the members of another range are kept, if a fact says the same of the members of this one
  kept : (P : ℤ → Type 0) (other : Ends) → ((v : ℤ) → InRange r v → InRange other v ↔ P v)
      → Narrows P r (inside r other)
  kept P other same = same_narrows (λ v. InRange other v) P r (inside r other) same (inside_narrows r other)

  -- or removed, if it says the contrary
  removed : (P : ℤ → Type 0) (other : Ends) → ((v : ℤ) → InRange r v → (InRange other v → ⊥) ↔ P v)
      → Narrows P r (outside r other)
  removed P other same =
      same_narrows (λ v. InRange other v → ⊥) P r (outside r other) same (outside_narrows r other w.ordered)

  -- the rule of each comparison keeps what is left
  pub narrowed_narrows : (comparison : Comparison)
      → Narrows (λ v. IsTrue (compares comparison v c)) r (narrowed comparison c r)
  narrowed_narrows Equal = kept (λ v. IsTrue (int_eq v c)) (constant c) (λ v m. equal_is c v)
  narrowed_narrows NotEqual = removed (λ v. IsTrue (not (int_eq v c))) (constant c) (λ v m. differs_is v)
  narrowed_narrows Less = removed (λ v. IsTrue (int_lt v c)) (at_least c) below_is
  narrowed_narrows LessOrEqual = kept (λ v. IsTrue (int_le v c)) (at_most c) upto_is
  narrowed_narrows Greater = removed (λ v. IsTrue (int_lt c v)) (at_most c) beyond_is
  narrowed_narrows GreaterOrEqual = kept (λ v. IsTrue (int_le c v)) (at_least c) from_is

-- ---- what the code computes, read back

-- what follows the rule keeps what is left inside
pub inside_by_rule : (r k new : Ends) → new ≡ inside r k → Narrows (λ v. InRange k v) r new
inside_by_rule r k new e = subst (Narrows (λ v. InRange k v) r) (sym e) (inside_narrows r k)

-- what follows the rule keeps what is left outside
pub outside_by_rule : (r k new : Ends) → r.lo ≤ℤ r.hi → new ≡ outside r k → Narrows (λ v. InRange k v → ⊥) r new
outside_by_rule r k new o e = subst (Narrows (λ v. InRange k v → ⊥) r) (sym e) (outside_narrows r k o)

-- what follows the rule keeps what a comparison leaves
pub narrowed_by_rule : (r : Ends) (c : ℤ) (new : Ends) (comparison : Comparison) → IsRange r
    → new ≡ narrowed comparison c r → Narrows (λ v. IsTrue (compares comparison v c)) r new
narrowed_by_rule r c new comparison w e =
    subst (Narrows (λ v. IsTrue (compares comparison v c)) r) (sym e) (narrowed_narrows r w c comparison)

-- a test of a word that was passed on
pub tested : (k : Ends) (v : ℤ) (b : Bool) → FitsSigned w32 v → b ≡ in_range k (to_z w32 (of_z w32 v))
    → in_range k v ≡ b
tested k v b f e = ap (in_range k) (sym (to_z-of_z w32 v f)) ∙ sym e

-- the part outside, by the tests of both ends
pub outside_at : (r k : Ends) (a b : Bool) → in_range k r.lo ≡ a → in_range k r.hi ≡ b
    → outside r k ≡ cond a (cond b r (record { lo = k.hi +ℤ pos 1; hi = r.hi }))
    (cond b (record { lo = r.lo; hi = k.lo -ℤ pos 1 }) r)
outside_at r k a b p q =
    λ i. cond (p i) (cond (q i) r (record { lo = k.hi +ℤ pos 1; hi = r.hi }))
    (cond (q i) (record { lo = r.lo; hi = k.lo -ℤ pos 1 }) r)
