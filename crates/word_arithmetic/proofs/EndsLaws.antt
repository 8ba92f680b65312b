-- Laws on ends and the tests on them.
use Rattle.std.proofs.Common.{int_le, to_z, of_z, ◌≡◌, inl, inr, Bool, true, false, ◌&&◌, cond}
use Rattle.std.proofs.Common.{Option, Some, None, unwrap_or, refl, sym, ap, ◌∙◌, subst, arith, ℤ, ◌≤ℤ◌, FitsSigned}
use Rattle.std.specs.Int.{Width, w32, w64}
use Rattle.std.specs.Option.{option_map}
use Rattle.std.proofs.lemmas.Int.{ints, clamps, to_z-of_z}
use Rattle.std.proofs.lemmas.Bool.{and_from, and_parts, and_cases}
use Rattle.std.proofs.lemmas.Option.{cond_some}
use Rattle.small_laws.proofs.Comparisons.{le-int_le}
use Rattle.word_arithmetic.specs.declared.ranges.Range.{Range}
use Rattle.word_arithmetic.specs.Word.{is_word}
use Rattle.word_arithmetic.proofs.WordLaws.{is_word_out, is_word_in, then_some}
use Rattle.word_arithmetic.specs.Range.{Ends, ends_of, InRange, IsRange, IsWithin, ResultsStay, WordsInOrderAreRanges}
use Rattle.word_arithmetic.specs.Range.{MembersLieBetween, Computes, fitting, hull, in_range, range_between}

-- ---- what is said of a range that may not be there

-- the ends of a range that is there or of another in its place
unwrap_each : (o : Option Range) (d : Range) → ends_of (unwrap_or o d) ≡ unwrap_or (option_map ends_of o) (ends_of d)
unwrap_each None d = refl
unwrap_each (Some r) d = refl

-- the same of a result, along what both are
pub unwrap_or_ends : (o : Option Range) (d : Range) {new : Range} {e : Option Ends} {f : Ends}
    → new ≡ unwrap_or o d → option_map ends_of o ≡ e → ends_of d ≡ f → ends_of new ≡ unwrap_or e f
unwrap_or_ends o d h p q = ap ends_of h ∙ unwrap_each o d ∙ (λ i. unwrap_or (p i) (q i))

-- ---- ends that fit

pub record Fits (e t : Ends) : Type 0 where
  pub lo : FitsSigned w32 e.lo
  pub hi : FitsSigned w32 e.hi
  pub same : e ≡ t

-- a range that fits is its ends, which are words
pub fitting_some : (e t : Ends) → fitting e ≡ Some t → Fits e t
fitting_some e t h =
    let s = cond_some (is_word e.lo && is_word e.hi) e t h in
    let w = and_parts (is_word e.lo) (is_word e.hi) s.0 in
    record { lo = is_word_out e.lo w.0; hi = is_word_out e.hi w.1; same = s.1 }

-- a number between ends that fit is a word
pub fits_between : (e : Ends) (z : ℤ) → FitsSigned w32 e.lo → FitsSigned w32 e.hi → InRange e z → FitsSigned w32 z
fits_between e z f g h = omega (arith, ints)

-- a member of a range is a word
pub member_fits : (r : Ends) (z : ℤ) → IsRange r → InRange r z → FitsSigned w32 z
member_fits r z p m = fits_between r z p.lo_fits p.hi_fits m

-- what holds in the range of a rule holds in the range that follows the rule
pub by_rule : {f : ℤ → ℤ → ℤ} {r s new e : Ends} → new ≡ e → ResultsStay f r s e → ResultsStay f r s new
by_rule {f = f} {r = r} {s = s} h p = subst (ResultsStay f r s) (sym h) p

-- words in order are the ends of a range
pub is_range : {r : Ends} → FitsSigned w32 r.lo → FitsSigned w32 r.hi → r.lo ≤ℤ r.hi → IsRange r
is_range f g h = record { lo_fits = f; hi_fits = g; ordered = h }

-- the ends of a range are members
pub lo_in : (r : Ends) → r.lo ≤ℤ r.hi → InRange r r.lo
lo_in r h = record { from_lo = omega (arith, ints); to_hi = h }

pub hi_in : (r : Ends) → r.lo ≤ℤ r.hi → InRange r r.hi
hi_in r h = record { from_lo = h; to_hi = omega (arith, ints) }

-- ---- tests

-- a number in the range passes the test
pub in_range_in : (r : Ends) (v : ℤ) → InRange r v → in_range r v ≡ true
in_range_in r v m = and_from (int_le r.lo v) (int_le v r.hi) (le-int_le r.lo v m.from_lo) (le-int_le v r.hi m.to_hi)

-- a number that passes the test lies in the range
pub in_range_out : (r : Ends) (v : ℤ) → in_range r v ≡ true → InRange r v
in_range_out r v h =
    let w = and_parts (int_le r.lo v) (int_le v r.hi) h in
    record { from_lo = omega (arith, ints, w.0); to_hi = omega (arith, ints, w.1) }

-- a number that fails the test does not
pub not_in_range : (r : Ends) (v : ℤ) → in_range r v ≡ false → InRange r v → ⊥
not_in_range r v h m =
    elim (and_cases (int_le r.lo v) (int_le v r.hi) h) [
      | inl p ↦ omega (arith, ints, p, m.from_lo)
      | inr p ↦ omega (arith, ints, p, m.to_hi)
    ]

-- ---- what the code computes, read back

-- f of two numbers that fit their width
pub read_back : (w : Width) (f : ℤ → ℤ → ℤ) (x y z : ℤ) → FitsSigned w x → FitsSigned w y
    → z ≡ f (to_z w (of_z w x)) (to_z w (of_z w y)) → f x y ≡ z
read_back w f x y z p q e = sym (e ∙ (λ i. f (to_z-of_z w x p i) (to_z-of_z w y q i)))

-- the same, where the result is passed on
pub passed_on : (w v : Width) (f : ℤ → ℤ → ℤ) (x y z : ℤ) → FitsSigned w x → FitsSigned w y → FitsSigned v z
    → z ≡ f (to_z w (of_z w x)) (to_z w (of_z w y)) → f x y ≡ to_z v (of_z v z)
passed_on w v f x y z p q r e = read_back w f x y z p q e ∙ sym (to_z-of_z v z r)

-- a function on words that computes f gives f of two words
pub computed_at : {Gives : ℤ → ℤ → ℤ → Type 0} {f : ℤ → ℤ → ℤ} → Computes Gives f → (x y z : ℤ) → FitsSigned w32 x
    → FitsSigned w32 y → FitsSigned w64 z → Gives (to_z w32 (of_z w32 x)) (to_z w32 (of_z w32 y)) z
    → f x y ≡ to_z w64 (of_z w64 z)
computed_at {Gives} {f} is x y z p q r e = passed_on w32 w64 f x y z p q r (is _ _ z (same x p) (same y q) r e)
  where
    same : (x : ℤ) → FitsSigned w32 x → FitsSigned w32 (to_z w32 (of_z w32 x))
    same x p = subst (FitsSigned w32) (sym (to_z-of_z w32 x p)) p

-- ---- a choice whose test is known

-- the test passes
pub cond_true : {X : Type 0} (b : Bool) (x y z : X) → b ≡ true → z ≡ x → z ≡ cond b x y
cond_true b x y z e h = h ∙ ap (λ t. cond t x y) (sym e)

-- the test fails
pub cond_false : {X : Type 0} (b : Bool) (x y z : X) → b ≡ false → z ≡ y → z ≡ cond b x y
cond_false b x y z e h = h ∙ ap (λ t. cond t x y) (sym e)

-- ---- the hull

-- a range with all members of both has all between them
pub hull_least : (r s t : Ends) → r.lo ≤ℤ r.hi → s.lo ≤ℤ s.hi → IsWithin r t → IsWithin s t → IsWithin (hull r s) t
hull_least r s t o p h k v m =
    let a = (h r.lo (lo_in r o)).from_lo in
    let b = (h r.hi (hi_in r o)).to_hi in
    let c = (k s.lo (lo_in s p)).from_lo in
    let d = (k s.hi (hi_in s p)).to_hi in
    let from = m.from_lo in
    let to = m.to_hi in
    record { from_lo = omega (arith, ints, clamps); to_hi = omega (arith, ints, clamps) }

-- ---- the range between two words

-- a range is that between its ends
range_is : (r : Ends) → IsRange r → range_between r.lo r.hi ≡ Some r
range_is r p =
    (λ i. cond (le-int_le r.lo r.hi p.ordered i) (fitting r) None)
    ∙ (λ i. cond (is_word_in r.lo p.lo_fits i && is_word_in r.hi p.hi_fits i) (Some r) None)

-- the range between two numbers has them as ends, and they are words in order
range_out : (lo hi : ℤ) (r : Ends) → range_between lo hi ≡ Some r → IsRange r × (r.lo ≡ lo) × (r.hi ≡ hi)
range_out lo hi r e =
    let at : Ends = record { lo = lo; hi = hi } in
    let o = then_some (int_le lo hi) (fitting at) r e in
    let w = fitting_some at r o.1 in
    let p : IsRange at = record { lo_fits = w.lo; hi_fits = w.hi; ordered = omega (arith, ints, o.0) } in
    (subst IsRange w.same p, ap (λ u. u.lo) (sym w.same), ap (λ u. u.hi) (sym w.same))

-- two numbers have a range between them exactly if they are words in order
pub words_in_order_are_ranges : WordsInOrderAreRanges
words_in_order_are_ranges lo hi r =
    (range_out lo hi r, λ p. (λ i. range_between (sym p.1 i) (sym p.2 i)) ∙ range_is r p.0)

-- its members are the numbers between them
pub members_lie_between : MembersLieBetween
members_lie_between lo hi v r e =
    let o = range_out lo hi r e in
    let a = o.1 in
    let b = o.2 in (
      (λ m. let p = m.from_lo in let q = m.to_hi in (omega (arith, ints), omega (arith, ints))),
      (λ p. let c = p.0 in let d = p.1 in record { from_lo = omega (arith, ints); to_hi = omega (arith, ints) }),
    )
