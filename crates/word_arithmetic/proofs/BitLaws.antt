-- Bits and shifts of words that aren't negative.
use Rattle.std.proofs.Common.{◌≡◌, ℕ, suc, ◌+◌, ◌-◌, ◌*◌, ◌/◌, ◌%◌, ◌^◌, ◌<◌, ◌≤◌, inl, inr, true, ◌&&◌, cond, ap, refl}
use Rattle.std.proofs.Common.{sym, subst, ◌∙◌, arith, ℤ, pos, negsuc, ◌*ℤ◌, ◌-ℤ◌, ◌≤ℤ◌, FitsSigned, bit_and, bit_or}
use Rattle.std.proofs.Common.{bit_xor, unsigned_abs, mod-eq_of_lt, pow_mono, pow_pos, Some, None, unwrap_or, int_lt}
use Rattle.std.specs.Int.{w32, cast_signed, cast_unsigned, int_min, int_max, leading_zeros}
use Rattle.std.proofs.lemmas.Int.{ints, clamps, to_z_pos}
use Rattle.std.proofs.lemmas.Nat.{and_le_l, and_le_r, or_lt, xor_lt, leading_length, shr_le, mul-le, mod_below}
use Rattle.std.proofs.lemmas.Bool.{cond_both, le-ltb, cases_lt, and_parts}
use Rattle.std.proofs.lemmas.Bool.Decides.{Decides-int_eq}
use mir.Val.{sel}
use Rattle.word_arithmetic.specs.Word.{is_word, word_and, word_or, word_xor, word_not, shifted_left, shifted_right}
use Rattle.word_arithmetic.specs.Range.{Ends, InRange, IsRange, ResultsStay, is_constant, is_not_negative, constant}
use Rattle.word_arithmetic.specs.Range.{full}
use Rattle.word_arithmetic.specs.Range.{zero_to, fitting, bits_range, all_ones, and_range, or_range, xor_range}
use Rattle.word_arithmetic.specs.Range.{not_range, shift_left_range, shift_right_range}
use Rattle.word_arithmetic.proofs.WordLaws.{is_word_out}
use Rattle.word_arithmetic.proofs.EndsLaws.{member_fits}
use Rattle.word_arithmetic.proofs.ModularLaws.{in_full}

-- ---- words

-- the signed value of the bits of a number below 2^32 is a word
pub cast_fits : (n : ℕ) → n < 2 ^ 32 → FitsSigned w32 (cast_signed w32 n)
cast_fits n h = omega (arith, ints)

-- the bits of a word are a number below 2^32
pub bits_below : (x : ℤ) → FitsSigned w32 x → cast_unsigned w32 x < 2 ^ 32
bits_below x f = omega (arith, ints)

-- the signed value of what is left modulo 2^32 is a word
pub wrapped_fits : (n : ℕ) → FitsSigned w32 (cast_signed w32 (n % 2 ^ 32))
wrapped_fits n = cast_fits (n % 2 ^ 32) (mod_below n (2 ^ 32) (omega arith))

-- ---- results on bits are words

-- the bits that two words have are a word
pub and_fits : (x y : ℤ) → FitsSigned w32 x → FitsSigned w32 y → FitsSigned w32 (word_and x y)
and_fits x y f g =
    cast_fits (bit_and (cast_unsigned w32 x) (cast_unsigned w32 y))
    (omega (arith, and_le_l (cast_unsigned w32 x) (cast_unsigned w32 y), bits_below x f))

-- so are those that one of them has, or both
pub or_fits : (x y : ℤ) → FitsSigned w32 x → FitsSigned w32 y → FitsSigned w32 (word_or x y)
or_fits x y f g =
    cast_fits (bit_or (cast_unsigned w32 x) (cast_unsigned w32 y))
    (or_lt 32 (cast_unsigned w32 x) (cast_unsigned w32 y) (bits_below x f) (bits_below y g))

-- and those that exactly one of them has
pub xor_fits : (x y : ℤ) → FitsSigned w32 x → FitsSigned w32 y → FitsSigned w32 (word_xor x y)
xor_fits x y f g =
    cast_fits (bit_xor (cast_unsigned w32 x) (cast_unsigned w32 y))
    (xor_lt 32 (cast_unsigned w32 x) (cast_unsigned w32 y) (bits_below x f) (bits_below y g))

-- ---- the complement

-- the bits from 2^31 on are those of the numbers below 0
cast_high : (n : ℕ) → 2147483648 ≤ n → cast_signed w32 n ≡ negsuc (4294967296 - suc n)
cast_high n h = ap (λ b. sel b (pos n) (negsuc (4294967296 - suc n))) (le-ltb n 2147483648 h)

-- the complement is -1 less the number
pub word_not_is : (x : ℤ) → FitsSigned w32 x → word_not x ≡ negsuc 0 -ℤ x
word_not_is (pos n) f = let h = f.sfits in cast_high (4294967295 - n) (omega arith) ∙ omega (arith, ints)
word_not_is (negsuc n) f =
    let h = f.sfits in
    let e : 4294967295 - (4294967296 - suc n) ≡ n = omega arith in
    ap (cast_signed w32) e ∙ to_z_pos w32 n h ∙ omega (arith, ints)

-- the complement of a word is a word
pub not_fits : (x : ℤ) → FitsSigned w32 x → FitsSigned w32 (word_not x)
not_fits x f = subst (FitsSigned w32) (sym (word_not_is x f)) (omega (arith, ints))

-- the complements of members lie between those of the ends, which change places
pub not_holds : (r : Ends) (x : ℤ) → IsRange r → InRange r x → InRange (not_range r) (word_not x)
not_holds r x w m =
    let lo = word_not_is r.lo w.lo_fits in
    let hi = word_not_is r.hi w.hi_fits in
    let at = word_not_is x (member_fits r x w m) in
    record {
      from_lo = subst (λ z. z ≤ℤ word_not x) (sym hi)
          (subst (λ z. (negsuc 0 -ℤ r.hi) ≤ℤ z) (sym at) (omega (arith, ints)));
      to_hi = subst (λ z. word_not x ≤ℤ z) (sym lo)
          (subst (λ z. z ≤ℤ (negsuc 0 -ℤ r.lo)) (sym at) (omega (arith, ints)));
    }

-- ---- two operands

-- the members of a constant are one number
constant_out : (r : Ends) (x : ℤ) → is_constant r ≡ true → InRange r x → r.lo ≡ x
constant_out r x h m = let e = (Decides-int_eq r.lo r.hi).0 h in omega (arith, ints)

-- a member of a range with no negative number is none
not_negative_out : (r : Ends) (x : ℤ) → is_not_negative r ≡ true → InRange r x → (a : ℕ) × (x ≡ pos a)
not_negative_out r (pos a) h m = (a, refl)
not_negative_out r (negsuc a) h m = absurd (omega (arith, ints))

-- the rule of an operation on bits holds if the results of words are words, and those of numbers from 0 on lie below hi
bits_hold : (f : ℤ → ℤ → ℤ) (hi : ℤ) (r s : Ends) → IsRange r → IsRange s
    → ((x y : ℤ) → FitsSigned w32 x → FitsSigned w32 y → FitsSigned w32 (f x y))
    → ((a b : ℕ) → InRange r (pos a) → InRange s (pos b) → InRange (zero_to hi) (f (pos a) (pos b)))
    → ResultsStay f r s (bits_range (f r.lo s.lo) hi r s)
bits_hold f hi r s p q words naturals x y m n =
    cond_both (is_constant r && is_constant s) (constant (f r.lo s.lo))
    (cond (is_not_negative r && is_not_negative s) (zero_to hi) full) (λ t. InRange t (f x y))
    (λ e. let w = and_parts (is_constant r) (is_constant s) e in
    let same : f r.lo s.lo ≡ f x y = (λ i. f (constant_out r x w.0 m i) (constant_out s y w.1 n i)) in
    record { from_lo = omega (arith, ints, same); to_hi = omega (arith, ints, same) })
    (λ e. cond_both (is_not_negative r && is_not_negative s) (zero_to hi) full (λ t. InRange t (f x y))
    (λ d. let w = and_parts (is_not_negative r) (is_not_negative s) d in
    let a = not_negative_out r x w.0 m in
    let b = not_negative_out s y w.1 n in
    subst (λ z. InRange (zero_to hi) (f z y)) (sym a.1) (subst (λ z. InRange (zero_to hi) (f (pos a.0) z)) (sym b.1)
    (naturals a.0 b.0 (subst (InRange r) a.1 m) (subst (InRange s) b.1 n))))
    (λ d. in_full (f x y) (words x y (member_fits r x p m) (member_fits s y q n))))

-- what is below 2^31 is read unchanged
cast_low : (n : ℕ) → n < 2147483648 → cast_signed w32 n ≡ pos n
cast_low n h = to_z_pos w32 n h

-- a member that is not negative is a number below 2^31
below : (r : Ends) (a : ℕ) → IsRange r → InRange r (pos a) → a < 2147483648
below r a p m = (member_fits r (pos a) p m).sfits

-- the bits that both have are no more than either
pub and_holds : (r s : Ends) → IsRange r → IsRange s → ResultsStay word_and r s (and_range r s)
and_holds r s p q =
    bits_hold word_and (int_min r.hi s.hi) r s p q
    and_fits
    (λ a b m n.
    let left = and_le_l a b in
    let right = and_le_r a b in
    let small = below r a p m in
    let same = cast_low (bit_and a b) (omega arith) in
    subst (InRange (zero_to (int_min r.hi s.hi))) (sym same)
    (record { from_lo = omega (arith, ints); to_hi = omega (arith, ints, clamps) }))

-- ---- all ones

-- a word that isn't negative has a zero before its first one
leading_zero : (a : ℕ) → a < 2147483648 → 1 ≤ leading_zeros w32 a
leading_zero a h =
    let l = leading_length 32 a (omega arith) in
    elim (cases_lt l.0 32) [
      | inl short ↦ omega (arith, l.1)
      | inr long ↦ absurd (omega (arith, l.3, pow_mono {i = 32} {j = l.0} long))
    ]

-- all ones of a number below 2^31
pub ones_small : (m : ℕ) → m < 2147483648 → 2 ^ (32 - leading_zeros w32 m) ≤ 2147483648
ones_small m h = let some = leading_zero m h in pow_mono {i = 32 - leading_zeros w32 m} {j = 31} (omega arith)

-- all ones of a number from 0 on is one less than the next power of two
pub all_ones_is : (m : ℕ) → m < 2147483648 → all_ones (pos m) ≡ pos (2 ^ (32 - leading_zeros w32 m) - 1)
all_ones_is m h =
    let small = ones_small m h in
    cast_low (2 ^ (32 - leading_zeros w32 m) - 1) (omega (arith, pow_pos (32 - leading_zeros w32 m)))

-- a number up to m lies below the next power of two
above : (m n : ℕ) → m < 2 ^ 32 → n ≤ m → n < 2 ^ (32 - leading_zeros w32 m)
above m n h k =
    let l = leading_length 32 m h in
    subst (λ j. n < 2 ^ j) (width_is l) (omega (arith, l.2))
  where
    width_is : (l : (j : ℕ) × (leading_zeros w32 m + j ≡ 32) × (m < 2 ^ j) × (2 ^ j ≤ 2 * m + 1))
        → l.0 ≡ 32 - leading_zeros w32 m
    width_is l = omega (arith, l.1)

-- both operands lie below one power of two, and so do the bits that one of them has
either_in : (of : ℕ → ℕ → ℕ) → ((k a b : ℕ) → a < 2 ^ k → b < 2 ^ k → of a b < 2 ^ k) → (f : ℤ → ℤ → ℤ)
    → ((a b : ℕ) → f (pos a) (pos b) ≡ cast_signed w32 (of a b))
    → (r s : Ends) → IsRange r → IsRange s → (a b : ℕ) → InRange r (pos a) → InRange s (pos b)
    → InRange (zero_to (all_ones (int_max r.hi s.hi))) (f (pos a) (pos b))
either_in of bounded f is r s p q a b m n =
    let t = greatest_is r s a b p q m.to_hi n.to_hi in
    let low = bounded 31 a b (below r a p m) (below s b q n) in
    let ones = bounded (32 - leading_zeros w32 t.0) a b (above t.0 a (omega (arith, t.2)) t.3)
    (above t.0 b (omega (arith, t.2)) t.4) in
    let top : all_ones (int_max r.hi s.hi) ≡ pos (2 ^ (32 - leading_zeros w32 t.0) - 1) =
    ap all_ones t.1 ∙ all_ones_is t.0 t.2 in
    subst (λ v. InRange (zero_to v) (f (pos a) (pos b))) (sym top)
    (subst (InRange (zero_to (pos (2 ^ (32 - leading_zeros w32 t.0) - 1)))) (sym (is a b ∙ cast_low (of a b) low))
    (record { from_lo = omega (arith, ints); to_hi = omega (arith, ints) }))
  where
    greatest_is : (r s : Ends) (a b : ℕ) → IsRange r → IsRange s → pos a ≤ℤ r.hi → pos b ≤ℤ s.hi
        → (m : ℕ) × (int_max r.hi s.hi ≡ pos m) × (m < 2147483648) × (a ≤ m) × (b ≤ m)
    greatest_is r s a b p q m n =
        let f = p.hi_fits in
        let g = q.hi_fits in
        let e = cond_both (int_lt s.hi r.hi) r.hi s.hi
        (λ v. (v ≡ pos (unsigned_abs v)) × (unsigned_abs v < 2147483648) × (a ≤ unsigned_abs v) × (b ≤ unsigned_abs v))
        (λ e. (omega (arith, ints), omega (arith, ints), omega (arith, ints), omega (arith, ints)))
        (λ e. (omega (arith, ints), omega (arith, ints), omega (arith, ints), omega (arith, ints))) in
        (unsigned_abs (int_max r.hi s.hi), e.0, e.1, e.2, e.3)

-- the bits that one has lie below the next power of two
pub or_holds : (r s : Ends) → IsRange r → IsRange s → ResultsStay word_or r s (or_range r s)
or_holds r s p q =
    bits_hold word_or (all_ones (int_max r.hi s.hi)) r s p q
    or_fits
    (either_in bit_or or_lt word_or (λ a b. refl) r s p q)

-- so do those that exactly one has
pub xor_holds : (r s : Ends) → IsRange r → IsRange s → ResultsStay word_xor r s (xor_range r s)
xor_holds r s p q =
    bits_hold word_xor (all_ones (int_max r.hi s.hi)) r s p q
    xor_fits
    (either_in bit_xor xor_lt word_xor (λ a b. refl) r s p q)

-- ---- shifts

-- a count as the register gives it
pub shift_left_holds : (r counts : Ends) → IsRange r → pos 0 ≤ℤ counts.lo
    → ResultsStay (λ x count. shifted_left x (unsigned_abs count)) r counts (shift_left_range r counts)
shift_left_holds r counts p z x k m n =
    let hi = r.hi *ℤ pos (2 ^ unsigned_abs counts.hi) in
    let some_word = in_full (shifted_left x (unsigned_abs k))
    (wrapped_fits (cast_unsigned w32 x * 2 ^ unsigned_abs k)) in
    cond_both (is_not_negative r) (unwrap_or (fitting (zero_to hi)) full) full
    (λ t. InRange t (shifted_left x (unsigned_abs k)))
    (λ e. let a = not_negative_out r x e m in
    if_fitting (zero_to hi) (shifted_left x (unsigned_abs k)) some_word (λ f.
    subst (λ v. InRange (zero_to hi) (shifted_left v (unsigned_abs k))) (sym a.1)
    (let top = subst (λ v. v ≤ℤ r.hi) a.1 m.to_hi in
    shifted_in r.hi a.0 k counts.hi f top n.to_hi (omega (arith, ints)))))
    (λ e. some_word)
  where
    if_fitting : (e : Ends) (z : ℤ) → InRange full z → (FitsSigned w32 e.hi → InRange e z)
        → InRange (unwrap_or (fitting e) full) z
    if_fitting e z all inside =
        cond_both (is_word e.lo && is_word e.hi) (Some e) None (λ o. InRange (unwrap_or o full) z)
        (λ h. inside (is_word_out e.hi (and_parts (is_word e.lo) (is_word e.hi) h).1)) (λ h. all)

    shifted_in : (h : ℤ) (a : ℕ) (k c : ℤ) → FitsSigned w32 (h *ℤ pos (2 ^ unsigned_abs c)) → pos a ≤ℤ h → k ≤ℤ c
        → pos 0 ≤ℤ k → InRange (zero_to (h *ℤ pos (2 ^ unsigned_abs c))) (shifted_left (pos a) (unsigned_abs k))
    shifted_in h a (negsuc k) c f u v o = absurd o.le
    shifted_in h a (pos k) (negsuc c) f u v o = absurd v.le
    shifted_in (negsuc h) a (pos k) (pos c) f u v o = absurd u.le
    shifted_in (pos h) a (pos k) (pos c) f u v o =
        let more : a * 2 ^ k ≤ h * 2 ^ c = mul-le (a) (2 ^ k) (h) (2 ^ c) (omega (arith, ints))
        (pow_mono {i = k} {j = c} (omega (arith, ints))) in
        let top : h * 2 ^ c < 2147483648 = f.sfits in
        let same : shifted_left (pos a) k ≡ pos (a * 2 ^ k) = ap (cast_signed w32) (mod-eq_of_lt (omega arith))
        ∙ cast_low (a * 2 ^ k) (omega arith) in
        subst (InRange (zero_to (pos h *ℤ pos (2 ^ c)))) (sym same)
        (record { from_lo = omega (arith, ints); to_hi = omega (arith, ints) })

-- a word from 0 on that is shifted right gets no greater
pub shift_right_holds : (r counts : Ends) → IsRange r
    → ResultsStay (λ x count. shifted_right x (unsigned_abs count)) r counts (shift_right_range r)
shift_right_holds r counts p x k m n =
    cond_both (is_not_negative r) (zero_to r.hi) full (λ t. InRange t (shifted_right x (unsigned_abs k)))
    (λ e. let a = not_negative_out r x e m in
    subst (λ v. InRange (zero_to r.hi) (shifted_right v (unsigned_abs k))) (sym a.1)
    (let inside = subst (InRange r) a.1 m in
    let less = shr_le a.0 (unsigned_abs k) in
    let small = below r a.0 p inside in
    let same : shifted_right (pos a.0) (unsigned_abs k) ≡ pos (a.0 / 2 ^ unsigned_abs k) =
    cast_low (a.0 / 2 ^ unsigned_abs k) (omega arith) in
    subst (InRange (zero_to r.hi)) (sym same) (record { from_lo = omega (arith, ints); to_hi = omega (arith, ints) })))
    (λ e. in_full (shifted_right x (unsigned_abs k)) (cast_fits (cast_unsigned w32 x / 2 ^ unsigned_abs k)
    (let less = shr_le (cast_unsigned w32 x) (unsigned_abs k) in
    let bits = bits_below x (member_fits r x p m) in
    omega arith)))

-- all ones of a number that isn't negative is none either
pub all_ones_sign : (v : ℤ) → FitsSigned w32 v → pos 0 ≤ℤ v → pos 0 ≤ℤ all_ones v
all_ones_sign (pos m) f h = subst (λ z. pos 0 ≤ℤ z) (sym (all_ones_is m f.sfits)) (omega (arith, ints))
all_ones_sign (negsuc m) f h = absurd h.le
