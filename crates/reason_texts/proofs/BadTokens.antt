-- A line gone over byte by byte, up to its first bad token.
use Rattle.std.proofs.Common.{◌≡◌, ℕ, zero, suc, pred, ◌+◌, ◌-◌, ◌<◌, false, List, ◌∷◌, Ok, refl, ap, ◌∙◌, arith}
use Rattle.std.proofs.lemmas.Bool.{eq-eqb, ne_eqb}
use Rattle.occam_layout.specs.Reading.{begins_comment}
use Rattle.reason_texts.specs.Tokens.{token_len, bad_token}

-- a byte of a token that was read
pub bad-passed : (passed at c : ℕ) (rest : List ℕ) → 0 < passed
    → bad_token passed at (c ∷ rest) ≡ bad_token (passed - 1) (at + 1) rest
unfolding bad_token
bad-passed zero at c rest some = absurd (omega (arith, some))
bad-passed (suc n) at c rest some = let less : suc n - 1 ≡ n = omega arith in rw less refl

-- a space
pub bad-space : (passed at c : ℕ) (rest : List ℕ) → passed ≡ 0 → c ≡ 32
    → bad_token passed at (c ∷ rest) ≡ bad_token passed (at + 1) rest
unfolding bad_token
bad-space zero at c rest none space = rw (eq-eqb _ _ space) refl
bad-space (suc n) at c rest none space = absurd (omega (arith, none))

less_one : (len : ℕ) → pred len ≡ len - 1
less_one zero = refl
less_one (suc n) = omega arith

-- a token
pub bad-others : (passed next at c len : ℕ) (rest : List ℕ) → passed ≡ 0 → (c ≡ 32 → ⊥)
    → begins_comment (c ∷ rest) ≡ false → Ok len ≡ token_len (c ∷ rest) → next ≡ len - 1
    → bad_token passed at (c ∷ rest) ≡ bad_token next (at + 1) rest
unfolding bad_token
bad-others zero next at c len rest none other counts found is_next =
    rw (is_next, ← less_one len, ne_eqb _ _ other, counts, ← found) refl
bad-others (suc n) next at c len rest none other counts found is_next = absurd (omega (arith, none))
