-- Characters between quotes denote bytes, if they are spelled in bytes.
use Rattle.std.proofs.Common.{◌≡◌, ℕ, zero, suc, ◌+◌, ◌*◌, ◌<◌, Bool, true, false, cond, eqb, List, [], ◌∷◌}
use Rattle.std.proofs.Common.{get_or, take, drop, Option, Some, None, refl, arith}
use Rattle.std.specs.Prelude.{option_map, option_and_then, IfSome, ◌&&◌, ◌||◌}
use Rattle.std.specs.List.{AllByRecursion}
use Rattle.std.specs.Char.{is_ascii_hexdigit, digit_value}
use Rattle.std.proofs.lemmas.Bool.{cond_both, lt-ltb, and_from}
use Rattle.occam_layout.specs.Characters.{escape, coded, escaped, character_at, decoded}
use Rattle.occam_layout.specs.Words.{is_byte, are_bytes}
use Rattle.occam_layout.proofs.Numbers.{digit-below}

abbrev pub AreSmall : List ℕ → Type 0
AreSmall = AllByRecursion (λ b. b < 256)

abbrev IsSmall : Option (ℕ × ℕ) → Type 0
IsSmall o = IfSome o (λ x. x.0 < 256)

abbrev IsSmallAlone : Option ℕ → Type 0
IsSmallAlone o = IfSome o (λ b. b < 256)

alone : (o : Option ℕ) → IsSmallAlone o → IsSmall (option_map (λ byte. (byte, 1)) o)
alone None h = tt
alone (Some b) h = h

escape_small : (c : ℕ) → c < 256 → IsSmallAlone (escape c)
escape_small c h =
    cond_both (eqb c 99) (Some 13) _ IsSmallAlone (λ _. omega arith)
    (λ _. cond_both (eqb c 110) (Some 10) _ IsSmallAlone (λ _. omega arith)
    (λ _. cond_both (eqb c 116) (Some 9) _ IsSmallAlone (λ _. omega arith)
    (λ _. cond_both (eqb c 115) (Some 32) _ IsSmallAlone (λ _. omega arith)
    (λ _. cond_both ((eqb c 39 || eqb c 34) || eqb c 42) (Some c) None IsSmallAlone (λ _. h) (λ _. tt)))))

digits_small : (b d : Bool) (high low : ℕ) → (b ≡ true → digit_value high < 16) → (d ≡ true → digit_value low < 16)
    → IsSmall (cond (b && d) (Some (16 * digit_value high + digit_value low, 3)) None)
digits_small false d high low h k = tt
digits_small true false high low h k = tt
digits_small true true high low h k = let a = h refl in let b = k refl in omega (arith, a, b)

coded_small : (rest : List ℕ) → IsSmall (coded rest)
coded_small [] = tt
coded_small (high ∷ []) = tt
coded_small (high ∷ low ∷ rest) =
    digits_small (is_ascii_hexdigit high) (is_ascii_hexdigit low) high low (digit-below high) (digit-below low)

escaped_small : (rest : List ℕ) → AreSmall rest → IsSmall (escaped rest)
escaped_small [] all = tt
escaped_small (c ∷ rest) all =
    cond_both (eqb c 35) (coded rest) (option_map (λ byte. (byte, 1)) (escape c)) IsSmall (λ _. coded_small rest)
    (λ _. alone (escape c) (escape_small c all.0))

character_small : (c : ℕ) (rest : List ℕ) → AreSmall (c ∷ rest) → IsSmall (character_at (c ∷ rest))
unfolding character_at
character_small c rest all =
    cond_both (eqb c 42) (escaped rest) (Some (c, 0)) IsSmall (λ _. escaped_small rest all.1) (λ _. all.0)

-- what was decoded is bytes
abbrev pub AreBytesIfAny : Option (List ℕ) → Type 0
AreBytesIfAny o = IfSome o (λ bytes. are_bytes bytes ≡ true)

one_more : (b : ℕ) (o : Option (List ℕ)) → b < 256 → AreBytesIfAny o
    → AreBytesIfAny (option_map (λ bytes. b ∷ bytes) o)
one_more b None h k = tt
one_more b (Some bytes) h k = and_from (is_byte b) (are_bytes bytes) (lt-ltb b 256 h) k

and_others : (x : Option (ℕ × ℕ)) (rest : List ℕ) → IsSmall x → ((n : ℕ) → AreBytesIfAny (decoded n rest))
    → AreBytesIfAny (option_and_then (λ y. option_map (λ bytes. y.0 ∷ bytes) (decoded y.1 rest)) x)
and_others None rest h k = tt
and_others (Some y) rest h k = one_more y.0 (decoded y.1 rest) h (k y.1)

pub decoded_bytes : (n : ℕ) (spelling : List ℕ) → AreSmall spelling → AreBytesIfAny (decoded n spelling)
unfolding decoded
decoded_bytes n [] all = refl
decoded_bytes (suc n) (c ∷ rest) all = decoded_bytes n rest all.1
decoded_bytes zero (c ∷ rest) all =
    and_others (character_at (c ∷ rest)) rest (character_small c rest all) (λ n. decoded_bytes n rest all.1)

-- ---- bytes of a slice

pub are_small : (s : List ℕ) → ((k : ℕ) → get_or s k 0 < 256) → AreSmall s
are_small [] each = tt
are_small (c ∷ rest) each = (each 0, are_small rest (λ k. each (suc k)))

pub front_small : (n : ℕ) (s : List ℕ) → AreSmall s → AreSmall (take n s)
front_small zero s all = tt
front_small (suc n) [] all = tt
front_small (suc n) (c ∷ rest) all = (all.0, front_small n rest all.1)

pub back_small : (n : ℕ) (s : List ℕ) → AreSmall s → AreSmall (drop n s)
back_small zero s all = all
back_small (suc n) [] all = tt
back_small (suc n) (c ∷ rest) all = back_small n rest all.1
