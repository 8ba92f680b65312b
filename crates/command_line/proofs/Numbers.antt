-- The number in a text, digit by digit.
use Rattle.std.proofs.Common.{◌≡◌, ℕ, ◌+◌, ◌<◌, ◌≤◌, List, length, drop, get_or, Option, Some, None, option_and_then}
use Rattle.std.proofs.Common.{ap, sym, subst, ◌∙◌, ◌==◌, Bool, false, cond}
use Rattle.std.proofs.lemmas.List.{at_drop_more, at_drop_all}
use Rattle.command_line.specs.Fitting.{with_digit, number_from, number_in}

-- the digits from a place on begin with this one
digit_first : (n : ℕ) (bytes : List ℕ) (i byte : ℕ) → i < length bytes → byte ≡ get_or bytes i 0
    → number_from n (drop i bytes)
    ≡ option_and_then (λ more. number_from more (drop (i + 1) bytes)) (with_digit n byte)
digit_first n bytes i byte less is =
    at_drop_more (number_from n) bytes i 0 less
    ∙ ap (λ (b : ℕ). option_and_then (λ more. number_from more (drop (i + 1) bytes)) (with_digit n b)) (sym is)

pub one_more_digit : (n more : ℕ) (bytes : List ℕ) (i byte : ℕ) → i < length bytes → byte ≡ get_or bytes i 0
    → Some more ≡ with_digit n byte → number_from n (drop i bytes) ≡ number_from 0 bytes
    → number_from more (drop (i + 1) bytes) ≡ number_from 0 bytes
one_more_digit n more bytes i byte less is digit so_far =
    ap (option_and_then (λ k. number_from k (drop (i + 1) bytes))) digit
    ∙ sym (digit_first n bytes i byte less is) ∙ so_far

pub no_digit : (n : ℕ) (bytes : List ℕ) (i byte : ℕ) → i < length bytes → byte ≡ get_or bytes i 0
    → None ≡ with_digit n byte → number_from n (drop i bytes) ≡ number_from 0 bytes
    → None ≡ number_from 0 bytes
no_digit n bytes i byte less is digit so_far =
    ap (option_and_then (λ k. number_from k (drop (i + 1) bytes))) digit
    ∙ sym (digit_first n bytes i byte less is) ∙ so_far

pub all_digits : (n : ℕ) (bytes : List ℕ) (i : ℕ) → length bytes ≤ i
    → number_from n (drop i bytes) ≡ number_from 0 bytes → Some n ≡ number_from 0 bytes
all_digits n bytes i end so_far = sym (at_drop_all (number_from n) bytes i end) ∙ so_far

-- a text that is not empty is read from its first digit on
pub digits_of : (text bytes : List ℕ) → bytes ≡ text → (length bytes == 0) ≡ false → number_in text ≡ number_from 0 bytes
digits_of text bytes is some =
    ap (λ (b : Bool). cond b None (number_from 0 text)) (subst (λ (xs : List ℕ). (length xs == 0) ≡ false) is some)
    ∙ ap (number_from 0) (sym is)
