-- A message that is written in parts.
use Rattle.std.proofs.Common.{◌≡◌, ◌≢◌, ℕ, ◌+◌, ◌-◌, ◌≤◌, ◌<◌, Bool, true, false, ◌||◌, List, [], ◌∷◌, length}
use Rattle.std.proofs.Common.{take, drop, Option, ap}
use Rattle.std.proofs.Common.{sym, refl, ◌∙◌, ◌&&◌, nat_lt, arith, subst, append-nil, take-append-drop}
use Rattle.std.specs.Io.KnownBytes.{Appends}
use Rattle.std.proofs.KnownBytes.{Appends-trans}
use Rattle.std.proofs.Math.Seq.{take-add}
use Rattle.std.proofs.lemmas.List.{length-drop, take_rest}
use Rattle.std.proofs.lemmas.Bool.{lt-ltb, ne_eqb}
use Rattle.link_runner.specs.Devices.{took_none}
use Rattle.link_runner.specs.Writers.{IsPart}

-- The first `done` bytes of the message were written.
pub record IsBegun (before after : Option (List ℕ)) (flag : Bool) (message : List ℕ) (done : ℕ) : Type 0 where
  pub beginning : Appends before after (take done message)
  pub within : done ≤ length message
  pub none_failed : flag ≡ false

-- `count` bytes more
pub more_begun : (a b c : Option (List ℕ)) (was is : Bool) (message : List ℕ) (n count : ℕ) → IsBegun a b was message n
    → count ≤ length (take (length message - n) (drop n message))
    → Appends b c (take count (take (length message - n) (drop n message))) → is ≡ false
    → IsBegun a c is message (n + count)
more_begun a b c was is message n count first bound second none =
    let rest : take (length message - n) (drop n message) ≡ drop n message = take_rest message n in
    let size : length (take (length message - n) (drop n message)) ≡ length message - n =
    ap length rest ∙ length-drop n message in
    let within = first.within in
    record {
      beginning = subst (Appends a c) (sym (take-add n count message))
          (Appends-trans a b c (take n message) (take count (drop n message)) first.beginning
          (subst (λ (bytes : List ℕ). Appends b c (take count bytes)) rest second));
      within = omega arith;
      none_failed = none;
    }

-- a beginning that is no whole message is a part of it
pub is_part : (message : List ℕ) (n : ℕ) → n < length message → IsPart (take n message) message
is_part message n below = record {
  rest = drop n message;
  whole = sym (take-append-drop n message);
  more = λ none.
      let size = length-drop n message in
      let empty = ap length none in
      omega (arith, size, empty, below);
}

zero_fails : (count : ℕ) (bytes : List ℕ) (was is : Bool) → count ≡ 0 → 0 < length bytes
    → is ≡ (was || took_none count bytes) → is ≡ true
zero_fails count bytes was is none some flag =
    flag ∙ (ap (λ (n : ℕ). was || took_none n bytes) none
    ∙ (ap (λ (b : Bool). was || b) (lt-ltb 0 (length bytes) some) ∙ or_true was))
  where
    or_true : (b : Bool) → (b || true) ≡ true
    or_true true = refl
    or_true false = refl

some_works : (count : ℕ) (bytes : List ℕ) (was is : Bool) → count ≢ 0 → was ≡ false
    → is ≡ (was || took_none count bytes) → is ≡ false
some_works count bytes was is some calm flag =
    flag ∙ (ap (λ (b : Bool). b || took_none count bytes) calm
    ∙ ap (λ (b : Bool). b && nat_lt 0 (length bytes)) (ne_eqb count 0 some))

module _ (a b c : Option (List ℕ)) (was is : Bool) (message : List ℕ) (n count : ℕ) (begun : IsBegun a b was message n)
    (below : n < length message)
    (bound : count ≤ length (take (length message - n) (drop n message)))
    (appends : Appends b c (take count (take (length message - n) (drop n message))))
    (flag : is ≡ (was || took_none count (take (length message - n) (drop n message)))) where
  pub goes_further : count ≢ 0 → IsBegun a c is message (n + count)
  goes_further some = more_begun a b c was is message n count begun bound appends
      (some_works count (take (length message - n) (drop n message)) was is some begun.none_failed flag)

  -- a write that took none
  pub stops_short : count ≡ 0 → Appends a c (take n message) × IsPart (take n message) message × (is ≡ true)
  stops_short none =
      let rest : take (length message - n) (drop n message) ≡ drop n message = take_rest message n in
      let size : length (take (length message - n) (drop n message)) ≡ length message - n =
      ap length rest ∙ length-drop n message in
      let unchanged = subst (λ (k : ℕ). Appends b c (take k (take (length message - n) (drop n message)))) none
      appends in (
        subst (Appends a c) (append-nil (take n message)) (Appends-trans a b c (take n message) [] begun.beginning
            (subst (Appends b c) (take_none_of (take (length message - n) (drop n message))) unchanged)),
        is_part message n below,
        zero_fails count (take (length message - n) (drop n message)) was is none (omega (arith, size, below)) flag,
      )
    where
      take_none_of : (xs : List ℕ) → take 0 xs ≡ []
      take_none_of [] = refl
      take_none_of (x ∷ xs) = refl
