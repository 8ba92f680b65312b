-- Which bytes are defined once the words that scheduling takes are not.
use Rattle.std.proofs.Common.{◌≡◌, ℕ, zero, suc, ◌+◌, ◌-◌, ◌<◌, ◌≤◌, ◌⊎◌, inl, inr, Bool, true, false, ◌&&◌, not}
use Rattle.std.proofs.Common.{negsuc, None, is_some, length, refl, sym, ap, subst, ◌∙◌, arith}
use Rattle.std.proofs.lemmas.Bool.{cases_eq, cases_lt, lt-ltb, ltb-true, and_parts, and_from}
use Rattle.std.proofs.lemmas.List.{get_or_past}
use Rattle.small_laws.proofs.Connectives.{same_tests}
use Rattle.machine_state.specs.Memory.{Memory, place_of, local_address, byte_at, with_byte, with_word}
use Rattle.machine_state.specs.Spans.{all_places}
use Rattle.machine_state.specs.LocalStep.{places_meet, is_beside_scheduling, without_scheduling_words}
use Rattle.machine_state.proofs.Reading.{length-with_byte, byte_at-with_byte, byte_at-with_byte_other}
use Rattle.machine_state.proofs.Reading.{byte_at-with_word_other}
use Rattle.machine_state.proofs.Writing.{kept_word, all_at}

byte_gone : (m : Memory) (place : ℕ) → byte_at (with_byte m place None) place ≡ None
byte_gone m place = elim (cases_lt place (length m)) [
  | inl inside ↦ byte_at-with_byte m place None inside
  | inr past ↦
      let size : length (with_byte m place None) ≡ length m = length-with_byte m place None in
      get_or_past (with_byte m place None) place None (omega arith)
]

word_gone : (m : Memory) (word q : ℕ) → word ≤ q → q < word + 4 → byte_at (with_word m word None) q ≡ None
unfolding with_word
word_gone m word q from below =
    let one = with_byte m word None in
    let two = with_byte one (word + 1) None in
    let three = with_byte two (word + 2) None in
    elim (cases_eq q (word + 3)) [
      | inl last ↦ ap (byte_at (with_byte three (word + 3) None)) last ∙ byte_gone three (word + 3)
      | inr no_last ↦ byte_at-with_byte_other three (word + 3) q None no_last ∙ elim (cases_eq q (word + 2)) [
        | inl third ↦ ap (byte_at three) third ∙ byte_gone two (word + 2)
        | inr no_third ↦ byte_at-with_byte_other two (word + 2) q None no_third ∙ elim (cases_eq q (word + 1)) [
          | inl second ↦ ap (byte_at two) second ∙ byte_gone one (word + 1)
          | inr no_second ↦
              let first : q ≡ word = omega arith in
              byte_at-with_byte_other one (word + 1) q None no_second ∙ (ap (byte_at one) first ∙ byte_gone m word)
        ]
      ]
    ]

all_from : (test : ℕ → Bool) (place n : ℕ) → ((i : ℕ) → i < n → test (place + i) ≡ true)
    → all_places test place n ≡ true
unfolding all_places
all_from test place zero each = refl
all_from test place (suc n) each =
    let here : place + 0 ≡ place = omega arith in
    and_from _ _ (subst (λ (q : ℕ). test q ≡ true) here (each 0 (omega arith)))
    (all_from test (place + 1) n (λ i inside. let next : place + suc i ≡ place + 1 + i = omega arith in
    subst (λ (q : ℕ). test q ≡ true) next (each (suc i) (omega arith))))

abbrev is_defined : Memory → ℕ → Bool
is_defined m q = is_some (byte_at m q)

-- n bytes stay defined beside a word that becomes undefined
defined_beside : (m : Memory) (word place n : ℕ) → 1 ≤ n
    → all_places (is_defined (with_word m word None)) place n
    ≡ (all_places (is_defined m) place n && not (places_meet place n word 4))
defined_beside m word place n some = same_tests _ _ stays was
  where
    after : Memory
    after = with_word m word None

    gone : (i : ℕ) → i < n → word ≤ place + i → place + i < word + 4
        → all_places (is_defined after) place n ≡ true → false ≡ true
    gone i inside from below all =
        let there : is_some (byte_at after (place + i)) ≡ true = all_at (is_defined after) place n i all inside in
        sym (ap is_some (word_gone m word (place + i) from below)) ∙ there

    apart : all_places (is_defined after) place n ≡ true → (b : Bool) → places_meet place n word 4 ≡ b → not b ≡ true
    apart all false is = refl
    apart all true is =
        let both = and_parts _ _ is in
        let a = ltb-true place (word + 4) both.0 in
        let b = ltb-true word (place + n) both.1 in
        elim (cases_lt word place) [
          | inl before ↦ gone 0 (omega arith) (omega arith) (omega arith) all
          | inr within ↦ gone (word - place) (omega arith) (omega arith) (omega arith) all
        ]

    stays : all_places (is_defined after) place n ≡ true
        → (all_places (is_defined m) place n && not (places_meet place n word 4)) ≡ true
    stays all = and_from _ _ (all_from (is_defined m) place n (λ i inside.
        let there : is_some (byte_at after (place + i)) ≡ true = all_at (is_defined after) place n i all inside in
        sym (ap is_some (kept_word m word (place + i) there)) ∙ there)) (apart all (places_meet place n word 4) refl)

    outside : (i : ℕ) → i < n → not (places_meet place n word 4) ≡ true → (place + i < word) ⊎ (word + 4 ≤ place + i)
    outside i inside none = elim (cases_lt (place + i) word) [
      | inl before ↦ inl before
      | inr from ↦ elim (cases_lt (place + i) (word + 4)) [
        | inr past ↦ inr past
        | inl within ↦ absurd (
            let met : places_meet place n word 4 ≡ true =
            and_from _ _ (lt-ltb place (word + 4) (omega arith)) (lt-ltb word (place + n) (omega arith)) in
            let x : false ≡ true = sym (ap not met) ∙ none in cc)
      ]
    ]

    was : (all_places (is_defined m) place n && not (places_meet place n word 4)) ≡ true
        → all_places (is_defined after) place n ≡ true
    was h =
        let both = and_parts _ _ h in
        all_from (is_defined after) place n (λ i inside.
        ap is_some (byte_at-with_word_other m word (place + i) None (outside i inside both.1))
        ∙ all_at (is_defined m) place n i both.0 inside)

and_all : (x a b c : Bool) → (x && a && b && c) ≡ (x && (a && b && c))
and_all true a b c = refl
and_all false a b c = refl

-- the same of the three words that scheduling takes
pub defined_once_scheduled : (m : Memory) (workspace place n : ℕ) → 1 ≤ n
    → all_places (is_defined (without_scheduling_words m workspace)) place n
    ≡ (all_places (is_defined m) place n && is_beside_scheduling workspace place n)
defined_once_scheduled m workspace place n some =
    let below = λ (k : ℕ). place_of (local_address workspace (negsuc k)) in
    let one = with_word m (below 0) None in
    let two = with_word one (below 1) None in
    defined_beside two (below 2) place n some
    ∙ (ap (λ (b : Bool). b && not (places_meet place n (below 2) 4)) (defined_beside one (below 1) place n some
    ∙ ap (λ (b : Bool). b && not (places_meet place n (below 1) 4)) (defined_beside m (below 0) place n some))
    ∙ and_all (all_places (is_defined m) place n) (not (places_meet place n (below 0) 4))
    (not (places_meet place n (below 1) 4))
    (not (places_meet place n (below 2) 4)))
