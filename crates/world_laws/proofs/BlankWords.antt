-- What is undefined once words were taken, and stays so.
use Rattle.std.proofs.Common.{◌≡◌, ◌≢◌, ℕ, zero, suc, ◌+◌, ◌<◌, ◌⊎◌, inl, inr, true, None, length, ap, ◌∙◌, arith}
use Rattle.std.proofs.lemmas.Bool.{cases_eq, cases_lt, and_parts}
use Rattle.std.proofs.lemmas.List.{get_or_past}
use Rattle.machine_state.specs.Holding.{Holding, may_write, may_write_word}
use Rattle.machine_state.specs.LocalStep.{holds_scheduling_words, without_scheduling_words}
use Rattle.machine_state.specs.Memory.{Memory, place_of, scheduling_word, byte_at, with_byte, with_word}
use Rattle.machine_state.proofs.Reading.{length-with_byte, byte_at-with_byte, byte_at-with_byte_other}
use Rattle.world_laws.specs.Parked.{InWord, IsSchedulingPlace, HasWords, HasSelection}

-- a byte is taken, or was undefined
blank_byte : (m : Memory) (place x : ℕ) → (x ≡ place) ⊎ (byte_at m x ≡ None)
    → byte_at (with_byte m place None) x ≡ None
blank_byte m place x either = elim (cases_eq x place) [
  | inl same ↦ elim (cases_lt place (length m)) [
    | inl inside ↦ ap (byte_at (with_byte m place None)) same ∙ byte_at-with_byte m place None inside
    | inr past ↦
        let size : length (with_byte m place None) ≡ length m = length-with_byte m place None in
        get_or_past (with_byte m place None) x None (omega arith)
  ]
  | inr differ ↦ byte_at-with_byte_other m place x None differ ∙ elim either [
    | inl same ↦ absurd (differ same)
    | inr none ↦ none
  ]
]

-- the first of the four bytes
pub first_of : (place x : ℕ) → InWord place x → x ≢ place + 3 → x ≢ place + 2 → x ≢ place + 1 → x ≡ place
first_of place x inside no_last no_third no_second =
    let low = inside.0 in
    let high = inside.1 in
    omega (arith, low, high)

-- a byte of a word that is taken, or one that was undefined
pub blank_word : (m : Memory) (place x : ℕ) → InWord place x ⊎ (byte_at m x ≡ None)
    → byte_at (with_word m place None) x ≡ None
unfolding with_word
blank_word m place x either =
    blank_byte three (place + 3) x (elim (cases_eq x (place + 3)) [
      | inl last ↦ inl last
      | inr no_last ↦ inr (blank_byte two (place + 2) x (elim (cases_eq x (place + 2)) [
        | inl third ↦ inl third
        | inr no_third ↦ inr (blank_byte one (place + 1) x (elim (cases_eq x (place + 1)) [
          | inl second ↦ inl second
          | inr no_second ↦ inr (blank_byte m place x (elim either [
            | inl inside ↦ inl (first_of place x inside no_last no_third no_second)
            | inr none ↦ inr none
          ]))
        ]))
      ]))
    ])
  where
    one : Memory
    one = with_byte m place None

    two : Memory
    two = with_byte one (place + 1) None

    three : Memory
    three = with_byte two (place + 2) None

-- a byte of the words that scheduling takes, or one that was undefined
pub blank_scheduled : (m : Memory) (workspace x : ℕ) → IsSchedulingPlace workspace x ⊎ (byte_at m x ≡ None)
    → byte_at (without_scheduling_words m workspace) x ≡ None
blank_scheduled m workspace x either =
    elim either [ inl there ↦ at there.0 there.1 there.2 | inr none ↦ third (second (first none)) ]
  where
    below : ℕ → ℕ
    below k = place_of (scheduling_word workspace k)

    first : byte_at m x ≡ None → byte_at (with_word m (below 0) None) x ≡ None
    first none = blank_word m (below 0) x (inr none)

    second : byte_at (with_word m (below 0) None) x ≡ None
        → byte_at (with_word (with_word m (below 0) None) (below 1) None) x ≡ None
    second none = blank_word _ (below 1) x (inr none)

    third : byte_at (with_word (with_word m (below 0) None) (below 1) None) x ≡ None
        → byte_at (without_scheduling_words m workspace) x ≡ None
    third none = blank_word _ (below 2) x (inr none)

    at : (k : ℕ) → k < 3 → InWord (place_of (scheduling_word workspace k)) x
        → byte_at (without_scheduling_words m workspace) x ≡ None
    at zero low inside = third (second (blank_word m (below 0) x (inl inside)))
    at (suc zero) low inside = third (blank_word _ (below 1) x (inl inside))
    at (suc (suc zero)) low inside = blank_word _ (below 2) x (inl inside)
    at (suc (suc (suc k))) low inside = absurd (omega (arith, low))

-- ---- the words are one's own

pub word_own : (h : Holding) (place x : ℕ) → may_write_word h place ≡ true → InWord place x → may_write h x ≡ true
unfolding may_write_word
word_own h place x own inside =
    let p = and_parts _ _ own in
    let q = and_parts _ _ p.0 in
    let r = and_parts _ _ q.0 in
    elim (cases_eq x (place + 3)) [
      | inl last ↦ ap (may_write h) last ∙ p.1
      | inr no_last ↦ elim (cases_eq x (place + 2)) [
        | inl third ↦ ap (may_write h) third ∙ q.1
        | inr no_third ↦ elim (cases_eq x (place + 1)) [
          | inl second ↦ ap (may_write h) second ∙ r.1
          | inr no_second ↦ ap (may_write h) (first_of place x inside no_last no_third no_second) ∙ r.0
        ]
      ]
    ]

scheduling_own : (h : Holding) (workspace x : ℕ) → holds_scheduling_words h workspace ≡ true
    → IsSchedulingPlace workspace x → may_write h x ≡ true
scheduling_own h workspace x own there = at there.0 there.1 there.2
  where
    at : (k : ℕ) → k < 3 → InWord (place_of (scheduling_word workspace k)) x → may_write h x ≡ true
    at zero low inside = word_own h _ x (and_parts _ _ (and_parts _ _ own).0).0 inside
    at (suc zero) low inside = word_own h _ x (and_parts _ _ (and_parts _ _ own).0).1 inside
    at (suc (suc zero)) low inside = word_own h _ x (and_parts _ _ own).1 inside
    at (suc (suc (suc k))) low inside = absurd (omega (arith, low))

-- once scheduling has taken them
pub words_taken : (h : Holding) (m : Memory) (workspace : ℕ) → holds_scheduling_words h workspace ≡ true
    → HasWords h (without_scheduling_words m workspace) workspace
words_taken h m workspace own x there =
    record { own = scheduling_own h workspace x own there; undefined = blank_scheduled m workspace x (inl there) }

-- they stay so when another word is taken, and that one is blank
pub words_with : (h : Holding) (m : Memory) (workspace place : ℕ) → HasWords h m workspace
    → HasWords h (with_word m place None) workspace
words_with h m workspace place has x there =
    record { own = (has x there).own; undefined = blank_word m place x (inr (has x there).undefined) }

pub selection_taken : (h : Holding) (m : Memory) (workspace : ℕ) → may_write_word h (place_of workspace) ≡ true
    → HasSelection h (with_word m (place_of workspace) None) workspace
selection_taken h m workspace own x inside = record {
  own = word_own h (place_of workspace) x own inside;
  undefined = blank_word m (place_of workspace) x (inl inside);
}
