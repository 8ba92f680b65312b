-- Word W-1, in which a process that waits keeps its offset: the bytes beside the words that scheduling takes stay.
use Rattle.std.proofs.Common.{◌≡◌, ◌⊎◌, ℕ, ◌+◌, ◌*◌, ◌^◌, ◌<◌, ◌≤◌, ℤ, Some, inl, inr, arith}
use Rattle.std.proofs.lemmas.Bool.{cases_lt}
use Rattle.std.proofs.lemmas.Int.{ints}
use Rattle.machine_state.specs.Memory.{Memory, place_of, local_address, scheduling_word, byte_at}
use Rattle.machine_state.proofs.Reading.{byte_at-with_word_other}
use Rattle.plain_machine.specs.PlainStep.{with_plain_word}
use Rattle.placed_code.specs.Behaves.{IsScheduling}
use Rattle.placed_code.specs.StraightPieces.{word_address, word_place}

-- where it lies: right below the workspace
pub below_place : (d : ℕ) → d < 2 ^ 28 → place_of (scheduling_word (word_address d) 0) + 4 ≡ word_place d
unfolding place_of local_address
below_place d small = omega (arith, ints)

-- what is not among the words that scheduling takes is before them or after
pub beside_words : (d place : ℕ) → (IsScheduling d place → ⊥) → (place + 4 < word_place d) ⊎ (word_place d ≤ place)
beside_words d place free =
    elim (cases_lt place (4 * d)) [
      | inl low ↦ inl (omega (arith, low))
      | inr high ↦ elim (cases_lt place (word_place d)) [
        | inl below ↦ absurd (free (high, below))
        | inr above ↦ inr above
      ]
    ]

-- what is beside the words that scheduling takes stays when word W-1 is written
pub beside_stays : (d : ℕ) → d < 2 ^ 28 → (memory : Memory) (v : ℤ) (place : ℕ)
    → (place + 4 < word_place d) ⊎ (word_place d ≤ place)
    → byte_at (with_plain_word (scheduling_word (word_address d) 0) v memory) place ≡ byte_at memory place
beside_stays d small memory v place (inl low) =
    let w = below_place d small in
    byte_at-with_word_other memory (place_of (scheduling_word (word_address d) 0)) place (Some v)
    (inl (omega (arith, w, low)))
beside_stays d small memory v place (inr high) =
    let w = below_place d small in
    byte_at-with_word_other memory (place_of (scheduling_word (word_address d) 0)) place (Some v)
    (inr (omega (arith, w, high)))
