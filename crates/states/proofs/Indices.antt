-- The indices of words, and how many blocks these have.
use Rattle.std.proofs.Common.{arith, ◌≡◌, ℕ, ◌/◌, ℤ, pos, negsuc, ◌<ℤ◌, refl}
use Rattle.std.proofs.lemmas.Int.{ints}
use Rattle.std.proofs.lemmas.Nat.{div-add-mod'}
use Rattle.states.specs.Blocks.{block_words, HaveRoom}

-- a number below 0 is written as one
pub below-zero : (z : ℤ) → z <ℤ pos 0 → (n : ℕ) × (z ≡ negsuc n)
below-zero (pos n) low = (0, omega (arith, ints, low))
below-zero (negsuc n) low = (n, refl)

-- words hold as many blocks as are whole
pub whole-blocks : (words size room blocks : ℕ) → size ≡ block_words → blocks ≡ words / size → room ≡ words
    → HaveRoom room blocks
unfolding HaveRoom
whole-blocks words size room blocks size_is blocks_is room_is =
    let both = div-add-mod' words block_words in
    rw (blocks_is, size_is, room_is) (omega (arith, both))
