-- The addresses of words are multiples of 4, and so are their places: two words are one or have no byte in common.
use Rattle.std.proofs.Common.{◌≡◌, ℕ, ◌+◌, ◌-◌, ◌*◌, ◌/◌, ◌%◌, ◌^◌, ◌<◌, ◌≤◌, ℤ, pos, arith}
use Rattle.std.specs.Int.{w32, cast_unsigned}
use Rattle.machine_state.specs.Memory.{place_of, local_address}
use Rattle.machine_state.specs.BranchShares.{frame_base}

even_sum : (w n : ℕ) → w % 4 ≡ 0 → (w + 4 * n) % 2 ^ 32 % 4 ≡ 0
even_sum w n even = omega (arith, even)

pub even_local : (workspace : ℕ) (e : ℤ) → workspace % 4 ≡ 0 → local_address workspace e % 4 ≡ 0
unfolding local_address
even_local workspace e even = even_sum workspace (cast_unsigned w32 e) even

even_difference : (w n : ℕ) → w % 4 ≡ 0 → (w + (2 ^ 32 - (4 * n) % 2 ^ 32)) % 2 ^ 32 % 4 ≡ 0
even_difference w n even = omega (arith, even)

pub even_base : (workspace : ℕ) (depth : ℤ) → workspace % 4 ≡ 0 → frame_base workspace depth % 4 ≡ 0
even_base workspace depth even = even_difference workspace (cast_unsigned w32 depth) even

pub even_place : (a : ℕ) → a % 4 ≡ 0 → place_of a % 4 ≡ 0
unfolding place_of
even_place a even = omega (arith, even)

-- the second word of a block
pub next_place : (a : ℕ) → place_of a < 0x80000000 → place_of (local_address a (pos 1)) ≡ place_of a + 4
unfolding place_of local_address
next_place a low = omega (arith, low)

pub same_word : (a b x : ℕ) → a % 4 ≡ 0 → b % 4 ≡ 0 → a ≤ x → x < a + 4 → b ≤ x → x < b + 4 → a ≡ b
same_word a b x p q low high least most = omega (arith, p, q, low, high, least, most)

pub in_word : (a x : ℕ) → a % 4 ≡ 0 → a / 4 ≡ x / 4 → (a ≤ x) × (x < a + 4)
in_word a x even same = (omega (arith, even, same), omega (arith, even, same))
