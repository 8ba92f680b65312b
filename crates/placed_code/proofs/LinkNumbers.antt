-- The links by their numbers.
use Rattle.std.proofs.Common.{◌≡◌, ℕ, zero, suc, ◌<◌, Bool, Some, refl, arith}
use Rattle.machine_state.specs.Exchanges.{link_of, input_link, output_link}
use Rattle.machine_state.specs.Moves.{link_index}
use Rattle.machine_state.specs.World.{input_word, output_word}
use Rattle.link_runs.specs.ByLink.{ByLink, of_link}
use Rattle.placed_code.specs.Closing.{listens}

-- the number of the link of a number is that number
pub index_is : (k : ℕ) → k < 4 → link_index (link_of k) ≡ k
index_is zero less = refl
index_is (suc zero) less = refl
index_is (suc (suc zero)) less = refl
index_is (suc (suc (suc zero))) less = refl
index_is (suc (suc (suc (suc k)))) less = absurd (omega (arith, less))

-- the output link at an address, and the input link
pub output_is : (k : ℕ) → k < 4 → output_link (output_word k) ≡ Some (link_index (link_of k))
output_is zero less = refl
output_is (suc zero) less = refl
output_is (suc (suc zero)) less = refl
output_is (suc (suc (suc zero))) less = refl
output_is (suc (suc (suc (suc k)))) less = absurd (omega (arith, less))

-- what listens on a link of this number
pub listens_is : (writers : ByLink Bool) (k : ℕ) → k < 4 → listens writers k ≡ of_link writers (link_of k)
listens_is writers zero less = refl
listens_is writers (suc zero) less = refl
listens_is writers (suc (suc zero)) less = refl
listens_is writers (suc (suc (suc zero))) less = refl
listens_is writers (suc (suc (suc (suc k)))) less = absurd (omega (arith, less))

pub input_is : (k : ℕ) → k < 4 → input_link (input_word k) ≡ Some (link_index (link_of k))
input_is zero less = refl
input_is (suc zero) less = refl
input_is (suc (suc zero)) less = refl
input_is (suc (suc (suc zero))) less = refl
input_is (suc (suc (suc (suc k)))) less = absurd (omega (arith, less))
