-- An instruction that is fetched has one end.
use Rattle.std.proofs.Common.{◌≡◌, ℕ, ℤ, List, Result, Ok, Err, sym, ap, ◌∙◌, arith}
use Rattle.prefix_decoder.specs.declared.function.Fun.{Fun}
use Rattle.prefix_decoder.specs.declared.decoding.Instr.{Instr}
use Rattle.prefix_decoder.specs.declared.decoding.DecodeFault.{DecodeFault}
use Rattle.placed_code.specs.LaidCode.{Fetches}

-- how many bytes were read
len_in : Result Instr DecodeFault → ℕ
len_in (Ok i) = i.len
len_in (Err e) = 0

-- whatever is said of the instruction, it ends there
pub one_end : (code : List ℕ) (at : ℕ) (f g : Fun) (e d : ℤ) (to end : ℕ) → Fetches code at f e to
    → Fetches code at g d end → to ≡ end
unfolding len_in
one_end code at f g e d to end x y =
    let len : x.len ≡ y.len = sym (ap len_in x.there) ∙ ap len_in y.there in
    let first = x.ends in
    let second = y.ends in
    omega (arith, len, first, second)
