use Rattle.std.proofs.Common.{◌%◌, ap, ◌∙◌, nat_eq}
use Rattle.std.specs.Int.{bit_at}
use Rattle.std.proofs.lemmas.Nat.Bits.{shr_and_one}
use Rattle.program_uses.specs.Words.{has_bit}
use Rattle.program_uses.proofs.numbers.Numbers.contains.Goals as goal

pub returns : goal.returns
unfolding has_bit
returns c =
    ap (λ b. nat_eq b 1) (shr_and_one c.word.result (c.args.number % 64))
    ∙ ap (λ w. nat_eq (bit_at w (c.args.number % 64)) 1) c.word.ensures
