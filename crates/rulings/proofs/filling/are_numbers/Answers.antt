use Rattle.std.proofs.Common.{ap, arith, to_z, of_z, ◌∙◌}
use Rattle.std.proofs.lemmas.Int.{ints}
use Rattle.std.specs.Int.{w32}
use Rattle.word_arithmetic.specs.Range.{Ends}
use Rattle.states.specs.Views.{state_of}
use Rattle.rulings.specs.Pointers.{is_number_in}
use Rattle.rulings.proofs.ArgumentsAgree.{near_end, numbers_told}
use Rattle.rulings.proofs.filling.are_numbers.Goals as goal

pub byte_read-requires : goal.byte_read-requires
byte_read-requires c =
    let near = near_end c.args.pointer.lo c.args.pointer.hi c.requires.near in
    let from = near.0 in
    let to = near.1 in
    (omega (arith, ints), omega (arith, ints))

pub returns : goal.returns
returns c =
    let near = near_end c.args.pointer.lo c.args.pointer.hi c.requires.near in
    let from = near.0 in
    let to = near.1 in
    numbers_told (state_of c.args.state.now) c.args.pointer c.args.count (to_z w32 (of_z w32 c.args.pointer.lo))
    _ c.byte_read.result c.is_number_in.result (omega (arith, ints)) (omega (arith, ints)) c.byte_read.ensures
    (c.is_number_in.ensures ∙ ap (λ (e : Ends). is_number_in e c.byte_read.result) c.full.ensures)
