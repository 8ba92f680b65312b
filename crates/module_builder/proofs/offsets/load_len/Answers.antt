use Rattle.std.proofs.Common.{◌≡◌, ◌+◌, ◌-◌, pos, to_z, w32, sum, arith}
use Rattle.std.proofs.lemmas.Int.{ints}
use Rattle.prefix_decoder.specs.declared.function.Fun.TheVariants.{LoadConstant}
use Rattle.module_builder.proofs.offsets.load_len.Goals as goal

pub returns-clause-value : goal.returns-clause-value
returns-clause-value g c =
    let lengths = g.P.Offsets.lengths c.args.places.now in
    let operand : to_z w32 (c.end.result - c.args.end + 3 + c.from.result)
    ≡ pos ((sum lengths - c.args.end) + 3 + c.args.offset) =
    omega (arith, ints, c.end.ensures.value, c.end.ensures.short) in
    rw operand at (c.spelling_len.ensures.value LoadConstant)
