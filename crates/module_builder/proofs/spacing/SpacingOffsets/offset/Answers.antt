use Rattle.std.proofs.Common.{◌≡◌, ◌<◌, length, arith, ◌∙◌}
use Rattle.std.proofs.lemmas.List.{get_or_read}
use Rattle.module_builder.specs.Layouts.{offset}
use Rattle.module_builder.proofs.Growing.{offset-le-sum}
use Rattle.module_builder.proofs.spacing.SpacingOffsets.offset.Goals as goal

pub returns-clause-within : goal.returns-clause-within
returns-clause-within c =
    let lengths = c.args.self.now.lengths.items in
    let offsets = c.args.self.now.offsets.items in
    let follow = c.args.self.now.follow in
    let within : c.args.number < length offsets = omega (arith, follow.count) in
    let here : c.index.result.now ≡ offset lengths c.args.number =
    get_or_read offsets c.args.number c.index.result.now within c.index.ensures 0
    ∙ follow.each c.args.number c.requires in
    omega (arith, offset-le-sum lengths c.args.number)

pub returns-clause-short : goal.returns-clause-short
returns-clause-short c = omega (arith, returns-clause-within c, c.args.self.now.follow.short)
