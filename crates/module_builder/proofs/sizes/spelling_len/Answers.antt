use Rattle.std.proofs.Common.{◌≡◌, ◌≤◌, ◌+◌, length}
use Rattle.std.proofs.lemmas.Int.{to_z-of_z}
use Rattle.prefix_decoder.specs.declared.function.Fun.{Fun}
use Rattle.prefix_decoder.specs.Spelling.{spelling}
use Rattle.module_builder.proofs.Lengths.{negative_is}
use Rattle.module_builder.proofs.sizes.spelling_len.Goals as goal
use Rattle.module_builder.proofs.sizes.spelling_len.Goals.{After-natural_len-else-operand-ge0}

negative : (c : After-natural_len-else-operand-ge0)
    → ((f : Fun) → 1 + c.natural_len-else-operand-ge0.result ≡ length (spelling f c.args.operand))
    × (1 + c.natural_len-else-operand-ge0.result ≤ 8)
negative c =
    let fits = c.ranges.operand in
    negative_is c.cast_unsigned-word.result c.natural_len-else-operand-ge0.result c.args.operand fits
    (rw to_z-of_z at c.if-operand-ge0.false) (rw to_z-of_z at c.cast_unsigned-word.ensures)
    c.natural_len-else-operand-ge0.ensures.value

pub returns-else-operand-ge0-clause-value : goal.returns-else-operand-ge0-clause-value
returns-else-operand-ge0-clause-value c =
    (negative (goal.at.returns-else-operand-ge0-clause-value c).After-natural_len-else-operand-ge0).0

pub returns-else-operand-ge0-clause-small : goal.returns-else-operand-ge0-clause-small
returns-else-operand-ge0-clause-small c =
    (negative (goal.at.returns-else-operand-ge0-clause-small c).After-natural_len-else-operand-ge0).1
