use Rattle.std.proofs.lemmas.Int.{to_z-of_z}
use Rattle.prefix_decoder.proofs.Spellings.{negative_is}
use Rattle.prefix_decoder.proofs.encoding.push_spelling.Goals as goal

pub returns-else-operand-ge0 : goal.returns-else-operand-ge0
returns-else-operand-ge0 c =
    let fits = c.ranges.operand in
    negative_is c.args.code c.cast_unsigned-word.result c.instruction_byte.result c.args.operand c.args.bytes.now.items
    c.push_natural-else-operand-ge0.new.bytes.items c.push.new.self.items fits (rw to_z-of_z at c.if-operand-ge0.false)
    (rw to_z-of_z at c.cast_unsigned-word.ensures) c.requires.empty c.push_natural-else-operand-ge0.ensures
    c.instruction_byte.ensures c.push.ensures.items
