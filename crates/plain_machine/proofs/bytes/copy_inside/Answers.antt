use Rattle.plain_machine.proofs.PlainCopies.{copied_all, copied_none}
use Rattle.plain_machine.proofs.bytes.copy_inside.Goals as goal

pub returns-then-count-gt0 : goal.returns-then-count-gt0
returns-then-count-gt0 c =
    copied_all c.args.bytes.now c.copy_within.new.self c.args.source c.args.target c.args.count
    (c.requires.source c.if-count-gt0.true) (c.requires.target c.if-count-gt0.true) c.copy_within.ensures.len
    c.copy_within.ensures.by_index

pub returns-else-count-gt0 : goal.returns-else-count-gt0
returns-else-count-gt0 c = copied_none c.args.bytes.now c.args.source c.args.target c.args.count c.if-count-gt0.false
