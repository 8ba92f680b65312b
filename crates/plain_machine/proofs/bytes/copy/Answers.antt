use Rattle.std.proofs.Common.{min, ap, ◌∙◌}
use Rattle.plain_machine.proofs.PlainCopies.{copy_inside, copied_within, copied_nothing}
use Rattle.plain_machine.proofs.bytes.copy.Goals as goal

pub copy_within-requires-clause-in_bounds : goal.copy_within-requires-clause-in_bounds
copy_within-requires-clause-in_bounds c =
    copy_inside c.args.bytes.now c.args.source c.args.target c.args.count c.min-inside.result
    (c.min-inside.ensures ∙ ap (min c.args.count) c.saturating_sub.ensures) c.if-inside-gt0.true c.requires.defined

pub returns-then-inside-gt0 : goal.returns-then-inside-gt0
returns-then-inside-gt0 c =
    copied_within c.args.bytes.now c.copy_within.new.self c.args.source c.args.target c.args.count c.min-inside.result
    (c.min-inside.ensures ∙ ap (min c.args.count) c.saturating_sub.ensures) c.if-inside-gt0.true c.requires.defined
    c.copy_within.ensures.len c.copy_within.ensures.by_index

pub returns-else-inside-gt0 : goal.returns-else-inside-gt0
returns-else-inside-gt0 c =
    copied_nothing c.args.bytes.now c.args.source c.args.target c.args.count c.min-inside.result
    (c.min-inside.ensures ∙ ap (min c.args.count) c.saturating_sub.ensures) c.if-inside-gt0.false
