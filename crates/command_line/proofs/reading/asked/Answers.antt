use Rattle.std.proofs.Common.{◌∙◌}
use Rattle.command_line.proofs.Matched.{asks_by}
use Rattle.command_line.proofs.reading.asked.Goals as goal

pub returns : goal.returns
returns c =
    c.entered.ensures
    ∙ asks_by c.args.matches.now c.in_ok-name.given.now c.in_ok-name.name.now c.in_ok-name.ensures.name
    c.in_ok-name.ensures.rows
