use Rattle.std.proofs.Common.{sym, ap, ◌∙◌, arith}
use Rattle.program_uses.specs.declared.uses.Use.TheVariants as used
use Rattle.program_uses.specs.Sets.{has}
use Rattle.program_uses.proofs.HasByParts.{has_is, has_read, has_change}
use Rattle.program_uses.proofs.uses.Uses.contains.Goals as goal

pub returns-in-Read : goal.returns-in-Read
returns-in-Read c =
    c.contains.ensures ∙ sym (has_read c.args.self.now c.in-Read.number (omega arith))
    ∙ ap (has c.args.self.now) (sym c.in-Read.is)

pub returns-in-Change : goal.returns-in-Change
returns-in-Change c =
    c.contains-in-Change.ensures ∙ sym (has_change c.args.self.now c.in-Change.number (omega arith))
    ∙ ap (has c.args.self.now) (sym c.in-Change.is)

pub returns-in-Channel : goal.returns-in-Channel
returns-in-Channel c =
    let end = used.Channel c.in-Channel.channel c.in-Channel.element c.in-Channel.direction in
    c.contains-in-Channel.ensures ∙ sym (has_is c.args.self.now end) ∙ ap (has c.args.self.now) (sym c.in-Channel.is)
