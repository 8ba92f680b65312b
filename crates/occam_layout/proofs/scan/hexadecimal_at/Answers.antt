use Rattle.std.proofs.Common.{sym, ◌∙◌}
use Rattle.occam_layout.specs.Reading.{value}
use Rattle.occam_layout.proofs.Numbers.{not_above, fits}
use Rattle.occam_layout.proofs.scan.hexadecimal_at.Goals as goal

pub returns-in-None-clause-found : goal.returns-in-None-clause-found
returns-in-None-clause-found c =
    let text = c.split_at.result.0.now in
    let small = fits c.args.bytes.now text c.hexadecimal_len-len.result c.hexadecimal_len-len.ensures.len
    c.if-len-gt8.false c.split_at.ensures.front in
    absurd (not_above (value 16 text) 4294967295 small (sym c.in-None.is ∙ c.number_of.ensures))
