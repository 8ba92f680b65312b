use Rattle.std.proofs.Common.{sym}
use Rattle.std.proofs.lemmas.Bool.{ltb-true}
use Rattle.occam_parser.proofs.Numbered.{numbered}
use Rattle.occam_parser.proofs.fault.number_of.Goals as goal

pub returns-in-Some : goal.returns-in-Some
returns-in-Some c h =
    let found = c.in-Some.ensures.lookup in
    numbered c.args.lines.now _ c.in-Some.line.now (ltb-true _ _ (sym found.0)) found.1
