use Rattle.std.proofs.Common.{arith, ap, inl, length}
use Rattle.occam_layout.proofs.Quoted.{no_longer}
use Rattle.occam_layout.proofs.text.Text.len.Goals as goal

pub count-requires-clause-fits : goal.count-requires-clause-fits
count-requires-clause-fits c = inl
    (omega (arith, no_longer c.args.self.spelling.now 0, ap length c.bytes.ensures))
