use Rattle.std.proofs.Common.{false}
use Rattle.occam_layout.specs.Characters.{body_len}
use Rattle.occam_layout.proofs.Quoted.{Seeks}
use Rattle.reason_texts.proofs.quotes.body_len.Given as goal

abbrev pub invariant-loop-i : goal.invariant-loop-i
invariant-loop-i l = Seeks l.quote l.starred l.i l.bytes (body_len l.quote false l.bytes)
