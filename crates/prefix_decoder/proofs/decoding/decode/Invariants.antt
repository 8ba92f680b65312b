use Rattle.prefix_decoder.specs.Operand.{IsRegister}
use Rattle.prefix_decoder.proofs.Loop.{GoesOn}
use Rattle.prefix_decoder.proofs.decoding.decode.Given as goal

abbrev pub invariant-loop-index : goal.invariant-loop-index
invariant-loop-index l = record { clear : IsRegister l.register; reads : GoesOn l.bytes l.register l.index }
