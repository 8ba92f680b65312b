use Rattle.std.proofs.Common.{◌≡◌, ◌++◌, length, map, pos}
use Rattle.occam_layout.specs.Kind.{bytes_of}
use Rattle.line_pieces.proofs.declaring.byte_values.Given as goal

abbrev pub decreases-loop-byte : goal.decreases-loop-byte
decreases-loop-byte l = length (bytes_of l.rest)

abbrev pub invariant-loop-byte : goal.invariant-loop-byte
invariant-loop-byte l = l.values.items ++ map pos (bytes_of l.rest) ≡ map pos (bytes_of l.fn.text)
